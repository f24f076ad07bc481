-- The examples of docs/RULES.md that are marked P, all in one theorem.
-- Assumes nothing.
use mathlib.Core.Path.{◌≡◌, refl, ap, ◌∙◌}
use mathlib.Core.Bool.{Bool, true, false, cond}
use mathlib.Core.List.{List, [], ◌∷◌, ◌++◌, map}
use Prim.Native.Nat.{ℕ, ◌<◌}
use lib.ListN.{length}
use borrow.Author.Tests.{lt-ltb}
use Rattle.rules_shared.specs.Same.{same_bytes, same_origin}
use Rattle.rules_shared.specs.Slots.{is_held, present}
use Rattle.rules_shared.specs.Touch.{oldest_gone, room, leaves, count, find, remove, others, evicts, untouched, aside, newest}
use Rattle.rules_shared.specs.Row.{fresh, fits, start, slot_of, keep, marked, put_over, put}
use Rattle.laws.specs.Runs.{store_after}
use Rattle.section.specs.Ids.{origin_of}
use Rattle.section.specs.Key.{key_of}
use Rattle.watched.specs.Rules.{Watch}
use Rattle.section.specs.Judged.{rule_of, checked_change, judged_of}
use Rattle.section.specs.declared.header.Judged.{Judged}
use Rattle.section.proofs.Keys.{key_small, key_input, key_largest, key_largest_input}
use Rattle.section.proofs.Examples.{cut_off, all_ones}
use Rattle.eit_section.proofs.Segment.{as_sent, counted_within, past_last, no_wrap}
use Rattle.pat.proofs.Laws.{example_pids}
use Rattle.pat.specs.Pat.{pat_of}
use Rattle.pat.specs.declared.Pat.TheVariants.{Readable}
use Rattle.answers.specs.declared.Refusal.TheVariants.{BadPid}
use Rattle.offers.specs.Offers.{read_as, read_of}
use Rattle.offers.specs.declared.Verdict.TheVariants.{Refused}
use Rattle.ring.specs.Rules.{Row, offered_to, later, at_capacity}
use Rattle.gate_state.specs.State.{plain, short}
use Rattle.gate.specs.Rules.{Manner, Told, admitted, carried_in, told, tells, acts}
use Rattle.rules_sets.specs.Rules.{same_key, part_of, full, whole, met_row, judged, judge, finish, push, admit, step}
use Rattle.rules_sets.specs.Rules.{acts as collects}
use Rattle.promises.specs.Examples.{pat, fresh_gate, held_after, gate_keys, collector_keys, table_key, CheckedExamples}

-- ---- the gate

says : (m : Manner) (watch : Watch) (input pid : ℕ) (section : List ℕ) (j : Judged) → input < 16 → pid < 8192 → judged_of (rule_of m.rule) section ≡ j
    → told m (fresh_gate watch) (record { input = input; pid = pid; section = section }) ≡ carried_in m (fresh_gate watch) section (read_as (origin_of input pid) (length section) j)
unfolding told read_of
says m watch input pid section j i h e = rw (lt-ltb pid 8192 h, lt-ltb input 16 i, e)

abbrev ones : List ℕ
ones = 0xFF ∷ 0xFF ∷ 0xFF ∷ 0xFF ∷ []

emitted : (m : Manner) (watch : Watch) (input pid : ℕ) → input < 16 → pid < 8192 → tells m (fresh_gate watch) (record { input = input; pid = pid; section = ones }) ≡ plain 1
unfolding tells carried_in admitted
emitted m watch input pid i h = ap (λ (t : Told). t.answer) (says m watch input pid ones _ i h (all_ones (rule_of m.rule)))

held : (m : Manner) (watch : Watch) (input pid : ℕ) → input < 16 → pid < 8192
    → map (λ (r : Row). r.key) (acts m (fresh_gate watch) (record { input = input; pid = pid; section = ones })).rows ≡ key_of (origin_of input pid) 0xFF 0 0 ∷ []
unfolding acts carried_in admitted offered_to
held m watch input pid i h = ap (λ (t : Told). map (λ (r : Row). r.key) t.held.rows) (says m watch input pid ones _ i h (all_ones (rule_of m.rule))) ∙ go (checked_change (rule_of m.rule) ones) (at_capacity m.capacity [])
  where
    go : (k : ℕ) (b : Bool) → map (λ (r : Row). r.key) (cond b (later []) [] ++ (record { key = key_of (origin_of input pid) 0xFF 0 0; version = 0; change = k } ∷ [])) ≡ key_of (origin_of input pid) 0xFF 0 0 ∷ []
    go k true = refl
    go k false = refl

fails : (m : Manner) (watch : Watch) (input pid : ℕ) → input < 16 → pid < 8192 → tells m (fresh_gate watch) (record { input = input; pid = pid; section = 0x02 ∷ 0xB0 ∷ 0x00 ∷ [] }) ≡ short 3
unfolding tells carried_in
fails m watch input pid i h = ap (λ (t : Told). t.answer) (says m watch input pid (0x02 ∷ 0xB0 ∷ 0x00 ∷ []) _ i h (cut_off (rule_of m.rule)))

loses_A : gate_keys 2 (10 ∷ 11 ∷ 10 ∷ 12 ∷ []) ≡ 11 ∷ 12 ∷ []
unfolding gate_keys held_after offered_to
loses_A = refl

-- ---- the set collector

loses_B : collector_keys 2 (10 ∷ 11 ∷ 10 ∷ 12 ∷ []) ≡ table_key 10 ∷ table_key 12 ∷ []
unfolding collector_keys store_after collects step admit push finish judge judged met_row whole full part_of same_key same_bytes same_origin is_held present oldest_gone room leaves count find remove others evicts untouched aside newest fresh fits start slot_of keep marked put_over put
loses_B = refl

-- ---- the PAT

reads_as_pat : pat_of pat ≡ Readable
unfolding pat_of
reads_as_pat = refl

pub checked_examples : CheckedExamples
checked_examples = record {
  key_small = key_small;
  key_input = key_input;
  key_largest = key_largest;
  key_largest_input = key_largest_input;
  segment_as_sent = as_sent;
  segment_counted_within = counted_within;
  segment_past_last = past_last;
  segment_at_248 = no_wrap;
  all_ones_emitted = emitted;
  all_ones_key = held;
  cut_off_fails = fails;
  gate_loses_A = loses_A;
  collector_loses_B = loses_B;
  pat_readable = reads_as_pat;
  pat_programs = example_pids;
}
