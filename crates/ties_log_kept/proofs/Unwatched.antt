-- What a gate watches and follows, and what its counters are, does not reach the log: its kinds 1 to 4 are the answers 1, 2, 31 and 3 of any gate of the rule that
-- starts with no rows and can count so many sections.
-- Assumes nothing.
use mathlib.Core.Path.{◌≡◌, refl, sym, ap, ◌∙◌}
use mathlib.Core.Logic.{◌≢◌}
use mathlib.Core.Bool.{Bool, true, false, cond, ◌||◌}
use mathlib.Core.Option.{some, some-injective}
use mathlib.Core.List.{List, [], ◌∷◌, map}
use Prim.Native.Nat.{ℕ, zero, suc}
use borrow.Author.Tests.{eqb-false}
use lib.Dec.{ltb}
use lib.ListN.{length}
use Rattle.laws.specs.Runs.{answers, Never}
use Rattle.laws.proofs.Tests.{none≢some}
use Rattle.answers.specs.declared.Refusal.TheVariants as refusal
use Rattle.section.specs.Ids.{origin_of}
use Rattle.section.specs.Judged.{rule_of, judged_of}
use Rattle.section.specs.declared.header.Judged.{Judged}
use Rattle.section.specs.declared.header.Judged.TheVariants.{Short, Mismatch, Sound}
use Rattle.ring.specs.Rules.{Row, changed}
use Rattle.counters.specs.Counters.{any_full}
use Rattle.offers.specs.Offers.{read_as, read_of}
use Rattle.offers.specs.declared.Verdict.TheVariants as verdict
use Rattle.gate_state.specs.State.{number_of}
use Rattle.gate.specs.Rules.{Held, admitted, carried_in, told, tells, tells_no, acts}
use Rattle.rules_logs.specs.Sections.{Given}
use Rattle.rules_log_run.specs.Run.{Settings, row_of, opened}
use Rattle.rules_log_run.specs.Gate.{offer_of, manner_of, kind_for, kinds_from}
use Rattle.rules_log_run.proofs.Gate.{as_the_gate}
use Rattle.ties_log_kept.proofs.Counts.{CanCount, not_full, told_counts}

module _ (o : Settings) (follow : Bool) where
  module _ (h : Held) (g : Given) where
    judged_not : (j : Judged) → number_of (carried_in (manner_of o follow) h g.section (read_as (origin_of g.input g.pid) (length g.section) j)).answer ≢ 11
    unfolding carried_in admitted
    judged_not Short = eqb-false 31 11 refl
    judged_not (Mismatch s w) = eqb-false 3 11 refl
    judged_not (Sound p) = go (changed (row_of g p) h.rows || o.repeats)
      where
        go : (b : Bool) → ◌≢◌ {A = ℕ} (cond b 1 2) 11
        go true = eqb-false 1 11 refl
        go false = eqb-false 2 11 refl

    read_not : (p i : Bool) (j : Judged)
        → number_of (carried_in (manner_of o follow) h g.section (cond p (cond i (read_as (origin_of g.input g.pid) (length g.section) j) (verdict.Refused refusal.BadInput)) (verdict.Refused refusal.BadPid))).answer ≢ 11
    unfolding carried_in
    read_not true true j = judged_not j
    read_not true false j = eqb-false 37 11 refl
    read_not false i j = eqb-false 12 11 refl

    one_not : any_full h.counters ≡ false → tells_no (manner_of o follow) h (offer_of g) ≢ 11
    unfolding tells told read_of
    one_not e q =
        read_not (ltb g.pid 8192) (ltb g.input 16) (judged_of (rule_of o.rule) g.section)
        (sym (ap (λ (b : Bool). number_of (carried_in (manner_of o follow) h g.section (cond b (verdict.Refused refusal.CounterFull) (read_of o.rule g.input g.pid g.section))).answer) e) ∙ q)

  -- 11 does not occur
  never_11 : (gs : List Given) (h : Held) → CanCount (length gs) h.counters → Never 11 (answers (tells_no (manner_of o follow)) (acts (manner_of o follow)) h (map offer_of gs))
  unfolding answers acts
  never_11 [] h k t e = none≢some refl e
  never_11 (g ∷ gs) h k zero e = one_not h g (not_full (length gs) h.counters k) (some-injective (tells_no (manner_of o follow) h (offer_of g)) 11 e)
  never_11 (g ∷ gs) h k (suc t) e = never_11 gs (acts (manner_of o follow) h (offer_of g)) (told_counts (length gs) (manner_of o follow) h k (offer_of g)) t e

  -- THE THEOREM
  pub log_unwatched : (gs : List Given) (h : Held) → h.rows ≡ [] → CanCount (length gs) h.counters
      → kinds_from o (opened o) gs ≡ map kind_for (answers (tells_no (manner_of o follow)) (acts (manner_of o follow)) h (map offer_of gs))
  log_unwatched gs h e k =
      ap (λ (rows : List Row). kinds_from o (record { rows = rows; sets = (opened o).sets }) gs) (sym e)
      ∙ as_the_gate o follow gs (opened o).sets h (never_11 gs h k)
