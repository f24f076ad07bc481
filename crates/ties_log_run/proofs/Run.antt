-- Sections one after another through a run over lent memory that was opened: it gives the entries of the rules, answers neither 10 nor 11, and what the memory
-- held before matters to none of them.
-- Assumes nothing.
use mathlib.Core.Path.{◌≡◌, refl, sym, ap, ◌∙◌}
use mathlib.Core.Logic.{◌≢◌}
use mathlib.Core.Bool.{Bool, true, false, not, ◌&&◌, cond}
use mathlib.Core.Option.{some, some-injective}
use mathlib.Core.List.{List, [], ◌∷◌, ◌++◌}
use Prim.Native.Nat.{ℕ, zero, suc, ◌+◌, ◌^◌, ◌<◌}
use native.Mathlib.Omega.{arith}
use borrow.Author.Tests.{lt-ltb, ltb-true, ltb-false, leb-true, eqb-false, not-true}
use lib.Dec.{ltb, leb}
use lib.ListN.{length, replicate, length-replicate}
use Rattle.answers.specs.Answers.{Outcome}
use Rattle.laws.specs.Runs.{answers, Never}
use Rattle.laws.proofs.Tests.{and_true, none≢some}
use Rattle.section.specs.Facts.{Bytes as OfBytes}
use Rattle.section.specs.Judged.{rule_known}
use Rattle.rules_shared.specs.Cells.{Cells}
use Rattle.ring.specs.Store.{room_of}
use Rattle.ring.proofs.Order as ring
use Rattle.ticks.specs.Slots.{cells_seen}
use Rattle.ticks.proofs.Cells.{cells_length}
use Rattle.store.specs.Store.{asked, settings_fit}
use Rattle.sets.specs.Store.{opened_of}
use Rattle.sets.proofs.Stays as stays
use Rattle.ties_sets.specs.View.{seen}
use Rattle.ties_sets.specs.View.{Opened as OpenedSets}
use Rattle.ties_sets.proofs.Calls.{standing}
use Rattle.ties_sets.proofs.History as sets
use Rattle.rules_logs.specs.Records.{Bytes}
use Rattle.rules_logs.specs.Sections.{Given}
use Rattle.rules_logs.specs.Verdict as records
use Rattle.rules_log_run.specs.Run.{Kept, opened_over, opened, entry_of, records_of, log_of}
use Rattle.log_state.specs.State.{Lent, lent, sets_in, run_of, take_no, ruling_by, ruling_of, can_open}
use Rattle.log_state.specs.State as state
use Rattle.log_state.specs.declared.Settings.{Settings as Asked}
use Rattle.std.specs.Prelude.{Ok, Err}
use Rattle.answers.specs.declared.Refusal.TheVariants as refusal
use Rattle.log_run.specs.Store.{Taking, ruled, taking, taken_of}
use Rattle.log_entries.proofs.Entries.{entry_shows}
use Rattle.ties_log_kept.proofs.Kept.{log_append}
use Rattle.ties_log_run.specs.Run.{takes, takes_no, leaves, gives, entries_by, shows, bytes_by, kept_in, settings_at, settings_of, Opens, Reached}
use Rattle.rules_log_run.specs.Entries.{rules_give, rules_leave, entries_from, joined}
use Rattle.rules_log_run.specs.Lists.{AllTakable, AllOfBytes}
use Rattle.ties_log_kept.proofs.Cells.{cells_do_not_matter, entries_joined}
use Rattle.ties_log_run.proofs.Step.{CanTake, Follows, counts_none, follows}

-- ---- every section

-- n more sections can come then
record Goes (n : ℕ) (t : Taking) : Type 0 where
  reached : Reached t.left
  counted : CanTake n t.left
  not_10 : take_no t.answer ≢ 10
  not_11 : take_no t.answer ≢ 11

module _ (n : ℕ) (s : Lent) (r : Reached s) (g : Given) (b : OfBytes g.section) (more : CanTake (suc n) s) where
  -- over 4,098 bytes: 42, and all as before
  long_goes : 4098 < length g.section → Goes n (takes s g)
  unfolding taking ruling_of ruling_by ruled
  long_goes h = rw (lt-ltb 4098 (length g.section) h) (record { reached = r; counted = counts_none 0 0 0 n s r g b more; not_10 = eqb-false 42 10 refl; not_11 = eqb-false 42 11 refl })

  goes : Goes n (takes s g)
  goes = go (ltb 4098 (length g.section)) refl
    where
      short : Follows 0 0 0 n s (takes s g) (entry_of (settings_at 0 0 0 s.run) (kept_in s) g) → Goes n (takes s g)
      short f = record { reached = f.reached; counted = f.counted; not_10 = f.not_10; not_11 = f.not_11 }

      go : (t : Bool) → ltb 4098 (length g.section) ≡ t → Goes n (takes s g)
      go true e = long_goes (ltb-true 4098 (length g.section) e)
      go false e = short (follows 0 0 0 n s r g b more (ltb-false 4098 (length g.section) e))

-- a number that no section is answered with
never : (a : ℕ) → ((n : ℕ) (t : Taking) → Goes n t → take_no t.answer ≢ a) → (gs : List Given) → AllOfBytes gs → (s : Lent) → Reached s
    → CanTake (length gs) s → Never a (answers takes_no leaves s gs)
unfolding answers takes_no leaves
never a f [] b s r h t e = none≢some refl e
never a f (g ∷ gs) b s r h zero e = f (length gs) (takes s g) (goes (length gs) s r g b.0 h) (some-injective (takes_no s g) a e)
never a f (g ∷ gs) b s r h (suc t) e =
    let k = goes (length gs) s r g b.0 h in
    never a f gs b.1 (leaves s g) k.reached k.counted t e

-- ---- the entries of the rules

entries_follow : (l z c : ℕ) (gs : List Given) → AllTakable gs → (s : Lent) → Reached s → CanTake (length gs) s
    → entries_by s gs ≡ entries_from (settings_at l z c s.run) (kept_in s) gs
unfolding answers gives leaves rules_give rules_leave
entries_follow l z c [] b s r h = refl
entries_follow l z c (g ∷ gs) b s r h =
    let f = follows l z c (length gs) s r g b.0.of_bytes h b.0.short in
    let e = f.records in
    let t : Lent = (takes s g).left in
    let o = f.settings in
    let k = f.kept in
    let q = entries_follow l z c gs b.1 t f.reached f.counted ∙ (λ i. entries_from (o i) (k i) gs) in
    λ i. e i ∷ q i

-- ---- the bytes of what `take` gives

shows_records : (s : Lent) (g : Given) → shows s g ≡ records.log_of (takes s g).records
unfolding taken_of
shows_records s g = entry_shows (records.log_of (takes s g).records)

bytes_joined : (gs : List Given) (s : Lent) → bytes_by s gs ≡ records.log_of (joined (entries_by s gs))
unfolding bytes_by answers gives leaves joined records.log_of taken_of
bytes_joined [] s = refl
bytes_joined (g ∷ gs) s =
    let e = shows_records s g in
    let q = bytes_joined gs (takes s g).left in
    (λ i. e i ++ q i) ∙ sym (log_append (takes s g).records (joined (entries_by (takes s g).left gs)))

-- ---- an opened run

-- 7 is answered where so much is lent, and such are the settings
pub done_opens : (a : Asked) (keys changes heads slots cells : List ℕ) → (state.opened_of a (length keys) (length changes) (length heads) (length slots) (length cells)).answer ≡ Ok tt
    → Opens a keys changes heads slots cells
unfolding state.opened_of
done_opens a keys changes heads slots cells e = go (state.is_without a.pids) (can_open a (length keys) (length changes) (length heads) (length slots) (length cells)) e
  where
    go : (w b : Bool) → ◌≡◌ {A = Outcome} (cond w (Err refusal.NoPid) (cond b (Ok tt) (Err refusal.TooLittle))) (Ok tt) → b ≡ true
    go true b q = let z : ◌≡◌ {A = ℕ} 0 1 = cc in absurd (omega arith)
    go false true q = refl
    go false false q = let z : ◌≡◌ {A = ℕ} 0 1 = cc in absurd (omega arith)

module _ (a : Asked) (keys changes heads slots cells : List ℕ) (h : Opens a keys changes heads slots cells) where
  abbrev start : Lent
  start = lent (run_of a) keys changes heads slots cells

  -- the settings fit, and sets are taken
  both_fit : ((leb (room_of a.capacity) (length keys) && leb (room_of a.capacity) (length changes) && rule_known a.rule
      && settings_fit (asked a.limit a.size a.count) (length heads) (length slots) (length cells)) ≡ true) × (not (state.is_without a.pids) ≡ true)
  both_fit = and_true _ (not (state.is_without a.pids)) h

  pub opened_taken : state.is_without a.pids ≡ false
  opened_taken = not-true (state.is_without a.pids) both_fit.1

  fits : settings_fit (asked a.limit a.size a.count) (length heads) (length slots) (length cells) ≡ true
  fits = (and_true (leb (room_of a.capacity) (length keys) && leb (room_of a.capacity) (length changes) && rule_known a.rule) (settings_fit (asked a.limit a.size a.count) (length heads) (length slots) (length cells)) both_fit.0).1

  gate_fits : ((leb (room_of a.capacity) (length keys) && leb (room_of a.capacity) (length changes)) ≡ true) × (rule_known a.rule ≡ true)
  gate_fits =
      and_true (leb (room_of a.capacity) (length keys) && leb (room_of a.capacity) (length changes)) (rule_known a.rule)
      (and_true (leb (room_of a.capacity) (length keys) && leb (room_of a.capacity) (length changes) && rule_known a.rule) (settings_fit (asked a.limit a.size a.count) (length heads) (length slots) (length cells)) both_fit.0).0

  rows_fit : (leb (room_of a.capacity) (length keys) ≡ true) × (leb (room_of a.capacity) (length changes) ≡ true)
  rows_fit = and_true (leb (room_of a.capacity) (length keys)) (leb (room_of a.capacity) (length changes)) gate_fits.0

  opened_sets : OpenedSets (sets_in start)
  unfolding opened_of
  opened_sets = record { opened = record { opened = rw fits refl; none = refl }; evictions = refl; clock = refl }

  pub opened_reached : Reached start
  opened_reached = record {
    rows = ring.opened_reached a.capacity keys changes (leb-true _ _ rows_fit.0) (leb-true _ _ rows_fit.1);
    rule = gate_fits.1;
    taken = opened_taken;
    sets = standing (sets_in start) (sets.opened_reached (sets_in start) opened_sets);
    whole = stays.opened_whole (sets_in start) opened_sets.opened;
  }

  pub opened_takes : (n : ℕ) → n < 2 ^ 64 → CanTake n start
  opened_takes n l = record { evictions = omega arith; clock = omega arith }

  abbrev cells_there : Cells
  cells_there = cells_seen cells a.size a.count

  kept_opened : kept_in start ≡ opened_over (settings_of a) cells_there
  unfolding seen
  kept_opened =
      let e = sets.opened_seen (sets_in start) opened_sets in
      λ i. record { rows = []; sets = record { settings = record { limit = a.limit; cell_size = a.size }; sets = e i; cells = cells_there; clock = 0 } }

  -- THE THEOREM: 10 and 11 do not occur
  pub run_never_refuses : (gs : List Given) → AllOfBytes gs → length gs < 2 ^ 64 → Never 10 (answers takes_no leaves start gs) × Never 11 (answers takes_no leaves start gs)
  run_never_refuses gs b n =
      (never 10 (λ m t k. k.not_10) gs b start opened_reached (opened_takes (length gs) n), never 11 (λ m t k. k.not_11) gs b start opened_reached (opened_takes (length gs) n))

  -- THE THEOREM: its entries are those of the rules
  module _ (gs : List Given) (b : AllTakable gs) (n : length gs < 2 ^ 64) where
    pub run_follows : entries_by start gs ≡ entries_from (settings_of a) (opened (settings_of a)) gs
    run_follows =
        entries_follow a.limit a.size a.count gs b start opened_reached (opened_takes (length gs) n)
        ∙ ap (λ (k : Kept). entries_from (settings_of a) k gs) kept_opened
        ∙ cells_do_not_matter (settings_of a) cells_there (replicate a.count []) (cells_length cells a.size a.count ∙ sym (length-replicate {A = Bytes} a.count [])) gs

    pub run_records : joined (entries_by start gs) ≡ records_of (settings_of a) gs
    unfolding records_of
    run_records = ap joined run_follows ∙ entries_joined (settings_of a) gs (opened (settings_of a))

    pub run_log : records.log_of (joined (entries_by start gs)) ≡ log_of (settings_of a) gs
    unfolding log_of
    run_log = ap records.log_of run_records

    -- as bytes: what `take` gives, one after another, is the log
    pub taken_log : bytes_by start gs ≡ log_of (settings_of a) gs
    taken_log = bytes_joined gs start ∙ run_log

-- THE THEOREM: two runs opened with equal settings over any two lent memories give the same entries
pub memory_does_not_matter : (a : Asked) (keys changes heads slots cells keys' changes' heads' slots' cells' : List ℕ) → Opens a keys changes heads slots cells → Opens a keys' changes' heads' slots' cells'
    → (gs : List Given) → AllTakable gs → length gs < 2 ^ 64
    → entries_by (lent (run_of a) keys changes heads slots cells) gs ≡ entries_by (lent (run_of a) keys' changes' heads' slots' cells') gs
memory_does_not_matter a keys changes heads slots cells keys' changes' heads' slots' cells' h h' gs b n =
    run_follows a keys changes heads slots cells h gs b n ∙ sym (run_follows a keys' changes' heads' slots' cells' h' gs b n)
