-- Demand 3 of the set collector over lent memory.
-- Assumes nothing.
use mathlib.Core.Path.{◌≡◌, refl, sym, ap, subst, ◌∙◌}
use mathlib.Core.Option.{some, some-injective}
use mathlib.Core.List.{List, [], ◌∷◌, map}
use Prim.Native.Nat.{ℕ, zero, suc}
use Rattle.laws.proofs.Tests.{none≢some}
use Rattle.laws.specs.Runs.{At, Never, GivenBy}
use Rattle.laws.proofs.Runs.{answers_read}
use Rattle.rules_sets.specs.Rules.{Call, Whole, Answer, clear, handout, not_whole, counter_full, no_cell}
use Rattle.rules_sets.specs.Demand.{run, with_cells, Smaller, NoConflict, NeverBarred}
use Rattle.rules_sets.proofs.Demand.{demand_3_cells}
use Rattle.sets.specs.History as sets
use Rattle.ties_sets.specs.View as ties
use Rattle.ties_sets.specs.View.{reads, seen}
use Rattle.ties_sets.proofs.History.{opened_reached, opened_seen, same_answers, never_not_whole}
use Rattle.promises.specs.Demand3.{Collector, StartsEmpty, EqualCellSize, LimitNoLarger, Given, clears, made, Calls, SectionsOfBytes, answers_of, RefusesNoneAsConflicting, RefusesNoneForItsStore, HandsOut, HandedOutSinceTheLastClear, Demand3}

-- what holds of each holds of each that is made of them
pub each_map : {A B : Type 0} (P : B → Type 0) (f : A → B) (xs : List A) → ((t : ℕ) (x : A) → At xs t x → P (f x)) → (t : ℕ) (y : B) → At (map f xs) t y → P y
each_map P f [] h t y e = absurd (none≢some refl e)
each_map P f (x ∷ xs) h zero y e = subst P (some-injective (f x) y e) (h 0 x refl)
each_map P f (x ∷ xs) h (suc t) y e = each_map P f xs (λ u z k. h (suc u) z k) t y e

-- the calls as the rules have them
abbrev pub read_all : Calls → List Call
read_all calls = map reads (map made calls)

-- the answers are those of the rules with cells
pub as_rules : (s : Collector) → StartsEmpty s → (calls : Calls) → SectionsOfBytes calls → answers_of s calls ≡ run with_cells (seen s) (read_all calls)
as_rules s o calls b = answers_read ties.tells ties.acts made s calls ∙ same_answers (map made calls) (each_map sets.Bytes made calls b) s (opened_reached s o)

-- in no history 10 occurs
never_10 : (s : Collector) → StartsEmpty s → (calls : Calls) → SectionsOfBytes calls → Never not_whole (answers_of s calls)
never_10 s o calls b = subst (Never not_whole) (sym (answers_read ties.tells ties.acts made s calls)) (never_not_whole s o (map made calls) (each_map sets.Bytes made calls b))

-- a clear is read as a clear
reads_clear : (calls : Calls) (t : ℕ) → At calls t clears → At (read_all calls) t clear
unfolding reads
reads_clear [] t e = absurd (none≢some refl e)
reads_clear (i ∷ is) zero e = ap (λ (j : Given). some (reads (made j))) (some-injective i clears e)
reads_clear (i ∷ is) (suc t) e = reads_clear is t e

unbarred : (s : Collector) (calls : Calls) → RefusesNoneForItsStore s calls → NeverBarred (answers_of s calls)
unbarred s calls h = record { cells = h.cells; counter = h.counter; wholeness = h.wholeness }

pub demand_3 : Demand3
unfolding seen
demand_3 smaller larger os ol size limit calls b nc ns nl t set h =
    let p = as_rules smaller os calls b in
    let q = as_rules larger ol calls b in
    let le : Smaller (seen smaller).settings (seen larger).settings = record { same_cells = size; no_larger = limit } in
    let g : GivenBy clear handout (run with_cells (seen larger) (read_all calls)) (read_all calls) t set =
    demand_3_cells (seen smaller) (seen larger) (opened_seen smaller os) (opened_seen larger ol) le (read_all calls) (subst NoConflict q nc)
    (subst NeverBarred p (unbarred smaller calls ns)) (subst NeverBarred q (unbarred larger calls nl)) t set (subst (λ (as' : List Answer). At as' t (handout set)) p h) in
    record {
      at = g.at;
      early = g.early;
      given = subst (λ (as' : List Answer). At as' g.at (handout set)) (sym q) g.given;
      since = λ u l m e. g.since u l m (reads_clear calls u e);
    }

-- ---- "a store not whole" need not be asked: in no history 10 occurs

abbrev pub NeverCellsOrCounter : Collector → Calls → Type 0
NeverCellsOrCounter s calls = Never no_cell (answers_of s calls) × Never counter_full (answers_of s calls)

pub demand_3_opened : (smaller larger : Collector) → StartsEmpty smaller → StartsEmpty larger → EqualCellSize smaller larger → LimitNoLarger smaller larger
    → (calls : Calls) → SectionsOfBytes calls → RefusesNoneAsConflicting larger calls
    → NeverCellsOrCounter smaller calls → NeverCellsOrCounter larger calls
    → (t : ℕ) (set : Whole) → HandsOut smaller calls t set → HandedOutSinceTheLastClear larger calls t set
demand_3_opened smaller larger os ol size limit calls b nc ns nl =
    demand_3 smaller larger os ol size limit calls b nc
    (record { cells = ns.0; counter = ns.1; wholeness = never_10 smaller os calls b })
    (record { cells = nl.0; counter = nl.1; wholeness = never_10 larger ol calls b })
