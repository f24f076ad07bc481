-- Why demand 3 asks what it asks: without any one of its hypotheses it is false. Each is left out of `Demand3 with_cells` in turn, and two stores and
-- some calls are given for which the rest holds and the end does not.
-- Assumes nothing.
use mathlib.Core.Path.{◌≡◌, refl, sym, ap, ◌∙◌}
use mathlib.Core.Logic.{◌≢◌}
use mathlib.Core.Bool.{Bool, true, false, ◌&&◌, true≢false}
use mathlib.Core.Option.{none, some, some-injective}
use mathlib.Core.List.{List, [], ◌∷◌, ◌++◌}
use Prim.Native.Nat.{ℕ, zero, suc, ◌≤◌}
use native.Mathlib.Omega.{arith}
use lib.Dec.{leb, eqb}
use lib.ListN.{replicate, length-replicate}
use Rattle.laws.proofs.Tests.{none≢some}
use Rattle.laws.proofs.Facts.{eq_passes, any_of, not_among}
use Rattle.rules_shared.specs.Refusals as refusals
use Rattle.rules_shared.specs.Same.{Bytes, same_bytes}
use Rattle.rules_shared.specs.Touch.{untouched}
use Rattle.rules_shared.specs.Cells.{room_whole}
use Rattle.laws.specs.Runs.{answers, At, Never, GivenBy}
use Rattle.rules_sets.specs.Rules.{Call, clear, refuse, offer, Whole, Answer, cleared, refused, nothing, handout, conflict, not_whole, counter_full, no_cell, number_of, barred}
use Rattle.rules_sets.specs.Cells.{Store, store_whole, ended, guarded, call, call_tells}
use Rattle.rules_sets.specs.Demand.{run, with_cells, Smaller, NoConflict, NeverBarred, EachHandedOut}
use Rattle.rules_sets.proofs.Examples.{twelve, key, sect, set_of, store, replies}

-- ---- tests of a run

joined : List Bytes → Bytes
joined [] = []
joined (b ∷ bs) = b ++ joined bs

-- the answer hands out a set of these bytes
hands : Bytes → Answer → Bool
unfolding joined
hands bytes (handout w) = same_bytes (joined w.sections) bytes
hands bytes cleared = false
hands bytes nothing = false
hands bytes (refused r) = false

-- the answer has this number
numbered : ℕ → Answer → Bool
unfolding number_of
numbered n a = eqb (number_of a) n

-- what no answer of a run passes
none_in : (Answer → Bool) → List Answer → Bool
unfolding any_of barred refusals.barred hands numbered same_bytes
none_in test as' = any_of test as'

unbarred : (s : Store) (calls : List Call) → none_in barred (replies s calls) ≡ false → NeverBarred (run with_cells s calls)
unfolding none_in replies
unbarred s calls h =
    let as' = run with_cells s calls in
    record { cells = not_among barred no_cell refl as' h; counter = not_among barred counter_full refl as' h; wholeness = not_among barred not_whole refl as' h }

never : (a : Answer) (s : Store) (calls : List Call) → none_in (numbered (number_of a)) (replies s calls) ≡ false → Never a (run with_cells s calls)
unfolding none_in replies
never a s calls h = not_among (numbered (number_of a)) a (eq_passes (number_of a)) (run with_cells s calls) h

-- a set that no answer hands out was handed out by none
not_given : (bytes : Bytes) (s : Store) (calls : List Call) (t : ℕ) (w : Whole) → none_in (hands bytes) (replies s calls) ≡ false → hands bytes (handout w) ≡ true
    → GivenBy clear handout (run with_cells s calls) calls t w → ⊥
unfolding none_in replies
not_given bytes s calls t w h e g = not_among (hands bytes) (handout w) e (run with_cells s calls) h g.at g.given

-- ---- the larger refuses a section as conflicting (call 2): at limit 1 A was driven out and begins with other bytes

clash : List Call
clash = sect 1 0 1 0 7 ∷ sect 2 0 0 0 9 ∷ sect 1 0 1 0 6 ∷ sect 1 0 1 1 8 ∷ []

pub conflict_needed : ¬ ((small large : Store) → small.sets ≡ untouched → large.sets ≡ untouched → Smaller small.settings large.settings → (calls : List Call)
    → NeverBarred (run with_cells small calls) → NeverBarred (run with_cells large calls) → EachHandedOut (run with_cells small calls) (run with_cells large calls) calls)
unfolding clash replies none_in
conflict_needed f =
    not_given (twelve 6 ++ twelve 8) (store 2 16 3) clash 3 (set_of 1 0 1 (6 ∷ 8 ∷ [])) refl refl
    (f (store 1 16 2) (store 2 16 3) refl refl (record { same_cells = refl; no_larger = omega arith }) clash (unbarred (store 1 16 2) clash refl) (unbarred (store 2 16 3) clash refl) 3 (set_of 1 0 1 (6 ∷ 8 ∷ [])) refl)

-- ---- the limit of the first is the larger one: B drives A out of the second alone

driven : List Call
driven = sect 1 0 1 0 7 ∷ sect 2 0 0 0 9 ∷ sect 1 0 1 1 8 ∷ []

pub limit_needed : ¬ ((small large : Store) → small.sets ≡ untouched → large.sets ≡ untouched → small.settings.cell_size ≡ large.settings.cell_size → (calls : List Call)
    → NoConflict (run with_cells large calls) → NeverBarred (run with_cells small calls) → NeverBarred (run with_cells large calls)
    → EachHandedOut (run with_cells small calls) (run with_cells large calls) calls)
unfolding driven replies none_in
limit_needed f =
    not_given (twelve 7 ++ twelve 8) (store 1 16 2) driven 2 (set_of 1 0 1 (7 ∷ 8 ∷ [])) refl refl
    (f (store 2 16 3) (store 1 16 2) refl refl refl driven (never conflict (store 1 16 2) driven refl) (unbarred (store 2 16 3) driven refl) (unbarred (store 1 16 2) driven refl) 2 (set_of 1 0 1 (7 ∷ 8 ∷ [])) refl)

-- ---- the cells of the larger are shorter, so that it refuses a section (20) that the smaller keeps

long_section : List Call
long_section = offer (record { key = key 1; version = 0; number = 0; last = 0; bytes = replicate 16 7 }) ∷ []

long_set : Whole
long_set = record { key = key 1; version = 0; last = 0; sections = replicate 16 7 ∷ [] }

pub cell_size_needed : ¬ ((small large : Store) → small.sets ≡ untouched → large.sets ≡ untouched → small.settings.limit ≤ large.settings.limit → (calls : List Call)
    → NoConflict (run with_cells large calls) → NeverBarred (run with_cells small calls) → NeverBarred (run with_cells large calls)
    → EachHandedOut (run with_cells small calls) (run with_cells large calls) calls)
unfolding long_section long_set replies none_in
cell_size_needed f =
    not_given (replicate 16 7) (store 1 12 1) long_section 0 long_set refl refl
    (f (store 1 16 1) (store 1 12 1) refl refl (omega arith) long_section (never conflict (store 1 12 1) long_section refl) (unbarred (store 1 16 1) long_section refl) (unbarred (store 1 12 1) long_section refl) 0 long_set refl)

-- ---- the larger wants a cell (21)

one_section : List Call
one_section = sect 1 0 0 0 7 ∷ []

pub larger_cells_needed : ¬ ((small large : Store) → small.sets ≡ untouched → large.sets ≡ untouched → Smaller small.settings large.settings → (calls : List Call)
    → NoConflict (run with_cells large calls) → NeverBarred (run with_cells small calls) → Never counter_full (run with_cells large calls) → Never not_whole (run with_cells large calls)
    → EachHandedOut (run with_cells small calls) (run with_cells large calls) calls)
unfolding one_section replies none_in
larger_cells_needed f =
    not_given (twelve 7) (store 1 16 0) one_section 0 (set_of 1 0 0 (7 ∷ [])) refl refl
    (f (store 1 16 1) (store 1 16 0) refl refl (record { same_cells = refl; no_larger = omega arith }) one_section (never conflict (store 1 16 0) one_section refl) (unbarred (store 1 16 1) one_section refl)
    (never counter_full (store 1 16 0) one_section refl) (never not_whole (store 1 16 0) one_section refl) 0 (set_of 1 0 0 (7 ∷ [])) refl)

-- ---- the smaller wants a cell: A's third section finds none (call 3), so A is not touched and C drives A out, where in the larger C drives B out. The
-- larger then takes B's section with other bytes (call 5) as a new one, and the smaller keeps the old bytes

untouched_key : List Call
untouched_key = sect 1 0 2 0 1 ∷ sect 1 0 2 1 2 ∷ sect 2 0 1 0 7 ∷ sect 1 0 2 2 3 ∷ sect 3 0 0 0 9 ∷ sect 2 0 1 0 6 ∷ sect 2 0 1 1 8 ∷ []

pub smaller_cells_needed : ¬ ((small large : Store) → small.sets ≡ untouched → large.sets ≡ untouched → Smaller small.settings large.settings → (calls : List Call)
    → NoConflict (run with_cells large calls) → Never counter_full (run with_cells small calls) → Never not_whole (run with_cells small calls) → NeverBarred (run with_cells large calls)
    → EachHandedOut (run with_cells small calls) (run with_cells large calls) calls)
unfolding untouched_key replies none_in
smaller_cells_needed f =
    not_given (twelve 7 ++ twelve 8) (store 2 16 9) untouched_key 6 (set_of 2 0 1 (7 ∷ 8 ∷ [])) refl refl
    (f (store 2 16 3) (store 2 16 9) refl refl (record { same_cells = refl; no_larger = omega arith }) untouched_key (never conflict (store 2 16 9) untouched_key refl)
    (never counter_full (store 2 16 3) untouched_key refl) (never not_whole (store 2 16 3) untouched_key refl) (unbarred (store 2 16 9) untouched_key refl) 6 (set_of 2 0 1 (7 ∷ 8 ∷ [])) refl)

-- ---- the larger is not whole: it was lent more cells than opening takes, and answers 10 to all

too_many : Store
too_many = store 1 16 65536

not_room : room_whole too_many.settings too_many.cells ≡ false
unfolding too_many store room_whole
not_room = ap (λ (n : ℕ). leb 12 16 && (leb 16 4096 && leb n 65535)) (length-replicate {A = Bytes} 65536 (replicate 16 0))

broken : (b : Bool) → room_whole too_many.settings too_many.cells ≡ b → b ≡ false → store_whole too_many ≡ false
unfolding store_whole
broken b e h = rw (e, h) refl

answers_10 : (i : Call) → call_tells too_many i ≡ not_whole
unfolding call_tells call guarded
answers_10 i = ap (λ (b : Bool). (guarded b (ended too_many i) too_many i).answer) (broken _ refl not_room)

not_10 : (a : Answer) → eqb (number_of a) 10 ≡ false → not_whole ≢ a
unfolding number_of
not_10 a h e = true≢false (ap (λ (b : Answer). eqb (number_of b) 10) e ∙ h)

only_10 : (i : Call) (a : Answer) → not_whole ≢ a → Never a (run with_cells too_many (i ∷ []))
unfolding answers
only_10 i a d zero e = d (sym (answers_10 i) ∙ some-injective (call_tells too_many i) a e)
only_10 i a d (suc t) e = none≢some refl e

pub wholeness_needed : ¬ ((small large : Store) → small.sets ≡ untouched → large.sets ≡ untouched → Smaller small.settings large.settings → (calls : List Call)
    → NoConflict (run with_cells large calls) → NeverBarred (run with_cells small calls) → Never no_cell (run with_cells large calls) → Never counter_full (run with_cells large calls)
    → EachHandedOut (run with_cells small calls) (run with_cells large calls) calls)
unfolding one_section too_many replies none_in
wholeness_needed f =
    let w : Whole = set_of 1 0 0 (7 ∷ []) in
    let i : Call = sect 1 0 0 0 7 in
    let g = f (store 1 16 1) too_many refl refl (record { same_cells = refl; no_larger = omega arith }) one_section (only_10 i conflict (not_10 conflict refl)) (unbarred (store 1 16 1) one_section refl)
    (only_10 i no_cell (not_10 no_cell refl)) (only_10 i counter_full (not_10 counter_full refl)) 0 w refl in
    only_10 i (handout w) (not_10 (handout w) refl) g.at g.given

-- ---- the smaller does not start empty: it holds A's first section

half_full : Store
half_full = record {
  settings = record { limit = 1; cell_size = 16 };
  sets = record {
    rows = record { key = key 1; row = record { version = 0; last = 1; slots = some (record { cell = 0; size = 12 }) ∷ none ∷ []; notes = tt; mark = false } } ∷ [];
    evicted = 0;
  };
  cells = replicate 2 (replicate 16 7);
  clock = 0;
}

second_section : List Call
second_section = sect 1 0 1 1 8 ∷ []

pub empty_start_needed : ¬ ((small large : Store) → large.sets ≡ untouched → Smaller small.settings large.settings → (calls : List Call)
    → NoConflict (run with_cells large calls) → NeverBarred (run with_cells small calls) → NeverBarred (run with_cells large calls)
    → EachHandedOut (run with_cells small calls) (run with_cells large calls) calls)
unfolding half_full second_section replies none_in
empty_start_needed f =
    not_given (twelve 7 ++ twelve 8) (store 1 16 2) second_section 0 (set_of 1 0 1 (7 ∷ 8 ∷ [])) refl refl
    (f half_full (store 1 16 2) refl (record { same_cells = refl; no_larger = omega arith }) second_section (never conflict (store 1 16 2) second_section refl) (unbarred half_full second_section refl) (unbarred (store 1 16 2) second_section refl) 0 (set_of 1 0 1 (7 ∷ 8 ∷ [])) refl)

-- ---- the larger alone is cleared: the same sections, and a clear between them

unfoldable pub sections : List Call → List Call
sections [] = []
sections (clear ∷ is) = sections is
sections (refuse n ∷ is) = refuse n ∷ sections is
sections (offer x ∷ is) = offer x ∷ sections is

both_sections : List Call
both_sections = sect 1 0 1 0 7 ∷ sect 1 0 1 1 8 ∷ []

clear_between : List Call
clear_between = sect 1 0 1 0 7 ∷ clear ∷ sect 1 0 1 1 8 ∷ []

-- not even ever
pub same_clears_needed : ¬ ((small large : Store) → small.sets ≡ untouched → large.sets ≡ untouched → Smaller small.settings large.settings
    → (calls calls' : List Call) → sections calls ≡ sections calls'
    → NoConflict (run with_cells large calls') → NeverBarred (run with_cells small calls) → NeverBarred (run with_cells large calls')
    → (t : ℕ) (w : Whole) → At (run with_cells small calls) t (handout w) → (t' : ℕ) × At (run with_cells large calls') t' (handout w))
unfolding sections both_sections clear_between replies none_in
same_clears_needed f =
    let r = f (store 1 16 2) (store 1 16 2) refl refl (record { same_cells = refl; no_larger = omega arith }) both_sections clear_between refl (never conflict (store 1 16 2) clear_between refl) (unbarred (store 1 16 2) both_sections refl) (unbarred (store 1 16 2) clear_between refl)
    1 (set_of 1 0 1 (7 ∷ 8 ∷ [])) refl in
    not_among (hands (twelve 7 ++ twelve 8)) (handout (set_of 1 0 1 (7 ∷ 8 ∷ []))) refl (run with_cells (store 1 16 2) clear_between) refl r.0 r.1
