-- What the cells of a store held before does not matter: two stores with the same settings and rows and as many cells, whose named cells show the same bytes, answer alike and
-- stay so. A store that was opened names no cell.
-- Assumes nothing.
use mathlib.Core.Path.{◌≡◌, refl, sym, ap, ◌∙◌, subst}
use mathlib.Core.Bool.{Bool, true, false, ◌&&◌, true≢false}
use mathlib.Core.Option.{Option, none, some, map, some-injective}
use mathlib.Core.List.{List, [], ◌∷◌}
use Prim.Native.Nat.{ℕ, zero, suc}
use native.Mathlib.Omega.{arith}
use lib.Dec.{leb}
use lib.ListN.{length, length-set}
use Rattle.rules_shared.specs.Same.{Bytes, same_bytes}
use Rattle.rules_shared.specs.Slots.{every_held}
use Rattle.rules_shared.specs.Touch.{every_row, aside, newest, emptied, on_order, untouched, seen_as}
use Rattle.rules_shared.specs.Row.{slot_of, keep, on_row}
use Rattle.rules_shared.specs.Cells.{Settings, Held, Cells, bytes_of, write, lowest, Place, into, conflicting, place_new, place_held, place, held_in, room_whole, held_whole}
use Rattle.laws.specs.Runs.{answers}
use Rattle.rules_shared.proofs.Views.{aside_on, newest_on}
use Rattle.rules_shared.proofs.Row.{slot_on}
use Rattle.rules_shared.proofs.Cells.{kept_shown, LowestFree, Placed, laid, lacking, alike, unlike, placed}
use Rattle.rules_sets.specs.Rules.{same_key, SetOf, SetsOf, Section, part_of, Call, clear, refuse, offer, conflict, StepOf, gives, met_row, judge}
use Rattle.rules_sets.specs.Cells.{Store, on_sets, on_answer, view, takes, taken, store_whole, ended, shows, rest, room_for, place_of, carry, push_in, admit_in, good, guarded, call, call_tells, call_acts, risen}
use Rattle.ties_memory.specs.Alike.{at, opened_over, Alike, Same}
use Rattle.rules_sets.proofs.Views.{met_on, on_step, judge_on, free_cell_unseen, free_parts}

module _ (o : Settings) (r : SetsOf Held) (C D : Cells) (now : ℕ) (n : length C ≡ length D) (v : on_sets (bytes_of C) r ≡ on_sets (bytes_of D) r) where
  abbrev s : Store
  s = at o r C now

  abbrev t : Store
  t = at o r D now

  itself : Alike s t
  unfolding view
  itself = record { settings = refl; sets = refl; count = n; clock = refl; shown = v }

  -- a step on the rows, shown over cells c and d; the clock is k then
  steps : (k : ℕ) (c d : Cells) → length c ≡ length d → (p : StepOf Held) → on_step (bytes_of c) p ≡ on_step (bytes_of d) p → Same (shows (at o r C k) c p) (shows (at o r D k) d p)
  unfolding shows view
  steps k c d m p e = record {
    answer = ap (λ (q : StepOf Bytes). q.answer) e;
    stores = record { settings = refl; sets = refl; count = m; clock = refl; shown = ap (λ (q : StepOf Bytes). q.sets) e };
  }

  whole_same : store_whole s ≡ store_whole t
  unfolding store_whole room_whole held_whole
  whole_same =
      let f : held_whole o C ≡ held_whole o D = held in
      λ i. (leb 12 o.cell_size && (leb o.cell_size 4096 && leb (n i) 65535)) && (leb (length r.rows) o.limit && every_row (λ (w : SetOf Held). every_held (f i) w.slots) r.rows)
    where
      held : held_whole o C ≡ held_whole o D
      held = λ i h. leb (suc h.cell) (n i) && (leb 12 h.size && leb h.size o.cell_size)

  module _ (x : Section) where
    row : SetOf Held
    row = met_row x r

    rest_same : on_sets (bytes_of C) (rest s x) ≡ on_sets (bytes_of D) (rest s x)
    unfolding rest on_sets
    rest_same =
        sym (aside_on (on_row (bytes_of C)) same_key o.limit x.key r) ∙ ap (aside same_key o.limit x.key) v ∙ aside_on (on_row (bytes_of D)) same_key o.limit x.key r

    row_same : on_row (bytes_of C) (met_row x r) ≡ on_row (bytes_of D) (met_row x r)
    row_same = sym (met_on (bytes_of C) x r) ∙ ap (met_row x) v ∙ met_on (bytes_of D) x r

    held_same : (h : Held) → slot_of (part_of x) (met_row x r) ≡ some h → bytes_of C h ≡ bytes_of D h
    held_same h e =
        some-injective (bytes_of C h) (bytes_of D h)
        (ap (map (bytes_of C)) (sym e) ∙ sym (slot_on (bytes_of C) (part_of x) (met_row x r)) ∙ ap (slot_of (part_of x)) row_same ∙ slot_on (bytes_of D) (part_of x) (met_row x r) ∙ ap (map (bytes_of D)) e)

    place_same : place_of s x ≡ place_of t x
    unfolding place_of room_for rest place
    place_same = go (slot_of (part_of x) (met_row x r)) refl
      where
        go : (q : Option Held) → slot_of (part_of x) (met_row x r) ≡ q → place C (taken (room_for s x)) x.bytes q ≡ place D (taken (room_for t x)) x.bytes q
        go none e = ap (λ (k : ℕ). place_new (lowest (taken (room_for s x)) k 0)) n
        go (some h) e = ap (λ (b : Bytes). place_held (same_bytes b x.bytes)) (held_same h e)

    judge_same : (c d : Cells) (w : SetOf Held) → on_sets (bytes_of c) (rest s x) ≡ on_sets (bytes_of d) (rest s x) → on_row (bytes_of c) w ≡ on_row (bytes_of d) w
        → on_step (bytes_of c) (judge (rest s x) x.key w) ≡ on_step (bytes_of d) (judge (rest s x) x.key w)
    judge_same c d w p q =
        sym (judge_on (bytes_of c) (rest s x) x.key w) ∙ (λ i. judge (p i) x.key (q i)) ∙ judge_on (bytes_of d) (rest s x) x.key w

    -- the cell that is written is free beside the section's row
    into_same : (c : ℕ) → LowestFree (taken (room_for s x)) (length C) c → Same (carry s x (into c)) (carry t x (into c))
    unfolding carry room_for rest write takes
    into_same c f =
        let z = free_parts c x.key (met_row x r) (rest s x) f.free in
        let C' : Cells = write C c x.bytes in
        let D' : Cells = write D c x.bytes in
        let k : SetOf Held = keep (part_of x) (held_in c x.bytes) (met_row x r) in
        let p : on_sets (bytes_of C') (rest s x) ≡ on_sets (bytes_of D') (rest s x) =
        free_cell_unseen C c x.bytes (rest s x) z.0 ∙ rest_same ∙ sym (free_cell_unseen D c x.bytes (rest s x) z.0) in
        let q : on_row (bytes_of C') k ≡ on_row (bytes_of D') k =
        sym (kept_shown C c x.bytes (part_of x) (met_row x r) z.1 f.inside) ∙ ap (keep (part_of x) x.bytes) row_same
        ∙ kept_shown D c x.bytes (part_of x) (met_row x r) z.1 (omega (arith, f.inside, n)) in
        steps (suc now) C' D' (length-set C c _ ∙ n ∙ sym (length-set D c _)) (judge (rest s x) x.key k) (judge_same C' D' k p q)

    still_same : (w : SetOf Held) → on_row (bytes_of C) w ≡ on_row (bytes_of D) w → Same (shows (risen s) C (judge (rest s x) x.key w)) (shows (risen t) D (judge (rest t x) x.key w))
    unfolding rest
    still_same w q = steps (suc now) C D n (judge (rest s x) x.key w) (judge_same C D w rest_same q)

    conflict_same : Same (carry s x conflicting) (carry t x conflicting)
    unfolding carry room_for rest on_answer on_sets
    conflict_same =
        let e : on_sets (bytes_of C) (newest x.key (met_row x r) (rest s x)) ≡ on_sets (bytes_of D) (newest x.key (met_row x r) (rest s x)) =
        sym (newest_on (on_row (bytes_of C)) x.key (met_row x r) (rest s x)) ∙ (λ i. newest x.key (row_same i) (rest_same i)) ∙ newest_on (on_row (bytes_of D)) x.key (met_row x r) (rest s x) in
        steps (suc now) C D n (gives conflict (newest x.key (met_row x r) (rest s x))) (ap (gives conflict) e)

    carry_same : Same (carry s x (place_of s x)) (carry t x (place_of t x))
    unfolding carry place_of place
    carry_same = subst (λ (p : Place). Same (carry s x (place_of s x)) (carry t x p)) place_same (go (place_of s x) (placed C (taken (room_for s x)) x.bytes (slot_of (part_of x) (met_row x r))))
      where
        go : (p : Place) → Placed C (taken (room_for s x)) x.bytes (slot_of (part_of x) (met_row x r)) p → Same (carry s x p) (carry t x p)
        go p (laid c e f) = into_same c f
        go p (lacking e f) = record { answer = refl; stores = itself }
        go p (alike h e q) = still_same (met_row x r) row_same
        go p (unlike h e q) = conflict_same

    pushed_same : (k : ℕ) → Same (push_in k s x) (push_in k t x)
    unfolding push_in shows on_answer
    pushed_same zero = record { answer = refl; stores = itself }
    pushed_same (suc k) = carry_same

    admitted_same : (b : Bool) → Same (admit_in s x b) (admit_in t x b)
    unfolding admit_in shows on_answer
    admitted_same false = record { answer = refl; stores = itself }
    admitted_same true = pushed_same o.limit

  good_same : (i : Call) → Same (good s i) (good t i)
  unfolding good shows on_answer view on_sets on_order emptied seen_as
  good_same clear = record { answer = refl; stores = record { settings = refl; sets = refl; count = n; clock = refl; shown = refl } }
  good_same (refuse k) = record { answer = refl; stores = itself }
  good_same (offer x) = admitted_same x (leb (length x.bytes) o.cell_size)

  call_same : (i : Call) → Same (call s i) (call t i)
  unfolding call guarded ended
  call_same i = subst (λ (b : Bool). Same (guarded (store_whole s) (ended s i) s i) (guarded b (ended t i) t i)) whole_same (go (store_whole s) (ended s i) (ended t i) (ends i))
    where
      ends : (i : Call) → ended s i ≡ ended t i
      ends clear = refl
      ends (refuse k) = refl
      ends (offer x) = refl

      go : (a b c : Bool) → b ≡ c → Same (guarded a b s i) (guarded a c t i)
      go false b c e = record { answer = refl; stores = itself }
      go true true true e = record { answer = refl; stores = itself }
      go true true false e = absurd (true≢false e)
      go true false true e = absurd (true≢false (sym e))
      go true false false e = good_same i

-- any two stores that are alike
module _ (s t : Store) (a : Alike s t) where
  moved : t ≡ at s.settings s.sets t.cells s.clock
  moved = λ i. record { settings = sym a.settings i; sets = sym a.sets i; cells = t.cells; clock = sym a.clock i }

  one : (i : Call) → Same (call s i) (call t i)
  unfolding view
  one i =
      subst (λ (q : Store). Same (call s i) (call q i)) (sym moved)
      (call_same s.settings s.sets s.cells t.cells s.clock a.count (a.shown ∙ ap (on_sets (bytes_of t.cells)) (sym a.sets)) i)

  pub answers_alike : (i : Call) → call_tells s i ≡ call_tells t i
  unfolding call_tells
  answers_alike i = (one i).answer

  pub stays_alike : (i : Call) → Alike (call_acts s i) (call_acts t i)
  unfolding call_acts
  stays_alike i = (one i).stores

-- many calls
pub same_answers : (calls : List Call) (s t : Store) → Alike s t → answers call_tells call_acts s calls ≡ answers call_tells call_acts t calls
unfolding answers
same_answers [] s t a = refl
same_answers (i ∷ is) s t a =
    let p = answers_alike s t a i in
    let q = same_answers is (call_acts s i) (call_acts t i) (stays_alike s t a i) in
    λ k. p k ∷ q k

-- from opening on: equal settings and as many cells are enough, whatever the cells hold
pub cells_do_not_matter : (o : Settings) (C D : Cells) → length C ≡ length D → (calls : List Call)
    → answers call_tells call_acts (opened_over o C) calls ≡ answers call_tells call_acts (opened_over o D) calls
unfolding view on_sets on_order seen_as untouched
cells_do_not_matter o C D n calls = same_answers calls (opened_over o C) (opened_over o D) (record { settings = refl; sets = refl; count = n; clock = refl; shown = refl })
