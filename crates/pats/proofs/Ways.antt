-- One law for each way out of the functions over a record.
-- Assumes nothing.
use mathlib.Core.Path.{◌≡◌, refl, sym, ap, subst, ◌∙◌}
use mathlib.Core.Bool as bool
use mathlib.Core.Bool.{Bool, true, false, cond, ◌&&◌}
use mathlib.Core.List.{List, [], map}
use Prim.Native.Nat.{ℕ, ◌+◌, ◌-◌, ◌*◌, ◌≤◌, ◌<◌}
use native.Mathlib.Numerals.{add-one}
use native.Mathlib.Decide.{ℕ_discrete}
use native.Mathlib.Omega.{arith}
use borrow.Author.Tests.{le-leb, lt-leb, leb-true, eq-eqb, ne_eqb}
use lib.Dec.{leb}
use lib.ListN.{length, get_or, take, drop, set, drop_of_length-le, length-drop}
use lib.Seq.{drop-cons, length-take-le}
use Rattle.laws.proofs.Tests.{and_true}
use Rattle.laws.proofs.Search.{every_get}
use Rattle.section.specs.Header.{current_next_of}
use Rattle.std.specs.Prelude.{Some, Result, Ok, Err}
use Rattle.answers.specs.declared.Refusal.{Refusal}
use Rattle.cells.specs.Cells.{kept_length, cell_number, slot_whole, all_whole, kept, part_of}
use Rattle.pat.specs.Pat.{readable, with_programs}
use Rattle.watched.specs.Store.{no_pids, following}
use Rattle.rows.specs.Rows.{row_slots, rows_whole}
use Rattle.rows.proofs.Whole.{rows_get}
use Rattle.rows.specs.declared.Entry.{Entry}
use Rattle.placing.proofs.Fits.{slot_bounds}
use Rattle.store.specs.Store.{Store, settings_fit, whole_of, counters_full}
use Rattle.store.specs.declared.Sets.{Sets}
use Rattle.arrivals.specs.Arrivals.{set_arrival, SetTaken}
use Rattle.sets_settle.specs.Settle.{set_in, answer_of}
use Rattle.sets_settle.specs.declared.PushAnswer.{PushAnswer}
use Rattle.sets_settle.specs.declared.PushAnswer.TheVariants as push_answer
use Rattle.sets_push.specs.Pushing.{whole_pushed}
use Rattle.pats.specs.Store.{Record, record_of, pat_clock, pat_sets, pat_head, pat_store, room_for, pats_whole, pats_full, begun_words, enters, with_all, programs_of_row, Entering, pushed_by, pushed_in, watch_after, followed_in, entered_in, Arrives, RowThere, Pushed, HasRow}

-- ---- opening, and 10 and 11

pub begun : (words : List ℕ) → set (set words 384 0) 385 0 ≡ begun_words words
unfolding begun_words
begun words = refl

pub full_is : (words : List ℕ) (t : Sets) (b : Bool) → t ≡ pat_sets words → b ≡ counters_full t → b ≡ pats_full words
unfolding pats_full
full_is words t b e q = q ∙ ap counters_full e

-- the clock, without a row and with one
pub clock_none : (words : List ℕ) → get_or words 384 0 ≡ 0 → 0 ≡ pat_clock words
clock_none words z = rw (eq-eqb (get_or words 384 0) 0 z)

pub clock_there : (words : List ℕ) → (get_or words 384 0 ≡ 0 → ⊥) → get_or words 395 0 ≡ pat_clock words
clock_there words n = rw (ne_eqb (get_or words 384 0) 0 n)

pub sets_are : (words : List ℕ) (c : ℕ) → c ≡ pat_clock words
    → ◌≡◌ {A = Sets} (record { limit = 1; size = 1024; count = 256; used = get_or words 384 0; evictions = get_or words 385 0; clock = c }) (pat_sets words)
sets_are words c e = rw e

-- the three lengths
pub record Long (w s c : ℕ) : Type 0 where
  pub words : 398 ≤ w
  pub slots : 288 ≤ s
  pub cells : 262144 ≤ c

pub room_long : (words slots cells : ℕ) (b : Bool) → b ≡ room_for words slots cells → b ≡ true → Long words slots cells
room_long words slots cells b e t =
    let a = and_true (leb 398 words && leb 288 slots) (leb 262144 cells) (sym e ∙ t) in
    let d = and_true (leb 398 words) (leb 288 slots) a.0 in
    record { words = leb-true 398 words d.0; slots = leb-true 288 slots d.1; cells = leb-true 262144 cells a.1 }

module _ (words slots cells : List ℕ) (b : Bool) (e : b ≡ room_for (length words) (length slots) (length cells)) where
  fits : b ≡ true → settings_fit (pat_sets words) (length (pat_head words)) (length slots) (length cells) ≡ true
  fits h =
      let l = room_long (length words) (length slots) (length cells) b e h in
      let n : length (pat_head words) ≡ 12 = length-take-le 12 (drop 386 words) (rw (length-drop 386 words) (omega (arith, l.words))) in
      rw (n, le-leb 288 (length slots) l.slots, le-leb 262144 (length cells) l.cells)

  pub whole_is : (w : Bool) → b ≡ true → w ≡ (leb (get_or words 384 0) 1 && rows_whole (pat_head words) slots 256 1024 (get_or words 384 0)) → w ≡ pats_whole (record_of words slots cells)
  unfolding pats_whole whole_of
  whole_is w h q = rw (← e, h, fits h) q

  pub whole_short : b ≡ false → false ≡ pats_whole (record_of words slots cells)
  unfolding pats_whole
  whole_short h = rw (← e, h)

-- no row, one, more
module _ (words slots : List ℕ) where
  pub no_row : get_or words 384 0 ≡ 0 → true ≡ (leb (get_or words 384 0) 1 && rows_whole (pat_head words) slots 256 1024 (get_or words 384 0))
  unfolding rows_whole
  no_row z = rw z

  pub one_row_lem : (r : Bool) → get_or words 384 0 ≡ 1 → r ≡ all_whole 256 1024 (row_slots (pat_head words) slots 0) → r ≡ (leb (get_or words 384 0) 1 && rows_whole (pat_head words) slots 256 1024 (get_or words 384 0))
  unfolding rows_whole
  one_row_lem r z q = rw z (q ∙ sym (bool.and-true (all_whole 256 1024 (row_slots (pat_head words) slots 0))))

  pub more_rows : (get_or words 384 0 ≡ 0 → ⊥) → (get_or words 384 0 ≡ 1 → ⊥) → false ≡ (leb (get_or words 384 0) 1 && rows_whole (pat_head words) slots 256 1024 (get_or words 384 0))
  more_rows n m = rw (lt-leb (get_or words 384 0) 1 (omega (arith, n, m)))

-- ---- which sections enter

module _ (section : List ℕ) (b : Bool) (e : b ≡ readable section) where
  pub pat_long : b ≡ true → 12 ≤ length section
  pat_long h = leb-true 12 (length section) (and_true (leb 12 (length section)) _ (sym e ∙ h)).0

  pub pat_enters : b ≡ true → (current_next_of section && leb (length section) 1024) ≡ enters section
  unfolding enters
  pat_enters h = rw (← e, h)

  pub pat_not : b ≡ false → false ≡ enters section
  unfolding enters
  pat_not h = rw (← e, h)

-- ---- the programs of the sections that are kept

-- the part that a whole slot names
part_kept : (cells : List ℕ) (w : ℕ) → slot_whole 256 1024 w ≡ true → 262144 ≤ length cells → part_of cells (cell_number w * 1024) (kept_length w) ≡ kept cells 1024 w
part_kept cells w o h = go (ℕ_discrete (kept_length w) 0)
  where
    none : (b : Bool) (l : List ℕ) → cond b (take 0 l) [] ≡ take 0 l
    none true l = refl
    none false l = refl

    go : Dec (kept_length w ≡ 0) → part_of cells (cell_number w * 1024) (kept_length w) ≡ kept cells 1024 w
    go (yes z) = rw z (none (leb (cell_number w * 1024) (length cells) && leb 0 (length cells - cell_number w * 1024)) (drop (cell_number w * 1024) cells))
    go (no ne) =
        let b = slot_bounds 256 1024 w o ne in
        rw (le-leb (cell_number w * 1024) (length cells) (omega arith), le-leb (kept_length w) (length cells - cell_number w * 1024) (omega arith))

pub section_added : (n cells : List ℕ) (w c k : ℕ) (part m : List ℕ) → slot_whole 256 1024 w ≡ true → 262144 ≤ length cells → c ≡ cell_number w → k ≡ kept_length w
    → part ≡ part_of cells (c * 1024) k → m ≡ with_programs part n → m ≡ with_programs (kept cells 1024 w) n
section_added n cells w c k part m o h p q f g = g ∙ ap (λ (s : List ℕ). with_programs s n) (f ∙ rw (p, q) (part_kept cells w o h))

module _ (row cells : List ℕ) (j : ℕ) where
  pub slot_ok : all_whole 256 1024 row ≡ true → j < length row → slot_whole 256 1024 (get_or row j 0) ≡ true
  slot_ok o h = every_get (slot_whole 256 1024) row 0 j o h

  pub row_turn : (n : List ℕ) → j < length row
      → with_all (map (kept cells 1024) (drop j row)) n ≡ with_all (map (kept cells 1024) (drop (j + 1) row)) (with_programs (kept cells 1024 (get_or row j 0)) n)
  unfolding with_all
  row_turn n h = rw (drop-cons row j 0 h, add-one j)

  pub row_end : (n : List ℕ) → length row ≤ j → with_all (map (kept cells 1024) (drop j row)) n ≡ n
  unfolding with_all
  row_end n h = rw (drop_of_length-le row h)

pub row_ok : (words slots cells row : List ℕ) → HasRow (record_of words slots cells) → row ≡ row_slots (pat_head words) slots 0 → all_whole 256 1024 row ≡ true
row_ok words slots cells row o e = ap (all_whole 256 1024) e ∙ o.row

pub row_followed : (words slots cells row n w : List ℕ) → row ≡ row_slots (pat_head words) slots 0 → n ≡ with_all (map (kept cells 1024) row) no_pids → w ≡ following words n
    → w ≡ following words (programs_of_row (pat_store (record_of words slots cells)))
unfolding set_in
row_followed words slots cells row n w e p q = q ∙ ap (following words) (p ∙ ap (λ (l : List ℕ). with_all (map (kept cells 1024) l) no_pids) e)

-- ---- what the answer of a push leads to

module _ (words slots cells : List ℕ) (a : PushAnswer) where
  abbrev s : Store
  s = pat_store (record_of words slots cells)

  module _ (i : ℕ) (e : a ≡ push_answer.Set i) (o : Pushed a (record_of words slots cells)) where
    there : (i ≡ 0) × (0 < s.sets.used)
    there = subst (λ (k : PushAnswer). RowThere k s) e o.row

    pub told_row : HasRow (record_of words slots cells)
    told_row = record {
      words = o.words;
      slots = let l = o.whole.slots_long in omega arith;
      cells = let l = o.whole.cells_long in omega arith;
      row = rows_get (pat_head words) slots 256 1024 s.sets.used 0 o.whole.rows there.1;
    }

    pub told_set : (w : List ℕ) → w ≡ following words (programs_of_row s) → w ≡ watch_after (answer_of a s) words
    told_set w q = q ∙ rw (e, there.0)

-- ---- a section that arrived

pub collected : (a : PushAnswer) (w w' l c : List ℕ) (x : Entering) → pushed_by a w l c ≡ x → w' ≡ watch_after (answer_of a (pat_store (record_of w l c))) w → record_of w' l c ≡ followed_in x
collected a w w' l c x e q = ap (λ (k : List ℕ). record_of k l c) q ∙ ap followed_in e

module _ (words slots cells section : List ℕ) (input : ℕ) (b : Bool) (p : b ≡ enters section) where
  pub enter_not : b ≡ false → record_of words slots cells ≡ entered_in (record_of words slots cells) input section
  unfolding entered_in
  enter_not h = rw (← p, h)

  module _ (h : b ≡ true) (a : Result Entry Refusal) (q : a ≡ set_arrival input (Some 0) section) where
    pub enter_refused : (r : Refusal) → a ≡ Err r → record_of words slots cells ≡ entered_in (record_of words slots cells) input section
    unfolding entered_in
    enter_refused r e = rw (← p, h, ← q, e)

    module _ (e : Entry) (f : a ≡ Ok e) where
      pub enter_arrives : SetTaken section a → Arrives section e
      enter_arrives t = record { input = input; read = sym q ∙ f; taken = subst (SetTaken section) f t }

      pub enter_arrived : (r : Record) → r ≡ followed_in (pushed_in (record_of words slots cells) (whole_pushed (pat_store (record_of words slots cells)) e section))
          → r ≡ entered_in (record_of words slots cells) input section
      unfolding entered_in
      enter_arrived r g = rw (← p, h, ← q, f) g
