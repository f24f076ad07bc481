-- One law for each turn, each end and each way out of the functions on units.
-- Assumes nothing.
use mathlib.Core.Path.{◌≡◌, refl, sym, ap, ◌∙◌}
use mathlib.Core.List.{List}
use mathlib.Core.Bool.{Bool, true, false, cond, not, ◌&&◌, and_assoc, and-true}
use Prim.Native.Nat.{ℕ, ◌+◌, ◌-◌, ◌*◌, ◌%◌, ◌≤◌, ◌<◌}
use native.Mathlib.Omega.{arith}
use mir.Val.{Fits}
use mir.Syntax.{w32}
use native.Mathlib.Nat.{lt_of_le_of_lt}
use borrow.Author.Tests.{eq-eqb, ne_eqb, lt-ltb, le-ltb, eqb-true}
use lib.Dec.{eqb, lit<}
use lib.ListN.{length, take, drop, get_or, length-drop}
use lib.Seq.{paste, length-take-le}
use Rattle.laws.proofs.Lists.{paste_end}
use Rattle.laws.proofs.Tests.{and_true as and_true_both}
use Rattle.cells.specs.Cells.{slot_whole, all_whole, marked_all}
use Rattle.cells.proofs.Laws.{one_slot}
use Rattle.rows.specs.Rows.{row_of, slots_at, slot_count, row_slots, last_of, version_of}
use Rattle.rows.specs.declared.Key.{Key}
use Rattle.rows.proofs.Loops.{before}
use Rattle.segments.specs.Segments.{word_of, with_word, set_complete}
use Rattle.units.specs.Units.{is_present, unit_slots, unit_whole, units_whole, marked_unit, marked_units, all_present, without_units, with_words, with_set, first_table, with_table, with_complete, with_table_set, refilled}

pub unit_part : (units : List ℕ) (u w x n : ℕ) → w ≡ word_of units u 2 → x ≡ w → n ≡ slot_count x → take (u * 288 + 32 + n - (u * 288 + 32)) (drop (u * 288 + 32) units) ≡ unit_slots units u
unfolding unit_slots
unit_part units u w x n e g f = let s : u * 288 + 32 + n - (u * 288 + 32) ≡ n = omega arith in rw (s, f, g, e)

-- ---- all units in use

-- a unit of one slot that is whole is so whether it is present or not
pub single_whole : (units : List ℕ) (count size u l w : ℕ) (r : Bool) → l ≡ word_of units u 2 → w ≡ word_of units u 32 → u * 288 + 288 ≤ length units
    → (r ≡ true → slot_whole count size w ≡ true) → (eqb l 0 && r) ≡ true → unit_whole units count size u ≡ true
unfolding unit_whole unit_slots
single_whole units count size u l w r e f h g t =
    let both = and_true_both (eqb l 0) r t in
    let one : word_of units u 2 ≡ 0 = sym e ∙ eqb-true l 0 both.0 in
    let slot : slot_whole count size (get_or units (slots_at u) 0) ≡ true = rw (← f) (g both.1) in
    rw (one, one_slot units (slots_at u) count size (omega arith) slot) (either (is_present units u))
  where
    either : (b : Bool) → cond b true true ≡ true
    either true = refl
    either false = refl

pub unit_single : (units : List ℕ) (count size u : ℕ) (r : Bool) → (r ≡ true → unit_whole units count size u ≡ true) → r ≡ true → true ≡ unit_whole units count size u
unit_single units count size u r g t = sym (g t)

pub unit_whole_there : (units : List ℕ) (count size u : ℕ) (part : List ℕ) (b r : Bool) → b ≡ is_present units u → b ≡ true → part ≡ unit_slots units u → r ≡ all_whole count size part → r ≡ unit_whole units count size u
unfolding unit_whole
unit_whole_there units count size u part b r e t p q = rw (← e, t, ← p) q

pub unit_whole_not : (units : List ℕ) (count size u : ℕ) (b : Bool) → b ≡ is_present units u → b ≡ false → true ≡ unit_whole units count size u
unfolding unit_whole
unit_whole_not units count size u b e t = rw (← e, t)

module _ (units : List ℕ) (count size base n j : ℕ) (ok : Bool) (q : units_whole units count size base n ≡ (ok && units_whole units count size base j)) where
  pub units_turn : (r : Bool) → 0 < j → r ≡ unit_whole units count size (base + (j - 1)) → units_whole units count size base n ≡ (ok && r && units_whole units count size base (j - 1))
  unfolding units_whole
  units_turn r p e =
      q ∙ ap (λ (k : ℕ). ok && units_whole units count size base k) (before j p)
      ∙ sym (and_assoc ok (unit_whole units count size (base + (j - 1))) (units_whole units count size base (j - 1))) ∙ rw e

  pub units_end : j ≤ 0 → ok ≡ units_whole units count size base n
  unfolding units_whole
  units_end p = let z : j ≡ 0 = omega arith in sym (q ∙ rw z (and-true ok))

pub unit_marked : (units : List ℕ) (u : ℕ) (part m m' : List ℕ) (b : Bool) → b ≡ is_present units u → b ≡ true → part ≡ unit_slots units u → m' ≡ marked_all part m → m' ≡ marked_unit units u m
unit_marked units u part m m' b e t p q = rw (← e, t, ← p) q

pub unit_passed : (units : List ℕ) (u : ℕ) (m : List ℕ) (b : Bool) → b ≡ is_present units u → b ≡ false → m ≡ marked_unit units u m
unit_passed units u m b e t = rw (← e, t)

module _ (units : List ℕ) (base n j : ℕ) (m₀ m : List ℕ) (q : marked_units units base n m₀ ≡ marked_units units base j m) where
  pub marks_turn : (m' : List ℕ) → 0 < j → m' ≡ marked_unit units (base + (j - 1)) m → marked_units units base n m₀ ≡ marked_units units base (j - 1) m'
  unfolding marked_units
  marks_turn m' p e = q ∙ ap (λ (k : ℕ). marked_units units base k m) (before j p) ∙ rw e

  pub marks_end : j ≤ 0 → m ≡ marked_units units base n m₀
  unfolding marked_units
  marks_end p = let z : j ≡ 0 = omega arith in sym (q ∙ rw z)

-- ---- one schedule

pub present_turn : (units : List ℕ) (base n j : ℕ) (ok r : Bool) → 0 < j → r ≡ is_present units (base + (j - 1)) → all_present units base n ≡ (ok && all_present units base j)
    → all_present units base n ≡ (ok && r && all_present units base (j - 1))
unfolding all_present
present_turn units base n j ok r p e q =
    q ∙ ap (λ (k : ℕ). ok && all_present units base k) (before j p)
    ∙ sym (and_assoc ok (is_present units (base + (j - 1))) (all_present units base (j - 1))) ∙ rw e

pub present_end : (units : List ℕ) (base n j : ℕ) (ok : Bool) → j ≤ 0 → all_present units base n ≡ (ok && all_present units base j) → ok ≡ all_present units base n
unfolding all_present
present_end units base n j ok p q = let z : j ≡ 0 = omega arith in sym (q ∙ rw z (and-true ok))

pub without_turn : (base n j : ℕ) (u₀ u u' : List ℕ) → 0 < j → u' ≡ with_word (base + (j - 1)) 0 0 u → without_units base n u₀ ≡ without_units base j u → without_units base n u₀ ≡ without_units base (j - 1) u'
unfolding without_units
without_turn base n j u₀ u u' p e q = q ∙ ap (λ (k : ℕ). without_units base k u) (before j p) ∙ rw e

pub without_end : (base n j : ℕ) (u₀ u : List ℕ) → j ≤ 0 → without_units base n u₀ ≡ without_units base j u → u ≡ without_units base n u₀
unfolding without_units
without_end base n j u₀ u p q = let z : j ≡ 0 = omega arith in sym (q ∙ rw z)

pub slots_end : (h₀ h words : List ℕ) (at k : ℕ) → h ≡ paste h₀ at words k → length words ≤ k → k ≤ length words → h ≡ paste h₀ at words (length words)
slots_end h₀ h words at k e a b = paste_end h₀ h at words k (length words) e (omega arith)

pub set_put : (heads slots : List ℕ) (i u v m : ℕ) (part units units' units'' : List ℕ) → v ≡ version_of heads i → part ≡ row_slots heads slots i → m ≡ length part - 1
    → units' ≡ paste units (u * 288 + 32) part (length part) → units'' ≡ with_words u (v % 4294967296) m units' → units'' ≡ with_set heads slots i u units
unfolding with_set
set_put heads slots i u v m part units units' units'' e p z q f = rw (← p, ← e, ← z, ← q) f

-- ---- refill

module _ (heads slots : List ℕ) (used i u : ℕ) (units : List ℕ) where
  pub complete_past : used ≤ i → units ≡ with_complete heads slots used i u units
  unfolding with_complete
  complete_past h = rw (le-ltb i used h)

  module _ (b : Bool) (h : i < used) (e : b ≡ set_complete heads slots i) where
    pub complete_put : (units' : List ℕ) → b ≡ true → units' ≡ with_set heads slots i u units → units' ≡ with_complete heads slots used i u units
    unfolding with_complete
    complete_put units' t q = rw (lt-ltb i used h, ← e, t) q

    pub complete_not : b ≡ false → units ≡ with_complete heads slots used i u units
    unfolding with_complete
    complete_not t = rw (lt-ltb i used h, ← e, t)

module _ (heads slots : List ℕ) (used : ℕ) (key : Key) (own base j : ℕ) (units : List ℕ) (table : ℕ) (e : table ≡ first_table key.table_id + j) where
  pub table_own : table ≡ own → units ≡ with_table_set heads slots used key own base j units
  unfolding with_table_set
  table_own h = rw (← e, eq-eqb table own h)

  pub table_other : (k : Key) (i : ℕ) (units' : List ℕ) → (table ≡ own → ⊥) → k ≡ with_table key table → i ≡ row_of heads k used → units' ≡ with_complete heads slots used i (base + j) units
      → units' ≡ with_table_set heads slots used key own base j units
  unfolding with_table_set
  table_other k i units' h f g q = rw (← e, ne_eqb table own h, ← f, ← g) q

module _ (heads slots : List ℕ) (used : ℕ) (key : Key) (own base n j : ℕ) (u₀ u : List ℕ) (q : refilled heads slots used key own base n u₀ ≡ refilled heads slots used key own base j u) where
  pub refill_turn : (u' : List ℕ) → 0 < j → u' ≡ with_table_set heads slots used key own base (j - 1) u → refilled heads slots used key own base n u₀ ≡ refilled heads slots used key own base (j - 1) u'
  unfolding refilled
  refill_turn u' p e = q ∙ ap (λ (k : ℕ). refilled heads slots used key own base k u) (before j p) ∙ rw e

  pub refill_end : j ≤ 0 → u ≡ refilled heads slots used key own base n u₀
  unfolding refilled
  refill_end p = let z : j ≡ 0 = omega arith in sym (q ∙ rw z)

-- ---- words and slots

pub there : (units : List ℕ) (u w : ℕ) → w ≡ word_of units u 0 → not (eqb w 0) ≡ is_present units u
there units u w e = rw e

part_length : (heads slots part : List ℕ) (i : ℕ) → i * 288 + 288 ≤ length slots → part ≡ row_slots heads slots i → (0 < length part) × (length part ≤ 256)
unfolding row_slots
part_length heads slots part i h e =
    let l : length (take (slot_count (last_of heads i)) (drop (slots_at i) slots)) ≡ slot_count (last_of heads i) = length-take-le (slot_count (last_of heads i)) (drop (slots_at i) slots) (rw (length-drop (slots_at i) slots) (omega arith)) in
    rw (e, l) (omega arith, omega arith)

module _ (heads slots part : List ℕ) (i : ℕ) (h : i * 288 + 288 ≤ length slots) (e : part ≡ row_slots heads slots i) where
  pub some_slots : 1 ≤ length part
  some_slots = (part_length heads slots part i h e).0

  pub few_slots : Fits w32 (length part - 1)
  few_slots = let l = part_length heads slots part i h e in record { fits = lt_of_le_of_lt {m = 256} (omega arith) (lit< tt) }

  pub room_for_slots : (u : ℕ) (units : List ℕ) → u * 288 + 288 ≤ length units → u * 288 + 32 + length part ≤ length units
  room_for_slots u units k = let l = part_length heads slots part i h e in omega arith
