-- One law for each way out of the step of a reader, and what its move comes to.
-- Assumes nothing.
use mathlib.Core.Path.{◌≡◌, refl, sym, ap, ◌∙◌}
use mathlib.Core.Bool.{Bool, true, false, cond, true≢false}
use mathlib.Core.List.{List, []}
use Prim.Native.Nat.{ℕ, ◌+◌, ◌-◌, ◌≤◌, ◌<◌}
use native.Mathlib.Omega.{arith}
use borrow.Author.Tests.{eq-eqb, ne_eqb, ltb-true, le-leb, lt-leb}
use mir.Val.{Fits}
use mir.Syntax.{w64}
use lib.Dec.{ltb, eqb}
use lib.ListN.{length}
use denote.Ref.{Bor}
use Rattle.std.specs.Prelude.{Ok, Err}
use Rattle.answers.specs.Answers.{refusal_no, reply_no}
use Rattle.answers.specs.declared.Refusal.{Refusal}
use Rattle.answers.proofs.Laws.{refused_from_10}
use Rattle.cells.specs.Cells.{cell_number, kept_length, next_filled, part_of}
use Rattle.readers.specs.declared.Next.{Next}
use Rattle.readers.specs.declared.Step.{Step}
use Rattle.readers.specs.declared.SetReader.{SetReader}
use Rattle.readers.specs.Next.{no_section, slot_told}
use Rattle.readers.specs.Reader.{no_step, step_of, Held, held, begun, stepped, moved_on}

refused_not_8 : (r : Refusal) → eqb (refusal_no r) 8 ≡ false
refused_not_8 r = ne_eqb (refusal_no r) 8 (λ (e : refusal_no r ≡ 8). true≢false (sym (ap (λ (n : ℕ). ltb n 10) e) ∙ refused_from_10 r))

module _ (slots : List ℕ) (size from : ℕ) where
  pub step_large : (x : Step) → 4096 < size → x ≡ no_step from → x ≡ step_of size slots from
  unfolding step_of
  step_large x h e = rw (lt-leb size 4096 h) e

  pub step_there : (q : Next) (b : Bool) → size ≤ 4096 → q ≡ slot_told size slots (next_filled slots from) → q.answer ≡ Ok b → b ≡ true
      → ◌≡◌ {A = Step} (record { start = q.start; length = q.length; next = q.number + 1 }) (step_of size slots from)
  unfolding step_of
  step_there q b h e f g = let y : eqb (reply_no q.answer) 8 ≡ true = rw (f, g) refl in rw (le-leb size 4096 h, ← e, y) refl

  pub step_none : (q : Next) (b : Bool) (x : Step) → size ≤ 4096 → q ≡ slot_told size slots (next_filled slots from) → q.answer ≡ Ok b → b ≡ false → x ≡ no_step from → x ≡ step_of size slots from
  unfolding step_of
  step_none q b x h e f g m = let y : eqb (reply_no q.answer) 8 ≡ false = rw (f, g) refl in rw (le-leb size 4096 h, ← e, y) m

  pub step_refused : (q : Next) (r : Refusal) (x : Step) → size ≤ 4096 → q ≡ slot_told size slots (next_filled slots from) → q.answer ≡ Err r → x ≡ no_step from → x ≡ step_of size slots from
  unfolding step_of
  step_refused q r x h e f m = let y : eqb (reply_no q.answer) 8 ≡ false = rw f (refused_not_8 r) in rw (le-leb size 4096 h, ← e, y) m

  -- the slot behind a section is at most the number of slots
  pub behind_fits : (q : Next) (b : Bool) → q ≡ slot_told size slots (next_filled slots from) → q.answer ≡ Ok b → b ≡ true → length slots < 18446744073709551616 → Fits w64 (q.number + 1)
  unfolding slot_told
  behind_fits q b e f g l = go (ltb (next_filled slots from) (length slots)) refl
    where
      eight : reply_no q.answer ≡ 8
      eight = ap reply_no f ∙ ap (λ (x : Bool). reply_no (Ok x)) g

      go : (b : Bool) → ltb (next_filled slots from) (length slots) ≡ b → Fits w64 (q.number + 1)
      go true h =
          let m : q.number ≡ next_filled slots from = ap (λ (x : Next). x.number) e ∙ rw h refl in
          let o = ltb-true (next_filled slots from) (length slots) h in
          record { fits = omega (arith, m, o, l) }
      go false h = let m : ◌≡◌ {A = ℕ} 9 8 = sym (ap (λ (x : Next). reply_no x.answer) e ∙ rw h refl) ∙ eight in absurd (omega (arith, m))

-- ---- what a reader holds

-- a part of no bytes
pub empty_part : (cells : List ℕ) → part_of cells 0 0 ≡ []
empty_part cells = rw (le-leb 0 (length cells) (omega arith), le-leb 0 (length cells - 0) (omega arith)) refl

-- a reader that is made of the cells, slot 0 and no bytes
pub begins : (cells part : Bor (List ℕ)) → part.now ≡ part_of cells.now 0 0 → held (record { cells = cells; next = 0; part = part }) ≡ begun cells.now
begins cells part e =
    let q = e ∙ empty_part cells.now in
    λ i. record { cells = cells.now; next = 0; part = q i }

-- a reader that is made of the same cells, the slot that the step is told, and the bytes there
pub moves : (size : ℕ) (slots : List ℕ) (r : SetReader) (x : Step) (part : Bor (List ℕ)) → x ≡ step_of size slots r.next → part.now ≡ part_of r.cells.now x.start x.length
    → held (record { cells = r.cells; next = x.next; part = part }) ≡ moved_on size slots (held r)
unfolding moved_on
moves size slots r x part e f =
    let q : ◌≡◌ {A = Held} (record { cells = r.cells.now; next = x.next; part = part.now }) (stepped (held r) x) = λ i. record { cells = r.cells.now; next = x.next; part = f i } in
    q ∙ ap (stepped (held r)) e
