-- A reader hands out what is read by asking: the same parts in the same order, and then an empty one.
-- Assumes nothing.
use Prim.Native.Nat.{ℕ, ◌+◌, ◌-◌, ◌*◌, ◌≤◌, ◌<◌}
use native.Mathlib.Omega.{arith}
use native.Mathlib.Nat.{mul-le-mul_right}
use mathlib.Core.Path.{◌≡◌, refl, sym, ap, ◌∙◌, subst}
use mathlib.Core.Logic.{◌≢◌}
use mathlib.Core.List.{List, [], ◌∷◌}
use mathlib.Core.Bool.{Bool, true, false, cond, not, true≢false}
use lib.ListN.{length, get_or, drop, length-drop}
use lib.Seq.{length-take-le}
use lib.Dec.{ltb, leb, eqb}
use borrow.Author.Tests.{ltb-true, le-leb, ne_eqb}
use Rattle.laws.specs.Lists.{first_from}
use Rattle.laws.proofs.Search.{every_get, first_passes, first_from_lem}
use Rattle.placing.proofs.Fits.{slot_bounds}
use Rattle.answers.specs.Answers.{reply_no, Reply}
use Rattle.std.specs.Prelude.{Ok}
use Rattle.cells.specs.Cells.{kept_length, cell_number, filled, next_filled, slot_whole, all_whole, kept, part_of}
use Rattle.readers.specs.Next.{slot_told}
use Rattle.readers.specs.Reader.{Held, no_step, step_of, stepped, moved_on}
use Rattle.readers.proofs.Steps.{empty_part}
use Rattle.readers.specs.declared.Next.{Next}
use Rattle.readers.specs.declared.Step.{Step}
use Rattle.reading.proofs.Reading.{no≢yes, part_kept}
use Rattle.reading.specs.Reading.{asks, Reads, ends, goes_on, HandsOut, stops, hands}

-- what one reader hands out is one list
pub one_handing : {size : ℕ} {slots : List ℕ} {h : Held} {p q : List (List ℕ)} → HandsOut size slots h p → HandsOut size slots h q → p ≡ q
one_handing (stops e) (stops f) = refl
one_handing (stops e) (hands n r) = absurd (n e)
one_handing (hands n r) (stops e) = absurd (n e)
one_handing {size = size} {slots = slots} {h = h} (hands n r) (hands m s) = ap (λ (l : List (List ℕ)). (moved_on size slots h).part ∷ l) (one_handing r s)

module _ (size : ℕ) (slots : List ℕ) (small : size ≤ 4096) where
  -- a step, by what a question is answered
  step_yes : (from : ℕ) → (asks size slots from).answer ≡ Ok true
      → step_of size slots from ≡ record { start = (asks size slots from).start; length = (asks size slots from).length; next = (asks size slots from).number + 1 }
  unfolding step_of
  step_yes from e = rw (le-leb size 4096 small, e) refl

  step_no : (from : ℕ) → (asks size slots from).answer ≢ (Ok true) → step_of size slots from ≡ no_step from
  unfolding step_of slot_told
  step_no from n = go (ltb (next_filled slots from) (length slots)) refl
    where
      go : (b : Bool) → ltb (next_filled slots from) (length slots) ≡ b → step_of size slots from ≡ no_step from
      go true h = absurd (n (rw h refl))
      go false h = rw (le-leb size 4096 small, h) refl

  module _ (count : ℕ) (cells : List ℕ) (whole : all_whole count size slots ≡ true) (room : count * size ≤ length cells) where
    -- what a filled slot that is whole keeps is not empty
    keeps_bytes : (w : ℕ) → slot_whole count size w ≡ true → filled w ≡ true → part_of cells (cell_number w * size) (kept_length w) ≢ []
    keeps_bytes w h f e =
        let b = slot_bounds count size w h (λ z. true≢false (sym f ∙ ap (λ (k : ℕ). not (eqb k 0)) z)) in
        let m : (cell_number w + 1) * size ≤ count * size = mul-le-mul_right size (omega (arith, b.1)) in
        let d : length (drop (cell_number w * size) cells) ≡ length cells - cell_number w * size = length-drop (cell_number w * size) cells in
        let l : length (kept cells size w) ≡ kept_length w = length-take-le (kept_length w) (drop (cell_number w * size) cells) (omega (arith, d, m, room, b.0)) in
        let z : kept_length w ≡ 0 = sym l ∙ ap length (sym (part_kept count size w cells h f room) ∙ e) in
        true≢false (sym f ∙ ap (λ (k : ℕ). not (eqb k 0)) z)

    -- so has a section that is told of
    has_bytes : (from : ℕ) → (asks size slots from).answer ≡ Ok true → part_of cells (asks size slots from).start (asks size slots from).length ≢ []
    unfolding slot_told
    has_bytes from e = go (ltb (next_filled slots from) (length slots)) refl
      where
        go : (b : Bool) → ltb (next_filled slots from) (length slots) ≡ b → part_of cells (asks size slots from).start (asks size slots from).length ≢ []
        go true h =
            let l = ltb-true (next_filled slots from) (length slots) h in
            let low = first_from_lem (λ (j : ℕ). filled (get_or slots j 0)) (length slots - from) from in
            let f = first_passes (λ (j : ℕ). filled (get_or slots j 0)) (length slots - from) from (omega (arith, l, low)) in
            let w = every_get (slot_whole count size) slots 0 (next_filled slots from) whole l in
            rw h (keeps_bytes (get_or slots (next_filled slots from) 0) w f)
        go false h = let z : ◌≡◌ {A = Reply} (Ok false) (Ok true) = sym (rw h refl) ∙ e in absurd (no≢yes z)

    -- what is read by asking from a slot on, a reader at that slot hands out
    pub reader_hands : {from : ℕ} {parts : List (List ℕ)} {last : Reply} (before : List ℕ) → Reads (asks size slots) cells from parts last
        → HandsOut size slots (record { cells = cells; next = from; part = before }) parts
    unfolding moved_on
    reader_hands {from = from} before (ends n) = stops (ap (λ (x : Step). part_of cells x.start x.length) (step_no from n) ∙ empty_part cells)
    reader_hands {from = from} before (goes_on {parts = parts} e r) =
        let h : Held = record { cells = cells; next = from; part = before } in
        let p : moved_on size slots h ≡ record { cells = cells; next = (asks size slots from).number + 1; part = part_of cells (asks size slots from).start (asks size slots from).length } =
        ap (stepped h) (step_yes from e) in
        subst (λ (x : List ℕ). HandsOut size slots h (x ∷ parts)) (ap (λ (x : Held). x.part) p)
        (hands (λ z. has_bytes from e (sym (ap (λ (x : Held). x.part) p) ∙ z))
        (subst (λ (x : Held). HandsOut size slots x parts) (sym p) (reader_hands (part_of cells (asks size slots from).start (asks size slots from).length) r)))

-- a reader over no slots hands out nothing
no_step_lem : (size from : ℕ) (slots : List ℕ) → slots ≡ [] → step_of size slots from ≡ no_step from
unfolding step_of slot_told
no_step_lem size from slots z = go (leb size 4096) (ltb (next_filled slots from) (length slots)) refl refl
  where
    go : (b c : Bool) → leb size 4096 ≡ b → ltb (next_filled slots from) (length slots) ≡ c → step_of size slots from ≡ no_step from
    go true true e h =
        let l = ltb-true (next_filled slots from) (length slots) h in
        let n : length slots ≡ 0 = ap length z in
        absurd (omega (arith, l, n))
    go true false e h = rw (e, h) refl
    go false c e h = rw e refl

pub none_handed : (size : ℕ) (h : Held) → HandsOut size [] h []
unfolding moved_on
none_handed size h = stops (ap (λ (x : Step). part_of h.cells x.start x.length) (no_step_lem size h.next [] refl) ∙ empty_part h.cells)
