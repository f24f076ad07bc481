-- Asking from 0 and then behind each number gives the filled slots in order, each once, then no; and the parts are the kept bytes.
-- Assumes nothing.
use Prim.Native.Nat.{ℕ, zero, suc, ◌+◌, ◌-◌, ◌*◌, ◌≤◌, ◌<◌}
use native.Mathlib.Omega.{arith}
use native.Mathlib.Nat.{mul-le-mul_right}
use mathlib.Core.Path.{◌≡◌, refl, sym, ap, ◌∙◌, subst}
use mathlib.Core.Logic.{◌≢◌}
use mathlib.Core.List.{List, [], ◌∷◌, map}
use mathlib.Core.Bool.{Bool, true, false, cond, not, true≢false}
use lib.ListN.{length, get_or, take, drop, drop_of_length-le}
use lib.Seq.{drop-cons}
use lib.Dec.{ltb, leb, eqb}
use borrow.Author.Tests.{lt-ltb, le-ltb, le-leb}
use Rattle.laws.specs.Lists.{every, first_from}
use Rattle.laws.proofs.Tests.{and_true}
use Rattle.laws.proofs.Search.{every_get}
use Rattle.placing.proofs.Fits.{slot_bounds}
use Rattle.answers.specs.Answers.{Reply}
use Rattle.std.specs.Prelude.{Ok}
use Rattle.cells.specs.Cells.{kept_length, cell_number, filled, slot_whole, all_whole, all_filled, kept, part_of}
use Rattle.readers.specs.Next.{filled_slots, slot_told, no_section}
use Rattle.readers.specs.declared.Next.{Next}
use Rattle.reading.specs.Reading.{asks, Reads, ends, goes_on}

-- two readings of the same are the same
pub one_reading : {ask : ℕ → Next} {cells : List ℕ} {from : ℕ} {p q : List (List ℕ)} {a b : Reply} → Reads ask cells from p a → Reads ask cells from q b → (p ≡ q) × (a ≡ b)
one_reading (ends n) (ends m) = (refl, refl)
one_reading (ends n) (goes_on e r) = absurd (n e)
one_reading (goes_on e r) (ends n) = absurd (n e)
one_reading {ask = ask} {cells = cells} {from = from} (goes_on e r) (goes_on f s) =
    let t = one_reading r s in
    (ap (λ (l : List (List ℕ)). part_of cells (ask from).start (ask from).length ∷ l) t.0, t.1)

pub no≢yes : ◌≢◌ {A = Reply} (Ok false) (Ok true)
no≢yes e = let z : ◌≡◌ {A = ℕ} 0 1 = cc in omega arith

-- where there is none, nothing is read
pub reads_none : (ask : ℕ → Next) (cells : List ℕ) (from : ℕ) → ask from ≡ no_section (Ok false) → Reads ask cells from [] (Ok false)
reads_none ask cells from q = subst (λ (x : Next). Reads ask cells from [] x.answer) q (ends (λ y. no≢yes (sym (ap (λ (x : Next). x.answer) q) ∙ y)))

-- a question that is answered alike is read alike
alike : (ask : ℕ → Next) (cells : List ℕ) (from later : ℕ) (p : List (List ℕ)) (a : Reply) → ask later ≡ ask from → Reads ask cells later p a → Reads ask cells from p a
alike ask cells from later p a e (ends n) = subst (λ (x : Next). Reads ask cells from [] x.answer) (sym e) (ends (λ q. n (ap (λ (x : Next). x.answer) e ∙ q)))
alike ask cells from later p a e (goes_on {parts = parts} h r) =
    subst (λ (x : Next). Reads ask cells from (part_of cells x.start x.length ∷ parts) a) (sym e)
    (goes_on (ap (λ (x : Next). x.answer) (sym e) ∙ h) (subst (λ (x : Next). Reads ask cells (x.number + 1) parts a) e r))

-- the part that a whole word tells of is what it keeps
pub part_kept : (count size w : ℕ) (cells : List ℕ) → slot_whole count size w ≡ true → filled w ≡ true → count * size ≤ length cells
    → part_of cells (cell_number w * size) (kept_length w) ≡ kept cells size w
part_kept count size w cells h f l =
    let b = slot_bounds count size w h (λ z. true≢false (sym f ∙ ap (λ (k : ℕ). not (eqb k 0)) z)) in
    let m : (cell_number w + 1) * size ≤ count * size = mul-le-mul_right size (omega (arith, b.1)) in
    let start : cell_number w * size ≤ length cells = omega (arith, m, l) in
    let long : kept_length w ≤ length cells - cell_number w * size = omega (arith, m, l, b.0) in
    rw (le-leb (cell_number w * size) (length cells) start, le-leb (kept_length w) (length cells - cell_number w * size) long) refl

module _ (count size : ℕ) (cells slots : List ℕ) (whole : all_whole count size slots ≡ true) (room : count * size ≤ length cells) where
  -- slot j, as a question tells of it
  abbrev told : ℕ → Next
  told j = record { answer = Ok true; number = j; start = cell_number (get_or slots j 0) * size; length = kept_length (get_or slots j 0) }

  none_left : (from : ℕ) → from ≡ length slots → asks size slots from ≡ no_section (Ok false)
  unfolding slot_told first_from
  none_left from e =
      let z : length slots - from ≡ 0 = omega (arith, e) in
      rw (z, le-ltb from (length slots) (omega (arith, e))) refl

  is_there : (n from : ℕ) → suc n + from ≡ length slots → filled (get_or slots from 0) ≡ true → asks size slots from ≡ told from
  unfolding slot_told first_from
  is_there n from e f =
      let z : length slots - from ≡ suc n = omega (arith, e) in
      rw (z, f, lt-ltb from (length slots) (omega (arith, e))) refl

  is_empty : (n from : ℕ) → suc n + from ≡ length slots → filled (get_or slots from 0) ≡ false → asks size slots (suc from) ≡ asks size slots from
  unfolding first_from
  is_empty n from e f =
      let z : length slots - from ≡ suc n = omega (arith, e) in
      let y : length slots - suc from ≡ n = omega (arith, e) in
      rw (z, y, f) refl

  reads_from : (n from : ℕ) → n + from ≡ length slots → Reads (asks size slots) cells from (map (kept cells size) (filled_slots (drop from slots))) (Ok false)
  unfolding filled_slots
  reads_from zero from e =
      let q : asks size slots from ≡ no_section (Ok false) = none_left from (omega (arith, e)) in
      let l : length slots ≤ from = omega (arith, e) in
      rw (drop_of_length-le slots l)
      (reads_none (asks size slots) cells from q)
  reads_from (suc n) from e = rw (drop-cons slots from 0 (omega (arith, e))) (go (filled (get_or slots from 0)) refl (reads_from n (suc from) (omega (arith, e))))
    where
      w : ℕ
      w = get_or slots from 0

      go : (b : Bool) → filled (get_or slots from 0) ≡ b → Reads (asks size slots) cells (suc from) (map (kept cells size) (filled_slots (drop (suc from) slots))) (Ok false)
          → Reads (asks size slots) cells from (map (kept cells size) (cond b (get_or slots from 0 ∷ filled_slots (drop (suc from) slots)) (filled_slots (drop (suc from) slots)))) (Ok false)
      go true f r =
          let q : asks size slots from ≡ told from = is_there n from e f in
          let p : part_of cells (asks size slots from).start (asks size slots from).length ≡ kept cells size (get_or slots from 0) =
          ap (λ (x : Next). part_of cells x.start x.length) q
          ∙ part_kept count size (get_or slots from 0) cells (every_get (slot_whole count size) slots 0 from whole (omega (arith, e))) f room in
          let s : suc from ≡ (asks size slots from).number + 1 = (let i : from ≡ (asks size slots from).number = sym (ap (λ (x : Next). x.number) q) in omega (arith, i)) in
          subst (λ (l : List ℕ). Reads (asks size slots) cells from (l ∷ map (kept cells size) (filled_slots (drop (suc from) slots))) (Ok false)) p
          (goes_on (ap (λ (x : Next). x.answer) q)
          (subst (λ (k : ℕ). Reads (asks size slots) cells k (map (kept cells size) (filled_slots (drop (suc from) slots))) (Ok false)) s r))
      go false f r = alike (asks size slots) cells from (suc from) (map (kept cells size) (filled_slots (drop (suc from) slots))) (Ok false) (is_empty n from e f) r

  -- from the first slot on
  pub reads_all : Reads (asks size slots) cells 0 (map (kept cells size) (filled_slots slots)) (Ok false)
  reads_all = reads_from (length slots) 0 (omega arith)

-- where every slot is filled, every slot is read
pub all_filled_lem : (slots : List ℕ) → all_filled slots ≡ true → filled_slots slots ≡ slots
unfolding filled_slots every
all_filled_lem [] h = refl
all_filled_lem (w ∷ ws) h =
    let b = and_true (filled w) (all_filled ws) h in
    rw b.0 (ap (λ (l : List ℕ). w ∷ l) (all_filled_lem ws b.1))
