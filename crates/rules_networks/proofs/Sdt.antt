-- The reader of services refuses nothing exactly where the section is laid out as the standard says.
-- Assumes nothing.
use mathlib.Core.Path.{◌≡◌, refl, sym, ap, ◌∙◌, subst}
use mathlib.Core.Bool.{Bool, true, false, cond, true≢false}
use Prim.Native.Nat.{ℕ, zero, suc, ◌+◌, ◌*◌, ◌-◌, ◌≤◌, ◌<◌}
use native.Mathlib.Omega.{arith}
use mathlib.Core.List.{List, [], ◌∷◌, ◌++◌}
use lib.ListN.{length, take, drop, length-append, length-drop, take-append-drop}
use lib.Seq.{take-append-add, drop_at, take_at, length-take-le, drop-drop}
use lib.Dec.{ltb}
use borrow.Author.Tests.{ltb-false, le-ltb}
use Rattle.laws.proofs.Lists.{drop_take}
use Rattle.listing.specs.Rules.{Item, Whole}
use Rattle.listing.specs.Store.{Found, done, found_from}
use Rattle.listing.proofs.Listed.{found_items, whole_found}
use Rattle.rules_networks.specs.Networks.{length_wrong, crc_at, services_found, broken_in, sdt_broken, SdtWhole, sdt_laid}
use Rattle.rules_networks.proofs.Listed.{services_listed, items_broken}

-- ---- from the test to the layout

parts_of_lem : (b c : Bool) (n : ℕ) → cond b 2 (cond c 12 n) ≡ 0 → (b ≡ false) × (c ≡ false) × (n ≡ 0)
parts_of_lem true c n e = absurd (omega arith)
parts_of_lem false true n e = absurd (omega arith)
parts_of_lem false false n e = (refl, refl, e)

together : (s : List ℕ) → 15 ≤ length s → take 11 s ++ (drop 11 (take (crc_at s) s) ++ drop (crc_at s) s) ≡ s
together s h =
    let a : 11 + (crc_at s - 11) ≡ crc_at s = omega arith in
    let b : drop 11 (take (crc_at s) s) ≡ take (crc_at s - 11) (drop 11 s) = ap (λ (n : ℕ). drop 11 (take n s)) (sym a) ∙ drop_take 11 (crc_at s - 11) s in
    let c : drop (crc_at s) s ≡ drop (crc_at s - 11) (drop 11 s) = ap (λ (n : ℕ). drop n s) (sym a) ∙ sym (drop-drop (crc_at s - 11) 11 s) in
    rw (b, c, take-append-drop (crc_at s - 11) (drop 11 s), take-append-drop 11 s)

pub sdt_passed : (s : List ℕ) → sdt_broken s ≡ 0 → (length_wrong s ≡ false) × (15 ≤ length s) × (broken_in (services_found s) ≡ 0)
unfolding sdt_broken
sdt_passed s e = let p = parts_of_lem (length_wrong s) (ltb (length s) 15) (broken_in (services_found s)) e in (p.0, ltb-false (length s) 15 p.1, p.2)

pub sdt_laid_out : (s : List ℕ) → sdt_broken s ≡ 0 → (length_wrong s ≡ false) × SdtWhole s
sdt_laid_out s e =
    let p = sdt_passed s e in
    let h = p.1 in
    let w = services_listed s 0 0 p.2 in
    let l : length (drop (crc_at s) s) ≡ 4 = length-drop (crc_at s) s ∙ omega arith in
    (p.0, subst SdtWhole (together s h) (sdt_laid (take 11 s) (drop 11 (take (crc_at s) s)) (drop (crc_at s) s) w.items (length-take-le 11 s (omega arith)) l w.whole))

-- ---- and back

loop_there : (head loop crc : List ℕ) → length head ≡ 11 → length crc ≡ 4 → drop 11 (take (crc_at (head ++ (loop ++ crc))) (head ++ (loop ++ crc))) ≡ loop
loop_there head loop crc h l =
    let z : length (head ++ (loop ++ crc)) ≡ length head + (length loop + length crc) = length-append head (loop ++ crc) ∙ ap (λ (i : ℕ). length head + i) (length-append loop crc) in
    let n : crc_at (head ++ (loop ++ crc)) ≡ length head + length loop = omega arith in
    rw (n, take-append-add head (loop ++ crc) (length loop), take_at loop crc (length loop) refl) (drop_at head loop 11 h)

laid_unbroken : {s : List ℕ} → SdtWhole s → (15 ≤ length s) × (broken_in (services_found s) ≡ 0)
unfolding found_from broken_in
laid_unbroken (sdt_laid head loop crc items h l w) =
    let s : List ℕ = head ++ (loop ++ crc) in
    let z : length s ≡ length head + (length loop + length crc) = length-append head (loop ++ crc) ∙ ap (λ (i : ℕ). length head + i) (length-append loop crc) in
    (omega arith, ap broken_in (whole_found 5 (omega arith) (rw (loop_there head loop crc h l) w) 11) ∙ items_broken 11 items done)

pub sdt_whole : (s : List ℕ) → length_wrong s ≡ false → SdtWhole s → sdt_broken s ≡ 0
unfolding sdt_broken
sdt_whole s e w = let p = laid_unbroken w in rw (e, le-ltb (length s) 15 p.0) p.1
