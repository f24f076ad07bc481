-- A section's walk: its places are not before its first event, it has no more entries than bytes, and its end is told as its answer.
-- Assumes nothing.
use mathlib.Core.Path.{◌≡◌, refl, ap, ◌∙◌}
use mathlib.Core.Bool.{Bool, true, false, cond}
use Prim.Native.Nat.{ℕ, zero, suc, ◌+◌, ◌-◌, ◌≤◌, min}
use native.Mathlib.Nat.{add-zero}
use native.Mathlib.Omega.{arith}
use mathlib.Core.List.{List, [], ◌∷◌}
use lib.ListN.{length, get_or, take, drop, length-take}
use lib.Dec.{ltb}
use Rattle.laws.specs.Entries.{counted}
use Rattle.eit_section.specs.Eit.{eit_of}
use Rattle.std.specs.Prelude.{Result, Ok, Err}
use Rattle.eit_section.specs.declared.Eit.{Eit}
use Rattle.answers.specs.declared.Refusal.{Refusal}
use Rattle.answers.specs.declared.Refusal.TheVariants as refusal
use Rattle.listing.specs.Store.{Found, done, past, entry, descriptor, walk, found_from, words_of, end_of}
use Rattle.listing.proofs.Bounds.{two_bytes}
use Rattle.shown_sections.specs.Shown.{End, finished, no_eit, broken, past_loop, end_by, good_show, show_by, section_show, reached_as, reached_by, From}

-- ---- places

module _ (start n : ℕ) where
  pick : (b : Bool) (x y : Found) (k : ℕ) → From start (end_of k x) → From start (end_of k y) → From start (end_of k (cond b x y))
  pick true x y k p q = p
  pick false x y k p q = q

  from_walk : (r : List ℕ) (pass left at k : ℕ) → start ≤ at → From start (end_of k (walk n r pass left at))
  unfolding walk end_of
  from_walk [] pass left at k h = tt
  from_walk (b ∷ t) (suc pass) left at k h = from_walk t pass left (suc at) k (omega arith)
  from_walk (b ∷ t) zero zero at k h =
      pick (ltb (length (b ∷ t)) n) (past at) _ k h
      (pick (ltb (length (b ∷ t) - n) (counted n (b ∷ t))) (past at) _ k h
      (from_walk t (n - 1) (counted n (b ∷ t)) (suc at) (k + 1) (omega arith)))
  from_walk (b ∷ t) zero (suc left) at k h =
      pick (ltb (suc left) 2) (past at) _ k h
      (pick (ltb (suc left - 2) (get_or t 0 0)) (past at) _ k h
      (from_walk t (1 + get_or t 0 0) (suc left - 2 - get_or t 0 0) (suc at) (k + 1) (omega arith)))

  pub from_start : (s : List ℕ) (at k : ℕ) → start ≤ at → From start (end_of k (found_from n s at 0))
  unfolding found_from
  from_start s at k h = from_walk (drop at s) 0 0 at k h

-- ---- how many

pub good_few : (bytes : List ℕ) (start size number : ℕ) → length (good_show bytes start size number).entries ≤ size
unfolding good_show
good_few bytes start size number =
    let h = two_bytes 0 number 12 (omega arith) (take (start + size - 4) bytes) (start + 14) in
    let l : length (take (start + size - 4) bytes) ≡ min (start + size - 4) (length bytes) = length-take (start + size - 4) bytes in
    omega arith

by_few : (bytes : List ℕ) (start size number : ℕ) (x : Result Eit Refusal) → length (show_by bytes start size number x).entries ≤ size
by_few bytes start size number (Err refusal.NotEit) = omega arith
by_few bytes start size number (Err r) = omega arith
by_few bytes start size number (Ok e) = good_few bytes start size number

pub section_few : (bytes : List ℕ) (start size number : ℕ) → length (section_show bytes start size number).entries ≤ size
unfolding section_show
section_few bytes start size number = by_few bytes start size number (eit_of (take size (drop start bytes)))

-- ---- how it ends

pub reached_is : (number start : ℕ) (f : Found) (k : ℕ) → reached_by number start (end_of k f) ≡ reached_as (k + length (words_of 0 number f)) (end_by number start f)
unfolding end_of words_of end_by
reached_is number start done k = rw add-zero
reached_is number start (past at) k = rw add-zero
reached_is number start (entry at header f) k = reached_is number start f (k + 1) ∙ ap (λ (j : ℕ). reached_as j (end_by number start f)) (omega arith)
reached_is number start (descriptor at tag size f) k = reached_is number start f (k + 1) ∙ ap (λ (j : ℕ). reached_as j (end_by number start f)) (omega arith)

pub count_is : (count : ℕ) (e : End) → (reached_as count e).count ≡ count
count_is count finished = refl
count_is count (no_eit section) = refl
count_is count (broken section) = refl
count_is count (past_loop section place) = refl
