-- A loop is laid out as parts, or it breaks at a place: one of both, whatever its bytes. The parts that are computed are those that it is laid out as.
-- Assumes nothing.
use mathlib.Core.Path.{◌≡◌, refl, sym, ap, ◌∙◌}
use mathlib.Core.Logic.{⊎_elim}
use Prim.Native.Nat.{ℕ, zero, suc, ◌+◌, ◌≤◌, ◌<◌, ◌-◌}
use native.Mathlib.Omega.{arith}
use mathlib.Core.List.{List, [], ◌∷◌, ◌++◌}
use lib.ListN.{length, take, drop, length-append, length-drop, take-append-drop, get_or-append}
use lib.Seq.{drop-drop, drop-append-add, drop-append_seam, take_at, drop_at, length-take-le, get_or-take}
use borrow.Author.Tests.{ne_eqb}
use Rattle.laws.specs.Entries.{counted_by}
use Rattle.laws.proofs.Tests.{lt_or_le}
use Rattle.listing.specs.Rules.{Part, part, Laid, laid_none, laid_more, Breaks, breaks_short, breaks_past, breaks_later, parts_in, parts_of}

-- laid out, or broken
pub data Judged (m n : ℕ) (s : List ℕ) : Type 0 where
  is_laid : (parts : List Part) → Laid m n s parts → Judged m n s
  is_broken : (parts : List Part) (place : ℕ) → Breaks m n s parts place → Judged m n s

module _ (m n : ℕ) (p : 0 < n) where
  -- the header alone says its count
  pub count_take : (s : List ℕ) → counted_by m n (take n s) ≡ counted_by m n s
  count_take s = rw (get_or-take n s (n - 2) 0 (omega arith), get_or-take n s (n - 1) 0 (omega arith))

  pub count_front : (header rest : List ℕ) → length header ≡ n → counted_by m n (header ++ rest) ≡ counted_by m n header
  count_front header rest h = rw (get_or-append header rest 0 (n - 2) (omega arith), get_or-append header rest 0 (n - 1) (omega arith))

  -- bytes that begin with a whole part
  module _ (s : List ℕ) (l : n ≤ length s) (c : counted_by m n s ≤ length s - n) where
    pub header_long : length (take n s) ≡ n
    header_long = length-take-le n s l

    pub body_long : length (take (counted_by m n s) (drop n s)) ≡ counted_by m n (take n s)
    body_long = length-take-le (counted_by m n s) (drop n s) (simp length-drop c) ∙ sym (count_take s)

    pub put_together : take n s ++ (take (counted_by m n s) (drop n s) ++ drop (n + counted_by m n s) s) ≡ s
    put_together = rw (← drop-drop (counted_by m n s) n s, take-append-drop (counted_by m n s) (drop n s), take-append-drop n s)

  nothing : (s : List ℕ) → length s ≤ 0 → Judged m n s
  nothing [] h = is_laid [] laid_none
  nothing (x ∷ s) h = absurd (omega arith)

  further : (s : List ℕ) → n ≤ length s → counted_by m n s ≤ length s - n → Judged m n (drop (n + counted_by m n s) s) → Judged m n s
  further s l c (is_laid parts d) =
      rw (put_together s l c) at (is_laid (part (take n s) (take (counted_by m n s) (drop n s)) ∷ parts) (laid_more (take n s) (take (counted_by m n s) (drop n s)) (header_long s l c) (body_long s l c) d))
  further s l c (is_broken parts place d) =
      rw (put_together s l c) at (is_broken (part (take n s) (take (counted_by m n s) (drop n s)) ∷ parts) _ (breaks_later (take n s) (take (counted_by m n s) (drop n s)) (header_long s l c) (body_long s l c) d))

  stops : (s : List ℕ) → n ≤ length s → length s - n < counted_by m n s → Judged m n s
  stops s l c =
      let b : Breaks m n (take n s ++ drop n s) [] 0 = breaks_past (take n s) (drop n s) (length-take-le n s l) (rw (length-drop n s, count_take s) c) in
      rw (take-append-drop n s) at (is_broken [] 0 b)

  judged_in : (k : ℕ) (s : List ℕ) → length s ≤ k → Judged m n s
  judged_in zero s h = nothing s h
  judged_in (suc k) s h = ⊎_elim
      (λ (z : length s < 1). nothing s (omega arith))
      (λ (z : 1 ≤ length s). ⊎_elim
      (λ (l : length s < n). is_broken [] 0 (breaks_short s z l))
      (λ (l : n ≤ length s). ⊎_elim
      (λ (c : length s - n < counted_by m n s). stops s l c)
      (λ (c : counted_by m n s ≤ length s - n). further s l c (judged_in k (drop (n + counted_by m n s) s) (simp length-drop (omega arith))))
      (lt_or_le (length s - n) (counted_by m n s)))
      (lt_or_le (length s) n))
      (lt_or_le (length s) 1)

  pub judged : (s : List ℕ) → Judged m n s
  judged s = judged_in (length s) s (omega arith)

  -- the parts that are computed
  parts_in_lem : {s : List ℕ} {parts : List Part} → Laid m n s parts → (k : ℕ) → length s ≤ k → parts_in m n k s ≡ parts
  unfolding parts_in
  parts_in_lem laid_none zero h = refl
  parts_in_lem laid_none (suc k) h = refl
  parts_in_lem (laid_more header body {rest} {parts} h b d) zero l = absurd (omega (arith, length-append header (body ++ rest)))
  parts_in_lem (laid_more header body {rest} {parts} h b d) (suc k) l =
      let e : counted_by m n (header ++ (body ++ rest)) ≡ length body = count_front header (body ++ rest) h ∙ sym b in
      let z : length (header ++ (body ++ rest)) ≡ length header + (length body + length rest) = length-append header (body ++ rest) ∙ ap (λ (i : ℕ). length header + i) (length-append body rest) in
      let r : drop (n + length body) (header ++ (body ++ rest)) ≡ rest = rw (← h, drop-append-add header (body ++ rest) (length body), drop-append_seam body rest) in
      simp (ne_eqb (length (header ++ (body ++ rest))) 0 (λ (q : length (header ++ (body ++ rest)) ≡ 0). absurd (omega arith)))
      (rw (e, r, take_at header (body ++ rest) n h, drop_at header (body ++ rest) n h, take_at body rest (length body) refl, parts_in_lem d k (omega arith)))

  pub parts_are : {s : List ℕ} {parts : List Part} → Laid m n s parts → parts_of m n s ≡ parts
  unfolding parts_of
  parts_are {s} d = parts_in_lem d (length s) (omega arith)
