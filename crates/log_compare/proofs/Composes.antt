-- What is said of a log, taken apart: records that are expected first are passed, or the first that is wrong decides; then what is left of the log is
-- looked at beside what is left of the records.
-- Assumes nothing.
use mathlib.Core.Path.{◌≡◌, refl, sym, ap, ◌∙◌}
use mathlib.Core.Bool.{Bool, true, false, cond}
use mathlib.Core.List.{List, [], ◌∷◌, ◌++◌}
use Prim.Native.Nat.{ℕ, ◌+◌, ◌-◌, ◌≤◌, ◌<◌}
use native.Mathlib.Omega.{arith}
use lib.Dec.{ltb, eqb}
use lib.ListN.{length, take, drop, get_or, length-drop}
use lib.Seq.{get_or-drop, drop-drop}
use borrow.Author.Tests.{le-leb, lt-leb}
use Rattle.laws.specs.Lists.{same_list}
use Rattle.laws.proofs.Lists.{get_d_ix}
use Rattle.rules_logs.specs.Records.{Bytes, record_size}
use Rattle.rules_logs.specs.Verdict.{unknown, cut_off, too_many, differs, verdict}
use Rattle.std.specs.Prelude.{Result, Ok, Err}
use Rattle.log_compare.specs.declared.Wrong.{Wrong}
use Rattle.log_compare.specs.declared.Wrong.TheVariants as wrong
use Rattle.log_compare.specs.Compare.{verdict_of, met_of, onward, passed_one, passed, finished, goes_on}

module _ (log : Bytes) (p : ℕ) where
  at_end_lem : drop p log ≡ [] → length log ≤ p
  at_end_lem d = let n = length-drop p log in let m = ap length d in omega (arith, n, m)

  module _ {k : ℕ} {l : Bytes} (d : drop p log ≡ k ∷ l) where
    before_end : p < length log
    before_end = let n = length-drop p log in let m = ap length d in omega (arith, n, m)

    left : length log - p ≡ length (k ∷ l)
    left = sym (length-drop p log) ∙ ap length d

    kind : get_or log p 0 ≡ k
    kind = let here : p + 0 ≡ p = omega arith in sym (get_or-drop p log 0 0 ∙ get_d_ix log 0 here) ∙ ap (λ (x : Bytes). get_or x 0 0) d

    -- a record that begins here
    there : Bool → Bool → Result ℕ Wrong
    there a b = cond a (Err (wrong.Unknown p)) (cond b (Err (wrong.CutOff p)) (Ok (p + record_size k)))

    met_there : met_of log p ≡ there (eqb (record_size k) 0) (ltb (length (k ∷ l)) (record_size k))
    unfolding met_of there
    met_there = rw (kind, left) refl

-- none is expected any more
pub finish_says : (log : Bytes) (p : ℕ) → verdict p (drop p log) [] ≡ verdict_of (finished log p)
unfolding verdict finished there
finish_says log p = go (drop p log) refl
  where
    go : (l : Bytes) → drop p log ≡ l → verdict p l [] ≡ verdict_of (finished log p)
    go [] d = rw (le-leb (length log) p (at_end_lem log p d)) refl
    go (k ∷ l) d = rw (lt-leb (length log) p (before_end log p d), met_there log p d) (by (eqb (record_size k) 0) (ltb (length (k ∷ l)) (record_size k)))
      where
        by : (a b : Bool) → cond a (unknown p) (cond b (cut_off p) (too_many p))
            ≡ verdict_of (onward (there log p d a b) (λ q. Err (wrong.TooMany p)))
        by true b = refl
        by false true = refl
        by false false = refl

-- es are expected first, and then the rest
pub composes : (log : Bytes) (es rest : List Bytes) (p : ℕ) → verdict p (drop p log) (es ++ rest) ≡ goes_on log rest (passed log p es)
unfolding verdict passed passed_one there
composes log [] rest p = refl
composes log (e ∷ es) rest p = go (drop p log) refl (composes log es rest)
  where
    go : (l : Bytes) → drop p log ≡ l → ((q : ℕ) → verdict q (drop q log) (es ++ rest) ≡ goes_on log rest (passed log q es))
        → verdict p l (e ∷ (es ++ rest)) ≡ goes_on log rest (passed log p (e ∷ es))
    go [] d on = rw (le-leb (length log) p (at_end_lem log p d)) refl
    go (k ∷ l) d on =
        rw (lt-leb (length log) p (before_end log p d), met_there log p d, d)
        (by (eqb (record_size k) 0) (ltb (length (k ∷ l)) (record_size k)))
      where
        size : ℕ
        size = record_size k

        one : Bool → Bool → Result ℕ Wrong
        one a b = onward (there log p d a b) (λ q. cond (same_list (take (q - p) (k ∷ l)) e) (Ok q) (Err (wrong.Differs p)))

        then : verdict (p + size) (drop size (k ∷ l)) (es ++ rest) ≡ goes_on log rest (passed log (p + size) es)
        then = rw (← d, drop-drop size p log) (on (p + size))

        same : (c : Bool) → cond c (verdict (p + size) (drop size (k ∷ l)) (es ++ rest)) (differs p)
            ≡ goes_on log rest (onward (cond c (Ok (p + size)) (Err (wrong.Differs p))) (λ q. passed log q es))
        same true = then
        same false = refl

        by : (a b : Bool) → cond a (unknown p) (cond b (cut_off p) (cond (same_list (take size (k ∷ l)) e) (verdict (p + size) (drop size (k ∷ l)) (es ++ rest)) (differs p)))
            ≡ goes_on log rest (onward (one a b) (λ q. passed log q es))
        by true b = refl
        by false true = refl
        by false false = let n : (p + size) - p ≡ size = omega arith in rw n (same (same_list (take size (k ∷ l)) e))
