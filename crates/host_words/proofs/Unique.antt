-- An answer and words that meet a promise are one.
-- Assumes nothing.
use Prim.Native.Nat.{ℕ}
use mathlib.Core.Path.{◌≡◌, ap}
use mathlib.Core.List.{List}
use Rattle.laws.proofs.Unique.{one_result}
use Rattle.host_words.specs.Answers.{Words, words}

pub words_one : (d : Words) (r s : ℕ) (w x : List ℕ) → words r w ≡ d → words s x ≡ d → (r ≡ s) × (w ≡ x)
words_one d r s w x a b =
    let e : words r w ≡ words s x = one_result d a b in
    (ap (λ (t : Words). t.answer) e, ap (λ (t : Words). t.now) e)
