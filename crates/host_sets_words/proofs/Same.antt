-- Where what the words stand for is as it was, the words are as they were, each of them.
-- Assumes nothing.
use Prim.Native.Nat.{ℕ}
use mathlib.Core.Path.{◌≡◌, sym}
use mathlib.Core.List.{List}
use native.Mathlib.Omega.{arith}
use lib.ListN.{length}
use Rattle.host_words.proofs.Same.{word, none}
use Rattle.host_sets_words.specs.Words as collectors

pub sets_same : (w : List ℕ) → length w ≡ 6 → collectors.words_after w (collectors.sets_of w) ≡ w
sets_same w h =
    sym
    (word w 0 _ (omega arith)
    (word w 1 _ (omega arith)
    (word w 2 _ (omega arith)
    (word w 3 _ (omega arith)
    (word w 4 _ (omega arith)
    (word w 5 _ (omega arith)
    (none w 6 h)))))))
