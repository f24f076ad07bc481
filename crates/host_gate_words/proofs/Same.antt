-- Where what the words stand for is as it was, the words are as they were, each of them.
-- Assumes nothing.
use Prim.Native.Nat.{ℕ}
use mathlib.Core.Path.{◌≡◌, sym}
use mathlib.Core.List.{List}
use native.Mathlib.Omega.{arith}
use lib.ListN.{length}
use Rattle.host_words.proofs.Same.{word, none}
use Rattle.host_gate_words.specs.Words.{gate_of, counters_of, words_after}

pub gate_same : (w : List ℕ) → length w ≡ 13 → words_after w (gate_of w) (counters_of w) ≡ w
gate_same w h =
    sym
    (word w 0 _ (omega arith)
    (word w 1 _ (omega arith)
    (word w 2 _ (omega arith)
    (word w 3 _ (omega arith)
    (word w 4 _ (omega arith)
    (word w 5 _ (omega arith)
    (word w 6 _ (omega arith)
    (word w 7 _ (omega arith)
    (word w 8 _ (omega arith)
    (word w 9 _ (omega arith)
    (word w 10 _ (omega arith)
    (word w 11 _ (omega arith)
    (word w 12 _ (omega arith)
    (none w 13 h))))))))))))))
