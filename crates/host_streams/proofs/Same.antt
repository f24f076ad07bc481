-- Where what the words stand for is as it was, the words are as they were, each of them; and what an answer counts, in the words.
-- Assumes nothing.
use Prim.Native.Nat.{ℕ, ◌+◌}
use mathlib.Core.Path.{◌≡◌, refl, sym}
use mathlib.Core.List.{List, [], ◌∷◌}
use mathlib.Core.Bool.{Bool, true, false, cond}
use native.Mathlib.Omega.{arith}
use lib.ListN.{length}
use lib.Dec.{eqb}
use Rattle.streams.specs.declared.Streams.{Streams}
use Rattle.demux_state.specs.State.{packet_counted, malformed_counted}
use Rattle.host_words.specs.Answers.{at}
use Rattle.host_words.proofs.Same.{word, none}
use Rattle.host_streams.specs.Words.{streams_of, words_after, counts_after}

pub streams_same : (w : List ℕ) → length w ≡ 3 → words_after w (streams_of w) ≡ w
streams_same w h = sym (word w 0 _ (omega arith) (word w 1 _ (omega arith) (word w 2 _ (omega arith) (none w 3 h))))

pub counts_same : (w : List ℕ) → length w ≡ 3 → (answer : ℕ)
    → words_after w (cond (eqb answer 30) (malformed_counted (streams_of w)) (cond (eqb answer 43) (packet_counted (streams_of w)) (streams_of w))) ≡ counts_after answer w
counts_same w h answer = go (eqb answer 30) (eqb answer 43)
  where
    go : (a b : Bool)
        → words_after w (cond a (malformed_counted (streams_of w)) (cond b (packet_counted (streams_of w)) (streams_of w)))
        ≡ cond a (at w 0 ∷ (at w 1 + 1) ∷ (at w 2 + 1) ∷ []) (cond b (at w 0 ∷ (at w 1 + 1) ∷ at w 2 ∷ []) w)
    go true b = refl
    go false true = refl
    go false false = streams_same w h
