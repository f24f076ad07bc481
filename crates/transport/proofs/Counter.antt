-- The continuity counter: a packet sent after the last one that arrived is never taken for a repeat, and for the next one only if it is.
-- Assumes nothing.
use mathlib.Core.Path.{◌≡◌, refl, sym, ap, ◌∙◌, subst}
use mathlib.Core.Logic.{◌≢◌}
use mathlib.Core.Bool.{Bool, true, false, cond, ◌&&◌, not}
use mathlib.Core.Option.{Option, none, some}
use mathlib.Core.List.{List, [], ◌∷◌, ◌++◌}
use borrow.Author.Tests.{eq-eqb, ne_eqb}
use Prim.Native.Nat.{ℕ, zero, suc, ◌+◌, ◌%◌, ◌≤◌, ◌<◌}
use native.Mathlib.Omega.{arith}
use lib.Dec.{eqb}
use Rattle.transport.specs.Rules.{Bytes, Packet, State, Step, next, repeats, follows, settle, ignored, judged, taken, step}
use Rattle.transport.specs.Sender.{packet, Loses, early, late}

-- where the receiver stands when the sender's next counter is n: u is what it will go on with. g: packets lost since the last that arrived
pub data Lag (s : State) : Option ℕ → ℕ → Bytes → Type 0 where
  fresh : {n : ℕ} → s.last ≡ none → Lag s none n []
  close : {n : ℕ} (c j : ℕ) → s.last ≡ some c → c < 16 → n ≡ next c → j ≤ 14 → Lag s (some j) n s.under
  far : {n : ℕ} (c d j : ℕ) → s.last ≡ some c → c < 16 → n ≡ (c + d + 2) % 16 → d < j → j ≤ 14 → Lag s (some j) n []

pub next_small : (n : ℕ) → next n < 16
unfolding next
next_small n = omega arith

-- the next packet arrives
pub arrive : (s : State) (g : Option ℕ) (n : ℕ) (u : Bytes) (start : Bool) (payload : Bytes) → Lag s g n u
    → step s (packet n start payload) ≡ settle n (taken u start payload)
unfolding step judged repeats follows next
arrive s g n u start payload (fresh e) = rw e refl
arrive s g n u start payload (close c j e h q k) = rw (e, ne_eqb n c (λ p. omega arith), eq-eqb n ((c + 1) % 16) q) refl
arrive s g n u start payload (far c d j e h q k l) = rw (e, ne_eqb n c (λ p. omega arith), ne_eqb n ((c + 1) % 16) (λ p. omega arith)) refl

-- it is lost
pub miss : (s : State) (g g' : Option ℕ) (n : ℕ) (u : Bytes) → Lag s g n u → Loses g g' → Lag s g' (next n) []
unfolding next
miss s g g' n u (fresh e) early = fresh e
miss s g g' n u (close c j e h q k) (late i l) = far {n = next n} c 0 (suc i) e h (omega arith) (omega arith) (omega arith)
miss s g g' n u (far c d j e h q k k') (late i l) = far {n = next n} c (suc d) (suc i) e h (omega arith) (omega arith) (omega arith)

-- the repeat of a packet arrives
pub repeat : (s : State) (n : ℕ) (start : Bool) (payload : Bytes) → s.last ≡ some n → s.again ≡ false → step s (packet n start payload) ≡ ignored s
unfolding step judged repeats
repeat s n start payload e a = rw (e, a, eq-eqb n n refl) refl
