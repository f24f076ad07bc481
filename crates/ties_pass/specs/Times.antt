-- Packets fed one by one, open in the gate.
use Rattle.std.specs.Prelude.{◌≡◌, List, ℕ, zero, suc, take, drop}
use Rattle.demux_state.specs.State.{finished}
use Rattle.demux_store.specs.Carried.{StoreOf, LeftOf}

module _ {S : Type 0} (feeds : StoreOf S → (input : ℕ) → List ℕ → LeftOf S) where
  -- what n packets leave
  unfoldable pub fed_times : (n : ℕ) → StoreOf S → (input : ℕ) → List ℕ → StoreOf S
  fed_times zero s input packets = s
  fed_times (suc n) s input packets = fed_times n (feeds s input (take 188 packets)).store input (drop 188 packets)

  -- each of n packets is answered with 29 and no section
  unfoldable pub AllSilent : (n : ℕ) → StoreOf S → (input : ℕ) → List ℕ → Type 0
  AllSilent zero s input packets = Unit {0}
  AllSilent (suc n) s input packets = ((feeds s input (take 188 packets)).answer ≡ finished 0) × AllSilent n (feeds s input (take 188 packets)).store input (drop 188 packets)
