-- Each call has one answer and one content of each array and slice that is lent, for every input: two answers and exit contents that meet its
-- promise are equal.
-- Assumes nothing.
use Prim.Native.Nat.{ℕ}
use mathlib.Core.Path.{◌≡◌, ap}
use mathlib.Core.List.{List}
use Rattle.laws.proofs.Unique.{one_result}
use Rattle.pats.specs.Store.{Record}
use Rattle.host_indexed.specs.Calls.{GateBegun, begun, gate_opened, GateLeft, left, gate_offered}

pub unique_indexed_open :
    (gate : List ℕ) (capacity settings rule : ℕ) (extra keys changes buckets links slots cells watch : List ℕ) (r s : ℕ) (g h b c w x : List ℕ) →
    begun r g b w ≡ gate_opened gate capacity settings rule extra keys changes buckets links slots cells watch →
    begun s h c x ≡ gate_opened gate capacity settings rule extra keys changes buckets links slots cells watch →
    (r ≡ s) × (g ≡ h) × (b ≡ c) × (w ≡ x)
unique_indexed_open gate capacity settings rule extra keys changes buckets links slots cells watch r s g h b c w x p q =
    let e : begun r g b w ≡ begun s h c x = one_result (gate_opened gate capacity settings rule extra keys changes buckets links slots cells watch) p q in (
      ap (λ (t : GateBegun). t.answer) e,
      ap (λ (t : GateBegun). t.gate) e,
      ap (λ (t : GateBegun). t.buckets) e,
      ap (λ (t : GateBegun). t.watch) e,
    )

pub unique_indexed_offer :
    (gate keys changes buckets links : List ℕ) (watch : Record) (input pid : ℕ) (section failure : List ℕ) (r s : ℕ) (g h k l m n b c d i : List ℕ) (w x : Record) (y z : List ℕ) →
    left r g k m b d w y ≡ gate_offered gate keys changes buckets links watch input pid section failure →
    left s h l n c i x z ≡ gate_offered gate keys changes buckets links watch input pid section failure →
    (r ≡ s) × (g ≡ h) × (k ≡ l) × (m ≡ n) × (b ≡ c) × (d ≡ i) × (w ≡ x) × (y ≡ z)
unique_indexed_offer gate keys changes buckets links watch input pid section failure r s g h k l m n b c d i w x y z p q =
    let e : left r g k m b d w y ≡ left s h l n c i x z = one_result (gate_offered gate keys changes buckets links watch input pid section failure) p q in (
      ap (λ (t : GateLeft). t.answer) e,
      ap (λ (t : GateLeft). t.gate) e,
      ap (λ (t : GateLeft). t.keys) e,
      ap (λ (t : GateLeft). t.changes) e,
      ap (λ (t : GateLeft). t.buckets) e,
      ap (λ (t : GateLeft). t.links) e,
      ap (λ (t : GateLeft). t.watch) e,
      ap (λ (t : GateLeft). t.failure) e,
    )
