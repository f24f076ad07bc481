-- Each call has one answer and one content of each array and slice that is lent, for every input: two answers and exit contents that meet its
-- promise are equal.
-- Assumes nothing.
use Prim.Native.Nat.{ℕ}
use mathlib.Core.Path.{◌≡◌, ap}
use mathlib.Core.List.{List}
use Rattle.laws.proofs.Unique.{one_result}
use Rattle.pats.specs.Store.{Record}
use Rattle.host_words.specs.Answers.{Words, words}
use Rattle.host_gate.specs.Calls.{GateBegun, begun, gate_opened, GateLeft, left, gate_offered, watch_opened, watch_asked}

pub unique_gate_open :
    (gate : List ℕ) (capacity settings rule : ℕ) (extra keys changes slots cells watch : List ℕ) (r s : ℕ) (g h w x : List ℕ) →
    begun r g w ≡ gate_opened gate capacity settings rule extra keys changes slots cells watch → begun s h x ≡ gate_opened gate capacity settings rule extra keys changes slots cells watch →
    (r ≡ s) × (g ≡ h) × (w ≡ x)
unique_gate_open gate capacity settings rule extra keys changes slots cells watch r s g h w x a b =
    let e : begun r g w ≡ begun s h x = one_result (gate_opened gate capacity settings rule extra keys changes slots cells watch) a b in
    (ap (λ (l : GateBegun). l.answer) e, ap (λ (l : GateBegun). l.gate) e, ap (λ (l : GateBegun). l.watch) e)

pub unique_gate_offer :
    (gate keys changes : List ℕ) (watch : Record) (input pid : ℕ) (section failure : List ℕ) (r s : ℕ) (g h k l m n : List ℕ) (w x : Record) (y z : List ℕ) →
    left r g k m w y ≡ gate_offered gate keys changes watch input pid section failure → left s h l n x z ≡ gate_offered gate keys changes watch input pid section failure →
    (r ≡ s) × (g ≡ h) × (k ≡ l) × (m ≡ n) × (w ≡ x) × (y ≡ z)
unique_gate_offer gate keys changes watch input pid section failure r s g h k l m n w x y z a b =
    let e : left r g k m w y ≡ left s h l n x z = one_result (gate_offered gate keys changes watch input pid section failure) a b in
    (ap (λ (t : GateLeft). t.answer) e, ap (λ (t : GateLeft). t.gate) e, ap (λ (t : GateLeft). t.keys) e, ap (λ (t : GateLeft). t.changes) e, ap (λ (t : GateLeft). t.watch) e, ap (λ (t : GateLeft). t.failure) e)

pub unique_watch_open :
    (settings : ℕ) (extra slots cells watch : List ℕ) (r s : ℕ) (w x : List ℕ) →
    words r w ≡ watch_opened settings extra slots cells watch → words s x ≡ watch_opened settings extra slots cells watch → (r ≡ s) × (w ≡ x)
unique_watch_open settings extra slots cells watch r s w x a b =
    let e : words r w ≡ words s x = one_result (watch_opened settings extra slots cells watch) a b in
    (ap (λ (l : Words). l.answer) e, ap (λ (l : Words). l.now) e)

pub unique_watch_ask : (watch : List ℕ) (pid r s : ℕ) → r ≡ watch_asked watch pid → s ≡ watch_asked watch pid → r ≡ s
unique_watch_ask watch pid r s = one_result (watch_asked watch pid)
