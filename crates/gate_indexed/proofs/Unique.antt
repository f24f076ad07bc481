-- Each public call has one answer and one content of each lent slice for every input: two results and exit contents that meet its promise are
-- equal.
-- Assumes nothing.
use Prim.Native.Nat.{ℕ}
use mathlib.Core.Path.{◌≡◌, ap}
use mathlib.Core.List.{List}
use Rattle.laws.proofs.Unique.{one_result}
use Rattle.answers.proofs.Laws.{outcome_apart}
use Rattle.ring_index.specs.Store.{Index}
use Rattle.gate_state.specs.declared.Settings.{Settings}
use Rattle.gate_state.specs.declared.Opened.{Opened}
use Rattle.gate_state.specs.declared.Offered.{Offered}
use Rattle.gate_state.proofs.Unique.{answer_one}
use Rattle.gate_indexed.specs.Store.{Begun, begun_by, opened_by, Indexed, Offering, left_by, offered_by}

pub open_unique :
    (s : Settings) (extra : List ℕ) (keys changes links : ℕ) (buckets words : List ℕ) (o p : Opened) (bs ds ws xs : List ℕ) →
    begun_by o bs ws ≡ opened_by s extra keys changes links buckets words → begun_by p ds xs ≡ opened_by s extra keys changes links buckets words →
    (o ≡ p) × (bs ≡ ds) × (ws ≡ xs)
open_unique s extra keys changes links buckets words o p bs ds ws xs a b =
    let e : begun_by o bs ws ≡ begun_by p ds xs = one_result (opened_by s extra keys changes links buckets words) a b in
    let n : o.answer ≡ p.answer = outcome_apart o.answer p.answer (ap (λ (l : Begun). l.answer) e) in
    let g = ap (λ (l : Begun). l.gate) e in
    let c = ap (λ (l : Begun). l.counters) e in
    (λ i. record { answer = n i; gate = g i; counters = c i }, ap (λ (l : Begun). l.buckets) e, ap (λ (l : Begun). l.words) e)

pub offer_unique :
    (s : Indexed) (input pid : ℕ) (section : List ℕ) (o p : Offered) (ks ls ms ns : List ℕ) (x y : Index) (ws xs : List ℕ) →
    left_by o ks ms x ws ≡ offered_by s input pid section → left_by p ls ns y xs ≡ offered_by s input pid section →
    (o ≡ p) × (ks ≡ ls) × (ms ≡ ns) × (x ≡ y) × (ws ≡ xs)
offer_unique s input pid section o p ks ls ms ns x y ws xs a b =
    let e : left_by o ks ms x ws ≡ left_by p ls ns y xs = one_result (offered_by s input pid section) a b in
    let n : o.answer ≡ p.answer = answer_one o.answer p.answer (ap (λ (l : Offering). l.answer) e) in
    let g = ap (λ (l : Offering). l.left.store.gate) e in
    let c = ap (λ (l : Offering). l.left.store.counters) e in (
      λ i. record { answer = n i; gate = g i; counters = c i },
      ap (λ (l : Offering). l.left.store.keys) e,
      ap (λ (l : Offering). l.left.store.changes) e,
      ap (λ (l : Offering). l.left.index) e,
      ap (λ (l : Offering). l.left.store.words) e,
    )
