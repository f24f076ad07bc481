-- Each public call has one answer and one content of each lent slice for every input: two results and exit contents that meet its promise are
-- equal.
-- Assumes nothing.
use Prim.Native.Nat.{ℕ}
use mathlib.Core.Path.{◌≡◌, ap}
use mathlib.Core.List.{List}
use Rattle.laws.proofs.Unique.{one_result}
use Rattle.answers.proofs.Laws.{outcome_apart}
use Rattle.gate_state.proofs.Unique.{answer_one}
use Rattle.gate.specs.Store.{Begun, begun_by, opened, Store, Offering, left_by, offered}
use Rattle.gate_state.specs.declared.Settings.{Settings}
use Rattle.gate_state.specs.declared.Opened.{Opened}
use Rattle.gate_state.specs.declared.Offered.{Offered}

pub begun_one : (o p : Opened) (ws xs : List ℕ) → begun_by o ws ≡ begun_by p xs → (o ≡ p) × (ws ≡ xs)
begun_one o p ws xs e =
    let n : o.answer ≡ p.answer = outcome_apart o.answer p.answer (ap (λ (l : Begun). l.answer) e) in
    let g = ap (λ (l : Begun). l.gate) e in
    let c = ap (λ (l : Begun). l.counters) e in
    (λ i. record { answer = n i; gate = g i; counters = c i }, ap (λ (l : Begun). l.words) e)

pub open_unique :
    (s : Settings) (extra : List ℕ) (keys changes : ℕ) (words : List ℕ) (o p : Opened) (ws xs : List ℕ) →
    begun_by o ws ≡ opened s extra keys changes words → begun_by p xs ≡ opened s extra keys changes words → (o ≡ p) × (ws ≡ xs)
open_unique s extra keys changes words o p ws xs a b = begun_one o p ws xs (one_result (opened s extra keys changes words) a b)

pub offer_unique :
    (s : Store) (input pid : ℕ) (section : List ℕ) (o p : Offered) (ks ls ms ns ws xs : List ℕ) →
    left_by o ks ms ws ≡ offered s input pid section → left_by p ls ns xs ≡ offered s input pid section → (o ≡ p) × (ks ≡ ls) × (ms ≡ ns) × (ws ≡ xs)
offer_unique s input pid section o p ks ls ms ns ws xs a b =
    let e : left_by o ks ms ws ≡ left_by p ls ns xs = one_result (offered s input pid section) a b in
    let n : o.answer ≡ p.answer = answer_one o.answer p.answer (ap (λ (l : Offering). l.answer) e) in
    let g = ap (λ (l : Offering). l.store.gate) e in
    let c = ap (λ (l : Offering). l.store.counters) e in
    (λ i. record { answer = n i; gate = g i; counters = c i }, ap (λ (l : Offering). l.store.keys) e, ap (λ (l : Offering). l.store.changes) e, ap (λ (l : Offering). l.store.words) e)
