-- Each public call has one answer and one content of each lent slice for every input: two results and exit contents that meet its promise are
-- equal.
-- Assumes nothing.
use Prim.Native.Nat.{ℕ}
use mathlib.Core.Path.{◌≡◌, ap}
use mathlib.Core.List.{List}
use Rattle.laws.proofs.Unique.{one_result}
use Rattle.answers.proofs.Laws.{outcome_apart}
use Rattle.answers.specs.Answers.{Outcome}
use Rattle.gate_state.proofs.Unique.{answer_one}
use Rattle.gate_state.specs.declared.Settings.{Settings}
use Rattle.gate_state.specs.declared.Opened.{Opened}
use Rattle.gate_state.specs.declared.Offered.{Offered}
use Rattle.watched.specs.Store.{Opening, opening_by}
use Rattle.pats.specs.Store.{Record}
use Rattle.gate.specs.Store.{Begun, begun_by}
use Rattle.gate.proofs.Unique.{begun_one}
use Rattle.gate_pats.specs.Store.{opened_with, record_opened, Kept, Offering, left_with, offered_with}

pub open_unique :
    (s : Settings) (extra : List ℕ) (keys changes slots cells : ℕ) (words : List ℕ) (o p : Opened) (ws xs : List ℕ) →
    begun_by o ws ≡ opened_with s extra keys changes slots cells words → begun_by p xs ≡ opened_with s extra keys changes slots cells words → (o ≡ p) × (ws ≡ xs)
open_unique s extra keys changes slots cells words o p ws xs a b = begun_one o p ws xs (one_result (opened_with s extra keys changes slots cells words) a b)

pub record_unique :
    (s : Settings) (extra : List ℕ) (slots cells : ℕ) (words : List ℕ) (o p : Outcome) (ws xs : List ℕ) →
    opening_by o ws ≡ record_opened s extra slots cells words → opening_by p xs ≡ record_opened s extra slots cells words → (o ≡ p) × (ws ≡ xs)
record_unique s extra slots cells words o p ws xs a b =
    let e : opening_by o ws ≡ opening_by p xs = one_result (record_opened s extra slots cells words) a b in
    (outcome_apart o p (ap (λ (l : Opening). l.answer) e), ap (λ (l : Opening). l.words) e)

pub offer_unique :
    (s : Kept) (input pid : ℕ) (section : List ℕ) (o p : Offered) (ks ls ms ns : List ℕ) (r q : Record) →
    left_with o ks ms r ≡ offered_with s input pid section → left_with p ls ns q ≡ offered_with s input pid section → (o ≡ p) × (ks ≡ ls) × (ms ≡ ns) × (r ≡ q)
offer_unique s input pid section o p ks ls ms ns r q a b =
    let e : left_with o ks ms r ≡ left_with p ls ns q = one_result (offered_with s input pid section) a b in
    let n : o.answer ≡ p.answer = answer_one o.answer p.answer (ap (λ (l : Offering). l.answer) e) in
    let g = ap (λ (l : Offering). l.left.gate) e in
    let c = ap (λ (l : Offering). l.left.counters) e in
    (λ i. record { answer = n i; gate = g i; counters = c i }, ap (λ (l : Offering). l.left.keys) e, ap (λ (l : Offering). l.left.changes) e, ap (λ (l : Offering). l.left.watch) e)
