-- The offer over lent counters has one answer, one gate, and one content of the counters and of each lent slice for every input: two results and exit
-- contents that meet its promise are equal.
-- Assumes nothing.
use Prim.Native.Nat.{ℕ}
use mathlib.Core.Path.{◌≡◌, ap}
use mathlib.Core.List.{List}
use Rattle.laws.proofs.Unique.{one_result}
use Rattle.pats.specs.Store.{record_of}
use Rattle.gate_pats.specs.Store.{Kept, Offering, offered_with}
use Rattle.counters.specs.declared.Counters.{Counters}
use Rattle.gate_state.proofs.Unique.{answer_one}
use Rattle.gate_lent.specs.Told.{told_by}
use Rattle.gate_lent.specs.declared.Told.{Told}

pub offer_unique :
    (s : Kept) (input pid : ℕ) (section : List ℕ) (t u : Told) (c d : Counters) (ks ls ms ns ws xs ps qs ys zs : List ℕ) →
    told_by t c ks ms (record_of ws ps ys) ≡ offered_with s input pid section → told_by u d ls ns (record_of xs qs zs) ≡ offered_with s input pid section →
    (t ≡ u) × (c ≡ d) × (ks ≡ ls) × (ms ≡ ns) × (ws ≡ xs) × (ps ≡ qs) × (ys ≡ zs)
offer_unique s input pid section t u c d ks ls ms ns ws xs ps qs ys zs a b =
    let e : told_by t c ks ms (record_of ws ps ys) ≡ told_by u d ls ns (record_of xs qs zs) = one_result (offered_with s input pid section) a b in
    let n : t.answer ≡ u.answer = answer_one t.answer u.answer (ap (λ (l : Offering). l.answer) e) in
    let g = ap (λ (l : Offering). l.left.gate) e in (
      λ i. record { answer = n i; gate = g i },
      ap (λ (l : Offering). l.left.counters) e,
      ap (λ (l : Offering). l.left.keys) e,
      ap (λ (l : Offering). l.left.changes) e,
      ap (λ (l : Offering). l.left.watch.words) e,
      ap (λ (l : Offering). l.left.watch.slots) e,
      ap (λ (l : Offering). l.left.watch.cells) e,
    )
