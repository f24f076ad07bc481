-- The promise of opening names one answer, and one content of the words.
-- Assumes nothing.
use mathlib.Core.Path.{◌≡◌, sym, ap, ◌∙◌}
use Prim.Native.Nat.{ℕ}
use mathlib.Core.List.{List}
use Rattle.answers.proofs.Laws.{outcome_apart}
use Rattle.streams.specs.declared.Opened.{Opened}
use Rattle.streams.specs.Store.{Opening, opening, opened_of}

pub unique_open : (count : ℕ) (pids : List ℕ) (bytes : ℕ) (r q : Opened) (v w : List ℕ) → opening r v ≡ opened_of count pids bytes → opening q w ≡ opened_of count pids bytes → (r ≡ q) × (v ≡ w)
unique_open count pids bytes r q v w a b =
    let e : opening r v ≡ opening q w = a ∙ sym b in
    let n : r.answer ≡ q.answer = outcome_apart r.answer q.answer (ap (λ (l : Opening). l.answer) e) in
    let s : r.streams ≡ q.streams = ap (λ (l : Opening). l.streams) e in
    (λ i. record { answer = n i; streams = s i }, ap (λ (l : Opening). l.pids) e)
