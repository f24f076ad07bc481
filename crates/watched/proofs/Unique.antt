-- The promises name one answer each, and of opening one content of the words.
-- Assumes nothing.
use mathlib.Core.Path.{◌≡◌, sym, ap, ◌∙◌}
use mathlib.Core.Bool.{Bool}
use Prim.Native.Nat.{ℕ}
use mathlib.Core.List.{List}
use Rattle.answers.specs.Answers.{reply_no, Outcome, Reply}
use Rattle.answers.proofs.Laws.{outcome_apart, reply_apart}
use Rattle.watched.specs.Store.{Opening, opening_by, opened, asked}

pub unique_open :
    (words : List ℕ) (well_known : Bool) (extra : List ℕ) (r q : Outcome) (v w : List ℕ) →
    opening_by r v ≡ opened words well_known extra → opening_by q w ≡ opened words well_known extra → (r ≡ q) × (v ≡ w)
unique_open words well_known extra r q v w a b =
    let e : opening_by r v ≡ opening_by q w = a ∙ sym b in
    (outcome_apart r q (ap (λ (l : Opening). l.answer) e), ap (λ (l : Opening). l.words) e)

pub unique_ask : (words : List ℕ) (pid : ℕ) (r q : Reply) → reply_no r ≡ asked words pid → reply_no q ≡ asked words pid → r ≡ q
unique_ask words pid r q a b = reply_apart r q (a ∙ sym b)
