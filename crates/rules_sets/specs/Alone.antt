-- Which calls concern an input of the card, and what is answered to them: the words of `as_if_alone` (docs/RULES.md, "Inputs").
-- Assumes nothing.
use Rattle.std.specs.Prelude.{Bool, true, cond, List, [], ◌∷◌, ℕ, eqb}
use Rattle.rules_sets.specs.Rules.{Key, Call, clear, refuse, offer, Answer}

-- the key of a section that came on input i
abbrev pub is_on : (i : ℕ) → Key → Bool
is_on i k = eqb k.from.input i

-- a section on another input does not concern input i; a clear does, and so does a section that is refused for itself
unfoldable pub concerns : (i : ℕ) → Call → Bool
concerns i clear = true
concerns i (refuse r) = true
concerns i (offer x) = is_on i x.key

-- the calls that concern input i, in their order
unfoldable pub calls_on : (i : ℕ) → List Call → List Call
calls_on i [] = []
calls_on i (c ∷ cs) = cond (concerns i c) (c ∷ calls_on i cs) (calls_on i cs)

-- the answers to these among the answers to all
unfoldable pub answers_on : (i : ℕ) → List Call → List Answer → List Answer
answers_on i [] as' = []
answers_on i (c ∷ cs) [] = []
answers_on i (c ∷ cs) (a ∷ as') = cond (concerns i c) (a ∷ answers_on i cs as') (answers_on i cs as')
