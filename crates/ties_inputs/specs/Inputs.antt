-- The rows of one input among the gate's rows, its offers among all, and what was answered to them (docs/RULES.md, "Inputs").
use Rattle.std.specs.Prelude.{ℕ, ◌+◌, ◌/◌, ◌^◌, ◌≡◌, List, [], ◌∷◌, Bool, cond, eqb}
use Rattle.ring.specs.Rules.{Row}
use Rattle.gate_state.specs.State.{Said}
use Rattle.gate.specs.Rules.{Offer, Held}

-- the input of a key: what stands above the 45 bits of the other four fields
abbrev pub input_of : (key : ℕ) → ℕ
input_of key = key / 2 ^ 45

-- a row of input i
abbrev pub is_on : (i : ℕ) → Row → Bool
is_on i r = eqb (input_of r.key) i

-- the rows of input i, in their order
unfoldable pub rows_on : (i : ℕ) → List Row → List Row
rows_on i [] = []
rows_on i (r ∷ rows) = cond (is_on i r) (r ∷ rows_on i rows) (rows_on i rows)

-- the offers on input i, in their order
unfoldable pub offers_on : (i : ℕ) → List Offer → List Offer
offers_on i [] = []
offers_on i (o ∷ os) = cond (eqb o.input i) (o ∷ offers_on i os) (offers_on i os)

-- the answers to these among the answers to all
unfoldable pub answers_on : (i : ℕ) → List Offer → List Said → List Said
answers_on i [] as' = []
answers_on i (o ∷ os) [] = []
answers_on i (o ∷ os) (a ∷ as') = cond (eqb o.input i) (a ∷ answers_on i os as') (answers_on i os as')

-- what an offer on another input leaves of the rows of input j: all of them, or all but their first, and then that row was the first of all and one
-- eviction was counted for it
pub data Spared (j : ℕ) (before after : Held) : Type 0 where
  stay : rows_on j after.rows ≡ rows_on j before.rows → Spared j before after
  loses : (r : Row) (rows : List Row) → before.rows ≡ r ∷ rows → rows_on j before.rows ≡ r ∷ rows_on j after.rows
      → after.counters.evictions ≡ before.counters.evictions + 1 → Spared j before after
