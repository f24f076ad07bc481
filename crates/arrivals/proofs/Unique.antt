-- The promise of each call names one result.
-- Assumes nothing.
use mathlib.Core.Path.{◌≡◌, sym, ◌∙◌}
use mathlib.Core.List.{List}
use Prim.Native.Nat.{ℕ}
use Rattle.std.specs.Prelude.{Option, Result}
use Rattle.rows.specs.declared.Entry.{Entry}
use Rattle.answers.specs.declared.Refusal.{Refusal}
use Rattle.arrivals.specs.declared.Arrival.{Arrival}
use Rattle.arrivals.specs.Arrivals.{set_arrival, eit_arrival}

pub unique_set : (input : ℕ) (pid : Option ℕ) (bytes : List ℕ) (a b : Result Entry Refusal) → a ≡ set_arrival input pid bytes → b ≡ set_arrival input pid bytes → a ≡ b
unique_set input pid bytes a b p q = p ∙ sym q

pub unique_eit : (input : ℕ) (pid : Option ℕ) (bytes : List ℕ) (a b : Result Arrival Refusal) → a ≡ eit_arrival input pid bytes → b ≡ eit_arrival input pid bytes → a ≡ b
unique_eit input pid bytes a b p q = p ∙ sym q
