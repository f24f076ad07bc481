-- The promise of each call names one result.
-- Assumes nothing.
use Prim.Native.Nat.{ℕ}
use mathlib.Core.Path.{◌≡◌}
use mathlib.Core.List.{List}
use mathlib.Core.Bool.{Bool}
use Rattle.laws.proofs.Unique.{one_result}
use Rattle.counters.specs.declared.Counters.{Counters}
use Rattle.offers.specs.Offers.{verdict_of}
use Rattle.offers.specs.declared.Verdict.{Verdict}

pub judge_unique :
    (w : Bool) (c : Counters) (rule input pid : ℕ) (section : List ℕ) (a b : Verdict) → a ≡ verdict_of w c rule input pid section → b ≡ verdict_of w c rule input pid section → a ≡ b
judge_unique w c rule input pid section a b = one_result (verdict_of w c rule input pid section)
