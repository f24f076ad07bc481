-- `crc_zeros::sum` meets its contract: what is left is the last arm, which the low four bits reach where all are 1. Assumes nothing.
use mathlib.Core.Path.{◌≡◌, sym, ap}
use mathlib.Core.List.{List}
use Prim.Native.Nat.{ℕ, ◌%◌}
use native.Mathlib.Omega.{arith}
use lib.ListN.{get_or}
use Rattle.crc_zeros.specs.Sums.{sums}
use Rattle.laws.proofs.Arms.{NoneOf, none_below}
use Rattle.crc_zeros.proofs.sum.Goals as goal

at : (l : List ℕ) {y m : ℕ} → y ≡ m → get_or l m 0 ≡ get_or l y 0
at l e = ap (λ (i : ℕ). get_or l i 0) (sym e)

last : (x : ℕ) → NoneOf 15 (x % 16) → x % 16 ≡ 15
last x h = omega (arith, none_below 15 (x % 16) h)

pub returns-in_default : goal.returns-in_default
returns-in_default c = at (sums c.args.a c.args.b c.args.c c.args.d) (last _ c.in_default.in_default-own.rest)
