-- One law for each way out of a function.
-- Assumes nothing.
use mathlib.Core.Path.{◌≡◌, refl, sym, ap, ◌∙◌}
use mathlib.Core.Bool.{Bool, true, false, cond, ◌||◌, true≢false}
use mathlib.Core.List.{List}
use Prim.Native.Nat.{ℕ, zero, suc, ◌+◌, ◌*◌, ◌/◌, ◌≤◌, ◌<◌}
use native.Mathlib.Omega.{arith}
use lib.ListN.{length}
use Rattle.streams.specs.declared.Streams.{Streams}
use Rattle.passing.specs.Passing as over
use Rattle.passing.specs.Passing.{passed, passed_from}
use Rattle.demux_pass.specs.Passing.{most_of, counted_on, went_as, went_by, over_from}
use Rattle.demux_pass.proofs.Passing.{Most, most_is, no_more}

-- ---- behind the checks

pub in_packets : (counted size all : ℕ) → counted < 18446744073709551551 → all ≡ most_of counted (size / 188) → all * 188 ≤ size
in_packets counted size all h e = let m = most_is counted (size / 188) h in let f = m.few in omega arith

pub can_count : (counted size all number : ℕ) (words packets pids pids' : List ℕ) → counted < 18446744073709551551 → all ≡ most_of counted (size / 188) → passed number pids' ≡ passed_from all words packets pids
    → counted + number < 18446744073709551616
can_count counted size all number words packets pids pids' h e q =
    let m = most_is counted (size / 188) h in
    let f = m.fits in
    let x = no_more all words packets pids in
    let y = ap (λ (p : over.Passed). p.number) q in
    omega arith

pub went : (s : Streams) (words packets pids pids' : List ℕ) (all number : ℕ) → all ≡ most_of s.packets (length packets / 188) → passed number pids' ≡ passed_from all words packets pids
    → went_by (record { number = number; streams = counted_on s number }) pids' ≡ over_from s words packets pids
went s words packets pids pids' all number e q = ap (went_as s) (q ∙ ap (λ (a : ℕ). passed_from a words packets pids) e)
