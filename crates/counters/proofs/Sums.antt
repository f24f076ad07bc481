-- Each call counts its answer once; so do all calls of a sequence together, whatever it is that answers.
-- Assumes nothing.
use Prim.Native.Nat.{ℕ, suc, ◌+◌}
use mathlib.Core.Path.{◌≡◌, refl, ap}
use mathlib.Core.List.{List, [], ◌∷◌}
use mathlib.Core.Bool.{Bool, true, false, cond}
use native.Mathlib.Omega.{arith}
use lib.Dec.{eqb}
use Rattle.laws.specs.Runs.{answers, store_after}
use Rattle.counters.specs.Counters.{zeroes, counted_of, failed_of}
use Rattle.counters.specs.Rules.{count_of, judged_in, Sums, Counts}
use Rattle.counters.specs.declared.Counters.{Counters}

-- what is neither 1 nor 2 nor 3 nor 31 counts nothing
pub kept : (c : Counters) (a : ℕ) → count_of 1 (a ∷ []) ≡ 0 → count_of 2 (a ∷ []) ≡ 0 → count_of 3 (a ∷ []) ≡ 0 → count_of 31 (a ∷ []) ≡ 0 → Counts a c c
kept c a x y z w =
    record { emitted = omega arith; suppressed = omega arith; short = omega arith; mismatches = omega arith; failures = omega arith; completed = omega arith }

pub failed : (c : Counters) (short : Bool) → Counts (cond short 31 3) c (failed_of c short)
failed c true = record { emitted = omega arith; suppressed = omega arith; short = refl; mismatches = omega arith; failures = refl; completed = refl }
failed c false = record { emitted = omega arith; suppressed = omega arith; short = omega arith; mismatches = refl; failures = refl; completed = refl }

pub counted : (c : Counters) (emits evicted : Bool) → Counts (cond emits 1 2) c (counted_of c emits evicted)
counted c true evicted =
    record { emitted = refl; suppressed = omega arith; short = omega arith; mismatches = omega arith; failures = omega arith; completed = refl }
counted c false evicted =
    record { emitted = omega arith; suppressed = refl; short = omega arith; mismatches = omega arith; failures = omega arith; completed = refl }

-- one answer before others
count_cons : (n a : ℕ) (as' : List ℕ) → count_of n (a ∷ as') ≡ count_of n (a ∷ []) + count_of n as'
count_cons n a as' = go (eqb a n)
  where
    go : (b : Bool) → cond b (suc (count_of n as')) (count_of n as') ≡ cond b 1 0 + count_of n as'
    go true = omega arith
    go false = omega arith

-- a store S that tells the numbers of its answers and holds counters somewhere
module _ {S I : Type 0} (tells : S → I → ℕ) (acts : S → I → S) (held : S → Counters) (each : (s : S) (i : I) → Counts (tells s i) (held s) (held (acts s i))) where
  pub all_sums : (s : S) (is : List I) → Sums (answers tells acts s is) (held s) (held (store_after acts s is))
  unfolding answers store_after
  all_sums s [] =
      record { emitted = omega arith; suppressed = omega arith; short = omega arith; mismatches = omega arith; failures = omega arith; completed = omega arith }
  all_sums s (i ∷ is) =
      let h = each s i in
      let t = all_sums (acts s i) is in
      let a : ℕ = tells s i in
      let r : List ℕ = answers tells acts (acts s i) is in
      record {
        emitted = omega (arith, h.emitted, t.emitted, count_cons 1 a r);
        suppressed = omega (arith, h.suppressed, t.suppressed, count_cons 2 a r);
        short = omega (arith, h.short, t.short, count_cons 31 a r);
        mismatches = omega (arith, h.mismatches, t.mismatches, count_cons 3 a r);
        failures = omega (arith, h.failures, t.failures, count_cons 31 a r, count_cons 3 a r);
        completed = omega (arith, h.completed, t.completed, count_cons 1 a r, count_cons 2 a r, count_cons 31 a r, count_cons 3 a r);
      }

-- from a fresh record: both sums
pub balances : (as' : List ℕ) (c d : Counters) → Sums as' c d → c ≡ zeroes →
    (d.completed ≡ d.emitted + d.suppressed + d.crc_failures) × (d.crc_failures ≡ d.short_sections + d.crc_mismatches)
balances as' c d t z =
    let a : c.completed ≡ 0 = ap (λ (x : Counters). x.completed) z in
    let b : c.emitted ≡ 0 = ap (λ (x : Counters). x.emitted) z in
    let e : c.suppressed ≡ 0 = ap (λ (x : Counters). x.suppressed) z in
    let f : c.crc_failures ≡ 0 = ap (λ (x : Counters). x.crc_failures) z in
    let g : c.short_sections ≡ 0 = ap (λ (x : Counters). x.short_sections) z in
    let h : c.crc_mismatches ≡ 0 = ap (λ (x : Counters). x.crc_mismatches) z in
    (omega (arith, t.emitted, t.suppressed, t.failures, t.completed), omega (arith, t.short, t.mismatches, t.failures))
