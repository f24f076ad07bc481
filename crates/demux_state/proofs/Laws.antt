-- What it says that no counter is near its end, as orders of numbers.
-- Assumes nothing.
use Prim.Native.Nat.{ℕ, ◌+◌, ◌^◌, ◌<◌}
use mathlib.Core.Path.{◌≡◌, sym, ap, ◌∙◌}
use mathlib.Core.Bool.{Bool, false, ◌||◌}
use native.Mathlib.Omega.{arith}
use borrow.Author.Tests.{leb-false}
use Rattle.laws.proofs.Tests.{or_false}
use Rattle.counters.specs.declared.Counters.{Counters}
use Rattle.streams.specs.declared.Streams.{Streams}
use Rattle.demux_state.specs.State.{is_near, any_near, near_end, Spare, CanFeed, Spares}

far : (n : ℕ) → is_near n ≡ false → n + 64 < 2 ^ 64
far n e = let h : n < 18446744073709551551 = leb-false 18446744073709551551 n e in omega arith

counters_far : (c : Counters) → any_near c ≡ false → Spare 64 c
counters_far c e =
    let e₆ = or_false _ _ e in
    let e₅ = or_false _ _ e₆.0 in
    let e₄ = or_false _ _ e₅.0 in
    let e₃ = or_false _ _ e₄.0 in
    let e₂ = or_false _ _ e₃.0 in
    let e₁ = or_false _ _ e₂.0 in
    record {
      completed = far _ e₁.0;
      emitted = far _ e₁.1;
      suppressed = far _ e₂.1;
      failures = far _ e₃.1;
      short = far _ e₄.1;
      mismatches = far _ e₅.1;
      evictions = far _ e₆.1;
    }

pub spares : (c : Counters) (s : Streams) (pats : ℕ) → near_end c s pats ≡ false → Spares c s pats
spares c s pats f =
    let e₃ = or_false _ _ f in
    let e₂ = or_false _ _ e₃.0 in
    let e₁ = or_false _ _ e₂.0 in
    let p : s.packets + 64 < 2 ^ 64 = far s.packets e₁.1 in
    let m : s.malformed + 64 < 2 ^ 64 = far s.malformed e₂.1 in
    record { gate = counters_far c e₁.0; streams = record { packets = omega arith; malformed = omega arith }; sets = far pats e₃.1 }

module _ (c : Counters) (s : Streams) (pats : ℕ) (a : Bool) (e : a ≡ any_near c) where
  abbrev b : Bool
  b = a || is_near s.packets || is_near s.malformed || is_near pats

  same : b ≡ near_end c s pats
  same = ap (λ (x : Bool). x || is_near s.packets || is_near s.malformed || is_near pats) e

  pub ends : (b ≡ near_end c s pats) × (b ≡ false → Spares c s pats)
  ends = (same, λ f. spares c s pats (sym same ∙ f))
