-- A record of which no counter is at its end can be counted up.
-- Assumes nothing.
use Prim.Native.Nat.{ℕ, ◌+◌, ◌<◌, ◌^◌}
use mathlib.Core.Path.{◌≡◌, sym, ◌∙◌}
use mathlib.Core.Bool.{Bool, false}
use native.Mathlib.Omega.{arith}
use borrow.Author.Tests.{eqb-false}
use Rattle.laws.proofs.Tests.{or_false}
use Rattle.counters.specs.Counters.{is_full, any_full, CanCount}
use Rattle.counters.specs.declared.Counters.{Counters}

below : (n : ℕ) → n < 2 ^ 64 → is_full n ≡ false → n + 1 < 2 ^ 64
below n h e = let q : n ≡ 18446744073709551615 → ⊥ = eqb-false _ _ e in omega arith

pub can_count :
    (c : Counters) (t : Bool) → c.completed < 2 ^ 64 → c.emitted < 2 ^ 64 → c.suppressed < 2 ^ 64 → c.crc_failures < 2 ^ 64 →
    c.short_sections < 2 ^ 64 → c.crc_mismatches < 2 ^ 64 → c.evictions < 2 ^ 64 →
    t ≡ any_full c → t ≡ false → CanCount c
can_count c t h₁ h₂ h₃ h₄ h₅ h₆ h₇ e h =
    let v = or_false _ _ (sym e ∙ h) in
    let x = or_false _ _ v.0 in
    let n = or_false _ _ x.0 in
    let f = or_false _ _ n.0 in
    let s = or_false _ _ f.0 in
    let m = or_false _ _ s.0 in
    record {
      completed = below _ h₁ m.0;
      emitted = below _ h₂ m.1;
      suppressed = below _ h₃ s.1;
      failures = below _ h₄ f.1;
      short = below _ h₅ n.1;
      mismatches = below _ h₆ x.1;
      evictions = below _ h₇ v.1;
    }
