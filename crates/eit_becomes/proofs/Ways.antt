-- One law for each way out.
-- Assumes nothing.
use mathlib.Core.Path.{◌≡◌}
use mathlib.Core.List.{List}
use mathlib.Core.Bool.{Bool, true, false}
use Prim.Native.Nat.{ℕ, ◌≤◌, ◌<◌}
use borrow.Author.Tests.{eq-eqb, ne_eqb, lt-ltb, le-ltb}
use Rattle.rows.specs.Rows.{mark_of}
use Rattle.arrivals.specs.declared.Arrival.{Arrival}
use Rattle.segments.specs.Segments.{set_complete}
use Rattle.eit_becomes.specs.declared.Becomes.TheVariants as becomes
use Rattle.eit_becomes.specs.Becoming.{own_table, becomes_of}

module _ (heads slots : List ℕ) (a : Arrival) (i m : ℕ) (p : m ≡ mark_of heads i) where
  pub becomes_marked : (m ≡ 0 → ⊥) → becomes.Stays ≡ becomes_of heads slots a i
  unfolding becomes_of
  becomes_marked h = rw (← p, ne_eqb m 0 h)

  module _ (z : m ≡ 0) (b : Bool) (q : b ≡ set_complete heads slots i) where
    pub becomes_part : b ≡ false → becomes.Stays ≡ becomes_of heads slots a i
    unfolding becomes_of
    becomes_part t = rw (← p, eq-eqb m 0 z, ← q, t)

    pub becomes_out : b ≡ true → a.kind < 2 → becomes.GoesOut ≡ becomes_of heads slots a i
    unfolding becomes_of
    becomes_out t h = rw (← p, eq-eqb m 0 z, ← q, t, lt-ltb a.kind 2 h)

    module _ (t : b ≡ true) (h : 2 ≤ a.kind) (own : ℕ) (o : own ≡ own_table a) where
      pub becomes_range : a.tables < own → becomes.OutOfRange ≡ becomes_of heads slots a i
      unfolding becomes_of
      becomes_range k = rw (← p, eq-eqb m 0 z, ← q, t, le-ltb a.kind 2 h, ← o, lt-ltb a.tables own k)

      pub becomes_enters : own ≤ a.tables → becomes.Enters ≡ becomes_of heads slots a i
      unfolding becomes_of
      becomes_enters k = rw (← p, eq-eqb m 0 z, ← q, t, le-ltb a.kind 2 h, ← o, le-ltb a.tables own k)
