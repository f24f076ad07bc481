-- One law for each way out of a function: what the tests and the calls on the way gave, and what the definition then is; and what the test of
-- a whole ring tells as orders of numbers.
-- Assumes nothing.
use Prim.Native.Nat.{ℕ, ◌+◌, ◌%◌, ◌<◌, ◌≤◌}
use mathlib.Core.Path.{◌≡◌, refl, sym, ◌∙◌}
use mathlib.Core.List.{List}
use mathlib.Core.Bool.{Bool, true, false, cond, not}
use lib.ListN.{length, get_or, take, set}
use lib.Dec.{eqb}
use borrow.Author.Tests.{lt-ltb, le-ltb, le-leb, leb-true, ltb-true}
use Rattle.laws.proofs.Tests.{and_true}
use Rattle.ring.specs.Store.{room_of, whole_of, Whole, row_of, free_row, renewed, arrived, seen_of, keys_after, changes_after}
use Rattle.ring.specs.declared.Ring.{Ring}
use Rattle.ring.specs.declared.Seen.{Seen}

pub whole : (g : Ring) (keys changes : ℕ) (w : Bool) → w ≡ whole_of g keys changes → w ≡ true → Whole g keys changes
whole g keys changes w e h =
    let a = and_true _ _ (sym e ∙ h) in
    let b = and_true _ _ a.0 in
    let d = and_true _ _ b.0 in
    record {
      used = leb-true _ _ d.0;
      first = ltb-true _ _ d.1;
      keys_long = leb-true _ _ b.1;
      changes_long = leb-true _ _ a.1;
    }

pub whole_test : (g : Ring) (keys changes : ℕ) → Whole g keys changes → whole_of g keys changes ≡ true
whole_test g keys changes w =
    rw (le-leb _ _ w.used, lt-ltb _ _ w.first, le-leb _ _ w.keys_long, le-leb _ _ w.changes_long)

module _ (g : Ring) (all : ℕ) (e : all ≡ room_of g.capacity) where
  module _ (h : g.used < all) where
    pub arrived_free :
        (o : Seen) → o ≡ record { ring = record { capacity = g.capacity; used = g.used + 1; first = g.first }; changed = true; evicted = false } → o ≡ arrived g
    unfolding arrived
    arrived_free o j = rw (← e, lt-ltb _ _ h) j

    pub free_next : (l m : List ℕ) (x : ℕ) → m ≡ set l g.used x → m ≡ set l (free_row g) x
    free_next l m x j = rw (← e, lt-ltb _ _ h) j

  module _ (h : all ≤ g.used) where
    pub arrived_full :
        (o : Seen) → o ≡ record { ring = record { capacity = g.capacity; used = g.used; first = (g.first + 1) % all }; changed = true; evicted = true } → o ≡ arrived g
    unfolding arrived
    arrived_full o j = rw (← e, le-ltb _ _ h) j

    pub free_first : (l m : List ℕ) (x : ℕ) → m ≡ set l g.first x → m ≡ set l (free_row g) x
    free_first l m x j = rw (← e, le-ltb _ _ h) j

module _ (g : Ring) (keys changes ks ms : List ℕ) (key number i n : ℕ) (o : Seen) (e : i ≡ row_of (take g.used keys) key) where
  module _ (h : i < g.used) where
    pub seen_known : n ≡ number → o ≡ renewed g changes i n → o ≡ seen_of g keys changes key number
    unfolding seen_of
    seen_known q j = rw (← e, lt-ltb _ _ h, ← q) j

    pub keys_known : ks ≡ keys → ks ≡ keys_after g keys key
    unfolding keys_after
    keys_known j = rw (← e, lt-ltb _ _ h) j

    pub changes_known : n ≡ number → ms ≡ set changes i n → ms ≡ changes_after g keys changes key number
    unfolding changes_after
    changes_known q j = rw (← e, lt-ltb _ _ h, ← q) j

  module _ (h : g.used ≤ i) where
    pub seen_new : o ≡ arrived g → o ≡ seen_of g keys changes key number
    unfolding seen_of
    seen_new j = rw (← e, le-ltb _ _ h) j

    pub keys_new : ks ≡ set keys (free_row g) key → ks ≡ keys_after g keys key
    unfolding keys_after
    keys_new j = rw (← e, le-ltb _ _ h) j

    pub changes_new : n ≡ number → ms ≡ set changes (free_row g) n → ms ≡ changes_after g keys changes key number
    unfolding changes_after
    changes_new q j = rw (← e, le-ltb _ _ h, ← q) j
