-- Rows that are dropped: the order of those that stay is as before, and what stays is what the rules retain.
-- Assumes nothing.
use mathlib.Core.Path.{◌≡◌, refl, sym, ap, ◌∙◌}
use mathlib.Core.Logic.{◌≢◌}
use mathlib.Core.Bool.{Bool, true, false}
use mathlib.Core.List.{List}
use Prim.Native.Nat.{ℕ, suc, ◌-◌, ◌<◌}
use native.Mathlib.Decide.{ℕ_discrete}
use native.Mathlib.Omega.{arith}
use borrow.Author.Tests.{eq-eqb, ne_eqb}
use Rattle.rules_shared.specs.Touch.{Entry, under, retain}
use Rattle.rows.specs.declared.Key.{Key}
use Rattle.rows.specs.Rows.{key_at, tick_of}
use Rattle.ticks.specs.Order.{at_tick, in_order, rows_seen, Ticked, Stands, moved_from, Dropped}
use Rattle.ticks.proofs.Ticks.{gap, listed_cong, gap_at, retain_with, retain_each, without, row_with, order_each}

-- ---- over any ticks

pub moved_own : (used i : ℕ) → moved_from used i i ≡ used - 1
moved_own used i = rw (eq-eqb i i refl)

pub moved_other : (used i j : ℕ) → j ≢ i → moved_from used i j ≡ j
moved_other used i j ne = rw (ne_eqb j i ne)

module _ (used i : ℕ) (hi : i < used) where
  pub moved_below : (j : ℕ) → j < used - 1 → moved_from used i j < used
  moved_below j h = go (ℕ_discrete j i)
    where
      go : Dec (j ≡ i) → moved_from used i j < used
      go (yes e) = let p : moved_from used i j ≡ used - 1 = ap (moved_from used i) e ∙ moved_own used i in omega arith
      go (no ne) = let p = moved_other used i j ne in omega arith

  pub moved_not : (j : ℕ) → j < used - 1 → moved_from used i j ≢ i
  moved_not j h e = go (ℕ_discrete j i)
    where
      go : Dec (j ≡ i) → ⊥
      go (yes q) = let p : moved_from used i j ≡ used - 1 = ap (moved_from used i) q ∙ moved_own used i in omega arith
      go (no ne) = ne (sym (moved_other used i j ne) ∙ e)

  moved_one : (j k : ℕ) → j < used - 1 → k < used - 1 → moved_from used i j ≡ moved_from used i k → j ≡ k
  moved_one j k hj hk e = go (ℕ_discrete j i) (ℕ_discrete k i)
    where
      go : Dec (j ≡ i) → Dec (k ≡ i) → j ≡ k
      go (yes p) (yes q) = p ∙ sym q
      go (yes p) (no q) = let a : moved_from used i j ≡ used - 1 = ap (moved_from used i) p ∙ moved_own used i in let b = moved_other used i k q in absurd (omega arith)
      go (no p) (yes q) = let a : moved_from used i k ≡ used - 1 = ap (moved_from used i) q ∙ moved_own used i in let b = moved_other used i j p in absurd (omega arith)
      go (no p) (no q) = sym (moved_other used i j p) ∙ e ∙ moved_other used i k q

  -- every other row stands somewhere
  moved_to : (r : ℕ) → r < used → r ≢ i → (j : ℕ) × (j < used - 1) × (moved_from used i j ≡ r)
  moved_to r h ne = go (ℕ_discrete r (used - 1))
    where
      go : Dec (r ≡ used - 1) → (j : ℕ) × (j < used - 1) × (moved_from used i j ≡ r)
      go (yes e) = (i, omega arith, moved_own used i ∙ sym e)
      go (no n) = (r, omega arith, moved_other used i r ne)

module _ (g g' : ℕ → ℕ) (used clock i : ℕ) (w : Ticked g used clock) (hi : i < used) (d : (j : ℕ) → j < used - 1 → g' j ≡ g (moved_from used i j)) where
  pub ticked_dropped : Ticked g' (used - 1) clock
  ticked_dropped = record {
    below = λ j h. let e = d j h in let b = w.below (moved_from used i j) (moved_below used i hi j h) in omega arith;
    one = λ j k hj hk e.
        moved_one used i hi j k hj hk (w.one (moved_from used i j) (moved_from used i k) (moved_below used i hi j hj) (moved_below used i hi k hk) (sym (d j hj) ∙ e ∙ d k hk));
  }

  -- the rows that stay, in their order
  pub dropped_order : {A : Type 0} (F F' : ℕ → A) → ((j : ℕ) → j < used - 1 → F' j ≡ F (moved_from used i j)) → in_order g' (used - 1) clock F' ≡ without g used clock i F
  unfolding in_order without
  dropped_order F F' e = sym (listed_cong (gap (g i) (at_tick g used F)) (at_tick g' (used - 1) F') (suc clock) (λ t l.
      gap_at g g' used (used - 1) w.one ticked_dropped.one F F' t i hi
      (λ r h ne q. let m = moved_to used i hi r h ne in (m.0, m.1, d m.0 m.1 ∙ ap g m.2 ∙ q, e m.0 m.1 ∙ ap F m.2))
      (λ j h q. (moved_from used i j, moved_below used i hi j h, moved_not used i hi j h, sym (d j h) ∙ q))))

-- ---- heads

module _ {K : Type 0} (shown : Key → K) (words : K → Key) (heads : List ℕ) (used clock : ℕ) (w : Stands shown words heads used clock) where
  -- row i is dropped: the order stands ..
  pub dropped_stands : (heads' : List ℕ) (i : ℕ) → i < used → Dropped heads heads' i used → Stands shown words heads' (used - 1) clock
  dropped_stands heads' i hi d = record {
    ticks = ticked_dropped (tick_of heads) (tick_of heads') used clock i w.ticks hi d.ticks;
    keys = λ j k hj hk e.
        moved_one used i hi j k hj hk (w.keys (moved_from used i j) (moved_from used i k) (moved_below used i hi j hj) (moved_below used i hi k hk) (sym (d.keys j hj) ∙ e ∙ d.keys k hk));
    proper = λ j h. rw (d.keys j h) (w.proper (moved_from used i j) (moved_below used i hi j h));
  }

  -- .. and where the rules drop its key, what they retain of the rest is what they retain of all
  pub dropped_seen : (heads' : List ℕ) (i : ℕ) → i < used → Dropped heads heads' i used → {R : Type 0} (row row' : ℕ → R) → ((j : ℕ) → j < used - 1 → row' j ≡ row (moved_from used i j))
      → (test : K → Bool) → test (shown (key_at heads i)) ≡ false → retain test (rows_seen shown heads' (used - 1) clock row') ≡ retain test (rows_seen shown heads used clock row)
  unfolding rows_seen
  dropped_seen heads' i hi d {R} row row' e test out =
      let F : ℕ → Entry K R = λ j. under (shown (key_at heads j)) (row j) in
      let F' : ℕ → Entry K R = λ j. under (shown (key_at heads' j)) (row' j) in
      ap (retain test) (dropped_order (tick_of heads) (tick_of heads') used clock i w.ticks hi d.ticks F F' (λ j l. λ k. under (shown (d.keys j l k)) (e j l k)))
      ∙ sym (retain_with test (row_with (tick_of heads) used clock w.ticks F i hi) out)

  -- where the rules drop no key in use they retain all
  pub retained_seen : {R : Type 0} (row : ℕ → R) (test : K → Bool) → ((j : ℕ) → j < used → test (shown (key_at heads j)) ≡ true) → retain test (rows_seen shown heads used clock row) ≡ rows_seen shown heads used clock row
  unfolding rows_seen
  retained_seen {R} row test e =
      retain_each test (order_each (tick_of heads) used clock w.ticks (λ (i : ℕ). under (shown (key_at heads i)) (row i)) (λ (x : Entry K R). test x.key ≡ true) e)
