-- The test for 10 and what it tells; one law for each way out of the functions that make it.
-- Assumes nothing.
use mathlib.Core.Path.{◌≡◌, refl, sym, ap, ◌∙◌}
use mathlib.Core.Logic.{◌≢◌}
use mathlib.Core.List.{List}
use mathlib.Core.Bool.{Bool, true, false, cond, ◌&&◌, ◌||◌}
use Prim.Native.Nat.{ℕ, ◌+◌, ◌*◌, ◌/◌, ◌≤◌, ◌<◌}
use native.Mathlib.Nat.{lt_of_le_of_lt}
use native.Mathlib.Omega.{arith}
use borrow.Author.Tests.{le-leb, lt-leb, leb-true, eqb-false}
use mir.Val.{Fits}
use mir.Syntax.{w16}
use lib.Dec.{leb, eqb, lit<}
use lib.ListN.{length}
use Rattle.laws.proofs.Tests.{and_true, or_false, same_test}
use Rattle.without_pid.specs.Pids.{without_pid}
use Rattle.without_pid.specs.declared.Looked.{Looked}
use Rattle.store.specs.Store as sets
use Rattle.store.specs.declared.Sets.{Sets}
use Rattle.store.proofs.Whole.{whole_means, evictions_go_on, clock_goes_on}
use Rattle.schedules.specs.Schedules.{schedules_whole}
use Rattle.eit_state.specs.declared.Eit.{Eit}
use Rattle.eit_state.specs.State.{Store, store, Rows, rows, rows_of, set_store, schedules_fit, settings_fit, whole_of, counters_full, Whole, RowsFit, CanCount}

-- ---- the settings

div_test : (k a n : ℕ) → (a ≤ n / k → a * k ≤ n) → (a * k ≤ n → a ≤ n / k) → leb a (n / k) ≡ leb (a * k) n
div_test k a n f g = same_test _ _ (λ e. le-leb _ _ (f (leb-true _ _ e))) (λ e. le-leb _ _ (g (leb-true _ _ e)))

pub fitting : (e : Eit) (t u : ℕ) → (leb e.sets.limit (t / 12) && leb e.sets.limit (u / 4608) && leb e.schedules e.sets.limit) ≡ schedules_fit e t u
fitting e t u = rw (div_test 12 e.sets.limit t (λ k. omega arith) (λ k. omega arith), div_test 4608 e.sets.limit u (λ k. omega arith) (λ k. omega arith))

pub settings : (e : Eit) (h l c t u : ℕ) (a b : Bool) → a ≡ sets.settings_fit e.sets h l c → b ≡ schedules_fit e t u → (a && b) ≡ settings_fit e h l c t u
settings e h l c t u a b q r = rw (q, r)

-- the schedules' slices, as orders of numbers
pub record Long (e : Eit) (t u : ℕ) : Type 0 where
  pub schedule_heads_long : e.sets.limit * 12 ≤ t
  pub units_long : e.sets.limit * 4608 ≤ u
  pub schedules : e.schedules ≤ e.sets.limit

pub long : (e : Eit) (t u : ℕ) → schedules_fit e t u ≡ true → Long e t u
long e t u q =
    let a = and_true (leb (e.sets.limit * 12) t && leb (e.sets.limit * 4608) u) (leb e.schedules e.sets.limit) q in
    let b = and_true (leb (e.sets.limit * 12) t) (leb (e.sets.limit * 4608) u) a.0 in
    record { schedule_heads_long = leb-true _ _ b.0; units_long = leb-true _ _ b.1; schedules = leb-true _ _ a.1 }

-- ---- whole or not

module _ (e : Eit) (heads slots cells schedule_heads units : List ℕ) (a : Bool) (q : a ≡ sets.whole_of (sets.store e.sets heads slots cells)) where
  pub whole_sets : a ≡ false → false ≡ whole_of (store e heads slots cells schedule_heads units)
  unfolding whole_of
  whole_sets t = rw (← q, t)

  module _ (b : Bool) (t : a ≡ true) (f : b ≡ schedules_fit e (length schedule_heads) (length units)) where
    pub whole_fit : b ≡ false → false ≡ whole_of (store e heads slots cells schedule_heads units)
    unfolding whole_of
    whole_fit k = rw (← q, t, ← f, k)

    pub whole_units : (r : Bool) → b ≡ true → r ≡ schedules_whole schedule_heads units e.sets.count e.sets.size e.schedules → r ≡ whole_of (store e heads slots cells schedule_heads units)
    unfolding whole_of
    whole_units r k g = rw (← q, t, ← f, k) g

-- the same of what `look` tells
module _ (e : Eit) (heads slots cells schedule_heads units : List ℕ) where
  no_look : false ≡ whole_of (store e heads slots cells schedule_heads units)
      → (false ≡ whole_of (store e heads slots cells schedule_heads units)) × (false ≡ true → false ≡ without_pid heads e.sets.used)
  no_look w = (w, λ h. absurd (no h))
    where
      no : false ≡ true → ⊥
      no h = let z : ◌≡◌ {A = ℕ} 0 1 = ap (λ (x : Bool). cond x 1 0) h in omega (arith, z)

  module _ (l : Looked) (q : l.whole ≡ sets.whole_of (sets.store e.sets heads slots cells)) where
    pub look_sets : l.whole ≡ false → (false ≡ whole_of (store e heads slots cells schedule_heads units)) × (false ≡ true → false ≡ without_pid heads e.sets.used)
    look_sets t = no_look (whole_sets e heads slots cells schedule_heads units l.whole q t)

    module _ (b : Bool) (t : l.whole ≡ true) (f : b ≡ schedules_fit e (length schedule_heads) (length units)) where
      pub look_fit : b ≡ false → (false ≡ whole_of (store e heads slots cells schedule_heads units)) × (false ≡ true → false ≡ without_pid heads e.sets.used)
      look_fit k = no_look (whole_fit e heads slots cells schedule_heads units l.whole q b t f k)

      pub look_units : (r : Bool) → b ≡ true → r ≡ schedules_whole schedule_heads units e.sets.count e.sets.size e.schedules → (l.whole ≡ true → l.without ≡ without_pid heads e.sets.used)
          → (r ≡ whole_of (store e heads slots cells schedule_heads units)) × (r ≡ true → l.without ≡ without_pid heads e.sets.used)
      look_units r k g w = (whole_units e heads slots cells schedule_heads units l.whole q b t f r k g, λ h. w t)

-- what `is_whole` asks of its parts
module _ (e : Eit) (heads slots cells : List ℕ) (a : Bool) (q : a ≡ sets.whole_of (sets.store e.sets heads slots cells)) (t : a ≡ true) where
  sound : sets.Whole e.sets heads slots cells
  sound = whole_means (sets.store e.sets heads slots cells) (sym q ∙ t)

  pub count_fits : Fits w16 e.sets.count
  count_fits = let w = sound in record { fits = lt_of_le_of_lt w.few (lit< tt) }

  pub size_fits : Fits w16 e.sets.size
  size_fits = let w = sound in record { fits = lt_of_le_of_lt w.size_high (lit< tt) }

  pub units_long : (b : Bool) (schedule_heads units : List ℕ) → b ≡ schedules_fit e (length schedule_heads) (length units) → b ≡ true
      → (e.schedules * 12 ≤ length schedule_heads) × (e.schedules * 4608 ≤ length units) × (12 ≤ e.sets.size) × (e.sets.size ≤ 4096)
  units_long b schedule_heads units f k =
      let g = long e (length schedule_heads) (length units) (sym f ∙ k) in
      let w = sound in
      (omega arith, omega arith, w.size_low, w.size_high)

pub whole_store : (s : Store) → whole_of s ≡ true → Whole s
unfolding whole_of
whole_store s q =
    let a = and_true (sets.whole_of (set_store s)) _ q in
    let b = and_true (schedules_fit s.eit (length s.schedule_heads) (length s.units)) _ a.1 in
    let g = long s.eit (length s.schedule_heads) (length s.units) b.0 in
    record { sets = whole_means (set_store s) a.0; schedule_heads_long = g.schedule_heads_long; units_long = g.units_long; schedules = g.schedules }

pub units_whole_lem : (s : Store) → whole_of s ≡ true → schedules_whole s.schedule_heads s.units s.eit.sets.count s.eit.sets.size s.eit.schedules ≡ true
unfolding whole_of
units_whole_lem s q =
    let a = and_true (sets.whole_of (set_store s)) _ q in
    (and_true (schedules_fit s.eit (length s.schedule_heads) (length s.units)) _ a.1).1

pub is_whole_means : (e : Eit) (heads slots cells schedule_heads units : List ℕ) (b : Bool) → b ≡ whole_of (store e heads slots cells schedule_heads units) → b ≡ true → Whole (store e heads slots cells schedule_heads units)
is_whole_means e heads slots cells schedule_heads units b q t = whole_store (store e heads slots cells schedule_heads units) (sym q ∙ t)

pub whole_room : (s : Store) → Whole s → RowsFit (rows_of s)
whole_room s w =
    let x = w.sets in
    record {
      used = x.used;
      heads_long = x.heads_long;
      slots_long = x.slots_long;
      schedule_heads_long = w.schedule_heads_long;
      units_long = w.units_long;
      schedules = w.schedules;
    }

-- the same of a store's parts
pub is_whole_room : (e : Eit) (heads slots cells schedule_heads units : List ℕ) → Whole (store e heads slots cells schedule_heads units) → RowsFit (rows e heads slots schedule_heads units)
is_whole_room e heads slots cells schedule_heads units w = whole_room (store e heads slots cells schedule_heads units) w

-- ---- 11

pub full : (e : Eit) (a : Bool) → a ≡ sets.counters_full e.sets → (a || eqb e.schedule_evictions 18446744073709551615) ≡ counters_full e
full e a q = rw q

-- no count is at its end; the evictions fit 64 bits
pub can_count : (e : Eit) (full : Bool) → full ≡ counters_full e → full ≡ false → e.sets.evictions < 18446744073709551616 → e.schedule_evictions < 18446744073709551616 → CanCount e
can_count e full g h l k =
    let o = or_false (sets.counters_full e.sets) (eqb e.schedule_evictions 18446744073709551615) (sym g ∙ h) in
    let a : e.sets.evictions ≢ 18446744073709551615 = evictions_go_on e.sets (sets.counters_full e.sets) refl o.0 in
    let b : e.schedule_evictions ≢ 18446744073709551615 = eqb-false _ _ o.1 in
    record { sets = omega arith; runs = clock_goes_on e.sets (sets.counters_full e.sets) refl o.0; schedules = omega arith }
