-- The test for 10 and what it tells; one law for each way out of the functions that make it.
-- Assumes nothing.
use mathlib.Core.Path.{◌≡◌, sym, ap, ◌∙◌}
use mathlib.Core.Logic.{◌≢◌}
use mathlib.Core.List.{List}
use mathlib.Core.Bool.{Bool, true, false, cond}
use Prim.Native.Nat.{ℕ, ◌+◌, ◌*◌, ◌/◌, ◌≤◌, ◌<◌}
use native.Mathlib.Nat.{mul-le-mul_right, mul-le-mul_left, le_trans, lt_of_le_of_lt, add-mul, one-mul}
use native.Mathlib.Omega.{arith}
use borrow.Author.Tests.{le-leb, lt-leb, leb-true, eqb-false}
use mir.Val.{Fits}
use mir.Syntax.{w16, w64}
use lib.Dec.{leb, eqb, lit<}
use lib.ListN.{length}
use Rattle.laws.proofs.Tests.{and_true, or_false, same_test}
use Rattle.rows.specs.Rows.{rows_whole}
use Rattle.without_pid.specs.Pids.{without_pid}
use Rattle.without_pid.specs.declared.Looked.{Looked}
use Rattle.store.specs.declared.Sets.{Sets}
use Rattle.store.specs.Store.{Store, store, settings_fit, whole_of, counters_full, Whole}

-- ---- the settings

div_test : (k a n : ℕ) → (a ≤ n / k → a * k ≤ n) → (a * k ≤ n → a ≤ n / k) → leb a (n / k) ≡ leb (a * k) n
div_test k a n f g = same_test _ _ (λ e. le-leb _ _ (f (leb-true _ _ e))) (λ e. le-leb _ _ (g (leb-true _ _ e)))

product : (a b m n : ℕ) → a ≤ m → b ≤ n → a * b ≤ m * n
product a b m n h k = le_trans (mul-le-mul_right b h) (mul-le-mul_left m k)

pub product_fits : (a b : ℕ) → a ≤ 65535 → b ≤ 4096 → Fits w64 (a * b)
product_fits a b h k = record { fits = lt_of_le_of_lt (product a b 65535 4096 h k) (lit< tt) }

-- the same as orders of numbers
pub record Long (s : Sets) (h l c : ℕ) : Type 0 where
  pub size_low : 12 ≤ s.size
  pub size_high : s.size ≤ 4096
  pub few : s.count ≤ 65535
  pub heads_long : s.limit * 12 ≤ h
  pub slots_long : s.limit * 288 ≤ l
  pub cells_long : s.count * s.size ≤ c

pub long : (s : Sets) (h l c : ℕ) → settings_fit s h l c ≡ true → Long s h l c
long s h l c e =
    let a = and_true _ _ e in
    let b = and_true _ _ a.0 in
    let d = and_true _ _ b.0 in
    let f = and_true _ _ d.0 in
    let g = and_true _ _ f.0 in
    record {
      size_low = leb-true _ _ g.0;
      size_high = leb-true _ _ g.1;
      few = leb-true _ _ f.1;
      heads_long = leb-true _ _ d.1;
      slots_long = leb-true _ _ b.1;
      cells_long = leb-true _ _ a.1;
    }

pub fits_long : (s : Sets) (h l c : ℕ) (b : Bool) → b ≡ settings_fit s h l c → b ≡ true → Long s h l c
fits_long s h l c b q t = long s h l c (sym q ∙ t)

-- what `is_whole` asks of its parts
module _ (s : Sets) (h l c : ℕ) (b : Bool) (q : b ≡ settings_fit s h l c) (t : b ≡ true) where
  pub count_fits : Fits w16 s.count
  count_fits = record { fits = lt_of_le_of_lt (fits_long s h l c b q t).few (lit< tt) }

  pub size_fits : Fits w16 s.size
  size_fits = record { fits = lt_of_le_of_lt (fits_long s h l c b q t).size_high (lit< tt) }

  pub rows_long : s.used ≤ s.limit → (s.used * 12 ≤ h) × (s.used * 288 ≤ l) × (12 ≤ s.size) × (s.size ≤ 4096)
  rows_long u = let g = fits_long s h l c b q t in (omega arith, omega arith, g.size_low, g.size_high)

-- ---- whole or not

module _ (s : Sets) (heads slots cells : List ℕ) (b : Bool) (q : b ≡ settings_fit s (length heads) (length slots) (length cells)) where
  pub whole_rows : (r : Bool) → b ≡ true → s.used ≤ s.limit → r ≡ rows_whole heads slots s.count s.size s.used → r ≡ whole_of (store s heads slots cells)
  unfolding whole_of
  whole_rows r t u e = rw (← q, t, le-leb s.used s.limit u) e

  pub whole_used : b ≡ true → s.limit < s.used → false ≡ whole_of (store s heads slots cells)
  unfolding whole_of
  whole_used t u = rw (← q, t, lt-leb s.used s.limit u)

  pub whole_not : b ≡ false → false ≡ whole_of (store s heads slots cells)
  unfolding whole_of
  whole_not t = rw (← q, t)

  pub look_rows : (r : Looked) → b ≡ true → s.used ≤ s.limit → (r.whole ≡ rows_whole heads slots s.count s.size s.used) × (r.without ≡ without_pid heads s.used)
      → (r.whole ≡ whole_of (store s heads slots cells)) × (r.whole ≡ true → r.without ≡ without_pid heads s.used)
  look_rows r t u e = (whole_rows r.whole t u e.0, λ h. e.1)

  look_none : false ≡ whole_of (store s heads slots cells) → (false ≡ whole_of (store s heads slots cells)) × (false ≡ true → false ≡ without_pid heads s.used)
  look_none e = (e, λ h. absurd (no h))
    where
      no : false ≡ true → ⊥
      no h = let z : ◌≡◌ {A = ℕ} 0 1 = ap (λ (x : Bool). cond x 1 0) h in omega (arith, z)

  pub look_used : b ≡ true → s.limit < s.used → (false ≡ whole_of (store s heads slots cells)) × (false ≡ true → false ≡ without_pid heads s.used)
  look_used t u = look_none (whole_used t u)

  pub look_not : b ≡ false → (false ≡ whole_of (store s heads slots cells)) × (false ≡ true → false ≡ without_pid heads s.used)
  look_not t = look_none (whole_not t)

pub whole_means : (s : Store) → whole_of s ≡ true → Whole s.sets s.heads s.slots s.cells
unfolding whole_of
whole_means s e =
    let a = and_true _ _ e in
    let b = and_true _ _ a.0 in
    let g = long s.sets (length s.heads) (length s.slots) (length s.cells) b.0 in
    record {
      size_low = g.size_low;
      size_high = g.size_high;
      few = g.few;
      used = leb-true _ _ b.1;
      heads_long = g.heads_long;
      slots_long = g.slots_long;
      cells_long = g.cells_long;
      rows = a.1;
    }

pub is_whole_means : (s : Sets) (heads slots cells : List ℕ) (b : Bool) → b ≡ whole_of (store s heads slots cells) → b ≡ true → Whole s heads slots cells
is_whole_means s heads slots cells b q t = whole_means (store s heads slots cells) (sym q ∙ t)

pub means_whole : (s : Store) → Whole s.sets s.heads s.slots s.cells → whole_of s ≡ true
unfolding whole_of
means_whole s w =
    rw (
      le-leb 12 s.sets.size w.size_low,
      le-leb s.sets.size 4096 w.size_high,
      le-leb s.sets.count 65535 w.few,
      le-leb (s.sets.limit * 12) (length s.heads) w.heads_long,
      le-leb (s.sets.limit * 288) (length s.slots) w.slots_long,
      le-leb (s.sets.count * s.sets.size) (length s.cells) w.cells_long,
      le-leb s.sets.used s.sets.limit w.used,
    ) w.rows

-- ---- a cell

mul_more : (a b : ℕ) → (a + 1) * b ≡ a * b + b
mul_more a b = rw (add-mul, one-mul)

-- cell c has room for n bytes
pub cell_fits : (s : Sets) (heads slots cells : List ℕ) (n c : ℕ) → Whole s heads slots cells → c < s.count → n ≤ s.size → c * s.size + n ≤ length cells
cell_fits s heads slots cells n c f h k =
    let m : (c + 1) * s.size ≤ s.count * s.size = mul-le-mul_right s.size (omega arith) in
    let l = f.cells_long in
    let z : (c + 1) * s.size ≡ c * s.size + s.size = mul_more c s.size in
    omega arith

-- ---- 11: where no count is at its end, each can go up

module _ (s : Sets) (b : Bool) (e : b ≡ counters_full s) (f : b ≡ false) where
  apart : (eqb s.evictions 18446744073709551615 ≡ false) × (eqb s.clock 18446744073709551615 ≡ false)
  apart = or_false (eqb s.evictions 18446744073709551615) (eqb s.clock 18446744073709551615) (sym e ∙ f)

  pub evictions_go_on : s.evictions ≢ 18446744073709551615
  evictions_go_on = eqb-false s.evictions 18446744073709551615 apart.0

  pub clock_goes_on : s.clock ≢ 18446744073709551615
  clock_goes_on = eqb-false s.clock 18446744073709551615 apart.1
