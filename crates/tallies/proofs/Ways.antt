-- One law for each way out.
-- Assumes nothing.
use mathlib.Core.Path.{◌≡◌, refl}
use mathlib.Core.List.{List}
use Prim.Native.Nat.{ℕ, ◌+◌, ◌≤◌, ◌<◌}
use borrow.Author.Tests.{eq-eqb, ne_eqb, lt-ltb, le-ltb}
use lib.ListN.{get_or, set}
use Rattle.answers.specs.Answers.{refusal_no}
use Rattle.answers.specs.declared.Refusal.{Refusal}
use Rattle.sets_settle.specs.declared.PushAnswer.{PushAnswer as SetAnswer}
use Rattle.sets_settle.specs.declared.PushAnswer.TheVariants as sets
use Rattle.eit_state.specs.declared.PushAnswer.{PushAnswer as EitAnswer}
use Rattle.eit_state.specs.declared.PushAnswer.TheVariants as eit
use Rattle.tallies.specs.Columns.{set_refusal, set_column, eit_refusal, eit_column, more_of, counted_in}

-- ---- the columns

module _ (r : Refusal) (n : ℕ) (e : n ≡ refusal_no r) where
  pub set_conflict : n ≡ 22 → 2 ≡ set_refusal r
  unfolding set_refusal
  set_conflict h = rw (← e, eq-eqb n 22 h)

  pub set_no_cell : (n ≡ 22 → ⊥) → n ≡ 21 → 3 ≡ set_refusal r
  unfolding set_refusal
  set_no_cell h k = rw (← e, ne_eqb n 22 h, eq-eqb n 21 k)

  pub set_other : (n ≡ 22 → ⊥) → (n ≡ 21 → ⊥) → 10 ≡ set_refusal r
  unfolding set_refusal
  set_other h k = rw (← e, ne_eqb n 22 h, ne_eqb n 21 k)

  pub eit_conflict : n ≡ 22 → 6 ≡ eit_refusal r
  unfolding eit_refusal
  eit_conflict h = rw (← e, eq-eqb n 22 h)

  pub eit_no_cell : (n ≡ 22 → ⊥) → n ≡ 21 → 7 ≡ eit_refusal r
  unfolding eit_refusal
  eit_no_cell h k = rw (← e, ne_eqb n 22 h, eq-eqb n 21 k)

  pub eit_range : (n ≡ 22 → ⊥) → (n ≡ 21 → ⊥) → n ≡ 23 → 8 ≡ eit_refusal r
  unfolding eit_refusal
  eit_range h k l = rw (← e, ne_eqb n 22 h, ne_eqb n 21 k, eq-eqb n 23 l)

  pub eit_other : (n ≡ 22 → ⊥) → (n ≡ 21 → ⊥) → (n ≡ 23 → ⊥) → 9 ≡ eit_refusal r
  unfolding eit_refusal
  eit_other h k l = rw (← e, ne_eqb n 22 h, ne_eqb n 21 k, ne_eqb n 23 l)

pub set_refused : (a : SetAnswer) (r : Refusal) (n : ℕ) → a ≡ sets.Refused r → n ≡ set_refusal r → n ≡ set_column a
set_refused a r n q e = rw q e

pub eit_refused : (a : EitAnswer) (r : Refusal) (n : ℕ) → a ≡ eit.Refused r → n ≡ eit_refusal r → n ≡ eit_column a
eit_refused a r n q e = rw q e

-- ---- a count

pub more_room : (n : ℕ) → n < 18446744073709551615 → n + 1 ≡ more_of n
more_room n h = rw (lt-ltb n 18446744073709551615 h)

pub more_none : (n : ℕ) → 18446744073709551615 ≤ n → n ≡ more_of n
more_none n h = rw (le-ltb n 18446744073709551615 h)

pub counted_in_lem : (t : List ℕ) (k v : ℕ) → k < 10 → v ≡ more_of (get_or t k 0) → set t k v ≡ counted_in t k
unfolding counted_in
counted_in_lem t k v h e = rw (lt-ltb k 10 h, e)

pub counted_out : (t : List ℕ) (k : ℕ) → 10 ≤ k → t ≡ counted_in t k
unfolding counted_in
counted_out t k h = rw (le-ltb k 10 h)
