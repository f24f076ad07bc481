-- One law for each way out; the row of a set that is out is in use.
-- Assumes nothing.
use mathlib.Core.Path.{◌≡◌, refl, sym, ◌∙◌}
use mathlib.Core.Bool.{Bool, true, false, cond, not, true≢false}
use Prim.Native.Nat.{ℕ, ◌≤◌, ◌<◌}
use mathlib.Core.List.{List}
use lib.Dec.{ltb, eqb}
use borrow.Author.Tests.{lt-ltb, le-ltb, ltb-true}
use Rattle.rows.specs.Rows.{mark_of}
use Rattle.handed.specs.Handed.{set_out_lem}

module _ (heads : List ℕ) (used row : ℕ) where
  pub set_past : used ≤ row → false ≡ set_out_lem heads used row
  unfolding set_out_lem
  set_past h = rw (le-ltb row used h)

  pub set_in_lem : (m : ℕ) → row < used → m ≡ mark_of heads row → not (eqb m 0) ≡ set_out_lem heads used row
  unfolding set_out_lem
  set_in_lem m h e = rw (lt-ltb row used h, e)

  pub in_use : (o : Bool) → o ≡ set_out_lem heads used row → o ≡ true → row < used
  unfolding set_out_lem
  in_use o p y = go (ltb row used) (not (eqb (mark_of heads row) 0)) refl (sym p ∙ y)
    where
      go : (c d : Bool) → ltb row used ≡ c → cond c d false ≡ true → row < used
      go true d z k = ltb-true row used z
      go false d z k = absurd (true≢false (sym k))
