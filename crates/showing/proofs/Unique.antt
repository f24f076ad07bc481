-- The promise of each call names one result and one list.
-- Assumes nothing.
use mathlib.Core.Path.{◌≡◌, sym, ap, ◌∙◌}
use mathlib.Core.List.{List}
use Prim.Native.Nat.{ℕ}
use Rattle.eit_state.specs.State.{Store}
use Rattle.shown_sections.specs.declared.Shown.{Shown}
use Rattle.showing.specs.Store.{shown_section, shown_set, shown_table}

module _ (r r' : Shown) (l l' : List ℕ) where
  both : (x : Shown × List ℕ) → (r, l) ≡ x → (r', l') ≡ x → (r ≡ r') × (l ≡ l')
  both x p q = (ap (λ (y : Shown × List ℕ). y.0) (p ∙ sym q), ap (λ (y : Shown × List ℕ). y.1) (p ∙ sym q))

  pub unique_events : (section : List ℕ) (skip : ℕ) (list : List ℕ) → (r, l) ≡ shown_section section skip list → (r', l') ≡ shown_section section skip list → (r ≡ r') × (l ≡ l')
  unique_events section skip list = both (shown_section section skip list)

  pub unique_set : (s : Store) (row skip : ℕ) (list : List ℕ) → (r, l) ≡ shown_set s row skip list → (r', l') ≡ shown_set s row skip list → (r ≡ r') × (l ≡ l')
  unique_set s row skip list = both (shown_set s row skip list)

  pub unique_table : (s : Store) (row table skip : ℕ) (list : List ℕ) → (r, l) ≡ shown_table s row table skip list → (r', l') ≡ shown_table s row table skip list → (r ≡ r') × (l ≡ l')
  unique_table s row table skip list = both (shown_table s row table skip list)
