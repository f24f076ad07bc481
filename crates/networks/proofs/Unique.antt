-- The promise of each call names one result and one list.
-- Assumes nothing.
use mathlib.Core.Path.{◌≡◌, sym, ap, ◌∙◌}
use mathlib.Core.List.{List}
use Prim.Native.Nat.{ℕ}
use Rattle.store.specs.Store.{Store}
use Rattle.rules_networks.specs.declared.Table.{Table}
use Rattle.network_sets.specs.declared.Read.{Read}
use Rattle.networks.specs.Store.{read_section, read_set}

module _ (r r' : Read) (l l' : List ℕ) where
  both : (x : Read × List ℕ) → (r, l) ≡ x → (r', l') ≡ x → (r ≡ r') × (l ≡ l')
  both x p q = (ap (λ (y : Read × List ℕ). y.0) (p ∙ sym q), ap (λ (y : Read × List ℕ). y.1) (p ∙ sym q))

  pub unique_entries : (t : Table) (section : List ℕ) (skip : ℕ) (list : List ℕ) → (r, l) ≡ read_section t section skip list → (r', l') ≡ read_section t section skip list → (r ≡ r') × (l ≡ l')
  unique_entries t section skip list = both (read_section t section skip list)

  pub unique_set : (t : Table) (s : Store) (row skip : ℕ) (list : List ℕ) → (r, l) ≡ read_set t s row skip list → (r', l') ≡ read_set t s row skip list → (r ≡ r') × (l ≡ l')
  unique_set t s row skip list = both (read_set t s row skip list)
