-- 10 and 41 leave the list and the three words as they were, whatever the lent words hold; 35 and 36 leave the list.
-- Assumes nothing.
use Prim.Native.Nat.{ℕ}
use mathlib.Core.Path.{◌≡◌, sym, ap, ◌∙◌}
use mathlib.Core.List.{List}
use mathlib.Core.Bool.{Bool, true, false, cond, ◌||◌}
use lib.Dec.{eqb}
use borrow.Author.Tests.{eq-eqb}
use Rattle.rules_networks.specs.declared.Table.{Table}
use Rattle.store.specs.Store.{store}
use Rattle.networks.specs.Store.{read_section, read_set}
use Rattle.networks.proofs.Listed.{is_fault, is_not, section_as_before, set_as_before}
use Rattle.host_sets_words.specs.Words.{sets_of}
use Rattle.host_networks.specs.Calls.{reader_of, section_read, set_read}

-- 35 and 36
pub entries_refused : (reader : ℕ) (section : List ℕ) (skip : ℕ) (list listed : List ℕ) → is_fault (section_read reader section skip list listed).answer ≡ true
    → (section_read reader section skip list listed).list ≡ list
unfolding section_read
entries_refused reader section skip list listed e = section_as_before (reader_of reader) section skip list e

module _ (reader : ℕ) (sets heads slots cells : List ℕ) (row skip : ℕ) (list listed : List ℕ) where
  -- 10, 41, 35 and 36
  pub sets_entries_refused : is_not (set_read reader sets heads slots cells row skip list listed).answer ≡ true → (set_read reader sets heads slots cells row skip list listed).list ≡ list
  unfolding set_read
  sets_entries_refused e = set_as_before (reader_of reader) (store (sets_of sets) heads slots cells) row skip list e

  -- 10 and 41
  pub sets_entries_kept : (eqb (set_read reader sets heads slots cells row skip list listed).answer 10 || eqb (set_read reader sets heads slots cells row skip list listed).answer 41) ≡ true
      → (set_read reader sets heads slots cells row skip list listed).listed ≡ listed
  unfolding set_read
  sets_entries_kept e = rw e
