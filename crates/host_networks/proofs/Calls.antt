-- What each call leaves in what a host lends, from what its parts leave.
-- Assumes nothing.
use Prim.Native.Nat.{ℕ}
use mathlib.Core.Path.{◌≡◌, ap}
use mathlib.Core.Logic.{◌≢◌}
use mathlib.Core.List.{List, [], ◌∷◌}
use mathlib.Core.Bool.{true, false, ◌||◌}
use lib.Dec.{eqb}
use borrow.Author.Tests.{ne_eqb}
use Rattle.store.specs.Store.{store}
use Rattle.store.specs.declared.Sets.{Sets}
use Rattle.rules_networks.specs.declared.Table.{Table}
use Rattle.rules_networks.specs.declared.Table.TheVariants.{Nit, Bat, Sdt, None}
use Rattle.network_sets.specs.declared.Read.{Read}
use Rattle.network_sets.specs.Sets.{read_number}
use Rattle.networks.specs.Store.{read_section, read_set}
use Rattle.host_words.specs.Answers.{Words, words}
use Rattle.host_sets_words.specs.Words.{sets_of}
use Rattle.host_showing.specs.Calls.{listing}
use Rattle.host_networks.specs.Calls.{reader_of, tells_read, handed, section_read, set_read}

-- ---- readers

module _ (n : ℕ) where
  pub reader_nit : n ≡ 1 → Nit ≡ reader_of n
  unfolding reader_of
  reader_nit e = rw e

  module _ (a : n ≢ 1) where
    pub reader_bat : n ≡ 2 → Bat ≡ reader_of n
    unfolding reader_of
    reader_bat e = rw e

    module _ (b : n ≢ 2) where
      pub reader_sdt : n ≡ 3 → Sdt ≡ reader_of n
      unfolding reader_of
      reader_sdt e = rw e

      pub reader_none : n ≢ 3 → None ≡ reader_of n
      unfolding reader_of
      reader_none c = rw (ne_eqb n 1 a, ne_eqb n 2 b, ne_eqb n 3 c)

-- ---- the three words

module _ (s : Read) (w : List ℕ) (n : ℕ) (e : n ≡ read_number s.answer) where
  pub read_kept : (eqb n 10 || eqb n 41) ≡ true → words n w ≡ tells_read s w
  read_kept h = rw (← e, h)

  pub read_written : (eqb n 10 || eqb n 41) ≡ false → words n (s.count ∷ s.section ∷ s.place ∷ []) ≡ tells_read s w
  read_written h = rw (← e, h)

-- ---- the calls

both : (s : Read) (l w ws : List ℕ) (r : ℕ) (x : Read × List ℕ) → (s, l) ≡ x → words r ws ≡ tells_read s w → listing r ws l ≡ handed x w
both s l w ws r x e t = rw (← e, ap (λ (y : Words). y.answer) t, ap (λ (y : Words). y.now) t)

module _ (reader : ℕ) (t : Table) (k : t ≡ reader_of reader) (list w : List ℕ) (s : Read) (l ws : List ℕ) (r : ℕ) where
  pub section_read_lem : (section : List ℕ) (skip : ℕ) → (s, l) ≡ read_section t section skip list → words r ws ≡ tells_read s w → listing r ws l ≡ section_read reader section skip list w
  unfolding section_read
  section_read_lem section skip e f = rw (← k) (both s l w ws r (read_section t section skip list) e f)

  pub set_read_lem : (sets heads slots cells : List ℕ) (c : Sets) (row skip : ℕ) → c ≡ sets_of sets → (s, l) ≡ read_set t (store c heads slots cells) row skip list → words r ws ≡ tells_read s w
      → listing r ws l ≡ set_read reader sets heads slots cells row skip list w
  unfolding set_read
  set_read_lem sets heads slots cells c row skip h e f = rw (← k, ← h) (both s l w ws r (read_set t (store c heads slots cells) row skip list) e f)
