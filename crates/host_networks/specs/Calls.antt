-- What the readers of networks, bouquets and services answer and leave in what a host lends: what networks/specs/Store.antt says, of the collector that the words hold.
use Rattle.std.specs.Prelude.{ℕ, List, [], ◌∷◌, cond, ◌||◌, eqb}
use Rattle.store.specs.Store.{store}
use Rattle.rules_networks.specs.declared.Table.{Table}
use Rattle.rules_networks.specs.declared.Table.TheVariants.{Nit, Bat, Sdt, None}
use Rattle.network_sets.specs.declared.Read.{Read}
use Rattle.network_sets.specs.Sets.{read_number}
use Rattle.networks.specs.Store.{read_section, read_set}
use Rattle.host_words.specs.Answers.{Words, words}
use Rattle.host_sets_words.specs.Words.{sets_of}
use Rattle.host_showing.specs.Calls.{Listing, listing}

-- a reader by its number; any other number names none
unfoldable pub reader_of : ℕ → Table
reader_of n = cond (eqb n 1) Nit (cond (eqb n 2) Bat (cond (eqb n 3) Sdt None))

-- the three words: 0 how many entries there are, 1 with 35 and 36 the section's number and 2 the place in it. 10 and 41 leave them as they were
abbrev pub read_after : (number : ℕ) → Read → List ℕ → List ℕ
read_after number r w = cond (eqb number 10 || eqb number 41) w (r.count ∷ r.section ∷ r.place ∷ [])

abbrev pub tells_read : Read → List ℕ → Words
tells_read r w = words (read_number r.answer) (read_after (read_number r.answer) r w)

abbrev pub handed : Read × List ℕ → List ℕ → Listing
handed r w = listing (read_number r.0.answer) (read_after (read_number r.0.answer) r.0 w) r.1

-- ---- the calls

unfoldable pub section_read : (reader : ℕ) → (section : List ℕ) → (skip : ℕ) → (list listed : List ℕ) → Listing
section_read reader section skip list listed = handed (read_section (reader_of reader) section skip list) listed

unfoldable pub set_read : (reader : ℕ) → (sets heads slots cells : List ℕ) → (row skip : ℕ) → (list listed : List ℕ) → Listing
set_read reader sets heads slots cells row skip list listed = handed (read_set (reader_of reader) (store (sets_of sets) heads slots cells) row skip list) listed
