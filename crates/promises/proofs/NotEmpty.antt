-- Demand 3 is not empty: two collectors, over memory that held sevens, and four sections for which all that it asks holds. A is a set of two sections, B of
-- one. At limit 1 B drives A out, so A goes out one call later than at limit 2: the larger's earlier set is the witness.
-- Assumes nothing.
use mathlib.Core.Path.{◌≡◌, refl, ap, ◌∙◌}
use mathlib.Core.List.{List, [], ◌∷◌, map}
use native.Mathlib.Omega.{arith}
use lib.ListN.{get_elem?}
use Rattle.laws.specs.Lists.{every, first_from}
use Rattle.laws.proofs.Facts.{any_of}
use Rattle.rules_shared.specs.Same.{Bytes}
use Rattle.rules_shared.specs.Touch.{untouched}
use Rattle.crc.specs.Crc.{crc_from, bits_in, bit_in}
use Rattle.section.specs.Header.{stored_crc, worked_crc, header_of}
use Rattle.section.specs.Judged.{malformed, collected_long, collected_of}
use Rattle.rules_sets.specs.Rules.{Call, Whole, Answer, nothing, handout, number_of}
use Rattle.rules_sets.proofs.Examples.{replies}
use Rattle.ticks.specs.Order.{listed, at_tick, in_order, rows_seen}
use Rattle.ticks.specs.Slots.{up_from, cells_seen}
use Rattle.sets.specs.Store.{opened_of}
use Rattle.ties_sets.specs.View.{reads_as, read_section, reads, seen}
use Rattle.promises.specs.Demand3.{Collector, StartsEmpty, EqualCellSize, LimitNoLarger, Calls, SectionsOfBytes, answers_of, RefusesNoneAsConflicting, RefusesNoneForItsStore, HandsOut}
use Rattle.promises.proofs.Demand3.{read_all}
use Rattle.promises.proofs.Runs.{numbered, on, said, set_of, bytes_in, of_bytes, collector, shown, runs, no_conflict, unrefused}

-- ---- the sections: each twelve bytes, the last four the CRC

abbrev A₀ : Bytes
A₀ = 0x40 ∷ 0xB0 ∷ 0x09 ∷ 0x00 ∷ 0x01 ∷ 0xC1 ∷ 0x00 ∷ 0x01 ∷ 0x55 ∷ 0x03 ∷ 0xDB ∷ 0xE2 ∷ []

abbrev A₁ : Bytes
A₁ = 0x40 ∷ 0xB0 ∷ 0x09 ∷ 0x00 ∷ 0x01 ∷ 0xC1 ∷ 0x01 ∷ 0x01 ∷ 0x87 ∷ 0x1A ∷ 0x1A ∷ 0x3E ∷ []

abbrev B₀ : Bytes
B₀ = 0x42 ∷ 0xB0 ∷ 0x09 ∷ 0x00 ∷ 0x01 ∷ 0xC1 ∷ 0x00 ∷ 0x00 ∷ 0xE6 ∷ 0x81 ∷ 0x7F ∷ 0xC1 ∷ []

abbrev given : List Bytes
given = A₀ ∷ B₀ ∷ A₁ ∷ A₀ ∷ []

abbrev pub calls : Calls
calls = map on given

abbrev read : List Call
read = said 0x40 0 1 A₀ ∷ said 0x42 0 0 B₀ ∷ said 0x40 1 1 A₁ ∷ said 0x40 0 1 A₀ ∷ []

reads_so : read_all calls ≡ read
unfolding reads read_section reads_as collected_of collected_long malformed header_of stored_crc worked_crc crc_from bits_in bit_in
reads_so = refl

bytes_so : bytes_in given ≡ mathlib.Core.Bool.true
unfolding every
bytes_so = refl

abbrev pub set_A : Whole
set_A = set_of 0x40 1 (A₀ ∷ A₁ ∷ [])

abbrev pub set_B : Whole
set_B = set_of 0x42 0 (B₀ ∷ [])

-- ---- the collectors, with cells of 16 bytes

abbrev pub smaller : Collector
smaller = collector 1 16 2

abbrev pub larger : Collector
larger = collector 2 16 3

smaller_opened : StartsEmpty smaller
unfolding opened_of
smaller_opened = record { opened = record { opened = refl; none = refl }; evictions = refl; clock = refl }

larger_opened : StartsEmpty larger
unfolding opened_of
larger_opened = record { opened = record { opened = refl; none = refl }; evictions = refl; clock = refl }

smaller_seen : seen smaller ≡ shown 1 16 2
unfolding seen untouched rows_seen in_order listed at_tick first_from cells_seen up_from
smaller_seen = refl

larger_seen : seen larger ≡ shown 2 16 3
unfolding seen untouched rows_seen in_order listed at_tick first_from cells_seen up_from
larger_seen = refl

-- ---- the answers

by_smaller : replies (shown 1 16 2) read ≡ nothing ∷ handout set_B ∷ nothing ∷ handout set_A ∷ []
unfolding replies
by_smaller = refl

by_larger : replies (shown 2 16 3) read ≡ nothing ∷ handout set_B ∷ handout set_A ∷ nothing ∷ []
unfolding replies
by_larger = refl

pub smaller_answers : answers_of smaller calls ≡ nothing ∷ handout set_B ∷ nothing ∷ handout set_A ∷ []
smaller_answers = runs smaller smaller_opened (shown 1 16 2) smaller_seen given bytes_so read reads_so ∙ by_smaller

pub larger_answers : answers_of larger calls ≡ nothing ∷ handout set_B ∷ handout set_A ∷ nothing ∷ []
larger_answers = runs larger larger_opened (shown 2 16 3) larger_seen given bytes_so read reads_so ∙ by_larger

-- ---- what demand 3 asks holds, and the smaller hands out

pub record Holds : Type 0 where
  pub smaller_empty : StartsEmpty smaller
  pub larger_empty : StartsEmpty larger
  pub equal_cell_size : EqualCellSize smaller larger
  pub limit_no_larger : LimitNoLarger smaller larger
  pub sections_of_bytes : SectionsOfBytes calls
  pub larger_no_conflict : RefusesNoneAsConflicting larger calls
  pub smaller_unrefused : RefusesNoneForItsStore smaller calls
  pub larger_unrefused : RefusesNoneForItsStore larger calls
  pub hands_out : HandsOut smaller calls 3 set_A

pub holds : Holds
unfolding any_of numbered number_of
holds = record {
  smaller_empty = smaller_opened;
  larger_empty = larger_opened;
  equal_cell_size = refl;
  limit_no_larger = omega arith;
  sections_of_bytes = of_bytes given bytes_so;
  larger_no_conflict = no_conflict larger calls _ larger_answers refl;
  smaller_unrefused = unrefused smaller calls _ smaller_answers refl;
  larger_unrefused = unrefused larger calls _ larger_answers refl;
  hands_out = ap (λ (as' : List Answer). get_elem? as' 3) smaller_answers;
}

-- not at that section: the larger handed it out at the one before
pub one_call_earlier : HandsOut larger calls 2 set_A
one_call_earlier = ap (λ (as' : List Answer). get_elem? as' 2) larger_answers
