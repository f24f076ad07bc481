-- Why demand 3 asks what it asks: without any one of its hypotheses it is false of the collector over lent memory. Each is left out in turn, and two
-- collectors and some sections are given for which the rest holds and the end does not.
-- Assumes nothing.
use mathlib.Core.Path.{◌≡◌, refl, ap, ◌∙◌}
use mathlib.Core.Bool.{Bool, true, false}
use mathlib.Core.List.{List, [], ◌∷◌, map}
use Prim.Native.Nat.{ℕ}
use native.Mathlib.Omega.{arith}
use lib.ListN.{drop, get_elem?}
use Rattle.laws.specs.Lists.{every, first_from}
use Rattle.laws.proofs.Facts.{any_of}
use Rattle.answers.specs.declared.Refusal.TheVariants.{TooLong}
use Rattle.rules_shared.specs.Same.{Bytes, same_bytes}
use Rattle.rules_shared.specs.Touch.{untouched}
use Rattle.laws.specs.Runs.{answers}
use Rattle.crc.specs.Crc.{crc_from, bits_in, bit_in}
use Rattle.section.specs.Header.{stored_crc, worked_crc, header_of}
use Rattle.section.specs.Judged.{malformed, collected_long, collected_of}
use Rattle.rules_sets.specs.Rules.{Call, Whole, Answer, cleared, nothing, handout, refused, conflict, not_whole, counter_full, no_cell, number_of}
use Rattle.rules_sets.proofs.Cells.{settings_stay as stays}
use Rattle.rules_sets.proofs.Examples.{replies}
use Rattle.ticks.specs.Order.{listed, at_tick, in_order, rows_seen}
use Rattle.ticks.specs.Slots.{up_from, cells_seen}
use Rattle.rules_sets.specs.Cells.{Store as Shown}
use Rattle.rules_shared.specs.Cells.{Settings}
use native.Mathlib.Nat.{le_of_eq}
use Rattle.ties_sets.proofs.History.{opened_reached, acts_seen}
use Rattle.sets.specs.Store.{opened_of}
use Rattle.ties_sets.specs.View.{reads_as, read_section, reads, seen}
use Rattle.promises.specs.Demand3.{Collector, StartsEmpty, EqualCellSize, LimitNoLarger, made, acts, Calls, SectionsOfBytes, answers_of, RefusesNoneAsConflicting, RefusesNoneForItsStore, HandsOut, HandedOutSinceTheLastClear}
use Rattle.promises.proofs.Demand3.{read_all}
use Rattle.promises.proofs.Runs.{numbered, on, said, set_of, bytes_in, of_bytes, collector, shown, runs, never, no_conflict, unrefused}

-- the end of demand 3
abbrev pub Follows : (smaller larger : Collector) → Calls → Type 0
Follows smaller larger calls = (t : ℕ) (set : Whole) → HandsOut smaller calls t set → HandedOutSinceTheLastClear larger calls t set

-- the answer hands out a set that begins with these bytes
abbrev first : Bytes → List Bytes → Bool
first bytes [] = false
first bytes (b ∷ bs) = same_bytes b bytes

abbrev begins : Bytes → Answer → Bool
begins bytes (handout w) = first bytes w.sections
begins bytes cleared = false
begins bytes nothing = false
begins bytes (refused r) = false

-- 10, 11 and 21; and 22
abbrev memory : Answer → Bool
memory = numbered (10 ∷ 11 ∷ 21 ∷ [])

abbrev others : Answer → Bool
others = numbered (22 ∷ [])

-- a set that begins as none that was handed out
not_given : (s : Collector) (calls : Calls) (as' : List Answer) → answers_of s calls ≡ as' → (bytes : Bytes) → any_of (begins bytes) as' ≡ false
    → (t : ℕ) (set : Whole) → begins bytes (handout set) ≡ true → HandedOutSinceTheLastClear s calls t set → ⊥
not_given s calls as' e bytes h t set p g = never s calls as' e (begins bytes) h (handout set) p g.at g.given

-- ---- sections of 13 bytes: byte 8 tells them apart, the last four are the CRC

abbrev A-7 : Bytes
A-7 = 0x40 ∷ 0xB0 ∷ 0x0A ∷ 0x00 ∷ 0x01 ∷ 0xC1 ∷ 0x00 ∷ 0x01 ∷ 0x07 ∷ 0xA3 ∷ 0x37 ∷ 0xCA ∷ 0x5A ∷ []

abbrev A-6 : Bytes
A-6 = 0x40 ∷ 0xB0 ∷ 0x0A ∷ 0x00 ∷ 0x01 ∷ 0xC1 ∷ 0x00 ∷ 0x01 ∷ 0x06 ∷ 0xA7 ∷ 0xF6 ∷ 0xD7 ∷ 0xED ∷ []

abbrev A-8 : Bytes
A-8 = 0x40 ∷ 0xB0 ∷ 0x0A ∷ 0x00 ∷ 0x01 ∷ 0xC1 ∷ 0x01 ∷ 0x01 ∷ 0x08 ∷ 0x9A ∷ 0xA0 ∷ 0xDB ∷ 0x60 ∷ []

abbrev B-7 : Bytes
B-7 = 0x42 ∷ 0xB0 ∷ 0x0A ∷ 0x00 ∷ 0x01 ∷ 0xC1 ∷ 0x00 ∷ 0x01 ∷ 0x07 ∷ 0x43 ∷ 0xF7 ∷ 0x83 ∷ 0x21 ∷ []

abbrev B-6 : Bytes
B-6 = 0x42 ∷ 0xB0 ∷ 0x0A ∷ 0x00 ∷ 0x01 ∷ 0xC1 ∷ 0x00 ∷ 0x01 ∷ 0x06 ∷ 0x47 ∷ 0x36 ∷ 0x9E ∷ 0x96 ∷ []

abbrev B-8 : Bytes
B-8 = 0x42 ∷ 0xB0 ∷ 0x0A ∷ 0x00 ∷ 0x01 ∷ 0xC1 ∷ 0x01 ∷ 0x01 ∷ 0x08 ∷ 0x7A ∷ 0x60 ∷ 0x92 ∷ 0x1B ∷ []

abbrev C-9 : Bytes
C-9 = 0x46 ∷ 0xB0 ∷ 0x0A ∷ 0x00 ∷ 0x01 ∷ 0xC1 ∷ 0x00 ∷ 0x00 ∷ 0x09 ∷ 0x68 ∷ 0x21 ∷ 0x6D ∷ 0xB6 ∷ []

abbrev D-1 : Bytes
D-1 = 0x40 ∷ 0xB0 ∷ 0x0A ∷ 0x00 ∷ 0x01 ∷ 0xC1 ∷ 0x00 ∷ 0x02 ∷ 0x01 ∷ 0xCB ∷ 0x5A ∷ 0xD8 ∷ 0x3B ∷ []

abbrev D-2 : Bytes
D-2 = 0x40 ∷ 0xB0 ∷ 0x0A ∷ 0x00 ∷ 0x01 ∷ 0xC1 ∷ 0x01 ∷ 0x02 ∷ 0x02 ∷ 0xC7 ∷ 0xC1 ∷ 0x52 ∷ 0x65 ∷ []

abbrev D-3 : Bytes
D-3 = 0x40 ∷ 0xB0 ∷ 0x0A ∷ 0x00 ∷ 0x01 ∷ 0xC1 ∷ 0x02 ∷ 0x02 ∷ 0x03 ∷ 0xC1 ∷ 0x69 ∷ 0xBA ∷ 0x5B ∷ []

-- ---- the larger refuses a section as conflicting: at limit 1 B drives A out, and A begins with other bytes

abbrev clash : List Bytes
clash = A-7 ∷ B-7 ∷ A-6 ∷ A-8 ∷ []

abbrev clash_said : List Call
clash_said = said 0x40 0 1 A-7 ∷ said 0x42 0 1 B-7 ∷ said 0x40 0 1 A-6 ∷ said 0x40 1 1 A-8 ∷ []

clash_reads : read_all (map on clash) ≡ clash_said
unfolding reads read_section reads_as collected_of collected_long malformed header_of stored_crc worked_crc crc_from bits_in bit_in
clash_reads = refl

clash_bytes : bytes_in clash ≡ true
unfolding every
clash_bytes = refl

clash_small_opened : StartsEmpty (collector 1 16 2)
unfolding opened_of
clash_small_opened = record { opened = record { opened = refl; none = refl }; evictions = refl; clock = refl }

clash_small_seen : seen (collector 1 16 2) ≡ shown 1 16 2
unfolding seen untouched rows_seen in_order listed at_tick first_from cells_seen up_from
clash_small_seen = refl

clash_small_replies : replies (shown 1 16 2) clash_said ≡ nothing ∷ nothing ∷ nothing ∷ handout (set_of 0x40 1 (A-6 ∷ A-8 ∷ [])) ∷ []
unfolding replies
clash_small_replies = refl

clash_small : answers_of (collector 1 16 2) (map on clash) ≡ nothing ∷ nothing ∷ nothing ∷ handout (set_of 0x40 1 (A-6 ∷ A-8 ∷ [])) ∷ []
clash_small = runs (collector 1 16 2) clash_small_opened (shown 1 16 2) clash_small_seen clash clash_bytes clash_said clash_reads ∙ clash_small_replies

clash_large_opened : StartsEmpty (collector 2 16 3)
unfolding opened_of
clash_large_opened = record { opened = record { opened = refl; none = refl }; evictions = refl; clock = refl }

clash_large_seen : seen (collector 2 16 3) ≡ shown 2 16 3
unfolding seen untouched rows_seen in_order listed at_tick first_from cells_seen up_from
clash_large_seen = refl

clash_large_replies : replies (shown 2 16 3) clash_said ≡ nothing ∷ nothing ∷ conflict ∷ handout (set_of 0x40 1 (A-7 ∷ A-8 ∷ [])) ∷ []
unfolding replies
clash_large_replies = refl

clash_large : answers_of (collector 2 16 3) (map on clash) ≡ nothing ∷ nothing ∷ conflict ∷ handout (set_of 0x40 1 (A-7 ∷ A-8 ∷ [])) ∷ []
clash_large = runs (collector 2 16 3) clash_large_opened (shown 2 16 3) clash_large_seen clash clash_bytes clash_said clash_reads ∙ clash_large_replies

clash_stored : RefusesNoneForItsStore (collector 2 16 3) (map on clash)
unfolding any_of numbered number_of
clash_stored = record {
  cells = never (collector 2 16 3) (map on clash) _ clash_large memory refl no_cell refl;
  counter = never (collector 2 16 3) (map on clash) _ clash_large memory refl counter_full refl;
  wholeness = never (collector 2 16 3) (map on clash) _ clash_large memory refl not_whole refl;
}

pub conflict_needed : ¬ ((smaller larger : Collector) → StartsEmpty smaller → StartsEmpty larger → EqualCellSize smaller larger → LimitNoLarger smaller larger → (calls : Calls) → SectionsOfBytes calls → RefusesNoneForItsStore smaller calls → RefusesNoneForItsStore larger calls → Follows smaller larger calls)
unfolding any_of numbered number_of same_bytes
conflict_needed f =
    not_given (collector 2 16 3) (map on clash) _ clash_large A-6 refl 3 (set_of 0x40 1 (A-6 ∷ A-8 ∷ [])) refl
    (f (collector 1 16 2) (collector 2 16 3) clash_small_opened clash_large_opened refl (omega arith) (map on clash) (of_bytes clash clash_bytes)
    (unrefused (collector 1 16 2) (map on clash) _ clash_small refl) clash_stored 3 (set_of 0x40 1 (A-6 ∷ A-8 ∷ [])) (ap (λ (as' : List Answer). get_elem? as' 3) clash_small))

-- ---- the limit of the first is the larger one: B drives A out of the second alone

abbrev driven : List Bytes
driven = A-7 ∷ B-7 ∷ A-8 ∷ []

abbrev driven_said : List Call
driven_said = said 0x40 0 1 A-7 ∷ said 0x42 0 1 B-7 ∷ said 0x40 1 1 A-8 ∷ []

driven_reads : read_all (map on driven) ≡ driven_said
unfolding reads read_section reads_as collected_of collected_long malformed header_of stored_crc worked_crc crc_from bits_in bit_in
driven_reads = refl

driven_bytes : bytes_in driven ≡ true
unfolding every
driven_bytes = refl

driven_small_opened : StartsEmpty (collector 2 16 3)
unfolding opened_of
driven_small_opened = record { opened = record { opened = refl; none = refl }; evictions = refl; clock = refl }

driven_small_seen : seen (collector 2 16 3) ≡ shown 2 16 3
unfolding seen untouched rows_seen in_order listed at_tick first_from cells_seen up_from
driven_small_seen = refl

driven_small_replies : replies (shown 2 16 3) driven_said ≡ nothing ∷ nothing ∷ handout (set_of 0x40 1 (A-7 ∷ A-8 ∷ [])) ∷ []
unfolding replies
driven_small_replies = refl

driven_small : answers_of (collector 2 16 3) (map on driven) ≡ nothing ∷ nothing ∷ handout (set_of 0x40 1 (A-7 ∷ A-8 ∷ [])) ∷ []
driven_small = runs (collector 2 16 3) driven_small_opened (shown 2 16 3) driven_small_seen driven driven_bytes driven_said driven_reads ∙ driven_small_replies

driven_large_opened : StartsEmpty (collector 1 16 2)
unfolding opened_of
driven_large_opened = record { opened = record { opened = refl; none = refl }; evictions = refl; clock = refl }

driven_large_seen : seen (collector 1 16 2) ≡ shown 1 16 2
unfolding seen untouched rows_seen in_order listed at_tick first_from cells_seen up_from
driven_large_seen = refl

driven_large_replies : replies (shown 1 16 2) driven_said ≡ nothing ∷ nothing ∷ nothing ∷ []
unfolding replies
driven_large_replies = refl

driven_large : answers_of (collector 1 16 2) (map on driven) ≡ nothing ∷ nothing ∷ nothing ∷ []
driven_large = runs (collector 1 16 2) driven_large_opened (shown 1 16 2) driven_large_seen driven driven_bytes driven_said driven_reads ∙ driven_large_replies

pub limit_needed : ¬ ((smaller larger : Collector) → StartsEmpty smaller → StartsEmpty larger → EqualCellSize smaller larger → (calls : Calls) → SectionsOfBytes calls → RefusesNoneAsConflicting larger calls → RefusesNoneForItsStore smaller calls → RefusesNoneForItsStore larger calls → Follows smaller larger calls)
unfolding any_of numbered number_of same_bytes
limit_needed f =
    not_given (collector 1 16 2) (map on driven) _ driven_large A-7 refl 2 (set_of 0x40 1 (A-7 ∷ A-8 ∷ [])) refl
    (f (collector 2 16 3) (collector 1 16 2) driven_small_opened driven_large_opened refl (map on driven) (of_bytes driven driven_bytes) (no_conflict (collector 1 16 2) (map on driven) _ driven_large refl)
    (unrefused (collector 2 16 3) (map on driven) _ driven_small refl) (unrefused (collector 1 16 2) (map on driven) _ driven_large refl) 2 (set_of 0x40 1 (A-7 ∷ A-8 ∷ []))
    (ap (λ (as' : List Answer). get_elem? as' 2) driven_small))

-- ---- the larger has cells of 12 bytes and refuses a section of 13 (20)

abbrev alone : List Bytes
alone = C-9 ∷ []

abbrev alone_said : List Call
alone_said = said 0x46 0 0 C-9 ∷ []

alone_reads : read_all (map on alone) ≡ alone_said
unfolding reads read_section reads_as collected_of collected_long malformed header_of stored_crc worked_crc crc_from bits_in bit_in
alone_reads = refl

alone_bytes : bytes_in alone ≡ true
unfolding every
alone_bytes = refl

alone_small_opened : StartsEmpty (collector 1 16 1)
unfolding opened_of
alone_small_opened = record { opened = record { opened = refl; none = refl }; evictions = refl; clock = refl }

alone_small_seen : seen (collector 1 16 1) ≡ shown 1 16 1
unfolding seen untouched rows_seen in_order listed at_tick first_from cells_seen up_from
alone_small_seen = refl

alone_small_replies : replies (shown 1 16 1) alone_said ≡ handout (set_of 0x46 0 (C-9 ∷ [])) ∷ []
unfolding replies
alone_small_replies = refl

alone_small : answers_of (collector 1 16 1) (map on alone) ≡ handout (set_of 0x46 0 (C-9 ∷ [])) ∷ []
alone_small = runs (collector 1 16 1) alone_small_opened (shown 1 16 1) alone_small_seen alone alone_bytes alone_said alone_reads ∙ alone_small_replies

alone_short_opened : StartsEmpty (collector 1 12 1)
unfolding opened_of
alone_short_opened = record { opened = record { opened = refl; none = refl }; evictions = refl; clock = refl }

alone_short_seen : seen (collector 1 12 1) ≡ shown 1 12 1
unfolding seen untouched rows_seen in_order listed at_tick first_from cells_seen up_from
alone_short_seen = refl

alone_short_replies : replies (shown 1 12 1) alone_said ≡ refused TooLong ∷ []
unfolding replies
alone_short_replies = refl

alone_short : answers_of (collector 1 12 1) (map on alone) ≡ refused TooLong ∷ []
alone_short = runs (collector 1 12 1) alone_short_opened (shown 1 12 1) alone_short_seen alone alone_bytes alone_said alone_reads ∙ alone_short_replies

alone_none_opened : StartsEmpty (collector 1 16 0)
unfolding opened_of
alone_none_opened = record { opened = record { opened = refl; none = refl }; evictions = refl; clock = refl }

alone_none_seen : seen (collector 1 16 0) ≡ shown 1 16 0
unfolding seen untouched rows_seen in_order listed at_tick first_from cells_seen up_from
alone_none_seen = refl

alone_none_replies : replies (shown 1 16 0) alone_said ≡ no_cell ∷ []
unfolding replies
alone_none_replies = refl

alone_none : answers_of (collector 1 16 0) (map on alone) ≡ no_cell ∷ []
alone_none = runs (collector 1 16 0) alone_none_opened (shown 1 16 0) alone_none_seen alone alone_bytes alone_said alone_reads ∙ alone_none_replies

pub cell_size_needed : ¬ ((smaller larger : Collector) → StartsEmpty smaller → StartsEmpty larger → LimitNoLarger smaller larger → (calls : Calls) → SectionsOfBytes calls → RefusesNoneAsConflicting larger calls → RefusesNoneForItsStore smaller calls → RefusesNoneForItsStore larger calls → Follows smaller larger calls)
unfolding any_of numbered number_of same_bytes
cell_size_needed f =
    not_given (collector 1 12 1) (map on alone) _ alone_short C-9 refl 0 (set_of 0x46 0 (C-9 ∷ [])) refl
    (f (collector 1 16 1) (collector 1 12 1) alone_small_opened alone_short_opened (omega arith) (map on alone) (of_bytes alone alone_bytes) (no_conflict (collector 1 12 1) (map on alone) _ alone_short refl)
    (unrefused (collector 1 16 1) (map on alone) _ alone_small refl) (unrefused (collector 1 12 1) (map on alone) _ alone_short refl) 0 (set_of 0x46 0 (C-9 ∷ []))
    (ap (λ (as' : List Answer). get_elem? as' 0) alone_small))

-- ---- the larger wants a cell (21)

pub larger_cells_needed : ¬ ((smaller larger : Collector) → StartsEmpty smaller → StartsEmpty larger → EqualCellSize smaller larger → LimitNoLarger smaller larger → (calls : Calls) → SectionsOfBytes calls → RefusesNoneAsConflicting larger calls → RefusesNoneForItsStore smaller calls → Follows smaller larger calls)
unfolding any_of numbered number_of same_bytes
larger_cells_needed f =
    not_given (collector 1 16 0) (map on alone) _ alone_none C-9 refl 0 (set_of 0x46 0 (C-9 ∷ [])) refl
    (f (collector 1 16 1) (collector 1 16 0) alone_small_opened alone_none_opened refl (omega arith) (map on alone) (of_bytes alone alone_bytes)
    (never (collector 1 16 0) (map on alone) _ alone_none others refl conflict refl) (unrefused (collector 1 16 1) (map on alone) _ alone_small refl) 0 (set_of 0x46 0 (C-9 ∷ []))
    (ap (λ (as' : List Answer). get_elem? as' 0) alone_small))

-- ---- the smaller wants a cell: D's third section finds none, so D is not touched and C drives D out, where in the larger C drives B out. The larger then
-- takes B's section with other bytes as a new one, and the smaller keeps the old bytes

abbrev wanting : List Bytes
wanting = D-1 ∷ D-2 ∷ B-7 ∷ D-3 ∷ C-9 ∷ B-6 ∷ B-8 ∷ []

abbrev wanting_said : List Call
wanting_said = said 0x40 0 2 D-1 ∷ said 0x40 1 2 D-2 ∷ said 0x42 0 1 B-7 ∷ said 0x40 2 2 D-3 ∷ said 0x46 0 0 C-9 ∷ said 0x42 0 1 B-6 ∷ said 0x42 1 1 B-8 ∷ []

wanting_reads : read_all (map on wanting) ≡ wanting_said
unfolding reads read_section reads_as collected_of collected_long malformed header_of stored_crc worked_crc crc_from bits_in bit_in
wanting_reads = refl

wanting_bytes : bytes_in wanting ≡ true
unfolding every
wanting_bytes = refl

wanting_small_opened : StartsEmpty (collector 2 16 3)
unfolding opened_of
wanting_small_opened = record { opened = record { opened = refl; none = refl }; evictions = refl; clock = refl }

wanting_small_seen : seen (collector 2 16 3) ≡ shown 2 16 3
unfolding seen untouched rows_seen in_order listed at_tick first_from cells_seen up_from
wanting_small_seen = refl

wanting_small_replies : replies (shown 2 16 3) wanting_said ≡ nothing ∷ nothing ∷ nothing ∷ no_cell ∷ handout (set_of 0x46 0 (C-9 ∷ [])) ∷ conflict ∷ handout (set_of 0x42 1 (B-7 ∷ B-8 ∷ [])) ∷ []
unfolding replies
wanting_small_replies = refl

wanting_small : answers_of (collector 2 16 3) (map on wanting) ≡ nothing ∷ nothing ∷ nothing ∷ no_cell ∷ handout (set_of 0x46 0 (C-9 ∷ [])) ∷ conflict ∷ handout (set_of 0x42 1 (B-7 ∷ B-8 ∷ [])) ∷ []
wanting_small = runs (collector 2 16 3) wanting_small_opened (shown 2 16 3) wanting_small_seen wanting wanting_bytes wanting_said wanting_reads ∙ wanting_small_replies

wanting_large_opened : StartsEmpty (collector 2 16 9)
unfolding opened_of
wanting_large_opened = record { opened = record { opened = refl; none = refl }; evictions = refl; clock = refl }

wanting_large_seen : seen (collector 2 16 9) ≡ shown 2 16 9
unfolding seen untouched rows_seen in_order listed at_tick first_from cells_seen up_from
wanting_large_seen = refl

wanting_large_replies : replies (shown 2 16 9) wanting_said ≡ nothing ∷ nothing ∷ nothing ∷ handout (set_of 0x40 2 (D-1 ∷ D-2 ∷ D-3 ∷ [])) ∷ handout (set_of 0x46 0 (C-9 ∷ [])) ∷ nothing ∷ handout (set_of 0x42 1 (B-6 ∷ B-8 ∷ [])) ∷ []
unfolding replies
wanting_large_replies = refl

wanting_large : answers_of (collector 2 16 9) (map on wanting) ≡ nothing ∷ nothing ∷ nothing ∷ handout (set_of 0x40 2 (D-1 ∷ D-2 ∷ D-3 ∷ [])) ∷ handout (set_of 0x46 0 (C-9 ∷ [])) ∷ nothing ∷ handout (set_of 0x42 1 (B-6 ∷ B-8 ∷ [])) ∷ []
wanting_large = runs (collector 2 16 9) wanting_large_opened (shown 2 16 9) wanting_large_seen wanting wanting_bytes wanting_said wanting_reads ∙ wanting_large_replies

pub smaller_cells_needed : ¬ ((smaller larger : Collector) → StartsEmpty smaller → StartsEmpty larger → EqualCellSize smaller larger → LimitNoLarger smaller larger → (calls : Calls) → SectionsOfBytes calls → RefusesNoneAsConflicting larger calls → RefusesNoneForItsStore larger calls → Follows smaller larger calls)
unfolding any_of numbered number_of same_bytes
smaller_cells_needed f =
    not_given (collector 2 16 9) (map on wanting) _ wanting_large B-7 refl 6 (set_of 0x42 1 (B-7 ∷ B-8 ∷ [])) refl
    (f (collector 2 16 3) (collector 2 16 9) wanting_small_opened wanting_large_opened refl (omega arith) (map on wanting) (of_bytes wanting wanting_bytes)
    (no_conflict (collector 2 16 9) (map on wanting) _ wanting_large refl) (unrefused (collector 2 16 9) (map on wanting) _ wanting_large refl) 6 (set_of 0x42 1 (B-7 ∷ B-8 ∷ []))
    (ap (λ (as' : List Answer). get_elem? as' 6) wanting_small))

-- ---- the smaller does not start empty: it has A's first section

abbrev both : List Bytes
both = A-7 ∷ A-8 ∷ []

abbrev both_said : List Call
both_said = said 0x40 0 1 A-7 ∷ said 0x40 1 1 A-8 ∷ []

both_reads : read_all (map on both) ≡ both_said
unfolding reads read_section reads_as collected_of collected_long malformed header_of stored_crc worked_crc crc_from bits_in bit_in
both_reads = refl

both_bytes : bytes_in both ≡ true
unfolding every
both_bytes = refl

abbrev second : List Bytes
second = A-8 ∷ []

abbrev second_said : List Call
second_said = said 0x40 1 1 A-8 ∷ []

second_reads : read_all (map on second) ≡ second_said
unfolding reads read_section reads_as collected_of collected_long malformed header_of stored_crc worked_crc crc_from bits_in bit_in
second_reads = refl

second_bytes : bytes_in second ≡ true
unfolding every
second_bytes = refl

both_small_opened : StartsEmpty (collector 1 16 2)
unfolding opened_of
both_small_opened = record { opened = record { opened = refl; none = refl }; evictions = refl; clock = refl }

both_small_seen : seen (collector 1 16 2) ≡ shown 1 16 2
unfolding seen untouched rows_seen in_order listed at_tick first_from cells_seen up_from
both_small_seen = refl

both_small_replies : replies (shown 1 16 2) both_said ≡ nothing ∷ handout (set_of 0x40 1 (A-7 ∷ A-8 ∷ [])) ∷ []
unfolding replies
both_small_replies = refl

both_small : answers_of (collector 1 16 2) (map on both) ≡ nothing ∷ handout (set_of 0x40 1 (A-7 ∷ A-8 ∷ [])) ∷ []
both_small = runs (collector 1 16 2) both_small_opened (shown 1 16 2) both_small_seen both both_bytes both_said both_reads ∙ both_small_replies

second_large_opened : StartsEmpty (collector 1 16 2)
unfolding opened_of
second_large_opened = record { opened = record { opened = refl; none = refl }; evictions = refl; clock = refl }

second_large_seen : seen (collector 1 16 2) ≡ shown 1 16 2
unfolding seen untouched rows_seen in_order listed at_tick first_from cells_seen up_from
second_large_seen = refl

second_large_replies : replies (shown 1 16 2) second_said ≡ nothing ∷ []
unfolding replies
second_large_replies = refl

second_large : answers_of (collector 1 16 2) (map on second) ≡ nothing ∷ []
second_large = runs (collector 1 16 2) second_large_opened (shown 1 16 2) second_large_seen second second_bytes second_said second_reads ∙ second_large_replies

abbrev begun : Collector
begun = acts (collector 1 16 2) (on A-7)

begun_answers : answers_of begun (map on second) ≡ handout (set_of 0x40 1 (A-7 ∷ A-8 ∷ [])) ∷ []
unfolding answers
begun_answers = ap (λ (as' : List Answer). drop 1 as') both_small

settings_stay : (begun.sets.size ≡ 16) × (begun.sets.limit ≡ 1)
unfolding seen
settings_stay =
    let e = ap (λ (q : Shown). q.settings) (acts_seen (collector 1 16 2) (opened_reached (collector 1 16 2) both_small_opened) (made (on A-7)) (of_bytes both both_bytes 0 (on A-7) refl))
    ∙ stays (seen (collector 1 16 2)) (reads (made (on A-7))) in
    (ap (λ (o : Settings). o.cell_size) e, ap (λ (o : Settings). o.limit) e)

pub empty_start_needed : ¬ ((smaller larger : Collector) → StartsEmpty larger → EqualCellSize smaller larger → LimitNoLarger smaller larger → (calls : Calls) → SectionsOfBytes calls → RefusesNoneAsConflicting larger calls → RefusesNoneForItsStore smaller calls → RefusesNoneForItsStore larger calls → Follows smaller larger calls)
unfolding any_of numbered number_of same_bytes
empty_start_needed f =
    not_given (collector 1 16 2) (map on second) _ second_large A-7 refl 0 (set_of 0x40 1 (A-7 ∷ A-8 ∷ [])) refl
    (f begun (collector 1 16 2) second_large_opened settings_stay.0 (le_of_eq settings_stay.1) (map on second) (of_bytes second second_bytes) (no_conflict (collector 1 16 2) (map on second) _ second_large refl)
    (unrefused begun (map on second) _ begun_answers refl) (unrefused (collector 1 16 2) (map on second) _ second_large refl) 0 (set_of 0x40 1 (A-7 ∷ A-8 ∷ []))
    (ap (λ (as' : List Answer). get_elem? as' 0) begun_answers))
