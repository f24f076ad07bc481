-- The copies of complete sets that schedules are made of: units of 288 words. Word 0 is not 0 where the copy is present, 1 its version, 2 its
-- last_section_number; from 32 on its slots. Unit u of all is for table u % 16 of schedule u / 16. For every content of the lent slices.
use Rattle.std.specs.Prelude.{ℕ, zero, suc, ◌+◌, ◌-◌, ◌%◌, List, Bool, true, false, cond, not, ◌&&◌, ◌||◌, length, take, drop, eqb, ltb}
use Rattle.std.proofs.Math.Seq.{paste}
use Rattle.cells.specs.Cells.{all_whole, some_names, marked_all}
use Rattle.rows.specs.Rows.{row_of, row_slots, slots_at, slot_count, version_of}
use Rattle.rows.specs.declared.Key.{Key}
use Rattle.segments.specs.Segments.{word_of, with_word, set_complete}

abbrev pub is_present : List ℕ → ℕ → Bool
is_present units u = not (eqb (word_of units u 0) 0)

-- the slots of unit u
unfoldable pub unit_slots : List ℕ → ℕ → List ℕ
unit_slots units u = take (slot_count (word_of units u 2)) (drop (slots_at u) units)

-- ---- units in use: a unit that is not present has no slots

-- unit u is not present, or each of its slots is whole
unfoldable pub unit_whole : List ℕ → ℕ → ℕ → ℕ → Bool
unit_whole units count size u = cond (is_present units u) (all_whole count size (unit_slots units u)) true

-- the n units from `base` on
unfoldable pub units_whole : List ℕ → ℕ → ℕ → ℕ → ℕ → Bool
units_whole units count size base zero = true
units_whole units count size base (suc n) = unit_whole units count size (base + n) && units_whole units count size base n

-- a slot of one of the n units from `base` on names cell c
unfoldable pub taken_in_units : List ℕ → ℕ → ℕ → ℕ → Bool
taken_in_units units base zero c = false
taken_in_units units base (suc n) c = (is_present units (base + n) && some_names c (unit_slots units (base + n))) || taken_in_units units base n c

-- the map with each cell that such a slot names
abbrev pub marked_unit : List ℕ → ℕ → List ℕ → List ℕ
marked_unit units u map = cond (is_present units u) (marked_all (unit_slots units u) map) map

unfoldable pub marked_units : List ℕ → ℕ → ℕ → List ℕ → List ℕ
marked_units units base zero map = map
marked_units units base (suc n) map = marked_units units base n (marked_unit units (base + n) map)

-- ---- one schedule, whose units begin with the unit `base`

-- its first n tables are there
unfoldable pub all_present : List ℕ → ℕ → ℕ → Bool
all_present units base zero = true
all_present units base (suc n) = is_present units (base + n) && all_present units base n

-- its first n tables are there no longer
unfoldable pub without_units : ℕ → ℕ → List ℕ → List ℕ
without_units base zero units = units
without_units base (suc n) units = without_units base n (with_word (base + n) 0 0 units)

-- unit u is present, with that version and last_section_number
abbrev pub with_words : ℕ → ℕ → ℕ → List ℕ → List ℕ
with_words u version last units = with_word u 2 last (with_word u 1 version (with_word u 0 1 units))

-- the set of row i is put in as unit u: a copy of its slots' words. A head's version above 32 bits is no section's
unfoldable pub with_set : List ℕ → List ℕ → ℕ → ℕ → List ℕ → List ℕ
with_set heads slots i u units =
    let part : List ℕ = row_slots heads slots i in
    with_words u (version_of heads i % 4294967296) (length part - 1) (paste units (slots_at u) part (length part))

-- ---- refill

-- the first table_id of a schedule kind, by its number: 2 is schedule actual, 3 schedule other
abbrev pub first_table : ℕ → ℕ
first_table kind = cond (eqb kind 2) 0x50 0x60

-- the key with another word in the place of table_id
abbrev pub with_table : Key → ℕ → Key
with_table key table = record {
  from = key.from;
  table_id = table;
  extension = key.extension;
  current_next = key.current_next;
  transport_stream_id = key.transport_stream_id;
  original_network_id = key.original_network_id;
}

-- row i, where it is in use and complete, is put in as unit u
unfoldable pub with_complete : List ℕ → List ℕ → ℕ → ℕ → ℕ → List ℕ → List ℕ
with_complete heads slots used i u units = cond (ltb i used && set_complete heads slots i) (with_set heads slots i u units) units

-- the set of table j of the schedule, whose key is `key`, is put in, unless the table is `own`
unfoldable pub with_table_set : List ℕ → List ℕ → (used : ℕ) → Key → (own base j : ℕ) → List ℕ → List ℕ
with_table_set heads slots used key own base j units =
    let t : ℕ = first_table key.table_id + j in
    cond (eqb t own) units (with_complete heads slots used (row_of heads (with_table key t) used) (base + j) units)

-- "refilled with each other table's set that is complete at that moment, marked or not": the first n tables of the schedule
unfoldable pub refilled : List ℕ → List ℕ → (used : ℕ) → Key → (own base n : ℕ) → List ℕ → List ℕ
refilled heads slots used key own base zero units = units
refilled heads slots used key own base (suc n) units = refilled heads slots used key own base n (with_table_set heads slots used key own base n units)
