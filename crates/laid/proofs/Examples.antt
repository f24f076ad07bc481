-- Which bytes are a set, and which a schedule: examples by computing.
-- Assumes nothing.
use mathlib.Core.Path.{◌≡◌, refl}
use mathlib.Core.Bool.{Bool, true, false}
use mathlib.Core.List.{List, [], ◌∷◌, ◌++◌}
use Prim.Native.Nat.{ℕ}
use Rattle.laws.specs.Entries.{entries_in, whole_entries}
use Rattle.laws.specs.Lists.{every}
use Rattle.rows.specs.Rows.{same_key, same_origin}
use Rattle.laid.specs.Laid.{cut, sections_in, laid_out, chain_from, chain, in_set, in_schedule, joined, is_set, is_schedule, those, table_in}

-- a section of 12 bytes: table_id, version · 2 + current_next, section number, last number, the low byte of the network
section : (table version number last network : ℕ) → List ℕ
section table version number last network = table ∷ 0xF0 ∷ 9 ∷ 0 ∷ 1 ∷ version ∷ number ∷ last ∷ 0 ∷ 7 ∷ 0 ∷ network ∷ []

set_of : List ℕ → Bool
set_of s = is_set s

schedule_of_lem : List ℕ → Bool
schedule_of_lem s = is_schedule s

abbrev two : List ℕ → List ℕ → List ℕ
two a b = a ++ b

one_is_set : set_of (section 0x42 3 0 1 0) ≡ true
unfolding set_of section is_set joined laid_out chain chain_from sections_in cut every whole_entries entries_in
one_is_set = refl

rising_is_set : set_of (two (section 0x42 3 0 1 0) (section 0x42 3 1 1 0)) ≡ true
unfolding set_of section is_set joined laid_out chain chain_from in_set same_key same_origin sections_in cut every whole_entries entries_in
rising_is_set = refl

empty_is_none : set_of [] ≡ false
unfolding set_of is_set joined
empty_is_none = refl

equal_numbers : set_of (two (section 0x42 3 0 1 0) (section 0x42 3 0 1 0)) ≡ false
unfolding set_of section is_set joined laid_out chain chain_from in_set same_key same_origin sections_in cut every whole_entries entries_in
equal_numbers = refl

another_version : set_of (two (section 0x42 3 0 1 0) (section 0x42 5 1 1 0)) ≡ false
unfolding set_of section is_set joined laid_out chain chain_from in_set same_key same_origin sections_in cut every whole_entries entries_in
another_version = refl

-- the network counts in an EIT alone
another_network : set_of (two (section 0x42 3 0 1 0) (section 0x42 3 1 1 9)) ≡ true
unfolding set_of section is_set joined laid_out chain chain_from in_set same_key same_origin sections_in cut every whole_entries entries_in
another_network = refl

eit_network : set_of (two (section 0x4E 3 0 1 0) (section 0x4E 3 1 1 9)) ≡ false
unfolding set_of section is_set joined laid_out chain chain_from in_set same_key same_origin sections_in cut every whole_entries entries_in
eit_network = refl

byte_behind : set_of (two (section 0x42 3 0 1 0) (0 ∷ [])) ≡ false
unfolding set_of section is_set joined laid_out chain chain_from in_set same_key same_origin sections_in cut every whole_entries entries_in
byte_behind = refl

tables_rise_lem : schedule_of_lem (two (section 0x50 3 0 1 0) (section 0x52 5 0 0 0)) ≡ true
unfolding schedule_of_lem section is_schedule joined laid_out chain chain_from in_schedule same_key same_origin sections_in cut every whole_entries entries_in
tables_rise_lem = refl

tables_fall : schedule_of_lem (two (section 0x52 3 0 1 0) (section 0x50 5 0 0 0)) ≡ false
unfolding schedule_of_lem section is_schedule joined laid_out chain chain_from in_schedule same_key same_origin sections_in cut every whole_entries entries_in
tables_fall = refl

two_kinds : schedule_of_lem (two (section 0x5F 3 0 0 0) (section 0x60 3 0 0 0)) ≡ false
unfolding schedule_of_lem section is_schedule joined laid_out chain chain_from in_schedule same_key same_origin sections_in cut every whole_entries entries_in
two_kinds = refl

one_table : table_in (two (section 0x50 3 0 1 0) (section 0x52 5 0 0 0)) 0x52 ≡ section 0x52 5 0 0 0
unfolding section table_in those sections_in cut mathlib.Core.List.flatten
one_table = refl
