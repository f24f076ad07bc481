-- Two small sets compared: examples by computing.
-- Assumes nothing.
use mathlib.Core.Path.{◌≡◌, refl}
use mathlib.Core.Bool.{true, false}
use mathlib.Core.List.{List, [], ◌∷◌, ◌++◌}
use Prim.Native.Nat.{ℕ}
use Rattle.laws.specs.Entries.{entries_in, whole_entries}
use Rattle.laws.specs.Lists.{every, same_list}
use Rattle.std.specs.Prelude.{Some}
use Rattle.rows.specs.Rows.{same_key, same_origin}
use Rattle.laid.specs.Laid.{cut, sections_in, laid_out, chain_from, chain, in_set, joined, is_set}
use Rattle.laid.specs.Walk.{numbered}
use Rattle.differences.specs.Rules.{held_in, first_place, kind_of, place_of, up_from, differences, one_of}
use Rattle.differences.specs.Walk.{words_of}
use Rattle.guides.specs.Store.{compare_no, set_sides, set_entries, compared, listed, section_of}
use Rattle.guides.specs.declared.Compared.{Compared}

-- a section of 13 bytes: version · 2 + current_next, section number, last number, and a byte after the header
section : (version number last byte : ℕ) → List ℕ
section version number last byte = 0x42 ∷ 0xF0 ∷ 10 ∷ 0 ∷ 1 ∷ version ∷ number ∷ last ∷ 0 ∷ 0 ∷ 0 ∷ 0 ∷ byte ∷ []

abbrev two : List ℕ
two = section 3 0 1 5 ++ section 3 1 1 6

told : List ℕ → List ℕ → Compared
told a b = compared a (Some 0x11) b (Some 0x11) 4

list_of : List ℕ → List ℕ → List ℕ
list_of a b = listed a (Some 0x11) b (Some 0x11) (9 ∷ 9 ∷ 9 ∷ 9 ∷ 9 ∷ [])

-- two sections against one: number 1 is in the first alone; the fifth word stays
two_against_one : list_of two (section 3 0 1 5) ≡ 0x42 ∷ 1 ∷ 1 ∷ 0 ∷ 9 ∷ []
unfolding list_of section listed set_sides set_entries differences up_from held_in kind_of place_of same_list words_of is_set joined laid_out chain chain_from in_set same_key same_origin sections_in cut every whole_entries entries_in
two_against_one = refl

-- a version that differs is told, and is a byte that differs
another_version : (compare_no (told (section 3 0 0 5) (section 5 0 0 5)).answer ≡ 8) × ((told (section 3 0 0 5) (section 5 0 0 5)).versions ≡ false) × ((told (section 3 0 0 5) (section 5 0 0 5)).lasts ≡ true)
unfolding told section compared set_sides set_entries differences up_from held_in kind_of place_of same_list first_place is_set joined laid_out chain chain_from in_set same_key same_origin sections_in cut every whole_entries entries_in
another_version = (refl, refl, refl)

-- a place in the last byte
last_byte : list_of (section 3 0 0 5) (section 3 0 0 7) ≡ 0x42 ∷ 0 ∷ 3 ∷ 12 ∷ 9 ∷ []
unfolding list_of section listed set_sides set_entries differences up_from held_in kind_of place_of same_list first_place words_of is_set joined laid_out chain chain_from in_set same_key same_origin sections_in cut every whole_entries entries_in
last_byte = refl

-- the section that the first alone holds
the_other : section_of two (section 3 0 1 5) 1 ≡ section 3 1 1 6
unfolding section_of one_of numbered section is_set joined laid_out chain chain_from in_set same_key same_origin sections_in cut every whole_entries entries_in
the_other = refl
