-- The exact answer of each call and what it leaves in the lent list and words, for every content (docs/RULES.md, "Compared guides").
use Rattle.std.specs.Prelude.{◌≡◌, ℕ, ◌/◌, List, [], ◌++◌, Bool, true, false, cond, ◌&&◌, ◌||◌, length, drop, ltb, eqb, Result, Ok, Err, Option}
use Rattle.section.specs.Header.{table_id_of}
use Rattle.rows.specs.declared.Key.{Key}
use Rattle.rows.specs.Rows.{same_key}
use Rattle.laid.specs.Laid.{pid_word}
use Rattle.laid.specs.declared.NoWord.{NoWord}
use Rattle.laid.specs.declared.NoWord.TheVariants as no_word
use Rattle.laid.specs.Laid.{sections_in, laid_out, is_set, is_schedule, key_in, schedule_key_in, kind_first, same_version, same_last, table_in}
use Rattle.laid.specs.Walk.{numbered, place_in}
use Rattle.differences.specs.Rules.{Entry, differences, schedule_differences, table_words, versions_agree, lasts_agree, one_of}
use Rattle.differences.specs.Walk.{words_of}
use Rattle.guides.specs.declared.CompareAnswer.{CompareAnswer}
use Rattle.guides.specs.declared.CompareAnswer.TheVariants as answer
use Rattle.guides.specs.declared.Compared.{Compared}
use Rattle.guides.specs.declared.HeldAnswer.{HeldAnswer}
use Rattle.guides.specs.declared.HeldAnswer.TheVariants as held_answer
use Rattle.guides.specs.declared.Holder.{Holder}
use Rattle.guides.specs.declared.Amiss.{Amiss}
use Rattle.guides.specs.declared.Amiss.TheVariants as amiss

-- ---- numbers

abbrev pub compare_no : CompareAnswer → ℕ
-- they differ, and the entries are listed
compare_no answer.Differ = 8
-- no entry
compare_no answer.Same = 9
-- bytes that are no set, or no schedule
compare_no answer.NotSets = 10
-- a side without a PID
compare_no answer.NoPid = 41
-- a PID of 8192 or more
compare_no answer.BadPid = 12
-- two keys
compare_no answer.OtherKey = 33
-- more entries than room
compare_no answer.NoRoom = 34

abbrev pub held_no : HeldAnswer → ℕ
-- exactly one side holds it
held_no held_answer.One = 8
-- both hold it, or none
held_no held_answer.NotOne = 9
-- bytes that are neither a set nor empty
held_no held_answer.NotSets = 10

-- ---- what is asked of both sides

-- two sides are alike, or something is amiss with them
abbrev pub Sides : Type 0
Sides = Result (Unit {0}) Amiss

abbrev pub alike : Sides
alike = Ok (tt {0})

abbrev pub same_sides : Key → Key → Sides
same_sides j k = cond (same_key j k) alike (Err amiss.OtherKey)

-- the PID words of both sides: 41 where one of them has no PID, whichever it is, then 12
abbrev pub both_words : Result ℕ NoWord → Result ℕ NoWord → Result (ℕ × ℕ) Amiss
both_words (Err no_word.NoPid) q = Err amiss.NoPid
both_words (Err no_word.TooLarge) (Err no_word.NoPid) = Err amiss.NoPid
both_words (Err no_word.TooLarge) (Err no_word.TooLarge) = Err amiss.BadPid
both_words (Err no_word.TooLarge) (Ok q) = Err amiss.BadPid
both_words (Ok p) (Err no_word.NoPid) = Err amiss.NoPid
both_words (Ok p) (Err no_word.TooLarge) = Err amiss.BadPid
both_words (Ok p) (Ok q) = Ok (p, q)

-- then 33
abbrev pub keyed_by : (ℕ → List ℕ → Key) → Result (ℕ × ℕ) Amiss → List ℕ → List ℕ → Sides
keyed_by key (Err e) a b = Err e
keyed_by key (Ok w) a b = same_sides (key w.0 a) (key w.1 b)

abbrev pub keyed : (ℕ → List ℕ → Key) → Result ℕ NoWord → Result ℕ NoWord → List ℕ → List ℕ → Sides
keyed key p q a b = keyed_by key (both_words p q) a b

-- 10 before them
unfoldable pub set_sides : List ℕ → Option ℕ → List ℕ → Option ℕ → Sides
set_sides a p b q = cond (is_set a && is_set b) (keyed key_in (pid_word p) (pid_word q) a b) (Err amiss.NotSets)

unfoldable pub schedule_sides : List ℕ → Option ℕ → List ℕ → Option ℕ → Sides
schedule_sides a p b q = cond (is_schedule a && is_schedule b) (keyed schedule_key_in (pid_word p) (pid_word q) a b) (Err amiss.NotSets)

-- ---- the comparisons

abbrev pub told : CompareAnswer → ℕ → Bool → Bool → Compared
told a count versions lasts = record { answer = a; count = count; versions = versions; lasts = lasts }

abbrev pub refused : CompareAnswer → Compared
refused a = told a 0 false false

-- 34, else 9 or 8
abbrev pub told_of : ℕ → ℕ → Bool → Bool → Compared
told_of room count versions lasts = told (cond (ltb room count) answer.NoRoom (cond (eqb count 0) answer.Same answer.Differ)) count versions lasts

abbrev pub answer_of : Amiss → CompareAnswer
answer_of amiss.NotSets = answer.NotSets
answer_of amiss.NoPid = answer.NoPid
answer_of amiss.BadPid = answer.BadPid
answer_of amiss.OtherKey = answer.OtherKey

-- the sides, the list's room in entries, the entries, and whether versions and last numbers agree
abbrev pub compared_by : Sides → ℕ → List Entry → Bool → Bool → Compared
compared_by (Err e) room es v l = refused (answer_of e)
compared_by (Ok u) room es v l = told_of room (length es) v l

-- words go in from the front, where they have room; the others stay
abbrev pub written : List ℕ → List ℕ → List ℕ
written list words = words ++ drop (length words) list

abbrev pub list_if : List Entry → List ℕ → List ℕ
list_if es list = cond (ltb (length list / 4) (length es)) list (written list (words_of es))

abbrev pub list_by : Sides → List Entry → List ℕ → List ℕ
list_by (Err e) es list = list
list_by (Ok u) es list = list_if es list

-- all 16 words where there is room for the list
abbrev pub tables_if : ℕ → List Entry → List ℕ → List ℕ → List ℕ
tables_if room es words tables = cond (ltb room (length es)) tables words

abbrev pub tables_by : Sides → List Entry → ℕ → List ℕ → List ℕ → List ℕ
tables_by (Err e) es room words tables = tables
tables_by (Ok u) es room words tables = tables_if room es words tables

-- the entries of two sets, of two schedules
unfoldable pub set_entries : List ℕ → List ℕ → List Entry
set_entries a b = differences (table_id_of a) (sections_in a) (sections_in b)

unfoldable pub schedule_entries : List ℕ → List ℕ → List Entry
schedule_entries a b = schedule_differences (kind_first (table_id_of a)) (sections_in a) (sections_in b)

abbrev pub schedule_words : List ℕ → List ℕ → List ℕ
schedule_words a b = table_words (kind_first (table_id_of a)) (sections_in a) (sections_in b)

unfoldable pub compared : List ℕ → Option ℕ → List ℕ → Option ℕ → ℕ → Compared
compared a p b q room = compared_by (set_sides a p b q) room (set_entries a b) (same_version a b) (same_last a b)

unfoldable pub listed : List ℕ → Option ℕ → List ℕ → Option ℕ → List ℕ → List ℕ
listed a p b q list = list_by (set_sides a p b q) (set_entries a b) list

unfoldable pub compared_schedules : List ℕ → Option ℕ → List ℕ → Option ℕ → ℕ → Compared
compared_schedules a p b q room = compared_by (schedule_sides a p b q) room (schedule_entries a b) (versions_agree (schedule_words a b)) (lasts_agree (schedule_words a b))

unfoldable pub listed_schedules : List ℕ → Option ℕ → List ℕ → Option ℕ → List ℕ → List ℕ
listed_schedules a p b q list = list_by (schedule_sides a p b q) (schedule_entries a b) list

unfoldable pub tables_of : List ℕ → Option ℕ → List ℕ → Option ℕ → ℕ → List ℕ → List ℕ
tables_of a p b q room tables = tables_by (schedule_sides a p b q) (schedule_entries a b) room (schedule_words a b) tables

-- ---- one section

abbrev pub set_or_empty : List ℕ → Bool
set_or_empty s = eqb (length s) 0 || is_set s

abbrev pub held_not : HeldAnswer → Holder
held_not a = record { answer = a; side = 0; start = 0; length = 0 }

abbrev pub held_one : ℕ → ℕ → ℕ → Holder
held_one side start n = record { answer = held_answer.One; side = side; start = start; length = n }

-- n bytes at p on the first side, m at q on the second; none where the side does not hold it
abbrev pub held_for : ℕ → ℕ → ℕ → ℕ → Holder
held_for n m p q = cond (eqb n 0) (cond (eqb m 0) (held_not held_answer.NotOne) (held_one 2 q m)) (cond (eqb m 0) (held_one 1 p n) (held_not held_answer.NotOne))

-- x and y the section on each side, p and q where it starts
abbrev pub held_of : List ℕ → List ℕ → ℕ → ℕ → Holder
held_of x y p q = held_for (length x) (length y) p q

unfoldable pub held_by : List ℕ → List ℕ → ℕ → Holder
held_by a b n =
    cond (set_or_empty a && set_or_empty b)
    (held_of (numbered n (sections_in a)) (numbered n (sections_in b)) (place_in n (sections_in a)) (place_in n (sections_in b)))
    (held_not held_answer.NotSets)

unfoldable pub section_of : List ℕ → List ℕ → ℕ → List ℕ
section_of a b n = cond (set_or_empty a && set_or_empty b) (one_of (numbered n (sections_in a)) (numbered n (sections_in b))) []

unfoldable pub table_part : List ℕ → ℕ → List ℕ
table_part s t = cond (is_schedule s) (table_in s t) []

-- ---- what the inner functions ask for

pub record AlikeSets (a b : List ℕ) : Type 0 where
  pub first : is_set a ≡ true
  pub second : is_set b ≡ true
  pub table : table_id_of a ≡ table_id_of b

pub record AlikeSchedules (a b : List ℕ) : Type 0 where
  pub first : is_schedule a ≡ true
  pub second : is_schedule b ≡ true
  pub kind : kind_first (table_id_of a) ≡ kind_first (table_id_of b)

pub record LaidSides (a b : List ℕ) : Type 0 where
  pub first : laid_out a ≡ true
  pub second : laid_out b ≡ true
