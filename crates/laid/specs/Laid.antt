-- Sections laid one after another in bytes: which bytes are a set of sections, which a schedule (docs/RULES.md, "Compared guides"). The fields are those of
-- ISO/IEC 13818-1, 2.4.4.11, and of EN 300 468, 5.2.4. `cond test a b` is a where the test is true, else b.
use Rattle.std.specs.Prelude.{ℕ, zero, suc, ◌*◌, ◌/◌, ◌%◌, Bool, true, false, cond, ◌&&◌, ◌||◌, length, take, drop, leb, ltb, eqb, Result, Ok, Err, Option, Some, None}
use mathlib.Core.List.{List, [], ◌∷◌, flatten}
use Rattle.section.specs.Ids.{pid_made}
use Rattle.section.specs.declared.ids.Pid.{Pid}
use Rattle.answers.specs.declared.Refusal.{Refusal}
use Rattle.laid.specs.declared.NoWord.{NoWord}
use Rattle.laid.specs.declared.NoWord.TheVariants as no_word
use Rattle.laws.specs.Entries.{entry_size, whole_entries}
use Rattle.laws.specs.Lists.{every}
use Rattle.section.specs.Header.{byte_at, word16, table_id_of, long_form, extension_of, version_of, section_number, last_section_number}
use Rattle.rows.specs.declared.Key.{Key}
use Rattle.rows.specs.Rows.{same_key}

-- ---- the layout

-- the bytes of the section that s starts with: three, and as many as its section_length counts
abbrev pub size_of : List ℕ → ℕ
size_of s = entry_size 3 s

-- at most k sections from the front of the bytes
unfoldable pub cut : ℕ → List ℕ → List (List ℕ)
cut zero s = []
cut (suc k) s = cond (eqb (length s) 0) [] (take (size_of s) s ∷ cut k (drop (size_of s) s))

-- the sections that the bytes are cut into: none is empty, so there are no more of them than bytes
unfoldable pub sections_in : List ℕ → List (List ℕ)
sections_in s = cut (length s) s

-- of the long form, and long enough for its header and its CRC
abbrev pub is_long : List ℕ → Bool
is_long x = long_form x && leb 12 (length x)

-- no bytes, or long-form sections to the last byte
unfoldable pub laid_out : List ℕ → Bool
laid_out s = whole_entries 3 s && every is_long (sections_in s)

-- ---- keys

-- the table_ids of an EIT, and of its schedules (EN 300 468, table 2)
abbrev pub is_eit : ℕ → Bool
is_eit t = leb 0x4E t && leb t 0x6F

abbrev pub of_schedule : ℕ → Bool
of_schedule t = leb 0x50 t && leb t 0x6F

-- the first table_id of a schedule's kind, 0x50 or 0x60
abbrev pub kind_first : ℕ → ℕ
kind_first t = t / 16 * 16

-- the PID word of a key: a side without a PID has none, and so has a number that is no PID
abbrev pub word_of : Result Pid Refusal → Result ℕ NoWord
word_of (Ok p) = Ok p.0
word_of (Err r) = Err no_word.TooLarge

abbrev pub pid_word : Option ℕ → Result ℕ NoWord
pid_word None = Err no_word.NoPid
pid_word (Some v) = word_of (pid_made v)

-- the key of a section on this PID, its table under this number: an EIT has its transport stream and its original network in it
abbrev pub key_of : ℕ → ℕ → List ℕ → Key
key_of table pid s = record {
  from = record { input = 0; pid = pid };
  table_id = table;
  extension = extension_of s;
  current_next = byte_at s 5 % 2;
  transport_stream_id = cond (is_eit (table_id_of s)) (word16 (byte_at s 8) (byte_at s 9)) 0;
  original_network_id = cond (is_eit (table_id_of s)) (word16 (byte_at s 10) (byte_at s 11)) 0;
}

-- the key of a set, by its first section; and of a schedule, with the kind for the table_id
abbrev pub key_in : ℕ → List ℕ → Key
key_in pid s = key_of (table_id_of s) pid s

abbrev pub schedule_key_in : ℕ → List ℕ → Key
schedule_key_in pid s = key_of (kind_first (table_id_of s)) pid s

-- ---- sets and schedules

-- each section and the one after it pass the test
unfoldable pub chain_from : (List ℕ → List ℕ → Bool) → List ℕ → List (List ℕ) → Bool
chain_from test x [] = true
chain_from test x (y ∷ ys) = test x y && chain_from test y ys

unfoldable pub chain : (List ℕ → List ℕ → Bool) → List (List ℕ) → Bool
chain test [] = true
chain test (x ∷ xs) = chain_from test x xs

abbrev pub same_version : List ℕ → List ℕ → Bool
same_version x y = eqb (version_of x) (version_of y)

abbrev pub same_last : List ℕ → List ℕ → Bool
same_last x y = eqb (last_section_number x) (last_section_number y)

-- y comes after x in a table: one version, one last number, a larger number
abbrev pub in_table : List ℕ → List ℕ → Bool
in_table x y = same_version x y && same_last x y && ltb (section_number x) (section_number y)

-- y comes after x in a set: one key, and after it in the table
unfoldable pub in_set : List ℕ → List ℕ → Bool
in_set x y = same_key (key_in 0 x) (key_in 0 y) && in_table x y

-- in a schedule: one key but for the table, and a later table or after it in the same one
unfoldable pub in_schedule : List ℕ → List ℕ → Bool
in_schedule x y = same_key (schedule_key_in 0 x) (schedule_key_in 0 y) && (ltb (table_id_of x) (table_id_of y) || (eqb (table_id_of x) (table_id_of y) && in_table x y))

abbrev pub joins : Bool → List ℕ → List ℕ → Bool
joins true = in_schedule
joins false = in_set

-- one or more sections, each after the one before it
unfoldable pub joined : Bool → List ℕ → Bool
joined schedule s = ltb 0 (length s) && (laid_out s && chain (joins schedule) (sections_in s))

-- the bytes are a set
unfoldable pub is_set : List ℕ → Bool
is_set s = joined false s

-- the bytes are a schedule
unfoldable pub is_schedule : List ℕ → Bool
is_schedule s = joined true s && of_schedule (table_id_of s)

-- ---- parts of a schedule

-- the sections that pass a test
unfoldable pub those : (List ℕ → Bool) → List (List ℕ) → List (List ℕ)
those test [] = []
those test (x ∷ xs) = cond (test x) (x ∷ those test xs) (those test xs)

abbrev pub of_table : ℕ → List ℕ → Bool
of_table t x = eqb (table_id_of x) t

-- the bytes of the sections of table t in a schedule
unfoldable pub table_in : List ℕ → ℕ → List ℕ
table_in s t = flatten (those (of_table t) (sections_in s))
