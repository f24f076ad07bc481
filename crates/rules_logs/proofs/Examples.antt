-- Examples of records and of verdicts, computed (docs/RULES.md, "Logs").
-- Assumes nothing.
use mathlib.Core.Path.{◌≡◌, refl}
use mathlib.Core.Bool.{true}
use mathlib.Core.List.{List, [], ◌∷◌, ◌++◌, map}
use Prim.Native.Nat.{ℕ}
use lib.ListN.{length}
use Rattle.laws.specs.Lists.{same_list}
use Rattle.section.specs.declared.header.Parts.{Parts}
use Rattle.section.specs.declared.header.Header.{Header}
use Rattle.rules_logs.specs.Records.{Bytes, record_size, seen_record, failed_record, set_record, bare_set_record}
use Rattle.rules_logs.specs.Verdict.{yes, unknown, cut_off, missing, too_many, differs, verdict, log_of}
use Rattle.rules_logs.specs.Sections.{Listed, too_long, cut, sections, sections_in, listed}

-- the six sizes, and none for other bytes of kind
pub sizes : map record_size (0 ∷ 1 ∷ 2 ∷ 3 ∷ 4 ∷ 5 ∷ 6 ∷ 7 ∷ 255 ∷ []) ≡ 0 ∷ 13 ∷ 13 ∷ 6 ∷ 6 ∷ 10 ∷ 8 ∷ 0 ∷ 0 ∷ []
unfolding record_size
sizes = refl

-- an SDT section 42 B0 0A 00 01 C7 00 00 61 E7 22 AD 04 on PID 0x11: what the gate knows of it, and the header of its set
abbrev parts : Parts
parts = record { table_id = 0x42; extension = 1; number = 0; version = 3; change = 0xE722AD04 }

abbrev header : Header
header = record { table_id = 0x42; extension = 1; version = 3; current_next = true; number = 0; last = 0 }

abbrev emitted : Bytes
emitted = 0x01 ∷ 0x00 ∷ 0x00 ∷ 0x11 ∷ 0x42 ∷ 0x00 ∷ 0x01 ∷ 0x00 ∷ 0x03 ∷ 0xE7 ∷ 0x22 ∷ 0xAD ∷ 0x04 ∷ []

abbrev set : Bytes
set = 0x05 ∷ 0x00 ∷ 0x00 ∷ 0x11 ∷ 0x42 ∷ 0x00 ∷ 0x01 ∷ 0x01 ∷ 0x03 ∷ 0x00 ∷ []

pub emitted_bytes : seen_record 1 0 0x11 parts ≡ emitted
unfolding seen_record
emitted_bytes = refl

pub set_bytes_lem : set_record 0 0x11 header ≡ set
unfolding set_record
set_bytes_lem = refl

pub bare_set_bytes : bare_set_record 0 header ≡ 0x06 ∷ 0x00 ∷ 0x42 ∷ 0x00 ∷ 0x01 ∷ 0x01 ∷ 0x03 ∷ 0x00 ∷ []
unfolding bare_set_record
bare_set_bytes = refl

-- 02 B0 00 on PID 0x11 is short: three bytes
pub short_bytes : failed_record 3 0 0x11 3 ≡ 0x03 ∷ 0x00 ∷ 0x00 ∷ 0x11 ∷ 0x00 ∷ 0x03 ∷ []
unfolding failed_record
short_bytes = refl

-- ---- verdicts on the log of these two records

pub says_yes : verdict 0 (emitted ++ set) (emitted ∷ set ∷ []) ≡ yes
unfolding verdict record_size same_list
says_yes = refl

pub says_missing : verdict 0 emitted (emitted ∷ set ∷ []) ≡ missing 13
unfolding verdict record_size same_list
says_missing = refl

pub says_too_many : verdict 0 (emitted ++ set) (emitted ∷ []) ≡ too_many 13
unfolding verdict record_size same_list
says_too_many = refl

-- an unknown kind that is too many is 38, a record that is cut and differs is 39
pub says_unknown : verdict 0 (emitted ++ (9 ∷ [])) (emitted ∷ []) ≡ unknown 13
unfolding verdict record_size same_list
says_unknown = refl

pub says_cut : verdict 0 (emitted ++ (5 ∷ 1 ∷ [])) (emitted ∷ set ∷ []) ≡ cut_off 13
unfolding verdict record_size same_list
says_cut = refl

pub says_differs : verdict 0 (set ++ emitted) (emitted ∷ set ∷ []) ≡ differs 0
unfolding verdict record_size same_list
says_differs = refl

-- ---- section lists

-- a length of 4,099 is told before the missing bytes behind it; a list that ends inside a section is cut
pub list_too_long : sections_in (0 ∷ 0 ∷ 0x11 ∷ 0x10 ∷ 0x03 ∷ []) ≡ too_long
unfolding sections_in listed
list_too_long = refl

pub list_cut : sections_in (0 ∷ 0 ∷ 0x11 ∷ 0 ∷ 3 ∷ 0x02 ∷ 0xB0 ∷ []) ≡ cut
unfolding sections_in listed
list_cut = refl

pub list_short : sections_in (0 ∷ 0 ∷ 0x11 ∷ 0 ∷ 3 ∷ 0x02 ∷ 0xB0 ∷ 0x00 ∷ []) ≡ sections (record { input = 0; pid = 0x11; section = 0x02 ∷ 0xB0 ∷ 0x00 ∷ [] } ∷ [])
unfolding sections_in listed
list_short = refl
