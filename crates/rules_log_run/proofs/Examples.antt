-- Logs that the definitions compute (docs/RULES.md, "Logs").
-- Assumes nothing.
use mathlib.Core.Path.{◌≡◌, refl}
use mathlib.Core.Bool.{Bool, true, false}
use mathlib.Core.List.{List, [], ◌∷◌, map}
use Prim.Native.Nat.{ℕ}
use lib.ListN.{get_or}
use Rattle.crc.specs.Crc.{crc_from, bits_in, bit_in}
use Rattle.section.specs.Key.{key_of}
use Rattle.section.specs.Header.{stored_crc, worked_crc, header_of}
use Rattle.section.specs.Judged.{malformed, collected_long, collected_of, form_of, checked_change, change_of, parts_of, judged_crc, judged_by, judged_of}
use Rattle.ring.specs.Rules.{offered_to}
use Rattle.rules_sets.proofs.Examples.{replies}
use Rattle.ties_sets.specs.View.{reads_as}
use Rattle.rules_logs.specs.Records.{Bytes, seen_record, failed_record, set_record, bare_set_record}
use Rattle.rules_logs.specs.Sections.{Given}
use Rattle.rules_logs.specs.Verdict as records
use Rattle.rules_log_run.specs.Run.{Settings, pushed, set_line, set_records, sound, judged, entry_of, records_from, records_of, log_of}

-- a run, with every definition open
unfoldable pub log : Settings → List Given → Bytes
unfolding log_of records_of records_from entry_of judged sound pushed set_records set_line reads_as collected_of malformed collected_long header_of judged_of judged_by form_of judged_crc stored_crc worked_crc parts_of change_of checked_change crc_from bits_in bit_in key_of offered_to replies seen_record failed_record set_record bare_set_record records.log_of
log o gs = log_of o gs

-- capacity 512, no repeats, rule 2; 16 keys, 64 cells of 4,096 bytes
abbrev settings : (pids : Bool) → Settings
settings pids = record { capacity = 512; repeats = false; rule = 2; limit = 16; size = 4096; count = 64; pids = pids }

-- one key and one cell
abbrev one_key : Settings
one_key = record { capacity = 512; repeats = false; rule = 2; limit = 1; size = 4096; count = 1; pids = true }

abbrev given : (input pid : ℕ) → Bytes → Given
given input pid section = record { input = input; pid = pid; section = section }

-- a section of a set of one
abbrev A : Bytes
A = 0x42 ∷ 0xB0 ∷ 0x0A ∷ 0x00 ∷ 0x01 ∷ 0xC7 ∷ 0x00 ∷ 0x00 ∷ 0x61 ∷ 0xE7 ∷ 0x22 ∷ 0xAD ∷ 0x04 ∷ []

-- 02 B0 00 is short: kind 3, with its three bytes
pub short_alone : log_of (settings true) (given 0 0x11 (0x02 ∷ 0xB0 ∷ 0x00 ∷ []) ∷ []) ≡ 0x03 ∷ 0x00 ∷ 0x00 ∷ 0x11 ∷ 0x00 ∷ 0x03 ∷ []
unfolding log
short_alone = refl

-- A twice, then on input 1; 02 B0 00; A with another last byte; a time and date section; A on a PID and on an input that there is not
abbrev feed : List Given
feed =
    given 0 0x11 A ∷ given 0 0x11 A ∷ given 1 0x11 A ∷ given 0 0x11 (0x02 ∷ 0xB0 ∷ 0x00 ∷ [])
    ∷ given 0 0x11 (0x42 ∷ 0xB0 ∷ 0x0A ∷ 0x00 ∷ 0x01 ∷ 0xC7 ∷ 0x00 ∷ 0x00 ∷ 0x61 ∷ 0xE7 ∷ 0x22 ∷ 0xAD ∷ 0x05 ∷ [])
    ∷ given 0 0x14 (0x70 ∷ 0x70 ∷ 0x05 ∷ 0xC0 ∷ 0x79 ∷ 0x12 ∷ 0x45 ∷ 0x00 ∷ []) ∷ given 0 8192 A ∷ given 16 0x11 A ∷ []

-- 84 bytes
pub worked_example : log_of (settings true) feed
    ≡ 0x01 ∷ 0x00 ∷ 0x00 ∷ 0x11 ∷ 0x42 ∷ 0x00 ∷ 0x01 ∷ 0x00 ∷ 0x03 ∷ 0xE7 ∷ 0x22 ∷ 0xAD ∷ 0x04
    ∷ 0x05 ∷ 0x00 ∷ 0x00 ∷ 0x11 ∷ 0x42 ∷ 0x00 ∷ 0x01 ∷ 0x01 ∷ 0x03 ∷ 0x00
    ∷ 0x02 ∷ 0x00 ∷ 0x00 ∷ 0x11 ∷ 0x42 ∷ 0x00 ∷ 0x01 ∷ 0x00 ∷ 0x03 ∷ 0xE7 ∷ 0x22 ∷ 0xAD ∷ 0x04
    ∷ 0x01 ∷ 0x01 ∷ 0x00 ∷ 0x11 ∷ 0x42 ∷ 0x00 ∷ 0x01 ∷ 0x00 ∷ 0x03 ∷ 0xE7 ∷ 0x22 ∷ 0xAD ∷ 0x04
    ∷ 0x05 ∷ 0x01 ∷ 0x00 ∷ 0x11 ∷ 0x42 ∷ 0x00 ∷ 0x01 ∷ 0x01 ∷ 0x03 ∷ 0x00
    ∷ 0x03 ∷ 0x00 ∷ 0x00 ∷ 0x11 ∷ 0x00 ∷ 0x03
    ∷ 0x04 ∷ 0x00 ∷ 0x00 ∷ 0x11 ∷ 0x00 ∷ 0x0D
    ∷ 0x01 ∷ 0x00 ∷ 0x00 ∷ 0x14 ∷ 0x70 ∷ 0x00 ∷ 0x00 ∷ 0x00 ∷ 0x00 ∷ 0xC2 ∷ 0x6D ∷ 0xCF ∷ 0x7C ∷ []
unfolding log
worked_example = refl

-- by the older definition the set of A is kind 6
pub bare_example : log_of (settings false) (given 0 0x11 A ∷ [])
    ≡ 0x01 ∷ 0x00 ∷ 0x00 ∷ 0x11 ∷ 0x42 ∷ 0x00 ∷ 0x01 ∷ 0x00 ∷ 0x03 ∷ 0xE7 ∷ 0x22 ∷ 0xAD ∷ 0x04
    ∷ 0x06 ∷ 0x00 ∷ 0x42 ∷ 0x00 ∷ 0x01 ∷ 0x01 ∷ 0x03 ∷ 0x00 ∷ []
unfolding log
bare_example = refl

-- at limit 1 the sets of two inputs that take turns go out each time, also by a section that is suppressed: records 1 5, 1 5, 2 5
pub in_turns : map (λ (e : Bytes). get_or e 0 0) (records_of one_key (given 0 0x11 A ∷ given 1 0x11 A ∷ given 0 0x11 A ∷ [])) ≡ 1 ∷ 5 ∷ 1 ∷ 5 ∷ 2 ∷ 5 ∷ []
unfolding log
in_turns = refl

-- the kinds of the records
abbrev kinds : List Bytes → List ℕ
kinds es = map (λ (e : Bytes). get_or e 0 0) es

-- A on PID 0x11 and then on 0x10 is two sets with their PIDs; by the older definition it is one
pub two_pids : kinds (records_of (settings true) (given 0 0x11 A ∷ given 0 0x10 A ∷ [])) ≡ 1 ∷ 5 ∷ 1 ∷ 5 ∷ []
unfolding log
two_pids = refl

pub two_pids_before : kinds (records_of (settings false) (given 0 0x11 A ∷ given 0 0x10 A ∷ [])) ≡ 1 ∷ 6 ∷ 1 ∷ []
unfolding log
two_pids_before = refl

-- sections 0 and 1 of one table, each on a PID of its own: by the older definition they make a set, with their PIDs they make none
abbrev mixed : List Given
mixed =
    given 0 0x11 (0x42 ∷ 0xB0 ∷ 0x0A ∷ 0x00 ∷ 0x01 ∷ 0xC7 ∷ 0x00 ∷ 0x01 ∷ 0x61 ∷ 0x35 ∷ 0x3B ∷ 0x6C ∷ 0xD8 ∷ [])
    ∷ given 0 0x10 (0x42 ∷ 0xB0 ∷ 0x0A ∷ 0x00 ∷ 0x01 ∷ 0xC7 ∷ 0x01 ∷ 0x01 ∷ 0x61 ∷ 0x34 ∷ 0xE3 ∷ 0xC0 ∷ 0x5F ∷ []) ∷ []

pub mixed_apart : kinds (records_of (settings true) mixed) ≡ 1 ∷ 1 ∷ []
unfolding log
mixed_apart = refl

pub mixed_before : kinds (records_of (settings false) mixed) ≡ 1 ∷ 1 ∷ 6 ∷ []
unfolding log
mixed_before = refl
