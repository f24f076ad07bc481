-- The event information section, EN 300 468 5.2.4: byte 0 table_id, 3 and 4 service_id (the table_id_extension), 8 and 9 transport_stream_id,
-- 10 and 11 original_network_id, 12 segment_last_section_number, 13 last_table_id, then events to the CRC, the last four bytes.
use Rattle.std.specs.Prelude.{ℕ, ◌-◌, List, Bool, cond, ◌&&◌, length, take, drop, leb, eqb, Option, Some, None, Result, Ok, Err}
use Rattle.laws.specs.Entries.{whole_entries}
use Rattle.section.specs.Header.{byte_at, word16}
use Rattle.eit_section.specs.declared.Kind.{Kind}
use Rattle.eit_section.specs.declared.Kind.TheVariants.{PresentFollowingActual, PresentFollowingOther, ScheduleActual, ScheduleOther}
use Rattle.answers.specs.declared.Refusal.{Refusal}
use Rattle.answers.specs.declared.Refusal.TheVariants as refusal
use Rattle.eit_section.specs.declared.Eit.{Eit}

abbrev pub within : ℕ → ℕ → ℕ → Bool
within low high t = leb low t && leb t high

-- the kind by table_id (EN 300 468 table 2)
abbrev pub kind_of : ℕ → Option Kind
kind_of t =
    cond (eqb t 0x4E) (Some PresentFollowingActual)
    (cond (eqb t 0x4F) (Some PresentFollowingOther)
    (cond (within 0x50 0x5F t) (Some ScheduleActual)
    (cond (within 0x60 0x6F t) (Some ScheduleOther)
    None)))

-- the fields before the events
abbrev pub fields_of : List ℕ → Kind → Eit
fields_of s kind =
    record {
      kind = kind;
      service_id = record { 0 = word16 (byte_at s 3) (byte_at s 4) };
      transport_stream_id = word16 (byte_at s 8) (byte_at s 9);
      original_network_id = word16 (byte_at s 10) (byte_at s 11);
      segment_last_section_number = byte_at s 12;
      last_table_id = byte_at s 13;
    }

-- at least 18 bytes, and from byte 14 to the CRC whole events: 12 bytes each and the descriptors that their last 12 bits count
abbrev pub layout_good : List ℕ → Bool
layout_good s = leb 18 (length s) && whole_entries 12 (take (length s - 18) (drop 14 s))

-- a section of this kind, read as an EIT
unfoldable pub eit_as : List ℕ → Kind → Result Eit Refusal
eit_as s kind = cond (layout_good s) (Ok (fields_of s kind)) (Err refusal.Broken)

abbrev pub eit_by : List ℕ → Option Kind → Result Eit Refusal
eit_by s (Some kind) = eit_as s kind
eit_by s None = Err refusal.NotEit

-- a section read as an EIT
unfoldable pub eit_of : List ℕ → Result Eit Refusal
eit_of s = eit_by s (kind_of (byte_at s 0))
