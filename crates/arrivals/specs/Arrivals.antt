-- What a section's bytes and where it came from say to a collector (docs/RULES.md, "Collectors" and "Answers"): a refusal, lower number first, or what arrived.
use Rattle.std.specs.Prelude.{ℕ, ◌+◌, ◌≤◌, ◌<◌, List, Bool, cond, length, Option, Some, None, Result, Ok, Err}
use Rattle.answers.specs.declared.Refusal.{Refusal}
use Rattle.answers.specs.declared.Refusal.TheVariants as refusal
use Rattle.section.specs.Ids.{origin_made}
use Rattle.section.specs.Judged.{collected_of}
use Rattle.section.specs.declared.header.Header.{Header}
use Rattle.section.specs.declared.ids.Origin as section_origin
use Rattle.eit_section.specs.Eit.{eit_of}
use Rattle.eit_section.specs.declared.Eit.{Eit}
use Rattle.eit_section.specs.declared.Kind.{Kind}
use Rattle.eit_section.specs.declared.Kind.TheVariants as kind
use Rattle.rows.specs.declared.Origin.{Origin}
use Rattle.rows.specs.declared.Key.{Key}
use Rattle.rows.specs.declared.Entry.{Entry}
use Rattle.arrivals.specs.declared.Arrival.{Arrival}

-- ---- the key

-- a PID of 8192 or more is none (12), then an input of 16 or more (37)
abbrev pub made_words : Result section_origin.Origin Refusal → Result Origin Refusal
made_words (Ok o) = Ok (record { input = o.input.0; pid = o.pid.0 })
made_words (Err r) = Err r

-- where a section came from, in the words of a key; 41 without a PID
abbrev pub origin_words : ℕ → Option ℕ → Result Origin Refusal
origin_words input None = Err refusal.NoPid
origin_words input (Some v) = made_words (origin_made input v)

abbrev pub bit_of : Bool → ℕ
bit_of b = cond b 1 0

-- the set collector's key: PID, table_id, extension, current_next
abbrev pub set_key : Origin → Header → Key
set_key from h = record {
  from = from;
  table_id = h.table_id;
  extension = h.extension;
  current_next = bit_of h.current_next;
  transport_stream_id = 0;
  original_network_id = 0;
}

-- "EIT set key adds kind, transport_stream_id, original_network_id"; the kind follows from table_id, and the extension is service_id
abbrev pub eit_key : Origin → Header → Eit → Key
eit_key from h f = record {
  from = from;
  table_id = h.table_id;
  extension = f.service_id.0;
  current_next = bit_of h.current_next;
  transport_stream_id = f.transport_stream_id;
  original_network_id = f.original_network_id;
}

-- ---- what arrived

abbrev pub entry_of : Key → Header → Entry
entry_of key h = record { key = key; version = h.version; last = h.last; number = h.number }

-- the kinds by number
abbrev pub kind_number : Kind → ℕ
kind_number kind.PresentFollowingActual = 0
kind_number kind.PresentFollowingOther = 1
kind_number kind.ScheduleActual = 2
kind_number kind.ScheduleOther = 3

abbrev pub arrival_of : Origin → Header → Eit → Arrival
arrival_of from h f = record {
  entry = entry_of (eit_key from h f) h;
  kind = kind_number f.kind;
  segment = f.segment_last_section_number + 1;
  tables = f.last_table_id;
}

-- ---- the set collector

-- 14 to 17
abbrev pub set_read : Origin → Result Header Refusal → Result Entry Refusal
set_read from (Err r) = Err r
set_read from (Ok h) = Ok (entry_of (set_key from h) h)

-- 12, then 37
abbrev pub set_judged : Result Origin Refusal → List ℕ → Result Entry Refusal
set_judged (Err r) bytes = Err r
set_judged (Ok from) bytes = set_read from (collected_of bytes)

unfoldable pub set_arrival : (input : ℕ) → Option ℕ → List ℕ → Result Entry Refusal
set_arrival input pid bytes = set_judged (origin_words input pid) bytes

-- ---- the EIT collector

-- 18, 19
abbrev pub eit_fields : Origin → Header → Result Eit Refusal → Result Arrival Refusal
eit_fields from h (Err r) = Err r
eit_fields from h (Ok f) = Ok (arrival_of from h f)

-- 14 to 17
abbrev pub eit_read : Origin → List ℕ → Result Header Refusal → Result Arrival Refusal
eit_read from bytes (Err r) = Err r
eit_read from bytes (Ok h) = eit_fields from h (eit_of bytes)

-- 12, then 37
abbrev pub eit_judged : Result Origin Refusal → List ℕ → Result Arrival Refusal
eit_judged (Err r) bytes = Err r
eit_judged (Ok from) bytes = eit_read from bytes (collected_of bytes)

unfoldable pub eit_arrival : (input : ℕ) → Option ℕ → List ℕ → Result Arrival Refusal
eit_arrival input pid bytes = eit_judged (origin_words input pid) bytes

-- ---- what holds of a section that arrived

-- its section_number is at most its last_section_number, a byte
pub record Numbered (e : Entry) : Type 0 where
  pub number : e.number ≤ e.last
  pub last : e.last < 256

-- and it is a long form
pub record Taken (bytes : List ℕ) (e : Entry) : Type 0 where
  pub numbered : Numbered e
  pub long : 12 ≤ length bytes

abbrev pub SetTaken : List ℕ → Result Entry Refusal → Type 0
SetTaken bytes (Err r) = Unit {0}
SetTaken bytes (Ok e) = Taken bytes e

abbrev pub EitTaken : List ℕ → Result Arrival Refusal → Type 0
EitTaken bytes (Err r) = Unit {0}
EitTaken bytes (Ok a) = Taken bytes a.entry
