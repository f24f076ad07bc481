-- The words of an entry (docs/RULES.md, "Entries"): 0 kind (1 an event, 2 a descriptor, 3 a transport stream, 4 a service), 1 the section's number, 2 the place of its first
-- byte, 3 event_id, descriptor_tag, transport_stream_id or service_id, 4 how many bytes follow, 5 original_network_id, 6 the day, 7 the time, 8 the duration, 9 running_status, 10 free_CA_mode, 11 the EIT flags.
-- A word that a kind does not use is 0.
use Rattle.std.specs.Prelude.{ℕ, ◌/◌, ◌%◌, List, [], ◌∷◌, Bool, cond, length, eqb, Option, Some, None}
use Rattle.laws.specs.Entries.{counted}
use Rattle.section.specs.Header.{byte_at, word16}
use Rattle.times.specs.Times.{time_of, day_of}
use Rattle.times.specs.declared.Seconds.{Seconds}
use Rattle.entry_words.specs.declared.Event.{Event}

-- the twelve bytes of an event's header (EN 300 468, 5.2.4): 0 and 1 event_id, 2 and 3 the day and 4 to 6 the time of start_time, 7 to 9 duration, then 3 bits
-- running_status, 1 bit free_CA_mode and 12 bits descriptors_loop_length
unfoldable pub event_of : (header : List ℕ) → Event
event_of header = record {
  event_id = word16 (byte_at header 0) (byte_at header 1);
  day = day_of (byte_at header 2) (byte_at header 3);
  time = time_of (byte_at header 4) (byte_at header 5) (byte_at header 6);
  duration = time_of (byte_at header 7) (byte_at header 8) (byte_at header 9);
  running_status = byte_at header 10 / 32;
  free_ca_mode = eqb (byte_at header 10 / 16 % 2) 1;
  descriptors = counted 12 header;
}

-- a second count; 2^32 - 1 where the time is undefined
abbrev pub seconds_word : Option Seconds → ℕ
seconds_word (Some seconds) = seconds.0
seconds_word None = 4294967295

abbrev pub flag_word : Bool → ℕ
flag_word flag = cond flag 1 0

unfoldable pub event_words : (number at : ℕ) → Event → List ℕ
event_words number at e =
    1 ∷ number ∷ at ∷ e.event_id ∷ e.descriptors ∷ 0 ∷ e.day.0 ∷ seconds_word e.time ∷ seconds_word e.duration ∷ e.running_status ∷ flag_word e.free_ca_mode ∷ 0 ∷ []

-- an entry of a loop of which nothing else is known: the 16 bits that it begins with, and how many bytes follow its header
unfoldable pub plain_words : (number at : ℕ) → (header : List ℕ) → List ℕ
plain_words number at header = 0 ∷ number ∷ at ∷ word16 (byte_at header 0) (byte_at header 1) ∷ counted (length header) header ∷ 0 ∷ 0 ∷ 0 ∷ 0 ∷ 0 ∷ 0 ∷ 0 ∷ []

-- the six bytes of a transport stream's header (EN 300 468, 5.2.1 and 5.2.2): transport_stream_id, original_network_id, 4 bits, transport_descriptors_length
unfoldable pub stream_words : (number at : ℕ) → (header : List ℕ) → List ℕ
stream_words number at header =
    3 ∷ number ∷ at ∷ word16 (byte_at header 0) (byte_at header 1) ∷ counted 6 header ∷ word16 (byte_at header 2) (byte_at header 3) ∷ 0 ∷ 0 ∷ 0 ∷ 0 ∷ 0 ∷ 0 ∷ []

-- the five bytes of a service's header (EN 300 468, 5.2.3): service_id, 6 bits, EIT_schedule_flag, EIT_present_following_flag, 3 bits running_status, 1 bit free_CA_mode,
-- descriptors_loop_length; `network` is the original_network_id of its section
unfoldable pub service_words : (network number at : ℕ) → (header : List ℕ) → List ℕ
service_words network number at header =
    4 ∷ number ∷ at ∷ word16 (byte_at header 0) (byte_at header 1) ∷ counted 5 header ∷ network ∷ 0 ∷ 0 ∷ 0 ∷ byte_at header 3 / 32 ∷ byte_at header 3 / 16 % 2 ∷ byte_at header 2 % 4 ∷ []

-- an entry, by the length of its header
unfoldable pub entry_words : (network number at : ℕ) → (header : List ℕ) → List ℕ
entry_words network number at header =
    cond (eqb (length header) 12) (event_words number at (event_of header))
    (cond (eqb (length header) 6) (stream_words number at header)
    (cond (eqb (length header) 5) (service_words network number at header)
    (plain_words number at header)))

unfoldable pub descriptor_words : (number at tag size : ℕ) → List ℕ
descriptor_words number at tag size = 2 ∷ number ∷ at ∷ tag ∷ size ∷ 0 ∷ 0 ∷ 0 ∷ 0 ∷ 0 ∷ 0 ∷ 0 ∷ []
