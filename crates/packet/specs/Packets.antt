-- What the bytes of a transport packet say (ISO/IEC 13818-1, 2.4.3.2 and 2.4.3.3). `cond test a b` is a where the test is true, else b.
--
--   byte 0   sync_byte, 0x47
--   byte 1   transport_error_indicator (128), payload_unit_start_indicator (64), transport_priority (32), the high 5 bits of the PID
--   byte 2   the low 8 bits of the PID
--   byte 3   transport_scrambling_control (64), adaptation_field_control (32: an adaptation field is there, 16: a payload is there), continuity_counter
--   byte 4   adaptation_field_length, where there is an adaptation field: how many bytes of it follow
use Rattle.std.specs.Prelude.{◌≡◌, ℕ, ◌+◌, ◌*◌, ◌/◌, ◌%◌, ◌≤◌, ◌<◌, List, Bool, true, false, cond, ◌&&◌, length, get_or, leb, eqb}
use Rattle.section.specs.declared.ids.Pid.{Pid}
use Rattle.packet.specs.declared.Load.{Load}
use Rattle.packet.specs.declared.Packet.{Packet}
use Rattle.packet.specs.declared.Packet.TheVariants.{Malformed, Nothing, Payload}

-- where the payload begins, by bytes 3 and 4
abbrev pub payload_at : ℕ → ℕ → ℕ
payload_at control field_length = cond (eqb (control / 32 % 2) 1) (5 + field_length) 4

-- not marked as damaged, not scrambled, and with a payload; adaptation_field_control 00 is reserved, and such a packet is passed over
abbrev pub is_readable : ℕ → ℕ → Bool
is_readable flags control = eqb (flags / 128) 0 && eqb (control / 64) 0 && eqb (control / 16 % 2) 1

abbrev pub pid_of : ℕ → ℕ → Pid
pid_of flags low = record { 0 = flags % 32 * 256 + low }

abbrev pub starts_in : ℕ → Bool
starts_in flags = eqb (flags / 64 % 2) 1

abbrev pub load_of : ℕ → ℕ → ℕ → ℕ → Load
load_of flags low control from = record { pid = pid_of flags low; start = starts_in flags; counter = control % 16; from = from }

-- by bytes 1 to 4
unfoldable pub packet_by : ℕ → ℕ → ℕ → ℕ → Packet
packet_by flags low control field_length =
    let from : ℕ = payload_at control field_length in
    cond (leb from 188) (cond (is_readable flags control) (Payload (load_of flags low control from)) Nothing) Malformed

unfoldable pub packet_of : List ℕ → Packet
packet_of s = cond (eqb (length s) 188 && eqb (get_or s 0 0) 0x47) (packet_by (get_or s 1 0) (get_or s 2 0) (get_or s 3 0) (get_or s 4 0)) Malformed

-- what is so of a payload in a packet, whatever its bytes
pub record IsLoad (l : Load) (packet : List ℕ) : Type 0 where
  pub pid : l.pid.0 < 8192
  pub counted : l.counter < 16
  pub headed : 4 ≤ l.from
  pub inside : l.from ≤ 188
  pub long : length packet ≡ 188
