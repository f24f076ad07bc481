-- One law for each way out of a function.
-- Assumes nothing.
use Prim.Native.Nat.{ℕ, ◌+◌, ◌*◌, ◌/◌, ◌%◌, ◌≤◌, ◌<◌}
use mathlib.Core.Path.{◌≡◌, refl, sym, ap, ◌∙◌}
use mathlib.Core.Logic.{◌≢◌}
use mathlib.Core.List.{List}
use mathlib.Core.Bool.{Bool, true, false}
use lib.ListN.{length, get_or}
use borrow.Author.Tests.{eq-eqb, ne_eqb, le-leb, lt-leb}
use Rattle.section.specs.declared.ids.Pid.{Pid}
use Rattle.laws.proofs.Unique.{one_result}
use Rattle.packet.specs.Packets.{packet_of, packet_by, payload_at, is_readable, pid_of, starts_in, load_of}
use Rattle.packet.specs.declared.Load.{Load}
use Rattle.packet.specs.declared.Packet.{Packet}
use Rattle.packet.specs.declared.Packet.TheVariants.{Malformed, Nothing, Payload}

pub behind_field : (control field r : ℕ) → control / 32 % 2 ≡ 1 → r ≡ field → 5 + r ≡ payload_at control field
behind_field control field r h e = rw (eq-eqb (control / 32 % 2) 1 h, e) refl

pub behind_header : (control field : ℕ) → control / 32 % 2 ≢ 1 → ◌≡◌ {A = ℕ} 4 (payload_at control field)
behind_header control field h = rw (ne_eqb (control / 32 % 2) 1 h) refl

pub pid_made_lem : (flags low a b : ℕ) → a ≡ flags → b ≡ low → ◌≡◌ {A = Pid} (record { 0 = a % 32 * 256 + b }) (pid_of flags low)
pid_made_lem flags low a b e f = rw (e, f) refl

pub no_length : (s : List ℕ) → length s ≢ 188 → Malformed ≡ packet_of s
unfolding packet_of packet_by
no_length s h = rw (ne_eqb (length s) 188 h) refl

pub no_sync : (s : List ℕ) → length s ≡ 188 → get_or s 0 0 ≢ 0x47 → Malformed ≡ packet_of s
unfolding packet_of packet_by
no_sync s l h = rw (eq-eqb (length s) 188 l, ne_eqb (get_or s 0 0) 0x47 h) refl

pub no_room : (s : List ℕ) (from : ℕ) → length s ≡ 188 → get_or s 0 0 ≡ 0x47 → from ≡ payload_at (get_or s 3 0) (get_or s 4 0) → 188 < from → Malformed ≡ packet_of s
unfolding packet_of packet_by
no_room s from l y e h = rw (eq-eqb (length s) 188 l, eq-eqb (get_or s 0 0) 0x47 y, ← e, lt-leb from 188 h) refl

pub no_use : (s : List ℕ) (from : ℕ) (b : Bool) → length s ≡ 188 → get_or s 0 0 ≡ 0x47 → from ≡ payload_at (get_or s 3 0) (get_or s 4 0) → from ≤ 188
    → b ≡ is_readable (get_or s 1 0) (get_or s 3 0) → b ≡ false → Nothing ≡ packet_of s
unfolding packet_of packet_by
no_use s from b l y e h u v = rw (eq-eqb (length s) 188 l, eq-eqb (get_or s 0 0) 0x47 y, ← e, le-leb from 188 h, ← u, v) refl

pub a_load : (s : List ℕ) (from : ℕ) (b : Bool) (load : Load) → length s ≡ 188 → get_or s 0 0 ≡ 0x47 → from ≡ payload_at (get_or s 3 0) (get_or s 4 0) → from ≤ 188
    → b ≡ is_readable (get_or s 1 0) (get_or s 3 0) → b ≡ true → load ≡ load_of (get_or s 1 0) (get_or s 2 0) (get_or s 3 0) from → Payload load ≡ packet_of s
unfolding packet_of packet_by
a_load s from b load l y e h u v p = rw (eq-eqb (length s) 188 l, eq-eqb (get_or s 0 0) 0x47 y, ← e, le-leb from 188 h, ← u, v, p) refl

pub load_told : (flags low control from : ℕ) (pid : Pid) (start : Bool) → pid ≡ pid_of flags low → start ≡ starts_in flags
    → ◌≡◌ {A = Load} (record { pid = pid; start = start; counter = control % 16; from = from }) (load_of flags low control from)
load_told flags low control from pid start p f = λ i. record { pid = p i; start = f i; counter = control % 16; from = from }

-- two results that meet the promise are equal
pub read_unique : (s : List ℕ) (a b : Packet) → a ≡ packet_of s → b ≡ packet_of s → a ≡ b
read_unique s a b = one_result (packet_of s)
