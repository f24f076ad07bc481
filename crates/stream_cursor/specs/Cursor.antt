-- Where reading a transport stream stands: which bytes of the block were read and are not used up, and how many bytes wait to be written.
use Rattle.std.specs.Prelude.{◌≡◌, Bool, true, false, ℕ, ◌+◌, ◌-◌, ◌≤◌}
use Rattle.alignment.specs.declared.Step.{Step}
use Rattle.alignment.specs.declared.Next.{Next}
use Rattle.alignment.specs.declared.Next.TheVariants.{Packet, Loose, Found, More, Cut, Over}
use Rattle.stream_cursor.specs.declared.Cursor.{Cursor}

pub record Inside (c : Cursor) : Type 0 where
  pub ordered : c.from ≤ c.to
  pub inside : c.to ≤ 65724
  pub filled : c.filled ≤ 65536

-- of the n bytes of a window: a packet has 188 of them, and where more are needed at most 188 are kept
abbrev pub NextOk : (n used : ℕ) → Next → Type 0
NextOk n used Packet = 188 ≤ n
NextOk n used Loose = 188 ≤ n
NextOk n used Found = Unit {0}
NextOk n used More = n ≤ used + 188
NextOk n used Cut = Unit {0}
NextOk n used Over = Unit {0}

-- a packet, in its place or not
abbrev pub is_packet : Next → Bool
is_packet Packet = true
is_packet Loose = true
is_packet Found = false
is_packet More = false
is_packet Cut = false
is_packet Over = false

pub record StepOk (c : Cursor) (s : Step) : Type 0 where
  pub used : s.used ≤ c.to - c.from
  pub next : NextOk (c.to - c.from) s.used s.next
