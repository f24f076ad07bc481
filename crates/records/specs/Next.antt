-- What reading a record promises.
use Rattle.std.specs.Prelude.{◌≤◌}
use Rattle.records.specs.declared.Next.{Next}
use Rattle.records.specs.declared.Next.TheVariants.{Record, End, Cut}

-- a record has its PID and the first three bytes of its section, and fits the buffer
abbrev pub Within : Next → Type 0
Within (Record n) = (5 ≤ n) × (n ≤ 4100)
Within End = Unit
Within Cut = Unit
