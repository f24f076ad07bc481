-- A PID as a host in another language gives it.
use Rattle.std.specs.Prelude.{ℕ, cond, ltb, eqb, Option, Some, None}

-- a number above 65,535 does not wrap to a small one: 65,535 is no PID either, and is refused as one
abbrev pub pid_number : ℕ → ℕ
pid_number pid = cond (ltb pid 65535) pid 65535

-- 0xFFFFFFFF is "no PID"
abbrev pub maybe_pid : ℕ → Option ℕ
maybe_pid pid = cond (eqb pid 0xFFFF_FFFF) None (Some (pid_number pid))
