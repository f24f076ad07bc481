use Rattle.std.proofs.Common.{◌≡◌, ◌≤◌, length, drop}
use Rattle.program_input.specs.Numbers.{number_from, number_in}
use Rattle.program_input.proofs.number_of.Given as goal

abbrev pub invariant-loop-c : goal.invariant-loop-c
invariant-loop-c l = (l.c-index ≤ length l.text) × (number_in l.text ≡ number_from l.v (drop l.c-index l.text))
