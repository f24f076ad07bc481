use mathlib.Core.Path.{◌≡◌}
use Prim.Native.Nat.{◌≤◌}
use lib.ListN.{length}
use Rattle.differences.proofs.Tabling.{Side, words_to}
use Rattle.differences.proofs.table_words.Given as goal

abbrev pub invariant-loop-t : goal.invariant-loop-t
invariant-loop-t l = (l.t ≤ 16) × (length l.words ≡ 16) × (l.words ≡ words_to l.base l.first l.second l.initial.words l.t) × Side l.base l.first l.i l.t × Side l.base l.second l.j l.t
