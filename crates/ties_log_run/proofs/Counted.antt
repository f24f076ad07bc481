-- A call on the set collector counts at most one eviction and at most one touch, and leaves its settings and its number of cells.
-- Assumes nothing.
use mathlib.Core.Path.{◌≡◌, refl}
use mathlib.Core.Bool.{Bool, true, false}
use Prim.Native.Nat.{ℕ, suc, ◌+◌, ◌≤◌}
use native.Mathlib.Omega.{arith}
use lib.ListN.{length}
use Rattle.rules_shared.specs.Touch.{count, evicts, aside, newest, emptied}
use Rattle.rules_shared.specs.Row.{keep}
use Rattle.rules_shared.specs.Cells.{Held, held_in}
use Rattle.rules_sets.specs.Rules.{same_key, SetOf, Section, part_of, Call, full, judged, judge}
use Rattle.rules_sets.specs.Cells.{Store, Turn, shows, rest, room_for, call_acts}
use Rattle.rules_shared.proofs.Cells.{length_write}
use Rattle.rules_sets.proofs.Outcome.{row, Outcome, broken, stopped, clears, refuses, long, keyless, lacks, keeps, ignores, conflicts, outcome}

module _ (s : Store) where
  abbrev now : ℕ
  now = s.sets.evicted

  at_most_one : (b : Bool) → now + count b ≤ suc now
  unfolding count
  at_most_one true = omega arith
  at_most_one false = omega arith

  rest_one : (x : Section) → (rest s x).evicted ≤ suc now
  unfolding rest aside
  rest_one x = at_most_one (evicts same_key s.settings.limit x.key s.sets.rows)

  judge_one : (x : Section) (r : SetOf Held) → (judge (rest s x) x.key r).sets.evicted ≤ suc now
  unfolding judge judged newest
  judge_one x r = go r.mark (full r.slots)
    where
      go : (b c : Bool) → (judged (rest s x) x.key r b c).sets.evicted ≤ suc now
      go true c = rest_one x
      go false false = rest_one x
      go false true = rest_one x

  outcome_one : {i : Call} {t : Turn} → Outcome s i t → t.store.sets.evicted ≤ suc now
  unfolding shows emptied room_for newest
  outcome_one (broken i e) = omega arith
  outcome_one (stopped i e h) = omega arith
  outcome_one (clears e) = omega arith
  outcome_one (refuses n e) = omega arith
  outcome_one (long x e l) = omega arith
  outcome_one (keyless x e l q) = omega arith
  outcome_one (lacks x a e t) = omega arith
  outcome_one (keeps x a e c l) = judge_one x (keep (part_of x) (held_in c x.bytes) (row s x))
  outcome_one (ignores x a h e q) = judge_one x (row s x)
  outcome_one (conflicts x a h e q) = rest_one x

  pub counts_one : (i : Call) → (call_acts s i).sets.evicted ≤ suc now
  unfolding call_acts
  counts_one i = outcome_one (outcome s i)

  outcome_risen : {i : Call} {t : Turn} → Outcome s i t → t.store.clock ≤ suc s.clock
  unfolding shows
  outcome_risen (broken i e) = omega arith
  outcome_risen (stopped i e h) = omega arith
  outcome_risen (clears e) = omega arith
  outcome_risen (refuses n e) = omega arith
  outcome_risen (long x e l) = omega arith
  outcome_risen (keyless x e l q) = omega arith
  outcome_risen (lacks x a e t) = omega arith
  outcome_risen (keeps x a e c l) = omega arith
  outcome_risen (ignores x a h e q) = omega arith
  outcome_risen (conflicts x a h e q) = omega arith

  pub rises_one : (i : Call) → (call_acts s i).clock ≤ suc s.clock
  unfolding call_acts
  rises_one i = outcome_risen (outcome s i)

  outcome_cells : {i : Call} {t : Turn} → Outcome s i t → length t.store.cells ≡ length s.cells
  unfolding shows
  outcome_cells (broken i e) = refl
  outcome_cells (stopped i e h) = refl
  outcome_cells (clears e) = refl
  outcome_cells (refuses n e) = refl
  outcome_cells (long x e l) = refl
  outcome_cells (keyless x e l q) = refl
  outcome_cells (lacks x a e t) = refl
  outcome_cells (keeps x a e c l) = length_write s.cells c x.bytes
  outcome_cells (ignores x a h e q) = refl
  outcome_cells (conflicts x a h e q) = refl

  pub cells_stay : (i : Call) → length (call_acts s i).cells ≡ length s.cells
  unfolding call_acts
  cells_stay i = outcome_cells (outcome s i)
