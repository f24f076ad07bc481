-- Many sections in one C call of the set collector, beside the same sections by one call of `petrizolu_sets_push` after another.
-- Assumes nothing.
use Rattle.std.specs.Prelude.{ℕ, ◌+◌, ◌<◌, List, [], ◌∷◌, cond, eqb, length}
use Rattle.rules_logs.specs.Sections.{Given}
use Rattle.host_sets.specs.Calls.{SetsLeft, sets_pushed}
use Rattle.host_sets_all.specs.Calls.{AllLeft, all_left}

-- until one answers something else than 4, each on what the one before it left; n bytes of the list were taken before
unfoldable pub each_called : (n : ℕ) → SetsLeft → List Given → AllLeft
each_called n l [] = all_left l (n ∷ [])
each_called n l (g ∷ gs) =
    let r : SetsLeft = sets_pushed l.sets l.heads l.slots l.cells g.input g.pid g.section l.row in
    let m : ℕ = n + (5 + length g.section) in
    cond (eqb r.answer 4) (each_called m r gs) (all_left r (m ∷ []))

-- as a list of bytes says it: an input of one byte, a PID of two
pub record Said (g : Given) : Type 0 where
  pub input : g.input < 256
  pub pid : g.pid < 65536

abbrev pub AllSaid : List Given → Type 0
AllSaid [] = Unit {0}
AllSaid (g ∷ gs) = Said g × AllSaid gs
