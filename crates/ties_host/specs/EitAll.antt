-- Many sections in one C call of the EIT collector, beside the same sections by one call of `petrizolu_eit_push` after another.
-- Assumes nothing.
use Rattle.std.specs.Prelude.{ℕ, ◌+◌, List, [], ◌∷◌, cond, eqb, length}
use Rattle.rules_logs.specs.Sections.{Given}
use Rattle.host_eit.specs.Calls.{EitLeft, eit_pushed}
use Rattle.host_eit_all.specs.Calls.{AllLeft, all_left}

-- until one answers something else than 4, each on what the one before it left; n bytes of the list were taken before
unfoldable pub each_called : (n : ℕ) → EitLeft → List Given → AllLeft
each_called n l [] = all_left l (n ∷ [])
each_called n l (g ∷ gs) =
    let r : EitLeft = eit_pushed l.eit l.heads l.slots l.cells l.schedule_heads l.units g.input g.pid g.section l.row in
    let m : ℕ = n + (5 + length g.section) in
    cond (eqb r.answer 4) (each_called m r gs) (all_left r (m ∷ []))
