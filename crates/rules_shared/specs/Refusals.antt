-- The refusals, as the rules of all collectors have them (docs/RULES.md, "Answers").
-- Assumes nothing.
use Rattle.std.specs.Prelude.{Bool, not, ◌&&◌, ◌||◌, eqb, leb}
use Rattle.answers.specs.Answers.{refusal_no}
use Rattle.answers.specs.declared.Refusal.{Refusal}

-- those that where a section came from and its bytes give by themselves: 41, 12, 37 and 14 to 19
unfoldable pub of_section : Refusal → Bool
of_section r = eqb (refusal_no r) 41 || (eqb (refusal_no r) 12 || (eqb (refusal_no r) 37 || (leb 14 (refusal_no r) && leb (refusal_no r) 19)))

-- those that come from a store's memory, which the rules do not have: 10 (not whole), 11 (a counter at its end) and 21 (no free cell)
unfoldable pub barred : Refusal → Bool
barred r = eqb (refusal_no r) 10 || (eqb (refusal_no r) 11 || eqb (refusal_no r) 21)

-- those that leave all as before: every one but 22 (a conflict, which touches the key) and 23 (a schedule's range, where the section is kept)
unfoldable pub as_before : Refusal → Bool
as_before r = not (eqb (refusal_no r) 22 || eqb (refusal_no r) 23)
