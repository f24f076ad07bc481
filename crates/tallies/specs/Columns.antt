-- What a monitor counts of the answers of its parts (docs/RULES.md, "Answers"), a number a column: 0 nobuffer (43); of the set collector 1 sets (5),
-- 2 conflicts (22), 3 missing cells (21); of the EIT collector 4 present/following sets (5), 5 schedules (6), 6 conflicts (22), 7 missing cells (21),
-- 8 schedules out of range (23), 9 other refusals. 10 is no column. `cond test a b` is a where the test is true, else b.
-- Assumes nothing.
use Rattle.std.specs.Prelude.{ℕ, ◌+◌, List, cond, eqb, ltb, get_or, set}
use Rattle.answers.specs.Answers.{refusal_no}
use Rattle.answers.specs.declared.Refusal.{Refusal}
use Rattle.sets_settle.specs.declared.PushAnswer.{PushAnswer as SetAnswer}
use Rattle.sets_settle.specs.declared.PushAnswer.TheVariants as sets
use Rattle.eit_state.specs.declared.PushAnswer.{PushAnswer as EitAnswer}
use Rattle.eit_state.specs.declared.PushAnswer.TheVariants as eit

unfoldable pub set_refusal : Refusal → ℕ
set_refusal r = cond (eqb (refusal_no r) 22) 2 (cond (eqb (refusal_no r) 21) 3 10)

abbrev pub set_column : SetAnswer → ℕ
set_column sets.Nothing = 10
set_column (sets.Set i) = 1
set_column (sets.Refused r) = set_refusal r

unfoldable pub eit_refusal : Refusal → ℕ
eit_refusal r = cond (eqb (refusal_no r) 22) 6 (cond (eqb (refusal_no r) 21) 7 (cond (eqb (refusal_no r) 23) 8 9))

abbrev pub eit_column : EitAnswer → ℕ
eit_column eit.Nothing = 10
eit_column (eit.Set i) = 4
eit_column (eit.Schedule i) = 5
eit_column (eit.Refused r) = eit_refusal r

-- one more, but at 2^64 - 1 none
abbrev pub more_of : ℕ → ℕ
more_of n = cond (ltb n 18446744073709551615) (n + 1) n

unfoldable pub counted_in : List ℕ → (column : ℕ) → List ℕ
counted_in tally column = cond (ltb column 10) (set tally column (more_of (get_or tally column 0))) tally
