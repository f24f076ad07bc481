-- Many sections pushed to the EIT collector: what it answers and leaves is what pushing them one by one does, until one answers something else than 4
-- (docs/RULES.md, "Collectors", and "Logs" for a section list). `cond test a b` is a where the test is true, else b.
-- Assumes nothing.
use Rattle.std.specs.Prelude.{ℕ, ◌+◌, List, [], ◌∷◌, Bool, true, false, cond, length, Some}
use Rattle.eit_state.specs.State.{Store, store, push_number}
use Rattle.eit.specs.Store.{Told, done, nothing, a_set, a_schedule, refused, After, answer_of, pushed_of}
use Rattle.rules_logs.specs.Sections.{Given}
use Rattle.eit_each.specs.declared.AllAnswer.{AllAnswer}
use Rattle.eit_each.specs.declared.AllAnswer.TheVariants as answer
use Rattle.eit_each.specs.declared.AllPushed.{AllPushed}

-- what the call tells: of the section that answered, or that one of the list is too long (42)
pub data AllTold : Type 0 where
  of : Told → AllTold
  overlong : AllTold

abbrev pub all_no : AllAnswer → ℕ
all_no (answer.Pushed a) = push_number a
all_no answer.TooLong = 42

-- what a call told, the store that it left, and how many bytes of the list it took
pub record AllAfter : Type 0 where
  pub told : AllTold
  pub store : Store
  pub taken : ℕ

abbrev pub all_after : AllTold → Store → ℕ → AllAfter
all_after t s n = record { told = t; store = s; taken = n }

-- 4
abbrev pub is_nothing : Told → Bool
is_nothing done = false
is_nothing nothing = true
is_nothing (a_set x) = false
is_nothing (a_schedule x) = false
is_nothing (refused r) = false

-- one section of a list is pushed, with its PID
abbrev pub pushed_given : Store → Given → After
pushed_given s g = pushed_of s g.input (Some g.pid) g.section

-- one by one, until one answers something else than 4; n bytes of the list were taken before
unfoldable pub pushed_each : (n : ℕ) → Store → List Given → AllAfter
pushed_each n s [] = all_after (of nothing) s n
pushed_each n s (g ∷ gs) =
    let l : After = pushed_given s g in
    let m : ℕ = n + (5 + length g.section) in
    cond (is_nothing l.told) (pushed_each m l.store gs) (all_after (of l.told) l.store m)

-- ---- what the call handed back

abbrev pub told_by : AllAnswer → Store → AllTold
told_by (answer.Pushed a) s = of (answer_of a s)
told_by answer.TooLong s = overlong

abbrev pub after_all : AllPushed → (heads slots cells schedule_heads units : List ℕ) → AllAfter
after_all r heads slots cells schedule_heads units =
    let s : Store = store r.eit heads slots cells schedule_heads units in
    all_after (told_by r.answer s) s r.taken
