-- Many sections in one call of the set collector: what it answers and leaves is what pushing them one by one does, until one answers something else than 4
-- (docs/RULES.md, "Collectors", and "Logs" for a section list). `cond test a b` is a where the test is true, else b.
-- Assumes nothing.
use Rattle.std.specs.Prelude.{ℕ, ◌+◌, ◌≡◌, List, [], ◌∷◌, Bool, true, false, cond, length, Some}
use Rattle.answers.specs.declared.Refusal.TheVariants.{NotWhole, CounterFull, NoPid}
use Rattle.without_pid.specs.Pids.{without_pid}
use Rattle.store.specs.Store.{Store, store, whole_of, Whole, counters_full}
use Rattle.store.specs.declared.Sets.{Sets}
use Rattle.sets_settle.specs.Settle.{Told, done, nothing, handed, refused, SetsAfter, answer_of, push_no}
use Rattle.sets.specs.Store.{pushed_of}
use Rattle.rules_logs.specs.Records.{Bytes}
use Rattle.rules_logs.specs.Sections.{Given, Listed, too_long, cut, sections, sections_in}
use Rattle.sets_all.specs.declared.AllAnswer.{AllAnswer}
use Rattle.sets_all.specs.declared.AllAnswer.TheVariants as answer
use Rattle.sets_all.specs.declared.AllPushed.{AllPushed}

-- what the call tells: of the section that answered, or that one of the list is too long (42)
pub data AllTold : Type 0 where
  of : Told → AllTold
  overlong : AllTold

abbrev pub all_no : AllAnswer → ℕ
all_no (answer.Pushed a) = push_no a
all_no answer.TooLong = 42

-- what a call told, the store that it left, and how many bytes of the list it took
pub record AllAfter : Type 0 where
  pub told : AllTold
  pub store : Store
  pub taken : ℕ

abbrev pub all_after : AllTold → Store → ℕ → AllAfter
all_after t s n = record { told = t; store = s; taken = n }

-- 4
abbrev pub is_nothing : Told → Bool
is_nothing done = false
is_nothing nothing = true
is_nothing (handed h) = false
is_nothing (refused r) = false

-- one section of a list is pushed, with its PID
abbrev pub pushed_given : Store → Given → SetsAfter
pushed_given s g = pushed_of s g.input (Some g.pid) g.section

-- one by one, until one answers something else than 4; n bytes of the list were taken before
unfoldable pub pushed_each : (n : ℕ) → Store → List Given → AllAfter
pushed_each n s [] = all_after (of nothing) s n
pushed_each n s (g ∷ gs) =
    let l : SetsAfter = pushed_given s g in
    let m : ℕ = n + (5 + length g.section) in
    cond (is_nothing l.told) (pushed_each m l.store gs) (all_after (of l.told) l.store m)

-- 10 where the store is not whole, 11 where its count is at its end, 41 where a row in use has no PID; then one by one
unfoldable pub pushed_sections : Store → List Given → AllAfter
pushed_sections s gs =
    cond (whole_of s)
    (cond (counters_full s.sets) (all_after (of (refused CounterFull)) s 0)
    (cond (without_pid s.heads s.sets.used) (all_after (of (refused NoPid)) s 0) (pushed_each 0 s gs)))
    (all_after (of (refused NotWhole)) s 0)

-- what holds of a store from one section of a list to the next: it is whole, and every row in use has a PID
pub record Pushable (s : Sets) (heads slots cells : List ℕ) : Type 0 where
  pub whole : Whole s heads slots cells
  pub pids : without_pid heads s.used ≡ false

abbrev pub pushed_list : Store → Listed → AllAfter
pushed_list s too_long = all_after overlong s 0
pushed_list s cut = all_after (of (refused NotWhole)) s 0
pushed_list s (sections gs) = pushed_sections s gs

-- 42 and 10 of the list, 10, 11 and 41 of the store, then its sections
unfoldable pub pushed_all : Store → Bytes → AllAfter
pushed_all s list = pushed_list s (sections_in list)

-- ---- what the call handed back

abbrev pub told_by : AllAnswer → Store → AllTold
told_by (answer.Pushed a) s = of (answer_of a s)
told_by answer.TooLong s = overlong

abbrev pub after_all : AllPushed → List ℕ → List ℕ → List ℕ → AllAfter
after_all r heads slots cells = all_after (told_by r.answer (store r.sets heads slots cells)) (store r.sets heads slots cells) r.taken
