-- What each call of the set collector answers and leaves, for every content of the lent memory (docs/RULES.md, "Collectors", "Cells" and
-- "Answers"). `cond test a b` is a where the test is true, else b.
use Rattle.std.specs.Prelude.{ℕ, List, cond, length, ltb, Option, Result, Ok, Err, false}
use Rattle.answers.specs.declared.Refusal.TheVariants.{NotWhole, TooLittle, NoPid}
use Rattle.answers.specs.Answers.{Outcome}
use Rattle.rows.specs.declared.Entry.{Entry}
use Rattle.answers.specs.declared.Refusal.{Refusal}
use Rattle.cells.specs.Cells.{next_filled}
use Rattle.rows.specs.Rows.{row_slots}
use Rattle.without_pid.specs.Pids.{without_pid}
use Rattle.store.specs.Store.{Store, store, empty_sets, settings_fit, whole_of}
use Rattle.readers.specs.Next.{no_section, slot_told}
use Rattle.readers.specs.declared.Next.{Next}
use Rattle.sets_push.specs.Pushing.{admitted, whole_pushed}
use Rattle.sets_settle.specs.Settle.{Told, done, refused, SetsAfter, after, answered}
use Rattle.sets_settle.specs.declared.PushAnswer.TheVariants as push_answer
use Rattle.sets.specs.declared.Opened.{Opened}
use Rattle.sets.specs.declared.Cleared.{Cleared}

-- ---- opening and clearing

-- what an opening or a clearing tells
abbrev pub outcome_of : Outcome → Told
outcome_of (Ok _) = done
outcome_of (Err r) = refused r

-- what a call handed back, with the slices as it left them
abbrev pub after_open : Opened → List ℕ → List ℕ → List ℕ → SetsAfter
after_open r heads slots cells = after (outcome_of r.answer) (store r.sets heads slots cells)

abbrev pub after_clear : Cleared → List ℕ → List ℕ → List ℕ → SetsAfter
after_clear r heads slots cells = after (outcome_of r.answer) (store r.sets heads slots cells)

-- 13, else 7
unfoldable pub opened_of : Store → SetsAfter
opened_of s = after (cond (settings_fit s.sets (length s.heads) (length s.slots) (length s.cells)) done (refused TooLittle)) s

-- 10, 41 where a row has no PID, else 7
unfoldable pub cleared_of : Store → SetsAfter
cleared_of s =
    cond (whole_of s)
    (cond (without_pid s.heads s.sets.used) (after (refused NoPid) s) (after done (store (empty_sets s.sets) s.heads s.slots s.cells)))
    (after (refused NotWhole) s)

-- ---- a section is pushed

abbrev pub pushed_as : Store → List ℕ → Result Entry Refusal → SetsAfter
pushed_as s bytes (Err r) = answered (push_answer.Refused r) s
pushed_as s bytes (Ok e) = whole_pushed s e bytes

unfoldable pub pushed_of : Store → (input : ℕ) → Option ℕ → List ℕ → SetsAfter
pushed_of s input pid bytes = pushed_as s bytes (admitted s input pid bytes)

-- ---- the sections of a set, one after another

-- 10, 41 where a row has no PID; 8 with the first filled slot at or after `from`; 9 where there is none or the row is not in use
unfoldable pub next_of : Store → ℕ → ℕ → Next
next_of s row from =
    cond (whole_of s)
    (cond (without_pid s.heads s.sets.used) (no_section (Err NoPid))
    (cond (ltb row s.sets.used)
    (slot_told s.sets.size (row_slots s.heads s.slots row) (next_filled (row_slots s.heads s.slots row) from))
    (no_section (Ok false))))
    (no_section (Err NotWhole))
