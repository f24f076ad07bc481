-- What a section that arrived leads to: what the set collector tells of it and leaves (docs/RULES.md, "Collectors", "Cells" and "Answers"), for every
-- content of the lent memory. `cond test a b` is a where the test is true, else b.
use Rattle.std.specs.Prelude.{ℕ, ◌+◌, ◌*◌, List, map, Bool, cond, ◌&&◌, length, eqb}
use Rattle.std.proofs.Math.Seq.{paste}
use Rattle.answers.specs.Answers.{refusal_no}
use Rattle.answers.specs.declared.Refusal.{Refusal}
use Rattle.answers.specs.declared.Refusal.TheVariants.{Conflict}
use Rattle.cells.specs.Cells.{slot_word, all_filled, kept}
use Rattle.rows.specs.Rows.{key_at, touched, kept_heads, row_slots, kept_slots, last_of, mark_of, version_of, with_mark}
use Rattle.rows.specs.declared.Key.{Key}
use Rattle.rows.specs.declared.Room.{Room}
use Rattle.store.specs.Store.{Store, store, risen_sets}
use Rattle.store.specs.declared.Sets.{Sets}
use Rattle.sets_plan.specs.declared.Keeping.{Keeping}
use Rattle.sets_plan.specs.declared.Plan.{Plan}
use Rattle.sets_plan.specs.declared.Plan.TheVariants as plan
use Rattle.sets_settle.specs.declared.PushAnswer.{PushAnswer}
use Rattle.sets_settle.specs.declared.PushAnswer.TheVariants as push_answer
use Rattle.sets_settle.specs.declared.Pushed.{Pushed}

-- ---- what is answered

-- a set that goes out: its row, its key, its version and last_section_number, and its sections' bytes in section order
pub record Handed : Type 0 where
  pub row : ℕ
  pub key : Key
  pub version : ℕ
  pub last : ℕ
  pub sections : List (List ℕ)

-- what a call tells: opened or cleared, nothing to hand out, a set, or a refusal
pub data Told : Type 0 where
  done : Told
  nothing : Told
  handed : Handed → Told
  refused : Refusal → Told

-- its number
abbrev pub told_no : Told → ℕ
told_no done = 7
told_no nothing = 4
told_no (handed h) = 5
told_no (refused r) = refusal_no r

abbrev pub push_no : PushAnswer → ℕ
push_no push_answer.Nothing = 4
push_no (push_answer.Set i) = 5
push_no (push_answer.Refused r) = refusal_no r

-- the set in row i
unfoldable pub set_in : Store → ℕ → Handed
set_in s i = record {
  row = i;
  key = key_at s.heads i;
  version = version_of s.heads i;
  last = last_of s.heads i;
  sections = map (kept s.cells s.sets.size) (row_slots s.heads s.slots i);
}

-- what an answer to a push tells, with the store that is left
abbrev pub answer_of : PushAnswer → Store → Told
answer_of push_answer.Nothing s = nothing
answer_of (push_answer.Set i) s = handed (set_in s i)
answer_of (push_answer.Refused r) s = refused r

-- the collector after a call: what it told, and its store
pub record SetsAfter : Type 0 where
  pub told : Told
  pub store : Store

abbrev pub after : Told → Store → SetsAfter
after t s = record { told = t; store = s }

-- what a push handed back, with the slices as it left them
abbrev pub after_push : Pushed → List ℕ → List ℕ → List ℕ → SetsAfter
after_push r heads slots cells = after (answer_of r.answer (store r.sets heads slots cells)) (store r.sets heads slots cells)

-- ---- the plan is carried out

abbrev pub answered : PushAnswer → Store → SetsAfter
answered a s = after (answer_of a s) s

-- "A full row not marked is handed out .. and marked"
unfoldable pub goes_out : List ℕ → List ℕ → ℕ → Bool
goes_out heads slots i = eqb (mark_of heads i) 0 && all_filled (row_slots heads slots i)

-- row i becomes the newest, and goes out where it is full and not marked
unfoldable pub settled_answer : ℕ → List ℕ → List ℕ → ℕ → PushAnswer
settled_answer clock heads slots i = cond (goes_out (touched clock i heads) slots i) (push_answer.Set i) push_answer.Nothing

unfoldable pub settled_heads : ℕ → List ℕ → List ℕ → ℕ → List ℕ
settled_heads clock heads slots i =
    let h : List ℕ = touched clock i heads in
    cond (goes_out h slots i) (with_mark i 1 h) h

unfoldable pub settled : Store → ℕ → SetsAfter
settled s i =
    answered (settled_answer (s.sets.clock + 1) s.heads s.slots i)
    (store (risen_sets s.sets) (settled_heads (s.sets.clock + 1) s.heads s.slots i) s.slots s.cells)

abbrev pub kept_sets : Sets → Room → Sets
kept_sets s r = record { limit = s.limit; size = s.size; count = s.count; used = r.used; evictions = r.evictions; clock = s.clock }

-- the section's bytes are in its cell, its slot names them, and its row has no mark
unfoldable pub kept_in : Store → List ℕ → Keeping → Store
kept_in s bytes k =
    store (kept_sets s.sets k.room) (kept_heads k.room k.entry s.heads)
    (kept_slots k.room k.entry (slot_word (length bytes) k.cell) s.slots)
    (paste s.cells (k.cell * s.sets.size) bytes (length bytes))

abbrev pub carried : Store → List ℕ → Plan → SetsAfter
carried s bytes (plan.Refuse r) = answered (push_answer.Refused r) s
carried s bytes plan.Silent = answered push_answer.Nothing s
carried s bytes (plan.Conflict i) = answered (push_answer.Refused Conflict) (store (risen_sets s.sets) (touched (s.sets.clock + 1) i s.heads) s.slots s.cells)
carried s bytes (plan.Repeat i) = settled s i
carried s bytes (plan.Keep k) = settled (kept_in s bytes k) k.room.row
