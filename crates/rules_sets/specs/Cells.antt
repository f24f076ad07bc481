-- The set collector with cells (docs/RULES.md, "Cells"): a slot names the cell that holds a section's bytes, and how many they are. 10, 11 and 21 come in here.
-- Assumes nothing.
use Rattle.std.specs.Prelude.{Bool, true, false, ◌&&◌, ◌||◌, map, ℕ, zero, suc, leb, length}
use Rattle.answers.specs.declared.Refusal.TheVariants.{TooLong}
use Rattle.rules_shared.specs.Slots.{some_held, every_held}
use Rattle.rules_shared.specs.Touch.{some_row, every_row, aside, newest, emptied, on_order}
use Rattle.rules_shared.specs.Row.{slot_of, keep, on_row}
use Rattle.rules_shared.specs.Cells.{Settings, Held, Cells, bytes_of, names, write, Place, into, none_free, ignored, conflicting, place, held_in, room_whole, held_whole, at_end}
use Rattle.rules_sets.specs.Rules.{same_key, SetOf, SetsOf, Section, part_of, Call, clear, refuse, offer, WholeOf, AnswerOf, cleared, nothing, handout, refused, conflict, not_whole, counter_full, no_cell, StepOf, gives, met_row, judge, Sets, Answer}

pub record Store : Type 0 where
  pub settings : Settings
  pub sets : SetsOf Held
  pub cells : Cells
  -- how often a key was touched since opening
  pub clock : ℕ

-- once more
abbrev pub risen : Store → Store
risen s = record { settings = s.settings; sets = s.sets; cells = s.cells; clock = suc s.clock }

-- what a call answers and leaves
pub record Turn : Type 0 where
  pub answer : Answer
  pub store : Store

-- ---- what a store shows

module _ {A B : Type 0} (f : A → B) where
  unfoldable pub on_sets : SetsOf A → SetsOf B
  on_sets s = on_order (on_row f) s

  unfoldable pub on_whole : WholeOf A → WholeOf B
  on_whole w = record { key = w.key; version = w.version; last = w.last; sections = map f w.sections }

  unfoldable pub on_answer : AnswerOf A → AnswerOf B
  on_answer cleared = cleared
  on_answer nothing = nothing
  on_answer (handout w) = handout (on_whole w)
  on_answer (refused r) = refused r

unfoldable pub view : Store → Sets
view s = on_sets (bytes_of s.cells) s.sets

-- ---- which cells are free

-- a slot of the row names the cell
unfoldable pub takes : (cell : ℕ) → SetOf Held → Bool
takes c r = some_held (names c) r.slots

-- "A cell is free exactly when no slot .. of a row in use names it": a row in use names the cell
unfoldable pub taken : SetsOf Held → (cell : ℕ) → Bool
taken s c = some_row (takes c) s.rows

-- ---- 10 and 11

-- 10: "settings that opening refuses, used count above room, in a row in use a cell number past the last or a kept length outside 12 to cell size"
unfoldable pub store_whole : Store → Bool
store_whole s =
    room_whole s.settings s.cells && (leb (length s.sets.rows) s.settings.limit
    && every_row (λ (r : SetOf Held). every_held (held_whole s.settings s.cells) r.slots) s.sets.rows)

-- 11: "a section is given and a counter of this part is at 2^64 − 1"
unfoldable pub ended : Store → Call → Bool
ended s clear = false
ended s (refuse r) = at_end s.sets.evicted || at_end s.clock
ended s (offer x) = at_end s.sets.evicted || at_end s.clock

-- ---- one call

-- the cells are `cells` now, and what is handed out is read from them
unfoldable pub shows : Store → Cells → StepOf Held → Turn
shows s cells t = record { answer = on_answer (bytes_of cells) t.answer; store = record { settings = s.settings; sets = t.sets; cells = cells; clock = s.clock } }

-- the rows beside the section's, once room was made for it
unfoldable pub rest : Store → Section → SetsOf Held
rest s x = aside same_key s.settings.limit x.key s.sets

-- "after the set eviction or row emptying it would cause": all rows, the section's emptied if need be, and without the section yet
unfoldable pub room_for : Store → Section → SetsOf Held
room_for s x = newest x.key (met_row x s.sets) (rest s x)

unfoldable pub place_of : Store → Section → Place
place_of s x = place s.cells (taken (room_for s x)) x.bytes (slot_of (part_of x) (met_row x s.sets))

-- "A section kept takes one cell", and only then a cell's bytes change; on 21 all is as before
unfoldable pub carry : Store → Section → Place → Turn
carry s x (into c) = shows (risen s) (write s.cells c x.bytes) (judge (rest s x) x.key (keep (part_of x) (held_in c x.bytes) (met_row x s.sets)))
carry s x none_free = record { answer = no_cell; store = s }
carry s x ignored = shows (risen s) s.cells (judge (rest s x) x.key (met_row x s.sets))
carry s x conflicting = shows (risen s) s.cells (gives conflict (room_for s x))

unfoldable pub push_in : (limit : ℕ) → Store → Section → Turn
push_in zero s x = shows s s.cells (gives nothing s.sets)
push_in (suc n) s x = carry s x (place_of s x)

unfoldable pub admit_in : Store → Section → (short : Bool) → Turn
admit_in s x false = shows s s.cells (gives (refused TooLong) s.sets)
admit_in s x true = push_in s.settings.limit s x

-- a call on a store that is whole, no counter at its end
unfoldable pub good : Store → Call → Turn
good s clear = shows s s.cells (gives cleared (emptied s.sets))
good s (refuse r) = shows s s.cells (gives (refused r) s.sets)
good s (offer x) = admit_in s x (leb (length x.bytes) s.settings.cell_size)

-- "Lower number first where several apply"
unfoldable pub guarded : (is_whole is_ended : Bool) → Store → Call → Turn
guarded false e s i = record { answer = not_whole; store = s }
guarded true true s i = record { answer = counter_full; store = s }
guarded true false s i = good s i

unfoldable pub call : Store → Call → Turn
call s i = guarded (store_whole s) (ended s i) s i

unfoldable pub call_tells : Store → Call → Answer
call_tells s i = (call s i).answer

unfoldable pub call_acts : Store → Call → Store
call_acts s i = (call s i).store
