-- The EIT collector with cells (docs/RULES.md, "Cells"): a slot, of a set or of a schedule's copy, names the cell that holds a section's bytes, and how many they
-- are. 10, 11 and 21 come in here.
-- Assumes nothing.
use Rattle.std.specs.Prelude.{Bool, true, false, ◌&&◌, ◌||◌, map, ℕ, zero, suc, leb, length}
use Rattle.std.proofs.Math.Option.{Option, none, some}
use Rattle.answers.specs.declared.Refusal.{Refusal}
use Rattle.answers.specs.declared.Refusal.TheVariants as refusal
use Rattle.rules_shared.specs.Slots.{some_held, every_held, on_slots}
use Rattle.rules_shared.specs.Touch.{some_row, every_row, on_order}
use Rattle.rules_shared.specs.Row.{slot_of, keep, on_row}
use Rattle.rules_shared.specs.Cells.{Settings, Held, Cells, bytes_of, names, write, Place, into, none_free, ignored, conflicting, place, held_in, room_whole, held_whole, at_end}
use Rattle.rules_eit.specs.Keys.{Kind, kind_of, SetKey, Filter, bad_filter}
use Rattle.rules_eit.specs.Segments.{SetOf}
use Rattle.rules_eit.specs.Schedules.{CopyOf, ScheduleOf, WholeOf, GuideOf}
use Rattle.rules_eit.specs.Rules.{EitOf, Section, key_of, part_of, Call, clear, drop, refuse, offer, AnswerOf, done, refused, nothing, handout, schedule, StepOf, gives, met_row, set_aside, set_newest, judge, cleared, dropped, Eit, Answer}

pub record Store : Type 0 where
  pub settings : Settings
  pub eit : EitOf Held
  pub cells : Cells
  -- how often a key was touched since opening
  pub clock : ℕ

-- once more
abbrev pub risen : Store → Store
risen s = record { settings = s.settings; eit = s.eit; cells = s.cells; clock = suc s.clock }

-- what a call answers and leaves
pub record Turn : Type 0 where
  pub answer : Answer
  pub store : Store

-- ---- what a store shows

module _ {A B : Type 0} (f : A → B) where
  unfoldable pub on_copy : CopyOf A → CopyOf B
  on_copy c = record { version = c.version; last = c.last; slots = on_slots f c.slots }

  unfoldable pub on_schedule : ScheduleOf A → ScheduleOf B
  on_schedule s = record { last_table = s.last_table; copies = on_slots on_copy s.copies }

  unfoldable pub on_eit : EitOf A → EitOf B
  on_eit e = record { sets = on_order (on_row f) e.sets; schedules = on_order on_schedule e.schedules }

  unfoldable pub on_whole : WholeOf A → WholeOf B
  on_whole w = record { key = w.key; version = w.version; last = w.last; sections = map f w.sections }

  unfoldable pub on_guide : GuideOf A → GuideOf B
  on_guide g = record { key = g.key; last_table = g.last_table; tables = map on_whole g.tables }

  unfoldable pub on_answer : AnswerOf A → AnswerOf B
  on_answer done = done
  on_answer nothing = nothing
  on_answer (handout w) = handout (on_whole w)
  on_answer (schedule g) = schedule (on_guide g)
  on_answer (refused r) = refused r

unfoldable pub view : Store → Eit
view s = on_eit (bytes_of s.cells) s.eit

-- ---- which cells are free

-- a slot of the set, of the copy, of one of the schedule's copies names the cell
unfoldable pub set_takes : (cell : ℕ) → SetOf Held → Bool
set_takes c r = some_held (names c) r.slots

unfoldable pub copy_takes : (cell : ℕ) → CopyOf Held → Bool
copy_takes c o = some_held (names c) o.slots

unfoldable pub schedule_takes : (cell : ℕ) → ScheduleOf Held → Bool
schedule_takes c s = some_held (copy_takes c) s.copies

-- "A cell is free exactly when no slot or schedule copy of a row in use names it": one of them names the cell
unfoldable pub taken : EitOf Held → (cell : ℕ) → Bool
taken e c = some_row (set_takes c) e.sets.rows || some_row (schedule_takes c) e.schedules.rows

-- ---- 10 and 11

-- 10: "settings that opening refuses, used count above room, in a row in use a cell number past the last or a kept length outside 12 to cell size"
unfoldable pub store_whole : Store → Bool
store_whole s =
    let ok : Held → Bool = held_whole s.settings s.cells in
    room_whole s.settings s.cells
    && (leb (length s.eit.sets.rows) s.settings.limit && (leb (length s.eit.schedules.rows) s.settings.limit
    && (every_row (λ (r : SetOf Held). every_held ok r.slots) s.eit.sets.rows
    && every_row (λ (g : ScheduleOf Held). every_held (λ (o : CopyOf Held). every_held ok o.slots) g.copies) s.eit.schedules.rows)))

-- 11: "a section is given and a counter of this part is at 2^64 − 1"
unfoldable pub any_at_end : Store → Bool
any_at_end s = at_end s.eit.sets.evicted || at_end s.clock || at_end s.eit.schedules.evicted

unfoldable pub ended : Store → Call → Bool
ended s clear = false
ended s (drop f) = false
ended s (refuse r b) = any_at_end s
ended s (offer x) = any_at_end s

-- ---- one call

-- the cells are `cells` now, and what is handed out is read from them
unfoldable pub shows : Store → Cells → StepOf Held → Turn
shows s cells t = record { answer = on_answer (bytes_of cells) t.answer; store = record { settings = s.settings; eit = t.eit; cells = cells; clock = s.clock } }

-- the rows beside the section's, once room was made for it
unfoldable pub rest : Store → SetKey → EitOf Held
rest s k = set_aside s.settings.limit k s.eit

-- "after the set eviction or row emptying it would cause": all rows, the section's emptied if need be, and without the section yet
unfoldable pub room_for : Store → Section → SetKey → EitOf Held
room_for s x k = set_newest k (met_row x k s.eit) (rest s k)

unfoldable pub place_of : Store → Section → SetKey → Place
place_of s x k = place s.cells (taken (room_for s x k)) x.bytes (slot_of (part_of x) (met_row x k s.eit))

-- "A section kept takes one cell", and only then a cell's bytes change; on 21 all is as before
unfoldable pub carry : Store → Section → SetKey → Place → Turn
carry s x k (into c) =
    shows (risen s) (write s.cells c x.bytes) (judge s.settings.limit (rest s k) k x.last_table (keep (part_of x) (held_in c x.bytes) (met_row x k s.eit)))
carry s x k none_free = record { answer = (refused refusal.NoCell); store = s }
carry s x k ignored = shows (risen s) s.cells (judge s.settings.limit (rest s k) k x.last_table (met_row x k s.eit))
carry s x k conflicting = shows (risen s) s.cells (gives (refused refusal.Conflict) (room_for s x k))

unfoldable pub push_in : (limit : ℕ) → Store → Section → SetKey → Turn
push_in zero s x k = shows s s.cells (gives nothing s.eit)
push_in (suc n) s x k = carry s x k (place_of s x k)

unfoldable pub admit_in : Store → Section → SetKey → (short : Bool) → Turn
admit_in s x k false = shows s s.cells (gives (refused refusal.TooLong) s.eit)
admit_in s x k true = push_in s.settings.limit s x k

unfoldable pub offer_in : Store → Section → Option Kind → Turn
offer_in s x none = shows s s.cells (gives (refused refusal.NotEit) s.eit)
offer_in s x (some kind) = admit_in s x (key_of x kind) (leb (length x.bytes) s.settings.cell_size)

unfoldable pub drop_in : Store → Filter → (bad : Option Refusal) → Turn
drop_in s f (some r) = shows s s.cells (gives (refused r) s.eit)
drop_in s f none = shows s s.cells (gives done (dropped f s.eit))

-- a call on a store that is whole, no counter at its end
unfoldable pub good : Store → Call → Turn
good s clear = shows s s.cells (gives done (cleared s.eit))
good s (drop f) = drop_in s f (bad_filter f)
good s (refuse r b) = shows s s.cells (gives (refused r) s.eit)
good s (offer x) = offer_in s x (kind_of x.table_id_of)

-- "Lower number first where several apply"
unfoldable pub guarded : (is_whole is_ended : Bool) → Store → Call → Turn
guarded false e s i = record { answer = (refused refusal.NotWhole); store = s }
guarded true true s i = record { answer = (refused refusal.CounterFull); store = s }
guarded true false s i = good s i

unfoldable pub call : Store → Call → Turn
call s i = guarded (store_whole s) (ended s i) s i

unfoldable pub call_tells : Store → Call → Answer
call_tells s i = (call s i).answer

unfoldable pub call_acts : Store → Call → Store
call_acts s i = (call s i).store
