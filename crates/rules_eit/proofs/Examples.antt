-- The EIT collector at work, by the rules: runs that the definitions compute.
-- Assumes nothing.
use mathlib.Core.Path.{◌≡◌, refl}
use mathlib.Core.Bool.{true}
use mathlib.Core.Option.{none, some}
use mathlib.Core.List.{List, [], ◌∷◌, map}
use Prim.Native.Nat.{ℕ}
use lib.ListN.{get_elem?, replicate}
use Rattle.answers.specs.declared.Refusal.TheVariants as refusal
use Rattle.rules_shared.specs.Same.{Bytes, same_bytes, same_origin}
use Rattle.rules_shared.specs.Slots.{is_held, present}
use Rattle.rules_shared.specs.Touch.{Entry, oldest_gone, room, leaves, count, retain, find, remove, others, evicts, untouched, aside, newest, touch, emptied, retained}
use Rattle.rules_shared.specs.Row.{fresh, fits, start, slot_of, keep, marked, put_over, put}
use Rattle.laws.specs.Runs.{answers, store_after}
use Rattle.rules_eit.specs.Keys.{Kind, present_actual, present_other, schedule_actual, schedule_other, between, kind_of, first_of, kind_number, same_kind, ScheduleKey, SetKey, same_schedule, same_set, Filter, any_pid, exactly_none, exactly, no_pid, bad_pid, bad_input, bad_filter, pid_passes, passes, from_passes, matches}
use Rattle.rules_eit.specs.Segments.{segment_end, SetOf, held_from, segment_full, segments_full, complete}
use Rattle.rules_eit.specs.Schedules.{ScheduleOf, copy_of, whole, copied, refill, begin, enter, all_tables, wholes, guide}
use Rattle.rules_eit.specs.Rules.{refused, schedule_of, key_of, part_of, Call, clear, drop, refuse, offer, Whole, Answer, nothing, handout, schedule, number_of, met_row, set_aside, set_newest, schedule_touched, told, ranged, ready, judged, judge, cleared, dropped, Eit, finish, push, admit, offered, dropping, step, tells, acts, opened}

-- ---- docs/RULES.md, "Examples": segment ends; and the kinds at their borders

pub segment_ends : segment_end 8 11 20 ∷ segment_end 8 3 20 ∷ segment_end 16 23 17 ∷ segment_end 248 255 255 ∷ [] ≡ 11 ∷ 11 ∷ 17 ∷ 255 ∷ []
unfolding segment_end
segment_ends = refl

kinds : map kind_of (0x4d ∷ 0x4e ∷ 0x4f ∷ 0x50 ∷ 0x5f ∷ 0x60 ∷ 0x6f ∷ 0x70 ∷ [])
    ≡ none ∷ some present_actual ∷ some present_other ∷ some schedule_actual ∷ some schedule_actual ∷ some schedule_other ∷ some schedule_other ∷ none ∷ []
unfolding kind_of between
kinds = refl

-- ---- sections of service s: table t, version v, number n of last, segment last g, last_table_id z, 18 bytes b

unfoldable pub bytes_of : ℕ → Bytes
bytes_of b = replicate 18 b

unfoldable pub sect : (service table version number last segment_last last_table byte : ℕ) → Call
unfolding bytes_of
sect s t v n last g z b = offer (record {
  from = record { input = 0; pid = 18 };
  table_id_of = t;
  service_id = s;
  transport_stream_id = 1;
  original_network_id = 1;
  current_next_of = true;
  version = v;
  number = n;
  last = last;
  segment_last = g;
  last_table = z;
  bytes = bytes_of b;
})

-- a table of one section
unfoldable pub one : (service table version last_table byte : ℕ) → Call
one s t v z b = sect s t v 0 0 0 z b

unfoldable pub key_of_lem : ℕ → Kind → ScheduleKey
key_of_lem s k = record { from = record { input = 0; pid = 18 }; kind = k; service_id = s; transport_stream_id = 1; original_network_id = 1; current_next_of = true }

unfoldable pub set_of : (service : ℕ) → Kind → (table version last : ℕ) → List ℕ → Whole
unfolding key_of_lem bytes_of
set_of s k t v last bs = record { key = record { schedule = key_of_lem s k; table_id_of = t }; version = v; last = last; sections = map bytes_of bs }

unfoldable pub guide_of : (service : ℕ) → Kind → (last_table : ℕ) → List Whole → Answer
unfolding key_of_lem
guide_of s k z ws = schedule (record { key = key_of_lem s k; last_table = z; tables = ws })

-- ---- runs, with every definition open

unfoldable pub gives : (limit : ℕ) → List Call → List Answer
unfolding sect one set_of guide_of same_bytes same_origin is_held present oldest_gone room leaves count retain find remove others evicts untouched aside newest touch emptied retained fresh fits start slot_of keep marked put_over put between kind_of first_of kind_number same_kind same_schedule same_set no_pid bad_pid bad_input bad_filter pid_passes passes from_passes matches segment_end held_from segment_full segments_full complete copy_of whole copied refill begin enter all_tables wholes guide schedule_of key_of part_of number_of met_row set_aside set_newest schedule_touched told ranged ready judged judge cleared dropped finish push admit offered dropping step tells acts answers
gives limit calls = answers (tells (record { limit = limit; cell_size = 20 })) (acts (record { limit = limit; cell_size = 20 })) opened calls

leaves_behind : (limit : ℕ) → List Call → Eit
unfolding gives store_after
leaves_behind limit calls = store_after (acts (record { limit = limit; cell_size = 20 })) opened calls

services : Eit → List ℕ
services e = map (λ (r : Entry SetKey (SetOf Bytes)). r.key.schedule.service_id) e.sets.rows

schedule_services : Eit → List ℕ
schedule_services e = map (λ (r : Entry ScheduleKey (ScheduleOf Bytes)). r.key.service_id) e.schedules.rows

-- ---- present/following

-- section 0 of 2 with segment last 0 goes out alone, then again with both; the repeat is ignored, other bytes conflict
alone : gives 4 (sect 1 0x4e 0 0 1 0 0x4e 7 ∷ sect 1 0x4e 0 1 1 1 0x4e 8 ∷ sect 1 0x4e 0 1 1 1 0x4e 8 ∷ sect 1 0x4e 0 1 1 1 0x4e 9 ∷ [])
    ≡ handout (set_of 1 present_actual 0x4e 0 1 (7 ∷ [])) ∷ handout (set_of 1 present_actual 0x4e 0 1 (7 ∷ 8 ∷ [])) ∷ nothing ∷ (refused refusal.Conflict) ∷ []
unfolding gives
alone = refl

-- the latest kept segment number wins, up or down: section 1 says that the segment ends at 2, and the set is complete no more
changed_segment : gives 4 (sect 1 0x4f 0 0 2 0 0x4f 7 ∷ sect 1 0x4f 0 1 2 2 0x4f 8 ∷ sect 1 0x4f 0 2 2 2 0x4f 9 ∷ [])
    ≡ handout (set_of 1 present_other 0x4f 0 2 (7 ∷ [])) ∷ nothing ∷ handout (set_of 1 present_other 0x4f 0 2 (7 ∷ 8 ∷ 9 ∷ [])) ∷ []
unfolding gives
changed_segment = refl

-- a new version forgets the segment numbers: section 0 alone, of segment last 1, is not complete
new_version : gives 4 (sect 1 0x4e 0 0 1 0 0x4e 7 ∷ sect 1 0x4e 1 0 1 1 0x4e 7 ∷ sect 1 0x4e 1 1 1 1 0x4e 8 ∷ [])
    ≡ handout (set_of 1 present_actual 0x4e 0 1 (7 ∷ [])) ∷ nothing ∷ handout (set_of 1 present_actual 0x4e 1 1 (7 ∷ 8 ∷ [])) ∷ []
unfolding gives
new_version = refl

-- two segments: the second has one section only, number 8 of 9. Slots past the segment's end go out too
sparse : gives 4 (sect 1 0x4e 0 8 9 8 0x4e 6 ∷ sect 1 0x4e 0 0 9 1 0x4e 7 ∷ sect 1 0x4e 0 3 9 1 0x4e 5 ∷ sect 1 0x4e 0 1 9 1 0x4e 8 ∷ [])
    ≡ nothing ∷ nothing ∷ nothing ∷ handout (set_of 1 present_actual 0x4e 0 9 (7 ∷ 8 ∷ 5 ∷ 6 ∷ [])) ∷ []
unfolding gives
sparse = refl

-- not an EIT; a section that its bytes refuse; longer than a cell; limit 0, looked at after 20; a filter with a PID that there is none of
refusals : map number_of (gives 0 (one 1 0x42 0 0x42 7 ∷ refuse refusal.BadCrc refl ∷ one 1 0x4e 0 0x4e 7 ∷ drop (record { pid = exactly 8192; kind = none; service_id = none; transport_stream_id = none; original_network_id = none; current_next_of = none; input = none }) ∷ []))
    ≡ 18 ∷ 17 ∷ 4 ∷ 12 ∷ []
unfolding gives
refusals = refl

-- limit 2, keys A, B, A, C: the collector loses B, and counts it; a clear keeps the count. A conflict makes the key newest too
calls_ABAC : ℕ → List Call
calls_ABAC again = one 1 0x4e 0 0 7 ∷ one 2 0x4e 0 0 7 ∷ one 1 0x4e 0 0 again ∷ one 3 0x4e 0 0 7 ∷ []

loses_B : services (leaves_behind 2 (calls_ABAC 7)) ≡ 1 ∷ 3 ∷ []
unfolding calls_ABAC leaves_behind services
loses_B = refl

conflict_touches : services (leaves_behind 2 (calls_ABAC 8)) ≡ 1 ∷ 3 ∷ []
unfolding calls_ABAC leaves_behind services
conflict_touches = refl

clear_counts : leaves_behind 1 (one 1 0x50 0 0x50 7 ∷ one 2 0x50 0 0x50 7 ∷ clear ∷ []) ≡ record { sets = record { rows = []; evicted = 1 }; schedules = record { rows = []; evicted = 1 } }
unfolding leaves_behind
clear_counts = refl

-- ---- schedules

-- two tables; then nothing is new
both_tables : gives 4 (one 1 0x51 0 0x51 7 ∷ one 1 0x50 0 0x51 6 ∷ one 1 0x50 0 0x51 6 ∷ [])
    ≡ nothing ∷ guide_of 1 schedule_actual 0x51 (set_of 1 schedule_actual 0x50 0 0 (6 ∷ []) ∷ set_of 1 schedule_actual 0x51 0 0 (7 ∷ []) ∷ []) ∷ nothing ∷ []
unfolding gives
both_tables = refl

-- 01: last_table_id 0x60 on kind schedule actual never goes out, even with all 16 tables; with 0x5f they do
all_16 : ℕ → List Call
all_16 z = one 1 0x50 0 z 7 ∷ one 1 0x51 0 z 7 ∷ one 1 0x52 0 z 7 ∷ one 1 0x53 0 z 7 ∷ one 1 0x54 0 z 7 ∷ one 1 0x55 0 z 7 ∷ one 1 0x56 0 z 7 ∷ one 1 0x57 0 z 7
    ∷ one 1 0x58 0 z 7 ∷ one 1 0x59 0 z 7 ∷ one 1 0x5a 0 z 7 ∷ one 1 0x5b 0 z 7 ∷ one 1 0x5c 0 z 7 ∷ one 1 0x5d 0 z 7 ∷ one 1 0x5e 0 z 7 ∷ one 1 0x5f 0 z 7 ∷ []

past_the_kind : get_elem? (map number_of (gives 16 (all_16 0x60))) 15 ≡ some 4
unfolding gives all_16
past_the_kind = refl

all_of_the_kind : get_elem? (map number_of (gives 16 (all_16 0x5f))) 15 ≡ some 6
unfolding gives all_16
all_of_the_kind = refl

-- last_table_id below the kind's first: 23, again at the repeat
below_the_kind : map number_of (gives 4 (one 1 0x60 0 0x5f 7 ∷ one 1 0x60 0 0x5f 7 ∷ [])) ≡ 23 ∷ 23 ∷ []
unfolding gives
below_the_kind = refl

-- a 23 leaves the set complete and not marked: the same section answers 23 again; another held section of the set, with a good last_table_id, lets it out
after_23 : map number_of (gives 4 (sect 1 0x51 0 0 1 1 0x51 7 ∷ sect 1 0x51 0 1 1 1 0x50 8 ∷ sect 1 0x51 0 1 1 1 0x50 8 ∷ one 1 0x50 0 0x51 6 ∷ sect 1 0x51 0 0 1 1 0x51 7 ∷ sect 1 0x51 0 1 1 1 0x50 8 ∷ []))
    ≡ 4 ∷ 23 ∷ 23 ∷ 4 ∷ 6 ∷ 4 ∷ []
unfolding gives
after_23 = refl

-- a changed last_table_id: the row is refilled with 0x51, which is complete and marked; 0x52 is then the last one missing
refills_marked : gives 4 (one 1 0x51 0 0x51 7 ∷ one 1 0x50 0 0x52 6 ∷ one 1 0x52 0 0x52 5 ∷ [])
    ≡ nothing ∷ nothing
    ∷ guide_of 1 schedule_actual 0x52 (set_of 1 schedule_actual 0x50 0 0 (6 ∷ []) ∷ set_of 1 schedule_actual 0x51 0 0 (7 ∷ []) ∷ set_of 1 schedule_actual 0x52 0 0 (5 ∷ []) ∷ []) ∷ []
unfolding gives
refills_marked = refl

-- and with 0x51 when it is complete and not marked, after a 23. It stays so, and can go in again
refills_unmarked : map number_of (gives 4 (one 1 0x50 0 0x50 6 ∷ one 1 0x51 0 0x50 7 ∷ one 1 0x50 1 0x51 5 ∷ one 1 0x51 0 0x51 7 ∷ one 1 0x51 0 0x51 7 ∷ [])) ≡ 6 ∷ 23 ∷ 6 ∷ 6 ∷ 4 ∷ []
unfolding gives
refills_unmarked = refl

-- the refill is inside the new range only: from 0x52 to 0x50 it is 0x50 alone
shrinks : gives 4 (one 1 0x51 0 0x52 7 ∷ one 1 0x50 0 0x50 6 ∷ []) ≡ nothing ∷ guide_of 1 schedule_actual 0x50 (set_of 1 schedule_actual 0x50 0 0 (6 ∷ []) ∷ []) ∷ []
unfolding gives
shrinks = refl

-- while 0x51's next version is being collected, the schedule shows the old one
shows_old : gives 4 (one 1 0x50 0 0x51 6 ∷ one 1 0x51 0 0x51 7 ∷ sect 1 0x51 1 0 1 1 0x51 8 ∷ one 1 0x50 1 0x51 5 ∷ [])
    ≡ nothing ∷ guide_of 1 schedule_actual 0x51 (set_of 1 schedule_actual 0x50 0 0 (6 ∷ []) ∷ set_of 1 schedule_actual 0x51 0 0 (7 ∷ []) ∷ []) ∷ nothing
    ∷ guide_of 1 schedule_actual 0x51 (set_of 1 schedule_actual 0x50 1 0 (5 ∷ []) ∷ set_of 1 schedule_actual 0x51 0 0 (7 ∷ []) ∷ []) ∷ []
unfolding gives
shows_old = refl

-- at limit 2, 0x52 drives 0x51's set out, but the schedule keeps its copy and goes out; a changed last_table_id then misses it
keeps_copy : map number_of (gives 2 (one 1 0x51 0 0x52 7 ∷ one 1 0x50 0 0x52 6 ∷ one 1 0x52 0 0x52 5 ∷ one 1 0x50 1 0x51 4 ∷ [])) ≡ 4 ∷ 4 ∷ 6 ∷ 4 ∷ []
unfolding gives
keeps_copy = refl

-- a schedule that was evicted is begun anew and not refilled, though 0x50's set is held: with a refill the last call would answer 6
renewed : List Call
renewed = one 1 0x50 0 0x51 6 ∷ one 2 0x50 0 0x50 5 ∷ one 1 0x50 0 0x51 6 ∷ one 3 0x50 0 0x50 5 ∷ one 1 0x50 0 0x51 6 ∷ one 1 0x51 0 0x51 7 ∷ []

not_refilled : map number_of (gives 2 renewed) ≡ 4 ∷ 6 ∷ 4 ∷ 6 ∷ 4 ∷ 4 ∷ []
unfolding gives renewed
not_refilled = refl

still_held : services (leaves_behind 2 renewed) ≡ 1 ∷ 1 ∷ []
unfolding leaves_behind renewed services
still_held = refl

-- schedules have an order and a count of their own
counts_schedules : (leaves_behind 2 renewed).schedules.evicted ≡ 2
unfolding leaves_behind renewed
counts_schedules = refl

-- ---- drops

unfoldable pub free : Filter
free = record { pid = any_pid; kind = none; service_id = none; transport_stream_id = none; original_network_id = none; current_next_of = none; input = none }

-- everything; what has no PID, which is refused; service 2
drop_all : leaves_behind 4 (one 1 0x50 0 0x50 7 ∷ drop free ∷ []) ≡ opened
unfolding leaves_behind free
drop_all = refl

-- an input that there is none of is looked at after that
without : Filter
without = record { pid = exactly_none; kind = none; service_id = none; transport_stream_id = none; original_network_id = none; current_next_of = none; input = some 16 }

drop_none : services (leaves_behind 4 (one 1 0x50 0 0x50 7 ∷ one 2 0x50 0 0x50 7 ∷ drop without ∷ [])) ≡ 1 ∷ 2 ∷ []
unfolding leaves_behind services without
drop_none = refl

drop_none_refused : map number_of (gives 4 (one 1 0x50 0 0x50 7 ∷ drop without ∷ refuse refusal.NoPid refl ∷ [])) ≡ 6 ∷ 41 ∷ 41 ∷ []
unfolding gives without
drop_none_refused = refl

one_service : List Call
one_service = one 1 0x50 0 0x50 7 ∷ one 2 0x50 0 0x50 7 ∷ one 2 0x4e 0 0 7
    ∷ drop (record { pid = exactly 18; kind = some schedule_actual; service_id = some 2; transport_stream_id = none; original_network_id = some 1; current_next_of = some true; input = none }) ∷ []

drop_service : services (leaves_behind 4 one_service) ≡ 1 ∷ 2 ∷ []
unfolding leaves_behind one_service services
drop_service = refl

drop_schedule : schedule_services (leaves_behind 4 one_service) ≡ 1 ∷ []
unfolding leaves_behind one_service schedule_services
drop_schedule = refl

drop_counts : (leaves_behind 4 one_service).sets.evicted ≡ 0
unfolding leaves_behind one_service
drop_counts = refl
