-- The EIT collector with cells at work: runs that the definitions compute.
-- Assumes nothing.
use mathlib.Core.Path.{◌≡◌, refl}
use mathlib.Core.Bool.{true}
use mathlib.Core.Option.{none}
use mathlib.Core.List.{List, [], ◌∷◌, map}
use Prim.Native.Nat.{ℕ}
use lib.ListN.{replicate}
use Rattle.answers.specs.declared.Refusal.TheVariants as refusal
use Rattle.rules_shared.specs.Slots.{some_held, every_held, on_slots}
use Rattle.rules_shared.specs.Touch.{count, some_row, every_row, seen_as, untouched, on_order}
use Rattle.rules_shared.specs.Row.{on_row}
use Rattle.rules_shared.specs.Cells.{bytes_of, names, lowest, write, place_new, place_held, place, room_whole, held_whole, at_end}
use Rattle.laws.specs.Runs.{answers}
use Rattle.rules_eit.specs.Keys.{present_actual, schedule_actual}
use Rattle.rules_eit.specs.Rules.{refused, Call, drop, offer, Answer, nothing, handout, number_of}
use Rattle.rules_eit.specs.Cells.{Store, on_copy, on_schedule, on_eit, on_whole, on_guide, on_answer, set_takes, copy_takes, schedule_takes, taken, store_whole, any_at_end, ended, shows, rest, room_for, place_of, carry, push_in, admit_in, offer_in, drop_in, good, guarded, call, call_tells, call_acts}
use Rattle.rules_eit.proofs.Examples.{one, set_of, guide_of, gives, free}

-- a store as it is opened: so many keys, so many cells of 20 bytes
store : (limit count : ℕ) → Store
unfolding untouched
store keys n = record { settings = record { limit = keys; cell_size = 20 }; eit = record { sets = untouched; schedules = untouched }; cells = replicate n (replicate 20 0); clock = 0 }

replies : Store → List Call → List Answer
unfolding gives store some_held every_held on_slots some_row every_row seen_as on_order on_row bytes_of names lowest write place_new place_held place room_whole held_whole at_end on_copy on_schedule on_eit on_whole on_guide on_answer set_takes copy_takes schedule_takes taken store_whole any_at_end ended shows rest room_for place_of carry push_in admit_in offer_in drop_in good guarded call call_tells call_acts
replies s calls = answers call_tells call_acts s calls

-- one key: the second set drives the first out, but the schedule shows the first's cell, so it is not free. With two cells the third takes the second's
two_cells : replies (store 1 2) (one 1 0x50 0 0x51 7 ∷ one 2 0x4e 0 0 9 ∷ one 1 0x51 0 0x51 8 ∷ [])
    ≡ nothing ∷ handout (set_of 2 present_actual 0x4e 0 0 (9 ∷ []))
    ∷ guide_of 1 schedule_actual 0x51 (set_of 1 schedule_actual 0x50 0 0 (7 ∷ []) ∷ set_of 1 schedule_actual 0x51 0 0 (8 ∷ []) ∷ []) ∷ []
unfolding replies
two_cells = refl

-- with one cell the second set finds none (21), and the first stays
one_cell : replies (store 1 1) (one 1 0x50 0 0x51 7 ∷ one 2 0x4e 0 0 9 ∷ one 1 0x50 0 0x51 7 ∷ one 1 0x50 0 0x51 6 ∷ []) ≡ nothing ∷ (refused refusal.NoCell) ∷ nothing ∷ (refused refusal.Conflict) ∷ []
unfolding replies
one_cell = refl

-- 20 comes after 18; the schedule's cell is free once the schedule is dropped
long_and_dropped : map number_of (replies (store 1 1) (offer (record { from = record { input = 0; pid = 18 }; table_id_of = 0x4e; service_id = 1; transport_stream_id = 1; original_network_id = 1; current_next_of = true; version = 0; number = 0; last = 0; segment_last = 0; last_table = 0; bytes = replicate 21 1 })
    ∷ one 1 0x50 0 0x51 7 ∷ one 2 0x4e 0 0 9 ∷ drop free ∷ one 2 0x4e 0 0 9 ∷ [])) ≡ 20 ∷ 4 ∷ 21 ∷ 7 ∷ 5 ∷ []
unfolding replies free
long_and_dropped = refl
