-- The set collector at work, by the rules and with cells: runs that the definitions compute.
-- Assumes nothing.
use mathlib.Core.Path.{◌≡◌, refl}
use mathlib.Core.Bool.{Bool, true, false}
use mathlib.Core.List.{List, [], ◌∷◌, map}
use Prim.Native.Nat.{ℕ}
use native.Mathlib.Omega.{arith}
use lib.ListN.{replicate}
use Rattle.laws.proofs.Facts.{any_of, not_among}
use Rattle.answers.specs.declared.Refusal.TheVariants.{Malformed, BadCrc}
use Rattle.rules_shared.specs.Same.{Bytes, same_bytes, same_origin}
use Rattle.rules_shared.specs.Slots.{is_held, present, some_held, every_held, on_slots}
use Rattle.rules_shared.specs.Touch.{Entry, oldest_gone, room, leaves, count, some_row, every_row, seen_as, find, remove, others, evicts, untouched, aside, newest, touch, emptied, on_order}
use Rattle.rules_shared.specs.Row.{fresh, fits, start, slot_of, keep, marked, on_row, put_over, put}
use Rattle.rules_shared.specs.Cells.{bytes_of, names, lowest, write, place_new, place_held, place, room_whole, held_whole, at_end}
use Rattle.laws.specs.Runs.{answers, store_after, GivenBy}
use Rattle.rules_sets.specs.Rules.{Key, same_key, SetRow, Sets, part_of, Call, clear, refuse, offer, Whole, Answer, cleared, nothing, handout, conflict, no_cell, number_of, full, whole, met_row, judged, judge, finish, push, admit, step, tells, acts, opened}
use Rattle.rules_sets.specs.Cells.{Store, on_sets, on_whole, on_answer, view, takes, taken, store_whole, ended, shows, rest, room_for, place_of, carry, push_in, admit_in, good, guarded, call, call_tells, call_acts}

-- ---- sections of 12 bytes alike

unfoldable pub twelve : ℕ → Bytes
twelve b = replicate 12 b

unfoldable pub key : ℕ → Key
key t = record { from = record { input = 0; pid = 18 }; table_id_of = t; extension = 1; current_next_of = true }

-- section n of last of table t, version v
unfoldable pub sect : (table version last number byte : ℕ) → Call
unfolding twelve key
sect t v last n b = offer (record { key = key t; version = v; number = n; last = last; bytes = twelve b })

unfoldable pub set_of : (table version last : ℕ) → List ℕ → Whole
unfolding twelve key
set_of t v last bs = record { key = key t; version = v; last = last; sections = map twelve bs }

-- ---- runs, with every definition open

unfoldable pub by_rules_lem : (limit : ℕ) → List Call → List Answer
unfolding sect set_of same_bytes same_origin is_held present oldest_gone room leaves count find remove others evicts untouched aside newest touch emptied fresh fits start slot_of keep marked put_over put same_key part_of full whole met_row judged judge finish push admit step tells acts answers
by_rules_lem limit calls = answers (tells (record { limit = limit; cell_size = 16 })) (acts (record { limit = limit; cell_size = 16 })) opened calls

unfoldable pub after_rules : (limit : ℕ) → List Call → Sets
unfolding by_rules_lem store_after
after_rules limit calls = store_after (acts (record { limit = limit; cell_size = 16 })) opened calls

-- a store as it is opened: so many keys, so many cells of so many bytes
unfoldable pub store : (limit size count : ℕ) → Store
unfolding untouched
store limit size n = record { settings = record { limit = limit; cell_size = size }; sets = untouched; cells = replicate n (replicate size 0); clock = 0 }

unfoldable pub replies : Store → List Call → List Answer
unfolding by_rules_lem store some_held every_held on_slots some_row every_row seen_as on_order on_row bytes_of names lowest write place_new place_held place room_whole held_whole at_end on_sets on_whole on_answer view takes taken store_whole ended shows rest room_for place_of carry push_in admit_in good guarded call call_tells call_acts
replies s calls = answers call_tells call_acts s calls

-- ---- the rules

-- docs/RULES.md, "Examples": limit 2, keys A, B, A, C: the collector loses B, and counts one eviction; a clear keeps the count
unfoldable pub calls_ABAC : List Call
calls_ABAC = sect 1 0 1 0 7 ∷ sect 2 0 1 0 7 ∷ sect 1 0 1 0 7 ∷ sect 3 0 1 0 7 ∷ []

pub loses_B : map (λ (e : Entry Key SetRow). e.key) (after_rules 2 calls_ABAC).rows ≡ key 1 ∷ key 3 ∷ []
unfolding calls_ABAC after_rules
loses_B = refl

counts_B : (after_rules 2 calls_ABAC).evicted ≡ 1
unfolding calls_ABAC after_rules
counts_B = refl

clear_counts : after_rules 1 (sect 1 0 1 0 7 ∷ sect 2 0 1 0 7 ∷ clear ∷ []) ≡ record { rows = []; evicted = 1 }
unfolding after_rules
clear_counts = refl

-- a refusal by the section's bytes; 20; then limit 0, looked at after 20
refusals : map number_of (by_rules_lem 0 (refuse BadCrc ∷ offer (record { key = key 1; version = 0; number = 0; last = 0; bytes = replicate 17 1 }) ∷ sect 1 0 0 0 7 ∷ clear ∷ [])) ≡ 17 ∷ 20 ∷ 4 ∷ 7 ∷ []
unfolding by_rules_lem number_of
refusals = refl

-- in section order, whatever the order of arrival; a repeat is ignored, other bytes conflict, a new version empties the row and goes out on its own
order : by_rules_lem 4 (sect 1 0 1 1 8 ∷ sect 1 0 1 0 7 ∷ sect 1 0 1 0 7 ∷ sect 1 0 1 0 6 ∷ sect 1 1 0 0 5 ∷ [])
    ≡ nothing ∷ handout (set_of 1 0 1 (7 ∷ 8 ∷ [])) ∷ nothing ∷ conflict ∷ handout (set_of 1 1 0 (5 ∷ [])) ∷ []
unfolding by_rules_lem
order = refl

-- a set that was evicted and is collected again goes out again
again : by_rules_lem 1 (sect 1 0 0 0 7 ∷ sect 2 0 0 0 9 ∷ sect 1 0 0 0 7 ∷ []) ≡ handout (set_of 1 0 0 (7 ∷ [])) ∷ handout (set_of 2 0 0 (9 ∷ [])) ∷ handout (set_of 1 0 0 (7 ∷ [])) ∷ []
unfolding by_rules_lem
again = refl

-- the inputs of a card share the rows: at limit 1 a set on input 1 drives the one on input 0 out, which goes out anew when it comes again
unfoldable pub sect_on : (input : ℕ) → Call
unfolding twelve
sect_on i = offer (record { key = record { from = record { input = i; pid = 18 }; table_id_of = 1; extension = 1; current_next_of = true }; version = 0; number = 0; last = 0; bytes = twelve 7 })

pub neighbour_evicts : map number_of (by_rules_lem 1 (sect_on 0 ∷ sect_on 1 ∷ sect_on 0 ∷ [])) ≡ 5 ∷ 5 ∷ 5 ∷ []
unfolding by_rules_lem number_of sect_on
neighbour_evicts = refl

pub neighbour_counted : (after_rules 1 (sect_on 0 ∷ sect_on 1 ∷ sect_on 0 ∷ [])).evicted ≡ 2
unfolding after_rules sect_on
neighbour_counted = refl

-- ---- demand 3 is not empty: A of two sections and B of one. At limit 1 B drives A out, so A goes out one call later than at limit 2

calls_later : List Call
calls_later = sect 1 0 1 0 7 ∷ sect 2 0 0 0 9 ∷ sect 1 0 1 1 8 ∷ sect 1 0 1 0 7 ∷ []

later_1 : by_rules_lem 1 calls_later ≡ nothing ∷ handout (set_of 2 0 0 (9 ∷ [])) ∷ nothing ∷ handout (set_of 1 0 1 (7 ∷ 8 ∷ [])) ∷ []
unfolding calls_later by_rules_lem
later_1 = refl

later_2 : by_rules_lem 2 calls_later ≡ nothing ∷ handout (set_of 2 0 0 (9 ∷ [])) ∷ handout (set_of 1 0 1 (7 ∷ 8 ∷ [])) ∷ nothing ∷ []
unfolding calls_later by_rules_lem
later_2 = refl

-- the same with cells
later_1_cells : replies (store 1 16 2) calls_later ≡ by_rules_lem 1 calls_later
unfolding calls_later replies
later_1_cells = refl

later_2_cells : replies (store 2 16 3) calls_later ≡ by_rules_lem 2 calls_later
unfolding calls_later replies
later_2_cells = refl

-- so at call 3 of the smaller the larger's set of call 2 is the witness
is_clear : Call → Bool
is_clear clear = true
is_clear (refuse n) = false
is_clear (offer x) = false

earlier_witness : GivenBy clear handout (replies (store 2 16 3) calls_later) calls_later 3 (set_of 1 0 1 (7 ∷ 8 ∷ []))
unfolding calls_later replies is_clear any_of
earlier_witness = record { at = 2; early = omega arith; given = refl; since = λ t p q. not_among is_clear clear refl calls_later refl t }

-- after a clear both hand the set out anew
calls_clear : List Call
calls_clear = sect 1 0 0 0 7 ∷ clear ∷ sect 1 0 0 0 7 ∷ []

clear_between : replies (store 2 16 1) calls_clear ≡ handout (set_of 1 0 0 (7 ∷ [])) ∷ cleared ∷ handout (set_of 1 0 0 (7 ∷ [])) ∷ []
unfolding calls_clear replies
clear_between = refl

-- ---- cells

-- one key, one cell: A's second section finds no cell (21); B takes the cell of A, which leaves, and goes out; so does B's next version
tight : replies (store 1 16 1) (sect 1 0 1 0 7 ∷ sect 1 0 1 1 8 ∷ sect 2 0 0 0 9 ∷ sect 2 0 0 0 9 ∷ sect 2 1 0 0 5 ∷ sect 2 1 0 0 6 ∷ clear ∷ [])
    ≡ nothing ∷ no_cell ∷ handout (set_of 2 0 0 (9 ∷ [])) ∷ nothing ∷ handout (set_of 2 1 0 (5 ∷ [])) ∷ conflict ∷ cleared ∷ []
unfolding replies
tight = refl

-- no cell at all: the first section that would be kept answers 21
none_at_all : map number_of (replies (store 1 16 0) (refuse Malformed ∷ sect 1 0 1 0 7 ∷ [])) ≡ 14 ∷ 21 ∷ []
unfolding replies number_of
none_at_all = refl

-- settings that opening refuses
not_whole_lem : map number_of (replies (store 1 8 1) (refuse Malformed ∷ clear ∷ [])) ≡ 10 ∷ 10 ∷ []
unfolding replies number_of
not_whole_lem = refl
