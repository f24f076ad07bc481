-- The touch order by ticks at work.
-- Assumes nothing.
use mathlib.Core.Path.{◌≡◌, refl, ◌∙◌}
use mathlib.Core.List.{List, [], ◌∷◌, ◌++◌}
use Prim.Native.Nat.{ℕ, ◌≤◌}
use native.Mathlib.Omega.{arith}
use lib.ListN.{length}
use Rattle.laws.specs.Lists.{first_from}
use Rattle.rules_shared.specs.Touch.{under, oldest_gone, room, leaves, count, retain, find, remove, others, evicts, untouched, aside, newest, touch, retained}
use Rattle.rows.specs.declared.Key.{Key}
use Rattle.rows.specs.declared.Entry.{Entry}
use Rattle.rows.specs.Rows.{same_origin, same_key, tick_of, touched, earlier_of, oldest_of, room_renewed, room_new}
use Rattle.ticks.specs.Order.{listed, at_tick, in_order}
use Rattle.ticks.specs.History.{opened, section, drops, acts_all, ruled, ruled_all, keys_seen}
use Rattle.ticks.proofs.History.{same_order}

-- three heads, touched at 5, 2 and 9
abbrev head : ℕ → List ℕ
head tick = 0 ∷ 0 ∷ 0 ∷ 0 ∷ 0 ∷ 0 ∷ 0 ∷ 0 ∷ 0 ∷ tick ∷ 0 ∷ 0 ∷ []

abbrev three : List ℕ
three = head 5 ++ head 2 ++ head 9

by_rising_tick : in_order (tick_of three) 3 9 (λ (i : ℕ). i) ≡ 1 ∷ 0 ∷ 2 ∷ []
unfolding first_from listed at_tick in_order
by_rising_tick = refl

-- row 1 is touched, at 10: one word changes
touched_last : in_order (tick_of (touched 10 1 three)) 3 10 (λ (i : ℕ). i) ≡ 0 ∷ 2 ∷ 1 ∷ []
unfolding first_from listed at_tick in_order touched
touched_last = refl

-- a new key at limit 3 takes row 1, the eighth to be removed; at limit 4 a further row
removes_row_1 : (room_new three 3 3 7 ≡ room_renewed 3 8 1) × (room_new three 4 3 7 ≡ room_renewed 4 7 3)
unfolding room_new oldest_of earlier_of
removes_row_1 = (refl, refl)

-- docs/RULES.md, "Examples": limit 2, keys A, B, A, C: the collector loses B. One eviction
abbrev key : ℕ → Key
key t = record { from = record { input = 0; pid = 18 }; table_id = t; extension = 1; current_next = 1; transport_stream_id = 0; original_network_id = 0 }

abbrev entry : ℕ → Entry
entry t = record { key = key t; version = 0; last = 0; number = 0 }

rules_lose_B : ruled_all 2 (section (entry 64) ∷ section (entry 66) ∷ section (entry 64) ∷ section (entry 70) ∷ []) untouched ≡ record { rows = under (key 64) tt ∷ under (key 70) tt ∷ []; evicted = 1 }
unfolding ruled_all ruled oldest_gone room leaves count find remove others evicts untouched aside newest touch same_origin same_key
rules_lose_B = refl

pub loses_B : (words : List ℕ) → 24 ≤ length words
    → keys_seen (acts_all 2 (section (entry 64) ∷ section (entry 66) ∷ section (entry 64) ∷ section (entry 70) ∷ []) (opened words)) ≡ record { rows = under (key 64) tt ∷ under (key 70) tt ∷ []; evicted = 1 }
loses_B words l = same_order 2 (omega arith) words l (section (entry 64) ∷ section (entry 66) ∷ section (entry 64) ∷ section (entry 70) ∷ []) ∙ rules_lose_B

-- limit 3, A, B, C, then B is dropped: C stands in its row and has its place behind A all the same
rules_drop_B : ruled_all 3 (section (entry 64) ∷ section (entry 66) ∷ section (entry 70) ∷ drops (key 66) ∷ []) untouched ≡ record { rows = under (key 64) tt ∷ under (key 70) tt ∷ []; evicted = 0 }
unfolding ruled_all ruled oldest_gone room leaves count retain find remove others evicts untouched aside newest touch retained same_origin same_key
rules_drop_B = refl

pub drops_B : (words : List ℕ) → 36 ≤ length words
    → keys_seen (acts_all 3 (section (entry 64) ∷ section (entry 66) ∷ section (entry 70) ∷ drops (key 66) ∷ []) (opened words)) ≡ record { rows = under (key 64) tt ∷ under (key 70) tt ∷ []; evicted = 0 }
drops_B words l = same_order 3 (omega arith) words l (section (entry 64) ∷ section (entry 66) ∷ section (entry 70) ∷ drops (key 66) ∷ []) ∙ rules_drop_B
