-- The definitions at work: runs that antt computes.
-- Assumes nothing.
use mathlib.Core.Path.{◌≡◌, refl, ap}
use mathlib.Core.Logic.{◌≢◌}
use mathlib.Core.Bool.{Bool, true, false, cond, not}
use mathlib.Core.Option.{Option, none, some}
use mathlib.Core.List.{List, [], ◌∷◌, ◌++◌}
use Prim.Native.Nat.{ℕ, zero, suc, ◌+◌, ◌%◌, ◌≤◌, ◌<◌}
use native.Mathlib.Omega.{arith}
use lib.Dec.{eqb}
use lib.ListN.{length, replicate}
use Rattle.transport.specs.Rules.{Bytes, Packet, Read, whole, stops, gather, pointed, taken, next, repeats, follows, settle, ignored, judged, step, run, opened}
use Rattle.transport.specs.Receiver.{Streams, HeldOf, Arrival, held, offers_in, feeds_to, feeds, finished_on}
use Rattle.transport.specs.Sender.{IsSection, stuffed, Begins, part, last, full, Carries, goes_on, ends, starts, packet, once, twice, Sending, sending, Sent, over, sends, all_of}

-- a section of 5 bytes and one of 4
a : Bytes
a = 66 ∷ 176 ∷ 2 ∷ 7 ∷ 8 ∷ []

b : Bytes
b = 78 ∷ 240 ∷ 1 ∷ 255 ∷ []

-- a and b share the first packet, b's header is split; then stuffing, then a again
sent : List Packet
sent = packet 15 true (0 ∷ 66 ∷ 176 ∷ 2 ∷ 7 ∷ 8 ∷ 78 ∷ 240 ∷ []) ∷ packet 0 false (1 ∷ []) ∷ packet 0 false (1 ∷ []) ∷ packet 1 true (1 ∷ 255 ∷ 66 ∷ 176 ∷ 2 ∷ 7 ∷ 8 ∷ 255 ∷ 255 ∷ []) ∷ []

all : run opened sent ≡ a ∷ b ∷ a ∷ []
unfolding sent a b whole stops gather pointed taken next repeats follows settle ignored judged step run opened
all = refl

-- both copies of the second packet are lost: only b is
some_lost : run opened (packet 15 true (0 ∷ 66 ∷ 176 ∷ 2 ∷ 7 ∷ 8 ∷ 78 ∷ 240 ∷ []) ∷ packet 1 true (1 ∷ 255 ∷ 66 ∷ 176 ∷ 2 ∷ 7 ∷ 8 ∷ 255 ∷ 255 ∷ []) ∷ []) ≡ a ∷ a ∷ []
unfolding a whole stops gather pointed taken next repeats follows settle ignored judged step run opened
some_lost = refl

cons_ne : (x : ℕ) (xs : Bytes) → ◌≢◌ {A = Bytes} (x ∷ xs) []
cons_ne x xs e = let z : suc (length xs) ≡ 0 = ap length e in omega arith

-- these packets are sent by the standard, the second twice
sendings : List Sending
sendings = sending (packet 15 true (0 ∷ 66 ∷ 176 ∷ 2 ∷ 7 ∷ 8 ∷ 78 ∷ 240 ∷ [])) once ∷ sending (packet 0 false (1 ∷ [])) twice ∷ sending (packet 1 true (1 ∷ 255 ∷ 66 ∷ 176 ∷ 2 ∷ 7 ∷ 8 ∷ 255 ∷ 255 ∷ [])) once ∷ []

all_sent : all_of sendings ≡ sent
unfolding all_of sendings sent
all_sent = refl

by_standard : Sent 15 [] (a ∷ b ∷ a ∷ []) sendings
unfolding sendings a b whole stuffed next
by_standard =
    sends {rest = []} once (starts (full (66 ∷ 176 ∷ 2 ∷ 7 ∷ 8 ∷ []) (record { complete = refl; table = refl })
    (part (78 ∷ 240 ∷ []) (1 ∷ 255 ∷ []) (cons_ne _ _) (cons_ne _ _) (record { complete = refl; table = refl })))) (omega arith)
    (sends {rest = 1 ∷ 255 ∷ []} twice (goes_on (1 ∷ []) (255 ∷ []) (cons_ne _ _) (cons_ne _ _) refl) (omega arith)
    (sends {rest = 255 ∷ []} once (starts (last (66 ∷ 176 ∷ 2 ∷ 7 ∷ 8 ∷ []) 2 (record { complete = refl; table = refl }))) (omega arith) over))

-- 14 is the most: these 18 packets send a and a section of 19 bytes
long : Bytes
long = 66 ∷ 176 ∷ 16 ∷ replicate 16 9

eighteen : List Sending
eighteen =
    sending (packet 0 true (0 ∷ 66 ∷ 176 ∷ 2 ∷ [])) once ∷ sending (packet 1 false (7 ∷ 8 ∷ [])) once ∷ sending (packet 2 true (0 ∷ 66 ∷ 176 ∷ 16 ∷ [])) once ∷ sending (packet 3 false (9 ∷ [])) once ∷ sending (packet 4 false (9 ∷ [])) once ∷ sending (packet 5 false (9 ∷ [])) once ∷ sending (packet 6 false (9 ∷ [])) once ∷ sending (packet 7 false (9 ∷ [])) once ∷ sending (packet 8 false (9 ∷ [])) once ∷ sending (packet 9 false (9 ∷ [])) once ∷ sending (packet 10 false (9 ∷ [])) once ∷ sending (packet 11 false (9 ∷ [])) once ∷ sending (packet 12 false (9 ∷ [])) once ∷ sending (packet 13 false (9 ∷ [])) once ∷ sending (packet 14 false (9 ∷ [])) once ∷ sending (packet 15 false (9 ∷ [])) once ∷ sending (packet 0 false (9 ∷ [])) once ∷ sending (packet 1 false (9 ∷ 9 ∷ [])) once ∷ []

eighteen_by_standard : Sent 0 [] (a ∷ long ∷ []) eighteen
unfolding eighteen a long whole stuffed next
eighteen_by_standard =
    sends {rest = []} once (starts (part (66 ∷ 176 ∷ 2 ∷ []) (7 ∷ 8 ∷ []) (cons_ne _ _) (cons_ne _ _) (record { complete = refl; table = refl }))) (omega arith)
    (sends {rest = 7 ∷ 8 ∷ []} once (ends 0 (cons_ne _ _)) (omega arith)
    (sends {rest = []} once (starts (part (66 ∷ 176 ∷ 16 ∷ []) (replicate 16 9) (cons_ne _ _) (cons_ne _ _) (record { complete = refl; table = refl }))) (omega arith)
    (sends {rest = replicate 16 9} once (goes_on (9 ∷ []) (replicate 15 9) (cons_ne _ _) (cons_ne _ _) refl) (omega arith)
    (sends {rest = replicate 15 9} once (goes_on (9 ∷ []) (replicate 14 9) (cons_ne _ _) (cons_ne _ _) refl) (omega arith)
    (sends {rest = replicate 14 9} once (goes_on (9 ∷ []) (replicate 13 9) (cons_ne _ _) (cons_ne _ _) refl) (omega arith)
    (sends {rest = replicate 13 9} once (goes_on (9 ∷ []) (replicate 12 9) (cons_ne _ _) (cons_ne _ _) refl) (omega arith)
    (sends {rest = replicate 12 9} once (goes_on (9 ∷ []) (replicate 11 9) (cons_ne _ _) (cons_ne _ _) refl) (omega arith)
    (sends {rest = replicate 11 9} once (goes_on (9 ∷ []) (replicate 10 9) (cons_ne _ _) (cons_ne _ _) refl) (omega arith)
    (sends {rest = replicate 10 9} once (goes_on (9 ∷ []) (replicate 9 9) (cons_ne _ _) (cons_ne _ _) refl) (omega arith)
    (sends {rest = replicate 9 9} once (goes_on (9 ∷ []) (replicate 8 9) (cons_ne _ _) (cons_ne _ _) refl) (omega arith)
    (sends {rest = replicate 8 9} once (goes_on (9 ∷ []) (replicate 7 9) (cons_ne _ _) (cons_ne _ _) refl) (omega arith)
    (sends {rest = replicate 7 9} once (goes_on (9 ∷ []) (replicate 6 9) (cons_ne _ _) (cons_ne _ _) refl) (omega arith)
    (sends {rest = replicate 6 9} once (goes_on (9 ∷ []) (replicate 5 9) (cons_ne _ _) (cons_ne _ _) refl) (omega arith)
    (sends {rest = replicate 5 9} once (goes_on (9 ∷ []) (replicate 4 9) (cons_ne _ _) (cons_ne _ _) refl) (omega arith)
    (sends {rest = replicate 4 9} once (goes_on (9 ∷ []) (replicate 3 9) (cons_ne _ _) (cons_ne _ _) refl) (omega arith)
    (sends {rest = replicate 3 9} once (goes_on (9 ∷ []) (replicate 2 9) (cons_ne _ _) (cons_ne _ _) refl) (omega arith)
    (sends {rest = 9 ∷ 9 ∷ []} once (ends 0 (cons_ne _ _)) (omega arith) over)))))))))))))))))

-- 15 of them are lost behind the first: the next, with counter 0, is taken for its repeat, the last one follows, and what is finished was never sent
mixed_15 : run opened (packet 0 true (0 ∷ 66 ∷ 176 ∷ 2 ∷ []) ∷ packet 0 false (9 ∷ []) ∷ packet 1 false (9 ∷ 9 ∷ []) ∷ []) ≡ (66 ∷ 176 ∷ 2 ∷ 9 ∷ 9 ∷ []) ∷ []
unfolding whole stops gather pointed taken next repeats follows settle ignored judged step run opened
mixed_15 = refl

-- 16 of the eighteen are lost behind the first: the last, with counter 1, is taken for the next
mixed_16 : run opened (packet 0 true (0 ∷ 66 ∷ 176 ∷ 2 ∷ []) ∷ packet 1 false (9 ∷ 9 ∷ []) ∷ []) ≡ (66 ∷ 176 ∷ 2 ∷ 9 ∷ 9 ∷ []) ∷ []
unfolding whole stops gather pointed taken next repeats follows settle ignored judged step run opened
mixed_16 = refl

-- a packet that comes three times is read twice
third_copy : run opened (packet 7 true (0 ∷ 66 ∷ 176 ∷ 2 ∷ 7 ∷ 8 ∷ []) ∷ packet 7 true (0 ∷ 66 ∷ 176 ∷ 2 ∷ 7 ∷ 8 ∷ []) ∷ packet 7 true (0 ∷ 66 ∷ 176 ∷ 2 ∷ 7 ∷ 8 ∷ []) ∷ []) ≡ a ∷ a ∷ []
unfolding a whole stops gather pointed taken next repeats follows settle ignored judged step run opened
third_copy = refl

-- n sections of 3 bytes
threes : ℕ → Bytes
threes zero = []
threes (suc n) = 113 ∷ 112 ∷ 0 ∷ threes n

-- 61 sections in one payload of 184 bytes; and 60 behind the last byte of one that was under way
sixty_one : length (taken [] true (0 ∷ threes 61)).sections ≡ 61
unfolding threes whole stops gather pointed taken
sixty_one = refl

sixty_one_more : length (taken (66 ∷ 176 ∷ 1 ∷ []) true (1 ∷ 9 ∷ threes 60)).sections ≡ 61
unfolding threes whole stops gather pointed taken
sixty_one_more = refl

-- ---- a packet and its copy with a return between them are both read: PID 1, watched while the world is true; a section on another PID takes it off the
-- watch, the next brings it back
abbrev seen : Bool → ℕ → Bool
seen w p = cond (eqb p 1) w true

abbrev toggled : Bool → ℕ → Bytes → Bool
toggled w p s = cond (eqb p 1) w (not w)

abbrev lowest : Streams → ℕ → Option ℕ
lowest f p = some 0

nobody : Streams
nobody p = none

whole_a : Packet
whole_a = packet 7 true (0 ∷ 66 ∷ 176 ∷ 2 ∷ 7 ∷ 8 ∷ [])

abbrev on : ℕ → Arrival
on p = record { pid = p; packet = whole_a }

next_a : Arrival
next_a = record { pid = 2; packet = packet 8 true (0 ∷ 66 ∷ 176 ∷ 2 ∷ 7 ∷ 8 ∷ []) }

copy_across_a_return : finished_on seen toggled lowest 1 (held nobody true) (on 1 ∷ on 2 ∷ next_a ∷ on 1 ∷ []) ≡ a ∷ a ∷ []
unfolding a nobody whole_a next_a whole stops gather pointed taken next repeats follows settle ignored judged step opened offers_in feeds_to feeds finished_on
copy_across_a_return = refl

-- without the return the copy is ignored
copy_ignored : finished_on seen toggled lowest 1 (held nobody true) (on 1 ∷ on 1 ∷ []) ≡ a ∷ []
unfolding a nobody whole_a whole stops gather pointed taken next repeats follows settle ignored judged step opened offers_in feeds_to feeds finished_on
copy_ignored = refl
