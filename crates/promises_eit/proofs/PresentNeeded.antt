-- Why the third demand for present and following asks what it asks: without either of the conditions on segments, or with a conflict in the larger, it is false of the
-- collector over lent memory; and it is not empty. Sections of 18 bytes on PID 0x12; limits 1 and 2; B drives service 1 out of the smaller.
-- Assumes nothing.
use mathlib.Core.Path.{◌≡◌, refl, sym, ap, subst, ◌∙◌}
use mathlib.Core.Bool.{Bool, true, false, ◌&&◌, ◌||◌}
use mathlib.Core.Option.{some, some-injective}
use mathlib.Core.List.{List, [], ◌∷◌, map}
use Prim.Native.Nat.{ℕ, zero, suc, ◌+◌, ◌*◌, ◌/◌, ◌≤◌}
use native.Mathlib.Omega.{arith}
use native.Mathlib.Nat.{le_of_eq}
use lib.Dec.{eqb, ltb}
use lib.ListN.{length, get_elem?, replicate, drop as skip}
use Rattle.laws.specs.Lists.{every, first_from}
use Rattle.laws.proofs.Tests.{none≢some, and_true}
use Rattle.laws.proofs.Facts.{any_of, not_among}
use Rattle.rules_shared.specs.Same.{Bytes, same_bytes}
use Rattle.rules_shared.specs.Slots.{some_held, every_held, on_slots}
use Rattle.rules_shared.specs.Touch.{some_row, every_row, seen_as, untouched, on_order}
use Rattle.rules_shared.specs.Row.{on_row}
use Rattle.rules_shared.specs.Cells.{bytes_of, names, lowest, write, place_new, place_held, place, room_whole, held_whole, at_end}
use Rattle.laws.specs.Runs.{answers, At, Never}
use Rattle.rules_shared.specs.Cells.{Settings}
use Rattle.crc.specs.Crc.{crc_from, bits_in, bit_in}
use Rattle.section.specs.Header.{stored_crc, worked_crc, header_of}
use Rattle.section.specs.Judged.{malformed, collected_long, collected_of}
use Rattle.eit_section.specs.Eit.{eit_as, eit_of}
use Rattle.eit_section.specs.Segment.{segment_end}
use Rattle.laws.specs.Entries.{whole_entries, entries_in}
use Rattle.answers.specs.Answers.{refusal_no}
use Rattle.answers.specs.declared.Refusal.TheVariants as refusal
use Rattle.rules_eit.specs.Keys.{present_actual}
use Rattle.rules_eit.specs.Rules.{Section, Call, clear, drop, refuse, offer, Whole, Answer, done, refused, nothing, handout, schedule, number_of}
use Rattle.rules_eit.specs.Cells.{Store as Shown, on_copy, on_schedule, on_eit, on_whole, on_guide, on_answer, set_takes, copy_takes, schedule_takes, taken, store_whole, any_at_end, ended, shows, rest, room_for, place_of, carry, push_in, admit_in, offer_in, drop_in, good, guarded, call, call_tells, call_acts}
use Rattle.rules_eit.proofs.Examples.{gives}
use Rattle.ticks.specs.Order.{listed, at_tick, in_order, rows_seen}
use Rattle.ticks.specs.Slots.{up_from, cells_seen}
use Rattle.eit_state.specs.State.{store, asked}
use Rattle.eit.specs.Store.{opened_of}
use Rattle.ties_eit.specs.View as ties
use Rattle.ties_eit.specs.View.{settings_of, section_of, reads_eit, reads_as, read_section, seen}
use Rattle.ties_eit.proofs.History.{opened_reached, acts_settings}
use Rattle.promises.proofs.Runs.{bytes_in, byte_test}
use Rattle.promises_eit.specs.PresentFollowing.{Collector, StartsEmpty, EqualCellSize, LimitNoLarger, Given, section, drops, made, Fitting, reads, acts, Calls, CallsFit, answers_of, RefusesNoneAsConflicting, RefusesNoneForItsStore, NothingDropped, Accepted, OfOneSegment, SegmentsAgree, NoneAboveItsSegment, HandsOut, HandedOutSinceTheLastClear}
use Rattle.promises_eit.proofs.PresentFollowing.{same_answers}

-- ---- sections: present/following actual, PID 0x12, transport stream 1, network 1, version 0, current

abbrev B : Bytes
B = 0x4E ∷ 0xB0 ∷ 0x0F ∷ 0x00 ∷ 0x02 ∷ 0xC1 ∷ 0x00 ∷ 0x00 ∷ 0x00 ∷ 0x01 ∷ 0x00 ∷ 0x01 ∷ 0x00 ∷ 0x4E ∷ 0x49 ∷ 0xFF ∷ 0x7A ∷ 0x90 ∷ []

abbrev x1 : Bytes
x1 = 0x4E ∷ 0xB0 ∷ 0x0F ∷ 0x00 ∷ 0x01 ∷ 0xC1 ∷ 0x01 ∷ 0x01 ∷ 0x00 ∷ 0x01 ∷ 0x00 ∷ 0x01 ∷ 0x01 ∷ 0x4E ∷ 0x0A ∷ 0x60 ∷ 0xF2 ∷ 0x89 ∷ []

abbrev x0 : Bytes
x0 = 0x4E ∷ 0xB0 ∷ 0x0F ∷ 0x00 ∷ 0x01 ∷ 0xC1 ∷ 0x00 ∷ 0x01 ∷ 0x00 ∷ 0x01 ∷ 0x00 ∷ 0x01 ∷ 0x00 ∷ 0x4E ∷ 0x83 ∷ 0xD8 ∷ 0xEF ∷ 0x9F ∷ []

abbrev y1 : Bytes
y1 = 0x4E ∷ 0xB0 ∷ 0x0F ∷ 0x00 ∷ 0x01 ∷ 0xC1 ∷ 0x01 ∷ 0x01 ∷ 0x00 ∷ 0x01 ∷ 0x00 ∷ 0x01 ∷ 0x00 ∷ 0x4E ∷ 0xD8 ∷ 0x79 ∷ 0x33 ∷ 0x55 ∷ []

abbrev c0 : Bytes
c0 = 0x4E ∷ 0xB0 ∷ 0x0F ∷ 0x00 ∷ 0x01 ∷ 0xC1 ∷ 0x00 ∷ 0x00 ∷ 0x00 ∷ 0x01 ∷ 0x00 ∷ 0x01 ∷ 0x00 ∷ 0x4E ∷ 0xCC ∷ 0x8F ∷ 0x87 ∷ 0x8E ∷ []

abbrev c1 : Bytes
c1 = 0x4E ∷ 0xB0 ∷ 0x0F ∷ 0x00 ∷ 0x01 ∷ 0xC1 ∷ 0x00 ∷ 0x00 ∷ 0x00 ∷ 0x01 ∷ 0x00 ∷ 0x01 ∷ 0x00 ∷ 0x4F ∷ 0xC8 ∷ 0x4E ∷ 0x9A ∷ 0x39 ∷ []

abbrev z0 : Bytes
z0 = 0x4E ∷ 0xB0 ∷ 0x0F ∷ 0x00 ∷ 0x01 ∷ 0xC1 ∷ 0x00 ∷ 0x01 ∷ 0x00 ∷ 0x01 ∷ 0x00 ∷ 0x01 ∷ 0x01 ∷ 0x4E ∷ 0x51 ∷ 0xC1 ∷ 0x2E ∷ 0x43 ∷ []

abbrev on : Bytes → Given
on bytes = section 0 0x12 bytes

abbrev says : (service number last segment_last last_table : ℕ) → Bytes → Section
says service number last segment_last last_table bytes = record {
  from = record { input = 0; pid = 0x12 };
  table_id_of = 0x4E;
  service_id = service;
  transport_stream_id = 1;
  original_network_id = 1;
  current_next_of = true;
  version = 0;
  number = number;
  last = last;
  segment_last = segment_last;
  last_table = last_table;
  bytes = bytes;
}

abbrev said : (service number last segment_last last_table : ℕ) → Bytes → Call
said service number last segment_last last_table bytes = offer (says service number last segment_last last_table bytes)

abbrev set_of : (service last : ℕ) → List Bytes → Whole
set_of service last sections = record {
  key = record { schedule = record { from = record { input = 0; pid = 0x12 }; kind = present_actual; service_id = service; transport_stream_id = 1; original_network_id = 1; current_next_of = true }; table_id_of = 0x4E };
  version = 0;
  last = last;
  sections = sections;
}

fit : (bs : List Bytes) → bytes_in bs ≡ true → CallsFit (map on bs)
fit [] h t i e = absurd (none≢some refl e)
fit (b ∷ bs) h zero i e = subst Fitting (some-injective (on b) i e) (byte_test b (and_true (every (λ (x : ℕ). ltb x 256) b) (bytes_in bs) h).0)
fit (b ∷ bs) h (suc t) i e = fit bs (and_true (every (λ (x : ℕ). ltb x 256) b) (bytes_in bs) h).1 t i e

none_dropped : (bs : List Bytes) → NothingDropped (map on bs)
none_dropped [] f t e = none≢some refl e
none_dropped (b ∷ bs) f zero e = let p : on b ≡ drops f = some-injective (on b) (drops f) e in let z : ◌≡◌ {A = ℕ} 0 1 = cc in omega arith
none_dropped (b ∷ bs) f (suc t) e = none_dropped bs f t e

-- ---- what holds of each section that is given holds of each that is accepted

abbrev EachOffer : (Section → Type 0) → List Call → Type 0
EachOffer P [] = Unit {0}
EachOffer P (clear ∷ is) = EachOffer P is
EachOffer P (drop f ∷ is) = EachOffer P is
EachOffer P (refuse n b ∷ is) = EachOffer P is
EachOffer P (offer x ∷ is) = P x × EachOffer P is

at_read : (calls : Calls) (t : ℕ) (i : Given) → At calls t i → At (map reads calls) t (reads i)
at_read [] t i e = absurd (none≢some refl e)
at_read (j ∷ js) zero i e = ap (λ (k : Given). some (reads k)) (some-injective j i e)
at_read (j ∷ js) (suc t) i e = at_read js t i e

pick : (P : Section → Type 0) (x y : Section) → offer y ≡ offer x → P y → P x
pick P x y e p = let q : y ≡ x = cc in subst P q p

accepted_among : (P : Section → Type 0) (s : Collector) (calls : Calls) (as' : List Call) → map reads calls ≡ as' → EachOffer P as' → (x : Section) → Accepted s calls x → P x
accepted_among P s calls as' e all x a =
    go as' a.at (subst (λ (l : List Call). At l a.at (offer x)) e (subst (λ (i : Call). At (map reads calls) a.at i) a.says (at_read calls a.at a.call a.given))) all
  where
    go : (is : List Call) (t : ℕ) → At is t (offer x) → EachOffer P is → P x
    go [] t h p = absurd (none≢some refl h)
    go (offer y ∷ is) zero h p = pick P x y (some-injective (offer y) (offer x) h) p.0
    go (offer y ∷ is) (suc t) h p = go is t h p.1
    go (clear ∷ is) zero h p = let q : clear ≡ offer x = some-injective clear (offer x) h in let z : ◌≡◌ {A = ℕ} 0 1 = cc in absurd (omega arith)
    go (clear ∷ is) (suc t) h p = go is t h p
    go (drop f ∷ is) zero h p = let q : drop f ≡ offer x = some-injective (drop f) (offer x) h in let z : ◌≡◌ {A = ℕ} 0 1 = cc in absurd (omega arith)
    go (drop f ∷ is) (suc t) h p = go is t h p
    go (refuse n b ∷ is) zero h p = let q : refuse n b ≡ offer x = some-injective (refuse n b) (offer x) h in let z : ◌≡◌ {A = ℕ} 0 1 = cc in absurd (omega arith)
    go (refuse n b ∷ is) (suc t) h p = go is t h p

-- all give the same segment_last_section_number
agreeing : (m : ℕ) (s : Collector) (calls : Calls) (as' : List Call) → map reads calls ≡ as' → EachOffer (λ (x : Section). x.segment_last ≡ m) as' → SegmentsAgree s calls
agreeing m s calls as' e all x y a b o = accepted_among _ s calls as' e all x a ∙ sym (accepted_among _ s calls as' e all y b)

abbrev Within : Section → Type 0
Within x = x.number ≤ segment_end (8 * (x.number / 8)) x.segment_last x.last

-- ---- collectors over memory that held sevens, with three cells of 20 bytes

abbrev collector : ℕ → Collector
collector limit = store (asked limit 20 3) (replicate (limit * 12) 7) (replicate (limit * 288) 7) (replicate 60 7) (replicate (limit * 12) 7) (replicate (limit * 4608) 7)

abbrev shown : ℕ → Shown
shown limit = record { settings = record { limit = limit; cell_size = 20 }; eit = record { sets = untouched; schedules = untouched }; cells = replicate 3 (replicate 20 7); clock = 0 }

opened_1 : StartsEmpty (collector 1)
unfolding opened_of
opened_1 = record { opened = refl; sets = refl; evictions = refl; clock = refl; schedules = refl; schedule_evictions = refl }

opened_2 : StartsEmpty (collector 2)
unfolding opened_of
opened_2 = record { opened = refl; sets = refl; evictions = refl; clock = refl; schedules = refl; schedule_evictions = refl }

seen_1 : seen (collector 1) ≡ shown 1
unfolding seen untouched rows_seen in_order listed at_tick first_from cells_seen up_from
seen_1 = refl

seen_2 : seen (collector 2) ≡ shown 2
unfolding seen untouched rows_seen in_order listed at_tick first_from cells_seen up_from
seen_2 = refl

unfoldable replies : Shown → List Call → List Answer
unfolding gives some_held every_held on_slots some_row every_row seen_as on_order on_row bytes_of names lowest write place_new place_held place room_whole held_whole at_end on_copy on_schedule on_eit on_whole on_guide on_answer set_takes copy_takes schedule_takes taken store_whole any_at_end ended shows rest room_for place_of carry push_in admit_in offer_in drop_in good guarded call call_tells call_acts
replies s calls = answers call_tells call_acts s calls

runs : (s : Collector) → StartsEmpty s → (v : Shown) → seen s ≡ v → (bs : List Bytes) → bytes_in bs ≡ true → (is : List Call) → map reads (map on bs) ≡ is → answers_of s (map on bs) ≡ replies v is
unfolding replies
runs s o v e bs b is r =
    same_answers (map on bs) (fit bs b) s (opened_reached s o) ∙ ap (λ (q : Shown). answers call_tells call_acts q (map reads (map on bs))) e ∙ ap (answers call_tells call_acts v) r

-- 10, 11 and 21
abbrev memory : Answer → Bool
memory a = eqb (number_of a) 10 || (eqb (number_of a) 11 || eqb (number_of a) 21)

-- 22
abbrev conflicts : Answer → Bool
conflicts a = eqb (number_of a) 22

-- a set of so many sections
abbrev count_is : ℕ → List Bytes → Bool
count_is n bs = eqb (length bs) n

abbrev begins : Bytes → List Bytes → Bool
begins bytes [] = false
begins bytes (b ∷ bs) = same_bytes b bytes

-- the answer hands out a set of n sections that begins with these bytes
abbrev hands : ℕ → Bytes → Answer → Bool
hands n bytes (handout w) = count_is n w.sections && begins bytes w.sections
hands n bytes done = false
hands n bytes (refused r) = false
hands n bytes nothing = false
hands n bytes (schedule g) = false

module _ (s : Collector) (calls : Calls) (as' : List Answer) (e : answers_of s calls ≡ as') where
  never : (test : Answer → Bool) → any_of test as' ≡ false → (a : Answer) → test a ≡ true → Never a (answers_of s calls)
  never test h a p t q = not_among test a p as' h t (subst (λ (l : List Answer). At l t a) e q)

  stored : any_of memory as' ≡ false → RefusesNoneForItsStore s calls
  unfolding number_of
  stored h = record { cells = never memory h (refused refusal.NoCell) refl; counter = never memory h (refused refusal.CounterFull) refl; wholeness = never memory h (refused refusal.NotWhole) refl }

  unlike : (test : Answer → Bool) → any_of test as' ≡ false → (t : ℕ) (set : Whole) → test (handout set) ≡ true → HandedOutSinceTheLastClear s calls t set → ⊥
  unlike test h t set p g = never test h (handout set) p g.at g.given

-- ---- two sections of one segment say otherwise: section 1 says that the segment ends at 1, section 0 that it ends at 0

abbrev apart : List Bytes
apart = x1 ∷ B ∷ x0 ∷ []

abbrev apart_said : List Call
apart_said = said 1 1 1 1 0x4E x1 ∷ said 2 0 0 0 0x4E B ∷ said 1 0 1 0 0x4E x0 ∷ []

apart_reads : map reads (map on apart) ≡ apart_said
unfolding ties.reads read_section reads_as reads_eit section_of collected_of collected_long malformed header_of stored_crc worked_crc crc_from bits_in bit_in eit_of eit_as whole_entries entries_in
apart_reads = refl

apart_bytes : bytes_in apart ≡ true
unfolding every
apart_bytes = refl

apart_small_replies : replies (shown 1) apart_said ≡ nothing ∷ handout (set_of 2 0 (B ∷ [])) ∷ handout (set_of 1 1 (x0 ∷ [])) ∷ []
unfolding replies
apart_small_replies = refl

apart_small : answers_of (collector 1) (map on apart) ≡ nothing ∷ handout (set_of 2 0 (B ∷ [])) ∷ handout (set_of 1 1 (x0 ∷ [])) ∷ []
apart_small = runs (collector 1) opened_1 (shown 1) seen_1 apart apart_bytes apart_said apart_reads ∙ apart_small_replies

apart_large_replies : replies (shown 2) apart_said ≡ nothing ∷ handout (set_of 2 0 (B ∷ [])) ∷ handout (set_of 1 1 (x0 ∷ x1 ∷ [])) ∷ []
unfolding replies
apart_large_replies = refl

apart_large : answers_of (collector 2) (map on apart) ≡ nothing ∷ handout (set_of 2 0 (B ∷ [])) ∷ handout (set_of 1 1 (x0 ∷ x1 ∷ [])) ∷ []
apart_large = runs (collector 2) opened_2 (shown 2) seen_2 apart apart_bytes apart_said apart_reads ∙ apart_large_replies

pub agreement_needed : ¬ ((smaller larger : Collector) → StartsEmpty smaller → StartsEmpty larger → EqualCellSize smaller larger → LimitNoLarger smaller larger → (calls : Calls) → CallsFit calls → RefusesNoneAsConflicting larger calls → RefusesNoneForItsStore smaller calls → RefusesNoneForItsStore larger calls → NothingDropped calls → NoneAboveItsSegment larger calls → (t : ℕ) (set : Whole) → HandsOut smaller calls t set → HandedOutSinceTheLastClear larger calls t set)
unfolding any_of same_bytes segment_end number_of
agreement_needed f =
    unlike (collector 2) (map on apart) _ apart_large (hands 1 x0) refl 2 (set_of 1 1 (x0 ∷ [])) refl
    (f (collector 1) (collector 2) opened_1 opened_2 refl (omega arith) (map on apart) (fit apart apart_bytes)
    (never (collector 2) (map on apart) _ apart_large conflicts refl (refused refusal.Conflict) refl) (stored (collector 1) (map on apart) _ apart_small refl) (stored (collector 2) (map on apart) _ apart_large refl)
    (none_dropped apart) (accepted_among Within (collector 2) (map on apart) apart_said apart_reads (omega arith, (omega arith, (omega arith, tt))))
    2 (set_of 1 1 (x0 ∷ [])) (ap (λ (as' : List Answer). get_elem? as' 2) apart_small))

-- ---- a section above its segment: section 1, where both say that the segment ends at 0

abbrev above : List Bytes
above = y1 ∷ B ∷ x0 ∷ []

abbrev above_said : List Call
above_said = said 1 1 1 0 0x4E y1 ∷ said 2 0 0 0 0x4E B ∷ said 1 0 1 0 0x4E x0 ∷ []

above_reads : map reads (map on above) ≡ above_said
unfolding ties.reads read_section reads_as reads_eit section_of collected_of collected_long malformed header_of stored_crc worked_crc crc_from bits_in bit_in eit_of eit_as whole_entries entries_in
above_reads = refl

above_bytes : bytes_in above ≡ true
unfolding every
above_bytes = refl

above_small_replies : replies (shown 1) above_said ≡ nothing ∷ handout (set_of 2 0 (B ∷ [])) ∷ handout (set_of 1 1 (x0 ∷ [])) ∷ []
unfolding replies
above_small_replies = refl

above_small : answers_of (collector 1) (map on above) ≡ nothing ∷ handout (set_of 2 0 (B ∷ [])) ∷ handout (set_of 1 1 (x0 ∷ [])) ∷ []
above_small = runs (collector 1) opened_1 (shown 1) seen_1 above above_bytes above_said above_reads ∙ above_small_replies

above_large_replies : replies (shown 2) above_said ≡ nothing ∷ handout (set_of 2 0 (B ∷ [])) ∷ handout (set_of 1 1 (x0 ∷ y1 ∷ [])) ∷ []
unfolding replies
above_large_replies = refl

above_large : answers_of (collector 2) (map on above) ≡ nothing ∷ handout (set_of 2 0 (B ∷ [])) ∷ handout (set_of 1 1 (x0 ∷ y1 ∷ [])) ∷ []
above_large = runs (collector 2) opened_2 (shown 2) seen_2 above above_bytes above_said above_reads ∙ above_large_replies

pub inside_needed : ¬ ((smaller larger : Collector) → StartsEmpty smaller → StartsEmpty larger → EqualCellSize smaller larger → LimitNoLarger smaller larger → (calls : Calls) → CallsFit calls → RefusesNoneAsConflicting larger calls → RefusesNoneForItsStore smaller calls → RefusesNoneForItsStore larger calls → NothingDropped calls → SegmentsAgree larger calls → (t : ℕ) (set : Whole) → HandsOut smaller calls t set → HandedOutSinceTheLastClear larger calls t set)
unfolding any_of same_bytes number_of
inside_needed f =
    unlike (collector 2) (map on above) _ above_large (hands 1 x0) refl 2 (set_of 1 1 (x0 ∷ [])) refl
    (f (collector 1) (collector 2) opened_1 opened_2 refl (omega arith) (map on above) (fit above above_bytes)
    (never (collector 2) (map on above) _ above_large conflicts refl (refused refusal.Conflict) refl) (stored (collector 1) (map on above) _ above_small refl) (stored (collector 2) (map on above) _ above_large refl)
    (none_dropped above) (agreeing 0 (collector 2) (map on above) above_said above_reads (refl, (refl, (refl, tt))))
    2 (set_of 1 1 (x0 ∷ [])) (ap (λ (as' : List Answer). get_elem? as' 2) above_small))

-- ---- the larger refuses a section as conflicting

abbrev clash : List Bytes
clash = c0 ∷ B ∷ c1 ∷ []

abbrev clash_said : List Call
clash_said = said 1 0 0 0 0x4E c0 ∷ said 2 0 0 0 0x4E B ∷ said 1 0 0 0 0x4F c1 ∷ []

clash_reads : map reads (map on clash) ≡ clash_said
unfolding ties.reads read_section reads_as reads_eit section_of collected_of collected_long malformed header_of stored_crc worked_crc crc_from bits_in bit_in eit_of eit_as whole_entries entries_in
clash_reads = refl

clash_bytes : bytes_in clash ≡ true
unfolding every
clash_bytes = refl

clash_small_replies : replies (shown 1) clash_said ≡ handout (set_of 1 0 (c0 ∷ [])) ∷ handout (set_of 2 0 (B ∷ [])) ∷ handout (set_of 1 0 (c1 ∷ [])) ∷ []
unfolding replies
clash_small_replies = refl

clash_small : answers_of (collector 1) (map on clash) ≡ handout (set_of 1 0 (c0 ∷ [])) ∷ handout (set_of 2 0 (B ∷ [])) ∷ handout (set_of 1 0 (c1 ∷ [])) ∷ []
clash_small = runs (collector 1) opened_1 (shown 1) seen_1 clash clash_bytes clash_said clash_reads ∙ clash_small_replies

clash_large_replies : replies (shown 2) clash_said ≡ handout (set_of 1 0 (c0 ∷ [])) ∷ handout (set_of 2 0 (B ∷ [])) ∷ refused refusal.Conflict ∷ []
unfolding replies
clash_large_replies = refl

clash_large : answers_of (collector 2) (map on clash) ≡ handout (set_of 1 0 (c0 ∷ [])) ∷ handout (set_of 2 0 (B ∷ [])) ∷ refused refusal.Conflict ∷ []
clash_large = runs (collector 2) opened_2 (shown 2) seen_2 clash clash_bytes clash_said clash_reads ∙ clash_large_replies

pub no_conflict_needed : ¬ ((smaller larger : Collector) → StartsEmpty smaller → StartsEmpty larger → EqualCellSize smaller larger → LimitNoLarger smaller larger → (calls : Calls) → CallsFit calls → RefusesNoneForItsStore smaller calls → RefusesNoneForItsStore larger calls → NothingDropped calls → SegmentsAgree larger calls → NoneAboveItsSegment larger calls → (t : ℕ) (set : Whole) → HandsOut smaller calls t set → HandedOutSinceTheLastClear larger calls t set)
unfolding any_of same_bytes segment_end number_of
no_conflict_needed f =
    unlike (collector 2) (map on clash) _ clash_large (hands 1 c1) refl 2 (set_of 1 0 (c1 ∷ [])) refl
    (f (collector 1) (collector 2) opened_1 opened_2 refl (omega arith) (map on clash) (fit clash clash_bytes)
    (stored (collector 1) (map on clash) _ clash_small refl) (stored (collector 2) (map on clash) _ clash_large refl)
    (none_dropped clash) (agreeing 0 (collector 2) (map on clash) clash_said clash_reads (refl, (refl, (refl, tt))))
    (accepted_among Within (collector 2) (map on clash) clash_said clash_reads (omega arith, (omega arith, (omega arith, tt))))
    2 (set_of 1 0 (c1 ∷ [])) (ap (λ (as' : List Answer). get_elem? as' 2) clash_small))

-- ---- it is not empty: all that it asks holds of these four, and the smaller hands out service 1 one call after the larger

abbrev later : List Bytes
later = z0 ∷ B ∷ x1 ∷ z0 ∷ []

abbrev later_said : List Call
later_said = said 1 0 1 1 0x4E z0 ∷ said 2 0 0 0 0x4E B ∷ said 1 1 1 1 0x4E x1 ∷ said 1 0 1 1 0x4E z0 ∷ []

later_reads : map reads (map on later) ≡ later_said
unfolding ties.reads read_section reads_as reads_eit section_of collected_of collected_long malformed header_of stored_crc worked_crc crc_from bits_in bit_in eit_of eit_as whole_entries entries_in
later_reads = refl

later_bytes : bytes_in later ≡ true
unfolding every
later_bytes = refl

later_small_replies : replies (shown 1) later_said ≡ nothing ∷ handout (set_of 2 0 (B ∷ [])) ∷ nothing ∷ handout (set_of 1 1 (z0 ∷ x1 ∷ [])) ∷ []
unfolding replies
later_small_replies = refl

later_small : answers_of (collector 1) (map on later) ≡ nothing ∷ handout (set_of 2 0 (B ∷ [])) ∷ nothing ∷ handout (set_of 1 1 (z0 ∷ x1 ∷ [])) ∷ []
later_small = runs (collector 1) opened_1 (shown 1) seen_1 later later_bytes later_said later_reads ∙ later_small_replies

later_large_replies : replies (shown 2) later_said ≡ nothing ∷ handout (set_of 2 0 (B ∷ [])) ∷ handout (set_of 1 1 (z0 ∷ x1 ∷ [])) ∷ nothing ∷ []
unfolding replies
later_large_replies = refl

later_large : answers_of (collector 2) (map on later) ≡ nothing ∷ handout (set_of 2 0 (B ∷ [])) ∷ handout (set_of 1 1 (z0 ∷ x1 ∷ [])) ∷ nothing ∷ []
later_large = runs (collector 2) opened_2 (shown 2) seen_2 later later_bytes later_said later_reads ∙ later_large_replies

-- here service 1 says 1 and service 2 says 0
abbrev SaidHere : Section → Type 0
SaidHere x = x.service_id + x.segment_last ≡ 2

later_here : EachOffer SaidHere later_said
later_here = (refl, (refl, (refl, (refl, tt))))

said_alike : (x y : Section) → SaidHere x → SaidHere y → OfOneSegment x y → x.segment_last ≡ y.segment_last
said_alike x y p q o = let r = o.service_id_lem in omega arith

pub record NotEmpty : Type 0 where
  pub smaller_opened : StartsEmpty (collector 1)
  pub larger_opened : StartsEmpty (collector 2)
  pub fits : CallsFit (map on later)
  pub unconflicting : RefusesNoneAsConflicting (collector 2) (map on later)
  pub smaller_stores : RefusesNoneForItsStore (collector 1) (map on later)
  pub larger_stores : RefusesNoneForItsStore (collector 2) (map on later)
  pub undropped : NothingDropped (map on later)
  pub agree : SegmentsAgree (collector 2) (map on later)
  pub inside : NoneAboveItsSegment (collector 2) (map on later)
  pub first : HandsOut (collector 2) (map on later) 2 (set_of 1 1 (z0 ∷ x1 ∷ []))
  pub then : HandsOut (collector 1) (map on later) 3 (set_of 1 1 (z0 ∷ x1 ∷ []))

pub not_empty : NotEmpty
unfolding any_of segment_end number_of
not_empty = record {
  smaller_opened = opened_1;
  larger_opened = opened_2;
  fits = fit later later_bytes;
  unconflicting = never (collector 2) (map on later) _ later_large conflicts refl (refused refusal.Conflict) refl;
  smaller_stores = stored (collector 1) (map on later) _ later_small refl;
  larger_stores = stored (collector 2) (map on later) _ later_large refl;
  undropped = none_dropped later;
  agree = λ x y a b o. said_alike x y (accepted_among SaidHere (collector 2) (map on later) later_said later_reads (later_here) x a) (accepted_among SaidHere (collector 2) (map on later) later_said later_reads (later_here) y b) o;
  inside = accepted_among Within (collector 2) (map on later) later_said later_reads (omega arith, (omega arith, (omega arith, (omega arith, tt))));
  first = ap (λ (as' : List Answer). get_elem? as' 2) later_large;
  then = ap (λ (as' : List Answer). get_elem? as' 3) later_small;
}

-- ---- limits the other way: the one with limit 2 hands out service 1, which the one with limit 1 has lost

abbrev soon : List Bytes
soon = z0 ∷ B ∷ x1 ∷ []

abbrev soon_said : List Call
soon_said = said 1 0 1 1 0x4E z0 ∷ said 2 0 0 0 0x4E B ∷ said 1 1 1 1 0x4E x1 ∷ []

soon_reads : map reads (map on soon) ≡ soon_said
unfolding ties.reads read_section reads_as reads_eit section_of collected_of collected_long malformed header_of stored_crc worked_crc crc_from bits_in bit_in eit_of eit_as whole_entries entries_in
soon_reads = refl

soon_bytes : bytes_in soon ≡ true
unfolding every
soon_bytes = refl

soon_2_replies : replies (shown 2) soon_said ≡ nothing ∷ handout (set_of 2 0 (B ∷ [])) ∷ handout (set_of 1 1 (z0 ∷ x1 ∷ [])) ∷ []
unfolding replies
soon_2_replies = refl

soon_2 : answers_of (collector 2) (map on soon) ≡ nothing ∷ handout (set_of 2 0 (B ∷ [])) ∷ handout (set_of 1 1 (z0 ∷ x1 ∷ [])) ∷ []
soon_2 = runs (collector 2) opened_2 (shown 2) seen_2 soon soon_bytes soon_said soon_reads ∙ soon_2_replies

soon_1_replies : replies (shown 1) soon_said ≡ nothing ∷ handout (set_of 2 0 (B ∷ [])) ∷ nothing ∷ []
unfolding replies
soon_1_replies = refl

soon_1 : answers_of (collector 1) (map on soon) ≡ nothing ∷ handout (set_of 2 0 (B ∷ [])) ∷ nothing ∷ []
soon_1 = runs (collector 1) opened_1 (shown 1) seen_1 soon soon_bytes soon_said soon_reads ∙ soon_1_replies

soon_here : EachOffer SaidHere soon_said
soon_here = (refl, (refl, (refl, tt)))

pub limit_needed : ¬ ((smaller larger : Collector) → StartsEmpty smaller → StartsEmpty larger → EqualCellSize smaller larger → (calls : Calls) → CallsFit calls → RefusesNoneAsConflicting larger calls → RefusesNoneForItsStore smaller calls → RefusesNoneForItsStore larger calls → NothingDropped calls → SegmentsAgree larger calls → NoneAboveItsSegment larger calls → (t : ℕ) (set : Whole) → HandsOut smaller calls t set → HandedOutSinceTheLastClear larger calls t set)
unfolding any_of same_bytes segment_end number_of
limit_needed f =
    unlike (collector 1) (map on soon) _ soon_1 (hands 2 z0) refl 2 (set_of 1 1 (z0 ∷ x1 ∷ [])) refl
    (f (collector 2) (collector 1) opened_2 opened_1 refl (map on soon) (fit soon soon_bytes)
    (never (collector 1) (map on soon) _ soon_1 conflicts refl (refused refusal.Conflict) refl) (stored (collector 2) (map on soon) _ soon_2 refl) (stored (collector 1) (map on soon) _ soon_1 refl)
    (none_dropped soon)
    (λ x y a b o. said_alike x y (accepted_among SaidHere (collector 1) (map on soon) soon_said soon_reads (soon_here) x a) (accepted_among SaidHere (collector 1) (map on soon) soon_said soon_reads (soon_here) y b) o)
    (accepted_among Within (collector 1) (map on soon) soon_said soon_reads (omega arith, (omega arith, (omega arith, tt))))
    2 (set_of 1 1 (z0 ∷ x1 ∷ [])) (ap (λ (as' : List Answer). get_elem? as' 2) soon_2))

-- ---- the smaller does not start empty: it has service 1's first section

abbrev both : List Bytes
both = z0 ∷ x1 ∷ []

abbrev both_said : List Call
both_said = said 1 0 1 1 0x4E z0 ∷ said 1 1 1 1 0x4E x1 ∷ []

both_reads : map reads (map on both) ≡ both_said
unfolding ties.reads read_section reads_as reads_eit section_of collected_of collected_long malformed header_of stored_crc worked_crc crc_from bits_in bit_in eit_of eit_as whole_entries entries_in
both_reads = refl

both_bytes : bytes_in both ≡ true
unfolding every
both_bytes = refl

both_replies : replies (shown 1) both_said ≡ nothing ∷ handout (set_of 1 1 (z0 ∷ x1 ∷ [])) ∷ []
unfolding replies
both_replies = refl

both_answers : answers_of (collector 1) (map on both) ≡ nothing ∷ handout (set_of 1 1 (z0 ∷ x1 ∷ [])) ∷ []
both_answers = runs (collector 1) opened_1 (shown 1) seen_1 both both_bytes both_said both_reads ∙ both_replies

abbrev second : List Bytes
second = x1 ∷ []

abbrev second_said : List Call
second_said = said 1 1 1 1 0x4E x1 ∷ []

second_reads : map reads (map on second) ≡ second_said
unfolding ties.reads read_section reads_as reads_eit section_of collected_of collected_long malformed header_of stored_crc worked_crc crc_from bits_in bit_in eit_of eit_as whole_entries entries_in
second_reads = refl

second_bytes : bytes_in second ≡ true
unfolding every
second_bytes = refl

second_replies : replies (shown 1) second_said ≡ nothing ∷ []
unfolding replies
second_replies = refl

second_answers : answers_of (collector 1) (map on second) ≡ nothing ∷ []
second_answers = runs (collector 1) opened_1 (shown 1) seen_1 second second_bytes second_said second_reads ∙ second_replies

abbrev begun : Collector
begun = acts (collector 1) (on z0)

begun_answers : answers_of begun (map on second) ≡ handout (set_of 1 1 (z0 ∷ x1 ∷ [])) ∷ []
unfolding answers
begun_answers = ap (λ (as' : List Answer). skip 1 as') both_answers

settings_stay : settings_of begun ≡ settings_of (collector 1)
settings_stay = acts_settings (collector 1) (opened_reached (collector 1) opened_1) (made (on z0)) (fit both both_bytes 0 (on z0) refl)

pub empty_start_needed : ¬ ((smaller larger : Collector) → StartsEmpty larger → EqualCellSize smaller larger → LimitNoLarger smaller larger → (calls : Calls) → CallsFit calls → RefusesNoneAsConflicting larger calls → RefusesNoneForItsStore smaller calls → RefusesNoneForItsStore larger calls → NothingDropped calls → SegmentsAgree larger calls → NoneAboveItsSegment larger calls → (t : ℕ) (set : Whole) → HandsOut smaller calls t set → HandedOutSinceTheLastClear larger calls t set)
unfolding any_of same_bytes segment_end number_of
empty_start_needed f =
    unlike (collector 1) (map on second) _ second_answers (hands 2 z0) refl 0 (set_of 1 1 (z0 ∷ x1 ∷ [])) refl
    (f begun (collector 1) opened_1 (ap (λ (o : Settings). o.cell_size) settings_stay) (le_of_eq (ap (λ (o : Settings). o.limit) settings_stay)) (map on second) (fit second second_bytes)
    (never (collector 1) (map on second) _ second_answers conflicts refl (refused refusal.Conflict) refl) (stored begun (map on second) _ begun_answers refl) (stored (collector 1) (map on second) _ second_answers refl)
    (none_dropped second) (agreeing 1 (collector 1) (map on second) second_said second_reads (refl, tt))
    (accepted_among Within (collector 1) (map on second) second_said second_reads (omega arith, tt))
    0 (set_of 1 1 (z0 ∷ x1 ∷ [])) (ap (λ (as' : List Answer). get_elem? as' 0) begun_answers))
