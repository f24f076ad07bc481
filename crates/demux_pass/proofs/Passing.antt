-- Packets that are passed over in one go leave what they leave when they are fed one by one, open in the gate.
-- Assumes nothing.
use mathlib.Core.Path.{◌≡◌, refl, sym, ap, ◌∙◌}
use mathlib.Core.Bool.{Bool, true, false, cond, not, true≢false}
use mathlib.Core.List.{List}
use Prim.Native.Nat.{ℕ, zero, suc, ◌+◌, ◌-◌, ◌*◌, ◌/◌, ◌≤◌, ◌<◌}
use native.Mathlib.Omega.{arith}
use lib.Dec.{ltb}
use lib.ListN.{length, take, drop, set, length-set}
use borrow.Author.Tests.{le-leb, lt-leb, ltb-true, ltb-false}
use Rattle.laws.specs.Bits.{has_bit}
use Rattle.section.specs.declared.ids.Pid.{Pid}
use Rattle.packet.specs.declared.Packet.{Packet}
use Rattle.packet.specs.declared.Packet.TheVariants as read
use Rattle.packet.specs.Packets.{packet_of}
use Rattle.streams.specs.Store.{four, with_words, used_buffer, is_fresh}
use Rattle.streams.specs.declared.Streams.{Streams}
use Rattle.passing.specs.Passing as over
use Rattle.passing.specs.Passing.{passes_as, pids_as, passes, pids_after, passed, more_by, passed_from}
use Rattle.demux_state.specs.State.{is_near}
use Rattle.demux_packets.specs.declared.Plan.{Plan}
use Rattle.demux_packets.specs.declared.Plan.TheVariants.{Nothing, Unwatched, NoBuffer, Read}
use Rattle.demux_packets.specs.Plans.{reading, buffer_plan, load_plan, packet_plan, plan_of, no_words}
use Rattle.demux_judge.specs.Verdicts.{Verdict}
use Rattle.std.specs.Prelude.{Ok}
use Rattle.demux_store.specs.Carried.{StoreOf, LeftOf, store_of}
use Rattle.demux_pass.specs.Passing.{plan_passes, is_passed, PassingOf, gone, one_more, passing_by, most_of}

-- ---- how many

module _ (counted there : ℕ) where
  pub all_there : there < 18446744073709551551 - counted → there ≡ most_of counted there
  unfolding most_of
  all_there h = go (ltb there (18446744073709551551 - counted)) refl
    where
      go : (b : Bool) → ltb there (18446744073709551551 - counted) ≡ b → there ≡ cond b there (18446744073709551551 - counted)
      go true e = refl
      go false e = let x : 18446744073709551551 - counted ≤ there = ltb-false there (18446744073709551551 - counted) e in absurd (omega arith)

  pub till_end : 18446744073709551551 - counted ≤ there → 18446744073709551551 - counted ≡ most_of counted there
  unfolding most_of
  till_end h = go (ltb there (18446744073709551551 - counted)) refl
    where
      go : (b : Bool) → ltb there (18446744073709551551 - counted) ≡ b → 18446744073709551551 - counted ≡ cond b there (18446744073709551551 - counted)
      go true e = let x : there < 18446744073709551551 - counted = ltb-true there (18446744073709551551 - counted) e in absurd (omega arith)
      go false e = refl

  -- no more than there are, none past the end, and fewer only at the end
  pub record Most (m : ℕ) : Type 0 where
    pub few : m ≤ there
    pub fits : counted + m ≤ 18446744073709551551
    pub ends : m < there → counted + m ≡ 18446744073709551551

  pub most_is : counted < 18446744073709551551 → Most (most_of counted there)
  unfolding most_of
  most_is h = go (ltb there (18446744073709551551 - counted)) refl
    where
      go : (b : Bool) → ltb there (18446744073709551551 - counted) ≡ b → Most (cond b there (18446744073709551551 - counted))
      go true e = let x : there < 18446744073709551551 - counted = ltb-true there (18446744073709551551 - counted) e in record { few = omega arith; fits = omega arith; ends = λ y. absurd (omega arith) }
      go false e = let x : 18446744073709551551 - counted ≤ there = ltb-false there (18446744073709551551 - counted) e in record { few = omega arith; fits = omega arith; ends = λ y. omega arith }

pub no_more : (m : ℕ) (watched packets pids : List ℕ) → (passed_from m watched packets pids).number ≤ m
unfolding passed_from
no_more zero watched packets pids = omega arith
no_more (suc m) watched packets pids = go (passes watched (take 188 packets)) (no_more m watched (drop 188 packets) (pids_after watched (take 188 packets) pids))
  where
    go : (b : Bool) → (passed_from m watched (drop 188 packets) (pids_after watched (take 188 packets) pids)).number ≤ m
        → (cond b (more_by 1 (passed_from m watched (drop 188 packets) (pids_after watched (take 188 packets) pids))) (passed 0 pids)).number ≤ suc m
    go true h = omega arith
    go false h = omega arith

-- ---- one packet

-- what a plan and what the bytes say is the same
plan_same : (watched : List ℕ) (count : ℕ) (pids : List ℕ) (r : Packet) → plan_passes (packet_plan watched count pids r) ≡ passes_as watched r
unfolding plan_passes packet_plan passes_as load_plan buffer_plan
plan_same watched count pids read.Malformed = refl
plan_same watched count pids read.Nothing = refl
plan_same watched count pids (read.Payload l) = go (has_bit watched l.pid.0) (ltb (used_buffer count pids l.pid.0) count)
  where
    go : (b c : Bool) → plan_passes (cond b (cond c (Read (reading l (used_buffer count pids l.pid.0) (is_fresh count pids l.pid.0))) NoBuffer) (Unwatched l.pid)) ≡ not b
    go true true = refl
    go true false = refl
    go false c = refl

length_four : (pids : List ℕ) (at a b c d : ℕ) → length (four pids at a b c d) ≡ length pids
length_four pids at a b c d =
    length-set (set3 (at + 2) c) (at + 3) d ∙ length-set (set2 (at + 1) b) (at + 2) c ∙ length-set set1 (at + 1) b ∙ length-set pids at a
  where
    set1 : List ℕ
    set1 = set pids at a

    set2 : ℕ → ℕ → List ℕ
    set2 i x = set set1 i x

    set3 : ℕ → ℕ → List ℕ
    set3 i x = set (set2 (at + 1) b) i x

length_after_lem : (watched : List ℕ) (r : Packet) (pids : List ℕ) → length (pids_as watched r pids) ≡ length pids
unfolding pids_as
length_after_lem watched read.Malformed pids = refl
length_after_lem watched read.Nothing pids = refl
length_after_lem watched (read.Payload l) pids = go (has_bit watched l.pid.0)
  where
    go : (b : Bool) → length (cond b pids (with_words pids l.pid no_words)) ≡ length pids
    go true = refl
    go false = length_four pids (l.pid.0 * 4) 0 0 0 0

-- ---- one after another

module _ {S : Type 0} (verdict : StoreOf S → (input : ℕ) → List ℕ → Verdict) (feeds : StoreOf S → (input : ℕ) → List ℕ → LeftOf S) (g : S) (t : Streams) (buffers places : List ℕ)
    (input : ℕ) (watched : List ℕ) (size : ℕ) where
  -- the streams have counted n packets
  abbrev pub state_at : ℕ → List ℕ → StoreOf S
  state_at n pids = store_of g (record { count = t.count; packets = n; malformed = t.malformed }) pids buffers places

  module _
      (goes : (n : ℕ) (pids packet : List ℕ) → is_near n ≡ false → length pids ≡ size → verdict (state_at n pids) input packet ≡ Ok (plan_of watched t.count pids packet))
      (ends : (n : ℕ) (pids packet : List ℕ) → is_near n ≡ true → is_passed (verdict (state_at n pids) input packet) ≡ false)
      (feeds_nothing : (n : ℕ) (pids packet : List ℕ) → verdict (state_at n pids) input packet ≡ Ok Nothing → (feeds (state_at n pids) input packet).store ≡ state_at (n + 1) pids)
      (feeds_other : (n : ℕ) (pids packet : List ℕ) (pid : Pid) → verdict (state_at n pids) input packet ≡ Ok (Unwatched pid) → (feeds (state_at n pids) input packet).store ≡ state_at (n + 1) (with_words pids pid no_words)) where
    fed_on : (n : ℕ) (pids packet : List ℕ) → is_near n ≡ false → length pids ≡ size → passes watched packet ≡ true → (feeds (state_at n pids) input packet).store ≡ state_at (n + 1) (pids_after watched packet pids)
    unfolding plan_of packet_plan load_plan passes_as pids_as
    fed_on n pids packet f k h = go (packet_of packet) refl h
      where
        go : (r : Packet) → packet_of packet ≡ r → passes_as watched r ≡ true → (feeds (state_at n pids) input packet).store ≡ state_at (n + 1) (pids_as watched r pids)
        go read.Malformed e h = absurd (true≢false (sym h))
        go read.Nothing e h = feeds_nothing n pids packet (goes n pids packet f k ∙ ap (λ (r : Packet). Ok (packet_plan watched t.count pids r)) e)
        go (read.Payload l) e h = other (has_bit watched l.pid.0) refl h
          where
            other : (b : Bool) → has_bit watched l.pid.0 ≡ b → not b ≡ true → (feeds (state_at n pids) input packet).store ≡ state_at (n + 1) (cond b pids (with_words pids l.pid no_words))
            other true x y = absurd (true≢false (sym y))
            other false x y =
                feeds_other n pids packet l.pid
                (goes n pids packet f k ∙ ap (λ (r : Packet). Ok (packet_plan watched t.count pids r)) e ∙ ap (λ (b : Bool). Ok (cond b (buffer_plan t.count pids l) (Unwatched l.pid))) x)

    module _ (k m n : ℕ) (pids packets : List ℕ) (f : is_near n ≡ false) (s : length pids ≡ size) where
      abbrev packet : List ℕ
      packet = take 188 packets

      abbrev then : List ℕ
      then = pids_after watched packet pids

      abbrev rest : over.Passed
      rest = passed_from m watched (drop 188 packets) then

      turn : (b : Bool) → passes watched packet ≡ b → gone rest.number (state_at (n + 1 + rest.number) rest.pids) ≡ passing_by verdict feeds k (state_at (n + 1) then) input (drop 188 packets)
          → gone (cond b (more_by 1 rest) (passed 0 pids)).number (state_at (n + (cond b (more_by 1 rest) (passed 0 pids)).number) (cond b (more_by 1 rest) (passed 0 pids)).pids)
          ≡ cond (is_passed (verdict (state_at n pids) input packet)) (one_more (passing_by verdict feeds k (feeds (state_at n pids) input packet).store input (drop 188 packets))) (gone 0 (state_at n pids))
      unfolding is_passed plan_of
      turn true e h =
          let z : n + (1 + rest.number) ≡ n + 1 + rest.number = omega arith in
          let v : is_passed (verdict (state_at n pids) input packet) ≡ true = ap is_passed (goes n pids packet f s) ∙ plan_same watched t.count pids (packet_of packet) ∙ e in
          let w : (feeds (state_at n pids) input packet).store ≡ state_at (n + 1) then = fed_on n pids packet f s e in
          (λ i. gone (1 + rest.number) (state_at (z i) rest.pids)) ∙ ap one_more h
          ∙ sym (λ i. cond (v i) (one_more (passing_by verdict feeds k (w i) input (drop 188 packets))) (gone 0 (state_at n pids)))
      turn false e h =
          let z : n + 0 ≡ n = omega arith in
          let v : is_passed (verdict (state_at n pids) input packet) ≡ false = ap is_passed (goes n pids packet f s) ∙ plan_same watched t.count pids (packet_of packet) ∙ e in
          (λ i. gone 0 (state_at (z i) pids))
          ∙ sym (λ i. cond (v i) (one_more (passing_by verdict feeds k (feeds (state_at n pids) input packet).store input (drop 188 packets))) (gone 0 (state_at n pids)))

    pub one_by_one : (k m n : ℕ) (pids packets : List ℕ) → length pids ≡ size → m ≤ k → n + m ≤ 18446744073709551551 → (m < k → n + m ≡ 18446744073709551551)
        → gone (passed_from m watched packets pids).number (state_at (n + (passed_from m watched packets pids).number) (passed_from m watched packets pids).pids) ≡ passing_by verdict feeds k (state_at n pids) input packets
    unfolding passing_by passed_from
    one_by_one zero zero n pids packets s a b c = let z : n + 0 ≡ n = omega arith in λ i. gone 0 (state_at (z i) pids)
    one_by_one zero (suc m) n pids packets s a b c = absurd (omega arith)
    one_by_one (suc k) zero n pids packets s a b c =
        let q : n + 0 ≡ 18446744073709551551 = c (omega arith) in
        let z : n + 0 ≡ n = omega arith in
        let v : is_passed (verdict (state_at n pids) input (take 188 packets)) ≡ false = ends n pids (take 188 packets) (le-leb 18446744073709551551 n (omega arith)) in
        (λ i. gone 0 (state_at (z i) pids))
        ∙ sym (λ i. cond (v i) (one_more (passing_by verdict feeds k (feeds (state_at n pids) input (take 188 packets)).store input (drop 188 packets))) (gone 0 (state_at n pids)))
    one_by_one (suc k) (suc m) n pids packets s a b c =
        turn k m n pids packets (lt-leb 18446744073709551551 n (omega arith)) s (passes watched (take 188 packets)) refl
        (one_by_one k m (n + 1) (pids_after watched (take 188 packets) pids) (drop 188 packets) (length_after_lem watched (packet_of (take 188 packets)) pids ∙ s) (omega arith) (omega arith)
        (λ h. let q : n + suc m ≡ 18446744073709551551 = c (omega arith) in omega arith))
