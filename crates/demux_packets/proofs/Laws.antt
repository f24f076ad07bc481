-- One law for each way out of a function.
-- Assumes nothing.
use mathlib.Core.Path.{◌≡◌, refl, sym, ap, ◌∙◌}
use mathlib.Core.Bool.{Bool, true, false, cond, not}
use mathlib.Core.List.{List, ◌++◌, append_assoc}
use Prim.Native.Nat.{ℕ, ◌+◌, ◌-◌, ◌*◌, ◌≤◌, ◌<◌}
use native.Mathlib.Omega.{arith}
use lib.Dec.{ltb}
use lib.ListN.{length, take, drop, length-drop}
use lib.Seq.{paste, take_all, drop-drop, length-take-le}
use borrow.Rule.Slice.PartMut.{put_mid}
use borrow.Author.Tests.{lt-ltb, le-ltb}
use Rattle.laws.specs.Bits.{has_bit}
use Rattle.cells.specs.Cells.{lowest_free}
use Rattle.packet.specs.declared.Load.{Load}
use Rattle.packet.specs.declared.Packet.{Packet}
use Rattle.packet.specs.declared.Packet.TheVariants as read
use Rattle.packet.specs.Packets.{packet_of, IsLoad}
use Rattle.assemble.specs.declared.Words.{Words}
use Rattle.assemble.specs.declared.Stepped.{Stepped}
use Rattle.assemble.specs.Store.{stepped_of, buffer_after, places_after}
use Rattle.streams.specs.Store.{is_named, buffer_of, held_buffer, is_fresh, used_buffer, words_at, with_words, buffer_at, pids_read, buffers_read, places_read, count_read}
use Rattle.demux_packets.specs.declared.Plan.{Plan}
use Rattle.demux_packets.specs.declared.Plan.TheVariants.{Malformed, Nothing, Unwatched, NoBuffer, Read}
use Rattle.demux_packets.specs.Plans.{reading, buffer_plan, load_plan, packet_plan, plan_of}

-- ---- the buffer

module _ (count : ℕ) (pids : List ℕ) (l : Load) (w : Words) (k : w ≡ words_at pids l.pid) (own : ℕ) (h : own ≡ buffer_of w.number count) where
  e : own ≡ held_buffer count pids l.pid.0
  e = h ∙ ap (λ (x : Words). buffer_of x.number count) k

  pub its_own : own < count → Read (reading l own false) ≡ buffer_plan count pids l
  unfolding buffer_plan
  its_own i = rw (← e, lt-ltb own count i, lt-ltb own count i) refl

  module _ (i : count ≤ own) (free : ℕ) (f : free ≡ lowest_free (is_named pids 8192) count) where
    pub a_free_one : free < count → Read (reading l free true) ≡ buffer_plan count pids l
    unfolding buffer_plan
    a_free_one j = rw (← e, le-ltb own count i, ← f, lt-ltb free count j) refl

    pub none_free : count ≤ free → NoBuffer ≡ buffer_plan count pids l
    unfolding buffer_plan
    none_free j = rw (← e, le-ltb own count i, ← f, le-ltb free count j) refl

-- ---- the watch

module _ (watched : List ℕ) (count : ℕ) (pids : List ℕ) (l : Load) (b : Bool) (e : b ≡ has_bit watched l.pid.0) where
  pub is_watched : (p : Plan) → b ≡ true → p ≡ buffer_plan count pids l → p ≡ load_plan watched count pids l
  unfolding load_plan
  is_watched p t q = rw (← e, t) q

  pub not_watched : b ≡ false → Unwatched l.pid ≡ load_plan watched count pids l
  unfolding load_plan
  not_watched f = rw (← e, f) refl

-- ---- the packet

module _ (watched : List ℕ) (count : ℕ) (pids packet : List ℕ) (r : Packet) (e : r ≡ packet_of packet) where
  pub is_malformed_lem : r ≡ read.Malformed → Malformed ≡ plan_of watched count pids packet
  unfolding plan_of packet_plan
  is_malformed_lem h = rw (← e, h) refl

  pub has_nothing : r ≡ read.Nothing → Nothing ≡ plan_of watched count pids packet
  unfolding plan_of packet_plan
  has_nothing h = rw (← e, h) refl

  pub has_payload : (l : Load) (p : Plan) → r ≡ read.Payload l → p ≡ load_plan watched count pids l → p ≡ plan_of watched count pids packet
  unfolding plan_of packet_plan
  has_payload l p h q = rw (← e, h) q

-- ---- the payload

-- a buffer that was lent as a part of the bytes, and came back
part_back : (xs ys : List ℕ) (a n : ℕ) → length ys ≡ n → put_mid a n xs ys ≡ paste xs a ys n
part_back xs ys a n l =
    let q : take n ys ≡ ys = take_all n ys (omega arith) in
    sym (append_assoc (take a xs) ys (drop n (drop a xs))) ∙ (λ i. (take a xs ++ sym q i) ++ drop-drop n a xs i)

module _ (pids buffers places : List ℕ) (number : ℕ) (fresh : Bool) (l : Load) (packet : List ℕ) where
  abbrev size : ℕ
  size = number * 4288 + 4288 - number * 4288

  abbrev part : List ℕ
  part = take size (drop (number * 4288) buffers)

  size_is : size ≡ 4288
  size_is = omega arith

  part_is : part ≡ buffer_at buffers number
  part_is = ap (λ (n : ℕ). take n (drop (number * 4288) buffers)) size_is

  pub read_left : (w : Words) (s : Stepped) (pids' buffer places' : List ℕ) → w ≡ words_at pids l.pid → s ≡ stepped_of fresh w part number l packet → buffer ≡ buffer_after fresh w part l packet
      → places' ≡ places_after fresh w part number l packet places → pids' ≡ with_words pids l.pid s.words → length buffer ≡ length part → number * 4288 + 4288 ≤ length buffers
      → (s.count ≡ count_read number fresh pids buffers l packet)
      × ((pids' ≡ pids_read number fresh pids buffers l packet)
      × ((put_mid (number * 4288) size buffers buffer ≡ buffers_read number fresh pids buffers l packet) × (places' ≡ places_read number fresh pids buffers l packet places)))
  read_left w s pids' buffer places' e s_is b_is p_is w_is n h =
      let n' : length buffer ≡ 4288 = n ∙ ap length part_is ∙ length-take-le 4288 (drop (number * 4288) buffers) (omega (arith, length-drop (number * 4288) buffers)) in
      let s' : s ≡ stepped_of fresh (words_at pids l.pid) (buffer_at buffers number) number l packet = s_is ∙ (λ i. stepped_of fresh (e i) (part_is i) number l packet) in
      let b' : buffer ≡ buffer_after fresh (words_at pids l.pid) (buffer_at buffers number) l packet = b_is ∙ (λ i. buffer_after fresh (e i) (part_is i) l packet) in (
        ap (λ (x : Stepped). x.count) s',
        (
          w_is ∙ ap (λ (x : Stepped). with_words pids l.pid x.words) s',
          (
            ap (λ (m : ℕ). put_mid (number * 4288) m buffers buffer) size_is ∙ part_back buffers buffer (number * 4288) 4288 n' ∙ ap (λ (x : List ℕ). paste buffers (number * 4288) x 4288) b',
            p_is ∙ (λ i. places_after fresh (e i) (part_is i) number l packet places),
          ),
        ),
      )
