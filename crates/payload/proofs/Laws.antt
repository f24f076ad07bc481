-- One law for each turn and each way out of a function.
-- Assumes nothing.
use mathlib.Core.Path.{◌≡◌, refl, sym, ap, ◌∙◌}
use mathlib.Core.Logic.{◌≢◌}
use mathlib.Core.Bool.{Bool, true, false}
use mathlib.Core.List.{List, [], ◌∷◌, ◌++◌, append-nil}
use Prim.Native.Nat.{ℕ, suc, ◌+◌, ◌-◌, ◌*◌, ◌≤◌, ◌<◌}
use native.Mathlib.Omega.{arith}
use lib.Dec.{eqb}
use lib.ListN.{length, take, drop, get_or, set, length-append, length-drop, length-set, drop_of_length-le, get_or-append, take-append-drop}
use lib.Seq.{paste, length-take-le, drop-cons, drop-drop, get_or-drop, get_or-take, get_or-append-add, take_at, take_all}
use borrow.Author.Tests.{lt-ltb, le-ltb, le-leb, lt-leb, eq-eqb, ne_eqb}
use Rattle.laws.proofs.Lists.{rest_part, get_d_ix}
use Rattle.transport.specs.Rules.{Bytes, Read, lacking, read, found, gather}
use Rattle.transport.proofs.Gather.{not_under}
use Rattle.transport.proofs.Blocks.{gather_cut, gather_stuffing}
use Rattle.payload.specs.declared.Span.{Span}
use Rattle.payload.specs.declared.Parts.{Parts}
use Rattle.payload.specs.declared.Gone.{Gone}
use Rattle.payload.specs.declared.Begun.{Begun}
use Rattle.payload.specs.Payload.{total_of, end_of, front, bytes_of, ended_of, going_of, gone_of, Lies, Joins, parts, parts_of, placed, told_from, begun_of, HasPlaces}
use Rattle.payload.proofs.Ends.{lacks_by_end, all_by_end, at_front, begins_whole, past, goes_further, lack_fits, is_ended}

-- ---- a section's length

pub end_short : (x : Bytes) → length x < 3 → 0 ≡ end_of x
unfolding end_of
end_short x h = rw (lt-ltb (length x) 3 h)

pub end_cut : (x : Bytes) (size : ℕ) → 3 ≤ length x → size ≡ total_of (get_or x 1 0) (get_or x 2 0) → length x < size → 0 ≡ end_of x
unfolding end_of
end_cut x size h e l = rw (le-ltb (length x) 3 h, ← e, lt-ltb (length x) size l)

pub end_there : (x : Bytes) (size : ℕ) → 3 ≤ length x → size ≡ total_of (get_or x 1 0) (get_or x 2 0) → size ≤ length x → size ≡ end_of x
unfolding end_of
end_there x size h e l = rw (le-ltb (length x) 3 h, ← e, le-ltb (length x) size l)

module _ (buffer part : Bytes) (first size : ℕ) (f : first + size ≤ length buffer) where
  abbrev under : Bytes
  under = take size (drop first buffer)

  under_length : length under ≡ size
  under_length = length-take-le size (drop first buffer) (omega (arith, length-drop first buffer))

  there : length (under ++ part) ≡ size + length part
  there = length-append under part ∙ ap (λ (n : ℕ). n + length part) under_length

  pub byte_in_buffer : (i : ℕ) → i < size → get_or buffer (first + i) 0 ≡ get_or (under ++ part) i 0
  byte_in_buffer i h = sym (get_or-append under part 0 i (omega (arith, under_length)) ∙ get_or-take size (drop first buffer) i 0 h ∙ get_or-drop first buffer i 0)

  pub byte_in_part : (i : ℕ) → size ≤ i → get_or part (i - size) 0 ≡ get_or (under ++ part) i 0
  byte_in_part i h =
      let q : length under + (i - size) ≡ i = omega (arith, under_length) in
      sym (get_d_ix (under ++ part) 0 (sym q) ∙ get_or-append-add under part (i - size) 0)

  pub joined_short : size + length part < 3 → 0 ≡ end_of (under ++ part)
  joined_short h = end_short (under ++ part) (omega (arith, there))

  module _ (high low all : ℕ) (h : 3 ≤ size + length part) (p : high ≡ get_or (under ++ part) 1 0) (q : low ≡ get_or (under ++ part) 2 0) (e : all ≡ total_of high low) where
    by_bytes : all ≡ total_of (get_or (under ++ part) 1 0) (get_or (under ++ part) 2 0)
    by_bytes = rw (← p, ← q) e

    pub joined_cut : size + length part < all → 0 ≡ end_of (under ++ part)
    joined_cut l = end_cut (under ++ part) all (omega (arith, there)) by_bytes (omega (arith, there))

    pub joined_there : all ≤ size + length part → all ≡ end_of (under ++ part)
    joined_there l = end_there (under ++ part) all (omega (arith, there)) by_bytes (omega (arith, there))

-- ---- the buffer

-- nothing has to be moved
pub front_already : (buffer : Bytes) (first size : ℕ) → first + size ≤ length buffer → first ≡ 0 → buffer ≡ front (take size (drop first buffer)) buffer
unfolding front
front_already buffer first size h e =
    let q : length (take size buffer) ≡ size = length-take-le size buffer (omega arith) in
    rw (e, q) (sym (take-append-drop size buffer))

pub moved : (d : Bytes) (first size : ℕ) → first + size ≤ length d → paste d 0 (drop first d) (first + size - first) ≡ front (take size (drop first d)) d
unfolding front
moved d first size h =
    let n : first + size - first ≡ size = omega arith in
    let z : 0 + size ≡ size = omega arith in
    let p : length (take size (drop first d)) ≡ size = length-take-le size (drop first d) (omega (arith, length-drop first d)) in
    rw (n, z, p) refl

pub length_front : (w buffer : Bytes) → length w ≤ length buffer → length (front w buffer) ≡ length buffer
unfolding front
length_front w buffer h = omega (arith, length-append w (drop (length w) buffer), length-drop (length w) buffer)

-- bytes behind those at the front
pub front_more : (w part buffer : Bytes) (n : ℕ) → length w ≡ n → n + length part ≤ length buffer → paste (front w buffer) n part (length part) ≡ front (w ++ part) buffer
unfolding front
front_more w part buffer n e h =
    let q : drop (n + length part) (w ++ drop (length w) buffer) ≡ drop (length (w ++ part)) buffer =
    ap (λ (m : ℕ). drop (m + length part) (w ++ drop (length w) buffer)) (sym e) ∙ lib.Seq.drop-append-add w (drop (length w) buffer) (length part) ∙ drop-drop (length part) (length w) buffer
    ∙ ap (λ (m : ℕ). drop m buffer) (sym (length-append w part)) in
    rw (take_at w (drop (length w) buffer) n e, take_all (length part) part (omega arith), q) refl

pub joined : (d buffer buffer' part : Bytes) (first size : ℕ) → Joins d first size (length part) → buffer ≡ front (take size (drop first d)) d
    → buffer' ≡ paste buffer size part (length part) → buffer' ≡ front (take size (drop first d) ++ part) d
joined d buffer buffer' part first size j e p =
    let i : first + size ≤ length d = j.inside in
    let r : size + length part ≤ length d = j.room in
    let q : length (take size (drop first d)) ≡ size = length-take-le size (drop first d) (omega (arith, length-drop first d)) in
    rw (p, e) (front_more (take size (drop first d)) part d size q r)

-- ---- the section under way

none_under : (buffer : Bytes) (s : Span) → s.size ≡ 0 → bytes_of buffer s ≡ []
none_under buffer s h = rw h

module _ (buffer part : Bytes) (s : Span) (start : Bool) where
  abbrev u : Bytes
  u = bytes_of buffer s

  left : Gone → Bytes → Type 0
  left r now = (r ≡ gone_of start u part) × (now ≡ front (ended_of u part ++ going_of start u part) buffer)

  pub nothing_under : s.size ≡ 0 → (record { ended = 0; under = 0 } ≡ gone_of start u part) × (buffer ≡ front (ended_of u part ++ going_of start u part) buffer)
  unfolding front
  nothing_under h = go start
    where
      e : gather false u part ≡ read [] []
      e = rw (none_under buffer s h) (not_under part)

      go : (b : Bool) → (record { ended = 0; under = 0 } ≡ gone_of b u part) × (buffer ≡ front (ended_of u part ++ going_of b u part) buffer)
      go true = (rw e refl, rw e refl)
      go false = (rw e refl, rw e refl)

  module _ (f : Lies buffer s part) (n : s.size ≢ 0) where
    u_length : length u ≡ s.size
    u_length = let i : s.first + s.size ≤ length buffer = f.inside in length-take-le s.size (drop s.first buffer) (omega (arith, length-drop s.first buffer))

    some : 1 ≤ length u
    some = omega (arith, u_length)

    module _ (all : ℕ) (e : all ≡ end_of (u ++ part)) where
      module _ (z : all ≡ 0) where
        cut : gather false u part ≡ read [] (u ++ part)
        cut = goes_further u part some (lacks_by_end (u ++ part) (sym e ∙ z))

        pub is_dropped_lem : start ≡ true → (record { ended = 0; under = 0 } ≡ gone_of start u part) × (buffer ≡ front (ended_of u part ++ going_of start u part) buffer)
        unfolding front
        is_dropped_lem t = (rw (cut, t) refl, rw (cut, t) refl)

        pub is_longer : (now : Bytes) → start ≡ false → now ≡ front (u ++ part) buffer
            → (record { ended = 0; under = s.size + length part } ≡ gone_of start u part) × (now ≡ front (ended_of u part ++ going_of start u part) buffer)
        is_longer now t p =
            let l : s.size + length part ≡ length (u ++ part) = omega (arith, u_length, length-append u part) in
            (rw (cut, t, l) refl, rw (cut, t) p)

      module _ (z : all ≢ 0) where
        some_end : end_of (u ++ part) ≢ 0
        some_end q = z (e ∙ q)

        lacks : lacking (u ++ part) ≡ false
        lacks = all_by_end (u ++ part) some_end

        pub ends_later : s.size ≤ all
        ends_later = omega (arith, past u part f.lacks lacks, e, u_length)

        pub ends_within : all - s.size ≤ length part
        ends_within = omega (arith, (at_front (u ++ part) lacks).fits, e, u_length, length-append u part)

        pub end_joins : Joins buffer s.first s.size (length (take (all - s.size - 0) part))
        end_joins =
            let m : all - s.size - 0 ≤ length part = omega (arith, ends_within) in
            record { inside = f.inside; room = omega (arith, f.room, length-take-le (all - s.size - 0) part m) }

        pub is_finished : (now : Bytes) → now ≡ front (u ++ take (all - s.size - 0) part) buffer
            → (record { ended = all; under = 0 } ≡ gone_of start u part) × (now ≡ front (ended_of u part ++ going_of start u part) buffer)
        is_finished now p = go start
          where
            m : all - s.size - 0 ≡ end_of (u ++ part) - length u
            m = omega (arith, e, u_length)

            done : gather false u part ≡ read ((u ++ take (end_of (u ++ part) - length u) part) ∷ []) []
            done = is_ended u part some f.lacks lacks

            size : length (u ++ take (end_of (u ++ part) - length u) part) ≡ all
            size =
                let k : end_of (u ++ part) - length u ≤ length part = lack_fits u part some f.lacks lacks in
                let g : length u < end_of (u ++ part) = past u part f.lacks lacks in
                omega (arith, e, length-append u (take (end_of (u ++ part) - length u) part), length-take-le (end_of (u ++ part) - length u) part k)

            go : (b : Bool) → (record { ended = all; under = 0 } ≡ gone_of b u part) × (now ≡ front (ended_of u part ++ going_of b u part) buffer)
            go true = (rw (done, size) refl, rw (done, append-nil (u ++ take (end_of (u ++ part) - length u) part), ← m) p)
            go false = (rw (done, size) refl, rw (done, append-nil (u ++ take (end_of (u ++ part) - length u) part), ← m) p)

-- ---- the packet

module _ (packet : Bytes) (from : ℕ) where
  pub no_pointer : from ≡ length packet → parts (length packet) (length packet) (length packet) ≡ parts_of packet true from
  unfolding parts_of
  no_pointer e = rw (lt-leb (from + 1 + get_or packet from 0) (length packet) (omega arith)) refl

  pub pointer_past : (p : ℕ) → p ≡ get_or packet from 0 → length packet < from + 1 + p → parts (length packet) (length packet) (length packet) ≡ parts_of packet true from
  unfolding parts_of
  pointer_past p e h = rw (← e, lt-leb (from + 1 + p) (length packet) h) refl

  pub pointer_there : (p : ℕ) → p ≡ get_or packet from 0 → from + 1 + p ≤ length packet → parts (from + 1) (from + 1 + p) (from + 1 + p) ≡ parts_of packet true from
  unfolding parts_of
  pointer_there p e h = rw (← e, le-leb (from + 1 + p) (length packet) h) refl

  pub no_start : (start : Bool) → start ≡ false → parts from (length packet) (length packet) ≡ parts_of packet start from
  unfolding parts_of
  no_start start e = rw e refl

  pub a_start : (start : Bool) (r : Parts) → start ≡ true → r ≡ parts_of packet true from → r ≡ parts_of packet start from
  a_start start r e p = rw e p

-- ---- the sections that begin

pub placed_length : (places : List ℕ) (k x a n : ℕ) → length (placed places k x a n) ≡ length places
placed_length places k x a n =
    length-set (set (set places (k * 6 + 3) x) (k * 6 + 4) a) (k * 6 + 5) n ∙ length-set (set places (k * 6 + 3) x) (k * 6 + 4) a ∙ length-set places (k * 6 + 3) x

pub next_word : (places : List ℕ) (k x : ℕ) → k * 6 + 5 < length places → k * 6 + 4 < length (set places (k * 6 + 3) x)
next_word places k x h = rw length-set (omega arith)

abbrev pub begun_at : Bytes → ℕ → Read
begun_at packet at = gather true [] (drop at packet)

-- what the loop keeps: what is left gives the whole
pub record Going (packet : Bytes) (begin : ℕ) (places₀ : List ℕ) (count : ℕ) (places : List ℕ) (at k : ℕ) : Type 0 where
  pub inside : at ≤ length packet
  pub lists : length places ≡ length places₀
  pub enough : k * 6 + (length packet - at) * 2 ≤ length places₀
  pub same : begun_of k (begun_at packet at) ≡ begun_of count (begun_at packet begin)
  pub told : told_from places k at (begun_at packet at).sections ≡ told_from places₀ count begin (begun_at packet begin).sections

module _ (packet : Bytes) (begin : ℕ) (places₀ : List ℕ) (count : ℕ) where
  pub going_first : HasPlaces packet begin places₀ count → Going packet begin places₀ count places₀ begin count
  going_first h = record { inside = h.inside; lists = refl; enough = h.enough; same = refl; told = refl }

  module _ (places : List ℕ) (at k : ℕ) (g : Going packet begin places₀ count places at k) where
    goal : Begun → Type 0
    goal r = (r ≡ begun_of count (begun_at packet begin)) × (places ≡ told_from places₀ count begin (begun_at packet begin).sections)

    ends : (r : Read) → begun_at packet at ≡ r → r.sections ≡ [] → (record { count = k; under = length r.under } ≡ begun_of count (begun_at packet begin)) × (places ≡ told_from places₀ count begin (begun_at packet begin).sections)
    unfolding told_from
    ends r e z =
        let n : length r.sections ≡ 0 = rw z refl in
        let q : k ≡ k + length r.sections = omega arith in (
          (λ i. record { count = q i; under = length r.under }) ∙ ap (begun_of k) (sym e) ∙ g.same,
          ap (told_from places k at) (sym (ap (λ (x : Read). x.sections) e ∙ z)) ∙ g.told,
        )

    pub going_over : length packet ≤ at → (record { count = k; under = 0 } ≡ begun_of count (begun_at packet begin)) × (places ≡ told_from places₀ count begin (begun_at packet begin).sections)
    unfolding gather
    going_over h = ends (read [] []) (rw (drop_of_length-le packet h) refl) refl

    module _ (l : at < length packet) where
      next : drop at packet ≡ get_or packet at 0 ∷ drop (suc at) packet
      next = drop-cons packet at 0 l

      pub going_stuffing : get_or packet at 0 ≡ 255 → (record { count = k; under = 0 } ≡ begun_of count (begun_at packet begin)) × (places ≡ told_from places₀ count begin (begun_at packet begin).sections)
      going_stuffing b = ends (read [] []) (rw next (gather_stuffing (get_or packet at 0) (drop (suc at) packet) (eq-eqb _ 255 b))) refl

      module _ (b : get_or packet at 0 ≢ 255) (size : ℕ) (e : size ≡ end_of (take (length packet - at) (drop at packet))) where
        is_end : size ≡ end_of (drop at packet)
        is_end = rw (← (rest_part at packet)) e

        no_255 : eqb (get_or packet at 0) 255 ≡ false
        no_255 = ne_eqb (get_or packet at 0) 255 b

        pub going_cut : size ≡ 0 → (record { count = k; under = length packet - at } ≡ begun_of count (begun_at packet begin)) × (places ≡ told_from places₀ count begin (begun_at packet begin).sections)
        going_cut z =
            let h : lacking (get_or packet at 0 ∷ drop (suc at) packet) ≡ true = rw (← next) (lacks_by_end (drop at packet) (sym is_end ∙ z)) in
            let q : begun_at packet at ≡ read [] (drop at packet) = rw next (gather_cut (get_or packet at 0) (drop (suc at) packet) no_255 h) in
            rw (← (length-drop at packet)) (ends (read [] (drop at packet)) q refl)

        module _ (z : size ≢ 0) where
          stands : lacking (drop at packet) ≡ false
          stands = all_by_end (drop at packet) (λ q. z (is_end ∙ q))

          pub size_long : 3 ≤ size
          size_long = omega (arith, (at_front (drop at packet) stands).long, is_end)

          pub size_fits : at + size ≤ length packet
          size_fits = omega (arith, (at_front (drop at packet) stands).fits, is_end, length-drop at packet)

          pub place_there : k * 6 + 5 < length places
          place_there = omega (arith, size_long, size_fits, g.enough, g.lists)

          finds : begun_at packet at ≡ found (take size (drop at packet)) (begun_at packet (at + size))
          finds =
              let h : lacking (get_or packet at 0 ∷ drop (suc at) packet) ≡ false = rw (← next) stands in
              rw (← (drop-drop size at packet), is_end) (rw next (begins_whole (get_or packet at 0) (drop (suc at) packet) no_255 h))

          found_size : length (take size (drop at packet)) ≡ size
          found_size = length-take-le size (drop at packet) (omega (arith, size_fits, length-drop at packet))

          pub going_turn : (places' : List ℕ) → places' ≡ placed places k 0 at size → Going packet begin places₀ count places' (at + size) (k + 1)
          unfolding told_from
          going_turn places' p = record {
            inside = size_fits;
            lists = ap length p ∙ placed_length places k 0 at size ∙ g.lists;
            enough = omega (arith, size_long, size_fits, g.enough);
            same = (λ i. record { count = counts i; under = length (begun_at packet (at + size)).under }) ∙ ap (begun_of k) (sym finds) ∙ g.same;
            told = tells ∙ g.told;
          }
            where
              counts : k + 1 + length (begun_at packet (at + size)).sections ≡ k + suc (length (begun_at packet (at + size)).sections)
              counts = omega arith

              tells : told_from places' (k + 1) (at + size) (begun_at packet (at + size)).sections ≡ told_from places k at (begun_at packet at).sections
              tells =
                  ap (λ (ps : List ℕ). told_from ps (k + 1) (at + size) (begun_at packet (at + size)).sections) p
                  ∙ ap (λ (n : ℕ). told_from (placed places k 0 at n) (k + 1) (at + n) (begun_at packet (at + size)).sections) (sym found_size)
                  ∙ ap (λ (r : Read). told_from places k at r.sections) (sym finds)
