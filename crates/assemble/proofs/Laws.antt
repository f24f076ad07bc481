-- One law for each way out of a function.
-- Assumes nothing.
use mathlib.Core.Path.{◌≡◌, refl, sym, ap, ◌∙◌}
use mathlib.Core.Logic.{◌≢◌}
use mathlib.Core.Bool.{Bool, true, false, cond, ◌&&◌}
use mathlib.Core.List.{List, [], ◌++◌, append_assoc}
use Prim.Native.Nat.{ℕ, ◌+◌, ◌-◌, ◌*◌, ◌≤◌, ◌<◌}
use native.Mathlib.Omega.{arith}
use lib.Dec.{eqb, leb}
use lib.ListN.{length, take, drop, get_or, length-append, length-drop}
use lib.Seq.{paste, length-take-le}
use borrow.Author.Tests.{le-leb, lt-leb, eq-eqb, ne_eqb, leb-true}
use Rattle.laws.proofs.Lists.{rest_part}
use Rattle.transport.specs.Rules.{Bytes, Read, lacking, gather}
use Rattle.packet.specs.declared.Load.{Load}
use Rattle.payload.specs.declared.Span.{Span}
use Rattle.payload.specs.declared.Parts.{Parts}
use Rattle.payload.specs.declared.Gone.{Gone}
use Rattle.payload.specs.declared.Begun.{Begun}
use Rattle.payload.specs.Payload.{end_of, front, bytes_of, ended_of, going_of, gone_of, Lies, parts, parts_of, placed, told_from, begun_of, HasPlaces}
use Rattle.payload.proofs.Ends.{lacks_by_end, all_by_end, none_lacks, Suffix, under_last, gone_short}
use Rattle.payload.proofs.Laws.{placed_length, front_more}
use Rattle.assemble.specs.declared.Words.{Words}
use Rattle.assemble.specs.declared.Taken.{Taken}
use Rattle.assemble.specs.Store.{span, span_in, span_by, is_repeat, follows_on, Reading, reading_in, reading, ended_count, ended_told, places_of, taken_of, marked, moved, stepped_of, buffer_after, places_after, Fits, Reads}

-- ---- the bytes under way

module _ (w : Words) (buffer : Bytes) where
  pub too_many : 4097 < w.size → span 0 0 ≡ span_in w buffer
  unfolding span_in
  too_many h = rw (lt-leb w.size 4097 h) refl

  pub past_end : w.size ≤ 4097 → 4288 - w.size < w.first → span 0 0 ≡ span_in w buffer
  unfolding span_in
  past_end h k = rw (le-leb w.size 4097 h, lt-leb (w.first + w.size) 4288 (omega arith)) refl

  module _ (h : w.size ≤ 4097) (k : w.first ≤ 4288 - w.size) (r : ℕ) (e : r ≡ end_of (take (w.first + w.size - w.first) (drop w.first buffer))) where
    abbrev named : Bytes
    named = take w.size (drop w.first buffer)

    is_end : r ≡ end_of named
    is_end = let q : w.first + w.size - w.first ≡ w.size = omega arith in e ∙ ap (λ (n : ℕ). end_of (take n (drop w.first buffer))) q

    pub whole_there : r ≢ 0 → span 0 0 ≡ span_in w buffer
    unfolding span_in
    whole_there n = rw (le-leb w.size 4097 h, le-leb (w.first + w.size) 4288 (omega arith), all_by_end named (λ q. n (is_end ∙ q))) refl

    pub lacks_there : r ≡ 0 → span w.first w.size ≡ span_in w buffer
    unfolding span_in
    lacks_there z = rw (le-leb w.size 4097 h, le-leb (w.first + w.size) 4288 (omega arith), lacks_by_end named (sym is_end ∙ z)) refl

module _ (fresh : Bool) (w : Words) (buffer : Bytes) (c : ℕ) (f : Bool) (e : f ≡ follows_on fresh w.counter c) where
  pub goes_on_lem : (r : Span) → f ≡ true → r ≡ span_in w buffer → r ≡ span_by fresh w buffer c
  unfolding span_by
  goes_on_lem r t p = rw (← e, t) p

  pub jumps : f ≡ false → span 0 0 ≡ span_by fresh w buffer c
  unfolding span_by
  jumps t = rw (← e, t) refl

-- they lie in the buffer, whatever the words hold
pub record InBuffer (buffer : Bytes) (s : Span) : Type 0 where
  pub within : s.first + s.size ≤ 4288
  pub small : s.size ≤ 4097
  pub lacks : lacking (bytes_of buffer s) ≡ true

none_in_lem : (buffer : Bytes) → InBuffer buffer (span 0 0)
none_in_lem buffer = record { within = omega arith; small = omega arith; lacks = none_lacks }

pub span_in_lem : (w : Words) (buffer : Bytes) → InBuffer buffer (span_in w buffer)
unfolding span_in
span_in_lem w buffer = go (leb w.size 4097) (leb (w.first + w.size) 4288) (lacking (take w.size (drop w.first buffer))) refl refl refl
  where
    go : (a b d : Bool) → leb w.size 4097 ≡ a → leb (w.first + w.size) 4288 ≡ b → lacking (take w.size (drop w.first buffer)) ≡ d
        → InBuffer buffer (cond (a && b && d) (span w.first w.size) (span 0 0))
    go true true true p q r = record { within = leb-true _ _ q; small = leb-true _ _ p; lacks = r }
    go true true false p q r = none_in_lem buffer
    go true false d p q r = none_in_lem buffer
    go false b d p q r = none_in_lem buffer

pub span_by_lem : (fresh : Bool) (w : Words) (buffer : Bytes) (c : ℕ) → InBuffer buffer (span_by fresh w buffer c)
unfolding span_by
span_by_lem fresh w buffer c = go (follows_on fresh w.counter c)
  where
    go : (b : Bool) → InBuffer buffer (cond b (span_in w buffer) (span 0 0))
    go true = span_in_lem w buffer
    go false = none_in_lem buffer

-- ---- the places

module _ (places : List ℕ) (number ended : ℕ) where
  pub none_ended : ended ≡ 0 → (0 ≡ ended_count ended) × (places ≡ ended_told places number ended)
  none_ended e = (rw (eq-eqb ended 0 e) refl, rw (eq-eqb ended 0 e) refl)

  pub one_ended : (places' : List ℕ) → ended ≢ 0 → places' ≡ placed places 0 1 (number * 4288) ended → (1 ≡ ended_count ended) × (places' ≡ ended_told places number ended)
  one_ended places' n e = (rw (ne_eqb ended 0 n) refl, rw (ne_eqb ended 0 n) e)

pub ended_length : (places : List ℕ) (number ended : ℕ) → length (ended_told places number ended) ≡ length places
ended_length places number ended = go (eqb ended 0)
  where
    go : (b : Bool) → length (cond b places (placed places 0 1 (number * 4288) ended)) ≡ length places
    go true = refl
    go false = placed_length places 0 1 (number * 4288) ended

ended_few : (ended : ℕ) → ended_count ended ≤ 1
ended_few ended = go (eqb ended 0)
  where
    go : (b : Bool) → cond b 0 1 ≤ 1
    go true = omega arith
    go false = omega arith

-- ---- the parts of a packet

pub record Within (packet : Bytes) (p : Parts) : Type 0 where
  pub ordered : p.from ≤ p.to
  pub before : p.to ≤ p.begin
  pub inside : p.begin ≤ length packet

pub parts_within : (packet : Bytes) (start : Bool) (from : ℕ) → from ≤ length packet → Within packet (parts_of packet start from)
unfolding parts_of
parts_within packet start from h = go start (leb (from + 1 + get_or packet from 0) (length packet)) refl
  where
    go : (a b : Bool) → leb (from + 1 + get_or packet from 0) (length packet) ≡ b
        → Within packet (cond a (cond b (parts (from + 1) (from + 1 + get_or packet from 0) (from + 1 + get_or packet from 0)) (parts (length packet) (length packet) (length packet))) (parts from (length packet) (length packet)))
    go true true e = record { ordered = omega arith; before = omega arith; inside = leb-true _ _ e }
    go true false e = record { ordered = omega arith; before = omega arith; inside = omega arith }
    go false b e = record { ordered = h; before = omega arith; inside = omega arith }

-- ---- one payload

module _ (buffer : Bytes) (number : ℕ) (under : Span) (l : Load) (packet : Bytes) (places : List ℕ) (h : Reads buffer number under l packet places) (p : Parts)
    (e : p ≡ parts_of packet l.start l.from) where
  abbrev u : Bytes
  u = bytes_of buffer under

  abbrev part : Bytes
  part = take (p.to - p.from) (drop p.from packet)

  fit : Within packet p
  fit = rw e (parts_within packet l.start l.from (omega (arith, h.inside, h.long)))

  pub part_ordered : p.from ≤ p.to
  part_ordered = fit.ordered

  pub part_inside : p.to ≤ length packet
  part_inside = omega (arith, fit.before, fit.inside)

  part_length : length part ≡ p.to - p.from
  part_length = length-take-le (p.to - p.from) (drop p.from packet) (omega (arith, part_inside, length-drop p.from packet))

  pub part_lies : Lies buffer under part
  part_lies = record {
    inside = omega (arith, h.room, h.within);
    lacks = h.lacks;
    room = omega (arith, part_length, part_inside, h.room, h.small, h.long);
  }

  u_length : length u ≡ under.size
  u_length = length-take-le under.size (drop under.first buffer) (omega (arith, h.room, h.within, length-drop under.first buffer))

  module _ (gone : Gone) (g : gone ≡ gone_of l.start u part) where
    -- what stands at the front, and what may come behind it
    pub gone_fits : gone.ended + gone.under + (length packet - p.begin) ≤ 4288
    gone_fits =
        let a : gone.ended ≡ length (ended_of u part) = ap (λ (x : Gone). x.ended) g in
        let b : gone.under ≡ length (going_of l.start u part) = ap (λ (x : Gone). x.under) g in
        omega (arith, a, b, gone_short u part l.start h.lacks, u_length, part_length, fit.ordered, fit.before, fit.inside, h.small, h.long)

    pub can_add : gone.ended + gone.under ≤ 4288
    can_add = omega (arith, gone_fits)

    module _ (places₁ : List ℕ) (count : ℕ) (c : count ≡ ended_count gone.ended) (t : places₁ ≡ ended_told places number gone.ended) where
      pub has_places : HasPlaces packet p.begin places₁ count
      has_places = record {
        inside = fit.inside;
        enough = omega (arith, c, ended_few gone.ended, ap length t, ended_length places number gone.ended, h.long, h.listed);
      }

      module _ (begun : Begun) (b : begun ≡ begun_of count (gather true [] (drop p.begin packet))) where
        abbrev rest : Read
        rest = gather true [] (drop p.begin packet)

        last : Suffix (drop p.begin packet) rest.under
        last = under_last true [] (drop p.begin packet)

        under_size : begun.under ≡ length rest.under
        under_size = ap (λ (x : Begun). x.under) b

        pub few_under : begun.under ≤ length packet
        few_under = omega (arith, under_size, last.fewer, length-drop p.begin packet, fit.inside)

        few_behind : begun.under ≤ length packet - p.begin
        few_behind = omega (arith, under_size, last.fewer, length-drop p.begin packet, fit.inside)

        behind : take (length packet - (length packet - begun.under)) (drop (length packet - begun.under) packet) ≡ rest.under
        behind =
            let q : p.begin + (length (drop p.begin packet) - length rest.under) ≡ length packet - begun.under =
            omega (arith, under_size, last.fewer, length-drop p.begin packet, fit.inside) in
            rest_part (length packet - begun.under) packet ∙ ap (λ (n : ℕ). drop n packet) (sym q)
            ∙ sym (lib.Seq.drop-drop (length (drop p.begin packet) - length rest.under) p.begin packet) ∙ last.same

        pub can_keep : (buffer₁ : Bytes) → length buffer₁ ≡ length buffer
            → gone.ended + gone.under + length (take (length packet - (length packet - begun.under)) (drop (length packet - begun.under) packet)) ≤ length buffer₁
        can_keep buffer₁ m = rw behind (omega (arith, gone_fits, few_behind, under_size, h.room, m))

        pub can_add_under : gone.under + begun.under ≤ 4288
        can_add_under = omega (arith, gone_fits, few_behind)

        abbrev r : Reading
        r = reading u l packet

        same_reading : r ≡ reading_in u l.start packet p
        unfolding reading
        same_reading = ap (reading_in u l.start packet) (sym e)

        all_taken : record { ended = gone.ended; under = gone.under + begun.under; count = begun.count } ≡ taken_of r
        all_taken =
            let a : gone.ended ≡ length (ended_of u part) = ap (λ (x : Gone). x.ended) g in
            let d : gone.under ≡ length (going_of l.start u part) = ap (λ (x : Gone). x.under) g in
            let f : gone.under + begun.under ≡ length (going_of l.start u part ++ rest.under) = omega (arith, d, under_size, length-append (going_of l.start u part) rest.under) in
            let k : begun.count ≡ ended_count (length (ended_of u part)) + length rest.sections = ap (λ (x : Begun). x.count) b ∙ ap (λ (n : ℕ). n + length rest.sections) (c ∙ ap ended_count a) in
            (λ i. record { ended = a i; under = f i; count = k i }) ∙ ap taken_of (sym same_reading)

        all_kept : (buffer₁ buffer₂ : Bytes) → buffer₁ ≡ front (ended_of u part ++ going_of l.start u part) buffer
            → buffer₂ ≡ paste buffer₁ (gone.ended + gone.under) (take (length packet - (length packet - begun.under)) (drop (length packet - begun.under) packet))
            (length (take (length packet - (length packet - begun.under)) (drop (length packet - begun.under) packet)))
            → buffer₂ ≡ front (r.ended ++ r.under) buffer
        all_kept buffer₁ buffer₂ x y =
            let w : Bytes = ended_of u part ++ going_of l.start u part in
            let a : gone.ended ≡ length (ended_of u part) = ap (λ (x : Gone). x.ended) g in
            let d : gone.under ≡ length (going_of l.start u part) = ap (λ (x : Gone). x.under) g in
            let n : length w ≡ gone.ended + gone.under = omega (arith, a, d, length-append (ended_of u part) (going_of l.start u part)) in
            let m : gone.ended + gone.under + length rest.under ≤ length buffer = omega (arith, gone_fits, few_behind, under_size, h.room) in
            rw (y, behind, x) (front_more w rest.under buffer (gone.ended + gone.under) n m)
            ∙ ap (λ (z : Bytes). front z buffer) (append_assoc (ended_of u part) (going_of l.start u part) rest.under)
            ∙ ap (λ (z : Reading). front (z.ended ++ z.under) buffer) (sym same_reading)

        all_told : (places₂ : List ℕ) → places₂ ≡ told_from places₁ count p.begin rest.sections → places₂ ≡ places_of places number r
        all_told places₂ x =
            let a : gone.ended ≡ length (ended_of u part) = ap (λ (x : Gone). x.ended) g in
            x ∙ (rw (t, c, a) refl) ∙ ap (places_of places number) (sym same_reading)

        pub all_left_lem : (buffer₁ buffer₂ : Bytes) (places₂ : List ℕ) → buffer₁ ≡ front (ended_of u part ++ going_of l.start u part) buffer
            → buffer₂ ≡ paste buffer₁ (gone.ended + gone.under) (take (length packet - (length packet - begun.under)) (drop (length packet - begun.under) packet))
            (length (take (length packet - (length packet - begun.under)) (drop (length packet - begun.under) packet)))
            → places₂ ≡ told_from places₁ count p.begin rest.sections
            → (record { ended = gone.ended; under = gone.under + begun.under; count = begun.count } ≡ taken_of r) × ((buffer₂ ≡ front (r.ended ++ r.under) buffer) × (places₂ ≡ places_of places number r))
        all_left_lem buffer₁ buffer₂ places₂ x y z = (all_taken, (all_kept buffer₁ buffer₂ x y, all_told places₂ z))

-- ---- one packet

module _ (fresh : Bool) (w : Words) (buffer : Bytes) (number : ℕ) (l : Load) (packet : Bytes) (places : List ℕ) (b : Bool) (e : b ≡ is_repeat fresh w.counter l.counter) where
  module _ (t : b ≡ true) where
    pub repeat_words : (m : Words) → m ≡ marked w l.counter → record { words = m; count = 0 } ≡ stepped_of fresh w buffer number l packet
    unfolding stepped_of
    repeat_words m p = rw (← e, t, p) refl

    pub repeat_buffer : buffer ≡ buffer_after fresh w buffer l packet
    unfolding buffer_after
    repeat_buffer = rw (← e, t) refl

    pub repeat_places : places ≡ places_after fresh w buffer number l packet places
    unfolding places_after
    repeat_places = rw (← e, t) refl

  pub span_reads : (s : Span) → Fits buffer number l packet places → s ≡ span_by fresh w buffer l.counter → Reads buffer number s l packet places
  span_reads s h q =
      let i : InBuffer buffer s = rw q (span_by_lem fresh w buffer l.counter) in
      record {
        room = h.room;
        numbered = h.numbered;
        within = i.within;
        small = i.small;
        lacks = i.lacks;
        inside = h.inside;
        long = h.long;
        listed = h.listed;
      }

  module _ (t : b ≡ false) (s : Span) (q : s ≡ span_by fresh w buffer l.counter) where
    pub read_words : (x : Taken) → x ≡ taken_of (reading (bytes_of buffer s) l packet)
        → record { words = record { number = number + 1; counter = l.counter; first = x.ended; size = x.under }; count = x.count } ≡ stepped_of fresh w buffer number l packet
    unfolding stepped_of
    read_words x p = rw (← e, t) (ap (moved number l.counter) p ∙ ap (λ (z : Span). moved number l.counter (taken_of (reading (bytes_of buffer z) l packet))) q)

    pub read_buffer : (buffer' : Bytes) → buffer' ≡ front ((reading (bytes_of buffer s) l packet).ended ++ (reading (bytes_of buffer s) l packet).under) buffer → buffer' ≡ buffer_after fresh w buffer l packet
    unfolding buffer_after
    read_buffer buffer' p = rw (← e, t) (p ∙ ap (λ (z : Span). front ((reading (bytes_of buffer z) l packet).ended ++ (reading (bytes_of buffer z) l packet).under) buffer) q)

    pub read_places : (places' : List ℕ) → places' ≡ places_of places number (reading (bytes_of buffer s) l packet) → places' ≡ places_after fresh w buffer number l packet places
    unfolding places_after
    read_places places' p = rw (← e, t) (p ∙ ap (λ (z : Span). places_of places number (reading (bytes_of buffer z) l packet)) q)
