-- One packet over the words and the buffer of a PID is one step of the rules: the sections found are the rules', words and buffer then stand for the rules'
-- next state (`same_sections`, `same_state`), and the bytes that place k names are the k-th section found (`told_bytes`).
-- Assumes nothing.
use mathlib.Core.Path.{◌≡◌, refl, sym, ap, ◌∙◌}
use mathlib.Core.Logic.{◌≢◌, ◌⊎◌, inl, inr}
use mathlib.Core.Bool.{Bool, true, false, cond, not, ◌&&◌, true≢false}
use mathlib.Core.Option.{Option, some}
use mathlib.Core.List.{List, [], ◌∷◌, ◌++◌, append-nil, append_assoc}
use Prim.Native.Nat.{ℕ, zero, suc, ◌+◌, ◌-◌, ◌*◌, ◌%◌, ◌≤◌, ◌<◌}
use native.Mathlib.Nat.{add-zero}
use native.Mathlib.Numerals.{add-one}
use native.Mathlib.Omega.{arith}
use lib.Dec.{eqb, ltb, leb}
use lib.ListN.{length, take, drop, get_or, set, length-append, length-drop, length-set, drop_of_length-le}
use lib.Seq.{drop-cons, drop-drop, drop-length, take-take, take-append_seam, drop-append_seam, get_or-set_same, get_or-set_other}
use borrow.Author.Tests.{le-leb, lt-leb, le-ltb, lt-ltb, ne_eqb, leb-true, leb-false, eqb-true, ltb-true}
use Rattle.laws.proofs.Lists.{rest_part}
use Rattle.laws.proofs.Tests.{lt_or_le, and_true}
use Rattle.section.specs.Facts.{Bytes as AllBytes}
use Rattle.transport.specs.Rules.{Bytes, Read, read, found, then, whole, stops, gather, lacking, pointed, taken, Packet, State, next, repeats, follows, settle, ignored, judged, step, opened}
use Rattle.transport.proofs.Restart.{at_most_61}
use Rattle.packet.specs.declared.Load.{Load}
use Rattle.payload.specs.declared.Span.{Span}
use Rattle.payload.specs.declared.Parts.{Parts}
use Rattle.payload.specs.Payload.{front, bytes_of, first_of, ended_of, going_of, gone_of, parts, parts_of, part_of, placed, told_from}
use Rattle.payload.proofs.Ends.{Ways, nothing, longer, finished, ways, none_lacks, under_lacks, Suffix, under_last, Behind, behind, one_behind}
use Rattle.payload.proofs.Laws.{placed_length, length_front}
use Rattle.assemble.specs.declared.Words.{Words}
use Rattle.assemble.specs.Store.{span, span_in, under_in, state_in, is_repeat, follows_on, span_by, payload_of, Reading, reading_in, reading, unless_none, sections_of, ended_count, taken_of, ended_told, places_of, words_of, marked, repeated, moved, stepped_of, buffer_after, places_after, sections_in, told_at, Fits, Reads}
use Rattle.assemble.proofs.Laws.{span_reads, gone_fits}

-- ---- a payload

unless_some : (s : Bytes) → 3 ≤ length s → unless_none s ≡ s ∷ []
unless_some [] h = absurd (omega arith)
unless_some (b ∷ bs) h = refl

-- at most one section is finished that was under way
one_first : (u part : Bytes) → lacking u ≡ true → unless_none (ended_of u part) ≡ (gather false u part).sections
one_first u part h = go (ways u part h)
  where
    go : Ways u part → unless_none (ended_of u part) ≡ (gather false u part).sections
    go (nothing e) = rw e refl
    go (longer e k) = rw e refl
    go (finished s e w l m) = rw e (unless_some s l)

none_begun : gather true [] [] ≡ read [] []
unfolding gather
none_begun = refl

no_part : (u : Bytes) → gather false u [] ≡ read [] u
unfolding gather
no_part u = refl

pub record AsRuled (r : Reading) (x : Read) : Type 0 where
  pub sections : sections_of r ≡ x.sections
  pub under : r.under ≡ x.under

module _ (u packet : Bytes) (k : lacking u ≡ true) where
  nothing_read : AsRuled (reading_in u true packet (parts (length packet) (length packet) (length packet))) (read [] [])
  nothing_read =
      let z : length packet - length packet ≡ 0 = omega arith in
      record { sections = rw (drop-length packet, z, none_begun, no_part u) refl; under = rw (drop-length packet, none_begun) refl }

  by_start : (start : Bool) (from : ℕ) → from ≤ length packet → AsRuled (reading_in u start packet (parts_of packet start from)) (taken u start (drop from packet))
  unfolding parts_of taken pointed
  by_start false from h = record {
    sections = rw (rest_part from packet, drop-length packet, none_begun) (append-nil _ ∙ one_first u (drop from packet) k);
    under = rw (rest_part from packet, drop-length packet, none_begun) (append-nil _);
  }
  by_start true from h = go (lt_or_le from (length packet))
    where
      p : ℕ
      p = get_or packet from 0

      rest : Bytes
      rest = drop (suc from) packet

      behind : (b : Bool) → from < length packet → leb (from + 1 + p) (length packet) ≡ b
          → AsRuled (reading_in u true packet (cond b (parts (from + 1) (from + 1 + p) (from + 1 + p)) (parts (length packet) (length packet) (length packet))))
          (cond (leb p (length rest)) (then (gather false u (take p rest)) (gather true [] (drop p rest))) (read [] []))
      behind true l e =
          let i : from + 1 + p ≤ length packet = leb-true _ _ e in
          let t : leb p (length rest) ≡ true = le-leb p (length rest) (omega (arith, length-drop (suc from) packet)) in
          let m : from + 1 + p - (from + 1) ≡ p = omega arith in
          let d : drop (from + 1) packet ≡ rest = rw (add-one from) refl in
          let n : suc from + p ≡ from + 1 + p = omega arith in
          let q : drop (from + 1 + p) packet ≡ drop p rest = ap (λ (j : ℕ). drop j packet) (sym n) ∙ sym (drop-drop p (suc from) packet) in
          record {
            sections = rw (t, m, d, q) (ap (λ (x : List Bytes). x ++ (gather true [] (drop p rest)).sections) (one_first u (take p rest) k));
            under = rw (t, q) refl;
          }
      behind false l e =
          let i : length packet < from + 1 + p = leb-false _ _ e in
          let t : leb p (length rest) ≡ false = lt-leb p (length rest) (omega (arith, length-drop (suc from) packet)) in
          rw t nothing_read

      go : (from < length packet) ⊎ (length packet ≤ from)
          → AsRuled (reading_in u true packet (cond (leb (from + 1 + p) (length packet)) (parts (from + 1) (from + 1 + p) (from + 1 + p)) (parts (length packet) (length packet) (length packet)))) (taken u true (drop from packet))
      go (inl l) = rw (drop-cons packet from 0 l) (behind (leb (from + 1 + p) (length packet)) l refl)
      go (inr l) = rw (drop_of_length-le packet l, lt-leb (from + 1 + p) (length packet) (omega arith)) nothing_read

  pub as_ruled : (l : Load) → l.from ≤ length packet → AsRuled (reading u l packet) (taken u l.start (drop l.from packet))
  unfolding reading
  as_ruled l h = by_start l.start l.from h

-- ---- the bytes under way then

pub all_append : (a b : Bytes) → AllBytes a → AllBytes b → AllBytes (a ++ b)
all_append [] b f g i = g i
all_append (x ∷ a) b f g zero = f 0
all_append (x ∷ a) b f g (suc i) = all_append a b (λ j. f (suc j)) g i

all_none : AllBytes []
all_none i = omega arith

pub all_take : (n : ℕ) (a : Bytes) → AllBytes a → AllBytes (take n a)
all_take zero a f i = omega arith
all_take (suc n) [] f i = omega arith
all_take (suc n) (x ∷ a) f zero = f 0
all_take (suc n) (x ∷ a) f (suc i) = all_take n a (λ j. f (suc j)) i

pub all_drop : (n : ℕ) (a : Bytes) → AllBytes a → AllBytes (drop n a)
all_drop zero a f = f
all_drop (suc n) [] f = f
all_drop (suc n) (x ∷ a) f = all_drop n a (λ j. f (suc j))

gather_bytes : (begin : Bool) (got bs : Bytes) → AllBytes got → AllBytes bs → AllBytes (gather begin got bs).under
unfolding gather
gather_bytes begin got [] f g = f
gather_bytes begin got (b ∷ bs) f g = go (stops begin got b) (whole more) (gather_bytes begin [] bs all_none rest) (gather_bytes begin more bs (all_append got (b ∷ []) f one) rest)
  where
    more : Bytes
    more = got ++ (b ∷ [])

    rest : AllBytes bs
    rest i = g (suc i)

    one : AllBytes (b ∷ [])
    one zero = g 0
    one (suc i) = omega arith

    go : (p q : Bool) → AllBytes (gather begin [] bs).under → AllBytes (gather begin more bs).under
        → AllBytes (cond p (read [] []) (cond q (found more (gather begin [] bs)) (gather begin more bs))).under
    go true q i j = all_none
    go false true i j = i
    go false false i j = j

-- and the first section
first_bytes : (begin : Bool) (got bs : Bytes) → AllBytes got → AllBytes bs → AllBytes (first_of (gather begin got bs).sections)
unfolding gather
first_bytes begin got [] f g = all_none
first_bytes begin got (b ∷ bs) f g = go (stops begin got b) (whole more) (first_bytes begin more bs all (λ i. g (suc i)))
  where
    more : Bytes
    more = got ++ (b ∷ [])

    one : AllBytes (b ∷ [])
    one zero = g 0
    one (suc i) = omega arith

    all : AllBytes more
    all = all_append got (b ∷ []) f one

    go : (p q : Bool) → AllBytes (first_of (gather begin more bs).sections)
        → AllBytes (first_of (cond p (read [] []) (cond q (found more (gather begin [] bs)) (gather begin more bs))).sections)
    go true q j = all_none
    go false true j = all
    go false false j = j

pub record UnderWay (x : Bytes) : Type 0 where
  pub lacks : lacking x ≡ true
  pub bytes : AllBytes x

taken_under : (u : Bytes) (start : Bool) (bs : Bytes) → UnderWay u → AllBytes bs → UnderWay (taken u start bs).under
unfolding taken pointed
taken_under u false bs h g = record { lacks = under_lacks false u bs h.lacks; bytes = gather_bytes false u bs h.bytes g }
taken_under u true [] h g = record { lacks = none_lacks; bytes = all_none }
taken_under u true (p ∷ bs) h g = go (leb p (length bs))
  where
    go : (b : Bool) → UnderWay (cond b (then (gather false u (take p bs)) (gather true [] (drop p bs))) (read [] [])).under
    go true = record { lacks = under_lacks true [] (drop p bs) none_lacks; bytes = gather_bytes true [] (drop p bs) all_none (all_drop p bs (λ i. g (suc i))) }
    go false = record { lacks = none_lacks; bytes = all_none }

-- a section under way has at most 4,097 bytes
under_small : (x : Bytes) → UnderWay x → length x ≤ 4097
unfolding lacking
under_small [] h = omega arith
under_small (t ∷ []) h = omega arith
under_small (t ∷ u ∷ []) h = omega arith
under_small (t ∷ u ∷ l ∷ more) h =
    let k : length more < u % 16 * 256 + l = ltb-true _ _ h.lacks in
    let b : l < 256 = h.bytes 2 in
    omega arith

-- ---- what words and buffer stand for

not_not : (b : Bool) → not (not b) ≡ b
not_not true = refl
not_not false = refl

repeat_same : (fresh : Bool) (w : Words) (buffer : Bytes) (c : ℕ) → is_repeat fresh w.counter c ≡ repeats (state_in fresh w buffer).last (state_in fresh w buffer).again c
unfolding state_in opened repeats
repeat_same true w buffer c = refl
repeat_same false w buffer c = ap (λ (b : Bool). eqb c (w.counter % 16) && b) (sym (not_not (ltb (w.counter % 32) 16)))

follows_same : (fresh : Bool) (w : Words) (buffer : Bytes) (c : ℕ) → follows_on fresh w.counter c ≡ follows (state_in fresh w buffer).last c
unfolding state_in opened follows next
follows_same true w buffer c = refl
follows_same false w buffer c = refl

-- the bytes that a packet goes on with are those of the rules
goes_with : (fresh : Bool) (w : Words) (buffer : Bytes) (c : ℕ) → bytes_of buffer (span_by fresh w buffer c) ≡ cond (follows (state_in fresh w buffer).last c) (state_in fresh w buffer).under []
unfolding state_in opened span_by follows next
goes_with true w buffer c = refl
goes_with false w buffer c = go (eqb c ((w.counter % 16 + 1) % 16))
  where
    go : (b : Bool) → bytes_of buffer (cond b (span_in w buffer) (span 0 0)) ≡ cond b (bytes_of buffer (span_in w buffer)) []
    go true = refl
    go false = refl

judged_sections : (r f : Bool) (s : State) (p : Packet) → (judged r f s p).sections ≡ cond r [] (taken (cond f s.under []) p.start p.payload).sections
unfolding judged settle ignored
judged_sections true f s p = refl
judged_sections false true s p = refl
judged_sections false false s p = refl

abbrev after : Option ℕ → Bool → Bytes → State
after last again under = record { last = last; again = again; under = under }

judged_state : (r f : Bool) (s : State) (p : Packet)
    → (judged r f s p).state ≡ cond r (after s.last true s.under) (after (some p.counter) false (taken (cond f s.under []) p.start p.payload).under)
unfolding judged settle ignored
judged_state true f s p = refl
judged_state false true s p = refl
judged_state false false s p = refl

repeat_state : (fresh : Bool) (w : Words) (buffer : Bytes) (c : ℕ) → c < 16 → is_repeat fresh w.counter c ≡ true
    → state_in false (marked w c) buffer ≡ after (state_in fresh w buffer).last true (state_in fresh w buffer).under
unfolding state_in span_in
repeat_state true w buffer c h e = absurd (true≢false (sym e))
repeat_state false w buffer c h e =
    let q : c ≡ w.counter % 16 = eqb-true c (w.counter % 16) (and_true (eqb c (w.counter % 16)) (ltb (w.counter % 32) 16) e).0 in
    let p : (c + 16) % 16 ≡ w.counter % 16 = omega arith in
    let a : not (ltb ((c + 16) % 32) 16) ≡ true = rw (le-ltb ((c + 16) % 32) 16 (omega arith)) refl in
    λ i. record { last = some (p i); again = a i; under = under_in w buffer }

read_state : (w : Words) (buffer under : Bytes) → w.counter < 16 → under_in w buffer ≡ under → state_in false w buffer ≡ after (some w.counter) false under
unfolding state_in
read_state w buffer under h e =
    let p : w.counter % 16 ≡ w.counter = omega arith in
    let a : not (ltb (w.counter % 32) 16) ≡ false = rw (lt-ltb (w.counter % 32) 16 (omega arith)) refl in
    λ i. record { last = some (p i); again = a i; under = e i }

-- ---- the places

module _ (ps : List ℕ) (k x a n : ℕ) where
  abbrev one : List ℕ
  one = set ps (k * 6 + 3) x

  abbrev two : List ℕ
  two = set one (k * 6 + 4) a

  -- the words of a place that was told
  module _ (h : k * 6 + 5 < length ps) where
    word_3 : get_or (placed ps k x a n) (k * 6 + 3) 0 ≡ x
    word_3 =
        get_or-set_other two (k * 6 + 5) (k * 6 + 3) n 0 (λ e. omega arith) ∙ get_or-set_other one (k * 6 + 4) (k * 6 + 3) a 0 (λ e. omega arith)
        ∙ get_or-set_same ps (k * 6 + 3) x 0 (omega arith)

    word_4 : get_or (placed ps k x a n) (k * 6 + 4) 0 ≡ a
    word_4 = get_or-set_other two (k * 6 + 5) (k * 6 + 4) n 0 (λ e. omega arith) ∙ get_or-set_same one (k * 6 + 4) a 0 (omega (arith, length-set ps (k * 6 + 3) x))

    word_5 : get_or (placed ps k x a n) (k * 6 + 5) 0 ≡ n
    word_5 = get_or-set_same two (k * 6 + 5) n 0 (omega (arith, length-set one (k * 6 + 4) a, length-set ps (k * 6 + 3) x))

  -- those of an earlier one
  other_place : (j i : ℕ) → j < k → i ≤ 5 → get_or (placed ps k x a n) (j * 6 + i) 0 ≡ get_or ps (j * 6 + i) 0
  other_place j i h l =
      get_or-set_other two (k * 6 + 5) (j * 6 + i) n 0 (λ e. omega arith) ∙ get_or-set_other one (k * 6 + 4) (j * 6 + i) a 0 (λ e. omega arith)
      ∙ get_or-set_other ps (k * 6 + 3) (j * 6 + i) x 0 (λ e. omega arith)

-- earlier places stay
earlier : (ps : List ℕ) (k at : ℕ) (ss : List Bytes) (j i : ℕ) → j < k → i ≤ 5 → get_or (told_from ps k at ss) (j * 6 + i) 0 ≡ get_or ps (j * 6 + i) 0
unfolding told_from
earlier ps k at [] j i h l = refl
earlier ps k at (s ∷ ss) j i h l = earlier (placed ps k 0 at (length s)) (k + 1) (at + length s) ss j i (omega arith) l ∙ other_place ps k 0 at (length s) j i h l

named_alike : (packet buffers : Bytes) (ps qs : List ℕ) (k : ℕ) → ((i : ℕ) → i ≤ 5 → get_or ps (k * 6 + i) 0 ≡ get_or qs (k * 6 + i) 0) → told_at packet buffers ps k ≡ told_at packet buffers qs k
named_alike packet buffers ps qs k f = rw (f 3 (omega arith), f 4 (omega arith), f 5 (omega arith)) refl

-- the sections that lie in the packet
named_there : (packet buffers : Bytes) (ps : List ℕ) (k at : ℕ) (ss : List Bytes) → Behind (drop at packet) ss → (k + length ss) * 6 ≤ length ps → (j : ℕ) → j < length ss
    → told_at packet buffers (told_from ps k at ss) (k + j) ≡ get_or ss j []
unfolding told_from
named_there packet buffers ps k at [] b f j l = absurd (omega arith)
named_there packet buffers ps k at (s ∷ ss) (behind e b) f zero l =
    let q : List ℕ = placed ps k 0 at (length s) in
    let m : k * 6 + 5 < length ps = omega arith in
    rw (add-zero k)
    (named_alike packet buffers (told_from q (k + 1) (at + length s) ss) q k (λ i x. earlier q (k + 1) (at + length s) ss k i (omega arith) x)
    ∙ rw (word_3 ps k 0 at (length s) m, word_4 ps k 0 at (length s) m, word_5 ps k 0 at (length s) m) e)
named_there packet buffers ps k at (s ∷ ss) (behind e b) f (suc j) l =
    let n : k + suc j ≡ k + 1 + j = omega arith in
    rw n
    (named_there packet buffers (placed ps k 0 at (length s)) (k + 1) (at + length s) ss (rw (← (drop-drop (length s) at packet)) b)
    (rw (placed_length ps k 0 at (length s)) (omega arith)) j (omega arith))

-- and the one that stands at the front of its buffer
named_all : (packet buffers : Bytes) (ps : List ℕ) (number at : ℕ) (e : Bytes) (ss : List Bytes) → Behind (drop at packet) ss → 384 ≤ length ps → length (unless_none e ++ ss) ≤ 61
    → take (length e) (drop (number * 4288) buffers) ≡ e → (k : ℕ) → k < length (unless_none e ++ ss)
    → told_at packet buffers (told_from (ended_told ps number (length e)) (ended_count (length e)) at ss) k ≡ get_or (unless_none e ++ ss) k []
named_all packet buffers ps number at [] ss b f m e k l =
    let z : 0 + k ≡ k = omega arith in
    rw (← z) (named_there packet buffers ps 0 at ss b (omega arith) k l ∙ rw z refl)
named_all packet buffers ps number at (x ∷ xs) ss b f m e zero l =
    let n : ℕ = length (x ∷ xs) in
    let q : List ℕ = placed ps 0 1 (number * 4288) n in
    let i : 0 * 6 + 5 < length ps = omega arith in
    rw (ne_eqb n 0 (λ (z : n ≡ 0). omega arith))
    (named_alike packet buffers (told_from q 1 at ss) q 0 (λ i y. earlier q 1 at ss 0 i (omega arith) y)
    ∙ rw (word_3 ps 0 1 (number * 4288) n i, word_4 ps 0 1 (number * 4288) n i, word_5 ps 0 1 (number * 4288) n i) e)
named_all packet buffers ps number at (x ∷ xs) ss b f m e (suc k) l =
    let n : ℕ = length (x ∷ xs) in
    let z : suc k ≡ 1 + k = omega arith in
    rw (ne_eqb n 0 (λ (z : n ≡ 0). omega arith), z)
    (named_there packet buffers (placed ps 0 1 (number * 4288) n) 1 at ss b (rw (placed_length ps 0 1 (number * 4288) n) (omega arith)) k (omega arith))

begun_there : (u : Bytes) (l : Load) (packet : Bytes) → Behind (drop (reading u l packet).at packet) (reading u l packet).begun
unfolding reading
begun_there u l packet = one_behind [] (drop (parts_of packet l.start l.from).begin packet)

module _ (fresh : Bool) (w : Words) (buffer : Bytes) (number : ℕ) (l : Load) (packet : Bytes) (places : List ℕ) (h : Fits buffer number l packet places) where
  abbrev before : State
  before = state_in fresh w buffer

  abbrev arriving : Packet
  arriving = payload_of l packet

  abbrev under : Span
  under = span_by fresh w buffer l.counter

  abbrev u : Bytes
  u = bytes_of buffer under

  abbrev r : Reading
  r = reading u l packet

  abbrev again : Bool
  again = is_repeat fresh w.counter l.counter

  reads : Reads buffer number under l packet places
  reads = span_reads fresh w buffer number l packet places again refl under h refl

  ruled : AsRuled r (taken u l.start (drop l.from packet))
  ruled = as_ruled u packet reads.lacks l (omega (arith, h.inside, h.long))

  -- the rules' bytes, and the store's
  rules_take : taken (cond (follows before.last l.counter) before.under []) l.start (drop l.from packet) ≡ taken u l.start (drop l.from packet)
  rules_take = ap (λ (x : Bytes). taken x l.start (drop l.from packet)) (sym (goes_with fresh w buffer l.counter))

  pub same_sections : sections_in fresh w buffer l packet ≡ (step before arriving).sections
  unfolding sections_in step
  same_sections =
      sym (judged_sections (repeats before.last before.again l.counter) (follows before.last l.counter) before arriving
      ∙ rw (← (repeat_same fresh w buffer l.counter), rules_take, ← ruled.sections) refl)

  -- the number told is that of the sections
  pub same_count : (stepped_of fresh w buffer number l packet).count ≡ length (sections_in fresh w buffer l packet)
  unfolding stepped_of sections_in
  same_count = go again
    where
      counts : (e : Bytes) (b : List Bytes) → ended_count (length e) + length b ≡ length (unless_none e ++ b)
      counts [] b = omega arith
      counts (x ∷ e) b = rw (ne_eqb (length (x ∷ e)) 0 (λ q. omega arith)) (omega arith)

      go : (a : Bool) → (cond a (repeated w l.counter) (moved number l.counter (taken_of r))).count ≡ length (cond a [] (sections_of r))
      go true = refl
      go false = counts r.ended r.begun

  most : length (sections_of r) ≤ 61
  most = rw ruled.sections (at_most_61 u l.start (drop l.from packet) (omega (arith, length-drop l.from packet, h.long, h.headed)))

  pub few_sections : length (sections_in fresh w buffer l packet) ≤ 61
  unfolding sections_in
  few_sections = go again
    where
      go : (a : Bool) → length (cond a [] (sections_of r)) ≤ 61
      go true = omega arith
      go false = most

  -- what stands in the buffer then
  left_fits : length r.ended + length r.under ≤ 4288
  unfolding reading
  left_fits =
      let p : Parts = parts_of packet l.start l.from in
      let rest : Read = gather true [] (drop p.begin packet) in
      let g = gone_fits buffer number under l packet places reads p refl (gone_of l.start u (part_of packet p)) refl in
      let s : Suffix (drop p.begin packet) rest.under = under_last true [] (drop p.begin packet) in
      omega (arith, g, s.fewer, length-drop p.begin packet, length-append (going_of l.start u (part_of packet p)) rest.under)

  -- the buffer is as long as it was
  pub buffer_length : length (buffer_after fresh w buffer l packet) ≡ length buffer
  unfolding buffer_after
  buffer_length = go again
    where
      go : (a : Bool) → length (cond a buffer (front (r.ended ++ r.under) buffer)) ≡ length buffer
      go true = refl
      go false = length_front (r.ended ++ r.under) buffer (omega (arith, left_fits, length-append r.ended r.under, h.room))

  -- the PID holds its buffer then
  pub number_then : (fresh ≡ false → w.number ≡ number + 1) → (stepped_of fresh w buffer number l packet).words.number ≡ number + 1
  unfolding stepped_of
  number_then f = go fresh refl
    where
      go : (a : Bool) → fresh ≡ a → (cond (is_repeat a w.counter l.counter) (repeated w l.counter) (moved number l.counter (taken_of r))).words.number ≡ number + 1
      go true e = refl
      go false e = repeat (eqb l.counter (w.counter % 16) && ltb (w.counter % 32) 16)
        where
          repeat : (b : Bool) → (cond b (repeated w l.counter) (moved number l.counter (taken_of r))).words.number ≡ number + 1
          repeat true = f e
          repeat false = refl

  front_ended : take (length r.ended) (front (r.ended ++ r.under) buffer) ≡ r.ended
  unfolding front
  front_ended =
      rw (append_assoc r.ended r.under (drop (length (r.ended ++ r.under)) buffer)) (take-append_seam r.ended (r.under ++ drop (length (r.ended ++ r.under)) buffer))

  front_under : take (length r.under) (drop (length r.ended) (front (r.ended ++ r.under) buffer)) ≡ r.under
  unfolding front
  front_under =
      rw (append_assoc r.ended r.under (drop (length (r.ended ++ r.under)) buffer), drop-append_seam r.ended (r.under ++ drop (length (r.ended ++ r.under)) buffer))
      (take-append_seam r.under (drop (length (r.ended ++ r.under)) buffer))

  -- words and buffer then stand for the rules' next state
  module _ (bs : AllBytes buffer) (ps : AllBytes packet) where
    way : UnderWay r.under
    way =
        let b : AllBytes u = all_take under.size (drop under.first buffer) (all_drop under.first buffer bs) in
        rw ruled.under (taken_under u l.start (drop l.from packet) (record { lacks = reads.lacks; bytes = b }) (all_drop l.from packet ps))

    -- the buffer holds bytes
    pub buffer_bytes : AllBytes (buffer_after fresh w buffer l packet)
    unfolding buffer_after front reading
    buffer_bytes = go again
      where
        p : Parts
        p = parts_of packet l.start l.from

        ended : AllBytes r.ended
        ended =
            first_bytes false u (part_of packet p) (all_take under.size (drop under.first buffer) (all_drop under.first buffer bs))
            (all_take (p.to - p.from) (drop p.from packet) (all_drop p.from packet ps))

        go : (a : Bool) → AllBytes (cond a buffer ((r.ended ++ r.under) ++ drop (length (r.ended ++ r.under)) buffer))
        go true = bs
        go false = all_append (r.ended ++ r.under) (drop (length (r.ended ++ r.under)) buffer) (all_append r.ended r.under ended way.bytes) (all_drop (length (r.ended ++ r.under)) buffer bs)

    under_then : under_in (words_of number l.counter (taken_of r)) (front (r.ended ++ r.under) buffer) ≡ r.under
    unfolding span_in
    under_then =
        rw (le-leb (length r.under) 4097 (under_small r.under way), le-leb (length r.ended + length r.under) 4288 left_fits, front_under, way.lacks) front_under

    pub same_state : state_in false (stepped_of fresh w buffer number l packet).words (buffer_after fresh w buffer l packet) ≡ (step before arriving).state
    unfolding step stepped_of buffer_after
    same_state = go again refl ∙ ap (λ (b : Bool). cond b kept moves) (repeat_same fresh w buffer l.counter) ∙ sym (judged_state (repeats before.last before.again l.counter) (follows before.last l.counter) before arriving)
      where
        kept : State
        kept = after before.last true before.under

        moves : State
        moves = after (some l.counter) false (taken (cond (follows before.last l.counter) before.under []) l.start (drop l.from packet)).under

        go : (a : Bool) → again ≡ a
            → state_in false (cond a (repeated w l.counter) (moved number l.counter (taken_of r))).words (cond a buffer (front (r.ended ++ r.under) buffer)) ≡ cond a kept moves
        go true e = repeat_state fresh w buffer l.counter h.counted e
        go false e =
            read_state (words_of number l.counter (taken_of r)) (front (r.ended ++ r.under) buffer) r.under h.counted under_then
            ∙ ap (after (some l.counter) false) (ruled.under ∙ ap (λ (x : Read). x.under) (sym rules_take))

  in_buffers : (buffers : Bytes) → again ≡ false → take 4288 (drop (number * 4288) buffers) ≡ buffer_after fresh w buffer l packet → take (length r.ended) (drop (number * 4288) buffers) ≡ r.ended
  unfolding buffer_after
  in_buffers buffers e is =
      let q : take 4288 (drop (number * 4288) buffers) ≡ front (r.ended ++ r.under) buffer = rw e at is in
      sym (take-take (length r.ended) 4288 (drop (number * 4288) buffers) (omega (arith, left_fits))) ∙ ap (take (length r.ended)) q ∙ front_ended

  -- the bytes that place k names, in the packet and in buffers of which this one is number `number`
  module _ (buffers : Bytes) (is : take 4288 (drop (number * 4288) buffers) ≡ buffer_after fresh w buffer l packet) where
    pub told_bytes : (k : ℕ) → k < length (sections_in fresh w buffer l packet)
        → told_at packet buffers (places_after fresh w buffer number l packet places) k ≡ get_or (sections_in fresh w buffer l packet) k []
    unfolding places_after sections_in buffer_after
    told_bytes = go again refl
      where
        there : Behind (drop r.at packet) r.begun
        there = begun_there u l packet

        go : (a : Bool) → again ≡ a → (k : ℕ) → k < length (cond a [] (sections_of r)) → told_at packet buffers (cond a places (places_of places number r)) k ≡ get_or (cond a [] (sections_of r)) k []
        go true e k m = absurd (omega arith)
        go false e k m = named_all packet buffers places number r.at r.ended r.begun there h.listed most (in_buffers buffers e is) k m
