-- One packet with a payload over the PID words and the buffers is one packet of the rules: it goes to the stream that the rules say (`takes`; `takes_none`: 43), finishes
-- the sections of the rules (`finishes`), and leaves words and buffers that stand for the rules' streams (`holds_then`). No two PIDs hold one buffer, before and
-- after (`apart-then`).
-- Assumes nothing.
use mathlib.Core.Path.{◌≡◌, refl, sym, ap, ◌∙◌}
use mathlib.Core.Logic.{◌≢◌, by_cases}
use mathlib.Core.Bool.{Bool, true, false, cond, not, ◌&&◌, true≢false}
use mathlib.Core.Option.{Option, none, some}
use mathlib.Core.List.{List, []}
use Prim.Native.Nat.{ℕ, ◌+◌, ◌-◌, ◌*◌, ◌≤◌, ◌<◌}
use native.Mathlib.Decide.{ℕ_discrete}
use native.Mathlib.Omega.{arith}
use lib.Dec.{eqb, ltb}
use lib.ListN.{length, drop, get_or, replicate, length-drop, length-replicate}
use lib.Seq.{length-take-le}
use borrow.Author.Tests.{lt-ltb, le-ltb, ltb-true, ltb-false, eq-eqb, ne_eqb}
use Rattle.laws.specs.Bits.{has_bit}
use Rattle.cells.specs.Cells.{lowest_free}
use Rattle.section.specs.Facts.{Bytes as AllBytes}
use Rattle.section.specs.declared.ids.Pid.{Pid}
use Rattle.packet.specs.declared.Load.{Load}
use Rattle.packet.specs.Packets.{IsLoad}
use Rattle.transport.specs.Rules.{State, step}
use Rattle.transport.specs.Receiver.{Stream, Streams, stream, with_stream, leaving, taking}
use Rattle.assemble.specs.declared.Words.{Words}
use Rattle.assemble.specs.Store.{state_in, payload_of, stepped_of, buffer_after, places_after, told_at, Fits}
use Rattle.assemble.proofs.Ties.{same_sections, same_state, few_sections, told_bytes, buffer_length, number_then, all_take, all_drop}
use Rattle.streams.specs.Store.{buffer_of, is_named, with_words, given_back, cleared, buffer_at, held_buffer, is_fresh, used_buffer}
use Rattle.streams.proofs.After.{words_of, put_there, put_apart, back_stays, back_gone, cleared_word}
use Rattle.ties_streams.specs.View.{words_at, held_with, held_by, below, lowest_of, pids_after, buffers_after, sections_from, Lent, Apart}
use Rattle.ties_streams.proofs.Held.{pid, past_held, back_held, back_kept, held_word, none_held, some_held_lem, no_buffer, own_buffer, own_bytes, other_buffer, put_own, put_other, lowest_same, nobody_else}

module _ (count : ℕ) (pids buffers : List ℕ) (lent : Lent count pids buffers) (l : Load) (packet : List ℕ) (h : IsLoad l packet) where
  abbrev p : ℕ
  p = l.pid.0

  abbrev f : Streams
  f = held_by count pids buffers

  abbrev fresh : Bool
  fresh = is_fresh count pids p

  abbrev b : ℕ
  b = used_buffer count pids p

  abbrev w : Words
  w = words_at pids p

  abbrev buffer : List ℕ
  buffer = buffer_at buffers b

  abbrev before : State
  before = state_in fresh w buffer

  -- ---- the stream that a packet goes to

  pub takes : b < count → taking (f p) (lowest_of count f) ≡ some (stream b before)
  unfolding held_by state_in
  takes u = ap (taking (f p)) (lowest_same count pids buffers) ∙ go (ltb (held_buffer count pids p) count) refl u
    where
      low : ℕ
      low = lowest_free (is_named pids 8192) count

      used : Bool → ℕ
      used a = cond (not a) low (held_buffer count pids p)

      go : (a : Bool) → ltb (held_buffer count pids p) count ≡ a → used a < count
          → taking (held_with count p (held_buffer count pids p) w (buffer_at buffers (held_buffer count pids p))) (below count low) ≡ some (stream (used a) (state_in (not a) w (buffer_at buffers (used a))))
      go true e v =
          ap (λ (o : Option Stream). taking o (below count low)) (some_held_lem count p (held_buffer count pids p) w (buffer_at buffers (held_buffer count pids p)) h.pid (ltb-true _ _ e))
      go false e v =
          ap (λ (o : Option Stream). taking o (below count low)) (none_held count p (held_buffer count pids p) w (buffer_at buffers (held_buffer count pids p)) (ltb-false _ _ e))
          ∙ rw (lt-ltb low count v) refl

  pub takes_none : count ≤ b → taking (f p) (lowest_of count f) ≡ none
  unfolding held_by
  takes_none u = ap (taking (f p)) (lowest_same count pids buffers) ∙ go (ltb (held_buffer count pids p) count) refl u
    where
      low : ℕ
      low = lowest_free (is_named pids 8192) count

      go : (a : Bool) → ltb (held_buffer count pids p) count ≡ a → count ≤ cond (not a) low (held_buffer count pids p)
          → taking (held_with count p (held_buffer count pids p) w (buffer_at buffers (held_buffer count pids p))) (below count low) ≡ none
      go true e v = let k : held_buffer count pids p < count = ltb-true _ _ e in absurd (omega arith)
      go false e v =
          ap (λ (o : Option Stream). taking o (below count low)) (none_held count p (held_buffer count pids p) w (buffer_at buffers (held_buffer count pids p)) (ltb-false _ _ e))
          ∙ rw (le-ltb low count v) refl

  module _ (u : b < count) where
    buffer_there : length buffer ≡ 4288
    buffer_there = length-take-le 4288 (drop (b * 4288) buffers) (omega (arith, lent.bytes, length-drop (b * 4288) buffers))

    pub fits : (places : List ℕ) → 384 ≤ length places → Fits buffer b l packet places
    fits places n = record {
      room = buffer_there;
      numbered = omega (arith, lent.few);
      counted = h.counted;
      headed = h.headed;
      inside = h.inside;
      long = h.long;
      listed = n;
    }

    some_places : List ℕ
    some_places = replicate 384 0

    fit : Fits buffer b l packet some_places
    unfolding some_places
    fit = fits (replicate 384 0) (omega (arith, length-replicate {A = ℕ} 384 0))

    -- ---- the sections

    pub finishes : sections_from count pids buffers l packet ≡ (step before (payload_of l packet)).sections
    finishes = same_sections fresh w buffer b l packet some_places fit

    pub at_most_61 : length (sections_from count pids buffers l packet) ≤ 61
    at_most_61 = few_sections fresh w buffer b l packet some_places fit

    -- ---- what is held then

    abbrev then : Words
    then = (stepped_of fresh w buffer b l packet).words

    abbrev bytes : List ℕ
    bytes = buffer_after fresh w buffer l packet

    bytes_long : length bytes ≡ 4288
    bytes_long = buffer_length fresh w buffer b l packet some_places fit ∙ buffer_there

    its_number : then.number ≡ b + 1
    its_number = number_then fresh w buffer b l packet some_places fit own
      where
        go : (a : Bool) → ltb (held_buffer count pids p) count ≡ a → not a ≡ false → get_or pids (p * 4) 0 ≡ cond (not a) (lowest_free (is_named pids 8192) count) (held_buffer count pids p) + 1
        go true e t = held_word (get_or pids (p * 4) 0) count (ltb-true _ _ e)
        go false e t = absurd (true≢false t)

        own : fresh ≡ false → w.number ≡ b + 1
        own t = go (ltb (held_buffer count pids p) count) refl t

    abbrev pids' : List ℕ
    pids' = pids_after count pids buffers l packet

    abbrev buffers' : List ℕ
    buffers' = buffers_after count pids buffers l packet

    module _ (apart : Apart count pids) where
      pub holds_then : AllBytes buffers → AllBytes packet → held_by count pids' buffers' ≡ with_stream p (some (stream b (step before (payload_of l packet)).state)) f
      holds_then bs ps = λ i q. each q i
        where
          own : held_by count pids' buffers' p ≡ some (stream b (step before (payload_of l packet)).state)
          own =
              put_own count pids buffers lent l.pid h.pid b u then its_number bytes bytes_long
              ∙ ap (λ (s : State). some (stream b s)) (same_state fresh w buffer b l packet some_places fit (all_take 4288 (drop (b * 4288) buffers) (all_drop (b * 4288) buffers bs)) ps)

          other : (q : ℕ) → q ≢ p → held_by count pids' buffers' q ≡ f q
          other q n = put_other count pids buffers lent l.pid h.pid b u then its_number bytes bytes_long q n (λ k v. nobody_else count pids buffers apart p q h.pid k n u v)

          each : (q : ℕ) → held_by count pids' buffers' q ≡ cond (eqb q p) (some (stream b (step before (payload_of l packet)).state)) (f q)
          each q =
              by_cases (ℕ_discrete q p)
              (λ (e : q ≡ p). rw (eq-eqb q p e) (ap (held_by count pids' buffers') e ∙ own))
              (λ (n : ¬ (q ≡ p)). rw (ne_eqb q p n) (other q n))

      own_then : held_buffer count pids' p ≡ b
      own_then = own_buffer count pids buffers lent l.pid h.pid b u then its_number bytes bytes_long

      other_then : (q : ℕ) → q ≢ p → held_buffer count pids' q ≡ held_buffer count pids q
      other_then q n = other_buffer count pids buffers lent l.pid h.pid b u then its_number bytes bytes_long q n

      pub apart_then : Apart count pids'
      apart_then x y i j v e =
          by_cases (ℕ_discrete x p)
          (λ (a : x ≡ p). by_cases (ℕ_discrete y p) (λ (c : y ≡ p). c ∙ sym a) (λ (c : ¬ (y ≡ p)). absurd
          (let g : held_buffer count pids y ≡ b = sym (other_then y c) ∙ e ∙ ap (held_buffer count pids') a ∙ own_then in nobody_else count pids buffers apart p y h.pid j c u (omega arith) g)))
          (λ (a : ¬ (x ≡ p)).
          let s : held_buffer count pids' x ≡ held_buffer count pids x = other_then x a in
          let v' : held_buffer count pids x < count = omega arith in
          by_cases (ℕ_discrete y p)
          (λ (c : y ≡ p). absurd (nobody_else count pids buffers apart p x h.pid i a u v' (sym s ∙ sym e ∙ ap (held_buffer count pids') c ∙ own_then)))
          (λ (c : ¬ (y ≡ p)). apart x y i j v' (sym (other_then y c) ∙ e ∙ s)))

    -- ---- the bytes told

    pub told : (places : List ℕ) → 384 ≤ length places → (k : ℕ) → k < length (sections_from count pids buffers l packet)
        → told_at packet buffers' (places_after fresh w buffer b l packet places) k ≡ get_or (sections_from count pids buffers l packet) k []
    told places n k i = told_bytes fresh w buffer b l packet places (fits places n) buffers' (own_bytes count pids buffers lent l.pid h.pid b u then its_number bytes bytes_long) k i

-- ---- PIDs that hold none then

-- the packet's PID is not watched: its words become four times 0
module _ (count : ℕ) (pids buffers : List ℕ) (m : 32768 ≤ length pids) (p : Pid) (k : p.0 < 8192) where
  abbrev emptied : List ℕ
  emptied = with_words pids p (words_of 0 0 0 0)

  emptied_own : held_buffer count emptied p.0 ≡ count
  emptied_own = ap (λ (x : Words). buffer_of x.number count) (put_there pids p (words_of 0 0 0 0) (omega arith)) ∙ no_buffer count

  emptied_other : (q : ℕ) → q ≢ p.0 → words_at emptied q ≡ words_at pids q
  emptied_other q n = put_apart pids p (pid q) (words_of 0 0 0 0) n

  pub forgets : held_by count emptied buffers ≡ with_stream p.0 none (held_by count pids buffers)
  unfolding held_by
  forgets = λ i q. each q i
    where
      own : held_with count p.0 (held_buffer count emptied p.0) (words_at emptied p.0) (buffer_at buffers (held_buffer count emptied p.0)) ≡ none
      own =
          none_held count p.0 (held_buffer count emptied p.0) (words_at emptied p.0) (buffer_at buffers (held_buffer count emptied p.0)) (omega (arith, emptied_own))

      each : (q : ℕ) → held_with count q (held_buffer count emptied q) (words_at emptied q) (buffer_at buffers (held_buffer count emptied q))
          ≡ cond (eqb q p.0) none (held_with count q (held_buffer count pids q) (words_at pids q) (buffer_at buffers (held_buffer count pids q)))
      each q =
          by_cases (ℕ_discrete q p.0)
          (λ (e : q ≡ p.0). rw (eq-eqb q p.0 e)
          (ap (λ (x : ℕ). held_with count x (held_buffer count emptied x) (words_at emptied x) (buffer_at buffers (held_buffer count emptied x))) e ∙ own))
          (λ (n : ¬ (q ≡ p.0)). rw (ne_eqb q p.0 n)
          (let s = emptied_other q n in λ i. held_with count q (buffer_of (s i).number count) (s i) (buffer_at buffers (buffer_of (s i).number count))))

  pub apart_emptied : Apart count pids → Apart count emptied
  apart_emptied apart x y i j v e =
      by_cases (ℕ_discrete x p.0)
      (λ (a : x ≡ p.0). absurd (let z : held_buffer count emptied x ≡ count = ap (held_buffer count emptied) a ∙ emptied_own in omega arith))
      (λ (a : ¬ (x ≡ p.0)).
      let s : held_buffer count emptied x ≡ held_buffer count pids x = ap (λ (w : Words). buffer_of w.number count) (emptied_other x a) in
      by_cases (ℕ_discrete y p.0)
      (λ (c : y ≡ p.0). absurd (let z : held_buffer count emptied y ≡ count = ap (held_buffer count emptied) c ∙ emptied_own in omega arith))
      (λ (c : ¬ (y ≡ p.0)). apart x y i j (omega arith) (sym (ap (λ (w : Words). buffer_of w.number count) (emptied_other y c)) ∙ e ∙ s)))

-- the PIDs of a set give their buffers back: those that were watched before and are not after
pub gives_back : (count : ℕ) (pids buffers left : List ℕ) (before after : ℕ → Bool) → 32768 ≤ length pids → ((q : ℕ) → q < 8192 → has_bit left q ≡ (before q && not (after q)))
    → held_by count (given_back left 8192 pids) buffers ≡ leaving before after (held_by count pids buffers)
gives_back count pids buffers left before after m f = λ i q. each q i
  where
    at : (q : ℕ) (a b : Bool) → ltb q 8192 ≡ a → has_bit left q ≡ b → held_by count (given_back left 8192 pids) buffers q ≡ cond b none (held_by count pids buffers q)
    at q true true s t = back_held count pids buffers left q m (ltb-true _ _ s) t
    at q a false s t = back_kept count pids buffers left q t
    at q false true s t = past_held count (given_back left 8192 pids) buffers q (ltb-false _ _ s)

    each : (q : ℕ) → held_by count (given_back left 8192 pids) buffers q ≡ cond (before q && not (after q)) none (held_by count pids buffers q)
    each q = go (ltb q 8192) refl
      where
        go : (a : Bool) → ltb q 8192 ≡ a → held_by count (given_back left 8192 pids) buffers q ≡ cond (before q && not (after q)) none (held_by count pids buffers q)
        go true s = rw (← (f q (ltb-true _ _ s))) (at q true (has_bit left q) s refl)
        go false s = past_held count (given_back left 8192 pids) buffers q (ltb-false _ _ s) ∙ past (before q && not (after q))
          where
            past : (b : Bool) → none ≡ cond b none (held_by count pids buffers q)
            past true = refl
            past false = sym (past_held count pids buffers q (ltb-false _ _ s))

-- ---- no two PIDs hold one buffer

-- those that left hold none, the others what they held
pub apart_back : (count : ℕ) (pids left : List ℕ) → 32768 ≤ length pids → Apart count pids → Apart count (given_back left 8192 pids)
apart_back count pids left m apart x y i j v e = go (has_bit left x) (has_bit left y) refl refl
  where
    now : List ℕ
    now = given_back left 8192 pids

    gone : (q : ℕ) → q < 8192 → has_bit left q ≡ true → held_buffer count (given_back left 8192 pids) q ≡ count
    gone q k t = ap (λ (w : Words). buffer_of w.number count) (back_gone left 8192 pids q t k (omega arith)) ∙ no_buffer count

    stays : (q : ℕ) → has_bit left q ≡ false → held_buffer count (given_back left 8192 pids) q ≡ held_buffer count pids q
    stays q t = ap (λ (w : Words). buffer_of w.number count) (back_stays left 8192 pids q t)

    go : (a b : Bool) → has_bit left x ≡ a → has_bit left y ≡ b → y ≡ x
    go true b s t = absurd (omega (arith, gone x i s))
    go false true s t = absurd (omega (arith, gone y j t))
    go false false s t = apart x y i j (omega (arith, stays x s)) (sym (stays y t) ∙ e ∙ stays x s)

pub apart_opened : (count : ℕ) (pids : List ℕ) → Apart count (cleared 32768 pids)
apart_opened count pids x y i j v e =
    let z : held_buffer count (cleared 32768 pids) x ≡ count = ap (λ (n : ℕ). buffer_of n count) (cleared_word 32768 pids (x * 4) (omega arith)) ∙ no_buffer count in
    absurd (omega arith)
