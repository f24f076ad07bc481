-- One law for each way out of a function.
-- Assumes nothing.
use mathlib.Core.Path.{◌≡◌, refl, sym, ap, subst, ◌∙◌}
use mathlib.Core.Bool.{Bool, true, false, cond, not, ◌&&◌}
use mathlib.Core.List.{List, [], ◌∷◌, ◌++◌}
use Prim.Native.Nat.{ℕ, zero, suc, ◌+◌, ◌-◌, ◌*◌, ◌/◌, ◌≤◌, ◌<◌}
use native.Mathlib.Numerals.{add-one}
use native.Mathlib.Omega.{arith}
use lib.Dec.{eqb}
use lib.ListN.{length, take, drop, get_or, set}
use lib.Seq.{take_all, take-suc, take-suc-set, take-take, length-take-le, get_or-take, get_or-drop}
use Rattle.laws.specs.Bits.{has_bit, less}
use Rattle.laws.proofs.Bits.{has_less}
use Rattle.pat.specs.Pat.{readable}
use Rattle.offers.specs.Offers.{verdict_of}
use Rattle.offers.specs.declared.Verdict.{Verdict}
use Rattle.offers.specs.declared.Verdict.TheVariants as verdict
use Rattle.counters.specs.declared.Counters.{Counters}
use Rattle.ring.specs.Store.{stamp_of, seen_of}
use Rattle.ring.specs.declared.Seen.{Seen}
use Rattle.gate_state.specs.State.{Said, said_of, by_sections, by_tables}
use Rattle.gate_state.specs.declared.Follow.{Follow}
use Rattle.gate_state.specs.declared.Gate.{Gate}
use Rattle.gate_state.specs.declared.Offered.{Offered}
use Rattle.gate.specs.Store.{Store, is_whole, followed_pat, watch_after, admitted_to, carried, offered}
use Rattle.pats.specs.Store.{Record, record_of, enters, entered_in}
use Rattle.gate_pats.specs.Store.{Kept, kept_of, sections_in, Offering, left_with, sound_by, record_after, taken_with}
use Rattle.streams.specs.Store.{left_of, given_back, four}
use Rattle.demux_places.specs.Places.{place_at, bytes_at, answered}
use Rattle.demux_places.specs.declared.Place.{Place}
use Rattle.demux_steady.specs.Steady.{words_in, tells, acts, Steady}
use Rattle.demux_steady.proofs.Steady.{record_ready, words_there}
use Rattle.demux_turns.specs.declared.Held.{Held}
use Rattle.demux_turns.specs.Offers.{Offers, held_of, turned, OfferOk, TurnOk}
use Rattle.demux_turns.proofs.Turns.{section_told, one_more_lem}

-- ---- a PAT

module _ (words before words' pids : List ℕ) (e : before ≡ take 128 words) where
  pub copied_long : 128 ≤ length words → length before ≡ 128
  copied_long h = ap length e ∙ length-take-le 128 words h

  same_left : left_of before words' ≡ left_of words words'
  same_left = ap (λ (x : List ℕ). less x (take 128 words')) (ap (take 128) e ∙ take-take 128 128 words (omega arith))

  pub pat_back : (pids' : List ℕ) → pids' ≡ given_back (left_of before words') 8192 pids → pids' ≡ given_back (left_of words words') 8192 pids
  pat_back pids' q = q ∙ ap (λ (x : List ℕ). given_back x 8192 pids) same_left

-- ---- a section that is no PAT

either_way : {A : Type 0} (b : Bool) (x : A) → cond b x x ≡ x
either_way true x = refl
either_way false x = refl

module _ (section : List ℕ) (e : readable section ≡ false) where
  pub same_followed : (f : Bool) (words : List ℕ) → watch_after f words section ≡ words
  unfolding followed_pat
  same_followed f words = rw e (either_way f words)

  pub same_record : (f : Follow) (a : Said) (input pid : ℕ) (r : Record) → record_after f a input pid section r ≡ r
  unfolding record_after entered_in enters
  same_record f a input pid r = rw e (either_way (by_tables f && sound_by a && eqb pid 0) r)

module _ (s : Kept) (input pid : ℕ) (section : List ℕ) (e : readable section ≡ false) where
  same_sections : (v : Verdict) → (carried (sections_in s) section v).store.words ≡ s.watch.words
  unfolding carried admitted_to
  same_sections (verdict.Refused r) = refl
  same_sections (verdict.Failed f) = refl
  same_sections (verdict.Arrived a) =
      let seen : Seen = seen_of s.gate.ring s.keys s.changes a.key (stamp_of a.version a.change) in
      same_followed section e (seen.changed && by_sections s.gate.follow) s.watch.words

  same_words : (offered (sections_in s) input pid section).store.words ≡ s.watch.words
  unfolding offered
  same_words = same_sections (verdict_of (is_whole (sections_in s)) s.counters s.gate.change_rule input pid section)

  pub same_watch : words_in (acts s input pid section) ≡ s.watch.words
  unfolding taken_with
  same_watch =
      let x = offered (sections_in s) input pid section in
      ap (λ (r : Record). r.words) (same_record section e s.gate.follow x.answer input pid (record_of x.store.words s.watch.slots s.watch.cells)) ∙ same_words

-- no PID left
none_left : (left pids : List ℕ) (n : ℕ) → ((q : ℕ) → q < n → has_bit left q ≡ false) → given_back left n pids ≡ pids
unfolding given_back
none_left left pids zero f = refl
none_left left pids (suc n) f =
    ap (λ (b : Bool). given_back left n (cond b (four pids (n * 4) 0 0 0 0) pids)) (f n (omega arith)) ∙ none_left left pids n (λ q h. f q (omega arith))

both : (b : Bool) → (b && not b) ≡ false
both true = refl
both false = refl

nobody_left : (words pids : List ℕ) → 128 ≤ length words → given_back (left_of words words) 8192 pids ≡ pids
nobody_left words pids h =
    let l : length (take 128 words) ≡ 128 = length-take-le 128 words h in
    none_left (left_of words words) pids 8192 (λ q k. has_less (take 128 words) (take 128 words) q refl (omega arith) ∙ both (has_bit (take 128 words) q))

pub stayed_back : (words ws pids : List ℕ) → ws ≡ words → 128 ≤ length words → pids ≡ given_back (left_of words ws) 8192 pids
stayed_back words ws pids e h = sym (ap (λ (x : List ℕ). given_back (left_of words x) 8192 pids) e ∙ nobody_left words pids h)

pub no_pat_back : (g : Gate) (c : Counters) (keys changes words slots cells : List ℕ) (input pid : ℕ) (section : List ℕ) (b : Bool) (o : Offered) (ks ms ws ss cs pids : List ℕ)
    → b ≡ readable section → b ≡ false → 128 ≤ length words
    → left_with o ks ms (record_of ws ss cs) ≡ taken_with (kept_of g c keys changes (record_of words slots cells)) input pid section → pids ≡ given_back (left_of words ws) 8192 pids
no_pat_back g c keys changes words slots cells input pid section b o ks ms ws ss cs pids e f h q =
    stayed_back words ws pids (ap (λ (x : Offering). x.left.watch.words) q ∙ same_watch (kept_of g c keys changes (record_of words slots cells)) input pid section (sym e ∙ f)) h

-- ---- a turn

module _ (h : Held) (keys changes words slots cells pids places : List ℕ) where
  abbrev start : Kept
  start = kept_of h.gate h.counters keys changes (record_of words slots cells)

  pub turn_done : (packet buffers : List ℕ) (input pid k : ℕ) (place : Place) (section : List ℕ) (o : Offered) (ks ms ws ss cs ps qs : List ℕ)
      → place ≡ place_at places k → section ≡ bytes_at packet buffers place → left_with o ks ms (record_of ws ss cs) ≡ taken_with start input pid section
      → ps ≡ given_back (left_of words ws) 8192 pids → qs ≡ answered places k (said_of o.answer)
      → held_of (record { gate = o.gate; counters = o.counters }) ks ms (record_of ws ss cs) ps qs
      ≡ turned packet buffers input pid k (held_of h keys changes (record_of words slots cells) pids places)
  turn_done packet buffers input pid k place section o ks ms ws ss cs ps qs e f q =
      section_told words_in tells acts packet buffers input pid k start pids places place section (said_of o.answer) (kept_of o.gate o.counters ks ms (record_of ws ss cs)) ps qs e f
      (ap (λ (x : Offering). x.answer) q) (ap (λ (x : Offering). x.left) q)

-- ---- the loop

-- the slices are as long as they were
pub record Lengths (keys₀ changes₀ words₀ slots₀ cells₀ pids₀ places₀ keys changes words slots cells pids places : List ℕ) : Type 0 where
  pub keys_long : length keys ≡ length keys₀
  pub changes_long : length changes ≡ length changes₀
  pub words_long : length words ≡ length words₀
  pub slots_long : length slots ≡ length slots₀
  pub cells_long : length cells ≡ length cells₀
  pub pids_long : length pids ≡ length pids₀
  pub places_long : length places ≡ length places₀

pub turn_may : (count k : ℕ) (o : Offers) → k < count → Steady (count - k) o.gate → 32768 ≤ length o.pids → count * 6 ≤ length o.places
    → TurnOk o.gate.gate o.gate.watch o.pids o.places k
turn_may count k o h s l m =
    let t : Steady (suc (count - (k + 1))) o.gate = one_more_lem count k h Steady o.gate s in
    record {
      offer = record { ready = record_ready (count - (k + 1)) o.gate t; words = omega (arith, words_there (count - (k + 1)) o.gate t); long = l };
      listed = omega arith;
    }
