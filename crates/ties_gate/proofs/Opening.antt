-- Where opening answers 7, the store that it leaves is one that the theorems over every history ask for, and it stands for an empty gate with N empty.
-- Assumes nothing.
use Prim.Native.Nat.{ℕ, ◌≤◌}
use mathlib.Core.Path.{◌≡◌, refl, sym, ap, subst, ◌∙◌}
use mathlib.Core.List.{List, [], ◌∷◌}
use mathlib.Core.Bool.{Bool, true, false, cond, ◌&&◌, ◌||◌}
use lib.ListN.{length}
use lib.Dec.{leb, eqb}
use native.Mathlib.Omega.{arith}
use borrow.Author.Tests.{leb-true}
use Rattle.laws.proofs.Tests.{and_true}
use Rattle.laws.specs.Runs.{answers, store_after}
use Rattle.ring.specs.Store.{room_of}
use Rattle.ring.proofs.Order.{opened_reached}
use Rattle.section.specs.Judged.{rule_known}
use Rattle.pat.specs.Pat.{listed}
use Rattle.laws.proofs.Bits.{among}
use Rattle.watched.specs.Store.{all_pids, filled, protected_pids}
use Rattle.watched.specs.View.{watch_in}
use Rattle.watched.proofs.Meaning.{opened_watched, opened_protected, opened_followed, length_filled}
use Rattle.counters.specs.Counters.{zeroes}
use Rattle.gate.specs.Store.{Begun, begins, can_open, opened, Store, store_of}
use Rattle.gate.specs.Rules.{Offer, Manner, tells, acts, OfBytes}
use Rattle.gate.specs.View.{manner_of, held_by, Opened, store_tells, store_acts}
use Rattle.gate_state.specs.State.{by_sections}
use Rattle.gate_state.specs.declared.Settings.{Settings}
use Rattle.ties_gate.specs.Watching.{is_protected, empty_held}
use Rattle.ties_gate.proofs.Order.{same_answers, same_view}

is_listed : (q : ℕ) (ps : List ℕ) → among q ps ≡ listed q ps
is_listed q [] = refl
is_listed q (p ∷ ps) = ap (λ (b : Bool). eqb q p || b) (is_listed q ps)

-- the watch as opening sets it: the protected PIDs are watched, and N is empty
pub watch_empty : (words : List ℕ) (on : Bool) (extra : List ℕ) → all_pids extra ≡ true → watch_in (filled words on extra) ≡ (empty_held (is_protected on extra)).watch
watch_empty words on extra e = λ i. record {
  watched = λ q. (opened_watched words on extra e q ∙ is_listed q (protected_pids on extra)) i;
  protected = λ q. (opened_protected words on extra e q ∙ is_listed q (protected_pids on extra)) i;
  followed = λ q. opened_followed words on extra e q i;
}

-- what a call of `open` left, with the slices that it does not write
abbrev pub left_open : Begun → List ℕ → List ℕ → Store
left_open o keys changes = store_of o.gate o.counters keys changes o.words

-- 7 is answered where every extra PID is one and there is room, and then the watch is as set
pub record Seven (st : Settings) (extra : List ℕ) (keys changes : ℕ) (words : List ℕ) : Type 0 where
  pub left : opened st extra keys changes words ≡ begins 7 st (filled words st.well_known extra)
  pub pids : all_pids extra ≡ true
  pub room : can_open st keys changes (length words) ≡ true

pub seven : (st : Settings) (extra : List ℕ) (keys changes : ℕ) (words : List ℕ) → (opened st extra keys changes words).answer ≡ 7 → Seven st extra keys changes words
unfolding opened
seven st extra keys changes words h = go (all_pids extra) (can_open st keys changes (length words)) refl refl h
  where
    done : Begun
    done = begins 7 st (filled words st.well_known extra)

    go : (p q : Bool) → all_pids extra ≡ p → can_open st keys changes (length words) ≡ q
        → (cond p (cond q done (begins 13 st words)) (begins 12 st words)).answer ≡ 7
        → Seven st extra keys changes words
    go true true e f k = record { left = rw (e, f); pids = e; room = f }
    go true false e f k = absurd (omega arith)
    go false q e f k = absurd (omega arith)

module _
    (st : Settings) (extra keys changes words : List ℕ)
    (h : (opened st extra (length keys) (length changes) words).answer ≡ 7)
  where
    z : Seven st extra (length keys) (length changes) words
    z = seven st extra (length keys) (length changes) words h

    n : ℕ
    n = room_of st.capacity

    -- rows, words and the rule
    needs : ((leb (room_of st.capacity) (length keys) && leb (room_of st.capacity) (length changes) && leb 384 (length words)) ≡ true) × (rule_known st.change_rule ≡ true)
    needs =
        and_true (leb (room_of st.capacity) (length keys) && leb (room_of st.capacity) (length changes) && leb 384 (length words)) (rule_known st.change_rule) z.room

    pub watch_room : 384 ≤ length words
    watch_room = leb-true 384 (length words) (and_true (leb (room_of st.capacity) (length keys) && leb (room_of st.capacity) (length changes)) (leb 384 (length words)) needs.0).1

    rooms : (leb (room_of st.capacity) (length keys) ≡ true) × (leb (room_of st.capacity) (length changes) ≡ true)
    rooms =
        and_true (leb (room_of st.capacity) (length keys)) (leb (room_of st.capacity) (length changes))
        (and_true (leb (room_of st.capacity) (length keys) && leb (room_of st.capacity) (length changes)) (leb 384 (length words)) needs.0).0

    -- the store is an opened one
    pub opening_opens : Opened (left_open (opened st extra (length keys) (length changes) words) keys changes)
    opening_opens =
        subst (λ (b : Begun). Opened (left_open b keys changes)) (sym z.left)
        (record {
          reached = opened_reached st.capacity keys changes (leb-true _ _ rooms.0) (leb-true _ _ rooms.1);
          watch = subst (λ (l : ℕ). 384 ≤ l) (sym (length_filled words st.well_known extra watch_room)) watch_room;
          rule = needs.1;
        })

    -- it stands for an empty gate, with the protected PIDs watched and N empty
    pub opened_empty : held_by (left_open (opened st extra (length keys) (length changes) words) keys changes) ≡ empty_held (is_protected st.well_known extra)
    opened_empty =
        ap (λ (b : Begun). held_by (left_open b keys changes)) z.left
        ∙ (λ i. record { rows = []; counters = zeroes; watch = watch_empty words st.well_known extra z.pids i })

-- the settings that an offer looks at
abbrev pub manner_for : Settings → Manner
manner_for st = record { capacity = st.capacity; repeats = st.repeats; follow = by_sections st.follow; rule = st.change_rule }

-- from an opening that answers 7 every sequence of offers of bytes has the rule's answers from the empty gate, and leaves what the rule leaves
module _
    (st : Settings) (extra keys changes words : List ℕ)
    (h : (opened st extra (length keys) (length changes) words).answer ≡ 7)
    (os : List Offer) (b : OfBytes os)
  where
    abbrev start : Store
    start = left_open (opened st extra (length keys) (length changes) words) keys changes

    same_manner : manner_of start.gate ≡ manner_for st
    same_manner = ap (λ (x : Begun). manner_of (left_open x keys changes).gate) (seven st extra (length keys) (length changes) words h).left

    pub answers_from_open :
        answers store_tells store_acts start os ≡ answers (tells (manner_for st)) (acts (manner_for st)) (empty_held (is_protected st.well_known extra)) os
    answers_from_open =
        same_answers start os (opening_opens st extra keys changes words h) b
        ∙ (λ i. answers (tells (same_manner i)) (acts (same_manner i)) (opened_empty st extra keys changes words h i) os)

    pub view_from_open : held_by (store_after store_acts start os) ≡ store_after (acts (manner_for st)) (empty_held (is_protected st.well_known extra)) os
    view_from_open =
        same_view start os (opening_opens st extra keys changes words h) b
        ∙ (λ i. store_after (acts (same_manner i)) (opened_empty st extra keys changes words h i) os)
