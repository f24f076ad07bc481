-- Where an opening answers 7, the gate and the record that it leaves are ones that the theorems over every history ask for, and they stand for an empty
-- gate and an empty PAT store; and so does the record of a further input that is opened alone.
-- Assumes nothing.
use Prim.Native.Nat.{ℕ, ◌≤◌}
use mathlib.Core.Path.{◌≡◌, refl, sym, ap, subst, ◌∙◌}
use mathlib.Core.List.{List}
use mathlib.Core.Bool.{Bool, true, false, cond, ◌&&◌}
use lib.ListN.{length}
use lib.Dec.{leb}
use native.Mathlib.Omega.{arith}
use borrow.Author.Tests.{leb-true}
use Rattle.laws.proofs.Tests.{and_true}
use Rattle.laws.specs.Runs.{answers, store_after}
use Rattle.counters.specs.Counters.{zeroes}
use Rattle.watched.specs.Store.{all_pids, filled}
use Rattle.watched.specs.Store as watched
use Rattle.watched.specs.View.{watch_in, InStep}
use Rattle.watched.proofs.Meaning.{length_filled, opened_in_step}
use Rattle.gate_state.specs.State.{by_tables, empty_gate}
use Rattle.gate_state.specs.declared.Follow.{Follow}
use Rattle.gate_state.specs.declared.Follow.TheVariants.{Off, Sections, Tables}
use Rattle.gate_state.specs.declared.Gate.{Gate}
use Rattle.gate_state.specs.declared.Settings.{Settings}
use Rattle.gate.specs.Rules.{Offer, OfBytes}
use Rattle.gate.specs.Store.{Store, Begun, begins, opened}
use Rattle.gate.specs.View.{manner_of, held_by, Opened}
use Rattle.ties_gate.specs.Watching.{is_protected, empty_held}
use Rattle.ties_gate.proofs.Opening as lower
use Rattle.ties_gate.proofs.Opening.{watch_empty}
use Rattle.pats.specs.Store.{Record, record_of, room_for, begun_words, pat_clock}
use Rattle.pats.proofs.Laws.{length_begun, begun_sets}
use Rattle.ties_pats.specs.View as pats
use Rattle.ties_pats.specs.View.{shown}
use Rattle.ties_pats.proofs.Obey.{Stands, same_watch}
use Rattle.ties_pats.proofs.History.{begun_opened, begun_in_step, opened_shown, opened_stands}
use Rattle.gate_pats.specs.Store.{room_with, words_with, refused_with, begun_with, opened_with, opening_with, record_opened, Kept, kept_of}
use Rattle.gate_pats.specs.View.{kept_tells, kept_acts}
use Rattle.ties_gate_pats.specs.Rules.{empty_holding, tells_with, acts_with, begun}
use Rattle.ties_gate_pats.specs.View.{holding, pats_in}
use Rattle.ties_gate_pats.proofs.Order.{Any, OpenedWith, same_answers, same_view}

-- ---- the record

module _
    (known : Bool) (extra words slots cells : List ℕ)
    (pids : all_pids extra ≡ true) (long : 384 ≤ length words)
  where
    -- the record that an opening in this manner leaves
    abbrev pub begun_record : Follow → Record
    begun_record f = record_of (words_with f 7 (filled words known extra)) slots cells

    same_length : length (filled words known extra) ≡ length words
    same_length = length_filled words known extra long

    begun_same : length (begun_words (filled words known extra)) ≡ length words
    begun_same = length_begun (filled words known extra) ∙ same_length

    pub record_long : (f : Follow) → 384 ≤ length (begun_record f).words
    record_long Off = rw same_length long
    record_long Sections = rw same_length long
    record_long Tables = rw begun_same long

    -- the protected PIDs are watched, and N is empty
    pub record_watch : (f : Follow) → watch_in (begun_record f).words ≡ (empty_held (is_protected known extra)).watch
    record_watch Off = watch_empty words known extra pids
    record_watch Sections = watch_empty words known extra pids
    record_watch Tables = same_watch (begun_words (filled words known extra)) (filled words known extra) (begun_sets (filled words known extra)) ∙ watch_empty words known extra pids

    pub record_in_step : (f : Follow) → InStep (begun_record f).words
    record_in_step Off = opened_in_step words known extra pids
    record_in_step Sections = opened_in_step words known extra pids
    record_in_step Tables = begun_in_step words known extra pids

    -- where complete PATs are followed, with a PAT store that has no row and no eviction
    is_opened : room_for (length words) (length slots) (length cells) ≡ true → pats.Opened (begun_record Tables)
    is_opened h =
        let a = and_true (leb 398 (length words) && leb 288 (length slots)) (leb 262144 (length cells)) h in
        let b = and_true (leb 398 (length words)) (leb 288 (length slots)) a.0 in
        begun_opened (filled words known extra) slots cells (rw same_length (leb-true _ _ b.0)) (leb-true _ _ b.1) (leb-true _ _ a.1)

    pub record_stands : (f : Follow) → room_with f (length words) (length slots) (length cells) ≡ true → by_tables f ≡ true → Stands Any (begun_record f)
    record_stands Off h t = let z : ◌≡◌ {A = ℕ} 0 1 = cc in absurd (omega arith)
    record_stands Sections h t = let z : ◌≡◌ {A = ℕ} 0 1 = cc in absurd (omega arith)
    record_stands Tables h t = opened_stands (begun_record Tables) (is_opened h) Any

    pub record_pats : (f : Follow) → room_with f (length words) (length slots) (length cells) ≡ true → cond (by_tables f) (pats_in (begun_record f)) begun ≡ begun
    record_pats Off h = refl
    record_pats Sections h = refl
    record_pats Tables h =
        let o = is_opened h in
        let s = opened_shown (begun_record Tables) o in
        let c : pat_clock (begun_record Tables).words ≡ 0 = rw o.used refl in
        λ i. record { sets = s i; clock = c i }

-- ---- a gate and its record

-- what a call of `open` left, with the slices that it does not write
abbrev pub left_open : Begun → (keys changes slots cells : List ℕ) → Kept
left_open b keys changes slots cells = kept_of b.gate b.counters keys changes (record_of b.words slots cells)

-- 7 is answered where there is room for the record and the gate of sections answers 7
pub record Seven (st : Settings) (extra : List ℕ) (keys changes slots cells : ℕ) (words : List ℕ) : Type 0 where
  pub room : room_with st.follow (length words) slots cells ≡ true
  pub gate : lower.Seven st extra keys changes words
  pub left : opened_with st extra keys changes slots cells words ≡ begins 7 st (words_with st.follow 7 (filled words st.well_known extra))

pub no_seven : (extra : List ℕ) → refused_with extra ≡ 7 → ⊥
no_seven extra = go (all_pids extra)
  where
    go : (b : Bool) → ◌≡◌ {A = ℕ} (cond b 13 12) 7 → ⊥
    go true h = omega arith
    go false h = omega arith

pub seven :
    (st : Settings) (extra : List ℕ) (keys changes slots cells : ℕ) (words : List ℕ) → (opened_with st extra keys changes slots cells words).answer ≡ 7 →
    Seven st extra keys changes slots cells words
unfolding opened_with
seven st extra keys changes slots cells words h = go (room_with st.follow (length words) slots cells) refl h
  where
    go : (b : Bool) → room_with st.follow (length words) slots cells ≡ b
        → (cond b (begun_with st.follow (opened st extra keys changes words)) (begins (refused_with extra) st words)).answer ≡ 7
        → Seven st extra keys changes slots cells words
    go true e k =
        let z = lower.seven st extra keys changes words k in
        record { room = e; gate = z; left = rw (e, z.left) }
    go false e k = absurd (no_seven extra k)

module _
    (st : Settings) (extra keys changes slots cells words : List ℕ)
    (h : (opened_with st extra (length keys) (length changes) (length slots) (length cells) words).answer ≡ 7)
  where
    z : Seven st extra (length keys) (length changes) (length slots) (length cells) words
    z = seven st extra (length keys) (length changes) (length slots) (length cells) words h

    abbrev left : Kept
    left = left_open (opened_with st extra (length keys) (length changes) (length slots) (length cells) words) keys changes slots cells

    abbrev done : Kept
    done = left_open (begins 7 st (words_with st.follow 7 (filled words st.well_known extra))) keys changes slots cells

    is_done : left ≡ done
    is_done = ap (λ (b : Begun). left_open b keys changes slots cells) z.left

    low : (opened st extra (length keys) (length changes) words).answer ≡ 7
    low = ap (λ (b : Begun). b.answer) z.gate.left

    abbrev low_done : Store
    low_done = lower.left_open (begins 7 st (filled words st.well_known extra)) keys changes

    low_opened : Opened low_done
    low_opened = subst (λ (b : Begun). Opened (lower.left_open b keys changes)) z.gate.left (lower.opening_opens st extra keys changes words low)

    long : 384 ≤ length words
    long = lower.watch_room st extra keys changes words low

    done_opens : OpenedWith done
    done_opens = record {
      sections = record {
        reached = low_opened.reached;
        watch = record_long st.well_known extra words slots cells z.gate.pids long st.follow;
        rule = low_opened.rule;
      };
      pats = record_stands st.well_known extra words slots cells z.gate.pids long st.follow z.room;
    }

    -- what is left is an opened gate and an opened record
    pub opening_opens : OpenedWith (left_open (opened_with st extra (length keys) (length changes) (length slots) (length cells) words) keys changes slots cells)
    opening_opens = subst OpenedWith (sym is_done) done_opens

    low_empty : held_by low_done ≡ empty_held (is_protected st.well_known extra)
    low_empty = ap (λ (b : Begun). held_by (lower.left_open b keys changes)) (sym z.gate.left) ∙ lower.opened_empty st extra keys changes words low

    done_empty : holding done ≡ empty_holding (is_protected st.well_known extra)
    done_empty = λ i. record {
      held = record {
        rows = (low_empty i).rows;
        counters = zeroes;
        watch = record_watch st.well_known extra words slots cells z.gate.pids long st.follow i;
      };
      pats = record_pats st.well_known extra words slots cells z.gate.pids long st.follow z.room i;
    }

    -- it stands for an empty gate with the protected PIDs watched and N empty, and an empty PAT store
    pub opened_empty :
        holding (left_open (opened_with st extra (length keys) (length changes) (length slots) (length cells) words) keys changes slots cells)
        ≡ empty_holding (is_protected st.well_known extra)
    opened_empty = ap holding is_done ∙ done_empty

    pub opening_in_step : InStep (opened_with st extra (length keys) (length changes) (length slots) (length cells) words).words
    opening_in_step =
        subst (λ (b : Begun). InStep b.words) (sym z.left) (record_in_step st.well_known extra words slots cells z.gate.pids long st.follow)

    -- the settings are those that were asked for
    pub opening_gate : (opened_with st extra (length keys) (length changes) (length slots) (length cells) words).gate ≡ empty_gate st
    opening_gate = ap (λ (b : Begun). b.gate) z.left

    -- THE THEOREM: from an opening that answers 7 every sequence of offers of bytes has the rules' answers from the empty gate and the empty PAT store, and
    -- leaves what the rules leave
    module _ (os : List Offer) (b : OfBytes os) where
      same_follow : left.gate.follow ≡ st.follow
      same_follow = ap (λ (g : Gate). g.follow) opening_gate

      same_manner : manner_of left.gate ≡ lower.manner_for st
      same_manner = ap manner_of opening_gate

      pub answers_from_open :
          answers kept_tells kept_acts (left_open (opened_with st extra (length keys) (length changes) (length slots) (length cells) words) keys changes slots cells) os
          ≡ answers (tells_with st.follow (lower.manner_for st)) (acts_with st.follow (lower.manner_for st)) (empty_holding (is_protected st.well_known extra)) os
      answers_from_open =
          same_answers left os opening_opens b ∙ (λ i. answers (tells_with (same_follow i) (same_manner i)) (acts_with (same_follow i) (same_manner i)) (opened_empty i) os)

      pub view_from_open :
          holding (store_after kept_acts (left_open (opened_with st extra (length keys) (length changes) (length slots) (length cells) words) keys changes slots cells) os)
          ≡ store_after (acts_with st.follow (lower.manner_for st)) (empty_holding (is_protected st.well_known extra)) os
      view_from_open = same_view left os opening_opens b ∙ (λ i. store_after (acts_with (same_follow i) (same_manner i)) (opened_empty i) os)

-- ---- the record of a further input

module _
    (st : Settings) (extra slots cells words : List ℕ)
    (h : (record_opened st extra (length slots) (length cells) words).answer ≡ 7)
  where
    -- 7 is answered where every extra PID is one and there is room, and then the watch is as set
    record SevenOf : Type 0 where
      room : room_with st.follow (length words) (length slots) (length cells) ≡ true
      pids : all_pids extra ≡ true
      long : 384 ≤ length words
      left : (record_opened st extra (length slots) (length cells) words).words ≡ words_with st.follow 7 (filled words st.well_known extra)

    seven_of : SevenOf
    unfolding record_opened watched.opened
    seven_of = go (room_with st.follow (length words) (length slots) (length cells)) (all_pids extra) (leb 384 (length words)) refl refl refl h
      where
        wide : Bool → Bool → watched.Opening
        wide p q =
            cond p
            (cond q (record { answer = 7; words = filled words st.well_known extra }) (record { answer = 13; words = words }))
            (record { answer = 12; words = words })

        go : (r p q : Bool) → room_with st.follow (length words) (length slots) (length cells) ≡ r → all_pids extra ≡ p → leb 384 (length words) ≡ q
            → (cond r (opening_with st.follow (wide p q)) (record { answer = refused_with extra; words = words })).answer ≡ 7
            → SevenOf
        go true true true a b c k = record { room = a; pids = b; long = leb-true 384 (length words) c; left = rw (a, b, c) }
        go true true false a b c k = absurd (omega arith)
        go true false q a b c k = absurd (omega arith)
        go false p q a b c k = absurd (no_seven extra k)

    -- a gate that was opened, or has come from one, in the same manner
    module _ (s : Kept) (o : OpenedWith s) (same : s.gate.follow ≡ st.follow) where
      abbrev lent : List ℕ → Kept
      lent ws = kept_of s.gate s.counters s.keys s.changes (record_of ws slots cells)

      abbrev opened_words : List ℕ
      opened_words = (record_opened st extra (length slots) (length cells) words).words

      abbrev filled_words : List ℕ
      filled_words = words_with st.follow 7 (filled words st.well_known extra)

      further_done : OpenedWith (lent filled_words)
      further_done = record {
        sections = record {
          reached = o.sections.reached;
          watch = record_long st.well_known extra words slots cells seven_of.pids seven_of.long st.follow;
          rule = o.sections.rule;
        };
        pats = λ t. record_stands st.well_known extra words slots cells seven_of.pids seven_of.long st.follow seven_of.room (ap by_tables (sym same) ∙ t);
      }

      -- with the record it is one that the theorems over every history ask for
      pub further_opens : OpenedWith (kept_of s.gate s.counters s.keys s.changes (record_of (record_opened st extra (length slots) (length cells) words).words slots cells))
      further_opens = subst (λ (ws : List ℕ). OpenedWith (lent ws)) (sym seven_of.left) further_done

      -- its protected PIDs are watched, N is empty, and so is the PAT store; the gate holds what it held
      pub further_empty :
          holding (kept_of s.gate s.counters s.keys s.changes (record_of (record_opened st extra (length slots) (length cells) words).words slots cells))
          ≡ record {
            held = record { rows = (holding s).held.rows; counters = s.counters; watch = (empty_held (is_protected st.well_known extra)).watch };
            pats = begun;
          }
      further_empty = ap (λ (ws : List ℕ). holding (lent ws)) seven_of.left ∙ (λ i. record {
        held = record {
          rows = (holding s).held.rows;
          counters = s.counters;
          watch = record_watch st.well_known extra words slots cells seven_of.pids seven_of.long st.follow i;
        };
        pats = none_in_lem i;
      })
        where
          none_in_lem : cond (by_tables s.gate.follow) (pats_in (record_of filled_words slots cells)) begun ≡ begun
          none_in_lem = rw same (record_pats st.well_known extra words slots cells seven_of.pids seven_of.long st.follow seven_of.room)

    pub further_in_step : InStep (record_opened st extra (length slots) (length cells) words).words
    further_in_step = subst InStep (sym seven_of.left) (record_in_step st.well_known extra words slots cells seven_of.pids seven_of.long st.follow)
