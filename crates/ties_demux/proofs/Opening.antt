-- On a card where everything was opened all stands, and no PID holds a buffer.
-- Assumes nothing.
use mathlib.Core.Path.{◌≡◌, refl, sym, ap, subst, ◌∙◌}
use mathlib.Core.Bool.{Bool, true, false, cond, ◌&&◌, true≢false}
use mathlib.Core.Option.{none}
use mathlib.Core.List.{List}
use Prim.Native.Nat.{ℕ, ◌+◌, ◌*◌, ◌/◌, ◌%◌, ◌≤◌, ◌<◌, max}
use native.Mathlib.Omega.{arith}
use lib.Dec.{leb, ltb, eqb}
use lib.ListN.{length, get_or, drop, replicate, length-append, length-drop, length-replicate}
use borrow.Author.Tests.{le-leb, leb-true}
use Rattle.laws.proofs.Tests.{and_true, true_and}
use Rattle.laws.specs.Bits.{has_bit}
use Rattle.section.specs.Judged.{rule_known}
use Rattle.ring.specs.Store.{room_of, Whole}
use Rattle.ring.specs.Store.{whole_of as ring_whole}
use Rattle.ring.proofs.Laws.{whole_test}
use Rattle.watched.specs.Store.{all_pids, filled}
use Rattle.watched.specs.Store as watched
use Rattle.watched.proofs.Meaning.{length_filled}
use Rattle.counters.specs.Counters.{zeroes}
use Rattle.gate_state.specs.State.{by_tables, empty_gate}
use Rattle.gate_state.specs.declared.Gate.{Gate}
use Rattle.gate_state.specs.declared.Settings.{Settings}
use Rattle.gate.specs.Store.{can_open, opened, begins, whole_of}
use Rattle.gate.specs.Store as sections
use Rattle.pats.specs.Store.{Record, record_of, room_for, pats_whole, begun_words}
use Rattle.pats.proofs.Laws.{length_begun, begun_whole}
use Rattle.pats.proofs.Ways.{Long, room_long}
use Rattle.gate_pats.specs.Store.{room_with, words_with, refused_with, begun_with, opened_with, opening_with, record_opened}
use Rattle.streams.specs.declared.Streams.{Streams}
use Rattle.streams.specs.Store.{are_enough, cleared, asked, Opening, opened_of, buffer_of, held_buffer}
use Rattle.streams.proofs.After.{cleared_word}
use Rattle.ties_streams.specs.View.{Apart}
use Rattle.ties_streams.proofs.Held.{no_buffer, opened_held}
use Rattle.ties_streams.proofs.Packets.{apart_opened}
use Rattle.demux_judge.specs.Verdicts.{Wholes, Enough}
use Rattle.demux_judge.proofs.Laws.{enough}
use Rattle.ties_demux.specs.Card.{Gates, Input, Card, shown_of, shown_by, Stands, AllStand}
use Rattle.ties_demux.specs.Opened.{OpenedGate, OpenedRecord, OpenedStreams, OpenedCard}

-- 12 or 13 is not 7
not_seven : {A : Type 0} (b : Bool) → ◌≡◌ {A = ℕ} (cond b 13 12) 7 → A
not_seven true e = absurd (omega arith)
not_seven false e = absurd (omega arith)

-- ---- the gate

gate_opened_lem : (st : Settings) (extra : List ℕ) (keys changes slots cells : ℕ) (words : List ℕ) → (opened_with st extra keys changes slots cells words).answer ≡ 7
    → (can_open st keys changes (length words) ≡ true) × ((opened_with st extra keys changes slots cells words).gate ≡ empty_gate st)
unfolding opened_with opened
gate_opened_lem st extra keys changes slots cells words = go (room_with st.follow (length words) slots cells) (all_pids extra) (can_open st keys changes (length words)) refl
  where
    go : (a b d : Bool) → can_open st keys changes (length words) ≡ d
        → (cond a (begun_with st.follow (cond b (cond d (begins 7 st (filled words st.well_known extra)) (begins 13 st words)) (begins 12 st words))) (begins (refused_with extra) st words)).answer ≡ 7
        → (can_open st keys changes (length words) ≡ true)
        × ((cond a (begun_with st.follow (cond b (cond d (begins 7 st (filled words st.well_known extra)) (begins 13 st words)) (begins 12 st words))) (begins (refused_with extra) st words)).gate ≡ empty_gate st)
    go true true true e s = (e, refl)
    go true true false e s = absurd (omega arith)
    go true false d e s = absurd (omega arith)
    go false b d e s = not_seven (all_pids extra) s

-- ---- a record

record Fresh (st : Settings) (r : Record) : Type 0 where
  pub long : 384 ≤ length r.words
  pub whole : by_tables st.follow ≡ true → pats_whole r ≡ true

watch_opened_lem : (words : List ℕ) (known : Bool) (extra : List ℕ) → (watched.opened words known extra).answer ≡ 7
    → (384 ≤ length words) × ((watched.opened words known extra).words ≡ filled words known extra)
unfolding watched.opened
watch_opened_lem words known extra = go (all_pids extra) (leb 384 (length words)) refl
  where
    left : Bool → Bool → watched.Opening
    left b d = cond b (cond d (record { answer = 7; words = filled words known extra }) (record { answer = 13; words = words })) (record { answer = 12; words = words })

    go : (b d : Bool) → leb 384 (length words) ≡ d → (left b d).answer ≡ 7 → (384 ≤ length words) × ((left b d).words ≡ filled words known extra)
    go true true e s = (leb-true _ _ e, refl)
    go true false e s = absurd (omega arith)
    go false d e s = absurd (omega arith)

record_opened_lem : (st : Settings) (r : Record) → OpenedRecord st r → Fresh st r
unfolding record_opened
record_opened_lem st r o = go (room_with st.follow (length w) (length r.slots) (length r.cells)) refl o.seven o.words
  where
    w : List ℕ
    w = o.before

    x : watched.Opening
    x = watched.opened w st.well_known o.extra

    done : List ℕ
    done = filled w st.well_known o.extra

    by : (t : Bool) → by_tables st.follow ≡ t → cond t (room_for (length w) (length r.slots) (length r.cells)) true ≡ true → x.answer ≡ 7 → r.words ≡ cond (t && eqb x.answer 7) (begun_words x.words) x.words → Fresh st r
    by true e m s q =
        let h : 384 ≤ length w = (watch_opened_lem w st.well_known o.extra s).0 in
        let f : x.words ≡ done = (watch_opened_lem w st.well_known o.extra s).1 in
        let l : Long (length w) (length r.slots) (length r.cells) = room_long (length w) (length r.slots) (length r.cells) true (sym m) refl in
        let n : length done ≡ length w = length_filled w st.well_known o.extra h in
        let q' : r.words ≡ begun_words done = q ∙ (λ a. cond (eqb (s a) 7) (begun_words (f a)) (f a)) in
        record {
          long = omega (arith, ap length q', length_begun done, n, h);
          whole = λ t. ap (λ (y : List ℕ). pats_whole (record_of y r.slots r.cells)) q' ∙ begun_whole done (omega (arith, n, l.words)) r.slots r.cells l.slots l.cells;
        }
    by false e m s q =
        let h : 384 ≤ length w = (watch_opened_lem w st.well_known o.extra s).0 in
        let f : x.words ≡ done = (watch_opened_lem w st.well_known o.extra s).1 in
        record { long = omega (arith, ap length (q ∙ f), length_filled w st.well_known o.extra h, h); whole = λ t. absurd (true≢false (sym t ∙ e)) }

    go : (b : Bool) → room_with st.follow (length w) (length r.slots) (length r.cells) ≡ b
        → (cond b (opening_with st.follow x) (record { answer = refused_with o.extra; words = w })).answer ≡ 7
        → r.words ≡ (cond b (opening_with st.follow x) (record { answer = refused_with o.extra; words = w })).words → Fresh st r
    go true e s q = by (by_tables st.follow) refl e s q
    go false e s q = not_seven (all_pids o.extra) s

-- ---- the streams

long_cleared : (p : List ℕ) → 32768 ≤ length p → length (cleared 32768 p) ≡ length p
unfolding cleared
long_cleared p h = length-append (replicate 32768 0) (drop 32768 p) ∙ omega (arith, length-replicate {A = ℕ} 32768 0, length-drop 32768 p)

record Free (l : Input) : Type 0 where
  pub lent : Enough l.streams.count (length l.pids) (length l.buffers)
  pub before : List ℕ
  pub clear : l.pids ≡ cleared 32768 before

streams_opened_lem : (l : Input) → OpenedStreams l → Free l
unfolding opened_of
streams_opened_lem l o = go (are_enough o.count (length o.before) (length l.buffers)) refl o.seven o.streams o.pids
  where
    left : Bool → Opening
    left b = cond b (record { answer = 7; streams = asked o.count; pids = cleared 32768 o.before }) (record { answer = 13; streams = asked o.count; pids = o.before })

    go : (b : Bool) → are_enough o.count (length o.before) (length l.buffers) ≡ b → (left b).answer ≡ 7 → l.streams ≡ (left b).streams → l.pids ≡ (left b).pids → Free l
    go true e s f q =
        let x = enough o.count (length o.before) (length l.buffers) e in
        let n : l.streams.count ≡ o.count = ap (λ (y : Streams). y.count) f in
        let m : length l.pids ≡ length o.before = ap length q ∙ long_cleared o.before x.words in
        record {
          lent = record { some = omega (arith, n, x.some); few = omega (arith, n, x.few); words = omega (arith, m, x.words); bytes = rw n x.bytes };
          before = o.before;
          clear = q;
        }
    go false e s f q = absurd (omega arith)

-- ---- all of it

module _ (st : Settings) (c : Card) (o : OpenedCard st c) where
  abbrev g : Gates
  g = c.gates

  a_gate : (can_open st (length g.keys) (length g.changes) (length o.gate.words) ≡ true) × (g.gate ≡ empty_gate st)
  a_gate =
      let y = o.gate in
      let z = gate_opened_lem st y.extra (length g.keys) (length g.changes) y.slots y.cells y.words y.seven in
      (z.0, y.gate ∙ z.1)

  whole_gate : (words : ℕ) → 384 ≤ words → whole_of g.gate (length g.keys) (length g.changes) words ≡ true
  whole_gate words h =
      let a = and_true (leb (room_of st.capacity) (length g.keys) && leb (room_of st.capacity) (length g.changes) && leb 384 (length o.gate.words)) (rule_known st.change_rule) a_gate.0 in
      let b = and_true (leb (room_of st.capacity) (length g.keys) && leb (room_of st.capacity) (length g.changes)) (leb 384 (length o.gate.words)) a.0 in
      let d = and_true (leb (room_of st.capacity) (length g.keys)) (leb (room_of st.capacity) (length g.changes)) b.0 in
      let r : Whole (empty_gate st).ring (length g.keys) (length g.changes) = record { used = omega arith; first = omega arith; keys_long = leb-true _ _ d.0; changes_long = leb-true _ _ d.1 } in
      subst (λ (y : Gate). whole_of y (length g.keys) (length g.changes) words ≡ true) (sym a_gate.1)
      (true_and (true_and (whole_test (empty_gate st).ring (length g.keys) (length g.changes) r) (le-leb 384 words h)) a.1)

  pub opened_stands : AllStand c
  opened_stands i =
      let r = record_opened_lem st (g.watches i) (o.records i) in
      let l = streams_opened_lem (c.inputs i) (o.streams i) in
      record {
        whole = record {
          gate = whole_gate (length (g.watches i).words) r.long;
          pats = λ t. r.whole (sym (ap (λ (y : Gate). by_tables y.follow) a_gate.1) ∙ t);
          lent = l.lent;
          listed = o.places;
        };
        apart = subst (Apart (c.inputs i).streams.count) (sym l.clear) (apart_opened (c.inputs i).streams.count l.before);
        bytes = (o.streams i).bytes;
        watched = λ p h v.
            let n : ℕ = (c.inputs i).streams.count in
            let z : held_buffer n (c.inputs i).pids p ≡ n =
            ap (λ (y : List ℕ). held_buffer n y p) l.clear ∙ ap (λ (m : ℕ). buffer_of m n) (cleared_word 32768 l.before (p * 4) (omega arith)) ∙ no_buffer n in
            absurd (omega arith);
      }

  pub nothing_held : (n : ℕ) → (shown_by c).held.streams n ≡ none
  nothing_held n =
      let l = streams_opened_lem (c.inputs (n / 8192)) (o.streams (n / 8192)) in
      ap (λ (y : List ℕ). shown_of (record { streams = (c.inputs (n / 8192)).streams; pids = y; buffers = (c.inputs (n / 8192)).buffers }) (n % 8192)) l.clear
      ∙ opened_held (c.inputs (n / 8192)).streams.count l.before (c.inputs (n / 8192)).buffers (n % 8192)
