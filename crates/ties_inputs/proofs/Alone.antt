-- Where no eviction is counted, an input of the card is served as if it were alone: the inputs share the gate's rows and counters and nothing else.
-- Assumes nothing.
use Prim.Native.Nat.{ℕ, suc, ◌+◌, ◌^◌, ◌≤◌, ◌<◌}
use mathlib.Core.Path.{◌≡◌, refl, sym, ap, ◌∙◌}
use mathlib.Core.List.{List, [], ◌∷◌, ◌++◌}
use mathlib.Core.Bool.{Bool, true, false, cond, not, ◌&&◌, ◌||◌, true≢false}
use lib.ListN.{length}
use lib.Dec.{leb, ltb, eqb}
use native.Mathlib.Omega.{arith}
use borrow.Author.Tests.{eqb-true, eq-eqb, ne_eqb, eqb-false, leb-false, lt-leb, ltb-false, le-ltb}
use Rattle.laws.proofs.Tests.{and_none}
use Rattle.laws.specs.Runs.{answers, store_after}
use Rattle.answers.specs.declared.Refusal.TheVariants.{CounterFull}
use Rattle.section.specs.Facts.{Bytes}
use Rattle.counters.specs.Counters.{any_full, plus_of, counted_of, failed_of, zeroes}
use Rattle.counters.specs.declared.Counters.{Counters}
use Rattle.offers.specs.Offers.{is_short, read_of}
use Rattle.offers.specs.declared.Arrival.{Arrival}
use Rattle.offers.specs.declared.Verdict.{Verdict}
use Rattle.offers.specs.declared.Verdict.TheVariants.{Refused, Failed, Arrived}
use Rattle.watched.specs.Rules.{Watch}
use Rattle.ring.specs.Rules.{Row, holds, has, updated, later, changed, at_capacity, evicts, offered_to}
use Rattle.gate_state.specs.State.{plain}
use Rattle.gate.specs.Rules.{Offer, Manner, Held, Told, row_from, watch_after, admitted, carried_in, told, tells, acts, OfBytes}
use Rattle.ties_gate.specs.Watching.{empty_held}
use Rattle.ties_inputs.specs.Inputs.{input_of, is_on, rows_on, offers_on, answers_on, Spared, stay, loses}
use Rattle.ties_inputs.specs.Card.{Card, lent_on, card_tells, card_acts, empty_card}
use Rattle.ties_inputs.proofs.Rows.{arrived_input, same_on, neighbours}
use Rattle.ties_inputs.proofs.Card.{per_input}

-- ---- the rows of one input

fewer_on : (i : ℕ) (rows : List Row) → length (rows_on i rows) ≤ length rows
unfolding rows_on
fewer_on i [] = omega arith
fewer_on i (r ∷ rows) = go (is_on i r) (fewer_on i rows)
  where
    go : (b : Bool) → length (rows_on i rows) ≤ length rows → length (cond b (r ∷ rows_on i rows) (rows_on i rows)) ≤ suc (length rows)
    go true ih = omega arith
    go false ih = omega arith

-- what is no capacity for many is none for fewer
no_capacity : (capacity a b : ℕ) → a ≤ b → (leb capacity b && ltb 0 b) ≡ false → (leb capacity a && ltb 0 a) ≡ false
no_capacity capacity a b l e = go (leb capacity b) refl e
  where
    go : (t : Bool) → leb capacity b ≡ t → (t && ltb 0 b) ≡ false → (leb capacity a && ltb 0 a) ≡ false
    go true q f =
        let h = ltb-false 0 b f in
        let z : ltb 0 a ≡ false = le-ltb 0 a (omega arith) in
        rw z (and_none (leb capacity a))
    go false q f =
        let h = leb-false capacity b q in
        let z : leb capacity a ≡ false = lt-leb capacity a (omega arith) in
        rw z refl

module _ (i : ℕ) (n : Row) (on : is_on i n ≡ true) where
  holds_kept : (rows : List Row) → holds n.key (rows_on i rows) ≡ holds n.key rows
  unfolding rows_on
  holds_kept [] = refl
  holds_kept (r ∷ rows) = go (is_on i r) (eqb r.key n.key) refl refl (holds_kept rows)
    where
      go : (t b : Bool) → is_on i r ≡ t → eqb r.key n.key ≡ b → holds n.key (rows_on i rows) ≡ holds n.key rows
          → holds n.key (cond t (r ∷ rows_on i rows) (rows_on i rows)) ≡ b || holds n.key rows
      go true b p q ih = rw (q, ih)
      go false true p q ih = absurd (true≢false (sym on ∙ sym (same_on i r n q) ∙ p))
      go false false p q ih = ih

  has_kept : (rows : List Row) → has n (rows_on i rows) ≡ has n rows
  unfolding rows_on
  has_kept [] = refl
  has_kept (r ∷ rows) = go (is_on i r) (eqb r.key n.key) refl refl (has_kept rows)
    where
      go : (t b : Bool) → is_on i r ≡ t → eqb r.key n.key ≡ b → has n (rows_on i rows) ≡ has n rows
          → has n (cond t (r ∷ rows_on i rows) (rows_on i rows)) ≡ cond b (eqb r.version n.version && eqb r.change n.change) (has n rows)
      go true b p q ih = rw (q, ih)
      go false true p q ih = absurd (true≢false (sym on ∙ sym (same_on i r n q) ∙ p))
      go false false p q ih = ih

  updated_kept : (rows : List Row) → updated n (rows_on i rows) ≡ rows_on i (updated n rows)
  unfolding rows_on
  updated_kept [] = refl
  updated_kept (r ∷ rows) = go (is_on i r) (eqb r.key n.key) refl refl (updated_kept rows)
    where
      go : (t b : Bool) → is_on i r ≡ t → eqb r.key n.key ≡ b → updated n (rows_on i rows) ≡ rows_on i (updated n rows)
          → updated n (cond t (r ∷ rows_on i rows) (rows_on i rows)) ≡ rows_on i (cond b (n ∷ rows) (r ∷ updated n rows))
      go true true p q ih = rw (q, on)
      go true false p q ih = rw (q, p, ih)
      go false true p q ih = absurd (true≢false (sym on ∙ sym (same_on i r n q) ∙ p))
      go false false p q ih = rw p ih

  behind_kept : (rows : List Row) → rows_on i rows ++ (n ∷ []) ≡ rows_on i (rows ++ (n ∷ []))
  unfolding rows_on
  behind_kept [] = rw on
  behind_kept (r ∷ rows) = go (is_on i r) (behind_kept rows)
    where
      go : (t : Bool) → rows_on i rows ++ (n ∷ []) ≡ rows_on i (rows ++ (n ∷ []))
          → cond t (r ∷ rows_on i rows) (rows_on i rows) ++ (n ∷ []) ≡ cond t (r ∷ rows_on i (rows ++ (n ∷ []))) (rows_on i (rows ++ (n ∷ [])))
      go true ih = ap (λ (l : List Row). r ∷ l) ih
      go false ih = ih

  -- an offer for which no row leaves does to the rows of its input what it does to all
  offered_kept : (capacity : ℕ) (rows : List Row) → evicts capacity n rows ≡ false → offered_to capacity n (rows_on i rows) ≡ rows_on i (offered_to capacity n rows)
  unfolding offered_to
  offered_kept capacity rows e =
      go (holds n.key rows) (at_capacity capacity rows) (holds n.key (rows_on i rows)) (at_capacity capacity (rows_on i rows)) e (holds_kept rows)
      (no_capacity capacity (length (rows_on i rows)) (length rows) (fewer_on i rows))
    where
      go : (a b a' b' : Bool) → (not a && b) ≡ false → a' ≡ a → (b ≡ false → b' ≡ false)
          → cond a' (updated n (rows_on i rows)) (cond b' (later (rows_on i rows)) (rows_on i rows) ++ (n ∷ []))
          ≡ rows_on i (cond a (updated n rows) (cond b (later rows) rows ++ (n ∷ [])))
      go true b true b' p q r = updated_kept rows
      go true b false b' p q r = absurd (true≢false (sym q))
      go false true a' b' p q r = absurd (true≢false p)
      go false false true b' p q r = absurd (true≢false q)
      go false false false true p q r = absurd (true≢false (r refl))
      go false false false false p q r = behind_kept rows

-- ---- counters that are not full

-- n more can be counted
record Below (n : ℕ) (c : Counters) : Type 0 where
  completed : c.completed + n < 2 ^ 64
  emitted : c.emitted + n < 2 ^ 64
  suppressed : c.suppressed + n < 2 ^ 64
  failures : c.crc_failures + n < 2 ^ 64
  short : c.short_sections + n < 2 ^ 64
  mismatches : c.crc_mismatches + n < 2 ^ 64
  evictions : c.evictions + n < 2 ^ 64

one_fewer : (x n : ℕ) (b : Bool) → x + suc n < 2 ^ 64 → plus_of x b + n < 2 ^ 64
one_fewer x n true h = omega arith
one_fewer x n false h = omega arith

not_at_end : (x n : ℕ) → x + suc n < 2 ^ 64 → eqb x 18446744073709551615 ≡ false
not_at_end x n h = ne_eqb x 18446744073709551615 (λ e. omega arith)

module _ (n : ℕ) (c : Counters) (k : Below (suc n) c) where
  not_full : any_full c ≡ false
  not_full =
      rw (
        not_at_end c.completed n k.completed,
        not_at_end c.emitted n k.emitted,
        not_at_end c.suppressed n k.suppressed,
        not_at_end c.crc_failures n k.failures,
        not_at_end c.short_sections n k.short,
        not_at_end c.crc_mismatches n k.mismatches,
        not_at_end c.evictions n k.evictions,
      )

  below_kept : Below n c
  below_kept =
      record {
        completed = one_fewer c.completed n false k.completed;
        emitted = one_fewer c.emitted n false k.emitted;
        suppressed = one_fewer c.suppressed n false k.suppressed;
        failures = one_fewer c.crc_failures n false k.failures;
        short = one_fewer c.short_sections n false k.short;
        mismatches = one_fewer c.crc_mismatches n false k.mismatches;
        evictions = one_fewer c.evictions n false k.evictions;
      }

  below_counted : (e v : Bool) → Below n (counted_of c e v)
  below_counted e v =
      record {
        completed = one_fewer c.completed n true k.completed;
        emitted = one_fewer c.emitted n e k.emitted;
        suppressed = one_fewer c.suppressed n (not e) k.suppressed;
        failures = one_fewer c.crc_failures n false k.failures;
        short = one_fewer c.short_sections n false k.short;
        mismatches = one_fewer c.crc_mismatches n false k.mismatches;
        evictions = one_fewer c.evictions n v k.evictions;
      }

  below_failed : (s : Bool) → Below n (failed_of c s)
  below_failed s =
      record {
        completed = one_fewer c.completed n true k.completed;
        emitted = one_fewer c.emitted n false k.emitted;
        suppressed = one_fewer c.suppressed n false k.suppressed;
        failures = one_fewer c.crc_failures n true k.failures;
        short = one_fewer c.short_sections n s k.short;
        mismatches = one_fewer c.crc_mismatches n (not s) k.mismatches;
        evictions = one_fewer c.evictions n false k.evictions;
      }

below_carried : (m : Manner) (h : Held) (section : List ℕ) (v : Verdict) (n : ℕ) → Below (suc n) h.counters → Below n (carried_in m h section v).held.counters
unfolding carried_in admitted
below_carried m h section (Refused r) n k = below_kept n h.counters k
below_carried m h section (Failed f) n k = below_failed n h.counters k (is_short f)
below_carried m h section (Arrived a) n k = below_counted n h.counters k (changed (row_from a) h.rows || m.repeats) (evicts m.capacity (row_from a) h.rows)

below_after : (m : Manner) (h : Held) (o : Offer) (n : ℕ) → Below (suc n) h.counters → Below n (acts m h o).counters
unfolding acts told
below_after m h o n k = below_carried m h o.section (cond (any_full h.counters) (Refused CounterFull) (read_of m.rule o.input o.pid o.section)) n k

-- ---- evictions

no_more : (n : ℕ) (b : Bool) → plus_of n b ≡ n → b ≡ false
no_more n true e = absurd (omega arith)
no_more n false e = refl

rises : (m : Manner) (h : Held) (o : Offer) → h.counters.evictions ≤ (acts m h o).counters.evictions
unfolding acts told carried_in admitted
rises m h o = go (cond (any_full h.counters) (Refused CounterFull) (read_of m.rule o.input o.pid o.section))
  where
    more : (b : Bool) → h.counters.evictions ≤ plus_of h.counters.evictions b
    more true = omega arith
    more false = omega arith

    go : (v : Verdict) → h.counters.evictions ≤ (carried_in m h o.section v).held.counters.evictions
    go (Refused r) = omega arith
    go (Failed f) = omega arith
    go (Arrived a) = more (evicts m.capacity (row_from a) h.rows)

all_rise : (m : Manner) (c : Card) (os : List Offer) → c.counters.evictions ≤ (store_after (card_acts m) c os).counters.evictions
unfolding store_after card_acts
all_rise m c [] = omega arith
all_rise m c (o ∷ os) = let p = rises m (lent_on o.input c) o in let q = all_rise m (card_acts m c o) os in omega arith

-- ---- one offer

-- t is what h has of input i
record Alone (i : ℕ) (h t : Held) : Type 0 where
  rows : t.rows ≡ rows_on i h.rows
  watch : t.watch ≡ h.watch

-- t tells what h tells, and goes on so
record Alike (i : ℕ) (x y : Told) : Type 0 where
  answer : y.answer ≡ x.answer
  held : Alone i x.held y.held

module _ (m : Manner) (i : ℕ) (h t : Held) (alone : Alone i h t) where
  admitted_alike : (n : Row) (section : List ℕ) → is_on i n ≡ true → evicts m.capacity n h.rows ≡ false → Alike i (admitted m h n section) (admitted m t n section)
  unfolding admitted
  admitted_alike n section on e =
      let c : changed n t.rows ≡ changed n h.rows = ap (λ (l : List Row). changed n l) alone.rows ∙ ap not (has_kept i n on h.rows) in
      record {
        answer = ap (λ (b : Bool). plain (cond (b || m.repeats) 1 2)) c;
        held = record {
          rows = ap (offered_to m.capacity n) alone.rows ∙ offered_kept i n on m.capacity h.rows e;
          watch = ap (λ (b : Bool). watch_after (b && m.follow) t.watch section) c ∙ ap (λ (w : Watch). watch_after (changed n h.rows && m.follow) w section) alone.watch;
        };
      }

  carried_alike : (section : List ℕ) (v : Verdict) → ((a : Arrival) → v ≡ Arrived a → input_of a.key ≡ i)
      → (carried_in m h section v).held.counters.evictions ≡ h.counters.evictions → Alike i (carried_in m h section v) (carried_in m t section v)
  unfolding carried_in admitted
  carried_alike section (Refused r) on e = record { answer = refl; held = alone }
  carried_alike section (Failed f) on e = record { answer = refl; held = record { rows = alone.rows; watch = alone.watch } }
  carried_alike section (Arrived a) on e =
      admitted_alike (row_from a) section (eq-eqb (input_of a.key) i (on a refl)) (no_more h.counters.evictions (evicts m.capacity (row_from a) h.rows) e)

  told_alike : (o : Offer) (n l : ℕ) → o.input ≡ i → Bytes o.section → Below (suc n) h.counters → Below (suc l) t.counters
      → (acts m h o).counters.evictions ≡ h.counters.evictions → Alike i (told m h o) (told m t o)
  unfolding acts told
  told_alike o n l at b k k' e = go (any_full h.counters) (any_full t.counters) (not_full n h.counters k) (not_full l t.counters k') e
    where
      go : (f g : Bool) → f ≡ false → g ≡ false → (carried_in m h o.section (cond f (Refused CounterFull) (read_of m.rule o.input o.pid o.section))).held.counters.evictions ≡ h.counters.evictions
          → Alike i (carried_in m h o.section (cond f (Refused CounterFull) (read_of m.rule o.input o.pid o.section)))
          (carried_in m t o.section (cond g (Refused CounterFull) (read_of m.rule o.input o.pid o.section)))
      go true g p q z = absurd (true≢false p)
      go false true p q z = absurd (true≢false q)
      go false false p q z =
          carried_alike o.section (read_of m.rule o.input o.pid o.section) (λ a r. arrived_input m.rule o.input o.pid o.section b a r ∙ at) z

-- an offer on another input, for which no row leaves
spared_all : (i : ℕ) (h x : Held) → x.counters.evictions ≡ h.counters.evictions → Spared i h x → rows_on i x.rows ≡ rows_on i h.rows
spared_all i h x e (stay p) = p
spared_all i h x e (loses r rows p q l) = absurd (omega arith)

-- ---- many offers

module _ (m : Manner) (i : ℕ) where
  abbrev AloneOn : Card → Held → Type 0
  AloneOn c t = Alone i (lent_on i c) t

  -- what was answered on input i, and what is left of it
  record Served (c : Card) (t : Held) (os : List Offer) : Type 0 where
    told_are : answers_on i os (answers (card_tells m) (card_acts m) c os) ≡ answers (tells m) (acts m) t (offers_on i os)
    left : AloneOn (store_after (card_acts m) c os) (store_after (acts m) t (offers_on i os))

  record Served-one (c : Card) (t : Held) (o : Offer) : Type 0 where
    told_is : tells m t o ≡ card_tells m c o
    left : AloneOn (card_acts m c o) (acts m t o)

  on_card : (c : Card) (t : Held) (o : Offer) (n l : ℕ) → AloneOn c t → o.input ≡ i → Bytes o.section → Below (suc n) c.counters → Below (suc l) t.counters
      → (card_acts m c o).counters.evictions ≡ c.counters.evictions → Served-one c t o
  unfolding card_acts card_tells tells acts
  on_card c t o n l alone at b k k' e =
      let here : Alone i (lent_on o.input c) t = record { rows = alone.rows; watch = alone.watch ∙ ap c.watches (sym at) } in
      let a : Alike i (told m (lent_on o.input c) o) (told m t o) = told_alike m i (lent_on o.input c) t here o n l at b k k' e in
      record {
        told_is = a.answer;
        left = record {
          rows = a.held.rows;
          watch = a.held.watch ∙ sym (ap (λ (x : Bool). cond x (told m (lent_on o.input c) o).held.watch (c.watches i)) (eq-eqb i o.input (sym at)));
        };
      }

  off_card : (c : Card) (t : Held) (o : Offer) → AloneOn c t → (o.input ≡ i → ⊥) → Bytes o.section
      → (card_acts m c o).counters.evictions ≡ c.counters.evictions → AloneOn (card_acts m c o) t
  unfolding card_acts
  off_card c t o alone other b e =
      record {
        rows = alone.rows ∙ sym (spared_all i (lent_on o.input c) (acts m (lent_on o.input c) o) e (neighbours m (lent_on o.input c) o i b other));
        watch = alone.watch ∙ sym (per_input m c o i (λ q. other (sym q)));
      }

  below_card : (c : Card) (o : Offer) (n : ℕ) → Below (suc n) c.counters → Below n (card_acts m c o).counters
  unfolding card_acts
  below_card c o n k = below_after m (lent_on o.input c) o n k

  rise_card : (c : Card) (o : Offer) → c.counters.evictions ≤ (card_acts m c o).counters.evictions
  unfolding card_acts
  rise_card c o = rises m (lent_on o.input c) o

  run : (os : List Offer) (c : Card) (t : Held) → OfBytes os → Below (length os) c.counters → Below (length os) t.counters → AloneOn c t
      → (store_after (card_acts m) c os).counters.evictions ≡ c.counters.evictions → Served c t os
  unfolding store_after answers answers_on offers_on
  run [] c t b k k' alone e = record { told_are = refl; left = alone }
  run (o ∷ os) c t b k k' alone e =
      let s = go (eqb o.input i) refl (λ t' l a. run os (card_acts m c o) t' b.1 (below_card c o (length os) k) l a (e ∙ sym still)) in
      record { told_are = s.0; left = s.1 }
    where
      still : (card_acts m c o).counters.evictions ≡ c.counters.evictions
      still = let p = rise_card c o in let q = all_rise m (card_acts m c o) os in omega (arith, p, q, e)

      go : (x : Bool) → eqb o.input i ≡ x → ((t' : Held) → Below (length os) t'.counters → AloneOn (card_acts m c o) t' → Served (card_acts m c o) t' os)
          → (cond x (card_tells m c o ∷ answers_on i os (answers (card_tells m) (card_acts m) (card_acts m c o) os)) (answers_on i os (answers (card_tells m) (card_acts m) (card_acts m c o) os))
          ≡ answers (tells m) (acts m) t (cond x (o ∷ offers_on i os) (offers_on i os)))
          × AloneOn (store_after (card_acts m) (card_acts m c o) os) (store_after (acts m) t (cond x (o ∷ offers_on i os) (offers_on i os)))
      go true q ih =
          let f = on_card c t o (length os) (length os) alone (eqb-true o.input i q) b.0 k k' still in
          let g = ih (acts m t o) (below_after m t o (length os) k') f.left in
          let h = sym f.told_is in
          let l = g.told_are in
          (λ j. h j ∷ l j, g.left)
      go false q ih =
          let g = ih t (below_kept (length os) t.counters k') (off_card c t o alone (eqb-false o.input i q) b.0 still) in
          (g.told_are, g.left)

none_yet : (n : ℕ) → n < 2 ^ 64 → Below n zeroes
none_yet n h =
    record { completed = omega arith; emitted = omega arith; suppressed = omega arith; failures = omega arith; short = omega arith; mismatches = omega arith; evictions = omega arith }

-- a run of fewer than 2^64 offers from an opened card, in which no eviction is counted
module _
    (m : Manner) (i : ℕ) (os : List Offer) (b : OfBytes os) (few : length os < 2 ^ 64) (protected : ℕ → ℕ → Bool)
    (kept : (store_after (card_acts m) (empty_card protected) os).counters.evictions ≡ 0)
  where
    served : Served m i (empty_card protected) (empty_held (protected i)) os
    unfolding rows_on
    served =
        run m i os (empty_card protected) (empty_held (protected i)) b (none_yet (length os) few) (none_yet (length os) few)
        (record { rows = refl; watch = refl }) kept

    -- the answers to the offers on input i are those that a gate opened alike gives to these offers alone
    pub card_as_if_alone : answers_on i os (answers (card_tells m) (card_acts m) (empty_card protected) os) ≡ answers (tells m) (acts m) (empty_held (protected i)) (offers_on i os)
    card_as_if_alone = served.told_are

    -- the rows of input i are those that this gate has then
    pub rows_as_if_alone : (store_after (acts m) (empty_held (protected i)) (offers_on i os)).rows ≡ rows_on i (store_after (card_acts m) (empty_card protected) os).rows
    rows_as_if_alone = served.left.rows

    -- and the record of input i is the one that was lent to this gate
    pub watch_as_if_alone : (store_after (acts m) (empty_held (protected i)) (offers_on i os)).watch ≡ (store_after (card_acts m) (empty_card protected) os).watches i
    watch_as_if_alone = served.left.watch

-- ---- the watch is not asked by an offer: a gate that is lent one record for all inputs answers as the card

record Unread (x y : Told) : Type 0 where
  answer : x.answer ≡ y.answer
  rows : x.held.rows ≡ y.held.rows
  counters : x.held.counters ≡ y.held.counters

module _ (m : Manner) (h t : Held) (p : h.rows ≡ t.rows) (q : h.counters ≡ t.counters) where
  carried_unread : (section : List ℕ) (v : Verdict) → Unread (carried_in m h section v) (carried_in m t section v)
  unfolding carried_in admitted
  carried_unread section (Refused r) = record { answer = refl; rows = p; counters = q }
  carried_unread section (Failed f) = record { answer = refl; rows = p; counters = λ j. failed_of (q j) (is_short f) }
  carried_unread section (Arrived a) =
      record {
        answer = λ j. plain (cond (changed (row_from a) (p j) || m.repeats) 1 2);
        rows = λ j. offered_to m.capacity (row_from a) (p j);
        counters = λ j. counted_of (q j) (changed (row_from a) (p j) || m.repeats) (evicts m.capacity (row_from a) (p j));
      }

  told_unread : (o : Offer) → Unread (told m h o) (told m t o)
  unfolding told
  told_unread o = go (any_full h.counters) (any_full t.counters) (ap any_full q)
    where
      go : (f g : Bool) → f ≡ g
          → Unread (carried_in m h o.section (cond f (Refused CounterFull) (read_of m.rule o.input o.pid o.section)))
          (carried_in m t o.section (cond g (Refused CounterFull) (read_of m.rule o.input o.pid o.section)))
      go true true e = carried_unread o.section (Refused CounterFull)
      go true false e = absurd (true≢false e)
      go false true e = absurd (true≢false (sym e))
      go false false e = carried_unread o.section (read_of m.rule o.input o.pid o.section)

-- a gate and a card with these rows and counters
record Shares (h : Held) (c : Card) : Type 0 where
  rows : h.rows ≡ c.rows
  counters : h.counters ≡ c.counters

module _ (m : Manner) where
  one_answer : (h : Held) (c : Card) (o : Offer) → Shares h c → tells m h o ≡ card_tells m c o
  unfolding tells card_tells
  one_answer h c o s = (told_unread m h (lent_on o.input c) s.rows s.counters o).answer

  one_left : (h : Held) (c : Card) (o : Offer) → Shares h c → Shares (acts m h o) (card_acts m c o)
  unfolding acts card_acts
  one_left h c o s = let u = told_unread m h (lent_on o.input c) s.rows s.counters o in record { rows = u.rows; counters = u.counters }

  all_answers : (h : Held) (c : Card) (os : List Offer) → Shares h c → answers (tells m) (acts m) h os ≡ answers (card_tells m) (card_acts m) c os
  unfolding answers
  all_answers h c [] s = refl
  all_answers h c (o ∷ os) s =
      let p = one_answer h c o s in
      let q = all_answers (acts m h o) (card_acts m c o) os (one_left h c o s) in
      λ j. p j ∷ q j

  all_left_lem : (h : Held) (c : Card) (os : List Offer) → Shares h c → Shares (store_after (acts m) h os) (store_after (card_acts m) c os)
  unfolding store_after
  all_left_lem h c [] s = s
  all_left_lem h c (o ∷ os) s = all_left_lem (acts m h o) (card_acts m c o) os (one_left h c o s)

-- THE THEOREM: in a run of fewer than 2^64 offers from an opened gate in which no eviction is counted, the answers to the offers on input i are those that
-- a gate opened alike gives to these offers alone
pub as_if_alone : (m : Manner) (i : ℕ) (os : List Offer) (protected : ℕ → Bool) → OfBytes os → length os < 2 ^ 64
    → (store_after (acts m) (empty_held protected) os).counters.evictions ≡ 0
    → answers_on i os (answers (tells m) (acts m) (empty_held protected) os) ≡ answers (tells m) (acts m) (empty_held protected) (offers_on i os)
as_if_alone m i os protected b few e =
    let s : Shares (empty_held protected) (empty_card (λ j. protected)) = record { rows = refl; counters = refl } in
    let l = all_left_lem m (empty_held protected) (empty_card (λ j. protected)) os s in
    ap (answers_on i os) (all_answers m (empty_held protected) (empty_card (λ j. protected)) os s)
    ∙ card_as_if_alone m i os b few (λ j. protected) (sym (ap (λ (c : Counters). c.evictions) l.counters) ∙ e)
