-- What a card stands for when a call on input i is over, by what the call left.
-- Assumes nothing.
use mathlib.Core.Path.{◌≡◌, refl, sym, ap, subst, ◌∙◌}
use mathlib.Core.Logic.{by_cases}
use mathlib.Core.Bool.{Bool, true, false, cond, ◌&&◌}
use mathlib.Core.List.{List}
use Prim.Native.Nat.{ℕ, ◌/◌, ◌%◌, ◌≤◌, ◌<◌}
use native.Mathlib.Decide.{ℕ_discrete}
use native.Mathlib.Omega.{arith}
use lib.Dec.{eqb, leb}
use lib.ListN.{length}
use borrow.Author.Tests.{eq-eqb, ne_eqb, eqb-true, le-leb}
use Rattle.laws.proofs.Tests.{true_and}
use Rattle.laws.specs.Bits.{has_bit}
use Rattle.section.specs.Facts.{Bytes as AllBytes}
use Rattle.section.specs.Judged.{rule_known}
use Rattle.transport.specs.Receiver.{Streams}
use Rattle.transport.specs.Receiver as transport
use Rattle.ring.proofs.Laws.{whole_test}
use Rattle.ring.specs.Store.{whole_of as ring_whole}
use Rattle.gate_state.specs.State.{by_tables}
use Rattle.gate_state.specs.declared.Gate.{Gate}
use Rattle.gate_state.specs.declared.Follow.{Follow}
use Rattle.gate.specs.Store.{whole_of, is_whole}
use Rattle.gate.proofs.Laws.{fits}
use Rattle.pats.specs.Store.{Record}
use Rattle.gate_pats.specs.Store.{Kept, sections_in}
use Rattle.streams.specs.declared.Streams.{Streams as Counted}
use Rattle.ties_streams.specs.View.{held_by}
use Rattle.demux_judge.specs.Verdicts.{Wholes}
use Rattle.demux_store.specs.Store.{Store}
use Rattle.ties_demux.specs.Rules.{Held, counts_with}
use Rattle.ties_demux.specs.Card.{Gates, Input, Card, kept_on, gates_with, lent_on, input_of, back_from, shown_of, shown_by, Stands, AllStand}
use Rattle.ties_demux.proofs.Numbers.{with_input}

module _ (c : Card) (i : ℕ) where
  abbrev g : Gates
  g = c.gates

  -- ---- what is shown

  pub streams_back : (s : Store) → (shown_by (back_from i s c)).held.streams ≡ with_input i (shown_of (input_of s)) (shown_by c).held.streams
  streams_back s = λ a n. go (eqb (n / 8192) i) n a
    where
      go : (b : Bool) (n : ℕ) → shown_of (cond b (input_of s) (c.inputs (n / 8192))) (n % 8192) ≡ cond b (shown_of (input_of s) (n % 8192)) (shown_of (c.inputs (n / 8192)) (n % 8192))
      go true n = refl
      go false n = refl

  pub own_streams : with_input i (shown_of (c.inputs i)) (shown_by c).held.streams ≡ (shown_by c).held.streams
  own_streams = λ a n. go (eqb (n / 8192) i) n refl a
    where
      go : (b : Bool) → (n : ℕ) → eqb (n / 8192) i ≡ b → cond b (shown_of (c.inputs i) (n % 8192)) (shown_of (c.inputs (n / 8192)) (n % 8192)) ≡ shown_of (c.inputs (n / 8192)) (n % 8192)
      go true n e = ap (λ (j : ℕ). shown_of (c.inputs j) (n % 8192)) (sym (eqb-true _ _ e))
      go false n e = refl

  pub counts_back : (s : Store) → (shown_by (back_from i s c)).counts ≡ counts_with i s.streams (shown_by c).counts
  counts_back s = λ a j. go (eqb j i) j a
    where
      go : (b : Bool) (j : ℕ) → (cond b (input_of s) (c.inputs j)).streams ≡ cond b s.streams (c.inputs j).streams
      go true j = refl
      go false j = refl

  pub own_gates : gates_with i (kept_on i g) g ≡ g
  own_gates = λ a. record { gate = g.gate; counters = g.counters; keys = g.keys; changes = g.changes; watches = λ j. go (eqb j i) j refl a }
    where
      go : (b : Bool) (j : ℕ) → eqb j i ≡ b → cond b (g.watches i) (g.watches j) ≡ g.watches j
      go true j e = ap g.watches (sym (eqb-true _ _ e))
      go false j e = refl

  -- a call that leaves all but what it counts
  pub counted_back : (t : Counted) → t.count ≡ (c.inputs i).streams.count
      → shown_by (back_from i (record { gate = kept_on i g; streams = t; pids = (c.inputs i).pids; buffers = (c.inputs i).buffers; places = c.places }) c)
      ≡ record { held = (shown_by c).held; counts = counts_with i t (shown_by c).counts }
  counted_back t e =
      let s : Store = record { gate = kept_on i g; streams = t; pids = (c.inputs i).pids; buffers = (c.inputs i).buffers; places = c.places } in
      let v = streams_back s ∙ (λ a. with_input i (held_by (e a) (c.inputs i).pids (c.inputs i).buffers) (shown_by c).held.streams) ∙ own_streams in
      λ a. record { held = record { streams = v a; world = own_gates a }; counts = counts_back s a }

  -- nothing at all
  pub same_back : back_from i (lent_on i c) c ≡ c
  same_back = λ a. record { gates = own_gates a; inputs = λ j. go (eqb j i) j refl a; places = c.places }
    where
      go : (b : Bool) (j : ℕ) → eqb j i ≡ b → cond b (input_of (lent_on i c)) (c.inputs j) ≡ c.inputs j
      go true j e = ap c.inputs (sym (eqb-true _ _ e))
      go false j e = refl

  -- ---- what holds then

  whole_elsewhere : (y : Gate) (keys changes a b : ℕ) → whole_of y keys changes a ≡ true → 384 ≤ b → whole_of y keys changes b ≡ true
  whole_elsewhere y keys changes a b w h =
      let f = fits y keys changes a (whole_of y keys changes a) refl w in
      true_and (true_and (whole_test y.ring keys changes f.rows) (le-leb 384 b h)) f.rule

  pub stand_back : (s : Store) → AllStand c → is_whole (sections_in s.gate) ≡ true → s.gate.gate.follow ≡ g.gate.follow → length s.places ≡ length c.places
      → Stands (gates_with i s.gate g) i (input_of s) s.places → AllStand (back_from i s c)
  stand_back s st w f l own j = go (eqb j i) refl
    where
      elsewhere : Wholes s.gate.gate (c.inputs j).streams (length s.gate.keys) (length s.gate.changes) (g.watches j) (length (c.inputs j).pids) (length (c.inputs j).buffers) (length s.places)
      elsewhere =
          let x = (st j).whole in
          record {
            gate = whole_elsewhere s.gate.gate (length s.gate.keys) (length s.gate.changes) (length s.gate.watch.words) (length (g.watches j).words) w
                (fits g.gate (length g.keys) (length g.changes) (length (g.watches j).words) (whole_of g.gate (length g.keys) (length g.changes) (length (g.watches j).words)) refl x.gate).watch;
            pats = λ t. x.pats (ap by_tables (sym f) ∙ t);
            lent = x.lent;
            listed = omega (arith, x.listed);
          }

      Then : Bool → Type 0
      Then b = Stands (record { gate = s.gate.gate; counters = s.gate.counters; keys = s.gate.keys; changes = s.gate.changes; watches = λ k. cond (eqb k i) s.gate.watch (g.watches k) }) j
          (cond b (input_of s) (c.inputs j)) s.places

      other : (r : Record) → r ≡ g.watches j
          → Wholes s.gate.gate (c.inputs j).streams (length s.gate.keys) (length s.gate.changes) r (length (c.inputs j).pids) (length (c.inputs j).buffers) (length s.places)
      other r e = subst (λ (y : Record). Wholes s.gate.gate (c.inputs j).streams (length s.gate.keys) (length s.gate.changes) y (length (c.inputs j).pids) (length (c.inputs j).buffers) (length s.places)) (sym e) elsewhere

      go : (b : Bool) → eqb j i ≡ b → Then b
      go true e = subst (λ (k : ℕ). Stands (gates_with i s.gate g) k (input_of s) s.places) (sym (eqb-true _ _ e)) own
      go false e =
          let q : cond (eqb j i) s.gate.watch (g.watches j) ≡ g.watches j = rw e refl in
          record {
            whole = other (cond (eqb j i) s.gate.watch (g.watches j)) q;
            apart = (st j).apart;
            bytes = (st j).bytes;
            watched = λ p h v. ap (λ (r : Record). has_bit r.words p) q ∙ (st j).watched p h v;
          }
