-- Every store that passes the test of 10, whatever its rows hold: every sequence of offers of bytes has the answers of the rule by the first matching row,
-- and the store then stands for what that rule holds.
-- Assumes nothing.
use Prim.Native.Nat.{ℕ, ◌^◌, ◌<◌}
use mathlib.Core.Path.{◌≡◌, refl, ap}
use mathlib.Core.List.{List, [], ◌∷◌}
use mathlib.Core.Bool.{true, false, cond, ◌&&◌, ◌||◌}
use lib.ListN.{length}
use borrow.Author.Tests.{le-leb}
use Rattle.laws.proofs.Tests.{true_and}
use Rattle.laws.specs.Runs.{answers, store_after}
use Rattle.answers.specs.declared.Refusal.TheVariants.{CounterFull}
use Rattle.section.specs.Facts.{Bytes}
use Rattle.counters.specs.Counters.{any_full}
use Rattle.offers.specs.Offers.{read_of, verdict_of}
use Rattle.offers.specs.declared.Arrival.{Arrival}
use Rattle.offers.specs.declared.Verdict.{Verdict}
use Rattle.offers.specs.declared.Verdict.TheVariants.{Refused, Failed, Arrived}
use Rattle.ring.specs.Rules.{Row, changed}
use Rattle.ring.specs.Store.{stamp_of, renewed, seen_of}
use Rattle.ring.specs.View.{Memory, memory_after, laid_in, in_order}
use Rattle.ring.proofs.Laws.{whole_test}
use Rattle.ring.proofs.Places.{seen_in, Lies, lies}
use Rattle.gate_state.specs.State.{by_sections, seen_by}
use Rattle.gate.specs.Store.{is_whole, Fits, Store, Offering, admitted_to, carried, offered}
use Rattle.gate.specs.Rules.{Offer, Manner, row_from, admitted, OfBytes}
use Rattle.gate.specs.View.{manner_of, memory_of, store_tells, store_acts}
use Rattle.gate.proofs.Laws.{fits}
use Rattle.gate_state.proofs.Laws.{answer_said}
use Rattle.ties_gate.specs.Places.{SaidAt, carried_at, said, says_at, acts_at, placed_by, said_by}
use Rattle.ties_gate.proofs.Order.{watch_kept, watch_shown, verdict_small}

-- a store that passes the test of 10
abbrev pub Passes : Store → Type 0
Passes s = Fits s.gate (length s.keys) (length s.changes) (length s.words)

-- what a call answered and left is what the rule says, and the store passes again, with the same settings
pub record Says (m : Manner) (l : Offering) (t : SaidAt) : Type 0 where
  pub same : said_by l ≡ t
  pub passes : Passes l.store
  pub manner : manner_of l.store.gate ≡ m

module _ (s : Store) (r : Passes s) (section : List ℕ) (b : Bytes section) (a : Arrival) (small : a.change < 2 ^ 32) where
  st : Lies (memory_of s) (row_from a)
  st = lies (memory_of s) (row_from a) r.rows small

  admitted_says : Says (manner_of s.gate) (admitted_to s section a) (carried_at (manner_of s.gate) (placed_by s) section (Arrived a))
  unfolding admitted_to seen_by admitted memory_after carried_at
  admitted_says =
      record {
        same =
            rw (
              st.laid,
              st.tells,
              st.leaves,
              answer_said (changed (row_from a) (laid_in (memory_of s)).rows || s.gate.repeats),
              watch_shown (changed (row_from a) (laid_in (memory_of s)).rows && by_sections s.gate.follow) s.words section r.watch b,
            );
        passes = record { rows = st.whole; watch = watch_kept ((seen_in (memory_of s) (row_from a)).changed && by_sections s.gate.follow) s.words section r.watch; rule = r.rule };
        manner = rw st.capacity;
      }

module _ (s : Store) (o : Offer) (r : Passes s) (b : Bytes o.section) where
  carried_says :
      (v : Verdict) → ((a : Arrival) → v ≡ Arrived a → a.change < 2 ^ 32) →
      Says (manner_of s.gate) (carried s o.section v) (carried_at (manner_of s.gate) (placed_by s) o.section v)
  unfolding carried carried_at
  carried_says (Refused x) k = record { same = refl; passes = r; manner = refl }
  carried_says (Failed f) k = record { same = refl; passes = record { rows = r.rows; watch = r.watch; rule = r.rule }; manner = refl }
  carried_says (Arrived a) k = admitted_says s r o.section b a (k a refl)

  -- every offer
  pub says : Says (manner_of s.gate) (offered s o.input o.pid o.section) (said (manner_of s.gate) (placed_by s) o)
  unfolding offered said verdict_of
  says =
      rw whole
      (carried_says (cond (any_full s.counters) (Refused CounterFull) (read_of s.gate.change_rule o.input o.pid o.section)) (verdict_small s.gate.change_rule o b (any_full s.counters)))
    where
      whole : is_whole s ≡ true
      whole = true_and (true_and (whole_test s.gate.ring (length s.keys) (length s.changes) r.rows) (le-leb 384 (length s.words) r.watch)) r.rule

-- every sequence
all_answers :
    (s : Store) (os : List Offer) → Passes s → OfBytes os → answers store_tells store_acts s os ≡ answers (says_at (manner_of s.gate)) (acts_at (manner_of s.gate)) (placed_by s) os
unfolding answers store_tells store_acts says_at acts_at
all_answers s [] r b = refl
all_answers s (o ∷ os) r b =
    let f = says s o r b.0 in
    let l : Offering = offered s o.input o.pid o.section in
    let t : SaidAt = said (manner_of s.gate) (placed_by s) o in
    let e : l.answer ≡ t.answer = ap (λ (x : SaidAt). x.answer) f.same in
    let h : placed_by l.store ≡ t.held = ap (λ (x : SaidAt). x.held) f.same in
    let ih = all_answers l.store os f.passes b.1 in
    rw (e, ih, f.manner, h)

all_views : (s : Store) (os : List Offer) → Passes s → OfBytes os → placed_by (store_after store_acts s os) ≡ store_after (acts_at (manner_of s.gate)) (placed_by s) os
unfolding store_after store_acts acts_at
all_views s [] r b = refl
all_views s (o ∷ os) r b =
    let f = says s o r b.0 in
    let l : Offering = offered s o.input o.pid o.section in
    let t : SaidAt = said (manner_of s.gate) (placed_by s) o in
    let h : placed_by l.store ≡ t.held = ap (λ (x : SaidAt). x.held) f.same in
    let ih = all_views l.store os f.passes b.1 in
    rw (ih, f.manner, h)

-- THE THEOREM: of every store that passes the test of 10, the answers to every sequence of offers of bytes, and what it then holds
module _ (s : Store) (h : is_whole s ≡ true) (os : List Offer) (b : OfBytes os) where
  passes : Passes s
  passes = fits s.gate (length s.keys) (length s.changes) (length s.words) (is_whole s) refl h

  pub whole_answers : answers store_tells store_acts s os ≡ answers (says_at (manner_of s.gate)) (acts_at (manner_of s.gate)) (placed_by s) os
  whole_answers = all_answers s os passes b

  pub whole_view : placed_by (store_after store_acts s os) ≡ store_after (acts_at (manner_of s.gate)) (placed_by s) os
  whole_view = all_views s os passes b

-- In order of arrival the first match can be another one: in this ring, which has turned, key 5 stands with change number 1 at place 0 and with 2 at place
-- 1, which came first. Offered with 1 it is not changed, by the ring and by the rule on the rows by place; by the order of arrival it would be.
abbrev turned_twice : Memory
turned_twice = record { ring = record { capacity = 2; used = 2; first = 1 }; keys = 5 ∷ 5 ∷ []; changes = stamp_of 0 1 ∷ stamp_of 0 2 ∷ [] }

abbrev five : Row
five = record { key = 5; version = 0; change = 1 }

pub arrival_differs : ((seen_in turned_twice five).changed ≡ false) × (changed five (laid_in turned_twice).rows ≡ false) × (changed five (in_order turned_twice) ≡ true)
unfolding seen_of renewed
arrival_differs = (refl, refl, refl)
