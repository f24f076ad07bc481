-- The store over lent memory and the rule: from an opened store every offer answers and leaves what docs/RULES.md says.
-- Assumes nothing.
use Prim.Native.Nat.{ℕ, ◌^◌, ◌<◌, ◌≤◌}
use mathlib.Core.Path.{◌≡◌, refl, ap, ◌∙◌}
use mathlib.Core.List.{List, [], ◌∷◌}
use mathlib.Core.Bool.{Bool, true, false, cond, ◌&&◌, ◌||◌}
use lib.ListN.{length, replicate, length-replicate}
use native.Mathlib.Omega.{arith}
use borrow.Author.Tests.{le-leb}
use Rattle.laws.proofs.Tests.{true_and}
use Rattle.laws.specs.Runs.{answers, store_after}
use Rattle.ring.specs.Rules.{changed}
use Rattle.ring.specs.View.{memory_after, in_order}
use Rattle.ring.proofs.Laws.{whole_test}
use Rattle.ring.proofs.Places.{seen_in}
use Rattle.ring.proofs.Order.{Step, step}
use Rattle.answers.specs.declared.Refusal.TheVariants.{CounterFull}
use Rattle.section.specs.Facts.{Bytes}
use Rattle.offers.specs.Offers.{is_short, read_of, verdict_of}
use Rattle.offers.specs.declared.Arrival.{Arrival}
use Rattle.offers.specs.declared.Verdict.{Verdict}
use Rattle.offers.specs.declared.Verdict.TheVariants.{Refused, Failed, Arrived}
use Rattle.offers.proofs.Facts.{arrived_small}
use Rattle.pat.specs.Pat.{readable, set_n}
use Rattle.pat.proofs.Laws.{length_programs, has_set_n}
use Rattle.watched.specs.Store.{following}
use Rattle.watched.specs.Rules.{followed_by}
use Rattle.watched.specs.View.{watch_in}
use Rattle.watched.proofs.Meaning.{length_following, following_shown}
use Rattle.gate_state.specs.State.{by_sections, seen_by}
use Rattle.gate.specs.Store.{is_whole, Store, Offering, admitted_to, carried, offered, programs_of, followed_pat, watch_after}
use Rattle.gate.specs.Rules as rules
use Rattle.gate_state.proofs.Laws.{answer_said}
use Rattle.counters.specs.Counters.{any_full, failed_of}
use Rattle.gate.specs.Rules.{Offer, Manner, Told, row_from, admitted, carried_in, told, tells, acts, OfBytes}
use Rattle.gate.specs.View.{manner_of, memory_of, held_by, shown_by, Opened, store_tells, store_acts}

-- one offer
-- what a call answered and left is what a rule told, and the store is again one that came from opening, with the same settings
pub record Follows' (s : Store) (m : Manner) (l : Offering) (t : Told) : Type 0 where
  pub same : shown_by l ≡ t
  pub opened : Opened l.store
  pub manner : manner_of l.store.gate ≡ m

abbrev pub Follows : Store → Offer → Offering → Type 0
Follows s o l = Follows' s (manner_of s.gate) l (told (manner_of s.gate) (held_by s) o)

-- the watch keeps its words
followed_kept : (words section : List ℕ) → 384 ≤ length words → 384 ≤ length (followed_pat words section)
unfolding followed_pat
followed_kept words section h = go (readable section)
  where
    go : (b : Bool) → 384 ≤ length (cond b (following words (programs_of section)) words)
    go true = rw (length_following words (programs_of section) h (length_programs section (replicate 128 0) ∙ length-replicate {A = ℕ} 128 0)) h
    go false = h

pub watch_kept : (f : Bool) (words section : List ℕ) → 384 ≤ length words → 384 ≤ length (watch_after f words section)
watch_kept true words section h = followed_kept words section h
watch_kept false words section h = h

-- and they stand for what the rule says
followed_shown : (words section : List ℕ) → 384 ≤ length words → Bytes section → watch_in (followed_pat words section) ≡ rules.watch_after true (watch_in words) section
unfolding followed_pat
followed_shown words section h b = go (readable section) refl
  where
    n : length (programs_of section) ≡ 128
    n = length_programs section (replicate 128 0) ∙ length-replicate {A = ℕ} 128 0

    go : (r : Bool) → readable section ≡ r → watch_in (cond r (following words (programs_of section)) words) ≡ cond r (followed_by (set_n section) (watch_in words)) (watch_in words)
    go true e = following_shown words (programs_of section) h n ∙ (λ i. followed_by (λ q. has_set_n section q b e i) (watch_in words))
    go false e = refl

pub watch_shown :
    (f : Bool) (words section : List ℕ) → 384 ≤ length words → Bytes section → watch_in (watch_after f words section) ≡ rules.watch_after f (watch_in words) section
watch_shown true words section h b = followed_shown words section h b
watch_shown false words section h b = refl

-- a section that arrived
module _ (s : Store) (r : Opened s) (section : List ℕ) (b : Bytes section) (a : Arrival) (small : a.change < 2 ^ 32) where
  st : Step (memory_of s) (row_from a)
  st = step (memory_of s) (row_from a) r.reached small

  admitted_same : shown_by (admitted_to s section a) ≡ admitted (manner_of s.gate) (held_by s) (row_from a) section
  unfolding admitted_to seen_by admitted memory_after
  admitted_same =
      rw (
        st.order,
        st.tells,
        st.leaves,
        answer_said (changed (row_from a) (in_order (memory_of s)) || s.gate.repeats),
        watch_shown (changed (row_from a) (in_order (memory_of s)) && by_sections s.gate.follow) s.words section r.watch b,
      )

  admitted_opened : Opened (admitted_to s section a).store
  unfolding admitted_to seen_by memory_after
  admitted_opened = record { reached = st.reached; watch = watch_kept ((seen_in (memory_of s) (row_from a)).changed && by_sections s.gate.follow) s.words section r.watch; rule = r.rule }

  admitted_manner : manner_of (admitted_to s section a).store.gate ≡ manner_of s.gate
  unfolding admitted_to seen_by memory_after
  admitted_manner = rw st.capacity

-- a section that failed its CRC leaves the memory
failed_follows : (s : Store) (short : Bool) → Opened s → Opened (record { gate = s.gate; counters = failed_of s.counters short; keys = s.keys; changes = s.changes; words = s.words })
failed_follows s short r = record { reached = r.reached; watch = r.watch; rule = r.rule }

-- of bytes, what arrives has a change number of 32 bits
pub verdict_small : (rule : ℕ) (o : Offer) → Bytes o.section → (f : Bool) (a : Arrival) → cond f (Refused CounterFull) (read_of rule o.input o.pid o.section) ≡ Arrived a → a.change < 2 ^ 32
verdict_small rule o b true a e = let z : ◌≡◌ {A = ℕ} 0 1 = cc in absurd (omega arith)
verdict_small rule o b false a e = arrived_small o.section rule b o.input o.pid a e

-- 10 does not occur
pub opened_whole : (s : Store) → Opened s → is_whole s ≡ true
opened_whole s r = true_and (true_and (whole_test s.gate.ring (length s.keys) (length s.changes) r.reached.whole) (le-leb 384 (length s.words) r.watch)) r.rule

module _ (s : Store) (o : Offer) (r : Opened s) (b : Bytes o.section) where
  -- a verdict carried out
  carried_follows :
      (v : Verdict) → ((a : Arrival) → v ≡ Arrived a → a.change < 2 ^ 32) →
      Follows' s (manner_of s.gate) (carried s o.section v) (carried_in (manner_of s.gate) (held_by s) o.section v)
  unfolding carried carried_in
  carried_follows (Refused x) k = record { same = refl; opened = r; manner = refl }
  carried_follows (Failed f) k = record { same = refl; opened = failed_follows s (is_short f) r; manner = refl }
  carried_follows (Arrived a) k =
      let small : a.change < 2 ^ 32 = k a refl in
      record { same = admitted_same s r o.section b a small; opened = admitted_opened s r o.section b a small; manner = admitted_manner s r o.section b a small }

  -- every offer to an opened store: 10 does not occur, and the rest is the rule's
  pub follows : Follows s o (offered s o.input o.pid o.section)
  unfolding offered told verdict_of
  follows =
      rw (opened_whole s r)
      (carried_follows (cond (any_full s.counters) (Refused CounterFull) (read_of s.gate.change_rule o.input o.pid o.section)) (verdict_small s.gate.change_rule o b (any_full s.counters)))

-- THE THEOREM: from an opened store, every sequence of offers of bytes has the rule's answers, and the store then stands for what the rule holds
pub same_answers :
    (s : Store) (os : List Offer) → Opened s → OfBytes os →
    answers store_tells store_acts s os ≡ answers (tells (manner_of s.gate)) (acts (manner_of s.gate)) (held_by s) os
unfolding answers store_tells store_acts tells acts
same_answers s [] r b = refl
same_answers s (o ∷ os) r b =
    let f = follows s o r b.0 in
    let l : Offering = offered s o.input o.pid o.section in
    let t : Told = told (manner_of s.gate) (held_by s) o in
    let e : l.answer ≡ t.answer = ap (λ (x : Told). x.answer) f.same in
    let h : held_by l.store ≡ t.held = ap (λ (x : Told). x.held) f.same in
    let ih = same_answers l.store os f.opened b.1 in
    rw (e, ih, f.manner, h)

pub same_view :
    (s : Store) (os : List Offer) → Opened s → OfBytes os → held_by (store_after store_acts s os) ≡ store_after (acts (manner_of s.gate)) (held_by s) os
unfolding store_after store_acts acts
same_view s [] r b = refl
same_view s (o ∷ os) r b =
    let f = follows s o r b.0 in
    let l : Offering = offered s o.input o.pid o.section in
    let t : Told = told (manner_of s.gate) (held_by s) o in
    let h : held_by l.store ≡ t.held = ap (λ (x : Told). x.held) f.same in
    let ih = same_view l.store os f.opened b.1 in
    rw (ih, f.manner, h)
