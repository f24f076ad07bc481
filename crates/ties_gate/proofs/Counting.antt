-- The counters in every history of offers from an opening: emitted, suppressed, short sections and mismatches are the numbers of offers with that answer of
-- the rule, CRC failures is the sum of the last two, completed of all, and evictions is for how many offers a key left.
-- Assumes nothing.
use Prim.Native.Nat.{ℕ, suc, ◌+◌}
use mathlib.Core.Path.{◌≡◌, refl, sym, ap, subst, ◌∙◌}
use mathlib.Core.List.{List, [], ◌∷◌, map}
use mathlib.Core.Bool.{Bool, true, false, cond}
use lib.ListN.{length}
use native.Mathlib.Omega.{arith}
use Rattle.laws.specs.Runs.{answers, store_after}
use Rattle.answers.specs.declared.Refusal.TheVariants.{CounterFull}
use Rattle.counters.specs.Counters.{zeroes, any_full, plus_of}
use Rattle.counters.specs.Rules.{count_of, Sums}
use Rattle.counters.specs.declared.Counters.{Counters}
use Rattle.offers.specs.Offers.{read_of}
use Rattle.offers.specs.declared.Verdict.{Verdict}
use Rattle.offers.specs.declared.Verdict.TheVariants.{Refused, Failed, Arrived}
use Rattle.gate.specs.Store.{opened, Store}
use Rattle.gate.specs.Rules.{Offer, Manner, Held, admitted, carried_in, told, tells, tells_no, acts, OfBytes}
use Rattle.gate.specs.View.{store_tells, store_no, store_acts}
use Rattle.gate_state.specs.State.{number_of}
use Rattle.gate_state.specs.declared.Settings.{Settings}
use Rattle.ties_gate.specs.Watching.{is_protected, empty_held}
use Rattle.ties_gate.specs.Counting.{leaves_for, is_evicting, evictions_in}
use Rattle.ties_gate.proofs.Counts.{sums}
use Rattle.ties_gate.proofs.Opening.{left_open, opened_empty, manner_for, answers_from_open, view_from_open}

-- evictions, of the rule
module _ (m : Manner) where
  one_more_lem : (n k : ℕ) (b : Bool) → plus_of n b + k ≡ n + cond b (suc k) k
  one_more_lem n k true = omega arith
  one_more_lem n k false = refl

  carried_evictions : (h : Held) (section : List ℕ) (v : Verdict) → (carried_in m h section v).held.counters.evictions ≡ plus_of h.counters.evictions (leaves_for m h v)
  unfolding carried_in admitted
  carried_evictions h section (Refused r) = refl
  carried_evictions h section (Failed f) = refl
  carried_evictions h section (Arrived a) = refl

  evictions_run : (h : Held) (os : List Offer) → (store_after (acts m) h os).counters.evictions ≡ h.counters.evictions + evictions_in m h os
  unfolding store_after evictions_in acts told is_evicting
  evictions_run h [] = omega arith
  evictions_run h (o ∷ os) =
      let v : Verdict = cond (any_full h.counters) (Refused CounterFull) (read_of m.rule o.input o.pid o.section) in
      let x : Held = (carried_in m h o.section v).held in
      evictions_run x os
      ∙ ap (λ (n : ℕ). n + evictions_in m x os) (carried_evictions h o.section v)
      ∙ one_more_lem h.counters.evictions (evictions_in m x os) (leaves_for m h v)

from_zero : (n : ℕ) → 0 + n ≡ n
from_zero n = omega arith

-- the numbers of answers, taken one by one or all together
numbers : {S I A B : Type 0} (tells' : S → I → A) (acts' : S → I → S) (f : A → B) (s : S) (is : List I) → answers (λ s i. f (tells' s i)) acts' s is ≡ map f (answers tells' acts' s is)
unfolding answers
numbers tells' acts' f s [] = refl
numbers tells' acts' f s (i ∷ is) = ap (λ (l : List _). f (tells' s i) ∷ l) (numbers tells' acts' f (acts' s i) is)

-- what the counters say
pub record Tells (as' : List ℕ) (evictions : ℕ) (c : Counters) : Type 0 where
  pub completed : c.completed ≡ count_of 1 as' + count_of 2 as' + (count_of 31 as' + count_of 3 as')
  pub emitted : c.emitted ≡ count_of 1 as'
  pub suppressed : c.suppressed ≡ count_of 2 as'
  pub failures : c.crc_failures ≡ count_of 31 as' + count_of 3 as'
  pub short : c.short_sections ≡ count_of 31 as'
  pub mismatches : c.crc_mismatches ≡ count_of 3 as'
  pub evictions_are : c.evictions ≡ evictions

module _
    (st : Settings) (extra keys changes words : List ℕ)
    (h : (opened st extra (length keys) (length changes) words).answer ≡ 7)
    (os : List Offer) (b : OfBytes os)
  where
    -- the store that opening left, and the empty gate of the rule
    abbrev start : Store
    start = left_open (opened st extra (length keys) (length changes) words) keys changes

    abbrev empty : Held
    empty = empty_held (is_protected st.well_known extra)

    same_numbers : answers store_no store_acts start os ≡ answers (tells_no (manner_for st)) (acts (manner_for st)) empty os
    same_numbers =
        numbers store_tells store_acts number_of start os
        ∙ ap (map number_of) (answers_from_open st extra keys changes words h os b)
        ∙ sym (numbers (tells (manner_for st)) (acts (manner_for st)) number_of empty os)

    -- THE THEOREM
    pub counters_in_every_history :
        Tells (answers (tells_no (manner_for st)) (acts (manner_for st)) empty os) (evictions_in (manner_for st) empty os) (store_after store_acts start os).counters
    counters_in_every_history =
        let k : Sums (answers (tells_no (manner_for st)) (acts (manner_for st)) empty os) start.counters (store_after store_acts start os).counters =
        subst (λ (as' : List ℕ). Sums as' start.counters (store_after store_acts start os).counters) same_numbers (sums start os) in
        let z : start.counters ≡ zeroes = ap (λ (x : Held). x.counters) (opened_empty st extra keys changes words h) in
        let e : start.counters.emitted ≡ 0 = ap (λ (x : Counters). x.emitted) z in
        let s : start.counters.suppressed ≡ 0 = ap (λ (x : Counters). x.suppressed) z in
        let f : start.counters.crc_failures ≡ 0 = ap (λ (x : Counters). x.crc_failures) z in
        let g : start.counters.short_sections ≡ 0 = ap (λ (x : Counters). x.short_sections) z in
        let m : start.counters.crc_mismatches ≡ 0 = ap (λ (x : Counters). x.crc_mismatches) z in
        let d : start.counters.completed ≡ 0 = ap (λ (x : Counters). x.completed) z in
        record {
          completed = omega (arith, k.completed, d);
          emitted = omega (arith, k.emitted, e);
          suppressed = omega (arith, k.suppressed, s);
          failures = omega (arith, k.failures, f);
          short = omega (arith, k.short, g);
          mismatches = omega (arith, k.mismatches, m);
          evictions_are =
              ap (λ (x : Held). x.counters.evictions) (view_from_open st extra keys changes words h os b)
              ∙ evictions_run (manner_for st) empty os ∙ from_zero (evictions_in (manner_for st) empty os);
        }
