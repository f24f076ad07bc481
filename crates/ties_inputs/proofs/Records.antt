-- The watch records of a card over lent memory: an offer on an input leaves the words, slots and cells of the other fifteen as they were, an offer on what is
-- no input those of all; and in every history what is watched on an input is what is protected there and N of that input.
-- Assumes nothing.
use Prim.Native.Nat.{ℕ, ◌≤◌}
use mathlib.Core.Path.{◌≡◌, refl, sym, ap, ◌∙◌}
use mathlib.Core.Logic.{◌≢◌}
use mathlib.Core.List.{List, [], ◌∷◌}
use mathlib.Core.Bool.{Bool, true, false, cond, ◌&&◌, true≢false}
use lib.ListN.{length}
use lib.Dec.{ltb, eqb}
use borrow.Author.Tests.{eqb-true, ne_eqb, le-ltb}
use Rattle.laws.specs.Runs.{store_after}
use Rattle.section.specs.Facts.{Bytes}
use Rattle.watched.specs.View.{InStep}
use Rattle.gate.specs.Rules.{Offer, OfBytes}
use Rattle.answers.specs.Answers.{refusal_no}
use Rattle.answers.specs.declared.Refusal.{Refusal}
use Rattle.answers.specs.declared.Refusal.TheVariants.{NotWhole, CounterFull, BadPid, BadInput}
use Rattle.counters.specs.Counters.{any_full}
use Rattle.section.specs.Ids.{origin_of}
use Rattle.section.specs.Judged.{rule_of, judged_of}
use Rattle.offers.specs.Offers.{read_as, read_of, verdict_of}
use Rattle.offers.specs.declared.Verdict.{Verdict}
use Rattle.offers.specs.declared.Verdict.TheVariants.{Refused}
use Rattle.gate_state.specs.State.{plain, by_tables}
use Rattle.gate_state.specs.declared.Answer.TheVariants as answer
use Rattle.gate.specs.Store.{is_whole, carried, offered}
use Rattle.pats.specs.Store.{entered_in}
use Rattle.gate_pats.specs.Store.{state_of, Kept, kept_of, sections_in, sound_by, record_after, then_entered, taken_with, offered_by, offered_with}
use Rattle.gate_pats.specs.View.{kept_acts}
use Rattle.gate_pats.specs.declared.inner.State.{State}
use Rattle.gate_pats.specs.declared.inner.State.TheVariants as state
use Rattle.gate_pats.proofs.Laws.{sound_said}
use Rattle.ties_gate_pats.proofs.Order.{OpenedWith, follows_with}
use Rattle.ties_gate_pats.proofs.Watch.{in_step_one}
use Rattle.ties_inputs.specs.Records.{Records, kept_on, records_act}

-- THE THEOREM: an offer on an input leaves the records of the others as they were, words, slots and cells
pub per_input : (c : Records) (o : Offer) (j : ℕ) → j ≢ o.input → (records_act c o).watches j ≡ c.watches j
unfolding records_act
per_input c o j other = rw (ne_eqb j o.input other)

-- what every card has that came from an opened gate and opened records
pub record OpenedAll (c : Records) : Type 0 where
  pub each : (i : ℕ) → OpenedWith (kept_on i c)
  pub step : (i : ℕ) → InStep (c.watches i).words

-- one offer, on any input
stays_opened : (c : Records) (o : Offer) → Bytes o.section → OpenedAll c → OpenedAll (records_act c o)
unfolding records_act kept_acts
stays_opened c o b k = record { each = λ j. opens j (eqb j o.input); step = λ j. steps j (eqb j o.input) }
  where
    s : Kept
    s = kept_acts (kept_on o.input c) o

    opens : (j : ℕ) (t : Bool) → OpenedWith (kept_of s.gate s.counters s.keys s.changes (cond t s.watch (c.watches j)))
    opens j true = (follows_with (kept_on o.input c) o (k.each o.input) b).opened
    opens j false =
        let f = follows_with (kept_on o.input c) o (k.each o.input) b in
        record {
          sections = record { reached = f.opened.sections.reached; watch = (k.each j).sections.watch; rule = f.opened.sections.rule };
          pats = λ t. (k.each j).pats (sym (ap by_tables f.follow) ∙ t);
        }

    steps : (j : ℕ) (t : Bool) → InStep (cond t s.watch (c.watches j)).words
    steps j true = in_step_one (kept_on o.input c) o (k.each o.input) b (k.step o.input)
    steps j false = k.step j

-- every history
pub all_opened : (os : List Offer) (c : Records) → OfBytes os → OpenedAll c → OpenedAll (store_after records_act c os)
unfolding store_after
all_opened [] c b k = k
all_opened (o ∷ os) c b k = all_opened os (records_act c o) b.1 (stays_opened c o b.0 k)

-- THE THEOREM: in every history, on every input, watched = protected ∪ N
pub watched_on_all : (os : List Offer) (c : Records) → OfBytes os → OpenedAll c → (i : ℕ) → InStep ((store_after records_act c os).watches i).words
watched_on_all os c b k = (all_opened os c b k).step

-- ---- there is no record for what is no input

refuses : (w f : Bool) (rule input pid : ℕ) (section : List ℕ) → 16 ≤ input → (r : Refusal) × (cond w (cond f (Refused CounterFull) (read_of rule input pid section)) (Refused NotWhole) ≡ Refused r)
unfolding read_of
refuses w f rule input pid section h = go w f (ltb pid 8192) (ltb input 16) (le-ltb input 16 h)
  where
    go : (w f t u : Bool) → u ≡ false
        → (r : Refusal)
        × (cond w (cond f (Refused CounterFull) (cond t (cond u (read_as (origin_of input pid) (length section) (judged_of (rule_of rule) section)) (Refused BadInput)) (Refused BadPid))) (Refused NotWhole) ≡ Refused r)
    go false f t u e = (NotWhole, refl)
    go true true t u e = (CounterFull, refl)
    go true false false u e = (BadPid, refl)
    go true false true false e = (BadInput, refl)
    go true false true true e = absurd (true≢false e)

module _ (s : Kept) (o : Offer) (h : 16 ≤ o.input) where
  taken_same : (taken_with s o.input o.pid o.section).left.watch ≡ s.watch
  unfolding taken_with offered verdict_of carried record_after
  taken_same =
      let x = refuses (is_whole (sections_in s)) (any_full s.counters) s.gate.change_rule o.input o.pid o.section h in
      ap (λ (v : Verdict). (then_entered s o.input o.pid o.section (carried (sections_in s) o.section v)).left.watch) x.1
      ∙ unsound (by_tables s.gate.follow) (sound_by (plain (refusal_no x.0))) (sym (sound_said (answer.Refused x.0)))
    where
      unsound : (t a : Bool) → a ≡ false → cond (t && a && eqb o.pid 0) (entered_in s.watch o.input o.section) s.watch ≡ s.watch
      unsound true true e = absurd (true≢false e)
      unsound true false e = refl
      unsound false a e = refl

  no_input : (kept_acts s o).watch ≡ s.watch
  unfolding kept_acts offered_with offered_by
  no_input = go (state_of s.gate.follow s.watch)
    where
      go : (x : State) → (offered_by s o.input o.pid o.section x).left.watch ≡ s.watch
      go state.NotWhole = refl
      go state.Full = refl
      go state.Ready = taken_same

-- such an offer leaves them all as they were, whatever they hold
pub no_record : (c : Records) (o : Offer) (j : ℕ) → 16 ≤ o.input → (records_act c o).watches j ≡ c.watches j
unfolding records_act
no_record c o j h = go (eqb j o.input) refl
  where
    go : (t : Bool) → eqb j o.input ≡ t → cond t (kept_acts (kept_on o.input c) o).watch (c.watches j) ≡ c.watches j
    go true e = no_input (kept_on o.input c) o h ∙ ap c.watches (sym (eqb-true j o.input e))
    go false e = refl
