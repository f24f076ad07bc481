-- The watch records of a card: an offer on an input leaves the other fifteen as they were, and in every history what is watched on an input is what is
-- protected there and N by the PATs of that input.
-- Assumes nothing.
use Prim.Native.Nat.{ℕ, ◌≤◌}
use mathlib.Core.Path.{◌≡◌, refl, sym, ap, subst}
use mathlib.Core.List.{List, [], ◌∷◌}
use mathlib.Core.Bool.{Bool, true, false, cond, ◌&&◌, ◌||◌, or-false, true≢false}
use lib.ListN.{length}
use lib.Dec.{ltb, eqb}
use borrow.Author.Tests.{eqb-true, ne_eqb, le-ltb}
use Rattle.laws.specs.Runs.{store_after}
use Rattle.answers.specs.declared.Refusal.TheVariants.{CounterFull, BadPid, BadInput}
use Rattle.pat.specs.Pat.{set_n}
use Rattle.counters.specs.Counters.{any_full}
use Rattle.section.specs.Ids.{origin_of}
use Rattle.section.specs.Judged.{rule_of, judged_of}
use Rattle.offers.specs.Offers.{read_as, read_of}
use Rattle.offers.specs.declared.Verdict.TheVariants.{Refused}
use Rattle.gate.specs.Rules.{Offer, Manner, carried_in, told, acts}
use Rattle.ties_gate.specs.Watching.{no_pid, is_followed, n_after}
use Rattle.ties_gate.proofs.Watching.{Watches, watches}
use Rattle.ties_inputs.specs.Card.{Card, lent_on, card_acts, empty_card, n_on}

-- THE THEOREM: an offer on an input leaves the records of the others as they were
pub per_input : (m : Manner) (c : Card) (o : Offer) (j : ℕ) → (j ≡ o.input → ⊥) → (card_acts m c o).watches j ≡ c.watches j
unfolding card_acts
per_input m c o j other = rw (ne_eqb j o.input other)

-- one offer, on any input
module _ (m : Manner) (i : ℕ) (p : ℕ → Bool) where
  one : (c : Card) (n : ℕ → Bool) (o : Offer) → Watches (c.watches i) p n
      → Watches ((card_acts m c o).watches i) p (cond (eqb i o.input && is_followed m (lent_on o.input c) o) (set_n o.section) n)
  unfolding card_acts store_after n_after
  one c n o k = go (eqb i o.input) refl
    where
      go : (b : Bool) → eqb i o.input ≡ b
          → Watches (cond b (acts m (lent_on o.input c) o).watch (c.watches i)) p (cond (b && is_followed m (lent_on o.input c) o) (set_n o.section) n)
      go true e = watches m p (lent_on o.input c) n (o ∷ []) (subst (λ (x : ℕ). Watches (c.watches x) p n) (eqb-true i o.input e) k)
      go false e = k

  -- every history
  pub watches_on : (c : Card) (n : ℕ → Bool) (os : List Offer) → Watches (c.watches i) p n → Watches ((store_after (card_acts m) c os).watches i) p (n_on i m c n os)
  unfolding store_after n_on
  watches_on c n [] k = k
  watches_on c n (o ∷ os) k = watches_on (card_acts m c o) (cond (eqb i o.input && is_followed m (lent_on o.input c) o) (set_n o.section) n) os (one c n o k)

-- THE THEOREM: in every history from an opening, what is watched on an input is what is protected there and N by the PATs of that input
pub watched_on_lem : (m : Manner) (protected : ℕ → ℕ → Bool) (os : List Offer) (i pid : ℕ) →
    ((store_after (card_acts m) (empty_card protected) os).watches i).watched pid ≡ protected i pid || n_on i m (empty_card protected) no_pid os pid
watched_on_lem m protected os i pid =
    (watches_on m i (protected i) (empty_card protected) no_pid os (record { watched = λ q. sym (or-false (protected i q)); protected = λ q. refl; followed = λ q. refl })).watched pid

-- there is no record for what is no input: such an offer leaves them all as they were
pub no_record : (m : Manner) (c : Card) (o : Offer) (j : ℕ) → 16 ≤ o.input → (card_acts m c o).watches j ≡ c.watches j
unfolding card_acts acts told read_of carried_in
no_record m c o j h = go (any_full c.counters) (ltb o.pid 8192) (ltb o.input 16) (eqb j o.input) (le-ltb o.input 16 h) refl
  where
    go : (t u v b : Bool) → v ≡ false → eqb j o.input ≡ b
        → cond b (carried_in m (lent_on o.input c) o.section (
        cond t (Refused CounterFull)
        (cond u (cond v (read_as (origin_of o.input o.pid) (length o.section) (judged_of (rule_of m.rule) o.section)) (Refused BadInput)) (Refused BadPid))
        )).held.watch (c.watches j)
        ≡ c.watches j
    go t u v false f e = refl
    go true u v true f e = ap c.watches (sym (eqb-true j o.input e))
    go false false v true f e = ap c.watches (sym (eqb-true j o.input e))
    go false true true true f e = absurd (true≢false f)
    go false true false true f e = ap c.watches (sym (eqb-true j o.input e))
