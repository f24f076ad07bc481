-- One law for each way out of a function, and what is ready after the gate of sections has answered.
-- Assumes nothing.
use Prim.Native.Nat.{ℕ, ◌≤◌}
use mathlib.Core.Path.{◌≡◌, refl, sym, ap, subst, ◌∙◌}
use mathlib.Core.List.{List}
use mathlib.Core.Bool.{Bool, true, false, cond, ◌&&◌}
use lib.ListN.{length}
use Rattle.answers.specs.Answers.{refusal_no, outcome_no, Outcome}
use Rattle.answers.specs.declared.Refusal.{Refusal}
use Rattle.answers.specs.declared.Refusal.TheVariants as refusal
use Rattle.counters.specs.declared.Counters.{Counters}
use Rattle.offers.specs.Offers.{verdict_of}
use Rattle.offers.specs.declared.Verdict.{Verdict}
use Rattle.offers.specs.declared.Verdict.TheVariants as verdict
use Rattle.pats.specs.Store.{Record, record_of, PatsReady}
use Rattle.ring_index.specs.Store.{Index}
use Rattle.gate_state.specs.State.{said_of, by_sections, by_tables, begun, refused}
use Rattle.gate_state.specs.declared.Settings.{Settings}
use Rattle.gate_state.specs.declared.Gate.{Gate}
use Rattle.gate_state.specs.declared.Offered.{Offered}
use Rattle.gate_state.specs.declared.Opened.{Opened}
use Rattle.gate_indexed.specs.Store.{Indexed, indexed_of, whole_by, is_whole_by, left_by, opened_by, offered_by, carried_by, admitted_by}
use Rattle.gate_indexed.specs.Store as sections
use Rattle.gate_pats.specs.Store.{room_with, state_of, words_with, refused_with, record_after, full_no, RecordReady}
use Rattle.gate_pats.specs.declared.inner.State.{State}
use Rattle.gate_pats.specs.declared.inner.State.TheVariants.{NotWhole, Full, Ready}
use Rattle.gate_pats.proofs.Laws.{tables_not_sections, and_no}
use Rattle.gate_pats_indexed.specs.Store.{opened_with, KeptBy, kept_by, Offering, left_with, taken_by, offered_as, offered_with}

-- ---- opening

module _ (s : Settings) (extra buckets words : List ℕ) (keys changes links slots cells : ℕ) (r : Bool) (e : r ≡ room_with s.follow (length words) slots cells) where
  pub opened_there :
      (o : Opened) (bs ws xs : List ℕ) → r ≡ true → sections.begun_by o bs ws ≡ opened_by s extra keys changes links buckets words →
      xs ≡ words_with s.follow (outcome_no o.answer) ws → sections.begun_by o bs xs ≡ opened_with s extra keys changes links slots cells buckets words
  unfolding opened_with
  opened_there o bs ws xs h j k = rw (← e, h, ← j, ← k)

  pub opened_not :
      (a : Outcome) (o : Opened) → r ≡ false → outcome_no a ≡ refused_with extra → o ≡ begun a s →
      sections.begun_by o buckets words ≡ opened_with s extra keys changes links slots cells buckets words
  unfolding opened_with
  opened_not a o h j k = rw (← e, h, k, ← j)

-- ---- an offer

module _ (s : Indexed) (section : List ℕ) (h : by_tables s.store.gate.follow ≡ true) where
  carried_words : (v : Verdict) → (carried_by s section v).left.store.words ≡ s.store.words
  unfolding carried_by admitted_by
  carried_words (verdict.Refused r) = refl
  carried_words (verdict.Failed f) = refl
  carried_words (verdict.Arrived a) = rw (tables_not_sections s.store.gate.follow h, and_no _)

  pub words_kept : (input pid : ℕ) → (offered_by s input pid section).left.store.words ≡ s.store.words
  unfolding offered_by
  words_kept input pid = carried_words (verdict_of (is_whole_by s) s.store.counters s.store.gate.change_rule input pid section)

module _
    (g : Gate) (c : Counters) (keys changes : List ℕ) (x : Index) (words slots cells : List ℕ) (input pid : ℕ) (section : List ℕ)
    (o : Offered) (ks ms : List ℕ) (y : Index) (ws : List ℕ)
  where
    pub ready_after :
        RecordReady g.follow (record_of words slots cells) → left_by o ks ms y ws ≡ offered_by (indexed_of g c keys changes x words) input pid section →
        RecordReady g.follow (record_of ws slots cells)
    ready_after k e = record {
      pats = λ t. subst (λ (xs : List ℕ). PatsReady (record_of xs slots cells)) (sym (ap (λ (l : sections.Offering). l.left.store.words) e ∙ words_kept (indexed_of g c keys changes x words) section t input pid)) (k.pats t);
    }

    pub taken_told :
        (xs ss cs : List ℕ) → left_by o ks ms y ws ≡ offered_by (indexed_of g c keys changes x words) input pid section →
        record_of xs ss cs ≡ record_after g.follow (said_of o.answer) input pid section (record_of ws slots cells) →
        left_with o ks ms y (record_of xs ss cs) ≡ taken_by (kept_by g c keys changes x (record_of words slots cells)) input pid section
    unfolding taken_by
    taken_told xs ss cs e f = rw (← e, ← f)

module _
    (g : Gate) (c : Counters) (keys changes : List ℕ) (y : Index) (words slots cells : List ℕ) (input pid : ℕ) (section : List ℕ)
    (x : State) (e : x ≡ state_of g.follow (record_of words slots cells))
  where
    pub offered_broken :
        (o : Offered) → x ≡ NotWhole → o ≡ refused refusal.NotWhole g c →
        left_with o keys changes y (record_of words slots cells) ≡ offered_with (kept_by g c keys changes y (record_of words slots cells)) input pid section
    unfolding offered_with offered_as
    offered_broken o h j = rw (← e, h, j)

    pub offered_full :
        (w : Bool) (n : Refusal) (o : Offered) → x ≡ Full → w ≡ is_whole_by (indexed_of g c keys changes y words) → refusal_no n ≡ full_no w → o ≡ refused n g c →
        left_with o keys changes y (record_of words slots cells) ≡ offered_with (kept_by g c keys changes y (record_of words slots cells)) input pid section
    unfolding offered_with offered_as
    offered_full w n o h k m j = rw (← e, h, ← k, j, m)

    pub offered_ready :
        (l : Offering) → x ≡ Ready → l ≡ taken_by (kept_by g c keys changes y (record_of words slots cells)) input pid section →
        l ≡ offered_with (kept_by g c keys changes y (record_of words slots cells)) input pid section
    unfolding offered_with offered_as
    offered_ready l h j = rw (← e, h) j
