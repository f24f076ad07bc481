-- One law for each way out of a function, and what is ready after the gate of sections has answered.
-- Assumes nothing.
use Prim.Native.Nat.{ℕ, ◌≤◌}
use mathlib.Core.Path.{◌≡◌, refl, sym, ap, subst, ◌∙◌}
use mathlib.Core.List.{List}
use mathlib.Core.Bool.{Bool, true, false, cond, not, ◌&&◌, ◌||◌, true≢false}
use lib.ListN.{length}
use lib.Dec.{eqb, ltb}
use borrow.Author.Tests.{eq-eqb, ne_eqb, not-true, not-false}
use Rattle.laws.proofs.Tests.{and_true}
use Rattle.answers.specs.Answers.{refusal_no, outcome_no, Outcome}
use Rattle.answers.proofs.Laws.{refused_from_10}
use Rattle.answers.specs.declared.Refusal.{Refusal}
use Rattle.answers.specs.declared.Refusal.TheVariants as refusal
use Rattle.std.specs.Prelude.{Ok, Err, is_ok}
use Rattle.counters.specs.Counters.{zeroes}
use Rattle.counters.specs.declared.Counters.{Counters}
use Rattle.offers.specs.Offers.{verdict_of}
use Rattle.offers.specs.declared.Failure.{Failure}
use Rattle.offers.specs.declared.Failure.TheVariants.{TooShort, Mismatch}
use Rattle.offers.specs.declared.Verdict.{Verdict}
use Rattle.offers.specs.declared.Verdict.TheVariants as verdict
use Rattle.watched.specs.Store.{all_pids}
use Rattle.watched.specs.Store as watched
use Rattle.watched.proofs.Meaning.{length_filled}
use Rattle.pats.specs.Store.{Record, record_of, room_for, pats_whole, pats_full, begun_words, entered_in, PatsReady}
use Rattle.pats.proofs.Laws.{ready, whole_long}
use Rattle.pats.proofs.Ways.{room_long}
use Rattle.gate_state.specs.State.{Said, plain, short, mismatch, said_of, is_sound, by_sections, by_tables, begun, refused, seen_by}
use Rattle.gate_state.specs.declared.Answer.{Answer}
use Rattle.gate_state.specs.declared.Answer.TheVariants as answer
use Rattle.gate_state.specs.declared.Follow.{Follow}
use Rattle.gate_state.specs.declared.Follow.TheVariants.{Off, Sections, Tables}
use Rattle.gate_state.specs.declared.Settings.{Settings}
use Rattle.gate_state.specs.declared.Gate.{Gate}
use Rattle.gate_state.specs.declared.Offered.{Offered}
use Rattle.gate_state.specs.declared.Opened.{Opened}
use Rattle.gate.specs.Store.{Store, store_of, is_whole, whole_of, left_by, offered, opened, carried, admitted_to, watch_after}
use Rattle.gate.specs.Store as sections
use Rattle.gate_pats.specs.Store.{room_with, state_of, StateOk, RecordReady, BeginOk, words_with, refused_with, begun_with, opened_with, opening_with, record_opened, Kept, kept_of, sections_in, Offering, left_with, sound_by, record_after, then_entered, taken_with, full_no, offered_by, offered_with}
use Rattle.gate_pats.specs.declared.inner.State.{State}
use Rattle.gate_pats.specs.declared.inner.State.TheVariants.{NotWhole, Full, Ready}

-- ---- room and opening

pub room_tables : (f : Follow) (b r : Bool) (words slots cells : ℕ) → b ≡ by_tables f → b ≡ true → r ≡ room_for words slots cells → r ≡ room_with f words slots cells
room_tables f b r words slots cells e h j = rw (← e, h) j

pub room_else : (f : Follow) (b : Bool) (words slots cells : ℕ) → b ≡ by_tables f → b ≡ false → true ≡ room_with f words slots cells
room_else f b words slots cells e h = rw (← e, h)

pub refused_little : (extra : List ℕ) (b : Bool) → b ≡ all_pids extra → b ≡ true → outcome_no (Err refusal.TooLittle) ≡ refused_with extra
refused_little extra b e h = rw (← e, h)

pub refused_pid : (extra : List ℕ) (b : Bool) → b ≡ all_pids extra → b ≡ false → outcome_no (Err refusal.BadPid) ≡ refused_with extra
refused_pid extra b e h = rw (← e, h)

-- an opening that is done answers 7, and no refusal does
ok_is_7 : (a : Outcome) → eqb (outcome_no a) 7 ≡ is_ok a
ok_is_7 (Ok _) = refl
ok_is_7 (Err r) = ne_eqb (refusal_no r) 7 (λ (e : refusal_no r ≡ 7). true≢false (sym (ap (λ (n : ℕ). ltb n 10) e) ∙ refused_from_10 r))

module _ (f : Follow) (a : Outcome) (b n : Bool) (e : b ≡ by_tables f) (q : n ≡ is_ok a) where
  pub begin_room : (words : ℕ) → BeginOk f words → (b && n) ≡ true → 398 ≤ words
  begin_room words k h = k.room (sym e ∙ (and_true b n h).0)

  pub begun_yes : (words ws : List ℕ) → (b && n) ≡ true → ws ≡ begun_words words → ws ≡ words_with f (outcome_no a) words
  begun_yes words ws h j = rw (ok_is_7 a, ← e, ← q, h) j

  pub begun_no : (words : List ℕ) → (b && n) ≡ false → words ≡ words_with f (outcome_no a) words
  begun_no words h = rw (ok_is_7 a, ← e, ← q, h)

-- the words are as many as they were
pub begin_ok : (f : Follow) (r : Bool) (words slots cells then : ℕ) → r ≡ room_with f words slots cells → r ≡ true → then ≡ words → BeginOk f then
begin_ok f r words slots cells then e h l = record { room = λ t. rw (l) (room_long words slots cells true (sym (named (by_tables f) t (sym e ∙ h))) refl).words }
  where
    named : (b : Bool) → b ≡ true → cond b (room_for words slots cells) true ≡ true → room_for words slots cells ≡ true
    named true t k = k
    named false t k = absurd (true≢false (sym t))

module _ (s : Settings) (extra words : List ℕ) (keys changes slots cells : ℕ) (r : Bool) (e : r ≡ room_with s.follow (length words) slots cells) where
  pub opened_there :
      (o : Opened) (ws xs : List ℕ) → r ≡ true → sections.begun_by o ws ≡ opened s extra keys changes words → xs ≡ words_with s.follow (outcome_no o.answer) ws →
      sections.begun_by o xs ≡ opened_with s extra keys changes slots cells words
  unfolding opened_with
  opened_there o ws xs h j k = rw (← e, h, ← j, ← k)

  pub opened_not :
      (a : Outcome) (o : Opened) → r ≡ false → outcome_no a ≡ refused_with extra → o ≡ begun a s →
      sections.begun_by o words ≡ opened_with s extra keys changes slots cells words
  unfolding opened_with
  opened_not a o h j k = rw (← e, h, k, ← j)

  pub record_there :
      (a : Outcome) (ws xs : List ℕ) → r ≡ true → watched.opening_by a ws ≡ watched.opened words s.well_known extra → xs ≡ words_with s.follow (outcome_no a) ws →
      watched.opening_by a xs ≡ record_opened s extra slots cells words
  unfolding record_opened
  record_there a ws xs h j k = rw (← e, h, ← j, ← k)

  pub record_not : (a : Outcome) → r ≡ false → outcome_no a ≡ refused_with extra → watched.opening_by a words ≡ record_opened s extra slots cells words
  unfolding record_opened
  record_not a h j = rw (← e, h, ← j)

-- ---- the state of a record

module _ (f : Follow) (words slots cells : List ℕ) (b : Bool) (e : b ≡ by_tables f) where
  abbrev r : Record
  r = record_of words slots cells

  pub unused : b ≡ false → Ready ≡ state_of f r
  unfolding state_of
  unused h = rw (← e, h)

  pub unused_ready : b ≡ false → RecordReady f r
  unused_ready h = record { pats = λ t. absurd (true≢false (sym t ∙ sym e ∙ h)) }

  module _ (h : b ≡ true) (w : Bool) (q : w ≡ pats_whole r) where
    pub broken : w ≡ false → NotWhole ≡ state_of f r
    unfolding state_of
    broken k = rw (← e, h, ← q, k)

    module _ (k : w ≡ true) (x : Bool) (p : x ≡ pats_full words) where
      pub is_full_lem : x ≡ true → Full ≡ state_of f r
      unfolding state_of
      is_full_lem t = rw (← e, h, ← q, k, ← p, t)

      pub is_ready : x ≡ false → Ready ≡ state_of f r
      unfolding state_of
      is_ready t = rw (← e, h, ← q, k, ← p, t)

pub used_ready : (f : Follow) (words slots cells : List ℕ) (w x : Bool) → w ≡ pats_whole (record_of words slots cells) → w ≡ true → x ≡ pats_full words → x ≡ false → RecordReady f (record_of words slots cells)
used_ready f words slots cells w x q k p t = record { pats = λ _. ready (record_of words slots cells) (sym q ∙ k) (sym p ∙ t) }

pub whole_room : (words slots cells : List ℕ) (w : Bool) → w ≡ pats_whole (record_of words slots cells) → w ≡ true → 398 ≤ length words
whole_room words slots cells w q k = (whole_long (record_of words slots cells) (sym q ∙ k)).words

-- ---- the PAT store behind an offer

-- a number of 10 or more is neither 1 nor 2
below : (n k : ℕ) → ltb k 10 ≡ true → ltb n 10 ≡ false → n ≡ k → ⊥
below n k t f z = true≢false (sym t ∙ ap (λ (m : ℕ). ltb m 10) (sym z) ∙ f)

-- the answers 1 and 2, as they are said
pub sound_said : (a : Answer) → is_sound a ≡ sound_by (said_of a)
sound_said answer.Emitted = refl
sound_said answer.Suppressed = refl
sound_said (answer.Failed (TooShort n)) = refl
sound_said (answer.Failed (Mismatch stored worked)) = refl
sound_said (answer.Refused r) =
    rw (ne_eqb (refusal_no r) 1 (below (refusal_no r) 1 refl (refused_from_10 r)), ne_eqb (refusal_no r) 2 (below (refusal_no r) 2 refl (refused_from_10 r)))

module _
    (f : Follow) (a : Answer) (input pid : ℕ) (section words slots cells : List ℕ)
    (b s : Bool) (e : b ≡ by_tables f) (q : s ≡ is_sound a)
  where
    pub enter_ready : RecordReady f (record_of words slots cells) → (b && s && eqb pid 0) ≡ true → PatsReady (record_of words slots cells)
    enter_ready k h = k.pats (sym e ∙ (and_true b s (and_true (b && s) (eqb pid 0) h).0).0)

    pub entered_yes :
        (ws ss cs : List ℕ) → (b && s && eqb pid 0) ≡ true → record_of ws ss cs ≡ entered_in (record_of words slots cells) input section →
        record_of ws ss cs ≡ record_after f (said_of a) input pid section (record_of words slots cells)
    unfolding record_after
    entered_yes ws ss cs h j = rw (← e, ← sound_said a, ← q, h) j

    pub entered_no : (b && s && eqb pid 0) ≡ false → record_of words slots cells ≡ record_after f (said_of a) input pid section (record_of words slots cells)
    unfolding record_after
    entered_no h = rw (← e, ← sound_said a, ← q, h)

-- ---- an offer

-- where complete PATs are followed the gate of sections follows none
pub tables_not_sections : (f : Follow) → by_tables f ≡ true → by_sections f ≡ false
tables_not_sections Off h = refl
tables_not_sections Sections h = absurd (true≢false (sym h))
tables_not_sections Tables h = refl

pub and_no : (b : Bool) → (b && false) ≡ false
and_no true = refl
and_no false = refl

module _ (s : Store) (section : List ℕ) (h : by_tables s.gate.follow ≡ true) where
  carried_words : (v : Verdict) → (carried s section v).store.words ≡ s.words
  unfolding carried admitted_to
  carried_words (verdict.Refused r) = refl
  carried_words (verdict.Failed f) = refl
  carried_words (verdict.Arrived a) = rw (tables_not_sections s.gate.follow h, and_no _)

  pub words_kept : (input pid : ℕ) → (offered s input pid section).store.words ≡ s.words
  unfolding offered
  words_kept input pid = carried_words (verdict_of (is_whole s) s.counters s.gate.change_rule input pid section)

-- no offer changes the manner of following
pub follow_kept : (s : Store) (input pid : ℕ) (section : List ℕ) → (offered s input pid section).store.gate.follow ≡ s.gate.follow
unfolding offered carried admitted_to seen_by
follow_kept s input pid section = go (verdict_of (is_whole s) s.counters s.gate.change_rule input pid section)
  where
    go : (v : Verdict) → (carried s section v).store.gate.follow ≡ s.gate.follow
    go (verdict.Refused r) = refl
    go (verdict.Failed f) = refl
    go (verdict.Arrived a) = refl

module _ (g : Gate) (c : Counters) (keys changes words slots cells : List ℕ) (input pid : ℕ) (section : List ℕ) (o : Offered) (ks ms ws : List ℕ) where
  pub ready_after :
      RecordReady g.follow (record_of words slots cells) → left_by o ks ms ws ≡ offered (store_of g c keys changes words) input pid section →
      RecordReady g.follow (record_of ws slots cells)
  ready_after k e = record {
    pats = λ t. subst (λ (xs : List ℕ). PatsReady (record_of xs slots cells)) (sym (ap (λ (l : sections.Offering). l.store.words) e ∙ words_kept (store_of g c keys changes words) section t input pid)) (k.pats t);
  }

  pub taken_told :
      (xs ss cs : List ℕ) → left_by o ks ms ws ≡ offered (store_of g c keys changes words) input pid section →
      record_of xs ss cs ≡ record_after g.follow (said_of o.answer) input pid section (record_of ws slots cells) →
      left_with o ks ms (record_of xs ss cs) ≡ taken_with (kept_of g c keys changes (record_of words slots cells)) input pid section
  unfolding taken_with
  taken_told xs ss cs e f = rw (← e, ← f)

pub ready_record : (f : Follow) (r : Record) (x : State) → StateOk f r x → x ≡ Ready → RecordReady f r
ready_record f r x k h = subst (StateOk f r) h k

module _ (g : Gate) (c : Counters) (keys changes words slots cells : List ℕ) (input pid : ℕ) (section : List ℕ) (x : State) (e : x ≡ state_of g.follow (record_of words slots cells)) where
  pub offered_broken : (o : Offered) → x ≡ NotWhole → o ≡ refused refusal.NotWhole g c → left_with o keys changes (record_of words slots cells) ≡ offered_with (kept_of g c keys changes (record_of words slots cells)) input pid section
  unfolding offered_with offered_by
  offered_broken o h j = rw (← e, h, j)

  pub offered_full :
      (w : Bool) (n : Refusal) (o : Offered) → x ≡ Full → w ≡ whole_of g (length keys) (length changes) (length words) → refusal_no n ≡ full_no w → o ≡ refused n g c →
      left_with o keys changes (record_of words slots cells) ≡ offered_with (kept_of g c keys changes (record_of words slots cells)) input pid section
  unfolding offered_with offered_by
  offered_full w n o h k m j = rw (← e, h, ← k, j, m)

  pub offered_ready :
      (l : Offering) → x ≡ Ready → l ≡ taken_with (kept_of g c keys changes (record_of words slots cells)) input pid section → l ≡ offered_with (kept_of g c keys changes (record_of words slots cells)) input pid section
  unfolding offered_with offered_by
  offered_ready l h j = rw (← e, h) j
