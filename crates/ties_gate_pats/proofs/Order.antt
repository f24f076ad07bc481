-- From an opened gate and an opened record every history of offers has the answers of the rules, and the memory then stands for what the rules hold.
-- Assumes nothing.
use Prim.Native.Nat.{ℕ, ◌≤◌}
use mathlib.Core.Path.{◌≡◌, refl, sym, ap, subst, ◌∙◌}
use mathlib.Core.Logic.{◌≢◌}
use mathlib.Core.List.{List, [], ◌∷◌}
use mathlib.Core.Bool.{Bool, true, false, cond, ◌&&◌, true≢false}
use lib.ListN.{length}
use lib.Dec.{eqb}
use native.Mathlib.Omega.{arith}
use Rattle.laws.specs.Runs.{answers, store_after}
use Rattle.section.specs.Facts.{Bytes}
use Rattle.watched.specs.View.{watch_in}
use Rattle.rules_sets.specs.Rules.{Whole, Answer, cleared, nothing, handout, refused, opened}
use Rattle.rules_sets.specs.Rules.{tells as sets_tell, acts as sets_act}
use Rattle.rules_sets.specs.Cells.{view, on_sets}
use Rattle.rules_shared.specs.Touch.{on_order}
use Rattle.gate_state.specs.State.{plain, by_tables}
use Rattle.gate.specs.Rules.{Offer, told, OfBytes}
use Rattle.gate.specs.Store.{offered}
use Rattle.gate.specs.Store as sections
use Rattle.gate.specs.View.{manner_of, held_by, shown_by, Opened}
use Rattle.ties_gate.proofs.Order.{Follows, follows, opened_whole}
use Rattle.pats.specs.Store.{Record, record_of, pats_full, enters, entered_in}
use Rattle.ties_pats.specs.Rules.{Pats, entered, read_pat, pat_settings, enters_on}
use Rattle.pats.proofs.Laws.{is_whole}
use Rattle.ties_sets.specs.View.{seen}
use Rattle.ties_pats.specs.View.{shown}
use Rattle.ties_pats.proofs.Obey.{Stands, stands_then, obeys_rules, only_whole, watch_then, same_watch, clock_then}
use Rattle.gate_pats.specs.Store.{state_of, Kept, sections_in, Offering, sound_by, record_after, taken_with, offered_by, offered_with}
use Rattle.gate_pats.specs.View.{kept_tells, kept_acts}
use Rattle.gate_pats.specs.declared.inner.State.TheVariants.{Ready}
use Rattle.gate_pats.proofs.Laws.{words_kept, follow_kept}
use Rattle.gate_pats.proofs.Manner.{beside, old_manner, ready_taken}
use Rattle.ties_gate_pats.specs.Rules.{ToldWith, at_end, watch_with, entered_with, enters_from, behind, told_with, tells_with, acts_with, begun}
use Rattle.ties_gate_pats.specs.View.{pats_of, holding, shown_with, pats_in}

-- nothing is asked of the sections but that they are bytes
abbrev pub Any : List ℕ → Type 0
Any section = Unit {0}

-- what every store has that came from an opened one
pub record OpenedWith (s : Kept) : Type 0 where
  pub sections : Opened (sections_in s)
  pub pats : by_tables s.gate.follow ≡ true → Stands Any s.watch

-- one offer: what it tells and leaves is the rule's, and the store is one that came from an opened one
pub record FollowsWith (s : Kept) (l : Offering) (t : ToldWith) : Type 0 where
  pub same : shown_with l ≡ t
  pub opened : OpenedWith l.left
  pub follow : l.left.gate.follow ≡ s.gate.follow
  pub manner : manner_of l.left.gate ≡ manner_of s.gate

-- the counts of the PAT store are those in the record
pub end_shown : (r : Record) → at_end (pats_in r) ≡ pats_full r.words
unfolding pats_full view on_sets on_order seen
end_shown r = refl

-- ---- where complete PATs are not followed

module _ (s : Kept) (o : Offer) (k : OpenedWith s) (b : Bytes o.section) (h : by_tables s.gate.follow ≡ false) where
  abbrev low : sections.Offering
  low = offered (sections_in s) o.input o.pid o.section

  low_follows : Follows (sections_in s) o low
  low_follows = follows (sections_in s) o k.sections b

  low_follow : low.store.gate.follow ≡ s.gate.follow
  low_follow = follow_kept (sections_in s) o.input o.pid o.section

  beside_same : shown_with (beside s low) ≡ told_with s.gate.follow (manner_of s.gate) (holding s) o
  unfolding told_with
  beside_same = rw (low_follow, h, ← low_follows.same)

  beside_follows : FollowsWith s (beside s low) (told_with s.gate.follow (manner_of s.gate) (holding s) o)
  beside_follows = record {
    same = beside_same;
    opened = record { sections = low_follows.opened; pats = λ t. absurd (true≢false (sym t ∙ ap by_tables low_follow ∙ h)) };
    follow = low_follow;
    manner = low_follows.manner;
  }

  pub old_follows : FollowsWith s (offered_with s o.input o.pid o.section) (told_with s.gate.follow (manner_of s.gate) (holding s) o)
  old_follows = rw (old_manner s o.input o.pid o.section h) beside_follows

-- ---- where they are

-- a section that does not enter leaves the record as it was
not_entered : (r : Record) (input : ℕ) (section : List ℕ) → enters section ≡ false → entered_in r input section ≡ r
unfolding entered_in
not_entered r input section h = rw h

-- the three sets after a section entered
entered_watch :
    (r : Record) (st : Stands Any r) (f : pats_full r.words ≡ false) (input : ℕ) (section : List ℕ) (b : Bytes section) (h : enters section ≡ true) →
    watch_in (entered_in r input section).words ≡ watch_with (sets_tell pat_settings (shown r).sets (read_pat input section)) (watch_in r.words)
entered_watch r st f input section b h = go (sets_tell pat_settings (shown r).sets (read_pat input section)) refl
  where
    stays : ((w : Whole) → sets_tell pat_settings (shown r).sets (read_pat input section) ≢ handout w) → watch_in (entered_in r input section).words ≡ watch_in r.words
    stays n = same_watch (entered_in r input section).words r.words (only_whole Any r st f input section b n)

    go : (a : Answer) → sets_tell pat_settings (shown r).sets (read_pat input section) ≡ a → watch_in (entered_in r input section).words ≡ watch_with a (watch_in r.words)
    go cleared e = stays (λ w x. let y = sym e ∙ x in let z : ◌≡◌ {A = ℕ} 0 1 = cc in absurd (omega arith))
    go nothing e = stays (λ w x. let y = sym e ∙ x in let z : ◌≡◌ {A = ℕ} 0 1 = cc in absurd (omega arith))
    go (handout w) e = watch_then Any r st f input section b h tt w e
    go (refused x) e = stays (λ w y. let q = sym e ∙ y in let z : ◌≡◌ {A = ℕ} 0 1 = cc in absurd (omega arith))

module _
    (s : Kept) (o : Offer) (k : OpenedWith s) (b : Bytes o.section) (h : by_tables s.gate.follow ≡ true)
    (f : pats_full s.watch.words ≡ false)
  where
    abbrev pub lo : sections.Offering
    lo = offered (sections_in s) o.input o.pid o.section

    st : Stands Any s.watch
    st = k.pats h

    lo_follows : Follows (sections_in s) o lo
    lo_follows = follows (sections_in s) o k.sections b

    lo_follow : lo.store.gate.follow ≡ s.gate.follow
    lo_follow = follow_kept (sections_in s) o.input o.pid o.section

    lo_words : lo.store.words ≡ s.watch.words
    lo_words = words_kept (sections_in s) o.section h o.input o.pid

    -- the record with which the offer is told
    abbrev with_record : Record → ToldWith
    with_record r = record {
      answer = lo.answer;
      holding = record {
        held = record { rows = (held_by lo.store).rows; counters = lo.store.counters; watch = watch_in r.words };
        pats = cond (by_tables lo.store.gate.follow) (pats_in r) begun;
      };
    }

    abbrev pub then_record : Record
    then_record = record_after s.gate.follow lo.answer o.input o.pid o.section (record_of lo.store.words s.watch.slots s.watch.cells)

    pub then_is : then_record ≡ cond (sound_by lo.answer && eqb o.pid 0) (entered_in s.watch o.input o.section) s.watch
    unfolding record_after
    then_is = rw (lo_words, h)

    abbrev told_if : Bool → ToldWith
    told_if b = record {
      answer = lo.answer;
      holding = cond b (entered_with (record { held = held_by lo.store; pats = pats_of s }) o) (record { held = held_by lo.store; pats = pats_of s });
    }

    abbrev goal : Bool → Bool → Bool → ToldWith
    goal sound zero pat = told_if (sound && (zero && pat))

    stays_out : with_record s.watch ≡ record { answer = lo.answer; holding = record { held = held_by lo.store; pats = pats_of s } }
    stays_out = rw (lo_follow, lo_words)

    enters_in : (p : Bool) → enters o.section ≡ p → with_record (entered_in s.watch o.input o.section) ≡ goal true true p
    unfolding entered
    enters_in true e =
        let w = entered_watch s.watch st f o.input o.section b e in
        let p : (shown (entered_in s.watch o.input o.section)).sets ≡ sets_act pat_settings (shown s.watch).sets (read_pat o.input o.section) =
        ap (λ (x : Pats). x.sets) (obeys_rules Any s.watch st f o.input o.section b tt) ∙ (rw e) in
        let c = clock_then Any s.watch st f o.input o.section b e in
        rw (lo_follow, h, w, p, c, lo_words)
    enters_in false e = rw (not_entered s.watch o.input o.section e) stays_out

    split_up : (sound zero : Bool) → with_record (cond (sound && zero) (entered_in s.watch o.input o.section) s.watch) ≡ goal sound zero (enters o.section)
    split_up true true = enters_in (enters o.section) refl
    split_up true false = stays_out
    split_up false zero = stays_out

    -- the rules: a sound section of PID 0 that is a current PAT enters
    enters_is : enters_from s.gate.follow lo.answer o ≡ sound_by lo.answer && (eqb o.pid 0 && enters o.section)
    enters_is = ap (λ (t : Bool). t && sound_by lo.answer && enters_on o.pid o.section) h

    behind_is : behind s.gate.follow (holding s) o (shown_by lo) ≡ goal (sound_by lo.answer) (eqb o.pid 0) (enters o.section)
    behind_is = ap told_if enters_is

    taken_same : shown_with (taken_with s o.input o.pid o.section) ≡ behind s.gate.follow (holding s) o (shown_by lo)
    unfolding taken_with
    taken_same = ap with_record then_is ∙ split_up (sound_by lo.answer) (eqb o.pid 0) ∙ sym behind_is

    then_stands : (c : Bool) → Stands Any (cond c (entered_in s.watch o.input o.section) s.watch)
    then_stands true = stands_then Any s.watch st f o.input o.section b tt
    then_stands false = st

    long : (c : Bool) → 384 ≤ length (cond c (entered_in s.watch o.input o.section) s.watch).words
    long c = let w = (then_stands c).words in omega (arith, w)

    taken_opened : OpenedWith (taken_with s o.input o.pid o.section).left
    unfolding taken_with
    taken_opened = record {
      sections = again;
      pats = λ t. subst (Stands Any) (sym then_is) (then_stands (sound_by lo.answer && eqb o.pid 0));
    }
      where
        again : Opened (sections_in (taken_with s o.input o.pid o.section).left)
        again = record {
          reached = lo_follows.opened.reached;
          watch = rw then_is (long (sound_by lo.answer && eqb o.pid 0));
          rule = lo_follows.opened.rule;
        }

    taken_follows : FollowsWith s (taken_with s o.input o.pid o.section) (behind s.gate.follow (holding s) o (told (manner_of s.gate) (held_by (sections_in s)) o))
    unfolding taken_with
    taken_follows = record {
      same = taken_same ∙ ap (behind s.gate.follow (holding s) o) lo_follows.same;
      opened = taken_opened;
      follow = lo_follow;
      manner = lo_follows.manner;
    }

-- ---- every offer

module _ (s : Kept) (o : Offer) (k : OpenedWith s) (b : Bytes o.section) where
  -- the PAT store cannot count: 11
  abbrev pub eleven : Offering
  eleven = record { answer = plain 11; left = s }

  pub is_full_lem : by_tables s.gate.follow ≡ true → pats_full s.watch.words ≡ true → offered_with s o.input o.pid o.section ≡ eleven
  unfolding offered_with offered_by state_of
  is_full_lem h f = rw (h, is_whole s.watch (k.pats h).words (k.pats h).whole, f, opened_whole (sections_in s) k.sections)

  at_end_lem : by_tables s.gate.follow ≡ true → pats_full s.watch.words ≡ true → (by_tables s.gate.follow && at_end (pats_of s)) ≡ true
  at_end_lem h f = rw (h, end_shown s.watch) f

  told_full : by_tables s.gate.follow ≡ true → pats_full s.watch.words ≡ true → told_with s.gate.follow (manner_of s.gate) (holding s) o ≡ shown_with eleven
  unfolding told_with
  told_full h f =
      ap (λ (t : Bool). cond t (shown_with eleven) (behind s.gate.follow (holding s) o (told (manner_of s.gate) (held_by (sections_in s)) o))) (at_end_lem h f)

  full_follows :
      by_tables s.gate.follow ≡ true → pats_full s.watch.words ≡ true →
      FollowsWith s (offered_with s o.input o.pid o.section) (told_with s.gate.follow (manner_of s.gate) (holding s) o)
  full_follows h f =
      subst (λ (l : Offering). FollowsWith s l (told_with s.gate.follow (manner_of s.gate) (holding s) o)) (sym (is_full_lem h f))
      (record { same = sym (told_full h f); opened = k; follow = refl; manner = refl })

  pub is_ready : by_tables s.gate.follow ≡ true → pats_full s.watch.words ≡ false → state_of s.gate.follow s.watch ≡ Ready
  unfolding state_of
  is_ready h f = rw (h, is_whole s.watch (k.pats h).words (k.pats h).whole, f)

  not_at_end : by_tables s.gate.follow ≡ true → pats_full s.watch.words ≡ false → (by_tables s.gate.follow && at_end (pats_of s)) ≡ false
  not_at_end h f = rw (h, end_shown s.watch) f

  is_behind :
      by_tables s.gate.follow ≡ true → pats_full s.watch.words ≡ false →
      told_with s.gate.follow (manner_of s.gate) (holding s) o ≡ behind s.gate.follow (holding s) o (told (manner_of s.gate) (held_by (sections_in s)) o)
  unfolding told_with
  is_behind h f =
      ap (λ (t : Bool). cond t (record { answer = plain 11; holding = holding s }) (behind s.gate.follow (holding s) o (told (manner_of s.gate) (held_by (sections_in s)) o))) (not_at_end h f)

  new_follows :
      by_tables s.gate.follow ≡ true → (x : Bool) → pats_full s.watch.words ≡ x →
      FollowsWith s (offered_with s o.input o.pid o.section) (told_with s.gate.follow (manner_of s.gate) (holding s) o)
  new_follows h true f = full_follows h f
  new_follows h false f =
      subst (λ (l : Offering). FollowsWith s l (told_with s.gate.follow (manner_of s.gate) (holding s) o)) (sym (ready_taken s o.input o.pid o.section (is_ready h f)))
      (subst (λ (t : ToldWith). FollowsWith s (taken_with s o.input o.pid o.section) t) (sym (is_behind h f)) (taken_follows s o k b h f))

  pub follows_with : FollowsWith s (offered_with s o.input o.pid o.section) (told_with s.gate.follow (manner_of s.gate) (holding s) o)
  follows_with = go (by_tables s.gate.follow) refl
    where
      go : (t : Bool) → by_tables s.gate.follow ≡ t → FollowsWith s (offered_with s o.input o.pid o.section) (told_with s.gate.follow (manner_of s.gate) (holding s) o)
      go true h = new_follows h (pats_full s.watch.words) refl
      go false h = old_follows s o k b h

-- THE THEOREM: from an opened gate and an opened record every sequence of offers of bytes has the rules' answers, and the memory then stands for what
-- the rules hold
pub same_answers :
    (s : Kept) (os : List Offer) → OpenedWith s → OfBytes os →
    answers kept_tells kept_acts s os ≡ answers (tells_with s.gate.follow (manner_of s.gate)) (acts_with s.gate.follow (manner_of s.gate)) (holding s) os
unfolding answers kept_tells kept_acts tells_with acts_with
same_answers s [] k b = refl
same_answers s (o ∷ os) k b =
    let f = follows_with s o k b.0 in
    let l : Offering = offered_with s o.input o.pid o.section in
    let t : ToldWith = told_with s.gate.follow (manner_of s.gate) (holding s) o in
    let e : l.answer ≡ t.answer = ap (λ (x : ToldWith). x.answer) f.same in
    let h : holding l.left ≡ t.holding = ap (λ (x : ToldWith). x.holding) f.same in
    let ih = same_answers l.left os f.opened b.1 ∙ (λ i. answers (tells_with (f.follow i) (f.manner i)) (acts_with (f.follow i) (f.manner i)) (h i) os) in
    λ i. e i ∷ ih i

pub same_view :
    (s : Kept) (os : List Offer) → OpenedWith s → OfBytes os →
    holding (store_after kept_acts s os) ≡ store_after (acts_with s.gate.follow (manner_of s.gate)) (holding s) os
unfolding store_after kept_acts acts_with
same_view s [] k b = refl
same_view s (o ∷ os) k b =
    let f = follows_with s o k b.0 in
    let l : Offering = offered_with s o.input o.pid o.section in
    let t : ToldWith = told_with s.gate.follow (manner_of s.gate) (holding s) o in
    let h : holding l.left ≡ t.holding = ap (λ (x : ToldWith). x.holding) f.same in
    same_view l.left os f.opened b.1 ∙ (λ i. store_after (acts_with (f.follow i) (f.manner i)) (h i) os)
