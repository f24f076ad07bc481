-- A history of offers, where complete PATs are followed, leaves the record that a history of enterings leaves: those of the sections of PID 0 that were
-- answered 1 or 2. So what holds of the record in every history of enterings holds in every history of offers.
-- Assumes nothing.
use Prim.Native.Nat.{ℕ, ◌≤◌}
use mathlib.Core.Path.{◌≡◌, refl, sym, ap, subst, ◌∙◌}
use mathlib.Core.Logic.{◌≢◌}
use mathlib.Core.List.{List, [], ◌∷◌}
use mathlib.Core.Bool.{Bool, true, false, cond, ◌&&◌}
use lib.ListN.{length, take}
use lib.Dec.{leb, eqb}
use native.Mathlib.Omega.{arith}
use borrow.Author.Tests.{eqb-true}
use Rattle.laws.specs.Runs.{answers, store_after}
use Rattle.laws.proofs.Tests.{and_true}
use Rattle.section.specs.Facts.{Bytes}
use Rattle.section.specs.Header.{current_next_of}
use Rattle.section.specs.Judged.{rule_of}
use Rattle.pat.specs.Pat.{readable}
use Rattle.gate_state.specs.State.{Said, by_tables}
use Rattle.gate.specs.Rules.{Offer, OfBytes}
use Rattle.gate.specs.View.{store_tells}
use Rattle.laws.specs.Bits.{has_bit}
use Rattle.std.specs.Prelude.{Some}
use Rattle.arrivals.specs.Arrivals.{set_arrival}
use Rattle.watched.specs.Store.{followed_of}
use Rattle.rules_sets.specs.Rules.{Whole, Answer, cleared, nothing, handout, refused, conflict, opened, tells}
use Rattle.pats.specs.Store.{Record, pats_whole, pats_full, enters, entered_as, entered_in}
use Rattle.ties_pats.specs.Rules.{pat_settings, read_pat, programs_of_set}
use Rattle.ties_pats.specs.View.{shown, Sent, entering, taking, NeverFull, CompletePat}
use Rattle.ties_pats.specs.View as pats
use Rattle.ties_pats.proofs.History as history
use Rattle.ties_pats.proofs.History.{In, Few, few_answers}
use Rattle.ties_pats.proofs.Obey.{only_whole}
use Rattle.gate_pats.specs.Store.{Kept, sections_in, Offering, sound_by, taken_with, offered_with}
use Rattle.gate_pats.specs.View.{kept_tells, kept_acts}
use Rattle.gate_pats.proofs.Manner.{ready_taken}
use Rattle.ties_gate_pats.specs.History.{sent, sent_by, Replaced, stays, replaced}
use Rattle.ties_gate_pats.proofs.Answers.{sound_crc, kept_sounds}
use Rattle.ties_gate_pats.proofs.Order.{Any, OpenedWith, follows_with, then_is, is_full_lem, is_ready}

-- ---- one offer

-- the record after an offer, by what it answered
abbrev after : Offer → Record → Offering → Type 0
after o r l = l.left.watch ≡ cond (sound_by l.answer && eqb o.pid 0) (entering r (sent o)) r

module _ (s : Kept) (o : Offer) (k : OpenedWith s) (b : Bytes o.section) (h : by_tables s.gate.follow ≡ true) where
  goes_in : pats_full s.watch.words ≡ false → entering s.watch (sent o) ≡ entered_in s.watch o.input o.section
  unfolding entering
  goes_in f = rw f

  pub taken_entering : pats_full s.watch.words ≡ false → after o s.watch (taken_with s o.input o.pid o.section)
  unfolding taken_with
  taken_entering f =
      then_is s o k b h f
      ∙ ap (λ (r : Record). cond (sound_by (taken_with s o.input o.pid o.section).answer && eqb o.pid 0) r s.watch) (sym (goes_in f))

  pub one_entering : (kept_acts s o).watch ≡ cond (sound_by (kept_tells s o) && eqb o.pid 0) (entering s.watch (sent o)) s.watch
  unfolding kept_acts kept_tells
  one_entering = go (pats_full s.watch.words) refl
    where
      go : (f : Bool) → pats_full s.watch.words ≡ f → after o s.watch (offered_with s o.input o.pid o.section)
      go true f = subst (after o s.watch) (sym (is_full_lem s o k b h f)) refl
      go false f = subst (after o s.watch) (sym (ready_taken s o.input o.pid o.section (is_ready s o k b h f))) (taken_entering f)

  -- where the rules hand out no set at the section, the three sets stay
  pub sets_stay :
      ((w : Whole) → tells pat_settings (shown s.watch).sets (read_pat o.input o.section) ≢ handout w) → take 384 (kept_acts s o).watch.words ≡ take 384 s.watch.words
  unfolding entering
  sets_stay n = ap (λ (r : Record). take 384 r.words) one_entering ∙ go (sound_by (kept_tells s o) && eqb o.pid 0) (pats_full s.watch.words) refl
    where
      go : (c f : Bool) → pats_full s.watch.words ≡ f
          → take 384 (cond c (cond f s.watch (entered_in s.watch o.input o.section)) s.watch).words ≡ take 384 s.watch.words
      go true true e = refl
      go true false e = only_whole Any s.watch (k.pats h) e o.input o.section b n
      go false f e = refl

  -- a conflict: the three sets, and the answer, are as if the section had entered nothing
  pub conflict_silent :
      pats_full s.watch.words ≡ false → tells pat_settings (shown s.watch).sets (read_pat o.input o.section) ≡ conflict →
      (take 384 (kept_acts s o).watch.words ≡ take 384 s.watch.words) × (kept_tells s o ≡ store_tells (sections_in s) o)
  unfolding kept_tells store_tells taken_with
  conflict_silent f e = (
    sets_stay (λ w q. let g = sym e ∙ q in let z : ◌≡◌ {A = ℕ} 0 1 = cc in absurd (omega arith)),
    ap (λ (l : Offering). l.answer) (ready_taken s o.input o.pid o.section (is_ready s o k b h f)),
  )

  -- a section that enters is answered 4, 5, 16 or 22 by the PAT store: 10, 17, 20 and 21 never come from it
  pub few : sound_by (kept_tells s o) ≡ true → enters o.section ≡ true → Few (tells pat_settings (shown s.watch).sets (read_pat o.input o.section))
  unfolding enters
  few a t =
      let c = kept_sounds s o k b a in
      let u = and_true (readable o.section) (current_next_of o.section) (and_true (readable o.section && current_next_of o.section) (leb (length o.section) 1024) t).0 in
      few_answers (shown s.watch).sets o.input o.section c.input t (sound_crc (rule_of s.gate.change_rule) o.section u.0 c.parts c.sound)

-- ---- every history

pub record_after_lem :
    (os : List Offer) (s : Kept) → OpenedWith s → by_tables s.gate.follow ≡ true → OfBytes os →
    (store_after kept_acts s os).watch ≡ store_after entering s.watch (sent_by os (answers kept_tells kept_acts s os))
unfolding store_after answers sent_by kept_acts
record_after_lem [] s k h b = refl
record_after_lem (o ∷ os) s k h b =
    let f = follows_with s o k b.0 in
    record_after_lem os (kept_acts s o) f.opened (ap by_tables f.follow ∙ h) b.1
    ∙ ap (λ (r : Record). store_after entering r rest) (one_entering s o k b.0 h)
    ∙ go (sound_by (kept_tells s o) && eqb o.pid 0)
  where
    rest : List Sent
    rest = sent_by os (answers kept_tells kept_acts (kept_acts s o) os)

    go : (c : Bool) → store_after entering (cond c (entering s.watch (sent o)) s.watch) rest ≡ store_after entering s.watch (cond c (sent o ∷ rest) rest)
    go true = refl
    go false = refl

-- what was sent is of bytes, and no more than was offered
sent_bytes : (os : List Offer) (as' : List Said) → OfBytes os → pats.OfBytes (sent_by os as')
unfolding sent_by
sent_bytes [] as' b = tt
sent_bytes (o ∷ os) [] b = tt
sent_bytes (o ∷ os) (a ∷ as') b = go (sound_by a && eqb o.pid 0) (sent_bytes os as' b.1)
  where
    go : (c : Bool) → pats.OfBytes (sent_by os as') → pats.OfBytes (cond c (sent o ∷ sent_by os as') (sent_by os as'))
    go true ih = (b.0, ih)
    go false ih = ih

sent_few : (os : List Offer) (as' : List Said) → length (sent_by os as') ≤ length os
unfolding sent_by
sent_few [] as' = omega arith
sent_few (o ∷ os) [] = omega arith
sent_few (o ∷ os) (a ∷ as') = go (sound_by a && eqb o.pid 0) (sent_few os as')
  where
    go : (c : Bool) → length (sent_by os as') ≤ length os → length (cond c (sent o ∷ sent_by os as') (sent_by os as')) ≤ length (o ∷ os)
    go true h = omega arith
    go false h = omega arith

-- a gate that comes from an opened one stays one
pub always_opened : (os : List Offer) (s : Kept) → OpenedWith s → OfBytes os → OpenedWith (store_after kept_acts s os) × ((store_after kept_acts s os).gate.follow ≡ s.gate.follow)
unfolding store_after kept_acts
always_opened [] s k b = (k, refl)
always_opened (o ∷ os) s k b =
    let f = follows_with s o k b.0 in
    let n = always_opened os (kept_acts s o) f.opened b.1 in
    (n.0, n.1 ∙ f.follow)

-- ---- the theorems, from an opened gate whose record was opened

module _ (s : Kept) (k : OpenedWith s) (r : pats.Opened s.watch) (h : by_tables s.gate.follow ≡ true) (os : List Offer) (b : OfBytes os) where
  abbrev before : Kept
  before = store_after kept_acts s os

  -- the sections of PID 0 that were answered 1 or 2
  abbrev came : List Sent
  came = sent_by os (answers kept_tells kept_acts s os)

  is_after : before.watch ≡ store_after entering s.watch came
  is_after = record_after_lem os s k h b

  came_bytes : pats.OfBytes came
  came_bytes = sent_bytes os (answers kept_tells kept_acts s os) b

  -- the PAT store is what the rules of the set collector say at limit 1 of the sections of PID 0 that were answered 1 or 2; it is whole, and its count is not at
  -- its end before 2^64 - 1 offers
  pub pats_obey : length os ≤ 18446744073709551615
      → (shown (store_after kept_acts s os).watch
      ≡ store_after taking (record { sets = opened; n = (shown s.watch).n }) (sent_by os (answers kept_tells kept_acts s os)))
      × (pats_whole (store_after kept_acts s os).watch ≡ true)
      × NeverFull s.watch (sent_by os (answers kept_tells kept_acts s os))
  pats_obey l =
      let f = sent_few os (answers kept_tells kept_acts s os) in
      let p = history.pats_obey s.watch r came came_bytes (omega arith) in
      (ap shown is_after ∙ p.0, ap pats_whole is_after ∙ p.1, p.2)

  -- one offer more
  module _ (o : Offer) (b' : Bytes o.section) where
    abbrev answer : Record → Answer
    answer q = tells pat_settings (shown q).sets (read_pat o.input o.section)

    k' : OpenedWith before
    k' = (always_opened os s k b).0

    h' : by_tables before.gate.follow ≡ true
    h' = ap by_tables (always_opened os s k b).1 ∙ h

    -- a set that is handed out at it is a complete PAT whose sections were all sent, and its programs are N then
    whole : pats_full before.watch.words ≡ false → enters o.section ≡ true → (w : Whole) → answer before.watch ≡ handout w
        → CompletePat (In (sent o ∷ came)) w × ((pid : ℕ) → has_bit (followed_of (entered_in before.watch o.input o.section).words) pid ≡ programs_of_set w.sections pid)
    whole =
        subst
        (λ (q : Record). pats_full q.words ≡ false → enters o.section ≡ true → (w : Whole) → answer q ≡ handout w
        → CompletePat (In (sent o ∷ came)) w × ((pid : ℕ) → has_bit (followed_of (entered_in q o.input o.section).words) pid ≡ programs_of_set w.sections pid))
        (sym is_after) (λ f. history.replaced_whole s.watch r came (sent o) came_bytes b' f)

    -- N changes at an offer only by a complete PAT, each section of which is one of those of PID 0 that were answered 1 or 2
    pub replaced_only_whole : Replaced (In (sent o ∷ sent_by os (answers kept_tells kept_acts s os))) (store_after kept_acts s os) o
    unfolding entering entered_in
    replaced_only_whole = by (answer before.watch) refl
      where
        none : ((w : Whole) → answer before.watch ≢ handout w) → Replaced (In (sent o ∷ came)) before o
        none n = stays (sets_stay before o k' b' h' n)

        r' : Record
        r' = entered_as before.watch o.section (set_arrival o.input (Some 0) o.section)

        handed : (w : Whole) → answer before.watch ≡ handout w → (a p f t : Bool)
            → sound_by (kept_tells before o) ≡ a → eqb o.pid 0 ≡ p → pats_full before.watch.words ≡ f → enters o.section ≡ t
            → (kept_acts before o).watch ≡ cond (a && p) (cond f before.watch (cond t r' before.watch)) before.watch → Replaced (In (sent o ∷ came)) before o
        handed w q true true false true a p f t e =
            let x = whole f t w q in
            replaced w (eqb-true o.pid 0 p) a t q x.0
            (λ pid. ap (λ (q : Record). has_bit (followed_of q.words) pid) (e ∙ sym (ap (λ (c : Bool). cond c r' before.watch) t)) ∙ x.1 pid)
        handed w q true true false false a p f t e = stays (ap (λ (q : Record). take 384 q.words) e)
        handed w q true true true t a p f g e = stays (ap (λ (q : Record). take 384 q.words) e)
        handed w q true false f t a p g j e = stays (ap (λ (q : Record). take 384 q.words) e)
        handed w q false p f t a g j i e = stays (ap (λ (q : Record). take 384 q.words) e)

        by : (x : Answer) → answer before.watch ≡ x → Replaced (In (sent o ∷ came)) before o
        by cleared q = none (λ w y. let g = sym q ∙ y in let z : ◌≡◌ {A = ℕ} 0 1 = cc in absurd (omega arith))
        by nothing q = none (λ w y. let g = sym q ∙ y in let z : ◌≡◌ {A = ℕ} 0 1 = cc in absurd (omega arith))
        by (handout w) q =
            handed w q (sound_by (kept_tells before o)) (eqb o.pid 0) (pats_full before.watch.words) (enters o.section) refl refl refl refl (one_entering before o k' b' h')
        by (refused x) q = none (λ w y. let g = sym q ∙ y in let z : ◌≡◌ {A = ℕ} 0 1 = cc in absurd (omega arith))
