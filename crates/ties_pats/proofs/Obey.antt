-- One entering, of a record that comes from an opened one: the PAT store tells and then shows what the rules of the set collector say at limit 1, and N is
-- then what the rules say.
-- Assumes nothing.
use borrow.Author.Tests.{ne_eqb}
use mathlib.Core.Path.{◌≡◌, refl, sym, ap, subst, ◌∙◌}
use mathlib.Core.Logic.{◌≢◌, ◌⊎◌, inl, inr}
use mathlib.Core.Bool.{Bool, true, false, cond, not, ◌||◌, true≢false, or-false}
use mathlib.Core.List.{List, [], ◌∷◌}
use Prim.Native.Nat.{ℕ, suc, ◌+◌, ◌≤◌, ◌<◌}
use native.Mathlib.Omega.{arith}
use lib.Dec.{eqb, ltb}
use lib.ListN.{length, get_or, take}
use Rattle.laws.specs.Bits.{has_bit}
use Rattle.laws.proofs.Bits.{has_none}
use Rattle.laws.proofs.Tests.{and_true}
use Rattle.answers.specs.declared.Refusal.TheVariants.{NoCell, TooLong}
use Rattle.answers.specs.Answers.{refusal_no}
use Rattle.section.specs.Facts.{Bytes}
use Rattle.std.specs.Prelude.{Some, Result, Ok, Err}
use Rattle.answers.specs.declared.Refusal.{Refusal}
use Rattle.pat.specs.Pat.{readable, set_n, with_programs}
use Rattle.pat.proofs.Laws.{length_programs, has_programs}
use Rattle.watched.specs.Store.{followed_of, no_pids}
use Rattle.watched.specs.Rules.{Watch, followed_by}
use Rattle.watched.specs.View.{watch_in, InStep}
use Rattle.watched.proofs.Meaning.{following_followed, following_shown, following_in_step}
use Rattle.cells.specs.Cells.{lowest_free}
use Rattle.rows.specs.Rows.{gone_row, taken_in, touched}
use Rattle.rows.specs.declared.Entry.{Entry}
use Rattle.rows.specs.declared.Room.{Room}
use Rattle.store.specs.Store.{Store, store, risen_sets, WholeStore}
use Rattle.store.proofs.Whole.{means_whole}
use Rattle.arrivals.specs.Arrivals.{set_arrival, SetTaken}
use Rattle.arrivals.proofs.Facts.{set_taken}
use Rattle.rules_shared.specs.Refusals as refusals
use Rattle.rules_sets.specs.Rules.{Whole, Answer, cleared, nothing, handout, refused, barred}
use Rattle.rules_sets.specs.Rules.{tells as rules_tell, acts as rules_act}
use Rattle.rules_sets.specs.Cells.{view}
use Rattle.rules_sets.proofs.History.{Lived, step_lived}
use Rattle.placing.specs.Places.{place_of}
use Rattle.placing.specs.declared.Place.{Place}
use Rattle.placing.specs.declared.Place.TheVariants as place
use Rattle.sets_plan.specs.Plan.{plan_keep, plan_placed, plan_of}
use Rattle.sets_plan.specs.declared.Plan.{Plan}
use Rattle.sets_plan.specs.declared.Plan.TheVariants as plan
use Rattle.sets_plan.proofs.Every.{plan_by}
use Rattle.sets_settle.specs.Settle as settle
use Rattle.sets_settle.specs.Settle.{Told, SetsAfter, answer_of, goes_out, settled_answer, settled_heads, settled, kept_in, carried}
use Rattle.sets_settle.specs.declared.PushAnswer.TheVariants.{Nothing, Set}
use Rattle.sets_push.specs.Pushing.{whole_pushed, admitted}
use Rattle.sets.specs.Store.{pushed_as, pushed_of}
use Rattle.sets.specs.History as sets
use Rattle.sets.proofs.Arrived.{set_refused_by}
use Rattle.ties_sets.specs.View as ties
use Rattle.ties_sets.specs.View.{seen, settings_of, answer_told, reads}
use Rattle.ties_sets.proofs.History.{obeys, acts_reached}
use Rattle.pats.specs.Store.{Record, pat_clock, pat_store, pats_full, enters, with_all, programs_of, with_store, watch_after, entered_as, entered_in, PatsReady, Arrives}
use Rattle.ties_pats.specs.Rules.{Pats, programs_of_set, n_after, clock_after, read_pat, pat_settings, entered}
use Rattle.without_pid.specs.Pids.{without_pid}
use Rattle.pats.proofs.Store.{pushed_as_lem}
use Rattle.pats.proofs.Laws.{ready, is_whole, same_followed, same_watched, same_protected, length_programs_of, long_with, with_sets_lem, then_store, entered_whole, entered_lengths, whole_store}
use Rattle.ties_pats.specs.View.{shown, tells_of, CompletePat}
use Rattle.ties_pats.proofs.Cells.{never_21}
use Rattle.ties_pats.proofs.Kept.{SetsKept, CallSays, step_kept, handed_complete, reads_say}

-- what every record has that comes from an opened one; `Came` is what is known of every section that entered
pub record Stands (Came : List ℕ → Type 0) (r : Record) : Type 0 where
  pub words : 398 ≤ length r.words
  pub whole : WholeStore (pat_store r)
  pub reached : ties.Reached (pat_store r)
  pub lived : Lived 1 (shown r).sets
  pub kept : SetsKept Came (shown r).sets

-- ---- N of a complete PAT

-- the words have the PIDs that the sections list
has_all : (sections : List (List ℕ)) (n : List ℕ) (q : ℕ) → length n ≡ 128 → ((j : ℕ) → j < length sections → Bytes (get_or sections j []) × (readable (get_or sections j []) ≡ true))
    → has_bit (with_all sections n) q ≡ programs_of_set sections q || has_bit n q
unfolding with_all programs_of_set
has_all [] n q l f = refl
has_all (s ∷ ss) n q l f =
    let b = f 0 (omega arith) in
    has_all ss (with_programs s n) q (length_programs s n ∙ l) (λ j h. f (suc j) (omega arith))
    ∙ ap (λ (t : Bool). programs_of_set ss q || t) (has_programs s n q l b.0)
    ∙ rw b.1 (turn (programs_of_set ss q) (set_n s q) (has_bit n q))
  where
    turn : (a b c : Bool) → (a || (b || c)) ≡ ((b || a) || c)
    turn true true c = refl
    turn true false c = refl
    turn false true c = refl
    turn false false c = refl

pub has_n : (Came : List ℕ → Type 0) (w : Whole) → CompletePat Came w → (q : ℕ) → has_bit (programs_of w.sections) q ≡ programs_of_set w.sections q
unfolding enters
has_n Came w c q =
    has_all w.sections no_pids q refl (λ j h. let a = c.all in let p = c.each j (omega arith) in (p.bytes, (and_true (readable (get_or w.sections j [])) _ (and_true _ _ p.pat).0).0))
    ∙ rw (has_none 128 q) (or-false (programs_of_set w.sections q))

-- ---- the clock rises with what is told

pub clock_one : (a : Answer) (c : ℕ) → clock_after a c ≤ c + 1
clock_one cleared c = omega arith
clock_one nothing c = omega arith
clock_one (handout w) c = omega arith
clock_one (refused r) c = go (eqb (refusal_no r) 22)
  where
    go : (b : Bool) → cond b (c + 1) c ≤ c + 1
    go true = omega arith
    go false = omega arith

settled_ticks : (s : Store) (i : ℕ) → (settled s i).store.sets.clock ≡ clock_after (answer_told (settled s i).told) s.sets.clock
unfolding settled settled_answer answer_told
settled_ticks s i = go (goes_out (touched (s.sets.clock + 1) i s.heads) s.slots i)
  where
    go : (b : Bool) → s.sets.clock + 1 ≡ clock_after (answer_told (answer_of (cond b (Set i) Nothing)
        (store (risen_sets s.sets) (settled_heads (s.sets.clock + 1) s.heads s.slots i) s.slots s.cells))) s.sets.clock
    go true = refl
    go false = refl

abbrev Ticks : Store → List ℕ → Plan → Type 0
Ticks s bytes p = (carried s bytes p).store.sets.clock ≡ clock_after (answer_told (carried s bytes p).told) s.sets.clock

planned_ticks : (s : Store) (e : Entry) (bytes : List ℕ) → s.sets.limit ≢ 0 → Ticks s bytes (plan_of s e bytes)
unfolding answer_told plan_of plan_keep kept_in
planned_ticks s e bytes l = rw (ne_eqb s.sets.limit 0 l) (go (ltb s.sets.size (length bytes)))
  where
    kept : (r : Room) (c : ℕ) (b : Bool) → Ticks s bytes (cond b (plan.Keep (record { entry = e; room = r; cell = c })) (plan.Refuse NoCell))
    kept r c true = settled_ticks (kept_in s bytes (record { entry = e; room = r; cell = c })) r.row
    kept r c false = refl

    placed : (p : Place) → Ticks s bytes (plan_placed s e p)
    placed (place.Conflict i) = refl
    placed (place.Repeat i) = settled_ticks s i
    placed (place.Goes r) =
        let c : ℕ = lowest_free (taken_in s.heads s.slots (gone_row r s.sets.used) s.sets.used) s.sets.count in
        kept r c (ltb c s.sets.count)

    go : (a : Bool) → Ticks s bytes (cond a (plan.Refuse TooLong) (plan_placed s e (place_of s e bytes)))
    go true = refl
    go false = placed (place_of s e bytes)

-- ---- 10, 11 and 21 do not come

settled_free : (s : Store) (i : ℕ) → barred (answer_told (settled s i).told) ≡ false
unfolding settled settled_answer answer_told barred
settled_free s i = go (goes_out (touched (s.sets.clock + 1) i s.heads) s.slots i)
  where
    go : (b : Bool) → barred (answer_told (answer_of (cond b (Set i) Nothing) (store (risen_sets s.sets) (settled_heads (s.sets.clock + 1) s.heads s.slots i) s.slots s.cells))) ≡ false
    go true = refl
    go false = refl

planned_free : (s : Store) (e : Entry) (bytes : List ℕ) → plan_of s e bytes ≢ plan.Refuse NoCell → barred (answer_told (carried s bytes (plan_of s e bytes)).told) ≡ false
unfolding answer_told barred refusals.barred plan_keep
planned_free s e bytes =
    plan_by s e bytes (λ p. p ≢ plan.Refuse NoCell → barred (answer_told (carried s bytes p).told) ≡ false) (λ h. refl) (λ h. refl) (λ i h. settled_free s i) (λ i h. refl)
    (λ r. keeps r (lowest_free (taken_in s.heads s.slots (gone_row r s.sets.used) s.sets.used) s.sets.count))
  where
    at : (r : Room) (c : ℕ) (b : Bool) → cond b (plan.Keep (record { entry = e; room = r; cell = c })) (plan.Refuse NoCell) ≢ plan.Refuse NoCell
        → barred (answer_told (carried s bytes (cond b (plan.Keep (record { entry = e; room = r; cell = c })) (plan.Refuse NoCell))).told) ≡ false
    at r c true h = settled_free (kept_in s bytes (record { entry = e; room = r; cell = c })) r.row
    at r c false h = absurd (h refl)

    keeps : (r : Room) (c : ℕ) → cond (ltb c s.sets.count) (plan.Keep (record { entry = e; room = r; cell = c })) (plan.Refuse NoCell) ≢ plan.Refuse NoCell
        → barred (answer_told (carried s bytes (cond (ltb c s.sets.count) (plan.Keep (record { entry = e; room = r; cell = c })) (plan.Refuse NoCell))).told) ≡ false
    keeps r c = at r c (ltb c s.sets.count)

-- ---- what an entering did

-- the PAT store is the one that the push left, and the words are those of before with what it told followed
record Did (r then : Record) (t : SetsAfter) : Type 0 where
  left : pat_store then ≡ t.store
  words : List ℕ
  long : 384 ≤ length words
  same : take 384 words ≡ take 384 r.words
  followed : then.words ≡ watch_after t.told words

module _ (r : Record) (o : PatsReady r) (np : without_pid (pat_store r).heads (pat_store r).sets.used ≡ false) (input : ℕ) (section : List ℕ) (b : Bytes section) where
  abbrev then : Record
  then = entered_in r input section

  abbrev turn : SetsAfter
  turn = pushed_of (pat_store r) input (Some 0) section

  free : barred (answer_told turn.told) ≡ false
  unfolding pushed_of admitted answer_told barred refusals.barred whole_pushed
  free = rw (means_whole (pat_store r) o.ready.whole, ne_eqb (pat_store r).sets.evictions 18446744073709551615 o.ready.counts, ne_eqb (pat_store r).sets.clock 18446744073709551615 o.ready.runs, np) (go (set_arrival input (Some 0) section) refl)
    where
      go : (a : Result Entry Refusal) → set_arrival input (Some 0) section ≡ a → barred (answer_told (pushed_as (pat_store r) section a).told) ≡ false
      go (Err x) q = set_refused_by section (λ x. refusals.barred x ≡ false) refl refl refl refl refl refl refl input (Some 0) x q
      go (Ok e) q =
          let t : SetTaken section (Ok e) = subst (SetTaken section) q (set_taken section (b 7) input (Some 0)) in
          planned_free (pat_store r) e section (never_21 (pat_store r) o.ready.whole refl e t.numbered section refl)

  rises : turn.store.sets.clock ≡ clock_after (answer_told turn.told) (pat_store r).sets.clock
  unfolding pushed_of admitted answer_told whole_pushed
  rises =
      rw (means_whole (pat_store r) o.ready.whole, ne_eqb (pat_store r).sets.evictions 18446744073709551615 o.ready.counts, ne_eqb (pat_store r).sets.clock 18446744073709551615 o.ready.runs, np)
      (go (set_arrival input (Some 0) section) refl)
    where
      go : (a : Result Entry Refusal) → set_arrival input (Some 0) section ≡ a
          → (pushed_as (pat_store r) section a).store.sets.clock ≡ clock_after (answer_told (pushed_as (pat_store r) section a).told) (pat_store r).sets.clock
      go (Err x) q = rw (set_refused_by section (λ x. eqb (refusal_no x) 22 ≡ false) refl refl refl refl refl refl refl input (Some 0) x q) refl
      go (Ok e) q = planned_ticks (pat_store r) e section (omega arith)

  -- 10, 11 and 41 have been asked
  read_as_lem : (a : Result Entry Refusal) → set_arrival input (Some 0) section ≡ a → turn ≡ pushed_as (pat_store r) section a
  unfolding pushed_of admitted
  read_as_lem a q = rw (means_whole (pat_store r) o.ready.whole, ne_eqb (pat_store r).sets.evictions 18446744073709551615 o.ready.counts, ne_eqb (pat_store r).sets.clock 18446744073709551615 o.ready.runs, np, q)

  did : enters section ≡ true → Did r then turn
  unfolding entered_in
  did h = rw h (go (set_arrival input (Some 0) section) refl)
    where
      go : (a : Result Entry Refusal) → set_arrival input (Some 0) section ≡ a → Did r (entered_as r section a) turn
      go (Err x) q = let l = o.words in rw (read_as_lem (Err x) q) (record { left = refl; words = r.words; long = omega arith; same = refl; followed = refl })
      go (Ok e) q =
          let l = o.words in
          let a : Arrives section e = record { input = input; read = q; taken = subst (SetTaken section) q (set_taken section (b 7) input (Some 0)) } in
          rw (pushed_as_lem (pat_store r) o.ready np input (Some 0) section e q) (record {
            left = then_store r o section e a;
            words = with_store r.words (whole_pushed (pat_store r) e section).store;
            long = rw (long_with r o section e a) (omega arith);
            same = with_sets_lem r o section e a;
            followed = refl;
          })

-- ---- one entering

-- what was told is followed, or the sets stay
n_after_lem : (words w : List ℕ) (t : Told) → 384 ≤ length w → take 384 w ≡ take 384 words → ((h : settle.Handed) → t ≡ settle.handed h → (q : ℕ) → has_bit (programs_of h.sections) q ≡ programs_of_set h.sections q)
    → (q : ℕ) → has_bit (followed_of (watch_after t w)) q ≡ n_after (answer_told t) (has_bit (followed_of words)) q
unfolding answer_told
n_after_lem words w settle.done l e f q = ap (λ (k : List ℕ). has_bit k q) (same_followed w words e)
n_after_lem words w settle.nothing l e f q = ap (λ (k : List ℕ). has_bit k q) (same_followed w words e)
n_after_lem words w (settle.handed h) l e f q = ap (λ (k : List ℕ). has_bit k q) (following_followed w (programs_of h.sections) l (length_programs_of h.sections)) ∙ f h refl q
n_after_lem words w (settle.refused x) l e f q = ap (λ (k : List ℕ). has_bit k q) (same_followed w words e)

-- where no set goes out the three sets stay
sets_stay : (words w : List ℕ) (t : Told) → take 384 w ≡ take 384 words → ((u : Whole) → answer_told t ≢ handout u) → take 384 (watch_after t w) ≡ take 384 words
unfolding answer_told
sets_stay words w settle.done e f = e
sets_stay words w settle.nothing e f = e
sets_stay words w (settle.handed h) e f = absurd (f _ refl)
sets_stay words w (settle.refused x) e f = e

-- where one does, its PIDs are followed
pub same_watch : (a b : List ℕ) → take 384 a ≡ take 384 b → watch_in a ≡ watch_in b
same_watch a b e =
    let p = same_watched a b e in
    let q = same_protected a b e in
    let s = same_followed a b e in
    λ i. record { watched = has_bit (p i); protected = has_bit (q i); followed = has_bit (s i) }

watch_after_lem : (words w : List ℕ) (t : Told) → 384 ≤ length w → take 384 w ≡ take 384 words → (u : Whole) → answer_told t ≡ handout u
    → watch_in (watch_after t w) ≡ followed_by (has_bit (programs_of u.sections)) (watch_in words)
unfolding answer_told
watch_after_lem words w settle.done l e u f = let z : ◌≡◌ {A = ℕ} 0 1 = cc in absurd (omega arith)
watch_after_lem words w settle.nothing l e u f = let z : ◌≡◌ {A = ℕ} 0 1 = cc in absurd (omega arith)
watch_after_lem words w (settle.handed h) l e u f =
    let z : h.sections ≡ u.sections = cc in
    following_shown w (programs_of h.sections) l (length_programs_of h.sections)
    ∙ ap (λ (k : Watch). followed_by (has_bit (programs_of h.sections)) k) (same_watch w words e)
    ∙ ap (λ (k : List (List ℕ)). followed_by (has_bit (programs_of k)) (watch_in words)) z
watch_after_lem words w (settle.refused x) l e u f = let z : ◌≡◌ {A = ℕ} 0 1 = cc in absurd (omega arith)

-- watched = protected ∪ N stays
pub same_step : (a b : List ℕ) → take 384 a ≡ take 384 b → InStep b → InStep a
same_step a b e h q l = rw (same_watched a b e, same_protected a b e, same_followed a b e) (h q l)

step_after : (words w : List ℕ) (t : Told) → 384 ≤ length w → take 384 w ≡ take 384 words → InStep words → InStep (watch_after t w)
step_after words w settle.done l e h = same_step w words e h
step_after words w settle.nothing l e h = same_step w words e h
step_after words w (settle.handed x) l e h = following_in_step w (programs_of x.sections) l (length_programs_of x.sections) (same_step w words e h)
step_after words w (settle.refused x) l e h = same_step w words e h

module _ (Came : List ℕ → Type 0) (r : Record) (st : Stands Came r) (more : pats_full r.words ≡ false) (input : ℕ) (section : List ℕ) (b : Bytes section) where
  o : PatsReady r
  o = ready r (is_whole r st.words st.whole) more

  np : without_pid (pat_store r).heads (pat_store r).sets.used ≡ false
  np = st.reached.pids

  abbrev call : sets.Call
  call = sets.offer input (Some 0) section

  abbrev before : Pats
  before = shown r

  -- the PAT store tells what the rules tell, and shows what they leave
  by_rules_lem : (answer_told (turn r o np input section b).told ≡ rules_tell pat_settings before.sets (read_pat input section))
      × (view (seen (turn r o np input section b).store) ≡ rules_act pat_settings before.sets (read_pat input section))
  unfolding ties.tells ties.acts reads
  by_rules_lem = go (obeys (pat_store r) st.reached call b)
    where
      go : (barred (ties.tells (pat_store r) call) ≡ true) ⊎ ((ties.tells (pat_store r) call ≡ rules_tell (settings_of (pat_store r)) (view (seen (pat_store r))) (reads call))
          × (view (seen (ties.acts (pat_store r) call)) ≡ rules_act (settings_of (pat_store r)) (view (seen (pat_store r))) (reads call)))
          → (answer_told (turn r o np input section b).told ≡ rules_tell pat_settings before.sets (read_pat input section))
          × (view (seen (turn r o np input section b).store) ≡ rules_act pat_settings before.sets (read_pat input section))
      go (inl e) = absurd (true≢false (sym e ∙ free r o np input section b))
      go (inr e) = e

  pub tells_rules : tells_of r (record { input = input; section = section }) ≡ rules_tell pat_settings before.sets (read_pat input section)
  unfolding ties.tells
  tells_rules = by_rules_lem.0

  -- the PAT store's clock by the rules
  pub clock_then : enters section ≡ true → pat_clock (entered_in r input section).words ≡ clock_after (rules_tell pat_settings before.sets (read_pat input section)) (pat_clock r.words)
  clock_then h =
      ap (λ (s : Store). s.sets.clock) (did r o np input section b h).left ∙ rises r o np input section b
      ∙ ap (λ (a : Answer). clock_after a (pat_clock r.words)) by_rules_lem.0

  module _ (h : enters section ≡ true) (c : Came section) where
    d : Did r (entered_in r input section) (turn r o np input section b)
    d = did r o np input section b h

    says : CallSays Came (read_pat input section)
    says = reads_say Came input section b h c

    sets_then : (shown (entered_in r input section)).sets ≡ rules_act pat_settings before.sets (read_pat input section)
    sets_then = ap (λ (s : Store). view (seen s)) d.left ∙ by_rules_lem.1

    n_then : (q : ℕ) → (shown (entered_in r input section)).n q ≡ n_after (rules_tell pat_settings before.sets (read_pat input section)) before.n q
    unfolding answer_told
    n_then q =
        ap (λ (k : List ℕ). has_bit (followed_of k) q) d.followed
        ∙ n_after_lem r.words d.words (turn r o np input section b).told d.long d.same
        (λ x e. has_n Came _ (handed_complete Came pat_settings before.sets (read_pat input section) st.lived says st.kept _ (sym by_rules_lem.0 ∙ ap answer_told e)))
        q
        ∙ ap (λ (a : Answer). n_after a before.n q) by_rules_lem.0

    -- a set that goes out is followed
    pub watch_then : (w : Whole) → rules_tell pat_settings before.sets (read_pat input section) ≡ handout w
        → watch_in (entered_in r input section).words ≡ followed_by (programs_of_set w.sections) (watch_in r.words)
    watch_then w e =
        let p = has_n Came w (handed_complete Came pat_settings before.sets (read_pat input section) st.lived says st.kept w e) in
        ap watch_in d.followed ∙ watch_after_lem r.words d.words (turn r o np input section b).told d.long d.same w (by_rules_lem.0 ∙ e)
        ∙ (λ i. followed_by (λ q. p q i) (watch_in r.words))

    entered_stands : Stands Came (entered_in r input section)
    unfolding ties.acts
    entered_stands = record {
      words = rw (entered_lengths r o input section (b 7)).0 st.words;
      whole = whole_store (entered_in r input section) (entered_whole r o input section (b 7));
      reached = subst ties.Reached (sym d.left) (acts_reached (pat_store r) st.reached call b);
      lived = rw sets_then (step_lived pat_settings before.sets (read_pat input section) tt st.lived);
      kept = rw sets_then (step_kept Came pat_settings before.sets (read_pat input section) says st.kept);
    }

  -- "a section enters by the set rules": a section that does not enter leaves all as it was
  stays_out : enters section ≡ false → entered_in r input section ≡ r
  unfolding entered_in
  stays_out h = rw h

  pub stands_then : Came section → Stands Came (entered_in r input section)
  stands_then c = go (enters section) refl
    where
      go : (t : Bool) → enters section ≡ t → Stands Came (entered_in r input section)
      go true h = entered_stands h c
      go false h = rw (stays_out h) st

  -- one entering is what the rules say
  pub obeys_rules : Came section → shown (entered_in r input section) ≡ entered before input section
  unfolding entered
  obeys_rules c = go (enters section) refl
    where
      go : (t : Bool) → enters section ≡ t
          → shown (entered_in r input section) ≡ cond t (record { sets = rules_act pat_settings before.sets (read_pat input section); n = n_after (rules_tell pat_settings before.sets (read_pat input section)) before.n }) before
      go true h = let p = sets_then h c in let q = n_then h c in λ i. record { sets = p i; n = λ k. q k i }
      go false h = rw (stays_out h)

  -- the three sets stay where the rules hand out no set at that section
  pub only_whole : ((w : Whole) → rules_tell pat_settings before.sets (read_pat input section) ≢ handout w) → take 384 (entered_in r input section).words ≡ take 384 r.words
  only_whole f = go (enters section) refl
    where
      go : (t : Bool) → enters section ≡ t → take 384 (entered_in r input section).words ≡ take 384 r.words
      go true h =
          let x = did r o np input section b h in
          ap (take 384) x.followed ∙ sets_stay r.words x.words (turn r o np input section b).told x.same (λ w e. f w (sym by_rules_lem.0 ∙ e))
      go false h = ap (λ (k : Record). take 384 k.words) (stays_out h)

  pub in_step_then : InStep r.words → InStep (entered_in r input section).words
  in_step_then s = go (enters section) refl
    where
      go : (t : Bool) → enters section ≡ t → InStep (entered_in r input section).words
      go true h = let x = did r o np input section b h in subst InStep (sym x.followed) (step_after r.words x.words (turn r o np input section b).told x.long x.same s)
      go false h = rw (stays_out h) s
