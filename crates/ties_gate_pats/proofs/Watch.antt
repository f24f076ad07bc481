-- In every history of offers, in every manner of following, watched = protected ∪ N: of the lent words, and by the rules, where N is what they say; so the
-- question whether a PID is watched is answered yes exactly for the protected PIDs and for those of N.
-- Assumes nothing.
use Prim.Native.Nat.{ℕ, ◌<◌, ◌≤◌}
use mathlib.Core.Path.{◌≡◌, refl, sym, ap, subst, ◌∙◌}
use mathlib.Core.List.{List, [], ◌∷◌}
use mathlib.Core.Bool.{Bool, true, false, cond, ◌&&◌, ◌||◌, or-false}
use lib.ListN.{length}
use lib.Dec.{eqb}
use borrow.Author.Tests.{le-leb, lt-ltb}
use Rattle.laws.specs.Bits.{has_bit}
use Rattle.laws.specs.Runs.{store_after}
use Rattle.section.specs.Facts.{Bytes}
use Rattle.watched.specs.Rules.{Watch}
use Rattle.watched.specs.Store.{watched_of, asked}
use Rattle.watched.specs.View.{InStep}
use Rattle.gate_state.specs.State.{plain, by_tables, by_sections}
use Rattle.gate_state.specs.declared.Follow.{Follow}
use Rattle.gate_state.specs.declared.Follow.TheVariants.{Off, Sections, Tables}
use Rattle.gate_state.specs.declared.Settings.{Settings}
use Rattle.gate.specs.Rules.{Offer, Manner, told, acts, OfBytes}
use Rattle.gate.specs.View.{store_acts}
use Rattle.answers.specs.declared.Refusal.TheVariants.{CounterFull}
use Rattle.counters.specs.Counters.{any_full}
use Rattle.offers.specs.Offers.{read_of}
use Rattle.offers.specs.declared.Verdict.TheVariants.{Refused}
use Rattle.laws.proofs.Tests.{and_none}
use Rattle.pat.specs.Pat.{readable, set_n}
use Rattle.rules_sets.specs.Rules.{Answer, cleared, nothing, handout, refused}
use Rattle.rules_sets.specs.Rules.{tells as sets_tell}
use Rattle.ties_pats.specs.Rules.{programs_of_set, read_pat, pat_settings, n_after, enters_on}
use Rattle.pats.specs.Store.{Record, pats_full, entered_in}
use Rattle.ties_pats.specs.View.{entering}
use Rattle.ties_pats.proofs.Obey.{in_step_then}
use Rattle.ties_gate.specs.Watching.{is_protected, no_pid, is_changed, is_followed, answered}
use Rattle.ties_gate.specs.Watching.{n_after as below_n}
use Rattle.ties_gate.proofs.Opening.{manner_for}
use Rattle.ties_gate.proofs.Watch as below
use Rattle.ties_gate.proofs.Watching.{Watches, follow_watches, watches}
use Rattle.gate_pats.specs.Store.{opened_with, Kept, Offering, sections_in, sound_by}
use Rattle.gate_pats.specs.View.{kept_tells, kept_acts}
use Rattle.gate_pats.proofs.Manner.{old_manner}
use Rattle.ties_gate_pats.specs.Rules.{Holding, empty_holding, at_end, watch_with, entered_with, enters_from, behind, told_with, tells_with, acts_with}
use Rattle.ties_gate_pats.specs.History.{n_then, n_with}
use Rattle.ties_gate_pats.proofs.Order.{Any, OpenedWith, follows_with}
use Rattle.ties_gate_pats.proofs.Opening.{left_open, opening_opens, opening_in_step, view_from_open}
use Rattle.gate_pats_indexed.specs.Store as indexed
use Rattle.ties_gate_pats.specs.View.{kept_acts_by}
use Rattle.ties_gate_pats.proofs.Indexed as by_index
use Rattle.ties_gate_pats.proofs.Entered.{one_entering, always_opened}

-- ---- of the lent words

module _ (s : Kept) (o : Offer) (k : OpenedWith s) (b : Bytes o.section) (i : InStep s.watch.words) where
  -- where complete PATs are followed
  by_tables_lem : by_tables s.gate.follow ≡ true → InStep (kept_acts s o).watch.words
  unfolding entering
  by_tables_lem h = subst (λ (r : Record). InStep r.words) (sym (one_entering s o k b h)) (go (sound_by (kept_tells s o) && eqb o.pid 0) (pats_full s.watch.words) refl)
    where
      go : (c f : Bool) → pats_full s.watch.words ≡ f → InStep (cond c (cond f s.watch (entered_in s.watch o.input o.section)) s.watch).words
      go true true e = i
      go true false e = in_step_then Any s.watch (k.pats h) e o.input o.section b i
      go false f e = i

  -- where they are not
  not_by_tables : by_tables s.gate.follow ≡ false → InStep (kept_acts s o).watch.words
  unfolding kept_acts store_acts
  not_by_tables h =
      subst (λ (l : Offering). InStep l.left.watch.words) (sym (old_manner s o.input o.pid o.section h))
      (below.offer_kept (sections_in s) o (record { room = k.sections.watch; step = i })).step

  pub in_step_one : InStep (kept_acts s o).watch.words
  in_step_one = go (by_tables s.gate.follow) refl
    where
      go : (t : Bool) → by_tables s.gate.follow ≡ t → InStep (kept_acts s o).watch.words
      go true h = by_tables_lem h
      go false h = not_by_tables h

pub watch_always : (os : List Offer) (s : Kept) → OpenedWith s → OfBytes os → InStep s.watch.words → InStep (store_after kept_acts s os).watch.words
unfolding store_after kept_acts
watch_always [] s k b i = i
watch_always (o ∷ os) s k b i = watch_always os (kept_acts s o) (follows_with s o k b.0).opened b.1 (in_step_one s o k b.0 i)

-- ---- by the rules

-- what the set rules tell is followed, or N stays
told_watches : (p : ℕ → Bool) (w : Watch) (n : ℕ → Bool) → Watches w p n → (a : Answer) → Watches (watch_with a w) p (n_after a n)
told_watches p w n k cleared = k
told_watches p w n k nothing = k
told_watches p w n k (handout x) = follow_watches p w n (programs_of_set x.sections) k
told_watches p w n k (refused r) = k

module _ (m : Manner) (p : ℕ → Bool) (h : Holding) (n : ℕ → Bool) (o : Offer) (w : Watches h.held.watch p n) where
  -- the gate of sections
  lower : Watches (told m h.held o).held.watch p (cond (is_followed m h.held o) (set_n o.section) n)
  unfolding store_after below_n acts
  lower = watches m p h.held n (o ∷ []) w

  off : m.follow ≡ false → Watches (told m h.held o).held.watch p n
  unfolding is_followed
  off e = subst (λ (b : Bool). Watches (told m h.held o).held.watch p (cond b (set_n o.section) n)) none lower
    where
      changes : Bool
      changes = is_changed h.held (cond (any_full h.held.counters) (Refused CounterFull) (read_of m.rule o.input o.pid o.section))

      never : (x y : Bool) → (x && false && y) ≡ false
      never x y = ap (λ (b : Bool). b && y) (and_none x)

      none : is_followed m h.held o ≡ false
      none = ap (λ (b : Bool). changes && b && readable o.section) e ∙ never changes (readable o.section)

  one_with : (f : Follow) → m.follow ≡ by_sections f → Watches (acts_with f m h o).held.watch p (n_then f m h o n)
  unfolding acts_with tells_with told_with n_then
  one_with Off e = lower
  one_with Sections e = lower
  one_with Tables e = go (at_end h.pats)
    where
      inner : (c : Bool) → Watches (cond c (entered_with (record { held = (told m h.held o).held; pats = h.pats }) o) (record { held = (told m h.held o).held; pats = h.pats })).held.watch p
          (cond c (n_after (sets_tell pat_settings h.pats.sets (read_pat o.input o.section)) n) n)
      inner true = told_watches p (told m h.held o).held.watch n (off e) (sets_tell pat_settings h.pats.sets (read_pat o.input o.section))
      inner false = off e

      go : (b : Bool) → Watches (cond b (record { answer = plain 11; holding = h }) (behind Tables h o (told m h.held o))).holding.held.watch p
          (cond (enters_from Tables (cond b (record { answer = plain 11; holding = h }) (behind Tables h o (told m h.held o))).answer o) (n_after (sets_tell pat_settings h.pats.sets (read_pat o.input o.section)) n) n)
      go true = w
      go false = inner (sound_by (told m h.held o).answer && enters_on o.pid o.section)

-- every history of the rules
pub watches_with :
    (f : Follow) (m : Manner) (p : ℕ → Bool) → m.follow ≡ by_sections f → (os : List Offer) (h : Holding) (n : ℕ → Bool) → Watches h.held.watch p n →
    Watches (store_after (acts_with f m) h os).held.watch p (n_with f m h n os)
unfolding store_after n_with
watches_with f m p e [] h n w = w
watches_with f m p e (o ∷ os) h n w = watches_with f m p e os (acts_with f m h o) (n_then f m h o n) (one_with m p h n o w f e)

-- ---- from an opening that answers 7

module _
    (st : Settings) (extra keys changes slots cells words : List ℕ)
    (h : (opened_with st extra (length keys) (length changes) (length slots) (length cells) words).answer ≡ 7)
    (os : List Offer) (b : OfBytes os)
  where
    abbrev start : Kept
    start = left_open (opened_with st extra (length keys) (length changes) (length slots) (length cells) words) keys changes slots cells

    abbrev protects : ℕ → Bool
    protects = is_protected st.well_known extra

    abbrev n : ℕ → Bool
    n = n_with st.follow (manner_for st) (empty_holding protects) no_pid os

    -- watched = protected ∪ N in the words
    pub watch_from_open :
        InStep (store_after kept_acts (left_open (opened_with st extra (length keys) (length changes) (length slots) (length cells) words) keys changes slots cells) os).watch.words
    watch_from_open =
        watch_always os start (opening_opens st extra keys changes slots cells words h) b (opening_in_step st extra keys changes slots cells words h)

    rule : Watches (store_after (acts_with st.follow (manner_for st)) (empty_holding protects) os).held.watch protects n
    rule =
        watches_with st.follow (manner_for st) protects refl os (empty_holding protects) no_pid
        (record { watched = λ q. sym (or-false (protects q)); protected = λ q. refl; followed = λ q. refl })

    -- THE THEOREM: the question whether a PID is watched
    pub ask_in_every_history :
        (pid : ℕ) → pid < 8192 →
        asked (store_after kept_acts (left_open (opened_with st extra (length keys) (length changes) (length slots) (length cells) words) keys changes slots cells) os).watch.words pid
        ≡ answered (is_protected st.well_known extra) (n_with st.follow (manner_for st) (empty_holding (is_protected st.well_known extra)) no_pid os) pid
    unfolding asked
    ask_in_every_history pid k =
        let l : 384 ≤ length (store_after kept_acts start os).watch.words = (always_opened os start (opening_opens st extra keys changes slots cells words h) b).0.sections.watch in
        let e : has_bit (watched_of (store_after kept_acts start os).watch.words) pid ≡ protects pid || n pid =
        ap (λ (x : Holding). x.held.watch.watched pid) (view_from_open st extra keys changes slots cells words h os b) ∙ rule.watched pid in
        rw (le-leb 384 (length (store_after kept_acts start os).watch.words) l, lt-ltb pid 8192 k, e)

-- and where the gate's rows have an index
pub indexed_ask_in_every_history :
    (st : Settings) (extra keys changes buckets links slots cells words : List ℕ) →
    (indexed.opened_with st extra (length keys) (length changes) (length links) (length slots) (length cells) buckets words).answer ≡ 7 →
    (os : List Offer) → OfBytes os → (pid : ℕ) → pid < 8192 →
    asked (store_after kept_acts_by (by_index.left_open (indexed.opened_with st extra (length keys) (length changes) (length links) (length slots) (length cells) buckets words) keys changes links slots cells) os).kept.watch.words pid
    ≡ answered (is_protected st.well_known extra) (n_with st.follow (manner_for st) (empty_holding (is_protected st.well_known extra)) no_pid os) pid
indexed_ask_in_every_history st extra keys changes buckets links slots cells words h os b pid k =
    let same = by_index.opening_same st extra keys changes buckets links slots cells words h in
    ap (λ (x : Kept). asked x.watch.words pid) (by_index.same_kept _ os (by_index.opening_opens st extra keys changes buckets links slots cells words h) b ∙ ap (λ (x : Kept). store_after kept_acts x os) same.1)
    ∙ ask_in_every_history st extra keys changes slots cells words same.0 os b pid k
