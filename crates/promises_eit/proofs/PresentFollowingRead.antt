-- The third demand for present and following of what is read out of the lent memory: what a call hands out is what a host reads out after it.
-- Assumes nothing.
use Prim.Native.Nat.{ℕ, zero, suc}
use native.Mathlib.Omega.{arith}
use mathlib.Core.Path.{◌≡◌, refl, sym, ap, ◌∙◌, subst}
use mathlib.Core.Option.{some, some-injective}
use mathlib.Core.List.{List, [], ◌∷◌}
use mathlib.Core.Bool.{Bool, true, false, cond}
use Rattle.laws.proofs.Tests.{none≢some}
use Rattle.laws.specs.Runs.{answers, store_after, At}
use Rattle.rules_eit.specs.Rules as rules
use Rattle.rules_eit.specs.Rules.{Whole, Answer, handout}
use Rattle.rows.specs.Rows.{key_at, version_of, last_of}
use Rattle.reading.specs.Reading.{Reads}
use Rattle.reading.proofs.Reading.{one_reading}
use Rattle.answers.specs.declared.Refusal.TheVariants.{NotWhole, NoPid}
use Rattle.std.specs.Prelude.{Some, Result, Ok, Err}
use Rattle.eit_state.specs.State.{Store, store, whole_of}
use Rattle.eit_pids.specs.Rows.{any_without}
use Rattle.eit_drop.specs.declared.Filter.{Filter}
use Rattle.filter.specs.declared.Fields.{Fields}
use Rattle.answers.specs.declared.Refusal.{Refusal}
use Rattle.eit.specs.Store.{SetOut, set_out_lem, Told, done, nothing, a_set, a_schedule, refused, after as leaves, cleared_of, carried_drop, dropped_of, next_of}
use Rattle.eit_state.specs.State.{empty_eit}
use Rattle.eit_admit.specs.Admitting.{drop_of}
use Rattle.ties_eit.specs.View as ties
use Rattle.ties_eit.specs.View.{called, key_shown, answer_told, Reached}
use Rattle.ties_eit.proofs.History.{opened_reached, opened_whole, stays_whole, acts_reached}
use Rattle.ties_reading.proofs.Eit.{told_set, read_handed}
use Rattle.promises_eit.specs.PresentFollowing.{Collector, Given, clears, drops, section, made, Fitting, tells, acts, Calls, CallsFit, HandsOut}
use Rattle.promises_eit.specs.PresentFollowingRead.{after, ReadsOut, ReadOutSinceTheLastClear, PresentFollowingRead}
use Rattle.promises_eit.proofs.PresentFollowing.{present_following_with_drops}

-- ---- one call

-- a clear hands out nothing
clear_none : (s : Store) (h : SetOut) → (cleared_of s).told ≡ a_set h → ⊥
unfolding cleared_of
clear_none s h e = go (whole_of s) (any_without s.eit s.heads s.schedule_heads) e
  where
    go : (b n : Bool)
        → (cond b (cond n (leaves (refused NoPid) s) (leaves done (store (empty_eit s.eit) s.heads s.slots s.cells s.schedule_heads s.units))) (leaves (refused NotWhole) s)).told ≡ a_set h → ⊥
    go true true q = let z : ◌≡◌ {A = ℕ} 0 1 = cc in omega arith
    go true false q = let z : ◌≡◌ {A = ℕ} 0 1 = cc in omega arith
    go false n q = let z : ◌≡◌ {A = ℕ} 0 1 = cc in omega arith

-- nor does a drop
drop_none : (s : Store) (f : Filter) (h : SetOut) → (dropped_of s f).told ≡ a_set h → ⊥
unfolding dropped_of
drop_none s f h e = go (drop_of s f) e
  where
    go : (d : Result Fields Refusal) → (carried_drop s d).told ≡ a_set h → ⊥
    go (Err r) q = let z : ◌≡◌ {A = ℕ} 0 1 = cc in omega arith
    go (Ok g) q = let z : ◌≡◌ {A = ℕ} 0 1 = cc in omega arith

-- what is told is in its row, and what is read there are its sections
call_out : (s : Store) → Reached s → whole_of s ≡ true → (i : Given) → Fitting i → (h : SetOut) → (called s (made i)).told ≡ a_set h
    → (h ≡ set_out_lem (called s (made i)).store h.row) × Reads (next_of (called s (made i)).store h.row) (called s (made i)).store.cells 0 h.sections (Ok false)
call_out s z w clears b h e = absurd (clear_none s h e)
call_out s z w (drops f) b h e = absurd (drop_none s f h e)
call_out s z w (section input pid bytes) b h e = ((told_set s w input (Some pid) bytes h e).set, read_handed s z w input (Some pid) bytes b h e)

-- the set as the rules have it
abbrev shown : SetOut → Whole
shown h = record { key = key_shown h.key; version = h.version; last = h.last; sections = h.sections }

abbrev whole_in : Answer → Whole → Whole
whole_in rules.done d = d
whole_in rules.nothing d = d
whole_in (handout w) d = w
whole_in (rules.schedule g) d = d
whole_in (rules.refused r) d = d

told_whole : (x : Told) (set : Whole) → answer_told x ≡ handout set → (h : SetOut) × (x ≡ a_set h) × (shown h ≡ set)
unfolding answer_told
told_whole done set e = let z : ◌≡◌ {A = ℕ} 0 1 = cc in absurd (omega arith)
told_whole nothing set e = let z : ◌≡◌ {A = ℕ} 0 1 = cc in absurd (omega arith)
told_whole (a_set h) set e = (h, refl, ap (λ (a : Answer). whole_in a set) e)
told_whole (a_schedule g) set e = let z : ◌≡◌ {A = ℕ} 0 1 = cc in absurd (omega arith)
told_whole (refused r) set e = let z : ◌≡◌ {A = ℕ} 0 1 = cc in absurd (omega arith)

-- ---- what a call hands out is what is read after it, and the other way round

pub read_out : (calls : Calls) → CallsFit calls → (s : Collector) → Reached s → whole_of s ≡ true → (t : ℕ) (set : Whole) → HandsOut s calls t set → ReadsOut s calls t set
unfolding answers store_after ties.tells ties.acts set_out_lem
read_out [] b s z w t set e = absurd (none≢some refl e)
read_out (i ∷ is) b s z w zero set e =
    let q = told_whole (called s (made i)).told set (some-injective (tells s i) (handout set) e) in
    let h : SetOut = q.0 in
    let o = call_out s z w i (b 0 i refl) h q.1 in
    record {
      row = h.row;
      told = (h, ap some q.1, refl);
      key = ap (λ (x : SetOut). key_shown x.key) (sym o.0) ∙ ap (λ (x : Whole). x.key) q.2;
      version = ap (λ (x : SetOut). x.version) (sym o.0) ∙ ap (λ (x : Whole). x.version) q.2;
      last = ap (λ (x : SetOut). x.last) (sym o.0) ∙ ap (λ (x : Whole). x.last) q.2;
      sections = subst (λ (l : List (List ℕ)). Reads (next_of (called s (made i)).store h.row) (called s (made i)).store.cells 0 l (Ok false)) (ap (λ (x : Whole). x.sections) q.2) o.1;
    }
read_out (i ∷ is) b s z w (suc t) set e =
    let r = read_out is (λ u j k. b (suc u) j k) (acts s i) (acts_reached s z (made i) (b 0 i refl)) (stays_whole s z w (made i) (b 0 i refl)) t set e in
    record { row = r.row; told = r.told; key = r.key; version = r.version; last = r.last; sections = r.sections }

pub handed_out : (calls : Calls) → CallsFit calls → (s : Collector) → Reached s → whole_of s ≡ true → (t : ℕ) (set : Whole) → ReadsOut s calls t set → HandsOut s calls t set
unfolding answers store_after ties.tells ties.acts answer_told set_out_lem
handed_out [] b s z w t set r = absurd (none≢some refl r.told.1)
handed_out (i ∷ is) b s z w zero set r =
    let h : SetOut = r.told.0 in
    let p : (called s (made i)).told ≡ a_set h = some-injective (called s (made i)).told (a_set h) r.told.1 in
    let o = call_out s z w i (b 0 i refl) h p in
    let row : r.row ≡ h.row = sym r.told.2 in
    let m : Store = (called s (made i)).store in
    let k : key_shown h.key ≡ set.key = ap (λ (x : SetOut). key_shown x.key) o.0 ∙ ap (λ (n : ℕ). key_shown (key_at m.heads n)) (sym row) ∙ r.key in
    let v : h.version ≡ set.version = ap (λ (x : SetOut). x.version) o.0 ∙ ap (version_of m.heads) (sym row) ∙ r.version in
    let l : h.last ≡ set.last = ap (λ (x : SetOut). x.last) o.0 ∙ ap (last_of m.heads) (sym row) ∙ r.last in
    let c : h.sections ≡ set.sections = (one_reading o.1 (subst (λ (n : ℕ). Reads (next_of m n) m.cells 0 set.sections (Ok false)) row r.sections)).0 in
    ap some (ap answer_told p ∙ (λ j. handout (record { key = k j; version = v j; last = l j; sections = c j })))
handed_out (i ∷ is) b s z w (suc t) set r =
    handed_out is (λ u j k. b (suc u) j k) (acts s i) (acts_reached s z (made i) (b 0 i refl)) (stays_whole s z w (made i) (b 0 i refl)) t set
    (record { row = r.row; told = r.told; key = r.key; version = r.version; last = r.last; sections = r.sections })

pub present_following_read : PresentFollowingRead
present_following_read smaller larger os ol size limit calls b nc ns nl sa na t set r =
    let g = present_following_with_drops smaller larger os ol size limit calls b nc ns nl sa na t set (handed_out calls b smaller (opened_reached smaller os) (opened_whole smaller os) t set r) in
    record { at = g.at; early = g.early; read = read_out calls b larger (opened_reached larger ol) (opened_whole larger ol) g.at set g.given; since = g.since }
