-- Demand 3 of what is read out of the lent memory: what a call hands out is what a host reads out after it.
-- Assumes nothing.
use Prim.Native.Nat.{ℕ, zero, suc}
use native.Mathlib.Omega.{arith}
use mathlib.Core.Path.{◌≡◌, refl, sym, ap, ◌∙◌, subst}
use mathlib.Core.Option.{some, some-injective}
use mathlib.Core.List.{List, [], ◌∷◌}
use mathlib.Core.Bool.{Bool, true, false, cond}
use Rattle.laws.proofs.Tests.{none≢some}
use Rattle.laws.specs.Runs.{answers, store_after, At}
use Rattle.answers.specs.declared.Refusal.TheVariants.{NotWhole, NoPid}
use Rattle.rules_sets.specs.Rules as rules
use Rattle.rules_sets.specs.Rules.{Whole, Answer, cleared, handout}
use Rattle.rows.specs.Rows.{key_at, version_of, last_of}
use Rattle.reading.specs.Reading.{Reads}
use Rattle.reading.proofs.Reading.{one_reading}
use Rattle.std.specs.Prelude.{Some, Ok}
use Rattle.without_pid.specs.Pids.{without_pid}
use Rattle.store.specs.Store.{Store, store, empty_sets, whole_of, WholeStore}
use Rattle.sets_settle.specs.Settle.{Handed, Told, done, nothing, handed, refused, set_in}
use Rattle.sets_settle.specs.Settle.{after as leaves}
use Rattle.sets.specs.Store.{cleared_of, next_of, pushed_of}
use Rattle.sets.specs.History.{called}
use Rattle.sets.proofs.Stays.{call_stays, opened_whole}
use Rattle.ties_sets.specs.View as ties
use Rattle.ties_sets.specs.View.{key_shown, answer_told}
use Rattle.ties_reading.proofs.Sets.{HandedOut, pushed_out, read_handed}
use Rattle.promises.specs.Demand3.{Collector, StartsEmpty, Given, clears, section, made, OfBytes, tells, acts, Calls, SectionsOfBytes, HandsOut}
use Rattle.promises.specs.Demand3Read.{after, ReadsOut, ReadOutSinceTheLastClear, Demand3Read}
use Rattle.promises.proofs.Demand3.{demand_3}

-- ---- one call

-- a clear hands out nothing
clear_none : (s : Store) (h : Handed) → (cleared_of s).told ≡ handed h → ⊥
unfolding cleared_of
clear_none s h e = go (whole_of s) (without_pid s.heads s.sets.used) e
  where
    go : (b n : Bool) → (cond b (cond n (leaves (refused NoPid) s) (leaves done (store (empty_sets s.sets) s.heads s.slots s.cells))) (leaves (refused NotWhole) s)).told ≡ handed h → ⊥
    go true true q = let z : ◌≡◌ {A = ℕ} 0 1 = cc in omega arith
    go true false q = let z : ◌≡◌ {A = ℕ} 0 1 = cc in omega arith
    go false n q = let z : ◌≡◌ {A = ℕ} 0 1 = cc in omega arith

-- what is told is in its row, and what is read there are its sections
call_out : (s : Store) → WholeStore s → (i : Given) → OfBytes i → (h : Handed) → (called s (made i)).told ≡ handed h
    → (h ≡ set_in (called s (made i)).store h.row) × Reads (next_of (called s (made i)).store h.row) (called s (made i)).store.cells 0 h.sections (Ok false)
call_out s w clears b h e = absurd (clear_none s h e)
call_out s w (section input pid bytes) b h e = ((pushed_out s input (Some pid) bytes h (b 7) e).set, read_handed s w input (Some pid) bytes (b 7) h e)

-- the set as the rules have it
abbrev shown : Handed → Whole
shown h = record { key = key_shown h.key; version = h.version; last = h.last; sections = h.sections }

abbrev whole_in : Answer → Whole → Whole
whole_in cleared d = d
whole_in rules.nothing d = d
whole_in (handout w) d = w
whole_in (rules.refused r) d = d

told_set : (x : Told) (set : Whole) → answer_told x ≡ handout set → (h : Handed) × (x ≡ handed h) × (shown h ≡ set)
unfolding answer_told
told_set done set e = let z : ◌≡◌ {A = ℕ} 0 1 = cc in absurd (omega arith)
told_set nothing set e = let z : ◌≡◌ {A = ℕ} 0 1 = cc in absurd (omega arith)
told_set (handed h) set e = (h, refl, ap (λ (a : Answer). whole_in a set) e)
told_set (refused r) set e = let z : ◌≡◌ {A = ℕ} 0 1 = cc in absurd (omega arith)

-- ---- what a call hands out is what is read after it, and the other way round

pub read_out : (calls : Calls) → SectionsOfBytes calls → (s : Collector) → WholeStore s → (t : ℕ) (set : Whole) → HandsOut s calls t set → ReadsOut s calls t set
unfolding answers store_after ties.tells ties.acts set_in
read_out [] b s w t set e = absurd (none≢some refl e)
read_out (i ∷ is) b s w zero set e =
    let q = told_set (called s (made i)).told set (some-injective (tells s i) (handout set) e) in
    let h : Handed = q.0 in
    let o = call_out s w i (b 0 i refl) h q.1 in
    record {
      row = h.row;
      told = (h, ap some q.1, refl);
      key = ap (λ (x : Handed). key_shown x.key) (sym o.0) ∙ ap (λ (x : Whole). x.key) q.2;
      version = ap (λ (x : Handed). x.version) (sym o.0) ∙ ap (λ (x : Whole). x.version) q.2;
      last = ap (λ (x : Handed). x.last) (sym o.0) ∙ ap (λ (x : Whole). x.last) q.2;
      sections = subst (λ (l : List (List ℕ)). Reads (next_of (called s (made i)).store h.row) (called s (made i)).store.cells 0 l (Ok false)) (ap (λ (x : Whole). x.sections) q.2) o.1;
    }
read_out (i ∷ is) b s w (suc t) set e =
    let r = read_out is (λ u j k. b (suc u) j k) (acts s i) (call_stays s (made i) (b 0 i refl) w) t set e in
    record { row = r.row; told = r.told; key = r.key; version = r.version; last = r.last; sections = r.sections }

pub handed_out : (calls : Calls) → SectionsOfBytes calls → (s : Collector) → WholeStore s → (t : ℕ) (set : Whole) → ReadsOut s calls t set → HandsOut s calls t set
unfolding answers store_after ties.tells ties.acts answer_told set_in
handed_out [] b s w t set r = absurd (none≢some refl r.told.1)
handed_out (i ∷ is) b s w zero set r =
    let h : Handed = r.told.0 in
    let p : (called s (made i)).told ≡ handed h = some-injective (called s (made i)).told (handed h) r.told.1 in
    let o = call_out s w i (b 0 i refl) h p in
    let row : r.row ≡ h.row = sym r.told.2 in
    let m : Store = (called s (made i)).store in
    let k : key_shown h.key ≡ set.key = ap (λ (x : Handed). key_shown x.key) o.0 ∙ ap (λ (n : ℕ). key_shown (key_at m.heads n)) (sym row) ∙ r.key in
    let v : h.version ≡ set.version = ap (λ (x : Handed). x.version) o.0 ∙ ap (version_of m.heads) (sym row) ∙ r.version in
    let l : h.last ≡ set.last = ap (λ (x : Handed). x.last) o.0 ∙ ap (last_of m.heads) (sym row) ∙ r.last in
    let c : h.sections ≡ set.sections = (one_reading o.1 (subst (λ (n : ℕ). Reads (next_of m n) m.cells 0 set.sections (Ok false)) row r.sections)).0 in
    ap some (ap answer_told p ∙ (λ j. handout (record { key = k j; version = v j; last = l j; sections = c j })))
handed_out (i ∷ is) b s w (suc t) set r =
    handed_out is (λ u j k. b (suc u) j k) (acts s i) (call_stays s (made i) (b 0 i refl) w) t set
    (record { row = r.row; told = r.told; key = r.key; version = r.version; last = r.last; sections = r.sections })

pub demand_3_read : Demand3Read
demand_3_read smaller larger os ol size limit calls b nc ns nl t set r =
    let g = demand_3 smaller larger os ol size limit calls b nc ns nl t set (handed_out calls b smaller (opened_whole smaller os.opened) t set r) in
    record { at = g.at; early = g.early; read = read_out calls b larger (opened_whole larger ol.opened) g.at set g.given; since = g.since }
