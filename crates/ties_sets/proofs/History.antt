-- Every history of opening, pushes and clears: what the store of the set collector answers and shows is what the rules answer and leave; 10 never occurs;
-- refusals leave the memory as before; 21 exactly where the rules would keep a section and every cell is named.
-- Assumes nothing.
use borrow.Author.Tests.{le-leb}
use mathlib.Core.Path.{◌≡◌, refl, sym, ap, subst, ◌∙◌}
use mathlib.Core.Logic.{◌≢◌, ◌⊎◌, inl, inr}
use mathlib.Core.Bool.{Bool, true, false, cond, true≢false}
use mathlib.Core.Option.{Option, none, some}
use mathlib.Core.List.{List, [], ◌∷◌, map}
use Prim.Native.Nat.{ℕ, suc}
use native.Mathlib.Omega.{arith}
use lib.Dec.{ltb}
use lib.ListN.{length}
use Rattle.rules_shared.specs.Same.{Bytes, Origin}
use Rattle.rules_shared.specs.Touch.{untouched}
use Rattle.rules_shared.specs.Cells.{room_whole}
use Rattle.laws.specs.Runs.{answers, store_after, At, Never, Obeys, bars, does}
use Rattle.laws.proofs.Runs.{each_read}
use Rattle.rules_sets.specs.Rules.{same_key, Section, offer, refuse, CanCome, not_whole, no_cell, barred, as_before}
use Rattle.rules_sets.specs.Rules.{tells as rules_tell, acts as rules_act}
use Rattle.rules_sets.specs.Cells.{Store as Shown, view, call_tells, call_acts}
use Rattle.rules_sets.proofs.Cells.{obeys_rules}
use Rattle.rules_sets.proofs.Whole.{never_10}
use Rattle.rules_sets.proofs.Exact.{NeedsCell, only_then_21, then_21}
use Rattle.section.specs.Judged.{collected_of}
use Rattle.std.specs.Prelude.{Some, None, Result, Ok, Err}
use Rattle.section.specs.declared.header.Header.{Header}
use Rattle.answers.specs.declared.Refusal.TheVariants as refusal
use Rattle.ticks.proofs.Touch.{stands_none, seen_none}
use Rattle.ticks.proofs.Cells.{cells_length}
use Rattle.rules_sets.proofs.Keys.{same_key_true_lem}
use Rattle.answers.specs.declared.Refusal.{Refusal}
use Rattle.answers.specs.declared.Refusal.TheVariants.{NotWhole, TooLittle, BadPid, Conflict, BadInput, NoPid}
use Rattle.rules_shared.specs.Refusals as refusals
use Rattle.section.proofs.Facts.{takes}
use Rattle.sets.proofs.Pids.{HasPids, has_pids, none_without, push_pids, clear_pids}
use Rattle.without_pid.specs.Pids.{without_pid}
use Rattle.store.specs.Store.{Store, store, asked, empty_sets, settings_fit, whole_of}
use Rattle.store.proofs.Whole.{long}
use Rattle.sets_settle.specs.Settle.{Told, done, nothing, handed, refused, after}
use Rattle.sets.specs.Store.{opened_of, cleared_of, pushed_of}
use Rattle.sets.proofs.Refusals.{refusal_keeps}
use Rattle.sets.specs.History.{Call as Given, empty as clears, offer as section, Bytes as OfBytes}
use Rattle.ties_sets.specs.View.{key_shown, key_words, row_seen, seen, settings_of, reads_as, read_on, read_section, reads, answer_told, tells, acts, Opened, Reached}
use Rattle.ties_sets.proofs.Rows.{same_self}
use Rattle.ties_sets.proofs.Calls.{tied}

-- ---- opening

pub opened_reached : (s : Store) → Opened s → Reached s
unfolding opened_of
opened_reached s o = record {
  fits = go (settings_fit s.sets (length s.heads) (length s.slots) (length s.cells)) o.opened.opened;
  counts = let e = o.evictions in omega arith;
  ticks = let e = o.clock in omega arith;
  stands = rw o.opened.none (stands_none key_shown key_words same_key same_key_true_lem same_self s.heads s.sets.clock);
  pids = none_without s (λ i h z. let e = o.opened.none in absurd (omega (arith, e, h)));
}
  where
    go : (b : Bool) → cond b done (refused TooLittle) ≡ done → b ≡ true
    go true e = refl
    go false e = let z : ◌≡◌ {A = ℕ} 0 1 = cc in absurd (omega arith)

-- what `open` leaves where it answers 7 is such a store, whatever the lent memory holds
pub opening_opens : (limit size count : ℕ) (heads slots cells : List ℕ) → (opened_of (store (asked limit size count) heads slots cells)).told ≡ done
    → Opened (store (asked limit size count) heads slots cells)
opening_opens limit size count heads slots cells e = record { opened = record { opened = e; none = refl }; evictions = refl; clock = refl }

-- "no rows, counts 0"
pub opened_seen : (s : Store) → Opened s → (seen s).sets ≡ untouched
unfolding seen untouched
opened_seen s o =
    rw (o.opened.none, o.evictions, seen_none key_shown key_words same_key same_key_true_lem same_self s.heads s.sets.clock (row_seen s.heads s.slots))

-- ---- a call as it can come

come_as : (from : Origin) (bytes : Bytes) (c : Result Header Refusal) → collected_of bytes ≡ c → CanCome (reads_as from bytes c)
unfolding reads_as refusals.of_section
come_as from bytes (Err refusal.ShortForm) e = refl
come_as from bytes (Err r) e = refl
come_as from bytes (Ok h) e = (takes bytes h (collected_of bytes) refl e).room

come_on : (from : Origin) (bytes : Bytes) → CanCome (read_on from bytes)
unfolding refusals.of_section
come_on from bytes = pick (ltb from.input 16)
  where
    pick : (b : Bool) → CanCome (cond b (reads_as from bytes (collected_of bytes)) (refuse BadInput))
    pick true = come_as from bytes (collected_of bytes) refl
    pick false = refl

pub can_come : (i : Given) → CanCome (reads i)
unfolding reads read_section refusals.of_section
can_come clears = tt
can_come (section input None bytes) = refl
can_come (section input (Some p) bytes) = pick (ltb p 8192)
  where
    pick : (b : Bool) → CanCome (cond b (read_on (record { input = input; pid = p }) bytes) (refuse BadPid))
    pick true = come_on (record { input = input; pid = p }) bytes
    pick false = refl

-- ---- one call

module _ (s : Store) (z : Reached s) (i : Given) (o : OfBytes i) where
  pub tells_seen : tells s i ≡ call_tells (seen s) (reads i)
  unfolding tells call_tells
  tells_seen = (tied s z i o).told

  pub acts_seen : seen (acts s i) ≡ call_acts (seen s) (reads i)
  unfolding acts call_acts
  acts_seen = (tied s z i o).shown

  pub acts_reached : Reached (acts s i)
  unfolding acts
  acts_reached = let t = (tied s z i o).reached in record { fits = t.fits; counts = t.counts; ticks = t.ticks; stands = t.stands; pids = none_without (acts s i) (pids_stay i o) }
    where
      pids_stay : (i : Given) → OfBytes i → HasPids (acts s i)
      pids_stay clears b = clear_pids s (has_pids s z.pids)
      pids_stay (section input pid bytes) b = push_pids s input pid bytes (b 7) (has_pids s z.pids)

  -- 10, 11 and 21 aside, every answer and every next view is the rules'
  pub obeys : (barred (tells s i) ≡ true) ⊎ ((tells s i ≡ rules_tell (settings_of s) (view (seen s)) (reads i)) × (view (seen (acts s i)) ≡ rules_act (settings_of s) (view (seen s)) (reads i)))
  unfolding seen
  obeys = go (obeys_rules (seen s) (reads i))
    where
      go : Obeys barred view (λ q. Unit {0}) call_tells call_acts (rules_tell (settings_of s)) (rules_act (settings_of s)) (seen s) (reads i)
          → (barred (tells s i) ≡ true) ⊎ ((tells s i ≡ rules_tell (settings_of s) (view (seen s)) (reads i)) × (view (seen (acts s i)) ≡ rules_act (settings_of s) (view (seen s)) (reads i)))
      go (bars e) = inl (ap barred tells_seen ∙ e)
      go (does e v u) = inr (tells_seen ∙ e, ap view acts_seen ∙ v)

  -- 21: only where the rules would keep the section and every cell is named after the eviction or the emptying; and there always
  pub no_cell_only : tells s i ≡ no_cell → (x : Section) × (reads i ≡ offer x) × NeedsCell (seen s) x
  no_cell_only h = only_then_21 (seen s) (reads i) (can_come i) (sym tells_seen ∙ h)

  pub no_cell_there : (x : Section) → reads i ≡ offer x → NeedsCell (seen s) x → tells s i ≡ no_cell
  no_cell_there x q h = tells_seen ∙ ap (call_tells (seen s)) q ∙ then_21 (seen s) x h

-- ---- refusals: the memory is as before, whatever it holds

kept_told : (s then : Store) (t : Told) → ((r : Refusal) → t ≡ refused r → r ≢ Conflict → then ≡ s) → as_before (answer_told t) ≡ true → then ≡ s
unfolding as_before answer_told refusals.as_before
kept_told s then done f h = absurd (true≢false (sym h))
kept_told s then nothing f h = absurd (true≢false (sym h))
kept_told s then (handed w) f h = absurd (true≢false (sym h))
kept_told s then (refused r) f h = f r refl (λ (e : r ≡ Conflict). true≢false (sym h ∙ ap refusals.as_before e))

pub as_before_lem : (s : Store) (i : Given) → as_before (tells s i) ≡ true → acts s i ≡ s
unfolding tells acts as_before answer_told cleared_of
as_before_lem s clears h = go (whole_of s) (without_pid s.heads s.sets.used) h
  where
    go : (b n : Bool) → as_before (answer_told (cond b (cond n (after (refused NoPid) s) (after done (store (empty_sets s.sets) s.heads s.slots s.cells))) (after (refused NotWhole) s)).told) ≡ true
        → (cond b (cond n (after (refused NoPid) s) (after done (store (empty_sets s.sets) s.heads s.slots s.cells))) (after (refused NotWhole) s)).store ≡ s
    go true true h = refl
    go true false h = absurd (true≢false (sym h))
    go false n h = refl
as_before_lem s (section input pid bytes) h = kept_told s (pushed_of s input pid bytes).store (pushed_of s input pid bytes).told (refusal_keeps s input pid bytes) h

-- ---- many calls

abbrev pub EachOfBytes : List Given → Type 0
EachOfBytes calls = (t : ℕ) (i : Given) → At calls t i → OfBytes i

pub same_answers : (calls : List Given) → EachOfBytes calls → (s : Store) → Reached s → answers tells acts s calls ≡ answers call_tells call_acts (seen s) (map reads calls)
unfolding answers
same_answers [] o s z = refl
same_answers (i ∷ is) o s z =
    let p = tells_seen s z i (o 0 i refl) in
    let q = same_answers is (λ t j e. o (suc t) j e) (acts s i) (acts_reached s z i (o 0 i refl)) ∙ ap (λ (t : Shown). answers call_tells call_acts t (map reads is)) (acts_seen s z i (o 0 i refl)) in
    λ k. p k ∷ q k

pub same_store : (calls : List Given) → EachOfBytes calls → (s : Store) → Reached s → (seen (store_after acts s calls) ≡ store_after call_acts (seen s) (map reads calls)) × Reached (store_after acts s calls)
unfolding store_after
same_store [] o s z = (refl, z)
same_store (i ∷ is) o s z =
    let q = same_store is (λ t j e. o (suc t) j e) (acts s i) (acts_reached s z i (o 0 i refl)) in
    (q.0 ∙ ap (λ (t : Shown). store_after call_acts t (map reads is)) (acts_seen s z i (o 0 i refl)), q.1)

-- opening leaves room that is whole
opened_room : (s : Store) → Opened s → room_whole (seen s).settings (seen s).cells ≡ true
unfolding room_whole seen
opened_room s o =
    let l = long s.sets (length s.heads) (length s.slots) (length s.cells) (opened_reached s o).fits in
    rw (cells_length s.cells s.sets.size s.sets.count, le-leb 12 s.sets.size l.size_low, le-leb s.sets.size 4096 l.size_high, le-leb s.sets.count 65535 l.few)

-- in no history 10 occurs
pub never_not_whole : (s : Store) → Opened s → (calls : List Given) → EachOfBytes calls → Never not_whole (answers tells acts s calls)
never_not_whole s o calls b =
    subst (Never not_whole) (sym (same_answers calls b s (opened_reached s o)))
    (never_10 (seen s) (opened_room s o) (opened_seen s o) (map reads calls) (each_read CanCome reads can_come calls))

-- ---- 41

-- in every history 41 comes from a call without a PID alone: no row of the store is without one
pub never_41_by_store : (s : Store) → Opened s → (calls : List Given) → EachOfBytes calls → without_pid (store_after acts s calls).heads (store_after acts s calls).sets.used ≡ false
never_41_by_store s o calls b = (same_store calls b s (opened_reached s o)).1.pids
