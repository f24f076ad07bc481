-- A section that only touches its row: one law for each way out of the search for it, and what a turn of the loop leaves.
-- Assumes nothing.
use mathlib.Core.Path.{◌≡◌, refl, sym, subst, ◌∙◌}
use mathlib.Core.Logic.{◌≢◌}
use mathlib.Core.List.{List}
use mathlib.Core.Bool.{Bool, true, false}
use Prim.Native.Nat.{ℕ, ◌+◌, ◌-◌, ◌≤◌, ◌<◌}
use native.Mathlib.Omega.{arith}
use borrow.Author.Tests.{le-ltb, ne_eqb}
use lib.ListN.{length, get_or, take, drop}
use Rattle.std.specs.Prelude.{Option, Some, Result, Ok}
use Rattle.answers.specs.declared.Refusal.{Refusal}
use Rattle.rows.specs.Rows.{row_of, row_slots, touched}
use Rattle.rows.specs.declared.Entry.{Entry}
use Rattle.rows.proofs.Words.{touched_not}
use Rattle.columns.specs.Columns.{Tells}
use Rattle.columns.proofs.Ways.{tells_touched}
use Rattle.without_pid.specs.Pids.{without_pid}
use Rattle.store.specs.Store.{Store, store, counters_full, risen_sets, Whole}
use Rattle.store.specs.declared.Sets.{Sets}
use Rattle.store.proofs.Whole.{means_whole, clock_goes_on}
use Rattle.arrivals.specs.Arrivals.{set_arrival, Numbered, SetTaken}
use Rattle.placing.specs.Places.{place_known, place_of, PlaceOk}
use Rattle.placing.specs.declared.Place.{Place}
use Rattle.placing.specs.declared.Place.TheVariants as place
use Rattle.placing.proofs.Laws.{place_known_lem, place_ok}
use Rattle.sets_plan.specs.Plan.{plan_of}
use Rattle.sets_settle.specs.Settle.{nothing, SetsAfter, after, goes_out, settled_answer, settled_heads, settled}
use Rattle.sets_push.specs.Pushing.{whole_pushed}
use Rattle.sets_push.proofs.Ways.{admit_section}
use Rattle.sets.specs.Store.{pushed_of}
use Rattle.sets.proofs.Admit.{pushed_arrived}
use Rattle.sets.proofs.Stays.{push_stays}
use Rattle.sets.proofs.Pids.{has_pids, none_without, push_pids}
use Rattle.rules_logs.specs.Records.{Bytes}
use Rattle.log_list.specs.List.{given_at, PlacedAt}
use Rattle.log_list.specs.declared.Place.{Place as Listed}
use Rattle.sets_repeats.specs.Repeats.{Searchable, touched_in, Known, Repeat, RepeatGiven, Passed, next}

-- ---- a section that arrived

-- a touch changes neither the mark nor the slots of a row
goes_same : (clock i : ℕ) (heads slots : List ℕ) → goes_out (touched clock i heads) slots i ≡ goes_out heads slots i
unfolding goes_out row_slots
goes_same clock i heads slots = rw (touched_not clock i heads i 8 (omega arith) (omega arith), touched_not clock i heads i 7 (omega arith) (omega arith))

-- a row that does not go out is touched
settled_quiet : (s : Store) (i : ℕ) → goes_out s.heads s.slots i ≡ false → settled s i ≡ after nothing (touched_in s i)
unfolding settled settled_answer settled_heads
settled_quiet s i q = rw (goes_same (s.sets.clock + 1) i s.heads s.slots, q)

module _ (s : Store) (e : Entry) (bytes : List ℕ) (w : Whole s.sets s.heads s.slots s.cells) (long : length bytes ≤ s.sets.size) (i : ℕ) (p : Place)
    (f : i ≡ row_of s.heads e.key s.sets.used) (h : i < s.sets.used) (q : p ≡ place_known s e bytes i) (j : ℕ) (z : p ≡ place.Repeat j) where
  placed : place.Repeat j ≡ place_of s e bytes
  placed = sym z ∙ place_known_lem s e bytes i p f h q

  pub repeat_row : j < s.sets.used
  repeat_row = let u = w.used in subst (PlaceOk s) (sym placed) (place_ok s w e bytes (omega arith))

  planned : whole_pushed s e bytes ≡ settled s j
  unfolding whole_pushed plan_of
  planned = let u = w.used in let n : s.sets.limit ≢ 0 = omega arith in rw (le-ltb s.sets.size (length bytes) long, ne_eqb s.sets.limit 0 n, ← placed)

  pub known_repeat : (out : Bool) → out ≡ goes_out s.heads s.slots j → out ≡ false → Known s e bytes j
  known_repeat out g n = record { row = repeat_row; touches = planned ∙ settled_quiet s j (sym g ∙ n) }

-- ---- a section as it is offered

pub repeat_arrived : (s : Sets) (heads slots cells tags : List ℕ) → Searchable s heads slots cells tags → (input : ℕ) (pid : Option ℕ) (bytes : List ℕ) (full : Bool) (a : Result Entry Refusal) (x : Entry) (r : ℕ)
    → get_or bytes 7 0 < 256 → full ≡ counters_full s → full ≡ false → a ≡ set_arrival input pid bytes → a ≡ Ok x → Known (store s heads slots cells) x bytes r → Repeat (store s heads slots cells) input pid bytes r
repeat_arrived s heads slots cells tags o input pid bytes full a x r b g ne e q k = record {
  row = k.row;
  runs = clock_goes_on s full g ne;
  byte = b;
  pushed = pushed_arrived here input pid bytes a
      (admit_section here input pid bytes true (sym (means_whole here o.whole)) full g refl false a ne (sym o.pids) refl e) x (after nothing (touched_in here r)) q (sym k.touches);
}
  where
    here : Store
    here = store s heads slots cells

pub arrived_numbered : (bytes : List ℕ) (a : Result Entry Refusal) (x : Entry) → SetTaken bytes a → a ≡ Ok x → Numbered x
arrived_numbered bytes a x t q = (subst (SetTaken bytes) q t).numbered

-- the part of the list that a place tells of
pub repeat_at : (s : Store) (list : Bytes) (r : Listed) (i : ℕ) → Repeat s r.input (Some r.pid) (take (r.start + r.length - r.start) (drop r.start list)) i → RepeatGiven s (given_at list r) i
repeat_at s list r i e = let z : r.start + r.length - r.start ≡ r.length = omega arith in rw z at e

-- ---- one after another

-- a row in use is touched: the store stays whole, with its PIDs, and the column has the tags still
pub repeat_stays : (s : Sets) (heads slots cells tags : List ℕ) (input : ℕ) (pid : Option ℕ) (bytes : List ℕ) (i : ℕ) → Searchable s heads slots cells tags → Repeat (store s heads slots cells) input pid bytes i
    → Searchable (risen_sets s) (touched (s.clock + 1) i heads) slots cells tags
repeat_stays s heads slots cells tags input pid bytes i o q = record {
  whole = subst (λ (k : SetsAfter). Whole k.store.sets k.store.heads k.store.slots k.store.cells) (sym q.pushed) (push_stays here input pid bytes q.byte o.whole);
  pids = subst (λ (k : SetsAfter). without_pid k.store.heads k.store.sets.used ≡ false) (sym q.pushed)
      (none_without (pushed_of here input pid bytes).store (push_pids here input pid bytes q.byte (has_pids here o.pids)));
  long = o.long;
  tells = tells_touched tags heads s.used (s.clock + 1) i o.tells;
}
  where
    here : Store
    here = store s heads slots cells

pub repeat_turn : (list : Bytes) (s₀ : Store) (s : Sets) (heads slots cells tags : List ℕ) (p : ℕ) (r : Listed) (i : ℕ) (s' : Sets) (heads' : List ℕ) → Searchable s heads slots cells tags
    → Repeat (store s heads slots cells) r.input (Some r.pid) (given_at list r).section i → PlacedAt list p r → Passed list s₀ p (store s heads slots cells)
    → heads' ≡ touched (s.clock + 1) i heads → s' ≡ risen_sets s → Searchable s' heads' slots cells tags × Passed list s₀ (r.start + r.length) (store s' heads' slots cells)
repeat_turn list s₀ s heads slots cells tags p r i s' heads' o q l k e f =
    rw (e, f)
    (repeat_stays s heads slots cells tags r.input (Some r.pid) (given_at list r).section i o q, next k r l (touched_in (store s heads slots cells) i) q.pushed)

-- ---- a column that is made for them

pub searchable : (s : Sets) (heads slots cells tags : List ℕ) → Whole s heads slots cells → without_pid heads s.used ≡ false → s.used ≤ length tags → Tells tags heads s.used → Searchable s heads slots cells tags
searchable s heads slots cells tags w n l t = record { whole = w; pids = n; long = l; tells = t }
