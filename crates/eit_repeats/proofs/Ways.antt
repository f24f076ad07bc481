-- A section that is there already touches its row and does nothing else, and what is left of a list gives the whole: one law for each turn and each way out.
-- Assumes nothing.
use mathlib.Core.Path.{◌≡◌, refl, sym, subst, ◌∙◌}
use mathlib.Core.Logic.{◌≢◌}
use mathlib.Core.Bool.{Bool, true, false, ◌&&◌}
use mathlib.Core.List.{List}
use Prim.Native.Nat.{ℕ, ◌+◌, ◌-◌, ◌*◌, ◌≤◌, ◌<◌}
use native.Mathlib.Omega.{arith}
use lib.Dec.{eqb, leb, ltb}
use lib.ListN.{length, take, drop, get_or}
use Rattle.laws.proofs.Tests.{or_false}
use Rattle.std.specs.Prelude.{Option, Some, Result, Ok}
use Rattle.answers.specs.declared.Refusal.{Refusal}
use Rattle.rows.specs.Rows.{row_of, touched}
use Rattle.rows.proofs.Words.{length_touched, touched_not}
use Rattle.columns.proofs.Ways.{tells_touched, pays_room}
use Rattle.store.specs.Store as sets
use Rattle.store.specs.declared.Sets.{Sets}
use Rattle.store.proofs.Whole.{clock_goes_on}
use Rattle.arrivals.specs.Arrivals.{eit_arrival}
use Rattle.arrivals.specs.declared.Arrival.{Arrival}
use Rattle.placing.specs.Places.{place_known, place_of, PlaceOk}
use Rattle.placing.specs.declared.Place.{Place}
use Rattle.placing.specs.declared.Place.TheVariants as place
use Rattle.placing.proofs.Laws.{place_known_lem, place_ok}
use Rattle.segments.specs.Segments.{set_complete}
use Rattle.eit_becomes.specs.Becoming.{becomes_of}
use Rattle.eit_becomes.specs.declared.Becomes.{Becomes}
use Rattle.eit_becomes.specs.declared.Becomes.TheVariants as becomes
use Rattle.eit_state.specs.State.{store, rows, risen_eit, counters_full}
use Rattle.eit_state.specs.declared.Eit.{Eit}
use Rattle.eit_state.specs.declared.PushAnswer.TheVariants as answer
use Rattle.eit_state.specs.declared.Pushed.{Pushed}
use Rattle.eit_plan.specs.Plan.{plan_of}
use Rattle.eit_plan.specs.declared.Plan.TheVariants as plan
use Rattle.eit_plan.proofs.Plans.{plan_placed_lem}
use Rattle.eit_enter.specs.Entering.{answered}
use Rattle.eit_settle.specs.Settle.{settled}
use Rattle.eit_settle.proofs.Ways.{settle_done}
use Rattle.eit_carry.specs.Carried.{step}
use Rattle.eit_carry.proofs.Ways.{carried_repeat, whole_done}
use Rattle.eit.specs.Store.{nothing, after}
use Rattle.eit_keeps.proofs.Stays.{same_slots}
use Rattle.eit_ready.specs.Ready.{Pushable}
use Rattle.eit_ready.proofs.Ways.{ready_stays, ready_arrived}
use Rattle.rules_logs.specs.Records.{Bytes}
use Rattle.rules_logs.specs.Sections.{Given}
use Rattle.log_list.specs.List.{given_at, WholeFrom, PlacedAt}
use Rattle.log_list.specs.declared.Place.{Place as Listed}
use Rattle.eit_each.specs.Each.{pushed_given}
use Rattle.eit_each.proofs.Ways.{each_turn}
use Rattle.eit_repeats.specs.Repeats.{Searchable, Known, Repeat, RepeatGiven, Passed}

-- ---- a touch

-- what becomes of a set does not depend on when it was touched
becomes_touched : (clock i : ℕ) (heads slots : List ℕ) (a : Arrival) → becomes_of (touched clock i heads) slots a i ≡ becomes_of heads slots a i
unfolding becomes_of set_complete
becomes_touched clock i heads slots a = rw (touched_not clock i heads i 8 (omega arith) (omega arith), touched_not clock i heads i 7 (omega arith) (omega arith))

pub searchable_touched : (e e' : Eit) (heads slots cells tags heads' : List ℕ) (i : ℕ) → e' ≡ risen_eit e → heads' ≡ touched e'.sets.clock i heads → Searchable e.sets heads slots cells tags → Searchable e'.sets heads' slots cells tags
searchable_touched e e' heads slots cells tags heads' i q h o =
    let s : Sets = e.sets in
    let w = o.whole in
    rw (h, q) (record {
      whole = record {
        size_low = w.size_low;
        size_high = w.size_high;
        few = w.few;
        used = w.used;
        heads_long = rw (length_touched (s.clock + 1) i heads) w.heads_long;
        slots_long = w.slots_long;
        cells_long = w.cells_long;
        rows = same_slots heads (touched (s.clock + 1) i heads) slots s.count s.size s.used (λ j. touched_not (s.clock + 1) i heads j 7 (omega arith) (omega arith)) (omega (arith, w.used, w.slots_long)) w.rows;
      };
      long = o.long;
      tells = tells_touched tags heads s.used (s.clock + 1) i o.tells;
    })

-- ---- a section that arrived

module _ (s : Sets) (heads slots cells tags bytes : List ℕ) (a : Arrival) (o : Searchable s heads slots cells tags) (i : ℕ) (f : i ≡ row_of heads a.entry.key s.used) (h : i < s.used)
    (p : Place) (q : p ≡ place_known (sets.store s heads slots cells) a.entry bytes i) (row : ℕ) (y : p ≡ place.Repeat row) where
  placed : place.Repeat row ≡ place_of (sets.store s heads slots cells) a.entry bytes
  placed = sym y ∙ place_known_lem (sets.store s heads slots cells) a.entry bytes i p f h q

  in_use : row < s.used
  in_use = let u = o.whole.used in subst (PlaceOk (sets.store s heads slots cells)) (sym placed) (place_ok (sets.store s heads slots cells) o.whole a.entry bytes (omega arith))

  pub row_long : (row * 12 + 12 ≤ length heads) × (row * 288 + 288 ≤ length slots)
  row_long = let w = o.whole in let l = in_use in (omega (arith, w.used, w.heads_long), omega (arith, w.used, w.slots_long))

  pub row_known : length bytes ≤ s.size → (b : Becomes) → b ≡ becomes_of heads slots a row → b ≡ becomes.Stays → Known s heads slots cells bytes a row
  row_known l b e z = record { row = in_use; fits = l; same = placed; stays = sym z ∙ e }

-- ---- a section of a list

pub repeat_arrived : (e : Eit) (heads slots cells : List ℕ) (input : ℕ) (pid : Option ℕ) (bytes : List ℕ) (full : Bool) (v : Result Arrival Refusal) (a : Arrival) (i : ℕ) → full ≡ counters_full e → full ≡ false → v ≡ eit_arrival input pid bytes
    → v ≡ Ok a → get_or bytes 7 0 < 256 → Known e.sets heads slots cells bytes a i → Repeat e heads slots cells input pid bytes i
repeat_arrived e heads slots cells input pid bytes full v a i g h q k b o = record { counts = sym g ∙ h; a = a; arrived = sym q ∙ k; byte = b; known = o }

-- the part of the list that a place tells of
pub repeat_at : (e : Eit) (heads slots cells : List ℕ) (list : Bytes) (r : Listed) (i : ℕ) → Repeat e heads slots cells r.input (Some r.pid) (take (r.start + r.length - r.start) (drop r.start list)) i
    → RepeatGiven e heads slots cells (given_at list r) i
repeat_at e heads slots cells list r i o = let z : r.start + r.length - r.start ≡ r.length = omega arith in rw z at o

module _ (e : Eit) (heads slots cells : List ℕ) (g : Given) (i : ℕ) (o : RepeatGiven e heads slots cells g i) where
  pub repeat_runs : e.sets.clock ≢ 18446744073709551615
  repeat_runs = clock_goes_on e.sets (sets.counters_full e.sets) refl (or_false (sets.counters_full e.sets) (eqb e.schedule_evictions 18446744073709551615) o.counts).0

  module _ (t u : List ℕ) (w : Pushable (store e heads slots cells t u)) (e' : Eit) (heads' : List ℕ) (q : e' ≡ risen_eit e) (h : heads' ≡ touched e'.sets.clock i heads) where
    planned : plan.Repeat (record { arrival = o.a; row = i }) ≡ plan_of (store e heads slots cells t u) g.section o.a
    planned =
        let y = o.known in
        plan_placed_lem e heads slots cells t u g.section o.a (place.Repeat i) e.sets.count (plan.Repeat (record { arrival = o.a; row = i })) y.fits (λ z. omega (arith, z, y.row, w.whole.fits.sets.used)) y.same refl refl

    touched_settled : answered (record { answer = answer.Nothing; eit = e' }) heads' slots t u ≡ settled (rows e' heads slots t u) o.a i
    touched_settled =
        settle_done e' heads slots t u o.a i heads' becomes.Stays false heads' (answered (record { answer = answer.Nothing; eit = e' }) heads' slots t u) h (rw h (o.known.stays ∙ sym (becomes_touched e'.sets.clock i heads slots o.a))) refl refl refl

    -- 4, and its row is the newest
    pub repeat_pushed : after nothing (store e' heads' slots cells t u) ≡ pushed_given (store e heads slots cells t u) g
    repeat_pushed =
        let r : Pushed = record { answer = answer.Nothing; eit = e' } in
        ready_arrived e heads slots cells t u w g.input (Some g.pid) g.section (counters_full e) refl o.counts (eit_arrival g.input (Some g.pid) g.section) refl o.a o.arrived r heads' slots cells t u
        (whole_done e heads slots cells t u g.section o.a (plan_of (store e heads slots cells t u) g.section o.a) refl (step r heads' slots cells t u)
        (carried_repeat e heads slots cells t u g.section (plan_of (store e heads slots cells t u) g.section o.a) (record { arrival = o.a; row = i }) e' r heads' t u (sym planned) q touched_settled))

    pub repeat_stays : Pushable (store e' heads' slots cells t u)
    repeat_stays = ready_stays e heads slots cells t u w g.input (Some g.pid) g.section o.byte (after nothing (store e' heads' slots cells t u)) repeat_pushed

-- ---- one after another

-- a column that pays
pub column_may : (s : Sets) (heads slots cells tags : List ℕ) (bytes : ℕ) (b : Bool) → 8192 ≡ length tags → b ≡ (leb 512 s.used && leb s.used 8192 && ltb 4103 bytes) → b ≡ true → sets.Whole s heads slots cells
    → (s.used ≤ length tags) × (s.used * 12 ≤ length heads)
column_may s heads slots cells tags bytes b l e t w = let h = pays_room s.used bytes b e t in (omega (arith, l), omega (arith, w.used, w.heads_long))

pub passed_none : (list : Bytes) (slots cells : List ℕ) (e : Eit) (heads : List ℕ) → WholeFrom list 0 → Passed list slots cells e heads e heads 0
passed_none list slots cells e heads w = record { behind = w; stays = λ t u o. o; gives = λ t u o. refl }

pub passed_more : (list : Bytes) (slots cells : List ℕ) (e : Eit) (heads : List ℕ) (e₁ : Eit) (heads₁ : List ℕ) (p : ℕ) (r : Listed) (i : ℕ) (e₂ : Eit) (heads₂ : List ℕ) → Passed list slots cells e heads e₁ heads₁ p → PlacedAt list p r
    → RepeatGiven e₁ heads₁ slots cells (given_at list r) i → e₂ ≡ risen_eit e₁ → heads₂ ≡ touched e₂.sets.clock i heads₁ → Passed list slots cells e heads e₂ heads₂ (r.start + r.length)
passed_more list slots cells e heads e₁ heads₁ p r i e₂ heads₂ d l o q h = record {
  behind = l.behind;
  stays = λ t u w. repeat_stays e₁ heads₁ slots cells (given_at list r) i o t u (d.stays t u w) e₂ heads₂ q h;
  gives = λ t u w.
      sym (each_turn list p (store e₁ heads₁ slots cells t u) r l (after nothing (store e₂ heads₂ slots cells t u)) (repeat_pushed e₁ heads₁ slots cells (given_at list r) i o t u (d.stays t u w) e₂ heads₂ q h) refl)
      ∙ d.gives t u w;
}
