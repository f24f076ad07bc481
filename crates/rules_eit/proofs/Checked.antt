-- Rows of the EIT collector whose slots all pass a check: what each step leaves is so again.
-- Assumes nothing.
use mathlib.Core.Path.{◌≡◌, refl}
use mathlib.Core.Bool.{Bool, true, false, cond}
use mathlib.Core.List.{List, ◌∷◌}
use mathlib.Core.Option.{Option, none, some}
use Prim.Native.Nat.{ℕ, zero, suc, ◌-◌, ◌≤◌}
use native.Mathlib.Nat.{le_trans}
use lib.Dec.{leb, eqb}
use lib.ListN.{length}
use Rattle.laws.proofs.Tests.{true_and}
use Rattle.rules_shared.specs.Slots.{every_held}
use Rattle.rules_shared.specs.Touch.{Rows, find, retained}
use Rattle.rules_shared.specs.Row.{fresh, keep, marked}
use Rattle.rules_shared.specs.Cells.{Held}
use Rattle.rules_shared.proofs.Slots.{every_free, every_set}
use Rattle.rules_shared.proofs.All.{All, all_aside, all_newest, all_touch, all_retain, all_find, length_aside, length_newest, length_touch, length_retain}
use Rattle.rules_shared.proofs.Row.{start_has}
use Rattle.rules_eit.specs.Keys.{first_of, ScheduleKey, SetKey, same_schedule, same_set, Filter}
use Rattle.rules_eit.specs.Segments.{SetOf, complete}
use Rattle.rules_eit.specs.Schedules.{CopyOf, ScheduleOf, table_of, copy_of, copied, refill, begin, enter}
use Rattle.rules_eit.specs.Rules.{EitOf, Section, part_of, met_row, set_aside, set_newest, schedule_touched, ranged, ready, judged, judge, dropped}
use Rattle.rules_eit.proofs.Keys.{same_schedule_true, same_set_true}

module _ (ok : Held → Bool) where
  abbrev pub SetOk : SetKey → SetOf Held → Type 0
  SetOk k r = every_held ok r.slots ≡ true

  abbrev pub copy_ok : CopyOf Held → Bool
  copy_ok o = every_held ok o.slots

  abbrev pub ScheduleOk : ScheduleKey → ScheduleOf Held → Type 0
  ScheduleOk l g = every_held copy_ok g.copies ≡ true

  -- at most n sets and m schedules, whose slots all pass
  pub record Ok (n m : ℕ) (e : EitOf Held) : Type 0 where
    pub few_sets : length e.sets.rows ≤ n
    pub few_schedules : length e.schedules.rows ≤ m
    pub sets : All SetOk e.sets.rows
    pub schedules : All ScheduleOk e.schedules.rows

  pub met_ok : (x : Section) (k : SetKey) (e : EitOf Held) → All SetOk e.sets.rows → SetOk k (met_row x k e)
  unfolding met_row fresh
  met_ok x k e a =
      start_has (part_of x) (SetOk k) (every_free ok (suc (part_of x).last)) (find same_set k e.sets.rows) (λ r h. all_find same_set SetOk same_set_true k e.sets.rows r a h)

  pub keep_ok : (x : Section) (k : SetKey) (h : Held) (r : SetOf Held) → ok h ≡ true → SetOk k r → SetOk k (keep (part_of x) h r)
  unfolding keep
  keep_ok x k h r t a = every_set ok r.slots (part_of x).number h t a

  refill_ok : (others : Rows SetKey (SetOf Held)) → All SetOk others → (l : ScheduleKey) (last t n : ℕ) → every_held copy_ok (refill others l last t n) ≡ true
  unfolding refill every_held copied copy_of
  refill_ok others a l last t zero = refl
  refill_ok others a l last t (suc n) = go (leb t last) (find same_set (table_of l t) others) refl (refill_ok others a l last (suc t) n)
    where
      more : List (Option (CopyOf Held))
      more = refill others l last (suc t) n

      go : (b : Bool) (o : Option (SetOf Held)) → find same_set (table_of l t) others ≡ o → every_held copy_ok more ≡ true → every_held copy_ok (cond b (copied o) none ∷ more) ≡ true
      go false o e ih = ih
      go true none e ih = ih
      go true (some r) e ih = pick (complete r)
        where
          pick : (c : Bool) → every_held copy_ok (cond c (some (copy_of r)) none ∷ more) ≡ true
          pick true = true_and (all_find same_set SetOk same_set_true (table_of l t) others r a e) ih
          pick false = ih

  begin_ok : (others : Rows SetKey (SetOf Held)) → All SetOk others → (l : ScheduleKey) (first last : ℕ) (o : Option (ScheduleOf Held)) → ((g : ScheduleOf Held) → o ≡ some g → ScheduleOk l g)
      → ScheduleOk l (begin others l first last o)
  unfolding begin
  begin_ok others a l first last none h = every_free copy_ok 16
  begin_ok others a l first last (some g) h = go (eqb g.last_table last)
    where
      go : (b : Bool) → ScheduleOk l (cond b g (record { last_table = last; copies = refill others l last first 16 }))
      go true = h g refl
      go false = refill_ok others a l last first 16

  pub aside_ok : (n m : ℕ) (k : SetKey) (e : EitOf Held) → Ok (suc n) m e → Ok n m (set_aside (suc n) k e)
  unfolding set_aside
  aside_ok n m k e h = record {
    few_sets = length_aside same_set n k e.sets h.few_sets;
    few_schedules = h.few_schedules;
    sets = all_aside same_set SetOk (suc n) k e.sets h.sets;
    schedules = h.schedules;
  }

  pub newest_ok : (n m : ℕ) (k : SetKey) (r : SetOf Held) (e : EitOf Held) → Ok n m e → SetOk k r → Ok (suc n) m (set_newest k r e)
  unfolding set_newest
  newest_ok n m k r e h t = record {
    few_sets = length_newest same_set n k r e.sets h.few_sets;
    few_schedules = h.few_schedules;
    sets = all_newest same_set SetOk k r e.sets h.sets t;
    schedules = h.schedules;
  }

  touched_ok : (n m : ℕ) (l : ScheduleKey) (g : ScheduleOf Held) (e : EitOf Held) → Ok n (suc m) e → ScheduleOk l g → Ok n (suc m) (schedule_touched (suc m) l g e)
  unfolding schedule_touched
  touched_ok n m l g e h t = record {
    few_sets = h.few_sets;
    few_schedules = length_touch same_schedule m l g e.schedules h.few_schedules;
    sets = h.sets;
    schedules = all_touch same_schedule ScheduleOk (suc m) l g e.schedules h.schedules t;
  }

  pub judge_ok : (n : ℕ) (e : EitOf Held) (k : SetKey) (last : ℕ) (r : SetOf Held) → Ok n (suc n) e → SetOk k r → Ok (suc n) (suc n) (judge (suc n) e k last r).eit
  unfolding judge judged ready ranged marked enter copy_of
  judge_ok n e k last r h t = go r.mark (complete r)
    where
      g : ℕ → ScheduleOf Held
      g first = begin e.sets.rows k.schedule first last (find same_schedule k.schedule e.schedules.rows)

      g_ok : (first : ℕ) → ScheduleOk k.schedule (enter (k.table_id_of - first) (copy_of r) (g first))
      g_ok first =
          every_set copy_ok (g first).copies (k.table_id_of - first) (copy_of r) t
          (begin_ok e.sets.rows h.sets k.schedule first last (find same_schedule k.schedule e.schedules.rows)
          (λ q f. all_find same_schedule ScheduleOk same_schedule_true k.schedule e.schedules.rows q h.schedules f))

      in_range : (first : ℕ) (b : Bool) → Ok (suc n) (suc n) (ranged (suc n) e k r first b (enter (k.table_id_of - first) (copy_of r) (g first))).eit
      in_range first false = newest_ok n (suc n) k r e h t
      in_range first true =
          touched_ok (suc n) n k.schedule (enter (k.table_id_of - first) (copy_of r) (g first)) (set_newest k (marked r) e) (newest_ok n (suc n) k (marked r) e h t) (g_ok first)

      goes : (o : Option ℕ) → Ok (suc n) (suc n) (ready (suc n) e k last r o).eit
      goes none = newest_ok n (suc n) k (marked r) e h t
      goes (some first) = in_range first (leb k.table_id_of last)

      go : (b c : Bool) → Ok (suc n) (suc n) (judged (suc n) e k last r b c).eit
      go true c = newest_ok n (suc n) k r e h t
      go false false = newest_ok n (suc n) k r e h t
      go false true = goes (first_of k.schedule.kind)

  pub dropped_ok : (n m : ℕ) (f : Filter) (e : EitOf Held) → Ok n m e → Ok n m (dropped f e)
  unfolding dropped retained
  dropped_ok n m f e h = record {
    few_sets = le_trans (length_retain _ e.sets.rows) h.few_sets;
    few_schedules = le_trans (length_retain _ e.schedules.rows) h.few_schedules;
    sets = all_retain same_set SetOk _ e.sets.rows h.sets;
    schedules = all_retain same_schedule ScheduleOk _ e.schedules.rows h.schedules;
  }
