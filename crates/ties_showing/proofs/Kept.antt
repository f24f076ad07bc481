-- Every section that the EIT collector holds passes a test that every section offered passes: in the rules with cells, in every history.
-- Assumes nothing.
use mathlib.Core.Path.{◌≡◌, refl, sym, ap, ◌∙◌, subst}
use mathlib.Core.Bool.{Bool, true, false, ◌&&◌, ◌||◌}
use mathlib.Core.Option.{Option, none, some}
use mathlib.Core.List.{List, [], ◌∷◌}
use Prim.Native.Nat.{ℕ, zero, suc, ◌≤◌}
use native.Mathlib.Omega.{arith}
use lib.ListN.{length}
use Rattle.laws.proofs.Tests.{and_true, true_and, or_false}
use Rattle.laws.specs.Runs.{store_after, At}
use Rattle.laws.proofs.Runs.{after_all_lem}
use Rattle.rules_shared.specs.Same.{Bytes}
use Rattle.rules_shared.specs.Slots.{some_held, every_held}
use Rattle.rules_shared.specs.Touch.{Rows, some_row, untouched, emptied}
use Rattle.rules_shared.specs.Row.{keep}
use Rattle.rules_shared.specs.Cells.{Held, Cells, bytes_of, names, write, held_in}
use Rattle.rules_shared.proofs.All.{All}
use Rattle.rules_shared.proofs.Cells.{elsewhere, written}
use Rattle.rules_eit.specs.Keys.{Kind, kind_of, SetKey, ScheduleKey}
use Rattle.rules_eit.specs.Segments.{SetOf}
use Rattle.rules_eit.specs.Schedules.{CopyOf, ScheduleOf}
use Rattle.rules_eit.specs.Rules.{EitOf, Section, part_of, Call, clear, drop, refuse, offer, set_newest, judge, cleared}
use Rattle.rules_eit.specs.Cells.{Store, Turn, shows, rest, room_for, taken, set_takes, copy_takes, schedule_takes, call_acts}
use Rattle.rules_eit.proofs.Views.{free_parts}
use Rattle.rules_eit.proofs.Outcome.{row, Asks, Outcome, broken, stopped, clears, drops, keeps_all, refuses, foreign, long, keyless, lacks, keeps, ignores, conflicts, outcome}
use Rattle.rules_eit.proofs.Checked.{SetOk, ScheduleOk, copy_ok, Ok, met_ok, keep_ok, aside_ok, newest_ok, judge_ok, dropped_ok}

module _ (good : Bytes → Bool) where
  abbrev pub ok_in : Cells → Held → Bool
  ok_in cells h = good (bytes_of cells h)

  -- as many rows as the limit allows, and every section that a slot names passes
  pub record Sound (s : Store) : Type 0 where
    pub eit : Ok (ok_in s.cells) s.settings.limit s.settings.limit s.eit

  -- a section of an EIT's table_id passes
  abbrev pub GoodCall : Call → Type 0
  GoodCall clear = Unit {0}
  GoodCall (drop f) = Unit {0}
  GoodCall (refuse r b) = Unit {0}
  GoodCall (offer x) = (kind : Kind) → kind_of x.table_id_of ≡ some kind → good x.bytes ≡ true

  -- ---- a free cell is written: what the slots name is as before

  module _ (cells : Cells) (c : ℕ) (bytes : Bytes) where
    abbrev before : Held → Bool
    before = ok_in cells

    abbrev then : Held → Bool
    then = ok_in (write cells c bytes)

    held_stays : (slots : List (Option Held)) → every_held before slots ≡ true → some_held (names c) slots ≡ false → every_held then slots ≡ true
    unfolding every_held some_held
    held_stays [] h l = refl
    held_stays (none ∷ ss) h l = held_stays ss h l
    held_stays (some a ∷ ss) h l =
        let p = and_true (before a) (every_held before ss) h in
        let q = or_false (names c a) (some_held (names c) ss) l in
        true_and (ap good (elsewhere cells c bytes a q.0) ∙ p.0) (held_stays ss p.1 q.1)

    copies_stay : (copies : List (Option (CopyOf Held))) → every_held (copy_ok before) copies ≡ true → some_held (copy_takes c) copies ≡ false → every_held (copy_ok then) copies ≡ true
    unfolding every_held some_held copy_takes
    copies_stay [] h l = refl
    copies_stay (none ∷ os) h l = copies_stay os h l
    copies_stay (some o ∷ os) h l =
        let p = and_true (copy_ok before o) (every_held (copy_ok before) os) h in
        let q = or_false (copy_takes c o) (some_held (copy_takes c) os) l in
        true_and (held_stays o.slots p.0 q.0) (copies_stay os p.1 q.1)

    sets_stay : (rs : Rows SetKey (SetOf Held)) → All (SetOk before) rs → some_row (set_takes c) rs ≡ false → All (SetOk then) rs
    unfolding some_row set_takes
    sets_stay [] a l = tt
    sets_stay (r ∷ rs) a l =
        let q = or_false (set_takes c r.row) (some_row (set_takes c) rs) l in
        (held_stays r.row.slots a.0 q.0, sets_stay rs a.1 q.1)

    schedules_stay : (rs : Rows ScheduleKey (ScheduleOf Held)) → All (ScheduleOk before) rs → some_row (schedule_takes c) rs ≡ false → All (ScheduleOk then) rs
    unfolding some_row schedule_takes
    schedules_stay [] a l = tt
    schedules_stay (r ∷ rs) a l =
        let q = or_false (schedule_takes c r.row) (some_row (schedule_takes c) rs) l in
        (copies_stay r.row.copies a.0 q.0, schedules_stay rs a.1 q.1)

    ok_stays : (n m : ℕ) (e : EitOf Held) → Ok before n m e → taken e c ≡ false → Ok then n m e
    unfolding taken
    ok_stays n m e h l =
        let q = or_false (some_row (set_takes c) e.sets.rows) (some_row (schedule_takes c) e.schedules.rows) l in
        record {
          few_sets = h.few_sets;
          few_schedules = h.few_schedules;
          sets = sets_stay e.sets.rows h.sets q.0;
          schedules = schedules_stay e.schedules.rows h.schedules q.1;
        }

  -- ---- one call

  module _ (s : Store) (w : Sound s) where
    abbrev ok : Held → Bool
    ok = ok_in s.cells

    row_ok : (x : Section) (k : SetKey) → SetOk ok k (row s x k)
    row_ok x k = met_ok ok x k s.eit w.eit.sets

    rest_ok : (k : SetKey) (n : ℕ) → s.settings.limit ≡ suc n → Ok ok n (suc n) (rest s k)
    unfolding rest
    rest_ok k n q = rw q (aside_ok ok n (suc n) k s.eit (subst (λ (m : ℕ). Ok ok m m s.eit) q w.eit))

    -- one set more than stayed is within the limit; the slots are judged by p, which may be another test than before
    within : (p : Held → Bool) (k : SetKey) (f : ℕ → EitOf Held → EitOf Held) → 1 ≤ s.settings.limit
        → ((n : ℕ) → Ok ok n (suc n) (rest s k) → Ok p (suc n) (suc n) (f (suc n) (rest s k))) → Ok p s.settings.limit s.settings.limit (f s.settings.limit (rest s k))
    within p k f l g = go s.settings.limit refl
      where
        go : (n : ℕ) → s.settings.limit ≡ n → Ok p n n (f n (rest s k))
        go zero q = absurd (omega arith)
        go (suc n) q = g n (rest_ok k n q)

    outcome_sound : {i : Call} {t : Turn} → GoodCall i → Outcome s i t → Sound t.store
    unfolding shows cleared emptied room_for set_takes
    outcome_sound f (broken i e) = w
    outcome_sound f (stopped i e h) = w
    outcome_sound f (clears e) = record { eit = record { few_sets = omega arith; few_schedules = omega arith; sets = tt; schedules = tt } }
    outcome_sound f (drops g e h) = record { eit = dropped_ok ok s.settings.limit s.settings.limit g s.eit w.eit }
    outcome_sound f (keeps_all g r b e h) = w
    outcome_sound f (refuses r b e) = w
    outcome_sound f (foreign x e h) = w
    outcome_sound f (long x kind e h l) = w
    outcome_sound f (keyless x kind e h l q) = w
    outcome_sound f (lacks x k a e t) = w
    outcome_sound f (keeps x k a e c l) =
        let p : Held → Bool = ok_in (write s.cells c x.bytes) in
        let h : Held = held_in c x.bytes in
        let z = free_parts c k (row s x k) (rest s k) l.free in
        let t : p h ≡ true = ap good (written s.cells c x.bytes l.inside) ∙ f a.kind a.is_kind in
        let r = keep_ok p x k h (row s x k) t (held_stays s.cells c x.bytes (row s x k).slots (row_ok x k) z.1) in
        record {
          eit = within p k (λ n e. (judge n e k x.last_table (keep (part_of x) h (row s x k))).eit) a.some_key
              (λ n o. judge_ok p n (rest s k) k x.last_table (keep (part_of x) h (row s x k)) (ok_stays s.cells c x.bytes n (suc n) (rest s k) o z.0) r);
        }
    outcome_sound f (ignores x k a h e q) =
        record { eit = within ok k (λ n e. (judge n e k x.last_table (row s x k)).eit) a.some_key (λ n o. judge_ok ok n (rest s k) k x.last_table (row s x k) o (row_ok x k)) }
    outcome_sound f (conflicts x k a h e q) =
        record { eit = within ok k (λ n e. set_newest k (row s x k) e) a.some_key (λ n o. newest_ok ok n (suc n) k (row s x k) (rest s k) o (row_ok x k)) }

  pub sound_stays : (s : Store) (i : Call) → GoodCall i → Sound s → Sound (call_acts s i)
  unfolding call_acts
  sound_stays s i f w = outcome_sound s w f (outcome s i)

  pub opened_sound : (s : Store) → s.eit ≡ record { sets = untouched; schedules = untouched } → Sound s
  unfolding untouched
  opened_sound s e = record { eit = rw e (record { few_sets = omega arith; few_schedules = omega arith; sets = tt; schedules = tt }) }

  pub always_sound : (s : Store) → Sound s → (calls : List Call) → ((t : ℕ) (i : Call) → At calls t i → GoodCall i) → Sound (store_after call_acts s calls)
  always_sound s w calls f = after_all_lem call_acts GoodCall Sound sound_stays calls f s w
