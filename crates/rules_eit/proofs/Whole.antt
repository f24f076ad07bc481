-- A call leaves a whole store whole, so that no history leads to answer 10.
-- Assumes nothing.
use borrow.Author.Tests.{le-leb, leb-true}
use mathlib.Core.Path.{◌≡◌, refl, sym, ◌∙◌, subst}
use mathlib.Core.Logic.{◌≢◌}
use mathlib.Core.Bool.{Bool, true, true≢false}
use mathlib.Core.List.{List}
use Prim.Native.Nat.{ℕ, zero, suc, ◌-◌, ◌≤◌}
use native.Mathlib.Omega.{arith}
use lib.ListN.{length}
use Rattle.laws.proofs.Tests.{and_true, true_and}
use Rattle.answers.specs.declared.Refusal.TheVariants as refusal
use Rattle.rules_shared.specs.Slots.{every_held}
use Rattle.rules_shared.specs.Touch.{untouched, emptied}
use Rattle.rules_shared.specs.Row.{keep}
use Rattle.rules_shared.specs.Cells.{Settings, Held, Cells, write, held_in, room_whole, held_whole}
use Rattle.laws.specs.Runs.{answers, store_after, At, Never}
use Rattle.rules_shared.proofs.All.{every_all, all_every}
use Rattle.rules_shared.proofs.Cells.{length_write, held_whole_lem, whole_held, room_whole_lem}
use Rattle.laws.proofs.Runs.{after_all_lem, never_after}
use Rattle.rules_eit.specs.Keys.{SetKey}
use Rattle.rules_eit.specs.Segments.{SetOf}
use Rattle.rules_eit.specs.Schedules.{ScheduleOf}
use Rattle.rules_eit.specs.Rules.{refused, EitOf, Section, part_of, Call, clear, drop, refuse, offer, set_newest, judge, cleared}
use Rattle.rules_eit.specs.Cells.{Store, Turn, on_answer, store_whole, shows, rest, room_for, call_tells, call_acts}
use Rattle.rules_eit.proofs.Outcome.{row, Asks, Outcome, broken, stopped, clears, drops, keeps_all, refuses, foreign, long, keyless, lacks, keeps, ignores, conflicts, outcome, accepting, judge_accepts, accepts_not, bytes_not}
use Rattle.rules_eit.proofs.Checked.{SetOk, copy_ok, Ok, met_ok, keep_ok, aside_ok, newest_ok, judge_ok, dropped_ok}

abbrev ok_in : Settings → Cells → Held → Bool
ok_in o cells = held_whole o cells

record Sound (s : Store) : Type 0 where
  room : room_whole s.settings s.cells ≡ true
  eit : Ok (ok_in s.settings s.cells) s.settings.limit s.settings.limit s.eit

sound : (s : Store) → store_whole s ≡ true → Sound s
unfolding store_whole
sound s h =
    let ok = ok_in s.settings s.cells in
    let a = and_true _ _ h in
    let b = and_true _ _ a.1 in
    let c = and_true _ _ b.1 in
    let d = and_true _ _ c.1 in
    record {
      room = a.0;
      eit = record {
        few_sets = leb-true _ _ b.0;
        few_schedules = leb-true _ _ c.0;
        sets = every_all (λ (r : SetOf Held). every_held ok r.slots) s.eit.sets.rows d.0;
        schedules = every_all (λ (g : ScheduleOf Held). every_held (copy_ok ok) g.copies) s.eit.schedules.rows d.1;
      };
    }

whole_of : (s : Store) → Sound s → store_whole s ≡ true
unfolding store_whole
whole_of s h =
    let ok = ok_in s.settings s.cells in
    true_and h.room
    (true_and (le-leb _ _ h.eit.few_sets) (true_and (le-leb _ _ h.eit.few_schedules)
    (true_and (all_every (λ (r : SetOf Held). every_held ok r.slots) s.eit.sets.rows h.eit.sets)
    (all_every (λ (g : ScheduleOf Held). every_held (copy_ok ok) g.copies) s.eit.schedules.rows h.eit.schedules))))

-- a section that 14 does not refuse has 12 bytes or more
abbrev pub LongEnough : Call → Type 0
LongEnough clear = Unit {0}
LongEnough (drop f) = Unit {0}
LongEnough (refuse r b) = Unit {0}
LongEnough (offer x) = 12 ≤ length x.bytes

module _ (s : Store) (w : Sound s) where
  abbrev ok : Held → Bool
  ok = ok_in s.settings s.cells

  rest_ok : (k : SetKey) (n : ℕ) → s.settings.limit ≡ suc n → Ok ok n (suc n) (rest s k)
  unfolding rest held_whole
  rest_ok k n q = rw q (aside_ok ok n (suc n) k s.eit (subst (λ (m : ℕ). Ok ok m m s.eit) q w.eit))

  row_ok : (x : Section) (k : SetKey) → SetOk ok k (row s x k)
  row_ok x k = met_ok ok x k s.eit w.eit.sets

  -- one set more than stayed is within the limit
  within : (k : SetKey) (f : ℕ → EitOf Held → EitOf Held) → 1 ≤ s.settings.limit → ((n : ℕ) → Ok ok n (suc n) (rest s k) → Ok ok (suc n) (suc n) (f (suc n) (rest s k)))
      → Ok ok s.settings.limit s.settings.limit (f s.settings.limit (rest s k))
  within k f l g = go s.settings.limit refl
    where
      go : (n : ℕ) → s.settings.limit ≡ n → Ok ok n n (f n (rest s k))
      go zero q = absurd (omega arith)
      go (suc n) q = g n (rest_ok k n q)

  judged_ok : (x : Section) (k : SetKey) (r : SetOf Held) → Asks s x k → SetOk ok k r
      → Ok ok s.settings.limit s.settings.limit (judge s.settings.limit (rest s k) k x.last_table r).eit
  judged_ok x k r a t = within k (λ n e. (judge n e k x.last_table r).eit) a.some_key (λ n o. judge_ok ok n (rest s k) k x.last_table r o t)

  outcome_sound : {i : Call} {t : Turn} → LongEnough i → Outcome s i t → Sound t.store
  unfolding shows cleared emptied room_for
  outcome_sound f (broken i e) = w
  outcome_sound f (stopped i e h) = w
  outcome_sound f (clears e) = record { room = w.room; eit = record { few_sets = omega arith; few_schedules = omega arith; sets = tt; schedules = tt } }
  outcome_sound f (drops g e h) = record { room = w.room; eit = dropped_ok ok s.settings.limit s.settings.limit g s.eit w.eit }
  outcome_sound f (keeps_all g r b e h) = w
  outcome_sound f (refuses r b e) = w
  outcome_sound f (foreign x e h) = w
  outcome_sound f (long x kind e h l) = w
  outcome_sound f (keyless x kind e h l q) = w
  outcome_sound f (lacks x k a e t) = w
  outcome_sound f (keeps x k a e c l) =
      let cells = write s.cells c x.bytes in
      let q = length_write s.cells c x.bytes in
      let h : Held = held_in c x.bytes in
      let z = held_whole_lem s.settings s.cells c x.bytes l.inside f a.short in
      let r = keep (part_of x) h (row s x k) in
      record {
        room = sym (room_whole_lem s.settings s.cells cells q) ∙ w.room;
        eit = subst (λ (p : Held → Bool). Ok p s.settings.limit s.settings.limit (judge s.settings.limit (rest s k) k x.last_table r).eit)
            (whole_held s.settings s.cells cells q) (judged_ok x k r a (keep_ok ok x k h (row s x k) z (row_ok x k)));
      }
  outcome_sound f (ignores x k a h e q) = record { room = w.room; eit = judged_ok x k (row s x k) a (row_ok x k) }
  outcome_sound f (conflicts x k a h e q) = record {
    room = w.room;
    eit = within k (λ n e. set_newest k (row s x k) e) a.some_key (λ n o. newest_ok ok n (suc n) k (row s x k) (rest s k) o (row_ok x k));
  }

pub whole_stays : (s : Store) (i : Call) → LongEnough i → store_whole s ≡ true → store_whole (call_acts s i) ≡ true
unfolding call_acts
whole_stays s i f h = whole_of (call_acts s i) (outcome_sound s (sound s h) f (outcome s i))

-- a store that is whole does not answer 10
whole_tells : (s : Store) (i : Call) → store_whole s ≡ true → call_tells s i ≢ (refused refusal.NotWhole)
unfolding call_tells accepting on_answer shows
whole_tells s i h e = go (outcome s i) e
  where
    go : {j : Call} {t : Turn} → Outcome s j t → t.answer ≡ (refused refusal.NotWhole) → ⊥
    go (broken j w) e = true≢false (sym h ∙ w)
    go (stopped j w q) e = let z : ◌≡◌ {A = ℕ} 0 1 = cc in omega arith
    go (clears w) e = let z : ◌≡◌ {A = ℕ} 0 1 = cc in omega arith
    go (drops f w q) e = let z : ◌≡◌ {A = ℕ} 0 1 = cc in omega arith
    go (keeps_all f r b w q) e = bytes_not r refusal.NotWhole b refl e
    go (refuses r b w) e = bytes_not r refusal.NotWhole b refl e
    go (foreign x w q) e = let z : ◌≡◌ {A = ℕ} 0 1 = cc in omega arith
    go (long x kind w q l) e = let z : ◌≡◌ {A = ℕ} 0 1 = cc in omega arith
    go (keyless x kind w q l m) e = let z : ◌≡◌ {A = ℕ} 0 1 = cc in omega arith
    go (lacks x k a q f) e = let z : ◌≡◌ {A = ℕ} 0 1 = cc in omega arith
    go (keeps x k a q c f) e = accepts_not _ _ (judge_accepts _ s.settings.limit (rest s k) k x.last_table _) refl e
    go (ignores x k a c q f) e = accepts_not _ _ (judge_accepts _ s.settings.limit (rest s k) k x.last_table _) refl e
    go (conflicts x k a c q f) e = let z : ◌≡◌ {A = ℕ} 0 1 = cc in omega arith

-- opening within 13's bounds leaves a whole store
pub opened_whole : (s : Store) → room_whole s.settings s.cells ≡ true → s.eit ≡ record { sets = untouched; schedules = untouched } → store_whole s ≡ true
unfolding untouched
opened_whole s r e = whole_of s (record { room = r; eit = rw e (record { few_sets = omega arith; few_schedules = omega arith; sets = tt; schedules = tt }) })

-- so in no history of opening, pushes, drops and clears 10 occurs
pub never_10 : (s : Store) → room_whole s.settings s.cells ≡ true → s.eit ≡ record { sets = untouched; schedules = untouched } → (calls : List Call)
    → ((t : ℕ) (i : Call) → At calls t i → LongEnough i) → Never (refused refusal.NotWhole) (answers call_tells call_acts s calls)
never_10 s r e calls f =
    never_after call_tells call_acts LongEnough (λ q. store_whole q ≡ true) whole_stays (refused refusal.NotWhole) whole_tells calls f s (opened_whole s r e)

pub whole_after : (s : Store) → store_whole s ≡ true → (calls : List Call) → ((t : ℕ) (i : Call) → At calls t i → LongEnough i) → store_whole (store_after call_acts s calls) ≡ true
whole_after s h calls f = after_all_lem call_acts LongEnough (λ q. store_whole q ≡ true) whole_stays calls f s h
