-- `write` by the rules: past 42, 10, 41 and 13 it answers 44 exactly where the log of the sections is longer than the room, and else the room holds that log; and what was
-- written passes the check.
-- Assumes nothing.
use mathlib.Core.Path.{◌≡◌, refl, sym, ap, subst, ◌∙◌}
use mathlib.Core.Bool.{Bool, true, false, cond}
use mathlib.Core.List.{List, [], ◌∷◌, ◌++◌}
use Prim.Native.Nat.{ℕ, ◌+◌, ◌-◌, ◌^◌, ◌≤◌, ◌<◌}
use native.Mathlib.Omega.{arith}
use borrow.Author.Tests.{eqb-false, lt-ltb, le-ltb, ltb-true, ltb-false}
use lib.Dec.{ltb}
use lib.ListN.{length, take, drop}
use lib.Seq.{sets, sets-eq, take_at, drop_at}
use Rattle.section.specs.Facts.{Bytes as OfBytes}
use Rattle.rules_logs.specs.Records.{Bytes}
use Rattle.rules_logs.specs.Sections.{Given, Listed, too_long, cut, sections, sections_in}
use Rattle.rules_logs.specs.Verdict as records
use Rattle.rules_log_run.specs.Run.{log_of}
use Rattle.rules_log_run.specs.Lists.{AllTakable}
use Rattle.rules_log_run.proofs.Lists.{listed_takable, listed_few}
use Rattle.log_state.specs.State.{is_with, is_without, Lent, run_of}
use Rattle.log_state.specs.declared.Pids.TheVariants as pids
use Rattle.log_state.specs.declared.Settings.{Settings}
use Rattle.log_sections.specs.Steps.{takes, left_by, Memory, over, memory_in, opens}
use Rattle.log_check.specs.Check.{check_no, checked_of}
use Rattle.log_measure.specs.Measure.{fitted_in}
use Rattle.log_write.specs.Write.{write_no, length_told, refused_by, write_as, log_over, measured_in, as_writer, ran_twice, written_by, written_of}
use Rattle.std.specs.Prelude.{Ok}
use Rattle.log_prepare.specs.declared.PrepareError.TheVariants as prepare
use Rattle.log_write.specs.declared.WriteError.TheVariants as error
use Rattle.ties_log_run.specs.Run.{settings_of}
use Rattle.ties_log_run.proofs.Run.{opened_taken}
use Rattle.ties_log_run.proofs.Again.{Usable, usable_opened, usable_fewer, usable_next, usable_opens}
use Rattle.ties_logs.proofs.Check.{run_expects, yes_exactly}
use Rattle.ties_log_write.specs.Written.{Holds, Refuses}

-- ---- the memory that measuring leaves

fitted_usable : (a : Settings) (gs : List Given) → AllTakable gs → (free : ℕ) (s : Lent) → Usable a (length gs) s → Usable a 0 (fitted_in free s gs)
unfolding fitted_in
fitted_usable a [] t free s u = u
fitted_usable a (g ∷ gs) t free s u =
    let n = usable_next a (length gs) s u g t.0.of_bytes in
    go (ltb free (length (records.log_of (takes s g).records))) n (fitted_usable a gs t.1 (free - length (records.log_of (takes s g).records)) (takes s g).left n)
  where
    go : (b : Bool) → Usable a (length gs) (takes s g).left → Usable a 0 (fitted_in (free - length (records.log_of (takes s g).records)) (takes s g).left gs)
        → Usable a 0 (cond b (takes s g).left (fitted_in (free - length (records.log_of (takes s g).records)) (takes s g).left gs))
    go true n ih = usable_fewer a (length gs) (takes s g).left n
    go false n ih = ih

-- ---- the setting

-- the settings with which a writer opens where sets are not taken with PIDs
abbrev bare : Settings → Settings
bare a = record { capacity = a.capacity; repeats = a.repeats; rule = a.rule; limit = a.limit; size = a.size; count = a.count; pids = pids.Without }

as_with : (a : Settings) → is_with a.pids ≡ true → as_writer a ≡ a
as_with a t = ap (λ (b : Bool). cond b a (bare a)) t

-- THE THEOREM: any setting but `with` is 41 of a whole list, and all is as before
pub writer_refuses : (a : Settings) → is_with a.pids ≡ false → (list room : Bytes) (gs : List Given) → sections_in list ≡ sections gs → (m : Memory)
    → written_of a list room m ≡ write_as (refused_by (error.Run prepare.NoPid)) room m
unfolding written_of
writer_refuses a t list room gs w m = ap (λ (b : Bool). written_by (cond b a (bare a)) room m (sections_in list)) t ∙ ap (written_by (bare a) room m) w

-- ---- a list of bytes that is whole, and memory that is enough

module _ (a : Settings) (list : Bytes) (b : OfBytes list) (n : length list < 2 ^ 64) (gs : List Given) (w : sections_in list ≡ sections gs) (room : Bytes) where
  abbrev log : Bytes
  log = log_of (settings_of a) gs

  -- the log over any memory that is enough
  log_over_lem : (m : Memory) → opens a m ≡ true → log_over (run_of a) m gs ≡ log_of (settings_of a) gs
  unfolding log_of
  log_over_lem m h = ap records.log_of (run_expects a list b n gs w m h)

  module _ (m : Memory) (h : opens a m ≡ true) (t : is_with a.pids ≡ true) where
    abbrev after : Memory
    after = measured_in (run_of a) (length room) m gs

    after_opens : opens a (measured_in (run_of a) (length room) m gs) ≡ true
    after_opens =
        let few = listed_few list b gs w in
        let u = usable_opened a m.keys m.changes m.heads m.slots m.cells h (length gs) (omega arith) in
        usable_opens a 0 (fitted_in (length room) (over (run_of a) m) gs) (fitted_usable a gs (listed_takable list b gs w) (length room) (over (run_of a) m) u)

    written_as : written_of a list room m
        ≡ cond (ltb (length room) (length (log_of (settings_of a) gs))) (write_as (refused_by error.NoRoom) room after)
        (write_as (Ok (length (log_of (settings_of a) gs))) (sets room 0 (log_of (settings_of a) gs)) (memory_in (left_by (over (run_of a) after) gs)))
    unfolding written_of ran_twice
    written_as =
        ap (λ (s : Settings). written_by s room m (sections_in list)) (as_with a t)
        ∙ rw (w, h, opened_taken a m.keys m.changes m.heads m.slots m.cells h, log_over_lem m h, log_over_lem after after_opens) refl

    no_room : length room < length (log_of (settings_of a) gs) → Refuses room (written_of a list room m)
    no_room l = subst (Refuses room) (sym (written_as ∙ pick)) (record { answer = refl; kept = refl })
      where
        pick : cond (ltb (length room) (length (log_of (settings_of a) gs))) (write_as (refused_by error.NoRoom) room after)
            (write_as (Ok (length (log_of (settings_of a) gs))) (sets room 0 (log_of (settings_of a) gs)) (memory_in (left_by (over (run_of a) after) gs)))
            ≡ write_as (refused_by error.NoRoom) room after
        pick = rw (lt-ltb (length room) (length (log_of (settings_of a) gs)) l) refl

    fits_room : length (log_of (settings_of a) gs) ≤ length room → Holds (log_of (settings_of a) gs) room (written_of a list room m)
    fits_room l = subst (Holds log room) (sym (written_as ∙ pick)) (record { answer = refl; told = refl; first = ap (take (length log)) eq ∙ take_at log (drop (length log) room) (length log) refl; rest = ap (drop (length log)) eq ∙ drop_at log (drop (length log) room) (length log) refl })
      where
        pick : cond (ltb (length room) (length (log_of (settings_of a) gs))) (write_as (refused_by error.NoRoom) room after)
            (write_as (Ok (length (log_of (settings_of a) gs))) (sets room 0 (log_of (settings_of a) gs)) (memory_in (left_by (over (run_of a) after) gs)))
            ≡ write_as (Ok (length (log_of (settings_of a) gs))) (sets room 0 (log_of (settings_of a) gs)) (memory_in (left_by (over (run_of a) after) gs))
        pick = rw (le-ltb (length room) (length (log_of (settings_of a) gs)) l) refl

        zeroed : 0 + length (log_of (settings_of a) gs) ≡ length (log_of (settings_of a) gs)
        zeroed = omega arith

        eq : sets room 0 (log_of (settings_of a) gs) ≡ log_of (settings_of a) gs ++ drop (length (log_of (settings_of a) gs)) room
        eq = sets-eq (log_of (settings_of a) gs) room 0 (omega arith) ∙ ap (λ (k : ℕ). log_of (settings_of a) gs ++ drop k room) zeroed

    -- THE THEOREM: 44 exactly where the log is longer than the room
    pub room_exactly : (write_no (written_of a list room m).written ≡ 44 → length room < length (log_of (settings_of a) gs)) × (length room < length (log_of (settings_of a) gs) → Refuses room (written_of a list room m))
    room_exactly = (λ e. go (ltb (length room) (length (log_of (settings_of a) gs))) refl e, no_room)
      where
        go : (t : Bool) → ltb (length room) (length (log_of (settings_of a) gs)) ≡ t → write_no (written_of a list room m).written ≡ 44 → length room < length (log_of (settings_of a) gs)
        go true q e = ltb-true (length room) (length (log_of (settings_of a) gs)) q
        go false q e = absurd (eqb-false 7 44 refl (sym (fits_room (ltb-false (length room) (length (log_of (settings_of a) gs)) q)).answer ∙ e))

    -- THE THEOREM: 7 where there is room, and then the room holds the log
    pub written_holds : write_no (written_of a list room m).written ≡ 7 → Holds (log_of (settings_of a) gs) room (written_of a list room m)
    written_holds e = go (ltb (length room) (length (log_of (settings_of a) gs))) refl
      where
        go : (t : Bool) → ltb (length room) (length (log_of (settings_of a) gs)) ≡ t → Holds (log_of (settings_of a) gs) room (written_of a list room m)
        go true q = absurd (eqb-false 44 7 refl (sym (no_room (ltb-true (length room) (length (log_of (settings_of a) gs)) q)).answer ∙ e))
        go false q = fits_room (ltb-false (length room) (length (log_of (settings_of a) gs)) q)

-- ---- what 7 says of the list and of the memory

record Whole (a : Settings) (list : Bytes) (m : Memory) : Type 0 where
  gs : List Given
  whole : sections_in list ≡ sections gs
  with : is_with a.pids ≡ true
  enough : opens a m ≡ true

seven_whole : (a : Settings) (list room : Bytes) (m : Memory) → write_no (written_of a list room m).written ≡ 7 → Whole a list m
unfolding written_of
seven_whole a list room m e = go (is_with a.pids) refl (sections_in list) refl e
  where
    go : (b : Bool) → is_with a.pids ≡ b → (l : Listed) → sections_in list ≡ l → write_no (written_by (cond b a (bare a)) room m l).written ≡ 7 → Whole a list m
    go b t too_long q e = absurd (eqb-false 42 7 refl e)
    go b t cut q e = absurd (eqb-false 10 7 refl e)
    go false t (sections gs) q e = absurd (eqb-false 41 7 refl e)
    go true t (sections gs) q e = at (is_without a.pids) (opens a m) refl e
      where
        at : (u v : Bool) → opens a m ≡ v
            → write_no (cond u (write_as (refused_by (error.Run prepare.NoPid)) room m) (cond v (ran_twice (run_of a) room m gs) (write_as (refused_by (error.Run prepare.TooLittle)) room m))).written ≡ 7 → Whole a list m
        at true v h e = absurd (eqb-false 41 7 refl e)
        at false true h e = record { gs = gs; whole = q; with = t; enough = h }
        at false false h e = absurd (eqb-false 13 7 refl e)

-- THE THEOREM: what was written passes the check with the same settings and sections, over any memory that is enough
pub written_passes : (a : Settings) (list : Bytes) → OfBytes list → length list < 2 ^ 64 → (room : Bytes) (m : Memory) → write_no (written_of a list room m).written ≡ 7
    → (m' : Memory) → opens a m' ≡ true
    → check_no (checked_of a list (take (length_told (written_of a list room m).written) (written_of a list room m).room) m').checked ≡ 8
written_passes a list b n room m e m' h =
    let w = seven_whole a list room m e in
    let k = written_holds a list b n w.gs w.whole room m w.enough w.with e in
    (yes_exactly a list b n w.gs w.whole m' h (take (length_told (written_of a list room m).written) (written_of a list room m).room)).1 k.first
