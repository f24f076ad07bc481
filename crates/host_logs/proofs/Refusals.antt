-- 42, 10, 41 and 13 leave everything that is lent as it was; 44 the room and the word of the length.
-- Assumes nothing.
use Prim.Native.Nat.{ℕ}
use mathlib.Core.Path.{◌≡◌, refl, sym, ap, ◌∙◌}
use mathlib.Core.List.{List}
use mathlib.Core.Bool.{Bool, true, false, cond, ◌||◌}
use native.Mathlib.Omega.{arith}
use lib.ListN.{length}
use lib.Dec.{eqb, ltb}
use Rattle.rules_logs.specs.Sections.{Given, Listed, too_long, cut, sections, sections_in}
use Rattle.rules_logs.specs.Verdict.{Verdict, yes, unknown, cut_off, missing, too_many, differs, verdict}
use Rattle.log_state.specs.State.{is_without, run_of}
use Rattle.log_state.specs.declared.Settings.{Settings}
use Rattle.log_sections.specs.Steps.{records_by, Memory, over, opens}
use Rattle.log_check.specs.Check.{answered, check_no, check_as, ran_over, checked_by, checked_of, refused_by}
use Rattle.std.specs.Prelude.{Ok}
use Rattle.log_prepare.specs.declared.PrepareError.TheVariants as prepare
use Rattle.log_write.specs.Write.{Write, write_no, write_as, as_writer, ran_twice, written_by, written_of, log_over, measured_in, wrote}
use Rattle.log_write.specs.Write.{refused_by as unwritten}
use Rattle.log_write.specs.declared.WriteError.TheVariants as write
use Rattle.host_log_words.specs.Words.{settings_of}
use Rattle.host_logs.specs.Calls.{CheckLeft, check_left, check_handed, log_checked, WriteLeft, write_left, write_handed, log_written}

-- 10, 13, 41 and 42
abbrev pub refuses_run : ℕ → Bool
refuses_run n = eqb n 10 || eqb n 13 || eqb n 41 || eqb n 42

judged : (v : Verdict) → refuses_run (check_no (answered v)) ≡ false
judged yes = refl
judged (unknown p) = refl
judged (cut_off p) = refl
judged (missing p) = refl
judged (too_many p) = refl
judged (differs p) = refl

check_opened : (b : Bool) (s : Settings) (log : List ℕ) (m : Memory) (w : List ℕ) (gs : List Given) (n : ℕ) →
    n ≡ (check_handed (cond b (ran_over log (over (run_of s) m) gs) (check_as (refused_by prepare.TooLittle) m)) w).answer → refuses_run n ≡ true →
    check_handed (cond b (ran_over log (over (run_of s) m) gs) (check_as (refused_by prepare.TooLittle) m)) w ≡ check_left n w m
check_opened true s log m w gs n e h =
    let z : ◌≡◌ {A = Bool} true false = sym h ∙ ap refuses_run e ∙ judged (verdict 0 log (records_by (over (run_of s) m) gs)) in cc
check_opened false s log m w gs n e h = rw e

check_taken : (u b : Bool) (s : Settings) (log : List ℕ) (m : Memory) (w : List ℕ) (gs : List Given) (n : ℕ) →
    n ≡ (check_handed (cond u (check_as (refused_by prepare.NoPid) m) (cond b (ran_over log (over (run_of s) m) gs) (check_as (refused_by prepare.TooLittle) m))) w).answer → refuses_run n ≡ true →
    check_handed (cond u (check_as (refused_by prepare.NoPid) m) (cond b (ran_over log (over (run_of s) m) gs) (check_as (refused_by prepare.TooLittle) m))) w ≡ check_left n w m
check_taken true b s log m w gs n e h = rw e
check_taken false b s log m w gs n e h = check_opened b s log m w gs n e h

check_listed : (x : Listed) (s : Settings) (log : List ℕ) (m : Memory) (w : List ℕ) (n : ℕ) → n ≡ (check_handed (checked_by s log m x) w).answer → refuses_run n ≡ true →
    check_handed (checked_by s log m x) w ≡ check_left n w m
check_listed too_long s log m w n e h = rw e
check_listed cut s log m w n e h = rw e
check_listed (sections gs) s log m w n e h = check_taken (is_without s.pids) (opens s m) s log m w gs n e h

pub log_check_refused :
    (settings list log : List ℕ) (m : Memory) (w : List ℕ) (n : ℕ) → n ≡ (log_checked settings list log m w).answer → refuses_run n ≡ true → log_checked settings list log m w ≡ check_left n w m
unfolding log_checked checked_of
log_check_refused settings list log m w n = check_listed (sections_in list) (settings_of settings) log m w n

-- either way of a run that writes has a number that is none of them
either : (b : Bool) (a c : Write) → refuses_run (write_no a.written) ≡ false → refuses_run (write_no c.written) ≡ false → refuses_run (write_no (cond b a c).written) ≡ false
either true a c x y = x
either false a c x y = y

ran : (s : Settings) (room : List ℕ) (m : Memory) (gs : List Given) → refuses_run (write_no (ran_twice (run_of s) room m gs).written) ≡ false
unfolding ran_twice
ran s room m gs =
    either (ltb (length room) (length (log_over (run_of s) m gs))) (write_as (unwritten write.NoRoom) room (measured_in (run_of s) (length room) m gs))
    (wrote (run_of s) room (length (log_over (run_of s) m gs)) (measured_in (run_of s) (length room) m gs) gs) refl refl

write_opened : (b : Bool) (s : Settings) (room : List ℕ) (m : Memory) (w : List ℕ) (gs : List Given) (n : ℕ) →
    n ≡ (write_handed (cond b (ran_twice (run_of s) room m gs) (write_as (unwritten (write.Run prepare.TooLittle)) room m)) w).answer → refuses_run n ≡ true →
    write_handed (cond b (ran_twice (run_of s) room m gs) (write_as (unwritten (write.Run prepare.TooLittle)) room m)) w ≡ write_left n w room m
write_opened true s room m w gs n e h = let z : ◌≡◌ {A = Bool} true false = sym h ∙ ap refuses_run e ∙ ran s room m gs in cc
write_opened false s room m w gs n e h = rw e

write_taken : (u b : Bool) (s : Settings) (room : List ℕ) (m : Memory) (w : List ℕ) (gs : List Given) (n : ℕ) →
    n ≡ (write_handed (cond u (write_as (unwritten (write.Run prepare.NoPid)) room m) (cond b (ran_twice (run_of s) room m gs) (write_as (unwritten (write.Run prepare.TooLittle)) room m))) w).answer → refuses_run n ≡ true →
    write_handed (cond u (write_as (unwritten (write.Run prepare.NoPid)) room m) (cond b (ran_twice (run_of s) room m gs) (write_as (unwritten (write.Run prepare.TooLittle)) room m))) w ≡ write_left n w room m
write_taken true b s room m w gs n e h = rw e
write_taken false b s room m w gs n e h = write_opened b s room m w gs n e h

write_listed : (x : Listed) (s : Settings) (room : List ℕ) (m : Memory) (w : List ℕ) (n : ℕ) → n ≡ (write_handed (written_by s room m x) w).answer → refuses_run n ≡ true →
    write_handed (written_by s room m x) w ≡ write_left n w room m
write_listed too_long s room m w n e h = rw e
write_listed cut s room m w n e h = rw e
write_listed (sections gs) s room m w n e h = write_taken (is_without s.pids) (opens s m) s room m w gs n e h

pub log_write_refused :
    (settings list room : List ℕ) (m : Memory) (w : List ℕ) (n : ℕ) → n ≡ (log_written settings list room m w).answer → refuses_run n ≡ true → log_written settings list room m w ≡ write_left n w room m
unfolding log_written written_of
log_write_refused settings list room m w n = write_listed (sections_in list) (as_writer (settings_of settings)) room m w n

-- ---- 44

-- the room and the word of the length, as they were
abbrev pub Unwritten : WriteLeft → (room w : List ℕ) → Type 0
Unwritten x room w = (x.room ≡ room) × (x.length ≡ w)

no_room : (b : Bool) (room : List ℕ) (after : Memory) (c : Write) (w : List ℕ) → write_no c.written ≡ 7 →
    (write_handed (cond b (write_as (unwritten write.NoRoom) room after) c) w).answer ≡ 44 → Unwritten (write_handed (cond b (write_as (unwritten write.NoRoom) room after) c) w) room w
no_room true room after c w d h = (refl, refl)
no_room false room after c w d h = let z : ◌≡◌ {A = ℕ} 7 44 = sym d ∙ h in absurd (omega (arith, z))

ran_no_room : (s : Settings) (room : List ℕ) (m : Memory) (gs : List Given) (w : List ℕ) → (write_handed (ran_twice (run_of s) room m gs) w).answer ≡ 44 → Unwritten (write_handed (ran_twice (run_of s) room m gs) w) room w
unfolding ran_twice
ran_no_room s room m gs w h =
    no_room (ltb (length room) (length (log_over (run_of s) m gs))) room (measured_in (run_of s) (length room) m gs)
    (wrote (run_of s) room (length (log_over (run_of s) m gs)) (measured_in (run_of s) (length room) m gs) gs) w refl h

opened_no_room : (b : Bool) (s : Settings) (room : List ℕ) (m : Memory) (w : List ℕ) (gs : List Given) →
    (write_handed (cond b (ran_twice (run_of s) room m gs) (write_as (unwritten (write.Run prepare.TooLittle)) room m)) w).answer ≡ 44 →
    Unwritten (write_handed (cond b (ran_twice (run_of s) room m gs) (write_as (unwritten (write.Run prepare.TooLittle)) room m)) w) room w
opened_no_room true s room m w gs h = ran_no_room s room m gs w h
opened_no_room false s room m w gs h = (refl, refl)

taken_no_room : (u b : Bool) (s : Settings) (room : List ℕ) (m : Memory) (w : List ℕ) (gs : List Given) →
    (write_handed (cond u (write_as (unwritten (write.Run prepare.NoPid)) room m) (cond b (ran_twice (run_of s) room m gs) (write_as (unwritten (write.Run prepare.TooLittle)) room m))) w).answer ≡ 44 →
    Unwritten (write_handed (cond u (write_as (unwritten (write.Run prepare.NoPid)) room m) (cond b (ran_twice (run_of s) room m gs) (write_as (unwritten (write.Run prepare.TooLittle)) room m))) w) room w
taken_no_room true b s room m w gs h = (refl, refl)
taken_no_room false b s room m w gs h = opened_no_room b s room m w gs h

listed_no_room : (x : Listed) (s : Settings) (room : List ℕ) (m : Memory) (w : List ℕ) → (write_handed (written_by s room m x) w).answer ≡ 44 → Unwritten (write_handed (written_by s room m x) w) room w
listed_no_room too_long s room m w h = (refl, refl)
listed_no_room cut s room m w h = (refl, refl)
listed_no_room (sections gs) s room m w h = taken_no_room (is_without s.pids) (opens s m) s room m w gs h

pub log_write_no_room :
    (settings list room : List ℕ) (m : Memory) (w : List ℕ) → (log_written settings list room m w).answer ≡ 44 → Unwritten (log_written settings list room m w) room w
unfolding log_written written_of
log_write_no_room settings list room m w = listed_no_room (sections_in list) (as_writer (settings_of settings)) room m w
