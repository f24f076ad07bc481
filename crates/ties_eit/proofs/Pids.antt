-- Every set and every schedule of a store that a history reaches has a PID: its key reads back, and what the word 8192 shows does not.
-- Assumes nothing.
use mathlib.Core.Path.{◌≡◌, ap}
use mathlib.Core.Bool.{false}
use Prim.Native.Nat.{ℕ, ◌<◌}
use Rattle.rows.specs.declared.Key.{Key}
use Rattle.rows.specs.Rows.{key_at}
use Rattle.ticks.specs.Origins.{origin_shown, origin_words}
use Rattle.ticks.proofs.Origins.{reads_pid}
use Rattle.eit_state.specs.State.{Store}
use Rattle.eit_pids.specs.Rows.{any_without}
use Rattle.eit_pids.proofs.Heads.{each_with}
use Rattle.ties_eit.specs.View.{key_shown, schedule_shown, key_words, schedule_words, Reached}

set_origin : (k : Key) → key_words (key_shown k) ≡ k → origin_words (origin_shown k.from) ≡ k.from
unfolding key_words key_shown
set_origin k e = ap (λ (q : Key). q.from) e

schedule_origin : (k : Key) → schedule_words (schedule_shown k) ≡ k → origin_words (origin_shown k.from) ≡ k.from
unfolding schedule_words schedule_shown
schedule_origin k e = ap (λ (q : Key). q.from) e

pub each_has_pid : (s : Store) → Reached s → any_without s.eit s.heads s.schedule_heads ≡ false
each_has_pid s z =
    each_with s.eit s.heads s.schedule_heads
    (λ i h e. reads_pid (key_at s.heads i).from (set_origin (key_at s.heads i) (z.sets.proper i h)) e)
    (λ i h e. reads_pid (key_at s.schedule_heads i).from (schedule_origin (key_at s.schedule_heads i) (z.schedules.proper i h)) e)
