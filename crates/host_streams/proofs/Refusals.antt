-- A refused opening leaves every word that is lent as it was.
-- Assumes nothing.
use Prim.Native.Nat.{ℕ}
use mathlib.Core.Path.{◌≡◌}
use mathlib.Core.List.{List}
use mathlib.Core.Bool.{Bool, true, false, cond}
use lib.ListN.{length}
use Rattle.streams.specs.Store.{asked, cleared, are_enough, opened_of}
use Rattle.host_streams.specs.Calls.{begun, begun_as, streams_opened}

-- 13
pub streams_open_refused :
    (streams : List ℕ) (count : ℕ) (pids buffers : List ℕ) (answer : ℕ) → answer ≡ (streams_opened streams count pids buffers).answer → (answer ≡ 7 → ⊥) →
    streams_opened streams count pids buffers ≡ begun answer streams pids
unfolding streams_opened opened_of
streams_open_refused streams count pids buffers answer e h = go (are_enough count (length pids) (length buffers)) e
  where
    go :
        (b : Bool) →
        answer ≡ (begun_as streams (cond b (record { answer = 7; streams = asked count; pids = cleared 32768 pids }) (record { answer = 13; streams = asked count; pids = pids }))).answer →
        begun_as streams (cond b (record { answer = 7; streams = asked count; pids = cleared 32768 pids }) (record { answer = 13; streams = asked count; pids = pids })) ≡ begun answer streams pids
    go true e = absurd (h e)
    go false e = rw e
