-- The words of a place: 0 the answer, 1 and 2 the CRC stored and the one worked out, 3 to 5 where the section's bytes are (0 in the packet, 1 in the buffers), the
-- first there, and how many. `cond test a b` is a where the test is true, else b.
use Rattle.std.specs.Prelude.{cond, List, ℕ, ◌+◌, ◌*◌, eqb, take, drop, get_or, set}
use Rattle.gate_state.specs.State.{Said, plain, short, mismatch}
use Rattle.demux_places.specs.declared.Place.{Place}
use Rattle.demux_places.specs.declared.Outcome.{Outcome}

abbrev pub place_at : List ℕ → ℕ → Place
place_at places k = record { whence = get_or places (k * 6 + 3) 0; first = get_or places (k * 6 + 4) 0; size = get_or places (k * 6 + 5) 0 }

-- the bytes that a place names
abbrev pub bytes_at : List ℕ → List ℕ → Place → List ℕ
bytes_at packet buffers p = take p.size (drop p.first (cond (eqb p.whence 0) packet buffers))

abbrev pub outcome : ℕ → ℕ → ℕ → Outcome
outcome answer stored worked = record { answer = answer; stored = stored; worked = worked }

-- the numbers of a mismatch are told with 3
abbrev pub outcome_of : Said → Outcome
outcome_of (plain n) = outcome n 0 0
outcome_of (short n) = outcome 31 0 0
outcome_of (mismatch stored worked) = outcome 3 stored worked

abbrev pub put_outcome : List ℕ → ℕ → Outcome → List ℕ
put_outcome places k o = set (set (set places (k * 6) o.answer) (k * 6 + 1) o.stored) (k * 6 + 2) o.worked

-- place k with an answer
abbrev pub answered : List ℕ → ℕ → Said → List ℕ
answered places k said = put_outcome places k (outcome_of said)
