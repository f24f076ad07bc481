-- What `counts` does with the sections that a packet finished: each that the gate answered 1 or 2 goes to its collector. `cond test a b` is a where the test is
-- true, else b.
-- Assumes nothing.
use Rattle.std.specs.Prelude.{ℕ, zero, suc, ◌+◌, ◌*◌, List, Bool, cond, ◌||◌, eqb, get_or}
use Rattle.demux_places.specs.Places.{place_at, bytes_at}
use Rattle.counts_collect.specs.Collected.{Held, collected}

-- emitted or suppressed
abbrev pub is_sound : (answer : ℕ) → Bool
is_sound answer = eqb answer 1 || eqb answer 2

module _ (places packet buffers : List ℕ) (pid : ℕ) where
  -- that of place k
  unfoldable pub collected_at : ℕ → Held → Held
  collected_at k h = cond (is_sound (get_or places (k * 6) 0)) (collected h pid (bytes_at packet buffers (place_at places k))) h

  -- those of n places from place k on
  unfoldable pub collected_from : (n k : ℕ) → Held → Held
  collected_from zero k h = h
  collected_from (suc n) k h = collected_from n (k + 1) (collected_at k h)
