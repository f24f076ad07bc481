-- The sections that a packet finished, offered to the gate in the order of their places, for every content of the lent slices (docs/RULES.md, "Packets"). Open in
-- the gate: what it keeps (S), the words of its watch, and what it answers and keeps after a section.
use Rattle.std.specs.Prelude.{List, ℕ, zero, suc, ◌+◌, ◌*◌, ◌≤◌, length}
use Rattle.gate_state.specs.State.{Said}
use Rattle.streams.specs.Store.{left_of, given_back}
use Rattle.demux_places.specs.Places.{place_at, bytes_at, answered}

-- the gate, the words of the PIDs, and the places
pub record OffersOf (S : Type 0) : Type 0 where
  pub gate : S
  pub pids : List ℕ
  pub places : List ℕ

abbrev pub offers_with : {S : Type 0} → S → List ℕ → List ℕ → OffersOf S
offers_with s pids places = record { gate = s; pids = pids; places = places }

module _ {S : Type 0} (words_in : S → List ℕ) (tells : S → (input pid : ℕ) → List ℕ → Said) (acts : S → (input pid : ℕ) → List ℕ → S) where
  -- a section is offered, place k is told the answer, and each PID that was watched before it and is not after it gives its buffer back
  abbrev pub offered_at : (input pid k : ℕ) → List ℕ → OffersOf S → OffersOf S
  offered_at input pid k section o =
      offers_with (acts o.gate input pid section) (given_back (left_of (words_in o.gate) (words_in (acts o.gate input pid section))) 8192 o.pids)
      (answered o.places k (tells o.gate input pid section))

  -- the section that place k tells
  unfoldable pub turned_by : (packet buffers : List ℕ) → (input pid k : ℕ) → OffersOf S → OffersOf S
  turned_by packet buffers input pid k o = offered_at input pid k (bytes_at packet buffers (place_at o.places k)) o

  -- those of n places from place k on
  unfoldable pub turns_by : (packet buffers : List ℕ) → (input pid n k : ℕ) → OffersOf S → OffersOf S
  turns_by packet buffers input pid zero k o = o
  turns_by packet buffers input pid (suc n) k o = turns_by packet buffers input pid n (k + 1) (turned_by packet buffers input pid k o)

-- what the loop asks: n more sections can be judged, and there are as many places
pub record TurnsOf {S : Type 0} (judges : ℕ → S → Type 0) (o : OffersOf S) (n : ℕ) : Type 0 where
  pub steady : judges n o.gate
  pub long : 32768 ≤ length o.pids
  pub listed : n * 6 ≤ length o.places
