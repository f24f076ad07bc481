-- The sections of a packet, offered to both gates in the order of their places: the same answers in the places, the same buffers given back, the same gate but for the
-- index.
-- Assumes nothing.
use mathlib.Core.Path.{◌≡◌, refl, subst}
use mathlib.Core.List.{List}
use Prim.Native.Nat.{ℕ, zero, suc, ◌+◌}
use Rattle.section.specs.Facts.{Bytes}
use Rattle.gate_pats.specs.Store.{Kept, taken_with}
use Rattle.gate_pats_indexed.specs.Store.{KeptBy, sections_by, taken_by}
use Rattle.streams.specs.Store.{left_of, given_back}
use Rattle.ties_gate.proofs.Indexed as low
use Rattle.ties_gate_pats.proofs.Indexed.{Same, taken_same}
use Rattle.demux_places.specs.Places.{place_at, bytes_at, answered}
use Rattle.demux_steady.specs.Steady.{words_in, tells, acts}
use Rattle.demux_turns.specs.Turns.{OffersOf, offers_with, turned_by, turns_by}
use Rattle.demux_turns.proofs.Turns.{section_bytes}
use Rattle.demux_indexed_turns.specs.Acts.{words_by, tells_by, acts_by}
use Rattle.ties_demux_indexed.proofs.Gate.{Ready, ready_next}

abbrev pub bare_offers : OffersOf KeptBy → OffersOf Kept
bare_offers o = offers_with o.gate.kept o.pids o.places

pub record Alike (l : OffersOf KeptBy) (k : OffersOf Kept) : Type 0 where
  pub same : bare_offers l ≡ k
  pub rows : low.OpenedBy (sections_by l.gate)

module _ (packet buffers : List ℕ) (a : Bytes packet) (b : Bytes buffers) (input pid : ℕ) where
  abbrev turn_by : ℕ → OffersOf KeptBy → OffersOf KeptBy
  turn_by k o = turned_by words_by tells_by acts_by packet buffers input pid k o

  abbrev turn_in : ℕ → OffersOf Kept → OffersOf Kept
  turn_in k o = turned_by words_in tells acts packet buffers input pid k o

  named : (k : ℕ) (o : OffersOf KeptBy) → Bytes (bytes_at packet buffers (place_at o.places k))
  named k o = section_bytes packet buffers a b (place_at o.places k)

  turn_same : (k : ℕ) (o : OffersOf KeptBy) → low.OpenedBy (sections_by o.gate) → bare_offers (turn_by k o) ≡ turn_in k (bare_offers o)
  unfolding turned_by
  turn_same k o r =
      let section : List ℕ = bytes_at packet buffers (place_at o.places k) in
      let x : Same (taken_by o.gate input pid section) (taken_with o.gate.kept input pid section) = taken_same o.gate r input pid section (named k o) in
      λ i. offers_with (x.kept i) (given_back (left_of (words_in o.gate.kept) (words_in (x.kept i))) 8192 o.pids) (answered o.places k (x.answer i))

  turn_ready : (n k : ℕ) (o : OffersOf KeptBy) → Ready (suc n) o.gate → Ready n (turn_by k o).gate
  unfolding turned_by
  turn_ready n k o r = ready_next n o.gate r input pid (bytes_at packet buffers (place_at o.places k)) (named k o)

  pub turns_same : (n k : ℕ) (o : OffersOf KeptBy) → Ready n o.gate
      → Alike (turns_by words_by tells_by acts_by packet buffers input pid n k o) (turns_by words_in tells acts packet buffers input pid n k (bare_offers o))
  unfolding turns_by
  turns_same zero k o r = record { same = refl; rows = r.rows }
  turns_same (suc n) k o r =
      subst (λ (p : OffersOf Kept). Alike (turns_by words_by tells_by acts_by packet buffers input pid n (k + 1) (turn_by k o)) (turns_by words_in tells acts packet buffers input pid n (k + 1) p))
      (turn_same k o r.rows) (turns_same n (k + 1) (turn_by k o) (turn_ready n k o r))
