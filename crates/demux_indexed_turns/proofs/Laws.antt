-- One law for each way out of a function.
-- Assumes nothing.
use mathlib.Core.Path.{◌≡◌, ap}
use mathlib.Core.List.{List}
use Prim.Native.Nat.{ℕ, ◌-◌, ◌*◌, ◌≤◌, ◌<◌}
use lib.ListN.{length}
use Rattle.ring_index.specs.Store.{Index}
use Rattle.gate_state.specs.State.{said_of}
use Rattle.gate_state.specs.declared.Offered.{Offered}
use Rattle.pats.specs.Store.{record_of}
use Rattle.gate_pats_indexed.specs.Store.{KeptBy, kept_by, Offering, left_with, taken_by}
use Rattle.streams.specs.Store.{left_of, given_back}
use Rattle.demux_places.specs.Places.{place_at, bytes_at, answered}
use Rattle.demux_places.specs.declared.Place.{Place}
use Rattle.demux_turns.specs.declared.Held.{Held}
use Rattle.demux_turns.specs.Offers.{TurnOk}
use Rattle.demux_turns.proofs.Turns.{section_told}
use Rattle.demux_turns.proofs.Laws as plain
use Rattle.demux_indexed_turns.specs.Acts.{words_by, tells_by, acts_by}
use Rattle.demux_indexed_turns.specs.Offers.{Offers, held_by, turned, SteadyBy}

-- ---- a turn

module _ (h : Held) (keys changes : List ℕ) (x : Index) (words slots cells pids places : List ℕ) where
  abbrev start : KeptBy
  start = kept_by h.gate h.counters keys changes x (record_of words slots cells)

  pub turn_done : (packet buffers : List ℕ) (input pid k : ℕ) (place : Place) (section : List ℕ) (o : Offered) (ks ms : List ℕ) (y : Index) (ws ss cs ps qs : List ℕ)
      → place ≡ place_at places k → section ≡ bytes_at packet buffers place → left_with o ks ms y (record_of ws ss cs) ≡ taken_by start input pid section
      → ps ≡ given_back (left_of words ws) 8192 pids → qs ≡ answered places k (said_of o.answer)
      → held_by (record { gate = o.gate; counters = o.counters }) ks ms y (record_of ws ss cs) ps qs
      ≡ turned packet buffers input pid k (held_by h keys changes x (record_of words slots cells) pids places)
  turn_done packet buffers input pid k place section o ks ms y ws ss cs ps qs e f q =
      section_told words_by tells_by acts_by packet buffers input pid k start pids places place section (said_of o.answer) (kept_by o.gate o.counters ks ms y (record_of ws ss cs)) ps qs e f
      (ap (λ (l : Offering). l.answer) q) (ap (λ (l : Offering). l.left) q)

-- ---- the loop

-- the slices are as long as they were
pub record Lengths (keys₀ changes₀ buckets₀ links₀ words₀ slots₀ cells₀ pids₀ places₀ keys changes buckets links words slots cells pids places : List ℕ) : Type 0 where
  pub rest : plain.Lengths keys₀ changes₀ words₀ slots₀ cells₀ pids₀ places₀ keys changes words slots cells pids places
  pub buckets_long : length buckets ≡ length buckets₀
  pub links_long : length links ≡ length links₀

pub turn_may : (count k : ℕ) (o : Offers) → k < count → SteadyBy (count - k) o.gate → 32768 ≤ length o.pids → count * 6 ≤ length o.places
    → TurnOk o.gate.kept.gate o.gate.kept.watch o.pids o.places k
turn_may count k o h s = plain.turn_may count k (record { gate = o.gate.kept; pids = o.pids; places = o.places }) h s.kept
