use mathlib.Core.Path.{◌≡◌, refl, ◌∙◌}
use Prim.Native.Nat.{◌≤◌, ◌-◌}
use native.Mathlib.Omega.{arith}
use Rattle.ring_index.specs.Store.{index_of}
use Rattle.pats.specs.Store.{record_of}
use Rattle.demux_turns.proofs.Turns.{turns_none, steady_none, turns_more, turns_end, steady_then}
use Rattle.demux_indexed_turns.specs.Acts.{words_by, tells_by, acts_by}
use Rattle.demux_indexed_turns.specs.Offers.{held_by, offers_from, SteadyBy}
use Rattle.demux_indexed_turns.proofs.Steady.{steady_next}
use Rattle.demux_indexed_turns.proofs.Laws.{Lengths, turn_may}
use Rattle.demux_indexed_offers.proofs.offers.Goals as goal

pub loop-k-init : goal.loop-k-init
loop-k-init c = let a = c.args in
    let o = held_by a.held a.keys.now a.changes.now (index_of a.buckets.now a.links.now) (record_of a.words.now a.pat_slots.now a.pat_cells.now) a.pids.now a.places.now in (
      omega arith,
      record {
        rest = record { keys_long = refl; changes_long = refl; words_long = refl; slots_long = refl; cells_long = refl; pids_long = refl; places_long = refl };
        buckets_long = refl;
        links_long = refl;
      },
      steady_none SteadyBy a.count o.gate c.requires.steady,
      turns_none words_by tells_by acts_by a.packet.now a.buffers.now a.input a.pid a.count o,
    )

pub turn-now-requires : goal.turn-now-requires
turn-now-requires c = let a = c.args in
    let l = c.loop-k in
    let n = c.loop-k.invariant.1.rest in
    let o = held_by l.now l.keys l.changes (index_of l.buckets l.links) (record_of l.words l.pat_slots l.pat_cells) l.pids l.places in
    turn_may a.count l.k o c.loop-k-test.true l.invariant.2 (omega (arith, n.pids_long, c.requires.long)) (omega (arith, n.places_long, c.requires.listed))

pub loop-k-preserved : goal.loop-k-preserved
loop-k-preserved c = let a = c.args in
    let l = c.loop-k in
    let o = held_by l.now l.keys l.changes (index_of l.buckets l.links) (record_of l.words l.pat_slots l.pat_cells) l.pids l.places in
    let start = held_by a.held a.keys.now a.changes.now (index_of a.buckets.now a.links.now) (record_of a.words.now a.pat_slots.now a.pat_cells.now) a.pids.now a.places.now in
    let all = offers_from a.packet.now a.buffers.now a.input a.pid a.count 0 start in
    let t = c.turn-now in
    let x = c.turn-now.new.keys in
    let y = c.turn-now.auto.keys in
    let n = c.loop-k.invariant.1 in
    let r = c.loop-k.invariant.1.rest in
    let then = held_by t.result c.turn-now.new.keys c.turn-now.new.changes (index_of c.turn-now.new.buckets c.turn-now.new.links) (record_of c.turn-now.new.words c.turn-now.new.pat_slots c.turn-now.new.pat_cells) c.turn-now.new.pids c.turn-now.new.places in
    let h = c.loop-k-test.true in (
      omega (arith, h),
      record {
        rest = record {
          keys_long = c.turn-now.auto.keys ∙ r.keys_long;
          changes_long = c.turn-now.auto.changes ∙ r.changes_long;
          words_long = c.turn-now.auto.words ∙ r.words_long;
          slots_long = c.turn-now.auto.pat_slots ∙ r.slots_long;
          cells_long = c.turn-now.auto.pat_cells ∙ r.cells_long;
          pids_long = c.turn-now.auto.pids ∙ r.pids_long;
          places_long = c.turn-now.auto.places ∙ r.places_long;
        };
        buckets_long = c.turn-now.auto.buckets ∙ n.buckets_long;
        links_long = c.turn-now.auto.links ∙ n.links_long;
      },
      steady_then words_by tells_by acts_by a.packet.now a.buffers.now a.input a.pid a.count l.k o SteadyBy steady_next then (λ i. (c.shared_slice_known-2-1.given i).fits) (λ i. (c.shared_slice_known-1.given i).fits) h t.ensures l.invariant.2,
      turns_more words_by tells_by acts_by a.packet.now a.buffers.now a.input a.pid a.count l.k o all then h t.ensures l.invariant.3,
    )

pub returns : goal.returns
returns c = let a = c.args in
    let l = c.loop-k in
    let o = held_by l.now l.keys l.changes (index_of l.buckets l.links) (record_of l.words l.pat_slots l.pat_cells) l.pids l.places in
    let start = held_by a.held a.keys.now a.changes.now (index_of a.buckets.now a.links.now) (record_of a.words.now a.pat_slots.now a.pat_cells.now) a.pids.now a.places.now in
    turns_end words_by tells_by acts_by a.packet.now a.buffers.now a.input a.pid a.count l.k o (offers_from a.packet.now a.buffers.now a.input a.pid a.count 0 start) c.loop-k-test.false l.invariant.3
