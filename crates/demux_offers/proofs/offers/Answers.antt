use Rattle.demux_turns.proofs.Turns.{turns_none, steady_none, turns_more, turns_end, steady_then}
use Rattle.demux_turns.proofs.Laws.{Lengths, turn_may}
use mathlib.Core.Path.{◌≡◌, refl, ◌∙◌}
use Prim.Native.Nat.{◌≤◌, ◌-◌, ◌+◌, ◌*◌}
use native.Mathlib.Omega.{arith}
use Rattle.pats.specs.Store.{record_of}
use Rattle.demux_steady.specs.Steady.{words_in, tells, acts, Steady}
use Rattle.demux_steady.proofs.Steady.{steady_next}
use Rattle.demux_turns.specs.Offers.{held_of, offers_from}
use Rattle.demux_offers.proofs.offers.Goals as goal

pub loop-k-init : goal.loop-k-init
loop-k-init c = let a = c.args in
    let o = held_of a.held a.keys.now a.changes.now (record_of a.words.now a.pat_slots.now a.pat_cells.now) a.pids.now a.places.now in (
      omega arith,
      record { keys_long = refl; changes_long = refl; words_long = refl; slots_long = refl; cells_long = refl; pids_long = refl; places_long = refl },
      steady_none Steady a.count o.gate c.requires.steady,
      turns_none words_in tells acts a.packet.now a.buffers.now a.input a.pid a.count o,
    )

pub turn-now-requires : goal.turn-now-requires
turn-now-requires c = let a = c.args in
    let l = c.loop-k in
    let o = held_of l.now l.keys l.changes (record_of l.words l.pat_slots l.pat_cells) l.pids l.places in
    turn_may a.count l.k o c.loop-k-test.true l.invariant.2 (omega (arith, l.invariant.1.pids_long, c.requires.long)) (omega (arith, l.invariant.1.places_long, c.requires.listed))

pub loop-k-preserved : goal.loop-k-preserved
loop-k-preserved c = let a = c.args in
    let l = c.loop-k in
    let o = held_of l.now l.keys l.changes (record_of l.words l.pat_slots l.pat_cells) l.pids l.places in
    let start = held_of a.held a.keys.now a.changes.now (record_of a.words.now a.pat_slots.now a.pat_cells.now) a.pids.now a.places.now in
    let all = offers_from a.packet.now a.buffers.now a.input a.pid a.count 0 start in
    let t = c.turn-now in
    let x = c.turn-now.new.keys in
    let y = c.turn-now.auto.keys in
    let n = c.loop-k.invariant.1 in
    let then = held_of t.result c.turn-now.new.keys c.turn-now.new.changes (record_of c.turn-now.new.words c.turn-now.new.pat_slots c.turn-now.new.pat_cells) c.turn-now.new.pids c.turn-now.new.places in
    let h = c.loop-k-test.true in (
      omega (arith, h),
      record {
        keys_long = c.turn-now.auto.keys ∙ n.keys_long;
        changes_long = c.turn-now.auto.changes ∙ n.changes_long;
        words_long = c.turn-now.auto.words ∙ n.words_long;
        slots_long = c.turn-now.auto.pat_slots ∙ n.slots_long;
        cells_long = c.turn-now.auto.pat_cells ∙ n.cells_long;
        pids_long = c.turn-now.auto.pids ∙ n.pids_long;
        places_long = c.turn-now.auto.places ∙ n.places_long;
      },
      steady_then words_in tells acts a.packet.now a.buffers.now a.input a.pid a.count l.k o Steady steady_next then (λ i. (c.shared_slice_known-2-1.given i).fits) (λ i. (c.shared_slice_known-1.given i).fits) h t.ensures l.invariant.2,
      turns_more words_in tells acts a.packet.now a.buffers.now a.input a.pid a.count l.k o all then h t.ensures l.invariant.3,
    )

pub returns : goal.returns
returns c = let a = c.args in
    let l = c.loop-k in
    let o = held_of l.now l.keys l.changes (record_of l.words l.pat_slots l.pat_cells) l.pids l.places in
    let start = held_of a.held a.keys.now a.changes.now (record_of a.words.now a.pat_slots.now a.pat_cells.now) a.pids.now a.places.now in
    turns_end words_in tells acts a.packet.now a.buffers.now a.input a.pid a.count l.k o (offers_from a.packet.now a.buffers.now a.input a.pid a.count 0 start) c.loop-k-test.false l.invariant.3
