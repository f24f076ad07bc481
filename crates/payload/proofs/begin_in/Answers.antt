use Rattle.payload.proofs.Laws.{going_first, going_over, going_stuffing, going_cut, place_there, going_turn}
use Rattle.payload.proofs.begin_in.Goals as goal

pub loop-at-init : goal.loop-at-init
loop-at-init c = search going_first

pub returns-then-packet-at : goal.returns-then-packet-at
returns-then-packet-at c = let r = let a = c.args in let l = c.loop-at in going_stuffing a.packet.now a.begin a.places.now a.count l.places l.at l.k l.invariant c.loop-at-test.true c.if-packet-at.true in record { value = r.0; places_after = r.1 }

pub returns-then-size-eq0 : goal.returns-then-size-eq0
returns-then-size-eq0 c = let r = let a = c.args in let l = c.loop-at in going_cut a.packet.now a.begin a.places.now a.count l.places l.at l.k l.invariant c.loop-at-test.true c.if-packet-at.false c.whole_in-size.result c.whole_in-size.ensures.0 c.if-size-eq0.true in record { value = r.0; places_after = r.1 }

pub place-requires : goal.place-requires
place-requires c = search place_there

pub loop-at-preserved : goal.loop-at-preserved
loop-at-preserved c = search going_turn

pub returns : goal.returns
returns c = let r = let a = c.args in let l = c.loop-at in going_over a.packet.now a.begin a.places.now a.count l.places l.at l.k l.invariant c.loop-at-test.false in record { value = r.0; places_after = r.1 }
