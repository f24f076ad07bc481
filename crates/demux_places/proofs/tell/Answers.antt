use Rattle.demux_places.proofs.Laws.{second_word, third_word, told_then}
use Rattle.demux_places.proofs.tell.Goals as goal

pub bounds-places-at-2 : goal.bounds-places-at-2
bounds-places-at-2 c = search second_word

pub bounds-places-at-3 : goal.bounds-places-at-3
bounds-places-at-3 c = search third_word

pub returns : goal.returns
returns c = search told_then
