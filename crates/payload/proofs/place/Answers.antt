use Rattle.payload.proofs.Laws.{next_word}
use Rattle.payload.proofs.place.Goals as goal

pub bounds-places-k-2 : goal.bounds-places-k-2
bounds-places-k-2 c = search next_word
