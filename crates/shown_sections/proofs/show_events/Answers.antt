use Rattle.shown_sections.proofs.Ways.{events_from, events_shown}
use Rattle.shown_sections.proofs.show_events.Goals as goal

pub reached-requires : goal.reached-requires
reached-requires c = let a = c.args in events_from a.bytes.now a.start a.size a.number a.skip a.k a.list.now _ _ c.entries-walked.ensures

pub returns : goal.returns
returns c = search events_shown
