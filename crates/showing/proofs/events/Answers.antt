use Rattle.showing.proofs.Ways.{section_refused, section_told, section_kept}
use Rattle.showing.proofs.events.Goals as goal

pub returns-then-is_malformed : goal.returns-then-is_malformed
returns-then-is_malformed c = search section_refused

pub show_section-last-requires : goal.show_section-last-requires
show_section-last-requires c = search section_kept

pub returns : goal.returns
returns c = search section_told
