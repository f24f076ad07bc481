-- `eit_section::fields` meets its contract. Assumes nothing.
use Rattle.eit_section.proofs.fields.Goals as goal

pub returns : goal.returns
returns c = rw (c.word.ensures, c.word-2.ensures, c.word-3.ensures)
