use Rattle.networks.proofs.Ways.{three, length_is}
use borrow.Author.Rules.{rules}
use Rattle.networks.proofs.own_length.Goals as goal

pub section_length-requires : goal.section_length-requires
section_length-requires c = search three

pub returns : goal.returns
returns c = (search length_is, search rules)
