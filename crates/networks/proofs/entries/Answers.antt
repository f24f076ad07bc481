use Rattle.networks.proofs.Ways.{section_in, section_taken, section_whole, section_refused, section_listed_lem}
use Rattle.networks.proofs.entries.Goals as goal

pub returns-in-Err : goal.returns-in-Err
returns-in-Err c = search section_refused

pub own_length-size-requires : goal.own_length-size-requires
own_length-size-requires c = search section_taken

pub list_section-count-requires : goal.list_section-count-requires
list_section-count-requires c = record { section_in = search section_in; bytes_value = search section_whole }

pub returns : goal.returns
returns c = search section_listed_lem
