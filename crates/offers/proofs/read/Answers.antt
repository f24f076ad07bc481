use Rattle.offers.proofs.Facts.{read_refused, read_section_lem, read_taken}
use Rattle.offers.proofs.read.Goals as goal

pub returns-in-Ok : goal.returns-in-Ok
returns-in-Ok c = let a = c.args in
    record { value = search read_section_lem; taken = read_taken a.section.now a.rule a.input a.pid c.read_from.result (search read_section_lem) }

pub returns-in-Err : goal.returns-in-Err
returns-in-Err c = record { value = search read_refused; taken = tt }
