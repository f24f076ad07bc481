use Rattle.host_networks.proofs.Calls.{reader_nit, reader_bat, reader_sdt, reader_none}
use Rattle.host_networks.proofs.reader_of.Goals as goal

pub returns-then-reader-eq1 : goal.returns-then-reader-eq1
returns-then-reader-eq1 c = search reader_nit

pub returns-then-reader-eq2 : goal.returns-then-reader-eq2
returns-then-reader-eq2 c = search reader_bat

pub returns-then-reader-eq3 : goal.returns-then-reader-eq3
returns-then-reader-eq3 c = search reader_sdt

pub returns : goal.returns
returns c = search reader_none
