use Rattle.network_faults.proofs.Ways.{is_nit, is_bat, is_sdt, is_none}
use Rattle.network_faults.proofs.is_of.Goals as goal

pub returns-in-Nit : goal.returns-in-Nit
returns-in-Nit c = search is_nit

pub returns-in-Bat : goal.returns-in-Bat
returns-in-Bat c = search is_bat

pub returns-in-Sdt : goal.returns-in-Sdt
returns-in-Sdt c = search is_sdt

pub returns-in-None : goal.returns-in-None
returns-in-None c = search is_none
