use Rattle.network_entries.proofs.Ways.{nit_none, bat_none, sdt_none, section_nit, section_bat, section_sdt, section_none}
use borrow.Author.Rules.{rules}
use Rattle.network_entries.proofs.list_section.Goals as goal

pub list_nit-requires : goal.list_nit-requires
list_nit-requires c = record { section_in = search rules; bytes_value = search nit_none }

pub list_nit-requires-in-Bat : goal.list_nit-requires-in-Bat
list_nit-requires-in-Bat c = record { section_in = search rules; bytes_value = search bat_none }

pub list_sdt-requires : goal.list_sdt-requires
list_sdt-requires c = record { section_in = search rules; bytes_value = search sdt_none }

pub returns-in-Nit : goal.returns-in-Nit
returns-in-Nit c = (search section_nit, search rules)

pub returns-in-Bat : goal.returns-in-Bat
returns-in-Bat c = (search section_bat, search rules)

pub returns-in-Sdt : goal.returns-in-Sdt
returns-in-Sdt c = (search section_sdt, search rules)

pub returns-in-None : goal.returns-in-None
returns-in-None c = (search section_none, search rules)
