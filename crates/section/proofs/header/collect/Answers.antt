use Rattle.section.proofs.Laws.{collected_long_lem, collected_malformed, collected_short, formed_12, formed_3}
use Rattle.section.proofs.header.collect.Goals as goal

pub returns-then-is_malformed : goal.returns-then-is_malformed
returns-then-is_malformed c = search collected_malformed

pub long_form-requires : goal.long_form-requires
long_form-requires c = search formed_3

pub collect_long-requires : goal.collect_long-requires
collect_long-requires c = search formed_12

pub returns-then-long_form : goal.returns-then-long_form
returns-then-long_form c = search collected_long_lem

pub returns-else-long_form : goal.returns-else-long_form
returns-else-long_form c = search collected_short
