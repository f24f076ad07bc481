use Rattle.section.proofs.Laws.{rule_all, rule_stored}
use Rattle.section.proofs.header.ChangeRule.of.Goals as goal

pub returns-then-number-eq-AS_THE_RUST : goal.returns-then-number-eq-AS_THE_RUST
returns-then-number-eq-AS_THE_RUST c = search rule_all

pub returns-else-number-eq-AS_THE_RUST : goal.returns-else-number-eq-AS_THE_RUST
returns-else-number-eq-AS_THE_RUST c = search rule_stored
