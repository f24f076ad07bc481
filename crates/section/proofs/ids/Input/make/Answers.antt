-- `section::ids::Input::make` meets its contract. Assumes nothing.
use borrow.Author.Tests.{lt-ltb, le-ltb}
use Rattle.section.proofs.ids.Input.make.Goals as goal

pub returns-then-v-lt-COUNT : goal.returns-then-v-lt-COUNT
returns-then-v-lt-COUNT c = simp (lt-ltb _ _ c.if-v-lt-COUNT.true)

pub returns-else-v-lt-COUNT : goal.returns-else-v-lt-COUNT
returns-else-v-lt-COUNT c = simp (le-ltb _ _ c.if-v-lt-COUNT.false)
