-- `section::ids::Pid::make` meets its contract. Assumes nothing.
use borrow.Author.Tests.{lt-ltb, le-ltb}
use Rattle.section.proofs.ids.Pid.make.Goals as goal

pub returns-then-v-lt8192 : goal.returns-then-v-lt8192
returns-then-v-lt8192 c = simp (lt-ltb _ _ c.if-v-lt8192.true)

pub returns-else-v-lt8192 : goal.returns-else-v-lt8192
returns-else-v-lt8192 c = simp (le-ltb _ _ c.if-v-lt8192.false)
