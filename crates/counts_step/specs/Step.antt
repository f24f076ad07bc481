-- What `counts` counts of a packet's own answer: 43, no section buffer free. `cond test a b` is a where the test is true, else b.
-- Assumes nothing.
use Rattle.std.specs.Prelude.{List, cond, ℕ, eqb}
use Rattle.demux_state.specs.State.{said_of, number_of}
use Rattle.demux_state.specs.declared.Answer.{Answer}
use Rattle.tallies.specs.Columns.{counted_in}

unfoldable pub no_buffer_counted : List ℕ → Answer → List ℕ
no_buffer_counted tally answer = cond (eqb (number_of (said_of answer)) 43) (counted_in tally 0) tally
