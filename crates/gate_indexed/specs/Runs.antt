-- Offers one after another to a gate with an index.
use Rattle.std.specs.Prelude.{ℕ}
use Rattle.ring_index.specs.Store.{Index}
use Rattle.gate_state.specs.State.{Said}
use Rattle.gate.specs.Rules.{Offer}
use Rattle.gate_indexed.specs.Store.{Indexed, offered_by}

unfoldable pub tells_by : Indexed → Offer → Said
tells_by s o = (offered_by s o.input o.pid o.section).answer

unfoldable pub acts_by : Indexed → Offer → Indexed
acts_by s o = (offered_by s o.input o.pid o.section).left
