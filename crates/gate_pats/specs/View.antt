-- Offers one after another to a gate with a watch record, and the same gate in another manner of following.
use Rattle.std.specs.Prelude.{ℕ, ◌≡◌, List}
use Rattle.counters.specs.declared.Counters.{Counters}
use Rattle.ring.specs.declared.Ring.{Ring}
use Rattle.gate.specs.Rules.{Offer}
use Rattle.gate_state.specs.State.{Said}
use Rattle.gate_state.specs.declared.Follow.{Follow}
use Rattle.gate_state.specs.declared.Gate.{Gate}
use Rattle.gate_pats.specs.Store.{Kept, Offering, offered_with}

unfoldable pub kept_tells : Kept → Offer → Said
kept_tells s o = (offered_with s o.input o.pid o.section).answer

unfoldable pub kept_acts : Kept → Offer → Kept
kept_acts s o = (offered_with s o.input o.pid o.section).left

-- the same gate, PATs followed in this manner
abbrev pub following : Follow → Gate → Gate
following f g = record { ring = g.ring; repeats = g.repeats; follow = f; change_rule = g.change_rule }

abbrev pub in_manner : Follow → Kept → Kept
in_manner f s = record { gate = following f s.gate; counters = s.counters; keys = s.keys; changes = s.changes; watch = s.watch }

-- all that an offer answers and leaves but the manner and the watch record
pub record Judged : Type 0 where
  pub answer : Said
  pub ring : Ring
  pub counters : Counters
  pub keys : List ℕ
  pub changes : List ℕ

abbrev pub judged_by : Offering → Judged
judged_by l = record { answer = l.answer; ring = l.left.gate.ring; counters = l.left.counters; keys = l.left.keys; changes = l.left.changes }
