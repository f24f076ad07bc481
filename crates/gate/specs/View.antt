-- What a gate over lent memory stands for, and its calls one after another.
use Rattle.std.specs.Prelude.{ℕ, ◌≤◌, ◌≡◌, true, length}
use Rattle.section.specs.Judged.{rule_known}
use Rattle.ring.specs.View.{Memory, in_order, Reached}
use Rattle.watched.specs.View.{watch_in}
use Rattle.gate.specs.Rules.{Offer, Manner, Held, Told}
use Rattle.gate.specs.Store.{Store, Offering, offered}
use Rattle.gate_state.specs.State.{Said, number_of, by_sections}
use Rattle.gate_state.specs.declared.Gate.{Gate}

abbrev pub manner_of : Gate → Manner
manner_of g = record { capacity = g.ring.capacity; repeats = g.repeats; follow = by_sections g.follow; rule = g.change_rule }

abbrev pub memory_of : Store → Memory
memory_of s = record { ring = s.gate.ring; keys = s.keys; changes = s.changes }

abbrev pub held_by : Store → Held
held_by s = record { rows = in_order (memory_of s); counters = s.counters; watch = watch_in s.words }

abbrev pub shown_by : Offering → Told
shown_by l = record { answer = l.answer; held = held_by l.store }

-- what every store has that came from an opened one
pub record Opened (s : Store) : Type 0 where
  pub reached : Reached (memory_of s)
  pub watch : 384 ≤ length s.words
  pub rule : rule_known s.gate.change_rule ≡ true

unfoldable pub store_tells : Store → Offer → Said
store_tells s o = (offered s o.input o.pid o.section).answer

-- its number alone
abbrev pub store_no : Store → Offer → ℕ
store_no s o = number_of (store_tells s o)

unfoldable pub store_acts : Store → Offer → Store
store_acts s o = (offered s o.input o.pid o.section).store
