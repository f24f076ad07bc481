-- What a gate with a watch record over lent memory stands for.
use Rattle.std.specs.Prelude.{cond}
use Rattle.gate.specs.Rules.{Offer}
use Rattle.gate.specs.View.{held_by}
use Rattle.gate_state.specs.State.{Said, by_tables}
use Rattle.pats.specs.Store.{Record, pat_clock}
use Rattle.gate_pats.specs.Store.{Kept, Offering, sections_in}
use Rattle.gate_pats_indexed.specs.Store as indexed
use Rattle.gate_pats_indexed.specs.Store.{KeptBy}
use Rattle.ties_pats.specs.View.{shown}
use Rattle.ties_gate_pats.specs.Rules.{PatStore, begun, Holding, ToldWith}

-- the PAT store of a record
abbrev pub pats_in : Record → PatStore
pats_in r = record { sets = (shown r).sets; clock = pat_clock r.words }

-- where complete PATs are not followed there is no PAT store
abbrev pub pats_of : Kept → PatStore
pats_of s = cond (by_tables s.gate.follow) (pats_in s.watch) begun

abbrev pub holding : Kept → Holding
holding s = record { held = held_by (sections_in s); pats = pats_of s }

abbrev pub shown_with : Offering → ToldWith
shown_with l = record { answer = l.answer; holding = holding l.left }

-- ---- offers one after another where the gate's rows have an index

unfoldable pub kept_tells_by : KeptBy → Offer → Said
kept_tells_by s o = (indexed.offered_with s o.input o.pid o.section).answer

unfoldable pub kept_acts_by : KeptBy → Offer → KeptBy
kept_acts_by s o = (indexed.offered_with s o.input o.pid o.section).left
