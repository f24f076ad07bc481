use mathlib.Core.Path.{sym, ◌∙◌}
use Rattle.packet.proofs.Loads.{as_read}
use Rattle.demux_packets.proofs.Laws.{is_malformed_lem, has_nothing, has_payload}
use borrow.Author.Rules.{rules}
use Rattle.demux_packets.proofs.judge.Goals as goal

pub judge_load-requires : goal.judge_load-requires
judge_load-requires c = let a = c.args in
    let r = c.read in
    record { lent = search rules; pid_bound = (as_read a.packet.now c.in-Payload.load (λ i. (c.shared_slice_known-1.given i).fits) (sym r.ensures ∙ c.in-Payload.is)).pid }

pub returns-in-Malformed : goal.returns-in-Malformed
returns-in-Malformed c = search is_malformed_lem

pub returns-in-Nothing : goal.returns-in-Nothing
returns-in-Nothing c = search has_nothing

pub returns-in-Payload : goal.returns-in-Payload
returns-in-Payload c = search has_payload
