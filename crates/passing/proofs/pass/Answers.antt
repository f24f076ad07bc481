use mathlib.Core.Path.{sym, ◌∙◌}
use Rattle.packet.proofs.Loads.{as_read}
use Rattle.passing.proofs.Laws.{is_malformed_lem, malformed_words, has_nothing, nothing_words, has_payload, payload_words}
use borrow.Author.Rules.{rules}
use Rattle.passing.proofs.pass.Goals as goal

pub pass_pid-requires : goal.pass_pid-requires
pass_pid-requires c = let a = c.args in
    let r = c.read in
    record { looks = search rules; pid_bound = (as_read a.packet.now c.in-Payload.load (λ i. (c.shared_slice_known-2-1.given i).fits) (sym r.ensures ∙ c.in-Payload.is)).pid }

pub returns-in-Malformed : goal.returns-in-Malformed
returns-in-Malformed c = record { value = search is_malformed_lem; pids_after = search malformed_words }

pub returns-in-Nothing : goal.returns-in-Nothing
returns-in-Nothing c = record { value = search has_nothing; pids_after = search nothing_words }

pub returns-in-Payload : goal.returns-in-Payload
returns-in-Payload c = record { value = search has_payload; pids_after = search payload_words }
