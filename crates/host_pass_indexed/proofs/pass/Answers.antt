use Rattle.host_pass_indexed.proofs.Calls.{packets_passed_lem}
use Rattle.host_pass_indexed.proofs.pass.Goals as goal

pub returns : goal.returns
returns c = search packets_passed_lem
