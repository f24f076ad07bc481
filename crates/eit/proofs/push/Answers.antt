use Rattle.eit.proofs.Calls.{pushed_refused, pushed_done, admitted_whole, admitted_numbered, admitted_counts}
use Rattle.eit.proofs.push.Goals as goal

pub push_whole-requires : goal.push_whole-requires
push_whole-requires c = let a = c.args in
    let o = c.admit.ensures.admitted in
    let e = c.in-Ok.is in
    let x = c.in-Ok.a in
    let v = c.admit.result in
    record { whole = admitted_whole a.eit a.heads.now a.slots.now a.cells.now a.schedule_heads.now a.units.now v o x e; numbered = admitted_numbered a.eit a.heads.now a.slots.now a.cells.now a.schedule_heads.now a.units.now v o x e; can_count = admitted_counts a.eit a.heads.now a.slots.now a.cells.now a.schedule_heads.now a.units.now v o x e }

pub returns-in-Err : goal.returns-in-Err
returns-in-Err c = let a = c.args in pushed_refused a.eit a.heads.now a.slots.now a.cells.now a.schedule_heads.now a.units.now a.input a.pid a.bytes.now c.admit.result c.admit.ensures.value c.in-Err.refusal c.in-Err.is

pub returns-in-Ok : goal.returns-in-Ok
returns-in-Ok c = search pushed_done
