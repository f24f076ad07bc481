use Rattle.std.proofs.Common.{◌≡◌, Err}
use Rattle.log_list.specs.declared.ListError.TheVariants as error
use Rattle.eit_each.specs.Each.{after_all}
use Rattle.eit_all.proofs.Ways.{all_pushed, all_cut, all_long, all_whole_lem}
use Rattle.eit_all.proofs.push_all.Goals as goal

pub push_listed-requires : goal.push_listed-requires
push_listed-requires c = let a = c.args in all_whole_lem a.eit a.heads.now a.slots.now a.cells.now a.schedule_heads.now a.units.now a.list.now c.judge.result c.judge.ensures c.in-Ok.is

pub returns-in-Ok : goal.returns-in-Ok
returns-in-Ok c = let a = c.args in let k = c.push_listed in all_pushed a.eit a.heads.now a.slots.now a.cells.now a.schedule_heads.now a.units.now a.list.now c.judge.result c.judge.ensures (after_all k.result k.new.heads k.new.slots k.new.cells k.new.schedule_heads k.new.units) c.in-Ok.is k.ensures

pub returns-in-Err-Cut : goal.returns-in-Err-Cut
returns-in-Err-Cut c = let a = c.args in let f : c.judge.result ≡ Err error.Cut = cc in all_cut a.eit a.heads.now a.slots.now a.cells.now a.schedule_heads.now a.units.now a.list.now c.judge.result c.judge.ensures c.refuse.result f c.refuse.ensures

pub returns-in-Err-TooLong : goal.returns-in-Err-TooLong
returns-in-Err-TooLong c = let a = c.args in let f : c.judge.result ≡ Err error.TooLong = cc in all_long a.eit a.heads.now a.slots.now a.cells.now a.schedule_heads.now a.units.now a.list.now c.judge.result c.judge.ensures c.refuse-in-Err-TooLong.result f c.refuse-in-Err-TooLong.ensures
