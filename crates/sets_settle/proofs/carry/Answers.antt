use mathlib.Core.Path.{refl}
use native.Mathlib.Omega.{arith}
use Rattle.store.specs.Store.{store}
use Rattle.sets_settle.specs.Settle.{after_push}
use Rattle.sets_settle.proofs.Doing.{carried_refuse, carried_silent, carried_conflict, carried_repeat, carried_keep, conflict_may, repeat_may, keep_may}
use Rattle.sets_settle.proofs.carry.Goals as goal

pub enum_known-plan : goal.enum_known-plan
enum_known-plan c = c.in-Refuse.in-Refuse-own.keys1

pub enum_told-1 : goal.enum_told-1
enum_told-1 c = c.in-Silent.in-Silent-own.keys2

pub enum_known-plan-in-Conflict-1 : goal.enum_known-plan-in-Conflict-1
enum_known-plan-in-Conflict-1 c = c.in-Conflict.in-Conflict-own.keys3

pub overflow_add-sets : goal.overflow_add-sets
overflow_add-sets c = let a = c.args in omega (arith, conflict_may a.sets a.heads.now a.slots.now a.cells.now a.bytes.now a.plan c.in-Conflict.i c.in-Conflict.is c.requires, c.struct_known-1.given)

pub touch-requires : goal.touch-requires
touch-requires c = let a = c.args in omega (arith, conflict_may a.sets a.heads.now a.slots.now a.cells.now a.bytes.now a.plan c.in-Conflict.i c.in-Conflict.is c.requires)

pub risen-requires : goal.risen-requires
risen-requires c = let a = c.args in (conflict_may a.sets a.heads.now a.slots.now a.cells.now a.bytes.now a.plan c.in-Conflict.i c.in-Conflict.is c.requires).runs

pub enum_known-plan-in-Repeat-1 : goal.enum_known-plan-in-Repeat-1
enum_known-plan-in-Repeat-1 c = c.in-Repeat.in-Repeat-own.keys4

pub overflow_add-sets-in-Repeat : goal.overflow_add-sets-in-Repeat
overflow_add-sets-in-Repeat c = let a = c.args in omega (arith, repeat_may a.sets a.heads.now a.slots.now a.cells.now a.bytes.now a.plan c.in-Repeat.i c.in-Repeat.is c.requires, c.struct_known-in-Repeat-1.given)

pub settle-requires : goal.settle-requires
settle-requires c = let a = c.args in omega (arith, repeat_may a.sets a.heads.now a.slots.now a.cells.now a.bytes.now a.plan c.in-Repeat.i c.in-Repeat.is c.requires)

pub risen-requires-in-Repeat : goal.risen-requires-in-Repeat
risen-requires-in-Repeat c = let a = c.args in (repeat_may a.sets a.heads.now a.slots.now a.cells.now a.bytes.now a.plan c.in-Repeat.i c.in-Repeat.is c.requires).runs

pub enum_known-plan-in-Keep-1 : goal.enum_known-plan-in-Keep-1
enum_known-plan-in-Keep-1 c = c.in-Keep.in-Keep-own.keys5

pub keep-requires : goal.keep-requires
keep-requires c = let a = c.args in keep_may a.sets a.heads.now a.slots.now a.cells.now a.bytes.now a.plan c.in-Keep.k c.in-Keep.is c.requires

pub returns-in-Refuse : goal.returns-in-Refuse
returns-in-Refuse c = let a = c.args in carried_refuse (store a.sets a.heads.now a.slots.now a.cells.now) a.bytes.now a.plan c.in-Refuse.refusal c.in-Refuse.is

pub returns-in-Silent : goal.returns-in-Silent
returns-in-Silent c = let a = c.args in carried_silent (store a.sets a.heads.now a.slots.now a.cells.now) a.bytes.now a.plan c.in-Silent.is

pub shape_of-heads-in-Conflict : goal.shape_of-heads-in-Conflict
shape_of-heads-in-Conflict c = c.touch.auto.heads

pub returns-in-Conflict : goal.returns-in-Conflict
returns-in-Conflict c = let a = c.args in
    carried_conflict (store a.sets a.heads.now a.slots.now a.cells.now) a.bytes.now a.plan c.in-Conflict.i c.touch.new.heads c.risen.result c.in-Conflict.is c.touch.ensures c.risen.ensures

pub shape_of-heads-in-Repeat : goal.shape_of-heads-in-Repeat
shape_of-heads-in-Repeat c = c.settle.auto.heads

pub shape_of-slots-in-Repeat : goal.shape_of-slots-in-Repeat
shape_of-slots-in-Repeat c = refl

pub returns-in-Repeat : goal.returns-in-Repeat
returns-in-Repeat c = let a = c.args in
    carried_repeat (store a.sets a.heads.now a.slots.now a.cells.now) a.bytes.now a.plan c.in-Repeat.i c.settle.result c.settle.new.heads c.risen-in-Repeat.result c.in-Repeat.is c.settle.ensures.value c.settle.ensures.heads_after c.risen-in-Repeat.ensures

pub shape_of-heads-in-Keep : goal.shape_of-heads-in-Keep
shape_of-heads-in-Keep c = c.keep.auto.heads

pub shape_of-slots-in-Keep : goal.shape_of-slots-in-Keep
shape_of-slots-in-Keep c = c.keep.auto.slots

pub shape_of-cells : goal.shape_of-cells
shape_of-cells c = c.keep.auto.cells

pub returns-in-Keep : goal.returns-in-Keep
returns-in-Keep c = let a = c.args in carried_keep (store a.sets a.heads.now a.slots.now a.cells.now) a.bytes.now a.plan c.in-Keep.k (after_push c.keep.result c.keep.new.heads c.keep.new.slots c.keep.new.cells) c.in-Keep.is c.keep.ensures
