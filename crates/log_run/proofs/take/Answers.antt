use Rattle.std.proofs.Common.{◌≡◌, Ok}
use Rattle.log_state.specs.declared.Ruling.TheVariants as ruling
use Rattle.store.specs.Store.{store}
use lib.ListN.{length}
use Rattle.log_run.specs.Store.{after_take}
use Rattle.log_state.specs.State.{lent}
use Rattle.log_run.proofs.Laws.{taken_refused, taken_failed, taken_arrived, failed_fits, arrives}
use Rattle.log_run.proofs.take.Goals as goal

pub failed_entry-requires : goal.failed_entry-requires
failed_entry-requires c = let a = c.args in let j = c.judge in let f : j.result ≡ Ok (ruling.Failed c.in-Ok-Failed.short) = cc in failed_fits a.run (length a.keys.now) (length a.changes.now) (store a.run.sets a.heads.now a.slots.now a.cells.now) a.input a.pid a.section.now j.result j.ensures.ruling_ok c.in-Ok-Failed.short f

pub admit-requires : goal.admit-requires
admit-requires c = let a = c.args in let j = c.judge in let f : j.result ≡ Ok (ruling.Arrived c.in-Ok-Arrived.sight) = cc in arrives a.run (length a.keys.now) (length a.changes.now) (store a.run.sets a.heads.now a.slots.now a.cells.now) a.input a.pid a.section.now j.result j.ensures.ruling_ok c.in-Ok-Arrived.sight f

pub returns-in-Err : goal.returns-in-Err
returns-in-Err c = let a = c.args in let j = c.judge in taken_refused (lent a.run a.keys.now a.changes.now a.heads.now a.slots.now a.cells.now) a.input a.pid a.section.now j.result j.ensures.value c.in-Err.error c.none.result c.in-Err.is c.none.ensures

pub returns-in-Ok-Failed : goal.returns-in-Ok-Failed
returns-in-Ok-Failed c = let a = c.args in let j = c.judge in let f : j.result ≡ Ok (ruling.Failed c.in-Ok-Failed.short) = cc in taken_failed (lent a.run a.keys.now a.changes.now a.heads.now a.slots.now a.cells.now) a.input a.pid a.section.now j.result j.ensures.value c.in-Ok-Failed.short c.failed_entry.result f c.failed_entry.ensures

pub returns-in-Ok-Arrived : goal.returns-in-Ok-Arrived
returns-in-Ok-Arrived c = let a = c.args in let j = c.judge in let d = c.admit in let f : j.result ≡ Ok (ruling.Arrived c.in-Ok-Arrived.sight) = cc in taken_arrived (lent a.run a.keys.now a.changes.now a.heads.now a.slots.now a.cells.now) a.input a.pid a.section.now j.result j.ensures.value c.in-Ok-Arrived.sight (after_take d.result d.new.keys d.new.changes d.new.heads d.new.slots d.new.cells) f d.ensures
