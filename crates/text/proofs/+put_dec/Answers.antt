-- `text::put_dec` meets its contract. Assumes nothing.
use mathlib.Core.Path.{refl, sym, ap}
use mathlib.Core.List.{[], ◌∷◌}
use Prim.Native.Nat.{◌+◌, ◌/◌, ◌%◌}
use native.Mathlib.Omega.{arith}
use lib.ListN.{length, length-append}
use Rattle.laws.proofs.Writes.{sets_append}
use Rattle.text.specs.Text.{decimal}
use Rattle.text.proofs.Laws.{dec_digit, dec_more, length_more}
use Rattle.text.proofs.+put_dec.Goals as goal

pub bounds-out-at : goal.bounds-out-at
bounds-out-at t c = omega (arith, ap length (dec_digit c.args.v (omega arith)))

pub returns-then-v-lt10 : goal.returns-then-v-lt10
returns-then-v-lt10 t c = rw (dec_digit c.args.v (omega arith)) record { next = refl; bytes = refl }

pub put_dec-last-requires : goal.put_dec-last-requires
put_dec-last-requires t c = (omega arith, omega (arith, length_more c.args.v (omega arith)))

pub bounds-out-last : goal.bounds-out-last
bounds-out-last t c =
    let call = c.put_dec-last in
    omega (arith, call.ensures.next, call.auto.out, length_more c.args.v (omega arith))

pub overflow_add-result-2 : goal.overflow_add-result-2
overflow_add-result-2 t c =
    omega (arith, c.put_dec-last.ensures.next, length_more c.args.v (omega arith))

pub returns : goal.returns
returns t c =
    let a = c.args in
    let e = c.put_dec-last.ensures in
    rw (dec_more a.v (omega arith)) record {
      next = simp (length-append, e.next) (omega arith);
      bytes = rw (e.bytes, e.next) (sym (sets_append (decimal (a.v / 10)) ((48 + a.v % 10) ∷ []) a.out.now a.at));
    }
