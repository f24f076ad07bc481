use mathlib.Core.Path.{◌≡◌, sym, ◌∙◌}
use Prim.Native.Nat.{◌-◌}
use native.Mathlib.Omega.{arith}
use lib.ListN.{replicate}
use Rattle.std.proofs.Common.{rules}
use Rattle.std.proofs.lemmas.List.{length-replicate}
use Rattle.std.proofs.lemmas.Slice.{put_mid-paste}
use Rattle.streams.proofs.Laws.{cleared_part}
use Rattle.streams.proofs.clear.Goals as goal

pub returns : goal.returns
returns c = let n = c.args.n in
    let l = c.args.pids.now in
    let z : n - 0 ≡ n = omega arith in
    let e : c.fill.new.self ≡ replicate (n - 0) 0 = search rules in
    put_mid-paste 0 (n - 0) l c.fill.new.self (replicate n 0) n (rw z at e) (sym z) (sym (length-replicate n 0)) ∙ cleared_part n l
