use Prim.Native.Nat.{◌+◌, ◌-◌}
use mathlib.Core.Path.{refl}
use native.Mathlib.Omega.{arith}
use lib.ListN.{length}
use Rattle.std.proofs.lemmas.Slice.{put_mid-paste}
use Rattle.text.proofs.Laws.{wrote_part}
use Rattle.text.proofs.put.Goals as goal

pub returns : goal.returns
returns c = let a = c.args in wrote_part a.out.now a.s.now _ a.at c.requires (put_mid-paste a.at (a.at + length a.s.now - a.at) a.out.now c.copy_from_slice.new.self a.s.now (length a.s.now) c.copy_from_slice.ensures.after (omega arith) refl)
