use Prim.Native.Nat.{◌+◌, ◌-◌}
use mathlib.Core.Path.{sym}
use native.Mathlib.Omega.{arith}
use Rattle.std.proofs.lemmas.Slice.{put_mid-paste}
use Rattle.watched.proofs.inner.put.Goals as goal

pub returns : goal.returns
returns c = let a = c.args in put_mid-paste a.at (a.at + 128 - a.at) a.words.now c.copy_from_slice.new.self a.set.now 128 c.copy_from_slice.ensures.after (omega arith) (sym c.requires.set_len)
