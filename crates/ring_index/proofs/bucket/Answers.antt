use mathlib.Core.Path.{refl}
use native.Mathlib.Nat.{mod-lt}
use native.Mathlib.Omega.{arith}
use Rattle.ring_index.specs.Store.{bucket_of}
use Rattle.ring_index.proofs.bucket.Goals as goal

pub returns : goal.returns
unfolding bucket_of
returns c = record { value = refl; upper_bound = mod-lt _ (omega arith) }
