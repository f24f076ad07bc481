-- What was kept of a block stands at its front after more was read.
-- Assumes nothing.
use mathlib.Core.Path.{◌≡◌, ap, ◌∙◌}
use mathlib.Core.List.{List}
use Prim.Native.Nat.{ℕ, ◌-◌, ◌≤◌}
use native.Mathlib.Omega.{arith}
use lib.ListN.{length, take, drop, length-append, length-drop}
use lib.Seq.{take_at, length-take-le}
use borrow.Rule.Slice.PartMut.{put_mid, take_put}
use Rattle.payload.specs.Payload.{front}
use Rattle.blocks.specs.declared.Window.{Window}
use Rattle.blocks.specs.Blocks.{Kept}

pub kept_there : (block now part : List ℕ) (w : Window) (k : ℕ) → Kept block w → now ≡ front (take (w.to - w.from) (drop w.from block)) block
    → take (w.to - w.from) (put_mid (w.to - w.from) k now part) ≡ take (w.to - w.from) (drop w.from block)
unfolding front
kept_there block now part w k h e =
    let n : ℕ = w.to - w.from in
    let kept : List ℕ = take n (drop w.from block) in
    let l : length kept ≡ n = length-take-le n (drop w.from block) (omega (arith, h.room, h.ordered, h.inside, length-drop w.from block)) in
    let m : n ≤ length now = omega (arith, ap length e, length-append kept (drop (length kept) block)) in
    take_put n k now part m ∙ ap (take n) e ∙ take_at kept (drop (length kept) block) n l
