-- The promise of `take` names one result and one content of each lent slice.
-- Assumes nothing.
use mathlib.Core.Path.{◌≡◌, sym, ap, ◌∙◌}
use mathlib.Core.List.{List}
use Prim.Native.Nat.{ℕ}
use Rattle.log_state.specs.State.{Lent}
use Rattle.log_run.specs.Store.{Shown, after_take, taken_of}
use Rattle.log_run.specs.declared.Taken.{Taken}

pub unique_take : (s : Lent) (input pid : ℕ) (section : List ℕ) (x y : Taken) (ks cs hs ss zs ks' cs' hs' ss' zs' : List ℕ)
    → after_take x ks cs hs ss zs ≡ taken_of s input pid section → after_take y ks' cs' hs' ss' zs' ≡ taken_of s input pid section
    → (x ≡ y) × (ks ≡ ks') × (cs ≡ cs') × (hs ≡ hs') × (ss ≡ ss') × (zs ≡ zs')
unique_take s input pid section x y ks cs hs ss zs ks' cs' hs' ss' zs' p q =
    let e : after_take x ks cs hs ss zs ≡ after_take y ks' cs' hs' ss' zs' = p ∙ sym q in (
      λ i. record { answer = (e i).answer; entry = (e i).entry; run = (e i).left.run },
      ap (λ (l : Shown). l.left.keys) e,
      ap (λ (l : Shown). l.left.changes) e,
      ap (λ (l : Shown). l.left.heads) e,
      ap (λ (l : Shown). l.left.slots) e,
      ap (λ (l : Shown). l.left.cells) e,
    )
