-- The promise of each call names one result.
-- Assumes nothing.
use mathlib.Core.Path.{◌≡◌, sym, ◌∙◌}
use mathlib.Core.List.{List}
use Prim.Native.Nat.{ℕ}
use Rattle.store.specs.Store.{Store}
use Rattle.log_state.specs.State.{opened_of, ruling_by}
use Rattle.log_state.specs.declared.Settings.{Settings}
use Rattle.log_state.specs.declared.Run.{Run}
use Rattle.log_state.specs.declared.Opened.{Opened}
use Rattle.std.specs.Prelude.{Result}
use Rattle.log_state.specs.declared.Ruling.{Ruling}
use Rattle.log_state.specs.declared.TakeError.{TakeError}

pub unique_open : (s : Settings) (keys changes heads slots cells : ℕ) {x y : Opened}
    → x ≡ opened_of s keys changes heads slots cells → y ≡ opened_of s keys changes heads slots cells → x ≡ y
unique_open s keys changes heads slots cells p q = p ∙ sym q

pub unique_judge : (run : Run) (keys changes : ℕ) (sets : Store) (input pid : ℕ) (section : List ℕ) {x y : Result Ruling TakeError}
    → x ≡ ruling_by run keys changes sets input pid section → y ≡ ruling_by run keys changes sets input pid section → x ≡ y
unique_judge run keys changes sets input pid section p q = p ∙ sym q
