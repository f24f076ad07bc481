-- The promise of each call names one result.
-- Assumes nothing.
use mathlib.Core.Path.{◌≡◌, sym, ◌∙◌}
use mathlib.Core.List.{List}
use Prim.Native.Nat.{ℕ}
use Rattle.section.specs.declared.header.ChangeRule.{ChangeRule}
use Rattle.std.specs.Prelude.{Option}
use Rattle.gate_state.specs.declared.Answer.{Answer}
use Rattle.log_makers.specs.Makers.{noted_of, set_entry}
use Rattle.log_entries.specs.declared.Entry.{Entry}
use Rattle.std.specs.Prelude.{Result}
use Rattle.log_makers.specs.declared.NoteError.{NoteError}

pub unique_offer_record : (a : Answer) (rule : ChangeRule) (input pid : ℕ) (section : List ℕ) {x y : Result Entry NoteError}
    → x ≡ noted_of a rule input pid section → y ≡ noted_of a rule input pid section → x ≡ y
unique_offer_record a rule input pid section p q = p ∙ sym q

pub unique_set_record : (input : ℕ) (pid : Option ℕ) (section : List ℕ) {x y : Entry} → x ≡ set_entry input pid section → y ≡ set_entry input pid section → x ≡ y
unique_set_record input pid section p q = p ∙ sym q
