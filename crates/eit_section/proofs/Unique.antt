-- The promises of the EIT's calls name one result each.
-- Assumes nothing.
use mathlib.Core.Path.{◌≡◌, sym, ◌∙◌}
use Prim.Native.Nat.{ℕ}
use mathlib.Core.List.{List}
use Rattle.std.specs.Prelude.{Option, Result}
use Rattle.eit_section.specs.declared.Eit.{Eit}
use Rattle.answers.specs.declared.Refusal.{Refusal}
use Rattle.eit_section.specs.declared.Kind.{Kind}
use Rattle.eit_section.specs.Eit.{kind_of, eit_of}
use Rattle.eit_section.specs.Segment.{segment_end}

pub unique_from_table_id : (t : ℕ) (r q : Option Kind) → r ≡ kind_of t → q ≡ kind_of t → r ≡ q
unique_from_table_id t r q a b = a ∙ sym b

pub unique_read : (s : List ℕ) (r q : Result Eit Refusal) → r ≡ eit_of s → q ≡ eit_of s → r ≡ q
unique_read s r q a b = a ∙ sym b

pub unique_segment_end : (start number last r q : ℕ) → r ≡ segment_end start number last → q ≡ segment_end start number last → r ≡ q
unique_segment_end start number last r q a b = a ∙ sym b
