-- Sections as they can stand in a section list (docs/RULES.md, "Logs").
-- Assumes nothing.
use Rattle.std.specs.Prelude.{◌≤◌, List, [], ◌∷◌, length}
use Rattle.section.specs.Facts.{Bytes as OfBytes}
use Rattle.rules_logs.specs.Sections.{Given}

-- of bytes, and at most 4,098 of them
pub record Takable (g : Given) : Type 0 where
  pub of_bytes : OfBytes g.section
  pub short : length g.section ≤ 4098

abbrev pub AllTakable : List Given → Type 0
AllTakable [] = Unit {0}
AllTakable (g ∷ gs) = Takable g × AllTakable gs

-- sections are bytes
abbrev pub AllOfBytes : List Given → Type 0
AllOfBytes [] = Unit {0}
AllOfBytes (g ∷ gs) = OfBytes g.section × AllOfBytes gs
