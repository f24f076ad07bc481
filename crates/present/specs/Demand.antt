-- The third demand for present and following, of the rules: two EIT collectors, one key limit no larger than the other, are fed alike from empty. The larger refuses none as conflicting;
-- accepted sections of one segment in the same set, version and last section number give the same segment_last_section_number, and none has a section number
-- above the segment end. Then each present/following set the smaller hands out has, since the last clear, come from the larger at the same section or before.
-- Assumes nothing.
use Rattle.std.specs.Prelude.{◌≡◌, List, ℕ, ◌*◌, ◌≤◌, length}
use Rattle.std.proofs.Math.Option.{some}
use Rattle.rules_shared.specs.Cells.{Settings}
use Rattle.laws.specs.Runs.{answers, At, Never, GivenBy}
use Rattle.rules_eit.specs.Keys.{Kind, kind_of}
use Rattle.rules_eit.specs.Segments.{segment_of, segment_end}
use Rattle.answers.specs.declared.Refusal.TheVariants as refusal
use Rattle.rules_eit.specs.Rules.{Section, key_of, Call, clear, offer, Whole, Answer, refused, handout, tells, acts, opened}

-- the answers of a collector that starts empty
abbrev pub run : Settings → List Call → List Answer
run o calls = answers (tells o) (acts o) opened calls

-- "equal cell size, one with a key limit no larger than the other's"
pub record Smaller (small large : Settings) : Type 0 where
  pub same_cells : small.cell_size ≡ large.cell_size
  pub no_larger : small.limit ≤ large.limit

-- "refuses no section as conflicting": 22 is no answer
abbrev pub NoConflict : List Answer → Type 0
NoConflict as' = Never (refused refusal.Conflict) as'

-- "accepted sections": an EIT's, no longer than a cell. (12, 14 to 17 and 19 are no sections of the rules)
pub record Accepted (o : Settings) (calls : List Call) (x : Section) (kind : Kind) : Type 0 where
  pub at : ℕ
  pub call : At calls at (offer x)
  pub kinded : kind_of x.table_id_of ≡ some kind
  pub short : length x.bytes ≤ o.cell_size

-- ".. of one segment in the same set, version and last section number give the same segment_last_section_number"
abbrev pub SegmentsAgree : Settings → List Call → Type 0
SegmentsAgree o calls = (x y : Section) (k j : Kind) → Accepted o calls x k → Accepted o calls y j → key_of x k ≡ key_of y j
    → x.version ≡ y.version → x.last ≡ y.last → segment_of x.number ≡ segment_of y.number → x.segment_last ≡ y.segment_last

-- ".. and none has a section number above the segment end " (docs/RULES.md, "Collectors")
abbrev pub InsideSegments : Settings → List Call → Type 0
InsideSegments o calls = (x : Section) (k : Kind) → Accepted o calls x k → x.number ≤ segment_end (8 * segment_of x.number) x.segment_last x.last

-- things may be dropped by filter: that nothing is need not be asked
abbrev pub PresentFollowing : Type 0
PresentFollowing = (small large : Settings) → Smaller small large → (calls : List Call) → NoConflict (run large calls) → SegmentsAgree large calls → InsideSegments large calls
    → (t : ℕ) (w : Whole) → At (run small calls) t (handout w) → GivenBy clear handout (run large calls) calls t w
