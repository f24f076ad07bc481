-- What callers may use of a segment's end, and the examples of it.
-- Assumes nothing.
use mathlib.Core.Path.{◌≡◌, refl}
use Prim.Native.Nat.{ℕ, ◌+◌, ◌/◌, ◌%◌, ◌≤◌, ◌<◌}
use native.Mathlib.Omega.{arith}
use Rattle.eit_section.specs.Segment.{segment_end}

module _ (start number last : ℕ) where
  pub end_within_last : segment_end start number last ≤ last
  unfolding segment_end
  end_within_last = omega arith

  pub end_from_start : start ≤ last → start ≤ segment_end start number last
  unfolding segment_end
  end_from_start h = omega arith

  -- at most eight section numbers
  pub end_near : segment_end start number last < start + 8
  unfolding segment_end
  end_near = omega arith

  -- a segment ends in itself
  pub end_in_segment : start % 8 ≡ 0 → start ≤ last → segment_end start number last / 8 ≡ start / 8
  unfolding segment_end
  end_in_segment z h = omega arith

  -- a number of the segment that is no later than the last section is the end
  pub end_as_sent : start % 8 ≡ 0 → start ≤ number → number < start + 8 → number ≤ last → segment_end start number last ≡ number
  unfolding segment_end
  end_as_sent z h l m = omega arith

-- docs/RULES.md, "Examples": segment end (start, number, last)
pub as_sent : segment_end 8 11 20 ≡ 11
unfolding segment_end
as_sent = refl

pub counted_within : segment_end 8 3 20 ≡ 11
unfolding segment_end
counted_within = refl

pub past_last : segment_end 16 23 17 ≡ 17
unfolding segment_end
past_last = refl

pub no_wrap : segment_end 248 255 255 ≡ 255
unfolding segment_end
no_wrap = refl
