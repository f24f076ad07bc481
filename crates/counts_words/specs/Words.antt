-- The words of `counts`: four numbers in their bounds, or a usage line.
-- Assumes nothing.
use Rattle.std.specs.Prelude.{ℕ, Bool, cond, ◌&&◌, leb, Option, Some, None}
use Rattle.counts_words.specs.declared.Words.{Words}

-- at most 16,384 rows of the gate, 128 keys of each collector and 256 cells; an interval of 1 second or more
abbrev pub is_lent : Words → Bool
is_lent w = ((leb w.capacity 16384 && leb w.limit 128) && leb w.cells 256) && leb 1 w.interval

abbrev pub lent : Words → Option Words
lent w = cond (is_lent w) (Some w) None

abbrev pub words_of : (capacity limit cells interval : Option ℕ) → Option Words
words_of None limit cells interval = None
words_of (Some a) None cells interval = None
words_of (Some a) (Some b) None interval = None
words_of (Some a) (Some b) (Some c) None = None
words_of (Some a) (Some b) (Some c) (Some d) = lent (record { capacity = a; limit = b; cells = c; interval = d })
