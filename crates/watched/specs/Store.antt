-- The three sets in the 384 lent words, and exactly what each call answers and leaves, for every content (docs/RULES.md, "Watched PIDs").
-- `cond test a b` is a where the test is true, else b. A set is 128 words: PID p is bit p % 64 of word p / 64.
use Rattle.std.specs.Prelude.{ℕ, List, [], ◌∷◌, ◌++◌, Bool, true, cond, ◌&&◌, length, take, drop, replicate, ltb, leb}
use Rattle.std.specs.Int.Bits.{bit_or}
use Rattle.laws.specs.Bits.{has_bit, add_bits, union, without, less}
use Rattle.section.specs.Ids.{known_pids}
use Rattle.answers.specs.Answers.{outcome_no, Outcome}

-- the sets in the words
abbrev pub watched_of : List ℕ → List ℕ
watched_of words = take 128 words

abbrev pub protected_of : List ℕ → List ℕ
protected_of words = take 128 (drop 128 words)

abbrev pub followed_of : List ℕ → List ℕ
followed_of words = take 128 (drop 256 words)

-- three sets laid into the words; what stands past them stays
abbrev pub laid : List ℕ → List ℕ → List ℕ → List ℕ → List ℕ
laid watched protected followed words = watched ++ (protected ++ (followed ++ drop 384 words))

-- the empty set
abbrev pub no_pids : List ℕ
no_pids = replicate 128 0

-- each number is a PID: below 8192
unfoldable pub all_pids : List ℕ → Bool
all_pids [] = true
all_pids (p ∷ ps) = ltb p 8192 && all_pids ps

-- the PIDs watched and protected from the start: the well-known ones, where that setting is on, and the extra ones
abbrev pub protected_pids : Bool → List ℕ → List ℕ
protected_pids well_known extra = cond well_known known_pids [] ++ extra

-- the words of a watch that was opened
unfoldable pub filled : List ℕ → Bool → List ℕ → List ℕ
filled words well_known extra =
    laid (add_bits no_pids (protected_pids well_known extra)) (add_bits no_pids (protected_pids well_known extra)) no_pids words

-- the number that an opening answers, and the words as it leaves them
pub record Opening : Type 0 where
  pub answer : ℕ
  pub words : List ℕ

abbrev pub opening_by : Outcome → List ℕ → Opening
opening_by r words = record { answer = outcome_no r; words = words }

-- opening: 12, then 13, each with the words as before; else 7
unfoldable pub opened : List ℕ → Bool → List ℕ → Opening
opened words well_known extra =
    cond (all_pids extra)
    (cond (leb 384 (length words))
    (record { answer = 7; words = filled words well_known extra })
    (record { answer = 13; words = words }))
    (record { answer = 12; words = words })

-- the question: 10, then 12, then 8 or 9
unfoldable pub asked : List ℕ → ℕ → ℕ
asked words pid = cond (leb 384 (length words)) (cond (ltb pid 8192) (cond (has_bit (watched_of words) pid) 8 9) 12) 10

-- following n drops what was followed and is neither in n nor protected
abbrev pub dropped_by : List ℕ → List ℕ → List ℕ
dropped_by words n = less (followed_of words) (union n (protected_of words))

-- the watch after following n: what is dropped leaves it, and n is added
unfoldable pub renewed : List ℕ → List ℕ → List ℕ
renewed words n = union (less (watched_of words) (dropped_by words n)) n

-- the same of one word of each set
abbrev pub renewed_word : ℕ → ℕ → ℕ → ℕ → ℕ
renewed_word watched protected followed n = bit_or (without watched (without followed (bit_or n protected))) n

-- the words after following n: n is what is followed now
unfoldable pub following : List ℕ → List ℕ → List ℕ
following words n = laid (renewed words n) (protected_of words) n words
