-- The six words of a set collector: 0 limit, 1 size, 2 count, 3 used, 4 evictions, 5 clock; and the word of a row that goes out.
use Rattle.std.specs.Prelude.{ℕ, List, [], ◌∷◌, Ok, Err}
use Rattle.answers.specs.Answers.{outcome_no, Outcome}
use Rattle.store.specs.declared.Sets.{Sets}
use Rattle.sets_settle.specs.Settle.{push_no}
use Rattle.sets_settle.specs.declared.PushAnswer.{PushAnswer}
use Rattle.sets_settle.specs.declared.PushAnswer.TheVariants.{Nothing, Set, Refused}
use Rattle.sets.specs.declared.Opened.{Opened}
use Rattle.sets_settle.specs.declared.Pushed.{Pushed}
use Rattle.sets.specs.declared.Cleared.{Cleared}
use Rattle.host_words.specs.Answers.{Words, words, Pushes, pushes, at}

abbrev pub sets_of : List ℕ → Sets
sets_of w = record { limit = at w 0; size = at w 1; count = at w 2; used = at w 3; evictions = at w 4; clock = at w 5 }

-- all six
abbrev pub words_of : Sets → List ℕ
words_of s = s.limit ∷ s.size ∷ s.count ∷ s.used ∷ s.evictions ∷ s.clock ∷ []

-- a call that is no opening writes the counts only
abbrev pub words_after : List ℕ → Sets → List ℕ
words_after w s = at w 0 ∷ at w 1 ∷ at w 2 ∷ s.used ∷ s.evictions ∷ s.clock ∷ []

-- an opening that answers 7 writes all six, a refused one none
abbrev pub words_opened : Outcome → Sets → List ℕ → List ℕ
words_opened (Ok _) s w = words_of s
words_opened (Err r) s w = w

-- the row of a set that goes out; any other answer leaves the word as it was
abbrev pub row_by : PushAnswer → List ℕ → List ℕ
row_by (Set i) row = i ∷ []
row_by Nothing row = row
row_by (Refused r) row = row

-- what each call hands to the host
abbrev pub tells_opened : Opened → List ℕ → Words
tells_opened o w = words (outcome_no o.answer) (words_opened o.answer o.sets w)

abbrev pub tells_pushed : Pushed → List ℕ → List ℕ → Pushes
tells_pushed o w row = pushes (push_no o.answer) (words_after w o.sets) (row_by o.answer row)

abbrev pub tells_cleared : Cleared → List ℕ → Words
tells_cleared o w = words (outcome_no o.answer) (words_after w o.sets)
