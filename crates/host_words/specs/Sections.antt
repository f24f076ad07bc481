-- The three words of a section that a question tells of: 0 number, 1 start, 2 length.
use Rattle.std.specs.Prelude.{ℕ, List, [], ◌∷◌, Ok, Err, true, false}
use Rattle.answers.specs.Answers.{reply_no, Reply}
use Rattle.readers.specs.declared.Next.{Next}
use Rattle.host_words.specs.Answers.{Words, words}

-- 8 writes all three; 9 and a refusal leave them as they were
abbrev pub section_after : Reply → Next → List ℕ → List ℕ
section_after (Ok true) n w = n.number ∷ n.start ∷ n.length ∷ []
section_after (Ok false) n w = w
section_after (Err r) n w = w

-- what a question hands to the host
abbrev pub tells_next : Next → List ℕ → Words
tells_next n w = words (reply_no n.answer) (section_after n.answer n w)
