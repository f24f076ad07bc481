-- The three words of the streams of one input: 0 count, 1 packets, 2 malformed; and the word that tells how many sections a packet finished.
use Rattle.std.specs.Prelude.{ℕ, ◌+◌, List, [], ◌∷◌, cond, eqb, Ok, Err}
use Rattle.answers.specs.Answers.{outcome_no, Outcome}
use Rattle.streams.specs.declared.Streams.{Streams}
use Rattle.streams.specs.declared.Opened.{Opened}
use Rattle.demux_state.specs.State.{Said, plain, finished, said_of, number_of}
use Rattle.demux_state.specs.declared.Fed.{Fed}
use Rattle.host_words.specs.Answers.{Words, words, at}
use Rattle.host_gate_words.specs.Words as gate

abbrev pub streams_of : List ℕ → Streams
streams_of w = record { count = at w 0; packets = at w 1; malformed = at w 2 }

abbrev pub words_of : Streams → List ℕ
words_of s = s.count ∷ s.packets ∷ s.malformed ∷ []

-- an opening that answers 7 writes all three, a refused one none
abbrev pub words_opened : Outcome → Streams → List ℕ → List ℕ
words_opened (Ok _) s w = words_of s
words_opened (Err r) s w = w

abbrev pub tells_opened : Opened → List ℕ → Words
tells_opened o w = words (outcome_no o.answer) (words_opened o.answer o.streams w)

-- a packet writes words 1 and 2 only
abbrev pub words_after : List ℕ → Streams → List ℕ
words_after w s = at w 0 ∷ s.packets ∷ s.malformed ∷ []

-- what an answer other than 29 counts: 30 packets and malformed, 43 packets, every other nothing
abbrev pub counts_after : (answer : ℕ) → List ℕ → List ℕ
counts_after answer w = cond (eqb answer 30) (at w 0 ∷ (at w 1 + 1) ∷ (at w 2 + 1) ∷ []) (cond (eqb answer 43) (at w 0 ∷ (at w 1 + 1) ∷ at w 2 ∷ []) w)

-- 29 writes how many sections were finished; every other answer leaves the word as it was
abbrev pub finished_after : Said → List ℕ → List ℕ
finished_after (plain n) w = w
finished_after (finished n) w = n ∷ []

-- an answer, the words of the gate, those of the streams, and how many sections were finished
pub record Told : Type 0 where
  pub answer : ℕ
  pub gate : List ℕ
  pub streams : List ℕ
  pub finished : List ℕ

abbrev pub told : ℕ → List ℕ → List ℕ → List ℕ → Told
told answer g s n = record { answer = answer; gate = g; streams = s; finished = n }

-- what a packet hands to the host
abbrev pub tells_said : Said → List ℕ → List ℕ → List ℕ → Told
tells_said a g s n = told (number_of a) g s (finished_after a n)

abbrev pub tells_fed : Fed → List ℕ → List ℕ → List ℕ → Told
tells_fed f w v n = tells_said (said_of f.answer) (gate.words_after w f.gate f.counters) (words_after v f.streams) n
