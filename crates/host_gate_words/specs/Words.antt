-- The thirteen words of a gate: 0 capacity, 1 repeats, 2 follow (0 off, 2 each changed PAT section, any other complete PATs), 3 change rule, 4 used, 5 first, 6 completed, 7 emitted, 8 suppressed,
-- 9 CRC failures, 10 short sections, 11 CRC mismatches, 12 evictions; its settings as bits; and the three words of a failure.
use Rattle.std.specs.Prelude.{ℕ, ◌/◌, ◌%◌, List, [], ◌∷◌, Bool, cond, not, eqb, Ok, Err}
use Rattle.answers.specs.Answers.{outcome_no, Outcome}
use Rattle.counters.specs.Counters.{counts}
use Rattle.counters.specs.declared.Counters.{Counters}
use Rattle.gate_state.specs.State.{Said, plain, short, mismatch, said_of, number_of}
use Rattle.gate_state.specs.declared.Follow.{Follow}
use Rattle.gate_state.specs.declared.Follow.TheVariants.{Off, Sections, Tables}
use Rattle.gate_state.specs.declared.Settings.{Settings}
use Rattle.gate_state.specs.declared.Gate.{Gate}
use Rattle.gate_state.specs.declared.Opened.{Opened}
use Rattle.gate_state.specs.declared.Offered.{Offered}
use Rattle.host_words.specs.Answers.{Words, words, at}
use Rattle.host_gate_words.specs.declared.Held.{Held}

-- the one setting of a watch
abbrev pub asks_for_known : ℕ → Bool
asks_for_known bits = eqb (bits / 4 % 2) 1

-- how PATs are to be followed: bit 2 switches it on, bit 8 with it asks for each changed section
abbrev pub follow_asked : ℕ → Follow
follow_asked bits = cond (eqb (bits / 2 % 2) 1) (cond (eqb (bits / 8 % 2) 1) Sections Tables) Off

-- what the word `follow` says, whatever it is
abbrev pub follow_in : ℕ → Follow
follow_in w = cond (eqb w 0) Off (cond (eqb w 2) Sections Tables)

-- the word that says it
abbrev pub follow_word : Follow → ℕ
follow_word Off = 0
follow_word Sections = 2
follow_word Tables = 1

-- bit 1 repeats, 2 follow, 4 the well-known PIDs, 8 with 2 each changed PAT section; other bits are not looked at
abbrev pub settings_of : ℕ → ℕ → ℕ → Settings
settings_of capacity bits rule =
    record { capacity = capacity; repeats = eqb (bits % 2) 1; follow = follow_asked bits; well_known = asks_for_known bits; change_rule = rule }

abbrev pub is_on : ℕ → Bool
is_on w = not (eqb w 0)

abbrev pub gate_of : List ℕ → Gate
gate_of w =
    record { ring = record { capacity = at w 0; used = at w 4; first = at w 5 }; repeats = is_on (at w 1); follow = follow_in (at w 2); change_rule = at w 3 }

abbrev pub counters_of : List ℕ → Counters
counters_of w = counts (at w 6) (at w 7) (at w 8) (at w 9) (at w 10) (at w 11) (at w 12)

abbrev pub held_in : List ℕ → Held
held_in w = record { gate = gate_of w; counters = counters_of w }

abbrev pub bit : Bool → ℕ
bit on = cond on 1 0

-- words 4 to 12
abbrev pub counts_of : Gate → Counters → List ℕ
counts_of g c =
    g.ring.used ∷ g.ring.first ∷ c.completed ∷ c.emitted ∷ c.suppressed ∷ c.crc_failures
    ∷ c.short_sections ∷ c.crc_mismatches ∷ c.evictions ∷ []

-- all thirteen
abbrev pub words_of : Gate → Counters → List ℕ
words_of g c = g.ring.capacity ∷ bit g.repeats ∷ follow_word g.follow ∷ g.change_rule ∷ counts_of g c

-- an offer writes words 4 to 12 only
abbrev pub words_after : List ℕ → Gate → Counters → List ℕ
words_after w g c = at w 0 ∷ at w 1 ∷ at w 2 ∷ at w 3 ∷ counts_of g c

-- an opening that answers 7 writes all thirteen, a refused one none
abbrev pub words_opened : Outcome → Gate → Counters → List ℕ → List ℕ
words_opened (Ok _) g c w = words_of g c
words_opened (Err r) g c w = w

-- what an opening and an offer hand to the host
abbrev pub tells_opened : Opened → List ℕ → Words
tells_opened o w = words (outcome_no o.answer) (words_opened o.answer o.gate o.counters w)

-- the words of a failure: length, stored, worked. 31 and 3 write them; every other answer leaves them as they were
abbrev pub failure_after : Said → List ℕ → List ℕ
failure_after (plain n) w = w
failure_after (short n) w = n ∷ 0 ∷ 0 ∷ []
failure_after (mismatch stored worked) w = 0 ∷ stored ∷ worked ∷ []

-- an answer, the words of the gate, and those of the failure
pub record Told : Type 0 where
  pub answer : ℕ
  pub gate : List ℕ
  pub failure : List ℕ

abbrev pub told : ℕ → List ℕ → List ℕ → Told
told answer gate failure = record { answer = answer; gate = gate; failure = failure }

abbrev pub tells_offered : Offered → List ℕ → List ℕ → Told
tells_offered o w f = told (number_of (said_of o.answer)) (words_after w o.gate o.counters) (failure_after (said_of o.answer) f)
