-- One law for each way out of a function.
-- Assumes nothing.
use mathlib.Core.Path.{◌≡◌}
use mathlib.Core.Bool.{Bool}
use mathlib.Core.List.{List, [], ◌∷◌}
use Prim.Native.Nat.{ℕ, ◌%◌, ◌/◌}
use lib.Dec.{eqb}
use Rattle.answers.specs.Answers.{Outcome}
use Rattle.std.specs.Prelude.{Ok, Err}
use Rattle.answers.specs.declared.Refusal.{Refusal}
use Rattle.offers.specs.declared.Failure.{Failure}
use Rattle.offers.specs.declared.Failure.TheVariants.{TooShort, Mismatch}
use Rattle.gate_state.specs.State.{said_of, failure_said}
use Rattle.gate_state.specs.declared.Answer.{Answer}
use Rattle.gate_state.specs.declared.Answer.TheVariants as answer
use Rattle.counters.specs.declared.Counters.{Counters}
use Rattle.gate_state.specs.declared.Gate.{Gate}
use Rattle.gate_state.specs.declared.Follow.{Follow}
use Rattle.gate_state.specs.declared.Follow.TheVariants.{Off, Sections, Tables}
use Rattle.host_words.specs.Answers.{at}
use borrow.Author.Tests.{eq-eqb, ne_eqb}
use Rattle.gate_state.specs.declared.Settings.{Settings}
use Rattle.host_gate_words.specs.declared.Held.{Held}
use Rattle.host_gate_words.specs.Words.{asks_for_known, follow_asked, follow_in, is_on, settings_of, gate_of, counters_of, held_in, words_of, words_opened, failure_after, told}

pub settings_are :
    (capacity bits rule : ℕ) (follow : Follow) (known : Bool) → follow ≡ follow_asked bits → known ≡ asks_for_known bits →
    ◌≡◌ {A = Settings} (record { capacity = capacity; repeats = eqb (bits % 2) 1; follow = follow; well_known = known; change_rule = rule }) (settings_of capacity bits rule)
settings_are capacity bits rule follow known f e = rw (f, e)

-- the ways out of reading how PATs are followed, from bits and from a word
module _ (bits : ℕ) where
  pub asked_off : (bits / 2 % 2 ≡ 1 → ⊥) → Off ≡ follow_asked bits
  asked_off h = rw (ne_eqb (bits / 2 % 2) 1 h)

  pub asked_sections : bits / 2 % 2 ≡ 1 → bits / 8 % 2 ≡ 1 → Sections ≡ follow_asked bits
  asked_sections h k = rw (eq-eqb (bits / 2 % 2) 1 h, eq-eqb (bits / 8 % 2) 1 k)

  pub asked_tables : bits / 2 % 2 ≡ 1 → (bits / 8 % 2 ≡ 1 → ⊥) → Tables ≡ follow_asked bits
  asked_tables h k = rw (eq-eqb (bits / 2 % 2) 1 h, ne_eqb (bits / 8 % 2) 1 k)

module _ (w : ℕ) where
  pub off_in : w ≡ 0 → Off ≡ follow_in w
  off_in h = rw (eq-eqb w 0 h)

  pub sections_in_lem : (w ≡ 0 → ⊥) → w ≡ 2 → Sections ≡ follow_in w
  sections_in_lem h k = rw (ne_eqb w 0 h, eq-eqb w 2 k)

  pub tables_in_lem : (w ≡ 0 → ⊥) → (w ≡ 2 → ⊥) → Tables ≡ follow_in w
  tables_in_lem h k = rw (ne_eqb w 0 h, ne_eqb w 2 k)

pub gate_is :
    (w : List ℕ) (f : Follow) → f ≡ follow_in (at w 2) →
    ◌≡◌ {A = Gate} (record { ring = record { capacity = at w 0; used = at w 4; first = at w 5 }; repeats = is_on (at w 1); follow = f; change_rule = at w 3 }) (gate_of w)
gate_is w f e = rw e

pub held_are : (w : List ℕ) (g : Gate) (c : Counters) → g ≡ gate_of w → c ≡ counters_of w → ◌≡◌ {A = Held} (record { gate = g; counters = c }) (held_in w)
held_are w g c e f = λ i. record { gate = e i; counters = f i }

pub failure_written : (a : Answer) (f : Failure) (w ws : List ℕ) → a ≡ answer.Failed f → ws ≡ failure_after (failure_said f) [] → ws ≡ failure_after (said_of a) w
failure_written a (TooShort n) w ws h e = rw h e
failure_written a (Mismatch stored worked) w ws h e = rw h e

pub short_words : (f : Failure) (n : ℕ) → f ≡ TooShort n → n ∷ 0 ∷ 0 ∷ [] ≡ failure_after (failure_said f) []
short_words f n h = rw h

pub mismatch_words : (f : Failure) (stored worked : ℕ) → f ≡ Mismatch stored worked → 0 ∷ stored ∷ worked ∷ [] ≡ failure_after (failure_said f) []
mismatch_words f stored worked h = rw h

pub told_are : (n r : ℕ) (g gs f fs : List ℕ) → r ≡ n → gs ≡ g → fs ≡ f → told r gs fs ≡ told n g f
told_are n r g gs f fs a b c = λ i. record { answer = a i; gate = b i; failure = c i }

pub all_written : (a : Outcome) (g : Gate) (c : Counters) (w ws : List ℕ) → a ≡ Ok tt → ws ≡ words_of g c → ws ≡ words_opened a g c w
all_written a g c w ws h e = rw h e

pub none_written : (a : Outcome) (r : Refusal) (g : Gate) (c : Counters) (w : List ℕ) → a ≡ Err r → w ≡ words_opened a g c w
none_written a r g c w h = rw h
