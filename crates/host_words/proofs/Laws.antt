-- One law for each way out of a function.
-- Assumes nothing.
use Prim.Native.Nat.{ℕ, ◌<◌, ◌≤◌}
use mathlib.Core.Path.{◌≡◌}
use mathlib.Core.List.{List, [], ◌∷◌}
use borrow.Author.Tests.{lt-ltb, le-ltb, eq-eqb, ne_eqb}
use Rattle.answers.specs.Answers.{Reply}
use Rattle.std.specs.Prelude.{Some, None, Ok, Bool, true}
use Rattle.readers.specs.declared.Next.{Next}
use Rattle.host_words.specs.Answers.{words, pushes}
use Rattle.host_words.specs.Pids.{pid_number, maybe_pid}
use Rattle.host_words.specs.Inputs.{input_number}
use Rattle.host_words.specs.Sections.{section_after}

-- ---- what is handed to the host

pub words_are : (r n : ℕ) (w v : List ℕ) → r ≡ n → w ≡ v → words r w ≡ words n v
words_are r n w v e f = λ i. record { answer = e i; now = f i }

pub pushes_are : (r n : ℕ) (w v x y : List ℕ) → r ≡ n → w ≡ v → x ≡ y → pushes r w x ≡ pushes n v y
pushes_are r n w v x y e f g = λ i. record { answer = e i; now = f i; row = g i }

-- ---- inputs

module _ (input : ℕ) where
  pub input_small : input < 255 → input ≡ input_number input
  input_small h = rw (lt-ltb input 255 h)

  pub input_large : 255 ≤ input → 255 ≡ input_number input
  input_large h = rw (le-ltb input 255 h)

-- ---- PIDs

module _ (pid : ℕ) where
  pub pid_small : pid < 65535 → pid ≡ pid_number pid
  pid_small h = rw (lt-ltb pid 65535 h)

  pub pid_large : 65535 ≤ pid → 65535 ≡ pid_number pid
  pid_large h = rw (le-ltb pid 65535 h)

  pub pid_none : pid ≡ 0xFFFF_FFFF → None ≡ maybe_pid pid
  pid_none h = rw (eq-eqb pid 0xFFFF_FFFF h)

  pub pid_some : (n : ℕ) → (pid ≡ 0xFFFF_FFFF → ⊥) → n ≡ pid_number pid → Some n ≡ maybe_pid pid
  pid_some n h e = rw (ne_eqb pid 0xFFFF_FFFF h, e)

-- ---- a section that a question tells of

pub section_written : (a : Reply) (n : Next) (w : List ℕ) (b : Bool) → a ≡ Ok b → b ≡ true → n.number ∷ n.start ∷ n.length ∷ [] ≡ section_after a n w
section_written a n w b h e = rw (h, e)
