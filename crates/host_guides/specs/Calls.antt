-- What the comparisons answer and leave in what a host lends: what guides/specs/Store.antt says, with the PIDs that the host's numbers stand for.
use Rattle.std.specs.Prelude.{ℕ, ◌/◌, List, [], ◌∷◌, Bool, cond, ◌||◌, length, eqb}
use Rattle.guides.specs.Store.{compare_no, held_no, compared, listed, compared_schedules, listed_schedules, tables_of, held_by}
use Rattle.guides.specs.declared.Compared.{Compared}
use Rattle.guides.specs.declared.Holder.{Holder}
use Rattle.host_words.specs.Answers.{Words, words}
use Rattle.host_words.specs.Pids.{maybe_pid}

-- ---- what a comparison hands to a host

abbrev pub flag : Bool → ℕ
flag b = cond b 1 0

-- 8, 9 and 34 tell of the entries
abbrev pub tells : ℕ → Bool
tells n = eqb n 8 || eqb n 9 || eqb n 34

-- the three words: 0 how many entries there are, 1 whether versions agree, 2 whether last numbers agree. 10, 41, 12 and 33 leave them as they were
abbrev pub compared_after : Compared → List ℕ → List ℕ
compared_after c w = cond (tells (compare_no c.answer)) (c.count ∷ flag c.versions ∷ flag c.lasts ∷ []) w

abbrev pub tells_compared : Compared → List ℕ → Words
tells_compared c w = words (compare_no c.answer) (compared_after c w)

-- an answer, the three words, and the list
pub record Comparison : Type 0 where
  pub answer : ℕ
  pub told : List ℕ
  pub list : List ℕ

abbrev pub comparison : ℕ → List ℕ → List ℕ → Comparison
comparison answer told list = record { answer = answer; told = told; list = list }

abbrev pub handed : Compared → List ℕ → List ℕ → Comparison
handed c w list = comparison (compare_no c.answer) (compared_after c w) list

unfoldable pub sets_compared : (first : List ℕ) → (first_pid : ℕ) → (second : List ℕ) → (second_pid : ℕ) → (list told : List ℕ) → Comparison
sets_compared first p second q list told =
    handed (compared first (maybe_pid p) second (maybe_pid q) (length list / 4)) told (listed first (maybe_pid p) second (maybe_pid q) list)

-- of two schedules the words of their tables too
pub record Comparisons : Type 0 where
  pub answer : ℕ
  pub told : List ℕ
  pub tables : List ℕ
  pub list : List ℕ

abbrev pub comparisons : ℕ → List ℕ → List ℕ → List ℕ → Comparisons
comparisons answer told tables list = record { answer = answer; told = told; tables = tables; list = list }

abbrev pub handed_tables : Compared → List ℕ → List ℕ → List ℕ → Comparisons
handed_tables c w tables list = comparisons (compare_no c.answer) (compared_after c w) tables list

unfoldable pub schedules_compared : (first : List ℕ) → (first_pid : ℕ) → (second : List ℕ) → (second_pid : ℕ) → (tables list told : List ℕ) → Comparisons
schedules_compared first p second q tables list told =
    handed_tables (compared_schedules first (maybe_pid p) second (maybe_pid q) (length list / 4)) told
    (tables_of first (maybe_pid p) second (maybe_pid q) (length list / 4) tables) (listed_schedules first (maybe_pid p) second (maybe_pid q) list)

-- ---- one section

-- 8 writes the side, 1 or 2, and where the section starts in its bytes and how many it has; 9 and 10 leave the three words as they were
abbrev pub held_after : Holder → List ℕ → List ℕ
held_after h w = cond (eqb (held_no h.answer) 8) (h.side ∷ h.start ∷ h.length ∷ []) w

abbrev pub tells_held : Holder → List ℕ → Words
tells_held h w = words (held_no h.answer) (held_after h w)

unfoldable pub held_by_one : (first second : List ℕ) → (number : ℕ) → (held : List ℕ) → Words
held_by_one first second number held = tells_held (held_by first second number) held
