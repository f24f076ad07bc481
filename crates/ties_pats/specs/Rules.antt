-- PATs in several sections, without memory (docs/RULES.md, "Watched PIDs" and "Collectors"; ISO/IEC 13818-1, 2.4.4.3): the sections of a PAT are
-- collected as a set, and only a complete one replaces N.
use Rattle.std.specs.Prelude.{ℕ, ◌+◌, List, [], ◌∷◌, Bool, false, cond, ◌&&◌, ◌||◌, eqb, Some}
use Rattle.answers.specs.Answers.{refusal_no}
use Rattle.pat.specs.Pat.{set_n}
use Rattle.rules_shared.specs.Cells.{Settings}
use Rattle.rules_sets.specs.Rules.{Sets, Call, Answer, cleared, nothing, handout, refused, tells, acts}
use Rattle.ties_sets.specs.View.{read_section}
use Rattle.pats.specs.Store.{enters}

-- the sections collected, and N, the PIDs followed
pub record Pats : Type 0 where
  pub sets : Sets
  pub n : ℕ → Bool

-- a set collector of one key, whose sections have at most 1,024 bytes
abbrev pub pat_settings : Settings
pat_settings = record { limit = 1; cell_size = 1024 }

-- a sound section enters on PID 0 alone, and where it is a current PAT
abbrev pub enters_on : (pid : ℕ) → List ℕ → Bool
enters_on pid section = eqb pid 0 && enters section

-- N of a complete PAT: a PID of one of its sections' programs other than 0
unfoldable pub programs_of_set : List (List ℕ) → ℕ → Bool
programs_of_set [] pid = false
programs_of_set (s ∷ ss) pid = set_n s pid || programs_of_set ss pid

-- N changes where a set is handed out, and nowhere else
abbrev pub n_after : Answer → (ℕ → Bool) → ℕ → Bool
n_after cleared n = n
n_after nothing n = n
n_after (handout pat) n = programs_of_set pat.sections
n_after (refused r) n = n

-- how often the key was touched, after that answer: a section that is kept or there already touches it, and so does one in conflict (22)
abbrev pub clock_after : Answer → ℕ → ℕ
clock_after cleared c = c
clock_after nothing c = c + 1
clock_after (handout pat) c = c + 1
clock_after (refused r) c = cond (eqb (refusal_no r) 22) (c + 1) c

-- the section as the set collector reads it, on PID 0
abbrev pub read_pat : (input : ℕ) → List ℕ → Call
read_pat input section = read_section input (Some 0) section

unfoldable pub entered : Pats → (input : ℕ) → List ℕ → Pats
entered p input section =
    cond (enters section)
    (record { sets = acts pat_settings p.sets (read_pat input section); n = n_after (tells pat_settings p.sets (read_pat input section)) p.n })
    p
