-- A history of offers as the PAT store sees it (docs/RULES.md, "Watched PIDs"), and N after it.
use Rattle.std.specs.Prelude.{ℕ, List, [], ◌∷◌, ◌≡◌, ◌≢◌, Bool, true, cond, ◌&&◌, take, eqb}
use Rattle.section.specs.Header.{table_id_of, extension_of, section_number, last_section_number}
use Rattle.watched.specs.View.{watch_in}
use Rattle.pat.specs.Pat.{set_n}
use Rattle.rules_sets.specs.Rules.{Whole, handout, conflict, tells}
use Rattle.gate.specs.Rules.{Offer, Manner}
use Rattle.gate_state.specs.State.{Said, by_sections, by_tables}
use Rattle.gate_state.specs.declared.Follow.{Follow}
use Rattle.gate_state.specs.declared.Follow.TheVariants.{Tables}
use Rattle.ties_gate.specs.Watching.{is_followed}
use Rattle.pats.specs.Store.{enters}
use Rattle.ties_pats.specs.Rules.{read_pat, pat_settings, programs_of_set, n_after}
use Rattle.ties_pats.specs.View.{shown, Sent, CompletePat}
use Rattle.gate_pats.specs.Store.{Kept, sound_by}
use Rattle.gate_pats.specs.View.{kept_tells, kept_acts}
use Rattle.ties_gate_pats.specs.Rules.{Holding, enters_from, tells_with, acts_with}

-- a section on an input
abbrev pub sent : Offer → Sent
sent o = record { input = o.input; section = o.section }

-- of offers and their answers: the sections of PID 0 that were answered 1 or 2
unfoldable pub sent_by : List Offer → List Said → List Sent
sent_by [] as' = []
sent_by (o ∷ os) [] = []
sent_by (o ∷ os) (a ∷ as') = cond (sound_by a && eqb o.pid 0) (sent o ∷ sent_by os as') (sent_by os as')

-- N after an offer: where complete PATs are followed, it changes where one is handed out by the set rules at that section; where each changed PAT section is
-- followed, by that section
unfoldable pub n_then : Follow → Manner → Holding → Offer → (ℕ → Bool) → ℕ → Bool
n_then f m h o n =
    cond (by_tables f)
    (cond (enters_from f (tells_with f m h o) o) (n_after (tells pat_settings h.pats.sets (read_pat o.input o.section)) n) n)
    (cond (is_followed m h.held o) (set_n o.section) n)

-- N after a history of offers; n before it
unfoldable pub n_with : Follow → Manner → Holding → (ℕ → Bool) → List Offer → ℕ → Bool
n_with f m h n [] = n
n_with f m h n (o ∷ os) = n_with f m (acts_with f m h o) (n_then f m h o n) os

-- what an offer does to the three sets of PIDs where complete PATs are followed: nothing, or it was a sound section of PID 0 at which the set rules hand out a
-- complete PAT, each section of which `Came`, and N is then the PIDs of the programs other than 0 of all its sections
pub data Replaced (Came : List ℕ → Type 0) (before : Kept) (o : Offer) : Type 0 where
  stays : take 384 (kept_acts before o).watch.words ≡ take 384 before.watch.words → Replaced Came before o
  replaced : (w : Whole) → o.pid ≡ 0 → sound_by (kept_tells before o) ≡ true → enters o.section ≡ true
      → tells pat_settings (shown before.watch).sets (read_pat o.input o.section) ≡ handout w → CompletePat Came w
      → ((pid : ℕ) → (watch_in (kept_acts before o).watch.words).followed pid ≡ programs_of_set w.sections pid) → Replaced Came before o

-- ---- PATs in one section

-- the settings that an offer looks at, in a manner of following
abbrev pub manner_by : (capacity : ℕ) (repeats : Bool) (rule : ℕ) → Follow → Manner
manner_by capacity repeats rule f = record { capacity = capacity; repeats = repeats; follow = by_sections f; rule = rule }

-- a PAT in one section, 0 of 0, on PID 0, current and of at most 1,024 bytes, on this input and of this transport_stream_id
pub record InOne (input stream : ℕ) (o : Offer) : Type 0 where
  pub on : o.input ≡ input
  pub pid : o.pid ≡ 0
  pub pat : enters o.section ≡ true
  pub number : section_number o.section ≡ 0
  pub last : last_section_number o.section ≡ 0
  pub extension : extension_of o.section ≡ stream

-- where complete PATs are followed: each sound section of table_id 0 is such a PAT, and none conflicts with what the PAT store holds
abbrev pub AllInOne : (input stream : ℕ) → Manner → Holding → List Offer → Type 0
AllInOne input stream m h [] = Unit {0}
AllInOne input stream m h (o ∷ os) =
    (sound_by (tells_with Tables m h o) ≡ true → table_id_of o.section ≡ 0 → InOne input stream o × (tells pat_settings h.pats.sets (read_pat o.input o.section) ≢ conflict))
    × AllInOne input stream m (acts_with Tables m h o) os
