-- The watch in every history of offers (docs/RULES.md, "Watched PIDs"), with no words: which PIDs are protected, what N is, and what the question
-- whether a PID is watched is answered. A set of PIDs is a test, true of those that are in it.
use Rattle.std.specs.Prelude.{ℕ, List, [], ◌∷◌, ◌++◌, Bool, false, cond, ◌&&◌, ◌||◌}
use Rattle.answers.specs.declared.Refusal.TheVariants.{CounterFull}
use Rattle.section.specs.Ids.{known_pids}
use Rattle.pat.specs.Pat.{listed, readable, set_n}
use Rattle.ring.specs.Rules.{changed}
use Rattle.counters.specs.Counters.{zeroes, any_full}
use Rattle.offers.specs.Offers.{read_of}
use Rattle.offers.specs.declared.Verdict.{Verdict}
use Rattle.offers.specs.declared.Verdict.TheVariants.{Refused, Failed, Arrived}
use Rattle.gate.specs.Rules.{Offer, Manner, Held, row_from, acts}

-- protected from the start: the well-known PIDs, where that setting is on, and the extra ones
abbrev pub is_protected : Bool → List ℕ → ℕ → Bool
is_protected well_known extra pid = listed pid (cond well_known known_pids [] ++ extra)

-- the empty set
abbrev pub no_pid : ℕ → Bool
no_pid pid = false

-- a gate as opening leaves it: no rows, counters 0, the protected PIDs watched, and N empty
abbrev pub empty_held : (ℕ → Bool) → Held
empty_held protected = record { rows = []; counters = zeroes; watch = record { watched = protected; protected = protected; followed = no_pid } }

-- what a section and its PID say is changed: it arrived, and its key is unknown or either number differs
abbrev pub is_changed : Held → Verdict → Bool
is_changed h (Refused r) = false
is_changed h (Failed f) = false
is_changed h (Arrived a) = changed (row_from a) h.rows

-- an offer is followed where it is a changed section, following is on, and the section is a readable PAT
unfoldable pub is_followed : Manner → Held → Offer → Bool
is_followed m h o = is_changed h (cond (any_full h.counters) (Refused CounterFull) (read_of m.rule o.input o.pid o.section)) && m.follow && readable o.section

-- N after a history of offers: the PIDs of the programs, but program 0, of the last PAT that was followed in it; n where none was
unfoldable pub n_after : Manner → Held → (ℕ → Bool) → List Offer → ℕ → Bool
n_after m h n [] = n
n_after m h n (o ∷ os) = n_after m (acts m h o) (cond (is_followed m h o) (set_n o.section) n) os

-- the answer to the question whether a PID below 8192 is watched: 8 for protected PIDs and for those of N, 9 for others
abbrev pub answered : (ℕ → Bool) → (ℕ → Bool) → ℕ → ℕ
answered protected n pid = cond (protected pid || n pid) 8 9
