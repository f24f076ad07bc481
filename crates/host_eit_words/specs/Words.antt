-- The eight words of an EIT collector: 0 limit, 1 size, 2 count, 3 used, 4 evictions, 5 schedules, 6 schedule evictions, 7 clock; the word of a
-- row that goes out; and the seven words of a filter.
use Rattle.std.specs.Prelude.{ℕ, List, [], ◌∷◌, cond, eqb, Option, Some, None, Ok, Err}
use Rattle.answers.specs.Answers.{outcome_no, Outcome}
use Rattle.eit_state.specs.State.{push_number}
use Rattle.eit_state.specs.declared.Eit.{Eit}
use Rattle.eit_state.specs.declared.Pushed.{Pushed}
use Rattle.eit_state.specs.declared.Turned.{Turned}
use Rattle.eit_state.specs.declared.PushAnswer.{PushAnswer}
use Rattle.eit_state.specs.declared.PushAnswer.TheVariants.{Nothing, Set, Schedule, Refused}
use Rattle.eit_drop.specs.declared.Filter.{Filter}
use Rattle.eit_drop.specs.declared.WantedPid.{WantedPid}
use Rattle.eit_drop.specs.declared.WantedPid.TheVariants as wanted_pid
use Rattle.host_words.specs.Answers.{Words, words, Pushes, pushes, at}
use Rattle.host_words.specs.Pids.{pid_number}

abbrev pub eit_of : List ℕ → Eit
eit_of w = record {
  sets = record { limit = at w 0; size = at w 1; count = at w 2; used = at w 3; evictions = at w 4; clock = at w 7 };
  schedules = at w 5;
  schedule_evictions = at w 6;
}

-- words 3 to 7
abbrev pub counts_of : Eit → List ℕ
counts_of e = e.sets.used ∷ e.sets.evictions ∷ e.schedules ∷ e.schedule_evictions ∷ e.sets.clock ∷ []

-- all eight
abbrev pub words_of : Eit → List ℕ
words_of e = e.sets.limit ∷ e.sets.size ∷ e.sets.count ∷ counts_of e

-- a call that is no opening writes the counts only
abbrev pub words_after : List ℕ → Eit → List ℕ
words_after w e = at w 0 ∷ at w 1 ∷ at w 2 ∷ counts_of e

-- an opening that answers 7 writes all eight, a refused one none
abbrev pub words_opened : Outcome → Eit → List ℕ → List ℕ
words_opened (Ok _) e w = words_of e
words_opened (Err r) e w = w

-- the row of a set or a schedule that goes out; any other answer leaves the word as it was
abbrev pub row_by : PushAnswer → List ℕ → List ℕ
row_by (Set i) row = i ∷ []
row_by (Schedule k) row = k ∷ []
row_by Nothing row = row
row_by (Refused r) row = row

-- what each call hands to the host
abbrev pub tells_opened : Turned → List ℕ → Words
tells_opened o w = words (outcome_no o.answer) (words_opened o.answer o.eit w)

abbrev pub tells_pushed : Pushed → List ℕ → List ℕ → Pushes
tells_pushed o w row = pushes (push_number o.answer) (words_after w o.eit) (row_by o.answer row)

abbrev pub tells_turned : Turned → List ℕ → Words
tells_turned o w = words (outcome_no o.answer) (words_after w o.eit)

-- ---- a filter: 0 pid, 1 kind, 2 service_id, 3 transport_stream_id, 4 original_network_id, 5 current_next, 6 input

-- "each exact or free": all 64 bits set is free
abbrev pub wanted_of : ℕ → Option ℕ
wanted_of w = cond (eqb w 18446744073709551615) None (Some w)

-- "PID or none": 0xFFFFFFFF is exactly none
abbrev pub wanted_pid_of : ℕ → WantedPid
wanted_pid_of w = cond (eqb w 18446744073709551615) wanted_pid.Any (cond (eqb w 0xFFFF_FFFF) wanted_pid.Without (wanted_pid.Exactly (pid_number w)))

abbrev pub filter_of : List ℕ → Filter
filter_of w = record {
  pid = wanted_pid_of (at w 0);
  kind = wanted_of (at w 1);
  service_id = wanted_of (at w 2);
  transport_stream_id = wanted_of (at w 3);
  original_network_id = wanted_of (at w 4);
  current_next = wanted_of (at w 5);
  input = wanted_of (at w 6);
}
