-- The gate with a watch record (docs/RULES.md, "Gate" and "Watched PIDs"), no memory: the gate's own rules, and behind them, where complete PATs are
-- followed, the PAT store, a set collector of one key by its rules.
use Rattle.std.specs.Prelude.{ℕ, max, Bool, cond, ◌&&◌, ◌||◌, eqb}
use Rattle.watched.specs.Rules.{Watch, followed_by}
use Rattle.rules_sets.specs.Rules.{Sets, Answer, cleared, nothing, handout, refused, opened}
use Rattle.rules_sets.specs.Rules.{tells as sets_tell, acts as sets_act}
use Rattle.gate.specs.Rules.{Offer, Manner, Held, Told, told}
use Rattle.gate_state.specs.State.{Said, plain, by_tables}
use Rattle.gate_state.specs.declared.Follow.{Follow}
use Rattle.ties_gate.specs.Watching.{empty_held}
use Rattle.ties_pats.specs.Rules.{programs_of_set, read_pat, pat_settings, enters_on, clock_after}
use Rattle.gate_pats.specs.Store.{sound_by}

-- the PAT store: what it holds, and how often its key was touched
pub record PatStore : Type 0 where
  pub sets : Sets
  pub clock : ℕ

-- no row, no eviction, no touch
abbrev pub begun : PatStore
begun = record { sets = opened; clock = 0 }

-- what the gate holds, and the PAT store of its record
pub record Holding : Type 0 where
  pub held : Held
  pub pats : PatStore

-- as opening leaves them: an empty gate that watches the protected PIDs, and a PAT store that has begun
abbrev pub empty_holding : (ℕ → Bool) → Holding
empty_holding protected = record { held = empty_held protected; pats = begun }

pub record ToldWith : Type 0 where
  pub answer : Said
  pub holding : Holding

-- the PAT store has counted evictions or touches to the end
abbrev pub at_end : PatStore → Bool
at_end p = eqb p.sets.evicted 18446744073709551615 || eqb p.clock 18446744073709551615

-- the larger of the two counts
abbrev pub most : PatStore → ℕ
most p = max p.sets.evicted p.clock

-- a section that it takes
abbrev pub pats_after : PatStore → Offer → PatStore
pats_after p o = record {
  sets = sets_act pat_settings p.sets (read_pat o.input o.section);
  clock = clock_after (sets_tell pat_settings p.sets (read_pat o.input o.section)) p.clock;
}

-- only a complete PAT, one that the set rules hand out, replaces N
abbrev pub watch_with : Answer → Watch → Watch
watch_with cleared w = w
watch_with nothing w = w
watch_with (handout pat) w = followed_by (programs_of_set pat.sections) w
watch_with (refused r) w = w

-- a PAT section in the PAT store
abbrev pub entered_with : Holding → Offer → Holding
entered_with h o =
    record {
      held = record { rows = h.held.rows; counters = h.held.counters; watch = watch_with (sets_tell pat_settings h.pats.sets (read_pat o.input o.section)) h.held.watch };
      pats = pats_after h.pats o;
    }

-- where complete PATs are followed, a sound section of PID 0 that is a current PAT enters, emitted or suppressed
abbrev pub enters_from : Follow → Said → Offer → Bool
enters_from f answer o = by_tables f && sound_by answer && enters_on o.pid o.section

-- the gate answers first, and the PAT store changes neither answer nor counter
abbrev pub behind : Follow → Holding → Offer → Told → ToldWith
behind f h o t =
    record {
      answer = t.answer;
      holding = cond (enters_from f t.answer o) (entered_with (record { held = t.held; pats = h.pats }) o) (record { held = t.held; pats = h.pats });
    }

-- an offer: 11 also where the PAT store cannot count
unfoldable pub told_with : Follow → Manner → Holding → Offer → ToldWith
told_with f m h o = cond (by_tables f && at_end h.pats) (record { answer = plain 11; holding = h }) (behind f h o (told m h.held o))

unfoldable pub tells_with : Follow → Manner → Holding → Offer → Said
tells_with f m h o = (told_with f m h o).answer

unfoldable pub acts_with : Follow → Manner → Holding → Offer → Holding
acts_with f m h o = (told_with f m h o).holding
