-- What the memory of the set collector shows, in the words of the rules; and its calls as the rules have them.
-- Assumes nothing.
use Rattle.std.specs.Prelude.{ℕ, ◌≤◌, ◌≡◌, true, false, cond, not, List, eqb, ltb, length, Option, Some, None, Result, Ok, Err}
use Rattle.answers.specs.declared.Refusal.TheVariants as refusal
use Rattle.rules_shared.specs.Same.{Bytes, Origin}
use Rattle.rules_shared.specs.Cells.{Settings, Held}
use Rattle.rules_sets.specs.Rules.{Key as SetKey, SetOf, Call, clear, refuse, offer, Answer, cleared, nothing, handout, refused}
use Rattle.rules_sets.specs.Cells.{Store as Shown}
use Rattle.section.specs.Judged.{collected_of}
use Rattle.section.specs.declared.header.Header.{Header}
use Rattle.answers.specs.declared.Refusal.{Refusal}
use Rattle.rows.specs.declared.Key.{Key}
use Rattle.rows.specs.Rows.{row_slots, last_of, mark_of, version_of}
use Rattle.ticks.specs.Order.{order_seen, Stands}
use Rattle.ticks.specs.Slots.{held_slots, cells_seen}
use Rattle.ticks.specs.Origins.{plain_shown, origin_words}
use Rattle.sets.specs.History.{Call as Given, offer as section, empty as clears, called, OpenedStore}
use Rattle.arrivals.specs.Arrivals.{bit_of}
use Rattle.without_pid.specs.Pids.{without_pid}
use Rattle.store.specs.Store.{Store, settings_fit}
use Rattle.sets_settle.specs.Settle as sets
use Rattle.sets_settle.specs.Settle.{Told}

-- ---- a key

unfoldable pub key_shown : Key → SetKey
key_shown k = record { from = plain_shown k.from; table_id_of = k.table_id; extension = k.extension; current_next_of = not (eqb k.current_next 0) }

-- the words that a key is written in; transport_stream_id and original_network_id are 0 in the set collector
unfoldable pub key_words : SetKey → Key
key_words k = record {
  from = origin_words k.from;
  table_id = k.table_id_of;
  extension = k.extension;
  current_next = bit_of k.current_next_of;
  transport_stream_id = 0;
  original_network_id = 0;
}

-- ---- a store

-- row i: word 6 is its version, word 7 its last_section_number, word 8 not 0 where it was handed out
unfoldable pub row_seen : List ℕ → List ℕ → ℕ → SetOf Held
row_seen heads slots i = record {
  version = version_of heads i;
  last = last_of heads i;
  slots = held_slots (row_slots heads slots i);
  notes = tt;
  mark = not (eqb (mark_of heads i) 0);
}

abbrev pub settings_of : Store → Settings
settings_of s = record { limit = s.sets.limit; cell_size = s.sets.size }

-- the rows in use in their touch order, and the cells
unfoldable pub seen : Store → Shown
seen s = record {
  settings = settings_of s;
  sets = order_seen key_shown s.heads s.sets.used s.sets.clock s.sets.evictions (row_seen s.heads s.slots);
  cells = cells_seen s.cells s.sets.size s.sets.count;
  clock = s.sets.clock;
}

-- ---- calls and answers

-- 15 to 17; or 14, the one other refusal of this reading; or what the section says
unfoldable pub reads_as : Origin → Bytes → Result Header Refusal → Call
reads_as from bytes (Err refusal.ShortForm) = refuse refusal.ShortForm
reads_as from bytes (Err refusal.BadNumber) = refuse refusal.BadNumber
reads_as from bytes (Err refusal.BadCrc) = refuse refusal.BadCrc
reads_as from bytes (Err r) = refuse refusal.Malformed
reads_as from bytes (Ok h) = offer (record {
  key = record { from = from; table_id_of = h.table_id; extension = h.extension; current_next_of = h.current_next };
  version = h.version;
  number = h.number;
  last = h.last;
  bytes = bytes;
})

-- 37: an input of 16 or more
abbrev pub read_on : Origin → Bytes → Call
read_on from bytes = cond (ltb from.input 16) (reads_as from bytes (collected_of bytes)) (refuse refusal.BadInput)

-- 41 without a PID, then 12: a PID of 8192 or more
unfoldable pub read_section : (input : ℕ) → Option ℕ → Bytes → Call
read_section input None bytes = refuse refusal.NoPid
read_section input (Some p) bytes = cond (ltb p 8192) (read_on (record { input = input; pid = p }) bytes) (refuse refusal.BadPid)

unfoldable pub reads : Given → Call
reads clears = clear
reads (section input pid bytes) = read_section input pid bytes

-- what is told, as the rules have it
unfoldable pub answer_told : Told → Answer
answer_told sets.done = cleared
answer_told sets.nothing = nothing
answer_told (sets.handed w) = handout (record { key = key_shown w.key; version = w.version; last = w.last; sections = w.sections })
answer_told (sets.refused r) = refused r

-- what `clear` and `push` are proved to tell and to leave (`called` of the crate sets)
unfoldable pub tells : Store → Given → Answer
tells s i = answer_told (called s i).told

unfoldable pub acts : Store → Given → Store
acts s i = (called s i).store

-- as `open` leaves a store where it answers 7: no rows, counts 0, nothing asked of what the lent memory holds
pub record Opened (s : Store) : Type 0 where
  pub opened : OpenedStore s
  pub evictions : s.sets.evictions ≡ 0
  pub clock : s.sets.clock ≡ 0

-- what every store that comes from opening has, whatever its sections came with: settings that opening takes, counts that fit their 64 bits, and
-- ticks that are a touch order of keys, none of which stands twice
pub record Standing (s : Store) : Type 0 where
  pub fits : settings_fit s.sets (length s.heads) (length s.slots) (length s.cells) ≡ true
  pub counts : s.sets.evictions ≤ 18446744073709551615
  pub ticks : s.sets.clock ≤ 18446744073709551615
  pub stands : Stands key_shown key_words s.heads s.sets.used s.sets.clock

-- .. and, where it was made by calls, rows with PIDs alone
pub record Reached (s : Store) : Type 0 where
  pub fits : settings_fit s.sets (length s.heads) (length s.slots) (length s.cells) ≡ true
  pub counts : s.sets.evictions ≤ 18446744073709551615
  pub ticks : s.sets.clock ≤ 18446744073709551615
  pub stands : Stands key_shown key_words s.heads s.sets.used s.sets.clock
  pub pids : without_pid s.heads s.sets.used ≡ false
