-- What the memory of the EIT collector shows, in the words of the rules; and its calls as the rules have them.
-- Assumes nothing.
use Rattle.std.specs.Prelude.{ℕ, suc, ◌+◌, ◌-◌, ◌*◌, ◌≤◌, ◌<◌, ◌≡◌, refl, true, cond, not, List, [], ◌∷◌, eqb, ltb, length, get_or, Option as StdOption, Some, None, Result, Ok, Err}
use Rattle.std.proofs.Math.Option.{Option, none, some}
use Rattle.rules_shared.specs.Same.{Bytes, Origin}
use Rattle.rules_shared.specs.Cells.{Settings, Held}
use Rattle.rules_eit.specs.Keys.{Kind, present_actual, present_other, schedule_actual, schedule_other, kind_of, kind_number, ScheduleKey, SetKey, PidTest, any_pid, exactly_none, exactly, Filter as KeyFilter}
use Rattle.rules_eit.specs.Segments.{SetOf}
use Rattle.rules_eit.specs.Schedules.{CopyOf, ScheduleOf, WholeOf, table_of}
use Rattle.answers.specs.declared.Refusal.TheVariants as refusal
use Rattle.rules_eit.specs.Rules.{Section, Call, clear, drop, refuse, offer, Answer, done, nothing, handout, schedule, refused}
use Rattle.rules_eit.specs.Cells.{Store as Shown}
use Rattle.section.specs.Judged.{collected_of}
use Rattle.eit_section.specs.Eit.{eit_of, fields_of}
use Rattle.section.specs.declared.header.Header.{Header}
use Rattle.answers.specs.declared.Refusal.{Refusal}
use Rattle.eit_section.specs.declared.Eit as fields
use Rattle.eit_section.specs.declared.Kind.TheVariants as kind
use Rattle.rows.specs.declared.Key.{Key}
use Rattle.rows.specs.Rows.{table_word, row_slots, last_of, mark_of, version_of}
use Rattle.ticks.specs.Order.{order_seen, Stands}
use Rattle.ticks.specs.Slots.{held_slots, up_from, cells_seen}
use Rattle.ticks.specs.Origins.{origin_shown, origin_words}
use Rattle.arrivals.specs.Arrivals.{bit_of}
use Rattle.segments.specs.Segments.{word_of}
use Rattle.units.specs.Units.{is_present, unit_slots, first_table}
use Rattle.schedules.specs.Schedules.{tables_of}
use Rattle.eit_drop.specs.declared.Filter.{Filter}
use Rattle.eit_drop.specs.declared.WantedPid.{WantedPid}
use Rattle.eit_drop.specs.declared.WantedPid.TheVariants as wanted_pid
use Rattle.eit_state.specs.State.{Store, settings_fit}
use Rattle.eit.specs.Store as eit
use Rattle.eit.specs.Store.{Told, a_set, a_schedule, TableOut, After, opened_of, cleared_of, dropped_of, pushed_of}

-- ---- keys

-- the kind of a row's table_id. Every row in use has a table_id of one of the four kinds (`Reached`): the first line is never met
abbrev pub the_kind : Option Kind → Kind
the_kind none = present_actual
the_kind (some k) = k

-- the kind that stands in a schedule's head in place of table_id
unfoldable pub kind_by : ℕ → Kind
kind_by n = cond (eqb n 0) present_actual (cond (eqb n 1) present_other (cond (eqb n 2) schedule_actual schedule_other))

-- what the words of a key other than table_id show
abbrev pub shown_under : Key → Kind → ScheduleKey
shown_under k kind = record {
  from = origin_shown k.from;
  kind = kind;
  service_id = k.extension;
  transport_stream_id = k.transport_stream_id;
  original_network_id = k.original_network_id;
  current_next_of = not (eqb k.current_next 0);
}

unfoldable pub key_shown : Key → SetKey
key_shown k = record { schedule = shown_under k (the_kind (kind_of k.table_id)); table_id_of = k.table_id }

unfoldable pub schedule_shown : Key → ScheduleKey
schedule_shown k = shown_under k (kind_by k.table_id)

-- the words that a key is written in
abbrev pub words_under : ScheduleKey → ℕ → Key
words_under l table = record {
  from = origin_words l.from;
  table_id = table;
  extension = l.service_id;
  current_next = bit_of l.current_next_of;
  transport_stream_id = l.transport_stream_id;
  original_network_id = l.original_network_id;
}

unfoldable pub key_words : SetKey → Key
key_words k = words_under k.schedule k.table_id_of

unfoldable pub schedule_words : ScheduleKey → Key
schedule_words l = words_under l (kind_number l.kind)

-- ---- a store

-- the word of a segment: 0 where no section of it was kept, else its segment_last_section_number and 1
unfoldable pub last_noted : ℕ → Option ℕ
last_noted w = cond (eqb w 0) none (some (w - 1))

-- the set in row i: word 6 is its version, word 7 its last_section_number, word 8 not 0 where it went out; the row's first 32 words are its segments'
unfoldable pub row_seen : List ℕ → List ℕ → ℕ → SetOf Held
row_seen heads slots i = record {
  version = version_of heads i;
  last = last_of heads i;
  slots = held_slots (row_slots heads slots i);
  notes = up_from (λ (g : ℕ). last_noted (word_of slots i g)) 32 0;
  mark = not (eqb (mark_of heads i) 0);
}

-- the copy in unit u: word 0 is not 0 where it is present, 1 its version, 2 its last_section_number
unfoldable pub copy_seen : List ℕ → ℕ → Option (CopyOf Held)
copy_seen units u =
    cond (is_present units u) (some (record { version = word_of units u 1; last = word_of units u 2; slots = held_slots (unit_slots units u) })) none

-- place j of the schedule in row k is unit 16k + j; places past its last_table_id are not in use
unfoldable pub place_seen : List ℕ → List ℕ → ℕ → ℕ → Option (CopyOf Held)
place_seen schedule_heads units k j = cond (ltb j (tables_of schedule_heads k)) (copy_seen units (k * 16 + j)) none

-- the schedule in row k: word 7 is its last_table_id
unfoldable pub schedule_seen : List ℕ → List ℕ → ℕ → ScheduleOf Held
schedule_seen schedule_heads units k = record { last_table = last_of schedule_heads k; copies = up_from (place_seen schedule_heads units k) 16 0 }

abbrev pub settings_of : Store → Settings
settings_of s = record { limit = s.eit.sets.limit; cell_size = s.eit.sets.size }

-- the sets and the schedules in use, each in their touch order, and the cells
unfoldable pub seen : Store → Shown
seen s = record {
  settings = settings_of s;
  eit = record {
    sets = order_seen key_shown s.heads s.eit.sets.used s.eit.sets.clock s.eit.sets.evictions (row_seen s.heads s.slots);
    schedules = order_seen schedule_shown s.schedule_heads s.eit.schedules s.eit.sets.clock s.eit.schedule_evictions (schedule_seen s.schedule_heads s.units);
  };
  cells = cells_seen s.cells s.eit.sets.size s.eit.sets.count;
  clock = s.eit.sets.clock;
}

-- ---- calls and answers

-- a call that may change a store
pub data Given : Type 0 where
  clears : Given
  drops : Filter → Given
  section : (input : ℕ) → StdOption ℕ → Bytes → Given

-- what the calls are proved to tell and to leave
abbrev pub called : Store → Given → After
called s clears = cleared_of s
called s (drops f) = dropped_of s f
called s (section input pid bytes) = pushed_of s input pid bytes

-- a field of a filter is free, or exactly one of the numbers below n
abbrev pub Below : ℕ → StdOption ℕ → Type 0
Below n None = Unit {0}
Below n (Some x) = x < n

-- "kind .. and current_next, each exact or free": kinds are 0 to 3, current_next is 0 or 1
pub record FilterFits (f : Filter) : Type 0 where
  pub kind : Below 4 f.kind
  pub current_next : Below 2 f.current_next

-- what is given: a section is of bytes, a filter names a kind and a current_next that there are
abbrev pub Fitting : Given → Type 0
Fitting clears = Unit {0}
Fitting (drops f) = FilterFits f
Fitting (section input pid bytes) = (i : ℕ) → get_or bytes i 0 < 256

-- "PID, kind, service_id, transport_stream_id, original_network_id and current_next, each exact or free"
abbrev pub wanted_as : {A : Type 0} → (ℕ → A) → StdOption ℕ → Option A
wanted_as shown None = none
wanted_as shown (Some x) = some (shown x)

abbrev pub pid_test : WantedPid → PidTest
pid_test wanted_pid.Any = any_pid
pid_test wanted_pid.Without = exactly_none
pid_test (wanted_pid.Exactly p) = exactly p

unfoldable pub filter_shown : Filter → KeyFilter
filter_shown f = record {
  pid = pid_test f.pid;
  kind = wanted_as kind_by f.kind;
  service_id = wanted_as (λ (w : ℕ). w) f.service_id;
  transport_stream_id = wanted_as (λ (w : ℕ). w) f.transport_stream_id;
  original_network_id = wanted_as (λ (w : ℕ). w) f.original_network_id;
  current_next_of = wanted_as (λ (w : ℕ). not (eqb w 0)) f.current_next;
  input = wanted_as (λ (w : ℕ). w) f.input;
}

-- what a section says
unfoldable pub section_of : Origin → Bytes → Header → fields.Eit → Section
section_of from bytes h f = record {
  from = from;
  table_id_of = h.table_id;
  service_id = f.service_id.0;
  transport_stream_id = f.transport_stream_id;
  original_network_id = f.original_network_id;
  current_next_of = h.current_next;
  version = h.version;
  number = h.number;
  last = h.last;
  segment_last = f.segment_last_section_number;
  last_table = f.last_table_id;
  bytes = bytes;
}

-- 19, the one other refusal of this reading, or what the section says. Whether its table_id is one of an EIT (18) is for the rules to say, which do not look at the kind that was read
unfoldable pub reads_eit : Origin → Bytes → Header → Result fields.Eit Refusal → Call
reads_eit from bytes h (Err refusal.NotEit) = offer (section_of from bytes h (fields_of bytes kind.PresentFollowingActual))
reads_eit from bytes h (Err r) = refuse refusal.Broken refl
reads_eit from bytes h (Ok f) = offer (section_of from bytes h f)

-- 15 to 17; or 14, the one other refusal of this reading
unfoldable pub reads_as : Origin → Bytes → Result Header Refusal → Call
reads_as from bytes (Err refusal.ShortForm) = refuse refusal.ShortForm refl
reads_as from bytes (Err refusal.BadNumber) = refuse refusal.BadNumber refl
reads_as from bytes (Err refusal.BadCrc) = refuse refusal.BadCrc refl
reads_as from bytes (Err r) = refuse refusal.Malformed refl
reads_as from bytes (Ok h) = reads_eit from bytes h (eit_of bytes)

-- 37: an input of 16 or more
abbrev pub read_on : Origin → Bytes → Call
read_on from bytes = cond (ltb from.input 16) (reads_as from bytes (collected_of bytes)) (refuse refusal.BadInput refl)

-- 41 first: no PID; then 12: a PID of 8192 or more
unfoldable pub read_section : (input : ℕ) → StdOption ℕ → Bytes → Call
read_section input None bytes = refuse refusal.NoPid refl
read_section input (Some p) bytes = cond (ltb p 8192) (read_on (record { input = input; pid = p }) bytes) (refuse refusal.BadPid refl)

unfoldable pub reads : Given → Call
reads clears = clear
reads (drops f) = drop (filter_shown f)
reads (section input pid bytes) = read_section input pid bytes

-- the tables of a schedule that goes out, from table_id t on
unfoldable pub tables_shown : ScheduleKey → ℕ → List TableOut → List (WholeOf Bytes)
tables_shown l t [] = []
tables_shown l t (x ∷ xs) = record { key = table_of l t; version = x.version; last = x.last; sections = x.sections } ∷ tables_shown l (suc t) xs

-- what is told, in the words of the rules
unfoldable pub answer_told : Told → Answer
answer_told eit.done = done
answer_told eit.nothing = nothing
answer_told (a_set w) = handout (record { key = key_shown w.key; version = w.version; last = w.last; sections = w.sections })
answer_told (a_schedule w) =
    schedule (record {
      key = schedule_shown w.key;
      last_table = w.last;
      tables = tables_shown (schedule_shown w.key) (first_table w.key.table_id) w.tables;
    })
answer_told (eit.refused r) = refused r

unfoldable pub tells : Store → Given → Answer
tells s i = answer_told (called s i).told

unfoldable pub acts : Store → Given → Store
acts s i = (called s i).store

-- ---- opening, and what every store that comes from opening has

-- as `open` leaves a store where it answers 7: no rows, counts 0, nothing asked of what the lent memory holds
pub record Opened (s : Store) : Type 0 where
  pub opened : (opened_of s).told ≡ eit.done
  pub sets : s.eit.sets.used ≡ 0
  pub evictions : s.eit.sets.evictions ≡ 0
  pub clock : s.eit.sets.clock ≡ 0
  pub schedules : s.eit.schedules ≡ 0
  pub schedule_evictions : s.eit.schedule_evictions ≡ 0

-- the head of a set in use: its version fits the 32 bits of a unit's word, its last_section_number a byte, and its table_id is one of an EIT
pub record HeadFits (heads : List ℕ) (i : ℕ) : Type 0 where
  pub version : version_of heads i < 4294967296
  pub last : last_of heads i < 256
  pub kind : kind_of (table_word heads i) ≡ some (the_kind (kind_of (table_word heads i)))

-- settings that opening takes, counts that fit their 64 bits, heads that fit, and ticks that are touch orders of keys, none of which stands twice
pub record Reached (s : Store) : Type 0 where
  pub fits : settings_fit s.eit (length s.heads) (length s.slots) (length s.cells) (length s.schedule_heads) (length s.units) ≡ true
  pub counts : s.eit.sets.evictions ≤ 18446744073709551615
  pub ticks : s.eit.sets.clock ≤ 18446744073709551615
  pub schedule_counts : s.eit.schedule_evictions ≤ 18446744073709551615
  pub heads_fit : (i : ℕ) → i < s.eit.sets.used → HeadFits s.heads i
  pub sets : Stands key_shown key_words s.heads s.eit.sets.used s.eit.sets.clock
  pub schedules : Stands schedule_shown schedule_words s.schedule_heads s.eit.schedules s.eit.sets.clock
