-- EIT kinds, the keys of sets and of schedules, and the filter that drops by key (docs/RULES.md, "Layouts" and "Collectors"; EN 300 468, 5.2.4).
-- Assumes nothing.
use Rattle.std.specs.Prelude.{Bool, true, false, cond, ◌&&◌, ℕ, leb, eqb}
use Rattle.std.specs.Bool.{beq}
use Rattle.std.proofs.Math.Option.{Option, none, some}
use Rattle.answers.specs.declared.Refusal.{Refusal}
use Rattle.answers.specs.declared.Refusal.TheVariants as refusal
use Rattle.rules_shared.specs.Same.{Origin, same_origin}

-- ---- kinds

pub data Kind : Type 0 where
  present_actual present_other schedule_actual schedule_other : Kind

unfoldable pub between : (low x high : ℕ) → Bool
between low x high = leb low x && leb x high

-- "0x4E is present/following actual, 0x4F is present/following other, 0x50 to 0x5F is schedule actual, 0x60 to 0x6F is schedule other, all else none"
unfoldable pub kind_of : (table_id_of : ℕ) → Option Kind
kind_of t =
    cond (eqb t 0x4e) (some present_actual)
    (cond (eqb t 0x4f) (some present_other) (cond (between 0x50 t 0x5f) (some schedule_actual) (cond (between 0x60 t 0x6f) (some schedule_other) none)))

-- the first table_id of a schedule kind; none for present/following
unfoldable pub first_of : Kind → Option ℕ
first_of present_actual = none
first_of present_other = none
first_of schedule_actual = some 0x50
first_of schedule_other = some 0x60

-- the number that stands for a kind in a schedule's head
unfoldable pub kind_number : Kind → ℕ
kind_number present_actual = 0
kind_number present_other = 1
kind_number schedule_actual = 2
kind_number schedule_other = 3

unfoldable pub same_kind : Kind → Kind → Bool
same_kind a b = eqb (kind_number a) (kind_number b)

-- ---- keys

-- the key of a schedule: all of the set key but table_id. An EIT's extension is service_id
pub record ScheduleKey : Type 0 where
  pub from : Origin
  pub kind : Kind
  pub service_id : ℕ
  pub transport_stream_id : ℕ
  pub original_network_id : ℕ
  pub current_next_of : Bool

-- "EIT set key adds kind, transport_stream_id, original_network_id" to PID, table_id, extension and current_next
pub record SetKey : Type 0 where
  pub schedule : ScheduleKey
  pub table_id_of : ℕ

unfoldable pub same_schedule : ScheduleKey → ScheduleKey → Bool
same_schedule a b =
    same_origin a.from b.from && (same_kind a.kind b.kind && (eqb a.service_id b.service_id && (eqb a.transport_stream_id b.transport_stream_id
    && (eqb a.original_network_id b.original_network_id && beq a.current_next_of b.current_next_of))))

unfoldable pub same_set : SetKey → SetKey → Bool
same_set a b = same_schedule a.schedule b.schedule && eqb a.table_id_of b.table_id_of

-- ---- the filter

-- the PID is free, exactly none, or exactly p
pub data PidTest : Type 0 where
  any_pid : PidTest
  exactly_none : PidTest
  exactly : ℕ → PidTest

-- "PID, kind, service_id, transport_stream_id, original_network_id and current_next, each exact or free", and the input; none is free
pub record Filter : Type 0 where
  pub pid : PidTest
  pub kind : Option Kind
  pub service_id : Option ℕ
  pub transport_stream_id : Option ℕ
  pub original_network_id : Option ℕ
  pub current_next_of : Option Bool
  pub input : Option ℕ

-- 41: exactly none. No row is without a PID
unfoldable pub no_pid : PidTest → Bool
no_pid any_pid = false
no_pid exactly_none = true
no_pid (exactly p) = false

-- 12: an exact PID of 8192 or more
unfoldable pub bad_pid : PidTest → Bool
bad_pid any_pid = false
bad_pid exactly_none = false
bad_pid (exactly p) = leb 8192 p

-- 37: an exact input of 16 or more
unfoldable pub bad_input : Option ℕ → Bool
bad_input none = false
bad_input (some i) = leb 16 i

-- why a filter is refused: 41 before 12, "37 .. directly after 12"
unfoldable pub bad_filter : Filter → Option Refusal
bad_filter f =
    cond (no_pid f.pid) (some refusal.NoPid) (cond (bad_pid f.pid) (some refusal.BadPid) (cond (bad_input f.input) (some refusal.BadInput) none))

unfoldable pub pid_passes : PidTest → ℕ → Bool
pid_passes any_pid p = true
pid_passes exactly_none p = false
pid_passes (exactly q) p = eqb q p

unfoldable pub passes : {A : Type 0} → (A → A → Bool) → Option A → A → Bool
passes same none a = true
passes same (some b) a = same b a

unfoldable pub from_passes : Filter → Origin → Bool
from_passes f o = passes eqb f.input o.input && pid_passes f.pid o.pid

unfoldable pub matches : Filter → ScheduleKey → Bool
matches f k =
    from_passes f k.from && (passes same_kind f.kind k.kind && (passes eqb f.service_id k.service_id && (passes eqb f.transport_stream_id k.transport_stream_id
    && (passes eqb f.original_network_id k.original_network_id && passes beq f.current_next_of k.current_next_of))))
