-- The calls of the EIT collector as a host in another language makes them, one after another, on the words and slices that it lends.
use Rattle.std.specs.Prelude.{ℕ, ◌≡◌, List}
use Rattle.answers.specs.Answers.{refusal_no}
use Rattle.rules_eit.specs.Rules.{Answer, done, nothing, handout, schedule, refused}
use Rattle.eit_state.specs.State.{Store, store}
use Rattle.ties_eit.specs.View as ties
use Rattle.host_words.specs.Inputs.{input_number}
use Rattle.host_words.specs.Pids.{maybe_pid}
use Rattle.host_eit_words.specs.Words.{eit_of, filter_of}
use Rattle.host_eit.specs.Calls.{eit_opened, eit_pushed, eit_cleared, eit_dropped}

-- what the host keeps from call to call: the collector's eight words, the five slices that it lends, and the word of the row that goes out
pub record Lent : Type 0 where
  pub words : List ℕ
  pub heads : List ℕ
  pub slots : List ℕ
  pub cells : List ℕ
  pub schedule_heads : List ℕ
  pub units : List ℕ
  pub row : List ℕ

abbrev pub lent : (words heads slots cells schedule_heads units row : List ℕ) → Lent
lent words heads slots cells schedule_heads units row =
    record { words = words; heads = heads; slots = slots; cells = cells; schedule_heads = schedule_heads; units = units; row = row }

-- `petrizolu_eit_push`, `petrizolu_eit_clear` and `petrizolu_eit_drop` with the seven words of a filter. Questions leave all as it was
pub data Call : Type 0 where
  push : (input pid : ℕ) (section : List ℕ) → Call
  clear : Call
  drop : (filter : List ℕ) → Call

-- the number that is answered
unfoldable pub tells : Lent → Call → ℕ
tells l (push input pid section) = (eit_pushed l.words l.heads l.slots l.cells l.schedule_heads l.units input pid section l.row).answer
tells l clear = (eit_cleared l.words l.heads l.slots l.cells l.schedule_heads l.units).answer
tells l (drop filter) = (eit_dropped l.words l.heads l.slots l.cells l.schedule_heads l.units filter).answer

-- what stands in the words and slices then
unfoldable pub acts : Lent → Call → Lent
acts l (push input pid section) =
    let r = eit_pushed l.words l.heads l.slots l.cells l.schedule_heads l.units input pid section l.row in
    lent r.eit r.heads r.slots r.cells r.schedule_heads r.units r.row
acts l clear =
    lent (eit_cleared l.words l.heads l.slots l.cells l.schedule_heads l.units).now l.heads l.slots l.cells l.schedule_heads l.units l.row
acts l (drop filter) =
    let r = eit_dropped l.words l.heads l.slots l.cells l.schedule_heads l.units filter in
    lent r.eit r.heads r.slots l.cells r.schedule_heads r.units l.row

-- the collector that the words stand for
abbrev pub store_in : Lent → Store
store_in l = store (eit_of l.words) l.heads l.slots l.cells l.schedule_heads l.units

-- the call of the crate eit that is made of it; 0xFFFFFFFF is "no PID"
abbrev pub call_of : Call → ties.Given
call_of (push input pid section) = ties.section (input_number input) (maybe_pid pid) section
call_of clear = ties.clears
call_of (drop filter) = ties.drops (filter_of filter)

-- the number of an answer of the rules
abbrev pub answer_no : Answer → ℕ
answer_no done = 7
answer_no nothing = 4
answer_no (handout w) = 5
answer_no (schedule w) = 6
answer_no (refused r) = refusal_no r

-- as `petrizolu_eit_open` leaves the words where it answers 7, whatever stood in them and in the slices
pub record OpenedBy (l : Lent) : Type 0 where
  pub before : List ℕ
  pub limit : ℕ
  pub size : ℕ
  pub count : ℕ
  pub answer : (eit_opened before limit size count l.heads l.slots l.cells l.schedule_heads l.units).answer ≡ 7
  pub words : l.words ≡ (eit_opened before limit size count l.heads l.slots l.cells l.schedule_heads l.units).now
