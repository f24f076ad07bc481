-- The calls of the set collector as a host in another language makes them, one after another, on the words and slices that it lends.
use Rattle.std.specs.Prelude.{ℕ, ◌≡◌, List}
use Rattle.answers.specs.Answers.{refusal_no}
use Rattle.rules_sets.specs.Rules.{Answer, cleared, nothing, handout, refused}
use Rattle.store.specs.Store.{Store, store}
use Rattle.sets.specs.History.{offer, empty}
use Rattle.sets.specs.History.{Call as Given}
use Rattle.host_words.specs.Inputs.{input_number}
use Rattle.host_words.specs.Pids.{maybe_pid}
use Rattle.host_sets_words.specs.Words.{sets_of}
use Rattle.host_sets.specs.Calls.{sets_opened, sets_pushed, sets_cleared}

-- what the host keeps from call to call: the collector's six words, the three slices that it lends, and the word of the row that goes out
pub record Lent : Type 0 where
  pub words : List ℕ
  pub heads : List ℕ
  pub slots : List ℕ
  pub cells : List ℕ
  pub row : List ℕ

abbrev pub lent : (words heads slots cells row : List ℕ) → Lent
lent words heads slots cells row = record { words = words; heads = heads; slots = slots; cells = cells; row = row }

-- `petrizolu_sets_push` and `petrizolu_sets_clear`. Questions leave all as it was
pub data Call : Type 0 where
  push : (input pid : ℕ) (section : List ℕ) → Call
  clear : Call

-- the number that is answered
unfoldable pub tells : Lent → Call → ℕ
tells l (push input pid section) = (sets_pushed l.words l.heads l.slots l.cells input pid section l.row).answer
tells l clear = (sets_cleared l.words l.heads l.slots l.cells).answer

-- what stands in the words and slices then
unfoldable pub acts : Lent → Call → Lent
acts l (push input pid section) =
    let r = sets_pushed l.words l.heads l.slots l.cells input pid section l.row in lent r.sets r.heads r.slots r.cells r.row
acts l clear = lent (sets_cleared l.words l.heads l.slots l.cells).now l.heads l.slots l.cells l.row

-- the collector that the words stand for
abbrev pub store_in : Lent → Store
store_in l = store (sets_of l.words) l.heads l.slots l.cells

-- the call of the crate sets that is made of it; 0xFFFFFFFF is "no PID"
abbrev pub call_of : Call → Given
call_of (push input pid section) = offer (input_number input) (maybe_pid pid) section
call_of clear = empty

-- the number of an answer of the rules
abbrev pub answer_no : Answer → ℕ
answer_no cleared = 7
answer_no nothing = 4
answer_no (handout w) = 5
answer_no (refused r) = refusal_no r

-- as `petrizolu_sets_open` leaves the words where it answers 7, whatever stood in them and in the slices
pub record OpenedBy (l : Lent) : Type 0 where
  pub before : List ℕ
  pub limit : ℕ
  pub size : ℕ
  pub count : ℕ
  pub answer : (sets_opened before limit size count l.heads l.slots l.cells).answer ≡ 7
  pub words : l.words ≡ (sets_opened before limit size count l.heads l.slots l.cells).now
