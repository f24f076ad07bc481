-- What the record calls of a log answer and leave in what a host lends (docs/RULES.md, "Logs"), with the inputs and PIDs that the host's numbers stand for.
-- `cond test a b` is a where the test is true, else b.
-- Assumes nothing.
use Rattle.std.specs.Prelude.{ℕ, ◌+◌, ◌≤◌, List, [], ◌∷◌, cond, ◌&&◌, length, leb, ltb, eqb, Some, None, Ok, Err, Option}
use Rattle.std.proofs.Math.Seq.{paste}
use Rattle.section.specs.Judged.{rule_known, rule_of}
use Rattle.section.specs.declared.header.ChangeRule.{ChangeRule}
use Rattle.answers.specs.declared.Refusal.TheVariants as refusal
use Rattle.offers.specs.declared.Failure.TheVariants as failure
use Rattle.gate_state.specs.declared.Answer.{Answer}
use Rattle.gate_state.specs.declared.Answer.TheVariants as answer
use Rattle.rules_logs.specs.Records.{Bytes, record_size}
use Rattle.log_records.specs.Reading.{Read, error_number, read_at}
use Rattle.log_records.specs.declared.Record.{Record}
use Rattle.log_entries.specs.declared.Entry.{Entry}
use Rattle.log_makers.specs.Makers.{offer_record, is_origin, is_source, set_record_of}
use Rattle.host_words.specs.Answers.{Words, words}
use Rattle.host_words.specs.Inputs.{input_number}
use Rattle.host_words.specs.Pids.{pid_number, maybe_pid}

-- ---- one record read

-- the twelve words: kind, input, PID, table_id, extension, section_number, version, change number, length, current_next, last_section_number, the place after the record
abbrev pub record_words : Record → (next : ℕ) → List ℕ
record_words r next =
    r.kind ∷ r.input ∷ r.pid ∷ r.table_id ∷ r.extension ∷ r.number ∷ r.version ∷ r.change ∷ r.length ∷ r.current_next ∷ r.last ∷ next ∷ []

-- 8 writes them; 9, 38 and 39 leave them as they were
abbrev pub tells_record : Read → (place : ℕ) → List ℕ → Words
tells_record (Ok (Some r)) place w = words 8 (record_words r (place + record_size r.kind))
tells_record (Ok None) place w = words 9 w
tells_record (Err e) place w = words (error_number e) w

unfoldable pub log_read : (log : List ℕ) → (place : ℕ) → (fields : List ℕ) → Words
log_read log place w = tells_record (read_at log place) place w

-- ---- records made

-- the gate's answer of a number: 1 emitted, 2 suppressed, 3 a mismatch, 31 short; any other a refusal
unfoldable pub answer_of : ℕ → Answer
answer_of n =
    cond (eqb n 1) answer.Emitted
    (cond (eqb n 2) answer.Suppressed
    (cond (eqb n 3) (answer.Failed (failure.Mismatch 0 0))
    (cond (eqb n 31) (answer.Failed (failure.TooShort 0)) (answer.Refused refusal.BadPid))))

-- the first bytes are these, the others as they were
abbrev pub laid_over : List ℕ → Bytes → List ℕ
laid_over d l = paste d 0 l (length l)

-- the bytes of an entry have room in so many
pub record RoomFor (e : Entry) (n : ℕ) : Type 0 where
  pub short : e.length ≤ 23
  pub room : e.length ≤ n

-- an answer, the bytes that were lent for a record, and the word that tells how many it has
pub record Made : Type 0 where
  pub answer : ℕ
  pub bytes : List ℕ
  pub told : List ℕ

abbrev pub made : ℕ → List ℕ → List ℕ → Made
made answer bytes told = record { answer = answer; bytes = bytes; told = told }

-- 7
abbrev pub made_of : Bytes → (bytes : List ℕ) → Made
made_of l r = made 7 (laid_over r l) (length l ∷ [])

-- the record of a gate's answer; none where there is no such input or PID
unfoldable pub offer_bytes : Answer → ChangeRule → (input pid : ℕ) → Bytes → Bytes
offer_bytes a rule input pid s = cond (is_origin input pid) (offer_record a rule input pid s) []

-- 42 of a section over 4,098 bytes, 13 of a change rule that there is not; both leave all
unfoldable pub offer_made : (answer rule input pid : ℕ) → (section bytes told : List ℕ) → Made
offer_made a rule input pid s r t =
    cond (ltb 4098 (length s)) (made 42 r t)
    (cond (rule_known rule) (made_of (offer_bytes (answer_of a) (rule_of rule) (input_number input) (pid_number pid) s) r) (made 13 r t))

-- the record of a set; none of a section under 12 bytes, where there is no such input or PID, and without a PID
unfoldable pub set_bytes : (input : ℕ) → Option ℕ → Bytes → Bytes
set_bytes input pid s = cond (is_source input pid && leb 12 (length s)) (set_record_of input pid s) []

unfoldable pub set_made : (input pid : ℕ) → (section bytes : List ℕ) → Made
set_made input pid s r = made_of (set_bytes (input_number input) (maybe_pid pid) s) r
