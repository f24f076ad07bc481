-- 9, 38 and 39 leave the words of a record as they were, 42 and 13 the bytes and the word that are lent for one.
-- Assumes nothing.
use Prim.Native.Nat.{ℕ}
use mathlib.Core.Path.{◌≡◌, refl, sym, ap, ◌∙◌}
use mathlib.Core.List.{List}
use mathlib.Core.Bool.{Bool, true, false, cond}
use native.Mathlib.Omega.{arith}
use lib.ListN.{length}
use lib.Dec.{ltb}
use Rattle.section.specs.Judged.{rule_known, rule_of}
use Rattle.rules_logs.specs.Records.{Bytes}
use Rattle.std.specs.Prelude.{Some, None, Ok, Err}
use Rattle.log_records.specs.Reading.{Read, read_at}
use Rattle.host_words.specs.Answers.{words}
use Rattle.host_words.specs.Inputs.{input_number}
use Rattle.host_words.specs.Pids.{pid_number}
use Rattle.host_log_records.specs.Calls.{tells_record, log_read, answer_of, made, made_of, offer_bytes, offer_made}

told_none : (x : Read) (place : ℕ) (w : List ℕ) (n : ℕ) → n ≡ (tells_record x place w).answer → (n ≡ 8 → ⊥) → tells_record x place w ≡ words n w
told_none (Ok (Some r)) place w n e h = absurd (h e)
told_none (Ok None) place w n e h = rw e
told_none (Err x) place w n e h = rw e

pub log_read_refused : (log : List ℕ) (place : ℕ) (fields : List ℕ) (n : ℕ) → n ≡ (log_read log place fields).answer → (n ≡ 8 → ⊥) → log_read log place fields ≡ words n fields
unfolding log_read
log_read_refused log place fields n = told_none (read_at log place) place fields n

by_tests : (a b : Bool) (l : Bytes) (d t : List ℕ) (n : ℕ) → n ≡ (cond a (made 42 d t) (cond b (made_of l d) (made 13 d t))).answer → (n ≡ 7 → ⊥) →
    cond a (made 42 d t) (cond b (made_of l d) (made 13 d t)) ≡ made n d t
by_tests true b l d t n e h = rw e
by_tests false true l d t n e h = absurd (h e)
by_tests false false l d t n e h = rw e

pub log_offer_record_refused :
    (a rule input pid : ℕ) (s d t : List ℕ) (n : ℕ) → n ≡ (offer_made a rule input pid s d t).answer → (n ≡ 7 → ⊥) → offer_made a rule input pid s d t ≡ made n d t
unfolding offer_made
log_offer_record_refused a rule input pid s d t n =
    by_tests (ltb 4098 (length s)) (rule_known rule) (offer_bytes (answer_of a) (rule_of rule) (input_number input) (pid_number pid) s) d t n
