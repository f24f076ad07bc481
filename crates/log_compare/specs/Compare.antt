-- Records that are expected beside those that a log has, from a place on (docs/RULES.md, "Logs"). `cond test a b` is a where the test is true, else b.
-- Assumes nothing.
use Rattle.std.specs.Prelude.{ℕ, zero, suc, ◌+◌, ◌-◌, ◌≡◌, List, [], ◌∷◌, cond, leb, ltb, eqb, length, take, drop, get_or, Result, Ok, Err}
use Rattle.laws.specs.Lists.{same_list}
use Rattle.rules_logs.specs.Records.{Bytes, record_size}
use Rattle.rules_logs.specs.Verdict.{Verdict, yes, unknown, cut_off, missing, too_many, differs, verdict, log_of, AllRecords}
use Rattle.log_compare.specs.declared.Wrong.{Wrong}
use Rattle.log_compare.specs.declared.Wrong.TheVariants as wrong

-- what is said of a log with this wrong record
abbrev pub said_of : Wrong → Verdict
said_of (wrong.Unknown p) = unknown p
said_of (wrong.CutOff p) = cut_off p
said_of (wrong.Missing p) = missing p
said_of (wrong.TooMany p) = too_many p
said_of (wrong.Differs p) = differs p

-- yes where nothing is wrong
abbrev pub verdict_of : Result Unit Wrong → Verdict
verdict_of (Ok x) = yes
verdict_of (Err w) = said_of w

-- a record begins at place p: of no kind (38), cut off (39), or whole, and then the place after it
unfoldable pub met_of : Bytes → (p : ℕ) → Result ℕ Wrong
met_of log p =
    let size : ℕ = record_size (get_or log p 0) in
    cond (eqb size 0) (Err (wrong.Unknown p)) (cond (ltb (length log - p) size) (Err (wrong.CutOff p)) (Ok (p + size)))

-- and then this from the place where the next begins, where nothing was wrong so far
abbrev pub onward : {A : Type 0} → Result ℕ Wrong → (ℕ → Result A Wrong) → Result A Wrong
onward (Ok q) then = then q
onward (Err w) then = Err w

-- the record e is expected at place p
unfoldable pub passed_one : Bytes → (p : ℕ) → Bytes → Result ℕ Wrong
passed_one log p e =
    cond (leb (length log) p) (Err (wrong.Missing p))
    (onward (met_of log p) (λ q. cond (same_list (take (q - p) (drop p log)) e) (Ok q) (Err (wrong.Differs p))))

-- records are expected from place p on
unfoldable pub passed : Bytes → (p : ℕ) → List Bytes → Result ℕ Wrong
passed log p [] = Ok p
passed log p (e ∷ es) = onward (passed_one log p e) (λ q. passed log q es)

-- no record is expected from place p on
unfoldable pub finished : Bytes → (p : ℕ) → Result Unit Wrong
finished log p = cond (leb (length log) p) (Ok tt) (onward (met_of log p) (λ q. Err (wrong.TooMany p)))

-- what is said of a log from what was seen so far on, beside the records that are still expected
abbrev pub goes_on : Bytes → List Bytes → Result ℕ Wrong → Verdict
goes_on log rest (Ok q) = verdict q (drop q log) rest
goes_on log rest (Err w) = said_of w

-- ---- records one after another in bytes

abbrev pub size_of : Bytes → ℕ
size_of s = record_size (get_or s 0 0)

unfoldable pub cut_up : (n : ℕ) → Bytes → List Bytes
cut_up zero s = []
cut_up (suc n) s = cond (eqb (length s) 0) [] (take (size_of s) s ∷ cut_up n (drop (size_of s) s))

-- bytes cut up into records: there are no more of them than bytes
unfoldable pub records_in : Bytes → List Bytes
records_in s = cut_up (length s) s

-- the bytes are whole records
pub record Laid (s : Bytes) : Type 0 where
  pub records : List Bytes
  pub all : AllRecords records
  pub are : s ≡ log_of records
