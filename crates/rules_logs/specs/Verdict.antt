-- What a checker says of a log, record by record beside the records that are expected (docs/RULES.md, "Logs").
-- Assumes nothing.
use Rattle.std.specs.Prelude.{ℕ, ◌+◌, ◌≤◌, ◌<◌, ◌≡◌, List, [], ◌∷◌, ◌++◌, Bool, true, cond, ltb, eqb, length, take, drop, get_or}
use Rattle.laws.specs.Lists.{same_list}
use Rattle.rules_logs.specs.Records.{Bytes, record_size}

-- yes (8); or the byte, from 0, where the record starts or should start that is of no kind (38), cut off (39), missing, too many or another (40)
pub data Verdict : Type 0 where
  yes : Verdict
  unknown : (place : ℕ) → Verdict
  cut_off : (place : ℕ) → Verdict
  missing : (place : ℕ) → Verdict
  too_many : (place : ℕ) → Verdict
  differs : (place : ℕ) → Verdict

abbrev pub verdict_no : Verdict → ℕ
verdict_no yes = 8
verdict_no (unknown p) = 38
verdict_no (cut_off p) = 39
verdict_no (missing p) = 40
verdict_no (too_many p) = 40
verdict_no (differs p) = 40

-- at place p a record of this kind begins, and so many bytes are left: 38, then 39, then what is said of a record that is there whole
abbrev pub headed : (p kind left : ℕ) → Verdict → Verdict
headed p kind left v = cond (eqb (record_size kind) 0) (unknown p) (cond (ltb left (record_size kind)) (cut_off p) v)

-- the log from place p on, beside the records that are still expected
unfoldable pub verdict : (p : ℕ) → Bytes → List Bytes → Verdict
verdict p [] [] = yes
verdict p [] (e ∷ es) = missing p
verdict p (k ∷ log) [] = headed p k (length (k ∷ log)) (too_many p)
verdict p (k ∷ log) (e ∷ es) =
    let size : ℕ = record_size k in
    headed p k (length (k ∷ log)) (cond (same_list (take size (k ∷ log)) e) (verdict (p + size) (drop size (k ∷ log)) es) (differs p))

-- the records one after another
unfoldable pub log_of : List Bytes → Bytes
log_of [] = []
log_of (e ∷ es) = e ++ log_of es

-- it begins with a kind that there is, and has the size of that kind
pub record IsRecord (e : Bytes) : Type 0 where
  pub known : 0 < record_size (get_or e 0 0)
  pub sized : length e ≡ record_size (get_or e 0 0)

abbrev pub AllRecords : List Bytes → Type 0
AllRecords [] = Unit {0}
AllRecords (e ∷ es) = IsRecord e × AllRecords es

-- the same as a relation: v is what is to be said of the log from place p on. Whole records that are as expected are passed, one after another; where the
-- first stands that is not, or the end, the log says which it is
pub data Says : (p : ℕ) → Bytes → List Bytes → Verdict → Type 0 where
  ends : {p : ℕ} → Says p [] [] yes
  is_missing : {p : ℕ} (e : Bytes) (es : List Bytes) → Says p [] (e ∷ es) (missing p)
  is_unknown : {p : ℕ} (k : ℕ) (log : Bytes) (es : List Bytes) → record_size k ≡ 0 → Says p (k ∷ log) es (unknown p)
  is_cut : {p : ℕ} (k : ℕ) (log : Bytes) (es : List Bytes) → 0 < record_size k → length (k ∷ log) < record_size k → Says p (k ∷ log) es (cut_off p)
  is_over : {p : ℕ} (k : ℕ) (log : Bytes) → 0 < record_size k → record_size k ≤ length (k ∷ log) → Says p (k ∷ log) [] (too_many p)
  is_other : {p : ℕ} (k : ℕ) (log e : Bytes) (es : List Bytes) → 0 < record_size k → record_size k ≤ length (k ∷ log) → (take (record_size k) (k ∷ log) ≡ e → ⊥)
      → Says p (k ∷ log) (e ∷ es) (differs p)
  passes : {p : ℕ} {v : Verdict} (e log : Bytes) (es : List Bytes) → IsRecord e → Says (p + length e) log es v → Says p (e ++ log) (e ∷ es) v
