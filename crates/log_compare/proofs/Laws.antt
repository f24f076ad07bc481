-- Records beside a log: one law for each way out, and that bytes which are whole records are cut up into just those.
-- Assumes nothing.
use mathlib.Core.Path.{◌≡◌, refl, sym, ap, ◌∙◌}
use mathlib.Core.Bool.{Bool, true, false, cond, not}
use mathlib.Core.List.{List, [], ◌∷◌, ◌++◌}
use Prim.Native.Nat.{ℕ, zero, suc, ◌+◌, ◌-◌, ◌≤◌, ◌<◌}
use native.Mathlib.Omega.{arith}
use lib.Dec.{ltb, eqb}
use lib.ListN.{length, take, drop, get_or, length-append}
use lib.Seq.{take_at, drop_at}
use borrow.Author.Tests.{eq-eqb, ne_eqb, lt-ltb, le-ltb, le-leb, lt-leb, ltb-false, not-true, not-false}
use Rattle.laws.specs.Lists.{same_list}
use Rattle.rules_logs.specs.Records.{Bytes, record_size}
use Rattle.rules_logs.specs.Verdict.{log_of, AllRecords}
use Rattle.std.specs.Prelude.{slice_get, Some, None, Result, Ok, Err}
use Rattle.log_compare.specs.declared.Wrong.{Wrong}
use Rattle.log_compare.specs.declared.Wrong.TheVariants as wrong
use Rattle.log_compare.specs.Compare.{met_of, onward, passed_one, passed, finished, size_of, cut_up, records_in, Laid}

-- ---- a record that begins at a place

module _ (log : Bytes) (p : ℕ) where
  pub met_unknown : {n : ℕ} → n ≡ record_size (get_or log p 0) → n ≡ 0 → Err (wrong.Unknown p) ≡ met_of log p
  unfolding met_of
  met_unknown e z = rw (eq-eqb (record_size (get_or log p 0)) 0 (sym e ∙ z)) refl

  pub met_cut : {n : ℕ} → n ≡ record_size (get_or log p 0) → (n ≡ 0 → ⊥) → length log - p < n → Err (wrong.CutOff p) ≡ met_of log p
  unfolding met_of
  met_cut {n = n} e z l = rw (← e, ne_eqb n 0 z, lt-ltb (length log - p) n l) refl

  pub met_whole : {n : ℕ} → n ≡ record_size (get_or log p 0) → (n ≡ 0 → ⊥) → n ≤ length log - p → Ok (p + n) ≡ met_of log p
  unfolding met_of
  met_whole {n = n} e z l = rw (← e, ne_eqb n 0 z, le-ltb (length log - p) n l) refl

  -- where it is whole, it ends inside the log
  pub record Ends (q : ℕ) : Type 0 where
    pub later : p ≤ q
    pub within : q ≤ length log

  met_ends : p < length log → (q : ℕ) → met_of log p ≡ Ok q → Ends q
  unfolding met_of
  met_ends h q = go (eqb size 0) (ltb (length log - p) size) refl
    where
      size : ℕ
      size = record_size (get_or log p 0)

      go : (a b : Bool) → ltb (length log - p) size ≡ b → cond a (Err (wrong.Unknown p)) (cond b (Err (wrong.CutOff p)) (Ok (p + size))) ≡ Ok q → Ends q
      go true b e m = absurd (let z : ◌≡◌ {A = ℕ} 0 1 = cc in omega arith)
      go false true e m = absurd (let z : ◌≡◌ {A = ℕ} 0 1 = cc in omega arith)
      go false false e m =
          let is : p + size ≡ q = cc in
          let l = ltb-false (length log - p) size e in record { later = omega (arith, is); within = omega (arith, l, h, is) }

  module _ {m : Result ℕ Wrong} (h : p < length log) (e : m ≡ met_of log p) where
    pub ends : {q : ℕ} → m ≡ Ok q → Ends q
    ends {q = q} n = met_ends h q (sym e ∙ n)

    -- ---- one record that is expected there

    pub one_met : {w : Wrong} (x : Bytes) → m ≡ Err w → Err w ≡ passed_one log p x
    unfolding passed_one
    one_met x n = rw (lt-leb (length log) p h, ← e, n) refl

    pub one_differs : {q : ℕ} {c : Bool} (x : Bytes) → m ≡ Ok q → c ≡ same_list (take (q - p) (drop p log)) x → not c ≡ true → Err (wrong.Differs p) ≡ passed_one log p x
    unfolding passed_one
    one_differs {c = c} x n g k = rw (lt-leb (length log) p h, ← e, n, ← g, not-true c k) refl

    pub one_passes : {q : ℕ} {c : Bool} (x : Bytes) → m ≡ Ok q → c ≡ same_list (take (q - p) (drop p log)) x → not c ≡ false → Ok q ≡ passed_one log p x
    unfolding passed_one
    one_passes {c = c} x n g k = rw (lt-leb (length log) p h, ← e, n, ← g, not-false c k) refl

    -- ---- none is expected there

    pub none_met : {w : Wrong} → m ≡ Err w → Err w ≡ finished log p
    unfolding finished
    none_met n = rw (lt-leb (length log) p h, ← e, n) refl

    pub none_over : {q : ℕ} → m ≡ Ok q → Err (wrong.TooMany p) ≡ finished log p
    unfolding finished
    none_over n = rw (lt-leb (length log) p h, ← e, n) refl

  pub one_missing : (x : Bytes) → length log ≤ p → Err (wrong.Missing p) ≡ passed_one log p x
  unfolding passed_one
  one_missing x h = rw (le-leb (length log) p h) refl

  pub none_ends : length log ≤ p → Ok tt ≡ finished log p
  unfolding finished
  none_ends h = rw (le-leb (length log) p h) refl

-- ---- bytes that are whole records

cut_back : (n : ℕ) (es : List Bytes) → AllRecords es → length (log_of es) ≤ n → cut_up n (log_of es) ≡ es
unfolding cut_up log_of
cut_back zero [] rs h = refl
cut_back (suc n) [] rs h = refl
cut_back n ([] ∷ es) rs h = absurd (omega (arith, rs.0.known, rs.0.sized))
cut_back zero ((k ∷ e) ∷ es) rs h = absurd (omega (arith, h))
cut_back (suc n) ((k ∷ e) ∷ es) rs h =
    rw (
      ne_eqb (length ((k ∷ e) ++ log_of es)) 0 (λ q. omega (arith, q)),
      take_at (k ∷ e) (log_of es) (record_size k) rs.0.sized,
      drop_at (k ∷ e) (log_of es) (record_size k) rs.0.sized,
      cut_back n es rs.1 (omega (arith, h, length-append (k ∷ e) (log_of es))),
    )
    refl

pub records_back : (es : List Bytes) → AllRecords es → records_in (log_of es) ≡ es
unfolding records_in
records_back es rs = cut_back (length (log_of es)) es rs (omega arith)

pub laid_are : {s : Bytes} (l : Laid s) → records_in s ≡ l.records
laid_are l = ap records_in l.are ∙ records_back l.records l.all

-- the first of them
record First (s : Bytes) : Type 0 where
  pub some : 0 < size_of s
  pub within : size_of s ≤ length s
  pub behind : Laid (drop (size_of s) s)
  pub is : records_in s ≡ take (size_of s) s ∷ records_in (drop (size_of s) s)

first : (s : Bytes) (es : List Bytes) → AllRecords es → s ≡ log_of es → 0 < length s → First s
unfolding log_of
first s [] rs e h = absurd (omega (arith, h, ap length e))
first s ([] ∷ es) rs e h = absurd (omega (arith, rs.0.known, rs.0.sized))
first s ((k ∷ x) ∷ es) rs e h =
    rw e
    (record {
      some = rs.0.known;
      within = omega (arith, rs.0.sized, length-append (k ∷ x) (log_of es));
      behind = record { records = es; all = rs.1; are = drop_at (k ∷ x) (log_of es) (record_size k) rs.0.sized };
      is = records_back ((k ∷ x) ∷ es) rs ∙ sym (rw (take_at (k ∷ x) (log_of es) (record_size k) rs.0.sized, drop_at (k ∷ x) (log_of es) (record_size k) rs.0.sized, records_back es rs.1) refl);
    })

-- what the first byte is
pub first_some : (x : Bytes) {k : ℕ} → Some k ≡ slice_get x 0 → (0 < length x) × (k ≡ get_or x 0 0)
first_some [] e = absurd (let z : ◌≡◌ {A = ℕ} 0 1 = cc in omega arith)
first_some (y ∷ x) e = (omega arith, cc)

pub first_none : (x : Bytes) → None ≡ slice_get x 0 → length x ≡ 0
first_none [] e = refl
first_none (y ∷ x) e = absurd (let z : ◌≡◌ {A = ℕ} 0 1 = cc in omega arith)

-- ---- one after another

module _ (log x : Bytes) (l : Laid x) (h : 0 < length x) {n : ℕ} (e : n ≡ size_of x) where
  left : First x
  left = first x l.records l.all l.are h

  pub turn_fits : n ≤ length x
  turn_fits = omega (arith, left.within, e)

  pub turn_more : 0 < n
  turn_more = omega (arith, left.some, e)

  pub turn_laid : Laid (drop n x)
  turn_laid = rw e left.behind

  module _ (p : ℕ) {m whole : Result ℕ Wrong} (q : m ≡ passed_one log p (take n x)) (w : whole ≡ passed log p (records_in x)) where
    is_one : whole ≡ onward m (λ k. passed log k (records_in (drop n x)))
    unfolding passed
    is_one = w ∙ rw (left.is, ← e, ← q) refl

    pub turn_stops : {v : Wrong} → m ≡ Err v → Err v ≡ whole
    turn_stops n = sym (is_one ∙ rw n refl)

    pub turn_on : {k : ℕ} → m ≡ Ok k → whole ≡ passed log k (records_in (drop n x))
    turn_on n = is_one ∙ rw n refl

pub all_passed : (log x : Bytes) (p : ℕ) {whole : Result ℕ Wrong} → length x ≡ 0 → whole ≡ passed log p (records_in x) → Ok p ≡ whole
unfolding passed records_in cut_up
all_passed log [] p h w = sym w
all_passed log (k ∷ x) p h w = absurd (omega (arith, h))
