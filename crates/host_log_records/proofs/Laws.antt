-- What each call leaves in what a host lends, from what its parts leave: one law for each way out.
-- Assumes nothing.
use Prim.Native.Nat.{ℕ, ◌+◌, ◌-◌, ◌≤◌, ◌<◌}
use mathlib.Core.Path.{◌≡◌, refl, sym, ap, ◌∙◌}
use mathlib.Core.List.{List, [], ◌∷◌}
use mathlib.Core.Bool.{Bool, true, false, cond, ◌&&◌}
use native.Mathlib.Omega.{arith}
use native.Mathlib.Numerals.{unary_clauses}
use lib.ListN.{length, take}
use lib.Dec.{leb, ltb, eqb}
use lib.Seq.{paste}
use borrow.Author.Tests.{eq-eqb, ne_eqb, lt-ltb, le-ltb, leb-false, ltb-false}
use Rattle.section.specs.Header.{byte_at}
use Rattle.section.specs.Judged.{rule_known, rule_of}
use Rattle.section.specs.declared.header.ChangeRule.{ChangeRule}
use Rattle.std.specs.Prelude.{Option, Some, None}
use Rattle.offers.specs.Offers.{is_short}
use Rattle.offers.specs.declared.Failure.TheVariants as failure
use Rattle.answers.specs.declared.Refusal.TheVariants as refusal
use Rattle.gate_state.specs.declared.Answer.{Answer}
use Rattle.gate_state.specs.declared.Answer.TheVariants as answer
use Rattle.rules_logs.specs.Records.{Bytes, record_size, seen_record, failed_record, set_record, bare_set_record}
use Rattle.log_records.specs.Reading.{seen_at, failed_at, set_at, bare_set_at, fields_at, Read, read_at, error_number, read_number}
use Rattle.log_records.specs.declared.Record.{Record}
use Rattle.std.specs.Prelude.{Option, Some, None, Result, Ok, Err}
use Rattle.log_records.specs.declared.ReadError.{ReadError}
use Rattle.log_records.specs.declared.ReadError.TheVariants as read
use Rattle.log_entries.specs.Entries.{entry_with}
use Rattle.log_entries.specs.declared.Entry.{Entry}
use Rattle.log_entries.proofs.Entries.{entry_shows}
use Rattle.log_makers.specs.Makers.{parts_in, seen_or, offer_record, offer_noted, noted_of, is_origin, is_source, set_record_of, set_entry}
use Rattle.section.specs.declared.header.Parts.{Parts}
use Rattle.log_makers.specs.declared.NoteError.{NoteError}
use Rattle.log_makers.specs.declared.NoteError.TheVariants as note
use Rattle.host_words.specs.Answers.{Words, words}
use Rattle.host_words.specs.Inputs.{input_number}
use Rattle.host_words.specs.Pids.{pid_number, maybe_pid}
use Rattle.host_log_records.specs.Calls.{record_words, tells_record, log_read, answer_of, laid_over, RoomFor, made, made_of, offer_bytes, offer_made, set_bytes, set_made}

-- ---- one record read

kind_at : (s : List ℕ) (i size : ℕ) → (fields_at s i size).kind ≡ byte_at s i
unfolding fields_at seen_at failed_at set_at bare_set_at
kind_at s i size = go (eqb size 13) (eqb size 6) (eqb size 10)
  where
    go : (a b c : Bool) → (cond a (seen_at s i) (cond b (failed_at s i) (cond c (set_at s i) (bare_set_at s i)))).kind ≡ byte_at s i
    go true b c = refl
    go false true c = refl
    go false false true = refl
    go false false false = refl

abbrev kind_in : Read → ℕ
kind_in (Ok (Some r)) = r.kind
kind_in (Ok None) = 0
kind_in (Err e) = 0

-- a record that was found ends within the log
pub found_fits : (s : List ℕ) (i : ℕ) (r : Record) (x : Read) → x ≡ read_at s i → x ≡ Ok (Some r) → i + record_size r.kind ≤ length s
unfolding read_at
found_fits s i r x e h = go (leb (length s) i) (eqb (record_size (byte_at s i)) 0) (ltb (length s - i) (record_size (byte_at s i))) refl refl refl (sym e ∙ h)
  where
    go : (a b c : Bool) → leb (length s) i ≡ a → eqb (record_size (byte_at s i)) 0 ≡ b → ltb (length s - i) (record_size (byte_at s i)) ≡ c →
        cond a (Ok None) (cond b (Err read.Unknown) (cond c (Err read.Cut) (Ok (Some (fields_at s i (record_size (byte_at s i))))))) ≡ Ok (Some r) → i + record_size r.kind ≤ length s
    go true b c p q t z = let y : ◌≡◌ {A = ℕ} 9 8 = ap read_number z in absurd (omega (arith, y))
    go false true c p q t z = let y : ◌≡◌ {A = ℕ} 38 8 = ap read_number z in absurd (omega (arith, y))
    go false false true p q t z = let y : ◌≡◌ {A = ℕ} 39 8 = ap read_number z in absurd (omega (arith, y))
    go false false false p q t z =
        let k : byte_at s i ≡ r.kind = sym (kind_at s i (record_size (byte_at s i))) ∙ ap kind_in z in
        let m : record_size (byte_at s i) ≡ record_size r.kind = ap record_size k in
        omega (arith, leb-false (length s) i p, ltb-false (length s - i) (record_size (byte_at s i)) t, m)

-- so the place after it is a number that a host can be told
pub place_fits : (s : List ℕ) (i size : ℕ) (r : Record) (x : Read) → x ≡ read_at s i → x ≡ Ok (Some r) → size ≡ record_size r.kind → length s < 18446744073709551616 → i + size < 18446744073709551616
place_fits s i size r x e h m n = let f : i + record_size r.kind ≤ length s = found_fits s i r x e h in omega (arith, f, m, n)

module _ (s : List ℕ) (i : ℕ) (w : List ℕ) (x : Read) (e : x ≡ read_at s i) where
  pub read_found : (r : Record) (size : ℕ) (v : List ℕ) → x ≡ Ok (Some r) → size ≡ record_size r.kind → v ≡ record_words r (i + size) → words 8 v ≡ log_read s i w
  unfolding log_read
  read_found r size v h m z = rw (← e, h, z, m)

  pub read_end : x ≡ Ok None → words 9 w ≡ log_read s i w
  unfolding log_read
  read_end h = rw (← e, h)

  pub read_not : (y : ReadError) (n : ℕ) → x ≡ Err y → n ≡ error_number y → words n w ≡ log_read s i w
  unfolding log_read
  read_not y n h k = rw (← e, h, k)

-- ---- the answer of a number

module _ (n : ℕ) where
  pub answer_1 : n ≡ 1 → answer.Emitted ≡ answer_of n
  unfolding answer_of
  answer_1 h = rw (eq-eqb n 1 h)

  module _ (a : n ≡ 1 → ⊥) where
    pub answer_2 : n ≡ 2 → answer.Suppressed ≡ answer_of n
    unfolding answer_of
    answer_2 h = rw (ne_eqb n 1 a, eq-eqb n 2 h)

    module _ (b : n ≡ 2 → ⊥) where
      pub answer_3 : n ≡ 3 → answer.Failed (failure.Mismatch 0 0) ≡ answer_of n
      unfolding answer_of
      answer_3 h = rw (ne_eqb n 1 a, ne_eqb n 2 b, eq-eqb n 3 h)

      pub answer_31 : (n ≡ 3 → ⊥) → n ≡ 31 → answer.Failed (failure.TooShort 0) ≡ answer_of n
      unfolding answer_of
      answer_31 c h = rw (ne_eqb n 1 a, ne_eqb n 2 b, ne_eqb n 3 c, eq-eqb n 31 h)

      pub answer_other : (n ≡ 3 → ⊥) → (n ≡ 31 → ⊥) → answer.Refused refusal.BadPid ≡ answer_of n
      unfolding answer_of
      answer_other c d = rw (ne_eqb n 1 a, ne_eqb n 2 b, ne_eqb n 3 c, ne_eqb n 31 d)

-- ---- the bytes of a record

seen_size : (kind input pid : ℕ) (f : Option Parts) → length (seen_or kind input pid f) ≤ 13
unfolding seen_record
seen_size kind input pid (Some p) = omega arith
seen_size kind input pid None = omega arith

offer_size : (a : Answer) (rule : ChangeRule) (input pid : ℕ) (s : Bytes) → length (offer_record a rule input pid s) ≤ 13
unfolding offer_record failed_record
offer_size answer.Emitted rule input pid s = seen_size 1 input pid (parts_in rule s)
offer_size answer.Suppressed rule input pid s = seen_size 2 input pid (parts_in rule s)
offer_size (answer.Failed f) rule input pid s = omega arith
offer_size (answer.Refused r) rule input pid s = omega arith

either_size : (b : Bool) (l : Bytes) (n : ℕ) → length l ≤ n → length (cond b l []) ≤ n
either_size true l n h = h
either_size false l n h = omega arith

set_size : (input : ℕ) (pid : Option ℕ) (s : Bytes) → length (set_record_of input pid s) ≤ 10
unfolding set_record bare_set_record
set_size input (Some p) s = omega arith
set_size input None s = omega arith

entry_size_lem : (l : Bytes) → (entry_with l).length ≡ length l
unfolding entry_with
entry_size_lem l = refl

has_room : (e : Entry) (l : Bytes) (n : ℕ) → e ≡ entry_with l → length l ≤ n → n ≤ 23 → RoomFor e n
has_room e l n h k m =
    let z : e.length ≡ length l = ap (λ (x : Entry). x.length) h ∙ entry_size_lem l in
    record { short = omega (arith, z, k, m); room = omega (arith, z, k) }

laid_entry : (e : Entry) (l d v t : List ℕ) → e ≡ entry_with l → v ≡ laid_over d (take e.length e.bytes) → t ≡ e.length ∷ [] → made 7 v t ≡ made_of l d
laid_entry e l d v t h p q =
    let b : take e.length e.bytes ≡ l = ap (λ (x : Entry). take x.length x.bytes) h ∙ entry_shows l in
    let n : e.length ≡ length l = ap (λ (x : Entry). x.length) h ∙ entry_size_lem l in
    let w : v ≡ laid_over d l = p ∙ ap (λ (x : Bytes). laid_over d x) b in
    let y : t ≡ length l ∷ [] = q ∙ ap (λ (k : ℕ). k ∷ []) n in
    λ i. made 7 (w i) (y i)

-- ---- the record of an offer

pub laid_part : (d all v : List ℕ) (n : ℕ) → v ≡ paste d 0 (take (n - 0) all) (length (take (n - 0) all)) → v ≡ laid_over d (take n all)
laid_part d all v n h = simp unary_clauses at h

noted_entry : (a : Answer) (rule : ChangeRule) (input pid : ℕ) (s : Bytes) → length s ≤ 4098 → noted_of a rule input pid s ≡ Ok (entry_with (offer_bytes a rule input pid s))
unfolding noted_of offer_noted offer_bytes
noted_entry a rule input pid s h = rw (le-ltb 4098 (length s) h)

module _ (x : Answer) (ru : ChangeRule) (i p : ℕ) (s : List ℕ) {noted : Result Entry NoteError} (e : noted ≡ noted_of x ru i p s) (h : length s ≤ 4098) where
  noted_ok : noted ≡ Ok (entry_with (offer_bytes x ru i p s))
  noted_ok = e ∙ noted_entry x ru i p s h

  -- a section that is not too long is noted
  pub offer_noted_ever : {y : NoteError} → noted ≡ Err y → ⊥
  offer_noted_ever {y = y} q =
      let k : ◌≡◌ {A = Result Entry NoteError} (Ok (entry_with (offer_bytes x ru i p s))) (Err y) = sym noted_ok ∙ q in
      let z : ◌≡◌ {A = ℕ} 0 1 = cc in omega arith

  module _ {entry : Entry} (q : noted ≡ Ok entry) where
    the_entry : entry ≡ entry_with (offer_bytes x ru i p s)
    the_entry = let k : ◌≡◌ {A = Result Entry NoteError} (Ok entry) (Ok (entry_with (offer_bytes x ru i p s))) = sym q ∙ noted_ok in cc

    pub offer_room : (n : ℕ) → n ≡ 13 → RoomFor entry n
    unfolding offer_bytes
    offer_room n m = rw m (has_room entry (offer_bytes x ru i p s) 13 the_entry (either_size (is_origin i p) (offer_record x ru i p s) 13 (offer_size x ru i p s)) (omega arith))

    pub offer_made_lem : (a rule input pid : ℕ) (known : Bool) (d told v t : List ℕ) → known ≡ rule_known rule → known ≡ true → i ≡ input_number input → p ≡ pid_number pid → ru ≡ rule_of rule → x ≡ answer_of a →
        v ≡ laid_over d (take entry.length entry.bytes) → t ≡ entry.length ∷ [] → made 7 v t ≡ offer_made a rule input pid s d told
    unfolding offer_made
    offer_made_lem a rule input pid known d told v t k kt ii pp rr xx vv tt =
        laid_entry entry (offer_bytes x ru i p s) d v t the_entry vv tt
        ∙ rw (le-ltb 4098 (length s) h, ← k, kt, ← ii, ← pp, ← rr, ← xx)

module _ (a rule input pid : ℕ) (s d told : List ℕ) where
  pub offer_overlong : 4098 < length s → made 42 d told ≡ offer_made a rule input pid s d told
  unfolding offer_made
  offer_overlong h = rw (lt-ltb 4098 (length s) h)

  pub offer_unknown : (known : Bool) → length s ≤ 4098 → known ≡ rule_known rule → known ≡ false → made 13 d told ≡ offer_made a rule input pid s d told
  unfolding offer_made
  offer_unknown known h k kf = rw (le-ltb 4098 (length s) h, ← k, kf)

-- ---- the record of a set

module _ (i : ℕ) (p : Option ℕ) (s : List ℕ) (entry : Entry) (e : entry ≡ set_entry i p s) where
  of_set : entry ≡ entry_with (set_bytes i p s)
  unfolding set_entry set_bytes
  of_set = e

  pub set_room : (n : ℕ) → n ≡ 10 → RoomFor entry n
  unfolding set_bytes
  set_room n m = rw m (has_room entry (set_bytes i p s) 10 of_set (either_size (is_source i p && leb 12 (length s)) (set_record_of i p s) 10 (set_size i p s)) (omega arith))

  pub set_made_lem : (input pid : ℕ) (d v t : List ℕ) → i ≡ input_number input → p ≡ maybe_pid pid →
      v ≡ laid_over d (take entry.length entry.bytes) → t ≡ entry.length ∷ [] → made 7 v t ≡ set_made input pid s d
  unfolding set_made
  set_made_lem input pid d v t ii pp vv tt = laid_entry entry (set_bytes i p s) d v t of_set vv tt ∙ rw (← ii, ← pp)
