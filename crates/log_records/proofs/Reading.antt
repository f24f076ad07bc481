-- A record read from its bytes: one law for each way out.
-- Assumes nothing.
use mathlib.Core.Path.{◌≡◌, refl, sym, ◌∙◌}
use mathlib.Core.Bool.{Bool, true, false, cond, ◌||◌}
use mathlib.Core.List.{List}
use Prim.Native.Nat.{ℕ, ◌+◌, ◌-◌, ◌≤◌, ◌<◌}
use native.Mathlib.Omega.{arith}
use lib.Dec.{eqb}
use lib.ListN.{length}
use borrow.Author.Tests.{eq-eqb, ne_eqb, le-leb, lt-leb, lt-ltb, le-ltb}
use Rattle.crc.specs.Crc.{stored_at}
use Rattle.section.specs.Header.{byte_at}
use Rattle.rules_logs.specs.Records.{record_size}
use Rattle.log_records.specs.declared.Record.{Record}
use Rattle.std.specs.Prelude.{Some, None, Ok, Err}
use Rattle.log_records.specs.declared.ReadError.TheVariants.{Unknown, Cut}
use Rattle.log_records.specs.Reading.{word_at, seen_at, failed_at, set_at, bare_set_at, fields_at, read_at, IsSize}

module _ (s : List ℕ) (i : ℕ) where
  pub seen_read : {p e c : ℕ} → p ≡ word_at s (i + 2) → e ≡ word_at s (i + 5) → c ≡ stored_at s (i + 9)
      → ◌≡◌ {A = Record} (record { kind = byte_at s i; input = byte_at s (i + 1); pid = p; table_id = byte_at s (i + 4); extension = e; number = byte_at s (i + 7); version = byte_at s (i + 8); change = c; length = 0; current_next = 0; last = 0 }) (seen_at s i)
  unfolding seen_at
  seen_read p e c = rw (p, e, c) refl

  pub failed_read : {p e : ℕ} → p ≡ word_at s (i + 2) → e ≡ word_at s (i + 4)
      → ◌≡◌ {A = Record} (record { kind = byte_at s i; input = byte_at s (i + 1); pid = p; table_id = 0; extension = 0; number = 0; version = 0; change = 0; length = e; current_next = 0; last = 0 }) (failed_at s i)
  unfolding failed_at
  failed_read p e = rw (p, e) refl

  pub set_read_lem : {p e : ℕ} → p ≡ word_at s (i + 2) → e ≡ word_at s (i + 5)
      → ◌≡◌ {A = Record} (record { kind = byte_at s i; input = byte_at s (i + 1); pid = p; table_id = byte_at s (i + 4); extension = e; number = 0; version = byte_at s (i + 8); change = 0; length = 0; current_next = byte_at s (i + 7); last = byte_at s (i + 9) }) (set_at s i)
  unfolding set_at
  set_read_lem p e = rw (p, e) refl

  pub bare_set_read : {e : ℕ} → e ≡ word_at s (i + 3)
      → ◌≡◌ {A = Record} (record { kind = byte_at s i; input = byte_at s (i + 1); pid = 8192; table_id = byte_at s (i + 2); extension = e; number = 0; version = byte_at s (i + 6); change = 0; length = 0; current_next = byte_at s (i + 5); last = byte_at s (i + 7) }) (bare_set_at s i)
  unfolding bare_set_at
  bare_set_read e = rw e refl

  -- ---- by size

  pub of_13 : {n : ℕ} {r : Record} → n ≡ 13 → r ≡ seen_at s i → r ≡ fields_at s i n
  unfolding fields_at
  of_13 {n = n} e q = rw (eq-eqb n 13 e) q

  pub of_6 : {n : ℕ} {r : Record} → (n ≡ 13 → ⊥) → n ≡ 6 → r ≡ failed_at s i → r ≡ fields_at s i n
  unfolding fields_at
  of_6 {n = n} a e q = rw (ne_eqb n 13 a, eq-eqb n 6 e) q

  pub of_10 : {n : ℕ} {r : Record} → (n ≡ 13 → ⊥) → (n ≡ 6 → ⊥) → n ≡ 10 → r ≡ set_at s i → r ≡ fields_at s i n
  unfolding fields_at
  of_10 {n = n} a b e q = rw (ne_eqb n 13 a, ne_eqb n 6 b, eq-eqb n 10 e) q

  pub of_8 : {n : ℕ} {r : Record} → (n ≡ 13 → ⊥) → (n ≡ 6 → ⊥) → (n ≡ 10 → ⊥) → r ≡ bare_set_at s i → r ≡ fields_at s i n
  unfolding fields_at
  of_8 {n = n} a b c q = rw (ne_eqb n 13 a, ne_eqb n 6 b, ne_eqb n 10 c) q

  -- ---- the ways out

  pub at_end_lem : length s ≤ i → Ok None ≡ read_at s i
  unfolding read_at
  at_end_lem h = rw (le-leb (length s) i h) refl

  pub no_kind : {n : ℕ} → i < length s → n ≡ record_size (byte_at s i) → n ≡ 0 → Err Unknown ≡ read_at s i
  unfolding read_at
  no_kind h e z = rw (lt-leb (length s) i h, eq-eqb (record_size (byte_at s i)) 0 (sym e ∙ z)) refl

  pub cut_off : {n : ℕ} → i < length s → n ≡ record_size (byte_at s i) → (n ≡ 0 → ⊥) → length s - i < n → Err Cut ≡ read_at s i
  unfolding read_at
  cut_off {n = n} h e z l =
      rw (lt-leb (length s) i h, ne_eqb (record_size (byte_at s i)) 0 (λ q. z (e ∙ q)), lt-ltb (length s - i) (record_size (byte_at s i)) (omega (arith, l, e))) refl

  pub found_there : {n : ℕ} {r : Record} → i < length s → n ≡ record_size (byte_at s i) → (n ≡ 0 → ⊥) → n ≤ length s - i → r ≡ fields_at s i n → Ok (Some r) ≡ read_at s i
  unfolding read_at
  found_there {n = n} h e z l q =
      rw (lt-leb (length s) i h, ne_eqb (record_size (byte_at s i)) 0 (λ q. z (e ∙ q)), le-ltb (length s - i) (record_size (byte_at s i)) (omega (arith, l, e)), ← e, q) refl

-- ---- what a size can be

size_by : (a b c d : Bool) → ℕ
size_by a b c d = cond a 13 (cond b 6 (cond c 10 (cond d 8 0)))

few : (a b c d : Bool) → (size_by a b c d ≡ 13 → ⊥) → (size_by a b c d ≡ 6 → ⊥) → (size_by a b c d ≡ 10 → ⊥) → (size_by a b c d ≡ 0 → ⊥) → size_by a b c d ≡ 8
unfolding size_by
few true b c d p q r z = absurd (p refl)
few false true c d p q r z = absurd (q refl)
few false false true d p q r z = absurd (r refl)
few false false false true p q r z = refl
few false false false false p q r z = absurd (z refl)

eight : (k : ℕ) → (record_size k ≡ 13 → ⊥) → (record_size k ≡ 6 → ⊥) → (record_size k ≡ 10 → ⊥) → (record_size k ≡ 0 → ⊥) → record_size k ≡ 8
unfolding record_size size_by
eight k p q r z = few (eqb k 1 || eqb k 2) (eqb k 3 || eqb k 4) (eqb k 5) (eqb k 6) p q r z

pub last_room : (n i m : ℕ) → IsSize n → i + n ≤ m → (n ≡ 13 → ⊥) → (n ≡ 6 → ⊥) → (n ≡ 10 → ⊥) → i + 8 ≤ m
last_room n i m x h p q r =
    let e = eight x.kind (λ t. p (x.sized ∙ t)) (λ t. q (x.sized ∙ t)) (λ t. r (x.sized ∙ t)) (λ t. x.known (x.sized ∙ t)) in
    omega (arith, h, x.sized, e)
