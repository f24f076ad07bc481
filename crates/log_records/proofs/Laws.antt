-- A record byte by byte, and the size of each kind.
-- Assumes nothing.
use mathlib.Core.Path.{◌≡◌, refl}
use mathlib.Core.Bool.{true, false, cond, ◌||◌}
use mathlib.Core.List.{[], ◌∷◌}
use Prim.Native.Nat.{ℕ, ◌/◌, ◌%◌, ◌<◌}
use native.Mathlib.Omega.{arith}
use lib.Dec.{eqb}
use borrow.Author.Tests.{eq-eqb, ne_eqb}
use Rattle.section.specs.declared.header.Header.{Header}
use Rattle.section.specs.declared.header.Parts.{Parts}
use Rattle.rules_logs.specs.Records.{record_size, seen_record, failed_record, set_record, bare_set_record}

-- ---- records

pub seen_bytes : (kind input pid : ℕ) (p : Parts) {a b c d e f g h : ℕ} → a ≡ pid / 256 → b ≡ pid % 256 → c ≡ p.extension / 256 → d ≡ p.extension % 256
    → e ≡ p.change / 16777216 % 256 → f ≡ p.change / 65536 % 256 → g ≡ p.change / 256 % 256 → h ≡ p.change / 1 % 256 → p.change < 4294967296
    → kind ∷ input ∷ a ∷ b ∷ p.table_id ∷ c ∷ d ∷ p.number ∷ p.version ∷ e ∷ f ∷ g ∷ h ∷ [] ≡ seen_record kind input pid p
unfolding seen_record
seen_bytes kind input pid p a b c d e f g h n =
    let q : p.change / 16777216 % 256 ≡ p.change / 16777216 = omega (arith, n) in
    let r : p.change / 1 % 256 ≡ p.change % 256 = omega arith in
    rw (a, b, c, d, e, f, g, h, q, r) refl

pub failed_bytes : (kind input pid n : ℕ) {a b c d : ℕ} → a ≡ pid / 256 → b ≡ pid % 256 → c ≡ n / 256 → d ≡ n % 256 → kind ∷ input ∷ a ∷ b ∷ c ∷ d ∷ [] ≡ failed_record kind input pid n
unfolding failed_record
failed_bytes kind input pid n a b c d = rw (a, b, c, d) refl

pub set_bytes_lem : (input pid : ℕ) (h : Header) {a b c d e : ℕ} → a ≡ pid / 256 → b ≡ pid % 256 → c ≡ h.extension / 256 → d ≡ h.extension % 256 → e ≡ cond h.current_next 1 0
    → 5 ∷ input ∷ a ∷ b ∷ h.table_id ∷ c ∷ d ∷ e ∷ h.version ∷ h.last ∷ [] ≡ set_record input pid h
unfolding set_record
set_bytes_lem input pid h a b c d e = rw (a, b, c, d, e) refl

pub bare_set_bytes : (input : ℕ) (h : Header) {c d e : ℕ} → c ≡ h.extension / 256 → d ≡ h.extension % 256 → e ≡ cond h.current_next 1 0
    → 6 ∷ input ∷ h.table_id ∷ c ∷ d ∷ e ∷ h.version ∷ h.last ∷ [] ≡ bare_set_record input h
unfolding bare_set_record
bare_set_bytes input h c d e = rw (c, d, e) refl

-- ---- sizes

pub size_13 : (k : ℕ) → (eqb k 1 || eqb k 2) ≡ true → 13 ≡ record_size k
unfolding record_size
size_13 k a = rw a refl

pub size_6 : (k : ℕ) → (eqb k 1 || eqb k 2) ≡ false → (eqb k 3 || eqb k 4) ≡ true → 6 ≡ record_size k
unfolding record_size
size_6 k a b = rw (a, b) refl

pub size_10 : (k : ℕ) → (eqb k 1 || eqb k 2) ≡ false → (eqb k 3 || eqb k 4) ≡ false → k ≡ 5 → 10 ≡ record_size k
unfolding record_size
size_10 k a b c = rw (a, b, eq-eqb k 5 c) refl

pub size_8 : (k : ℕ) → (eqb k 1 || eqb k 2) ≡ false → (eqb k 3 || eqb k 4) ≡ false → (k ≡ 5 → ⊥) → k ≡ 6 → 8 ≡ record_size k
unfolding record_size
size_8 k a b c d = rw (a, b, ne_eqb k 5 c, eq-eqb k 6 d) refl

pub size_0 : (k : ℕ) → (eqb k 1 || eqb k 2) ≡ false → (eqb k 3 || eqb k 4) ≡ false → (k ≡ 5 → ⊥) → (k ≡ 6 → ⊥) → 0 ≡ record_size k
unfolding record_size
size_0 k a b c d = rw (a, b, ne_eqb k 5 c, ne_eqb k 6 d) refl
