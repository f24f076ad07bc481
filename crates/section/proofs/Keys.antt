-- All that is to be known of the gate's key: it tells sections apart, it has 49 bits, on input 0 it is the sum of the other four, and examples
-- (docs/RULES.md, "Examples").
-- Assumes nothing.
use Prim.Native.Nat.{ℕ, ◌+◌, ◌-◌, ◌*◌, ◌^◌, ◌<◌}
use mathlib.Core.Path.{◌≡◌, refl}
use native.Mathlib.Omega.{arith}
use Rattle.section.specs.Ids.{origin_of}
use Rattle.section.specs.Key.{key_of}
use Rattle.section.specs.declared.ids.Origin.{Origin}

fields :
    (p t e n i p' t' e' n' i' : ℕ) → p < 8192 → t < 256 → e < 65536 → n < 256 → p' < 8192 → t' < 256 → e' < 65536 → n' < 256 →
    p + t * 2 ^ 13 + e * 2 ^ 21 + n * 2 ^ 37 + i * 2 ^ 45 ≡ p' + t' * 2 ^ 13 + e' * 2 ^ 21 + n' * 2 ^ 37 + i' * 2 ^ 45 → (p ≡ p') × (t ≡ t') × (e ≡ e') × (n ≡ n') × (i ≡ i')
fields p t e n i p' t' e' n' i' hp ht he hn hp' ht' he' hn' q = (omega arith, omega arith, omega arith, omega arith, omega arith)

-- where a section came from is an origin: its PID has 13 bits, its input 4
pub record Made (o : Origin) : Type 0 where
  pub pid : o.pid.0 < 8192
  pub input : o.input.0 < 16

-- two sections that differ in where they came from, in table_id, extension or section_number have different keys
pub key_apart :
    (a b : Origin) (t e n t' e' n' : ℕ) → Made a → t < 256 → e < 65536 → n < 256 → Made b → t' < 256 → e' < 65536 → n' < 256 →
    key_of a t e n ≡ key_of b t' e' n' → (a ≡ b) × (t ≡ t') × (e ≡ e') × (n ≡ n')
unfolding key_of
key_apart a b t e n t' e' n' ha ht he hn hb ht' he' hn' q =
    let f = fields a.pid.0 t e n a.input.0 b.pid.0 t' e' n' b.input.0 ha.pid ht he hn hb.pid ht' he' hn' q in
    (λ i. record { input = record { 0 = f.4 i }; pid = record { 0 = f.0 i } }, f.1, f.2, f.3)

pub key_below : (a : Origin) (t e n : ℕ) → Made a → t < 256 → e < 65536 → n < 256 → key_of a t e n < 2 ^ 49
unfolding key_of
key_below a t e n ha ht he hn = let p = ha.pid in let i = ha.input in omega arith

-- on input 0 the key is the sum of the other four
pub key_on_0 : (pid t e n : ℕ) → key_of (origin_of 0 pid) t e n ≡ pid + t * 2 ^ 13 + e * 2 ^ 21 + n * 2 ^ 37
unfolding key_of
key_on_0 pid t e n = omega arith

-- PID 0x12, table 0x4E, extension 1, section 0, on input 0 and on input 3
pub key_small : key_of (origin_of 0 0x12) 0x4E 1 0 ≡ 2736146
unfolding key_of
key_small = refl

pub key_input : key_of (origin_of 3 0x12) 0x4E 1 0 ≡ 105553119002642
unfolding key_of
key_input = refl

-- all fields largest, on input 0 and on input 15
pub key_largest : key_of (origin_of 0 8191) 255 65535 255 ≡ 2 ^ 45 - 1
unfolding key_of
key_largest = refl

pub key_largest_input : key_of (origin_of 15 8191) 255 65535 255 ≡ 2 ^ 49 - 1
unfolding key_of
key_largest_input = refl
