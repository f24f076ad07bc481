-- The groups of a PAT one by one, the ways out of reading one, and what the set has then.
-- Assumes nothing.
use mathlib.Core.Path.{◌≡◌, refl, sym, ap, ◌∙◌}
use mathlib.Core.Logic.{⊎_elim}
use mathlib.Core.Bool.{Bool, true, false, cond, not, ◌&&◌, ◌||◌, or-false}
use Prim.Native.Nat.{ℕ, suc, ◌+◌, ◌-◌, ◌/◌, ◌%◌, ◌≤◌, ◌<◌}
use native.Mathlib.Omega.{arith}
use mathlib.Core.List.{List, [], ◌∷◌, ◌++◌}
use lib.ListN.{length, get_or, take, drop, replicate, set, length-take, length-replicate, get_or-eq_default}
use lib.Seq.{get_or-drop, get_or-take}
use lib.Dec.{leb, eqb}
use borrow.Author.Tests.{eq-eqb, ne_eqb, le-leb, lt-leb, leb-true, not-true, not-false}
use Rattle.laws.specs.Bits.{has_bit, add_bit, add_bits}
use Rattle.laws.proofs.Bits.{length_add_bits, among, InRoom, has_all, has_none}
use Rattle.laws.proofs.Tests.{and_true, and_none, lt_or_le}
use Rattle.section.specs.Header.{byte_at, long_form, section_length, word16}
use Rattle.pat.specs.declared.Pat.TheVariants.{Readable, Unreadable}
use Rattle.section.specs.Facts.{Bytes}
use Rattle.pat.specs.Pat.{pid_of, program_pids, groups_of, listed, set_n, readable, pat_of, with_programs, with_group}

-- four bytes and what follows them
four : (t : List ℕ) → 4 ≤ length t → t ≡ get_or t 0 0 ∷ get_or t 1 0 ∷ get_or t 2 0 ∷ get_or t 3 0 ∷ drop 4 t
four [] h = absurd (omega arith)
four (a ∷ []) h = absurd (omega arith)
four (a ∷ b ∷ []) h = absurd (omega arith)
four (a ∷ b ∷ c ∷ []) h = absurd (omega arith)
four (a ∷ b ∷ c ∷ d ∷ t) h = refl

-- the way out of a group: program 0 adds nothing, any other its PID
module _ (group n : List ℕ) (number : ℕ) (e : number ≡ word16 (byte_at group 0) (byte_at group 1)) where
  pub group_zero : number ≡ 0 → n ≡ with_group group n
  unfolding with_group
  group_zero z = rw (eq-eqb (word16 (byte_at group 0) (byte_at group 1)) 0 (sym e ∙ z))

  pub group_some : (number ≡ 0 → ⊥) → (m : List ℕ) (p : ℕ) → p ≡ pid_of (byte_at group 2) (byte_at group 3) → m ≡ add_bit n p → m ≡ with_group group n
  unfolding with_group
  group_some z m p ep em = rw (ne_eqb (word16 (byte_at group 0) (byte_at group 1)) 0 (λ w. z (e ∙ w)), em, ep)

-- a turn of the loop over the groups, of which `rest` are left, and its end
pub turn_group : (group rest rest' n n' all : List ℕ) → rest ≡ group ++ rest' → length group ≡ 4 → n' ≡ with_group group n → add_bits n (program_pids rest) ≡ all
    → add_bits n' (program_pids rest') ≡ all
unfolding program_pids with_group add_bits
turn_group [] rest rest' n n' all r h e q = absurd (omega (arith, h))
turn_group (a ∷ []) rest rest' n n' all r h e q = absurd (omega (arith, h))
turn_group (a ∷ b ∷ []) rest rest' n n' all r h e q = absurd (omega (arith, h))
turn_group (a ∷ b ∷ c ∷ []) rest rest' n n' all r h e q = absurd (omega (arith, h))
turn_group (a ∷ b ∷ c ∷ d ∷ []) rest rest' n n' all r h e q =
    rw e (sym (pick (eqb (word16 a b) 0) (pid_of c d) (program_pids rest')) ∙ ap (λ (l : List ℕ). add_bits n (program_pids l)) (sym r) ∙ q)
  where
    pick : (b : Bool) (p : ℕ) (ps : List ℕ) → add_bits n (cond b ps (p ∷ ps)) ≡ add_bits (cond b n (add_bit n p)) ps
    pick true p ps = refl
    pick false p ps = refl
turn_group (a ∷ b ∷ c ∷ d ∷ x ∷ group) rest rest' n n' all r h e q = absurd (omega (arith, h))

pub turn_end : (rest n all : List ℕ) → length rest < 4 → add_bits n (program_pids rest) ≡ all → n ≡ all
unfolding program_pids add_bits
turn_end rest n all h q = sym (ap (add_bits n) (short rest h)) ∙ q
  where
    short : (t : List ℕ) → length t < 4 → program_pids t ≡ []
    short [] h = refl
    short (a ∷ []) h = refl
    short (a ∷ b ∷ []) h = refl
    short (a ∷ b ∷ c ∷ []) h = refl
    short (a ∷ b ∷ c ∷ d ∷ t) h = absurd (omega arith)

-- the ways out of the test
pub readable_short : (s : List ℕ) → length s < 12 → false ≡ readable s
readable_short s h = rw (lt-leb 12 (length s) h)

pub readable_rest : (s : List ℕ) (n : ℕ) → 12 ≤ length s → n ≡ section_length s
    → (eqb (byte_at s 0) 0 && long_form s && eqb (length s) (3 + n) && eqb ((length s - 12) % 4) 0) ≡ readable s
readable_rest s n h e = rw (le-leb 12 (length s) h, e)

pub readable_long : (s : List ℕ) (b : Bool) → b ≡ readable s → not b ≡ false → 12 ≤ length s
readable_long s b e h = leb-true 12 (length s) (and_true (leb 12 (length s)) _ (sym e ∙ not-false b h)).0

-- a PAT has table_id 0
pub unreadable : (s : List ℕ) → eqb (byte_at s 0) 0 ≡ false → readable s ≡ false
unreadable s e = rw e (and_none (leb 12 (length s)))

-- the ways out of `programs`: the code has the groups as the part from 8 to 4 before the end
module _ (s n : List ℕ) (b : Bool) (e : b ≡ readable s) where
  pub programs_no : not b ≡ true → (Unreadable ≡ pat_of s) × (n ≡ with_programs s n)
  unfolding pat_of with_programs
  programs_no h = (rw (← e, not-true b h), rw (← e, not-true b h))

  pub programs_yes : (m : List ℕ) → not b ≡ false → m ≡ add_bits n (program_pids (take (length s - 4 - 8) (drop 8 s))) → (Readable ≡ pat_of s) × (m ≡ with_programs s n)
  unfolding pat_of with_programs
  programs_yes m h em = let l : length s - 4 - 8 ≡ length s - 12 = omega arith in (rw (← e, not-false b h), rw (← e, not-false b h, ← l) em)

-- a set stays as long as it is
pub length_programs : (s n : List ℕ) → length (with_programs s n) ≡ length n
unfolding with_programs
length_programs s n = go (readable s)
  where
    go : (b : Bool) → length (cond b (add_bits n (program_pids (groups_of s))) n) ≡ length n
    go true = length_add_bits n (program_pids (groups_of s))
    go false = refl

-- every PID of a PAT has its bit in a set of 128 words
bytes_part : (a k : ℕ) (s : List ℕ) → Bytes s → Bytes (take k (drop a s))
bytes_part a k s h i =
    ⊎_elim
    (λ (l : i < k). rw (get_or-take k (drop a s) i 0 l, get_or-drop a s i 0) (h (a + i)))
    (λ (l : k ≤ i). let e : length (take k (drop a s)) ≤ i = simp length-take (omega arith) in rw (get_or-eq_default (take k (drop a s)) 0 e) (omega arith))
    (lt_or_le i k)

in_room : (n : List ℕ) → length n ≡ 128 → (s : List ℕ) → Bytes s → InRoom n (program_pids s)
unfolding program_pids
in_room n l [] h = tt
in_room n l (a ∷ []) h = tt
in_room n l (a ∷ b ∷ []) h = tt
in_room n l (a ∷ b ∷ c ∷ []) h = tt
in_room n l (a ∷ b ∷ c ∷ d ∷ groups) h =
    pick (eqb (word16 a b) 0) (omega (arith, h 3)) (in_room n l groups (λ i. h (suc (suc (suc (suc i))))))
  where
    pick : (e : Bool) → pid_of c d / 64 < length n → InRoom n (program_pids groups) → InRoom n (cond e (program_pids groups) (pid_of c d ∷ program_pids groups))
    pick true p r = r
    pick false p r = (p, r)

-- what the set has after a PAT: what it had, and each PID that the PAT lists under a program
pub has_programs : (s n : List ℕ) (q : ℕ) → length n ≡ 128 → Bytes s → has_bit (with_programs s n) q ≡ (readable s && among q (program_pids (groups_of s))) || has_bit n q
unfolding with_programs
has_programs s n q l h = go (readable s)
  where
    go : (b : Bool) → has_bit (cond b (add_bits n (program_pids (groups_of s))) n) q ≡ (b && among q (program_pids (groups_of s))) || has_bit n q
    go true = has_all n (program_pids (groups_of s)) q (in_room n l (groups_of s) (bytes_part 8 (length s - 12) s h))
    go false = refl

-- the bits of the set are N
listed_among : (q : ℕ) (ps : List ℕ) → among q ps ≡ listed q ps
listed_among q [] = refl
listed_among q (p ∷ ps) = ap (λ (b : Bool). eqb q p || b) (listed_among q ps)

pub has_set_n : (s : List ℕ) (q : ℕ) → Bytes s → readable s ≡ true → has_bit (with_programs s (replicate 128 0)) q ≡ set_n s q
has_set_n s q b r =
    has_programs s (replicate 128 0) q (length-replicate {A = ℕ} 128 0) b
    ∙ rw (r, has_none 128 q, listed_among q (program_pids (groups_of s))) (or-false (set_n s q))

-- a PAT with program 0 at 0x0010 and program 1 at 0x0100, transport stream 1
abbrev pub pat_example : List ℕ
pat_example =
    0x00 ∷ 0xB0 ∷ 0x11 ∷ 0x00 ∷ 0x01 ∷ 0xC1 ∷ 0x00 ∷ 0x00 ∷ 0x00 ∷ 0x00 ∷ 0xE0 ∷ 0x10 ∷ 0x00 ∷ 0x01 ∷ 0xE1 ∷ 0x00 ∷ 0x9E ∷ 0xA6 ∷ 0x64 ∷ 0x96 ∷ []

pub example_pids : program_pids (groups_of pat_example) ≡ 0x0100 ∷ []
unfolding program_pids
example_pids = refl

-- N is 0x0100 alone: bit 0 of word 4
pub example_set : with_programs pat_example (replicate 128 0) ≡ set (replicate 128 0) 4 1
unfolding with_programs program_pids add_bits add_bit
example_set = refl
