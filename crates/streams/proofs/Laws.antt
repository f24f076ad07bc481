-- One law for each turn and each way out of a function.
-- Assumes nothing.
use mathlib.Core.Path.{◌≡◌, refl, sym, ap, ◌∙◌}
use mathlib.Core.Logic.{◌≢◌}
use mathlib.Core.Bool.{Bool, true, false, cond, not, ◌&&◌, ◌||◌, true≢false}
use mathlib.Core.List.{List, ◌++◌}
use Prim.Native.Nat.{ℕ, zero, suc, ◌+◌, ◌-◌, ◌*◌, ◌/◌, ◌%◌, ◌^◌, ◌≤◌, ◌<◌}
use native.Mathlib.Nat.{zero-add, zero-div}
use native.Mathlib.Omega.{arith}
use lib.Dec.{eqb, ltb, leb}
use lib.Bits.{bit_or}
use lib.ListN.{length, get_or, set, take, drop, replicate, length-replicate, length-set}
use lib.Seq.{paste, length-take-le, get_or-take}
use Rattle.std.proofs.lemmas.List.{take-replicate}
use borrow.Author.Tests.{eqb-true, le-leb, lt-leb, lt-ltb, le-ltb, eq-eqb, ne_eqb, leb-true, leb-false}
use Rattle.laws.specs.Bits.{bit, has_bit, add_bit, without}
use Rattle.laws.proofs.Bits.{one_shl, has_added, length_add_bit}
use Rattle.laws.proofs.Lists.{get_d_zip}
use Rattle.laws.proofs.Tests.{same_test}
use Rattle.laws.proofs.Search.{first_same}
use Rattle.cells.specs.Cells.{lowest_free, lowest_clear}
use Rattle.cells.proofs.Laws.{has_none}
use Rattle.std.specs.Prelude.{Ok, Err}
use Rattle.answers.specs.declared.Refusal.TheVariants.{TooLittle}
use Rattle.streams.specs.Store.{are_enough, cleared, opening, asked, opened_of, four, buffer_of, is_named, marked, marked_to, pid_back, given_back, left_of, word_back}

-- ---- opening

module _ (count words bytes : ℕ) where
  pub no_buffers : count ≡ 0 → false ≡ are_enough count words bytes
  unfolding are_enough
  no_buffers e = rw (lt-leb 1 count (omega arith)) refl

  pub too_many : 8192 < count → false ≡ are_enough count words bytes
  unfolding are_enough
  too_many h = rw (le-leb 1 count (omega arith), lt-leb count 8192 h) refl

  pub some_buffers : count ≢ 0 → count ≤ 8192 → (leb 32768 words && leb (count * 4288) bytes) ≡ are_enough count words bytes
  unfolding are_enough
  some_buffers n h = rw (le-leb 1 count (omega arith), le-leb count 8192 h) refl

module _ (count : ℕ) (pids : List ℕ) (bytes : ℕ) (b : Bool) (e : b ≡ are_enough count (length pids) bytes) where
  pub not_opened : b ≡ false → opening (record { answer = Err TooLittle; streams = asked count }) pids ≡ opened_of count pids bytes
  unfolding opened_of
  not_opened f = rw (← e, f) refl

  pub is_opened : (pids' : List ℕ) → b ≡ true → pids' ≡ cleared 32768 pids → opening (record { answer = Ok tt; streams = asked count }) pids' ≡ opened_of count pids bytes
  unfolding opened_of
  is_opened pids' t p = rw (← e, t, p) refl

  pub has_words : b ≡ true → 32768 ≤ length pids
  unfolding are_enough
  has_words t = go (leb 1 count) (leb count 8192) (leb 32768 (length pids)) (leb (count * 4288) bytes) refl (sym e ∙ t)
    where
      go : (p q r s : Bool) → leb 32768 (length pids) ≡ r → (p && q && r && s) ≡ true → 32768 ≤ length pids
      go true true true s k h = leb-true 32768 (length pids) k
      go true true false s k h = absurd (true≢false (sym h))
      go true false r s k h = absurd (true≢false (sym h))
      go false q r s k h = absurd (true≢false (sym h))

-- zeros in the place of the first n words
pub cleared_part : (n : ℕ) (l : List ℕ) → paste l 0 (replicate n 0) n ≡ cleared n l
unfolding cleared
cleared_part n l = rw (take-replicate {X = ℕ} n n 0 (omega arith), zero-add n) refl

-- ---- the words of a PID

module _ (pids : List ℕ) (p a b c : ℕ) (h : p < 8192) (l : 32768 ≤ length pids) where
  pub second_word : p * 4 + 1 < length (set pids (p * 4) a)
  second_word = omega (arith, length-set pids (p * 4) a)

  pub third_word : p * 4 + 2 < length (set (set pids (p * 4) a) (p * 4 + 1) b)
  third_word = omega (arith, length-set (set pids (p * 4) a) (p * 4 + 1) b, length-set pids (p * 4) a)

  pub fourth_word : p * 4 + 3 < length (set (set (set pids (p * 4) a) (p * 4 + 1) b) (p * 4 + 2) c)
  fourth_word = omega (arith, length-set (set (set pids (p * 4) a) (p * 4 + 1) b) (p * 4 + 2) c, length-set (set pids (p * 4) a) (p * 4 + 1) b, length-set pids (p * 4) a)

pub pid_gone : (pids : List ℕ) (p b : ℕ) → b ≡ 1 → four pids (p * 4) 0 0 0 0 ≡ pid_back pids p b
pid_gone pids p b e = rw (eq-eqb b 1 e) refl

pub pid_stays : (pids : List ℕ) (p b : ℕ) → b ≢ 1 → pids ≡ pid_back pids p b
pid_stays pids p b n = rw (ne_eqb b 1 n) refl

-- ---- the buffer of a PID

module _ (number count : ℕ) where
  pub no_number : number ≡ 0 → count ≡ buffer_of number count
  no_number e = rw (lt-leb 1 number (omega arith)) refl

  pub past_count : count < number → count ≡ buffer_of number count
  past_count h = rw (le-leb 1 number (omega arith), lt-leb number count h) refl

  pub a_buffer : number ≢ 0 → number ≤ count → number - 1 ≡ buffer_of number count
  a_buffer n h = rw (le-leb 1 number (omega arith), le-leb number count h) refl

-- ---- the map

module _ (map : List ℕ) (number count b : ℕ) (e : b ≡ buffer_of number count) where
  pub mark_some : b < count → count ≤ 8192 → set map (b / 64) (bit_or (get_or map (b / 64) 0) (1 * 2 ^ (b % 64) % 18446744073709551616)) ≡ marked number count map
  unfolding add_bit
  mark_some h k = rw (← e, lt-ltb b count h, one_shl (b % 64) (omega arith)) refl

  pub mark_none : count ≤ b → map ≡ marked number count map
  mark_none h = rw (← e, le-ltb b count h) refl

pub mark_turn : (pids : List ℕ) (count n : ℕ) (all m m' : List ℕ) → m' ≡ marked (get_or pids ((n - 1) * 4) 0) count m → 0 < n → marked_to pids count n m ≡ all → marked_to pids count (n - 1) m' ≡ all
unfolding marked_to
mark_turn pids count zero all m m' e h q = absurd (omega arith)
mark_turn pids count (suc n) all m m' e h q = let z : suc n - 1 ≡ n = omega arith in rw (z, e, z) q

pub mark_end : (pids : List ℕ) (count n : ℕ) (all m : List ℕ) → n ≤ 0 → marked_to pids count n m ≡ all → m ≡ all
unfolding marked_to
mark_end pids count zero all m h q = q
mark_end pids count (suc n) all m h q = absurd (omega arith)

length_marked : (number count : ℕ) (map : List ℕ) → length (marked number count map) ≡ length map
length_marked number count map = go (ltb (buffer_of number count) count)
  where
    go : (b : Bool) → length (cond b (add_bit map (buffer_of number count)) map) ≡ length map
    go true = length_add_bit map (buffer_of number count)
    go false = refl

-- the map has a buffer below count exactly where a word 0 names it
module _ (count c : ℕ) (h : c < count) (k : count ≤ 8192) where
  has_marked : (number : ℕ) (map : List ℕ) → length map ≡ 1024 → has_bit (marked number count map) c ≡ (eqb number (c + 1) || has_bit map c)
  has_marked number map l = go (leb 1 number) (leb number count) refl refl
    where
      other : number ≢ c + 1 → has_bit map c ≡ (eqb number (c + 1) || has_bit map c)
      other n = rw (ne_eqb number (c + 1) n) refl

      goal : ℕ → Type 0
      goal b = has_bit (cond (ltb b count) (add_bit map b) map) c ≡ (eqb number (c + 1) || has_bit map c)

      go : (p q : Bool) → leb 1 number ≡ p → leb number count ≡ q → goal (cond (p && q) (number - 1) count)
      go true true p q =
          let a : 1 ≤ number = leb-true 1 number p in
          let b : number ≤ count = leb-true number count q in
          rw (lt-ltb (number - 1) count (omega arith)) (has_added map (number - 1) c (omega arith) ∙ ap (λ (t : Bool). t || has_bit map c) same)
        where
          same : eqb c (number - 1) ≡ eqb number (c + 1)
          same = same_test (eqb c (number - 1)) (eqb number (c + 1))
              (λ t. let x : c ≡ number - 1 = eqb-true c (number - 1) t in let y : 1 ≤ number = leb-true 1 number p in eq-eqb number (c + 1) (omega arith))
              (λ t. let x : number ≡ c + 1 = eqb-true number (c + 1) t in eq-eqb c (number - 1) (omega arith))
      go true false p q =
          let b : count < number = leb-false number count q in
          rw (le-ltb count count (omega arith)) (other (λ (x : number ≡ c + 1). absurd (omega arith)))
      go false q p r =
          let b : number < 1 = leb-false 1 number p in
          rw (le-ltb count count (omega arith)) (other (λ (x : number ≡ c + 1). absurd (omega arith)))

  has_all : (pids : List ℕ) (n : ℕ) (map : List ℕ) → length map ≡ 1024 → has_bit (marked_to pids count n map) c ≡ (is_named pids n c || has_bit map c)
  unfolding marked_to is_named
  has_all pids zero map l = refl
  has_all pids (suc n) map l =
      has_all pids n (marked (get_or pids (n * 4) 0) count map) (length_marked (get_or pids (n * 4) 0) count map ∙ l)
      ∙ rw (has_marked (get_or pids (n * 4) 0) map l) (swap (is_named pids n c) (eqb (get_or pids (n * 4) 0) (c + 1)) (has_bit map c))
    where
      swap : (a b t : Bool) → (a || (b || t)) ≡ ((b || a) || t)
      swap true true t = refl
      swap true false t = refl
      swap false true t = refl
      swap false false t = refl

or_none : (a : Bool) → (a || false) ≡ a
or_none true = refl
or_none false = refl

pub lowest_free_lem : (pids : List ℕ) (count r : ℕ) (m₀ m : List ℕ) → count ≤ 8192 → m₀ ≡ replicate 1024 0 → m ≡ marked_to pids count 8192 m₀ → r ≡ lowest_clear m count
    → r ≡ lowest_free (is_named pids 8192) count
lowest_free_lem pids count r m₀ m k z e q =
    q ∙ first_same (λ (c : ℕ). not (has_bit m c)) (λ (c : ℕ). not (is_named pids 8192 c)) count 0 (λ c a b. ap not
    (ap (λ (l : List ℕ). has_bit l c) e ∙ has_all count c (omega arith) k pids 8192 m₀ (ap length z ∙ length-replicate {A = ℕ} 1024 0)
    ∙ ap (λ (t : Bool). is_named pids 8192 c || t) (ap (λ (l : List ℕ). has_bit l c) z ∙ has_none c) ∙ or_none (is_named pids 8192 c)))

-- ---- PIDs that left

pub word_turn : (word k n : ℕ) (all pids pids' : List ℕ) → pids' ≡ pid_back pids (k * 64 + (n - 1)) (word / 2 ^ (n - 1) % 2) → 0 < n → word_back word k n pids ≡ all → word_back word k (n - 1) pids' ≡ all
unfolding word_back
word_turn word k zero all pids pids' e h q = absurd (omega arith)
word_turn word k (suc n) all pids pids' e h q = let z : suc n - 1 ≡ n = omega arith in rw (z, e, z) q

pub word_end : (word k n : ℕ) (all pids : List ℕ) → n ≤ 0 → word_back word k n pids ≡ all → pids ≡ all
unfolding word_back
word_end word k zero all pids h q = q
word_end word k (suc n) all pids h q = absurd (omega arith)

-- a word without a PID
pub word_none : (word k n : ℕ) (pids : List ℕ) → word ≡ 0 → pids ≡ word_back word k n pids
unfolding word_back
word_none word k zero pids e = refl
word_none word k (suc n) pids e = word_none word k n pids e ∙ ap (word_back word k n) (sym step)
  where
    step : pid_back pids (k * 64 + n) (bit word n) ≡ pids
    step = let z : 0 / 2 ^ n ≡ 0 = zero-div (2 ^ n) in rw (e, z) refl

-- a word of the set, and the PIDs below it
whole_word : (left pids : List ℕ) (k n : ℕ) → n ≤ 64 → given_back left (k * 64 + n) pids ≡ given_back left (k * 64) (word_back (get_or left k 0) k n pids)
unfolding given_back word_back
whole_word left pids k zero h = let z : k * 64 + 0 ≡ k * 64 = omega arith in rw z refl
whole_word left pids k (suc n) h =
    let z : k * 64 + suc n ≡ suc (k * 64 + n) = omega arith in
    let d : (k * 64 + n) / 64 ≡ k = omega arith in
    let m : (k * 64 + n) % 64 ≡ n = omega arith in
    let has : has_bit left (k * 64 + n) ≡ eqb (bit (get_or left k 0) n) 1 =
    ap (λ (i : ℕ). eqb (bit (get_or left i 0) ((k * 64 + n) % 64)) 1) d ∙ ap (λ (j : ℕ). eqb (bit (get_or left k 0) j) 1) m in
    ap (λ (i : ℕ). given_back left i pids) z ∙ ap (λ (b : Bool). given_back left (k * 64 + n) (cond b (four pids ((k * 64 + n) * 4) 0 0 0 0) pids)) has
    ∙ whole_word left (pid_back pids (k * 64 + n) (bit (get_or left k 0) n)) k n (omega arith)

back_turn : (left : List ℕ) (k : ℕ) (all pids pids' : List ℕ) → pids' ≡ word_back (get_or left (k - 1) 0) (k - 1) 64 pids → 0 < k → given_back left (k * 64) pids ≡ all → given_back left ((k - 1) * 64) pids' ≡ all
back_turn left k all pids pids' e h q =
    let z : (k - 1) * 64 + 64 ≡ k * 64 = omega arith in
    rw e (sym (whole_word left pids (k - 1) 64 (omega arith)) ∙ rw z q)

-- one word of the two sets
pub back_turn_of : (before after : List ℕ) (k : ℕ) (all pids pids' : List ℕ) (w : ℕ) → w ≡ without (get_or before (k - 1) 0) (get_or after (k - 1) 0)
    → pids' ≡ word_back w (k - 1) 64 pids → 0 < k → k ≤ 128 → 128 ≤ length before → 128 ≤ length after
    → given_back (left_of before after) (k * 64) pids ≡ all → given_back (left_of before after) ((k - 1) * 64) pids' ≡ all
back_turn_of before after k all pids pids' w f e h m a b q =
    let x : length (take 128 before) ≡ 128 = length-take-le 128 before a in
    let y : length (take 128 after) ≡ 128 = length-take-le 128 after b in
    let z : get_or (left_of before after) (k - 1) 0 ≡ w =
    get_d_zip without (take 128 before) (take 128 after) (k - 1) 0 (omega arith) (omega arith)
    ∙ (λ i. without (get_or-take 128 before (k - 1) 0 (omega arith) i) (get_or-take 128 after (k - 1) 0 (omega arith) i)) ∙ sym f in
    back_turn (left_of before after) k all pids pids' (e ∙ ap (λ (v : ℕ). word_back v (k - 1) 64 pids) (sym z)) h q

pub back_end : (left : List ℕ) (k : ℕ) (all pids : List ℕ) → k ≤ 0 → given_back left (k * 64) pids ≡ all → pids ≡ all
unfolding given_back
back_end left k all pids h q = let z : k * 64 ≡ 0 = omega arith in rw z at q
