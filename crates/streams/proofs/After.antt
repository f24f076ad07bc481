-- What the words of a PID are after each part has written: those that were put, four times 0, or as before.
-- Assumes nothing.
use mathlib.Core.Path.{◌≡◌, refl, ◌∙◌}
use mathlib.Core.Logic.{◌≢◌}
use mathlib.Core.Bool.{Bool, true, false, cond}
use mathlib.Core.List.{List}
use Prim.Native.Nat.{ℕ, zero, suc, ◌+◌, ◌-◌, ◌*◌, ◌≤◌, ◌<◌}
use native.Mathlib.Decide.{ℕ_discrete}
use mathlib.Core.Logic.{by_cases}
use native.Mathlib.Omega.{arith}
use lib.Dec.{eqb}
use lib.ListN.{length, get_or, set, drop, replicate, length-set, length-replicate, get_or-append, get_or-replicate}
use lib.Seq.{get_or-set_same, get_or-set_other}
use borrow.Author.Tests.{eqb-false}
use Rattle.laws.specs.Bits.{has_bit}
use Rattle.laws.proofs.Tests.{or_false}
use Rattle.cells.specs.Cells.{lowest_free}
use Rattle.cells.proofs.Laws.{lowest_free_lem, lower_taken}
use Rattle.section.specs.declared.ids.Pid.{Pid}
use Rattle.assemble.specs.declared.Words.{Words}
use Rattle.streams.specs.Store.{cleared, words_at, four, with_words, is_named, given_back}

abbrev pub words_of : ℕ → ℕ → ℕ → ℕ → Words
words_of a b c d = record { number = a; counter = b; first = c; size = d }

abbrev pub words_from : List ℕ → ℕ → Words
words_from pids at = words_of (get_or pids at 0) (get_or pids (at + 1) 0) (get_or pids (at + 2) 0) (get_or pids (at + 3) 0)

pub four_length : (pids : List ℕ) (at a b c d : ℕ) → length (four pids at a b c d) ≡ length pids
four_length pids at a b c d =
    let one : List ℕ = set pids at a in
    let two : List ℕ = set one (at + 1) b in
    length-set (set two (at + 2) c) (at + 3) d ∙ length-set two (at + 2) c ∙ length-set one (at + 1) b ∙ length-set pids at a

-- the four words that were written, and any other
module _ (pids : List ℕ) (at a b c d : ℕ) where
  abbrev one : List ℕ
  one = set pids at a

  abbrev two : List ℕ
  two = set one (at + 1) b

  abbrev three : List ℕ
  three = set two (at + 2) c

  pub four_other : (i : ℕ) → i ≢ at → i ≢ at + 1 → i ≢ at + 2 → i ≢ at + 3 → get_or (four pids at a b c d) i 0 ≡ get_or pids i 0
  four_other i n₀ n₁ n₂ n₃ =
      get_or-set_other three (at + 3) i d 0 n₃ ∙ get_or-set_other two (at + 2) i c 0 n₂ ∙ get_or-set_other one (at + 1) i b 0 n₁ ∙ get_or-set_other pids at i a 0 n₀

  pub four_there : at + 3 < length pids → words_from (four pids at a b c d) at ≡ words_of a b c d
  four_there h =
      let w₀ : get_or (four pids at a b c d) at 0 ≡ a =
      get_or-set_other three (at + 3) at d 0 (λ e. omega arith) ∙ get_or-set_other two (at + 2) at c 0 (λ e. omega arith) ∙ get_or-set_other one (at + 1) at b 0 (λ e. omega arith)
      ∙ get_or-set_same pids at a 0 (omega arith) in
      let w₁ : get_or (four pids at a b c d) (at + 1) 0 ≡ b =
      get_or-set_other three (at + 3) (at + 1) d 0 (λ e. omega arith) ∙ get_or-set_other two (at + 2) (at + 1) c 0 (λ e. omega arith) ∙ get_or-set_same one (at + 1) b 0 (simp length-set (omega arith)) in
      let w₂ : get_or (four pids at a b c d) (at + 2) 0 ≡ c =
      get_or-set_other three (at + 3) (at + 2) d 0 (λ e. omega arith) ∙ get_or-set_same two (at + 2) c 0 (simp length-set (omega arith)) in
      let w₃ : get_or (four pids at a b c d) (at + 3) 0 ≡ d = get_or-set_same three (at + 3) d 0 (simp length-set (omega arith)) in
      λ i. words_of (w₀ i) (w₁ i) (w₂ i) (w₃ i)

-- those of another PID
pub four_apart : (pids : List ℕ) (p q a b c d : ℕ) → q ≢ p → words_from (four pids (p * 4) a b c d) (q * 4) ≡ words_from pids (q * 4)
four_apart pids p q a b c d n =
    let w₀ = four_other pids (p * 4) a b c d (q * 4) (λ e. n (omega arith)) (λ e. n (omega arith)) (λ e. n (omega arith)) (λ e. n (omega arith)) in
    let w₁ = four_other pids (p * 4) a b c d (q * 4 + 1) (λ e. n (omega arith)) (λ e. n (omega arith)) (λ e. n (omega arith)) (λ e. n (omega arith)) in
    let w₂ = four_other pids (p * 4) a b c d (q * 4 + 2) (λ e. n (omega arith)) (λ e. n (omega arith)) (λ e. n (omega arith)) (λ e. n (omega arith)) in
    let w₃ = four_other pids (p * 4) a b c d (q * 4 + 3) (λ e. n (omega arith)) (λ e. n (omega arith)) (λ e. n (omega arith)) (λ e. n (omega arith)) in
    λ i. words_of (w₀ i) (w₁ i) (w₂ i) (w₃ i)

-- ---- put

pub put_there : (pids : List ℕ) (p : Pid) (w : Words) → p.0 * 4 + 3 < length pids → words_at (with_words pids p w) p ≡ w
put_there pids p w h = four_there pids (p.0 * 4) w.number w.counter w.first w.size h

pub put_apart : (pids : List ℕ) (p q : Pid) (w : Words) → q.0 ≢ p.0 → words_at (with_words pids p w) q ≡ words_at pids q
put_apart pids p q w n = four_apart pids p.0 q.0 w.number w.counter w.first w.size n

-- ---- given back

pub back_length : (left : List ℕ) (n : ℕ) (pids : List ℕ) → length (given_back left n pids) ≡ length pids
unfolding given_back
back_length left zero pids = refl
back_length left (suc n) pids = back_length left n (cond (has_bit left n) (four pids (n * 4) 0 0 0 0) pids) ∙ go (has_bit left n)
  where
    go : (b : Bool) → length (cond b (four pids (n * 4) 0 0 0 0) pids) ≡ length pids
    go true = four_length pids (n * 4) 0 0 0 0
    go false = refl

-- a PID past those looked at
pub back_past : (left : List ℕ) (n : ℕ) (pids : List ℕ) (p : ℕ) → n ≤ p → words_from (given_back left n pids) (p * 4) ≡ words_from pids (p * 4)
unfolding given_back
back_past left zero pids p h = refl
back_past left (suc n) pids p h = back_past left n (cond (has_bit left n) (four pids (n * 4) 0 0 0 0) pids) p (omega arith) ∙ go (has_bit left n)
  where
    go : (b : Bool) → words_from (cond b (four pids (n * 4) 0 0 0 0) pids) (p * 4) ≡ words_from pids (p * 4)
    go true = four_apart pids n p 0 0 0 0 (λ (e : p ≡ n). omega arith)
    go false = refl

-- a PID that is not in the set keeps its words, one that is has four times 0
pub back_stays : (left : List ℕ) (n : ℕ) (pids : List ℕ) (p : ℕ) → has_bit left p ≡ false → words_from (given_back left n pids) (p * 4) ≡ words_from pids (p * 4)
unfolding given_back
back_stays left zero pids p e = refl
back_stays left (suc n) pids p e =
    back_stays left n (cond (has_bit left n) (four pids (n * 4) 0 0 0 0) pids) p e
    ∙ by_cases (ℕ_discrete p n)
    (λ (q : p ≡ n). rw (← q, e) refl)
    (λ (q : ¬ (p ≡ n)). go q (has_bit left n))
  where
    go : (p ≡ n → ⊥) → (b : Bool) → words_from (cond b (four pids (n * 4) 0 0 0 0) pids) (p * 4) ≡ words_from pids (p * 4)
    go q true = four_apart pids n p 0 0 0 0 q
    go q false = refl

pub back_gone : (left : List ℕ) (n : ℕ) (pids : List ℕ) (p : ℕ) → has_bit left p ≡ true → p < n → n * 4 ≤ length pids → words_from (given_back left n pids) (p * 4) ≡ words_of 0 0 0 0
unfolding given_back
back_gone left zero pids p e h l = absurd (omega arith)
back_gone left (suc n) pids p e h l =
    by_cases (ℕ_discrete p n)
    (λ (q : p ≡ n). back_past left n (cond (has_bit left n) (four pids (n * 4) 0 0 0 0) pids) p (omega arith) ∙ rw (← q, e) (four_there pids (p * 4) 0 0 0 0 (omega arith)))
    (λ (q : ¬ (p ≡ n)). back_gone left n (cond (has_bit left n) (four pids (n * 4) 0 0 0 0) pids) p e (omega arith) (omega (arith, same (has_bit left n))))
  where
    same : (b : Bool) → length (cond b (four pids (n * 4) 0 0 0 0) pids) ≡ length pids
    same true = four_length pids (n * 4) 0 0 0 0
    same false = refl

-- ---- opened

pub cleared_word : (n : ℕ) (pids : List ℕ) (i : ℕ) → i < n → get_or (cleared n pids) i 0 ≡ 0
unfolding cleared
cleared_word n pids i h = get_or-append (replicate n 0) (drop n pids) 0 i (omega (arith, length-replicate {A = ℕ} n 0)) ∙ get_or-replicate n i 0 0 h

-- ---- free

-- a buffer that no PID names is no PID's
pub not_named : (pids : List ℕ) (n b p : ℕ) → is_named pids n b ≡ false → p < n → get_or pids (p * 4) 0 ≢ b + 1
unfolding is_named
not_named pids zero b p e h = absurd (omega arith)
not_named pids (suc n) b p e h =
    let f = or_false (eqb (get_or pids (n * 4) 0) (b + 1)) (is_named pids n b) e in
    by_cases (ℕ_discrete p n) (λ (q : p ≡ n). rw q (eqb-false (get_or pids (n * 4) 0) (b + 1) f.0)) (λ (q : ¬ (p ≡ n)). not_named pids n b p f.1 (omega arith))

-- the lowest free buffer is one that no PID names, and each lower one is named
module _ (pids : List ℕ) (count : ℕ) where
  pub free_is_free : (p : ℕ) → lowest_free (is_named pids 8192) count < count → p < 8192 → get_or pids (p * 4) 0 ≢ lowest_free (is_named pids 8192) count + 1
  free_is_free p h l = not_named pids 8192 (lowest_free (is_named pids 8192) count) p (lowest_free_lem (is_named pids 8192) count h) l

  pub lower_are_named : (b : ℕ) → b < lowest_free (is_named pids 8192) count → is_named pids 8192 b ≡ true
  lower_are_named b h = lower_taken (is_named pids 8192) count b h
