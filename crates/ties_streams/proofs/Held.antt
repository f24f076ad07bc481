-- What the PIDs hold after the words of one were put, after some gave their buffers back, and after opening; and that the store's lowest free buffer is the rules'.
-- Assumes nothing.
use mathlib.Core.Path.{◌≡◌, refl, sym, ap, ◌∙◌}
use mathlib.Core.Logic.{◌≢◌}
use mathlib.Core.Bool.{Bool, true, false, cond, not, ◌&&◌, ◌||◌}
use mathlib.Core.Option.{Option, none, some}
use mathlib.Core.List.{List, ◌++◌, append_assoc}
use Prim.Native.Nat.{ℕ, zero, suc, ◌+◌, ◌-◌, ◌*◌, ◌≤◌, ◌<◌}
use native.Mathlib.Omega.{arith}
use lib.Dec.{eqb, ltb, leb}
use lib.ListN.{length, take, drop, get_or}
use lib.Seq.{paste, take_all, drop-drop}
use borrow.Author.Tests.{le-leb, lt-ltb, le-ltb, ltb-true, ltb-false, leb-true, eq-eqb, ne_eqb, eqb-true}
use Rattle.laws.specs.Bits.{has_bit}
use Rattle.laws.proofs.Search.{first_same}
use Rattle.laws.proofs.Tests.{same_test}
use Rattle.cells.specs.Cells.{lowest_free}
use Rattle.cells.proofs.Bytes.{other_cell, same_cell}
use Rattle.cells.proofs.Laws.{lowest_free_lem}
use Rattle.section.specs.declared.ids.Pid.{Pid}
use Rattle.transport.specs.Receiver.{Stream, Streams, stream}
use Rattle.assemble.specs.declared.Words.{Words}
use Rattle.assemble.specs.Store.{state_in}
use Rattle.streams.specs.Store.{buffer_of, is_named, with_words, given_back, cleared, buffer_at, held_buffer, used_buffer}
use Rattle.streams.proofs.After.{words_of, put_there, put_apart, back_stays, back_gone, cleared_word, not_named}
use Rattle.ties_streams.specs.View.{words_at, held_with, held_by, holds_it, is_held, below, lowest_of, Lent, Apart}

-- ---- a word 0

-- a buffer that is held, by its word
pub held_word : (number count : ℕ) → buffer_of number count < count → number ≡ buffer_of number count + 1
held_word number count = go (leb 1 number) (leb number count) refl
  where
    go : (a b : Bool) → leb 1 number ≡ a → cond (a && b) (number - 1) count < count → number ≡ cond (a && b) (number - 1) count + 1
    go true true p h = let k : 1 ≤ number = leb-true 1 number p in omega arith
    go true false p h = absurd (omega arith)
    go false b p h = absurd (omega arith)

pub named_buffer : (b count : ℕ) → b < count → buffer_of (b + 1) count ≡ b
named_buffer b count h = rw (le-leb 1 (b + 1) (omega arith), le-leb (b + 1) count (omega arith)) (omega arith)

pub no_buffer : (count : ℕ) → buffer_of 0 count ≡ count
no_buffer count = refl

abbrev pub pid : ℕ → Pid
pid q = record { 0 = q }

past_pids : (count p b : ℕ) (w : Words) (buffer : List ℕ) → 8192 ≤ p → held_with count p b w buffer ≡ none
past_pids count p b w buffer h = rw (le-ltb p 8192 h) refl

pub past_held : (count : ℕ) (pids buffers : List ℕ) (q : ℕ) → 8192 ≤ q → held_by count pids buffers q ≡ none
unfolding held_by
past_held count pids buffers q h = past_pids count q (held_buffer count pids q) (words_at pids q) (buffer_at buffers (held_buffer count pids q)) h

pub none_held : (count p b : ℕ) (w : Words) (buffer : List ℕ) → count ≤ b → held_with count p b w buffer ≡ none
none_held count p b w buffer h = go (ltb p 8192)
  where
    go : (a : Bool) → cond (a && ltb b count) (some (stream b (state_in false w buffer))) none ≡ none
    go true = rw (le-ltb b count h) refl
    go false = refl

pub some_held_lem : (count p b : ℕ) (w : Words) (buffer : List ℕ) → p < 8192 → b < count → held_with count p b w buffer ≡ some (stream b (state_in false w buffer))
some_held_lem count p b w buffer h k = rw (lt-ltb p 8192 h, lt-ltb b count k) refl

-- ---- words that were put, of PID p, which holds buffer b then

module _ (count : ℕ) (pids buffers : List ℕ) (lent : Lent count pids buffers) (p : Pid) (h : p.0 < 8192) (b : ℕ) (k : b < count) (w : Words) (e : w.number ≡ b + 1) (buffer : List ℕ)
    (l : length buffer ≡ 4288) where
  abbrev pids' : List ℕ
  pids' = with_words pids p w

  abbrev buffers' : List ℕ
  buffers' = paste buffers (b * 4288) buffer 4288

  own_words : words_at pids' p.0 ≡ w
  own_words = put_there pids p w (omega (arith, lent.words))

  own_number : get_or pids' (p.0 * 4) 0 ≡ b + 1
  own_number = ap (λ (x : Words). x.number) own_words ∙ e

  pub own_buffer : held_buffer count pids' p.0 ≡ b
  own_buffer = ap (λ (n : ℕ). buffer_of n count) own_number ∙ named_buffer b count k

  as_long : paste buffers (b * 4288) buffer (length buffer) ≡ buffers'
  as_long = ap (paste buffers (b * 4288) buffer) l

  pub own_bytes : buffer_at buffers' b ≡ buffer
  own_bytes =
      let m : b * 4288 ≤ length buffers = omega (arith, lent.bytes) in
      ap (λ (x : List ℕ). take 4288 (drop (b * 4288) x)) (sym as_long) ∙ ap (λ (n : ℕ). take n (drop (b * 4288) (paste buffers (b * 4288) buffer (length buffer)))) (sym l) ∙ same_cell buffers (b * 4288) buffer m

  pub put_own : held_by count pids' buffers' p.0 ≡ some (stream b (state_in false w buffer))
  unfolding held_by
  put_own =
      (λ i. held_with count p.0 (own_buffer i) (own_words i) (buffer_at buffers' (own_buffer i)))
      ∙ ap (held_with count p.0 b w) own_bytes ∙ some_held_lem count p.0 b w buffer h k

  other_words : (q : ℕ) → q ≢ p.0 → words_at pids' q ≡ words_at pids q
  other_words q n = put_apart pids p (pid q) w n

  pub other_buffer : (q : ℕ) → q ≢ p.0 → held_buffer count pids' q ≡ held_buffer count pids q
  other_buffer q n = ap (λ (x : Words). buffer_of x.number count) (other_words q n)

  -- one that holds another buffer, or none
  pub put_other : (q : ℕ) → q ≢ p.0 → (q < 8192 → held_buffer count pids q < count → held_buffer count pids q ≢ b) → held_by count pids' buffers' q ≡ held_by count pids buffers q
  unfolding held_by
  put_other q n f = first ∙ go (ltb q 8192) (ltb c count) refl refl
    where
      c : ℕ
      c = held_buffer count pids q

      first : held_with count q (held_buffer count pids' q) (words_at pids' q) (buffer_at buffers' (held_buffer count pids' q)) ≡ held_with count q (held_buffer count pids q) (words_at pids q) (buffer_at buffers' (held_buffer count pids q))
      first = λ i. held_with count q (other_buffer q n i) (other_words q n i) (buffer_at buffers' (other_buffer q n i))

      go : (x y : Bool) → ltb q 8192 ≡ x → ltb c count ≡ y → held_with count q c (words_at pids q) (buffer_at buffers' c) ≡ held_with count q c (words_at pids q) (buffer_at buffers c)
      go true true x y =
          let i : c < count = ltb-true _ _ y in
          let d : c ≢ b = f (ltb-true _ _ x) i in
          ap (held_with count q c (words_at pids q))
          (ap (λ (z : List ℕ). take 4288 (drop (c * 4288) z)) (sym as_long) ∙ other_cell buffers buffer 4288 count b c 4288 d k i lent.bytes (omega arith) (omega arith))
      go true false x y = none_held count q c (words_at pids q) (buffer_at buffers' c) (ltb-false _ _ y) ∙ sym (none_held count q c (words_at pids q) (buffer_at buffers c) (ltb-false _ _ y))
      go false y x z = past_pids count q c (words_at pids q) (buffer_at buffers' c) (ltb-false _ _ x) ∙ sym (past_pids count q c (words_at pids q) (buffer_at buffers c) (ltb-false _ _ x))

-- ---- PIDs that gave their buffers back, and opening

pub back_held : (count : ℕ) (pids buffers left : List ℕ) (q : ℕ) → 32768 ≤ length pids → q < 8192 → has_bit left q ≡ true → held_by count (given_back left 8192 pids) buffers q ≡ none
unfolding held_by
back_held count pids buffers left q l h e =
    let w : words_at (given_back left 8192 pids) q ≡ words_of 0 0 0 0 = back_gone left 8192 pids q e h (omega arith) in
    let z : held_buffer count (given_back left 8192 pids) q ≡ count = ap (λ (x : Words). buffer_of x.number count) w ∙ no_buffer count in
    none_held count q (held_buffer count (given_back left 8192 pids) q) (words_at (given_back left 8192 pids) q) (buffer_at buffers (held_buffer count (given_back left 8192 pids) q)) (omega (arith, z))

pub back_kept : (count : ℕ) (pids buffers left : List ℕ) (q : ℕ) → has_bit left q ≡ false → held_by count (given_back left 8192 pids) buffers q ≡ held_by count pids buffers q
unfolding held_by
back_kept count pids buffers left q e =
    let w : words_at (given_back left 8192 pids) q ≡ words_at pids q = back_stays left 8192 pids q e in
    λ i. held_with count q (buffer_of (w i).number count) (w i) (buffer_at buffers (buffer_of (w i).number count))

pub opened_held : (count : ℕ) (pids buffers : List ℕ) (q : ℕ) → held_by count (cleared 32768 pids) buffers q ≡ none
unfolding held_by
opened_held count pids buffers q = go (ltb q 8192) refl
  where
    now : List ℕ
    now = cleared 32768 pids

    go : (a : Bool) → ltb q 8192 ≡ a → held_with count q (held_buffer count now q) (words_at now q) (buffer_at buffers (held_buffer count now q)) ≡ none
    go true e =
        let h : q < 8192 = ltb-true _ _ e in
        let z : get_or now (q * 4) 0 ≡ 0 = cleared_word 32768 pids (q * 4) (omega arith) in
        let b : held_buffer count now q ≡ count = ap (λ (n : ℕ). buffer_of n count) z ∙ no_buffer count in
        none_held count q (held_buffer count now q) (words_at now q) (buffer_at buffers (held_buffer count now q)) (omega (arith, b))
    go false e = past_pids count q (held_buffer count now q) (words_at now q) (buffer_at buffers (held_buffer count now q)) (ltb-false _ _ e)

-- ---- the lowest free buffer

module _ (count : ℕ) (pids buffers : List ℕ) where
  abbrev f : Streams
  f = held_by count pids buffers

  holds_named : (n c : ℕ) → n < 8192 → c < count → holds_it (f n) c ≡ eqb (get_or pids (n * 4) 0) (c + 1)
  unfolding held_by
  holds_named n c h k = go (ltb b count) refl
    where
      x : ℕ
      x = get_or pids (n * 4) 0

      b : ℕ
      b = held_buffer count pids n

      go : (a : Bool) → ltb b count ≡ a → holds_it (held_with count n b (words_at pids n) (buffer_at buffers b)) c ≡ eqb x (c + 1)
      go true e =
          let i : b < count = ltb-true _ _ e in
          let w : x ≡ b + 1 = held_word x count i in
          ap (λ (o : Option Stream). holds_it o c) (some_held_lem count n b (words_at pids n) (buffer_at buffers b) h i)
          ∙ same_test (eqb b c) (eqb x (c + 1)) (λ t. let y : b ≡ c = eqb-true _ _ t in eq-eqb x (c + 1) (omega arith)) (λ t. let y : x ≡ c + 1 = eqb-true _ _ t in eq-eqb b c (omega arith))
      go false e =
          let i : count ≤ b = ltb-false _ _ e in
          ap (λ (o : Option Stream). holds_it o c) (none_held count n b (words_at pids n) (buffer_at buffers b) i)
          ∙ sym (ne_eqb x (c + 1) (λ (y : x ≡ c + 1). let z : b ≡ c = ap (λ (m : ℕ). buffer_of m count) y ∙ named_buffer c count k in omega arith))

  held_named : (n c : ℕ) → n ≤ 8192 → c < count → is_held f n c ≡ is_named pids n c
  unfolding is_held is_named
  held_named zero c h k = refl
  held_named (suc n) c h k = λ i. holds_named n c (omega arith) k i || held_named n c (omega arith) k i

  same_lowest : lowest_free (is_held f 8192) count ≡ lowest_free (is_named pids 8192) count
  same_lowest = first_same (λ (c : ℕ). not (is_held f 8192 c)) (λ (c : ℕ). not (is_named pids 8192 c)) count 0 (λ c a b. ap not (held_named 8192 c (omega arith) (omega arith)))

  pub lowest_same : lowest_of count f ≡ below count (lowest_free (is_named pids 8192) count)
  unfolding lowest_of
  lowest_same = ap (below count) same_lowest

  -- no other PID holds the buffer that a packet of PID p is read into
  pub nobody_else : Apart count pids → (p q : ℕ) → p < 8192 → q < 8192 → q ≢ p → used_buffer count pids p < count → held_buffer count pids q < count → held_buffer count pids q ≢ used_buffer count pids p
  nobody_else apart p q h k n u v e = go (ltb (held_buffer count pids p) count) refl u e
    where
      go : (a : Bool) → ltb (held_buffer count pids p) count ≡ a → cond (not a) (lowest_free (is_named pids 8192) count) (held_buffer count pids p) < count
          → held_buffer count pids q ≡ cond (not a) (lowest_free (is_named pids 8192) count) (held_buffer count pids p) → ⊥
      go true t u' e' = n (apart p q h k (ltb-true _ _ t) e')
      go false t u' e' =
          let w : get_or pids (q * 4) 0 ≡ held_buffer count pids q + 1 = held_word (get_or pids (q * 4) 0) count v in
          not_named pids 8192 (lowest_free (is_named pids 8192) count) q (lowest_free_lem (is_named pids 8192) count u') k (omega (arith, e'))
