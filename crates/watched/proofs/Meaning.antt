-- What the words say of each PID after opening and after following, for every content of the words; and that watched = protected ∪ N holds from
-- the opening on.
-- Assumes nothing.
use mathlib.Core.Path.{◌≡◌, refl, sym, ◌∙◌}
use mathlib.Core.Bool.{Bool, true, false, ◌||◌, or-false}
use mathlib.Core.Logic.{⊎_elim}
use Prim.Native.Nat.{ℕ, ◌/◌, ◌≤◌, ◌<◌}
use native.Mathlib.Omega.{arith}
use mathlib.Core.List.{List, [], ◌∷◌, ◌++◌, append_assoc}
use lib.ListN.{length, drop, length-append, length-drop, get_or-eq_default}
use lib.Seq.{take_at, drop_at}
use lib.Dec.{ltb}
use borrow.Author.Tests.{ltb-true}
use Rattle.laws.specs.Bits.{has_bit, add_bits, union, less}
use Rattle.laws.proofs.Bits.{among, InRoom, has_all, has_none, has_union, has_less}
use Rattle.laws.proofs.Tests.{and_true, lt_or_le}
use Rattle.section.specs.Ids.{known_pids}
use Rattle.watched.specs.Store.{watched_of, protected_of, followed_of, laid, no_pids, all_pids, protected_pids, filled, dropped_by, renewed, following}
use Rattle.watched.specs.Rules.{stays_watched, followed_by}
use Rattle.watched.specs.View.{watch_in, InStep}
use Rattle.watched.proofs.Laws.{length_watched, length_protected, length_followed, length_union, length_dropped, length_less, length_renewed, length_protecting, known_good}

has_past : (w : List ℕ) (q : ℕ) → length w ≤ q / 64 → has_bit w q ≡ false
has_past w q h = rw (get_or-eq_default w 0 h) (has_none 0 q)

-- ---- three sets that were laid are there

module _ (w p f words : List ℕ) (lw : length w ≡ 128) (lp : length p ≡ 128) (lf : length f ≡ 128) where
  pub laid_watched : watched_of (laid w p f words) ≡ w
  laid_watched = take_at w (p ++ (f ++ drop 384 words)) 128 lw

  pub laid_protected : protected_of (laid w p f words) ≡ p
  laid_protected = rw (drop_at w (p ++ (f ++ drop 384 words)) 128 lw) (take_at p (f ++ drop 384 words) 128 lp)

  two : length (w ++ p) ≡ 256
  two = length-append w p ∙ omega arith

  pub laid_followed : followed_of (laid w p f words) ≡ f
  laid_followed = rw (← append_assoc w p (f ++ drop 384 words), drop_at (w ++ p) (f ++ drop 384 words) 256 two) (take_at f (drop 384 words) 128 lf)

  -- and what stands past them is as it was
  pub laid_past : drop 384 (laid w p f words) ≡ drop 384 words
  laid_past =
      let e : length ((w ++ p) ++ f) ≡ 384 = length-append (w ++ p) f ∙ rw two (omega arith) in
      rw (← append_assoc w p (f ++ drop 384 words), ← append_assoc (w ++ p) f (drop 384 words)) (drop_at ((w ++ p) ++ f) (drop 384 words) 384 e)

  -- there are as many words as before
  pub length_laid : 384 ≤ length words → length (laid w p f words) ≡ length words
  length_laid h = simp (length-append, length-drop) (omega arith)

-- ---- opening

-- PIDs have their bits in 128 words
in_room : (w ps : List ℕ) → length w ≡ 128 → all_pids ps ≡ true → InRoom w ps
unfolding all_pids
in_room w [] l e = tt
in_room w (p ∷ ps) l e =
    let a = and_true (ltb p 8192) (all_pids ps) e in
    let h : p < 8192 = ltb-true p 8192 a.0 in
    (omega arith, in_room w ps l a.1)

all_append : (ps qs : List ℕ) → all_pids ps ≡ true → all_pids qs ≡ true → all_pids (ps ++ qs) ≡ true
unfolding all_pids
all_append [] qs a b = b
all_append (p ∷ ps) qs a b = let c = and_true (ltb p 8192) (all_pids ps) a in rw c.0 (all_append ps qs c.1 b)

all_protected : (on : Bool) (extra : List ℕ) → all_pids extra ≡ true → all_pids (protected_pids on extra) ≡ true
all_protected true extra e = all_append known_pids extra known_good e
all_protected false extra e = e

module _ (words : List ℕ) (on : Bool) (extra : List ℕ) (e : all_pids extra ≡ true) (q : ℕ) where
  starts : has_bit (add_bits no_pids (protected_pids on extra)) q ≡ among q (protected_pids on extra)
  starts =
      has_all no_pids (protected_pids on extra) q (in_room no_pids (protected_pids on extra) refl (all_protected on extra e))
      ∙ rw (has_none 128 q) (or-false (among q (protected_pids on extra)))

  -- a PID is watched, and protected, exactly where it is a well-known one with that setting on, or an extra one; none is followed
  pub opened_watched : has_bit (watched_of (filled words on extra)) q ≡ among q (protected_pids on extra)
  unfolding filled
  opened_watched = rw (laid_watched _ _ no_pids words (length_protecting on extra) (length_protecting on extra) refl) starts

  pub opened_protected : has_bit (protected_of (filled words on extra)) q ≡ among q (protected_pids on extra)
  unfolding filled
  opened_protected = rw (laid_protected _ _ no_pids words (length_protecting on extra) (length_protecting on extra) refl) starts

  pub opened_followed : has_bit (followed_of (filled words on extra)) q ≡ false
  unfolding filled
  opened_followed = rw (laid_followed _ _ no_pids words (length_protecting on extra) (length_protecting on extra) refl) (has_none 128 q)

pub length_filled : (words : List ℕ) (on : Bool) (extra : List ℕ) → 384 ≤ length words → length (filled words on extra) ≡ length words
unfolding filled
length_filled words on extra h =
    let s = add_bits no_pids (protected_pids on extra) in
    length_laid s s no_pids words (length_protecting on extra) (length_protecting on extra) refl h

pub opened_in_step : (words : List ℕ) (on : Bool) (extra : List ℕ) → all_pids extra ≡ true → InStep (filled words on extra)
opened_in_step words on extra e q h =
    rw (opened_watched words on extra e q, opened_protected words on extra e q, opened_followed words on extra e q) (sym (or-false (among q (protected_pids on extra))))

-- ---- following

module _ (words n : List ℕ) (h : 384 ≤ length words) (l : length n ≡ 128) where
  -- N is followed now, and what is protected stays so
  pub following_protected : protected_of (following words n) ≡ protected_of words
  unfolding following
  following_protected = laid_protected (renewed words n) (protected_of words) n words (length_renewed words n h l) (length_protected words h) l

  pub following_followed : followed_of (following words n) ≡ n
  unfolding following
  following_followed = laid_followed (renewed words n) (protected_of words) n words (length_renewed words n h l) (length_protected words h) l

  pub following_past : drop 384 (following words n) ≡ drop 384 words
  unfolding following
  following_past = laid_past (renewed words n) (protected_of words) n words (length_renewed words n h l) (length_protected words h) l

  pub length_following : length (following words n) ≡ length words
  unfolding following
  length_following = length_laid (renewed words n) (protected_of words) n words (length_renewed words n h l) (length_protected words h) l h

  -- watched after it: former watched minus (former N that is neither in N nor protected), plus N
  watched_below : (q : ℕ) → q < 8192
      → has_bit (watched_of (following words n)) q ≡ stays_watched (has_bit (watched_of words) q) (has_bit (followed_of words) q) (has_bit n q) (has_bit (protected_of words) q)
  unfolding following renewed
  watched_below q b =
      let w = watched_of words in
      let p = protected_of words in
      let f = followed_of words in
      let d = dropped_by words n in
      let lw = length_watched words h in
      let lp = length_protected words h in
      let lf = length_followed words h in
      let lu = length_union words n h l in
      let ld = length_dropped words n h l in
      let ll = length_less words n h l in
      rw (
        laid_watched (union (less w d) n) p n words (length_renewed words n h l) lp l,
        has_union (less w d) n q (ll ∙ sym l) (omega arith),
        has_less w d q (lw ∙ sym ld) (omega arith),
        has_less f (union n p) q (lf ∙ sym lu) (omega arith),
        has_union n p q (l ∙ sym lp) (omega arith),
      )

  -- past the last PID no set has a bit
  pub following_watched : (q : ℕ)
      → has_bit (watched_of (following words n)) q ≡ stays_watched (has_bit (watched_of words) q) (has_bit (followed_of words) q) (has_bit n q) (has_bit (protected_of words) q)
  following_watched q =
      ⊎_elim
      (λ (b : q < 8192). watched_below q b)
      (λ (b : 8192 ≤ q).
      rw (
        has_past (watched_of (following words n)) q (rw (length_watched (following words n) (rw length_following h)) (omega arith)),
        has_past (watched_of words) q (rw (length_watched words h) (omega arith)),
        has_past n q (rw l (omega arith)),
      ))
      (lt_or_le q 8192)

  -- the words then stand for what the rule says
  pub following_shown : watch_in (following words n) ≡ followed_by (has_bit n) (watch_in words)
  following_shown = λ i. record { watched = λ q. following_watched q i; protected = λ q. has_bit (following_protected i) q; followed = λ q. has_bit (following_followed i) q }

  pub following_in_step : InStep words → InStep (following words n)
  following_in_step s q b =
      rw (following_watched q, following_protected, following_followed, s q b)
      (still (has_bit (protected_of words) q) (has_bit (followed_of words) q) (has_bit n q))
    where
      still : (p f n : Bool) → stays_watched (p || f) f n p ≡ p || n
      still true true true = refl
      still true true false = refl
      still true false true = refl
      still true false false = refl
      still false true true = refl
      still false true false = refl
      still false false true = refl
      still false false false = refl
