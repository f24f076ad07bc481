-- What the parts' loops keep, and the three sets put together from what was written.
-- Assumes nothing.
use mathlib.Core.Path.{◌≡◌, refl, sym, ap, ◌∙◌}
use mathlib.Core.Bool.{Bool, true, false, cond, not, ◌&&◌}
use Prim.Native.Nat.{ℕ, zero, suc, ◌+◌, ◌/◌, ◌≤◌, ◌<◌}
use native.Mathlib.Nat.{zero-add}
use native.Mathlib.Numerals.{add-one}
use native.Mathlib.Omega.{arith}
use mathlib.Core.List.{List, [], ◌∷◌, ◌++◌, append_assoc}
use lib.ListN.{length, get_or, drop, set, length-drop, length-append, take-append-drop, drop_of_length-le}
use lib.Seq.{paste, drop-cons, drop-drop, get_or-drop, get_or-take, length-take-le}
use lib.Dec.{ltb}
use Rattle.std.specs.List.{list_all}
use lib.Bits.{bit_or}
use borrow.Author.Tests.{lt-ltb, le-ltb, le-leb, lt-leb, ltb-true, not-true, not-false}
use Rattle.laws.specs.Bits.{has_bit, add_bit, add_bits, without, union, less}
use Rattle.laws.proofs.Bits.{length_add_bits, add_bits_append, has_first}
use Rattle.laws.proofs.Tests.{and_true as both_true}
use Rattle.laws.proofs.Lists.{paste_turn, paste_past, paste_part, length_zip, get_d_zip}
use Rattle.section.proofs.Facts.{made_one, made_refused}
use Rattle.section.specs.Ids.{known_pids, pid_made}
use Rattle.section.specs.declared.ids.Pid.{Pid}
use Rattle.std.specs.Prelude.{Result, Ok, Err}
use Rattle.answers.specs.declared.Refusal.{Refusal}
use Rattle.answers.specs.Answers.{reply_no, Reply}
use Rattle.answers.specs.declared.Refusal.TheVariants.{NotWhole, BadPid, TooLittle}
use Rattle.watched.specs.Store.{all_pids, watched_of, protected_of, followed_of, laid, no_pids, protected_pids, filled, dropped_by, renewed_word, renewed, following, opening_by, opened, asked}

-- ---- PIDs one by one

-- the test of each, as std has it
pub all_below : (xs : List ℕ) → list_all (λ (p : ℕ). ltb p 8192) xs ≡ all_pids xs
unfolding all_pids
all_below [] = refl
all_below (x ∷ xs) = ap (λ (b : Bool). ltb x 8192 && b) (all_below xs)

module _ (xs : List ℕ) (i : ℕ) where
  -- a turn of the loop that adds them, and its end
  pub add_turn : (w : List ℕ) → i < length xs → add_bits w (drop i xs) ≡ add_bits (add_bit w (get_or xs i 0)) (drop (i + 1) xs)
  unfolding add_bits
  add_turn w h = rw (drop-cons xs i 0 h, add-one i)

  pub add_end : (w : List ℕ) → length xs ≤ i → add_bits w (drop i xs) ≡ w
  unfolding add_bits
  add_end w h = rw (drop_of_length-le xs h)

-- each of them is one
pub pid_at : (xs : List ℕ) (i : ℕ) → all_pids xs ≡ true → i < length xs → get_or xs i 0 < 8192
unfolding all_pids
pid_at [] i e h = absurd (omega arith)
pid_at (x ∷ xs) zero e h = ltb-true x 8192 (both_true (ltb x 8192) (all_pids xs) e).0
pid_at (x ∷ xs) (suc i) e h = pid_at xs i (both_true (ltb x 8192) (all_pids xs) e).1 (omega arith)

pub known_good : all_pids known_pids ≡ true
unfolding all_pids
known_good = refl

-- ---- the three sets in the words

-- words that hold three sets are those sets and what stands past them
pub parted : (words : List ℕ) → 384 ≤ length words → words ≡ laid (watched_of words) (protected_of words) (followed_of words) words
parted words h =
    sym (rw (← drop-drop 128 256 words, take-append-drop 128 (drop 256 words), ← drop-drop 128 128 words, take-append-drop 128 (drop 128 words), take-append-drop 128 words))

module _ (words : List ℕ) (h : 384 ≤ length words) where
  pub length_watched : length (watched_of words) ≡ 128
  length_watched = length-take-le 128 words (omega arith)

  pub length_protected : length (protected_of words) ≡ 128
  length_protected = length-take-le 128 (drop 128 words) (simp length-drop (omega arith))

  pub length_followed : length (followed_of words) ≡ 128
  length_followed = length-take-le 128 (drop 256 words) (simp length-drop (omega arith))

-- ---- the watch renewed, word by word

module _ (words n : List ℕ) (h : 384 ≤ length words) (l : length n ≡ 128) where
  pub length_union : length (union n (protected_of words)) ≡ 128
  length_union = length_zip bit_or n (protected_of words) (l ∙ sym (length_protected words h)) ∙ l

  pub length_dropped : length (dropped_by words n) ≡ 128
  length_dropped = length_zip without (followed_of words) (union n (protected_of words)) (length_followed words h ∙ sym length_union) ∙ length_followed words h

  pub length_less : length (less (watched_of words) (dropped_by words n)) ≡ 128
  length_less = length_zip without (watched_of words) (dropped_by words n) (length_watched words h ∙ sym length_dropped) ∙ length_watched words h

  pub length_renewed : length (renewed words n) ≡ 128
  unfolding renewed
  length_renewed = length_zip bit_or (less (watched_of words) (dropped_by words n)) n (length_less ∙ sym l) ∙ length_less

  renewed_at : (i : ℕ) → i < 128 → get_or (renewed words n) i 0 ≡ renewed_word (get_or words i 0) (get_or words (128 + i) 0) (get_or words (256 + i) 0) (get_or n i 0)
  unfolding renewed
  renewed_at i j =
      let a = length_watched words h in
      let b = length_protected words h in
      let c = length_followed words h in
      let d = length_union in
      let e = length_dropped in
      let f = length_less in
      get_d_zip bit_or (less (watched_of words) (dropped_by words n)) n i 0 (omega arith) (omega arith)
      ∙ rw (
        get_d_zip without (watched_of words) (dropped_by words n) i 0 (omega arith) (omega arith),
        get_d_zip without (followed_of words) (union n (protected_of words)) i 0 (omega arith) (omega arith),
        get_d_zip bit_or n (protected_of words) i 0 (omega arith) (omega arith),
        get_or-take 128 words i 0 j,
        get_or-take 128 (drop 128 words) i 0 j,
        get_or-take 128 (drop 256 words) i 0 j,
        get_or-drop 128 words i 0,
        get_or-drop 256 words i 0,
      )

  -- a turn of the loop that renews the watch: from i on the words are still as they were
  pub renew_turn : (rows : List ℕ) (i : ℕ) → rows ≡ paste words 0 (renewed words n) i → i < 128
      → set rows i (renewed_word (get_or rows i 0) (get_or rows (128 + i) 0) (get_or rows (256 + i) 0) (get_or n i 0)) ≡ paste words 0 (renewed words n) (i + 1)
  renew_turn rows i e j =
      let r = length_renewed in
      let old : (k : ℕ) → i ≤ k → get_or rows k 0 ≡ get_or words k 0 = λ k m. rw e (paste_past words 0 (renewed words n) i k 0 (omega arith) (omega arith) (omega arith)) in
      rw (old i (omega arith), old (128 + i) (omega arith), old (256 + i) (omega arith), ← renewed_at i j)
      (rw (zero-add i) at (paste_turn words rows 0 (renewed words n) i 0 e (omega arith) (omega arith)))

-- ---- one of the three sets written over

module _ (w p f s words : List ℕ) (lw : length w ≡ 128) (lp : length p ≡ 128) (lf : length f ≡ 128) (ls : length s ≡ 128) where
  put_watched : paste (laid w p f words) 0 s 128 ≡ laid s p f words
  put_watched = paste_part [] w (p ++ (f ++ drop 384 words)) s 0 128 refl lw ls

  put_protected : paste (laid w p f words) 128 s 128 ≡ laid w s f words
  put_protected = paste_part w p (f ++ drop 384 words) s 128 128 lw lp ls

  put_followed : paste (laid w p f words) 256 s 128 ≡ laid w p s words
  put_followed =
      let e : length (w ++ p) ≡ 256 = length-append w p ∙ omega arith in
      ap (λ (v : List ℕ). paste v 256 s 128) (sym (append_assoc w p (f ++ drop 384 words)))
      ∙ paste_part (w ++ p) f (drop 384 words) s 256 128 e lf ls
      ∙ append_assoc w p (s ++ drop 384 words)

-- what following writes
pub follow_laid : (words n : List ℕ) → 384 ≤ length words → length n ≡ 128 → paste (paste words 0 (renewed words n) 128) 256 n 128 ≡ following words n
unfolding following
follow_laid words n h l =
    let w = watched_of words in
    let p = protected_of words in
    let f = followed_of words in
    let s = renewed words n in
    let lp = length_protected words h in
    let lf = length_followed words h in
    let ls = length_renewed words n h l in
    ap (λ (v : List ℕ). paste (paste v 0 s 128) 256 n 128) (parted words h)
    ∙ ap (λ (v : List ℕ). paste v 256 n 128) (put_watched w p f s words (length_watched words h) lp lf ls)
    ∙ put_followed s p f n words ls lp lf l

-- the well-known ones, where they are on, and then the extra ones
pub protect_all : (w : List ℕ) (on : Bool) (extra : List ℕ) → add_bits (cond on (add_bits w known_pids) w) extra ≡ add_bits w (protected_pids on extra)
protect_all w true extra = add_bits_append w known_pids extra
protect_all w false extra = refl

pub length_protecting : (on : Bool) (extra : List ℕ) → length (add_bits no_pids (protected_pids on extra)) ≡ 128
length_protecting on extra = length_add_bits no_pids (protected_pids on extra)

-- what opening writes
pub fill_opened : (words : List ℕ) (on : Bool) (extra s n : List ℕ) → 384 ≤ length words → s ≡ add_bits no_pids (protected_pids on extra) → n ≡ no_pids
    → paste (paste (paste words 0 s 128) 128 s 128) 256 n 128 ≡ filled words on extra
unfolding filled
fill_opened words on extra s n h es en =
    let w = watched_of words in
    let p = protected_of words in
    let f = followed_of words in
    let lw = length_watched words h in
    let lp = length_protected words h in
    let lf = length_followed words h in
    let ls : length s ≡ 128 = ap length es ∙ length_protecting on extra in
    ap (λ (v : List ℕ). paste (paste (paste v 0 s 128) 128 s 128) 256 n 128) (parted words h)
    ∙ ap (λ (v : List ℕ). paste (paste v 128 s 128) 256 n 128) (put_watched w p f s words lw lp lf ls)
    ∙ ap (λ (v : List ℕ). paste v 256 n 128) (put_protected s p f s words ls lp lf ls)
    ∙ put_followed s s f n words ls ls lf (ap length en)
    ∙ rw (es, en)

-- ---- the ways out of opening and of the question

module _ (words : List ℕ) (on : Bool) (extra : List ℕ) (b : Bool) (e : b ≡ all_pids extra) where
  pub open_bad : not b ≡ true → opening_by (Err BadPid) words ≡ opened words on extra
  unfolding opened
  open_bad h = rw (← e, not-true b h)

  pub open_little : not b ≡ false → length words < 384 → opening_by (Err TooLittle) words ≡ opened words on extra
  unfolding opened
  open_little h l = rw (← e, not-false b h, lt-leb 384 (length words) l)

  pub open_good : (w : List ℕ) → not b ≡ false → 384 ≤ length words → w ≡ filled words on extra → opening_by (Ok tt) w ≡ opened words on extra
  unfolding opened
  open_good w h l f = rw (← e, not-false b h, le-leb 384 (length words) l, f)

  pub open_judged : not b ≡ false → all_pids extra ≡ true
  open_judged h = sym e ∙ not-false b h

pub ask_short : (words : List ℕ) (pid : ℕ) → length words < 384 → reply_no (Err NotWhole) ≡ asked words pid
unfolding asked
ask_short words pid h = rw (lt-leb 384 (length words) h)

module _ (words : List ℕ) (pid : ℕ) (m : Result Pid Refusal) (h : 384 ≤ length words) (e : m ≡ pid_made pid) where
  pub ask_bad : (r : Refusal) → m ≡ Err r → reply_no (Err r) ≡ asked words pid
  unfolding asked
  ask_bad r f = let n = made_refused pid m e r f in rw (le-leb 384 (length words) h, le-ltb pid 8192 n.1, n.0)

  module _ (p : Pid) (f : m ≡ Ok p) where
    pub ask_room : p.0 / 64 < length words
    ask_room = let g = made_one pid m e p f in omega arith

    pub ask_has : (b : Bool) → b ≡ has_bit words p.0 → reply_no (Ok b) ≡ asked words pid
    unfolding asked
    ask_has b eb =
        let g = made_one pid m e p f in
        let s : has_bit (watched_of words) pid ≡ b = has_first words 128 pid (omega arith) ∙ rw (← g.0) (sym eb) in
        rw (le-leb 384 (length words) h, lt-ltb pid 8192 g.1, s) (number b)
      where
        number : (b : Bool) → reply_no (Ok b) ≡ cond b 8 9
        number true = refl
        number false = refl
