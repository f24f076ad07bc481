-- Rows that match a filter leave: what stays, in its order, is what the rules retain. One text for sets and for schedules.
-- Assumes nothing.
use mathlib.Core.Path.{◌≡◌, refl, sym, ◌∙◌}
use mathlib.Core.Logic.{◌≢◌}
use mathlib.Core.Bool.{Bool, true, false, cond, not, true≢false}
use mathlib.Core.List.{List}
use Prim.Native.Nat.{ℕ, zero, suc, ◌-◌, ◌*◌, ◌≤◌, ◌<◌}
use native.Mathlib.Decide.{ℕ_discrete}
use native.Mathlib.Omega.{arith}
use borrow.Author.Tests.{eq-eqb, ne_eqb}
use lib.Dec.{eqb}
use lib.ListN.{length}
use Rattle.rules_shared.specs.Touch.{retain}
use Rattle.rows.specs.declared.Key.{Key}
use Rattle.rows.specs.Rows.{key_at}
use Rattle.ticks.specs.Order.{rows_seen, Stands, moved_from}
use Rattle.ticks.proofs.Drop.{dropped_stands, dropped_seen, retained_seen}
use Rattle.filter.specs.declared.Of.{Of}
use Rattle.filter.specs.declared.Of.TheVariants as of
use Rattle.filter.specs.declared.Fields.{Fields}
use Rattle.filter.specs.Drops.{matches, width_of, removed_heads, removed_words, Rest, removed, dropped_row, dropped_rows}
use Rattle.ties_eit.proofs.Removed.{length_removed_heads, removed_key, removed_dropped, length_removed_words}

less_width : (o : Of) (n m : ℕ) → n * width_of o ≤ m → (n - 1) * width_of o ≤ m
less_width of.Sets n m h = omega arith
less_width of.Schedules n m h = omega arith

-- a row in use other than the one that left stands in row j's place
moved_in : (used i j : ℕ) → i < used → j < used - 1 → moved_from used i j < used
moved_in used i j h k = go (eqb j i)
  where
    go : (b : Bool) → cond b (used - 1) j < used
    go true = omega arith
    go false = omega arith

-- what the rows in use have; `Fits heads j` is what is known of the head of row j
pub record Sound {K : Type 0} (shown : Key → K) (words : K → Key) (o : Of) (Fits : List ℕ → ℕ → Type 0) (clock : ℕ) (r : Rest) : Type 0 where
  pub stands : Stands shown words r.heads r.used clock
  pub heads_long : r.used * 12 ≤ length r.heads
  pub words_long : r.used * width_of o ≤ length r.words
  pub fits : (j : ℕ) → j < r.used → Fits r.heads j

-- what stays of r; `row heads words j` is what row j shows, `test` says which keys stay
pub record Stays {K R : Type 0} (shown : Key → K) (words : K → Key) (o : Of) (Fits : List ℕ → ℕ → Type 0) (row : List ℕ → List ℕ → ℕ → R) (test : K → Bool) (clock : ℕ) (r after : Rest) : Type 0 where
  pub sound : Sound shown words o Fits clock after
  pub same_heads : length after.heads ≡ length r.heads
  pub same_words : length after.words ≡ length r.words
  pub fewer : after.used ≤ r.used
  pub rows : rows_seen shown after.heads after.used clock (row after.heads after.words) ≡ retain test (rows_seen shown r.heads r.used clock (row r.heads r.words))

module _ {K R : Type 0} (shown : Key → K) (words : K → Key) (o : Of) (f : Fields) (Fits : List ℕ → ℕ → Type 0) (row : List ℕ → List ℕ → ℕ → R) (test : K → Bool) (clock : ℕ)
    (moved_fits : (used i : ℕ) (heads : List ℕ) → i < used → used * 12 ≤ length heads → (j : ℕ) → Fits heads (moved_from used i j) → Fits (removed_heads used i heads) j)
    (Moved-row : (used i : ℕ) (heads ws : List ℕ) → i < used → used * 12 ≤ length heads → used * width_of o ≤ length ws → (j : ℕ) → j < used - 1
    → row (removed_heads used i heads) (removed_words o used i ws) j ≡ row heads ws (moved_from used i j))
    (agrees : (heads : List ℕ) (j : ℕ) → Fits heads j → words (shown (key_at heads j)) ≡ key_at heads j → matches o f (key_at heads j) ≡ not (test (shown (key_at heads j)))) where
  removed_sound : (r : Rest) (i : ℕ) → i < r.used → Sound shown words o Fits clock r → Sound shown words o Fits clock (removed o i r)
  removed_sound r i h s =
      let p = length_removed_heads r.used i r.heads h s.heads_long in
      let q = length_removed_words o r.used i r.words h s.words_long in
      let l = s.heads_long in
      record {
        stands = dropped_stands shown words r.heads r.used clock s.stands (removed_heads r.used i r.heads) i h (removed_dropped r.used i r.heads h s.heads_long);
        heads_long = omega arith;
        words_long = rw q (less_width o r.used (length r.words) s.words_long);
        fits = λ j k. moved_fits r.used i r.heads h s.heads_long j (s.fits (moved_from r.used i j) (moved_in r.used i j h k));
      }

  -- the first n rows are still to be looked at; those after them stay
  abbrev Later : ℕ → Rest → Type 0
  Later n r = (j : ℕ) → n ≤ j → j < r.used → test (shown (key_at r.heads j)) ≡ true

  later_removed : (n : ℕ) (r : Rest) → n < r.used → Sound shown words o Fits clock r → Later (suc n) r → Later n (removed o n r)
  later_removed n r h s f j a b = rw (removed_key r.used n r.heads h s.heads_long j) (go (ℕ_discrete j n))
    where
      go : Dec (j ≡ n) → test (shown (key_at r.heads (moved_from r.used n j))) ≡ true
      go (yes q) = rw (eq-eqb j n q) (f (r.used - 1) (omega arith) (omega arith))
      go (no ne) = rw (ne_eqb j n ne) (f j (omega arith) (omega arith))

  not_back : (b c : Bool) → b ≡ not c → (b ≡ true → c ≡ false) × (b ≡ false → c ≡ true)
  not_back b true e = (λ t. absurd (true≢false (sym t ∙ e)), λ t. refl)
  not_back b false e = (λ t. refl, λ t. absurd (true≢false (sym e ∙ t)))

  pub stays : (n : ℕ) (r : Rest) → Sound shown words o Fits clock r → n ≤ r.used → Later n r → Stays shown words o Fits row test clock r (dropped_rows o f n r)
  unfolding dropped_rows dropped_row
  stays zero r s h l = record {
    sound = s;
    same_heads = refl;
    same_words = refl;
    fewer = omega arith;
    rows = sym (retained_seen shown words r.heads r.used clock s.stands (row r.heads r.words) test (λ j k. l j (omega arith) k));
  }
  stays (suc n) r s h l =
      go (matches o f (key_at r.heads n)) refl
      (λ p q. stays n (removed o n r) p (omega arith) q) (λ q. stays n r s (omega arith) q)
    where
      agree : matches o f (key_at r.heads n) ≡ not (test (shown (key_at r.heads n)))
      agree = agrees r.heads n (s.fits n h) (s.stands.proper n h)

      go : (b : Bool) → matches o f (key_at r.heads n) ≡ b → (Sound shown words o Fits clock (removed o n r) → Later n (removed o n r) → Stays shown words o Fits row test clock (removed o n r) (dropped_rows o f n (removed o n r)))
          → (Later n r → Stays shown words o Fits row test clock r (dropped_rows o f n r)) → Stays shown words o Fits row test clock r (dropped_rows o f n (cond b (removed o n r) r))
      go true e left stay =
          let out : test (shown (key_at r.heads n)) ≡ false = (not_back true (test (shown (key_at r.heads n))) (sym e ∙ agree)).0 refl in
          let t = left (removed_sound r n h s) (later_removed n r h s l) in
          record {
            sound = t.sound;
            same_heads = t.same_heads ∙ length_removed_heads r.used n r.heads h s.heads_long;
            same_words = t.same_words ∙ length_removed_words o r.used n r.words h s.words_long;
            fewer = let q = t.fewer in omega arith;
            rows = t.rows
                ∙ dropped_seen shown words r.heads r.used clock s.stands (removed_heads r.used n r.heads) n h (removed_dropped r.used n r.heads h s.heads_long)
                (row r.heads r.words) (row (removed_heads r.used n r.heads) (removed_words o r.used n r.words))
                (λ j k. Moved-row r.used n r.heads r.words h s.heads_long s.words_long j k) test out;
          }
      go false e left stay =
          let in' : test (shown (key_at r.heads n)) ≡ true = (not_back false (test (shown (key_at r.heads n))) (sym e ∙ agree)).1 refl in
          stay (λ j a b. here j a b (ℕ_discrete j n) in')
        where
          here : (j : ℕ) → n ≤ j → j < r.used → Dec (j ≡ n) → test (shown (key_at r.heads n)) ≡ true → test (shown (key_at r.heads j)) ≡ true
          here j a b (yes q) p = rw q p
          here j a b (no ne) p = l j (omega arith) b
