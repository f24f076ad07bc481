-- However the input comes in windows, the pieces told are those of the whole input (`one_step`): what a step tells, and what is to come behind the bytes that
-- it used up, is what was to come.
-- Assumes nothing.
use mathlib.Core.Path.{◌≡◌, refl, sym, ap, ◌∙◌}
use mathlib.Core.Logic.{◌≢◌}
use mathlib.Core.Bool.{Bool, true, false, cond, ◌&&◌, ◌||◌}
use mathlib.Core.Option.{Option, none, some}
use mathlib.Core.List.{List, [], ◌∷◌, ◌++◌, append-nil, append_assoc}
use Prim.Native.Nat.{ℕ, zero, suc, ◌+◌, ◌-◌, ◌≤◌, ◌<◌}
use native.Mathlib.Omega.{arith}
use lib.Dec.{eqb, ltb, leb}
use lib.ListN.{length, take, drop, get_or, length-append, length-drop, get_or-append}
use lib.Seq.{get_or-drop, drop-drop, take-append-le, drop-append-le, drop-length}
use borrow.Author.Tests.{le-leb, lt-leb, lt-ltb, le-ltb, ltb-true, ltb-false, leb-true, leb-false, eq-eqb, ne_eqb, eqb-true, eqb-false}
use Rattle.laws.specs.Lists.{first_from}
use Rattle.laws.proofs.Lists.{get_d_ix}
use Rattle.laws.proofs.Search.{first_before, first_within, first_from_lem, first_skip, first_same}
use Rattle.laws.proofs.Tests.{same_test}
use Rattle.alignment.specs.declared.Step.{Step}
use Rattle.alignment.specs.declared.Next.TheVariants as next
use Rattle.alignment.specs.Alignment.{sync_at, next_sync, Piece, packet, skipped, cut, pieces_in, pieces, judged_to, found, more, sought, head_of, step_of, to_come, is_some, told, told_by}

-- ---- searching further on

-- the search from a place on is that of what follows it
shifted : (t : ℕ → Bool) (k n i : ℕ) → first_from t n (k + i) ≡ k + first_from (λ (j : ℕ). t (k + j)) n i
unfolding first_from
shifted t k zero i = refl
shifted t k (suc n) i = go (t (k + i)) (ap (first_from t n) z ∙ shifted t k n (suc i))
  where
    z : suc (k + i) ≡ k + suc i
    z = omega arith

    go : (b : Bool) → first_from t n (suc (k + i)) ≡ k + first_from (λ (j : ℕ). t (k + j)) n (suc i)
        → cond b (k + i) (first_from t n (suc (k + i))) ≡ k + cond b i (first_from (λ (j : ℕ). t (k + j)) n (suc i))
    go true e = refl
    go false e = e

-- what is found among the first stays found
among_more : (t : ℕ → Bool) (n m i : ℕ) → first_from t n i < i + n → first_from t (n + m) i ≡ first_from t n i
unfolding first_from
among_more t zero m i h = absurd (omega arith)
among_more t (suc n) m i h = let z : suc n + m ≡ suc (n + m) = omega arith in rw z (go (t i) h (λ (k : first_from t n (suc i) < suc i + n). among_more t n m (suc i) k))
  where
    go : (b : Bool) → cond b i (first_from t n (suc i)) < i + suc n → (first_from t n (suc i) < suc i + n → first_from t (n + m) (suc i) ≡ first_from t n (suc i))
        → cond b i (first_from t (n + m) (suc i)) ≡ cond b i (first_from t n (suc i))
    go true k f = refl
    go false k f = f (omega arith)

-- a place further on
sync_behind : (xs : List ℕ) (k j : ℕ) → k ≤ length xs → sync_at xs (k + j) ≡ sync_at (drop k xs) j
unfolding sync_at
sync_behind xs k j h =
    let z : k + j + 188 ≡ k + (j + 188) = omega arith in
    let l : leb (length xs) (k + j + 188) ≡ leb (length (drop k xs)) (j + 188) =
    same_test (leb (length xs) (k + j + 188)) (leb (length (drop k xs)) (j + 188))
    (λ t. let a : length xs ≤ k + j + 188 = leb-true _ _ t in le-leb (length (drop k xs)) (j + 188) (omega (arith, length-drop k xs)))
    (λ t. let a : length (drop k xs) ≤ j + 188 = leb-true _ _ t in le-leb (length xs) (k + j + 188) (omega (arith, length-drop k xs))) in
    let a : get_or xs (k + j) 0 ≡ get_or (drop k xs) j 0 = sym (get_or-drop k xs j 0) in
    let b : get_or xs (k + j + 188) 0 ≡ get_or (drop k xs) (j + 188) 0 = get_d_ix xs 0 z ∙ sym (get_or-drop k xs (j + 188) 0) in
    λ i. eqb (a i) 0x47 && (l i || eqb (b i) 0x47)

-- the next place from k on is k and the next of what stands behind k
next_behind : (xs : List ℕ) (k : ℕ) → k ≤ length xs → next_sync xs k ≡ k + next_sync (drop k xs) 0
next_behind xs k h =
    let z : k + 0 ≡ k = omega arith in
    let m : length (drop k xs) - 0 ≡ length xs - k = omega (arith, length-drop k xs) in
    ap (first_from (sync_at xs) (length xs - k)) (sym z) ∙ shifted (sync_at xs) k (length xs - k) 0
    ∙ ap (λ (n : ℕ). k + n) (first_same (λ (j : ℕ). sync_at xs (k + j)) (sync_at (drop k xs)) (length xs - k) 0 (λ j a b. sync_behind xs k j h)
    ∙ ap (λ (n : ℕ). first_from (sync_at (drop k xs)) n 0) (sym m))

-- ---- pieces

next_later : (xs : List ℕ) → 1 ≤ next_sync xs 1
next_later xs = first_from_lem (sync_at xs) (length xs - 1) 1

-- enough is enough
fuel : (n m : ℕ) (xs : List ℕ) → length xs ≤ n → length xs ≤ m → pieces_in n xs ≡ pieces_in m xs
unfolding pieces_in
fuel zero zero xs h k = refl
fuel zero (suc m) xs h k = let z : length xs ≡ 0 = omega arith in sym (rw (lt-ltb (length xs) 188 (omega arith), eq-eqb (length xs) 0 z) refl)
fuel (suc n) zero xs h k = let z : length xs ≡ 0 = omega arith in rw (lt-ltb (length xs) 188 (omega arith), eq-eqb (length xs) 0 z) refl
fuel (suc n) (suc m) xs h k =
    go (ltb (length xs) 188) (eqb (get_or xs 0 0) 0x47) refl
    (λ l. fuel n m (drop 188 xs) (omega (arith, length-drop 188 xs)) (omega (arith, length-drop 188 xs)))
    (λ l. fuel n m (drop (next_sync xs 1) xs) (omega (arith, next_later xs, length-drop (next_sync xs 1) xs)) (omega (arith, next_later xs, length-drop (next_sync xs 1) xs)))
  where
    short : List Piece
    short = cond (eqb (length xs) 0) [] (cut ∷ [])

    go : (a b : Bool) → ltb (length xs) 188 ≡ a → (188 ≤ length xs → pieces_in n (drop 188 xs) ≡ pieces_in m (drop 188 xs))
        → (188 ≤ length xs → pieces_in n (drop (next_sync xs 1) xs) ≡ pieces_in m (drop (next_sync xs 1) xs))
        → cond a short (packet (take 188 xs) ∷ cond b (pieces_in n (drop 188 xs)) (skipped (next_sync xs 1) ∷ pieces_in n (drop (next_sync xs 1) xs)))
        ≡ cond a short (packet (take 188 xs) ∷ cond b (pieces_in m (drop 188 xs)) (skipped (next_sync xs 1) ∷ pieces_in m (drop (next_sync xs 1) xs)))
    go true b e f g = refl
    go false true e f g = ap (λ (p : List Piece). packet (take 188 xs) ∷ p) (f (ltb-false (length xs) 188 e))
    go false false e f g = ap (λ (p : List Piece). packet (take 188 xs) ∷ skipped (next_sync xs 1) ∷ p) (g (ltb-false (length xs) 188 e))

enough : (n : ℕ) (xs : List ℕ) → length xs ≤ n → pieces_in n xs ≡ pieces xs
unfolding pieces
enough n xs h = fuel n (length xs) xs h (omega arith)

pieces_short : (xs : List ℕ) → length xs < 188 → pieces xs ≡ cond (eqb (length xs) 0) [] (cut ∷ [])
unfolding pieces pieces_in
pieces_short [] h = refl
pieces_short (x ∷ xs) h = rw (lt-ltb (length (x ∷ xs)) 188 h) refl

module _ (xs : List ℕ) (h : 188 ≤ length xs) where
  one_more_lem : length xs ≡ suc (length xs - 1)
  one_more_lem = omega arith

  pieces_packet : get_or xs 0 0 ≡ 0x47 → pieces xs ≡ packet (take 188 xs) ∷ pieces (drop 188 xs)
  unfolding pieces_in
  pieces_packet e =
      sym (enough (suc (length xs - 1)) xs (omega arith)) ∙ (rw (le-ltb (length xs) 188 h, eq-eqb (get_or xs 0 0) 0x47 e) refl)
      ∙ ap (λ (p : List Piece). packet (take 188 xs) ∷ p) (enough (length xs - 1) (drop 188 xs) (omega (arith, length-drop 188 xs)))

  pieces_loose : get_or xs 0 0 ≢ 0x47 → pieces xs ≡ packet (take 188 xs) ∷ to_come (some 1) (drop 1 xs)
  unfolding pieces_in to_come
  pieces_loose n =
      let m : ℕ = next_sync (drop 1 xs) 0 in
      let q : next_sync xs 1 ≡ 1 + m = next_behind xs 1 (omega arith) in
      let d : drop (next_sync xs 1) xs ≡ drop m (drop 1 xs) = ap (λ (k : ℕ). drop k xs) q ∙ sym (drop-drop m 1 xs) in
      sym (enough (suc (length xs - 1)) xs (omega arith)) ∙ (rw (le-ltb (length xs) 188 h, ne_eqb (get_or xs 0 0) 0x47 n) refl)
      ∙ ap (λ (p : List Piece). packet (take 188 xs) ∷ skipped (next_sync xs 1) ∷ p)
      (enough (length xs - 1) (drop (next_sync xs 1) xs) (omega (arith, next_later xs, length-drop (next_sync xs 1) xs)))
      ∙ (λ i. packet (take 188 xs) ∷ skipped (q i) ∷ pieces (d i))

pieces_none : pieces [] ≡ []
unfolding pieces pieces_in
pieces_none = refl

-- ---- one step

-- what a step tells, and what is to come behind the bytes that it used up
abbrev then_of : Step → Option ℕ → List ℕ → List ℕ → List Piece
then_of s p window rest = (told_by s p window).now ++ to_come (told_by s p window).passed (drop s.used (window ++ rest))

module _ (window rest : List ℕ) where
  abbrev xs : List ℕ
  xs = window ++ rest

  all : length xs ≡ length window + length rest
  all = length-append window rest

  at_head : 188 ≤ length window → get_or xs 0 0 ≡ get_or window 0 0
  at_head h = get_or-append window rest 0 0 (omega arith)

  first_bytes : 188 ≤ length window → take 188 xs ≡ take 188 window
  first_bytes h = take-append-le 188 window rest h

  nothing_more : rest ≡ [] → xs ≡ window
  nothing_more e = rw e (append-nil window)

  head_step : (last : Bool) → (last ≡ true → rest ≡ []) → to_come none xs ≡ then_of (head_of window last) none window rest
  unfolding head_of told_by to_come
  head_step last f = go (leb 188 (length window)) (eqb (get_or window 0 0) 0x47) last (eqb (length window) 0) refl refl refl refl
    where
      go : (a b d e : Bool) → leb 188 (length window) ≡ a → eqb (get_or window 0 0) 0x47 ≡ b → last ≡ d → eqb (length window) 0 ≡ e
          → pieces xs ≡ then_of (cond a (cond b (record { next = next.Packet; used = 188 }) (record { next = next.Loose; used = 1 }))
          (cond d (cond e (record { next = next.Over; used = 0 }) (record { next = next.Cut; used = length window })) (more 0))) none window rest
      go true true d e p q r s =
          let h : 188 ≤ length window = leb-true _ _ p in
          rw (← (first_bytes h)) (pieces_packet xs (omega (arith, all)) (at_head h ∙ eqb-true _ _ q))
      go true false d e p q r s =
          let h : 188 ≤ length window = leb-true _ _ p in
          rw (← (first_bytes h)) (pieces_loose xs (omega (arith, all)) (λ z. eqb-false _ _ q (sym (at_head h) ∙ z)))
      go false b true true p q r s = refl
      go false b true false p q r s =
          let h : length window < 188 = leb-false _ _ p in
          let w : xs ≡ window = nothing_more (f r) in
          rw (w, drop-length window) (pieces_short window h ∙ (rw s refl) ∙ ap (λ (x : List Piece). cut ∷ x) (sym pieces_none))
      go false b false e p q r s = refl

  -- while bytes are passed over
  sync_front : (j : ℕ) → j < length window - 188 → sync_at xs j ≡ sync_at window j
  unfolding sync_at
  sync_front j h =
      let a : get_or xs j 0 ≡ get_or window j 0 = get_or-append window rest 0 j (omega arith) in
      let b : get_or xs (j + 188) 0 ≡ get_or window (j + 188) 0 = get_or-append window rest 0 (j + 188) (omega arith) in
      let l : leb (length xs) (j + 188) ≡ leb (length window) (j + 188) = lt-leb (length xs) (j + 188) (omega (arith, all)) ∙ sym (lt-leb (length window) (j + 188) (omega arith)) in
      λ i. eqb (a i) 0x47 && (l i || eqb (b i) 0x47)

  found_step : (n at : ℕ) → next_sync xs 0 ≡ at → to_come (some n) xs ≡ then_of (found at) (some n) window rest
  unfolding told_by to_come
  found_step n at e = λ i. skipped (n + e i) ∷ pieces (drop (e i) xs)

  more_step : (n at : ℕ) → next_sync xs 0 ≡ at + next_sync (drop at xs) 0 → to_come (some n) xs ≡ then_of (more at) (some n) window rest
  unfolding told_by to_come
  more_step n at e =
      let m : ℕ = next_sync (drop at xs) 0 in
      let a : n + next_sync xs 0 ≡ n + at + m = omega (arith, e) in
      let d : drop (next_sync xs 0) xs ≡ drop m (drop at xs) = ap (λ (k : ℕ). drop k xs) e ∙ sym (drop-drop m at xs) in
      λ i. skipped (a i) ∷ pieces (d i)

  abbrev end : ℕ
  end = length window - 188

  abbrev at : ℕ
  at = first_from (sync_at window) end 0

  same : first_from (sync_at xs) end 0 ≡ at
  same = first_same (sync_at xs) (sync_at window) end 0 (λ j a b. sync_front j (omega arith))

  in_two : next_sync xs 0 ≡ first_from (sync_at xs) (end + (length xs - end)) 0
  in_two = let z : length xs - 0 ≡ end + (length xs - end) = omega (arith, all) in ap (λ (n : ℕ). first_from (sync_at xs) n 0) z

  found_within : at < end → next_sync xs 0 ≡ at
  found_within h = in_two ∙ among_more (sync_at xs) end (length xs - end) 0 (omega (arith, same)) ∙ same

  none_within : end ≤ at → next_sync xs 0 ≡ at + next_sync (drop at xs) 0
  none_within h =
      let e : end ≡ at = omega (arith, first_within (sync_at window) end 0) in
      let z : 0 + end ≡ end = omega arith in
      in_two ∙ first_skip (sync_at xs) end (length xs - end) 0 (λ j a b. sync_front j (omega arith) ∙ first_before (sync_at window) end 0 j a (omega arith))
      ∙ ap (first_from (sync_at xs) (length xs - end)) z ∙ next_behind xs end (omega (arith, all)) ∙ ap (λ (k : ℕ). k + next_sync (drop k xs) 0) e

  passing_step : (n : ℕ) (last : Bool) → (last ≡ true → rest ≡ []) → to_come (some n) xs ≡ then_of (sought window last) (some n) window rest
  unfolding sought
  passing_step n true f =
      let w : xs ≡ window = nothing_more (f refl) in
      let z : length window - 0 ≡ length window = omega arith in
      found_step n (first_from (sync_at window) (length window) 0) (rw (w, z) refl)
  passing_step n false f = go (ltb at end) refl
    where
      go : (b : Bool) → ltb at end ≡ b → to_come (some n) xs ≡ then_of (cond b (found at) (more at)) (some n) window rest
      go true e = found_step n at (found_within (ltb-true _ _ e))
      go false e = more_step n at (none_within (ltb-false _ _ e))

  pub one_step : (p : Option ℕ) (last : Bool) → (last ≡ true → rest ≡ []) → to_come p xs ≡ then_of (step_of window (is_some p) last) p window rest
  unfolding step_of
  one_step none last f = head_step last f
  one_step (some n) last f = passing_step n last f

-- a step uses no more than the window has
pub used_inside : (window : List ℕ) (passing last : Bool) → (step_of window passing last).used ≤ length window
unfolding step_of sought head_of
used_inside window true last = go (last || ltb (first_from (sync_at window) (judged_to (length window) last) 0) (judged_to (length window) last)) last
  where
    within : (l : Bool) → first_from (sync_at window) (judged_to (length window) l) 0 ≤ length window
    within true = omega (arith, first_within (sync_at window) (length window) 0)
    within false = omega (arith, first_within (sync_at window) (length window - 188) 0)

    go : (b l : Bool) → (cond b (found (first_from (sync_at window) (judged_to (length window) l) 0)) (more (first_from (sync_at window) (judged_to (length window) l) 0))).used ≤ length window
    go true l = within l
    go false l = within l
used_inside window false last = go (leb 188 (length window)) (eqb (get_or window 0 0) 0x47) last (eqb (length window) 0) refl
  where
    go : (a b d e : Bool) → leb 188 (length window) ≡ a
        → (cond a (cond b (record { next = next.Packet; used = 188 }) (record { next = next.Loose; used = 1 }))
        (cond d (cond e (record { next = next.Over; used = 0 }) (record { next = next.Cut; used = length window })) (more 0))).used ≤ length window
    go true true d e p = leb-true _ _ p
    go true false d e p = let h : 188 ≤ length window = leb-true _ _ p in omega arith
    go false b true true p = omega arith
    go false b true false p = omega arith
    go false b false e p = omega arith

-- where more of the input is needed, at most 188 bytes of the window are not used up
clash : {A : Type 0} → next.Found ≡ next.More → A
clash e = let z : ◌≡◌ {A = ℕ} 0 1 = cc in absurd (omega arith)

pub few_left : (window : List ℕ) (passing last : Bool) → (step_of window passing last).next ≡ next.More → length window ≤ (step_of window passing last).used + 188
unfolding step_of sought head_of
few_left window true true e = clash e
few_left window true false e = go (ltb at' end') refl e
  where
    end' : ℕ
    end' = length window - 188

    at' : ℕ
    at' = first_from (sync_at window) end' 0

    go : (b : Bool) → ltb at' end' ≡ b → (cond b (found at') (more at')).next ≡ next.More → length window ≤ (cond b (found at') (more at')).used + 188
    go true t c = clash c
    go false t c = let h : end' ≤ at' = ltb-false _ _ t in omega arith
few_left window false last e = go (leb 188 (length window)) (eqb (get_or window 0 0) 0x47) last (eqb (length window) 0) refl e
  where
    seen : Bool → Bool → Bool → Bool → Step
    seen a b d e =
        cond a (cond b (record { next = next.Packet; used = 188 }) (record { next = next.Loose; used = 1 }))
        (cond d (cond e (record { next = next.Over; used = 0 }) (record { next = next.Cut; used = length window })) (more 0))

    go : (a b d e : Bool) → leb 188 (length window) ≡ a → (seen a b d e).next ≡ next.More → length window ≤ (seen a b d e).used + 188
    go true true d e p c = let z : ◌≡◌ {A = ℕ} 0 1 = cc in absurd (omega arith)
    go true false d e p c = let z : ◌≡◌ {A = ℕ} 0 1 = cc in absurd (omega arith)
    go false b d e p c = let h : length window < 188 = leb-false _ _ p in omega arith

-- ---- the whole input

-- An input that is read as it comes: `window` is what was read of it and is not used up, `rest` is what was not read yet, `out` the pieces that are told.
-- `ends`: nothing is left. `reads`: more of the input comes into the window, as much as it likes. `steps`: a step, told that its window is the last only where
-- it is
pub data Comes : Option ℕ → List ℕ → List ℕ → List Piece → Type 0 where
  ends : Comes none [] [] []
  reads : {p : Option ℕ} {rest : List ℕ} {out : List Piece} (window block : List ℕ) → Comes p (window ++ block) rest out → Comes p window (block ++ rest) out
  steps : {p : Option ℕ} {rest : List ℕ} {out : List Piece} (window : List ℕ) (last : Bool) → (last ≡ true → rest ≡ [])
      → Comes (told_by (step_of window (is_some p) last) p window).passed (drop (step_of window (is_some p) last).used window) rest out
      → Comes p window rest ((told_by (step_of window (is_some p) last) p window).now ++ out)

-- the pieces told are those of the whole input, however it came
pub all_told : {p : Option ℕ} {window rest : List ℕ} {out : List Piece} → Comes p window rest out → to_come p (window ++ rest) ≡ out
unfolding to_come pieces pieces_in
all_told ends = refl
all_told (reads {p} {rest} {out} window block c) = ap (to_come p) (sym (append_assoc window block rest)) ∙ all_told c
all_told (steps {p} {rest} {out} window last f c) =
    let s : Step = step_of window (is_some p) last in
    let d : drop s.used (window ++ rest) ≡ drop s.used window ++ rest = drop-append-le s.used window rest (used_inside window (is_some p) last) in
    one_step window rest p last f ∙ ap (λ (x : List ℕ). (told_by s p window).now ++ to_come (told_by s p window).passed x) d
    ∙ ap (λ (x : List Piece). (told_by s p window).now ++ x) (all_told c)

pub whole_input : {xs : List ℕ} {out : List Piece} → Comes none [] xs out → pieces xs ≡ out
unfolding to_come
whole_input c = all_told c
