-- One law for each way out of a function.
-- Assumes nothing.
use mathlib.Core.Path.{◌≡◌, refl, sym, ap, ◌∙◌}
use mathlib.Core.Bool.{Bool, true, false, cond, not, ◌&&◌, ◌||◌}
use mathlib.Core.List.{List, [], ◌∷◌, ◌++◌, flatten}
use Prim.Native.Nat.{ℕ, ◌+◌, ◌-◌, ◌/◌, ◌≤◌, ◌<◌}
use native.Mathlib.Nat.{add-sub_cancel_left, zero-add}
use native.Mathlib.Omega.{arith}
use lib.ListN.{length, take, drop, length-append}
use lib.Seq.{sets, sets-eq, take-append_seam, drop-append-add}
use lib.Dec.{ltb, eqb}
use borrow.Author.Tests.{eq-eqb, ne_eqb, lt-ltb, le-ltb, le-leb, eqb-true, not-true, not-false}
use Rattle.laws.proofs.Tests.{and_true}
use Rattle.section.specs.Header.{table_id_of, section_number}
use Rattle.cells.specs.Cells.{part_of}
use Rattle.rows.specs.declared.Key.{Key}
use Rattle.rows.specs.Rows.{same_key}
use Rattle.laid.specs.Laid.{pid_word}
use Rattle.std.specs.Prelude.{Result, Ok, Err, Option}
use Rattle.laid.specs.declared.NoWord.{NoWord}
use Rattle.laid.specs.declared.NoWord.TheVariants as no_word
use Rattle.laid.specs.Laid.{sections_in, laid_out, is_set, is_schedule, key_in, schedule_key_in, kind_first, same_version, same_last, table_in}
use Rattle.laid.specs.Walk.{EndAt, Placed, numbered, place_in}
use Rattle.laid.proofs.Sections.{laid_empty, sections_all}
use Rattle.laid.proofs.Agree.{set_run, schedule_run, opens, keys_table}
use Rattle.differences.specs.Rules.{Entry, one_of, table_words, versions_agree, lasts_agree}
use Rattle.differences.specs.Walk.{words_of, all_differences}
use Rattle.differences.proofs.Listing.{words_four}
use Rattle.guides.specs.Store.{same_sides, keyed, set_sides, schedule_sides, told, refused, told_of, list_if, tables_if, set_entries, schedule_entries, schedule_words, compared, listed, compared_schedules, listed_schedules, tables_of, Sides, alike, both_words, answer_of}
use Rattle.guides.specs.Store.{set_or_empty, held_not, held_one, held_for, held_of, held_by, section_of, table_part, AlikeSets, AlikeSchedules, LaidSides}
use Rattle.guides.specs.declared.CompareAnswer.TheVariants as answer
use Rattle.guides.specs.declared.Compared.{Compared}
use Rattle.guides.specs.declared.HeldAnswer.TheVariants as held_answer
use Rattle.guides.specs.declared.Holder.{Holder}
use Rattle.guides.specs.declared.Amiss.{Amiss}
use Rattle.guides.specs.declared.Amiss.TheVariants as amiss

-- ---- the list, where there is room

module _ (es : List Entry) (list : List ℕ) (count : ℕ) (v l : Bool) (e : count ≡ length es) where
  pub list_full : (r : Compared) → length list / 4 < count → r ≡ told answer.NoRoom count v l → r ≡ told_of (length list / 4) (length es) v l
  list_full r h q = q ∙ rw (← e, lt-ltb (length list / 4) count h)

  pub list_left : length list / 4 < count → list ≡ list_if es list
  list_left h = rw (← e, lt-ltb (length list / 4) count h)

  pub list_same : (r : Compared) → count ≤ length list / 4 → count ≡ 0 → r ≡ told answer.Same count v l → r ≡ told_of (length list / 4) (length es) v l
  list_same r h z q = q ∙ rw (← e, le-ltb (length list / 4) count h, eq-eqb count 0 z)

  pub list_differ : (r : Compared) → count ≤ length list / 4 → (count ≡ 0 → ⊥) → r ≡ told answer.Differ count v l → r ≡ told_of (length list / 4) (length es) v l
  list_differ r h z q = q ∙ rw (← e, le-ltb (length list / 4) count h, ne_eqb count 0 z)

  pub list_written : (list' : List ℕ) → count ≤ length list / 4 → list' ≡ sets list 0 (words_of es) → list' ≡ list_if es list
  list_written list' h q =
      let n = words_four es in
      let k : 0 + length (words_of es) ≤ length list = omega arith in
      q ∙ sets-eq (words_of es) list 0 k ∙ rw (← e, le-ltb (length list / 4) count h, zero-add (length (words_of es)))

pub words_kept : (full : Bool) (tables words : List ℕ) → not full ≡ false → tables ≡ cond full tables words
words_kept full tables words h = rw (not-false full h)

pub words_out : (full : Bool) (tables words : List ℕ) → not full ≡ true → words ≡ cond full tables words
words_out full tables words h = rw (not-true full h)

-- ---- what is asked of both sides

pub alike_keys : (j k : Key) (b : Bool) → b ≡ same_key j k → b ≡ true → alike ≡ same_sides j k
alike_keys j k b e h = rw (← e, h)

pub other_keys : (j k : Key) (b : Bool) → b ≡ same_key j k → b ≡ false → Err amiss.OtherKey ≡ same_sides j k
other_keys j k b e h = rw (← e, h)

module _ (a b : List ℕ) (p q : Option ℕ) where
  module _ (x y : Bool) (ex : x ≡ is_set a) (ey : y ≡ is_set b) where
    pub sets_not : not (x && y) ≡ true → Err amiss.NotSets ≡ set_sides a p b q
    unfolding set_sides
    sets_not h = rw (← ex, ← ey, not-true (x && y) h)

    sets_good : not (x && y) ≡ false → (is_set a && is_set b) ≡ true
    sets_good h = rw (← ex, ← ey) (not-false (x && y) h)

    pub first_room : not (x && y) ≡ false → 12 ≤ length a
    first_room h = let r = set_run a (and_true (is_set a) (is_set b) (sets_good h)).0 in (opens a r.laid r.some).room

    pub second_room : not (x && y) ≡ false → 12 ≤ length b
    second_room h = let r = set_run b (and_true (is_set a) (is_set b) (sets_good h)).1 in (opens b r.laid r.some).room

    module _ (h : not (x && y) ≡ false) (w : Result (ℕ × ℕ) Amiss) (ew : w ≡ both_words (pid_word p) (pid_word q)) where
      pub sets_amiss : (e : Amiss) (s : Sides) → w ≡ Err e → s ≡ Err e → s ≡ set_sides a p b q
      unfolding set_sides
      sets_amiss e s z es = rw (sets_good h, ← ew, z) es

      pub sets_keyed : (i j : ℕ) (k m : Key) (s : Sides) → w ≡ Ok (i, j) → k ≡ key_in i a → m ≡ key_in j b → s ≡ same_sides k m → s ≡ set_sides a p b q
      unfolding set_sides
      sets_keyed i j k m s y ek em es = rw (sets_good h, ← ew, y, ← ek, ← em) es

  module _ (x y : Bool) (ex : x ≡ is_schedule a) (ey : y ≡ is_schedule b) where
    pub schedules_not : not (x && y) ≡ true → Err amiss.NotSets ≡ schedule_sides a p b q
    unfolding schedule_sides
    schedules_not h = rw (← ex, ← ey, not-true (x && y) h)

    schedules_good : not (x && y) ≡ false → (is_schedule a && is_schedule b) ≡ true
    schedules_good h = rw (← ex, ← ey) (not-false (x && y) h)

    pub first_long : not (x && y) ≡ false → 12 ≤ length a
    first_long h = let r = schedule_run a (and_true (is_schedule a) (is_schedule b) (schedules_good h)).0 in (opens a r.laid r.some).room

    pub second_long : not (x && y) ≡ false → 12 ≤ length b
    second_long h = let r = schedule_run b (and_true (is_schedule a) (is_schedule b) (schedules_good h)).1 in (opens b r.laid r.some).room

    module _ (h : not (x && y) ≡ false) (w : Result (ℕ × ℕ) Amiss) (ew : w ≡ both_words (pid_word p) (pid_word q)) where
      pub schedules_amiss : (e : Amiss) (s : Sides) → w ≡ Err e → s ≡ Err e → s ≡ schedule_sides a p b q
      unfolding schedule_sides
      schedules_amiss e s z es = rw (schedules_good h, ← ew, z) es

      pub schedules_keyed : (i j : ℕ) (k m : Key) (s : Sides) → w ≡ Ok (i, j) → k ≡ schedule_key_in i a → m ≡ schedule_key_in j b → s ≡ same_sides k m → s ≡ schedule_sides a p b q
      unfolding schedule_sides
      schedules_keyed i j k m s y ek em es = rw (schedules_good h, ← ew, y, ← ek, ← em) es

-- ---- one section

pub set_or_none : (s : List ℕ) (b : Bool) → b ≡ is_set s → (eqb (length s) 0 || b) ≡ set_or_empty s
set_or_none s b e = rw e

pub none_held : (n m p q : ℕ) (h : Holder) → n ≡ 0 → m ≡ 0 → h ≡ held_not held_answer.NotOne → h ≡ held_for n m p q
none_held n m p q h a b e = e ∙ simp (eq-eqb n 0 a, eq-eqb m 0 b)

pub second_held : (n m p q : ℕ) (h : Holder) → n ≡ 0 → (m ≡ 0 → ⊥) → h ≡ held_one 2 q m → h ≡ held_for n m p q
second_held n m p q h a b e = e ∙ simp (eq-eqb n 0 a, ne_eqb m 0 b)

pub first_held : (n m p q : ℕ) (h : Holder) → (n ≡ 0 → ⊥) → m ≡ 0 → h ≡ held_one 1 p n → h ≡ held_for n m p q
first_held n m p q h a b e = e ∙ simp (ne_eqb n 0 a, eq-eqb m 0 b)

pub both_held : (n m p q : ℕ) (h : Holder) → (n ≡ 0 → ⊥) → (m ≡ 0 → ⊥) → h ≡ held_not held_answer.NotOne → h ≡ held_for n m p q
both_held n m p q h a b e = e ∙ simp (ne_eqb n 0 a, ne_eqb m 0 b)

size_of : (s : List ℕ) (n p r : ℕ) → Placed s n p → EndAt s p r → r - p ≡ length (numbered n (sections_in s))
size_of s n p r k e = let z : r ≡ p + length (numbered n (sections_in s)) = e.exact ∙ ap (λ (x : List ℕ). p + length x) k.there in rw z (add-sub_cancel_left p (length (numbered n (sections_in s))))

pub held_where : (a b : List ℕ) (n p q r t : ℕ) (h : Holder) → Placed a n p → Placed b n q → EndAt a p r → EndAt b q t → h ≡ held_for (r - p) (t - q) p q
    → h ≡ held_of (numbered n (sections_in a)) (numbered n (sections_in b)) (place_in n (sections_in a)) (place_in n (sections_in b))
held_where a b n p q r t h k l e f z = z ∙ rw (size_of a n p r k e, size_of b n q t l f, k.exact, l.exact)

laid_or_empty : (s : List ℕ) → set_or_empty s ≡ true → laid_out s ≡ true
laid_or_empty s e = go (eqb (length s) 0) refl e
  where
    go : (t : Bool) → eqb (length s) 0 ≡ t → (t || is_set s) ≡ true → laid_out s ≡ true
    go true z q = laid_empty s (eqb-true (length s) 0 z)
    go false z q = (set_run s q).laid

module _ (a b : List ℕ) (x y : Bool) (ex : x ≡ set_or_empty a) (ey : y ≡ set_or_empty b) where
  both_good : (x && y) ≡ true → (set_or_empty a && set_or_empty b) ≡ true
  both_good h = rw (← ex, ← ey) h

  pub sides_laid : (x && y) ≡ true → LaidSides a b
  sides_laid h =
      let c = and_true (set_or_empty a) (set_or_empty b) (both_good h) in
      record { first = laid_or_empty a c.0; second = laid_or_empty b c.1 }

  pub held_told : (n : ℕ) (h : Holder) → (x && y) ≡ true → h ≡ held_of (numbered n (sections_in a)) (numbered n (sections_in b)) (place_in n (sections_in a)) (place_in n (sections_in b)) → h ≡ held_by a b n
  unfolding held_by
  held_told n h z e = e ∙ rw (both_good z)

  pub held_refused : (n : ℕ) (h : Holder) → (x && y) ≡ false → h ≡ held_not held_answer.NotSets → h ≡ held_by a b n
  unfolding held_by
  held_refused n h z e = e ∙ rw (← ex, ← ey, z)

-- ---- the bytes of one section

numbered_part : (n : ℕ) (xs : List (List ℕ)) → (place_in n xs + length (numbered n xs) ≤ length (flatten xs)) × (take (length (numbered n xs)) (drop (place_in n xs) (flatten xs)) ≡ numbered n xs)
unfolding numbered place_in flatten
numbered_part n [] = (omega arith, refl)
numbered_part n (x ∷ xs) = go (eqb (section_number x) n) (numbered_part n xs)
  where
    go : (b : Bool) → (place_in n xs + length (numbered n xs) ≤ length (flatten xs)) × (take (length (numbered n xs)) (drop (place_in n xs) (flatten xs)) ≡ numbered n xs)
        → (cond b 0 (length x + place_in n xs) + length (cond b x (numbered n xs)) ≤ length (x ++ flatten xs))
        × (take (length (cond b x (numbered n xs))) (drop (cond b 0 (length x + place_in n xs)) (x ++ flatten xs)) ≡ cond b x (numbered n xs))
    go true h = (simp length-append (omega arith), take-append_seam x (flatten xs))
    go false h = (let k = h.0 in simp length-append (omega arith), rw (drop-append-add x (flatten xs) (place_in n xs)) h.1)

pub part_numbered : (s : List ℕ) (n : ℕ) → laid_out s ≡ true → part_of s (place_in n (sections_in s)) (length (numbered n (sections_in s))) ≡ numbered n (sections_in s)
part_numbered s n w =
    let f = sections_all s w in
    let h = numbered_part n (sections_in s) in
    let k : place_in n (sections_in s) + length (numbered n (sections_in s)) ≤ length s = rw f at h.0 in
    let a : place_in n (sections_in s) ≤ length s = omega arith in
    let b : length (numbered n (sections_in s)) ≤ length s - place_in n (sections_in s) = omega arith in
    rw (le-leb (place_in n (sections_in s)) (length s) a, le-leb (length (numbered n (sections_in s))) (length s - place_in n (sections_in s)) b) (rw f at h.1)

nothing_part : (s : List ℕ) → part_of s 0 0 ≡ []
nothing_part s = rw (le-leb 0 (length s) (omega arith), le-leb 0 (length s - 0) (omega arith))

no_bytes : (x : List ℕ) → length x ≡ 0 → x ≡ []
no_bytes [] h = refl
no_bytes (b ∷ x) h = absurd (omega arith)

-- what a holder names, where the section of each side is known
abbrev Names : List ℕ → List ℕ → Holder → List ℕ → Type 0
Names a b h part = (h.side ≡ 1 → part_of a h.start h.length ≡ part) × ((h.side ≡ 1 → ⊥) → part_of b h.start h.length ≡ part)

not_one : {A : Type 0} → ◌≡◌ {A = ℕ} 0 1 → A
not_one z = absurd (omega arith)

not_two : {A : Type 0} → ◌≡◌ {A = ℕ} 2 1 → A
not_two z = absurd (omega arith)

named_of : (a b x y : List ℕ) (p q : ℕ) → part_of a p (length x) ≡ x → part_of b q (length y) ≡ y → Names a b (held_for (length x) (length y) p q) (one_of x y)
unfolding one_of
named_of a b x y p q ex ey = go (eqb (length x) 0) refl (eqb (length y) 0) refl
  where
    go : (t : Bool) → eqb (length x) 0 ≡ t → (u : Bool) → eqb (length y) 0 ≡ u
        → Names a b (cond t (cond u (held_not held_answer.NotOne) (held_one 2 q (length y))) (cond u (held_one 1 p (length x)) (held_not held_answer.NotOne))) (cond t y (cond u x []))
    go true et true eu = (λ z. not_one z, λ z. nothing_part b ∙ sym (no_bytes y (eqb-true (length y) 0 eu)))
    go true et false eu = (λ z. not_two z, λ z. ey)
    go false et true eu = (λ z. ex, λ z. absurd (z refl))
    go false et false eu = (λ z. not_one z, λ z. nothing_part b)

named : (a b : List ℕ) (n : ℕ) → Names a b (held_by a b n) (section_of a b n)
unfolding held_by section_of
named a b n = go (set_or_empty a && set_or_empty b) refl
  where
    go : (g : Bool) → (set_or_empty a && set_or_empty b) ≡ g
        → Names a b (cond g (held_of (numbered n (sections_in a)) (numbered n (sections_in b)) (place_in n (sections_in a)) (place_in n (sections_in b))) (held_not held_answer.NotSets))
        (cond g (one_of (numbered n (sections_in a)) (numbered n (sections_in b))) [])
    go true e =
        let c = and_true (set_or_empty a) (set_or_empty b) e in
        named_of a b (numbered n (sections_in a)) (numbered n (sections_in b)) (place_in n (sections_in a)) (place_in n (sections_in b))
        (part_numbered a n (laid_or_empty a c.0)) (part_numbered b n (laid_or_empty b c.1))
    go false e = (λ z. not_one z, λ z. nothing_part b)

module _ (a b : List ℕ) (n : ℕ) (h : Holder) (e : h ≡ held_by a b n) (part : List ℕ) where
  pub section_first : h.side ≡ 1 → part ≡ part_of a h.start h.length → part ≡ section_of a b n
  section_first z q = q ∙ (rw (← e) at (named a b n)).0 z

  pub section_second : (h.side ≡ 1 → ⊥) → part ≡ part_of b h.start h.length → part ≡ section_of a b n
  section_second z q = q ∙ (rw (← e) at (named a b n)).1 z

-- ---- the comparisons

-- what two alike sides are
keyed_alike : (key : ℕ → List ℕ → Key) (u w : Result ℕ NoWord) (a b : List ℕ) → keyed key u w a b ≡ alike → (p : ℕ) × (q : ℕ) × (same_key (key p a) (key q b) ≡ true)
keyed_alike key (Err no_word.NoPid) w a b e = let z : ◌≡◌ {A = ℕ} 0 1 = cc in absurd (omega arith)
keyed_alike key (Err no_word.TooLarge) (Err no_word.NoPid) a b e = let z : ◌≡◌ {A = ℕ} 0 1 = cc in absurd (omega arith)
keyed_alike key (Err no_word.TooLarge) (Err no_word.TooLarge) a b e = let z : ◌≡◌ {A = ℕ} 0 1 = cc in absurd (omega arith)
keyed_alike key (Err no_word.TooLarge) (Ok q) a b e = let z : ◌≡◌ {A = ℕ} 0 1 = cc in absurd (omega arith)
keyed_alike key (Ok p) (Err no_word.NoPid) a b e = let z : ◌≡◌ {A = ℕ} 0 1 = cc in absurd (omega arith)
keyed_alike key (Ok p) (Err no_word.TooLarge) a b e = let z : ◌≡◌ {A = ℕ} 0 1 = cc in absurd (omega arith)
keyed_alike key (Ok p) (Ok q) a b e = go (same_key (key p a) (key q b)) refl e
  where
    go : (t : Bool) → same_key (key p a) (key q b) ≡ t → cond t alike (Err amiss.OtherKey) ≡ alike → (p : ℕ) × (q : ℕ) × (same_key (key p a) (key q b) ≡ true)
    go true z f = (p, q, z)
    go false z f = let y : ◌≡◌ {A = ℕ} 0 1 = cc in absurd (omega arith)

good_alike : (g : Bool) (s : Sides) → cond g s (Err amiss.NotSets) ≡ alike → (g ≡ true) × (s ≡ alike)
good_alike true s e = (refl, e)
good_alike false s e = let z : ◌≡◌ {A = ℕ} 0 1 = cc in absurd (omega arith)

module _ (a b : List ℕ) (p q : Option ℕ) where
  pub alike_sets : (s : Sides) → s ≡ set_sides a p b q → s ≡ alike → AlikeSets a b
  unfolding set_sides
  alike_sets s e f =
      let g = good_alike (is_set a && is_set b) (keyed key_in (pid_word p) (pid_word q) a b) (sym e ∙ f) in
      let c = and_true (is_set a) (is_set b) g.0 in
      let k = keyed_alike key_in (pid_word p) (pid_word q) a b g.1 in
      record { first = c.0; second = c.1; table = keys_table (key_in k.0 a) (key_in k.1 b) k.2 }

  pub alike_schedules : (s : Sides) → s ≡ schedule_sides a p b q → s ≡ alike → AlikeSchedules a b
  unfolding schedule_sides
  alike_schedules s e f =
      let g = good_alike (is_schedule a && is_schedule b) (keyed schedule_key_in (pid_word p) (pid_word q) a b) (sym e ∙ f) in
      let c = and_true (is_schedule a) (is_schedule b) g.0 in
      let k = keyed_alike schedule_key_in (pid_word p) (pid_word q) a b g.1 in
      record { first = c.0; second = c.1; kind = keys_table (schedule_key_in k.0 a) (schedule_key_in k.1 b) k.2 }

  module _ (s : Sides) (e : s ≡ set_sides a p b q) (room : ℕ) (r : Compared) where
    pub compare_amiss : (x : Amiss) → s ≡ Err x → r ≡ refused (answer_of x) → r ≡ compared a p b q room
    unfolding compared
    compare_amiss x z h = h ∙ rw (← e, z)

    pub compare_alike : s ≡ alike → r ≡ told_of room (length (set_entries a b)) (same_version a b) (same_last a b) → r ≡ compared a p b q room
    unfolding compared
    compare_alike z h = h ∙ rw (← e, z)

  pub listed_alike : (s : Sides) (list l : List ℕ) → s ≡ set_sides a p b q → s ≡ alike → l ≡ list_if (set_entries a b) list → l ≡ listed a p b q list
  unfolding listed
  listed_alike s list l e z h = h ∙ rw (← e, z)

  pub listed_amiss : (s : Sides) (list : List ℕ) (x : Amiss) → s ≡ set_sides a p b q → s ≡ Err x → list ≡ listed a p b q list
  unfolding listed
  listed_amiss s list x e z = rw (← e, z)

module _ (a b : List ℕ) (p q : Option ℕ) where
  module _ (s : Sides) (e : s ≡ schedule_sides a p b q) (room : ℕ) (r : Compared) where
    pub schedules_refused : (x : Amiss) → s ≡ Err x → r ≡ refused (answer_of x) → r ≡ compared_schedules a p b q room
    unfolding compared_schedules
    schedules_refused x z h = h ∙ rw (← e, z)

    pub schedules_alike : s ≡ alike → r ≡ told_of room (length (schedule_entries a b)) (versions_agree (schedule_words a b)) (lasts_agree (schedule_words a b)) → r ≡ compared_schedules a p b q room
    unfolding compared_schedules
    schedules_alike z h = h ∙ rw (← e, z)

  module _ (s : Sides) (e : s ≡ schedule_sides a p b q) (list : List ℕ) where
    pub list_amiss : (x : Amiss) → s ≡ Err x → list ≡ listed_schedules a p b q list
    unfolding listed_schedules
    list_amiss x z = rw (← e, z)

    pub list_alike : (l : List ℕ) → s ≡ alike → l ≡ list_if (schedule_entries a b) list → l ≡ listed_schedules a p b q list
    unfolding listed_schedules
    list_alike l z h = h ∙ rw (← e, z)

  module _ (s : Sides) (e : s ≡ schedule_sides a p b q) (room : ℕ) (tables : List ℕ) where
    pub tables_amiss : (x : Amiss) → s ≡ Err x → tables ≡ tables_of a p b q room tables
    unfolding tables_of
    tables_amiss x z = rw (← e, z)

    pub tables_alike : (l : List ℕ) → s ≡ alike → l ≡ tables_if room (schedule_entries a b) (schedule_words a b) tables → l ≡ tables_of a p b q room tables
    unfolding tables_of
    tables_alike l z h = h ∙ rw (← e, z)

-- the tables of two schedules
module _ (a b list : List ℕ) (base : ℕ) (words : List ℕ) (v l : Bool) (r : Compared) (e : all_differences (sections_in a) (sections_in b) ≡ schedule_entries a b)
    (eb : base ≡ kind_first (table_id_of a)) (ew : words ≡ table_words base (sections_in a) (sections_in b)) (ev : v ≡ versions_agree words) (el : l ≡ lasts_agree words)
    (er : r ≡ told_of (length list / 4) (length (all_differences (sections_in a) (sections_in b))) v l) where
  same_words : words ≡ schedule_words a b
  same_words = ew ∙ ap (λ (f : ℕ). table_words f (sections_in a) (sections_in b)) eb

  pub tables_told : r ≡ told_of (length list / 4) (length (schedule_entries a b)) (versions_agree (schedule_words a b)) (lasts_agree (schedule_words a b))
  tables_told = er ∙ rw (ev, el, same_words, e)

  pub tables_out_lem : (after tables out : List ℕ) → length after ≡ length list → out ≡ cond (ltb (length after / 4) r.count) tables words
      → out ≡ tables_if (length list / 4) (schedule_entries a b) (schedule_words a b) tables
  tables_out_lem after tables out h q =
      let n : r.count ≡ length (schedule_entries a b) = ap (λ (x : Compared). x.count) er ∙ ap length e in
      q ∙ rw (h, n, same_words)

  pub tables_list : (after : List ℕ) → after ≡ list_if (all_differences (sections_in a) (sections_in b)) list → after ≡ list_if (schedule_entries a b) list
  tables_list after q = q ∙ rw e

-- a set, a schedule, has room for its first header
pub alike_first : (a b : List ℕ) → AlikeSets a b → 12 ≤ length a
alike_first a b w = let r = set_run a w.first in (opens a r.laid r.some).room

pub alike_second : (a b : List ℕ) → AlikeSets a b → 12 ≤ length b
alike_second a b w = let r = set_run b w.second in (opens b r.laid r.some).room

pub schedule_some : (a b : List ℕ) → AlikeSchedules a b → 0 < length a
schedule_some a b w = (schedule_run a w.first).some

pub table_there : (s part : List ℕ) (t : ℕ) (b : Bool) → b ≡ is_schedule s → b ≡ true → part ≡ table_in s t → part ≡ table_part s t
unfolding table_part
table_there s part t b e h q = rw (← e, h) q

pub table_none : (s : List ℕ) (t : ℕ) (b : Bool) → b ≡ is_schedule s → b ≡ false → [] ≡ table_part s t
unfolding table_part
table_none s t b e h = rw (← e, h)

pub is_schedule_lem : (s : List ℕ) (b : Bool) → b ≡ is_schedule s → b ≡ true → is_schedule s ≡ true
is_schedule_lem s b e h = sym e ∙ h
