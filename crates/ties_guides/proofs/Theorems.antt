-- What the comparisons are good for, of the bytes that are lent: the list is empty exactly where both sides are the same bytes; each number that they differ in stands in it
-- once, by rising number; versions and last numbers agree where it is empty; and the sides may be exchanged.
-- Assumes nothing.
use mathlib.Core.Path.{◌≡◌, refl, sym, ap, ◌∙◌}
use mathlib.Core.Bool.{Bool, true, false, cond, not, ◌&&◌}
use mathlib.Core.List.{List, [], ◌∷◌, map, flatten}
use Prim.Native.Nat.{ℕ, zero, suc, ◌+◌, ◌*◌, ◌/◌, ◌%◌, ◌≤◌, ◌<◌}
use native.Mathlib.Omega.{arith}
use lib.ListN.{length, take, get_or, length-map}
use lib.Seq.{get_or-take, take_all}
use lib.Dec.{leb, ltb, eqb}
use borrow.Author.Tests.{eq-eqb, ltb-true, leb-true, lt-ltb, le-ltb, eqb-true}
use Rattle.laws.specs.Entries.{whole_entries}
use Rattle.laws.specs.Lists.{every}
use Rattle.laws.proofs.Tests.{and_true, true_and, eqb_sym}
use Rattle.section.specs.Facts.{Bytes}
use Rattle.section.specs.Header.{table_id_of, long_form, section_length, version_of, last_section_number}
use Rattle.rows.specs.declared.Key.{Key}
use Rattle.rows.specs.Rows.{same_key, same_origin}
use Rattle.laid.specs.Laid.{pid_word}
use Rattle.laid.specs.declared.NoWord.{NoWord}
use Rattle.laid.specs.declared.NoWord.TheVariants as no_word
use Rattle.laid.specs.Laid.{sections_in, is_long, laid_out, is_set, is_schedule, key_in, schedule_key_in, kind_first, same_version, same_last}
use Rattle.laid.specs.Walk.{rank_of, numbered, place_in}
use Rattle.laid.proofs.Sections.{sections_all}
use Rattle.laid.proofs.Agree.{set_run, schedule_run}
use Rattle.differences.specs.Rules.{Entry, entry_at, up_from, differences, schedule_differences, leader, is_none, one_of, table_word, table_words, versions_agree, lasts_agree}
use Rattle.differences.specs.Walk.{all_differences}
use Rattle.differences.proofs.Upward.{up_product}
use Rattle.differences.proofs.Theorems.{proper, empty_same, same_empty, of_rank, listed_once, above, listed_rising, listed_few, mirror, all_mirrored}
use Rattle.guides.specs.Store.{compare_no, held_no, keyed, set_sides, schedule_sides, told_of, compared_by, set_entries, schedule_entries, schedule_words, compared, compared_schedules, set_or_empty, held_not, held_one, held_of, held_by, section_of, AlikeSets, AlikeSchedules, Sides, alike}
use Rattle.guides.specs.declared.CompareAnswer.TheVariants as answer
use Rattle.guides.specs.declared.Compared.{Compared}
use Rattle.guides.specs.declared.HeldAnswer.TheVariants as held_answer
use Rattle.std.specs.Prelude.{Result, Ok, Err, Option}
use Rattle.guides.specs.declared.Amiss.TheVariants as amiss
use Rattle.guides.proofs.Ranges.{within, every_both, set_within, schedule_within, set_entries_lem, set_ranked, schedule_entries_lem, schedule_ranked}
use Rattle.guides.proofs.Ways.{alike_sets, alike_schedules}

-- ---- 1 and 6: empty exactly where both hold the same

all_long : (s : List ℕ) → laid_out s ≡ true → every is_long (sections_in s) ≡ true
unfolding laid_out
all_long s e = (and_true (whole_entries 3 s) (every is_long (sections_in s)) e).1

long_proper : (low high : ℕ) → high ≤ 65536 → (x : List ℕ) → within low high x ≡ true → is_long x ≡ true → proper x ≡ true
long_proper low high h x a b =
    let p = ltb-true (rank_of x) high (and_true (leb low (rank_of x)) (ltb (rank_of x) high) a).1 in
    let q = leb-true 12 (length x) (and_true (long_form x) (leb 12 (length x)) b).1 in
    true_and (lt-ltb 0 (length x) (omega arith)) (lt-ltb (rank_of x) 65536 (omega arith))

bytes_same : (a b : List ℕ) → laid_out a ≡ true → laid_out b ≡ true → sections_in a ≡ sections_in b → a ≡ b
bytes_same a b p q e = sym (sections_all a p) ∙ ap flatten e ∙ sections_all b q

module _ (a b : List ℕ) (x : Bytes a) (y : Bytes b) where
  module _ (w : AlikeSets a b) where
    pub sets_same_sections : set_entries a b ≡ [] → sections_in a ≡ sections_in b
    sets_same_sections e =
        let h : table_id_of a * 256 + 256 ≤ 65536 = let z = x 0 in omega arith in
        empty_same (sections_in a) (sections_in b) (set_ranked a w.first).rising (set_ranked b w.second).rising
        (every_both (within (table_id_of a * 256) (table_id_of a * 256 + 256)) is_long proper (long_proper (table_id_of a * 256) (table_id_of a * 256 + 256) h) (sections_in a) (set_within a b w x y).0 (all_long a (set_run a w.first).laid))
        (every_both (within (table_id_of a * 256) (table_id_of a * 256 + 256)) is_long proper (long_proper (table_id_of a * 256) (table_id_of a * 256 + 256) h) (sections_in b) (set_within a b w x y).1 (all_long b (set_run b w.second).laid))
        (set_entries_lem a b w x y ∙ e)

    pub sets_same : set_entries a b ≡ [] → a ≡ b
    sets_same e = bytes_same a b (set_run a w.first).laid (set_run b w.second).laid (sets_same_sections e)

    pub sets_empty : a ≡ b → set_entries a b ≡ []
    sets_empty e = sym (set_entries_lem a b w x y) ∙ ap (λ (s : List ℕ). all_differences (sections_in a) (sections_in s)) (sym e) ∙ same_empty (sections_in a)

    pub sets_agree : set_entries a b ≡ [] → (same_version a b ≡ true) × (same_last a b ≡ true)
    sets_agree e = let q = sets_same e in (eq-eqb (version_of a) (version_of b) (ap version_of q), eq-eqb (last_section_number a) (last_section_number b) (ap last_section_number q))

  module _ (w : AlikeSchedules a b) where
    pub schedules_same_sections : schedule_entries a b ≡ [] → sections_in a ≡ sections_in b
    schedules_same_sections e =
        let h : kind_first (table_id_of a) * 256 + 4096 ≤ 65536 = let z = x 0 in omega arith in
        empty_same (sections_in a) (sections_in b) (schedule_ranked a x w.first).rising (schedule_ranked b y w.second).rising
        (every_both (within (kind_first (table_id_of a) * 256) (kind_first (table_id_of a) * 256 + 4096)) is_long proper (long_proper (kind_first (table_id_of a) * 256) (kind_first (table_id_of a) * 256 + 4096) h) (sections_in a) (schedule_within a b w x y).0 (all_long a (schedule_run a w.first).laid))
        (every_both (within (kind_first (table_id_of a) * 256) (kind_first (table_id_of a) * 256 + 4096)) is_long proper (long_proper (kind_first (table_id_of a) * 256) (kind_first (table_id_of a) * 256 + 4096) h) (sections_in b) (schedule_within a b w x y).1 (all_long b (schedule_run b w.second).laid))
        (schedule_entries_lem a b w x y ∙ e)

    pub schedules_same : schedule_entries a b ≡ [] → a ≡ b
    schedules_same e = bytes_same a b (schedule_run a w.first).laid (schedule_run b w.second).laid (schedules_same_sections e)

    pub schedules_empty : a ≡ b → schedule_entries a b ≡ []
    schedules_empty e = sym (schedule_entries_lem a b w x y) ∙ ap (λ (s : List ℕ). all_differences (sections_in a) (sections_in s)) (sym e) ∙ same_empty (sections_in a)

-- one word each, all of which pass a test
words_pass : (test : ℕ → Bool) (g : ℕ → ℕ) → ((t : ℕ) → test (g t) ≡ true) → (k n : ℕ) → every test (up_from k n (λ (t : ℕ). g t ∷ [])) ≡ true
unfolding every up_from
words_pass test g f zero n = refl
words_pass test g f (suc k) n = true_and (f n) (words_pass test g f k (suc n))

same_word : (x : List ℕ) → (eqb (table_word x x / 4 % 2) 0 ≡ true) × (eqb (table_word x x / 8 % 2) 0 ≡ true)
unfolding table_word
same_word x = go (is_none x)
  where
    v : same_version x x ≡ true
    v = eq-eqb (version_of x) (version_of x) refl

    l : same_last x x ≡ true
    l = eq-eqb (last_section_number x) (last_section_number x) refl

    go : (t : Bool) → (eqb (cond t (cond t 0 2) (cond t 1 (3 + cond (same_version x x) 0 4 + cond (same_last x x) 0 8)) / 4 % 2) 0 ≡ true)
        × (eqb (cond t (cond t 0 2) (cond t 1 (3 + cond (same_version x x) 0 4 + cond (same_last x x) 0 8)) / 8 % 2) 0 ≡ true)
    go true = (refl, refl)
    go false = rw (v, l) (refl, refl)

pub schedules_agree : (a b : List ℕ) → Bytes a → Bytes b → AlikeSchedules a b → schedule_entries a b ≡ [] → (versions_agree (schedule_words a b) ≡ true) × (lasts_agree (schedule_words a b) ≡ true)
unfolding table_words
schedules_agree a b x y w e =
    let q = schedules_same a b x y w e in
    let v : versions_agree (schedule_words a a) ≡ true = words_pass (λ (n : ℕ). eqb (n / 4 % 2) 0) (λ (t : ℕ). table_word (leader (sections_in a) t) (leader (sections_in a) t)) (λ t. (same_word (leader (sections_in a) t)).0) 16 (kind_first (table_id_of a)) in
    let l : lasts_agree (schedule_words a a) ≡ true = words_pass (λ (n : ℕ). eqb (n / 8 % 2) 0) (λ (t : ℕ). table_word (leader (sections_in a) t) (leader (sections_in a) t)) (λ t. (same_word (leader (sections_in a) t)).1) 16 (kind_first (table_id_of a)) in
    (ap (λ (s : List ℕ). versions_agree (schedule_words a s)) (sym q) ∙ v, ap (λ (s : List ℕ). lasts_agree (schedule_words a s)) (sym q) ∙ l)

-- the answer 9 of two alike sets comes exactly where they are the same bytes, whatever room there is
nine_none : (room : ℕ) (es : List Entry) (v l : Bool) → compare_no (told_of room (length es) v l).answer ≡ 9 → es ≡ []
nine_none room [] v l e = refl
nine_none room (x ∷ es) v l e = go (ltb room (length (x ∷ es))) e
  where
    go : (t : Bool) → compare_no (cond t answer.NoRoom (cond (eqb (suc (length es)) 0) answer.Same answer.Differ)) ≡ 9 → x ∷ es ≡ []
    go true h = let z : ◌≡◌ {A = ℕ} 34 9 = h in absurd (omega arith)
    go false h = more (eqb (suc (length es)) 0) refl h
      where
        more : (u : Bool) → eqb (suc (length es)) 0 ≡ u → compare_no (cond u answer.Same answer.Differ) ≡ 9 → x ∷ es ≡ []
        more true z k = let y = eqb-true (suc (length es)) 0 z in absurd (omega arith)
        more false z k = let y : ◌≡◌ {A = ℕ} 8 9 = k in absurd (omega arith)

none_nine : (room : ℕ) (v l : Bool) → compare_no (told_of room 0 v l).answer ≡ 9
none_nine room v l = rw (le-ltb room 0 (omega arith))

module _ (a b : List ℕ) (p q : Option ℕ) (x : Bytes a) (y : Bytes b) (room : ℕ) where
  module _ (s : set_sides a p b q ≡ alike) where
    told_alike : compared a p b q room ≡ told_of room (length (set_entries a b)) (same_version a b) (same_last a b)
    unfolding compared
    told_alike = rw s

    pub nine_same : compare_no (compared a p b q room).answer ≡ 9 → a ≡ b
    nine_same e = sets_same a b x y (alike_sets a b p q alike (sym s) refl) (nine_none room (set_entries a b) (same_version a b) (same_last a b) (ap (λ (r : Compared). compare_no r.answer) (sym told_alike) ∙ e))

    pub same_nine : a ≡ b → compare_no (compared a p b q room).answer ≡ 9
    same_nine e =
        let z = sets_empty a b x y (alike_sets a b p q alike (sym s) refl) e in
        ap (λ (r : Compared). compare_no r.answer) told_alike ∙ ap (λ (es : List Entry). compare_no (told_of room (length es) (same_version a b) (same_last a b)).answer) z ∙ none_nine room (same_version a b) (same_last a b)

  module _ (s : schedule_sides a p b q ≡ alike) where
    schedules_told_alike : compared_schedules a p b q room ≡ told_of room (length (schedule_entries a b)) (versions_agree (schedule_words a b)) (lasts_agree (schedule_words a b))
    unfolding compared_schedules
    schedules_told_alike = rw s

    pub schedules_nine_same : compare_no (compared_schedules a p b q room).answer ≡ 9 → a ≡ b
    schedules_nine_same e =
        schedules_same a b x y (alike_schedules a b p q alike (sym s) refl)
        (nine_none room (schedule_entries a b) (versions_agree (schedule_words a b)) (lasts_agree (schedule_words a b)) (ap (λ (r : Compared). compare_no r.answer) (sym schedules_told_alike) ∙ e))

    pub schedules_same_nine : a ≡ b → compare_no (compared_schedules a p b q room).answer ≡ 9
    schedules_same_nine e =
        let z = schedules_empty a b x y (alike_schedules a b p q alike (sym s) refl) e in
        ap (λ (r : Compared). compare_no r.answer) schedules_told_alike
        ∙ ap (λ (es : List Entry). compare_no (told_of room (length es) (versions_agree (schedule_words a b)) (lasts_agree (schedule_words a b))).answer) z
        ∙ none_nine room (versions_agree (schedule_words a b)) (lasts_agree (schedule_words a b))

-- ---- 2: each number once, by rising number, at most 256, of schedules 4,096

module _ (a b : List ℕ) where
  -- of table t's number n exactly what the two sides give: none or one entry, of the kind that `Kinds` says
  pub sets_listed : (n : ℕ) → n < 256 → of_rank (table_id_of a * 256 + n) (set_entries a b) ≡ entry_at (sections_in a) (sections_in b) (table_id_of a * 256 + n)
  unfolding set_entries differences
  sets_listed n h = listed_once 256 (table_id_of a * 256) (table_id_of a * 256 + n) (sections_in a) (sections_in b) (omega arith) (omega arith)

  pub sets_rising : above (table_id_of a * 256) (set_entries a b) ≡ true
  unfolding set_entries differences
  sets_rising = listed_rising 256 (table_id_of a * 256) (sections_in a) (sections_in b)

  pub sets_few : length (set_entries a b) ≤ 256
  unfolding set_entries differences
  sets_few = listed_few 256 (table_id_of a * 256) (sections_in a) (sections_in b)

  whole_range : schedule_entries a b ≡ up_from 4096 (kind_first (table_id_of a) * 256) (entry_at (sections_in a) (sections_in b))
  unfolding schedule_entries schedule_differences differences
  whole_range = up_product 16 256 (kind_first (table_id_of a)) (entry_at (sections_in a) (sections_in b))

  pub schedules_listed : (r : ℕ) → kind_first (table_id_of a) * 256 ≤ r → r < kind_first (table_id_of a) * 256 + 4096 → of_rank r (schedule_entries a b) ≡ entry_at (sections_in a) (sections_in b) r
  schedules_listed r h l = ap (of_rank r) whole_range ∙ listed_once 4096 (kind_first (table_id_of a) * 256) r (sections_in a) (sections_in b) h l

  pub schedules_rising : above (kind_first (table_id_of a) * 256) (schedule_entries a b) ≡ true
  schedules_rising = ap (above (kind_first (table_id_of a) * 256)) whole_range ∙ listed_rising 4096 (kind_first (table_id_of a) * 256) (sections_in a) (sections_in b)

  pub schedules_few : length (schedule_entries a b) ≤ 4096
  schedules_few = rw whole_range (listed_few 4096 (kind_first (table_id_of a) * 256) (sections_in a) (sections_in b))

-- ---- 4: the part is empty exactly where `held` does not answer 8

pub part_of_one : (a b : List ℕ) (n : ℕ) → is_none (section_of a b n) ≡ not (eqb (held_no (held_by a b n).answer) 8)
unfolding section_of held_by one_of
part_of_one a b n = go (set_or_empty a && set_or_empty b) (numbered n (sections_in a)) (numbered n (sections_in b)) (place_in n (sections_in a)) (place_in n (sections_in b))
  where
    by_sides : (x y : List ℕ) (p q : ℕ) (t : Bool) → is_none x ≡ t → (u : Bool) → is_none y ≡ u
        → is_none (cond t y (cond u x [])) ≡ not (eqb (held_no (cond t (cond u (held_not held_answer.NotOne) (held_one 2 q (length y))) (cond u (held_one 1 p (length x)) (held_not held_answer.NotOne))).answer) 8)
    by_sides x y p q true et true eu = eu
    by_sides x y p q true et false eu = eu
    by_sides x y p q false et true eu = et
    by_sides x y p q false et false eu = refl

    go : (g : Bool) (x y : List ℕ) (p q : ℕ) → is_none (cond g (cond (is_none x) y (cond (is_none y) x [])) []) ≡ not (eqb (held_no (cond g (held_of x y p q) (held_not held_answer.NotSets)).answer) 8)
    go true x y p q = by_sides x y p q (is_none x) refl (is_none y) refl
    go false x y p q = refl

-- ---- 5: of two sections of their own lengths none begins the other without being it

pub never_begins : (x y : List ℕ) → 12 ≤ length x → length x ≡ 3 + section_length x → length y ≡ 3 + section_length y → length x ≤ length y → take (length x) y ≡ x → x ≡ y
never_begins x y h p q l e =
    let a : get_or x 1 0 ≡ get_or y 1 0 = ap (λ (s : List ℕ). get_or s 1 0) (sym e) ∙ get_or-take (length x) y 1 0 (omega arith) in
    let b : get_or x 2 0 ≡ get_or y 2 0 = ap (λ (s : List ℕ). get_or s 2 0) (sym e) ∙ get_or-take (length x) y 2 0 (omega arith) in
    let c : section_length x ≡ section_length y = rw (a, b) in
    let m : length y ≤ length x = omega arith in
    sym e ∙ take_all (length x) y m

-- ---- 7: the sides exchanged

and_swap : (a b : Bool) → (a && b) ≡ (b && a)
and_swap true true = refl
and_swap true false = refl
and_swap false true = refl
and_swap false false = refl

keys_swap : (j k : Key) → same_key j k ≡ same_key k j
unfolding same_key same_origin
keys_swap j k = rw (
  eqb_sym j.from.input k.from.input,
  eqb_sym j.from.pid k.from.pid,
  eqb_sym j.table_id k.table_id,
  eqb_sym j.extension k.extension,
  eqb_sym j.current_next k.current_next,
  eqb_sym j.transport_stream_id k.transport_stream_id,
  eqb_sym j.original_network_id k.original_network_id,
)

keyed_swap : (key : ℕ → List ℕ → Key) (u w : Result ℕ NoWord) (a b : List ℕ) → keyed key u w a b ≡ keyed key w u b a
keyed_swap key (Err no_word.NoPid) (Err no_word.NoPid) a b = refl
keyed_swap key (Err no_word.NoPid) (Err no_word.TooLarge) a b = refl
keyed_swap key (Err no_word.NoPid) (Ok q) a b = refl
keyed_swap key (Err no_word.TooLarge) (Err no_word.NoPid) a b = refl
keyed_swap key (Err no_word.TooLarge) (Err no_word.TooLarge) a b = refl
keyed_swap key (Err no_word.TooLarge) (Ok q) a b = refl
keyed_swap key (Ok p) (Err no_word.NoPid) a b = refl
keyed_swap key (Ok p) (Err no_word.TooLarge) a b = refl
keyed_swap key (Ok p) (Ok q) a b = ap (λ (t : Bool). cond t alike (Err amiss.OtherKey)) (keys_swap (key p a) (key q b))

module _ (a b : List ℕ) (p q : Option ℕ) where
  sets_swap : set_sides a p b q ≡ set_sides b q a p
  unfolding set_sides
  sets_swap = rw (and_swap (is_set a) (is_set b), keyed_swap key_in (pid_word p) (pid_word q) a b)

  schedules_swap : schedule_sides a p b q ≡ schedule_sides b q a p
  unfolding schedule_sides
  schedules_swap = rw (and_swap (is_schedule a) (is_schedule b), keyed_swap schedule_key_in (pid_word p) (pid_word q) a b)

  -- the entries of alike sides are each other's mirror
  pub sets_mirrored : AlikeSets a b → set_entries b a ≡ map mirror (set_entries a b)
  unfolding set_entries differences
  sets_mirrored w = rw (← w.table) (all_mirrored 256 (table_id_of a * 256) (sections_in a) (sections_in b))

  pub schedules_mirrored : AlikeSchedules a b → schedule_entries b a ≡ map mirror (schedule_entries a b)
  schedules_mirrored w =
      whole_range b a ∙ ap (λ (f : ℕ). up_from 4096 (f * 256) (entry_at (sections_in b) (sections_in a))) (sym w.kind)
      ∙ all_mirrored 4096 (kind_first (table_id_of a) * 256) (sections_in a) (sections_in b) ∙ ap (map mirror) (sym (whole_range a b))

  by_side : (room : ℕ) (s : Sides) (es fs : List Entry) (v w l m : Bool) → (s ≡ alike → length es ≡ length fs) → v ≡ w → l ≡ m → compared_by s room es v l ≡ compared_by s room fs w m
  by_side room (Err x) es fs v w l m f e g = refl
  by_side room (Ok u) es fs v w l m f e g = rw (f refl, e, g)

  -- the answer, the count, and whether versions and last numbers agree, are the same
  pub compare_mirrored : (room : ℕ) → compared a p b q room ≡ compared b q a p room
  unfolding compared
  compare_mirrored room =
      by_side room (set_sides a p b q) (set_entries a b) (set_entries b a) (same_version a b) (same_version b a) (same_last a b) (same_last b a)
      (λ e. sym (ap length (sets_mirrored (alike_sets a b p q (set_sides a p b q) refl e)) ∙ length-map (set_entries a b) mirror))
      (eqb_sym (version_of a) (version_of b)) (eqb_sym (last_section_number a) (last_section_number b))
      ∙ ap (λ (s : Sides). compared_by s room (set_entries b a) (same_version b a) (same_last b a)) sets_swap

-- the words of the tables differ in 1 and 2 alone
word_mirrored : (x y : List ℕ) → (table_word x y / 4 % 2 ≡ table_word y x / 4 % 2) × (table_word x y / 8 % 2 ≡ table_word y x / 8 % 2)
unfolding table_word
word_mirrored x y = rw (eqb_sym (version_of y) (version_of x), eqb_sym (last_section_number y) (last_section_number x)) (go (is_none x) (is_none y) (same_version x y) (same_last x y))
  where
    go : (a b v l : Bool) → (cond a (cond b 0 2) (cond b 1 (3 + cond v 0 4 + cond l 0 8)) / 4 % 2 ≡ cond b (cond a 0 2) (cond a 1 (3 + cond v 0 4 + cond l 0 8)) / 4 % 2)
        × (cond a (cond b 0 2) (cond b 1 (3 + cond v 0 4 + cond l 0 8)) / 8 % 2 ≡ cond b (cond a 0 2) (cond a 1 (3 + cond v 0 4 + cond l 0 8)) / 8 % 2)
    go true true v l = (refl, refl)
    go true false v l = (refl, refl)
    go false true v l = (refl, refl)
    go false false v l = (refl, refl)

words_alike : (weight : ℕ) (g h : ℕ → ℕ) → ((t : ℕ) → g t / weight % 2 ≡ h t / weight % 2) → (k n : ℕ)
    → every (λ (w : ℕ). eqb (w / weight % 2) 0) (up_from k n (λ (t : ℕ). g t ∷ [])) ≡ every (λ (w : ℕ). eqb (w / weight % 2) 0) (up_from k n (λ (t : ℕ). h t ∷ []))
unfolding every up_from
words_alike weight g h f zero n = refl
words_alike weight g h f (suc k) n = rw (f n, words_alike weight g h f k (suc n))

module _ (a b : List ℕ) (e : kind_first (table_id_of a) ≡ kind_first (table_id_of b)) where
  versions_mirrored : versions_agree (schedule_words a b) ≡ versions_agree (schedule_words b a)
  unfolding table_words
  versions_mirrored =
      words_alike 4 (λ (t : ℕ). table_word (leader (sections_in a) t) (leader (sections_in b) t)) (λ (t : ℕ). table_word (leader (sections_in b) t) (leader (sections_in a) t))
      (λ t. (word_mirrored (leader (sections_in a) t) (leader (sections_in b) t)).0) 16 (kind_first (table_id_of a))
      ∙ ap (λ (f : ℕ). versions_agree (up_from 16 f (λ (t : ℕ). table_word (leader (sections_in b) t) (leader (sections_in a) t) ∷ []))) e

  lasts_mirrored : lasts_agree (schedule_words a b) ≡ lasts_agree (schedule_words b a)
  unfolding table_words
  lasts_mirrored =
      words_alike 8 (λ (t : ℕ). table_word (leader (sections_in a) t) (leader (sections_in b) t)) (λ (t : ℕ). table_word (leader (sections_in b) t) (leader (sections_in a) t))
      (λ t. (word_mirrored (leader (sections_in a) t) (leader (sections_in b) t)).1) 16 (kind_first (table_id_of a))
      ∙ ap (λ (f : ℕ). lasts_agree (up_from 16 f (λ (t : ℕ). table_word (leader (sections_in b) t) (leader (sections_in a) t) ∷ []))) e

by_kind : (room : ℕ) (s : Sides) (es fs : List Entry) (v w l m : Bool) → (s ≡ alike → (length es ≡ length fs) × (v ≡ w) × (l ≡ m)) → compared_by s room es v l ≡ compared_by s room fs w m
by_kind room (Err x) es fs v w l m f = refl
by_kind room (Ok u) es fs v w l m f = let h = f refl in rw (h.0, h.1, h.2)

pub compare_schedules_mirrored : (a b : List ℕ) (p q : Option ℕ) (room : ℕ) → compared_schedules a p b q room ≡ compared_schedules b q a p room
unfolding compared_schedules
compare_schedules_mirrored a b p q room =
    by_kind room (schedule_sides a p b q) (schedule_entries a b) (schedule_entries b a) (versions_agree (schedule_words a b)) (versions_agree (schedule_words b a)) (lasts_agree (schedule_words a b)) (lasts_agree (schedule_words b a))
    (λ e. let w = alike_schedules a b p q (schedule_sides a p b q) refl e in
    (sym (ap length (schedules_mirrored a b p q w) ∙ length-map (schedule_entries a b) mirror), versions_mirrored a b w.kind, lasts_mirrored a b w.kind))
    ∙ ap (λ (s : Sides). compared_by s room (schedule_entries b a) (versions_agree (schedule_words b a)) (lasts_agree (schedule_words b a))) (schedules_swap a b p q)
