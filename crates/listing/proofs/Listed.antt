-- What the walk finds, in the words of the rules, for any length of an entry's header: where every entry and every descriptor ends inside its loop it finds them all,
-- each once, in byte order; else it stops at the first that does not, after all that start before it.
-- Assumes nothing.
use mathlib.Core.Path.{◌≡◌, refl, sym, ap, ap₂, ◌∙◌}
use mathlib.Core.Logic.{⊎_elim}
use Prim.Native.Nat.{ℕ, zero, suc, ◌+◌, ◌*◌, ◌%◌, ◌≤◌, ◌<◌, ◌-◌}
use native.Mathlib.Nat.{add-zero, mod-one}
use native.Mathlib.Omega.{arith}
use mathlib.Core.List.{List, [], ◌∷◌, ◌++◌, append-nil, append_assoc, map}
use lib.ListN.{length, take, drop, length-append, length-drop, take-append-drop}
use lib.Seq.{take_at, drop_at, length-take-le, drop-append-add, drop-append_seam}
use borrow.Author.Tests.{ne_eqb}
use Rattle.laws.specs.Entries.{counted, counted_by}
use Rattle.laws.proofs.Tests.{lt_or_le}
use Rattle.section.specs.Header.{byte_at}
use Rattle.entry_words.specs.Words.{entry_words, descriptor_words}
use Rattle.listing.specs.declared.Loop.{Loop}
use Rattle.listing.specs.declared.Walked.TheVariants.{Done, Past}
use Rattle.listing.specs.Rules.{Part, Laid, laid_none, laid_more, Breaks, breaks_short, breaks_past, breaks_later, parts_in, parts_of}
use Rattle.listing.specs.Rules.{Item, item, Whole, whole_none, whole_more, RunsPast, past_short, past_entry, past_descriptor, past_later, items_of, flat_parts, size_of, flat}
use Rattle.listing.specs.Store.{Found, done, past, entry, descriptor, walk, found_from, put_all, words_of, end_of, listing}
use Rattle.listing.proofs.Walk.{walk_short, walk_past, walk_entry, walk_one, walk_over, walk_descriptor}
use Rattle.listing.proofs.Parts.{count_front, count_take, put_together, header_long, body_long, Judged, is_laid, is_broken, judged, parts_are}

-- ---- the descriptors of an entry, and then what f says

unfoldable pub found_parts : (at : ℕ) → List Part → Found → Found
found_parts at [] f = f
found_parts at (d ∷ ds) f = descriptor at (byte_at d.header 0) (byte_at d.header 1) (found_parts (at + 2 + length d.body) ds f)

unfoldable pub found_items : (at : ℕ) → List Item → Found → Found
found_items at [] f = f
found_items at (i ∷ is) f =
    entry at i.header (found_parts (at + length i.header) i.descriptors (found_items (at + length i.header + size_of i.descriptors) is f))

-- the length of a descriptor is its second byte
length_byte : (x y : ℕ) → x % 1 * 256 + y ≡ y
length_byte x y = rw (mod-one x) (omega arith)

laid_size : {body : List ℕ} {ds : List Part} → Laid 1 2 body ds → length body ≡ size_of ds
unfolding size_of
laid_size laid_none = refl
laid_size (laid_more header body {rest} {parts = ds} h b d) =
    length-append header (body ++ rest) ∙ ap₂ (λ (i j : ℕ). i + j) h (length-append body rest ∙ ap (λ (i : ℕ). length body + i) (laid_size d)) ∙ omega arith

module _ (n : ℕ) where
  -- a descriptor at the front of bytes of which `left` are descriptors'
  one_found : (x y : ℕ) (body rest : List ℕ) (left at : ℕ) → y ≡ length body → left ≡ 2 + length body + (left - 2 - length body) → left ≤ 2 + (length body + length rest)
      → walk n (x ∷ y ∷ (body ++ rest)) 0 left at ≡ descriptor at x y (walk n rest 0 (left - 2 - length body) (at + 2 + length body))
  one_found x y body rest left at e l h =
      let z : length (body ++ rest) ≡ length body + length rest = length-append body rest in
      walk_descriptor n (x ∷ y ∷ (body ++ rest)) left at (omega arith) (omega arith) (omega arith)
      ∙ ap₂ (λ (q : List ℕ) (k : ℕ). descriptor at x y (walk n q 0 (left - 2 - k) (at + 2 + k)))
      (ap (λ (k : ℕ). drop k (x ∷ y ∷ (body ++ rest))) two ∙ drop_at body rest y (sym e)) e
    where
      two : 2 + y ≡ suc (suc y)
      two = omega arith

  pub descriptors_laid : {body : List ℕ} {ds : List Part} → Laid 1 2 body ds → (rest : List ℕ) (at : ℕ)
      → walk n (body ++ rest) 0 (length body) at ≡ found_parts at ds (walk n rest 0 0 (at + length body))
  unfolding found_parts
  descriptors_laid laid_none rest at = rw add-zero
  descriptors_laid (laid_more [] body h b d) rest at = absurd (omega arith)
  descriptors_laid (laid_more (x ∷ []) body h b d) rest at = absurd (omega arith)
  descriptors_laid (laid_more (x ∷ (y ∷ [])) body {rest = more} {parts = ds} h b d) rest at =
      let e : y ≡ length body = sym (b ∙ length_byte x y) in
      let z : length (body ++ more) ≡ length body + length more = length-append body more in
      let s : suc (suc (length (body ++ more))) - 2 - length body ≡ length more = omega arith in
      let w : length (more ++ rest) ≡ length more + length rest = length-append more rest in
      ap (λ (q : List ℕ). walk n (x ∷ y ∷ q) 0 (suc (suc (length (body ++ more)))) at) (append_assoc body more rest)
      ∙ one_found x y body (more ++ rest) (suc (suc (length (body ++ more)))) at e (omega arith) (omega arith)
      ∙ ap (λ (k : ℕ). descriptor at x y (walk n (more ++ rest) 0 k (at + 2 + length body))) s
      ∙ ap (descriptor at x y) (descriptors_laid d rest (at + 2 + length body) ∙ ap (λ (k : ℕ). found_parts (at + 2 + length body) ds (walk n rest 0 0 k)) (omega arith))
  descriptors_laid (laid_more (x ∷ (y ∷ (v ∷ t))) body h b d) rest at = absurd (omega arith)

  pub descriptors_broken : {body : List ℕ} {ds : List Part} {place : ℕ} → Breaks 1 2 body ds place → (rest : List ℕ) (at : ℕ)
      → walk n (body ++ rest) 0 (length body) at ≡ found_parts at ds (past (at + place))
  unfolding found_parts
  descriptors_broken (breaks_short [] z l) rest at = absurd (omega arith)
  descriptors_broken (breaks_short (x ∷ []) z l) rest at = walk_one n (x ∷ rest) at (omega arith) ∙ rw add-zero
  descriptors_broken (breaks_short (x ∷ (y ∷ t)) z l) rest at = absurd (omega arith)
  descriptors_broken (breaks_past [] more h b) rest at = absurd (omega arith)
  descriptors_broken (breaks_past (x ∷ []) more h b) rest at = absurd (omega arith)
  descriptors_broken (breaks_past (x ∷ (y ∷ [])) more h b) rest at =
      let e : x % 1 * 256 + y ≡ y = length_byte x y in
      let z : length (more ++ rest) ≡ length more + length rest = length-append more rest in
      walk_over n (x ∷ y ∷ (more ++ rest)) (suc (suc (length more))) at (omega arith) (omega arith) (omega arith) ∙ rw add-zero
  descriptors_broken (breaks_past (x ∷ (y ∷ (v ∷ t))) more h b) rest at = absurd (omega arith)
  descriptors_broken (breaks_later [] body h b d) rest at = absurd (omega arith)
  descriptors_broken (breaks_later (x ∷ []) body h b d) rest at = absurd (omega arith)
  descriptors_broken (breaks_later (x ∷ (y ∷ [])) body {rest = more} {parts = ds} {place} h b d) rest at =
      let e : y ≡ length body = sym (b ∙ length_byte x y) in
      let z : length (body ++ more) ≡ length body + length more = length-append body more in
      let s : suc (suc (length (body ++ more))) - 2 - length body ≡ length more = omega arith in
      let w : length (more ++ rest) ≡ length more + length rest = length-append more rest in
      ap (λ (q : List ℕ). walk n (x ∷ y ∷ q) 0 (suc (suc (length (body ++ more)))) at) (append_assoc body more rest)
      ∙ one_found x y body (more ++ rest) (suc (suc (length (body ++ more)))) at e (omega arith) (omega arith)
      ∙ ap (λ (k : ℕ). descriptor at x y (walk n (more ++ rest) 0 k (at + 2 + length body))) s
      ∙ ap (descriptor at x y) (descriptors_broken d rest (at + 2 + length body) ∙ ap (λ (k : ℕ). found_parts (at + 2 + length body) ds (past k)) (omega arith))
  descriptors_broken (breaks_later (x ∷ (y ∷ (v ∷ t))) body h b d) rest at = absurd (omega arith)

-- ---- a loop of entries

pub data Known (n : ℕ) (s : List ℕ) : Type 0 where
  is_whole : (items : List Item) → Whole n s items → Known n s
  runs_past : (items : List Item) (place : ℕ) → RunsPast n s items place → Known n s

module _ (n : ℕ) (p : 2 ≤ n) where
  -- an entry at the front
  entry_found : (header body rest : List ℕ) (at : ℕ) → length header ≡ n → length body ≡ counted_by 16 n header
      → walk n (header ++ (body ++ rest)) 0 0 at ≡ entry at header (walk n (body ++ rest) 0 (length body) (at + n))
  entry_found header body rest at h b =
      let s : List ℕ = header ++ (body ++ rest) in
      let c : counted n s ≡ length body = count_front 16 n (omega arith) header (body ++ rest) h ∙ sym b in
      let z : length s ≡ length header + (length body + length rest) = length-append header (body ++ rest) ∙ ap (λ (i : ℕ). length header + i) (length-append body rest) in
      walk_entry n s at (omega arith) (omega arith) (omega arith)
      ∙ rw (take_at header (body ++ rest) n h, drop_at header (body ++ rest) n h, c)

  pub whole_found : {s : List ℕ} {items : List Item} → Whole n s items → (at : ℕ) → walk n s 0 0 at ≡ found_items at items done
  unfolding walk found_items
  whole_found whole_none at = refl
  whole_found (whole_more header body {rest} {ds} {items} h b d w) at =
      entry_found header body rest at h b
      ∙ ap (entry at header)
      (descriptors_laid n d rest (at + n)
      ∙ ap₂ (λ (i j : ℕ). found_parts (at + i) ds (walk n rest 0 0 (at + i + j))) (sym h) (laid_size d)
      ∙ ap (found_parts (at + length header) ds) (whole_found w (at + length header + size_of ds)))

  pub past_found : {s : List ℕ} {items : List Item} {place : ℕ} → RunsPast n s items place → (at : ℕ) → walk n s 0 0 at ≡ found_items at items (past (at + place))
  unfolding found_items
  past_found (past_short s z l) at = walk_short n s at z l ∙ rw add-zero
  past_found (past_entry header rest h b) at =
      let c : counted n (header ++ rest) ≡ counted_by 16 n header = count_front 16 n (omega arith) header rest h in
      let z : length (header ++ rest) ≡ length header + length rest = length-append header rest in
      walk_past n (header ++ rest) at (omega arith) (omega arith) (omega arith) ∙ rw add-zero
  past_found (past_descriptor header body rest {ds} {place} h b d) at =
      entry_found header body rest at h b
      ∙ ap (entry at header)
      (descriptors_broken n d rest (at + n)
      ∙ ap₂ (λ (i j : ℕ). found_parts (at + i) ds (past j)) (sym h) (omega arith))
  past_found (past_later header body {rest} {ds} {items} {place} h b d w) at =
      entry_found header body rest at h b
      ∙ ap (entry at header)
      (descriptors_laid n d rest (at + n)
      ∙ ap₂ (λ (i j : ℕ). found_parts (at + i) ds (walk n rest 0 0 (at + i + j))) (sym h) (laid_size d)
      ∙ ap (found_parts (at + length header) ds)
      (past_found w (at + length header + size_of ds)
      ∙ ap (λ (k : ℕ). found_items (at + length header + size_of ds) items (past k)) (omega (arith, laid_size d))))

  -- ---- whole, or one runs past: one of both, whatever the bytes

  nothing : (s : List ℕ) → length s ≤ 0 → Known n s
  nothing [] h = is_whole [] whole_none
  nothing (x ∷ s) h = absurd (omega arith)

  -- an entry whose descriptors are judged, before a rest that is
  further : (header body rest : List ℕ) → length header ≡ n → length body ≡ counted_by 16 n header → Judged 1 2 body → Known n rest → Known n (header ++ (body ++ rest))
  further header body rest h b (is_broken ds place d) k = runs_past (item header ds ∷ []) _ (past_descriptor header body rest h b d)
  further header body rest h b (is_laid ds d) (is_whole items w) = is_whole (item header ds ∷ items) (whole_more header body h b d w)
  further header body rest h b (is_laid ds d) (runs_past items place w) = runs_past (item header ds ∷ items) _ (past_later header body h b d w)

  known_in : (k : ℕ) (s : List ℕ) → length s ≤ k → Known n s
  known_in zero s h = nothing s h
  known_in (suc k) s h = ⊎_elim
      (λ (z : length s < 1). nothing s (omega arith))
      (λ (z : 1 ≤ length s). ⊎_elim
      (λ (l : length s < n). runs_past [] 0 (past_short s z l))
      (λ (l : n ≤ length s). ⊎_elim
      (λ (c : length s - n < counted_by 16 n s).
      let b : RunsPast n (take n s ++ drop n s) [] 0 = past_entry (take n s) (drop n s) (length-take-le n s l) (rw (length-drop n s, count_take 16 n (omega arith) s) c) in
      rw (take-append-drop n s) at (runs_past [] 0 b))
      (λ (c : counted_by 16 n s ≤ length s - n).
      rw (put_together 16 n (omega arith) s l c)
      at (further (take n s) (take (counted_by 16 n s) (drop n s)) (drop (n + counted_by 16 n s) s) (header_long 16 n (omega arith) s l c) (body_long 16 n (omega arith) s l c)
      (judged 1 2 (omega arith) (take (counted_by 16 n s) (drop n s)))
      (known_in k (drop (n + counted_by 16 n s) s) (simp length-drop (omega arith)))))
      (lt_or_le (length s - n) (counted_by 16 n s)))
      (lt_or_le (length s) n))
      (lt_or_le (length s) 1)

  pub known : (s : List ℕ) → Known n s
  known s = known_in (length s) s (omega arith)

-- ---- the words of what is found, and how it ends

module _ (network number : ℕ) where
  pub words_parts : (ds : List Part) (at : ℕ) (f : Found) → words_of network number (found_parts at ds f) ≡ flat_parts number at ds ++ words_of network number f
  unfolding found_parts flat_parts words_of
  words_parts [] at f = refl
  words_parts (d ∷ ds) at f = ap (λ (l : List (List ℕ)). descriptor_words number at (byte_at d.header 0) (byte_at d.header 1) ∷ l) (words_parts ds (at + 2 + length d.body) f)

  pub words_items : (items : List Item) (at : ℕ) (f : Found) → words_of network number (found_items at items f) ≡ flat network number at items ++ words_of network number f
  unfolding found_items flat words_of
  words_items [] at f = refl
  words_items (i ∷ is) at f =
      let next : ℕ = at + length i.header in
      let then : Found = found_items (next + size_of i.descriptors) is f in
      ap (λ (l : List (List ℕ)). entry_words network number at i.header ∷ l)
      (words_parts i.descriptors next then
      ∙ ap (λ (l : List (List ℕ)). flat_parts number next i.descriptors ++ l) (words_items is (next + size_of i.descriptors) f)
      ∙ sym (append_assoc (flat_parts number next i.descriptors) (flat network number (next + size_of i.descriptors) is) (words_of network number f)))

  end_parts : (ds : List Part) (at k : ℕ) (f : Found) → end_of k (found_parts at ds f) ≡ end_of (k + length (flat_parts number at ds)) f
  unfolding found_parts flat_parts end_of
  end_parts [] at k f = rw add-zero
  end_parts (d ∷ ds) at k f = end_parts ds (at + 2 + length d.body) (k + 1) f ∙ ap (λ (j : ℕ). end_of j f) (omega arith)

  end_items : (items : List Item) (at k : ℕ) (f : Found) → end_of k (found_items at items f) ≡ end_of (k + length (flat network number at items)) f
  unfolding found_items flat end_of
  end_items [] at k f = rw add-zero
  end_items (i ∷ is) at k f =
      let next : ℕ = at + length i.header in
      let own : List (List ℕ) = flat_parts number next i.descriptors in
      let others : List (List ℕ) = flat network number (next + size_of i.descriptors) is in
      let z : length (own ++ others) ≡ length own + length others = length-append own others in
      end_parts i.descriptors next (k + 1) (found_items (next + size_of i.descriptors) is f)
      ∙ end_items is (next + size_of i.descriptors) (k + 1 + length own) f
      ∙ ap (λ (j : ℕ). end_of j f) (omega arith)

-- ---- the theorems on the two readers, over any length of an entry's header

-- the items of a whole loop are those that are computed
items_in : (n : ℕ) → 2 ≤ n → {s : List ℕ} {items : List Item} → Whole n s items → (k : ℕ) → length s ≤ k → map (λ (q : Part). item q.header (parts_of 1 2 q.body)) (parts_in 16 n k s) ≡ items
unfolding parts_in
items_in n p whole_none zero h = refl
items_in n p whole_none (suc k) h = refl
items_in n p (whole_more header body {rest} {ds} {items} h b d w) zero l = absurd (omega (arith, length-append header (body ++ rest)))
items_in n p (whole_more header body {rest} {ds} {items} h b d w) (suc k) l =
    let e : counted_by 16 n (header ++ (body ++ rest)) ≡ length body = count_front 16 n (omega arith) header (body ++ rest) h ∙ sym b in
    let z : length (header ++ (body ++ rest)) ≡ length header + (length body + length rest) = length-append header (body ++ rest) ∙ ap (λ (i : ℕ). length header + i) (length-append body rest) in
    let r : drop (n + length body) (header ++ (body ++ rest)) ≡ rest = rw (← h, drop-append-add header (body ++ rest) (length body), drop-append_seam body rest) in
    simp (ne_eqb (length (header ++ (body ++ rest))) 0 (λ (q : length (header ++ (body ++ rest)) ≡ 0). absurd (omega arith)))
    (rw (e, r, take_at header (body ++ rest) n h, drop_at header (body ++ rest) n h, take_at body rest (length body) refl, parts_are 1 2 (omega arith) d, items_in n p w k (omega arith)))

pub items_are : (n : ℕ) → 2 ≤ n → {s : List ℕ} {items : List Item} → Whole n s items → items_of n s ≡ items
unfolding items_of parts_of
items_are n p {s} w = items_in n p w (length s) (omega arith)

module _ (of : Loop) (s : List ℕ) (at : ℕ) (list : List ℕ) (k : ℕ) (p : 2 ≤ of.header) where
  abbrev entries_of : List Item → List (List ℕ)
  entries_of items = flat of.network of.number at items

  ends_so : (items : List Item) (f : Found) → words_of of.network of.number f ≡ [] → found_from of.header s at 0 ≡ found_items at items f
      → listing of s at 0 list k ≡ (end_of (k + length (entries_of items)) f, put_all list of.skip k (entries_of items))
  unfolding listing
  ends_so items f z e =
      rw (e, words_items of.network of.number items at f, z, append-nil (entries_of items), end_items of.network of.number items at k f)

  -- where every entry and every descriptor ends inside its loop, the walk is done, and the entries are exactly those of the loop: each once, in byte order
  pub all_listed : {items : List Item} → Whole of.header (drop at s) items
      → listing of s at 0 list k
      ≡ (Done (k + length (flat of.network of.number at (items_of of.header (drop at s)))), put_all list of.skip k (flat of.network of.number at (items_of of.header (drop at s))))
  unfolding found_from end_of words_of
  all_listed {items} w = rw (items_are of.header p w) (ends_so items done refl (whole_found of.header p w at))

  -- where one runs past its loop, the walk stops at the first that does, and the entries are those that start before it
  pub first_past : {items : List Item} {place : ℕ} → RunsPast of.header (drop at s) items place
      → listing of s at 0 list k ≡ (Past (at + place) (k + length (flat of.network of.number at items)), put_all list of.skip k (flat of.network of.number at items))
  unfolding found_from end_of words_of
  first_past {items} {place} w = ends_so items (past (at + place)) refl (past_found of.header p w at)
