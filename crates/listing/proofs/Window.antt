-- The list is a window on all entries: after a walk it is the list before, with the entries of the page over its first words.
-- Assumes nothing.
use mathlib.Core.Path.{◌≡◌, refl, sym, ap, ap₂, ◌∙◌}
use mathlib.Core.Logic.{⊎_elim}
use mathlib.Core.Bool.{Bool, true, false, cond}
use Prim.Native.Nat.{ℕ, zero, suc, ◌+◌, ◌*◌, ◌/◌, ◌≤◌, ◌<◌, ◌-◌}
use native.Mathlib.Nat.{add-zero, sub-zero}
use native.Mathlib.Omega.{arith}
use mathlib.Core.List.{List, [], ◌∷◌, ◌++◌, append_assoc}
use lib.ListN.{length, take, drop, length-append, length-drop, take-append-drop}
use lib.Seq.{take-nil, drop-nil, drop-drop, take-add, length-take-le, paste}
use lib.Dec.{eqb}
use Rattle.laws.proofs.Lists.{paste_part}
use Rattle.laws.proofs.Tests.{lt_or_le}
use Rattle.entry_words.specs.Words.{event_of, event_words, plain_words, stream_words, service_words, entry_words, descriptor_words}
use Rattle.listing.specs.Rules.{page, joined}
use Rattle.listing.specs.Store.{Found, done, past, entry, descriptor, put_in, put_all, words_of}
use Rattle.listing.proofs.Ways.{put_before, put_none, put_room}

-- entries of twelve words each
pub data Twelve : List (List ℕ) → Type 0 where
  none : Twelve []
  more : {words : List ℕ} {entries : List (List ℕ)} → length words ≡ 12 → Twelve entries → Twelve (words ∷ entries)

either_twelve : (b : Bool) (x y : List ℕ) → length x ≡ 12 → length y ≡ 12 → length (cond b x y) ≡ 12
either_twelve true x y h l = h
either_twelve false x y h l = l

entry_twelve : (network number at : ℕ) (header : List ℕ) → length (entry_words network number at header) ≡ 12
unfolding entry_words event_words stream_words service_words plain_words
entry_twelve network number at header =
    either_twelve (eqb (length header) 12) (event_words number at (event_of header)) _ refl
    (either_twelve (eqb (length header) 6) (stream_words number at header) _ refl
    (either_twelve (eqb (length header) 5) (service_words network number at header) (plain_words number at header) refl refl))

descriptor_twelve : (number at tag size : ℕ) → length (descriptor_words number at tag size) ≡ 12
unfolding descriptor_words
descriptor_twelve number at tag size = refl

-- all that is found is listed by twelve words
pub found_twelve : (network number : ℕ) (f : Found) → Twelve (words_of network number f)
unfolding words_of
found_twelve network number done = none
found_twelve network number (past at) = none
found_twelve network number (entry at header f) = more (entry_twelve network number at header) (found_twelve network number f)
found_twelve network number (descriptor at tag size f) = more (descriptor_twelve number at tag size) (found_twelve network number f)

pub twelve_append : {xs ys : List (List ℕ)} → Twelve xs → Twelve ys → Twelve (xs ++ ys)
twelve_append none q = q
twelve_append (more h p) q = more h (twelve_append p q)

twelve_drop : (n : ℕ) {xs : List (List ℕ)} → Twelve xs → Twelve (drop n xs)
twelve_drop zero p = p
twelve_drop (suc n) none = none
twelve_drop (suc n) (more h p) = twelve_drop n p

-- entries that follow each other go into the list one after another
pub put_append : (xs ys : List (List ℕ)) (list : List ℕ) (skip k : ℕ) → put_all list skip k (xs ++ ys) ≡ put_all (put_all list skip k xs) skip (k + length xs) ys
unfolding put_all
put_append [] ys list skip k = rw (add-zero k)
put_append (x ∷ xs) ys list skip k =
    put_append xs ys (put_in list skip k x) skip (k + 1)
    ∙ ap (λ (j : ℕ). put_all (put_all (put_in list skip k x) skip (k + 1) xs) skip j ys) (omega arith)

-- where there is no room the list stays
full : (entries : List (List ℕ)) (list : List ℕ) (skip k : ℕ) → skip + length list / 12 ≤ k → put_all list skip k entries ≡ list
unfolding put_all
full [] list skip k h = refl
full (x ∷ xs) list skip k h =
    ap (λ (l : List ℕ). put_all l skip (k + 1) xs) (sym (put_none list skip k x (omega arith) (omega arith)))
    ∙ full xs list skip (k + 1) (omega arith)

-- the first `skip` entries are passed over
skipped : (entries : List (List ℕ)) (list : List ℕ) (skip k : ℕ) → k ≤ skip → put_all list skip k entries ≡ put_all list skip skip (drop (skip - k) entries)
unfolding put_all
skipped [] list skip k h = rw (drop-nil {A = List ℕ} (skip - k))
skipped (x ∷ xs) list skip k h = ⊎_elim
    (λ (l : k < skip).
    let e : skip - k ≡ suc (skip - (k + 1)) = omega arith in
    ap (λ (q : List ℕ). put_all q skip (k + 1) xs) (sym (put_before list skip k x l))
    ∙ skipped xs list skip (k + 1) (omega arith)
    ∙ ap (λ (j : ℕ). put_all list skip skip (drop j (x ∷ xs))) (sym e))
    (λ (l : skip ≤ k).
    let e : skip - k ≡ 0 = omega arith in
    let d : k ≡ skip = omega arith in
    ap (λ (j : ℕ). put_all list skip j (x ∷ xs)) d ∙ ap (λ (j : ℕ). put_all list skip skip (drop j (x ∷ xs))) (sym e))
    (lt_or_le k skip)

-- then they lie over what stands there
over : (skip : ℕ) {entries : List (List ℕ)} → Twelve entries → (a b : List ℕ) (j : ℕ) → length a ≡ j * 12
    → put_all (a ++ b) skip (skip + j) entries ≡ a ++ (joined (take (length b / 12) entries) ++ drop (length (take (length b / 12) entries) * 12) b)
unfolding put_all joined
over skip none a b j h = rw (take-nil {A = List ℕ} (length b / 12))
over skip (more {words = x} {entries = xs} h t) a b j l = ⊎_elim
    (λ (s : length b < 12).
    let e : length b / 12 ≡ 0 = omega arith in
    let m : length (a ++ b) ≡ j * 12 + length b = length-append a b ∙ ap (λ (i : ℕ). i + length b) l in
    rw e
    (ap (λ (q : List ℕ). put_all q skip (skip + j + 1) xs) (sym (put_none (a ++ b) skip (skip + j) x (omega arith) (omega arith)))
    ∙ full xs (a ++ b) skip (skip + j + 1) (omega arith)))
    (λ (s : 12 ≤ length b).
    let m : length (a ++ b) ≡ j * 12 + length b = length-append a b ∙ ap (λ (i : ℕ). i + length b) l in
    let r : length (drop 12 b) ≡ length b - 12 = length-drop 12 b in
    let e : length b / 12 ≡ suc (length (drop 12 b) / 12) = omega arith in
    let i : skip + j - skip ≡ j = omega arith in
    let z : length (a ++ x) ≡ (j + 1) * 12 = length-append a x ∙ omega arith in
    let p : put_in (a ++ b) skip (skip + j) x ≡ (a ++ x) ++ drop 12 b =
    sym (put_room (a ++ b) skip (skip + j) x (omega arith) (omega arith))
    ∙ ap (λ (i : ℕ). paste (a ++ b) (i * 12) x 12) i
    ∙ ap (λ (q : List ℕ). paste (a ++ q) (j * 12) x 12) (sym (take-append-drop 12 b))
    ∙ paste_part a (take 12 b) (drop 12 b) x (j * 12) 12 l (length-take-le 12 b s) h
    ∙ sym (append_assoc a x (drop 12 b)) in
    let n : ℕ = length (take (length (drop 12 b) / 12) xs) in
    let v : 12 + n * 12 ≡ suc n * 12 = omega arith in
    rw e
    (ap₂ (λ (q : List ℕ) (k : ℕ). put_all q skip k xs) p (omega arith)
    ∙ over skip t (a ++ x) (drop 12 b) (j + 1) z
    ∙ append_assoc a x (joined (take (length (drop 12 b) / 12) xs) ++ drop (n * 12) (drop 12 b))
    ∙ ap (λ (q : List ℕ). a ++ q) (sym (append_assoc x (joined (take (length (drop 12 b) / 12) xs)) (drop (n * 12) (drop 12 b))))
    ∙ ap (λ (q : List ℕ). a ++ (x ++ joined (take (length (drop 12 b) / 12) xs) ++ q)) (drop-drop (n * 12) 12 b ∙ ap (λ (k : ℕ). drop k b) v)))
    (lt_or_le (length b) 12)

-- entries skip to skip + room - 1 stand at the list's front, and every word behind the last of them is as before
pub window : (list : List ℕ) (skip : ℕ) {entries : List (List ℕ)} → Twelve entries
    → put_all list skip 0 entries ≡ joined (page skip (length list / 12) entries) ++ drop (length (page skip (length list / 12) entries) * 12) list
window list skip {entries} t =
    skipped entries list skip 0 (omega arith)
    ∙ ap (λ (k : ℕ). put_all list skip skip (drop k entries)) (sub-zero skip)
    ∙ ap (λ (k : ℕ). put_all list skip k (drop skip entries)) (sym (add-zero skip))
    ∙ over skip (twelve_drop skip t) [] list 0 refl

-- pages laid side by side are one page, whatever their room: so pages from the first entry on are all entries, each once
pub pages : (skip room next : ℕ) (entries : List (List ℕ)) → page skip (room + next) entries ≡ page skip room entries ++ page (skip + room) next entries
pages skip room next entries = take-add room next (drop skip entries) ∙ ap (λ (l : List (List ℕ)). take room (drop skip entries) ++ take next l) (drop-drop room skip entries)
