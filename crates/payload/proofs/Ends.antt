-- What `gather` does with whole parts of a payload, by the length that the header of a section tells.
-- Assumes nothing.
use mathlib.Core.Path.{◌≡◌, refl, sym, ap, ◌∙◌}
use mathlib.Core.Logic.{◌≢◌, ◌⊎◌, inl, inr, by_cases}
use mathlib.Core.Bool.{Bool, true, false, cond, ◌||◌, true≢false}
use mathlib.Core.List.{List, [], ◌∷◌, ◌++◌, append-nil}
use Prim.Native.Nat.{ℕ, zero, suc, ◌+◌, ◌-◌, ◌*◌, ◌%◌, ◌≤◌, ◌<◌}
use native.Mathlib.Decide.{dec_lt}
use native.Mathlib.Omega.{arith}
use lib.Dec.{eqb, ltb}
use lib.ListN.{length, take, drop, get_or, length-append, take-append-drop}
use lib.Seq.{append_snoc, length-take-le, take-append-le, take-append-add, drop-append-add, drop-length, take-append_seam, drop-append_seam}
use borrow.Author.Tests.{ltb-true, ltb-false, lt-ltb, le-ltb, eq-eqb, eqb-false}
use Rattle.laws.proofs.Tests.{same_test, lt_or_le}
use Rattle.transport.specs.Rules.{Bytes, whole, lacking, stops, read, found, gather}
use Rattle.transport.specs.Sender.{IsSection, stuffed}
use Rattle.transport.proofs.Gather.{comes_to_end, one_section, not_under}
use Rattle.transport.proofs.Blocks.{front_lacks, lacks_whole, gather_more}
use Rattle.payload.specs.Payload.{total_of, end_of, ended_of, going_of}

-- ---- the length that a header tells

three : (h l : ℕ) → total_of h l ≡ suc (suc (suc (h % 16 * 256 + l)))
three h l = omega arith

-- the rules' test, by the length
short_or : (x : Bytes) → lacking x ≡ (ltb (length x) 3 || ltb (length x) (total_of (get_or x 1 0) (get_or x 2 0)))
unfolding lacking
short_or [] = refl
short_or (t ∷ []) = refl
short_or (t ∷ h ∷ []) = refl
short_or (t ∷ h ∷ l ∷ more) =
    rw (le-ltb (length (t ∷ h ∷ l ∷ more)) 3 (omega arith))
    (same_test (ltb (length more) (h % 16 * 256 + l)) (ltb (length (t ∷ h ∷ l ∷ more)) (total_of h l))
    (λ p. let k : length more < h % 16 * 256 + l = ltb-true _ _ p in lt-ltb (length (t ∷ h ∷ l ∷ more)) (total_of h l) (omega arith))
    (λ p. let k : length (t ∷ h ∷ l ∷ more) < total_of h l = ltb-true _ _ p in lt-ltb (length more) (h % 16 * 256 + l) (omega arith)))

pub end_none : (x : Bytes) → lacking x ≡ true → end_of x ≡ 0
unfolding end_of
end_none x h = rw (sym (short_or x) ∙ h) refl

pub end_total : (x : Bytes) → lacking x ≡ false → end_of x ≡ total_of (get_or x 1 0) (get_or x 2 0)
unfolding end_of
end_total x h = rw (sym (short_or x) ∙ h) refl

pub lacks_by_end : (x : Bytes) → end_of x ≡ 0 → lacking x ≡ true
lacks_by_end x e = go (lacking x) refl
  where
    go : (b : Bool) → lacking x ≡ b → b ≡ true
    go true h = refl
    go false h = absurd (omega (arith, end_total x h, e))

pub all_by_end : (x : Bytes) → end_of x ≢ 0 → lacking x ≡ false
all_by_end x e = go (lacking x) refl
  where
    go : (b : Bool) → lacking x ≡ b → b ≡ false
    go true h = absurd (e (end_none x h))
    go false h = refl

-- a section that stands whole at the front
pub record Front (x : Bytes) : Type 0 where
  pub long : 3 ≤ end_of x
  pub fits : end_of x ≤ length x
  pub is_whole : whole (take (end_of x) x) ≡ true

pub at_front : (x : Bytes) → lacking x ≡ false → Front x
unfolding lacking whole
at_front [] h = absurd (true≢false h)
at_front (t ∷ []) h = absurd (true≢false h)
at_front (t ∷ u ∷ []) h = absurd (true≢false h)
at_front (t ∷ u ∷ l ∷ more) h =
    let d : ℕ = u % 16 * 256 + l in
    let q : end_of (t ∷ u ∷ l ∷ more) ≡ suc (suc (suc d)) = end_total (t ∷ u ∷ l ∷ more) h ∙ three u l in
    let k : d ≤ length more = ltb-false (length more) d h in
    record { long = omega (arith, q); fits = omega (arith, q); is_whole = rw q (eq-eqb (length (take d more)) d (length-take-le d more k)) }

-- ---- a section begins

stuffed_front : (n b : ℕ) (bs : Bytes) → 1 ≤ n → eqb b 255 ≡ false → stuffed (take n (b ∷ bs)) ≡ false
unfolding stuffed
stuffed_front zero b bs h e = absurd (omega arith)
stuffed_front (suc n) b bs h e = e

pub begins_whole : (b : ℕ) (bs : Bytes) → eqb b 255 ≡ false → lacking (b ∷ bs) ≡ false
    → gather true [] (b ∷ bs) ≡ found (take (end_of (b ∷ bs)) (b ∷ bs)) (gather true [] (drop (end_of (b ∷ bs)) (b ∷ bs)))
begins_whole b bs e h =
    let x : Bytes = b ∷ bs in
    let f : Front x = at_front x h in
    let s : IsSection (take (end_of x) x) = record { complete = f.is_whole; table = stuffed_front (end_of x) b bs (omega (arith, f.long)) e } in
    ap (gather true []) (sym (take-append-drop (end_of x) x)) ∙ one_section (take (end_of x) x) (drop (end_of x) x) s

-- ---- a section under way

-- what lacks grows past its end only with more bytes
pub past : (u part : Bytes) → lacking u ≡ true → lacking (u ++ part) ≡ false → length u < end_of (u ++ part)
past u part h k = go (lt_or_le (length u) e)
  where
    e : ℕ
    e = end_of (u ++ part)

    go : (length u < e) ⊎ (e ≤ length u) → length u < e
    go (inl l) = l
    go (inr l) =
        let p : lacking (take e u ++ drop e u) ≡ true = rw (take-append-drop e u) h in
        let q : whole (take e u) ≡ false = lacks_whole (take e u) (front_lacks (take e u) (drop e u) p) in
        let r : whole (take e u) ≡ true = rw (← (take-append-le e u part l)) (at_front (u ++ part) k).is_whole in
        absurd (true≢false (sym r ∙ q))

pub goes_further : (u part : Bytes) → 1 ≤ length u → lacking (u ++ part) ≡ true → gather false u part ≡ read [] (u ++ part)
goes_further [] part l h = absurd (omega arith)
goes_further (g ∷ gs) part l h = gather_more false g gs part h

to_its_end : (u first tail : Bytes) → 1 ≤ length u → 1 ≤ length first → whole (u ++ first) ≡ true → gather false u (first ++ tail) ≡ read ((u ++ first) ∷ []) []
to_its_end [] first tail l m h = absurd (omega arith)
to_its_end (g ∷ gs) [] tail l m h = absurd (omega arith)
to_its_end (g ∷ gs) (b ∷ bs) tail l m h = comes_to_end false g gs b bs tail h ∙ ap (found ((g ∷ gs) ++ (b ∷ bs))) (not_under tail)

-- how many bytes of the part finish the section
module _ (u part : Bytes) (l : 1 ≤ length u) (h : lacking u ≡ true) (k : lacking (u ++ part) ≡ false) where
  abbrev pub lack : ℕ
  lack = end_of (u ++ part) - length u

  pub lack_fits : lack ≤ length part
  lack_fits = let f : end_of (u ++ part) ≤ length (u ++ part) = (at_front (u ++ part) k).fits in omega (arith, length-append u part)

  pub its_bytes : take (end_of (u ++ part)) (u ++ part) ≡ u ++ take lack part
  its_bytes =
      let p : length u < end_of (u ++ part) = past u part h k in
      let q : length u + lack ≡ end_of (u ++ part) = omega arith in
      ap (λ (n : ℕ). take n (u ++ part)) (sym q) ∙ take-append-add u part lack

  pub is_ended : gather false u part ≡ read ((u ++ take lack part) ∷ []) []
  is_ended =
      let p : length u < end_of (u ++ part) = past u part h k in
      let q : length (take lack part) ≡ lack = length-take-le lack part lack_fits in
      let w : whole (u ++ take lack part) ≡ true = rw (← its_bytes) (at_front (u ++ part) k).is_whole in
      ap (gather false u) (sym (take-append-drop lack part)) ∙ to_its_end u (take lack part) (drop lack part) l (omega arith) w

-- ---- where the bytes are

-- bytes at the end of others
pub record Suffix (x u : Bytes) : Type 0 where
  pub fewer : length u ≤ length x
  pub same : drop (length x - length u) x ≡ u

suffix_behind : (more bs u : Bytes) → Suffix bs u → Suffix (more ++ bs) u
suffix_behind more bs u s =
    let f : length u ≤ length bs = s.fewer in
    let l : length (more ++ bs) ≡ length more + length bs = length-append more bs in
    let q : length (more ++ bs) - length u ≡ length more + (length bs - length u) = omega arith in
    record { fewer = omega arith; same = ap (λ (n : ℕ). drop n (more ++ bs)) q ∙ drop-append-add more bs (length bs - length u) ∙ s.same }

-- the bytes under way are the last of those that were read
pub under_last : (begin : Bool) (got bs : Bytes) → Suffix (got ++ bs) (gather begin got bs).under
unfolding gather
under_last begin got [] = rw (append-nil got) (record { fewer = omega arith; same = let z : length got - length got ≡ 0 = omega arith in rw z refl })
under_last begin got (b ∷ bs) = go (stops begin got b) (whole more) (under_last begin [] bs) (under_last begin more bs)
  where
    more : Bytes
    more = got ++ (b ∷ [])

    none : (x : Bytes) → Suffix x []
    none x = record { fewer = omega arith; same = let z : length x - 0 ≡ length x = omega arith in rw z (drop-length x) }

    go : (p q : Bool) → Suffix bs (gather begin [] bs).under → Suffix (more ++ bs) (gather begin more bs).under
        → Suffix (got ++ (b ∷ bs)) (cond p (read [] []) (cond q (found more (gather begin [] bs)) (gather begin more bs))).under
    go true q s t = none (got ++ (b ∷ bs))
    go false true s t = rw (← (append_snoc got b bs)) (suffix_behind more bs (gather begin [] bs).under s)
    go false false s t = rw (← (append_snoc got b bs)) t

-- sections one behind another
pub data Behind : Bytes → List Bytes → Type 0 where
  last : {x : Bytes} → Behind x []
  behind : {x s : Bytes} {ss : List Bytes} → take (length s) x ≡ s → Behind (drop (length s) x) ss → Behind x (s ∷ ss)

-- the sections that begin in bytes stand there one behind another
pub one_behind : (got bs : Bytes) → Behind (got ++ bs) (gather true got bs).sections
unfolding gather
one_behind got [] = last
one_behind got (b ∷ bs) = go (stops true got b) (whole more) (one_behind [] bs) (one_behind more bs)
  where
    more : Bytes
    more = got ++ (b ∷ [])

    go : (p q : Bool) → Behind bs (gather true [] bs).sections → Behind (more ++ bs) (gather true more bs).sections
        → Behind (got ++ (b ∷ bs)) (cond p (read [] []) (cond q (found more (gather true [] bs)) (gather true more bs))).sections
    go true q s t = last
    go false true s t = rw (← (append_snoc got b bs)) (behind {ss = (gather true [] bs).sections} (take-append_seam more bs) (rw (drop-append_seam more bs) s))
    go false false s t = rw (← (append_snoc got b bs)) t

-- ---- what becomes of the section under way

-- none is; it is longer by the part, and lacks still; it is finished
pub data Ways (u part : Bytes) : Type 0 where
  nothing : gather false u part ≡ read [] [] → Ways u part
  longer : gather false u part ≡ read [] (u ++ part) → lacking (u ++ part) ≡ true → Ways u part
  finished : (s : Bytes) → gather false u part ≡ read (s ∷ []) [] → whole s ≡ true → 3 ≤ length s → length s ≤ length u + length part → Ways u part

pub ways : (u part : Bytes) → lacking u ≡ true → Ways u part
ways [] part h = nothing (not_under part)
ways (g ∷ gs) part h = go (lacking ((g ∷ gs) ++ part)) refl
  where
    u : Bytes
    u = g ∷ gs

    some : 1 ≤ length u
    some = omega arith

    go : (b : Bool) → lacking (u ++ part) ≡ b → Ways u part
    go true k = longer (goes_further u part some k) k
    go false k =
        let f : Front (u ++ part) = at_front (u ++ part) k in
        let q : take (end_of (u ++ part)) (u ++ part) ≡ u ++ take (lack u part some h k) part = its_bytes u part some h k in
        let n : length (take (end_of (u ++ part)) (u ++ part)) ≡ end_of (u ++ part) = length-take-le (end_of (u ++ part)) (u ++ part) f.fits in
        let m : length (u ++ take (lack u part some h k) part) ≡ end_of (u ++ part) = ap length (sym q) ∙ n in
        finished (u ++ take (lack u part some h k) part) (is_ended u part some h k) (rw (← q) f.is_whole) (omega (arith, f.long)) (omega (arith, f.fits, length-append u part))

-- no more bytes than there were
pub gone_short : (u part : Bytes) (start : Bool) → lacking u ≡ true → length (ended_of u part) + length (going_of start u part) ≤ length u + length part
gone_short u part start h = go start (ways u part h)
  where
    go : (b : Bool) → Ways u part → length (ended_of u part) + length (going_of b u part) ≤ length u + length part
    go true (nothing e) = rw e (omega arith)
    go true (longer e k) = rw e (omega arith)
    go true (finished s e w l m) = rw e (omega arith)
    go false (nothing e) = rw e (omega arith)
    go false (longer e k) = rw e (omega (arith, length-append u part))
    go false (finished s e w l m) = rw e (omega arith)

-- the bytes under way lack
one_more_lem : (got : Bytes) (b : ℕ) → lacking got ≡ true → whole (got ++ (b ∷ [])) ≡ false → lacking (got ++ (b ∷ [])) ≡ true
unfolding lacking whole
one_more_lem [] b h w = refl
one_more_lem (t ∷ []) b h w = refl
one_more_lem (t ∷ u ∷ []) b h w =
    let n : 0 ≡ u % 16 * 256 + b → ⊥ = eqb-false 0 (u % 16 * 256 + b) w in
    lt-ltb 0 (u % 16 * 256 + b) (by_cases (dec_lt 0 (u % 16 * 256 + b)) (λ k. k) (λ (k : ¬ (0 < u % 16 * 256 + b)). absurd (n (omega arith))))
one_more_lem (t ∷ u ∷ l ∷ more) b h w =
    let d : ℕ = u % 16 * 256 + l in
    let k : length more < d = ltb-true (length more) d h in
    let n : length (more ++ (b ∷ [])) ≡ d → ⊥ = eqb-false (length (more ++ (b ∷ []))) d w in
    let e : length (more ++ (b ∷ [])) ≡ length more + 1 = length-append more (b ∷ []) in
    lt-ltb (length (more ++ (b ∷ []))) d (by_cases (dec_lt (length (more ++ (b ∷ []))) d) (λ j. j) (λ (j : ¬ (length (more ++ (b ∷ [])) < d)). absurd (n (omega arith))))

pub none_lacks : lacking [] ≡ true
unfolding lacking
none_lacks = refl

pub under_lacks : (begin : Bool) (got bs : Bytes) → lacking got ≡ true → lacking (gather begin got bs).under ≡ true
unfolding gather
under_lacks begin got [] h = h
under_lacks begin got (b ∷ bs) h = go (stops begin got b) (whole more) refl (under_lacks begin [] bs) (under_lacks begin more bs)
  where
    more : Bytes
    more = got ++ (b ∷ [])

    go : (p q : Bool) → whole more ≡ q → (lacking [] ≡ true → lacking (gather begin [] bs).under ≡ true) → (lacking more ≡ true → lacking (gather begin more bs).under ≡ true)
        → lacking (cond p (read [] []) (cond q (found more (gather begin [] bs)) (gather begin more bs))).under ≡ true
    go true q e i j = none_lacks
    go false true e i j = i none_lacks
    go false false e i j = j (one_more_lem got b h e)
