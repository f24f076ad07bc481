-- Chains as lists of rows: what the words of an index must be for a bucket to read as a list, what a walk along it finds, and what a row put at
-- its head or taken off its end leaves of this and of every other chain.
-- Assumes nothing.
use Prim.Native.Nat.{ℕ, zero, suc, ◌+◌, ◌-◌, ◌<◌, ◌≤◌}
use mathlib.Core.Path.{◌≡◌, refl, sym, ap, ◌∙◌}
use mathlib.Core.List.{List, [], ◌∷◌, ◌++◌, append-nil}
use mathlib.Core.Bool.{Bool, true, false, cond}
use lib.ListN.{length, get_or, set, length-set, length-append}
use lib.Seq.{get_or-set_same, get_or-set_other}
use lib.Dec.{ltb, eqb}
use native.Mathlib.Omega.{arith}
use borrow.Author.Tests.{eqb-true, eqb-false, eq-eqb, ne_eqb, lt-ltb, le-ltb}
use Rattle.ring_index.specs.Store.{Index, index_of, ends, walk_of, linked, unlinked, prior_of}

-- every row of a list
pub data All (P : ℕ → Type 0) : List ℕ → Type 0 where
  none : All P []
  more : {x : ℕ} {l : List ℕ} → P x → All P l → All P (x ∷ l)

-- a row is not in a list
abbrev pub Lacks : ℕ → List ℕ → Type 0
Lacks i l = All (λ x. x ≡ i → ⊥) l

module _ {P Q : ℕ → Type 0} where
  pub all_map : ((x : ℕ) → P x → Q x) → {l : List ℕ} → All P l → All Q l
  all_map f none = none
  all_map f (more p a) = more (f _ p) (all_map f a)

module _ {P : ℕ → Type 0} where
  pub all_append : {l m : List ℕ} → All P l → All P m → All P (l ++ m)
  all_append none b = b
  all_append (more p a) b = more p (all_append a b)

  pub all_left_lem : (l m : List ℕ) → All P (l ++ m) → All P l
  all_left_lem [] m a = none
  all_left_lem (x ∷ l) m (more p a) = more p (all_left_lem l m a)

  pub all_right : (l m : List ℕ) → All P (l ++ m) → All P m
  all_right [] m a = a
  all_right (x ∷ l) m (more p a) = all_right l m a

-- a word of the index reads as the rows of a chain
abbrev pub Reads : List ℕ → ℕ → List ℕ → Type 0
Reads links at [] = at ≡ 0
Reads links at (i ∷ l) = (at ≡ i + 1) × Reads links (get_or links i 0) l

-- the rows of a bucket, of the rows of a list, where `home` is the bucket of each row
abbrev pub chain : (ℕ → ℕ) → ℕ → List ℕ → List ℕ
chain home b [] = []
chain home b (i ∷ l) = cond (eqb (home i) b) (i ∷ chain home b l) (chain home b l)

-- the link of a row that is not in the chain does not matter
pub reads_other : (links : List ℕ) (i v at : ℕ) (l : List ℕ) → Reads links at l → Lacks i l → Reads (set links i v) at l
reads_other links i v at [] r a = r
reads_other links i v at (x ∷ l) r (more p a) =
    (r.0, rw (get_or-set_other links i x v 0 p) (reads_other links i v (get_or links x 0) l r.1 a))

-- the first row of a list whose word is the value; used where there is none
abbrev pub pick_of : List ℕ → ℕ → ℕ → List ℕ → ℕ
pick_of words used value [] = used
pick_of words used value (i ∷ l) = cond (eqb (get_or words i 0) value) i (pick_of words used value l)

named : (used at i : ℕ) → at ≡ i + 1 → i < used → ends used at ≡ false
named used at i e h = rw (ne_eqb at 0 (λ q. omega arith), le-ltb used at (omega arith))

-- a walk along a chain
pub walk_reads :
    (words links : List ℕ) (used value left at : ℕ) (l : List ℕ) → Reads links at l → length l ≤ left → All (λ x. x < used) l →
    walk_of words links used value left at ≡ pick_of words used value l
walk_reads words links used value zero at [] r h a = refl
walk_reads words links used value (suc n) at [] r h a = rw (eq-eqb at 0 r)
walk_reads words links used value zero at (x ∷ l) r h a = absurd (omega arith)
walk_reads words links used value (suc n) at (x ∷ l) r h (more p a) =
    let q : at - 1 ≡ x = omega (arith, r.0) in
    rw (named used at x r.0 p, q, walk_reads words links used value n (get_or links x 0) l r.1 (omega arith) a)

-- ---- a row at the end of a chain

abbrev last_of : ℕ → List ℕ → ℕ
last_of y [] = y
last_of y (z ∷ l) = last_of z l

all_last : {P : ℕ → Type 0} (y : ℕ) (l : List ℕ) → All P (y ∷ l) → P (last_of y l)
all_last y [] (more p a) = p
all_last y (z ∷ l) (more p a) = all_last z l a

module _ (links : List ℕ) (f : ℕ) where
  end_link : (at : ℕ) (l : List ℕ) → Reads links at (l ++ (f ∷ [])) → get_or links f 0 ≡ 0
  end_link at [] r = r.1
  end_link at (x ∷ l) r = end_link (get_or links x 0) l r.1

  last_link : (at y : ℕ) (l : List ℕ) → Reads links at (y ∷ l ++ (f ∷ [])) → get_or links (last_of y l) 0 ≡ f + 1
  last_link at y [] r = r.1.0
  last_link at y (z ∷ l) r = last_link (get_or links y 0) z l r.1

  -- the row whose link names the last is the one before it
  prior_last :
      (used at y : ℕ) (l : List ℕ) → Reads links at (y ∷ l ++ (f ∷ [])) → Lacks f (y ∷ l) → pick_of links used (f + 1) (y ∷ l ++ (f ∷ [])) ≡ last_of y l
  prior_last used at y [] r a = rw (eq-eqb _ _ r.1.0)
  prior_last used at y (z ∷ l) r (more p (more q a)) =
      let h : get_or links y 0 ≡ z + 1 = r.1.0 in
      rw (ne_eqb (get_or links y 0) (f + 1) (λ e. q (omega arith))) (prior_last used (get_or links y 0) z l r.1 (more q a))

  -- with its link 0 the chain ends there
  cut_last :
      (at y : ℕ) (l : List ℕ) → Reads links at (y ∷ l ++ (f ∷ [])) → Lacks f (y ∷ l) → last_of y l < length links → Reads (set links (last_of y l) 0) at (y ∷ l)
  cut_last at y [] r a h = (r.0, get_or-set_same links y 0 0 h)
  cut_last at y (z ∷ l) r (more p (more q a)) h =
      let s : get_or links y 0 ≡ z + 1 = r.1.0 in
      let t : get_or links (last_of z l) 0 ≡ f + 1 = last_link (get_or links y 0) z l r.1 in
      let n : y ≡ last_of z l → ⊥ = λ e. q (omega (arith, ap (λ (k : ℕ). get_or links k 0) e)) in
      (r.0, rw (get_or-set_other links (last_of z l) y 0 0 n) (cut_last (get_or links y 0) z l r.1 (more q a) h))

-- ---- the rows of a bucket

module _ (home : ℕ → ℕ) (b : ℕ) where
  pub all_chain : {P : ℕ → Type 0} (l : List ℕ) → All P l → All P (chain home b l)
  all_chain [] a = none
  all_chain {P} (x ∷ l) (more p a) = go (eqb (home x) b) (all_chain l a)
    where
      go : (t : Bool) {m : List ℕ} → All P m → All P (cond t (x ∷ m) m)
      go true r = more p r
      go false r = r

  pub chain_home : (l : List ℕ) → All (λ x. home x ≡ b) (chain home b l)
  chain_home [] = none
  chain_home (x ∷ l) = go (eqb (home x) b) refl (chain_home l)
    where
      go : (t : Bool) → eqb (home x) b ≡ t → {m : List ℕ} → All (λ x. home x ≡ b) m → All (λ x. home x ≡ b) (cond t (x ∷ m) m)
      go true e r = more (eqb-true _ _ e) r
      go false e r = r

  pub chain_length : (l : List ℕ) → length (chain home b l) ≤ length l
  chain_length [] = omega arith
  chain_length (x ∷ l) = go (eqb (home x) b) (chain home b l) (chain_length l)
    where
      go : (t : Bool) (m : List ℕ) → length m ≤ length l → length (cond t (x ∷ m) m) ≤ suc (length l)
      go true m h = omega arith
      go false m h = omega arith

  chain_append : (l m : List ℕ) → chain home b (l ++ m) ≡ chain home b l ++ chain home b m
  chain_append [] m = refl
  chain_append (x ∷ l) m = go (eqb (home x) b) (chain home b l) (chain home b m) (chain_append l m)
    where
      go : (t : Bool) (d e : List ℕ) {c : List ℕ} → c ≡ d ++ e → cond t (x ∷ c) c ≡ cond t (x ∷ d) d ++ e
      go true d e q = ap (λ (k : List ℕ). x ∷ k) q
      go false d e q = q

  chain_end : (l : List ℕ) (f : ℕ) → eqb (home f) b ≡ true → chain home b (l ++ (f ∷ [])) ≡ chain home b l ++ (f ∷ [])
  chain_end l f e = chain_append l (f ∷ []) ∙ rw e

  chain_past : (l : List ℕ) (f : ℕ) → eqb (home f) b ≡ false → chain home b (l ++ (f ∷ [])) ≡ chain home b l
  chain_past l f e = chain_append l (f ∷ []) ∙ rw e (append-nil (chain home b l))

-- a row that is not in the list may change its bucket
chain_same :
    (home new : ℕ → ℕ) (b f : ℕ) (l : List ℕ) → ((i : ℕ) → (i ≡ f → ⊥) → new i ≡ home i) → Lacks f l → chain new b l ≡ chain home b l
chain_same home new b f [] h a = refl
chain_same home new b f (x ∷ l) h (more p a) = rw (h x p, chain_same home new b f l h a)

-- ---- an index whose buckets read as the chains of some rows

abbrev pub Holds : Index → (ℕ → ℕ) → List ℕ → ℕ → Type 0
Holds x home rows room = (b : ℕ) → b < room → Reads x.links (get_or x.buckets b 0) (chain home b rows)

-- a row is put at the head of its chain
pub link_holds :
    (x : Index) (home new : ℕ → ℕ) (rows : List ℕ) (room f : ℕ) → Holds x home rows room → Lacks f rows → ((i : ℕ) → (i ≡ f → ⊥) → new i ≡ home i) →
    new f < length x.buckets → f < length x.links → Holds (linked x (new f) f) new (f ∷ rows) room
unfolding linked
link_holds x home new rows room f holds lacks same hb hl b h = go (eqb (new f) b) refl
  where
    head : ℕ
    head = get_or x.buckets (new f) 0

    others : (at : ℕ) → Reads x.links at (chain home b rows) → Reads (set x.links f head) at (chain new b rows)
    others at r = rw (chain_same home new b f rows same lacks) (reads_other x.links f head at (chain home b rows) r (all_chain home b rows lacks))

    go :
        (t : Bool) → eqb (new f) b ≡ t →
        Reads (set x.links f head) (get_or (set x.buckets (new f) (f + 1)) b 0) (cond t (f ∷ chain new b rows) (chain new b rows))
    go true e =
        let q : new f ≡ b = eqb-true _ _ e in
        let w : get_or x.buckets b 0 ≡ head = ap (λ (k : ℕ). get_or x.buckets k 0) (sym q) in
        let u : get_or (set x.buckets (new f) (f + 1)) b 0 ≡ f + 1 =
        ap (λ (k : ℕ). get_or (set x.buckets (new f) (f + 1)) k 0) (sym q) ∙ get_or-set_same x.buckets (new f) (f + 1) 0 hb in
        (u, rw (get_or-set_same x.links f head 0 hl) (others head (rw w at (holds b h))))
    go false e =
        rw (get_or-set_other x.buckets (new f) b (f + 1) 0 (λ q. eqb-false (new f) b e (sym q))) (others (get_or x.buckets b 0) (holds b h))

pub linked_buckets : (x : Index) (b f : ℕ) → length (linked x b f).buckets ≡ length x.buckets
unfolding linked
linked_buckets x b f = length-set x.buckets b (f + 1)

pub linked_links : (x : Index) (b f : ℕ) → length (linked x b f).links ≡ length x.links
unfolding linked
linked_links x b f = length-set x.links f (get_or x.buckets b 0)

module _ (x : Index) (used room b f : ℕ) where
  unlinked_head :
      get_or x.buckets b 0 ≡ f + 1 → get_or x.links f 0 ≡ 0 → unlinked x used room b f ≡ index_of (set x.buckets b 0) x.links
  unfolding unlinked
  unlinked_head e z = rw (eq-eqb _ _ e, z)

  unlinked_next :
      (p : ℕ) → (get_or x.buckets b 0 ≡ f + 1 → ⊥) → prior_of x used room b f ≡ p → p < used → get_or x.links f 0 ≡ 0 →
      unlinked x used room b f ≡ index_of x.buckets (set x.links p 0)
  unfolding unlinked
  unlinked_next p e q h z = rw (ne_eqb _ _ e, q, lt-ltb _ _ h, z)

  pub unlinked_buckets : length (unlinked x used room b f).buckets ≡ length x.buckets
  unfolding unlinked
  unlinked_buckets = go (eqb (get_or x.buckets b 0) (f + 1)) (ltb (prior_of x used room b f) used)
    where
      go :
          (s t : Bool) →
          length (cond s (index_of (set x.buckets b (get_or x.links f 0)) x.links) (cond t (index_of x.buckets (set x.links (prior_of x used room b f) (get_or x.links f 0))) x)).buckets ≡
          length x.buckets
      go true t = length-set x.buckets b (get_or x.links f 0)
      go false true = refl
      go false false = refl

  pub unlinked_links : length (unlinked x used room b f).links ≡ length x.links
  unfolding unlinked
  unlinked_links = go (eqb (get_or x.buckets b 0) (f + 1)) (ltb (prior_of x used room b f) used)
    where
      go :
          (s t : Bool) →
          length (cond s (index_of (set x.buckets b (get_or x.links f 0)) x.links) (cond t (index_of x.buckets (set x.links (prior_of x used room b f) (get_or x.links f 0))) x)).links ≡
          length x.links
      go true t = refl
      go false true = length-set x.links (prior_of x used room b f) (get_or x.links f 0)
      go false false = refl

-- the last of the rows is taken off its chain
module _
    (x : Index)
    (home : ℕ → ℕ)
    (rest : List ℕ)
    (used room f : ℕ)
    (holds : Holds x home (rest ++ (f ∷ [])) room)
    (lacks : Lacks f rest)
    (in_use : All (λ x. x < used) (rest ++ (f ∷ [])))
    (short : length (rest ++ (f ∷ [])) ≤ room)
    (links_long : used ≤ length x.links)
    (inside : home f < room)
    (buckets_long : room ≤ length x.buckets)
  where
    head : ℕ
    head = get_or x.buckets (home f) 0

    mine : Reads x.links head (chain home (home f) rest ++ (f ∷ []))
    unfolding head
    mine = rw (chain_end home (home f) rest f (eq-eqb (home f) (home f) refl)) at (holds (home f) inside)

    theirs : (b : ℕ) → b < room → eqb (home f) b ≡ false → Reads x.links (get_or x.buckets b 0) (chain home b rest)
    theirs b h e = rw (chain_past home b rest f e) at (holds b h)

    -- it was the only one
    only : chain home (home f) rest ≡ [] → Holds (unlinked x used room (home f) f) home rest room
    unfolding head
    only e b h =
        let r : Reads x.links head (f ∷ []) = rw e at mine in
        rw (unlinked_head x used room (home f) f r.0 r.1) (go (eqb (home f) b) refl)
      where
        go : (t : Bool) → eqb (home f) b ≡ t → Reads x.links (get_or (set x.buckets (home f) 0) b 0) (chain home b rest)
        go true q =
            let w : home f ≡ b = eqb-true _ _ q in
            let u : chain home b rest ≡ [] = ap (λ (k : ℕ). chain home k rest) (sym w) ∙ e in
            rw u (ap (λ (k : ℕ). get_or (set x.buckets (home f) 0) k 0) (sym w) ∙ get_or-set_same x.buckets (home f) 0 0 (omega arith))
        go false q = rw (get_or-set_other x.buckets (home f) b 0 0 (λ w. eqb-false (home f) b q (sym w))) (theirs b h q)

    -- it had others before it
    others : (y : ℕ) (l : List ℕ) → chain home (home f) rest ≡ y ∷ l → Holds (unlinked x used room (home f) f) home rest room
    unfolding head
    others y l e b h =
        let r : Reads x.links head (y ∷ l ++ (f ∷ [])) = rw e at mine in
        let a : Lacks f (y ∷ l) = rw e at (all_chain home (home f) rest lacks) in
        let w : All (λ x. home x ≡ home f) (y ∷ l) = rw e at (chain_home home (home f) rest) in
        let v : All (λ x. x < used) (y ∷ l) = rw e at (all_chain home (home f) rest (all_left_lem rest (f ∷ []) in_use)) in
        let z : get_or x.links f 0 ≡ 0 = end_link x.links f head (y ∷ l) r in
        let p : last_of y l < used = all_last y l v in
        rw (unlinked_next x used room (home f) f (last_of y l) (first r a) (prior r a v) p z) (go r a w (omega arith) (eqb (home f) b) refl)
      where
        first : Reads x.links head (y ∷ l ++ (f ∷ [])) → Lacks f (y ∷ l) → head ≡ f + 1 → ⊥
        first r (more q a) n = q (omega (arith, r.0))

        prior :
            Reads x.links head (y ∷ l ++ (f ∷ [])) → Lacks f (y ∷ l) → All (λ x. x < used) (y ∷ l) → prior_of x used room (home f) f ≡ last_of y l
        prior r a v =
            let n : length (chain home (home f) rest) ≤ length rest = chain_length home (home f) rest in
            let k : length (y ∷ l) ≤ length rest = rw e at n in
            let i = length-append rest (f ∷ []) in
            let j = length-append (y ∷ l) (f ∷ []) in
            walk_reads x.links x.links used (f + 1) room head (y ∷ l ++ (f ∷ [])) r (omega arith) (all_append v (all_right rest (f ∷ []) in_use))
            ∙ prior_last x.links f used head y l r a

        go :
            Reads x.links head (y ∷ l ++ (f ∷ [])) → Lacks f (y ∷ l) → All (λ x. home x ≡ home f) (y ∷ l) → last_of y l < length x.links →
            (t : Bool) → eqb (home f) b ≡ t → Reads (set x.links (last_of y l) 0) (get_or x.buckets b 0) (chain home b rest)
        go r a w p true q =
            let c : home f ≡ b = eqb-true _ _ q in
            let u : chain home b rest ≡ y ∷ l = ap (λ (k : ℕ). chain home k rest) (sym c) ∙ e in
            rw (u, ← c) (cut_last x.links f head y l r a p)
        go r a w p false q =
            let c : home (last_of y l) ≡ home f = all_last y l w in
            reads_other x.links (last_of y l) 0 (get_or x.buckets b 0) (chain home b rest) (theirs b h q)
            (all_map (λ k g i. eqb-false (home f) b q (sym c ∙ ap home (sym i) ∙ g)) (chain_home home b rest))

    pub unlink_holds : Holds (unlinked x used room (home f) f) home rest room
    unlink_holds = go (chain home (home f) rest) refl
      where
        go : (l : List ℕ) → chain home (home f) rest ≡ l → Holds (unlinked x used room (home f) f) home rest room
        go [] e = only e
        go (y ∷ l) e = others y l e
