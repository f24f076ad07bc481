-- A turn and the loop over the places, open in the gate.
-- Assumes nothing.
use mathlib.Core.Path.{◌≡◌, sym, ap, subst, ◌∙◌}
use mathlib.Core.Bool.{Bool, true, false, cond}
use mathlib.Core.List.{List}
use Prim.Native.Nat.{ℕ, suc, ◌+◌, ◌-◌, ◌≤◌, ◌<◌}
use native.Mathlib.Omega.{arith}
use lib.Dec.{eqb}
use lib.ListN.{drop, get_or}
use Rattle.section.specs.Facts.{Bytes}
use Rattle.gate_state.specs.State.{Said}
use Rattle.assemble.proofs.Ties.{all_take, all_drop}
use Rattle.streams.specs.Store.{left_of, given_back}
use Rattle.demux_places.specs.Places.{place_at, bytes_at, answered}
use Rattle.demux_places.specs.declared.Place.{Place}
use Rattle.demux_turns.specs.Turns.{OffersOf, offers_with, offered_at, turned_by, turns_by}

-- ---- a number that counts down

pub steady_none : {S : Type 0} (steady : ℕ → S → Type 0) (count : ℕ) (s : S) → steady count s → steady (count - 0) s
steady_none steady count s t = let z : count ≡ count - 0 = omega arith in subst (λ (n : ℕ). steady n s) z t

module _ (count k : ℕ) (h : k < count) where
  pub one_more_lem : {S : Type 0} (steady : ℕ → S → Type 0) (s : S) → steady (count - k) s → steady (suc (count - (k + 1))) s
  one_more_lem steady s t = let z : count - k ≡ suc (count - (k + 1)) = omega arith in subst (λ (n : ℕ). steady n s) z t

-- ---- the bytes of a section are bytes

pub section_bytes : (packet buffers : List ℕ) → Bytes packet → Bytes buffers → (p : Place) → Bytes (bytes_at packet buffers p)
section_bytes packet buffers a b p =
    all_take p.size (drop p.first (cond (eqb p.whence 0) packet buffers)) (all_drop p.first (cond (eqb p.whence 0) packet buffers) (one (eqb p.whence 0)))
  where
    one : (t : Bool) → Bytes (cond t packet buffers)
    one true = a
    one false = b

module _ {S : Type 0} (words_in : S → List ℕ) (tells : S → (input pid : ℕ) → List ℕ → Said) (acts : S → (input pid : ℕ) → List ℕ → S) (packet buffers : List ℕ) (input pid : ℕ) where
  abbrev turn : ℕ → OffersOf S → OffersOf S
  turn k o = turned_by words_in tells acts packet buffers input pid k o

  abbrev turns : ℕ → ℕ → OffersOf S → OffersOf S
  turns n k o = turns_by words_in tells acts packet buffers input pid n k o

  -- ---- a turn

  pub section_told : (k : ℕ) (s : S) (pids places : List ℕ) (place : Place) (section : List ℕ) (a : Said) (t : S) (ps qs : List ℕ) → place ≡ place_at places k
      → section ≡ bytes_at packet buffers place → a ≡ tells s input pid section → t ≡ acts s input pid section → ps ≡ given_back (left_of (words_in s) (words_in t)) 8192 pids
      → qs ≡ answered places k a → offers_with t ps qs ≡ turn k (offers_with s pids places)
  unfolding turned_by
  section_told k s pids places place section a t ps qs e f q l p b =
      let g : section ≡ bytes_at packet buffers (place_at places k) = f ∙ ap (bytes_at packet buffers) e in
      (λ i. offers_with t (p i) (b i))
      ∙ (λ i. offers_with (l i) (given_back (left_of (words_in s) (words_in (l i))) 8192 pids) (answered places k (q i)))
      ∙ (λ i. offered_at words_in tells acts input pid k (g i) (offers_with s pids places))

  -- ---- the loop

  pub turns_none : (count : ℕ) (o : OffersOf S) → turns (count - 0) 0 o ≡ turns count 0 o
  turns_none count o = let z : count - 0 ≡ count = omega arith in ap (λ (n : ℕ). turns n 0 o) z

  module _ (count k : ℕ) (o : OffersOf S) where
    pub turns_more : (all o' : OffersOf S) → k < count → o' ≡ turn k o → turns (count - k) k o ≡ all → turns (count - (k + 1)) (k + 1) o' ≡ all
    unfolding turns_by
    turns_more all o' h e q =
        let z : count - k ≡ suc (count - (k + 1)) = omega arith in
        ap (turns (count - (k + 1)) (k + 1)) e ∙ rw z at q

    pub turns_end : (all : OffersOf S) → count ≤ k → turns (count - k) k o ≡ all → o ≡ all
    unfolding turns_by
    turns_end all h q = let z : count - k ≡ 0 = omega arith in rw z at q

    pub steady_then : (steady : ℕ → S → Type 0)
        → ((n : ℕ) (s : S) → steady (suc n) s → (input pid : ℕ) (section : List ℕ) → get_or section 7 0 < 256 → steady n (acts s input pid section))
        → (o' : OffersOf S) → Bytes packet → Bytes buffers → k < count → o' ≡ turn k o → steady (count - k) o.gate → steady (count - (k + 1)) o'.gate
    unfolding turned_by
    steady_then steady next o' a b h e s =
        let p : Place = place_at o.places k in
        subst (λ (x : OffersOf S). steady (count - (k + 1)) x.gate) (sym e)
        (next (count - (k + 1)) o.gate (one_more_lem count k h steady o.gate s) input pid (bytes_at packet buffers p) (section_bytes packet buffers a b p 7))
