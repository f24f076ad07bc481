-- One law for each way out.
-- Assumes nothing.
use mathlib.Core.Path.{◌≡◌, refl, sym, ap, ◌∙◌}
use mathlib.Core.List.{List}
use mathlib.Core.Bool.{Bool, true, false}
use Prim.Native.Nat.{ℕ, suc, ◌+◌, ◌*◌, ◌-◌, ◌≤◌, ◌<◌}
use native.Mathlib.Omega.{arith}
use lib.ListN.{get_or}
use Rattle.demux_places.specs.Places.{place_at, bytes_at}
use Rattle.demux_places.specs.declared.Place.{Place}
use Rattle.counts_collect.specs.Collected.{Held, collected}
use Rattle.counts_places.specs.Collected.{is_sound, collected_at, collected_from}

module _ (places packet buffers : List ℕ) (pid k : ℕ) (h r : Held) (x : Bool) (e : x ≡ is_sound (get_or places (k * 6) 0)) where
  pub sound : (p : Place) (b : List ℕ) → x ≡ true → p ≡ place_at places k → b ≡ bytes_at packet buffers p → r ≡ collected h pid b → r ≡ collected_at places packet buffers pid k h
  unfolding collected_at
  sound p b q f g l = rw (← e, q) (l ∙ ap (collected h pid) (g ∙ ap (bytes_at packet buffers) f))

  pub not_sound : x ≡ false → h ≡ collected_at places packet buffers pid k h
  unfolding collected_at
  not_sound q = rw (← e, q)

pub start : (places packet buffers : List ℕ) (pid n : ℕ) (h : Held) → collected_from places packet buffers pid (n - 0) 0 h ≡ collected_from places packet buffers pid n 0 h
start places packet buffers pid n h = ap (λ (m : ℕ). collected_from places packet buffers pid m 0 h) (omega arith)

module _ (places packet buffers : List ℕ) (pid n k : ℕ) (h w : Held) where
  pub turn : (h' : Held) → k < n → collected_from places packet buffers pid (n - k) k h ≡ w → h' ≡ collected_at places packet buffers pid k h
      → collected_from places packet buffers pid (n - (k + 1)) (k + 1) h' ≡ w
  unfolding collected_from
  turn h' l e f =
      let q : n - k ≡ suc (n - (k + 1)) = omega arith in
      rw f (ap (λ (m : ℕ). collected_from places packet buffers pid m k h) (sym q) ∙ e)

  pub all : n ≤ k → collected_from places packet buffers pid (n - k) k h ≡ w → h ≡ w
  unfolding collected_from
  all l e =
      let q : n - k ≡ 0 = omega arith in
      ap (λ (m : ℕ). collected_from places packet buffers pid m k h) (sym q) ∙ e
