-- One law for each way out of a function.
-- Assumes nothing.
use mathlib.Core.Path.{◌≡◌, refl}
use mathlib.Core.Logic.{◌≢◌}
use mathlib.Core.Bool.{Bool, true, false, ◌||◌}
use mathlib.Core.List.{List}
use Prim.Native.Nat.{ℕ, ◌+◌, ◌-◌, ◌≤◌, ◌<◌}
use native.Mathlib.Omega.{arith}
use lib.Dec.{eqb, ltb}
use lib.ListN.{length, get_or}
use borrow.Author.Tests.{le-leb, lt-leb, eq-eqb, ne_eqb}
use Rattle.laws.specs.Lists.{first_from}
use Rattle.alignment.specs.declared.Step.{Step}
use Rattle.alignment.specs.declared.Next.TheVariants as next
use Rattle.alignment.specs.Alignment.{sync_at, judged_to, found, more, sought, head_of, step_of}

module _ (window : List ℕ) (j : ℕ) where
  pub no_sync : get_or window j 0 ≢ 0x47 → false ≡ sync_at window j
  unfolding sync_at
  no_sync n = rw (ne_eqb (get_or window j 0) 0x47 n) refl

  pub sync_last : get_or window j 0 ≡ 0x47 → length window ≤ j + 188 → true ≡ sync_at window j
  unfolding sync_at
  sync_last e h = rw (eq-eqb (get_or window j 0) 0x47 e, le-leb (length window) (j + 188) h) refl

  pub sync_again : get_or window j 0 ≡ 0x47 → j + 188 < length window → eqb (get_or window (j + 188) 0) 0x47 ≡ sync_at window j
  unfolding sync_at
  sync_again e h = rw (eq-eqb (get_or window j 0) 0x47 e, lt-leb (length window) (j + 188) h) refl

module _ (n : ℕ) (last : Bool) where
  pub judged_all : last ≡ true → n ≡ judged_to n last
  judged_all e = rw e refl

  pub judged_none : last ≡ false → n < 188 → 0 ≡ judged_to n last
  judged_none e h = rw e (omega arith)

  pub judged_most : last ≡ false → n - 188 ≡ judged_to n last
  judged_most e = rw e refl

module _ (window : List ℕ) (last : Bool) (end at : ℕ) (e : end ≡ judged_to (length window) last) (p : at ≡ first_from (sync_at window) end 0) where
  pub is_found_lem : (last || ltb at end) ≡ true → found at ≡ sought window last
  unfolding sought
  is_found_lem t = rw (← e, ← p, t) refl

  pub not_found : (last || ltb at end) ≡ false → more at ≡ sought window last
  unfolding sought
  not_found t = rw (← e, ← p, t) refl

pub end_inside : (window : List ℕ) (last : Bool) (end : ℕ) → end ≡ judged_to (length window) last → end ≤ length window
end_inside window true end e = omega (arith, e)
end_inside window false end e = omega (arith, e)

module _ (window : List ℕ) (last : Bool) where
  module _ (h : 188 ≤ length window) where
    pub a_packet : get_or window 0 0 ≡ 0x47 → record { next = next.Packet; used = 188 } ≡ head_of window last
    unfolding head_of
    a_packet e = rw (le-leb 188 (length window) h, eq-eqb (get_or window 0 0) 0x47 e) refl

    pub a_loose : get_or window 0 0 ≢ 0x47 → record { next = next.Loose; used = 1 } ≡ head_of window last
    unfolding head_of
    a_loose n = rw (le-leb 188 (length window) h, ne_eqb (get_or window 0 0) 0x47 n) refl

  module _ (h : length window < 188) where
    pub needs_more : last ≡ false → more 0 ≡ head_of window last
    unfolding head_of
    needs_more f = rw (lt-leb 188 (length window) h, f) refl

    pub is_last : (r : Step) → last ≡ true → r ≡ head_of window true → r ≡ head_of window last
    is_last r t e = rw t e

module _ (window : List ℕ) (h : length window < 188) where
  pub is_over : length window ≡ 0 → record { next = next.Over; used = 0 } ≡ head_of window true
  unfolding head_of
  is_over e = rw (lt-leb 188 (length window) h, eq-eqb (length window) 0 e) refl

  pub is_cut : length window ≢ 0 → record { next = next.Cut; used = length window } ≡ head_of window true
  unfolding head_of
  is_cut n = rw (lt-leb 188 (length window) h, ne_eqb (length window) 0 n) refl

module _ (window : List ℕ) (passing last : Bool) (r : Step) where
  pub passes : passing ≡ true → r ≡ sought window last → r ≡ step_of window passing last
  unfolding step_of
  passes t e = rw t e

  pub heads : passing ≡ false → r ≡ head_of window last → r ≡ step_of window passing last
  unfolding step_of
  heads f e = rw f e

pub seek_first : (window : List ℕ) (end : ℕ) → first_from (sync_at window) end 0 ≡ first_from (sync_at window) (end - 0) 0
seek_first window end = let z : end - 0 ≡ end = omega arith in rw z refl
