-- The kinds of an EIT by the ranges of table_id, and the ways out of reading one.
-- Assumes nothing.
use mathlib.Core.Path.{◌≡◌, refl, sym, subst, ◌∙◌}
use Prim.Native.Nat.{ℕ, ◌≤◌, ◌<◌, ◌-◌}
use native.Mathlib.Omega.{arith}
use mathlib.Core.List.{List}
use mathlib.Core.Bool.{Bool, true, false, not, cond}
use lib.ListN.{length, take, drop}
use lib.Dec.{leb, eqb}
use borrow.Author.Tests.{eq-eqb, ne_eqb, le-leb, lt-leb, leb-true, not-true, not-false}
use Rattle.laws.proofs.Tests.{and_true}
use Rattle.laws.specs.Entries.{whole_entries}
use Rattle.section.specs.Header.{byte_at}
use Rattle.eit_section.specs.declared.Kind.{Kind}
use Rattle.eit_section.specs.declared.Kind.TheVariants.{PresentFollowingActual, PresentFollowingOther, ScheduleActual, ScheduleOther}
use Rattle.std.specs.Prelude.{Option, Some, None, Result, Ok, Err}
use Rattle.answers.specs.declared.Refusal.{Refusal}
use Rattle.answers.specs.declared.Refusal.TheVariants as refusal
use Rattle.eit_section.specs.declared.Eit.{Eit}
use Rattle.eit_section.specs.Eit.{within, kind_of, fields_of, layout_good, eit_as, eit_by, eit_of}

module _ (t : ℕ) where
  pub following_actual : t ≡ 0x4E → kind_of t ≡ Some PresentFollowingActual
  following_actual e = simp (eq-eqb t 0x4E e)

  pub following_other : t ≡ 0x4F → kind_of t ≡ Some PresentFollowingOther
  following_other e = simp (ne_eqb t 0x4E (omega arith), eq-eqb t 0x4F e)

  pub schedule_actual : 0x50 ≤ t → t ≤ 0x5F → kind_of t ≡ Some ScheduleActual
  schedule_actual a b = simp (ne_eqb t 0x4E (omega arith), ne_eqb t 0x4F (omega arith), le-leb 0x50 t a, le-leb t 0x5F b)

  pub schedule_other : 0x60 ≤ t → t ≤ 0x6F → kind_of t ≡ Some ScheduleOther
  schedule_other a b =
      let c : 0x50 ≤ t = omega arith in
      simp (ne_eqb t 0x4E (omega arith), ne_eqb t 0x4F (omega arith), le-leb 0x50 t c, lt-leb t 0x5F (omega arith), le-leb 0x60 t a, le-leb t 0x6F b)

  pub none_below : t < 0x4E → kind_of t ≡ None
  none_below a = simp (ne_eqb t 0x4E (omega arith), ne_eqb t 0x4F (omega arith), lt-leb 0x50 t (omega arith), lt-leb 0x60 t (omega arith))

  pub none_above : 0x6F < t → kind_of t ≡ None
  none_above a =
      let c : 0x50 ≤ t = omega arith in
      let d : 0x60 ≤ t = omega arith in
      simp (ne_eqb t 0x4E (omega arith), ne_eqb t 0x4F (omega arith), le-leb 0x50 t c, lt-leb t 0x5F (omega arith), le-leb 0x60 t d, lt-leb t 0x6F a)

-- a schedule's table_id is in its kind's range
module _ (a b c d : Bool) where
  abbrev picked : Option Kind
  picked =
      cond a (Some PresentFollowingActual)
      (cond b (Some PresentFollowingOther) (cond c (Some ScheduleActual) (cond d (Some ScheduleOther) None)))

picked_actual : (a b c d : Bool) → picked a b c d ≡ Some ScheduleActual → c ≡ true
picked_actual true b c d e = cc
picked_actual false true c d e = cc
picked_actual false false true d e = refl
picked_actual false false false true e = cc
picked_actual false false false false e = cc

picked_other : (a b c d : Bool) → picked a b c d ≡ Some ScheduleOther → d ≡ true
picked_other true b c d e = cc
picked_other false true c d e = cc
picked_other false false true d e = cc
picked_other false false false true e = refl
picked_other false false false false e = cc

in_range : (low high t : ℕ) → within low high t ≡ true → (low ≤ t) × (t ≤ high)
in_range low high t e = let h = and_true (leb low t) (leb t high) e in (leb-true low t h.0, leb-true t high h.1)

pub schedule_actual_range : (t : ℕ) → kind_of t ≡ Some ScheduleActual → (0x50 ≤ t) × (t ≤ 0x5F)
schedule_actual_range t e = in_range 0x50 0x5F t (picked_actual (eqb t 0x4E) (eqb t 0x4F) (within 0x50 0x5F t) (within 0x60 0x6F t) e)

pub schedule_other_range : (t : ℕ) → kind_of t ≡ Some ScheduleOther → (0x60 ≤ t) × (t ≤ 0x6F)
schedule_other_range t e = in_range 0x60 0x6F t (picked_other (eqb t 0x4E) (eqb t 0x4F) (within 0x50 0x5F t) (within 0x60 0x6F t) e)

-- under 18 bytes there is no room for the fields
pub layout_short : (s : List ℕ) → length s < 18 → false ≡ layout_good s
layout_short s h = rw (lt-leb 18 (length s) h)

-- else the events decide, which the code has as the part from 14 to 4 before the end
pub layout_events : (s : List ℕ) (w : Bool) → 18 ≤ length s → w ≡ whole_entries 12 (take (length s - 4 - 14) (drop 14 s)) → w ≡ layout_good s
layout_events s w h e = let l : length s - 4 - 14 ≡ length s - 18 = omega arith in rw (le-leb 18 (length s) h, ← l) e

pub layout_long : (s : List ℕ) (w : Bool) → w ≡ layout_good s → not w ≡ false → 18 ≤ length s
layout_long s w e h = leb-true 18 (length s) (and_true (leb 18 (length s)) _ (sym e ∙ not-false w h)).0

-- the ways out of reading a section of a kind: w whether the layout is good
module _ (s : List ℕ) (k : Kind) (w : Bool) (ew : w ≡ layout_good s) where
  pub read_broken : not w ≡ true → Err refusal.Broken ≡ eit_as s k
  unfolding eit_as
  read_broken v = rw (← ew, not-true w v)

  pub read_good : (e : Eit) → not w ≡ false → e ≡ fields_of s k → Ok e ≡ eit_as s k
  unfolding eit_as
  read_good e v ee = rw (← ew, not-false w v, ee)

-- of reading any section: t its table_id, m what that says
module _ (s : List ℕ) (t : ℕ) (m : Option Kind) (et : t ≡ byte_at s 0) (em : m ≡ kind_of t) where
  kind_here : kind_of (byte_at s 0) ≡ m
  kind_here = rw (em, et)

  pub read_none : m ≡ None → Err refusal.NotEit ≡ eit_of s
  unfolding eit_of
  read_none h = rw (kind_here, h)

  pub read_some : (k : Kind) (r : Result Eit Refusal) → m ≡ Some k → r ≡ eit_as s k → r ≡ eit_of s
  unfolding eit_of
  read_some k r h e = rw (kind_here, h) e

-- 18 by table_id alone, 19 where the table_id is an EIT's and the layout is broken, and no refusal else
pub refused_18 : (s : List ℕ) → kind_of (byte_at s 0) ≡ None → eit_of s ≡ Err refusal.NotEit
unfolding eit_of
refused_18 s h = rw h

pub refused_19 : (s : List ℕ) (k : Kind) → kind_of (byte_at s 0) ≡ Some k → layout_good s ≡ false → eit_of s ≡ Err refusal.Broken
unfolding eit_of eit_as
refused_19 s k h l = rw (h, l)

-- what holds of 18 and 19 holds of the refusal told
module _ (P : Refusal → Type 0) (not_eit : P refusal.NotEit) (broken : P refusal.Broken) (s : List ℕ) where
  layout_cases : (k : Kind) (b : Bool) (r : Refusal) → cond b (Ok (fields_of s k)) (Err refusal.Broken) ≡ Err r → P r
  layout_cases k true r q = let z : ◌≡◌ {A = ℕ} 0 1 = cc in absurd (omega arith)
  layout_cases k false r q = let z : refusal.Broken ≡ r = cc in subst P z broken

  kind_cases : (m : Option Kind) (r : Refusal) → eit_by s m ≡ Err r → P r
  unfolding eit_as
  kind_cases None r q = let z : refusal.NotEit ≡ r = cc in subst P z not_eit
  kind_cases (Some k) r q = layout_cases k (layout_good s) r q

  pub eit_refused_by : (r : Refusal) → eit_of s ≡ Err r → P r
  unfolding eit_of
  eit_refused_by r q = kind_cases (kind_of (byte_at s 0)) r q

pub read_well : (s : List ℕ) (k : Kind) → kind_of (byte_at s 0) ≡ Some k → layout_good s ≡ true → eit_of s ≡ Ok (fields_of s k)
unfolding eit_of eit_as
read_well s k h l = rw (h, l)
