-- One law for each way out of a function, and what holds of a section that arrives.
-- Assumes nothing.
use Prim.Native.Nat.{ℕ, ◌^◌, ◌<◌}
use mathlib.Core.Path.{◌≡◌, refl, sym, subst, ◌∙◌}
use mathlib.Core.List.{List}
use mathlib.Core.Bool.{Bool, true, false, cond, not}
use lib.ListN.{length}
use lib.Dec.{ltb}
use native.Mathlib.Omega.{arith}
use borrow.Author.Tests.{lt-ltb, le-ltb, not-true, not-false}
use Rattle.answers.specs.declared.Refusal.TheVariants.{NotWhole, CounterFull, BadPid, BadInput}
use Rattle.counters.specs.Counters.{any_full, CanCount}
use Rattle.counters.specs.declared.Counters.{Counters}
use Rattle.section.specs.Facts.{Bytes}
use Rattle.section.specs.Ids.{origin_of, origin_made}
use Rattle.section.specs.Judged.{rule_of, judged_of}
use Rattle.section.specs.declared.ids.Origin.{Origin}
use Rattle.std.specs.Prelude.{Result, Ok, Err}
use Rattle.answers.specs.declared.Refusal.{Refusal}
use Rattle.section.specs.declared.header.ChangeRule.{ChangeRule}
use Rattle.section.specs.declared.header.Parts.{Parts}
use Rattle.section.specs.declared.header.Judged.{Judged}
use Rattle.section.specs.declared.header.Judged.TheVariants.{Short, Mismatch, Sound}
use Rattle.section.proofs.Facts.{judged_table, judged_change, origin_one}
use Rattle.offers.specs.Offers.{arrival_of, read_as, read_of, verdict_of, Taken, Admissible, VerdictOk}
use Rattle.offers.specs.declared.Arrival.{Arrival}
use Rattle.offers.specs.declared.Failure.{Failure}
use Rattle.offers.specs.declared.Failure.TheVariants as failure
use Rattle.offers.specs.declared.Failure.TheVariants.{TooShort}
use Rattle.offers.specs.declared.Verdict.{Verdict}
use Rattle.offers.specs.declared.Verdict.TheVariants.{Refused, Failed, Arrived}

-- ---- 3

module _ (from : Origin) (rule : ℕ) (c : ChangeRule) (section : List ℕ) (v : Judged) (n : c ≡ rule_of rule) (e : v ≡ judged_of c section) where
  pub read_short : v ≡ Short → Failed (TooShort (length section)) ≡ read_as from (length section) (judged_of (rule_of rule) section)
  read_short h = rw (← n, ← e, h)

  pub read_mismatch : (a b : ℕ) → v ≡ Mismatch a b → Failed (failure.Mismatch a b) ≡ read_as from (length section) (judged_of (rule_of rule) section)
  read_mismatch a b h = rw (← n, ← e, h)

  pub read_sound : (p : Parts) (a : Arrival) → v ≡ Sound p → a ≡ arrival_of from p → Arrived a ≡ read_as from (length section) (judged_of (rule_of rule) section)
  read_sound p a h j = rw (← n, ← e, h, j)

-- ---- 12 and 37

module _ (rule input pid : ℕ) (section : List ℕ) (m : Result Origin Refusal) (e : m ≡ origin_made input pid) where
  refused_cases : (a b : Bool) (o : Origin) (v : Verdict) (r : Refusal) → cond a (cond b (Ok o) (Err BadInput)) (Err BadPid) ≡ Err r
      → Refused r ≡ cond a (cond b v (Refused BadInput)) (Refused BadPid)
  refused_cases true true o v r q = let z : ◌≡◌ {A = ℕ} 0 1 = cc in absurd (omega arith)
  refused_cases true false o v r q = cc
  refused_cases false b o v r q = cc

  -- 12 or 37
  pub read_refused : (r : Refusal) → m ≡ Err r → Refused r ≡ read_of rule input pid section
  unfolding read_of
  read_refused r h = refused_cases (ltb pid 8192) (ltb input 16) (origin_of input pid) (read_as (origin_of input pid) (length section) (judged_of (rule_of rule) section)) r (sym e ∙ h)

  pub read_section_lem : (from : Origin) (v : Verdict) → m ≡ Ok from → v ≡ read_as from (length section) (judged_of (rule_of rule) section) → v ≡ read_of rule input pid section
  unfolding read_of
  read_section_lem from v h k = let n = origin_one input pid m e from h in rw (lt-ltb pid 8192 n.1, lt-ltb input 16 n.2, ← n.0) k

-- ---- 10 and 11

module _ (w : Bool) (c : Counters) (rule input pid : ℕ) (section : List ℕ) where
  pub judged_broken : not w ≡ true → Refused NotWhole ≡ verdict_of w c rule input pid section
  unfolding verdict_of
  judged_broken h = rw (not-true w h)

  module _ (h : not w ≡ false) (f : Bool) (d : f ≡ any_full c) where
    pub judged_full : f ≡ true → Refused CounterFull ≡ verdict_of w c rule input pid section
    unfolding verdict_of
    judged_full k = rw (not-false w h, ← d, k)

    pub judged_read : (v : Verdict) → f ≡ false → v ≡ read_of rule input pid section → v ≡ verdict_of w c rule input pid section
    unfolding verdict_of
    judged_read v k j = rw (not-false w h, ← d, k) j

  pub judged_ok : not w ≡ false → CanCount c → (v : Verdict) → Taken section v → VerdictOk w c section v
  judged_ok h n (Refused r) t = tt
  judged_ok h n (Failed f) t = n
  judged_ok h n (Arrived a) t = record { whole = not-false w h; counts = n; table = t }

-- what a caller learns of a verdict
module _ (w : Bool) (c : Counters) (section : List ℕ) (v : Verdict) (o : VerdictOk w c section v) where
  pub counts : (f : Failure) → v ≡ Failed f → CanCount c
  counts f q = subst (VerdictOk w c section) q o

  pub admits : (a : Arrival) → v ≡ Arrived a → Admissible w c section a
  admits a q = subst (VerdictOk w c section) q o

-- ---- what arrives

module _ (section : List ℕ) (rule : ℕ) where
  section_taken : (from : Origin) (v : Judged) → judged_of (rule_of rule) section ≡ v → Taken section (read_as from (length section) v)
  section_taken from Short e = tt
  section_taken from (Mismatch a b) e = tt
  section_taken from (Sound p) e = judged_table (rule_of rule) section p e

  taken : (input pid : ℕ) → Taken section (read_of rule input pid section)
  unfolding read_of
  taken input pid = go (ltb pid 8192) (ltb input 16)
    where
      go : (b c : Bool) → Taken section (cond b (cond c (read_as (origin_of input pid) (length section) (judged_of (rule_of rule) section)) (Refused BadInput)) (Refused BadPid))
      go true true = section_taken (origin_of input pid) (judged_of (rule_of rule) section) refl
      go true false = tt
      go false c = tt

  pub read_taken : (input pid : ℕ) (v : Verdict) → v ≡ read_of rule input pid section → Taken section v
  read_taken input pid v e = subst (Taken section) (sym e) (taken input pid)

  -- of bytes, its change number has 32 bits
  module _ (b : Bytes section) where
    section_small : (from : Origin) (v : Judged) → judged_of (rule_of rule) section ≡ v → (a : Arrival) → read_as from (length section) v ≡ Arrived a → a.change < 2 ^ 32
    section_small from Short e a h = let z : ◌≡◌ {A = ℕ} 0 1 = cc in absurd (omega arith)
    section_small from (Mismatch s w) e a h = let z : ◌≡◌ {A = ℕ} 0 1 = cc in absurd (omega arith)
    section_small from (Sound p) e a h = let q : arrival_of from p ≡ a = cc in subst (λ (x : Arrival). x.change < 2 ^ 32) q (judged_change (rule_of rule) section b p e)

    pub arrived_small : (input pid : ℕ) (a : Arrival) → read_of rule input pid section ≡ Arrived a → a.change < 2 ^ 32
    unfolding read_of
    arrived_small input pid a h = go (ltb pid 8192) (ltb input 16) h
      where
        go : (t u : Bool) → cond t (cond u (read_as (origin_of input pid) (length section) (judged_of (rule_of rule) section)) (Refused BadInput)) (Refused BadPid) ≡ Arrived a → a.change < 2 ^ 32
        go true true k = section_small (origin_of input pid) (judged_of (rule_of rule) section) refl a k
        go true false k = let z : ◌≡◌ {A = ℕ} 0 1 = cc in absurd (omega arith)
        go false u k = let z : ◌≡◌ {A = ℕ} 0 1 = cc in absurd (omega arith)
