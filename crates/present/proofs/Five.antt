-- Answer 5 of an EIT collector comes with present/following sets alone: of the rules.
-- Assumes nothing.
use borrow.Author.Tests.{eqb-true}
use mathlib.Core.Path.{◌≡◌, refl, sym, ap, ◌∙◌, subst}
use mathlib.Core.Logic.{◌⊎◌, inl, inr}
use mathlib.Core.Bool.{Bool, true, false, cond}
use mathlib.Core.Option.{Option, none, some, some-injective}
use Rattle.answers.specs.declared.Refusal.{Refusal}
use Prim.Native.Nat.{ℕ, zero, suc}
use native.Mathlib.Omega.{arith}
use lib.Dec.{leb, eqb}
use lib.ListN.{length}
use Rattle.laws.proofs.Tests.{none≢some}
use Rattle.rules_shared.specs.Row.{put}
use Rattle.rules_shared.specs.Cells.{Settings}
use Rattle.rules_eit.specs.Keys.{Kind, present_actual, present_other, schedule_actual, schedule_other, between, kind_of, first_of, SetKey, bad_filter}
use Rattle.rules_eit.specs.Schedules.{copy_of, whole}
use Rattle.rules_eit.specs.Rules.{Section, schedule_of, key_of, part_of, Call, clear, drop, refuse, offer, SetRow, Eit, Whole, handout, Step, met_row, set_aside, finish, push, admit, offered, dropping, step, tells}
use Rattle.rules_eit.proofs.Judged.{Verdict, shown, incomplete, presents, outside, enters, schedules, verdict}

-- the table_id of a present/following set, EN 300 468, table 2
abbrev pub OfPresentFollowing : Whole → Type 0
OfPresentFollowing w = (w.key.table_id_of ≡ 0x4E) ⊎ (w.key.table_id_of ≡ 0x4F)

-- a kind without a first table_id has one of the two
two_tables : (t : ℕ) (kind : Kind) → kind_of t ≡ some kind → first_of kind ≡ none → (t ≡ 0x4E) ⊎ (t ≡ 0x4F)
unfolding kind_of first_of
two_tables t kind h f = first (eqb t 0x4E) refl h
  where
    of_kind : (k : Kind) → some k ≡ some kind → first_of k ≡ none
    of_kind k e = ap first_of (some-injective k kind e) ∙ f

    last : (a b : Bool) → cond a (some schedule_actual) (cond b (some schedule_other) none) ≡ some kind → ⊥
    last true b e = none≢some (of_kind schedule_actual e) refl
    last false true e = none≢some (of_kind schedule_other e) refl
    last false false e = none≢some refl e

    second : (b : Bool) → eqb t 0x4F ≡ b → cond b (some present_other) (cond (between 0x50 t 0x5F) (some schedule_actual) (cond (between 0x60 t 0x6F) (some schedule_other) none)) ≡ some kind
        → (t ≡ 0x4E) ⊎ (t ≡ 0x4F)
    second true q e = inr (eqb-true t 0x4F q)
    second false q e = absurd (last (between 0x50 t 0x5F) (between 0x60 t 0x6F) e)

    first : (b : Bool) → eqb t 0x4E ≡ b
        → cond b (some present_actual) (cond (eqb t 0x4F) (some present_other) (cond (between 0x50 t 0x5F) (some schedule_actual) (cond (between 0x60 t 0x6F) (some schedule_other) none))) ≡ some kind
        → (t ≡ 0x4E) ⊎ (t ≡ 0x4F)
    first true q e = inl (eqb-true t 0x4E q)
    first false q e = second (eqb t 0x4F) refl e

module _ (x : Section) (kind : Kind) (is_kind : kind_of x.table_id_of ≡ some kind) (w : Whole) where
  judged_five : (limit : ℕ) (e : Eit) (last : ℕ) (r : SetRow) {t : Step} → Verdict limit e (key_of x kind) last r t → t.answer ≡ handout w → OfPresentFollowing w
  unfolding key_of schedule_of whole
  judged_five limit e last r (shown m) h = let z : ◌≡◌ {A = ℕ} 0 1 = cc in absurd (omega arith)
  judged_five limit e last r (incomplete m c) h = let z : ◌≡◌ {A = ℕ} 0 1 = cc in absurd (omega arith)
  judged_five limit e last r (presents m c f) h = let z : whole (key_of x kind) (copy_of r) ≡ w = cc in subst OfPresentFollowing z (two_tables x.table_id_of kind is_kind f)
  judged_five limit e last r (outside first m c f l) h = let z : ◌≡◌ {A = ℕ} 0 1 = cc in absurd (omega arith)
  judged_five limit e last r (enters first m c f l a) h = let z : ◌≡◌ {A = ℕ} 0 1 = cc in absurd (omega arith)
  judged_five limit e last r (schedules first m c f l a) h = let z : ◌≡◌ {A = ℕ} 0 1 = cc in absurd (omega arith)

  pushed_five : (limit : ℕ) (e : Eit) → (push limit e x (key_of x kind)).answer ≡ handout w → OfPresentFollowing w
  unfolding push finish
  pushed_five zero e h = let z : ◌≡◌ {A = ℕ} 0 1 = cc in absurd (omega arith)
  pushed_five (suc n) e h = go (put (part_of x) x.bytes (met_row x (key_of x kind) e)) h
    where
      go : (o : Option SetRow) → (finish (suc n) (set_aside (suc n) (key_of x kind) e) (key_of x kind) x.last_table (met_row x (key_of x kind) e) o).answer ≡ handout w → OfPresentFollowing w
      go none q = let z : ◌≡◌ {A = ℕ} 0 1 = cc in absurd (omega arith)
      go (some r) q = judged_five (suc n) (set_aside (suc n) (key_of x kind) e) x.last_table r (verdict (suc n) (set_aside (suc n) (key_of x kind) e) (key_of x kind) x.last_table r) q

  admitted_five : (limit : ℕ) (e : Eit) (short : Bool) → (admit limit e x (key_of x kind) short).answer ≡ handout w → OfPresentFollowing w
  unfolding admit
  admitted_five limit e false h = let z : ◌≡◌ {A = ℕ} 0 1 = cc in absurd (omega arith)
  admitted_five limit e true h = pushed_five limit e h

-- every call
pub five_of_rules : (o : Settings) (e : Eit) (i : Call) (w : Whole) → tells o e i ≡ handout w → OfPresentFollowing w
unfolding tells step dropping offered
five_of_rules o e clear w h = let z : ◌≡◌ {A = ℕ} 0 1 = cc in absurd (omega arith)
five_of_rules o e (drop f) w h = go (bad_filter f) h
  where
    go : (b : Option Refusal) → (dropping e f b).answer ≡ handout w → OfPresentFollowing w
    go (some r) q = let z : ◌≡◌ {A = ℕ} 0 1 = cc in absurd (omega arith)
    go none q = let z : ◌≡◌ {A = ℕ} 0 1 = cc in absurd (omega arith)
five_of_rules o e (refuse r b) w h = let z : ◌≡◌ {A = ℕ} 0 1 = cc in absurd (omega arith)
five_of_rules o e (offer x) w h = go (kind_of x.table_id_of) refl h
  where
    go : (k : Option Kind) → kind_of x.table_id_of ≡ k → (offered o e x k).answer ≡ handout w → OfPresentFollowing w
    go none p q = let z : ◌≡◌ {A = ℕ} 0 1 = cc in absurd (omega arith)
    go (some kind) p q = admitted_five x kind p w o.limit e (leb (length x.bytes) o.cell_size) q
