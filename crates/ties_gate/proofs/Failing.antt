-- 31 is answered exactly where a section that is judged is too short to hold its CRC, with its length; 3 exactly where it holds one that is not that of its bytes,
-- with both numbers; and a failure touches nothing but three counters. Of every store.
-- Assumes nothing.
use Prim.Native.Nat.{ℕ, ◌<◌}
use mathlib.Core.Path.{◌≡◌, refl, sym, ap, ◌∙◌}
use mathlib.Core.List.{List}
use mathlib.Core.Logic.{◌↔◌}
use mathlib.Core.Bool.{Bool, true, false, cond, not, ◌&&◌, ◌||◌}
use lib.ListN.{length}
use lib.Dec.{ltb, leb, eqb}
use native.Mathlib.Omega.{arith}
use borrow.Author.Tests.{lt-ltb, ltb-true, eqb-false, ne_eqb}
use Rattle.answers.specs.declared.Refusal.TheVariants.{NotWhole, CounterFull, BadPid, BadInput}
use Rattle.counters.specs.Counters.{any_full, failed_of}
use Rattle.section.specs.Header.{table_id_of, long_form, stored_crc, worked_crc}
use Rattle.section.specs.Ids.{origin_of}
use Rattle.section.specs.Judged.{form_of, rule_of, parts_of, judged_crc, judged_by, judged_of}
use Rattle.section.specs.declared.header.ChangeRule.{ChangeRule}
use Rattle.section.specs.declared.header.Form.{Form}
use Rattle.section.specs.declared.header.Form.TheVariants.{Headed, Checked, Plain}
use Rattle.section.specs.declared.header.Judged.{Judged}
use Rattle.section.specs.declared.header.Judged.TheVariants as judged
use Rattle.ring.specs.Store.{seen_of, stamp_of}
use Rattle.offers.specs.Offers.{is_short, arrival_of, read_as, read_of, verdict_of}
use Rattle.offers.specs.declared.Failure.{Failure}
use Rattle.offers.specs.declared.Failure.TheVariants.{TooShort, Mismatch}
use Rattle.offers.specs.declared.Verdict.{Verdict}
use Rattle.offers.specs.declared.Verdict.TheVariants.{Refused, Failed, Arrived}
use Rattle.gate_state.specs.State.{Said, plain, short, mismatch, said_of, answer_of, emits_of, failure_said, seen_by}
use Rattle.gate.specs.Store.{is_whole, Store, store_of, admitted_to, carried, offered}
use Rattle.ties_gate.specs.Failing.{announces, is_too_short, Judges}

-- what the gate makes of a section, by what it announces
module _ (rule : ChangeRule) (s : List ℕ) where
  by_tests : (b e : Bool) → Form → Judged
  by_tests b e Headed = cond b judged.Short (cond e (judged.Sound (parts_of rule s Headed)) (judged.Mismatch (stored_crc s) (worked_crc s)))
  by_tests b e Checked = cond b judged.Short (cond e (judged.Sound (parts_of rule s Checked)) (judged.Mismatch (stored_crc s) (worked_crc s)))
  by_tests b e Plain = judged.Sound (parts_of rule s Plain)

  same_tests : (f : Form) → judged_by rule s f ≡ by_tests (ltb (length s) 4) (eqb (stored_crc s) (worked_crc s)) f
  unfolding judged_by judged_crc by_tests
  same_tests Headed = refl
  same_tests Checked = refl
  same_tests Plain = refl

  judged_by_lem : judged_of rule s
      ≡ cond (is_too_short s) judged.Short (cond (announces s && not (eqb (stored_crc s) (worked_crc s))) (judged.Mismatch (stored_crc s) (worked_crc s)) (judged.Sound (parts_of rule s (form_of s))))
  unfolding judged_of form_of by_tests
  judged_by_lem =
      ap (cond (ltb (length s) 3) judged.Short) (same_tests (form_of s))
      ∙ go (ltb (length s) 3) (long_form s) (leb 12 (length s)) (eqb (table_id_of s) 0x73) (ltb (length s) 4) (eqb (stored_crc s) (worked_crc s))
    where
      go : (a l h t b e : Bool)
          → cond a judged.Short (by_tests b e (cond l (cond h Headed Checked) (cond t Checked Plain)))
          ≡ cond (a || (b && (l || t))) judged.Short (cond ((l || t) && not e) (judged.Mismatch (stored_crc s) (worked_crc s)) (judged.Sound (parts_of rule s (cond l (cond h Headed Checked) (cond t Checked Plain)))))
      go true l h t b e = refl
      go false true true t true e = refl
      go false true true t false true = refl
      go false true true t false false = refl
      go false true false t true e = refl
      go false true false t false true = refl
      go false true false t false false = refl
      go false false h true true e = refl
      go false false h true false true = refl
      go false false h true false false = refl
      go false false h false true e = refl
      go false false h false false e = refl

-- too short, and nothing else, is found too short
module _ (rule : ChangeRule) (s : List ℕ) where
  short_judged : is_too_short s ≡ true → judged_of rule s ≡ judged.Short
  short_judged h = judged_by_lem rule s ∙ simp h

  judged_short : judged_of rule s ≡ judged.Short → is_too_short s ≡ true
  judged_short e = go (is_too_short s) (announces s && not (eqb (stored_crc s) (worked_crc s))) refl (sym (judged_by_lem rule s) ∙ e)
    where
      go : (t m : Bool) → is_too_short s ≡ t → cond t judged.Short (cond m (judged.Mismatch (stored_crc s) (worked_crc s)) (judged.Sound (parts_of rule s (form_of s)))) ≡ judged.Short → is_too_short s ≡ true
      go true m q h = q
      go false true q h = let z : ◌≡◌ {A = ℕ} 0 1 = cc in absurd (omega arith)
      go false false q h = let z : ◌≡◌ {A = ℕ} 0 1 = cc in absurd (omega arith)

-- what makes a mismatch of a section: it ends in a CRC and is long enough for it, and that is not the CRC of its other bytes; both are told
pub record Mismatches (s : List ℕ) (stored worked : ℕ) : Type 0 where
  pub long : is_too_short s ≡ false
  pub ends : announces s ≡ true
  pub stored_is : stored ≡ stored_crc s
  pub worked_is : worked ≡ worked_crc s
  pub differ : stored ≡ worked → ⊥

module _ (rule : ChangeRule) (s : List ℕ) (stored worked : ℕ) where
  mismatch_judged : Mismatches s stored worked → judged_of rule s ≡ judged.Mismatch stored worked
  mismatch_judged k =
      let d : eqb (stored_crc s) (worked_crc s) ≡ false = ne_eqb (stored_crc s) (worked_crc s) (λ e. k.differ (k.stored_is ∙ e ∙ sym k.worked_is)) in
      judged_by_lem rule s ∙ rw (k.long, k.ends, d, k.stored_is, k.worked_is)

  judged_mismatch : judged_of rule s ≡ judged.Mismatch stored worked → Mismatches s stored worked
  judged_mismatch e = go (is_too_short s) (announces s) (eqb (stored_crc s) (worked_crc s)) refl refl refl (sym (judged_by_lem rule s) ∙ e)
    where
      go : (t a q : Bool) → is_too_short s ≡ t → announces s ≡ a → eqb (stored_crc s) (worked_crc s) ≡ q
          → cond t judged.Short (cond (a && not q) (judged.Mismatch (stored_crc s) (worked_crc s)) (judged.Sound (parts_of rule s (form_of s)))) ≡ judged.Mismatch stored worked
          → Mismatches s stored worked
      go true a q x y z h = let c : ◌≡◌ {A = ℕ} 0 1 = cc in absurd (omega arith)
      go false true true x y z h = let c : ◌≡◌ {A = ℕ} 0 1 = cc in absurd (omega arith)
      go false true false x y z h =
          let f : stored ≡ stored_crc s = cc in
          let g : worked ≡ worked_crc s = cc in
          record { long = x; ends = y; stored_is = f; worked_is = g; differ = λ u. eqb-false (stored_crc s) (worked_crc s) z (sym f ∙ u ∙ g) }
      go false false q x y z h = let c : ◌≡◌ {A = ℕ} 0 1 = cc in absurd (omega arith)

-- the three kinds of answers
kind : Said → ℕ
kind (plain n) = 0
kind (short n) = 1
kind (mismatch stored worked) = 2

module _ (s : Store) (input pid : ℕ) (section : List ℕ) where
  -- a failure is said of a verdict that is one, and of no other
  said_failed : (v : Verdict) (f : Failure) → (carried s section v).answer ≡ failure_said f → v ≡ Failed f
  unfolding carried admitted_to seen_by kind
  said_failed (Refused r) (TooShort n) e = let z : ◌≡◌ {A = ℕ} 0 1 = ap kind e in absurd (omega arith)
  said_failed (Refused r) (Mismatch a b) e = let z : ◌≡◌ {A = ℕ} 0 2 = ap kind e in absurd (omega arith)
  said_failed (Failed (TooShort m)) (TooShort n) e = let q : m ≡ n = cc in rw q
  said_failed (Failed (TooShort m)) (Mismatch a b) e = let z : ◌≡◌ {A = ℕ} 1 2 = ap kind e in absurd (omega arith)
  said_failed (Failed (Mismatch a b)) (TooShort n) e = let z : ◌≡◌ {A = ℕ} 2 1 = ap kind e in absurd (omega arith)
  said_failed (Failed (Mismatch a b)) (Mismatch c d) e = let p : a ≡ c = cc in let q : b ≡ d = cc in rw (p, q)
  said_failed (Arrived a) f e = absurd (none (emits_of s.gate (seen_of s.gate.ring s.keys s.changes a.key (stamp_of a.version a.change))) f e)
    where
      none : (b : Bool) (f : Failure) → said_of (answer_of b) ≡ failure_said f → ⊥
      none true (TooShort n) e = let z : ◌≡◌ {A = ℕ} 0 1 = ap kind e in omega arith
      none true (Mismatch a b) e = let z : ◌≡◌ {A = ℕ} 0 2 = ap kind e in omega arith
      none false (TooShort n) e = let z : ◌≡◌ {A = ℕ} 0 1 = ap kind e in omega arith
      none false (Mismatch a b) e = let z : ◌≡◌ {A = ℕ} 0 2 = ap kind e in omega arith

  rule : ChangeRule
  rule = rule_of s.gate.change_rule

  -- a verdict that is a failure: nothing is refused, and the section says so
  verdict_failed : (f : Failure) → verdict_of (is_whole s) s.counters s.gate.change_rule input pid section ≡ Failed f
      → Judges s input pid × (read_as (origin_of input pid) (length section) (judged_of rule section) ≡ Failed f)
  unfolding verdict_of read_of rule
  verdict_failed f e = go (is_whole s) (any_full s.counters) (ltb pid 8192) (ltb input 16) refl refl refl refl e
    where
      go : (w c p i : Bool) → is_whole s ≡ w → any_full s.counters ≡ c → ltb pid 8192 ≡ p → ltb input 16 ≡ i
          → cond w (cond c (Refused CounterFull) (cond p (cond i (read_as (origin_of input pid) (length section) (judged_of (rule_of s.gate.change_rule) section)) (Refused BadInput)) (Refused BadPid))) (Refused NotWhole) ≡ Failed f
          → Judges s input pid × (read_as (origin_of input pid) (length section) (judged_of (rule_of s.gate.change_rule) section) ≡ Failed f)
      go true true p i x y z u h = let q : ◌≡◌ {A = ℕ} 0 1 = cc in absurd (omega arith)
      go true false true true x y z u h = (record { whole = x; counts = y; known = ltb-true _ _ z; placed = ltb-true _ _ u }, h)
      go true false true false x y z u h = let q : ◌≡◌ {A = ℕ} 0 1 = cc in absurd (omega arith)
      go true false false i x y z u h = let q : ◌≡◌ {A = ℕ} 0 1 = cc in absurd (omega arith)
      go false c p i x y z u h = let q : ◌≡◌ {A = ℕ} 0 1 = cc in absurd (omega arith)

  -- and back
  failed_said : (f : Failure) → Judges s input pid → read_as (origin_of input pid) (length section) (judged_of rule section) ≡ Failed f → (offered s input pid section).answer ≡ failure_said f
  unfolding offered verdict_of read_of carried rule
  failed_said f k e = rw (k.whole, k.counts, lt-ltb pid 8192 k.known, lt-ltb input 16 k.placed, e)

  read_short : (j : Judged) (n : ℕ) → read_as (origin_of input pid) (length section) j ≡ Failed (TooShort n) → (j ≡ judged.Short) × (n ≡ length section)
  read_short judged.Short n e = (refl, cc)
  read_short (judged.Mismatch a b) n e = let q : ◌≡◌ {A = ℕ} 0 1 = cc in absurd (omega arith)
  read_short (judged.Sound p) n e = let q : ◌≡◌ {A = ℕ} 0 1 = cc in absurd (omega arith)

  read_mismatch : (j : Judged) (a b : ℕ) → read_as (origin_of input pid) (length section) j ≡ Failed (Mismatch a b) → j ≡ judged.Mismatch a b
  read_mismatch judged.Short a b e = let q : ◌≡◌ {A = ℕ} 0 1 = cc in absurd (omega arith)
  read_mismatch (judged.Mismatch c d) a b e = let p : c ≡ a = cc in let q : d ≡ b = cc in rw (p, q)
  read_mismatch (judged.Sound p) a b e = let q : ◌≡◌ {A = ℕ} 0 1 = cc in absurd (omega arith)

  -- THE THEOREMS
  pub short_exactly : (n : ℕ) → ((offered s input pid section).answer ≡ short n) ↔ (Judges s input pid × (is_too_short section ≡ true) × (n ≡ length section))
  unfolding offered
  short_exactly n = (
    λ e.
        let v = verdict_failed (TooShort n) (said_failed (verdict_of (is_whole s) s.counters s.gate.change_rule input pid section) (TooShort n) e) in
        let r = read_short (judged_of rule section) n v.1 in
        (v.0, judged_short rule section r.0, r.1),
    λ k. failed_said (TooShort n) k.0 (rw (short_judged rule section k.1, k.2)),
  )

  pub mismatch_exactly : (stored worked : ℕ) → ((offered s input pid section).answer ≡ mismatch stored worked) ↔ (Judges s input pid × Mismatches section stored worked)
  unfolding offered
  mismatch_exactly stored worked = (
    λ e.
        let v = verdict_failed (Mismatch stored worked) (said_failed (verdict_of (is_whole s) s.counters s.gate.change_rule input pid section) (Mismatch stored worked) e) in
        (v.0, judged_mismatch rule section stored worked (read_mismatch (judged_of rule section) stored worked v.1)),
    λ k. failed_said (Mismatch stored worked) k.0 (rw (mismatch_judged rule section stored worked k.1)),
  )

  -- a failure leaves gate, rows and watch, and of the counters all but completed, CRC failures and the one of its kind
  pub failure_touches : (f : Failure) → (offered s input pid section).answer ≡ failure_said f
      → (offered s input pid section).store ≡ store_of s.gate (failed_of s.counters (is_short f)) s.keys s.changes s.words
  unfolding offered carried
  failure_touches f e = rw (said_failed (verdict_of (is_whole s) s.counters s.gate.change_rule input pid section) f e)
