-- The record that the maker gives of an answer of the gate.
-- Assumes nothing.
use mathlib.Core.Path.{◌≡◌, refl, sym, ap, ◌∙◌}
use mathlib.Core.Bool.{Bool, true, false, cond}
use mathlib.Core.List.{[]}
use Prim.Native.Nat.{ℕ, ◌≤◌, ◌<◌}
use native.Mathlib.Omega.{arith}
use borrow.Author.Tests.{ltb-false, le-ltb, le-leb}
use lib.Dec.{ltb, leb, eqb}
use lib.ListN.{length}
use Rattle.answers.specs.Answers.{refusal_no}
use Rattle.answers.specs.declared.Refusal.{Refusal}
use Rattle.answers.proofs.Laws.{refused_from_10}
use Rattle.section.specs.Header.{stored_crc, worked_crc}
use Rattle.section.specs.Judged.{rule_of, form_of, parts_of, judged_crc, judged_by, judged_of}
use Rattle.section.proofs.Facts.{judged_parts}
use Rattle.section.specs.declared.header.ChangeRule.{ChangeRule}
use Rattle.section.specs.declared.header.Form.{Form}
use Rattle.section.specs.declared.header.Form.TheVariants.{Headed, Checked, Plain}
use Rattle.section.specs.declared.header.Parts.{Parts}
use Rattle.section.specs.declared.header.Judged.TheVariants.{Short, Mismatch, Sound}
use Rattle.offers.specs.Offers.{is_short}
use Rattle.offers.specs.declared.Failure.{Failure}
use Rattle.offers.specs.declared.Failure.TheVariants as failure
use Rattle.gate_state.specs.State.{Said, plain, short, mismatch, number_of, said_of, answer_of}
use Rattle.gate_state.specs.declared.Answer.{Answer}
use Rattle.gate_state.specs.declared.Answer.TheVariants as answer
use Rattle.rules_logs.specs.Records.{Bytes, seen_record, failed_record}
use Rattle.rules_logs.specs.Sections.{Given}
use Rattle.rules_log_run.specs.Run.{Settings}
use Rattle.log_entries.specs.Entries.{failed_kind}
use Rattle.log_entries.proofs.Entries.{entry_shows}
use Rattle.log_makers.specs.Makers as makers
use Rattle.log_makers.specs.Makers.{room_for, has_parts, parts_in, offer_record, is_origin, noted_of}
use Rattle.std.specs.Prelude.{Some}
use Rattle.ties_log_kept.specs.Kept.{offer_noted}

-- ---- which answer was said

-- the three kinds of what is said
kind : Said → ℕ
kind (plain n) = 0
kind (short n) = 1
kind (mismatch stored worked) = 2

from_10 : (r : Refusal) → 10 ≤ refusal_no r
from_10 r = ltb-false (refusal_no r) 10 (refused_from_10 r)

pub sound_said : (a : Answer) (b : Bool) → said_of a ≡ plain (cond b 1 2) → a ≡ answer_of b
unfolding kind
sound_said answer.Emitted true e = refl
sound_said answer.Emitted false e = let z : ◌≡◌ {A = ℕ} 1 2 = ap number_of e in absurd (omega arith)
sound_said answer.Suppressed true e = let z : ◌≡◌ {A = ℕ} 2 1 = ap number_of e in absurd (omega arith)
sound_said answer.Suppressed false e = refl
sound_said (answer.Failed (failure.TooShort n)) b e = let z : ◌≡◌ {A = ℕ} 1 0 = ap kind e in absurd (omega arith)
sound_said (answer.Failed (failure.Mismatch s w)) b e = let z : ◌≡◌ {A = ℕ} 2 0 = ap kind e in absurd (omega arith)
sound_said (answer.Refused r) true e = let z : refusal_no r ≡ 1 = ap number_of e in let h = from_10 r in absurd (omega arith)
sound_said (answer.Refused r) false e = let z : refusal_no r ≡ 2 = ap number_of e in let h = from_10 r in absurd (omega arith)

pub short_said : (a : Answer) (n : ℕ) → said_of a ≡ short n → a ≡ answer.Failed (failure.TooShort n)
unfolding kind
short_said answer.Emitted n e = let z : ◌≡◌ {A = ℕ} 0 1 = ap kind e in absurd (omega arith)
short_said answer.Suppressed n e = let z : ◌≡◌ {A = ℕ} 0 1 = ap kind e in absurd (omega arith)
short_said (answer.Failed (failure.TooShort m)) n e = let q : m ≡ n = cc in rw q
short_said (answer.Failed (failure.Mismatch s w)) n e = let z : ◌≡◌ {A = ℕ} 2 1 = ap kind e in absurd (omega arith)
short_said (answer.Refused r) n e = let z : ◌≡◌ {A = ℕ} 0 1 = ap kind e in absurd (omega arith)

pub mismatch_said : (a : Answer) (s w : ℕ) → said_of a ≡ mismatch s w → a ≡ answer.Failed (failure.Mismatch s w)
unfolding kind
mismatch_said answer.Emitted s w e = let z : ◌≡◌ {A = ℕ} 0 2 = ap kind e in absurd (omega arith)
mismatch_said answer.Suppressed s w e = let z : ◌≡◌ {A = ℕ} 0 2 = ap kind e in absurd (omega arith)
mismatch_said (answer.Failed (failure.TooShort n)) s w e = let z : ◌≡◌ {A = ℕ} 1 2 = ap kind e in absurd (omega arith)
mismatch_said (answer.Failed (failure.Mismatch t v)) s w e = let p : t ≡ s = cc in let q : v ≡ w = cc in rw (p, q)
mismatch_said (answer.Refused r) s w e = let z : ◌≡◌ {A = ℕ} 0 2 = ap kind e in absurd (omega arith)

-- a refusal, whichever
pub refused_said : (a : Answer) (n : ℕ) → 2 < n → said_of a ≡ plain n → (r : Refusal) × (a ≡ answer.Refused r)
unfolding kind
refused_said answer.Emitted n h e = let z : 1 ≡ n = ap number_of e in absurd (omega arith)
refused_said answer.Suppressed n h e = let z : 2 ≡ n = ap number_of e in absurd (omega arith)
refused_said (answer.Failed (failure.TooShort m)) n h e = let z : ◌≡◌ {A = ℕ} 1 0 = ap kind e in absurd (omega arith)
refused_said (answer.Failed (failure.Mismatch s w)) n h e = let z : ◌≡◌ {A = ℕ} 2 0 = ap kind e in absurd (omega arith)
refused_said (answer.Refused r) n h e = (r, refl)

-- ---- a section that is sound has parts

module _ (rule : ChangeRule) (s : Bytes) (p : Parts) where
  crc_room : (f : Form) (b c : Bool) → ltb (length s) 4 ≡ b → cond b Short (cond c (Sound (parts_of rule s f)) (Mismatch (stored_crc s) (worked_crc s))) ≡ Sound p → leb 4 (length s) ≡ true
  crc_room f true c q e = let z : ◌≡◌ {A = ℕ} 0 1 = cc in absurd (omega arith)
  crc_room f false c q e = le-leb 4 (length s) (ltb-false (length s) 4 q)

  form_room : (f : Form) → judged_by rule s f ≡ Sound p → room_for f (length s) ≡ true
  unfolding judged_by judged_crc
  form_room Headed e = crc_room Headed (ltb (length s) 4) (eqb (stored_crc s) (worked_crc s)) refl e
  form_room Checked e = crc_room Checked (ltb (length s) 4) (eqb (stored_crc s) (worked_crc s)) refl e
  form_room Plain e = refl

  has_parts_lem : judged_of rule s ≡ Sound p → has_parts s ≡ true
  unfolding judged_of has_parts
  has_parts_lem e = go (ltb (length s) 3) e
    where
      go : (b : Bool) → cond b Short (judged_by rule s (form_of s)) ≡ Sound p → cond b false (room_for (form_of s) (length s)) ≡ true
      go true h = let z : ◌≡◌ {A = ℕ} 0 1 = cc in absurd (omega arith)
      go false h = form_room (form_of s) h

  parts_in_lem : judged_of rule s ≡ Sound p → parts_in rule s ≡ Some p
  unfolding parts_in
  parts_in_lem e = rw (has_parts_lem e) (ap Some (sym (judged_parts rule s p e)))

-- ---- what is noted

module _ (o : Settings) (g : Given) (h : length g.section ≤ 4098) where
  abbrev rule : ChangeRule
  rule = rule_of o.rule

  -- a section of a list is short enough for the maker
  noted_is : (a : Answer) → offer_noted o a g ≡ cond (is_origin g.input g.pid) (offer_record a rule g.input g.pid g.section) []
  unfolding offer_noted noted_of makers.offer_noted
  noted_is a = rw (le-ltb 4098 (length g.section) h) (entry_shows (cond (is_origin g.input g.pid) (offer_record a rule g.input g.pid g.section) []))

  pub refused_noted : (r : Refusal) → offer_noted o (answer.Refused r) g ≡ []
  unfolding offer_record
  refused_noted r = noted_is (answer.Refused r) ∙ go (is_origin g.input g.pid)
    where
      go : (b : Bool) → cond {A = Bytes} b [] [] ≡ []
      go true = refl
      go false = refl

  module _ (hp : ltb g.pid 8192 ≡ true) (hi : ltb g.input 16 ≡ true) where
    origin_noted : (a : Answer) → offer_noted o a g ≡ offer_record a rule g.input g.pid g.section
    origin_noted a = noted_is a ∙ rw (hi, hp) refl

    pub failed_noted : (f : Failure) → offer_noted o (answer.Failed f) g ≡ failed_record (failed_kind (is_short f)) g.input g.pid (length g.section)
    unfolding offer_record
    failed_noted f = origin_noted (answer.Failed f)

    pub sound_noted : (p : Parts) → judged_of rule g.section ≡ Sound p → (b : Bool) → offer_noted o (answer_of b) g ≡ seen_record (cond b 1 2) g.input g.pid p
    unfolding offer_record
    sound_noted p e true = origin_noted answer.Emitted ∙ ap (makers.seen_or 1 g.input g.pid) (parts_in_lem rule g.section p e)
    sound_noted p e false = origin_noted answer.Suppressed ∙ ap (makers.seen_or 2 g.input g.pid) (parts_in_lem rule g.section p e)
