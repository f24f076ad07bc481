-- One law for each way out.
-- Assumes nothing.
use Prim.Native.Nat.{ℕ, ◌<◌, ◌≤◌}
use mathlib.Core.Path.{◌≡◌, refl, sym, ap, ◌∙◌}
use mathlib.Core.List.{List, []}
use mathlib.Core.Bool.{Bool, true, false, cond, ◌&&◌, ◌||◌, true≢false}
use lib.ListN.{length}
use lib.Dec.{leb, ltb}
use native.Mathlib.Omega.{arith}
use borrow.Author.Tests.{lt-ltb, le-ltb, le-leb, lt-leb, ltb-true, ltb-false, leb-true, leb-false}
use Rattle.laws.proofs.Tests.{or_false, and_none}
use Rattle.crc.specs.Crc.{crc_of}
use Rattle.section.specs.Header.{table_id_of, long_form, extension_of, version_of, section_number, stored_crc, header_of}
use Rattle.section.specs.Judged.{form_of, checked_change, change_of, parts_of, bare_parts, headed_parts}
use Rattle.section.specs.declared.header.ChangeRule.{ChangeRule}
use Rattle.section.specs.declared.header.Form.TheVariants as form
use Rattle.section.specs.declared.header.Header.{Header}
use Rattle.section.specs.declared.header.Parts.{Parts}
use Rattle.std.specs.Prelude.{Option, Some, None}
use Rattle.section.proofs.Laws.{form_headed, form_long, form_tot, form_plain}
use Rattle.offers.specs.Offers.{is_short}
use Rattle.offers.specs.declared.Failure.{Failure}
use Rattle.gate_state.specs.declared.Answer.{Answer}
use Rattle.gate_state.specs.declared.Answer.TheVariants as answer
use Rattle.answers.specs.declared.Refusal.{Refusal}
use Rattle.rules_logs.specs.Records.{Bytes, seen_record, failed_record, set_record, bare_set_record}
use Rattle.log_makers.specs.Makers.{has_parts, checked_in, parts_in, seen_or, offer_record, offer_noted, noted_of, is_source, set_record_of, set_entry, bare_record_of, bare_set_entry}
use Rattle.log_entries.specs.Entries.{entry_with, failed_kind}
use Rattle.log_entries.specs.declared.Entry.{Entry}
use Rattle.std.specs.Prelude.{Option, Some, None, Ok, Err}
use Rattle.log_makers.specs.declared.NoteError.TheVariants.{TooLong}

-- ---- what was found

module _ (kind input pid : ℕ) (r : Entry) where
  pub found_parts_lem : (f : Option Parts) (p : Parts) → f ≡ Some p → r ≡ entry_with (seen_record kind input pid p) → r ≡ entry_with (seen_or kind input pid f)
  found_parts_lem f p e j = rw e j

  pub found_none : (f : Option Parts) → f ≡ None → r ≡ entry_with [] → r ≡ entry_with (seen_or kind input pid f)
  found_none f e j = rw e j

-- ---- parts

module _ (s : List ℕ) where
  pub headed_read : (x v k : ℕ) → x ≡ extension_of s → v ≡ version_of s → k ≡ stored_crc s
      → ◌≡◌ {A = Parts} (record { table_id = table_id_of s; extension = x; number = section_number s; version = v; change = k }) (headed_parts s (stored_crc s))
  headed_read x v k e h j = rw (e, h, j)

module _ (rule : ChangeRule) (s : List ℕ) where
  pub checked_none : length s < 4 → None ≡ checked_in rule s
  unfolding checked_in
  checked_none h = rw (lt-ltb (length s) 4 h)

  pub checked_some : (k : ℕ) (p : Parts) → 4 ≤ length s → k ≡ checked_change rule s → p ≡ bare_parts (table_id_of s) k → Some p ≡ checked_in rule s
  unfolding checked_in
  checked_some k p h e j = rw (le-ltb (length s) 4 h, j, e)

  pub parts_none : length s < 3 → None ≡ parts_in rule s
  unfolding parts_in has_parts
  parts_none h = rw (lt-ltb (length s) 3 h)

  module _ (l : Bool) (n : 3 ≤ length s) (e : l ≡ long_form s) where
    pub parts_headed : (p : Parts) → l ≡ true → 12 ≤ length s → p ≡ headed_parts s (stored_crc s) → Some p ≡ parts_in rule s
    unfolding parts_in has_parts parts_of change_of
    parts_headed p h m j =
        let four : 4 ≤ length s = omega (arith, m) in
        rw (← form_headed s l e h m, le-ltb (length s) 3 n, le-leb 4 (length s) four, j)

    checked_form : (r : Option Parts) → form.Checked ≡ form_of s → r ≡ checked_in rule s → r ≡ parts_in rule s
    unfolding parts_in has_parts parts_of change_of checked_in
    checked_form r f j = j ∙ rw (← f, le-ltb (length s) 3 n) (go (ltb (length s) 4) (leb 4 (length s)) refl refl)
      where
        go : (a b : Bool) → a ≡ ltb (length s) 4 → b ≡ leb 4 (length s)
            → cond a None (Some (bare_parts (table_id_of s) (checked_change rule s))) ≡ cond b (Some (bare_parts (table_id_of s) (checked_change rule s))) None
        go true true p q = absurd (omega (arith, ltb-true (length s) 4 (sym p), leb-true 4 (length s) (sym q)))
        go true false p q = refl
        go false true p q = refl
        go false false p q = absurd (omega (arith, ltb-false (length s) 4 (sym p), leb-false 4 (length s) (sym q)))

    pub parts_long : (r : Option Parts) → l ≡ true → length s < 12 → r ≡ checked_in rule s → r ≡ parts_in rule s
    parts_long r h m j = checked_form r (form_long s l e h m) j

    pub parts_tot : (r : Option Parts) → l ≡ false → table_id_of s ≡ 0x73 → r ≡ checked_in rule s → r ≡ parts_in rule s
    parts_tot r h m j = checked_form r (form_tot s l e h m) j

    pub parts_plain : (k : ℕ) (p : Parts) → l ≡ false → (table_id_of s ≡ 0x73 → ⊥) → k ≡ crc_of s → p ≡ bare_parts (table_id_of s) k → Some p ≡ parts_in rule s
    unfolding parts_in has_parts parts_of change_of
    parts_plain k p h m i j = rw (← form_plain s l e h m, le-ltb (length s) 3 n, j, i)

-- ---- of an offer

module _ (a : Answer) (rule : ChangeRule) (input pid : ℕ) (s : List ℕ) (r : Entry) where
  module _ (o : (ltb input 16 && ltb pid 8192) ≡ true) where
    pub noted_emitted : (f : Option Parts) → a ≡ answer.Emitted → f ≡ parts_in rule s → r ≡ entry_with (seen_or 1 input pid f) → r ≡ offer_noted a rule input pid s
    unfolding offer_noted offer_record
    noted_emitted f h e j = rw (o, h, ← e) j

    pub noted_suppressed : (f : Option Parts) → a ≡ answer.Suppressed → f ≡ parts_in rule s → r ≡ entry_with (seen_or 2 input pid f) → r ≡ offer_noted a rule input pid s
    unfolding offer_noted offer_record
    noted_suppressed f h e j = rw (o, h, ← e) j

    pub noted_failed : (f : Failure) (b : Bool) → a ≡ answer.Failed f → b ≡ is_short f → r ≡ entry_with (failed_record (failed_kind b) input pid (length s)) → r ≡ offer_noted a rule input pid s
    unfolding offer_noted offer_record
    noted_failed f b h e j = rw (o, h, ← e) j

    pub noted_refused : (x : Refusal) → a ≡ answer.Refused x → r ≡ entry_with [] → r ≡ offer_noted a rule input pid s
    unfolding offer_noted offer_record
    noted_refused x h j = rw (o, h) j

  pub noted_nowhere : (ltb input 16 && ltb pid 8192) ≡ false → r ≡ entry_with [] → r ≡ offer_noted a rule input pid s
  unfolding offer_noted
  noted_nowhere o j = rw o j

  pub offer_done : length s ≤ 4098 → r ≡ offer_noted a rule input pid s → Ok r ≡ noted_of a rule input pid s
  unfolding noted_of
  offer_done h j = rw (le-ltb 4098 (length s) h, ← j)

pub offer_long : (a : Answer) (rule : ChangeRule) (input pid : ℕ) (s : List ℕ) → 4098 < length s → Err TooLong ≡ noted_of a rule input pid s
unfolding noted_of
offer_long a rule input pid s h = rw (lt-ltb 4098 (length s) h)

-- ---- of a set

module _ (input : ℕ) (s : List ℕ) (o : (leb 16 input || ltb (length s) 12) ≡ false) where
  pub long_enough : 12 ≤ length s
  long_enough = ltb-false (length s) 12 (or_false (leb 16 input) (ltb (length s) 12) o).1

  good_input : ltb input 16 ≡ true
  good_input = lt-ltb input 16 (leb-false 16 input (or_false (leb 16 input) (ltb (length s) 12) o).0)

  module _ (p : Option ℕ) (r : Entry) where
    pub set_no_pid : p ≡ None → r ≡ entry_with [] → r ≡ set_entry input p s
    unfolding set_entry
    set_no_pid n j = rw n j

    pub set_pid : (v : ℕ) (h : Header) (b : Bytes) → p ≡ Some v → v < 8192 → h ≡ header_of s → b ≡ set_record input v h → r ≡ entry_with b → r ≡ set_entry input p s
    unfolding set_entry
    set_pid v h b n y e k j = rw (n, good_input, le-leb 12 (length s) long_enough, lt-ltb v 8192 y, ← e, ← k) j

    pub set_bad_pid : (v : ℕ) → p ≡ Some v → 8192 ≤ v → r ≡ entry_with [] → r ≡ set_entry input p s
    unfolding set_entry
    set_bad_pid v n y j = rw (n, good_input, le-ltb v 8192 y) j

pub set_none : (input : ℕ) (p : Option ℕ) (s : List ℕ) (r : Entry) → (leb 16 input || ltb (length s) 12) ≡ true → r ≡ entry_with [] → r ≡ set_entry input p s
unfolding set_entry
set_none input p s r o j = j ∙ ap entry_with (go p (leb 16 input) (ltb (length s) 12) refl refl o)
  where
    go : (p : Option ℕ) (a b : Bool) → a ≡ leb 16 input → b ≡ ltb (length s) 12 → (a || b) ≡ true → [] ≡ cond (is_source input p && leb 12 (length s)) (set_record_of input p s) []
    go None a b x y z = refl
    go (Some v) true b x y z = rw (le-ltb input 16 (leb-true _ _ (sym x)))
    go (Some v) false true x y z = rw (lt-leb 12 (length s) (ltb-true _ _ (sym y)), and_none (is_source input (Some v)))
    go (Some v) false false x y z = absurd (true≢false (sym z))

-- ---- by the older definition

module _ (input : ℕ) (s : List ℕ) (o : (ltb (length s) 12 || leb 16 input) ≡ false) where
  pub bare_long_enough : 12 ≤ length s
  bare_long_enough = ltb-false (length s) 12 (or_false (ltb (length s) 12) (leb 16 input) o).0

  pub bare_made : (h : Header) (b : Bytes) (r : Entry) → h ≡ header_of s → b ≡ bare_set_record input h → r ≡ entry_with b → r ≡ bare_set_entry input s
  unfolding bare_set_entry
  bare_made h b r e k j =
      let good : ltb input 16 ≡ true = lt-ltb input 16 (leb-false 16 input (or_false (ltb (length s) 12) (leb 16 input) o).1) in
      rw (good, le-leb 12 (length s) bare_long_enough, ← e, ← k) j

pub bare_none : (input : ℕ) (s : List ℕ) (r : Entry) → (ltb (length s) 12 || leb 16 input) ≡ true → r ≡ entry_with [] → r ≡ bare_set_entry input s
unfolding bare_set_entry
bare_none input s r o j = j ∙ ap entry_with (go (ltb (length s) 12) (leb 16 input) refl refl o)
  where
    go : (a b : Bool) → a ≡ ltb (length s) 12 → b ≡ leb 16 input → (a || b) ≡ true → [] ≡ cond (ltb input 16 && leb 12 (length s)) (bare_record_of input s) []
    go true b x y z = rw (lt-leb 12 (length s) (ltb-true _ _ (sym x)), and_none (ltb input 16))
    go false true x y z = rw (le-ltb input 16 (leb-true _ _ (sym y)))
    go false false x y z = absurd (true≢false (sym z))
