-- What the rules answer: 10 never, 11 only where a count is at its end; and what is so of a section that is answered 1 or 2, and of a PAT among these.
-- Assumes nothing.
use Prim.Native.Nat.{ℕ, ◌+◌, ◌<◌, ◌≤◌}
use mathlib.Core.Path.{◌≡◌, refl, sym, ap, subst, ◌∙◌}
use mathlib.Core.Logic.{◌≢◌, ◌⊎◌, inl, inr}
use mathlib.Core.List.{List}
use mathlib.Core.Bool.{Bool, true, false, cond, ◌&&◌, ◌||◌, true≢false}
use lib.ListN.{length}
use lib.Dec.{ltb, leb, eqb}
use native.Mathlib.Omega.{arith}
use borrow.Author.Tests.{ltb-true, leb-true, le-leb, le-ltb, eqb-true}
use Rattle.laws.specs.Runs.{answers, Never}
use Rattle.laws.proofs.Tests.{and_true}
use Rattle.laws.proofs.Runs.{never_told}
use Rattle.answers.specs.declared.Refusal.TheVariants.{CounterFull, BadPid, BadInput}
use Rattle.counters.specs.Counters.{any_full}
use Rattle.section.specs.Facts.{Bytes}
use Rattle.section.specs.Header.{byte_at, table_id_of, long_form, section_length, stored_crc, worked_crc}
use Rattle.section.specs.Ids.{origin_of}
use Rattle.section.specs.Judged.{form_of, rule_of, headed_parts, change_of, parts_of, judged_crc, judged_by, judged_of}
use Rattle.section.specs.declared.header.ChangeRule.{ChangeRule}
use Rattle.section.specs.declared.header.Form.TheVariants.{Headed}
use Rattle.section.specs.declared.header.Parts.{Parts}
use Rattle.section.specs.declared.header.Judged.{Judged}
use Rattle.section.specs.declared.header.Judged.TheVariants as judged
use Rattle.section.proofs.Facts.{judged_parts}
use Rattle.pat.specs.Pat.{readable}
use Rattle.ring.specs.Rules.{changed}
use Rattle.offers.specs.Offers.{arrival_of, read_as, read_of}
use Rattle.offers.specs.declared.Failure.{Failure}
use Rattle.offers.specs.declared.Failure.TheVariants.{TooShort, Mismatch}
use Rattle.offers.specs.declared.Verdict.{Verdict}
use Rattle.offers.specs.declared.Verdict.TheVariants.{Refused}
use Rattle.gate_state.specs.State.{Said, plain, failure_said, by_tables}
use Rattle.gate_state.specs.declared.Follow.{Follow}
use Rattle.gate.specs.Rules.{Offer, Manner, Held, row_from, admitted, carried_in, told, OfBytes}
use Rattle.gate.specs.View.{manner_of}
use Rattle.pats.specs.Store.{pats_full}
use Rattle.rules_sets.specs.Rules.{opened}
use Rattle.ties_pats.specs.View.{shown}
use Rattle.gate_pats.specs.Store.{Kept, sound_by}
use Rattle.gate_pats.specs.View.{kept_tells, kept_acts}
use Rattle.ties_gate_pats.specs.Rules.{Holding, ToldWith, at_end, behind, told_with, tells_with, acts_with, begun}
use Rattle.ties_gate_pats.specs.View.{pats_of, holding, pats_in}
use Rattle.ties_gate_pats.proofs.Order.{OpenedWith, end_shown, follows_with, same_answers}

-- ---- the gate's rule

-- what an offer comes to
pub data Comes (m : Manner) (h : Held) (o : Offer) : Said → Type 0 where
  full : any_full h.counters ≡ true → Comes m h o (plain 11)
  bad_pid : Comes m h o (plain 12)
  bad_input_lem : Comes m h o (plain 37)
  failed : (f : Failure) → Comes m h o (failure_said f)
  sound : (p : Parts) → any_full h.counters ≡ false → o.pid < 8192 → o.input < 16 → judged_of (rule_of m.rule) o.section ≡ judged.Sound p
      → (emits : Bool) → told m h o ≡ admitted m h (row_from (arrival_of (origin_of o.input o.pid) p)) o.section → Comes m h o (plain (cond emits 1 2))

module _ (m : Manner) (h : Held) (o : Offer) where
  pub comes : Comes m h o (told m h o).answer
  unfolding told read_of carried_in admitted
  comes = go (any_full h.counters) (ltb o.pid 8192) (ltb o.input 16) (judged_of (rule_of m.rule) o.section) refl refl refl refl
    where
      verdict : (f p i : Bool) → Judged → Verdict
      verdict f p i j =
          cond f (Refused CounterFull) (cond p (cond i (read_as (origin_of o.input o.pid) (length o.section) j) (Refused BadInput)) (Refused BadPid))

      go : (f p i : Bool) (j : Judged) → any_full h.counters ≡ f → ltb o.pid 8192 ≡ p → ltb o.input 16 ≡ i → judged_of (rule_of m.rule) o.section ≡ j
          → Comes m h o (carried_in m h o.section (verdict f p i j)).answer
      go true p i j a b c d = full a
      go false false i j a b c d = bad_pid
      go false true false j a b c d = bad_input_lem
      go false true true judged.Short a b c d = failed (TooShort (length o.section))
      go false true true (judged.Mismatch x y) a b c d = failed (Mismatch x y)
      go false true true (judged.Sound q) a b c d =
          sound q a (ltb-true o.pid 8192 b) (ltb-true o.input 16 c) d (changed (row_from (arrival_of (origin_of o.input o.pid) q)) h.rows || m.repeats) (rw (a, b, c, d))

  not_ten : (a : Said) → Comes m h o a → a ≢ plain 10
  not_ten a (full f) e = let z : ◌≡◌ {A = ℕ} 11 10 = cc in omega arith
  not_ten a bad_pid e = let z : ◌≡◌ {A = ℕ} 12 10 = cc in omega arith
  not_ten a bad_input_lem e = let z : ◌≡◌ {A = ℕ} 37 10 = cc in omega arith
  not_ten a (failed (TooShort n)) e = let z : ◌≡◌ {A = ℕ} 0 1 = cc in omega arith
  not_ten a (failed (Mismatch x y)) e = let z : ◌≡◌ {A = ℕ} 0 1 = cc in omega arith
  not_ten a (sound p f i j d true t) e = let z : ◌≡◌ {A = ℕ} 1 10 = cc in omega arith
  not_ten a (sound p f i j d false t) e = let z : ◌≡◌ {A = ℕ} 2 10 = cc in omega arith

  only_full : (a : Said) → Comes m h o a → a ≡ plain 11 → any_full h.counters ≡ true
  only_full a (full f) e = f
  only_full a bad_pid e = let z : ◌≡◌ {A = ℕ} 12 11 = cc in absurd (omega arith)
  only_full a bad_input_lem e = let z : ◌≡◌ {A = ℕ} 37 11 = cc in absurd (omega arith)
  only_full a (failed (TooShort n)) e = let z : ◌≡◌ {A = ℕ} 0 1 = cc in absurd (omega arith)
  only_full a (failed (Mismatch x y)) e = let z : ◌≡◌ {A = ℕ} 0 1 = cc in absurd (omega arith)
  only_full a (sound p f i j d true t) e = let z : ◌≡◌ {A = ℕ} 1 11 = cc in absurd (omega arith)
  only_full a (sound p f i j d false t) e = let z : ◌≡◌ {A = ℕ} 2 11 = cc in absurd (omega arith)

  -- what is so of a section that is answered 1 or 2
  pub record Sounds : Type 0 where
    pub counts : any_full h.counters ≡ false
    pub pid : o.pid < 8192
    pub input : o.input < 16
    pub parts : Parts
    pub sound : judged_of (rule_of m.rule) o.section ≡ judged.Sound parts
    pub told : told m h o ≡ admitted m h (row_from (arrival_of (origin_of o.input o.pid) parts)) o.section

  sounds_by : (a : Said) → Comes m h o a → sound_by a ≡ true → Sounds
  sounds_by a (full f) e = absurd (true≢false (sym e))
  sounds_by a bad_pid e = absurd (true≢false (sym e))
  sounds_by a bad_input_lem e = absurd (true≢false (sym e))
  sounds_by a (failed (TooShort n)) e = absurd (true≢false (sym e))
  sounds_by a (failed (Mismatch x y)) e = absurd (true≢false (sym e))
  sounds_by a (sound p f i j d b t) e = record { counts = f; pid = i; input = j; parts = p; sound = d; told = t }

  pub sounds : sound_by (told m h o).answer ≡ true → Sounds
  sounds = sounds_by (told m h o).answer comes

-- ---- a PAT among them

-- a PAT is a long form of 12 bytes or more, of table_id 0
pub record Titled (s : List ℕ) : Type 0 where
  pub long : long_form s ≡ true
  pub bytes : 12 ≤ length s
  pub table : table_id_of s ≡ 0

pub readable_headed : (s : List ℕ) → readable s ≡ true → Titled s
readable_headed s r =
    let c = and_true (leb 12 (length s)) _ r in
    let d = and_true (eqb (byte_at s 0) 0 && long_form s && eqb (length s) (3 + section_length s)) _ c.1 in
    let f = and_true (eqb (byte_at s 0) 0 && long_form s) (eqb (length s) (3 + section_length s)) d.0 in
    let g = and_true (eqb (byte_at s 0) 0) (long_form s) f.0 in
    record { long = g.1; bytes = leb-true 12 (length s) c.0; table = eqb-true (byte_at s 0) 0 g.0 }

-- where it is sound its CRC is the one of its bytes, and its row has its version
module _ (rule : ChangeRule) (s : List ℕ) (r : readable s ≡ true) (p : Parts) (e : judged_of rule s ≡ judged.Sound p) where
  z : Titled s
  z = readable_headed s r

  form : form_of s ≡ Headed
  unfolding form_of
  form = rw (z.long, le-leb 12 (length s) z.bytes)

  pub sound_crc : worked_crc s ≡ stored_crc s
  unfolding judged_of judged_by judged_crc
  sound_crc =
      let l = z.bytes in
      go (eqb (stored_crc s) (worked_crc s)) refl (sym (rw (le-ltb (length s) 3 (omega arith), form, le-ltb (length s) 4 (omega arith))) ∙ e)
    where
      go : (b : Bool) → eqb (stored_crc s) (worked_crc s) ≡ b → cond b (judged.Sound (parts_of rule s Headed)) (judged.Mismatch (stored_crc s) (worked_crc s)) ≡ judged.Sound p → worked_crc s ≡ stored_crc s
      go true q h = sym (eqb-true (stored_crc s) (worked_crc s) q)
      go false q h = let y : ◌≡◌ {A = ℕ} 0 1 = cc in absurd (omega arith)

  pub sound_parts : p ≡ headed_parts s (stored_crc s)
  unfolding parts_of change_of
  sound_parts = judged_parts rule s p e ∙ ap (parts_of rule s) form

-- ---- the rules of the gate with a record

module _ (f : Follow) (m : Manner) (h : Holding) (o : Offer) where
  -- 10 never
  pub no_ten : tells_with f m h o ≢ plain 10
  unfolding tells_with told_with
  no_ten = go (by_tables f && at_end h.pats)
    where
      go : (b : Bool) → (cond b (record { answer = plain 11; holding = h }) (behind f h o (told m h.held o))).answer ≢ plain 10
      go true e = let y : ◌≡◌ {A = ℕ} 11 10 = cc in omega arith
      go false e = not_ten m h.held o _ (comes m h.held o) e

  -- 11 only at the end of a count
  pub eleven_at_end : tells_with f m h o ≡ plain 11 → (any_full h.held.counters ≡ true) ⊎ ((by_tables f && at_end h.pats) ≡ true)
  unfolding tells_with told_with
  eleven_at_end = go (by_tables f && at_end h.pats) refl
    where
      go : (b : Bool) → (by_tables f && at_end h.pats) ≡ b → (cond b (record { answer = plain 11; holding = h }) (behind f h o (told m h.held o))).answer ≡ plain 11
          → (any_full h.held.counters ≡ true) ⊎ ((by_tables f && at_end h.pats) ≡ true)
      go true q e = inr q
      go false q e = inl (only_full m h.held o _ (comes m h.held o) e)

  -- 1 and 2 are the gate's, where the PAT store can count
  pub sound_with : sound_by (tells_with f m h o) ≡ true → ((by_tables f && at_end h.pats) ≡ false) × (sound_by (told m h.held o).answer ≡ true)
  unfolding tells_with told_with
  sound_with = go (by_tables f && at_end h.pats) refl
    where
      go : (b : Bool) → (by_tables f && at_end h.pats) ≡ b → sound_by (cond b (record { answer = plain 11; holding = h }) (behind f h o (told m h.held o))).answer ≡ true
          → ((by_tables f && at_end h.pats) ≡ false) × (sound_by (told m h.held o).answer ≡ true)
      go true q e = absurd (true≢false (sym e))
      go false q e = (q, e)

-- ---- in every history from an opened gate and an opened record

module _ (s : Kept) (o : Offer) (k : OpenedWith s) (b : Bytes o.section) where
  told_same : kept_tells s o ≡ tells_with s.gate.follow (manner_of s.gate) (holding s) o
  unfolding kept_tells tells_with
  told_same = ap (λ (x : ToldWith). x.answer) (follows_with s o k b).same

  pub kept_sounds : sound_by (kept_tells s o) ≡ true → Sounds (manner_of s.gate) (holding s).held o
  kept_sounds e =
      sounds (manner_of s.gate) (holding s).held o (sound_with s.gate.follow (manner_of s.gate) (holding s) o (sym (ap sound_by told_same) ∙ e)).1

  pub only_11 : kept_tells s o ≡ plain 11 → (any_full s.counters ≡ true) ⊎ ((by_tables s.gate.follow ≡ true) × (pats_full s.watch.words ≡ true))
  only_11 e = go (eleven_at_end s.gate.follow (manner_of s.gate) (holding s) o (sym told_same ∙ e))
    where
      go : (any_full s.counters ≡ true) ⊎ ((by_tables s.gate.follow && at_end (pats_of s)) ≡ true)
          → (any_full s.counters ≡ true) ⊎ ((by_tables s.gate.follow ≡ true) × (pats_full s.watch.words ≡ true))
      go (inl q) = inl q
      go (inr q) =
          let t = and_true (by_tables s.gate.follow) (at_end (pats_of s)) q in
          inr (t.0, sym (end_shown s.watch) ∙ subst (λ (x : Bool). at_end (cond x (pats_in s.watch) begun) ≡ true) t.0 t.1)

pub never_10 : (s : Kept) (os : List Offer) → OpenedWith s → OfBytes os → Never (plain 10) (answers kept_tells kept_acts s os)
never_10 s os k b =
    subst (Never (plain 10)) (sym (same_answers s os k b))
    (never_told (tells_with s.gate.follow (manner_of s.gate)) (acts_with s.gate.follow (manner_of s.gate)) (plain 10) (no_ten s.gate.follow (manner_of s.gate)) os (holding s))
