-- The two change rules (docs/RULES.md, "Gate"). By rule 1, the original's, every sound section with a checked CRC and no header has the change number 0,
-- since the CRC over a message with its own CRC is 0: a second one of its key is never found changed. By rule 2 it is the CRC that the section carries.
-- Assumes nothing.
use Prim.Native.Nat.{ℕ, ◌+◌, ◌-◌, ◌≤◌}
use mathlib.Core.Path.{◌≡◌, refl, sym, ap, ◌∙◌}
use mathlib.Core.List.{List}
use mathlib.Core.Logic.{◌⊎◌, ⊎_elim}
use mathlib.Core.Bool.{Bool, true, false, cond}
use lib.ListN.{length}
use lib.Dec.{eqb, ltb}
use native.Mathlib.Omega.{arith}
use borrow.Author.Tests.{eqb-true, ltb-false}
use Rattle.crc.specs.Crc.{crc_of}
use Rattle.crc.proofs.Laws.{sealed}
use Rattle.section.specs.Header.{stored_crc, worked_crc}
use Rattle.section.specs.Judged.{form_of, checked_change, change_of, parts_of, judged_crc, judged_by, judged_of}
use Rattle.section.specs.Facts.{Bytes}
use Rattle.section.specs.declared.header.Form.{Form}
use Rattle.section.specs.declared.header.Form.TheVariants.{Headed, Checked, Plain}
use Rattle.section.specs.declared.header.ChangeRule.{ChangeRule}
use Rattle.section.specs.declared.header.ChangeRule.TheVariants.{AllBytes, StoredCrc}
use Rattle.section.specs.declared.header.Parts.{Parts}
use Rattle.section.specs.declared.header.Judged.{Judged}
use Rattle.section.specs.declared.header.Judged.TheVariants.{Short, Mismatch, Sound}
use Rattle.section.proofs.Facts.{judged_parts}

module _ (s : List ℕ) (rule : ChangeRule) (p : Parts) (e : judged_of rule s ≡ Sound p) where
  -- a sound section's change number is that of its form
  change_of_lem : (f : Form) → form_of s ≡ f → p.change ≡ change_of rule s f
  unfolding parts_of
  change_of_lem f h = ap (λ (x : Parts). x.change) (judged_parts rule s p e) ∙ go (form_of s) ∙ ap (change_of rule s) h
    where
      go : (g : Form) → (parts_of rule s g).change ≡ change_of rule s g
      go Headed = refl
      go Checked = refl
      go Plain = refl

  -- by both rules, without a CRC: the CRC over all bytes
  pub plain : form_of s ≡ Plain → p.change ≡ crc_of s
  unfolding change_of
  plain h = change_of_lem Plain h

  -- a sound section with a CRC and no header holds its CRC, and it is the one worked out
  pub sound_crc : form_of s ≡ Checked → (4 ≤ length s) × (stored_crc s ≡ worked_crc s)
  unfolding judged_of judged_by judged_crc
  sound_crc h = go (ltb (length s) 3) (ltb (length s) 4) (eqb (stored_crc s) (worked_crc s)) refl refl (rw h at e)
    where
      go : (a b c : Bool) → b ≡ ltb (length s) 4 → c ≡ eqb (stored_crc s) (worked_crc s)
          → cond a Short (cond b Short (cond c (Sound (parts_of rule s Checked)) (Mismatch (stored_crc s) (worked_crc s)))) ≡ Sound p
          → (4 ≤ length s) × (stored_crc s ≡ worked_crc s)
      go true b c m n q = let z : ◌≡◌ {A = ℕ} 0 1 = cc in absurd (omega arith)
      go false true c m n q = let z : ◌≡◌ {A = ℕ} 0 1 = cc in absurd (omega arith)
      go false false true m n q = (ltb-false _ _ (sym m), eqb-true _ _ (sym n))
      go false false false m n q = let z : ◌≡◌ {A = ℕ} 0 1 = cc in absurd (omega arith)

-- rule 1: the number of every sound section with a CRC and no header is 0
pub stuck : (s : List ℕ) → Bytes s → (p : Parts) → judged_of AllBytes s ≡ Sound p → form_of s ≡ Checked → p.change ≡ 0
unfolding change_of checked_change stored_crc worked_crc
stuck s b p e h =
    let c = sound_crc s AllBytes p e h in
    let n : length s ≡ length s - 4 + 4 = omega (arith, c.0) in
    change_of_lem s AllBytes p e Checked h ∙ (sealed s (length s - 4) n b).0 (sym c.1)

-- rule 2: the number of every sound section with a checked CRC is the CRC that it carries
pub stored : (s : List ℕ) (p : Parts) → judged_of StoredCrc s ≡ Sound p → (form_of s ≡ Headed) ⊎ (form_of s ≡ Checked) → p.change ≡ stored_crc s
unfolding change_of checked_change
stored s p e =
    ⊎_elim (λ (h : form_of s ≡ Headed). change_of_lem s StoredCrc p e Headed h) (λ (h : form_of s ≡ Checked). change_of_lem s StoredCrc p e Checked h)

-- the rules agree on every section with a header and on every one without a CRC
pub rules_agree : (s : List ℕ) → (form_of s ≡ Headed) ⊎ (form_of s ≡ Plain) → judged_of AllBytes s ≡ judged_of StoredCrc s
unfolding judged_of judged_by judged_crc parts_of change_of
rules_agree s = ⊎_elim (λ (h : form_of s ≡ Headed). rw h) (λ (h : form_of s ≡ Plain). rw h)

-- what was judged, but for the change number
abbrev pub but_change : Judged → Judged
but_change Short = Short
but_change (Mismatch stored worked) = Mismatch stored worked
but_change (Sound p) = Sound (record { table_id = p.table_id; extension = p.extension; number = p.number; version = p.version; change = 0 })

-- and on every section they differ at most in it: too short, a mismatch with the same numbers, or sound by both alike
pub rules_agree_but_change : (s : List ℕ) → but_change (judged_of AllBytes s) ≡ but_change (judged_of StoredCrc s)
unfolding judged_of judged_by judged_crc parts_of change_of
rules_agree_but_change s = go (ltb (length s) 3) (form_of s)
  where
    crc : (a b : Bool) (f : Form)
        → but_change (cond a Short (cond b (Sound (parts_of AllBytes s f)) (Mismatch (stored_crc s) (worked_crc s))))
        ≡ but_change (cond a Short (cond b (Sound (parts_of StoredCrc s f)) (Mismatch (stored_crc s) (worked_crc s))))
    crc true b f = refl
    crc false true Headed = refl
    crc false true Checked = refl
    crc false true Plain = refl
    crc false false f = refl

    go : (a : Bool) (f : Form) → but_change (cond a Short (judged_by AllBytes s f)) ≡ but_change (cond a Short (judged_by StoredCrc s f))
    go true f = refl
    go false Headed = crc (ltb (length s) 4) (eqb (stored_crc s) (worked_crc s)) Headed
    go false Checked = crc (ltb (length s) 4) (eqb (stored_crc s) (worked_crc s)) Checked
    go false Plain = refl
