-- The rows of an input under offers on another: they stay, or the first of all leaves and is counted. A key says its input.
-- Assumes nothing.
use Prim.Native.Nat.{ℕ, ◌<◌}
use mathlib.Core.Path.{◌≡◌, refl, sym, ap, subst, ◌∙◌}
use mathlib.Core.List.{List, [], ◌∷◌, ◌++◌}
use mathlib.Core.Bool.{Bool, true, false, cond, not, ◌&&◌}
use lib.ListN.{length}
use lib.Dec.{ltb, eqb}
use native.Mathlib.Omega.{arith}
use borrow.Author.Tests.{eqb-true, ne_eqb, ltb-true}
use Rattle.answers.specs.declared.Refusal.TheVariants.{CounterFull, BadPid, BadInput}
use Rattle.section.specs.Facts.{Bytes}
use Rattle.section.specs.Ids.{origin_of}
use Rattle.section.specs.Judged.{form_of, rule_of, parts_of, judged_of}
use Rattle.section.specs.Key.{key_of}
use Rattle.section.specs.declared.header.ChangeRule.{ChangeRule}
use Rattle.section.specs.declared.header.Form.{Form}
use Rattle.section.specs.declared.header.Form.TheVariants.{Headed, Checked, Plain}
use Rattle.section.specs.declared.header.Parts.{Parts}
use Rattle.section.specs.declared.header.Judged.{Judged}
use Rattle.section.specs.declared.header.Judged.TheVariants.{Short, Mismatch, Sound}
use Rattle.section.proofs.Facts.{judged_parts}
use Rattle.offers.specs.Offers.{arrival_of, read_as, read_of}
use Rattle.offers.specs.declared.Arrival.{Arrival}
use Rattle.offers.specs.declared.Verdict.{Verdict}
use Rattle.offers.specs.declared.Verdict.TheVariants.{Refused, Failed, Arrived}
use Rattle.counters.specs.Counters.{any_full, plus_of}
use Rattle.ring.specs.Rules.{Row, holds, updated, later, at_capacity, evicts, offered_to}
use Rattle.gate.specs.Rules.{Offer, Manner, Held, row_from, admitted, carried_in, told, acts}
use Rattle.ties_inputs.specs.Inputs.{input_of, is_on, rows_on, Spared, stay, loses}

-- ---- the key says its input

pub key_input : (i pid t e n : ℕ) → pid < 8192 → t < 256 → e < 65536 → n < 256 → input_of (key_of (origin_of i pid) t e n) ≡ i
unfolding key_of
key_input i pid t e n hp ht he hn = omega arith

-- parts within their fields
record Within (p : Parts) : Type 0 where
  table : p.table_id < 256
  extension : p.extension < 65536
  number : p.number < 256

parts_within : (rule : ChangeRule) (s : List ℕ) → Bytes s → (f : Form) → Within (parts_of rule s f)
unfolding parts_of
parts_within rule s b Headed = record { table = b 0; extension = omega (arith, b 3, b 4); number = b 6 }
parts_within rule s b Checked = record { table = b 0; extension = omega arith; number = omega arith }
parts_within rule s b Plain = record { table = b 0; extension = omega arith; number = omega arith }

module _ (rule input pid : ℕ) (s : List ℕ) (b : Bytes s) where
  judged_input : (j : Judged) → judged_of (rule_of rule) s ≡ j → pid < 8192 → (a : Arrival) → read_as (origin_of input pid) (length s) j ≡ Arrived a → input_of a.key ≡ input
  judged_input Short e h a q = let z : ◌≡◌ {A = ℕ} 0 1 = cc in absurd (omega arith)
  judged_input (Mismatch x y) e h a q = let z : ◌≡◌ {A = ℕ} 0 1 = cc in absurd (omega arith)
  judged_input (Sound p) e h a q =
      let r : arrival_of (origin_of input pid) p ≡ a = cc in
      let w : Within p = subst Within (sym (judged_parts (rule_of rule) s p e)) (parts_within (rule_of rule) s b (form_of s)) in
      subst (λ (x : Arrival). input_of x.key ≡ input) r (key_input input pid p.table_id p.extension p.number h w.table w.extension w.number)

  -- what arrives has a key of its input
  pub arrived_input : (a : Arrival) → read_of rule input pid s ≡ Arrived a → input_of a.key ≡ input
  unfolding read_of
  arrived_input a h = go (ltb pid 8192) (ltb input 16) refl h
    where
      go : (t u : Bool) → ltb pid 8192 ≡ t → cond t (cond u (read_as (origin_of input pid) (length s) (judged_of (rule_of rule) s)) (Refused BadInput)) (Refused BadPid) ≡ Arrived a → input_of a.key ≡ input
      go true true e k = judged_input (judged_of (rule_of rule) s) refl (ltb-true pid 8192 e) a k
      go true false e k = let z : ◌≡◌ {A = ℕ} 0 1 = cc in absurd (omega arith)
      go false u e k = let z : ◌≡◌ {A = ℕ} 0 1 = cc in absurd (omega arith)

-- ---- rows of another input

-- rows of one key are of one input
pub same_on : (j : ℕ) (r n : Row) → eqb r.key n.key ≡ true → is_on j r ≡ is_on j n
same_on j r n q = ap (λ (k : ℕ). eqb (input_of k) j) (eqb-true r.key n.key q)

module _ (j : ℕ) (n : Row) (off : is_on j n ≡ false) where
  pub updated_other : (rows : List Row) → rows_on j (updated n rows) ≡ rows_on j rows
  unfolding rows_on
  updated_other [] = refl
  updated_other (r ∷ rows) = go (eqb r.key n.key) refl (updated_other rows)
    where
      go : (b : Bool) → eqb r.key n.key ≡ b → rows_on j (updated n rows) ≡ rows_on j rows
          → rows_on j (cond b (n ∷ rows) (r ∷ updated n rows)) ≡ cond (is_on j r) (r ∷ rows_on j rows) (rows_on j rows)
      go true q ih = rw (same_on j r n q, off)
      go false q ih = ap (λ (l : List Row). cond (is_on j r) (r ∷ l) l) ih

  pub behind_other : (rows : List Row) → rows_on j (rows ++ (n ∷ [])) ≡ rows_on j rows
  unfolding rows_on
  behind_other [] = rw off
  behind_other (r ∷ rows) = ap (λ (l : List Row). cond (is_on j r) (r ∷ l) l) (behind_other rows)

  -- the rows of input j before and after, and whether a row left
  data Sheds (before after : List Row) (left : Bool) : Type 0 where
    none : rows_on j after ≡ rows_on j before → Sheds before after left
    one : (r : Row) (rows : List Row) → before ≡ r ∷ rows → rows_on j before ≡ r ∷ rows_on j after → left ≡ true → Sheds before after left

  sheds : (capacity : ℕ) (rows : List Row) → Sheds rows (offered_to capacity n rows) (evicts capacity n rows)
  unfolding offered_to rows_on
  sheds capacity [] = go (at_capacity capacity [])
    where
      go : (b : Bool) → Sheds [] (cond b (later []) [] ++ (n ∷ [])) b
      go true = none (behind_other [])
      go false = none (behind_other [])
  sheds capacity (r ∷ rows) = go (holds n.key (r ∷ rows)) (at_capacity capacity (r ∷ rows)) (is_on j r) refl
    where
      go : (a b c : Bool) → is_on j r ≡ c → Sheds (r ∷ rows) (cond a (updated n (r ∷ rows)) (cond b rows (r ∷ rows) ++ (n ∷ []))) (not a && b)
      go true b c q = none (updated_other (r ∷ rows))
      go false false c q = none (behind_other (r ∷ rows))
      go false true true q = one r rows refl (rw q (ap (λ (l : List Row). r ∷ l) (sym (behind_other rows)))) refl
      go false true false q = none (rw q (behind_other rows))

  spared : (m : Manner) (h : Held) (section : List ℕ) → Spared j h (admitted m h n section).held
  unfolding admitted
  spared m h section = go (evicts m.capacity n h.rows) refl (sheds m.capacity h.rows)
    where
      go : (b : Bool) → evicts m.capacity n h.rows ≡ b → Sheds h.rows (offered_to m.capacity n h.rows) b → Spared j h (admitted m h n section).held
      go b e (none p) = stay p
      go b e (one r rows p q l) = loses r rows p q (ap (plus_of h.counters.evictions) (e ∙ l))

module _ (m : Manner) (h : Held) (o : Offer) (j : ℕ) (b : Bytes o.section) (other : o.input ≡ j → ⊥) where
  carried_other : (v : Verdict) → read_of m.rule o.input o.pid o.section ≡ v → Spared j h (carried_in m h o.section v).held
  unfolding carried_in
  carried_other (Refused r) e = stay refl
  carried_other (Failed f) e = stay refl
  carried_other (Arrived a) e =
      let k : input_of a.key ≡ o.input = arrived_input m.rule o.input o.pid o.section b a e in
      spared j (row_from a) (ne_eqb (input_of a.key) j (λ q. other (sym k ∙ q))) m h o.section

  -- THE THEOREM: after an offer on one input the rows of another are those of before, in order, or those without their first, and then that row was the
  -- first of all and one eviction was counted
  pub neighbours : Spared j h (acts m h o)
  unfolding acts told carried_in
  neighbours = go (any_full h.counters)
    where
      go : (t : Bool) → Spared j h (carried_in m h o.section (cond t (Refused CounterFull) (read_of m.rule o.input o.pid o.section))).held
      go true = stay refl
      go false = carried_other (read_of m.rule o.input o.pid o.section) refl
