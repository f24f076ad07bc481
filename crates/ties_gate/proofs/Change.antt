-- What the change rules mean for the gate (docs/RULES.md, "Gate"), of its rule: by rule 1 the clock table stands still, by rule 2 it moves.
-- Assumes nothing.
use Prim.Native.Nat.{ℕ, ◌<◌}
use mathlib.Core.Path.{◌≡◌, refl, sym, ap, subst, ◌∙◌}
use mathlib.Core.List.{List, [], ◌∷◌, ◌++◌}
use mathlib.Core.Bool.{Bool, true, false, cond, not, ◌&&◌, ◌||◌, true≢false}
use mathlib.Core.Logic.{inr}
use lib.Dec.{eqb}
use native.Mathlib.Omega.{arith}
use borrow.Author.Tests.{eq-eqb, ne_eqb, lt-ltb}
use Rattle.laws.proofs.Tests.{or_false}
use Rattle.answers.specs.declared.Refusal.TheVariants.{CounterFull}
use Rattle.counters.specs.Counters.{any_full}
use Rattle.section.specs.Facts.{Bytes}
use Rattle.section.specs.Header.{table_id_of, stored_crc}
use Rattle.section.specs.Ids.{origin_of}
use Rattle.section.specs.Judged.{form_of, rule_of, parts_of, judged_of}
use Rattle.section.specs.Key.{key_of}
use Rattle.section.specs.declared.header.Form.TheVariants.{Checked}
use Rattle.section.specs.declared.header.Parts.{Parts}
use Rattle.section.specs.declared.header.ChangeRule.{ChangeRule}
use Rattle.section.specs.declared.header.ChangeRule.TheVariants.{AllBytes, StoredCrc}
use Rattle.section.specs.declared.header.Judged.{Judged}
use Rattle.section.specs.declared.header.Judged.TheVariants.{Sound}
use Rattle.section.proofs.Facts.{judged_parts}
use Rattle.section.proofs.Change.{stuck, stored}
use Rattle.offers.specs.Offers.{arrival_of, read_as, read_of}
use Rattle.offers.specs.declared.Verdict.{Verdict}
use Rattle.offers.specs.declared.Verdict.TheVariants.{Refused, Arrived}
use Rattle.ring.specs.Rules.{Row, holds, has, updated, later, at_capacity, changed, offered_to}
use Rattle.gate_state.specs.State.{plain}
use Rattle.gate.specs.Rules.{Offer, Manner, Held, Told, row_from, admitted, carried_in, told, tells, acts}

-- the row of a section without a header: its key has extension 0 and section_number 0, its version is 0
abbrev pub bare_row : (input pid table change : ℕ) → Row
bare_row input pid table change = record { key = key_of (origin_of input pid) table 0 0; version = 0; change = change }

-- an offer that is not refused, of a sound section with a CRC and no header, and its change number
pub record Sounds (m : Manner) (h : Held) (o : Offer) (change : ℕ) : Type 0 where
  pub counts : any_full h.counters ≡ false
  pub pid : o.pid < 8192
  pub input : o.input < 16
  pub form : form_of o.section ≡ Checked
  pub parts : Parts
  pub sound : judged_of (rule_of m.rule) o.section ≡ Sound parts
  pub number : parts.change ≡ change

module _ (m : Manner) (h : Held) (o : Offer) (change : ℕ) (k : Sounds m h o change) where
  bare : row_from (arrival_of (origin_of o.input o.pid) k.parts) ≡ bare_row o.input o.pid (table_id_of o.section) change
  unfolding parts_of
  bare =
      let p : k.parts ≡ parts_of (rule_of m.rule) o.section Checked = judged_parts (rule_of m.rule) o.section k.parts k.sound ∙ ap (parts_of (rule_of m.rule) o.section) k.form in
      let t : k.parts.table_id ≡ table_id_of o.section = ap (λ (x : Parts). x.table_id) p in
      let x : k.parts.extension ≡ 0 = ap (λ (x : Parts). x.extension) p in
      let n : k.parts.number ≡ 0 = ap (λ (x : Parts). x.number) p in
      let v : k.parts.version ≡ 0 = ap (λ (x : Parts). x.version) p in
      rw (t, x, n, v, k.number)

  -- it is admitted with that row
  pub says : told m h o ≡ admitted m h (bare_row o.input o.pid (table_id_of o.section) change) o.section
  unfolding told read_of carried_in
  says = rw (k.counts, lt-ltb o.pid 8192 k.pid, lt-ltb o.input 16 k.input, k.sound, bare)

-- rule 1: where the key is held with version 0 and change number 0, as every sound section with a CRC and no header leaves it, another one of that key is
-- suppressed, whatever it says
pub never_again : (m : Manner) (h : Held) (o : Offer) (p : Parts) → rule_of m.rule ≡ AllBytes → m.repeats ≡ false → any_full h.counters ≡ false → o.pid < 8192 → o.input < 16
    → Bytes o.section → form_of o.section ≡ Checked → judged_of AllBytes o.section ≡ Sound p
    → has (bare_row o.input o.pid (table_id_of o.section) 0) h.rows ≡ true → tells m h o ≡ plain 2
unfolding tells admitted
never_again m h o p r off c i j b f s held =
    let k : Sounds m h o 0 = record { counts = c; pid = i; input = j; form = f; parts = p; sound = rw r s; number = stuck o.section b p s f } in
    ap (λ (t : Told). t.answer) (says m h o 0 k) ∙ simp (held, off)

-- a row that differs in its change number from one just offered, under the same key, is changed
module _ (capacity : ℕ) (n k : Row) (same : k.key ≡ n.key) (other : k.change ≡ n.change → ⊥) where
  differs : (v : Bool) → (v && eqb n.change k.change) ≡ false
  differs true = ne_eqb n.change k.change (λ e. other (sym e))
  differs false = refl

  here : (rows : List Row) → has k (n ∷ rows) ≡ false
  here rows = rw (eq-eqb n.key k.key (sym same)) (differs (eqb n.version k.version))

  -- a row that has not n's key has not k's
  passed : (r : Row) (rows : List Row) → eqb r.key n.key ≡ false → has k rows ≡ false → has k (r ∷ rows) ≡ false
  passed r rows q e =
      let d : eqb r.key k.key ≡ false = ap (eqb r.key) same ∙ q in
      rw (d, e)

  renewed : (rows : List Row) → holds n.key rows ≡ true → has k (updated n rows) ≡ false
  renewed [] e = absurd (true≢false (sym e))
  renewed (r ∷ rows) e = go (eqb r.key n.key) refl e (renewed rows)
    where
      go : (b : Bool) → eqb r.key n.key ≡ b → (b || holds n.key rows) ≡ true → (holds n.key rows ≡ true → has k (updated n rows) ≡ false)
          → has k (cond b (n ∷ rows) (r ∷ updated n rows)) ≡ false
      go true q f ih = here rows
      go false q f ih = passed r (updated n rows) q (ih f)

  behind : (rows : List Row) → holds n.key rows ≡ false → has k (rows ++ (n ∷ [])) ≡ false
  behind [] e = here []
  behind (r ∷ rows) e =
      let o = or_false (eqb r.key n.key) (holds n.key rows) e in
      passed r (rows ++ (n ∷ [])) o.0 (behind rows o.1)

  less : (rows : List Row) → holds n.key rows ≡ false → holds n.key (later rows) ≡ false
  less [] e = e
  less (r ∷ rows) e = (or_false (eqb r.key n.key) (holds n.key rows) e).1

  pub changed_after : (rows : List Row) → has k (offered_to capacity n rows) ≡ false
  unfolding offered_to
  changed_after rows = go (holds n.key rows) (at_capacity capacity rows) refl
    where
      go : (a b : Bool) → holds n.key rows ≡ a → has k (cond a (updated n rows) (cond b (later rows) rows ++ (n ∷ []))) ≡ false
      go true b e = renewed rows e
      go false true e = behind (later rows) (less rows e)
      go false false e = behind rows e

-- rule 2: of two sound sections with a CRC and no header, of one input, PID and table_id, offered one after the other, the second is emitted where it carries another CRC
pub moves : (m : Manner) (h : Held) (o x : Offer) (p q : Parts) → rule_of m.rule ≡ StoredCrc → o.input ≡ x.input → o.pid ≡ x.pid → table_id_of o.section ≡ table_id_of x.section
    → any_full h.counters ≡ false → any_full (acts m h o).counters ≡ false → x.pid < 8192 → x.input < 16
    → form_of o.section ≡ Checked → judged_of StoredCrc o.section ≡ Sound p
    → form_of x.section ≡ Checked → judged_of StoredCrc x.section ≡ Sound q
    → (stored_crc x.section ≡ stored_crc o.section → ⊥) → tells m (acts m h o) x ≡ plain 1
unfolding tells acts admitted
moves m h o x p q r from same table c d i v f s g t other =
    let j : Sounds m h o (stored_crc o.section) =
    record { counts = c; pid = rw same i; input = rw from v; form = f; parts = p; sound = rw r s; number = stored o.section p s (inr f) } in
    let k : Sounds m (acts m h o) x (stored_crc x.section) =
    record { counts = d; pid = i; input = v; form = g; parts = q; sound = rw r t; number = stored x.section q t (inr g) } in
    let rows : (acts m h o).rows ≡ offered_to m.capacity (bare_row o.input o.pid (table_id_of o.section) (stored_crc o.section)) h.rows =
    ap (λ (y : Told). y.held.rows) (says m h o (stored_crc o.section) j) in
    let e : (bare_row x.input x.pid (table_id_of x.section) (stored_crc x.section)).key ≡ (bare_row o.input o.pid (table_id_of o.section) (stored_crc o.section)).key = rw (from, same, table) in
    let z : has (bare_row x.input x.pid (table_id_of x.section) (stored_crc x.section)) (acts m h o).rows ≡ false =
    rw rows (changed_after m.capacity (bare_row o.input o.pid (table_id_of o.section) (stored_crc o.section)) (bare_row x.input x.pid (table_id_of x.section) (stored_crc x.section)) e other h.rows) in
    ap (λ (y : Told). y.answer) (says m (acts m h o) x (stored_crc x.section) k) ∙ simp z
