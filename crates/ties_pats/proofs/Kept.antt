-- What the rules hold of a PAT in every history: each section that is kept says of itself what its key, its row and its slot say; so a set that is handed
-- out is a complete PAT.
-- Assumes nothing.
use mathlib.Core.Path.{◌≡◌, refl, sym, ap, subst, ◌∙◌}
use mathlib.Core.Logic.{◌≢◌}
use mathlib.Core.Bool.{Bool, true, false, cond, true≢false}
use mathlib.Core.Option.{Option, none, some, some-injective}
use mathlib.Core.List.{List, [], ◌∷◌}
use Prim.Native.Nat.{ℕ, zero, suc, ◌≤◌, ◌<◌}
use native.Mathlib.Decide.{ℕ_discrete}
use native.Mathlib.Omega.{arith}
use lib.Dec.{ltb, leb}
use lib.ListN.{length, get_or, set}
use lib.Seq.{get_or-set_same, get_or-set_other}
use Rattle.laws.proofs.Tests.{none≢some}
use Rattle.answers.specs.declared.Refusal.TheVariants as refusal
use Rattle.section.specs.Facts.{Bytes as AllBytes}
use Rattle.section.specs.Judged.{collected_of}
use Rattle.section.specs.Header.{header_of}
use Rattle.std.specs.Prelude.{Result, Ok, Err}
use Rattle.section.specs.declared.header.Header.{Header}
use Rattle.answers.specs.declared.Refusal.{Refusal}
use Rattle.section.proofs.Facts.{takes}
use Rattle.rules_shared.specs.Same.{Bytes}
use Rattle.rules_shared.specs.Slots.{present}
use Rattle.rules_shared.specs.Touch.{find, aside, newest, emptied}
use Rattle.rules_shared.specs.Row.{fresh, keep, marked, put}
use Rattle.rules_shared.specs.Cells.{Settings}
use Rattle.rules_shared.proofs.All.{All, all_aside, all_newest, all_find}
use Rattle.rules_shared.proofs.Row.{Meets, start_has, start_meets, sized_fresh, sized_keep, put_has}
use Rattle.rules_shared.proofs.Slots.{free_slot}
use Rattle.rules_sets.specs.Rules.{Key, same_key, SetRow, Sets, Section, part_of, Call, clear, refuse, offer, Whole, handout, full, whole, met_row, judged, judge, finish, push, admit, step, tells, acts}
use Rattle.rules_sets.proofs.Keys.{same_key_true_lem}
use Rattle.rules_sets.proofs.History.{Lived, filled, goes_out_only}
use Rattle.ties_sets.specs.View.{reads_as, read_section}
use Rattle.pats.specs.Store.{enters}
use Rattle.ties_pats.specs.Rules.{read_pat}
use Rattle.ties_pats.specs.View.{PartOf, CompletePat}

-- `Came` is what is known of every section that was offered, as that it came at some time
module _ (Came : Bytes → Type 0) where
  -- a row, under its key
  pub record RowKept (k : Key) (r : SetRow) : Type 0 where
    pub sized : length r.slots ≡ suc r.last
    pub held : (j : ℕ) (b : Bytes) → get_or r.slots j none ≡ some b → PartOf Came k.extension r.version r.last j b

  abbrev pub SetsKept : Sets → Type 0
  SetsKept s = All RowKept s.rows

  -- a section that is offered
  pub record Says (x : Section) : Type 0 where
    pub part : PartOf Came x.key.extension x.version x.last x.number x.bytes
    pub numbered : x.number ≤ x.last

  -- ---- a row with the section

  fresh_kept : (x : Section) → RowKept x.key (fresh (part_of x))
  unfolding fresh part_of
  fresh_kept x = record { sized = sized_fresh Bytes (part_of x); held = λ j b e. absurd (none≢some (free_slot {A = Bytes} (suc x.last) j) e) }

  met_kept : (x : Section) (s : Sets) → SetsKept s → RowKept x.key (met_row x s)
  unfolding met_row
  met_kept x s a = start_has (part_of x) (RowKept x.key) (fresh_kept x) (find same_key x.key s.rows) (λ r e. all_find same_key RowKept same_key_true_lem x.key s.rows r a e)

  keep_kept : (x : Section) (r : SetRow) → Says x → Meets (part_of x) r → RowKept x.key r → RowKept x.key (keep (part_of x) x.bytes r)
  unfolding keep part_of
  keep_kept x r y m a = record { sized = sized_keep (part_of x) x.bytes r a.sized; held = λ j b e. go j b e (ℕ_discrete j x.number) }
    where
      go : (j : ℕ) (b : Bytes) → get_or (set r.slots x.number (some x.bytes)) j none ≡ some b → Dec (j ≡ x.number) → PartOf Came x.key.extension r.version r.last j b
      go j b e (yes q) =
          let n = y.numbered in
          let z = a.sized in
          let l = m.last in
          let h : get_or (set r.slots x.number (some x.bytes)) x.number none ≡ some x.bytes = get_or-set_same r.slots x.number (some x.bytes) none (omega arith) in
          let d : x.bytes ≡ b = some-injective x.bytes b (sym h ∙ ap (λ (i : ℕ). get_or (set r.slots x.number (some x.bytes)) i none) (sym q) ∙ e) in
          rw (q, m.version, m.last, ← d) y.part
      go j b e (no d) = a.held j b (sym (get_or-set_other r.slots x.number j (some x.bytes) none d) ∙ e)

  -- ---- the rows after a section

  module _ (s : Sets) (k : Key) (a : SetsKept s) where
    new_kept : (r : SetRow) → RowKept k r → SetsKept (newest k r s)
    new_kept r p = all_newest same_key RowKept k r s a p

    judge_kept : (r : SetRow) → RowKept k r → SetsKept (judge s k r).sets
    unfolding judge judged marked
    judge_kept r p = go r.mark (full r.slots)
      where
        go : (b c : Bool) → SetsKept (judged s k r b c).sets
        go true c = new_kept r p
        go false false = new_kept r p
        go false true = new_kept (marked r) (record { sized = p.sized; held = p.held })

  push_kept : (limit : ℕ) (s : Sets) (x : Section) → Says x → SetsKept s → SetsKept (push limit s x).sets
  unfolding push finish met_row
  push_kept zero s x y a = a
  push_kept (suc n) s x y a = go (put (part_of x) x.bytes (met_row x s)) refl
    where
      others : SetsKept (aside same_key (suc n) x.key s)
      others = all_aside same_key RowKept (suc n) x.key s a

      met : RowKept x.key (met_row x s)
      met = met_kept x s a

      kept : RowKept x.key (keep (part_of x) x.bytes (met_row x s))
      kept = keep_kept x (met_row x s) y (start_meets (part_of x) (find same_key x.key s.rows)) met

      go : (o : Option SetRow) → put (part_of x) x.bytes (met_row x s) ≡ o → SetsKept (finish (aside same_key (suc n) x.key s) x.key (met_row x s) o).sets
      go none q = new_kept (aside same_key (suc n) x.key s) x.key others (met_row x s) met
      go (some r) q = judge_kept (aside same_key (suc n) x.key s) x.key others r (put_has (part_of x) x.bytes (met_row x s) (RowKept x.key) met kept r q)

  -- a call whose section says so of itself
  abbrev pub CallSays : Call → Type 0
  CallSays clear = Unit {0}
  CallSays (refuse r) = Unit {0}
  CallSays (offer x) = Says x

  pub step_kept : (o : Settings) (s : Sets) (c : Call) → CallSays c → SetsKept s → SetsKept (acts o s c)
  unfolding acts step admit emptied
  step_kept o s clear y a = tt
  step_kept o s (refuse r) y a = a
  step_kept o s (offer x) y a = go (leb (length x.bytes) o.cell_size)
    where
      go : (b : Bool) → SetsKept (admit o.limit s x b).sets
      go false = a
      go true = push_kept o.limit s x y a

  -- ---- a set that is handed out

  full_present : (ss : List (Option Bytes)) → full ss ≡ true → (length (present ss) ≡ length ss) × ((j : ℕ) → j < length ss → get_or ss j none ≡ some (get_or (present ss) j []))
  unfolding full present
  full_present [] e = (refl, λ j h. absurd (omega arith))
  full_present (none ∷ ss) e = absurd (true≢false (sym e))
  full_present (some b ∷ ss) e = let i = full_present ss e in (ap suc i.0, λ j h. at j h i.1)
    where
      at : (j : ℕ) → j < suc (length ss) → ((j : ℕ) → j < length ss → get_or ss j none ≡ some (get_or (present ss) j [])) → get_or (some b ∷ ss) j none ≡ some (get_or (b ∷ present ss) j [])
      at zero h f = refl
      at (suc j) h f = f j (omega arith)

  row_complete : (k : Key) (r : SetRow) → RowKept k r → full r.slots ≡ true → CompletePat Came (whole k r)
  unfolding whole
  row_complete k r a e =
      let i = full_present r.slots e in
      let z = a.sized in
      record { all = i.0 ∙ z; each = λ j h. a.held j (get_or (present r.slots) j []) (i.1 j (omega arith)) }

  pub handed_complete : (o : Settings) (s : Sets) (c : Call) → Lived o.limit s → CallSays c → SetsKept s → (w : Whole) → tells o s c ≡ handout w → CompletePat Came w
  unfolding tells step met_row
  handed_complete o s clear l y a w e = let z : ◌≡◌ {A = ℕ} 0 1 = cc in absurd (omega arith)
  handed_complete o s (refuse r) l y a w e = let z : ◌≡◌ {A = ℕ} 0 1 = cc in absurd (omega arith)
  handed_complete o s (offer x) l y a w e =
      let g = goes_out_only o s l x w e in
      subst (CompletePat Came) g.1
      (row_complete x.key (filled x s) (keep_kept x (met_row x s) y (start_meets (part_of x) (find same_key x.key s.rows)) (met_kept x s a)) g.0.complete)

  -- ---- the section as it is read

  pub reads_say : (input : ℕ) (section : Bytes) → AllBytes section → enters section ≡ true → Came section → CallSays (read_pat input section)
  unfolding read_section reads_as header_of
  reads_say input section b p c = pick (ltb input 16)
    where
      say : (d : Result Header Refusal) → collected_of section ≡ d → CallSays (reads_as (record { input = input; pid = 0 }) section d)
      say (Err refusal.ShortForm) q = tt
      say (Err r) q = tt
      say (Ok h) q =
          let t = takes section h (collected_of section) refl q in
          let e = t.header in
          rw e (record {
            part = record { bytes = b; pat = p; sound = t.sound; stream = refl; version = refl; last = refl; number = refl; came = c };
            numbered = t.numbered;
          })

      pick : (t : Bool) → CallSays (cond t (reads_as (record { input = input; pid = 0 }) section (collected_of section)) (refuse refusal.BadInput))
      pick true = say (collected_of section) refl
      pick false = tt
