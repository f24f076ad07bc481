-- What a conflict leaves, which cells are free, and when a cell's bytes change.
-- Assumes nothing.
use mathlib.Core.Path.{◌≡◌, refl, sym, ap, subst, ◌∙◌}
use mathlib.Core.Logic.{◌⊎◌}
use mathlib.Core.Bool.{false}
use Prim.Native.Nat.{ℕ, ◌+◌, ◌*◌, ◌≤◌, ◌<◌}
use native.Mathlib.Omega.{arith}
use lib.ListN.{length, get_or}
use Rattle.laws.proofs.Search.{any_not, none_any}
use Rattle.rules_shared.specs.Same.{Bytes}
use Rattle.rules_sets.specs.Rules.{Section, offer, conflict}
use Rattle.rules_sets.specs.Cells.{Store as Shown, takes, taken}
use Rattle.rules_sets.proofs.Exact.{Conflicting, conflict_touches, KeptIn, cells_change}
use Rattle.cells.specs.Cells.{names}
use Rattle.rows.specs.Rows.{slots_at, slot_count, row_slots, last_of, tick_of}
use Rattle.ticks.specs.Order.{rows_seen}
use Rattle.ticks.proofs.Ticks.{order_none, none_order}
use Rattle.rows.proofs.Words.{slot_at, length_slots}
use Rattle.std.specs.Prelude.{Option}
use Rattle.answers.specs.declared.Refusal.TheVariants.{Conflict}
use Rattle.store.specs.Store.{Store}
use Rattle.sets_settle.specs.Settle.{Told, done, nothing, handed, refused}
use Rattle.sets.specs.Store.{pushed_of}
use Rattle.sets.proofs.Refusals.{AsBefore, conflict_keeps}
use Rattle.sets.specs.History.{Call as Given, offer as section, Bytes as OfBytes}
use Rattle.ties_sets.specs.View.{seen, reads, answer_told, tells, acts, Standing, Reached}
use Rattle.ties_sets.proofs.Rows.{row_takes}
use Rattle.ties_sets.proofs.History.{can_come, tells_seen, acts_seen}

-- ---- 22: "key becomes newest, else as before"

module _ (s : Store) (z : Reached s) (i : Given) (o : OfBytes i) where
  pub conflict_leaves : tells s i ≡ conflict → (x : Section) × (reads i ≡ offer x) × Conflicting (seen s) x (seen (acts s i))
  conflict_leaves h =
      let r = conflict_touches (seen s) (reads i) (can_come i) (sym (tells_seen s z i o) ∙ h) in
      (r.0, r.1, subst (Conflicting (seen s) r.0) (sym (acts_seen s z i o)) r.2)

  -- "a cell's bytes change only when a section is kept in it"
  pub cells_change_seen : ((seen (acts s i)).cells ≡ (seen s).cells) ⊎ ((x : Section) × (reads i ≡ offer x) × (c : ℕ) × KeptIn (seen s) x c (seen (acts s i)))
  cells_change_seen = subst (λ (q : Shown). (q.cells ≡ (seen s).cells) ⊎ ((x : Section) × (reads i ≡ offer x) × (c : ℕ) × KeptIn (seen s) x c q)) (sym (acts_seen s z i o)) (cells_change (seen s) (reads i))

-- no settings, no count but the clock, no slot, no cell and no word of a head but the ticks changes, whatever the memory holds
conflict_told : (t : Told) → answer_told t ≡ conflict → t ≡ refused Conflict
unfolding answer_told
conflict_told done e = let z : ◌≡◌ {A = ℕ} 0 1 = cc in absurd (omega arith)
conflict_told nothing e = let z : ◌≡◌ {A = ℕ} 0 1 = cc in absurd (omega arith)
conflict_told (handed w) e = let z : ◌≡◌ {A = ℕ} 0 1 = cc in absurd (omega arith)
conflict_told (refused r) e = let z : r ≡ Conflict = cc in ap refused z

pub conflict_memory : (s : Store) (input : ℕ) (pid : Option ℕ) (bytes : Bytes) → tells s (section input pid bytes) ≡ conflict → AsBefore s bytes (acts s (section input pid bytes))
unfolding tells acts
conflict_memory s input pid bytes h = conflict_keeps s input pid bytes (conflict_told (pushed_of s input pid bytes).told h)

-- ---- "A cell is free exactly when no slot .. of a row in use names it"

module _ (s : Store) (z : Standing s) (long : s.sets.used * 288 ≤ length s.slots) (c : ℕ) where
  abbrev NoSlotNames : Type 0
  NoSlotNames = (j k : ℕ) → j < s.sets.used → k < slot_count (last_of s.heads j) → names c (get_or s.slots (slots_at j + k) 0) ≡ false

  pub free_named_nowhere : taken (seen s).sets c ≡ false → NoSlotNames
  unfolding taken seen rows_seen
  free_named_nowhere h j k l m =
      let r = sym (row_takes s.heads s.slots c j) ∙ none_order (tick_of s.heads) s.sets.used s.sets.clock z.stands.ticks _ (takes c) j h l in
      subst (λ (w : ℕ). names c w ≡ false) (slot_at s.heads s.slots j k m)
      (any_not (names c) (row_slots s.heads s.slots j) 0 k r (let d = length_slots s.heads s.slots j (omega arith) in omega arith))

  pub named_nowhere_free : NoSlotNames → taken (seen s).sets c ≡ false
  unfolding taken seen rows_seen
  named_nowhere_free f =
      order_none (tick_of s.heads) s.sets.used s.sets.clock z.stands.ticks _ (takes c) (λ j l. row_takes s.heads s.slots c j
      ∙ none_any (names c) (row_slots s.heads s.slots j) 0 (λ k m.
      let d = length_slots s.heads s.slots j (omega arith) in
      let q : k < slot_count (last_of s.heads j) = omega arith in
      ap (names c) (slot_at s.heads s.slots j k q) ∙ f j k l q))
