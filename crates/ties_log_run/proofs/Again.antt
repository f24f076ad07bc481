-- In the memory that a run leaves, another can be opened with the same settings: no slice gets shorter than the settings need.
-- Assumes nothing.
use mathlib.Core.Path.{◌≡◌, refl, sym, ap, subst, ◌∙◌}
use mathlib.Core.Bool.{Bool, true, false, cond, not, ◌&&◌}
use mathlib.Core.List.{List, []}
use Prim.Native.Nat.{ℕ, suc, ◌*◌, ◌^◌, ◌≤◌, ◌<◌}
use native.Mathlib.Omega.{arith}
use borrow.Author.Tests.{lt-ltb, ltb-true, ltb-false, le-leb}
use lib.Dec.{ltb, leb}
use lib.ListN.{length}
use Rattle.laws.proofs.Tests.{true_and}
use Rattle.section.specs.Facts.{Bytes as OfBytes}
use Rattle.section.specs.Judged.{rule_known, rule_of, judged_of}
use Rattle.section.specs.declared.header.Judged.{Judged}
use Rattle.section.specs.declared.header.Judged.TheVariants.{Short, Mismatch, Sound}
use Rattle.ring.specs.Store.{room_of}
use Rattle.ticks.proofs.Cells.{cells_length}
use Rattle.store.specs.Store.{asked, settings_fit}
use Rattle.rules_sets.specs.Cells.{Store as Shown}
use Rattle.rules_sets.proofs.Cells.{settings_stay}
use Rattle.ties_sets.specs.View.{seen}
use Rattle.rules_logs.specs.Sections.{Given}
use Rattle.rules_log_run.specs.Run.{Settings, Kept, pushed, sound, judged, entry_of}
use Rattle.log_state.specs.State.{is_without, Lent, lent, sets_in, run_of, ruling_by, ruling_of}
use Rattle.log_state.specs.declared.Settings.{Settings as Asked}
use Rattle.log_run.specs.Store.{ruled, taking}
use Rattle.ties_log_run.specs.Run.{takes, kept_in, settings_at, Opens, Reached}
use Rattle.ties_log_run.proofs.Counted.{cells_stay}
use Rattle.ties_log_run.proofs.Step.{CanTake, counts_none, follows}
use Rattle.ties_log_run.proofs.Run.{opened_reached, opened_takes}

-- ---- by the rules

-- the collector's settings and its number of cells stay
record Sized (s t : Shown) : Type 0 where
  settings : t.settings ≡ s.settings
  cells : length t.cells ≡ length s.cells

module _ (o : Settings) (k : Kept) (g : Given) where
  judged_sized : (j : Judged) → Sized k.sets (judged o k g j).kept.sets
  unfolding judged sound
  judged_sized Short = record { settings = refl; cells = refl }
  judged_sized (Mismatch stored worked) = record { settings = refl; cells = refl }
  judged_sized (Sound p) = record { settings = settings_stay k.sets (pushed o g); cells = cells_stay k.sets (pushed o g) }

  entry_sized : Sized k.sets (entry_of o k g).kept.sets
  unfolding entry_of
  entry_sized = go (ltb g.pid 8192) (ltb g.input 16)
    where
      go : (p i : Bool) → Sized k.sets (cond p (cond i (judged o k g (judged_of (rule_of o.rule) g.section)) (record { records = []; kept = k })) (record { records = []; kept = k })).kept.sets
      go true true = judged_sized (judged_of (rule_of o.rule) g.section)
      go true false = record { settings = refl; cells = refl }
      go false i = record { settings = refl; cells = refl }

-- ---- over lent memory

-- a run that was opened with these settings, to which n sections may still come
pub record Usable (a : Asked) (n : ℕ) (s : Lent) : Type 0 where
  pub reached : Reached s
  pub more : CanTake n s
  pub capacity : s.run.ring.capacity ≡ a.capacity
  pub rule : s.run.rule ≡ a.rule
  pub limit : s.run.sets.limit ≡ a.limit
  pub size : s.run.sets.size ≡ a.size
  pub count : s.run.sets.count ≡ a.count
  pub taken : is_without a.pids ≡ false

pub usable_opened : (a : Asked) (keys changes heads slots cells : List ℕ) → Opens a keys changes heads slots cells → (n : ℕ) → n < 2 ^ 64 → Usable a n (lent (run_of a) keys changes heads slots cells)
usable_opened a keys changes heads slots cells h n l =
    record { reached = opened_reached a keys changes heads slots cells h; more = opened_takes a keys changes heads slots cells h n l; capacity = refl; rule = refl; limit = refl; size = refl; count = refl; taken = (opened_reached a keys changes heads slots cells h).taken }

pub usable_fewer : (a : Asked) (n : ℕ) (s : Lent) → Usable a n s → Usable a 0 s
usable_fewer a n s u = let h = u.more.evictions in let k = u.more.clock in record { reached = u.reached; more = record { evictions = omega arith; clock = omega arith }; capacity = u.capacity; rule = u.rule; limit = u.limit; size = u.size; count = u.count; taken = u.taken }

module _ (a : Asked) (n : ℕ) (s : Lent) (u : Usable a (suc n) s) (g : Given) (b : OfBytes g.section) where
  abbrev after : Lent
  after = (takes s g).left

  long_usable : 4098 < length g.section → Usable a n (takes s g).left
  unfolding taking ruling_of ruling_by ruled
  long_usable h =
      rw (lt-ltb 4098 (length g.section) h)
      (record { reached = u.reached; more = counts_none 0 0 0 n s u.reached g b u.more; capacity = u.capacity; rule = u.rule; limit = u.limit; size = u.size; count = u.count; taken = u.taken })

  short_usable : length g.section ≤ 4098 → Usable a n (takes s g).left
  unfolding seen
  short_usable h =
      let f = follows 0 0 0 n s u.reached g b u.more h in
      let e = entry_sized (settings_at 0 0 0 s.run) (kept_in s) g in
      let k : seen (sets_in after) ≡ (entry_of (settings_at 0 0 0 s.run) (kept_in s) g).kept.sets = ap (λ (x : Kept). x.sets) f.kept in
      record {
        reached = f.reached;
        more = f.counted;
        capacity = ap (λ (x : Settings). x.capacity) f.settings ∙ u.capacity;
        rule = ap (λ (x : Settings). x.rule) f.settings ∙ u.rule;
        limit = ap (λ (x : Shown). x.settings.limit) k ∙ ap (λ x. x.limit) e.settings ∙ u.limit;
        size = ap (λ (x : Shown). x.settings.cell_size) k ∙ ap (λ x. x.cell_size) e.settings ∙ u.size;
        count =
            sym (cells_length after.cells after.run.sets.size after.run.sets.count) ∙ ap (λ (x : Shown). length x.cells) k ∙ e.cells
            ∙ cells_length s.cells s.run.sets.size s.run.sets.count ∙ u.count;
        taken = u.taken;
      }

  pub usable_next : Usable a n (takes s g).left
  usable_next = go (ltb 4098 (length g.section)) refl
    where
      go : (t : Bool) → ltb 4098 (length g.section) ≡ t → Usable a n (takes s g).left
      go true e = long_usable (ltb-true 4098 (length g.section) e)
      go false e = short_usable (ltb-false 4098 (length g.section) e)

-- THE THEOREM
pub usable_opens : (a : Asked) (n : ℕ) (s : Lent) → Usable a n s → Opens a s.keys s.changes s.heads s.slots s.cells
usable_opens a n s u =
    let w = u.reached.rows.whole in
    let k : room_of a.capacity ≤ length s.keys = subst (λ (c : ℕ). room_of c ≤ length s.keys) u.capacity w.keys_long in
    let c : room_of a.capacity ≤ length s.changes = subst (λ (c : ℕ). room_of c ≤ length s.changes) u.capacity w.changes_long in
    true_and (true_and (true_and (true_and (le-leb _ _ k) (le-leb _ _ c)) (sym (ap rule_known u.rule) ∙ u.reached.rule)) (sym fits_same ∙ u.reached.sets.fits)) (ap not u.taken)
  where
    fits_same : settings_fit s.run.sets (length s.heads) (length s.slots) (length s.cells) ≡ settings_fit (asked a.limit a.size a.count) (length s.heads) (length s.slots) (length s.cells)
    fits_same =
        let l = u.limit in
        let z = u.size in
        let c = u.count in
        λ i.
        leb 12 (z i) && leb (z i) 4096 && leb (c i) 65535 && leb (l i * 12) (length s.heads) && leb (l i * 288) (length s.slots) && leb (c i * z i) (length s.cells)
