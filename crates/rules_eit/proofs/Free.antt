-- Cells of the EIT collector, for every store: which are free, which one is used, and when one changes.
-- Assumes nothing.
use borrow.Author.Tests.{eqb-false, ne_eqb}
use mathlib.Core.Path.{◌≡◌, refl}
use mathlib.Core.Logic.{◌≢◌, ◌⊎◌, inl, inr}
use mathlib.Core.Bool.{true, false}
use mathlib.Core.Option.{none, some}
use mathlib.Core.List.{[], ◌++◌}
use Prim.Native.Nat.{ℕ}
use lib.ListN.{length, get_or, drop}
use Rattle.laws.proofs.Tests.{or_false}
use Rattle.rules_shared.specs.Touch.{some_row}
use Rattle.rules_shared.specs.Cells.{Held, names}
use Rattle.rules_shared.proofs.Slots.{none_passes, passes_none}
use Rattle.rules_shared.proofs.All.{All, all_map, none_all, all_none}
use Rattle.rules_shared.proofs.Cells.{LowestFree, write_other, write_front}
use Rattle.rules_eit.specs.Keys.{ScheduleKey, SetKey}
use Rattle.rules_eit.specs.Segments.{SetOf}
use Rattle.rules_eit.specs.Schedules.{CopyOf, ScheduleOf}
use Rattle.rules_eit.specs.Rules.{EitOf, Section, Call, offer, is_kept}
use Rattle.rules_eit.specs.Cells.{Store, Turn, view, set_takes, copy_takes, schedule_takes, taken, shows, room_for, call_acts}
use Rattle.rules_eit.proofs.Outcome.{Outcome, broken, stopped, clears, drops, keeps_all, refuses, foreign, long, keyless, lacks, keeps, ignores, conflicts, outcome}
use Rattle.rules_eit.proofs.Exact.{asked_kept}

-- "A cell is free exactly when no slot or schedule copy of a row in use names it"

abbrev pub SetNamesNot : (cell : ℕ) → SetKey → SetOf Held → Type 0
SetNamesNot c k r = (n : ℕ) (h : Held) → get_or r.slots n none ≡ some h → h.cell ≢ c

abbrev pub ScheduleNamesNot : (cell : ℕ) → ScheduleKey → ScheduleOf Held → Type 0
ScheduleNamesNot c l g = (m : ℕ) (o : CopyOf Held) → get_or g.copies m none ≡ some o → (n : ℕ) (h : Held) → get_or o.slots n none ≡ some h → h.cell ≢ c

pub record NamedNowhere (e : EitOf Held) (c : ℕ) : Type 0 where
  pub sets : All (SetNamesNot c) e.sets.rows
  pub schedules : All (ScheduleNamesNot c) e.schedules.rows

pub free_named_nowhere : (e : EitOf Held) (c : ℕ) → taken e c ≡ false → NamedNowhere e c
unfolding taken set_takes schedule_takes copy_takes names
free_named_nowhere e c h =
    let p = or_false (some_row (set_takes c) e.sets.rows) (some_row (schedule_takes c) e.schedules.rows) h in
    record {
      sets = all_map (λ k r t n q f. eqb-false q.cell c (none_passes (names c) r.slots t n q f)) e.sets.rows (none_all (set_takes c) e.sets.rows p.0);
      schedules = all_map (λ l g t m o f n q j. eqb-false q.cell c (none_passes (names c) o.slots (none_passes (copy_takes c) g.copies t m o f) n q j))
          e.schedules.rows (none_all (schedule_takes c) e.schedules.rows p.1);
    }

pub named_nowhere_free : (e : EitOf Held) (c : ℕ) → NamedNowhere e c → taken e c ≡ false
unfolding taken set_takes schedule_takes copy_takes names
named_nowhere_free e c a =
    let p = all_none (set_takes c) e.sets.rows (all_map (λ k r f. passes_none (names c) r.slots (λ n q j. ne_eqb q.cell c (f n q j))) e.sets.rows a.sets) in
    let q = all_none (schedule_takes c) e.schedules.rows
    (all_map (λ l g f. passes_none (copy_takes c) g.copies (λ m o i. passes_none (names c) o.slots (λ n q j. ne_eqb q.cell c (f m o i n q j)))) e.schedules.rows a.schedules) in
    rw p q

-- a section is kept in a cell: "The lowest free cell is used", its bytes come to the cell's front, and every other cell is as before
pub record KeptIn (s : Store) (x : Section) (k : SetKey) (c : ℕ) (after : Store) : Type 0 where
  pub kept : is_kept s.settings (view s) x k ≡ true
  pub lowest : LowestFree (taken (room_for s x k)) (length s.cells) c
  pub front : get_or after.cells c [] ≡ x.bytes ++ drop (length x.bytes) (get_or s.cells c [])
  pub others : (d : ℕ) → d ≢ c → get_or after.cells d [] ≡ get_or s.cells d []

-- "a cell's bytes change only when a section is kept in it"
pub cells_change : (s : Store) (i : Call) → ((call_acts s i).cells ≡ s.cells) ⊎ ((x : Section) × (k : SetKey) × (i ≡ offer x) × (c : ℕ) × KeptIn s x k c (call_acts s i))
unfolding call_acts shows
cells_change s i = go (outcome s i)
  where
    go : {j : Call} {t : Turn} → Outcome s j t → (t.store.cells ≡ s.cells) ⊎ ((x : Section) × (k : SetKey) × (j ≡ offer x) × (c : ℕ) × KeptIn s x k c t.store)
    go (broken j w) = inl refl
    go (stopped j w q) = inl refl
    go (clears w) = inl refl
    go (drops f w h) = inl refl
    go (keeps_all f r b w h) = inl refl
    go (refuses r b w) = inl refl
    go (foreign x w h) = inl refl
    go (long x kind w h l) = inl refl
    go (keyless x kind w h l q) = inl refl
    go (lacks x k a q f) = inl refl
    go (keeps x k a q c f) = inr (
      x,
      k,
      refl,
      c,
      record { kept = asked_kept s x k a q; lowest = f; front = write_front s.cells c x.bytes f.inside; others = write_other s.cells c x.bytes },
    )
    go (ignores x k a h q f) = inl refl
    go (conflicts x k a h q f) = inl refl
