-- One law for each way out of the questions for a next section.
-- Assumes nothing.
use mathlib.Core.Path.{◌≡◌}
use mathlib.Core.List.{List}
use mathlib.Core.Bool.{Bool, true, false}
use Prim.Native.Nat.{ℕ, ◌*◌, ◌≤◌}
use native.Mathlib.Omega.{arith}
use lib.ListN.{length}
use Rattle.answers.specs.declared.Refusal.TheVariants as refusal
use Rattle.std.specs.Prelude.{Err}
use Rattle.readers.specs.Next.{no_section}
use Rattle.readers.specs.declared.Next.{Next}
use Rattle.eit_state.specs.declared.Eit.{Eit}
use Rattle.eit_state.specs.State.{Store, store, whole_of}
use Rattle.eit_state.proofs.Whole.{is_whole_means}
use Rattle.eit_pids.specs.Rows.{any_without}
use Rattle.eit_next.specs.Following.{row_next, schedule_next}
use Rattle.eit.specs.Store.{next_of, next_in_of}

module _ (s : Store) (row from : ℕ) (b : Bool) (q : Next) (e : b ≡ whole_of s) where
  pub next_broken : b ≡ false → q ≡ no_section (Err refusal.NotWhole) → q ≡ next_of s row from
  unfolding next_of
  next_broken t f = rw (← e, t) f

  module _ (t : b ≡ true) (w : Bool) (o : w ≡ any_without s.eit s.heads s.schedule_heads) where
    pub next_without : w ≡ true → q ≡ no_section (Err refusal.NoPid) → q ≡ next_of s row from
    unfolding next_of
    next_without v f = rw (← e, t, ← o, v) f

    pub next_in : w ≡ false → q ≡ row_next s.heads s.slots s.eit.sets.used s.eit.sets.size row from → q ≡ next_of s row from
    unfolding next_of
    next_in v f = rw (← e, t, ← o, v) f

  module _ (table : ℕ) where
    pub in_broken : b ≡ false → q ≡ no_section (Err refusal.NotWhole) → q ≡ next_in_of s row table from
    unfolding next_in_of
    in_broken t f = rw (← e, t) f

    module _ (t : b ≡ true) (w : Bool) (o : w ≡ any_without s.eit s.heads s.schedule_heads) where
      pub in_without : w ≡ true → q ≡ no_section (Err refusal.NoPid) → q ≡ next_in_of s row table from
      unfolding next_in_of
      in_without v f = rw (← e, t, ← o, v) f

      pub in_table : w ≡ false → q ≡ schedule_next s.schedule_heads s.units s.eit.schedules s.eit.sets.size row table from → q ≡ next_in_of s row table from
      unfolding next_in_of
      in_table v f = rw (← e, t, ← o, v) f

-- what the questions ask of their parts
module _ (e : Eit) (heads slots cells schedule_heads units : List ℕ) (b : Bool) (q : b ≡ whole_of (store e heads slots cells schedule_heads units)) (t : b ≡ true) where
  pub sets_there : (e.sets.used * 12 ≤ length heads) × (e.sets.used * 288 ≤ length slots) × (e.sets.size ≤ 4096)
  sets_there = let w = (is_whole_means e heads slots cells schedule_heads units b q t).sets in (omega arith, omega arith, w.size_high)

  pub schedules_there : (e.schedules * 12 ≤ length schedule_heads) × (e.schedules * 4608 ≤ length units) × (e.sets.size ≤ 4096)
  schedules_there = let w = is_whole_means e heads slots cells schedule_heads units b q t in (omega arith, omega arith, w.sets.size_high)
