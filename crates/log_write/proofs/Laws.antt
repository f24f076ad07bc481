-- One law for each way out.
-- Assumes nothing.
use mathlib.Core.Path.{◌≡◌, refl, sym, ap, ◌∙◌}
use mathlib.Core.Bool.{Bool, true, false, cond}
use Prim.Native.Nat.{ℕ}
use native.Mathlib.Omega.{arith}
use lib.Dec.{ltb}
use lib.ListN.{length}
use Rattle.rules_logs.specs.Records.{Bytes}
use Rattle.rules_logs.specs.Sections.{sections_in}
use Rattle.log_list.specs.List.{givens_from, WholeFrom}
use Rattle.log_list.proofs.Laws.{from_start}
use Rattle.log_prepare.specs.Prepare.{prepared_of}
use Rattle.std.specs.Prelude.{Option, Some, None, Result, Ok, Err}
use Rattle.log_prepare.specs.declared.PrepareError.{PrepareError}
use Rattle.log_prepare.specs.declared.PrepareError.TheVariants as prepare
use Rattle.log_prepare.proofs.Ways.{Ready, long_only, cut_only, without_only, little_only, ready_only}
use Rattle.log_state.specs.State.{is_with}
use Rattle.log_state.specs.declared.Pids.TheVariants as pids
use Rattle.log_state.specs.declared.Run.{Run}
use Rattle.log_state.specs.declared.Settings.{Settings}
use Rattle.log_sections.specs.Steps.{Memory, over}
use Rattle.log_measure.specs.Measure.{log_by, measured_of, MeasuredBy}
use Rattle.log_fill.specs.Fill.{FilledBy}
use Rattle.log_write.specs.declared.WriteError.TheVariants as error
use Rattle.log_write.specs.Write.{refused_by, Write, write_as, as_writer, ran_twice, written_by, written_of}

-- ---- with an opened run

-- what was measured tells whether there is room
module _ (room size : ℕ) {x : Option ℕ} (e : x ≡ measured_of room size) where
  pub long_told : x ≡ None → ltb room size ≡ true
  long_told n = go (ltb room size) (sym e ∙ n)
    where
      go : (b : Bool) → cond b None (Some size) ≡ None → b ≡ true
      go true q = refl
      go false q = absurd (let z : ◌≡◌ {A = ℕ} 0 1 = cc in omega arith)

  pub fits_told : {n : ℕ} → x ≡ Some n → (ltb room size ≡ false) × (n ≡ size)
  fits_told {n = n} h = go (ltb room size) (sym e ∙ h)
    where
      go : (b : Bool) → cond b None (Some size) ≡ Some n → (b ≡ false) × (n ≡ size)
      go true q = absurd (let z : ◌≡◌ {A = ℕ} 0 1 = cc in omega arith)
      go false q = (refl, cc)

module _ (list room : Bytes) (run : Run) (m : Memory) {x : Option ℕ} {n : Memory} (me : MeasuredBy list (length room) (over run m) x n) where
  pub no_room : x ≡ None → write_as (refused_by error.NoRoom) room n ≡ ran_twice run room m (givens_from list 0)
  unfolding ran_twice
  no_room h = rw (long_told (length room) (length (log_by (over run m) (givens_from list 0))) me.tells h, me.leaves) refl

  pub is_written : {k : ℕ} {after : Bytes} {o : Memory} → x ≡ Some k → FilledBy list room (over run n) after o → write_as (Ok k) after o ≡ ran_twice run room m (givens_from list 0)
  unfolding ran_twice
  is_written h f =
      let t = fits_told (length room) (length (log_by (over run m) (givens_from list 0))) me.tells h in
      rw (t.0, t.1, f.log, f.leaves, me.leaves) refl

-- ---- the whole call

module _ (s₀ : Settings) (list room : Bytes) (m : Memory) {s : Settings} (a : s ≡ as_writer s₀) {x : Result Run PrepareError}
    (e : x ≡ prepared_of s (sections_in list) (length m.keys) (length m.changes) (length m.heads) (length m.slots) (length m.cells)) where
  by : written_by s room m (sections_in list) ≡ written_of s₀ list room m
  unfolding written_of
  by = ap (λ (t : Settings). written_by t room m (sections_in list)) a

  refused : {w : PrepareError} → x ≡ Err w → write_as (refused_by (error.Run w)) room m ≡ written_by s room m (sections_in list)
  refused {w = prepare.TooLong} q = rw (long_only s _ _ _ _ _ (sections_in list) (sym e ∙ q)) refl
  refused {w = prepare.Cut} q = rw (cut_only s _ _ _ _ _ (sections_in list) (sym e ∙ q)) refl
  refused {w = prepare.NoPid} q = let w = without_only s _ _ _ _ _ (sections_in list) (sym e ∙ q) in rw (w.is, w.without) refl
  refused {w = prepare.TooLittle} q = let w = little_only s _ _ _ _ _ (sections_in list) (sym e ∙ q) in rw (w.is, w.opens, w.taken) refl

  pub write_refused : {w : PrepareError} → x ≡ Err w → write_as (refused_by (error.Run w)) room m ≡ written_of s₀ list room m
  write_refused q = refused q ∙ by

  module _ {run : Run} (q : x ≡ Ok run) where
    ready : Ready s (length m.keys) (length m.changes) (length m.heads) (length m.slots) (length m.cells) (sections_in list) run
    ready = ready_only s _ _ _ _ _ (sections_in list) run (sym e ∙ q)

    pub write_whole : WholeFrom list 0
    write_whole = from_start list ready.list.whole

    pub write_ran : (w : Write) → w ≡ ran_twice run room m (givens_from list 0) → w ≡ written_of s₀ list room m
    write_ran w p =
        let b : ran_twice run room m (givens_from list 0) ≡ written_by s room m (sections_in list) = rw (ready.list.is, ready.list.opens, ready.list.taken, ready.opened) refl in
        p ∙ b ∙ by

-- ---- the settings that a writer opens with

module _ (s : Settings) (w : Bool) (e : w ≡ is_with s.pids) where
  pub writer_with : w ≡ true → s ≡ as_writer s
  writer_with h = rw (← e, h) refl

  pub writer_else : w ≡ false
      → ◌≡◌ {A = Settings} (record { capacity = s.capacity; repeats = s.repeats; rule = s.rule; limit = s.limit; size = s.size; count = s.count; pids = pids.Without }) (as_writer s)
  writer_else h = rw (← e, h) refl
