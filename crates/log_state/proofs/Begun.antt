-- A run that opening answers 7 for is whole, and no count of it is at its end.
-- Assumes nothing.
use Prim.Native.Nat.{ℕ}
use mathlib.Core.Path.{◌≡◌, refl}
use mathlib.Core.List.{List}
use mathlib.Core.Bool.{Bool, true, false, not, ◌&&◌}
use lib.ListN.{length}
use lib.Dec.{leb, ltb}
use native.Mathlib.Omega.{arith}
use borrow.Author.Tests.{lt-ltb, le-leb}
use Rattle.laws.proofs.Tests.{and_true}
use Rattle.section.specs.Judged.{rule_known}
use Rattle.ring.specs.Store.{room_of}
use Rattle.store.specs.Store.{asked, settings_fit, counters_full}
use Rattle.store.specs.Store.{whole_of as sets_whole}
use Rattle.rows.specs.Rows.{rows_whole}
use Rattle.log_state.specs.State.{lent, is_without, can_open, run_of, whole_of}
use Rattle.log_state.specs.declared.Settings.{Settings}

module _ (s : Settings) (keys changes heads slots cells : List ℕ) where
  pub opened_whole : can_open s (length keys) (length changes) (length heads) (length slots) (length cells) ≡ true
      → whole_of (lent (run_of s) keys changes heads slots cells) ≡ true
  unfolding whole_of sets_whole rows_whole
  opened_whole o =
      let all : ℕ = room_of s.capacity in
      let fit : Bool = settings_fit (asked s.limit s.size s.count) (length heads) (length slots) (length cells) in
      let e = and_true (leb all (length keys) && leb all (length changes) && rule_known s.rule && fit) (not (is_without s.pids)) o in
      let d = and_true (leb all (length keys) && leb all (length changes) && rule_known s.rule) fit e.0 in
      let c = and_true (leb all (length keys) && leb all (length changes)) (rule_known s.rule) d.0 in
      let b = and_true (leb all (length keys)) (leb all (length changes)) c.0 in
      let none : leb 0 all ≡ true = le-leb 0 all (omega arith) in
      let first : ltb 0 all ≡ true = lt-ltb 0 all (omega arith) in
      let rows : leb 0 s.limit ≡ true = le-leb 0 s.limit (omega arith) in
      rw (none, first, b.0, b.1, c.1, d.1, e.1, rows) refl

  pub opened_counts : counters_full (run_of s).sets ≡ false
  opened_counts = refl
