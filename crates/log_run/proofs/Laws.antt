-- One law for each way out.
-- Assumes nothing.
use Prim.Native.Nat.{ℕ, ◌<◌}
use mathlib.Core.Path.{◌≡◌, sym, ap, subst, ◌∙◌}
use mathlib.Core.List.{List, [], ◌∷◌, append-nil}
use mathlib.Core.Bool.{Bool}
use lib.ListN.{length}
use borrow.Author.Tests.{lt-ltb}
use Rattle.rows.specs.declared.Origin.{Origin}
use Rattle.ring.specs.Store.{stamp_of, seen_of, keys_after, changes_after}
use Rattle.ring.specs.declared.Seen.{Seen}
use Rattle.store.specs.Store.{Store, store}
use Rattle.sets_settle.specs.Settle.{after_push}
use Rattle.sets_settle.specs.declared.Pushed.{Pushed}
use Rattle.rules_logs.specs.Records.{Bytes, seen_record, failed_record}
use Rattle.rules_logs.specs.Verdict.{log_of}
use Rattle.log_entries.specs.Entries.{entry_with, failed_kind}
use Rattle.log_entries.specs.declared.Entry.{Entry}
use Rattle.log_steps.specs.Steps.{from_for, gathered_of, seen_kind, set_records, seen_noted, PushedOk}
use Rattle.log_steps.proofs.Records.{seen_made}
use Rattle.log_state.specs.State.{is_with, Lent, lent, sets_in, ruling_by, ruling_of, Arrives, RulingOk}
use Rattle.log_state.specs.declared.Run.{Run}
use Rattle.log_state.specs.declared.Sight.{Sight}
use Rattle.std.specs.Prelude.{Result, Ok, Err}
use Rattle.log_state.specs.declared.TakeError.{TakeError}
use Rattle.log_state.specs.declared.Ruling.{Ruling}
use Rattle.log_state.specs.declared.Ruling.TheVariants as ruling
use Rattle.log_run.specs.Store.{Shown, shown, after_take, run_with, seen_in, ruled, taking, taken_of}

-- ---- a section that arrived

pub seen_left : (s : Lent) (input pid : ℕ) (section : Bytes) (x : Sight) (with : Bool) (from : Origin) (seen : Seen) (ks cs : List ℕ) (pushed : Pushed) (hs ss zs : List ℕ) (kind : ℕ) (e : Entry)
    → input < 16 → pid < 8192
    → with ≡ is_with s.run.pids
    → from ≡ from_for with input pid
    → seen ≡ seen_of s.run.ring s.keys s.changes x.key (stamp_of x.parts.version x.parts.change)
    → ks ≡ keys_after s.run.ring s.keys x.key
    → cs ≡ changes_after s.run.ring s.keys s.changes x.key (stamp_of x.parts.version x.parts.change)
    → after_push pushed hs ss zs ≡ gathered_of (sets_in s) from section
    → PushedOk section pushed.answer
    → kind ≡ seen_kind seen.changed s.run.repeats
    → e ≡ seen_noted kind input pid x.parts with section pushed.answer
    → after_take (record { answer = Ok tt; entry = e; run = run_with s.run seen.ring pushed.sets }) ks cs hs ss zs ≡ shown (seen_in s input pid section x)
unfolding seen_in
seen_left s input pid section x with from seen ks cs pushed hs ss zs kind e i p t f a k c push o n j =
    let pids : Bool = is_with s.run.pids in
    let repeats : Bool = s.run.repeats in
    let left : after_push pushed hs ss zs ≡ gathered_of (sets_in s) (from_for pids input pid) section =
    push ∙ ap (λ (o : Origin). gathered_of (sets_in s) o section) (f ∙ ap (λ (b : Bool). from_for b input pid) t) in
    let made = seen_made input pid pids section (lt-ltb input 16 i) (lt-ltb pid 8192 p) (seen_kind seen.changed repeats) x.parts pushed.answer (store pushed.sets hs ss zs) o in
    let entry = j ∙ (λ z. seen_noted (n z) input pid x.parts (t z) section pushed.answer) ∙ made
    ∙ (λ z. entry_with (log_of (seen_record (seen_kind (a z).changed repeats) input pid x.parts ∷ set_records pids input pid section (left z).told))) in
    λ z. record {
      answer = Ok tt;
      entry = entry z;
      left = lent (run_with s.run (a z).ring (left z).store.sets) (k z) (c z) (left z).store.heads (left z).store.slots (left z).store.cells;
    }

-- ---- every section

module _ (s : Lent) (input pid : ℕ) (section : Bytes) (r : Result Ruling TakeError) (e : r ≡ ruling_by s.run (length s.keys) (length s.changes) (sets_in s) input pid section) where
  ruled_as : (q : Result Ruling TakeError) → r ≡ q → shown (ruled s input pid section q) ≡ taken_of s input pid section
  unfolding taken_of taking ruling_of
  ruled_as q h = ap (λ (z : Result Ruling TakeError). shown (ruled s input pid section z)) (sym h ∙ e)

  pub taken_refused : (a : TakeError) (n : Entry) → r ≡ Err a → n ≡ entry_with []
      → after_take (record { answer = Err a; entry = n; run = s.run }) s.keys s.changes s.heads s.slots s.cells ≡ taken_of s input pid section
  unfolding ruled log_of
  taken_refused a n q j = (λ z. record { answer = Err a; entry = j z; left = s }) ∙ ruled_as (Err a) q

  pub taken_failed : (short : Bool) (n : Entry) → r ≡ Ok (ruling.Failed short) → n ≡ entry_with (failed_record (failed_kind short) input pid (length section))
      → after_take (record { answer = Ok tt; entry = n; run = s.run }) s.keys s.changes s.heads s.slots s.cells ≡ taken_of s input pid section
  unfolding ruled log_of
  taken_failed short n q j =
      (λ z. record { answer = Ok tt; entry = (j ∙ ap entry_with (sym (append-nil (failed_record (failed_kind short) input pid (length section))))) z; left = s })
      ∙ ruled_as (Ok (ruling.Failed short)) q

  pub taken_arrived : (x : Sight) (l : Shown) → r ≡ Ok (ruling.Arrived x) → l ≡ shown (seen_in s input pid section x) → l ≡ taken_of s input pid section
  unfolding ruled
  taken_arrived x l q j = j ∙ ruled_as (Ok (ruling.Arrived x)) q

-- what a caller learns of a ruling
module _ (run : Run) (keys changes : ℕ) (sets : Store) (input pid : ℕ) (section : Bytes) (r : Result Ruling TakeError) (o : RulingOk run keys changes sets input pid section r) where
  pub failed_fits : (short : Bool) → r ≡ Ok (ruling.Failed short) → length section < 65536
  failed_fits short q = subst (RulingOk run keys changes sets input pid section) q o

  pub arrives : (x : Sight) → r ≡ Ok (ruling.Arrived x) → Arrives run keys changes sets input pid
  arrives x q = subst (RulingOk run keys changes sets input pid section) q o
