-- What is made are records, each of the size of its kind: at most 10 bytes of a set, and behind the gate's 13 at most 23 in all.
-- Assumes nothing.
use Prim.Native.Nat.{ℕ, ◌≤◌}
use mathlib.Core.Path.{◌≡◌, refl, sym, ap, ◌∙◌}
use mathlib.Core.List.{[], ◌∷◌, append-nil}
use mathlib.Core.Bool.{Bool, true, false, cond, ◌&&◌}
use lib.ListN.{length}
use lib.Dec.{leb, ltb}
use native.Mathlib.Omega.{arith}
use borrow.Author.Tests.{le-leb}
use Rattle.section.specs.declared.header.Parts.{Parts}
use Rattle.std.specs.Prelude.{Some}
use Rattle.store.specs.Store.{Store}
use Rattle.sets_settle.specs.Settle.{Told, done, nothing, handed, refused, answer_of}
use Rattle.sets_settle.specs.declared.PushAnswer.{PushAnswer}
use Rattle.sets_settle.specs.declared.PushAnswer.TheVariants as push_answer
use Rattle.rules_logs.specs.Records.{Bytes, record_size, seen_record, failed_record, set_record, bare_set_record}
use Rattle.rules_logs.specs.Verdict.{log_of, IsRecord, AllRecords}
use Rattle.log_entries.specs.Entries.{entry_with, joined_of, failed_kind}
use Rattle.log_entries.proofs.Entries.{joined_entry}
use Rattle.log_makers.specs.Makers.{set_record_of, bare_record_of, set_entry, bare_set_entry}
use Rattle.log_steps.specs.Steps.{line_for, seen_kind, set_records, set_entry_for, set_noted, seen_noted, PushedOk}

-- ---- sizes

pub seen_13 : (kind input pid : ℕ) (p : Parts) → length (seen_record kind input pid p) ≡ 13
unfolding seen_record
seen_13 kind input pid p = refl

pub set_10_long : (pids : Bool) (input pid : ℕ) (section : Bytes) → length (line_for pids input pid section) ≤ 10
unfolding set_record bare_set_record
set_10_long true input pid section = omega arith
set_10_long false input pid section = omega arith

pub none_small : (entry_with []).length ≤ 10
unfolding entry_with
none_small = omega arith

pub set_small : (pids : Bool) (input pid : ℕ) (section : Bytes) → (set_entry_for pids input pid section).length ≤ 10
unfolding set_entry bare_set_entry entry_with
set_small true input pid section = go (ltb input 16 && ltb pid 8192 && leb 12 (length section))
  where
    go : (b : Bool) → length (cond b (set_record_of input (Some pid) section) []) ≤ 10
    go true = set_10_long true input pid section
    go false = omega arith
set_small false input pid section = go (ltb input 16 && leb 12 (length section))
  where
    go : (b : Bool) → length (cond b (bare_record_of input section) []) ≤ 10
    go true = set_10_long false input pid section
    go false = omega arith

pub sets_small : (pids : Bool) (input pid : ℕ) (section : Bytes) (t : Told) → length (log_of (set_records pids input pid section t)) ≤ 10
unfolding log_of
sets_small pids input pid section done = omega arith
sets_small pids input pid section nothing = omega arith
sets_small pids input pid section (handed h) = rw (append-nil (line_for pids input pid section)) (set_10_long pids input pid section)
sets_small pids input pid section (refused r) = omega arith

-- ---- what is made is what is told

module _ (input pid : ℕ) (pids : Bool) (section : Bytes) (i : ltb input 16 ≡ true) (p : ltb pid 8192 ≡ true) where
  line_made : (b : Bool) → 12 ≤ length section → set_entry_for b input pid section ≡ entry_with (line_for b input pid section)
  unfolding set_entry bare_set_entry
  line_made true o = rw (i, p, le-leb 12 (length section) o) refl
  line_made false o = rw (i, le-leb 12 (length section) o) refl

  pub set_made_lem : (a : PushAnswer) (s : Store) → PushedOk section a
      → set_noted pids input pid section a ≡ entry_with (log_of (set_records pids input pid section (answer_of a s)))
  unfolding log_of
  set_made_lem push_answer.Nothing s o = refl
  set_made_lem (push_answer.Set j) s o = line_made pids o ∙ ap entry_with (sym (append-nil (line_for pids input pid section)))
  set_made_lem (push_answer.Refused r) s o = refl

  pub seen_made : (kind : ℕ) (parts : Parts) (a : PushAnswer) (s : Store) → PushedOk section a
      → seen_noted kind input pid parts pids section a
      ≡ entry_with (log_of (seen_record kind input pid parts ∷ set_records pids input pid section (answer_of a s)))
  unfolding log_of seen_noted
  seen_made kind parts a s o =
      let one : Bytes = seen_record kind input pid parts in
      let more : Bytes = log_of (set_records pids input pid section (answer_of a s)) in
      ap (joined_of one) (set_made_lem a s o) ∙ joined_entry one more (seen_13 kind input pid parts) (sets_small pids input pid section (answer_of a s))

-- ---- they are records

pub seen_is_record : (changed repeats : Bool) (input pid : ℕ) (p : Parts) → IsRecord (seen_record (seen_kind changed repeats) input pid p)
unfolding seen_record record_size
seen_is_record true repeats input pid p = record { known = omega arith; sized = refl }
seen_is_record false true input pid p = record { known = omega arith; sized = refl }
seen_is_record false false input pid p = record { known = omega arith; sized = refl }

pub failed_is_record : (short : Bool) (input pid n : ℕ) → IsRecord (failed_record (failed_kind short) input pid n)
unfolding failed_record record_size
failed_is_record true input pid n = record { known = omega arith; sized = refl }
failed_is_record false input pid n = record { known = omega arith; sized = refl }

pub set_is_record : (pids : Bool) (input pid : ℕ) (section : Bytes) → IsRecord (line_for pids input pid section)
unfolding set_record bare_set_record record_size
set_is_record true input pid section = record { known = omega arith; sized = refl }
set_is_record false input pid section = record { known = omega arith; sized = refl }

pub sets_are_records : (pids : Bool) (input pid : ℕ) (section : Bytes) (t : Told) → AllRecords (set_records pids input pid section t)
sets_are_records pids input pid section done = tt
sets_are_records pids input pid section nothing = tt
sets_are_records pids input pid section (handed h) = (set_is_record pids input pid section, tt)
sets_are_records pids input pid section (refused r) = tt
