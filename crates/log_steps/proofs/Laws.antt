-- One law for each way out.
-- Assumes nothing.
use Prim.Native.Nat.{ℕ, ◌≤◌, ◌<◌}
use mathlib.Core.Path.{◌≡◌, refl, sym, ap, subst, ◌∙◌}
use mathlib.Core.List.{List, []}
use mathlib.Core.Bool.{Bool, true, false, ◌||◌}
use lib.ListN.{length, get_or}
use Rattle.answers.specs.declared.Refusal.{Refusal}
use Rattle.section.specs.Header.{header_of}
use Rattle.section.specs.Judged.{collected_of}
use Rattle.section.proofs.Facts.{takes}
use Rattle.section.specs.declared.header.Header.{Header}
use Rattle.std.specs.Prelude.{Option, Some, Result, Ok, Err}
use Rattle.answers.specs.declared.Refusal.TheVariants as refusal
use Rattle.section.specs.declared.header.Parts.{Parts}
use Rattle.rows.specs.declared.Entry.{Entry as Row}
use Rattle.rows.specs.declared.Origin.{Origin}
use Rattle.store.specs.Store.{Store}
use Rattle.arrivals.specs.Arrivals.{set_read, SetTaken, Taken}
use Rattle.sets_plan.specs.Plan.{Ready}
use Rattle.sets_settle.specs.Settle.{SetsAfter, after_push}
use Rattle.sets_settle.specs.declared.PushAnswer.{PushAnswer}
use Rattle.sets_settle.specs.declared.PushAnswer.TheVariants as push_answer
use Rattle.sets_push.specs.Pushing.{whole_pushed}
use Rattle.sets.specs.Store.{pushed_as}
use Rattle.rules_logs.specs.Records.{seen_record}
use Rattle.log_entries.specs.Entries.{entry_with, joined_of}
use Rattle.log_entries.specs.declared.Entry.{Entry}
use Rattle.log_makers.specs.Makers.{set_entry, bare_set_entry}
use Rattle.log_steps.specs.Steps.{from_for, gathered_of, seen_kind, set_entry_for, set_noted, seen_noted, PushedOk}
use Rattle.log_steps.proofs.Records.{set_small, none_small}

-- ---- the collector

module _ (s : Store) (from : Origin) (section : List ℕ) (a : Result Row Refusal) (e : a ≡ set_read from (collected_of section)) where
  pub gather_refused : (r : Refusal) → a ≡ Err r
      → after_push (record { answer = push_answer.Refused r; sets = s.sets }) s.heads s.slots s.cells ≡ gathered_of s from section
  unfolding gathered_of
  gather_refused r q = ap (pushed_as s section) (sym q ∙ e)

  pub gather_arrived : (x : Row) (k : SetsAfter) → a ≡ Ok x → k ≡ whole_pushed s x section → k ≡ gathered_of s from section
  unfolding gathered_of
  gather_arrived x k q f = f ∙ ap (pushed_as s section) (sym q ∙ e)

-- what arrives is a long form, numbered within its table
read_taken : (section : List ℕ) → get_or section 7 0 < 256 → (from : Origin) (c : Result Header Refusal) → collected_of section ≡ c → SetTaken section (set_read from c)
unfolding header_of
read_taken section b from (Err r) q = tt
read_taken section b from (Ok h) q =
    let t = takes section h (collected_of section) refl q in
    rw t.header (record { numbered = record { number = t.numbered; last = b }; long = t.room })

pub arrived_taken : (from : Origin) (section : List ℕ) (a : Result Row Refusal) (x : Row) → get_or section 7 0 < 256 → a ≡ set_read from (collected_of section) → a ≡ Ok x → Taken section x
arrived_taken from section a x b e q = subst (SetTaken section) (sym e ∙ q) (read_taken section b from (collected_of section) refl)

pub pushed_ok : (section : List ℕ) (x : Row) (p : PushAnswer) → Taken section x → PushedOk section p
pushed_ok section x push_answer.Nothing t = tt
pushed_ok section x (push_answer.Set i) t = t.long
pushed_ok section x (push_answer.Refused r) t = tt

-- ---- the records

module _ (pids : Bool) (input pid : ℕ) (section : List ℕ) (p : PushAnswer) (r : Entry) where
  pub noted_nothing : p ≡ push_answer.Nothing → r ≡ entry_with [] → r ≡ set_noted pids input pid section p
  noted_nothing q j = rw q j

  pub noted_set : (i : ℕ) → p ≡ push_answer.Set i → r ≡ set_entry_for pids input pid section → r ≡ set_noted pids input pid section p
  noted_set i q j = rw q j

  pub noted_refused : (x : Refusal) → p ≡ push_answer.Refused x → r ≡ entry_with [] → r ≡ set_noted pids input pid section p
  noted_refused x q j = rw q j

pub none_10 : (r : Entry) → r ≡ entry_with [] → r.length ≤ 10
none_10 r j = subst (λ (e : Entry). e.length ≤ 10) (sym j) none_small

pub set_10 : (pids : Bool) (input pid : ℕ) (section : List ℕ) (r : Entry) → r ≡ set_entry_for pids input pid section → r.length ≤ 10
set_10 pids input pid section r j = subst (λ (e : Entry). e.length ≤ 10) (sym j) (set_small pids input pid section)

pub noted_seen : (kind input pid : ℕ) (parts : Parts) (pids : Bool) (section : List ℕ) (p : PushAnswer) (n r : Entry)
    → n ≡ set_noted pids input pid section p → r ≡ joined_of (seen_record kind input pid parts) n → r ≡ seen_noted kind input pid parts pids section p
unfolding seen_noted
noted_seen kind input pid parts pids section p n r e j = rw (← e) j

module _ (pids : Bool) (input pid : ℕ) (section : List ℕ) (r : Entry) where
  pub entry_with_lem : (p : Option ℕ) → pids ≡ true → p ≡ Some pid → r ≡ set_entry input p section → r ≡ set_entry_for pids input pid section
  entry_with_lem p h e j = rw (h, ← e) j

  pub entry_bare : pids ≡ false → r ≡ bare_set_entry input section → r ≡ set_entry_for pids input pid section
  entry_bare h j = rw h j

-- ---- small ones

module _ (pids : Bool) (input pid : ℕ) where
  pub from_pid : pids ≡ true → ◌≡◌ {A = Origin} (record { input = input; pid = pid }) (from_for pids input pid)
  from_pid h = rw h

  pub from_none : pids ≡ false → ◌≡◌ {A = Origin} (record { input = input; pid = 8192 }) (from_for pids input pid)
  from_none h = rw h

module _ (changed repeats : Bool) where
  pub kind_emitted : (changed || repeats) ≡ true → 1 ≡ seen_kind changed repeats
  kind_emitted h = rw h

  pub kind_suppressed : (changed || repeats) ≡ false → 2 ≡ seen_kind changed repeats
  kind_suppressed h = rw h
