-- Kinds 1 to 4 of a log are the answers 1, 2, 31 and 3 of the gate's rule to the same offers, whatever it watches and follows and whatever its counters are, as
-- long as none of them is at its end.
-- Assumes nothing.
use mathlib.Core.Path.{◌≡◌, refl, ap, ◌∙◌}
use mathlib.Core.Logic.{◌≢◌}
use mathlib.Core.Bool.{Bool, true, false, cond, ◌||◌}
use mathlib.Core.Option.{some}
use mathlib.Core.List.{List, [], ◌∷◌, map}
use Prim.Native.Nat.{ℕ, zero, suc}
use lib.Dec.{ltb}
use lib.ListN.{length}
use Rattle.laws.specs.Runs.{answers, Never}
use Rattle.answers.specs.declared.Refusal.TheVariants.{CounterFull, BadPid, BadInput}
use Rattle.section.specs.Ids.{origin_of}
use Rattle.section.specs.Judged.{rule_of, judged_of}
use Rattle.section.specs.declared.header.Judged.{Judged}
use Rattle.section.specs.declared.header.Judged.TheVariants.{Short, Mismatch, Sound}
use Rattle.ring.specs.Rules.{changed}
use Rattle.counters.specs.Counters.{any_full}
use Rattle.offers.specs.Offers.{read_as, read_of}
use Rattle.offers.specs.declared.Verdict.TheVariants.{Refused}
use Rattle.gate_state.specs.State.{number_of}
use Rattle.gate.specs.Rules.{Held, Told, admitted, carried_in, told, tells, tells_no, acts}
use Rattle.rules_logs.specs.Records.{seen_record, failed_record}
use Rattle.rules_logs.specs.Sections.{Given}
use Rattle.rules_sets.specs.Cells.{Store}
use Rattle.rules_log_run.specs.Run.{Settings, Kept, Entry, row_of, sound, judged, entry_of}
use Rattle.rules_log_run.specs.Gate.{offer_of, manner_of, kind_for, kind_in, kinds_from}

-- what a section gives the log and what the gate's rule tells of it: the same kind, and the same rows afterwards
pub record Agrees (e : Entry) (t : Told) : Type 0 where
  pub kind : kind_in e.records ≡ kind_for (number_of t.answer)
  pub rows : e.kept.rows ≡ t.held.rows

module _ (o : Settings) (follow : Bool) (s : Store) (h : Held) (g : Given) where
  abbrev kept : Kept
  kept = record { rows = h.rows; sets = s }

  abbrev section : List ℕ
  section = g.section

  judged_agrees : (j : Judged) → Agrees (judged o kept g j) (carried_in (manner_of o follow) h section (read_as (origin_of g.input g.pid) (length section) j))
  unfolding judged sound carried_in admitted seen_record failed_record kind_for
  judged_agrees Short = record { kind = refl; rows = refl }
  judged_agrees (Mismatch stored worked) = record { kind = refl; rows = refl }
  judged_agrees (Sound p) = record { kind = go (changed (row_of g p) h.rows || o.repeats); rows = refl }
    where
      go : (b : Bool) → cond b 1 2 ≡ kind_for (cond b 1 2)
      go true = refl
      go false = refl

  read_agrees : (p i : Bool) (j : Judged)
      → Agrees (cond p (cond i (judged o kept g j) (record { records = []; kept = kept })) (record { records = []; kept = kept }))
      (carried_in (manner_of o follow) h section (cond p (cond i (read_as (origin_of g.input g.pid) (length section) j) (Refused BadInput)) (Refused BadPid)))
  unfolding carried_in kind_for
  read_agrees true true j = judged_agrees j
  read_agrees true false j = record { kind = refl; rows = refl }
  read_agrees false i j = record { kind = refl; rows = refl }

  pub agrees : any_full h.counters ≡ false → Agrees (entry_of o kept g) (told (manner_of o follow) h (offer_of g))
  unfolding entry_of told read_of
  agrees e = rw e (read_agrees (ltb g.pid 8192) (ltb g.input 16) (judged_of (rule_of o.rule) section))

  -- where a counter is at its end, 11 is answered
  full_told : any_full h.counters ≡ true → tells_no (manner_of o follow) h (offer_of g) ≡ 11
  unfolding tells told carried_in
  full_told e =
      ap (λ (b : Bool). number_of (carried_in (manner_of o follow) h section (cond b (Refused CounterFull) (read_of o.rule g.input g.pid section))).answer) e

  pub counts : tells_no (manner_of o follow) h (offer_of g) ≢ 11 → any_full h.counters ≡ false
  counts n = go (any_full h.counters) refl
    where
      go : (b : Bool) → any_full h.counters ≡ b → b ≡ false
      go true e = absurd (n (full_told e))
      go false e = refl

-- THE THEOREM: of every sequence of sections, from any gate with the rows of the log's run
pub as_the_gate : (o : Settings) (follow : Bool) (gs : List Given) (s : Store) (h : Held) → Never 11 (answers (tells_no (manner_of o follow)) (acts (manner_of o follow)) h (map offer_of gs))
    → kinds_from o (record { rows = h.rows; sets = s }) gs ≡ map kind_for (answers (tells_no (manner_of o follow)) (acts (manner_of o follow)) h (map offer_of gs))
unfolding kinds_from answers tells acts
as_the_gate o follow [] s h n = refl
as_the_gate o follow (g ∷ gs) s h n =
    let a = agrees o follow s h g (counts o follow s h g (λ e. n zero (ap some e))) in
    let t : Told = told (manner_of o follow) h (offer_of g) in
    let e : Entry = entry_of o (record { rows = h.rows; sets = s }) g in
    let q : e.kept ≡ record { rows = t.held.rows; sets = e.kept.sets } = λ i. record { rows = a.rows i; sets = e.kept.sets } in
    let k = a.kind in
    let r = ap (λ (x : Kept). kinds_from o x gs) q ∙ as_the_gate o follow gs e.kept.sets t.held (λ j. n (suc j)) in
    λ i. k i ∷ r i
