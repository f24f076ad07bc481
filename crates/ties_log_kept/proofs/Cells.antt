-- What the cells held before matters to no record: two runs with the same rows, over collectors that are alike, give the same records.
-- Assumes nothing.
use mathlib.Core.Path.{◌≡◌, refl, ap}
use mathlib.Core.Bool.{Bool, true, false, cond}
use mathlib.Core.List.{List, [], ◌∷◌, ◌++◌}
use lib.Dec.{ltb}
use lib.ListN.{length}
use Rattle.ring.specs.Rules.{offered_to}
use Rattle.section.specs.Judged.{rule_of, judged_of}
use Rattle.section.specs.declared.header.Judged.{Judged}
use Rattle.section.specs.declared.header.Judged.TheVariants.{Short, Mismatch, Sound}
use Rattle.rules_shared.specs.Cells.{Cells}
use Rattle.rules_shared.specs.Touch.{untouched, seen_as, on_order}
use Rattle.rules_sets.specs.Cells.{on_sets, view}
use Rattle.ties_memory.specs.Alike.{Alike}
use Rattle.ties_memory.proofs.Memory.{answers_alike, stays_alike}
use Rattle.rules_logs.specs.Records.{Bytes, seen_record}
use Rattle.rules_logs.specs.Sections.{Given}
use Rattle.rules_log_run.specs.Run.{Settings, Kept, Entry, opened_over, pushed, set_records, row_of, kind_of, sound, judged, entry_of, records_from}
use Rattle.laws.specs.Runs.{answers}
use Rattle.rules_log_run.specs.Entries.{rules_give, rules_leave, entries_from, joined}

record Same (k l : Kept) : Type 0 where
  rows : k.rows ≡ l.rows
  sets : Alike k.sets l.sets

record SameEntry (e f : Entry) : Type 0 where
  records : e.records ≡ f.records
  kept : Same e.kept f.kept

module _ (o : Settings) (k l : Kept) (s : Same k l) (g : Given) where
  judged_same : (j : Judged) → SameEntry (judged o k g j) (judged o l g j)
  unfolding judged sound
  judged_same Short = record { records = refl; kept = s }
  judged_same (Mismatch stored worked) = record { records = refl; kept = s }
  judged_same (Sound p) =
      let a = answers_alike k.sets l.sets s.sets (pushed o g) in
      let r = s.rows in
      record {
        records = λ i. seen_record (kind_of o (r i) (row_of g p)) g.input g.pid p ∷ set_records o.pids (a i);
        kept = record { rows = ap (offered_to o.capacity (row_of g p)) r; sets = stays_alike k.sets l.sets s.sets (pushed o g) };
      }

  entry_same : SameEntry (entry_of o k g) (entry_of o l g)
  unfolding entry_of
  entry_same = go (ltb g.pid 8192) (ltb g.input 16) (judged_of (rule_of o.rule) g.section)
    where
      go : (p i : Bool) (j : Judged) → SameEntry (cond p (cond i (judged o k g j) (record { records = []; kept = k })) (record { records = []; kept = k }))
          (cond p (cond i (judged o l g j) (record { records = []; kept = l })) (record { records = []; kept = l }))
      go true true j = judged_same j
      go true false j = record { records = refl; kept = s }
      go false i j = record { records = refl; kept = s }

same_entries : (o : Settings) (gs : List Given) (k l : Kept) → Same k l → entries_from o k gs ≡ entries_from o l gs
unfolding answers rules_give rules_leave
same_entries o [] k l s = refl
same_entries o (g ∷ gs) k l s =
    let e = entry_same o k l s g in
    let p = e.records in
    let q = same_entries o gs (entry_of o k g).kept (entry_of o l g).kept e.kept in
    λ i. p i ∷ q i

-- the records of sections are those of their entries
pub entries_joined : (o : Settings) (gs : List Given) (k : Kept) → joined (entries_from o k gs) ≡ records_from o k gs
unfolding answers rules_give rules_leave joined records_from
entries_joined o [] k = refl
entries_joined o (g ∷ gs) k = ap (λ (l : List Bytes). (entry_of o k g).records ++ l) (entries_joined o gs (entry_of o k g).kept)

-- from opening on: as many cells are enough
pub cells_do_not_matter : (o : Settings) (C D : Cells) → length C ≡ length D → (gs : List Given) → entries_from o (opened_over o C) gs ≡ entries_from o (opened_over o D) gs
unfolding view on_sets on_order seen_as untouched
cells_do_not_matter o C D n gs = same_entries o gs (opened_over o C) (opened_over o D) (record { rows = refl; sets = record { settings = refl; sets = refl; count = n; clock = refl; shown = refl } })
