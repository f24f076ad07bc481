-- What the answers to a judged row mean: 5, 6 and 23, by the rules. e are the other rows, r is the row of key k with the section, whose last_table_id is
-- `last`.
-- Assumes nothing.
use borrow.Author.Tests.{leb-false, leb-true}
use mathlib.Core.Path.{◌≡◌, refl}
use mathlib.Core.Bool.{Bool, true, false}
use mathlib.Core.Option.{Option, none, some}
use Prim.Native.Nat.{ℕ, ◌-◌, ◌≤◌, ◌<◌}
use native.Mathlib.Omega.{arith}
use lib.Dec.{leb}
use Rattle.answers.specs.declared.Refusal.TheVariants as refusal
use Rattle.rules_shared.specs.Touch.{find}
use Rattle.rules_shared.specs.Row.{marked}
use Rattle.rules_shared.specs.Same.{Bytes}
use Rattle.rules_eit.specs.Keys.{first_of, SetKey, same_schedule}
use Rattle.rules_eit.specs.Segments.{complete}
use Rattle.rules_eit.specs.Schedules.{ScheduleOf, copy_of, whole, begin, enter, all_tables, guide}
use Rattle.rules_eit.specs.Rules.{refused, SetRow, Eit, Guide, nothing, handout, schedule, Step, set_newest, schedule_touched, told, ranged, ready, judged, judge}

module _ (limit : ℕ) (e : Eit) (k : SetKey) (last : ℕ) (r : SetRow) where
  -- the schedule with the set's copy
  abbrev pub entered : (first : ℕ) → ScheduleOf Bytes
  entered first = enter (k.table_id_of - first) (copy_of r) (begin e.sets.rows k.schedule first last (find same_schedule k.schedule e.schedules.rows))

  -- every way that judging can go
  pub data Verdict : Step → Type 0 where
    shown : r.mark ≡ true → Verdict (record { answer = nothing; eit = set_newest k r e })
    incomplete : r.mark ≡ false → complete r ≡ false → Verdict (record { answer = nothing; eit = set_newest k r e })
    presents : r.mark ≡ false → complete r ≡ true → first_of k.schedule.kind ≡ none → Verdict (record { answer = handout (whole k (copy_of r)); eit = set_newest k (marked r) e })
    outside : (first : ℕ) → r.mark ≡ false → complete r ≡ true → first_of k.schedule.kind ≡ some first → last < k.table_id_of → Verdict (record { answer = (refused refusal.Range); eit = set_newest k r e })
    enters : (first : ℕ) → r.mark ≡ false → complete r ≡ true → first_of k.schedule.kind ≡ some first → k.table_id_of ≤ last → all_tables first (entered first) ≡ false
        → Verdict (record { answer = nothing; eit = schedule_touched limit k.schedule (entered first) (set_newest k (marked r) e) })
    schedules : (first : ℕ) → r.mark ≡ false → complete r ≡ true → first_of k.schedule.kind ≡ some first → k.table_id_of ≤ last → all_tables first (entered first) ≡ true
        → Verdict (record { answer = schedule (guide k.schedule first (entered first)); eit = schedule_touched limit k.schedule (entered first) (set_newest k (marked r) e) })

  pub verdict : Verdict (judge limit e k last r)
  unfolding judge judged ready ranged told
  verdict = go r.mark (complete r) refl refl
    where
      tell : (first : ℕ) → r.mark ≡ false → complete r ≡ true → first_of k.schedule.kind ≡ some first → k.table_id_of ≤ last → (b : Bool) → all_tables first (entered first) ≡ b
          → Verdict (record { answer = told k.schedule first (entered first) b; eit = schedule_touched limit k.schedule (entered first) (set_newest k (marked r) e) })
      tell first m c f l false q = enters first m c f l q
      tell first m c f l true q = schedules first m c f l q

      in_range : (first : ℕ) → r.mark ≡ false → complete r ≡ true → first_of k.schedule.kind ≡ some first → (b : Bool) → leb k.table_id_of last ≡ b → Verdict (ranged limit e k r first b (entered first))
      in_range first m c f false q = outside first m c f (leb-false k.table_id_of last q)
      in_range first m c f true q = tell first m c f (leb-true k.table_id_of last q) (all_tables first (entered first)) refl

      goes : r.mark ≡ false → complete r ≡ true → (o : Option ℕ) → first_of k.schedule.kind ≡ o → Verdict (ready limit e k last r o)
      goes m c none f = presents m c f
      goes m c (some first) f = in_range first m c f (leb k.table_id_of last) refl

      go : (b c : Bool) → r.mark ≡ b → complete r ≡ c → Verdict (judged limit e k last r b c)
      go true c p q = shown p
      go false false p q = incomplete p q
      go false true p q = goes p q (first_of k.schedule.kind) refl

  -- 23: the set is complete, its table_id exceeds last_table_id, the section is kept and the mark stays clear
  pub record OutOfRange (t : Step) : Type 0 where
    pub complete_set : complete r ≡ true
    pub unmarked : r.mark ≡ false
    pub exceeds : last < k.table_id_of
    pub leaves : t.eit ≡ set_newest k r e

  pub range_means : (judge limit e k last r).answer ≡ (refused refusal.Range) → OutOfRange (judge limit e k last r)
  range_means h = go verdict h
    where
      go : {t : Step} → Verdict t → t.answer ≡ (refused refusal.Range) → OutOfRange t
      go (shown m) h = let z : ◌≡◌ {A = ℕ} 0 1 = cc in absurd (omega arith)
      go (incomplete m c) h = let z : ◌≡◌ {A = ℕ} 0 1 = cc in absurd (omega arith)
      go (presents m c f) h = let z : ◌≡◌ {A = ℕ} 0 1 = cc in absurd (omega arith)
      go (outside first m c f l) h = record { complete_set = c; unmarked = m; exceeds = l; leaves = refl }
      go (enters first m c f l q) h = let z : ◌≡◌ {A = ℕ} 0 1 = cc in absurd (omega arith)
      go (schedules first m c f l q) h = let z : ◌≡◌ {A = ℕ} 0 1 = cc in absurd (omega arith)

  -- 6: all tables from the first of the kind to last_table_id are there, and the schedule is what is shown
  pub record Goes (g : Guide) : Type 0 where
    pub first : ℕ
    pub is_first : first_of k.schedule.kind ≡ some first
    pub all_there : all_tables first (entered first) ≡ true
    pub shows_it : g ≡ guide k.schedule first (entered first)

  pub schedule_means : (g : Guide) → (judge limit e k last r).answer ≡ schedule g → Goes g
  schedule_means g h = go verdict h
    where
      go : {t : Step} → Verdict t → t.answer ≡ schedule g → Goes g
      go (shown m) h = let z : ◌≡◌ {A = ℕ} 0 1 = cc in absurd (omega arith)
      go (incomplete m c) h = let z : ◌≡◌ {A = ℕ} 0 1 = cc in absurd (omega arith)
      go (presents m c f) h = let z : ◌≡◌ {A = ℕ} 0 1 = cc in absurd (omega arith)
      go (outside first m c f l) h = let z : ◌≡◌ {A = ℕ} 0 1 = cc in absurd (omega arith)
      go (enters first m c f l q) h = let z : ◌≡◌ {A = ℕ} 0 1 = cc in absurd (omega arith)
      go (schedules first m c f l q) h = record { first = first; is_first = f; all_there = q; shows_it = (let z : g ≡ guide k.schedule first (entered first) = cc in z) }
