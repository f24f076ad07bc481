-- 10, 41 and 14 leave the list and the three words as they were, whatever the lent words hold. A row that was not handed out, or is not in use, leaves the list too.
-- Assumes nothing.
use Prim.Native.Nat.{ℕ, ◌+◌, ◌*◌}
use mathlib.Core.Path.{◌≡◌, sym, ap, ◌∙◌}
use mathlib.Core.List.{List}
use mathlib.Core.Bool.{Bool, true, false, cond, true≢false}
use lib.ListN.{length}
use lib.Dec.{ltb}
use Rattle.answers.specs.declared.Refusal.TheVariants as refusal
use Rattle.section.specs.Header.{byte_at}
use Rattle.section.specs.Judged.{malformed}
use Rattle.rows.specs.Rows.{row_slots}
use Rattle.units.specs.Units.{unit_slots}
use Rattle.eit_state.specs.State.{Store, store, whole_of}
use Rattle.eit_pids.specs.Rows.{any_without}
use Rattle.shown_sections.specs.declared.Shown.{Shown}
use Rattle.shown_sections.specs.declared.ShowAnswer.TheVariants.{Yes, No, Refused}
use Rattle.shown_sections.specs.Shown.{Show, End, finished, no_eit, broken, past_loop, show_number, nothing_shown, reached_as, told_by, laid, section_show, slots_show}
use Rattle.handed.specs.Handed.{set_out_lem}
use Rattle.showing.specs.Store.{table_out, shown_section, shown_set, shown_table}
use Rattle.host_eit_words.specs.Words.{eit_of}
use Rattle.host_showing.specs.Calls.{tells_nothing, listing, handed, section_listed, set_listed, table_listed}

-- a walk that was begun is answered 8, 9, 18, 19 or 32, so neither 10 nor 41 nor 14
walked_not : (k : ℕ) → tells_nothing k ≡ true → (skip n : ℕ) (e : End) → k ≡ show_number (told_by skip (reached_as n e)).answer → ⊥
walked_not k g skip n finished f = go (ltb skip n) f
  where
    go : (b : Bool) → k ≡ show_number (cond b Yes No) → ⊥
    go true f = true≢false (sym g ∙ ap tells_nothing f)
    go false f = true≢false (sym g ∙ ap tells_nothing f)
walked_not k g skip n (no_eit s) f = true≢false (sym g ∙ ap tells_nothing f)
walked_not k g skip n (broken s) f = true≢false (sym g ∙ ap tells_nothing f)
walked_not k g skip n (past_loop s p) f = true≢false (sym g ∙ ap tells_nothing f)

laid_not : (k : ℕ) → tells_nothing k ≡ true → (skip : ℕ) (s : Show) (list : List ℕ) → k ≡ show_number (laid skip s list).0.answer → ⊥
unfolding laid
laid_not k g skip s list f = walked_not k g skip (length s.entries) s.end f

-- 14
pub events_refused :
    (section : List ℕ) (skip : ℕ) (list listed : List ℕ) (answer : ℕ) → answer ≡ (section_listed section skip list listed).answer → answer ≡ 14 →
    section_listed section skip list listed ≡ listing answer listed list
unfolding section_listed shown_section
events_refused section skip list listed answer e h = go (malformed section) (section_show section 0 (length section) (byte_at section 6)) e
  where
    go :
        (m : Bool) (found : Show) → answer ≡ show_number (cond m (nothing_shown (Refused refusal.Malformed), list) (laid skip found list)).0.answer →
        handed (cond m (nothing_shown (Refused refusal.Malformed), list) (laid skip found list)) listed ≡ listing answer listed list
    go true found e = ap (λ (n : ℕ). listing n listed list) (sym e)
    go false found e = absurd (laid_not answer (ap tells_nothing h) skip found list e)

module _ (eit heads slots cells schedule_heads units : List ℕ) (skip : ℕ) (list listed : List ℕ) (answer : ℕ) (h : tells_nothing answer ≡ true) where
  abbrev s : Store
  s = store (eit_of eit) heads slots cells schedule_heads units

  -- what is read of a store that is whole
  abbrev asked : (whole without out : Bool) → Show → Shown × List ℕ
  asked whole without out found =
      cond whole
      (cond without (nothing_shown (Refused refusal.NoPid), list) (cond out (laid skip found list) (nothing_shown No, list)))
      (nothing_shown (Refused refusal.NotWhole), list)

  within : (whole without out : Bool) (found : Show) → answer ≡ show_number (asked whole without out found).0.answer → handed (asked whole without out found) listed ≡ listing answer listed list
  within false without out found e = ap (λ (n : ℕ). listing n listed list) (sym e)
  within true true out found e = ap (λ (n : ℕ). listing n listed list) (sym e)
  within true false true found e = absurd (laid_not answer h skip found list e)
  within true false false found e = absurd (true≢false (sym h ∙ ap tells_nothing e))

  -- 10 and 41
  pub eit_events_refused :
      (row : ℕ) → answer ≡ (set_listed eit heads slots cells schedule_heads units row skip list listed).answer →
      set_listed eit heads slots cells schedule_heads units row skip list listed ≡ listing answer listed list
  unfolding set_listed shown_set
  eit_events_refused row e = within (whole_of s) (any_without (eit_of eit) heads schedule_heads) (set_out_lem heads (eit_of eit).sets.used row) (slots_show cells (eit_of eit).sets.size (row_slots heads slots row) 0) e

  pub eit_events_in_schedule_refused :
      (row table : ℕ) → answer ≡ (table_listed eit heads slots cells schedule_heads units row table skip list listed).answer →
      table_listed eit heads slots cells schedule_heads units row table skip list listed ≡ listing answer listed list
  unfolding table_listed shown_table
  eit_events_in_schedule_refused row table e =
      within (whole_of s) (any_without (eit_of eit) heads schedule_heads) (table_out schedule_heads units (eit_of eit).schedules row table) (slots_show cells (eit_of eit).sets.size (unit_slots units (row * 16 + table)) 0) e
