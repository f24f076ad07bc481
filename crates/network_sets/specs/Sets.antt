-- The entries of the sections of a row, and what is told of them (docs/RULES.md, "Entries"). `cond test a b` is a where the test is true, else b.
use Rattle.std.specs.Prelude.{ℕ, ◌+◌, ◌*◌, ◌≤◌, ◌<◌, ◌≡◌, List, [], ◌∷◌, ◌++◌, Bool, true, false, cond, length, get_or, ltb, eqb, Result, Ok, Err}
use Rattle.answers.specs.Answers.{refusal_no}
use Rattle.cells.specs.Cells.{cell_number, filled, kept, slot_whole, all_whole}
use Rattle.listing.specs.Store.{put_all}
use Rattle.rules_networks.specs.declared.Table.{Table}
use Rattle.rules_networks.specs.Networks.{fault_of, entries_of, Told, other_table, broken_loop, entries, read_at, and_then}
use Rattle.network_sets.specs.declared.ReadAnswer.{ReadAnswer}
use Rattle.network_sets.specs.declared.ReadAnswer.TheVariants.{Yes, No, Refused, OtherTable, BrokenLoop}
use Rattle.network_sets.specs.declared.Read.{Read}
use Rattle.network_sets.specs.declared.RefusedSection.{RefusedSection}
use Rattle.network_faults.specs.declared.Fault.{Fault}
use Rattle.network_faults.specs.declared.Fault.TheVariants as why
use Rattle.network_faults.specs.Faults.{fault_kind}

-- ---- answers

abbrev pub read_number : ReadAnswer → ℕ
-- there are entries from the one asked for on
read_number Yes = 8
read_number No = 9
read_number (Refused r) = refusal_no r
-- a table_id that is none of the reader's
read_number OtherTable = 35
-- a loop that does not end where its length says
read_number BrokenLoop = 36

abbrev pub read_of : ReadAnswer → (count section place : ℕ) → Read
read_of answer count section place = record { answer = answer; count = count; section = section; place = place }

abbrev pub nothing_read : ReadAnswer → Read
nothing_read answer = read_of answer 0 0 0

-- all is listed: 8 where there are entries past those that the list passes over, 9 where there are none
abbrev pub ended_at : (skip count : ℕ) → Read
ended_at skip count = read_of (cond (ltb skip count) Yes No) count 0 0

abbrev pub refused_as : (section : ℕ) → Fault → Read
refused_as section why.OtherTable = read_of OtherTable 0 section 0
refused_as section (why.BrokenLoop place) = read_of BrokenLoop 0 section place

-- what is told, and the list: as before with 35 and 36, else with the entries in its window
abbrev pub said_of : (skip : ℕ) → Told → (list : List ℕ) → Read × List ℕ
said_of skip (other_table section) list = (read_of OtherTable 0 section 0, list)
said_of skip (broken_loop section place) list = (read_of BrokenLoop 0 section place, list)
said_of skip (entries es) list = (ended_at skip (length es), put_all list skip 0 es)

-- ---- the slots of a row

-- the section that a slot's word names, if it names one
unfoldable pub slot_told : Table → (cells : List ℕ) → (size w number : ℕ) → Told
slot_told t cells size w number = cond (filled w) (read_at t (cell_number w * size) number (kept cells size w)) (entries [])

-- the sections of filled slots by rising number; the first slot has this one
unfoldable pub slots_told : Table → (cells : List ℕ) → (size : ℕ) → (slots : List ℕ) → (number : ℕ) → Told
slots_told t cells size [] number = entries []
slots_told t cells size (w ∷ ws) number = and_then (slot_told t cells size w number) (slots_told t cells size ws (number + 1))

-- ---- the same in two passes: is one refused, and what they list

unfoldable pub slot_fault : Table → (cells : List ℕ) → (size w : ℕ) → ℕ
slot_fault t cells size w = cond (filled w) (fault_of t (kept cells size w)) 0

-- the first section that is refused, and the number of its fault: 0 and 0 where none is
pub record FirstFault : Type 0 where
  pub section : ℕ
  pub fault : ℕ

abbrev pub fault_at : (section fault : ℕ) → FirstFault
fault_at section fault = record { section = section; fault = fault }

unfoldable pub slots_fault : Table → (cells : List ℕ) → (size : ℕ) → (slots : List ℕ) → (number : ℕ) → FirstFault
slots_fault t cells size [] number = fault_at 0 0
slots_fault t cells size (w ∷ ws) number = cond (eqb (slot_fault t cells size w) 0) (slots_fault t cells size ws (number + 1)) (fault_at number (slot_fault t cells size w))

abbrev pub first_refused : FirstFault → Result Unit RefusedSection
first_refused f = cond (eqb f.fault 0) (Ok tt) (Err (record { section = f.section; fault = fault_kind f.fault }))

unfoldable pub slot_entries : Table → (cells : List ℕ) → (size w number : ℕ) → List (List ℕ)
slot_entries t cells size w number = cond (filled w) (entries_of t (cell_number w * size) number (kept cells size w)) []

unfoldable pub slots_entries : Table → (cells : List ℕ) → (size : ℕ) → (slots : List ℕ) → (number : ℕ) → List (List ℕ)
slots_entries t cells size [] number = []
slots_entries t cells size (w ∷ ws) number = slot_entries t cells size w number ++ slots_entries t cells size ws (number + 1)

-- ---- what the parts ask

-- a slot of a store that is whole, with cells of that length in all
pub record SlotIn (long size w : ℕ) : Type 0 where
  pub count : ℕ
  pub whole : slot_whole count size w ≡ true
  pub room : count * size ≤ long
  pub small : size ≤ 4096

pub record SlotsIn (long size : ℕ) (slots : List ℕ) : Type 0 where
  pub count : ℕ
  pub whole : all_whole count size slots ≡ true
  pub room : count * size ≤ long
  pub small : size ≤ 4096
  pub few : length slots ≤ 256

-- the section of no slot is refused
pub record AllTaken (t : Table) (cells : List ℕ) (size : ℕ) (slots : List ℕ) : Type 0 where
  pub each : (j : ℕ) → j < length slots → slot_fault t cells size (get_or slots j 0) ≡ 0

-- ---- the same as a list: what is told of each filled slot's section, by rising number, and one after another

unfoldable pub sections_told : Table → (cells : List ℕ) → (size : ℕ) → (slots : List ℕ) → (number : ℕ) → List Told
sections_told t cells size [] number = []
sections_told t cells size (w ∷ ws) number =
    cond (filled w) (read_at t (cell_number w * size) number (kept cells size w) ∷ sections_told t cells size ws (number + 1)) (sections_told t cells size ws (number + 1))

unfoldable pub in_order : List Told → Told
in_order [] = entries []
in_order (a ∷ xs) = and_then a (in_order xs)

-- none of them is refused, and these are the entries of all
pub data AllListed : List Told → List (List ℕ) → Type 0 where
  listed_none : AllListed [] []
  listed_more : (a : List (List ℕ)) {xs : List Told} {es : List (List ℕ)} → AllListed xs es → AllListed (entries a ∷ xs) (a ++ es)

-- 35 or 36
abbrev pub is_refused : Told → Bool
is_refused (other_table section) = true
is_refused (broken_loop section place) = true
is_refused (entries es) = false
