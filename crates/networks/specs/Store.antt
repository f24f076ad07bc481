-- What the two calls answer and leave, for every content of what is lent (docs/RULES.md, "Entries" and "Answers"). `cond test a b` is a where the test is true, else b.
use Rattle.std.specs.Prelude.{ℕ, List, cond}
use Rattle.answers.specs.declared.Refusal.TheVariants as refusal
use Rattle.rows.specs.Rows.{row_slots}
use Rattle.without_pid.specs.Pids.{without_pid}
use Rattle.store.specs.Store.{Store, whole_of}
use Rattle.handed.specs.Handed.{set_out_lem}
use Rattle.rules_networks.specs.declared.Table.{Table}
use Rattle.rules_networks.specs.Networks.{read_as}
use Rattle.network_sets.specs.declared.Read.{Read}
use Rattle.network_sets.specs.declared.ReadAnswer.TheVariants.{No, Refused}
use Rattle.network_sets.specs.Sets.{nothing_read, said_of, slots_told}

-- one section: 35, then 36, else its entries
unfoldable pub read_section : Table → (section : List ℕ) → (skip : ℕ) → (list : List ℕ) → Read × List ℕ
read_section table section skip list = said_of skip (read_as table section) list

-- a set: 10 first, then 41 where a row has no PID, then 9 where it is not one that is out, then its sections by rising number
unfoldable pub read_set : Table → Store → (row skip : ℕ) → (list : List ℕ) → Read × List ℕ
read_set table s row skip list =
    cond (whole_of s)
    (cond (without_pid s.heads s.sets.used) (nothing_read (Refused refusal.NoPid), list)
    (cond (set_out_lem s.heads s.sets.used row) (said_of skip (slots_told table s.cells s.sets.size (row_slots s.heads s.slots row) 0) list) (nothing_read No, list)))
    (nothing_read (Refused refusal.NotWhole), list)
