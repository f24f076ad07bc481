-- What becomes of a set once its row is the newest (docs/RULES.md, "Collectors"). `cond test a b` is a where the test is true, else b.
use Rattle.std.specs.Prelude.{ℕ, List, Bool, true, false, cond, ◌&&◌, ltb, eqb}
use Rattle.rows.specs.Rows.{mark_of}
use Rattle.arrivals.specs.declared.Arrival.{Arrival}
use Rattle.segments.specs.Segments.{set_complete}
use Rattle.eit_becomes.specs.declared.Becomes.{Becomes}
use Rattle.eit_becomes.specs.declared.Becomes.TheVariants as becomes

-- the table_id of an arrival
abbrev pub own_table : Arrival → ℕ
own_table a = a.entry.key.table_id

-- of the set in row i: where it is complete and not marked, a present/following set goes out at once, one of a schedule kind "whose table_id
-- exceeds the arriving section's last_table_id is refused (23)", and any other enters its schedule
unfoldable pub becomes_of : (heads slots : List ℕ) → Arrival → ℕ → Becomes
becomes_of heads slots a i =
    cond (eqb (mark_of heads i) 0 && set_complete heads slots i)
    (cond (ltb a.kind 2) becomes.GoesOut
    (cond (ltb a.tables (own_table a)) becomes.OutOfRange becomes.Enters))
    becomes.Stays

-- a set that goes out or enters its schedule is marked; 23 leaves "the mark clear"
abbrev pub is_marked : Becomes → Bool
is_marked becomes.Stays = false
is_marked becomes.GoesOut = true
is_marked becomes.OutOfRange = false
is_marked becomes.Enters = true
