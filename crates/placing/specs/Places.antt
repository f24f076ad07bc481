-- Where a section goes among the rows of a collector (docs/RULES.md, "Collectors"), for every content of the lent memory. Which cell it takes is
-- another question: that depends on what else names cells.
use Rattle.std.specs.Prelude.{ℕ, ◌+◌, ◌≤◌, ◌<◌, max, ◌≡◌, List, Bool, true, false, cond, ◌&&◌, get_or, ltb, eqb}
use Rattle.laws.specs.Lists.{same_list}
use Rattle.cells.specs.Cells.{kept_length, kept}
use Rattle.rows.specs.Rows.{row_of, room_in, room_renewed, room_new, slots_at, last_of, version_of}
use Rattle.rows.specs.declared.Entry.{Entry}
use Rattle.rows.specs.declared.Room.{Room}
use Rattle.store.specs.Store.{Store}
use Rattle.store.specs.declared.Sets.{Sets}
use Rattle.placing.specs.declared.Place.{Place}
use Rattle.placing.specs.declared.Place.TheVariants.{Conflict, Repeat, Goes}

-- row i has the section's key, version and last number, and the section's slot the word w: identical bytes are ignored, others conflict
unfoldable pub place_slot : Store → List ℕ → ℕ → ℕ → Place
place_slot s bytes i w =
    cond (eqb (kept_length w) 0) (Goes (room_in s.sets.used s.sets.evictions i))
    (cond (same_list (kept s.cells s.sets.size w) bytes) (Repeat i) (Conflict i))

-- row i has the section's key: a differing version or last number empties it
unfoldable pub place_known : Store → Entry → List ℕ → ℕ → Place
place_known s e bytes i =
    cond (eqb (version_of s.heads i) e.version && eqb (last_of s.heads i) e.last)
    (place_slot s bytes i (get_or s.slots (slots_at i + e.number) 0))
    (Goes (room_renewed s.sets.used s.sets.evictions i))

-- a new key takes a further row, or at a full limit the least recently touched one
unfoldable pub place_of : Store → Entry → List ℕ → Place
place_of s e bytes =
    let i : ℕ = row_of s.heads e.key s.sets.used in
    cond (ltb i s.sets.used) (place_known s e bytes i)
    (Goes (room_new s.heads s.sets.limit s.sets.used s.sets.evictions))

-- where a section may go: a row in use, or the next one
pub record RoomOk (s : Sets) (r : Room) : Type 0 where
  pub row : r.row < r.used
  pub room : r.used ≤ s.limit
  pub next : r.row ≤ s.used
  pub all : r.used ≤ max s.used (r.row + 1)
  pub known : r.fresh ≡ false → r.row < s.used

-- what a place may be: a row in use, or room for one within the limit
abbrev pub PlaceOk : Store → Place → Type 0
PlaceOk s (Conflict i) = i < s.sets.used
PlaceOk s (Repeat i) = i < s.sets.used
PlaceOk s (Goes r) = RoomOk s.sets r
