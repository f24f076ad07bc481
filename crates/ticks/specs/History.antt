-- Sections, drops and clearings one after another: the heads as `rows` leaves them, and the touch order as the rules have it.
-- Left out: what a row holds, a known row that begins anew, and the end of the counts (11). What a drop leaves (`last_to`) is `removed_heads` of the crate filter.
-- Assumes nothing.
use Rattle.std.specs.Prelude.{ℕ, ◌+◌, ◌-◌, ◌*◌, List, [], ◌∷◌, cond, not, ltb, take, drop}
use Rattle.std.proofs.Math.Seq.{paste}
use Rattle.rules_shared.specs.Touch.{TouchOrder, touch, emptied, retained}
use Rattle.rows.specs.declared.Key.{Key}
use Rattle.rows.specs.declared.Entry.{Entry}
use Rattle.rows.specs.declared.Room.{Room}
use Rattle.rows.specs.Rows.{same_key, row_of, touched, room_in, room_new, kept_heads}
use Rattle.ticks.specs.Order.{order_seen}

-- heads, how many rows are in use, the clock and the evictions
pub record Heads : Type 0 where
  pub words : List ℕ
  pub used : ℕ
  pub clock : ℕ
  pub evictions : ℕ

-- "opened: no rows, counts 0"; what the heads hold does not matter
abbrev pub opened : List ℕ → Heads
opened words = record { words = words; used = 0; clock = 0; evictions = 0 }

-- the row of the key, or room for it
unfoldable pub room_for : ℕ → Heads → Key → Room
room_for limit h key =
    let i : ℕ = row_of h.words key h.used in
    cond (ltb i h.used) (room_in h.used h.evictions i) (room_new h.words limit h.used h.evictions)

-- the head of that row is written, the clock rises by one, and the row has its tick
unfoldable pub touched_in : Heads → Entry → Room → Heads
touched_in h e r = record { words = touched (h.clock + 1) r.row (kept_heads r e h.words); used = r.used; clock = h.clock + 1; evictions = r.evictions }

-- row i leaves: the last row in use takes its place, with its tick
unfoldable pub last_to : (used i : ℕ) → List ℕ → List ℕ
last_to used i words = paste words (i * 12) (take 12 (drop ((used - 1) * 12) words)) 12

abbrev pub without : Heads → ℕ → Heads
without h i = record { words = last_to h.used i h.words; used = h.used - 1; clock = h.clock; evictions = h.evictions }

-- what happens: a section of that entry, the key is dropped, or all is cleared
pub data Call : Type 0 where
  section : Entry → Call
  drops : Key → Call
  clears : Call

-- .. in the memory. Neither a drop nor a clearing changes the clock
unfoldable pub acts : ℕ → Heads → Call → Heads
acts limit h (section e) = touched_in h e (room_for limit h e.key)
acts limit h (drops key) = let i : ℕ = row_of h.words key h.used in cond (ltb i h.used) (without h i) h
acts limit h clears = record { words = h.words; used = 0; clock = h.clock; evictions = h.evictions }

unfoldable pub acts_all : ℕ → List Call → Heads → Heads
acts_all limit [] h = h
acts_all limit (c ∷ cs) h = acts_all limit cs (acts limit h c)

-- .. and by the rules
abbrev pub OfKeys : Type 0
OfKeys = TouchOrder Key (Unit {0})

unfoldable pub ruled : ℕ → OfKeys → Call → OfKeys
ruled limit t (section e) = touch same_key limit e.key tt t
ruled limit t (drops key) = retained (λ (k : Key). not (same_key key k)) t
ruled limit t clears = emptied t

unfoldable pub ruled_all : ℕ → List Call → OfKeys → OfKeys
ruled_all limit [] t = t
ruled_all limit (c ∷ cs) t = ruled_all limit cs (ruled limit t c)

-- what a row holds is left out
abbrev pub blank : ℕ → Unit {0}
blank i = tt

-- the keys of the rows in use, the least recently touched first, and the evictions
abbrev pub keys_seen : Heads → OfKeys
keys_seen h = order_seen (λ (k : Key). k) h.words h.used h.clock h.evictions blank
