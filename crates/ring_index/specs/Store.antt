-- What the index over the ring's rows is, and what offering a key through it tells and leaves, for every ring and every content of the lent
-- slices. Each slice is the list of its words. A word of the index is 0 or names a row: row + 1. A bucket names the first row of its chain, a
-- link the next row of the chain. `cond test a b` is a where the test is true, else b.
use Rattle.std.specs.Prelude.{ℕ, zero, suc, ◌+◌, ◌*◌, ◌-◌, ◌/◌, ◌%◌, ◌≤◌, List, Bool, cond, ◌||◌, get_or, set, ltb, eqb}
use Rattle.ring.specs.Store.{room_of, has_free, free_row, renewed, arrived}
use Rattle.ring.specs.declared.Ring.{Ring}
use Rattle.ring.specs.declared.Seen.{Seen}

-- the bucket of a key: its two halves of 32 bits, each times an odd number below 2^31, so that no sum passes 64 bits; the lowest 16 bits, which
-- depend on few bits of the key, are left out
unfoldable pub bucket_of : ℕ → ℕ → ℕ
bucket_of key room = (key % 4294967296 * 1640531527 + key / 4294967296 * 1540483477) / 65536 % room

-- the index has a bucket and a link for each row
pub record Covers (g : Ring) (buckets links : ℕ) : Type 0 where
  pub buckets_long : room_of g.capacity ≤ buckets
  pub links_long : room_of g.capacity ≤ links

-- both slices of an index
pub record Index : Type 0 where
  pub buckets : List ℕ
  pub links : List ℕ

abbrev pub index_of : List ℕ → List ℕ → Index
index_of buckets links = record { buckets = buckets; links = links }

-- a chain ends where its word names no row in use
abbrev pub ends : ℕ → ℕ → Bool
ends used at = eqb at 0 || ltb used at

-- the walk along a chain, of at most so many steps: the first row whose word is the value; used where none has it
abbrev pub walk_of : List ℕ → List ℕ → ℕ → ℕ → ℕ → ℕ → ℕ
walk_of words links used value zero at = used
walk_of words links used value (suc left) at =
    cond (ends used at) used (cond (eqb (get_or words (at - 1) 0) value) (at - 1) (walk_of words links used value left (get_or links (at - 1) 0)))

-- the first so many words are 0
abbrev pub cleared_by : ℕ → List ℕ → List ℕ
cleared_by zero l = l
cleared_by (suc n) l = cleared_by n (set l n 0)

-- a row becomes the first of a chain
unfoldable pub linked : Index → ℕ → ℕ → Index
linked x home row = index_of (set x.buckets home (row + 1)) (set x.links row (get_or x.buckets home 0))

-- the row of a chain whose link names the row; used where there is none
abbrev pub prior_of : Index → ℕ → ℕ → ℕ → ℕ → ℕ
prior_of x used room home row = walk_of x.links x.links used (row + 1) room (get_or x.buckets home 0)

-- a row is taken out of a chain: the word that names it names the row after it
unfoldable pub unlinked : Index → ℕ → ℕ → ℕ → ℕ → Index
unlinked x used room home row =
    cond (eqb (get_or x.buckets home 0) (row + 1)) (index_of (set x.buckets home (get_or x.links row 0)) x.links)
    (cond (ltb (prior_of x used room home row) used) (index_of x.buckets (set x.links (prior_of x used room home row) (get_or x.links row 0))) x)

-- a new key: its row becomes the first of its chain. Where no row is free it is the row of the key that came first, which first leaves the chain of that key.
unfoldable pub entered : Ring → List ℕ → Index → ℕ → Index
entered g keys x home =
    cond (has_free g) (linked x home g.used)
    (linked (unlinked x g.used (room_of g.capacity) (bucket_of (get_or keys g.first 0) (room_of g.capacity)) g.first) home g.first)

-- the row of a key by the walk from its bucket, cut at as many steps as there are rows; used where it finds none
abbrev pub found_by : Ring → List ℕ → Index → ℕ → ℕ
found_by g keys x key =
    walk_of keys x.links g.used key (room_of g.capacity) (get_or x.buckets (bucket_of key (room_of g.capacity)) 0)

abbrev pub is_found : Ring → List ℕ → Index → ℕ → Bool
is_found g keys x key = ltb (found_by g keys x key) g.used

-- a key is offered with its number
unfoldable pub seen_by : Ring → List ℕ → List ℕ → Index → ℕ → ℕ → Seen
seen_by g keys changes x key number = cond (is_found g keys x key) (renewed g changes (found_by g keys x key) number) (arrived g)

unfoldable pub keys_by : Ring → List ℕ → Index → ℕ → List ℕ
keys_by g keys x key = cond (is_found g keys x key) keys (set keys (free_row g) key)

unfoldable pub changes_by : Ring → List ℕ → List ℕ → Index → ℕ → ℕ → List ℕ
changes_by g keys changes x key number = set changes (cond (is_found g keys x key) (found_by g keys x key) (free_row g)) number

unfoldable pub index_by : Ring → List ℕ → Index → ℕ → Index
index_by g keys x key = cond (is_found g keys x key) x (entered g keys x (bucket_of key (room_of g.capacity)))
