-- A drop by filter, of the rows of a collector: which rows match, and the heads and words that are left, for every content of the two lent slices.
-- Row i of sets has 288 words, row i of schedules 16 * 288; both have a head of 12 words.
use Rattle.std.specs.Prelude.{ℕ, zero, suc, ◌-◌, ◌*◌, ◌≤◌, List, Bool, true, cond, ◌&&◌, length, take, drop, eqb, Option, Some, None}
use Rattle.std.proofs.Math.Seq.{paste}
use Rattle.eit_section.specs.Eit.{kind_of}
use Rattle.eit_section.specs.declared.Kind.{Kind}
use Rattle.arrivals.specs.Arrivals.{kind_number}
use Rattle.rows.specs.declared.Origin.{Origin}
use Rattle.rows.specs.declared.Key.{Key}
use Rattle.rows.specs.Rows.{key_at}
use Rattle.filter.specs.declared.WantedOrigin.{WantedOrigin}
use Rattle.filter.specs.declared.Fields.{Fields}
use Rattle.filter.specs.declared.Of.{Of}
use Rattle.filter.specs.declared.Of.TheVariants as of

-- ---- which rows match

-- "each exact or free"
abbrev pub wants : Option ℕ → ℕ → Bool
wants None v = true
wants (Some x) v = eqb v x

abbrev pub wants_origin : WantedOrigin → Origin → Bool
wants_origin w o = wants w.input o.input && wants w.pid o.pid

-- the number of what a table_id says: 4 is no kind's
abbrev pub kind_told : Option Kind → ℕ
kind_told (Some k) = kind_number k
kind_told None = 4

-- the kind's number, by the table_id word in a set's head
abbrev pub kind_word : ℕ → ℕ
kind_word t = kind_told (kind_of t)

-- the kind, by word 1 of a head: of a set the table_id
abbrev pub kind_in : Of → ℕ → ℕ
kind_in of.Sets t = kind_word t
kind_in of.Schedules k = k

-- input, "PID, kind, service_id, transport_stream_id, original_network_id and current_next"
unfoldable pub matches : Of → Fields → Key → Bool
matches o f k =
    wants_origin f.from k.from && wants f.kind (kind_in o k.table_id) && wants f.service_id k.extension
    && wants f.transport_stream_id k.transport_stream_id && wants f.original_network_id k.original_network_id
    && wants f.current_next k.current_next

-- ---- a row leaves: the last row in use takes its place

abbrev pub width_of : Of → ℕ
width_of of.Sets = 288
width_of of.Schedules = 4608

-- the n words from `from` on stand from `to` on, too
abbrev pub moved_to : (to from n : ℕ) → List ℕ → List ℕ
moved_to to from n words = paste words to (take n (drop from words)) n

unfoldable pub removed_heads : (used i : ℕ) → List ℕ → List ℕ
removed_heads used i heads = moved_to (i * 12) ((used - 1) * 12) 12 heads

unfoldable pub removed_words : Of → (used i : ℕ) → List ℕ → List ℕ
removed_words o used i words = moved_to (i * width_of o) ((used - 1) * width_of o) (width_of o) words

-- ---- all rows in use

-- the heads, the words and the rows in use
pub record Rest : Type 0 where
  pub heads : List ℕ
  pub words : List ℕ
  pub used : ℕ

abbrev pub rest : List ℕ → List ℕ → ℕ → Rest
rest heads words used = record { heads = heads; words = words; used = used }

-- row i leaves
abbrev pub removed : Of → (i : ℕ) → Rest → Rest
removed o i r = rest (removed_heads r.used i r.heads) (removed_words o r.used i r.words) (r.used - 1)

-- .. where it matches
unfoldable pub dropped_row : Of → Fields → (i : ℕ) → Rest → Rest
dropped_row o f i r = cond (matches o f (key_at r.heads i)) (removed o i r) r

-- so do the first n rows, from the last of them down
unfoldable pub dropped_rows : Of → Fields → (n : ℕ) → Rest → Rest
dropped_rows o f zero r = r
dropped_rows o f (suc n) r = dropped_rows o f n (dropped_row o f n r)

-- what the functions ask: heads and words for the rows in use
pub record Fits (o : Of) (heads words : List ℕ) (used : ℕ) : Type 0 where
  pub heads_long : used * 12 ≤ length heads
  pub words_long : used * width_of o ≤ length words
