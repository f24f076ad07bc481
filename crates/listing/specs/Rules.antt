-- A loop of entries with descriptors (EN 300 468: events 5.2.4, services 5.2.3, transport streams 5.2.1 and 5.2.2; descriptors 6.1), for any length of an entry's
-- header. A descriptor loop is a loop too: its headers are a tag and a count of 8 bits. No memory here: a loop is the list of its bytes.
use Rattle.std.specs.Prelude.{◌≡◌, ℕ, zero, suc, ◌+◌, ◌<◌, List, [], ◌∷◌, ◌++◌, map, cond, length, take, drop, eqb}
use Rattle.laws.specs.Entries.{counted_by}
use Rattle.section.specs.Header.{byte_at}
use Rattle.entry_words.specs.Words.{entry_words, descriptor_words}

-- a header and the bytes that follow it
pub record Part : Type 0 where
  pub header : List ℕ
  pub body : List ℕ

abbrev pub part : (header body : List ℕ) → Part
part header body = record { header = header; body = body }

-- a loop is laid out as these parts, one after another to its last byte
pub data Laid (m n : ℕ) : List ℕ → List Part → Type 0 where
  laid_none : Laid m n [] []
  laid_more : (header body : List ℕ) {rest : List ℕ} {parts : List Part} → length header ≡ n → length body ≡ counted_by m n header → Laid m n rest parts
      → Laid m n (header ++ (body ++ rest)) (part header body ∷ parts)

-- a loop breaks at a place, counted from its first byte: after these parts there is no room for a header, or less is left than the header counts
pub data Breaks (m n : ℕ) : List ℕ → List Part → (place : ℕ) → Type 0 where
  breaks_short : (s : List ℕ) → 0 < length s → length s < n → Breaks m n s [] 0
  breaks_past : (header rest : List ℕ) → length header ≡ n → length rest < counted_by m n header → Breaks m n (header ++ rest) [] 0
  breaks_later : (header body : List ℕ) {rest : List ℕ} {parts : List Part} {place : ℕ} → length header ≡ n → length body ≡ counted_by m n header → Breaks m n rest parts place
      → Breaks m n (header ++ (body ++ rest)) (part header body ∷ parts) (n + length body + place)

-- the parts of a loop, computed: at most k
unfoldable pub parts_in : (m n k : ℕ) → List ℕ → List Part
parts_in m n zero s = []
parts_in m n (suc k) s =
    cond (eqb (length s) 0) []
    (part (take n s) (take (counted_by m n s) (drop n s)) ∷ parts_in m n k (drop (n + counted_by m n s) s))

unfoldable pub parts_of : (m n : ℕ) → List ℕ → List Part
parts_of m n s = parts_in m n (length s) s

-- ---- entries with descriptors

-- an entry: its header's bytes, and its descriptors, each a tag with its length and its bytes
pub record Item : Type 0 where
  pub header : List ℕ
  pub descriptors : List Part

abbrev pub item : (header : List ℕ) → (descriptors : List Part) → Item
item header descriptors = record { header = header; descriptors = descriptors }

-- every entry ends inside the loop, and every descriptor inside its entry
pub data Whole (n : ℕ) : List ℕ → List Item → Type 0 where
  whole_none : Whole n [] []
  whole_more : (header body : List ℕ) {rest : List ℕ} {ds : List Part} {items : List Item} → length header ≡ n → length body ≡ counted_by 16 n header → Laid 1 2 body ds → Whole n rest items
      → Whole n (header ++ (body ++ rest)) (item header ds ∷ items)

-- after these entries and descriptors one runs past its loop, which starts at the place: an entry, or a descriptor of the last entry
pub data RunsPast (n : ℕ) : List ℕ → List Item → (place : ℕ) → Type 0 where
  past_short : (s : List ℕ) → 0 < length s → length s < n → RunsPast n s [] 0
  past_entry : (header rest : List ℕ) → length header ≡ n → length rest < counted_by 16 n header → RunsPast n (header ++ rest) [] 0
  past_descriptor : (header body rest : List ℕ) {ds : List Part} {place : ℕ} → length header ≡ n → length body ≡ counted_by 16 n header → Breaks 1 2 body ds place
      → RunsPast n (header ++ (body ++ rest)) (item header ds ∷ []) (n + place)
  past_later : (header body : List ℕ) {rest : List ℕ} {ds : List Part} {items : List Item} {place : ℕ} → length header ≡ n → length body ≡ counted_by 16 n header → Laid 1 2 body ds → RunsPast n rest items place
      → RunsPast n (header ++ (body ++ rest)) (item header ds ∷ items) (n + length body + place)

-- the same, where it is a descriptor: every entry ends inside the loop
pub data DescriptorPast (n : ℕ) : List ℕ → List Item → (place : ℕ) → Type 0 where
  past_here : (header body rest : List ℕ) {ds : List Part} {place : ℕ} → length header ≡ n → length body ≡ counted_by 16 n header → Breaks 1 2 body ds place
      → DescriptorPast n (header ++ (body ++ rest)) (item header ds ∷ []) (n + place)
  past_further : (header body : List ℕ) {rest : List ℕ} {ds : List Part} {items : List Item} {place : ℕ} → length header ≡ n → length body ≡ counted_by 16 n header → Laid 1 2 body ds → DescriptorPast n rest items place
      → DescriptorPast n (header ++ (body ++ rest)) (item header ds ∷ items) (n + length body + place)

-- the entries of a loop, computed
unfoldable pub items_of : (n : ℕ) → List ℕ → List Item
items_of n s = map (λ (p : Part). item p.header (parts_of 1 2 p.body)) (parts_of 16 n s)

-- ---- the words of all of them, in byte order: `network` is the section's where services share it, `number` that of the section, `at` the place of the first byte

unfoldable pub flat_parts : (number at : ℕ) → List Part → List (List ℕ)
flat_parts number at [] = []
flat_parts number at (d ∷ ds) = descriptor_words number at (byte_at d.header 0) (byte_at d.header 1) ∷ flat_parts number (at + 2 + length d.body) ds

-- how many bytes the descriptors take
unfoldable pub size_of : List Part → ℕ
size_of [] = 0
size_of (d ∷ ds) = 2 + length d.body + size_of ds

-- an entry before its descriptors
unfoldable pub flat : (network number at : ℕ) → List Item → List (List ℕ)
flat network number at [] = []
flat network number at (i ∷ is) =
    entry_words network number at i.header
    ∷ (flat_parts number (at + length i.header) i.descriptors ++ flat network number (at + length i.header + size_of i.descriptors) is)

-- ---- pages: what a list of so much room shows of all entries, and its words one after another

abbrev pub page : (skip room : ℕ) → List (List ℕ) → List (List ℕ)
page skip room entries = take room (drop skip entries)

unfoldable pub joined : List (List ℕ) → List ℕ
joined [] = []
joined (words ∷ entries) = words ++ joined entries
