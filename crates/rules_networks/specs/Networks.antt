-- NIT, BAT and SDT sections (EN 300 468, 5.2.1, 5.2.2, 5.2.3), with no memory: a section is the list of its bytes, from 0 at table_id; the CRC is its last four bytes.
-- `cond test a b` is a where the test is true, else b.
use Rattle.std.specs.Prelude.{◌≡◌, ◌≢◌, ℕ, suc, ◌+◌, ◌*◌, ◌-◌, ◌%◌, ◌<◌, List, [], ◌∷◌, ◌++◌, Bool, true, false, cond, not, ◌||◌, length, take, drop, ltb, eqb}
use Rattle.laws.specs.Lists.{any}
use Rattle.section.specs.Header.{byte_at, word16, section_length}
use Rattle.laws.specs.Entries.{counted}
use Rattle.listing.specs.Rules.{Part, Item, Laid, Breaks, Whole, RunsPast}
use Rattle.listing.specs.Store.{Found, done, past, entry, descriptor, found_from, words_of}
use Rattle.rules_networks.specs.declared.Table.{Table}
use Rattle.rules_networks.specs.declared.Table.TheVariants.{Nit, Bat, Sdt, None}

-- table_ids (EN 300 468, table 2): network actual and other, bouquet, service actual and other
abbrev pub table_ids : Table → List ℕ
table_ids Nit = 0x40 ∷ 0x41 ∷ []
table_ids Bat = 0x4A ∷ []
table_ids Sdt = 0x42 ∷ 0x46 ∷ []
table_ids None = []

abbrev pub is_of : Table → (table_id_of : ℕ) → Bool
is_of r t = any (eqb t) (table_ids r)

-- the place of the CRC
abbrev pub crc_at : List ℕ → ℕ
crc_at s = length s - 4

-- under 3 bytes, or not 3 + section_length
unfoldable pub length_wrong : List ℕ → Bool
length_wrong s = cond (ltb (length s) 3) true (not (eqb (length s) (3 + section_length s)))

-- ---- NIT and BAT: bytes 8 and 9 count the descriptors from 10 on; the two bytes behind them count the transport streams that follow

abbrev pub first_length : List ℕ → ℕ
first_length s = byte_at s 8 % 16 * 256 + byte_at s 9

-- where transport_stream_loop_length stands
abbrev pub second_at : List ℕ → ℕ
second_at s = 10 + first_length s

abbrev pub loop_length : List ℕ → ℕ
loop_length s = byte_at s (second_at s) % 16 * 256 + byte_at s (second_at s + 1)

-- the bytes of the first loop, and of the second
unfoldable pub first_loop : List ℕ → List ℕ
first_loop s = drop 10 (take (second_at s) s)

abbrev pub stream_loop : List ℕ → List ℕ
stream_loop s = drop (second_at s + 2) (take (second_at s + 2 + loop_length s) s)

-- what is found in them
abbrev pub network_found : List ℕ → Found
network_found s = found_from 6 (take (second_at s) s) 10 (first_length s)

abbrev pub streams_found : List ℕ → Found
streams_found s = found_from 6 (take (second_at s + 2 + loop_length s) s) (second_at s + 2) 0

-- ---- SDT: bytes 8 and 9 original_network_id, services from 11 to the CRC

abbrev pub network_of : List ℕ → ℕ
network_of s = word16 (byte_at s 8) (byte_at s 9)

abbrev pub service_loop : List ℕ → List ℕ
service_loop s = drop 11 (take (crc_at s) s)

abbrev pub services_found : List ℕ → Found
services_found s = found_from 5 (take (crc_at s) s) 11 0

-- ---- 36: 0 where every loop ends where its length says, else the place of the first that does not, and 1

unfoldable pub broken_in : Found → ℕ
broken_in done = 0
broken_in (past at) = suc at
broken_in (entry at header f) = broken_in f
broken_in (descriptor at tag size f) = broken_in f

abbrev pub first_of : ℕ → ℕ → ℕ
first_of a b = cond (eqb a 0) b a

-- section_length at 1; the first length at 8, where it leaves no room for the second and the CRC; a descriptor by its tag; the second length where it does not end exactly at
-- the CRC; a transport stream or its descriptor
unfoldable pub nit_broken : List ℕ → ℕ
nit_broken s =
    cond (length_wrong s) 2
    (cond (ltb (length s) 16 || ltb (crc_at s) (second_at s + 2)) 9
    (first_of (broken_in (network_found s))
    (cond (eqb (second_at s + 2 + loop_length s) (crc_at s)) (broken_in (streams_found s)) (suc (second_at s)))))

unfoldable pub sdt_broken : List ℕ → ℕ
sdt_broken s = cond (length_wrong s) 2 (cond (ltb (length s) 15) 12 (broken_in (services_found s)))

-- ---- why a reader refuses a section: 0 where it does not, else the place that it tells, and 1

abbrev pub broken_of : Table → List ℕ → ℕ
broken_of Nit s = nit_broken s
broken_of Bat s = nit_broken s
broken_of Sdt s = sdt_broken s
broken_of None s = 0

-- 35 before 36: its place is that of table_id, 0
unfoldable pub fault_of : Table → List ℕ → ℕ
fault_of r s = cond (is_of r (byte_at s 0)) (broken_of r s) 1

-- ---- what a reader lists of a section that begins at byte `start` of what is lent and has this number

-- the same found `start` bytes further on
unfoldable pub placed : (start : ℕ) → Found → Found
placed start done = done
placed start (past at) = past (start + at)
placed start (entry at header f) = entry (start + at) header (placed start f)
placed start (descriptor at tag size f) = descriptor (start + at) tag size (placed start f)

unfoldable pub nit_entries : (start number : ℕ) → List ℕ → List (List ℕ)
nit_entries start number s = words_of 0 number (placed start (network_found s)) ++ words_of 0 number (placed start (streams_found s))

unfoldable pub sdt_entries : (start number : ℕ) → List ℕ → List (List ℕ)
sdt_entries start number s = words_of (network_of s) number (placed start (services_found s))

abbrev pub entries_of : Table → (start number : ℕ) → List ℕ → List (List ℕ)
entries_of Nit start number s = nit_entries start number s
entries_of Bat start number s = nit_entries start number s
entries_of Sdt start number s = sdt_entries start number s
entries_of None start number s = []

-- what is told of one section or of several: 35 or 36 by the number of the section, 36 also by the place in it; else the entries
pub data Told : Type 0 where
  other_table : (section : ℕ) → Told
  broken_loop : (section place : ℕ) → Told
  entries : List (List ℕ) → Told

abbrev pub told_by : (section fault : ℕ) → List (List ℕ) → Told
told_by section fault es = cond (eqb fault 0) (entries es) (cond (eqb fault 1) (other_table section) (broken_loop section (fault - 1)))

-- the section of this number, from byte `start` of what is lent on
unfoldable pub read_at : Table → (start number : ℕ) → List ℕ → Told
read_at r start number s = told_by number (fault_of r s) (entries_of r start number s)

-- a section by itself: its number is byte 6
unfoldable pub read_as : Table → List ℕ → Told
read_as r s = read_at r 0 (byte_at s 6) s

-- one after another: the first that is refused decides
abbrev pub and_then : (first second : Told) → Told
and_then (entries a) (entries b) = entries (a ++ b)
and_then (entries a) (other_table section) = other_table section
and_then (entries a) (broken_loop section place) = broken_loop section place
and_then (other_table section) second = other_table section
and_then (broken_loop section place) second = broken_loop section place

-- ---- an SDT section as the concatenation of its parts: 11 bytes, whole services with whole descriptor loops, and the four bytes of the CRC, with nothing between

pub data SdtWhole : List ℕ → Type 0 where
  sdt_laid : (head loop crc : List ℕ) (items : List Item) → length head ≡ 11 → length crc ≡ 4 → Whole 5 loop items → SdtWhole (head ++ (loop ++ crc))

-- ---- a NIT or BAT section: 10 bytes, of which the last 12 bits count the descriptors that follow; two bytes, of which the last 12 bits count the transport streams that
-- follow, with whole descriptor loops; the four bytes of the CRC; nothing between

pub data NitWhole : List ℕ → Type 0 where
  nit_laid : (head first second loop crc : List ℕ) (ds : List Part) (items : List Item) → length head ≡ 10 → length first ≡ counted 10 head → Laid 1 2 first ds
      → length second ≡ 2 → length loop ≡ counted 2 second → Whole 6 loop items → length crc ≡ 4 → NitWhole (head ++ (first ++ (second ++ (loop ++ crc))))

-- ---- every place where something does not end where its length says

pub data NitBreaks (s : List ℕ) : (place : ℕ) → Type 0 where
  nit_length : length_wrong s ≡ true → NitBreaks s 1
  -- no room for the two lengths and the CRC; the first loop or the second length runs into the CRC
  no_lengths : length s < 16 → NitBreaks s 8
  no_second : crc_at s < second_at s + 2 → NitBreaks s 8
  first_past : {parts : List Part} {place : ℕ} → Breaks 1 2 (first_loop s) parts place → NitBreaks s (10 + place)
  second_ends : second_at s + 2 + loop_length s ≢ crc_at s → NitBreaks s (second_at s)
  stream_past : {items : List Item} {place : ℕ} → RunsPast 6 (stream_loop s) items place → NitBreaks s (second_at s + 2 + place)

pub data SdtBreaks (s : List ℕ) : (place : ℕ) → Type 0 where
  sdt_length : length_wrong s ≡ true → SdtBreaks s 1
  no_services : length s < 15 → SdtBreaks s 11
  service_past : {items : List Item} {place : ℕ} → RunsPast 5 (service_loop s) items place → SdtBreaks s (11 + place)
