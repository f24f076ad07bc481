-- What the parts of the judgement ask and answer.
use Rattle.std.specs.Prelude.{ℕ, suc, ◌+◌, ◌-◌, ◌*◌, ◌%◌, ◌≤◌, ◌<◌, ◌≡◌, List, Bool, false, cond, take, eqb, Result, Ok, Err}
use Rattle.section.specs.Header.{byte_at}
use Rattle.listing.specs.Store.{found_from}
use Rattle.listing.specs.declared.Walked.{Walked}
use Rattle.listing.specs.declared.Walked.TheVariants.{Done, Past}
use Rattle.rules_networks.specs.Networks.{crc_at, broken_in, first_of}
use Rattle.network_faults.specs.declared.Fault.{Fault}
use Rattle.network_faults.specs.declared.Fault.TheVariants.{OtherTable, BrokenLoop}

-- what has the length that section_length says has at most 3 + 4,095 bytes
abbrev pub Short : (wrong : Bool) → (size : ℕ) → Type 0
Short wrong size = wrong ≡ false → size ≤ 4098

-- the low 12 bits of two bytes
abbrev pub count12 : List ℕ → (at : ℕ) → ℕ
count12 s at = byte_at s at % 16 * 256 + byte_at s (at + 1)

-- a loop from `at` to `end` of bytes of that length, of which the first `left` are descriptors'
pub record LoopIn (long header at left end : ℕ) : Type 0 where
  pub low : 4 ≤ header
  pub small : header < 256
  pub within : at + left ≤ end
  pub there : end ≤ long
  pub short : end < 4294967296

-- a section of that length, with room for a first loop of n bytes, the two lengths and the CRC
pub record NitIn (long n : ℕ) : Type 0 where
  pub room : 16 + n ≤ long
  pub short : long ≤ 4098

-- what runs past does so behind table_id
abbrev pub Inside : Walked → Type 0
Inside (Done count) = Unit {0}
Inside (Past at count) = 0 < at

-- what is answered to the number of a fault: 0 where there is none, else its place, and 1; of place 0 is a table_id alone
abbrev pub fault_kind : (fault : ℕ) → Fault
fault_kind fault = cond (eqb fault 1) OtherTable (BrokenLoop (fault - 1))

abbrev pub judged_by : (fault : ℕ) → Result Unit Fault
judged_by fault = cond (eqb fault 0) (Ok tt) (Err (fault_kind fault))

-- the place of what runs past, and 1
abbrev pub past_place : Walked → ℕ
past_place (Done count) = 0
past_place (Past at count) = at + 1

-- the loops of a NIT or BAT section whose first length is n: the first loop, then the second length, then the second loop
unfoldable pub nit_loops : List ℕ → (n : ℕ) → ℕ
nit_loops s n =
    first_of (broken_in (found_from 6 (take (10 + n) s) 10 n))
    (cond (eqb (10 + n + 2 + count12 s (10 + n)) (crc_at s)) (broken_in (found_from 6 (take (10 + n + 2 + count12 s (10 + n)) s) (10 + n + 2) 0)) (suc (10 + n)))
