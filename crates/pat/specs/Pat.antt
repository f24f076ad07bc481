-- The program association section, ISO/IEC 13818-1 2.4.4.3: byte 0 table_id, 1 and 2 section_length, 3 and 4 transport_stream_id, 5 version and
-- current_next, 6 section_number, 7 last_section_number, then groups of four bytes to the CRC, the last four: program_number (16 bits), three
-- reserved bits, PID (13).
use Rattle.std.specs.Prelude.{ℕ, ◌+◌, ◌-◌, ◌%◌, List, [], ◌∷◌, Bool, false, cond, ◌&&◌, ◌||◌, length, take, drop, leb, eqb}
use Rattle.laws.specs.Bits.{add_bit, add_bits}
use Rattle.section.specs.Header.{byte_at, long_form, section_length, word16}
use Rattle.pat.specs.declared.Pat.{Pat}
use Rattle.pat.specs.declared.Pat.TheVariants.{Readable, Unreadable}

-- a PID, the low 13 bits of its two bytes
abbrev pub pid_of : ℕ → ℕ → ℕ
pid_of c d = word16 (c % 32) d

-- the PIDs of the groups, in order, but those of program_number 0
unfoldable pub program_pids : List ℕ → List ℕ
program_pids [] = []
program_pids (a ∷ []) = []
program_pids (a ∷ b ∷ []) = []
program_pids (a ∷ b ∷ c ∷ []) = []
program_pids (a ∷ b ∷ c ∷ d ∷ groups) = cond (eqb (word16 a b) 0) (program_pids groups) (pid_of c d ∷ program_pids groups)

-- the bytes between the header and the CRC
abbrev pub groups_of : List ℕ → List ℕ
groups_of s = take (length s - 12) (drop 8 s)

-- a PID is in a list of them
abbrev pub listed : ℕ → List ℕ → Bool
listed pid [] = false
listed pid (p ∷ ps) = eqb pid p || listed pid ps

-- the set N of a PAT: the PIDs of its programs other than 0
abbrev pub set_n : List ℕ → ℕ → Bool
set_n s pid = listed pid (program_pids (groups_of s))

-- a PAT: at least 12 bytes, table_id 0, long form, as long as its section_length says, and no bytes left over beside the groups
abbrev pub readable : List ℕ → Bool
readable s =
    leb 12 (length s)
    && (eqb (byte_at s 0) 0 && long_form s && eqb (length s) (3 + section_length s) && eqb ((length s - 12) % 4) 0)

unfoldable pub pat_of : List ℕ → Pat
pat_of s = cond (readable s) Readable Unreadable

-- the set n with the PIDs of a PAT's programs; n as it is where the section is no readable PAT
unfoldable pub with_programs : List ℕ → List ℕ → List ℕ
with_programs s n = cond (readable s) (add_bits n (program_pids (groups_of s))) n

-- the set n with the PID of a group of four bytes
unfoldable pub with_group : List ℕ → List ℕ → List ℕ
with_group group n = cond (eqb (word16 (byte_at group 0) (byte_at group 1)) 0) n (add_bit n (pid_of (byte_at group 2) (byte_at group 3)))
