-- A section list (docs/RULES.md, "Logs"): for each section an input (1 byte), a PID (2), a length (2), then so many bytes. Any input, any PID and any
-- bytes may stand there.
-- Assumes nothing.
use Rattle.std.specs.Prelude.{ℕ, zero, suc, ◌+◌, ◌*◌, ◌≤◌, ◌<◌, List, [], ◌∷◌, ◌++◌, cond, ltb, eqb, length, take, drop, get_or}
use Rattle.rules_logs.specs.Records.{Bytes, two}

-- a section as it is given
pub record Given : Type 0 where
  pub input : ℕ
  pub pid : ℕ
  pub section : Bytes

-- what a list comes to: a length over 4,098 (42), an end inside a section (10), or its sections
pub data Listed : Type 0 where
  too_long : Listed
  cut : Listed
  sections : List Given → Listed

abbrev pub before : Given → Listed → Listed
before g too_long = too_long
before g cut = cut
before g (sections gs) = sections (g ∷ gs)

abbrev pub size_in : Bytes → ℕ
size_in s = get_or s 3 0 * 256 + get_or s 4 0

abbrev pub first_in : Bytes → Given
first_in s = record { input = get_or s 0 0; pid = get_or s 1 0 * 256 + get_or s 2 0; section = take (size_in s) (drop 5 s) }

-- judged from its start, and the first bad one decides: a length over 4,098 also where the bytes behind it are missing. n sections at the most
unfoldable pub listed : (n : ℕ) → Bytes → Listed
listed zero s = cond (eqb (length s) 0) (sections []) cut
listed (suc n) s =
    let size : ℕ = size_in s in
    cond (eqb (length s) 0) (sections [])
    (cond (ltb (length s) 5) cut
    (cond (ltb 4098 size) too_long
    (cond (ltb (length s) (5 + size)) cut
    (before (first_in s) (listed n (drop (5 + size) s))))))

-- a list of so many bytes has no more sections than bytes
unfoldable pub sections_in : Bytes → Listed
sections_in s = listed (length s) s

-- ---- sections laid out as a list

abbrev pub laid : Given → Bytes
laid g = g.input ∷ two g.pid ++ (two (length g.section) ++ g.section)

unfoldable pub laid_out : List Given → Bytes
laid_out [] = []
laid_out (g ∷ gs) = laid g ++ laid_out gs

-- it can be laid out: a PID of 16 bits, and at most 4,098 bytes
pub record Fits (g : Given) : Type 0 where
  pub pid : g.pid < 65536
  pub short : length g.section ≤ 4098

abbrev pub AllFit : List Given → Type 0
AllFit [] = Unit {0}
AllFit (g ∷ gs) = Fits g × AllFit gs
