-- A section list read place by place (docs/RULES.md, "Logs").
-- Assumes nothing.
use Rattle.std.specs.Prelude.{ℕ, ◌+◌, ◌-◌, ◌*◌, ◌≤◌, ◌<◌, ◌≡◌, List, [], ◌∷◌, cond, leb, ltb, length, take, drop, Option, Some, None, Result, Ok, Err, MatchOption}
use Rattle.section.specs.Header.{byte_at, word16}
use Rattle.rules_logs.specs.Records.{Bytes}
use Rattle.rules_logs.specs.Sections.{Given, Listed, too_long, cut, sections, sections_in}
use Rattle.log_list.specs.declared.Place.{Place}
use Rattle.log_list.specs.declared.ListError.{ListError}
use Rattle.log_list.specs.declared.ListError.TheVariants as error
use Rattle.log_list.specs.declared.Sections.{Sections}

-- what the five bytes at place p say
unfoldable pub place_at : Bytes → (p : ℕ) → Place
place_at s p = record {
  input = byte_at s p;
  pid = word16 (byte_at s (p + 1)) (byte_at s (p + 2));
  start = p + 5;
  length = byte_at s (p + 3) * 256 + byte_at s (p + 4);
}

-- what begins at place p: a length over 4,098 is told also where the bytes behind it are missing
unfoldable pub next_at : Bytes → (p : ℕ) → Result (Option Place) ListError
next_at s p =
    let size : ℕ = (place_at s p).length in
    cond (leb (length s) p) (Ok None)
    (cond (ltb (length s - p) 5) (Err error.Cut)
    (cond (ltb 4098 size) (Err error.TooLong)
    (cond (ltb (length s - (p + 5)) size) (Err error.Cut)
    (Ok (Some (place_at s p))))))

-- what a list comes to
abbrev pub judged_of : Listed → Result Unit ListError
judged_of too_long = Err error.TooLong
judged_of cut = Err error.Cut
judged_of (sections gs) = Ok tt

-- its sections, none where it is not whole
abbrev pub givens_of : Listed → List Given
givens_of too_long = []
givens_of cut = []
givens_of (sections gs) = gs

-- the sections from place p on
abbrev pub givens_from : Bytes → (p : ℕ) → List Given
givens_from s p = givens_of (sections_in (drop p s))

-- the section that a place tells of
abbrev pub given_at : Bytes → Place → Given
given_at s r = record { input = r.input; pid = r.pid; section = take r.length (drop r.start s) }

-- from place p on the list is whole
pub record WholeFrom (s : Bytes) (p : ℕ) : Type 0 where
  pub within : p ≤ length s
  pub whole : judged_of (sections_in (drop p s)) ≡ Ok tt

-- the first of the sections from place p on
pub record PlacedAt (s : Bytes) (p : ℕ) (r : Place) : Type 0 where
  pub first : givens_from s p ≡ given_at s r ∷ givens_from s (r.start + r.length)
  pub behind : WholeFrom s (r.start + r.length)
  pub starts : r.start ≡ p + 5
  pub later : p < r.start
  pub short : r.length ≤ 4098

-- what an iterator over the sections gives, and where it goes on: nothing at the end of the list
abbrev pub Gives : Sections → Option Place → Sections → Type 0
Gives s r t = (t.list.now ≡ s.list.now) × MatchOption r (length s.list.now ≤ s.at) (λ place. PlacedAt s.list.now s.at place × (t.at ≡ place.start + place.length))
