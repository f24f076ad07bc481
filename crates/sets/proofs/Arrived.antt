-- What holds of a section that arrives at the set collector, and by what one is refused before any store is looked at.
-- Assumes nothing.
use mathlib.Core.Path.{◌≡◌, refl, subst}
use mathlib.Core.List.{List}
use mathlib.Core.Bool.{false}
use Prim.Native.Nat.{ℕ, ◌<◌}
use native.Mathlib.Omega.{arith}
use lib.Dec.{eqb}
use lib.ListN.{get_or}
use Rattle.answers.specs.Answers.{refusal_no}
use Rattle.answers.specs.declared.Refusal.{Refusal}
use Rattle.answers.specs.declared.Refusal.TheVariants as refusal
use Rattle.section.specs.Judged.{collected_of}
use Rattle.section.specs.Header.{header_of}
use Rattle.section.proofs.Facts.{takes}
use Rattle.section.proofs.Refused.{origin_refused_by, collect_refused_by}
use Rattle.section.specs.declared.header.Header.{Header}
use Rattle.std.specs.Prelude.{Option, Some, None, Result, Ok, Err}
use Rattle.section.specs.declared.ids.Origin as section_origin
use Rattle.section.specs.Ids.{origin_made}
use Rattle.rows.specs.declared.Origin.{Origin}
use Rattle.rows.specs.declared.Key.{Key}
use Rattle.arrivals.specs.Arrivals.{made_words, entry_of, set_read, set_judged, set_arrival, Taken}

pub entry_taken : (s : List ℕ) (h : Header) (key : Key) → collected_of s ≡ Ok h → get_or s 7 0 < 256 → Taken s (entry_of key h)
unfolding header_of
entry_taken s h key e b = let t = takes s h (collected_of s) refl e in rw t.header (record { numbered = record { number = t.numbered; last = b }; long = t.room })

-- ---- by what a section is refused: 41, 12, 37, 14 to 17

module _ (s : List ℕ) (P : Refusal → Type 0) (no_pid_lem : P refusal.NoPid) (pid : P refusal.BadPid) (input : P refusal.BadInput) (malformed : P refusal.Malformed) (short : P refusal.ShortForm) (number : P refusal.BadNumber) (crc : P refusal.BadCrc) where
  read_by : (p : Origin) (c : Result Header Refusal) (r : Refusal) → collected_of s ≡ c → set_read p c ≡ Err r → P r
  read_by p (Err w) r e q = let z : w ≡ r = cc in subst P z (collect_refused_by P short malformed number crc s w e)
  read_by p (Ok h) r e q = let z : ◌≡◌ {A = ℕ} 0 1 = cc in absurd (omega arith)

  made_by : (i v : ℕ) (m : Result section_origin.Origin Refusal) (r : Refusal) → origin_made i v ≡ m → set_judged (made_words m) s ≡ Err r → P r
  made_by i v (Ok o) r e q = read_by (record { input = o.input.0; pid = o.pid.0 }) (collected_of s) r refl q
  made_by i v (Err w) r e q = let z : w ≡ r = cc in subst P z (origin_refused_by P pid input i v w e)

  pub set_refused_by : (i : ℕ) (m : Option ℕ) (r : Refusal) → set_arrival i m s ≡ Err r → P r
  unfolding set_arrival
  set_refused_by i None r q = let z : refusal.NoPid ≡ r = cc in subst P z no_pid_lem
  set_refused_by i (Some v) r q = made_by i v (origin_made i v) r refl q

-- so not by 10
pub set_not_ten : (input : ℕ) (pid : Option ℕ) (s : List ℕ) (r : Refusal) → set_arrival input pid s ≡ Err r → eqb (refusal_no r) 10 ≡ false
set_not_ten input pid s r q = set_refused_by s (λ r. eqb (refusal_no r) 10 ≡ false) refl refl refl refl refl refl refl input pid r q
