-- By what a section, or where it came from, is refused before its table is looked at: 12 and 37; 14 to 17. What holds of each of these refusals holds of the one told.
-- Assumes nothing.
use mathlib.Core.Path.{◌≡◌, subst}
use mathlib.Core.List.{List}
use mathlib.Core.Bool.{Bool, true, false, cond}
use Prim.Native.Nat.{ℕ}
use native.Mathlib.Omega.{arith}
use lib.Dec.{ltb, eqb}
use Rattle.std.specs.Prelude.{Result, Ok, Err}
use Rattle.answers.specs.declared.Refusal.{Refusal}
use Rattle.answers.specs.declared.Refusal.TheVariants as refusal
use Rattle.section.specs.Header.{long_form, section_number, last_section_number, stored_crc, worked_crc, header_of}
use Rattle.section.specs.Judged.{malformed, collected_long, collected_of}
use Rattle.section.specs.Ids.{origin_of, origin_made}
use Rattle.section.specs.declared.header.Header.{Header}
use Rattle.section.specs.declared.ids.Origin.{Origin}

module _ (P : Refusal → Type 0) where
  module _ (bad_pid : P refusal.BadPid) (bad_input : P refusal.BadInput) where
    origin_cases : (o : Origin) (a b : Bool) (r : Refusal) → cond a (cond b (Ok o) (Err refusal.BadInput)) (Err refusal.BadPid) ≡ Err r → P r
    origin_cases o true true r q = let z : ◌≡◌ {A = ℕ} 0 1 = cc in absurd (omega arith)
    origin_cases o true false r q = let z : refusal.BadInput ≡ r = cc in subst P z bad_input
    origin_cases o false b r q = let z : refusal.BadPid ≡ r = cc in subst P z bad_pid

    pub origin_refused_by : (input pid : ℕ) (r : Refusal) → origin_made input pid ≡ Err r → P r
    origin_refused_by input pid r q = origin_cases (origin_of input pid) (ltb pid 8192) (ltb input 16) r q

  module _ (short : P refusal.ShortForm) (bad : P refusal.Malformed) (number : P refusal.BadNumber) (crc : P refusal.BadCrc) where
    long_cases : (h : Header) (a b : Bool) (r : Refusal) → cond a (Err refusal.BadNumber) (cond b (Ok h) (Err refusal.BadCrc)) ≡ Err r → P r
    long_cases h true b r q = let z : refusal.BadNumber ≡ r = cc in subst P z number
    long_cases h false true r q = let z : ◌≡◌ {A = ℕ} 0 1 = cc in absurd (omega arith)
    long_cases h false false r q = let z : refusal.BadCrc ≡ r = cc in subst P z crc

    collect_cases : (s : List ℕ) (a b : Bool) (r : Refusal) → cond a (Err refusal.Malformed) (cond b (collected_long s) (Err refusal.ShortForm)) ≡ Err r → P r
    unfolding collected_long
    collect_cases s true b r q = let z : refusal.Malformed ≡ r = cc in subst P z bad
    collect_cases s false true r q = long_cases (header_of s) (ltb (last_section_number s) (section_number s)) (eqb (worked_crc s) (stored_crc s)) r q
    collect_cases s false false r q = let z : refusal.ShortForm ≡ r = cc in subst P z short

    pub collect_refused_by : (s : List ℕ) (r : Refusal) → collected_of s ≡ Err r → P r
    unfolding collected_of
    collect_refused_by s r q = collect_cases s (malformed s) (long_form s) r q
