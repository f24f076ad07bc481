-- A section that arrives is of the kind that its table_id says.
-- Assumes nothing.
use mathlib.Core.Path.{◌≡◌, refl, ap, subst}
use mathlib.Core.List.{List}
use mathlib.Core.Bool.{Bool, true, false, cond}
use Prim.Native.Nat.{ℕ}
use native.Mathlib.Omega.{arith}
use Rattle.section.specs.Header.{byte_at, header_of}
use Rattle.section.specs.Judged.{collected_of}
use Rattle.section.proofs.Facts.{takes}
use Rattle.section.specs.declared.header.Header.{Header}
use Rattle.std.specs.Prelude.{Option, Some, None, Result, Ok, Err}
use Rattle.answers.specs.declared.Refusal.{Refusal}
use Rattle.answers.specs.declared.Refusal.TheVariants as refusal
use Rattle.eit_section.specs.Eit.{kind_of, fields_of, layout_good, eit_as, eit_by, eit_of}
use Rattle.eit_section.specs.declared.Kind.{Kind}
use Rattle.rows.specs.declared.Origin.{Origin}
use Rattle.arrivals.specs.declared.Arrival.{Arrival}
use Rattle.arrivals.specs.Arrivals.{origin_words, kind_number, arrival_of, eit_fields, eit_read, eit_judged, eit_arrival}

-- the kind by the arrival's table_id, and its number beside it
pub record OfKind (a : Arrival) (k : Kind) : Type 0 where
  pub table : kind_of a.entry.key.table_id ≡ Some k
  pub number : a.kind ≡ kind_number k

-- what arrived; of a refusal the other
abbrev arrived_or : Arrival → Result Arrival Refusal → Arrival
arrived_or d (Err r) = d
arrived_or d (Ok a) = a

module _ (bytes : List ℕ) (a : Arrival) where
  by_fields : (from : Origin) (h : Header) → collected_of bytes ≡ Ok h → (m : Option Kind) → kind_of (byte_at bytes 0) ≡ m → eit_fields from h (eit_by bytes m) ≡ Ok a → (k : Kind) × OfKind a k
  unfolding header_of eit_as
  by_fields from h q None e f = let z : ◌≡◌ {A = ℕ} 0 1 = cc in absurd (omega arith)
  by_fields from h q (Some k) e f = laid (layout_good bytes) f
    where
      table_is : h.table_id ≡ byte_at bytes 0
      table_is = rw (takes bytes h (collected_of bytes) refl q).header

      of_kind : OfKind (arrival_of from h (fields_of bytes k)) k
      of_kind = record { table = rw table_is e; number = refl }

      laid : (b : Bool) → eit_fields from h (cond b (Ok (fields_of bytes k)) (Err refusal.Broken)) ≡ Ok a → (k : Kind) × OfKind a k
      laid true g = (k, subst (λ (x : Arrival). OfKind x k) (ap (arrived_or a) g) of_kind)
      laid false g = let z : ◌≡◌ {A = ℕ} 0 1 = cc in absurd (omega arith)

  by_read : (from : Origin) (c : Result Header Refusal) → collected_of bytes ≡ c → eit_read from bytes c ≡ Ok a → (k : Kind) × OfKind a k
  unfolding eit_of
  by_read from (Err r) q f = let z : ◌≡◌ {A = ℕ} 0 1 = cc in absurd (omega arith)
  by_read from (Ok h) q f = by_fields from h q (kind_of (byte_at bytes 0)) refl f

  by_origin : (v : Result Origin Refusal) → eit_judged v bytes ≡ Ok a → (k : Kind) × OfKind a k
  by_origin (Err r) f = let z : ◌≡◌ {A = ℕ} 0 1 = cc in absurd (omega arith)
  by_origin (Ok from) f = by_read from (collected_of bytes) refl f

  pub arrived_kind : (input : ℕ) (pid : Option ℕ) → eit_arrival input pid bytes ≡ Ok a → (k : Kind) × OfKind a k
  unfolding eit_arrival
  arrived_kind input pid f = by_origin (origin_words input pid) f
