-- From a section's bytes to its arrival: the code's reading and the rules' reading of one section.
-- Assumes nothing.
use mathlib.Core.Path.{◌≡◌, refl, sym, ap}
use mathlib.Core.Bool.{Bool, true, false, cond}
use mathlib.Core.Option.{Option, none, some}
use mathlib.Core.List.{List}
use Prim.Native.Nat.{ℕ, ◌+◌, ◌-◌, ◌≤◌, ◌<◌}
use native.Mathlib.Omega.{arith}
use lib.Dec.{eqb}
use lib.ListN.{get_or, length}
use Rattle.rules_shared.specs.Same.{Bytes}
use Rattle.rules_eit.specs.Keys.{Kind, present_actual, present_other, schedule_actual, schedule_other, between, kind_of, kind_number}
use Rattle.section.specs.Judged.{collected_of}
use Rattle.section.specs.Header.{byte_at, header_of}
use Rattle.eit_section.specs.Eit.{within, fields_of, layout_good, eit_as, eit_by, eit_of, kind_of as kind_read}
use Rattle.section.specs.Facts.{Takes}
use Rattle.section.proofs.Facts.{takes}
use Rattle.section.specs.declared.header.Header.{Header}
use Rattle.std.specs.Prelude.{Option as StdOption, Some, None, Result, Ok, Err}
use Rattle.answers.specs.declared.Refusal.{Refusal}
use Rattle.answers.specs.declared.Refusal.TheVariants as refusal
use Rattle.eit_section.specs.declared.Eit as fields
use Rattle.eit_section.specs.declared.Kind.{Kind as Read}
use Rattle.eit_section.specs.declared.Kind.TheVariants.{PresentFollowingActual, PresentFollowingOther, ScheduleActual, ScheduleOther}
use Rattle.rows.specs.declared.Origin.{Origin as Words}
use Rattle.ticks.specs.Origins.{origin_shown}
use Rattle.arrivals.specs.Arrivals.{arrival_of, kind_number as number_read}
use Rattle.ties_eit.specs.View.{section_of}
use Rattle.ties_eit.proofs.Keys.{bit_bit, bit_reads}
use Rattle.ties_eit.proofs.Settle.{Arrives}
use Rattle.ties_eit.proofs.Keep.{section_for}

-- ---- the kind by table_id, as the reader has it and as the rules have it

pub data Agree : StdOption Read → Option Kind → Type 0 where
  present : Agree (Some PresentFollowingActual) (some present_actual)
  other : Agree (Some PresentFollowingOther) (some present_other)
  schedule : Agree (Some ScheduleActual) (some schedule_actual)
  other_schedule : Agree (Some ScheduleOther) (some schedule_other)
  neither : Agree None none

pub kinds_agree : (t : ℕ) → Agree (kind_read t) (kind_of t)
unfolding kind_of between
kinds_agree t = go (eqb t 0x4E) (eqb t 0x4F) (within 0x50 0x5F t) (within 0x60 0x6F t)
  where
    go : (a b c d : Bool) → Agree
        (cond a (Some PresentFollowingActual) (cond b (Some PresentFollowingOther) (cond c (Some ScheduleActual) (cond d (Some ScheduleOther) None))))
        (cond a (some present_actual) (cond b (some present_other) (cond c (some schedule_actual) (cond d (some schedule_other) none))))
    go true b c d = present
    go false true c d = other
    go false false true d = schedule
    go false false false true = other_schedule
    go false false false false = neither

-- 18: no kind
no_kind : (r : StdOption Read) (o : Option Kind) → Agree r o → r ≡ None → o ≡ none
no_kind r o present e = let z : ◌≡◌ {A = ℕ} 0 1 = cc in absurd (omega arith)
no_kind r o other e = let z : ◌≡◌ {A = ℕ} 0 1 = cc in absurd (omega arith)
no_kind r o schedule e = let z : ◌≡◌ {A = ℕ} 0 1 = cc in absurd (omega arith)
no_kind r o other_schedule e = let z : ◌≡◌ {A = ℕ} 0 1 = cc in absurd (omega arith)
no_kind r o neither e = refl

-- the number that stands for what a table_id says, where it says a kind
abbrev number_of : StdOption Read → ℕ
number_of (Some k) = number_read k
number_of None = 4

-- a kind, and its number
the_kind_lem : (r : StdOption Read) (o : Option Kind) → Agree r o → (x : Read) → r ≡ Some x → (k : Kind) × (o ≡ some k) × (number_read x ≡ kind_number k)
unfolding kind_number
the_kind_lem r o present x e = (present_actual, refl, ap number_of (sym e))
the_kind_lem r o other x e = (present_other, refl, ap number_of (sym e))
the_kind_lem r o schedule x e = (schedule_actual, refl, ap number_of (sym e))
the_kind_lem r o other_schedule x e = (schedule_other, refl, ap number_of (sym e))
the_kind_lem r o neither x e = let z : ◌≡◌ {A = ℕ} 0 1 = cc in absurd (omega arith)

-- ---- what the reading of a section tells

pub data Read-as (s : List ℕ) : Result fields.Eit Refusal → Type 0 where
  not_eit : kind_read (byte_at s 0) ≡ None → Read-as s (Err refusal.NotEit)
  broken : Read-as s (Err refusal.Broken)
  good : (x : Read) → kind_read (byte_at s 0) ≡ Some x → Read-as s (Ok (fields_of s x))

pub read_as_lem : (s : List ℕ) → Read-as s (eit_of s)
unfolding eit_of eit_as
read_as_lem s = go (kind_read (byte_at s 0)) refl
  where
    laid : (x : Read) (b : Bool) → kind_read (byte_at s 0) ≡ Some x → Read-as s (cond b (Ok (fields_of s x)) (Err refusal.Broken))
    laid x true e = good x e
    laid x false e = broken

    go : (m : StdOption Read) → kind_read (byte_at s 0) ≡ m → Read-as s (eit_by s m)
    go (Some x) e = laid x (layout_good s) e
    go None e = not_eit e

module _ (s : List ℕ) (h : Header) (q : collected_of s ≡ Ok h) where
  taken : Takes s h
  taken = takes s h (collected_of s) refl q

  pub good_length : 12 ≤ length s
  good_length = taken.room

  pub table_is : h.table_id ≡ byte_at s 0
  unfolding header_of
  table_is = rw taken.header

  version_small : h.version < 4294967296
  unfolding header_of
  version_small = rw taken.header (omega arith)

  pub not_kind : kind_read (byte_at s 0) ≡ None → kind_of h.table_id ≡ none
  not_kind e = rw table_is (no_kind (kind_read (byte_at s 0)) (kind_of (byte_at s 0)) (kinds_agree (byte_at s 0)) e)

  numbers : get_or s 7 0 < 256 → (h.number ≤ h.last) × (h.last < 256)
  unfolding header_of
  numbers b = rw taken.header (taken.numbered, b)

  pub arrives : get_or s 7 0 < 256 → (from : Words) → (from.pid ≡ 8192 → ⊥) → (x : Read) → kind_read (byte_at s 0) ≡ Some x → (k : Kind) × Arrives (arrival_of from h (fields_of s x)) k
  arrives b from p x e =
      let n = numbers b in
      let k = the_kind_lem (kind_read (byte_at s 0)) (kind_of (byte_at s 0)) (kinds_agree (byte_at s 0)) x e in (
        k.0,
        record {
          numbered = record { number = n.0; last = n.1 };
          version = version_small;
          pid = p;
          bit = bit_bit h.current_next;
          table = rw table_is k.1;
          number = k.2;
          segment = omega arith;
        },
      )

-- ---- the rules' section

pub section_same : (from : Words) (bytes : Bytes) (h : Header) (f : fields.Eit) → section_for (arrival_of from h f) bytes ≡ section_of (origin_shown from) bytes h f
unfolding section_of
section_same from bytes h f =
    let c = bit_reads h.current_next in
    let n : f.segment_last_section_number + 1 - 1 ≡ f.segment_last_section_number = omega arith in
    λ i. record {
      from = origin_shown from;
      table_id_of = h.table_id;
      service_id = f.service_id.0;
      transport_stream_id = f.transport_stream_id;
      original_network_id = f.original_network_id;
      current_next_of = c i;
      version = h.version;
      number = h.number;
      last = h.last;
      segment_last = n i;
      last_table = f.last_table_id;
      bytes = bytes;
    }
