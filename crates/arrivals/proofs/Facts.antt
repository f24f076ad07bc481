-- A section that arrives is a long form, numbered within its table.
-- Assumes nothing.
use mathlib.Core.Path.{◌≡◌, refl, sym, subst}
use mathlib.Core.List.{List}
use Prim.Native.Nat.{ℕ, ◌≤◌, ◌<◌}
use lib.ListN.{length, get_or}
use Rattle.section.specs.Judged.{collected_of}
use Rattle.section.specs.Header.{header_of}
use Rattle.section.specs.Facts.{Takes}
use Rattle.section.proofs.Facts.{takes}
use Rattle.section.specs.declared.header.Header.{Header}
use Rattle.std.specs.Prelude.{Option, Result, Ok, Err}
use Rattle.answers.specs.declared.Refusal.{Refusal}
use Rattle.answers.specs.declared.Refusal.TheVariants as refusal
use Rattle.eit_section.specs.declared.Eit.{Eit}
use Rattle.arrivals.specs.declared.Arrival.{Arrival}
use Rattle.eit_section.specs.Eit.{eit_of}
use Rattle.rows.specs.declared.Origin.{Origin}
use Rattle.rows.specs.declared.Key.{Key}
use Rattle.rows.specs.declared.Entry.{Entry}
use Rattle.arrivals.specs.Arrivals.{origin_words, entry_of, set_read, set_judged, set_arrival, eit_fields, eit_read, eit_judged, eit_arrival, Taken, SetTaken, EitTaken}

entry_taken : (s : List ℕ) (h : Header) (key : Key) → collected_of s ≡ Ok h → get_or s 7 0 < 256 → Taken s (entry_of key h)
unfolding header_of
entry_taken s h key e b = let t = takes s h (collected_of s) refl e in rw t.header (record { numbered = record { number = t.numbered; last = b }; long = t.room })

-- ---- of bytes, every arrival

module _ (s : List ℕ) (b : get_or s 7 0 < 256) where
  set_read_taken : (from : Origin) (c : Result Header Refusal) → collected_of s ≡ c → SetTaken s (set_read from c)
  set_read_taken from (Err r) q = tt
  set_read_taken from (Ok h) q = entry_taken s h _ q b

  pub set_read_arrived : (from : Origin) (a : Result Entry Refusal) → a ≡ set_read from (collected_of s) → SetTaken s a
  set_read_arrived from a e = subst (SetTaken s) (sym e) (set_read_taken from (collected_of s) refl)

  set_judged_taken : (v : Result Origin Refusal) → SetTaken s (set_judged v s)
  set_judged_taken (Err r) = tt
  set_judged_taken (Ok from) = set_read_taken from (collected_of s) refl

  pub set_taken : (input : ℕ) (pid : Option ℕ) → SetTaken s (set_arrival input pid s)
  unfolding set_arrival
  set_taken input pid = set_judged_taken (origin_words input pid)

  pub set_arrived : (input : ℕ) (pid : Option ℕ) (a : Result Entry Refusal) → a ≡ set_arrival input pid s → SetTaken s a
  set_arrived input pid a e = subst (SetTaken s) (sym e) (set_taken input pid)

  eit_fields_taken : (from : Origin) (h : Header) → collected_of s ≡ Ok h → (r : Result Eit Refusal) → EitTaken s (eit_fields from h r)
  eit_fields_taken from h q (Err r) = tt
  eit_fields_taken from h q (Ok f) = entry_taken s h _ q b

  eit_read_taken : (from : Origin) (c : Result Header Refusal) → collected_of s ≡ c → EitTaken s (eit_read from s c)
  eit_read_taken from (Err r) q = tt
  eit_read_taken from (Ok h) q = eit_fields_taken from h q (eit_of s)

  pub eit_read_arrived : (from : Origin) (a : Result Arrival Refusal) → a ≡ eit_read from s (collected_of s) → EitTaken s a
  eit_read_arrived from a e = subst (EitTaken s) (sym e) (eit_read_taken from (collected_of s) refl)

  eit_judged_taken : (v : Result Origin Refusal) → EitTaken s (eit_judged v s)
  eit_judged_taken (Err r) = tt
  eit_judged_taken (Ok from) = eit_read_taken from (collected_of s) refl

  pub eit_taken : (input : ℕ) (pid : Option ℕ) → EitTaken s (eit_arrival input pid s)
  unfolding eit_arrival
  eit_taken input pid = eit_judged_taken (origin_words input pid)

  pub eit_arrived : (input : ℕ) (pid : Option ℕ) (a : Result Arrival Refusal) → a ≡ eit_arrival input pid s → EitTaken s a
  eit_arrived input pid a e = subst (EitTaken s) (sym e) (eit_taken input pid)
