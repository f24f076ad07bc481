-- What arrived, made of what it was made from.
-- Assumes nothing.
use mathlib.Core.Path.{◌≡◌}
use mathlib.Core.List.{List}
use Prim.Native.Nat.{ℕ, ◌+◌}
use Rattle.answers.specs.declared.Refusal.{Refusal}
use Rattle.answers.specs.declared.Refusal.TheVariants as refusal
use Rattle.section.specs.Ids.{input_made, origin_made}
use Rattle.section.specs.Judged.{collected_of}
use Rattle.section.specs.declared.header.Header.{Header}
use Rattle.std.specs.Prelude.{Option, Some, None, Result, Ok, Err}
use Rattle.section.specs.declared.ids.Origin as made
use Rattle.section.specs.declared.ids.Input.{Input}
use Rattle.eit_section.specs.Eit.{eit_of}
use Rattle.eit_section.specs.declared.Eit.{Eit}
use Rattle.rows.specs.declared.Origin.{Origin}
use Rattle.rows.specs.declared.Key.{Key}
use Rattle.rows.specs.declared.Entry.{Entry}
use Rattle.arrivals.specs.declared.Arrival.{Arrival}
use Rattle.arrivals.specs.Arrivals.{made_words, origin_words, bit_of, set_key, eit_key, entry_of, kind_number, arrival_of, set_read, set_arrival, eit_fields, eit_read, eit_arrival}

-- ---- what arrived

pub arrival_made : (from : Origin) (h : Header) (f : Eit) (key : Key) (e : Entry) (k : ℕ) → key ≡ eit_key from h f → e ≡ entry_of key h → k ≡ kind_number f.kind
    → ◌≡◌ {A = Arrival} (record { entry = e; kind = k; segment = f.segment_last_section_number + 1; tables = f.last_table_id }) (arrival_of from h f)
arrival_made from h f key e k p q r = rw (r, q, p)
