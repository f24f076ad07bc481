-- A network of two transport streams, a bouquet of one, a table of two services, word by word; loops that do not end where their lengths say.
-- Assumes nothing.
use mathlib.Core.Path.{◌≡◌, refl}
use mathlib.Core.List.{List, [], ◌∷◌}
use Prim.Native.Nat.{ℕ}
use lib.ListN.{set}
use Rattle.laws.specs.Lists.{any}
use Rattle.entry_words.specs.Words.{stream_words, service_words, entry_words, descriptor_words}
use Rattle.listing.specs.Store.{walk, found_from, words_of}
use Rattle.rules_networks.specs.declared.Table.{Table}
use Rattle.rules_networks.specs.declared.Table.TheVariants.{Nit, Bat, Sdt, None}
use Rattle.rules_networks.specs.Networks.{length_wrong, broken_in, nit_broken, sdt_broken, fault_of, placed, Told, other_table, broken_loop, entries, nit_entries, sdt_entries, read_at, read_as}

-- network 0x3001, section 0: its name; stream 1 with a service list; stream 3
abbrev network : List ℕ
network = 0x40 ∷ 0xF0 ∷ 0x23 ∷ 0x30 ∷ 0x01 ∷ 0xCB ∷ 0x00 ∷ 0x01 ∷ 0xF0 ∷ 0x05 ∷ 0x40 ∷ 0x03 ∷ 0x6E ∷ 0x65 ∷ 0x74 ∷ 0xF0 ∷ 0x11 ∷ 0x00 ∷ 0x01 ∷ 0x21 ∷ 0x74 ∷ 0xF0 ∷ 0x05 ∷ 0x41 ∷ 0x03 ∷ 0x00 ∷ 0x01 ∷ 0x01 ∷ 0x00 ∷ 0x03 ∷ 0x21 ∷ 0x74 ∷ 0xF0 ∷ 0x00 ∷ 0xDD ∷ 0x18 ∷ 0x74 ∷ 0x95 ∷ []

-- bouquet 0x3002, section 2: no descriptor; stream 7 of network 0x0010
abbrev bouquet : List ℕ
bouquet = 0x4A ∷ 0xF0 ∷ 0x13 ∷ 0x30 ∷ 0x02 ∷ 0xCB ∷ 0x02 ∷ 0x02 ∷ 0xF0 ∷ 0x00 ∷ 0xF0 ∷ 0x06 ∷ 0x00 ∷ 0x07 ∷ 0x00 ∷ 0x10 ∷ 0xF0 ∷ 0x00 ∷ 0xC8 ∷ 0x83 ∷ 0xC1 ∷ 0x5C ∷ []

-- transport stream 1 of network 0x2174, section 4: service 1, present and following alone, running, with a service descriptor; service 2, schedule alone, scrambled
abbrev services : List ℕ
services = 0x42 ∷ 0xF0 ∷ 0x1B ∷ 0x00 ∷ 0x01 ∷ 0xCB ∷ 0x04 ∷ 0x04 ∷ 0x21 ∷ 0x74 ∷ 0xFF ∷ 0x00 ∷ 0x01 ∷ 0xFD ∷ 0x80 ∷ 0x05 ∷ 0x48 ∷ 0x03 ∷ 0x61 ∷ 0x62 ∷ 0x63 ∷ 0x00 ∷ 0x02 ∷ 0xFE ∷ 0x90 ∷ 0x00 ∷ 0x11 ∷ 0x00 ∷ 0x43 ∷ 0xAE ∷ []

-- both loops empty; a byte behind the second
abbrev nothing : List ℕ
nothing = 0x40 ∷ 0xF0 ∷ 0x0D ∷ 0x00 ∷ 0x01 ∷ 0xCB ∷ 0x00 ∷ 0x00 ∷ 0xF0 ∷ 0x00 ∷ 0xF0 ∷ 0x00 ∷ 0xD6 ∷ 0x12 ∷ 0x2F ∷ 0xC6 ∷ []

abbrev byte_after : List ℕ
byte_after = 0x40 ∷ 0xF0 ∷ 0x0E ∷ 0x00 ∷ 0x01 ∷ 0xCB ∷ 0x00 ∷ 0x00 ∷ 0xF0 ∷ 0x00 ∷ 0xF0 ∷ 0x00 ∷ 0x00 ∷ 0x17 ∷ 0x06 ∷ 0x55 ∷ 0xDE ∷ []

unfoldable pub says : Table → List ℕ → Told
unfolding any stream_words service_words entry_words descriptor_words walk found_from words_of length_wrong broken_in nit_broken sdt_broken fault_of placed nit_entries sdt_entries read_at read_as
says r s = read_as r s

pub record NetworkExamples : Type 0 where
  pub of_network : says Nit network ≡ entries (
      (2 ∷ 0 ∷ 10 ∷ 0x40 ∷ 3 ∷ 0 ∷ 0 ∷ 0 ∷ 0 ∷ 0 ∷ 0 ∷ 0 ∷ [])
      ∷ (3 ∷ 0 ∷ 17 ∷ 1 ∷ 5 ∷ 0x2174 ∷ 0 ∷ 0 ∷ 0 ∷ 0 ∷ 0 ∷ 0 ∷ [])
      ∷ (2 ∷ 0 ∷ 23 ∷ 0x41 ∷ 3 ∷ 0 ∷ 0 ∷ 0 ∷ 0 ∷ 0 ∷ 0 ∷ 0 ∷ [])
      ∷ (3 ∷ 0 ∷ 28 ∷ 3 ∷ 0 ∷ 0x2174 ∷ 0 ∷ 0 ∷ 0 ∷ 0 ∷ 0 ∷ 0 ∷ [])
      ∷ [])
  pub of_bouquet : says Bat bouquet ≡ entries ((3 ∷ 2 ∷ 12 ∷ 7 ∷ 0 ∷ 0x10 ∷ 0 ∷ 0 ∷ 0 ∷ 0 ∷ 0 ∷ 0 ∷ []) ∷ [])
  pub of_services : says Sdt services ≡ entries (
      (4 ∷ 4 ∷ 11 ∷ 1 ∷ 5 ∷ 0x2174 ∷ 0 ∷ 0 ∷ 0 ∷ 4 ∷ 0 ∷ 1 ∷ [])
      ∷ (2 ∷ 4 ∷ 16 ∷ 0x48 ∷ 3 ∷ 0 ∷ 0 ∷ 0 ∷ 0 ∷ 0 ∷ 0 ∷ 0 ∷ [])
      ∷ (4 ∷ 4 ∷ 21 ∷ 2 ∷ 0 ∷ 0x2174 ∷ 0 ∷ 0 ∷ 0 ∷ 4 ∷ 1 ∷ 2 ∷ [])
      ∷ [])
  pub no_entry : says Nit nothing ≡ entries []
  -- 36 at the second length, 10 + n
  pub byte_after_lem : says Nit byte_after ≡ broken_loop 0 10
  pub no_section_lem : says Sdt (0x42 ∷ []) ≡ broken_loop 0 1
  -- a first loop of one byte less: the descriptor runs past it; of more than there is
  pub first_less : says Nit (set network 9 4) ≡ broken_loop 0 10
  pub first_more : says Nit (set network 9 200) ≡ broken_loop 0 8
  -- a descriptor and a transport stream that run past
  pub descriptor_past : says Nit (set network 24 4) ≡ broken_loop 0 23
  pub stream_past : says Nit (set network 33 1) ≡ broken_loop 0 28
  pub service_past : says Sdt (set services 25 1) ≡ broken_loop 4 21
  -- 35
  pub another : says Nit bouquet ≡ other_table 2
  pub no_table : says None network ≡ other_table 0
  -- 35 before 36: no byte but a table_id of another reader
  pub other_first : says Nit (0x42 ∷ []) ≡ other_table 0
  -- service other is read as service actual
  pub service_other : says Sdt (set services 0 0x46) ≡ says Sdt services

pub network_examples : NetworkExamples
unfolding says
network_examples = record {
  of_network = refl;
  of_bouquet = refl;
  of_services = refl;
  no_entry = refl;
  byte_after_lem = refl;
  no_section_lem = refl;
  first_less = refl;
  first_more = refl;
  descriptor_past = refl;
  stream_past = refl;
  service_past = refl;
  another = refl;
  no_table = refl;
  other_first = refl;
  service_other = refl;
}
