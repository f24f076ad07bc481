-- What a section lists that is not refused: the descriptors of the first loop, then each transport stream with its descriptors; each service with its descriptors. Each
-- once, in byte order.
-- Assumes nothing.
use mathlib.Core.Path.{◌≡◌, refl, sym, ap, ap₂, ◌∙◌}
use Prim.Native.Nat.{ℕ, zero, suc, ◌+◌, ◌*◌, ◌-◌, ◌≤◌, ◌<◌}
use native.Mathlib.Omega.{arith}
use mathlib.Core.List.{List, [], ◌∷◌, ◌++◌, append-nil}
use lib.ListN.{length, take, drop}
use Rattle.listing.specs.Rules.{Part, Item, Laid, Whole, flat_parts, flat}
use Rattle.listing.specs.Store.{Found, done, walk, words_of}
use Rattle.listing.proofs.Parts.{judged}
use Rattle.listing.proofs.Listed.{found_parts, descriptors_laid, words_parts}
use Rattle.rules_networks.specs.Networks.{crc_at, second_at, first_loop, stream_loop, service_loop, network_found, network_of, placed, nit_broken, sdt_broken, nit_entries, sdt_entries}
use Rattle.rules_networks.proofs.Listed.{placed_walk, WholeLoop, streams_listed, services_listed}
use Rattle.rules_networks.proofs.Nit.{network_is, FirstLaid, first_by, nit_passed}
use Rattle.rules_networks.proofs.Sdt.{sdt_passed}

-- a section from byte `start` of what is lent on
pub record NitListed (start number : ℕ) (s : List ℕ) : Type 0 where
  pub parts : List Part
  pub laid : Laid 1 2 (first_loop s) parts
  pub items : List Item
  pub whole : Whole 6 (stream_loop s) items
  pub listed : nit_entries start number s ≡ flat_parts number (start + 10) parts ++ flat 0 number (start + (second_at s + 2)) items

module _ (start number : ℕ) (s : List ℕ) where
  first_words : second_at s ≤ length s → (parts : List Part) → Laid 1 2 (first_loop s) parts → words_of 0 number (placed start (network_found s)) ≡ flat_parts number (start + 10) parts
  unfolding walk words_of
  first_words h parts d =
      let l : List ℕ = first_loop s in
      ap (λ (f : Found). words_of 0 number (placed start f)) (network_is s h)
      ∙ ap (words_of 0 number) (placed_walk start 6 (l ++ []) 0 (length l) 10 ∙ descriptors_laid 6 d [] (start + 10))
      ∙ words_parts 0 number parts (start + 10) done
      ∙ append-nil (flat_parts number (start + 10) parts)

  pub nit_listed : nit_broken s ≡ 0 → NitListed start number s
  unfolding nit_entries
  nit_listed e =
      let p = nit_passed s e in
      let h = p.long in
      let r = p.room in
      let f = first_by s (omega arith) p.first (judged 1 2 (omega arith) (first_loop s)) in
      let t = streams_listed s start number p.second in
      record {
        parts = f.parts;
        laid = f.laid;
        items = t.items;
        whole = t.whole;
        listed = ap₂ (λ (a b : List (List ℕ)). a ++ b) (first_words (omega arith) f.parts f.laid) t.listed;
      }

pub record SdtListed (start number : ℕ) (s : List ℕ) : Type 0 where
  pub items : List Item
  pub whole : Whole 5 (service_loop s) items
  pub listed : sdt_entries start number s ≡ flat (network_of s) number (start + 11) items

pub sdt_listed : (start number : ℕ) (s : List ℕ) → sdt_broken s ≡ 0 → SdtListed start number s
unfolding sdt_entries
sdt_listed start number s e = let t = services_listed s start number (sdt_passed s e).2 in record { items = t.items; whole = t.whole; listed = t.listed }
