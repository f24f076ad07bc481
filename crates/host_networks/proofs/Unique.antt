-- Each call has one answer, one content of the three words and one list, for every content of what is lent: two that meet its promise are equal.
-- Assumes nothing.
use Prim.Native.Nat.{ℕ}
use mathlib.Core.Path.{◌≡◌, ap}
use mathlib.Core.List.{List}
use Rattle.host_showing.specs.Calls.{listing}
use Rattle.host_showing.proofs.Unique.{listing_one}
use Rattle.host_networks.specs.Calls.{section_read, set_read}

module _ (r q : ℕ) (w v l k : List ℕ) where
  pub unique_entries :
      (reader : ℕ) (section : List ℕ) (skip : ℕ) (list listed : List ℕ) → listing r w l ≡ section_read reader section skip list listed → listing q v k ≡ section_read reader section skip list listed →
      (r ≡ q) × (w ≡ v) × (l ≡ k)
  unique_entries reader section skip list listed = listing_one r q w v l k (section_read reader section skip list listed)

  pub unique_sets_entries :
      (reader : ℕ) (sets heads slots cells : List ℕ) (row skip : ℕ) (list listed : List ℕ) →
      listing r w l ≡ set_read reader sets heads slots cells row skip list listed → listing q v k ≡ set_read reader sets heads slots cells row skip list listed →
      (r ≡ q) × (w ≡ v) × (l ≡ k)
  unique_sets_entries reader sets heads slots cells row skip list listed = listing_one r q w v l k (set_read reader sets heads slots cells row skip list listed)
