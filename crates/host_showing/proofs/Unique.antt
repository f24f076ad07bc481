-- Each call has one answer, one content of the three words and one list, for every content of what is lent: two that meet its promise are equal.
-- Assumes nothing.
use Prim.Native.Nat.{ℕ}
use mathlib.Core.Path.{◌≡◌, ap}
use mathlib.Core.List.{List}
use Rattle.laws.proofs.Unique.{one_result}
use Rattle.host_showing.specs.Calls.{Listing, listing, section_listed, set_listed, table_listed, date_number}

module _ (r q : ℕ) (w v l k : List ℕ) where
  pub listing_one : (d : Listing) → listing r w l ≡ d → listing q v k ≡ d → (r ≡ q) × (w ≡ v) × (l ≡ k)
  listing_one d a b =
      let e : listing r w l ≡ listing q v k = one_result d a b in
      (ap (λ (x : Listing). x.answer) e, ap (λ (x : Listing). x.listed) e, ap (λ (x : Listing). x.list) e)

  pub unique_events :
      (section : List ℕ) (skip : ℕ) (list listed : List ℕ) → listing r w l ≡ section_listed section skip list listed → listing q v k ≡ section_listed section skip list listed →
      (r ≡ q) × (w ≡ v) × (l ≡ k)
  unique_events section skip list listed = listing_one (section_listed section skip list listed)

  pub unique_eit_events :
      (eit heads slots cells tops units : List ℕ) (row skip : ℕ) (list listed : List ℕ) →
      listing r w l ≡ set_listed eit heads slots cells tops units row skip list listed → listing q v k ≡ set_listed eit heads slots cells tops units row skip list listed →
      (r ≡ q) × (w ≡ v) × (l ≡ k)
  unique_eit_events eit heads slots cells tops units row skip list listed = listing_one (set_listed eit heads slots cells tops units row skip list listed)

  pub unique_eit_events_in_schedule :
      (eit heads slots cells tops units : List ℕ) (row table skip : ℕ) (list listed : List ℕ) →
      listing r w l ≡ table_listed eit heads slots cells tops units row table skip list listed →
      listing q v k ≡ table_listed eit heads slots cells tops units row table skip list listed →
      (r ≡ q) × (w ≡ v) × (l ≡ k)
  unique_eit_events_in_schedule eit heads slots cells tops units row table skip list listed = listing_one (table_listed eit heads slots cells tops units row table skip list listed)

pub unique_date : (day r q : ℕ) → r ≡ date_number day → q ≡ date_number day → r ≡ q
unique_date day r q = one_result (date_number day)
