-- The loops of NIT, BAT, SDT and EIT are one loop with headers of 6, 6, 5 and 12 bytes: what is proved of it once holds for each.
-- Assumes nothing.
use mathlib.Core.Path.{◌≡◌}
use Prim.Native.Nat.{ℕ, ◌+◌, ◌*◌, ◌-◌, ◌/◌, ◌≤◌}
use native.Mathlib.Omega.{arith}
use mathlib.Core.List.{List, ◌++◌}
use lib.ListN.{length, drop}
use Rattle.listing.specs.declared.Loop.{Loop}
use Rattle.listing.specs.declared.Walked.TheVariants.{Done, Past}
use Rattle.listing.specs.Rules.{Item, Whole, RunsPast, items_of, flat, page, joined}
use Rattle.listing.specs.Store.{found_from, words_of, put_all, listing}
use Rattle.listing.proofs.Listed.{all_listed, first_past, Known, known}
use Rattle.listing.proofs.Window.{window, found_twelve}
use Rattle.listing.proofs.Bounds.{two_bytes}

abbrev pub loop_of : (header network number skip : ℕ) → Loop
loop_of header network number skip = record { header = header; network = network; number = number; skip = skip }

-- what holds of a loop whose headers have n bytes
pub record Once (n : ℕ) : Type 0 where
  pub listed : (network number skip : ℕ) (s : List ℕ) (at : ℕ) (list : List ℕ) (k : ℕ) {items : List Item} → Whole n (drop at s) items
      → listing (loop_of n network number skip) s at 0 list k
      ≡ (Done (k + length (flat network number at (items_of n (drop at s)))), put_all list skip k (flat network number at (items_of n (drop at s))))
  pub stopped : (network number skip : ℕ) (s : List ℕ) (at : ℕ) (list : List ℕ) (k : ℕ) {items : List Item} {place : ℕ} → RunsPast n (drop at s) items place
      → listing (loop_of n network number skip) s at 0 list k ≡ (Past (at + place) (k + length (flat network number at items)), put_all list skip k (flat network number at items))
  -- the list shows entries skip to skip + room - 1
  pub shown : (network number skip : ℕ) (s : List ℕ) (at : ℕ) (list : List ℕ)
      → put_all list skip 0 (words_of network number (found_from n s at 0))
      ≡ joined (page skip (length list / 12) (words_of network number (found_from n s at 0))) ++ drop (length (page skip (length list / 12) (words_of network number (found_from n s at 0))) * 12) list
  pub either : (s : List ℕ) → Known n s
  pub few : (network number : ℕ) (s : List ℕ) (at : ℕ) → 2 * length (words_of network number (found_from n s at 0)) ≤ length s - at

pub once : (n : ℕ) → 2 ≤ n → Once n
once n h = record {
  listed = λ network number skip s at list k w. all_listed (loop_of n network number skip) s at list k h w;
  stopped = λ network number skip s at list k w. first_past (loop_of n network number skip) s at list k h w;
  shown = λ network number skip s at list. window list skip (found_twelve network number (found_from n s at 0));
  either = known n h;
  few = λ network number s at. two_bytes network number n h s at;
}

pub of_networks : Once 6
of_networks = once 6 (omega arith)

pub of_bouquets : Once 6
of_bouquets = once 6 (omega arith)

pub of_services : Once 5
of_services = once 5 (omega arith)

pub of_events : Once 12
of_events = once 12 (omega arith)
