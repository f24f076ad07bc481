-- A section whose loops all end where their lengths say is listed whole: the network's or bouquet's descriptors, then each transport stream with its descriptors; each
-- service with its descriptors.
-- Assumes nothing.
use mathlib.Core.Path.{◌≡◌, refl, sym, ap, ◌∙◌}
use mathlib.Core.Bool.{Bool, true, false, cond, true≢false}
use Prim.Native.Nat.{ℕ, zero, suc, ◌+◌, ◌*◌, ◌-◌, ◌≤◌, ◌<◌}
use native.Mathlib.Omega.{arith}
use mathlib.Core.List.{List, [], ◌∷◌, ◌++◌, append-nil}
use lib.ListN.{length, get_or, take, drop}
use lib.Dec.{ltb}
use Rattle.laws.specs.Entries.{counted}
use Rattle.listing.specs.Rules.{Part, Item, Whole, RunsPast, size_of, flat}
use Rattle.listing.specs.Store.{Found, done, past, entry, descriptor, walk, found_from, words_of}
use Rattle.listing.proofs.Listed.{found_parts, found_items, whole_found, past_found, words_items, Known, is_whole, runs_past, known}
use Rattle.rules_networks.specs.Networks.{broken_in, placed, stream_loop, service_loop, streams_found, services_found, network_of, second_at, loop_length, crc_at}

pub parts_broken : (at : ℕ) (ds : List Part) (f : Found) → broken_in (found_parts at ds f) ≡ broken_in f
unfolding found_parts broken_in
parts_broken at [] f = refl
parts_broken at (d ∷ ds) f = parts_broken (at + 2 + length d.body) ds f

pub items_broken : (at : ℕ) (items : List Item) (f : Found) → broken_in (found_items at items f) ≡ broken_in f
unfolding found_items broken_in
items_broken at [] f = refl
items_broken at (i ∷ is) f =
    parts_broken (at + length i.header) i.descriptors (found_items (at + length i.header + size_of i.descriptors) is f)
    ∙ items_broken (at + length i.header + size_of i.descriptors) is f

-- ---- the same bytes further on

module _ (start n : ℕ) where
  pick : (b : Bool) (x y : Found) {v w : Found} → placed start x ≡ v → placed start y ≡ w → placed start (cond b x y) ≡ cond b v w
  pick true x y p q = p
  pick false x y p q = q

  -- what is walked from `start` bytes further on is found so much further on
  pub placed_walk : (s : List ℕ) (pass left at : ℕ) → placed start (walk n s pass left at) ≡ walk n s pass left (start + at)
  unfolding walk placed
  placed_walk [] pass left at = refl
  placed_walk (b ∷ t) (suc pass) left at = placed_walk t pass left (suc at) ∙ ap (walk n t pass left) (omega arith)
  placed_walk (b ∷ t) zero zero at =
      pick (ltb (length (b ∷ t)) n) (past at) _ refl
      (pick (ltb (length (b ∷ t) - n) (counted n (b ∷ t))) (past at) _ refl
      (ap (entry (start + at) (take n (b ∷ t))) (placed_walk t (n - 1) (counted n (b ∷ t)) (suc at) ∙ ap (walk n t (n - 1) (counted n (b ∷ t))) (omega arith))))
  placed_walk (b ∷ t) zero (suc left) at =
      pick (ltb (suc left) 2) (past at) _ refl
      (pick (ltb (suc left - 2) (get_or t 0 0)) (past at) _ refl
      (ap (descriptor (start + at) b (get_or t 0 0))
      (placed_walk t (1 + get_or t 0 0) (suc left - 2 - get_or t 0 0) (suc at) ∙ ap (walk n t (1 + get_or t 0 0) (suc left - 2 - get_or t 0 0)) (omega arith))))

-- ---- a loop in which nothing runs past, with the entries that it has

pub record WholeLoop (n network number start at : ℕ) (loop : List ℕ) (f : Found) : Type 0 where
  pub items : List Item
  pub whole : Whole n loop items
  pub listed : words_of network number (placed start f) ≡ flat network number (start + at) items

words_done : (network number at : ℕ) (items : List Item) → words_of network number (found_items at items done) ≡ flat network number at items
unfolding words_of
words_done network number at items = words_items network number items at done ∙ append-nil (flat network number at items)

past_broken : (at place : ℕ) (items : List Item) (f : Found) → f ≡ found_items at items (past (at + place)) → broken_in f ≡ suc (at + place)
unfolding broken_in
past_broken at place items f e = ap broken_in e ∙ items_broken at items (past (at + place))

module _ (n : ℕ) (p : 2 ≤ n) (network number start : ℕ) (s : List ℕ) (at : ℕ) where
  loop_known : Known n (drop at s) → broken_in (found_from n s at 0) ≡ 0 → WholeLoop n network number start at (drop at s) (found_from n s at 0)
  unfolding found_from
  loop_known (is_whole items w) e = record {
    items = items;
    whole = w;
    listed = ap (words_of network number) (placed_walk start n (drop at s) 0 0 at ∙ whole_found n p w (start + at)) ∙ words_done network number (start + at) items;
  }
  loop_known (runs_past items place w) e = absurd (let q = past_broken at place items (found_from n s at 0) (past_found n p w at) in omega arith)

  -- not broken: every entry and every descriptor ends inside its loop, and all are listed
  pub loop_whole : broken_in (found_from n s at 0) ≡ 0 → WholeLoop n network number start at (drop at s) (found_from n s at 0)
  loop_whole = loop_known (known n p (drop at s))

-- broken: an entry or a descriptor runs past its loop, at that place and no other
pub record PastLoop (n at : ℕ) (loop : List ℕ) (fault : ℕ) : Type 0 where
  pub items : List Item
  pub place : ℕ
  pub runs : RunsPast n loop items place
  pub told : fault ≡ suc (at + place)

module _ (n : ℕ) (p : 2 ≤ n) (s : List ℕ) (at : ℕ) where
  pub past_told : {items : List Item} {place : ℕ} → RunsPast n (drop at s) items place → broken_in (found_from n s at 0) ≡ suc (at + place)
  unfolding found_from
  past_told {items} {place} w = past_broken at place items (found_from n s at 0) (past_found n p w at)

  past_known : (fault : ℕ) → Known n (drop at s) → broken_in (found_from n s at 0) ≡ suc fault → PastLoop n at (drop at s) (suc fault)
  unfolding found_from broken_in
  past_known fault (is_whole items w) e = absurd (let q = ap broken_in (whole_found n p w at) ∙ items_broken at items done in omega arith)
  past_known fault (runs_past items place w) e = record { items = items; place = place; runs = w; told = sym e ∙ past_told w }

  pub loop_past : (fault : ℕ) → broken_in (found_from n s at 0) ≡ suc fault → PastLoop n at (drop at s) (suc fault)
  loop_past fault = past_known fault (known n p (drop at s))

-- ---- transport streams and services

pub streams_listed : (s : List ℕ) (start number : ℕ) → broken_in (streams_found s) ≡ 0 → WholeLoop 6 0 number start (second_at s + 2) (stream_loop s) (streams_found s)
streams_listed s start number = loop_whole 6 (omega arith) 0 number start (take (second_at s + 2 + loop_length s) s) (second_at s + 2)

pub services_listed : (s : List ℕ) (start number : ℕ) → broken_in (services_found s) ≡ 0 → WholeLoop 5 (network_of s) number start 11 (service_loop s) (services_found s)
services_listed s start number = loop_whole 5 (omega arith) (network_of s) number start (take (crc_at s) s) 11
