-- The sections of a row are listed by rising number, one after another; the first that is refused decides, and then nothing is listed. The list is a window on all
-- entries, and as before where there are none to be seen.
-- Assumes nothing.
use mathlib.Core.Path.{◌≡◌, refl, sym, ap, ◌∙◌}
use mathlib.Core.Bool.{Bool, true, false, cond, true≢false}
use Prim.Native.Nat.{ℕ, ◌+◌, ◌*◌, ◌/◌}
use mathlib.Core.List.{List, [], ◌∷◌, ◌++◌}
use lib.ListN.{length, drop}
use Rattle.cells.specs.Cells.{filled, cell_number, kept}
use Rattle.listing.specs.Rules.{page, joined}
use Rattle.listing.proofs.Window.{Twelve, none, twelve_append, found_twelve, window}
use Rattle.rules_networks.specs.declared.Table.{Table}
use Rattle.rules_networks.specs.declared.Table.TheVariants.{Nit, Bat, Sdt, None}
use Rattle.rules_networks.specs.Networks.{network_found, streams_found, services_found, network_of, placed, nit_entries, sdt_entries, entries_of, Told, other_table, broken_loop, entries, read_at, and_then}
use Rattle.network_sets.specs.Sets.{said_of, slot_told, slots_told, slot_entries, slots_entries, sections_told, in_order, AllListed, listed_none, listed_more, is_refused}

-- ---- section after section

then_nothing : (t : Told) → and_then (entries []) t ≡ t
then_nothing (other_table section) = refl
then_nothing (broken_loop section place) = refl
then_nothing (entries es) = refl

-- what is told of a row is what is told of its filled slots' sections by rising number, one after another
pub set_listed_lem : (t : Table) (cells : List ℕ) (size : ℕ) (slots : List ℕ) (number : ℕ) → slots_told t cells size slots number ≡ in_order (sections_told t cells size slots number)
unfolding slots_told slot_told sections_told in_order
set_listed_lem t cells size [] number = refl
set_listed_lem t cells size (w ∷ ws) number = go (filled w) (set_listed_lem t cells size ws (number + 1))
  where
    own : Told
    own = read_at t (cell_number w * size) number (kept cells size w)

    go : (b : Bool) → slots_told t cells size ws (number + 1) ≡ in_order (sections_told t cells size ws (number + 1))
        → and_then (cond b own (entries [])) (slots_told t cells size ws (number + 1)) ≡ in_order (cond b (own ∷ sections_told t cells size ws (number + 1)) (sections_told t cells size ws (number + 1)))
    go true e = ap (and_then own) e
    go false e = then_nothing (slots_told t cells size ws (number + 1)) ∙ e

-- where none is refused, the entries of all are listed, one section after another
pub all_sections : {xs : List Told} {es : List (List ℕ)} → AllListed xs es → in_order xs ≡ entries es
unfolding in_order
all_sections listed_none = refl
all_sections (listed_more a l) = ap (and_then (entries a)) (all_sections l)

refused_then : (a b : Told) → is_refused a ≡ true → and_then a b ≡ a
refused_then (other_table section) b h = refl
refused_then (broken_loop section place) b h = refl
refused_then (entries es) b h = absurd (true≢false (sym h))

then_refused : (a : List (List ℕ)) (b : Told) → is_refused b ≡ true → and_then (entries a) b ≡ b
then_refused a (other_table section) h = refl
then_refused a (broken_loop section place) h = refl
then_refused a (entries es) h = absurd (true≢false (sym h))

-- the first that is refused decides
pub first_refused : {xs : List Told} {es : List (List ℕ)} → AllListed xs es → (b : Told) (bs : List Told) → is_refused b ≡ true → in_order (xs ++ b ∷ bs) ≡ b
unfolding in_order
first_refused listed_none b bs h = refused_then b (in_order bs) h
first_refused (listed_more a l) b bs h = ap (and_then (entries a)) (first_refused l b bs h) ∙ then_refused a b h

-- ---- the list

-- 35 and 36 leave it
pub as_before_lem : (skip : ℕ) (t : Told) (list : List ℕ) → is_refused t ≡ true → (said_of skip t list).1 ≡ list
as_before_lem skip (other_table section) list h = refl
as_before_lem skip (broken_loop section place) list h = refl
as_before_lem skip (entries es) list h = absurd (true≢false (sym h))

pub entries_twelve : (t : Table) (start number : ℕ) (s : List ℕ) → Twelve (entries_of t start number s)
unfolding nit_entries sdt_entries
entries_twelve Nit start number s = twelve_append (found_twelve 0 number (placed start (network_found s))) (found_twelve 0 number (placed start (streams_found s)))
entries_twelve Bat start number s = twelve_append (found_twelve 0 number (placed start (network_found s))) (found_twelve 0 number (placed start (streams_found s)))
entries_twelve Sdt start number s = found_twelve (network_of s) number (placed start (services_found s))
entries_twelve None start number s = none

pub slots_twelve : (t : Table) (cells : List ℕ) (size : ℕ) (slots : List ℕ) (number : ℕ) → Twelve (slots_entries t cells size slots number)
unfolding slots_entries slot_entries
slots_twelve t cells size [] number = none
slots_twelve t cells size (w ∷ ws) number = twelve_append (own (filled w)) (slots_twelve t cells size ws (number + 1))
  where
    own : (b : Bool) → Twelve (cond b (entries_of t (cell_number w * size) number (kept cells size w)) [])
    own true = entries_twelve t (cell_number w * size) number (kept cells size w)
    own false = none

-- after a call that listed, the list shows entries skip to skip + room - 1, and every word behind the last of them is as before
pub read_window : (skip : ℕ) {es : List (List ℕ)} (list : List ℕ) → Twelve es
    → (said_of skip (entries es) list).1 ≡ joined (page skip (length list / 12) es) ++ drop (length (page skip (length list / 12) es) * 12) list
read_window skip list t = window list skip t
