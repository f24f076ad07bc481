-- The sections of a row are listed by rising number, one after another; where one ends early, nothing after it is listed. The list is a window on all entries.
-- Assumes nothing.
use mathlib.Core.Path.{◌≡◌, refl, sym, ap, ◌∙◌}
use mathlib.Core.Bool.{Bool, true, false, cond, true≢false}
use Prim.Native.Nat.{ℕ, ◌+◌, ◌*◌, ◌/◌, ◌-◌}
use mathlib.Core.List.{List, [], ◌∷◌, ◌++◌, append_assoc}
use lib.ListN.{length, drop, take}
use Rattle.cells.specs.Cells.{filled, cell_number, kept_length}
use Rattle.eit_section.specs.Eit.{eit_of}
use Rattle.std.specs.Prelude.{Result, Ok, Err}
use Rattle.eit_section.specs.declared.Eit.{Eit}
use Rattle.answers.specs.declared.Refusal.{Refusal}
use Rattle.answers.specs.declared.Refusal.TheVariants as refusal
use Rattle.listing.specs.Rules.{page, joined}
use Rattle.listing.specs.Store.{found_from}
use Rattle.listing.proofs.Window.{Twelve, none, twelve_append, found_twelve, window}
use Rattle.shown_sections.specs.Shown.{Show, show, End, finished, no_eit, broken, past_loop, good_show, show_by, section_show, and_then, end_then, slot_show, slots_show, laid}
use Rattle.shown_sections.specs.Shown.{section_shows, in_order, entries_of, AllFinished, finished_none, finished_more, ends_early}

-- ---- section after section

-- the entries of a row are those of its filled slots by rising number, one section after another
pub set_listed_lem : (cells : List ℕ) (size : ℕ) (slots : List ℕ) (number : ℕ) → slots_show cells size slots number ≡ in_order (section_shows cells size slots number)
unfolding slots_show slot_show section_shows in_order
set_listed_lem cells size [] number = refl
set_listed_lem cells size (w ∷ ws) number = go (filled w) (set_listed_lem cells size ws (number + 1))
  where
    go : (b : Bool) → slots_show cells size ws (number + 1) ≡ in_order (section_shows cells size ws (number + 1))
        → and_then (cond b (section_show cells (cell_number w * size) (kept_length w) number) (show [] finished)) (slots_show cells size ws (number + 1))
        ≡ in_order (cond b (section_show cells (cell_number w * size) (kept_length w) number ∷ section_shows cells size ws (number + 1)) (section_shows cells size ws (number + 1)))
    go true e = ap (and_then (section_show cells (cell_number w * size) (kept_length w) number)) e
    go false e = e

then_finished : (a b : Show) → a.end ≡ finished → and_then a b ≡ show (a.entries ++ b.entries) b.end
then_finished a b e = ap (λ (x : End). end_then x a b) e

-- where every section is listed to its end, all entries are listed
pub all_sections : {xs : List Show} → AllFinished xs → in_order xs ≡ show (entries_of xs) finished
unfolding in_order entries_of
all_sections finished_none = refl
all_sections (finished_more {a} {xs} e f) = then_finished a (in_order xs) e ∙ ap (λ (x : Show). show (a.entries ++ x.entries) x.end) (all_sections f)

stop_by : (e : End) (a b : Show) → ends_early e ≡ true → end_then e a b ≡ a
stop_by finished a b h = absurd (true≢false (sym h))
stop_by (no_eit section) a b h = refl
stop_by (broken section) a b h = refl
stop_by (past_loop section place) a b h = refl

-- the first that ends early ends the listing: its entries stand, those of later sections are not listed
pub first_stop : {xs : List Show} → AllFinished xs → (b : Show) (bs : List Show) → ends_early b.end ≡ true → in_order (xs ++ b ∷ bs) ≡ show (entries_of xs ++ b.entries) b.end
unfolding in_order entries_of
first_stop finished_none b bs h = stop_by b.end b (in_order bs) h
first_stop (finished_more {a} {xs} e f) b bs h =
    then_finished a (in_order (xs ++ b ∷ bs)) e
    ∙ ap (λ (x : Show). show (a.entries ++ x.entries) x.end) (first_stop f b bs h)
    ∙ ap (λ (x : List (List ℕ)). show x b.end) (sym (append_assoc a.entries (entries_of xs) b.entries))

-- ---- the window

by_twelve : (bytes : List ℕ) (start size number : ℕ) (x : Result Eit Refusal) → Twelve (show_by bytes start size number x).entries
unfolding good_show
by_twelve bytes start size number (Err refusal.NotEit) = none
by_twelve bytes start size number (Err r) = none
by_twelve bytes start size number (Ok e) = found_twelve 0 number (found_from 12 (take (start + size - 4) bytes) (start + 14) 0)

pub section_twelve : (bytes : List ℕ) (start size number : ℕ) → Twelve (section_show bytes start size number).entries
unfolding section_show
section_twelve bytes start size number = by_twelve bytes start size number (eit_of (take size (drop start bytes)))

then_twelve : (e : End) (a b : Show) → Twelve a.entries → Twelve b.entries → Twelve (end_then e a b).entries
then_twelve finished a b p q = twelve_append p q
then_twelve (no_eit section) a b p q = p
then_twelve (broken section) a b p q = p
then_twelve (past_loop section place) a b p q = p

pub slots_twelve : (cells : List ℕ) (size : ℕ) (slots : List ℕ) (number : ℕ) → Twelve (slots_show cells size slots number).entries
unfolding slots_show slot_show
slots_twelve cells size [] number = none
slots_twelve cells size (w ∷ ws) number =
    then_twelve (slot_show cells size w number).end (slot_show cells size w number) (slots_show cells size ws (number + 1)) (own (filled w)) (slots_twelve cells size ws (number + 1))
  where
    own : (b : Bool) → Twelve (cond b (section_show cells (cell_number w * size) (kept_length w) number) (show [] finished)).entries
    own true = section_twelve cells (cell_number w * size) (kept_length w) number
    own false = none

-- after a call the list shows entries skip to skip + room - 1, and every word behind the last of them is as before
pub shown_window : (skip : ℕ) (s : Show) (list : List ℕ) → Twelve s.entries
    → (laid skip s list).1 ≡ joined (page skip (length list / 12) s.entries) ++ drop (length (page skip (length list / 12) s.entries) * 12) list
unfolding laid
shown_window skip s list t = window list skip t
