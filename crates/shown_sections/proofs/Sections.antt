-- What the listing of one section says, in the words of the loops' rules: all events and descriptors, or those that start before the first descriptor that runs past its
-- loop. No event runs past the section: its layout was judged before (19).
-- Assumes nothing.
use mathlib.Core.Path.{◌≡◌, refl, sym, ap, ap₂, ◌∙◌}
use mathlib.Core.Bool.{true}
use Prim.Native.Nat.{ℕ, ◌+◌, ◌-◌, ◌≤◌}
use native.Mathlib.Omega.{arith}
use mathlib.Core.List.{List, [], ◌∷◌, ◌++◌, append-nil}
use lib.ListN.{length, take, drop, length-drop}
use lib.Seq.{drop-drop, take-take, length-take-le}
use lib.Dec.{leb}
use borrow.Author.Tests.{leb-true}
use Rattle.laws.specs.Entries.{whole_entries}
use Rattle.laws.proofs.Tests.{and_true}
use Rattle.laws.proofs.Lists.{drop_take}
use Rattle.eit_section.specs.Eit.{layout_good}
use Rattle.listing.specs.Rules.{Part, Item, Whole, DescriptorPast, size_of, flat}
use Rattle.listing.specs.Store.{Found, done, past, found_from, words_of}
use Rattle.listing.proofs.Listed.{found_parts, found_items, whole_found, past_found, words_items, Known, is_whole, runs_past, known}
use Rattle.listing.proofs.LaidOut.{layout_good_lem}
use Rattle.shown_sections.specs.Shown.{show, finished, past_loop, end_by, good_show}

-- the bytes of a section's events
abbrev pub event_loop : (bytes : List ℕ) → (start size : ℕ) → List ℕ
event_loop bytes start size = take (size - 18) (drop 14 (take size (drop start bytes)))

loop_is : (bytes : List ℕ) (start size : ℕ) → 18 ≤ size → drop (start + 14) (take (start + size - 4) bytes) ≡ event_loop bytes start size
loop_is bytes start size h =
    let a : start + size - 4 ≡ start + 14 + (size - 18) = omega arith in
    let b : size ≡ 14 + (size - 14) = omega arith in
    let c : take (size - 18) (drop 14 (take (14 + (size - 14)) (drop start bytes))) ≡ take (size - 18) (drop (start + 14) bytes) =
    rw (drop_take 14 (size - 14) (drop start bytes), drop-drop 14 start bytes) (take-take (size - 18) (size - 14) (drop (start + 14) bytes) (omega arith)) in
    ap (λ (n : ℕ). drop (start + 14) (take n bytes)) a
    ∙ drop_take (start + 14) (size - 18) bytes
    ∙ sym c
    ∙ ap (λ (n : ℕ). take (size - 18) (drop 14 (take n (drop start bytes)))) (sym b)

end_parts : (number start at : ℕ) (ds : List Part) (f : Found) → end_by number start (found_parts at ds f) ≡ end_by number start f
unfolding found_parts end_by
end_parts number start at [] f = refl
end_parts number start at (d ∷ ds) f = end_parts number start (at + 2 + length d.body) ds f

end_items : (number start at : ℕ) (items : List Item) (f : Found) → end_by number start (found_items at items f) ≡ end_by number start f
unfolding found_items end_by
end_items number start at [] f = refl
end_items number start at (i ∷ is) f =
    end_parts number start (at + length i.header) i.descriptors (found_items (at + length i.header + size_of i.descriptors) is f)
    ∙ end_items number start (at + length i.header + size_of i.descriptors) is f

-- what a section shows whose layout is an EIT's
pub data Listed (bytes : List ℕ) (start size number : ℕ) : Type 0 where
  all_listed : (items : List Item) → Whole 12 (event_loop bytes start size) items → good_show bytes start size number ≡ show (flat 0 number (start + 14) items) finished → Listed bytes start size number
  stopped_at : (items : List Item) (place : ℕ) → DescriptorPast 12 (event_loop bytes start size) items place
      → good_show bytes start size number ≡ show (flat 0 number (start + 14) items) (past_loop number (14 + place)) → Listed bytes start size number

module _ (bytes : List ℕ) (start size number : ℕ) (l : start + size ≤ length bytes) where
  part : List ℕ
  part = take size (drop start bytes)

  abbrev found : Found
  found = found_from 12 (take (start + size - 4) bytes) (start + 14) 0

  shows : (items : List Item) (f : Found) → words_of 0 number f ≡ [] → found ≡ found_items (start + 14) items f → good_show bytes start size number ≡ show (flat 0 number (start + 14) items) (end_by number start f)
  unfolding good_show
  shows items f z e =
      ap (λ (x : Found). show (words_of 0 number x) (end_by number start x)) e
      ∙ ap₂ show (words_items 0 number items (start + 14) f ∙ ap (λ (x : List (List ℕ)). flat 0 number (start + 14) items ++ x) z ∙ append-nil (flat 0 number (start + 14) items)) (end_items number start (start + 14) items f)

  go : 18 ≤ size → whole_entries 12 (event_loop bytes start size) ≡ true → Known 12 (event_loop bytes start size) → Listed bytes start size number
  unfolding found_from words_of end_by
  go h e (is_whole items w) =
      all_listed items w (shows items done refl (whole_found 12 (omega arith) (rw (loop_is bytes start size h) w) (start + 14)))
  go h e (runs_past items place w) =
      let p : start + 14 + place - start ≡ 14 + place = omega arith in
      stopped_at items place (layout_good_lem 12 (omega arith) e w)
      (shows items (past (start + 14 + place)) refl (past_found 12 (omega arith) (rw (loop_is bytes start size h) w) (start + 14))
      ∙ ap (λ (n : ℕ). show (flat 0 number (start + 14) items) (past_loop number n)) p)

  -- a section that passed 19 stops at a descriptor or not at all
  pub section_listed_lem : layout_good (take size (drop start bytes)) ≡ true → Listed bytes start size number
  section_listed_lem e =
      let s : List ℕ = take size (drop start bytes) in
      let n : length s ≡ size = length-take-le size (drop start bytes) (simp length-drop (omega arith)) in
      let a = and_true (leb 18 (length s)) (whole_entries 12 (take (length s - 18) (drop 14 s))) e in
      go (leb-true 18 size (rw n at a.0)) (rw n at a.1) (known 12 (omega arith) (event_loop bytes start size))
