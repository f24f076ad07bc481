-- One law for each way out of the functions that list sections.
-- Assumes nothing.
use mathlib.Core.Path.{◌≡◌, refl, sym, ap, ap₂, ◌∙◌}
use mathlib.Core.Bool.{Bool, true, false, cond}
use Prim.Native.Nat.{ℕ, ◌+◌, ◌*◌, ◌-◌, ◌≤◌, ◌<◌, min}
use native.Mathlib.Nat.{add-zero, sub-zero, mul-le-mul}
use native.Mathlib.Numerals.{add-one}
use native.Mathlib.Omega.{arith}
use mathlib.Core.List.{List, ◌++◌}
use lib.ListN.{length, get_or, take, drop, length-append, length-take, drop_of_length-le}
use lib.Seq.{drop-cons}
use lib.Dec.{leb}
use borrow.Author.Tests.{leb-true}
use Rattle.laws.specs.Entries.{whole_entries}
use Rattle.laws.proofs.Tests.{and_true}
use Rattle.answers.specs.declared.Refusal.TheVariants as refusal
use Rattle.cells.specs.Cells.{kept_length, cell_number, filled}
use Rattle.section.specs.Header.{byte_at}
use Rattle.eit_section.proofs.Laws.{eit_refused_by}
use Rattle.eit_section.specs.Eit.{eit_of, eit_by, eit_as, kind_of, layout_good, fields_of}
use Rattle.eit_section.specs.declared.Kind.{Kind}
use Rattle.std.specs.Prelude.{Option, Some, None, Result, Ok, Err}
use Rattle.answers.specs.declared.Refusal.{Refusal}
use Rattle.eit_section.specs.declared.Eit.{Eit}
use Rattle.listing.specs.Store.{Found, found_from, put_all, words_of, end_of, listing}
use Rattle.listing.specs.declared.Loop.{Loop}
use Rattle.listing.specs.declared.Walked.{Walked}
use Rattle.listing.proofs.Window.{put_append}
use Rattle.shown_sections.specs.declared.ShowAnswer.TheVariants.{Yes, Refused}
use Rattle.shown_sections.specs.declared.Shown.{Shown}
use Rattle.shown_sections.specs.Shown.{Show, show, End, finished, no_eit, broken, past_loop, good_show, section_show, and_then, slot_show, slots_show, show_by}
use Rattle.shown_sections.specs.Shown.{shown_as, reached_as, reached_by, shown_from, goes_on, ended_at, told_by, laid, From, Kept, HeldSlot}
use Rattle.shown_sections.proofs.Walks.{from_start, section_few, reached_is, count_is}

-- a test that is true and false
stopped : {A : Type 0} {b : Bool} → b ≡ false → b ≡ true → A
stopped e t = absurd (let z : ◌≡◌ {A = Bool} true false = sym t ∙ e in let n : ◌≡◌ {A = ℕ} 0 1 = cc in omega arith)

-- ---- a section that is an EIT's has room for 18 bytes

is_good : Result Eit Refusal → Bool
is_good (Err r) = false
is_good (Ok f) = true

as_long : (s : List ℕ) (kind : Kind) (b : Bool) → layout_good s ≡ b → is_good (cond b (Ok (fields_of s kind)) (Err refusal.Broken)) ≡ true → 18 ≤ length s
unfolding is_good
as_long s kind true e h = leb-true 18 (length s) (and_true (leb 18 (length s)) (whole_entries 12 (take (length s - 18) (drop 14 s))) e).0
as_long s kind false e h = stopped refl h

by_long : (s : List ℕ) (k : Option Kind) → is_good (eit_by s k) ≡ true → 18 ≤ length s
unfolding eit_as is_good
by_long s (Some kind) h = as_long s kind (layout_good s) refl h
by_long s None h = stopped refl h

good_long : (s : List ℕ) (x : Result Eit Refusal) (f : Eit) → x ≡ eit_of s → x ≡ Ok f → 18 ≤ length s
unfolding eit_of is_good
good_long s x f e h = by_long s (kind_of (byte_at s 0)) (ap is_good (sym e ∙ h))

-- ---- a section

module _ (bytes : List ℕ) (start size number skip k : ℕ) (list : List ℕ) where
  abbrev events : Loop
  events = record { header = 12; network = 0; number = number; skip = skip }

  -- the part is `&bytes[0..end]`
  abbrev walks : (w : Walked) (l : List ℕ) → Type 0
  walks w l = (w, l) ≡ listing events (take (start + size - 4 - 0) (drop 0 bytes)) (start + 14) 0 list k

  pub events_from : (w : Walked) (l : List ℕ) → walks w l → From start w
  unfolding listing
  events_from w l e =
      rw (ap (λ (p : Walked × List ℕ). p.0) e) (from_start start 12 (take (start + size - 4 - 0) (drop 0 bytes)) (start + 14) k (omega arith))

  pub events_shown : (w : Walked) (l : List ℕ) (r : Shown) → walks w l → r ≡ reached_by number start w
      → (r, l) ≡ shown_from skip k (good_show bytes start size number) list
  unfolding listing shown_from good_show
  events_shown w l r e' g =
      let e = rw (sub-zero (start + size - 4)) at e' in
      let f : Found = found_from 12 (take (start + size - 4) bytes) (start + 14) 0 in
      let a : w ≡ end_of k f = ap (λ (p : Walked × List ℕ). p.0) e in
      let b : l ≡ put_all list skip k (words_of 0 number f) = ap (λ (p : Walked × List ℕ). p.1) e in
      ap₂ (λ (x : Shown) (y : List ℕ). (x, y)) (g ∙ ap (reached_by number start) a ∙ reached_is number start f k) b

  module _ (x : Result Eit Refusal) (e : x ≡ eit_of (take (start + size - start) (drop start bytes))) where
    same : eit_of (take size (drop start bytes)) ≡ x
    same = let n : start + size - start ≡ size = omega arith in sym (rw n at e)

    pub section_long : (f : Eit) → x ≡ Ok f → 18 ≤ size
    section_long f h =
        let l = good_long (take (start + size - start) (drop start bytes)) x f e h in
        let m : length (take (start + size - start) (drop start bytes)) ≡ min (start + size - start) (length (drop start bytes)) = length-take (start + size - start) (drop start bytes) in
        omega arith

    -- 18 and 19
    ends_refused : Refusal → Type 0
    ends_refused w = (shown_as (Refused w) k number 0, list) ≡ shown_from skip k (show_by bytes start size number (Err w)) list

    ends_none : ends_refused refusal.NotEit
    unfolding ends_refused shown_from put_all
    ends_none = rw add-zero

    ends_broken : ends_refused refusal.Broken
    unfolding ends_refused shown_from put_all
    ends_broken = rw add-zero

    pub section_refused : (w : Refusal) → x ≡ Err w → (r : Shown) → r ≡ shown_as (Refused w) k number 0 → (r, list) ≡ shown_from skip k (section_show bytes start size number) list
    unfolding section_show ends_refused
    section_refused w h r g = rw (same, h, g) (eit_refused_by ends_refused ends_none ends_broken (take (start + size - start) (drop start bytes)) w (sym e ∙ h))

    pub section_good : (f : Eit) → x ≡ Ok f → (r : Shown) (l : List ℕ) → (r, l) ≡ shown_from skip k (good_show bytes start size number) list → (r, l) ≡ shown_from skip k (section_show bytes start size number) list
    unfolding section_show
    section_good f h r l g = rw (same, h) g

-- ---- a slot

-- what it asks of the section
pub slot_kept : (long size w number k c n : ℕ) (b : Bool) → HeldSlot long size w → b ≡ filled w → b ≡ true → c ≡ cell_number w → n ≡ kept_length w → c < 65536 → n < 65536 → size ≤ 4096 → number < 256 → k ≤ number * 65536
    → Kept long (c * size) n number k
slot_kept long size w number k c n b h e t p q l m z a d =
    let held = h.held (sym e ∙ t) in
    let y : c ≤ 65535 = omega arith in
    let x : c * size ≤ 65535 * 4096 = mul-le-mul y z in
    record { within = rw (p, q) held; short = omega arith; numbered = a; few = omega arith }

module _ (cells : List ℕ) (size w number skip k : ℕ) (list : List ℕ) (b : Bool) (e : b ≡ filled w) where
  pub slot_empty : b ≡ false → (r : Shown) → r ≡ shown_as Yes k 0 0 → (r, list) ≡ shown_from skip k (slot_show cells size w number) list
  unfolding slot_show shown_from put_all
  slot_empty t r g = rw (← e, t, add-zero, g)

  module _ (t : b ≡ true) (c n : ℕ) (p : c ≡ cell_number w) (q : n ≡ kept_length w) (r : Shown) (l : List ℕ) (g : (r, l) ≡ shown_from skip k (section_show cells (c * size) n number) list) where
    pub slot_filled : (r, l) ≡ shown_from skip k (slot_show cells size w number) list
    unfolding slot_show
    slot_filled = rw (← e, t, ← p, ← q) g

    pub slot_few : n < 65536 → r.count ≤ k + 65536
    unfolding shown_from
    slot_few h =
        let s : Show = section_show cells (c * size) n number in
        let d : r.count ≡ k + length s.entries = ap (λ (x : Shown × List ℕ). x.0.count) g ∙ count_is (k + length s.entries) s.end in
        let f = section_few cells (c * size) n number in
        omega arith

pub none_few : (k : ℕ) (r : Shown) → r ≡ shown_as Yes k 0 0 → r.count ≤ k + 65536
none_few k r g = rw g (omega arith)

-- ---- the slots of a row

abbrev pub laid_from : (skip k : ℕ) → Show → (list : List ℕ) → Shown × List ℕ
laid_from skip k s list = (told_by skip (reached_as (k + length s.entries) s.end), put_all list skip k s.entries)

module _ (skip : ℕ) where
  on_by : (es : List (List ℕ)) (e : End) (b : Show) (k : ℕ) (list : List ℕ) (last : Shown) (l : List ℕ) → (last, l) ≡ shown_from skip k (show es e) list → goes_on last.answer ≡ true
      → laid_from skip k (and_then (show es e) b) list ≡ laid_from skip last.count b l
  unfolding shown_from
  on_by es finished b k list last l g t =
      let c : last ≡ shown_as Yes (k + length es) 0 0 = ap (λ (x : Shown × List ℕ). x.0) g in
      let d : l ≡ put_all list skip k es = ap (λ (x : Shown × List ℕ). x.1) g in
      let n : k + length (es ++ b.entries) ≡ k + length es + length b.entries = ap (λ (i : ℕ). k + i) (length-append es b.entries) ∙ omega arith in
      rw (c, d, n, put_append es b.entries list skip k)
  on_by es (no_eit section) b k list last l g t = stopped (ap (λ (x : Shown × List ℕ). goes_on x.0.answer) g) t
  on_by es (broken section) b k list last l g t = stopped (ap (λ (x : Shown × List ℕ). goes_on x.0.answer) g) t
  on_by es (past_loop section place) b k list last l g t = stopped (ap (λ (x : Shown × List ℕ). goes_on x.0.answer) g) t

  stop_by : (es : List (List ℕ)) (e : End) (b : Show) (k : ℕ) (list : List ℕ) (last : Shown) (l : List ℕ) → (last, l) ≡ shown_from skip k (show es e) list → goes_on last.answer ≡ false
      → laid_from skip k (and_then (show es e) b) list ≡ (last, l)
  unfolding shown_from
  stop_by es finished b k list last l g t = stopped t (ap (λ (x : Shown × List ℕ). goes_on x.0.answer) g)
  stop_by es (no_eit section) b k list last l g t = sym g
  stop_by es (broken section) b k list last l g t = sym g
  stop_by es (past_loop section place) b k list last l g t = sym g

  module _ (cells : List ℕ) (size : ℕ) (slots : List ℕ) where
    abbrev rest : (j : ℕ) → Show
    rest j = slots_show cells size (drop j slots) j

    rest_is : (j : ℕ) → j < length slots → rest j ≡ and_then (slot_show cells size (get_or slots j 0) j) (rest (j + 1))
    unfolding slots_show
    rest_is j h = rw (drop-cons slots j 0 h, add-one j)

    module _ (j k : ℕ) (list : List ℕ) where
      pub slots_on : (last : Shown) (l : List ℕ) (b : Bool) → j < length slots → (last, l) ≡ shown_from skip k (slot_show cells size (get_or slots j 0) j) list → b ≡ goes_on last.answer → b ≡ true
          → laid_from skip k (rest j) list ≡ laid_from skip last.count (rest (j + 1)) l
      slots_on last l b h g e t =
          let a : Show = slot_show cells size (get_or slots j 0) j in
          rw (rest_is j h) (on_by a.entries a.end (rest (j + 1)) k list last l g (sym e ∙ t))

      pub slots_stop : (last : Shown) (l : List ℕ) (b : Bool) → j < length slots → (last, l) ≡ shown_from skip k (slot_show cells size (get_or slots j 0) j) list → b ≡ goes_on last.answer → b ≡ false
          → laid_from skip k (rest j) list ≡ (last, l)
      slots_stop last l b h g e t =
          let a : Show = slot_show cells size (get_or slots j 0) j in
          rw (rest_is j h) (stop_by a.entries a.end (rest (j + 1)) k list last l g (sym e ∙ t))

      pub slots_end : (r : Shown) → length slots ≤ j → r ≡ ended_at skip k → laid_from skip k (rest j) list ≡ (r, list)
      unfolding slots_show put_all
      slots_end r h e = rw (drop_of_length-le slots h, add-zero, e)

    pub slots_begin : (list : List ℕ) → laid_from skip 0 (rest 0) list ≡ laid skip (slots_show cells size slots 0) list
    unfolding laid
    slots_begin list = ap (λ (n : ℕ). (told_by skip (reached_as n (slots_show cells size slots 0).end), put_all list skip 0 (slots_show cells size slots 0).entries)) (omega arith)
