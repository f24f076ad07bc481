-- A record that is whole, one that was opened, and what entering keeps: the three lengths, a whole store, the protected PIDs, and the three sets where
-- no PAT goes out.
-- Assumes nothing.
use mathlib.Core.Path.{◌≡◌, refl, sym, ap, subst, ◌∙◌}
use mathlib.Core.Bool.{Bool, true, false, cond}
use mathlib.Core.List.{List, [], ◌∷◌, ◌++◌}
use Prim.Native.Nat.{ℕ, ◌+◌, ◌*◌, ◌≤◌, ◌<◌}
use native.Mathlib.Nat.{le_refl}
use native.Mathlib.Omega.{arith}
use borrow.Author.Tests.{le-leb}
use lib.Dec.{eqb}
use lib.ListN.{length, get_or, take, drop, set, length-set, length-drop, length-append}
use lib.Seq.{paste, drop-drop, take-append-le, take-take, take-set-le, get_or-drop, get_or-set_same, get_or-set_other, length-take-le, length-paste}
use Rattle.laws.proofs.Tests.{and_true}
use Rattle.laws.proofs.Lists.{drop_take}
use Rattle.std.specs.Prelude.{Some, Result, Ok, Err}
use Rattle.answers.specs.declared.Refusal.{Refusal}
use Rattle.pat.specs.Pat.{with_programs}
use Rattle.pat.proofs.Laws.{length_programs}
use Rattle.watched.specs.Store.{watched_of, protected_of, followed_of, no_pids}
use Rattle.watched.proofs.Meaning.{following_protected, following_past, length_following}
use Rattle.rows.specs.Rows.{touched, with_mark, rows_whole}
use Rattle.rows.specs.declared.Entry.{Entry}
use Rattle.rows.proofs.Words.{length_put, length_touched, length_kept, length_kept_slots}
use Rattle.store.specs.Store.{Store, store, whole_of, WholeStore}
use Rattle.store.specs.declared.Sets.{Sets}
use Rattle.store.proofs.Whole.{whole_means, means_whole, cell_fits, evictions_go_on, clock_goes_on}
use Rattle.arrivals.specs.Arrivals.{set_arrival, SetTaken}
use Rattle.arrivals.proofs.Facts.{set_taken}
use Rattle.cells.specs.Cells.{slot_word}
use Rattle.sets_plan.specs.Plan.{plan_of, PlanOk, KeepOk}
use Rattle.sets_plan.specs.declared.Keeping.{Keeping}
use Rattle.sets_plan.specs.declared.Plan.{Plan}
use Rattle.sets_plan.specs.declared.Plan.TheVariants as plan
use Rattle.sets_plan.proofs.May.{plan_ok}
use Rattle.sets_settle.specs.Settle.{Told, done, nothing, handed, refused, SetsAfter, goes_out, settled_heads, settled, kept_in, carried}
use Rattle.sets_push.specs.Pushing.{whole_pushed}
use Rattle.pats.specs.Store.{Record, record_of, pat_sets, pat_head, pat_store, room_for, pats_whole, pats_full, begun_words, enters, with_all, programs_of, with_store, pushed_in, watch_after, followed_in, entered_as, entered_in, PatsReady, Arrives}
use Rattle.pats.proofs.Store.{length_with, with_store_lem, pushed_same, pushed_whole_lem, pat_clocked, pushed_clocked}
use Rattle.pats.proofs.Ways.{Long, room_long}

-- ---- whole, and its count not at its end

module _ (r : Record) (w : pats_whole r ≡ true) where
  parts : (room_for (length r.words) (length r.slots) (length r.cells) ≡ true) × (whole_of (pat_store r) ≡ true)
  unfolding pats_whole
  parts = and_true (room_for (length r.words) (length r.slots) (length r.cells)) (whole_of (pat_store r)) w

  pub whole_long : Long (length r.words) (length r.slots) (length r.cells)
  whole_long = room_long (length r.words) (length r.slots) (length r.cells) true (sym parts.0) refl

  pub whole_store : WholeStore (pat_store r)
  whole_store = whole_means (pat_store r) parts.1

  pub ready : pats_full r.words ≡ false → PatsReady r
  unfolding pats_full
  ready f =
      let sets : Sets = pat_sets r.words in
      record { words = whole_long.words; ready = record { whole = whole_store; counts = evictions_go_on sets false (sym f) refl; runs = clock_goes_on sets false (sym f) refl } }

pub is_whole : (r : Record) → 398 ≤ length r.words → WholeStore (pat_store r) → pats_whole r ≡ true
unfolding pats_whole
is_whole r h w =
    let a = w.slots_long in
    let b = w.cells_long in
    rw (le-leb 398 (length r.words) h, le-leb 288 (length r.slots) (omega arith), le-leb 262144 (length r.cells) (omega arith)) (means_whole (pat_store r) w)

-- ---- the three sets are the first 384 words

module _ (a b : List ℕ) (e : take 384 a ≡ take 384 b) where
  first : (n : ℕ) → n ≤ 384 → take n a ≡ take n b
  first n h = sym (take-take n 384 a h) ∙ ap (take n) e ∙ take-take n 384 b h

  pub same_watched : watched_of a ≡ watched_of b
  same_watched = first 128 (omega arith)

  pub same_protected : protected_of a ≡ protected_of b
  same_protected = sym (drop_take 128 128 a) ∙ ap (drop 128) (first 256 (omega arith)) ∙ drop_take 128 128 b

  pub same_followed : followed_of a ≡ followed_of b
  same_followed = sym (drop_take 256 128 a) ∙ ap (drop 256) (first 384 (omega arith)) ∙ drop_take 256 128 b

-- ---- a PAT store that was opened

-- without a row it is whole, whatever the slices hold
pub no_row : (r : Record) → 398 ≤ length r.words → 288 ≤ length r.slots → 262144 ≤ length r.cells → get_or r.words 384 0 ≡ 0 → WholeStore (pat_store r)
unfolding rows_whole
no_row r h a b z = record {
  size_low = omega arith;
  size_high = omega arith;
  few = omega arith;
  used = omega arith;
  heads_long = rw (length-take-le 12 (drop 386 r.words) (rw (length-drop 386 r.words) (omega arith))) (omega arith);
  slots_long = a;
  cells_long = b;
  rows = rw z refl;
}

module _ (words : List ℕ) where
  pub length_begun : length (begun_words words) ≡ length words
  unfolding begun_words
  length_begun = length-set (set words 384 0) 385 0 ∙ length-set words 384 0

  pub begun_sets : take 384 (begun_words words) ≡ take 384 words
  unfolding begun_words
  begun_sets = take-set-le 384 (set words 384 0) 385 0 (omega arith) ∙ take-set-le 384 words 384 0 (omega arith)

  module _ (h : 398 ≤ length words) where
    pub begun_used : get_or (begun_words words) 384 0 ≡ 0
    unfolding begun_words
    begun_used = get_or-set_other (set words 384 0) 385 384 0 0 (omega arith) ∙ get_or-set_same words 384 0 0 (omega arith)

    pub begun_evictions : get_or (begun_words words) 385 0 ≡ 0
    unfolding begun_words
    begun_evictions = get_or-set_same (set words 384 0) 385 0 0 (rw (length-set words 384 0) (omega arith))

    pub begun_not_full : pats_full (begun_words words) ≡ false
    unfolding pats_full
    begun_not_full = rw (begun_evictions, begun_used) refl

    -- whatever the slices hold
    pub begun_whole : (slots cells : List ℕ) → 288 ≤ length slots → 262144 ≤ length cells → pats_whole (record_of (begun_words words) slots cells) ≡ true
    begun_whole slots cells a b =
        let h' : 398 ≤ length (begun_words words) = rw length_begun h in
        is_whole (record_of (begun_words words) slots cells) h' (no_row (record_of (begun_words words) slots cells) h' a b begun_used)

-- ---- a push keeps the lengths of what it is lent

pub record SameLengths (s t : Store) : Type 0 where
  pub heads : length t.heads ≡ length s.heads
  pub slots : length t.slots ≡ length s.slots
  pub cells : length t.cells ≡ length s.cells

either : (b : Bool) (x y : List ℕ) (n : ℕ) → length x ≡ n → length y ≡ n → length (cond b x y) ≡ n
either true x y n p q = p
either false x y n p q = q

settled_lengths : (s : Store) (i : ℕ) → SameLengths s (settled s i).store
unfolding settled settled_heads
settled_lengths s i =
    let h : List ℕ = touched (s.sets.clock + 1) i s.heads in
    let t : length h ≡ length s.heads = length_touched (s.sets.clock + 1) i s.heads in
    record { heads = either (goes_out h s.slots i) (with_mark i 1 h) h (length s.heads) (length_put i 8 1 h ∙ t) t; slots = refl; cells = refl }

kept_lengths : (s : Store) (bytes : List ℕ) (k : Keeping) → KeepOk s bytes k → SameLengths s (kept_in s bytes k)
unfolding kept_in
kept_lengths s bytes k o =
    let w = o.whole in
    let a = w.heads_long in
    let b = w.slots_long in
    let c = o.room.room in
    let d = o.room.row in
    let f : k.cell * s.sets.size + length bytes ≤ length s.cells = cell_fits s.sets s.heads s.slots s.cells (length bytes) k.cell w o.cell o.fits in
    record {
      heads = length_kept k.room k.entry s.heads (omega arith);
      slots = length_kept_slots k.room k.entry (slot_word (length bytes) k.cell) s.slots (omega arith) o.numbered.number o.numbered.last;
      cells = length-paste s.cells (k.cell * s.sets.size) bytes (length bytes) f (le_refl (length bytes));
    }

carried_lengths : (s : Store) (bytes : List ℕ) (p : Plan) → PlanOk s bytes p → SameLengths s (carried s bytes p).store
carried_lengths s bytes (plan.Refuse r) o = record { heads = refl; slots = refl; cells = refl }
carried_lengths s bytes plan.Silent o = record { heads = refl; slots = refl; cells = refl }
carried_lengths s bytes (plan.Conflict i) o = record { heads = length_touched (s.sets.clock + 1) i s.heads; slots = refl; cells = refl }
carried_lengths s bytes (plan.Repeat i) o = settled_lengths s i
carried_lengths s bytes (plan.Keep k) o =
    let a = settled_lengths (kept_in s bytes k) k.room.row in
    let b = kept_lengths s bytes k o in
    record { heads = a.heads ∙ b.heads; slots = a.slots ∙ b.slots; cells = a.cells ∙ b.cells }

-- ---- following leaves what stands past the three sets

length_all : (sections : List (List ℕ)) (n : List ℕ) → length (with_all sections n) ≡ length n
unfolding with_all
length_all [] n = refl
length_all (s ∷ ss) n = length_all ss (with_programs s n) ∙ length_programs s n

pub length_programs_of : (sections : List (List ℕ)) → length (programs_of sections) ≡ 128
length_programs_of sections = length_all sections no_pids

record Stays (a b : List ℕ) : Type 0 where
  pub long : length b ≡ length a
  pub past : drop 384 b ≡ drop 384 a
  pub protected : protected_of b ≡ protected_of a

watch_stays : (t : Told) (words : List ℕ) → 384 ≤ length words → Stays words (watch_after t words)
watch_stays done words h = record { long = refl; past = refl; protected = refl }
watch_stays nothing words h = record { long = refl; past = refl; protected = refl }
watch_stays (handed x) words h =
    let n : List ℕ = programs_of x.sections in
    let l = length_programs_of x.sections in
    record { long = length_following words n h l; past = following_past words n h l; protected = following_protected words n h l }
watch_stays (refused r) words h = record { long = refl; past = refl; protected = refl }

pub store_stays : (t : Told) (words slots cells : List ℕ) → 384 ≤ length words → pat_store (record_of (watch_after t words) slots cells) ≡ pat_store (record_of words slots cells)
store_stays t words slots cells h =
    let p = (watch_stays t words h).past in
    let at : (i : ℕ) → get_or (watch_after t words) (384 + i) 0 ≡ get_or words (384 + i) 0 = λ i. sym (get_or-drop 384 (watch_after t words) i 0) ∙ ap (λ (l : List ℕ). get_or l i 0) p ∙ get_or-drop 384 words i 0 in
    let u = at 0 in
    let v = at 1 in
    let w = at 11 in
    let d : pat_head (watch_after t words) ≡ pat_head words = sym (ap (take 12) (drop-drop 2 384 (watch_after t words))) ∙ ap (λ (l : List ℕ). take 12 (drop 2 l)) p ∙ ap (take 12) (drop-drop 2 384 words) in
    λ i. store (record { limit = 1; size = 1024; count = 256; used = u i; evictions = v i; clock = cond (eqb (u i) 0) 0 (w i) }) (d i) slots cells

-- ---- a section that arrived

first_pasted : (words h : List ℕ) → 398 ≤ length words → take 384 (paste words 386 h 12) ≡ take 384 words
first_pasted words h l =
    take-append-le 384 (take 386 words ++ take 12 h) (drop 398 words) (rw (length-append (take 386 words) (take 12 h), length-take-le 386 words (omega arith)) (omega arith))
    ∙ take-append-le 384 (take 386 words) (take 12 h) (rw (length-take-le 386 words (omega arith)) (omega arith)) ∙ take-take 384 386 words (omega arith)

module _ (r : Record) (o : PatsReady r) (section : List ℕ) (e : Entry) (a : Arrives section e) where
  abbrev left : SetsAfter
  left = whole_pushed (pat_store r) e section

  abbrev then : Record
  then = followed_in (pushed_in r left)

  left_lengths : SameLengths (pat_store r) left.store
  unfolding whole_pushed
  left_lengths = carried_lengths (pat_store r) section (plan_of (pat_store r) e section) (plan_ok (pat_store r) o.ready e section a.taken)

  head_12 : length left.store.heads ≡ 12
  head_12 = let h = o.words in left_lengths.heads ∙ length-take-le 12 (drop 386 r.words) (rw (length-drop 386 r.words) (omega arith))

  pub long_with : length (with_store r.words left.store) ≡ length r.words
  long_with = length_with r.words left.store o.words head_12

  stays : Stays (with_store r.words left.store) then.words
  stays = let h = o.words in watch_stays left.told (with_store r.words left.store) (rw long_with (omega arith))

  pub then_lengths : (length then.words ≡ length r.words) × (length then.slots ≡ length r.slots) × (length then.cells ≡ length r.cells)
  then_lengths = (stays.long ∙ long_with, left_lengths.slots, left_lengths.cells)

  -- the words of the three sets are not the store's
  pub with_sets_lem : take 384 (with_store r.words left.store) ≡ take 384 r.words
  with_sets_lem =
      let h = o.words in
      take-set-le 384 (set (paste r.words 386 left.store.heads 12) 384 left.store.sets.used) 385 left.store.sets.evictions (omega arith)
      ∙ take-set-le 384 (paste r.words 386 left.store.heads 12) 384 left.store.sets.used (omega arith)
      ∙ first_pasted r.words left.store.heads (omega arith)

  pub then_protected : protected_of then.words ≡ protected_of r.words
  then_protected = stays.protected ∙ same_protected (with_store r.words left.store) r.words with_sets_lem

  -- the record has the store that the push left
  pub then_store : pat_store then ≡ left.store
  then_store =
      let s = pushed_same (pat_store r) e section in
      let h = o.words in
      store_stays left.told (with_store r.words left.store) left.store.slots left.store.cells (rw long_with (omega arith))
      ∙ with_store_lem r.words left.store o.words head_12 s.limit s.size s.count (pushed_clocked (pat_store r) e section refl (pat_clocked r) o.ready a.taken)

  pub then_whole : pats_whole then ≡ true
  then_whole = is_whole then (rw then_lengths.0 o.words) (subst WholeStore (sym then_store) (pushed_whole_lem (pat_store r) e section o.ready a))

-- ---- every section: it changes nothing, or it arrived

module _ (r : Record) (input : ℕ) (section : List ℕ) (b : get_or section 7 0 < 256) (P : Record → Type 0) (none : P r)
    (some : enters section ≡ true → (e : Entry) → Arrives section e → P (followed_in (pushed_in r (whole_pushed (pat_store r) e section)))) where
  pub enter_by : P (entered_in r input section)
  unfolding entered_in
  enter_by = go (enters section) refl
    where
      arrived : enters section ≡ true → (a : Result Entry Refusal) → set_arrival input (Some 0) section ≡ a → SetTaken section a → P (entered_as r section a)
      arrived h (Err x) q t = none
      arrived h (Ok e) q t = some h e (record { input = input; read = q; taken = t })

      go : (t : Bool) → enters section ≡ t → P (cond t (entered_as r section (set_arrival input (Some 0) section)) r)
      go true h = arrived h (set_arrival input (Some 0) section) refl (set_taken section b input (Some 0))
      go false h = none

module _ (r : Record) (o : PatsReady r) (input : ℕ) (section : List ℕ) (b : get_or section 7 0 < 256) where
  pub entered_lengths : (length (entered_in r input section).words ≡ length r.words) × (length (entered_in r input section).slots ≡ length r.slots)
      × (length (entered_in r input section).cells ≡ length r.cells)
  entered_lengths = enter_by r input section b (λ k. (length k.words ≡ length r.words) × (length k.slots ≡ length r.slots) × (length k.cells ≡ length r.cells)) (refl, refl, refl)
      (λ h e a. then_lengths r o section e a)

  pub entered_whole : pats_whole (entered_in r input section) ≡ true
  entered_whole = enter_by r input section b (λ k. pats_whole k ≡ true) (is_whole r o.words o.ready.whole) (λ h e a. then_whole r o section e a)

  pub entered_protected : protected_of (entered_in r input section).words ≡ protected_of r.words
  entered_protected = enter_by r input section b (λ k. protected_of k.words ≡ protected_of r.words) refl (λ h e a. then_protected r o section e a)
