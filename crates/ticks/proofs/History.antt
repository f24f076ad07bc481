-- In every history of sections, drops and clearings the rows by rising tick are the rules' touch order.
-- Assumes nothing.
use mathlib.Core.Path.{◌≡◌, refl, sym, ap, ◌∙◌}
use mathlib.Core.Logic.{◌≢◌}
use mathlib.Core.Bool.{Bool, true, false, cond, not}
use mathlib.Core.List.{List, [], ◌∷◌}
use Prim.Native.Nat.{ℕ, ◌+◌, ◌-◌, ◌*◌, ◌≤◌, ◌<◌}
use native.Mathlib.Decide.{ℕ_discrete, dec_lt}
use native.Mathlib.Omega.{arith}
use borrow.Author.Tests.{ltb-true, ltb-false}
use lib.Dec.{ltb}
use lib.ListN.{length, take, drop, length-drop}
use lib.Seq.{paste, length-paste, get_or-take, get_or-drop, length-take-le}
use Rattle.laws.proofs.Lists.{paste_past, paste_before, paste_in}
use Rattle.rules_shared.specs.Touch.{untouched, touch, emptied, retain, retained}
use Rattle.rows.specs.declared.Key.{Key}
use Rattle.rows.specs.declared.Entry.{Entry}
use Rattle.rows.specs.declared.Room.{Room}
use Rattle.rows.specs.Rows.{word, key_at, same_key, row_of, oldest_of, touched, room_in, room_renewed, room_new, kept_heads}
use Rattle.rows.proofs.Words.{of_key, length_touched, length_kept, kept_row, kept_known}
use Rattle.ticks.specs.Order.{rows_seen, Stands, Goes, known, added, evicted, Touched, moved_from, Dropped}
use Rattle.ticks.specs.History.{Heads, opened, room_for, touched_in, last_to, without, Call, section, drops, clears, acts, acts_all, ruled, ruled_all, blank, keys_seen}
use Rattle.ticks.proofs.Touch.{same_key_true, same_key_refl, row_has_key, no_row_has_key, goes_known, goes_new, goes_row, stands_none, seen_none, touched_stands, touched_seen}
use Rattle.ticks.proofs.Drop.{moved_own, moved_other, moved_below, moved_not, dropped_stands, dropped_seen, retained_seen}
use Rattle.ticks.proofs.Words.{key_same, ready_touched, kept_fresh_key}

abbrev plain : Key → Key
plain k = k

-- what every history has: rows within the limit, heads long enough for it, and a touch order
pub record Held (limit : ℕ) (h : Heads) : Type 0 where
  pub long : limit * 12 ≤ length h.words
  pub few : h.used ≤ limit
  pub stands : Stands plain plain h.words h.used h.clock

-- room that is the key's: where it goes, and its head then has the key
pub record KeysRoom (limit : ℕ) (h : Heads) (e : Entry) (r : Room) : Type 0 where
  pub goes : Goes h.words limit h.used h.evictions e.key r.row r.used r.evictions
  pub own : key_at (kept_heads r e h.words) r.row ≡ e.key

goes_few : {heads : List ℕ} {limit used evictions : ℕ} {key : Key} {i used' evictions' : ℕ} → Goes heads limit used evictions key i used' evictions' → used ≤ limit → used' ≤ limit
goes_few (known i h e) l = l
goes_few (added f h) l = omega arith
goes_few (evicted f p h) l = l

new_fresh : (heads : List ℕ) (limit used evictions : ℕ) → (room_new heads limit used evictions).fresh ≡ true
unfolding room_new
new_fresh heads limit used evictions = go (ltb used limit)
  where
    go : (b : Bool) → (cond b (room_renewed (used + 1) evictions used) (room_renewed used (evictions + 1) (oldest_of heads used))).fresh ≡ true
    go true = refl
    go false = refl

module _ (limit : ℕ) (h : Heads) (e : Entry) (some_room : 0 < limit) (w : Held limit h) where
  abbrev there : ℕ
  there = row_of h.words e.key h.used

  known_room : there < h.used → KeysRoom limit h e (room_in h.used h.evictions there)
  known_room l =
      let r : Room = room_in h.used h.evictions there in
      let few : h.used ≤ limit = w.few in
      let long : limit * 12 ≤ length h.words = w.long in
      let in_heads : there * 12 + 12 ≤ length h.words = omega arith in
      record {
        goes = goes_known h.words limit h.used h.evictions e.key l;
        own = key_same h.words (kept_heads r e h.words) there (λ m k. kept_known r e h.words in_heads refl m (of_key m k).no_mark (of_key m k).below)
            ∙ row_has_key h.words e.key h.used l;
      }

  new_room : h.used ≤ there → KeysRoom limit h e (room_new h.words limit h.used h.evictions)
  new_room l =
      let r : Room = room_new h.words limit h.used h.evictions in
      let g = goes_new h.words limit h.used h.evictions e.key l some_room in
      let few : r.used ≤ limit = goes_few g w.few in
      let row : r.row < r.used = goes_row g in
      let long : limit * 12 ≤ length h.words = w.long in
      record { goes = g; own = kept_fresh_key r e h.words (omega arith) (new_fresh h.words limit h.used h.evictions) }

  room_of : KeysRoom limit h e (room_for limit h e.key)
  unfolding room_for
  room_of = go (ltb there h.used) refl
    where
      go : (b : Bool) → ltb there h.used ≡ b → KeysRoom limit h e (cond b (room_in h.used h.evictions there) (room_new h.words limit h.used h.evictions))
      go true q = known_room (ltb-true there h.used q)
      go false q = new_room (ltb-false there h.used q)

  module _ (r : Room) (k : KeysRoom limit h e r) where
    few_then : r.used ≤ limit
    few_then = goes_few k.goes w.few

    in_heads : r.row * 12 + 12 ≤ length h.words
    in_heads =
        let row : r.row < r.used = goes_row k.goes in
        let few = few_then in
        let long : limit * 12 ≤ length h.words = w.long in
        omega arith

    -- the head is written, and the row is touched
    kept_touched : Touched h.words (touched (h.clock + 1) r.row (kept_heads r e h.words)) e.key r.row (h.clock + 1) r.used
    kept_touched =
        let few = few_then in
        let long : limit * 12 ≤ length h.words = w.long in
        let same : length (kept_heads r e h.words) ≡ length h.words = length_kept r e h.words in_heads in
        ready_touched h.words (kept_heads r e h.words) e.key r.row (h.clock + 1) r.used (omega arith) (goes_row k.goes) k.own
        (λ j m l ne q. kept_row r e h.words in_heads j m ne q)

    pub held_then : Held limit (touched_in h e r)
    unfolding touched_in
    held_then =
        let long : limit * 12 ≤ length h.words = w.long in
        let same : length (touched (h.clock + 1) r.row (kept_heads r e h.words)) ≡ length h.words
        = length_touched (h.clock + 1) r.row (kept_heads r e h.words) ∙ length_kept r e h.words in_heads in
        record {
          long = omega arith;
          few = few_then;
          stands = touched_stands plain plain same_key same_key_true same_key_refl h.words limit h.used h.clock (h.clock + 1) h.evictions e.key w.stands (omega arith) refl
              (touched (h.clock + 1) r.row (kept_heads r e h.words)) k.goes kept_touched;
        }

    pub seen_then : keys_seen (touched_in h e r) ≡ touch same_key limit e.key tt (keys_seen h)
    unfolding touched_in touch
    seen_then =
        touched_seen plain plain same_key same_key_true same_key_refl h.words limit h.used h.clock (h.clock + 1) h.evictions e.key w.stands (omega arith) refl blank
        (touched (h.clock + 1) r.row (kept_heads r e h.words)) blank k.goes kept_touched (λ j l ne. refl)

-- ---- the last row takes the place of one that leaves

module _ (words : List ℕ) (used i : ℕ) (hi : i < used) (l : used * 12 ≤ length words) where
  abbrev part : List ℕ
  part = take 12 (drop ((used - 1) * 12) words)

  length_part : length part ≡ 12
  length_part = length-take-le 12 (drop ((used - 1) * 12) words) (rw (length-drop ((used - 1) * 12) words) (omega arith))

  length_moved : length (last_to used i words) ≡ length words
  unfolding last_to
  length_moved = let p = length_part in length-paste words (i * 12) part 12 (omega arith) (omega arith)

  last_own : (m : ℕ) → m < 12 → word (last_to used i words) i m ≡ word words (used - 1) m
  unfolding last_to
  last_own m h =
      let p = length_part in
      paste_in words (i * 12) part 12 m 0 (omega arith) (omega arith) h ∙ get_or-take 12 (drop ((used - 1) * 12) words) m 0 h ∙ get_or-drop ((used - 1) * 12) words m 0

  last_other : (j m : ℕ) → j ≢ i → m < 12 → word (last_to used i words) j m ≡ word words j m
  unfolding last_to
  last_other j m ne h = go (dec_lt j i) length_part
    where
      go : Dec (j < i) → length part ≡ 12 → word (paste words (i * 12) part 12) j m ≡ word words j m
      go (yes lt) p = paste_before words (i * 12) part 12 (j * 12 + m) 0 (omega arith) (omega arith) (omega arith)
      go (no ge) p = paste_past words (i * 12) part 12 (j * 12 + m) 0 (omega arith) (omega arith) (omega arith)

  moved_word : (j m : ℕ) → m < 12 → word (last_to used i words) j m ≡ word words (moved_from used i j) m
  moved_word j m h = go (ℕ_discrete j i)
    where
      go : Dec (j ≡ i) → word (last_to used i words) j m ≡ word words (moved_from used i j) m
      go (yes q) = rw q (last_own m h ∙ ap (λ (k : ℕ). word words k m) (sym (moved_own used i)))
      go (no ne) = last_other j m ne h ∙ ap (λ (k : ℕ). word words k m) (sym (moved_other used i j ne))

  pub moved_dropped : Dropped words (last_to used i words) i used
  moved_dropped = record { keys = λ j h. keys j; ticks = λ j h. moved_word j 9 (omega arith) }
    where
      keys : (j : ℕ) → key_at (last_to used i words) j ≡ key_at words (moved_from used i j)
      keys j =
          rw (
            moved_word j 0 (omega arith),
            moved_word j 1 (omega arith),
            moved_word j 2 (omega arith),
            moved_word j 3 (omega arith),
            moved_word j 4 (omega arith),
            moved_word j 5 (omega arith),
            moved_word j 10 (omega arith),
          )

-- ---- a key is dropped

-- a key stays where another is dropped
stays : (key k : Key) → k ≢ key → not (same_key key k) ≡ true
stays key k ne = go (same_key key k) refl
  where
    go : (b : Bool) → same_key key k ≡ b → not b ≡ true
    go true e = absurd (ne (sym (same_key_true key k e)))
    go false e = refl

module _ (limit : ℕ) (h : Heads) (key : Key) (w : Held limit h) where
  abbrev at : ℕ
  at = row_of h.words key h.used

  abbrev test : Key → Bool
  test k = not (same_key key k)

  room_for_all : h.used * 12 ≤ length h.words
  room_for_all = let few : h.used ≤ limit = w.few in let long : limit * 12 ≤ length h.words = w.long in omega arith

  module _ (l : at < h.used) where
    gone : Dropped h.words (last_to h.used at h.words) at h.used
    gone = moved_dropped h.words h.used at l room_for_all

    held_without : Held limit (without h at)
    held_without =
        let few : h.used ≤ limit = w.few in
        let long : limit * 12 ≤ length h.words = w.long in
        let same : length (last_to h.used at h.words) ≡ length h.words = length_moved h.words h.used at l room_for_all in
        record {
          long = omega arith;
          few = omega arith;
          stands = dropped_stands plain plain h.words h.used h.clock w.stands (last_to h.used at h.words) at l gone;
        }

    stays_at : (j : ℕ) → j < h.used - 1 → test (key_at (last_to h.used at h.words) j) ≡ true
    stays_at j q =
        stays key (key_at (last_to h.used at h.words) j) (λ e. moved_not h.used at l j q (
        w.stands.keys (moved_from h.used at j) at (moved_below h.used at l j q) l (sym (gone.keys j q) ∙ e ∙ sym (row_has_key h.words key h.used l))))

    leaves_at : test (key_at h.words at) ≡ false
    leaves_at = ap test (row_has_key h.words key h.used l) ∙ ap not (same_key_refl key)

    rows_without : rows_seen plain (last_to h.used at h.words) (h.used - 1) h.clock blank ≡ retain test (rows_seen plain h.words h.used h.clock blank)
    rows_without =
        sym (retained_seen plain plain (last_to h.used at h.words) (h.used - 1) h.clock held_without.stands blank test stays_at)
        ∙ dropped_seen plain plain h.words h.used h.clock w.stands (last_to h.used at h.words) at l gone blank blank (λ j q. refl) test leaves_at

  rows_with : h.used ≤ at → rows_seen plain h.words h.used h.clock blank ≡ retain test (rows_seen plain h.words h.used h.clock blank)
  rows_with l =
      sym (retained_seen plain plain h.words h.used h.clock w.stands blank test (λ j q. stays key (key_at h.words j) (no_row_has_key h.words key h.used l j q)))

  pub held_dropped : Held limit (acts limit h (drops key))
  unfolding acts
  held_dropped = go (ltb at h.used) refl
    where
      go : (b : Bool) → ltb at h.used ≡ b → Held limit (cond b (without h at) h)
      go true q = held_without (ltb-true at h.used q)
      go false q = w

  pub seen_dropped : keys_seen (acts limit h (drops key)) ≡ ruled limit (keys_seen h) (drops key)
  unfolding acts ruled retained
  seen_dropped = go (ltb at h.used) refl
    where
      go : (b : Bool) → ltb at h.used ≡ b → keys_seen (cond b (without h at) h) ≡ record { rows = retain test (keys_seen h).rows; evicted = h.evictions }
      go true q = ap (λ l. record { rows = l; evicted = h.evictions }) (rows_without (ltb-true at h.used q))
      go false q = ap (λ l. record { rows = l; evicted = h.evictions }) (rows_with (ltb-false at h.used q))

-- ---- every history

pub opened_held : (limit : ℕ) (words : List ℕ) → limit * 12 ≤ length words → Held limit (opened words)
opened_held limit words l = record { long = l; few = omega arith; stands = stands_none plain plain same_key same_key_true same_key_refl words 0 }

pub opened_seen : (words : List ℕ) → keys_seen (opened words) ≡ untouched
unfolding untouched
opened_seen words = ap (λ l. record { rows = l; evicted = 0 }) (seen_none plain plain same_key same_key_true same_key_refl words 0 blank)

module _ (limit : ℕ) (some_room : 0 < limit) where
  held_acts : (c : Call) (h : Heads) → Held limit h → Held limit (acts limit h c)
  unfolding acts
  held_acts (section e) h w = held_then limit h e some_room w (room_for limit h e.key) (room_of limit h e some_room w)
  held_acts (drops key) h w = held_dropped limit h key w
  held_acts clears h w = record { long = w.long; few = omega arith; stands = stands_none plain plain same_key same_key_true same_key_refl h.words h.clock }

  seen_acts : (c : Call) (h : Heads) → Held limit h → keys_seen (acts limit h c) ≡ ruled limit (keys_seen h) c
  unfolding acts ruled emptied
  seen_acts (section e) h w = seen_then limit h e some_room w (room_for limit h e.key) (room_of limit h e some_room w)
  seen_acts (drops key) h w = seen_dropped limit h key w
  seen_acts clears h w =
      ap (λ l. record { rows = l; evicted = h.evictions }) (seen_none plain plain same_key same_key_true same_key_refl h.words h.clock blank)

  -- from any heads that have a touch order ..
  pub same_from : (cs : List Call) (h : Heads) → Held limit h → keys_seen (acts_all limit cs h) ≡ ruled_all limit cs (keys_seen h)
  unfolding acts_all ruled_all
  same_from [] h w = refl
  same_from (c ∷ cs) h w = same_from cs (acts limit h c) (held_acts c h w) ∙ ap (ruled_all limit cs) (seen_acts c h w)

  -- .. and so from opening, over whatever the heads hold: the rows in use are the rules', in their order, and as many keys were removed
  pub same_order : (words : List ℕ) → limit * 12 ≤ length words → (cs : List Call) → keys_seen (acts_all limit cs (opened words)) ≡ ruled_all limit cs untouched
  same_order words l cs = same_from cs (opened words) (opened_held limit words l) ∙ ap (ruled_all limit cs) (opened_seen words)
