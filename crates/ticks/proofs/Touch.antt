-- One touch, as heads with ticks make it, is the touch of the rules: found, put aside, newest, evicted. Open in what a key shows and what a row holds.
-- Assumes nothing.
use mathlib.Core.Path.{◌≡◌, refl, sym, ap, ◌∙◌}
use mathlib.Core.Logic.{◌≢◌}
use mathlib.Core.Bool.{Bool, true, false, cond, true≢false}
use mathlib.Core.Option.{none, some}
use mathlib.Core.List.{List, [], ◌∷◌, ◌++◌}
use Prim.Native.Nat.{ℕ, suc, ◌+◌, ◌-◌, ◌≤◌, ◌<◌}
use native.Mathlib.Numerals.{add-one}
use native.Mathlib.Nat.{not-suc-le-zero}
use native.Mathlib.Decide.{ℕ_discrete}
use native.Mathlib.Omega.{arith}
use borrow.Author.Tests.{eq-eqb, ne_eqb, ltb-true, ltb-false, eqb-true}
use lib.Dec.{eqb, ltb}
use lib.ListN.{length}
use Rattle.laws.proofs.Tests.{and_true}
use Rattle.laws.proofs.Search.{first_passes, first_before}
use Rattle.rules_shared.specs.Touch.{Rows, TouchOrder, Entry, under, find, some_row, aside, newest}
use Rattle.rules_shared.proofs.All.{held_stays, new_below, new_at}
use Rattle.rows.specs.declared.Origin.{Origin}
use Rattle.rows.specs.declared.Key.{Key}
use Rattle.rows.specs.declared.Room.{Room}
use Rattle.rows.specs.Rows.{same_origin, key_at, same_key, row_of, tick_of, oldest_of, room_renewed, room_new}
use Rattle.rows.proofs.Least.{oldest_least, oldest_below}
use Rattle.ticks.specs.Order.{in_order, rows_seen, order_seen, Ticked, Stands, Goes, known, added, evicted, Touched}
use Rattle.ticks.proofs.Ticks.{length_order, order_empty, order_later, ticked_none, ticked_later, ticked_touched, without, touched_order, added_order, known_found, new_found, oldest_gone_lem, order_none, none_order}

-- ---- the words of a key

same_origin_true : (a b : Origin) → same_origin a b ≡ true → a ≡ b
unfolding same_origin
same_origin_true a b h =
    let p = and_true _ _ h in
    let e = eqb-true _ _ p.0 in
    let f = eqb-true _ _ p.1 in
    λ i. record { input = e i; pid = f i }

same_origin_refl : (a : Origin) → same_origin a a ≡ true
unfolding same_origin
same_origin_refl a = rw (eq-eqb a.input a.input refl, eq-eqb a.pid a.pid refl)

pub same_key_true : (a b : Key) → same_key a b ≡ true → a ≡ b
unfolding same_key
same_key_true a b h =
    let p5 = and_true _ _ h in
    let p4 = and_true _ _ p5.0 in
    let p3 = and_true _ _ p4.0 in
    let p2 = and_true _ _ p3.0 in
    let p1 = and_true _ _ p2.0 in
    let e0 = same_origin_true _ _ p1.0 in
    let e1 = eqb-true _ _ p1.1 in
    let e2 = eqb-true _ _ p2.1 in
    let e3 = eqb-true _ _ p3.1 in
    let e4 = eqb-true _ _ p4.1 in
    let e5 = eqb-true _ _ p5.1 in
    λ i. record { from = e0 i; table_id = e1 i; extension = e2 i; current_next = e3 i; transport_stream_id = e4 i; original_network_id = e5 i }

pub same_key_refl : (a : Key) → same_key a a ≡ true
unfolding same_key
same_key_refl a =
    rw (
      same_origin_refl a.from,
      eq-eqb a.table_id a.table_id refl,
      eq-eqb a.extension a.extension refl,
      eq-eqb a.current_next a.current_next refl,
      eq-eqb a.transport_stream_id a.transport_stream_id refl,
      eq-eqb a.original_network_id a.original_network_id refl,
    )

-- ---- the row that `row_of` finds

module _ (heads : List ℕ) (key : Key) (used : ℕ) where
  abbrev has_key : ℕ → Bool
  has_key i = same_key (key_at heads i) key

  pub row_has_key : row_of heads key used < used → key_at heads (row_of heads key used) ≡ key
  row_has_key h = same_key_true (key_at heads (row_of heads key used)) key (first_passes has_key used 0 (omega arith))

  pub no_row_has_key : used ≤ row_of heads key used → (j : ℕ) → j < used → key_at heads j ≢ key
  no_row_has_key h j l e =
      true≢false (sym (same_key_refl key) ∙ ap (λ (k : Key). same_key k key) (sym e) ∙ first_before has_key used 0 j (omega arith) (omega arith))

-- ---- where a key goes, as the code finds it

pub goes_known : (heads : List ℕ) (limit used evictions : ℕ) (key : Key) → row_of heads key used < used
    → Goes heads limit used evictions key (row_of heads key used) used evictions
goes_known heads limit used evictions key h = known (row_of heads key used) h (row_has_key heads key used h)

pub goes_new : (heads : List ℕ) (limit used evictions : ℕ) (key : Key) → used ≤ row_of heads key used → 0 < limit
    → Goes heads limit used evictions key (room_new heads limit used evictions).row (room_new heads limit used evictions).used (room_new heads limit used evictions).evictions
unfolding room_new
goes_new heads limit used evictions key h l = go (ltb used limit) refl
  where
    room : Bool → Room
    room b = cond b (room_renewed (used + 1) evictions used) (room_renewed used (evictions + 1) (oldest_of heads used))

    go : (b : Bool) → ltb used limit ≡ b → Goes heads limit used evictions key (room b).row (room b).used (room b).evictions
    go true e = added (no_row_has_key heads key used h) (ltb-true used limit e)
    go false e = let z : limit ≤ used = ltb-false used limit e in evicted (no_row_has_key heads key used h) (omega arith) z

-- the rows beside the key's are those that were in use
pub goes_row : {heads : List ℕ} {limit used evictions : ℕ} {key : Key} {i used' evictions' : ℕ} → Goes heads limit used evictions key i used' evictions' → i < used'
goes_row (known i h e) = h
goes_row (added f h) = omega arith
goes_row {heads = heads} {used = used} (evicted f p h) = oldest_below heads used p

pub goes_in : {heads : List ℕ} {limit used evictions : ℕ} {key : Key} {i used' evictions' : ℕ} → Goes heads limit used evictions key i used' evictions' → used ≤ used'
goes_in (known i h e) = omega arith
goes_in (added f h) = omega arith
goes_in (evicted f p h) = omega arith

pub goes_out_lem : {heads : List ℕ} {limit used evictions : ℕ} {key : Key} {i used' evictions' : ℕ} → Goes heads limit used evictions key i used' evictions' → (j : ℕ) → j < used' → j ≢ i → j < used
goes_out_lem (known i h e) j l ne = l
goes_out_lem (added f h) j l ne = omega arith
goes_out_lem (evicted f p h) j l ne = l

-- ---- the law

pub length_seen : {K : Type 0} (shown : Key → K) (words : K → Key) (heads : List ℕ) (used clock : ℕ) → Stands shown words heads used clock
    → {R : Type 0} (row : ℕ → R) → length (rows_seen shown heads used clock row) ≡ used
unfolding rows_seen
length_seen shown words heads used clock w row = length_order (tick_of heads) used clock w.ticks (λ (i : ℕ). under (shown (key_at heads i)) (row i))

module _ {K : Type 0} (shown : Key → K) (words : K → Key) (same : K → K → Bool) (law : (a b : K) → same a b ≡ true → a ≡ b) (self : (a : K) → same a a ≡ true) where
  -- keys that read back are the same exactly when what they show is
  differ : (a b : Key) → words (shown a) ≡ a → words (shown b) ≡ b → a ≢ b → same (shown b) (shown a) ≡ false
  differ a b p q ne = go (same (shown b) (shown a)) refl
    where
      go : (t : Bool) → same (shown b) (shown a) ≡ t → t ≡ false
      go true e = absurd (ne (sym p ∙ ap words (sym (law (shown b) (shown a) e)) ∙ q))
      go false e = refl

  alike : (a b : Key) → a ≡ b → same (shown b) (shown a) ≡ true
  alike a b e = ap (λ (k : Key). same (shown b) (shown k)) e ∙ self (shown b)

  pub stands_none : (heads : List ℕ) (clock : ℕ) → Stands shown words heads 0 clock
  stands_none heads clock = record { ticks = ticked_none (tick_of heads) clock; keys = λ i j h. absurd (not-suc-le-zero h); proper = λ i h. absurd (not-suc-le-zero h) }

  pub seen_none : (heads : List ℕ) (clock : ℕ) {R : Type 0} (row : ℕ → R) → rows_seen shown heads 0 clock row ≡ []
  unfolding rows_seen
  seen_none heads clock row = order_empty (tick_of heads) clock (λ (i : ℕ). under (shown (key_at heads i)) (row i))

  -- a clock that goes on, with no touch
  pub stands_later : (heads : List ℕ) (used clock clock' : ℕ) → clock ≤ clock' → Stands shown words heads used clock → Stands shown words heads used clock'
  stands_later heads used clock clock' h w = record { ticks = ticked_later (tick_of heads) used clock w.ticks clock' h; keys = w.keys; proper = w.proper }

  pub seen_later : (heads : List ℕ) (used clock clock' : ℕ) → clock ≤ clock' → Stands shown words heads used clock
      → {R : Type 0} (row : ℕ → R) → rows_seen shown heads used clock' row ≡ rows_seen shown heads used clock row
  unfolding rows_seen
  seen_later heads used clock clock' h w row = order_later (tick_of heads) used clock w.ticks clock' h (λ (i : ℕ). under (shown (key_at heads i)) (row i))

  module _ (heads : List ℕ) (limit used clock clock' evictions : ℕ) (key : Key) (w : Stands shown words heads used clock) (rise : clock < clock') (proper : words (shown key) ≡ key) where
    abbrev pub others_lack : ℕ → Type 0
    others_lack i = (j : ℕ) → j < used → j ≢ i → same (shown key) (shown (key_at heads j)) ≡ false

    known_others : (i : ℕ) → i < used → key_at heads i ≡ key → others_lack i
    known_others i h e j l ne = differ (key_at heads j) key (w.proper j l) proper (λ z. ne (w.keys j i l h (z ∙ sym e)))

    new_others : ((j : ℕ) → j < used → key_at heads j ≢ key) → (j : ℕ) → j < used → same (shown key) (shown (key_at heads j)) ≡ false
    new_others f j l = differ (key_at heads j) key (w.proper j l) proper (f j l)

    -- row o has the key, which no row had
    new_stands : (heads' : List ℕ) (o used' : ℕ) → Ticked (tick_of heads') used' clock' → key_at heads' o ≡ key → ((j : ℕ) → j < used' → j ≢ o → (j < used) × (key_at heads' j ≡ key_at heads j))
        → ((j : ℕ) → j < used → key_at heads j ≢ key) → Stands shown words heads' used' clock'
    new_stands heads' o used' ticks own others f = record { ticks = ticks; keys = once; proper = reads }
      where
        once : (j k : ℕ) → j < used' → k < used' → key_at heads' j ≡ key_at heads' k → j ≡ k
        once j k hj hk e = go (ℕ_discrete j o) (ℕ_discrete k o)
          where
            go : Dec (j ≡ o) → Dec (k ≡ o) → j ≡ k
            go (yes p) (yes q) = p ∙ sym q
            go (yes p) (no q) = let r = others k hk q in absurd (f k r.0 (sym r.1 ∙ sym e ∙ ap (key_at heads') p ∙ own))
            go (no p) (yes q) = let r = others j hj p in absurd (f j r.0 (sym r.1 ∙ e ∙ ap (key_at heads') q ∙ own))
            go (no p) (no q) = let r = others j hj p in let s = others k hk q in w.keys j k r.0 s.0 (sym r.1 ∙ e ∙ s.1)

        reads : (j : ℕ) → j < used' → words (shown (key_at heads' j)) ≡ key_at heads' j
        reads j l = go (ℕ_discrete j o)
          where
            go : Dec (j ≡ o) → words (shown (key_at heads' j)) ≡ key_at heads' j
            go (yes q) = rw (q, own) proper
            go (no ne) = let r = others j l ne in rw r.1 (w.proper j r.0)

    ticked : (heads' : List ℕ) {i used' evictions' : ℕ} → Goes heads limit used evictions key i used' evictions' → Touched heads heads' key i clock' used' → Ticked (tick_of heads') used' clock'
    ticked heads' {i} {used'} g t = ticked_touched (tick_of heads) (tick_of heads') used used' clock clock' i w.ticks rise (goes_row g) t.newest (goes_out_lem g) t.ticks

    -- and the order stands
    pub touched_stands : (heads' : List ℕ) {i used' evictions' : ℕ} → Goes heads limit used evictions key i used' evictions' → Touched heads heads' key i clock' used'
        → Stands shown words heads' used' clock'
    touched_stands heads' (known i h e) t = record {
      ticks = ticked heads' (known i h e) t;
      keys = λ j k hj hk q. w.keys j k hj hk (sym (kept j hj) ∙ q ∙ kept k hk);
      proper = λ j l. rw (kept j l) (w.proper j l);
    }
      where
        kept : (j : ℕ) → j < used → key_at heads' j ≡ key_at heads j
        kept j l = go (ℕ_discrete j i)
          where
            go : Dec (j ≡ i) → key_at heads' j ≡ key_at heads j
            go (yes q) = ap (key_at heads') q ∙ t.own ∙ sym e ∙ ap (key_at heads) (sym q)
            go (no ne) = t.others j l ne
    touched_stands heads' (added f h) t = new_stands heads' used (used + 1) (ticked heads' (added f h) t) t.own (λ j l ne. (omega arith, t.others j l ne)) f
    touched_stands heads' (evicted f p h) t = new_stands heads' (oldest_of heads used) used (ticked heads' (evicted f p h) t) t.own (λ j l ne. (l, t.others j l ne)) f

    module _ {R : Type 0} (row : ℕ → R) where
      abbrev F : ℕ → Entry K R
      F i = under (shown (key_at heads i)) (row i)

      -- the rules find the row that the code finds
      pub finds_known : (i : ℕ) → i < used → key_at heads i ≡ key → find same (shown key) (rows_seen shown heads used clock row) ≡ some (row i)
      unfolding rows_seen
      finds_known i h e = (known_found (tick_of heads) used clock w.ticks F same (shown key) i h (alike (key_at heads i) key e) (known_others i h e)).0

      pub finds_none : ((j : ℕ) → j < used → key_at heads j ≢ key) → find same (shown key) (rows_seen shown heads used clock row) ≡ none
      unfolding rows_seen
      finds_none f = new_found (tick_of heads) used clock w.ticks F same (shown key) (new_others f)

      abbrev pub before : TouchOrder K R
      before = order_seen shown heads used clock evictions row

      aside_known : (i : ℕ) → i < used → key_at heads i ≡ key → aside same limit (shown key) before ≡ record { rows = without (tick_of heads) used clock i F; evicted = evictions }
      unfolding rows_seen
      aside_known i h e =
          held_stays same limit (shown key) before (row i) (finds_known i h e)
          ∙ ap (λ (l : Rows K R). record { rows = l; evicted = evictions }) (known_found (tick_of heads) used clock w.ticks F same (shown key) i h (alike (key_at heads i) key e) (known_others i h e)).1

      aside_added : ((j : ℕ) → j < used → key_at heads j ≢ key) → used < limit → aside same limit (shown key) before ≡ before
      aside_added f h =
          let n : limit ≡ suc (limit - 1) = omega arith in
          let l : length (rows_seen shown heads used clock row) ≡ used = length_seen shown words heads used clock w row in
          ap (λ (m : ℕ). aside same m (shown key) before) n ∙ new_below same (limit - 1) (shown key) before (finds_none f) (omega arith)

      aside_evicted : ((j : ℕ) → j < used → key_at heads j ≢ key) → 0 < used → limit ≤ used
          → aside same limit (shown key) before ≡ record { rows = without (tick_of heads) used clock (oldest_of heads used) F; evicted = evictions + 1 }
      unfolding rows_seen
      aside_evicted f p h =
          let l : length (rows_seen shown heads used clock row) ≡ used = length_seen shown words heads used clock w row in
          let e : suc evictions ≡ evictions + 1 = sym (add-one evictions) in
          new_at same limit (shown key) before (finds_none f) (omega arith)
          ∙ rw (oldest_gone_lem (tick_of heads) used clock w.ticks F (oldest_of heads used) (oldest_below heads used p) (oldest_least heads used), e)

      alike_row : (heads' : List ℕ) (row' : ℕ → R) (j : ℕ) → key_at heads' j ≡ key_at heads j → row' j ≡ row j → under (shown (key_at heads' j)) (row' j) ≡ F j
      alike_row heads' row' j p q = λ z. under (shown (p z)) (q z)

      -- the touched row at the end of what stays: it was in use, or it comes
      module _ (heads' : List ℕ) (row' : ℕ → R) {i used' evictions' : ℕ} (g : Goes heads limit used evictions key i used' evictions') (t : Touched heads heads' key i clock' used')
          (stay : (j : ℕ) → j < used → j ≢ i → row' j ≡ row j) where
        abbrev F₁ : ℕ → Entry K R
        F₁ j = under (shown (key_at heads' j)) (row' j)

        others : (j : ℕ) → j < used' → j ≢ i → F₁ j ≡ F j
        others j l ne = alike_row heads' row' j (t.others j l ne) (stay j (goes_out_lem g j l ne) ne)

        moved : i < used → in_order (tick_of heads') used' clock' F₁ ≡ without (tick_of heads) used clock i F ++ (under (shown key) (row' i) ∷ [])
        moved h =
            touched_order (tick_of heads) (tick_of heads') used used' clock clock' i w.ticks rise (goes_row g) t.newest (goes_out_lem g) t.ticks F F₁ others h (goes_in g)
            ∙ ap (λ (k : Key). without (tick_of heads) used clock i F ++ (under (shown k) (row' i) ∷ [])) t.own

        come : used ≤ i → in_order (tick_of heads') used' clock' F₁ ≡ in_order (tick_of heads) used clock F ++ (under (shown key) (row' i) ∷ [])
        come h =
            added_order (tick_of heads) (tick_of heads') used used' clock clock' i w.ticks rise (goes_row g) t.newest (goes_out_lem g) t.ticks F F₁ others h (goes_in g)
            ∙ ap (λ (k : Key). in_order (tick_of heads) used clock F ++ (under (shown k) (row' i) ∷ [])) t.own

      -- what stays beside the touched key is what the rules leave beside it, and the key is newest
      pub touched_seen : (heads' : List ℕ) (row' : ℕ → R) {i used' evictions' : ℕ} → Goes heads limit used evictions key i used' evictions' → Touched heads heads' key i clock' used'
          → ((j : ℕ) → j < used → j ≢ i → row' j ≡ row j)
          → order_seen shown heads' used' clock' evictions' row' ≡ newest (shown key) (row' i) (aside same limit (shown key) before)
      unfolding rows_seen newest
      touched_seen heads' row' (known i h e) t stay = rw (aside_known i h e) (ap (λ (l : Rows K R). record { rows = l; evicted = evictions }) (moved heads' row' (known i h e) t stay h))
      touched_seen heads' row' (added f h) t stay = rw (aside_added f h) (ap (λ (l : Rows K R). record { rows = l; evicted = evictions }) (come heads' row' (added f h) t stay (omega arith)))
      touched_seen heads' row' (evicted f p h) t stay =
          rw (aside_evicted f p h) (ap (λ (l : Rows K R). record { rows = l; evicted = evictions + 1 }) (moved heads' row' (evicted f p h) t stay (oldest_below heads used p)))

      -- the rows, but row i holds `met`
      abbrev with_met : ℕ → R → ℕ → R
      with_met i met j = cond (eqb j i) met (row j)

      met_own : (i : ℕ) (met : R) → with_met i met i ≡ met
      met_own i met = rw (eq-eqb i i refl)

      met_other : (i : ℕ) (met : R) (j : ℕ) → j ≢ i → with_met i met j ≡ row j
      met_other i met j ne = rw (ne_eqb j i ne)

      module _ (heads' : List ℕ) {i used' evictions' : ℕ} (g : Goes heads limit used evictions key i used' evictions') (t : Touched heads heads' key i clock' used') (test : R → Bool) (met : R) where
        after : order_seen shown heads' used' clock' evictions' (with_met i met) ≡ newest (shown key) met (aside same limit (shown key) before)
        after =
            touched_seen heads' (with_met i met) g t (λ j l ne. met_other i met j ne)
            ∙ ap (λ (r : R). newest (shown key) r (aside same limit (shown key) before)) (met_own i met)

        abbrev F' : ℕ → Entry K R
        F' j = under (shown (key_at heads' j)) (with_met i met j)

        then : Stands shown words heads' used' clock'
        then = touched_stands heads' g t

        -- a test fails of all rows, the key's row being `met`, exactly when it fails of `met` and of every other row
        pub none_after : test met ≡ false → ((j : ℕ) → j < used → j ≢ i → test (row j) ≡ false)
            → some_row test (newest (shown key) met (aside same limit (shown key) before)).rows ≡ false
        unfolding rows_seen
        none_after m o =
            ap (λ (q : TouchOrder K R). some_row test q.rows) (sym after)
            ∙ order_none (tick_of heads') used' clock' then.ticks F' test (λ j l. each j l (ℕ_discrete j i))
          where
            each : (j : ℕ) → j < used' → Dec (j ≡ i) → test (with_met i met j) ≡ false
            each j l (yes q) = rw (q, met_own i met) m
            each j l (no ne) = rw (met_other i met j ne) (o j (goes_out_lem g j l ne) ne)

        pub after_none : some_row test (newest (shown key) met (aside same limit (shown key) before)).rows ≡ false
            → (test met ≡ false) × ((j : ℕ) → j < used → j ≢ i → test (row j) ≡ false)
        unfolding rows_seen
        after_none h =
            let e : some_row test (rows_seen shown heads' used' clock' (with_met i met)) ≡ false = ap (λ (q : TouchOrder K R). some_row test q.rows) after ∙ h in
            let all : (j : ℕ) → j < used' → test (with_met i met j) ≡ false = λ j l. none_order (tick_of heads') used' clock' then.ticks F' test j e l in
            let m = goes_in g in
            (ap test (sym (met_own i met)) ∙ all i (goes_row g), λ j l ne. ap test (sym (met_other i met j ne)) ∙ all j (omega arith))
