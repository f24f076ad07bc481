-- Where no eviction is counted, an input of the card is served as if it were alone: the inputs share the rows and nothing else.
-- Assumes nothing.
use mathlib.Core.Path.{◌≡◌, refl, sym, ap, ◌∙◌, subst}
use mathlib.Core.Bool.{Bool, true, false, cond, true≢false}
use mathlib.Core.Option.{Option, none, some}
use mathlib.Core.List.{List, [], ◌∷◌, ◌++◌}
use Prim.Native.Nat.{ℕ, zero, suc, ◌+◌, ◌≤◌, ◌<◌}
use native.Mathlib.Omega.{arith}
use borrow.Author.Tests.{leb-false, lt-leb}
use lib.Dec.{leb, eqb}
use lib.ListN.{length}
use Rattle.rules_shared.specs.Touch.{Entry, Rows, under, room, leaves, count, retain, find, remove, others, evicts, untouched, aside, newest, emptied}
use Rattle.rules_shared.specs.Row.{marked, put}
use Rattle.rules_shared.specs.Cells.{Settings}
use Rattle.rules_shared.proofs.All.{length_retain}
use Rattle.laws.specs.Runs.{answers, store_after}
use Rattle.rules_sets.specs.Rules.{Key, same_key, SetRow, Sets, Section, part_of, Call, clear, refuse, offer, Answer, full, met_row, judged, judge, finish, push, admit, step, tells, acts, opened}
use Rattle.rules_sets.specs.Alone.{is_on, concerns, calls_on, answers_on}
use Rattle.rules_sets.proofs.Keys.{same_key_true_lem}

-- ---- the rows of one input

abbrev KeyRows : Type 0
KeyRows = Rows Key SetRow

module _ (i : ℕ) where
  abbrev kept : KeyRows → KeyRows
  kept rs = retain (is_on i) rs

  -- a row of the same key is of the same input
  same_on : (k k' : Key) → same_key k k' ≡ true → is_on i k' ≡ is_on i k
  same_on k k' h = ap (is_on i) (sym (same_key_true_lem k k' h))

  module _ (k : Key) (on : is_on i k ≡ true) where
    find_kept : (rs : KeyRows) → find same_key k (kept rs) ≡ find same_key k rs
    unfolding retain find
    find_kept [] = refl
    find_kept (r ∷ rs) = go (is_on i r.key) (same_key k r.key) refl refl (find_kept rs)
      where
        go : (t b : Bool) → is_on i r.key ≡ t → same_key k r.key ≡ b → find same_key k (kept rs) ≡ find same_key k rs
            → find same_key k (cond t (r ∷ kept rs) (kept rs)) ≡ cond b (some r.row) (find same_key k rs)
        go true b p q ih = rw (q, ih)
        go false true p q ih = absurd (true≢false (sym on ∙ sym (same_on k r.key q) ∙ p))
        go false false p q ih = ih

    remove_kept : (rs : KeyRows) → remove same_key k (kept rs) ≡ kept (remove same_key k rs)
    unfolding retain remove
    remove_kept [] = refl
    remove_kept (r ∷ rs) = go (is_on i r.key) (same_key k r.key) refl refl (remove_kept rs)
      where
        go : (t b : Bool) → is_on i r.key ≡ t → same_key k r.key ≡ b → remove same_key k (kept rs) ≡ kept (remove same_key k rs)
            → remove same_key k (cond t (r ∷ kept rs) (kept rs)) ≡ kept (cond b rs (r ∷ remove same_key k rs))
        go true true p q ih = rw q
        go true false p q ih = rw (q, p, ih)
        go false true p q ih = absurd (true≢false (sym on ∙ sym (same_on k r.key q) ∙ p))
        go false false p q ih = rw p ih

  module _ (k : Key) (off : is_on i k ≡ false) where
    remove_other : (rs : KeyRows) → kept (remove same_key k rs) ≡ kept rs
    unfolding retain remove
    remove_other [] = refl
    remove_other (r ∷ rs) = go (same_key k r.key) refl (remove_other rs)
      where
        go : (b : Bool) → same_key k r.key ≡ b → kept (remove same_key k rs) ≡ kept rs → kept (cond b rs (r ∷ remove same_key k rs)) ≡ cond (is_on i r.key) (r ∷ kept rs) (kept rs)
        go true q ih = rw (same_on k r.key q, off)
        go false q ih = ap (λ (l : KeyRows). cond (is_on i r.key) (r ∷ l) l) ih

  -- a row that becomes the newest
  kept_newest : (k : Key) (v : SetRow) (rs : KeyRows) → is_on i k ≡ true → kept (rs ++ (under k v ∷ [])) ≡ kept rs ++ (under k v ∷ [])
  unfolding retain
  kept_newest k v [] on = rw on
  kept_newest k v (r ∷ rs) on = go (is_on i r.key) (kept_newest k v rs on)
    where
      go : (t : Bool) → kept (rs ++ (under k v ∷ [])) ≡ kept rs ++ (under k v ∷ []) → cond t (r ∷ kept (rs ++ (under k v ∷ []))) (kept (rs ++ (under k v ∷ []))) ≡ cond t (r ∷ kept rs) (kept rs) ++ (under k v ∷ [])
      go true ih = ap (λ (l : KeyRows). r ∷ l) ih
      go false ih = ih

  other_newest : (k : Key) (v : SetRow) (rs : KeyRows) → is_on i k ≡ false → kept (rs ++ (under k v ∷ [])) ≡ kept rs
  unfolding retain
  other_newest k v [] off = rw off
  other_newest k v (r ∷ rs) off = ap (λ (l : KeyRows). cond (is_on i r.key) (r ∷ l) l) (other_newest k v rs off)

-- ---- no eviction

no_count : (b : Bool) (n : ℕ) → n + count b ≡ n → b ≡ false
unfolding count
no_count true n e = absurd (omega arith)
no_count false n e = refl

no_room : (is_full : Bool) (found : Option SetRow) (rows : KeyRows) → leaves is_full found ≡ false → room is_full found rows ≡ rows
unfolding room leaves
no_room is_full (some r) rows e = refl
no_room true none rows e = absurd (true≢false e)
no_room false none rows e = refl

fewer_leave : (limit m n : ℕ) (found : Option SetRow) → m ≤ n → leaves (leb limit n) found ≡ false → leaves (leb limit m) found ≡ false
unfolding leaves
fewer_leave limit m n (some r) l e = refl
fewer_leave limit m n none l e = let h = leb-false limit n e in lt-leb limit m (omega arith)

others_are : (limit : ℕ) (k : Key) (rows : KeyRows) → evicts same_key limit k rows ≡ false → others same_key limit k rows ≡ remove same_key k rows
unfolding others evicts
others_are limit k rows e = ap (remove same_key k) (no_room (leb limit (length rows)) (find same_key k rows) rows e)

-- ---- one call

-- what t has is what s has of input i
abbrev Alone : (i : ℕ) (s t : Sets) → Type 0
Alone i s t = t.rows ≡ retain (is_on i) s.rows

-- the answer does not look at the other rows; the row of the key becomes the newest, and no eviction is counted
module _ (k : Key) (met : SetRow) where
  finish_answer : (a b : Sets) (then : Option SetRow) → (finish b k met then).answer ≡ (finish a k met then).answer
  unfolding finish judge judged
  finish_answer a b none = refl
  finish_answer a b (some r) = go r.mark (full r.slots)
    where
      go : (m f : Bool) → (judged b k r m f).answer ≡ (judged a k r m f).answer
      go true f = refl
      go false true = refl
      go false false = refl

  finish_evicted : (a : Sets) (then : Option SetRow) → (finish a k met then).sets.evicted ≡ a.evicted
  unfolding finish judge judged newest
  finish_evicted a none = refl
  finish_evicted a (some r) = go r.mark (full r.slots)
    where
      go : (m f : Bool) → (judged a k r m f).sets.evicted ≡ a.evicted
      go true f = refl
      go false true = refl
      go false false = refl

  finish_on : (i : ℕ) (a b : Sets) (then : Option SetRow) → is_on i k ≡ true → Alone i a b → Alone i (finish a k met then).sets (finish b k met then).sets
  unfolding finish judge judged newest
  finish_on i a b none on e = ap (λ (l : KeyRows). l ++ (under k met ∷ [])) e ∙ sym (kept_newest i k met a.rows on)
  finish_on i a b (some r) on e = go r.mark (full r.slots)
    where
      last : (v : SetRow) → b.rows ++ (under k v ∷ []) ≡ retain (is_on i) (a.rows ++ (under k v ∷ []))
      last v = ap (λ (l : KeyRows). l ++ (under k v ∷ [])) e ∙ sym (kept_newest i k v a.rows on)

      go : (m f : Bool) → Alone i (judged a k r m f).sets (judged b k r m f).sets
      go true f = last r
      go false true = last (marked r)
      go false false = last r

  finish_off : (i : ℕ) (a t : Sets) (then : Option SetRow) → is_on i k ≡ false → Alone i a t → Alone i (finish a k met then).sets t
  unfolding finish judge judged newest
  finish_off i a t none off e = e ∙ sym (other_newest i k met a.rows off)
  finish_off i a t (some r) off e = go r.mark (full r.slots)
    where
      go : (m f : Bool) → Alone i (judged a k r m f).sets t
      go true f = e ∙ sym (other_newest i k r a.rows off)
      go false true = e ∙ sym (other_newest i k (marked r) a.rows off)
      go false false = e ∙ sym (other_newest i k r a.rows off)

module _ (o : Settings) (i : ℕ) (s t : Sets) (alone : Alone i s t) where
  evicts_not : (limit : ℕ) (x : Section) → (push (suc limit) s x).sets.evicted ≡ s.evicted → evicts same_key (suc limit) x.key s.rows ≡ false
  unfolding push aside
  evicts_not limit x e =
      no_count (evicts same_key (suc limit) x.key s.rows) s.evicted (sym (finish_evicted x.key (met_row x s) (aside same_key (suc limit) x.key s) (put (part_of x) x.bytes (met_row x s))) ∙ e)

  module _ (x : Section) (on : is_on i x.key ≡ true) where
    met_same : met_row x t ≡ met_row x s
    unfolding met_row
    met_same = rw (alone, find_kept i x.key on s.rows)

    aside_on : (limit : ℕ) → evicts same_key limit x.key s.rows ≡ false → Alone i (aside same_key limit x.key s) (aside same_key limit x.key t)
    unfolding aside evicts
    aside_on limit e =
        let k : Key = x.key in
        let few : leaves (leb limit (length t.rows)) (find same_key k t.rows) ≡ false =
        rw (alone, find_kept i k on s.rows) (fewer_leave limit (length (retain (is_on i) s.rows)) (length s.rows) (find same_key k s.rows) (length_retain (is_on i) s.rows) e) in
        others_are limit k t.rows few ∙ ap (remove same_key k) alone ∙ remove_kept i k on s.rows ∙ ap (retain (is_on i)) (sym (others_are limit k s.rows e))

    pushed_on : (limit : ℕ) → (push limit s x).sets.evicted ≡ s.evicted → ((push limit t x).answer ≡ (push limit s x).answer) × Alone i (push limit s x).sets (push limit t x).sets
    unfolding push
    pushed_on zero e = (refl, alone)
    pushed_on (suc n) e =
        let a : Sets = aside same_key (suc n) x.key s in
        let b : Sets = aside same_key (suc n) x.key t in
        rw met_same (
          finish_answer x.key (met_row x s) a b (put (part_of x) x.bytes (met_row x s)),
          finish_on x.key (met_row x s) i a b (put (part_of x) x.bytes (met_row x s)) on (aside_on (suc n) (evicts_not n x e)),
        )

  module _ (x : Section) (off : is_on i x.key ≡ false) where
    pushed_off : (limit : ℕ) → (push limit s x).sets.evicted ≡ s.evicted → Alone i (push limit s x).sets t
    unfolding push aside
    pushed_off zero e = alone
    pushed_off (suc n) e =
        finish_off x.key (met_row x s) i (aside same_key (suc n) x.key s) t (put (part_of x) x.bytes (met_row x s)) off
        (alone ∙ sym (remove_other i x.key off s.rows) ∙ ap (retain (is_on i)) (sym (others_are (suc n) x.key s.rows (evicts_not n x e))))

  -- a call that concerns the input: what t tells is what s tells, and both go on so
  concerned : (c : Call) → concerns i c ≡ true → (acts o s c).evicted ≡ s.evicted → (tells o t c ≡ tells o s c) × Alone i (acts o s c) (acts o t c)
  unfolding concerns tells acts step emptied retain admit
  concerned clear p e = (refl, refl)
  concerned (refuse r) p e = (refl, alone)
  concerned (offer x) p e = go (leb (length x.bytes) o.cell_size) e
    where
      go : (b : Bool) → (admit o.limit s x b).sets.evicted ≡ s.evicted
          → ((admit o.limit t x b).answer ≡ (admit o.limit s x b).answer) × Alone i (admit o.limit s x b).sets (admit o.limit t x b).sets
      go true e = pushed_on x p o.limit e
      go false e = (refl, alone)

  -- any other leaves what s has of it
  unconcerned : (c : Call) → concerns i c ≡ false → (acts o s c).evicted ≡ s.evicted → Alone i (acts o s c) t
  unfolding concerns acts step admit
  unconcerned clear p e = absurd (true≢false p)
  unconcerned (refuse r) p e = absurd (true≢false p)
  unconcerned (offer x) p e = go (leb (length x.bytes) o.cell_size) e
    where
      go : (b : Bool) → (admit o.limit s x b).sets.evicted ≡ s.evicted → Alone i (admit o.limit s x b).sets t
      go true e = pushed_off x p o.limit e
      go false e = alone

-- ---- many calls

-- the count of evictions only rises
rises : (o : Settings) (s : Sets) (c : Call) → s.evicted ≤ (acts o s c).evicted
unfolding acts step emptied admit push aside
rises o s clear = omega arith
rises o s (refuse r) = omega arith
rises o s (offer x) = go (leb (length x.bytes) o.cell_size)
  where
    pushed : (n : ℕ) → s.evicted ≤ (push n s x).sets.evicted
    pushed zero = omega arith
    pushed (suc n) = rw (finish_evicted x.key (met_row x s) (aside same_key (suc n) x.key s) (put (part_of x) x.bytes (met_row x s))) (omega arith)

    go : (b : Bool) → s.evicted ≤ (admit o.limit s x b).sets.evicted
    go true = pushed o.limit
    go false = omega arith

all_rise : (o : Settings) (calls : List Call) (s : Sets) → s.evicted ≤ (store_after (acts o) s calls).evicted
unfolding store_after
all_rise o [] s = omega arith
all_rise o (c ∷ cs) s = let p = rises o s c in let q = all_rise o cs (acts o s c) in omega arith

run : (o : Settings) (i : ℕ) (calls : List Call) (s t : Sets) → Alone i s t → (store_after (acts o) s calls).evicted ≡ s.evicted
    → answers_on i calls (answers (tells o) (acts o) s calls) ≡ answers (tells o) (acts o) t (calls_on i calls)
unfolding store_after answers answers_on calls_on
run o i [] s t a e = refl
run o i (c ∷ cs) s t a e = go (concerns i c) refl (λ t' a'. run o i cs (acts o s c) t' a' (e ∙ sym still))
  where
    still : (acts o s c).evicted ≡ s.evicted
    still = let p = rises o s c in let q = all_rise o cs (acts o s c) in omega arith

    go : (b : Bool) → concerns i c ≡ b → ((t' : Sets) → Alone i (acts o s c) t' → answers_on i cs (answers (tells o) (acts o) (acts o s c) cs) ≡ answers (tells o) (acts o) t' (calls_on i cs))
        → cond b (tells o s c ∷ answers_on i cs (answers (tells o) (acts o) (acts o s c) cs)) (answers_on i cs (answers (tells o) (acts o) (acts o s c) cs)) ≡ answers (tells o) (acts o) t (cond b (c ∷ calls_on i cs) (calls_on i cs))
    go true q ih =
        let f = concerned o i s t a c q still in
        let g = ih (acts o t c) f.1 in
        let h = sym f.0 in
        λ j. h j ∷ g j
    go false q ih = ih t (unconcerned o i s t a c q still)

-- in a run from an opened collector in which no eviction is counted, the answers to the sections on input i are those that a collector opened alike
-- gives to these sections alone
pub as_if_alone : (o : Settings) (i : ℕ) (calls : List Call) → (store_after (acts o) opened calls).evicted ≡ 0
    → answers_on i calls (answers (tells o) (acts o) opened calls) ≡ answers (tells o) (acts o) opened (calls_on i calls)
unfolding untouched retain
as_if_alone o i calls e = run o i calls opened opened refl e
