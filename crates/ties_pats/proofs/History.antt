-- Every history of enterings from an opened record: the PAT store is what the rules of the set collector say at limit 1, N changes only by a complete PAT,
-- a conflict changes no set of PIDs, and the watched PIDs are the protected ones and those of N.
-- Assumes nothing.
use borrow.Author.Tests.{eq-eqb, le-leb, leb-true, le-ltb, lt-ltb}
use mathlib.Core.Path.{◌≡◌, refl, sym, ap, subst, ◌∙◌}
use mathlib.Core.Logic.{◌≢◌, ◌⊎◌, inl, inr}
use mathlib.Core.Bool.{Bool, true, false, cond, not, ◌&&◌}
use mathlib.Core.Option.{Option, none, some}
use mathlib.Core.List.{List, [], ◌∷◌}
use Prim.Native.Nat.{ℕ, ◌+◌, ◌≤◌, ◌<◌}
use native.Mathlib.Omega.{arith}
use lib.Dec.{eqb, ltb, leb}
use lib.ListN.{length, take}
use Rattle.laws.specs.Bits.{has_bit}
use Rattle.laws.specs.Runs.{store_after}
use Rattle.laws.proofs.Tests.{and_true}
use Rattle.answers.specs.declared.Refusal.TheVariants.{BadNumber}
use Rattle.section.specs.Facts.{Bytes}
use Rattle.section.specs.Header.{byte_at, current_next_of, header_of, long_form, section_length, last_section_number, section_number, stored_crc, worked_crc}
use Rattle.section.specs.Judged.{malformed, collected_long, collected_of}
use Rattle.std.specs.Prelude.{Ok, Err}
use Rattle.pat.specs.Pat.{readable}
use Rattle.watched.specs.Store.{all_pids, filled, followed_of}
use Rattle.watched.specs.View.{InStep}
use Rattle.watched.proofs.Meaning.{opened_in_step}
use Rattle.rules_shared.specs.Touch.{untouched, count, aside, on_order, seen_as}
use Rattle.rules_shared.specs.Row.{put}
use Rattle.rules_shared.specs.Cells.{bytes_of}
use Rattle.rules_sets.specs.Rules.{Key, same_key, SetRow, Sets, Section, part_of, Call, offer, Whole, Answer, nothing, handout, refused, conflict, full, met_row, judged, judge, finish, push, admit, step, tells, opened}
use Rattle.rules_sets.specs.Cells.{view, on_sets}
use Rattle.store.specs.Store.{settings_fit, whole_of, WholeStore}
use Rattle.store.proofs.Whole.{means_whole}
use Rattle.sets.specs.Store.{opened_of}
use Rattle.ties_sets.specs.View as ties
use Rattle.ties_sets.specs.View.{seen, reads_as, read_section}
use Rattle.ties_sets.proofs.History.{opened_reached, opened_seen}
use Rattle.pats.specs.Store.{Record, record_of, pat_most, pat_store, pats_whole, pats_full, begun_words, enters, entered_in}
use Rattle.ties_pats.specs.Rules.{Pats, pat_settings, read_pat, programs_of_set, entered}
use Rattle.pats.proofs.Laws.{is_whole, ready, no_row, length_begun, begun_used, begun_evictions, begun_sets}
use Rattle.pats.proofs.Counts.{entered_few, not_full}
use Rattle.ties_pats.specs.View.{shown, Opened, Sent, entering, taking, tells_of, OfBytes, NeverFull, CompletePat}
use Rattle.ties_pats.proofs.Kept.{handed_complete, reads_say}
use Rattle.ties_pats.proofs.Obey.{Stands, same_step, tells_rules, stands_then, obeys_rules, only_whole, in_step_then}

-- ---- opening

-- what opening writes is such a record, whatever the lent memory holds
pub begun_opened : (words slots cells : List ℕ) → 398 ≤ length words → 288 ≤ length slots → 262144 ≤ length cells → Opened (record_of (begun_words words) slots cells)
begun_opened words slots cells h a b = record { words = rw (length_begun words) h; slots = a; cells = b; used = begun_used words h; evictions = begun_evictions words h }

pub begun_in_step : (words : List ℕ) (on : Bool) (extra : List ℕ) → all_pids extra ≡ true → InStep (begun_words (filled words on extra))
begun_in_step words on extra e = same_step (begun_words (filled words on extra)) (filled words on extra) (begun_sets (filled words on extra)) (opened_in_step words on extra e)

module _ (r : Record) (o : Opened r) where
  begun_store : WholeStore (pat_store r)
  begun_store = no_row r o.words o.slots o.cells o.used

  fits : settings_fit (pat_store r).sets (length (pat_store r).heads) (length r.slots) (length r.cells) ≡ true
  unfolding whole_of
  fits = (and_true (settings_fit (pat_store r).sets (length (pat_store r).heads) (length r.slots) (length r.cells)) _ (and_true _ _ (means_whole (pat_store r) begun_store)).0).0

  is_opened : ties.Opened (pat_store r)
  unfolding opened_of
  is_opened = record { opened = record { opened = rw fits; none = o.used }; evictions = o.evictions; clock = rw o.used refl }

  -- no row, no eviction
  pub opened_shown : (shown r).sets ≡ opened
  unfolding view on_sets on_order seen_as untouched
  opened_shown = ap (λ (s : _). on_sets (bytes_of (seen (pat_store r)).cells) s) (opened_seen (pat_store r) is_opened)

  pub opened_stands : (Came : List ℕ → Type 0) → Stands Came r
  unfolding untouched
  opened_stands Came = record {
    words = o.words;
    whole = begun_store;
    reached = opened_reached (pat_store r) is_opened;
    lived = rw opened_shown (record { distinct = tt; few = omega arith; marks = tt });
    kept = rw opened_shown tt;
  }

-- ---- many enterings

-- a section is among those that were sent
abbrev pub In : List Sent → List ℕ → Type 0
In [] s = ⊥
In (x ∷ xs) s = (x.section ≡ s) ⊎ In xs s

abbrev pub AllCame : (List ℕ → Type 0) → List Sent → Type 0
AllCame Came [] = Unit {0}
AllCame Came (x ∷ xs) = Came x.section × AllCame Came xs

wider : (Came Came' : List ℕ → Type 0) → ((s : List ℕ) → Came s → Came' s) → (xs : List Sent) → AllCame Came xs → AllCame Came' xs
wider Came Came' f [] a = tt
wider Came Came' f (x ∷ xs) a = (f x.section a.0, wider Came Came' f xs a.1)

all_in : (xs : List Sent) → AllCame (In xs) xs
all_in [] = tt
all_in (x ∷ xs) = (inl refl, wider (In xs) (In (x ∷ xs)) (λ s i. inr i) xs (all_in xs))

module _ (Came : List ℕ → Type 0) where
  entering_stands : (r : Record) (x : Sent) → Bytes x.section → Came x.section → Stands Came r → Stands Came (entering r x)
  unfolding entering
  entering_stands r x b c st = go (pats_full r.words) refl
    where
      go : (f : Bool) → pats_full r.words ≡ f → Stands Came (cond f r (entered_in r x.input x.section))
      go true h = st
      go false h = stands_then Came r st h x.input x.section b c

  pub stands_after : (xs : List Sent) → OfBytes xs → AllCame Came xs → (r : Record) → Stands Came r → Stands Came (store_after entering r xs)
  unfolding store_after
  stands_after [] b c r st = st
  stands_after (x ∷ xs) b c r st = stands_after xs b.1 c.1 (entering r x) (entering_stands r x b.0 c.0 st)

  entering_obeys : (r : Record) (x : Sent) → Bytes x.section → Came x.section → Stands Came r → pats_full r.words ≡ false → shown (entering r x) ≡ taking (shown r) x
  unfolding entering taking
  entering_obeys r x b c st h = rw h (obeys_rules Came r st h x.input x.section b c)

  pub obeys_after : (xs : List Sent) → OfBytes xs → AllCame Came xs → (r : Record) → Stands Came r → NeverFull r xs → shown (store_after entering r xs) ≡ store_after taking (shown r) xs
  unfolding store_after
  obeys_after [] b c r st n = refl
  obeys_after (x ∷ xs) b c r st n =
      obeys_after xs b.1 c.1 (entering r x) (entering_stands r x b.0 c.0 st) n.1
      ∙ ap (λ (p : Pats). store_after taking p xs) (entering_obeys r x b.0 c.0 st n.0)

-- ---- neither the count of evictions nor the clock goes up by more than one

-- so 11 does not come before 2^64 - 1 sections have entered
pub never_full : (Came : List ℕ → Type 0) (xs : List Sent) → OfBytes xs → AllCame Came xs → (r : Record) → Stands Came r → pat_most r.words + length xs ≤ 18446744073709551615 → NeverFull r xs
unfolding entering
never_full Came [] b c r st h = tt
never_full Came (x ∷ xs) b c r st h =
    let f : pats_full r.words ≡ false = not_full r.words (omega arith) in
    let g = (entered_few r (ready r (is_whole r st.words st.whole) f) x.input x.section (b.0 7)).most in
    (f, never_full Came xs b.1 c.1 (entering r x) (entering_stands Came r x b.0 c.0 st) (rw f (omega (arith, g, h))))

-- ---- what the PAT store answers

-- 4, 5, 16 or 22
pub data Few : Answer → Type 0 where
  no_set : Few nothing
  a_set : (w : Whole) → Few (handout w)
  bad_number : Few (refused BadNumber)
  other_bytes : Few conflict

judge_few : (s : Sets) (k : Key) (r : SetRow) → Few (judge s k r).answer
unfolding judge judged
judge_few s k r = go r.mark (full r.slots)
  where
    go : (b c : Bool) → Few (judged s k r b c).answer
    go true c = no_set
    go false false = no_set
    go false true = a_set _

finish_few : (s : Sets) (k : Key) (met : SetRow) (o : Option SetRow) → Few (finish s k met o).answer
unfolding finish
finish_few s k met none = other_bytes
finish_few s k met (some r) = judge_few s k r

-- a section that is no longer than a cell, at limit 1
offer_few : (s : Sets) (x : Section) → length x.bytes ≤ 1024 → Few (tells pat_settings s (offer x))
unfolding tells step admit push
offer_few s x h = subst (λ (b : Bool). Few (admit 1 s x b).answer) (sym (le-leb (length x.bytes) 1024 h)) (finish_few (aside same_key 1 x.key s) x.key (met_row x s) (put (part_of x) x.bytes (met_row x s)))

-- a PAT with the right CRC, on an input: 16, or what its header says
pub read_pat_lem : (input : ℕ) (section : List ℕ) → input < 16 → enters section ≡ true → worked_crc section ≡ stored_crc section
    → (length section ≤ 1024) × (read_pat input section ≡ reads_as (record { input = input; pid = 0 }) section (cond (ltb (last_section_number section) (section_number section)) (Err BadNumber) (Ok (header_of section))))
unfolding read_section collected_of malformed collected_long enters
read_pat_lem input section i h e =
    let a = and_true (readable section && current_next_of section) (leb (length section) 1024) h in
    let b = and_true (readable section) (current_next_of section) a.0 in
    let c = and_true (leb 12 (length section)) _ b.0 in
    let n = leb-true 12 (length section) c.0 in
    let d = and_true (eqb (byte_at section 0) 0 && long_form section && eqb (length section) (3 + section_length section)) _ c.1 in
    let f = and_true (eqb (byte_at section 0) 0 && long_form section) (eqb (length section) (3 + section_length section)) d.0 in
    let g = and_true (eqb (byte_at section 0) 0) (long_form section) f.0 in (
      leb-true (length section) 1024 a.1,
      rw (lt-ltb input 16 i, le-ltb (length section) 3 (omega arith), f.1, g.1, le-ltb (length section) 12 n, eq-eqb (worked_crc section) (stored_crc section) e),
    )

-- so no other answer than 4, 5, 16 or 22: 10, 17, 20 and 21 never come
pub few_answers : (s : Sets) (input : ℕ) (section : List ℕ) → input < 16 → enters section ≡ true → worked_crc section ≡ stored_crc section → Few (tells pat_settings s (read_pat input section))
unfolding reads_as tells step
few_answers s input section i h e =
    let p = read_pat_lem input section i h e in
    subst (λ (c : Call). Few (tells pat_settings s c)) (sym p.1) (go p.0 (ltb (last_section_number section) (section_number section)))
  where
    go : length section ≤ 1024 → (b : Bool)
        → Few (tells pat_settings s (reads_as (record { input = input; pid = 0 }) section (cond b (Err BadNumber) (Ok (header_of section)))))
    go l true = bad_number
    go l false = offer_few s _ l

-- ---- the theorems, of a record that was opened

module _ (r : Record) (o : Opened r) where
  -- the PAT store is what the rules of the set collector say at limit 1, and N is what they say of complete PATs; 10 never comes, and 11 not before 2^64 - 1
  -- sections have entered
  pub pats_obey : (xs : List Sent) → OfBytes xs → length xs ≤ 18446744073709551615
      → (shown (store_after entering r xs) ≡ store_after taking (record { sets = opened; n = (shown r).n }) xs) × (pats_whole (store_after entering r xs) ≡ true) × NeverFull r xs
  pats_obey xs b h =
      let st = opened_stands r o (In xs) in
      let z : pat_most r.words ≡ 0 = rw (o.evictions, o.used) refl in
      let n = never_full (In xs) xs b (all_in xs) r st (omega arith) in
      let a = stands_after (In xs) xs b (all_in xs) r st in
      let e = opened_shown r o in (
        obeys_after (In xs) xs b (all_in xs) r st n ∙ ap (λ (s : Sets). store_after taking (record { sets = s; n = (shown r).n }) xs) e,
        is_whole (store_after entering r xs) a.words a.whole,
        n,
      )

  -- watched = protected ∪ N
  pub watch_always : InStep r.words → (xs : List Sent) → OfBytes xs → InStep (store_after entering r xs).words
  unfolding entering store_after
  watch_always s xs b = go xs b (all_in xs) r (opened_stands r o (In xs)) s
    where
      one : (Came : List ℕ → Type 0) (q : Record) (x : Sent) → Bytes x.section → Stands Came q → InStep q.words → InStep (entering q x).words
      one Came q x b st i = at (pats_full q.words) refl
        where
          at : (f : Bool) → pats_full q.words ≡ f → InStep (cond f q (entered_in q x.input x.section)).words
          at true h = i
          at false h = in_step_then Came q st h x.input x.section b i

      go : (ys : List Sent) → OfBytes ys → AllCame (In xs) ys → (q : Record) → Stands (In xs) q → InStep q.words → InStep (store_after entering q ys).words
      go [] b c q st i = i
      go (y ∷ ys) b c q st i = go ys b.1 c.1 (entering q y) (entering_stands (In xs) q y b.0 c.0 st) (one (In xs) q y b.0 st i)

  -- after a history, one section more
  module _ (xs : List Sent) (x : Sent) (b : OfBytes xs) (b' : Bytes x.section) (f : pats_full (store_after entering r xs).words ≡ false) where
    abbrev before : Record
    before = store_after entering r xs

    abbrev then : Record
    then = entered_in before x.input x.section

    abbrev answer : Answer
    answer = tells pat_settings (shown before).sets (read_pat x.input x.section)

    st : Stands (In (x ∷ xs)) before
    st = stands_after (In (x ∷ xs)) xs b (wider (In xs) (In (x ∷ xs)) (λ s i. inr i) xs (all_in xs)) r (opened_stands r o (In (x ∷ xs)))

    -- N changes only where the rules hand out a set at that section
    pub replaced_only : ((w : Whole) → answer ≢ handout w) → take 384 then.words ≡ take 384 before.words
    replaced_only g = only_whole (In (x ∷ xs)) before st f x.input x.section b' g

    -- and is then the PIDs of the programs other than 0 of all its sections, each of which was sent
    pub replaced_whole : enters x.section ≡ true → (w : Whole) → answer ≡ handout w
        → CompletePat (In (x ∷ xs)) w × ((pid : ℕ) → has_bit (followed_of then.words) pid ≡ programs_of_set w.sections pid)
    unfolding entered
    replaced_whole h w e =
        let c = handed_complete (In (x ∷ xs)) pat_settings (shown before).sets (read_pat x.input x.section) st.lived (reads_say (In (x ∷ xs)) x.input x.section b' h (inl refl)) st.kept w e in
        let p = obeys_rules (In (x ∷ xs)) before st f x.input x.section b' (inl refl) in
        (c, λ pid. ap (λ (k : Pats). k.n pid) p ∙ rw (h, e))

    -- a conflict changes no set of PIDs
    pub conflict_silent : answer ≡ conflict → take 384 then.words ≡ take 384 before.words
    conflict_silent e = replaced_only (λ w q. (let z : ◌≡◌ {A = ℕ} 0 1 = cc in omega arith))

    -- what the PAT store tells is what the rules tell
    pub told_by_rules : tells_of before x ≡ answer
    told_by_rules = tells_rules (In (x ∷ xs)) before st f x.input x.section b'
