-- Demand 3 over the C calls of a host.
-- Assumes nothing.
use Prim.Native.Nat.{ℕ, zero, suc, ◌+◌}
use native.Mathlib.Omega.{arith}
use mathlib.Core.Path.{◌≡◌, refl, sym, ap, ◌∙◌, subst}
use mathlib.Core.Logic.{◌≢◌}
use mathlib.Core.Option.{Option, some, some-injective}
use mathlib.Core.List.{List, [], ◌∷◌, map}
use mathlib.Core.Bool.{Bool, true, false, cond}
use lib.ListN.{take}
use lib.Dec.{eqb}
use borrow.Author.Tests.{ltb-false, eqb-true}
use Rattle.laws.proofs.Tests.{none≢some}
use Rattle.laws.specs.Runs.{answers, store_after, At, Never}
use Rattle.laws.proofs.Runs.{answers_read}
use Rattle.answers.specs.Answers.{refusal_no, reply_no, Reply}
use Rattle.answers.specs.declared.Refusal.{Refusal}
use Rattle.answers.specs.declared.Refusal.TheVariants.{NotWhole, NoPid}
use Rattle.answers.proofs.Laws.{reply_apart, refused_from_10}
use Rattle.rules_sets.specs.Rules.{Whole, Answer, conflict, not_whole, counter_full, no_cell}
use Rattle.cells.specs.Cells.{part_of}
use Rattle.rows.specs.Rows.{key_at, version_of, last_of}
use Rattle.readers.specs.declared.Next.{Next}
use Rattle.reading.specs.Reading as reading
use Rattle.reading.specs.Reading.{Reads}
use Rattle.std.specs.Prelude.{Some, None, Ok}
use Rattle.without_pid.specs.Pids.{without_pid}
use Rattle.store.specs.Store.{Store, store, empty_sets, whole_of}
use Rattle.sets_settle.specs.Settle.{Handed, Told, done, nothing, handed, refused, told_no}
use Rattle.sets_settle.specs.Settle.{after as leaves}
use Rattle.sets.specs.Store.{cleared_of, pushed_of, next_of}
use Rattle.sets.specs.History.{called}
use Rattle.sets.specs.History.{Call as Given, offer, Bytes as OfBytes}
use Rattle.ties_sets.specs.View.{key_shown}
use Rattle.ties_sets.specs.View as ties
use Rattle.promises.specs.Demand3 as demand
use Rattle.promises.specs.Demand3Read as read
use Rattle.promises.proofs.Demand3.{each_map}
use Rattle.promises.proofs.Demand3Read.{demand_3_read}
use Rattle.host_words.specs.Answers.{Words, at}
use Rattle.host_words.specs.Inputs.{input_number}
use Rattle.host_words.specs.Pids.{pid_number, maybe_pid}
use Rattle.host_words.specs.Sections.{section_after}
use Rattle.host_sets.specs.Calls.{row_after, sets_pushed, sets_cleared, sets_next}
use Rattle.ties_host.specs.Sets.{Lent, Call, push, clear, tells, acts, store_in, call_of, answer_no, OpenedBy}
use Rattle.ties_host.specs.Demand3.{answers_of, after, SectionsOfBytes, WithPid, SectionsWithPids, RefusesNoneForItsStore, asked, ReadsBy, ends, goes_on, row_told, ReadsOut, Demand3Host}
use Rattle.ties_host.proofs.Sets.{acts_as, same_answers, same_store, opened_by_lem}

-- ---- entries of a list, and of what is made of each

at_map : {A B : Type 0} (f : A → B) (xs : List A) (t : ℕ) (x : A) → At xs t x → At (map f xs) t (f x)
at_map f [] t x e = absurd (none≢some refl e)
at_map f (y ∷ ys) zero x e = ap (λ z. some (f z)) (some-injective y x e)
at_map f (y ∷ ys) (suc t) x e = at_map f ys t x e

map_take : {A B : Type 0} (f : A → B) (n : ℕ) (xs : List A) → map f (take n xs) ≡ take n (map f xs)
map_take f zero xs = refl
map_take f (suc n) [] = refl
map_take f (suc n) (x ∷ xs) = ap (λ l. f x ∷ l) (map_take f n xs)

store_read : {S I J : Type 0} (acts : S → I → S) (reads : J → I) (s : S) (calls : List J) → store_after (λ q j. acts q (reads j)) s calls ≡ store_after acts s (map reads calls)
unfolding store_after
store_read acts reads s [] = refl
store_read acts reads s (j ∷ js) = store_read acts reads (acts s (reads j)) js

-- ---- a call with its PID is one of demand 3's

abbrev given_of : Call → demand.Given
given_of (push input pid section) = demand.section (input_number input) (pid_number pid) section
given_of clear = demand.clears

made_given : (c : Call) → WithPid c → demand.made (given_of c) ≡ call_of c
made_given (push input pid section) h = go (eqb pid 0xFFFF_FFFF) refl
  where
    go : (b : Bool) → eqb pid 0xFFFF_FFFF ≡ b → offer (input_number input) (Some (pid_number pid)) section ≡ offer (input_number input) (cond b None (Some (pid_number pid))) section
    go true e = absurd (h (eqb-true pid 0xFFFF_FFFF e))
    go false e = refl
made_given clear h = refl

all_given : (calls : List Call) → SectionsWithPids calls → map demand.made (map given_of calls) ≡ map call_of calls
all_given [] h = refl
all_given (c ∷ cs) h =
    let p = made_given c (h 0 c refl) in
    let q = all_given cs (λ t d e. h (suc t) d e) in
    λ i. p i ∷ q i

answers_given : {A : Type 0} (told : Store → Given → A) (calls : List Call) → SectionsWithPids calls → (s : Store)
    → answers (λ q i. told q (demand.made i)) demand.acts s (map given_of calls) ≡ answers told ties.acts s (map call_of calls)
answers_given told calls h s = answers_read told ties.acts demand.made s (map given_of calls) ∙ ap (answers told ties.acts s) (all_given calls h)

-- ---- the memory after a call is that of the crate's calls

after_as : (l : Lent) (calls : List Call) → SectionsWithPids calls → (t : ℕ) → store_in (after l calls t) ≡ read.after (store_in l) (map given_of calls) t
after_as l calls h t =
    same_store (take (suc t) calls) l
    ∙ ap (store_after ties.acts (store_in l)) (map_take call_of (suc t) calls ∙ ap (take (suc t)) (sym (all_given calls h)) ∙ sym (map_take demand.made (suc t) (map given_of calls)))
    ∙ sym (store_read ties.acts demand.made (store_in l) (take (suc t) (map given_of calls)))

-- ---- a reading by questions is a reading of the crate's

module _ (l : Lent) (row : ℕ) where
  section_is : (n : Next) (w : List ℕ) → n.answer ≡ Ok true → section_after n.answer n w ≡ n.number ∷ n.start ∷ n.length ∷ []
  section_is n w e = ap (λ (a : Reply). section_after a n w) e

  reads_as : {from : ℕ} {parts : List (List ℕ)} → ReadsBy l row from parts → Reads (next_of (store_in l) row) l.cells from parts (Ok false)
  unfolding sets_next
  reads_as {from} (ends section e) =
      let q : (next_of (store_in l) row from).answer ≡ (Ok false) = reply_apart _ _ e in
      subst (λ (r : Reply). Reads (next_of (store_in l) row) l.cells from [] r) q
      (reading.ends (λ (y : (next_of (store_in l) row from).answer ≡ Ok true). let z : ◌≡◌ {A = ℕ} 9 8 = sym (ap reply_no q) ∙ ap reply_no y in omega arith))
  reads_as {from} (goes_on {parts = parts} section e r) =
      let n : Next = next_of (store_in l) row from in
      let q : n.answer ≡ (Ok true) = reply_apart _ _ e in
      let w : section_after n.answer n section ≡ n.number ∷ n.start ∷ n.length ∷ [] = section_is n section q in
      let rest : Reads (next_of (store_in l) row) l.cells (n.number + 1) parts (Ok false) = subst (λ (v : List ℕ). Reads (next_of (store_in l) row) l.cells (at v 0 + 1) parts (Ok false)) w (reads_as r) in
      subst (λ (v : List ℕ). Reads (next_of (store_in l) row) l.cells from (part_of l.cells (at v 1) (at v 2) ∷ parts) (Ok false)) (sym w) (reading.goes_on q rest)

  reads_by : {from : ℕ} {parts : List (List ℕ)} {last : Reply} → Reads (next_of (store_in l) row) l.cells from parts last → last ≡ Ok false → ReadsBy l row from parts
  unfolding sets_next
  reads_by {from} (reading.ends y) e = ends [] (ap reply_no e)
  reads_by {from} (reading.goes_on {parts = parts} q r) e =
      let n : Next = next_of (store_in l) row from in
      let w : section_after n.answer n [] ≡ n.number ∷ n.start ∷ n.length ∷ [] = section_is n [] q in
      let rest : ReadsBy l row (at (section_after n.answer n []) 0 + 1) parts = subst (λ (v : List ℕ). ReadsBy l row (at v 0 + 1) parts) (sym w) (reads_by r e) in
      subst (λ (v : List ℕ). ReadsBy l row from (part_of l.cells (at v 1) (at v 2) ∷ parts)) w (goes_on [] (ap reply_no q) rest)

-- ---- the row that a 5 tells of

-- 5 is a set's number alone
told_5 : (t : Told) → told_no t ≡ 5 → (h : Handed) × (t ≡ handed h)
told_5 done e = absurd (omega arith)
told_5 nothing e = absurd (omega arith)
told_5 (handed h) e = (h, refl)
told_5 (refused r) e = absurd (not_5 r e)
  where
    not_5 : (r : Refusal) → refusal_no r ≡ 5 → ⊥
    not_5 r e = let z = ltb-false (refusal_no r) 10 (refused_from_10 r) in omega arith

clear_not_5 : (s : Store) → told_no (cleared_of s).told ≡ 5 → ⊥
unfolding cleared_of
clear_not_5 s e = go (whole_of s) (without_pid s.heads s.sets.used) e
  where
    go : (b n : Bool) → told_no (cond b (cond n (leaves (refused NoPid) s) (leaves done (store (empty_sets s.sets) s.heads s.slots s.cells))) (leaves (refused NotWhole) s)).told ≡ 5 → ⊥
    go true true e = omega arith
    go true false e = omega arith
    go false n e = omega arith

-- what one call told, and the word of the row then
call_told : (l : Lent) (c : Call) → tells l c ≡ 5 → (h : Handed) × ((called (store_in l) (call_of c)).told ≡ handed h) × (at (acts l c).row 0 ≡ h.row)
unfolding tells acts sets_pushed sets_cleared
call_told l clear e = absurd (clear_not_5 (store_in l) e)
call_told l (push input pid section) e = go (pushed_of (store_in l) (input_number input) (maybe_pid pid) section).told refl e
  where
    go : (t : Told) → (pushed_of (store_in l) (input_number input) (maybe_pid pid) section).told ≡ t → told_no t ≡ 5 → (h : Handed) × ((pushed_of (store_in l) (input_number input) (maybe_pid pid) section).told ≡ handed h)
        × (at (row_after (pushed_of (store_in l) (input_number input) (maybe_pid pid) section).told l.row) 0 ≡ h.row)
    go t e k = let q = told_5 t k in (q.0, e ∙ q.1, ap (λ (x : Told). at (row_after x l.row) 0) (e ∙ q.1))

tells_told : (l : Lent) (c : Call) → tells l c ≡ told_no (called (store_in l) (call_of c)).told
unfolding tells sets_pushed sets_cleared
tells_told l clear = refl
tells_told l (push input pid section) = refl

-- the row of a set
abbrev row_in : Told → ℕ
row_in done = 0
row_in nothing = 0
row_in (handed h) = h.row
row_in (refused r) = 0

row_told_lem : (calls : List Call) (l : Lent) (t : ℕ) → At (answers_of l calls) t 5
    → (h : Handed) × At (answers (λ (s : Store) (i : Given). (called s i).told) ties.acts (store_in l) (map call_of calls)) t (handed h) × (row_told l calls t ≡ h.row)
unfolding answers store_after
row_told_lem [] l t e = absurd (none≢some refl e)
row_told_lem (c ∷ cs) l zero e =
    let q = call_told l c (some-injective (tells l c) 5 e) in
    (q.0, ap some q.1, q.2)
row_told_lem (c ∷ cs) l (suc t) e =
    let q = row_told_lem cs (acts l c) t e in
    (q.0, subst (λ (s : Store). At (answers (λ (s : Store) (i : Given). (called s i).told) ties.acts s (map call_of cs)) t (handed q.0)) (acts_as l c) q.1, q.2)

-- a set that the crate's call hands out is a 5
five_told : (calls : List Call) (l : Lent) (t : ℕ) (h : Handed) → At (answers (λ (s : Store) (i : Given). (called s i).told) ties.acts (store_in l) (map call_of calls)) t (handed h) → At (answers_of l calls) t 5
unfolding answers
five_told [] l t h e = absurd (none≢some refl e)
five_told (c ∷ cs) l zero h e = ap some (tells_told l c ∙ ap told_no (some-injective (called (store_in l) (call_of c)).told (handed h) e))
five_told (c ∷ cs) l (suc t) h e =
    five_told cs (acts l c) t h (subst (λ (s : Store). At (answers (λ (s : Store) (i : Given). (called s i).told) ties.acts s (map call_of cs)) t (handed h)) (sym (acts_as l c)) e)

-- ---- what is read by C calls is what is read of the crate's collector

-- what the crate's calls tell
abbrev told_by : Store → Given → Told
told_by s i = (called s i).told

module _ (l : Lent) (calls : List Call) (pids : SectionsWithPids calls) (t : ℕ) (set : Whole) where
  pub read_as_lem : ReadsOut l calls t set → read.ReadsOut (store_in l) (map given_of calls) t set
  read_as_lem r =
      let q = row_told_lem calls l t r.told in
      let e = after_as l calls pids t in
      record {
        row = row_told l calls t;
        told = (q.0, subst (λ (as' : List Told). At as' t (handed q.0)) (sym (answers_given told_by calls pids (store_in l))) q.1, sym q.2);
        key = ap (λ (s : Store). key_shown (key_at s.heads (row_told l calls t))) (sym e) ∙ r.key;
        version = ap (λ (s : Store). version_of s.heads (row_told l calls t)) (sym e) ∙ r.version;
        last = ap (λ (s : Store). last_of s.heads (row_told l calls t)) (sym e) ∙ r.last;
        sections = subst (λ (s : Store). Reads (next_of s (row_told l calls t)) s.cells 0 set.sections (Ok false)) e (reads_as (after l calls t) (row_told l calls t) r.sections);
      }

  pub read_by : read.ReadsOut (store_in l) (map given_of calls) t set → ReadsOut l calls t set
  read_by r =
      let p : At (answers told_by ties.acts (store_in l) (map call_of calls)) t (handed r.told.0) = subst (λ (as' : List Told). At as' t (handed r.told.0)) (answers_given told_by calls pids (store_in l)) r.told.1 in
      let five = five_told calls l t r.told.0 p in
      let q = row_told_lem calls l t five in
      let e = after_as l calls pids t in
      let n : row_told l calls t ≡ r.row = q.2 ∙ ap row_in (some-injective (handed q.0) (handed r.told.0) (sym q.1 ∙ p)) ∙ r.told.2 in
      record {
        told = five;
        key = ap (λ (s : Store). key_shown (key_at s.heads (row_told l calls t))) e ∙ ap (λ (m : ℕ). key_shown (key_at (read.after (store_in l) (map given_of calls) t).heads m)) n ∙ r.key;
        version = ap (λ (s : Store). version_of s.heads (row_told l calls t)) e ∙ ap (version_of (read.after (store_in l) (map given_of calls) t).heads) n ∙ r.version;
        last = ap (λ (s : Store). last_of s.heads (row_told l calls t)) e ∙ ap (last_of (read.after (store_in l) (map given_of calls) t).heads) n ∙ r.last;
        sections = reads_by (after l calls t) (row_told l calls t)
            (subst (λ (s : Store). Reads (next_of s (row_told l calls t)) s.cells 0 set.sections (Ok false)) (sym e)
            (subst (λ (m : ℕ). Reads (next_of (read.after (store_in l) (map given_of calls) t) m) (read.after (store_in l) (map given_of calls) t).cells 0 set.sections (Ok false)) (sym n) r.sections))
            refl;
      }

-- a number that is never answered is that of no answer of the crate's calls
never_of : (l : Lent) (calls : List Call) → SectionsWithPids calls → (a : Answer) → Never (answer_no a) (answers_of l calls) → Never a (demand.answers_of (store_in l) (map given_of calls))
never_of l calls pids a h t e =
    h t (subst (λ (as' : List ℕ). At as' t (answer_no a)) (sym (same_answers calls l))
    (at_map answer_no (answers ties.tells ties.acts (store_in l) (map call_of calls)) t a (subst (λ (as' : List Answer). At as' t a) (answers_given ties.tells calls pids (store_in l)) e)))

store_of : (l : Lent) (calls : List Call) → SectionsWithPids calls → RefusesNoneForItsStore l calls → demand.RefusesNoneForItsStore (store_in l) (map given_of calls)
store_of l calls pids h = record { cells = never_of l calls pids no_cell h.cells; counter = never_of l calls pids counter_full h.counter; wholeness = never_of l calls pids not_whole h.wholeness }

-- a call that is made of bytes is one of demand 3's that is
given_bytes : (calls : List Call) → SectionsOfBytes calls → demand.SectionsOfBytes (map given_of calls)
given_bytes calls b = each_map demand.OfBytes given_of calls (λ t c e. go c (b t c e))
  where
    go : (c : Call) → OfBytes (call_of c) → demand.OfBytes (given_of c)
    go (push input pid section) h = h
    go clear h = h

pub demand_3_host : Demand3Host
demand_3_host smaller larger os ol size limit calls b pids nc ns nl t set r =
    let g = demand_3_read (store_in smaller) (store_in larger) (opened_by_lem smaller os) (opened_by_lem larger ol) size limit (map given_of calls) (given_bytes calls b)
    (never_of larger calls pids conflict nc) (store_of smaller calls pids ns) (store_of larger calls pids nl) t set (read_as_lem smaller calls pids t set r) in
    record { number = g.at; early = g.early; read = read_by larger calls pids g.at set g.read; since = λ u h k e. g.since u h k (at_map given_of calls u clear e) }
