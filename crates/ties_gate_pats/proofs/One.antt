-- PATs in one section each: in every history of offers in which all sound PATs are on PID 0 of one input, current, in one section, of one
-- transport_stream_id and without a conflict, following complete PATs and following each changed section give the same answers and leave the same gate and
-- the same watch after each offer.
-- Assumes nothing.
use Prim.Native.Nat.{ℕ, ◌+◌, ◌/◌, ◌%◌, ◌^◌, ◌≤◌, ◌<◌}
use mathlib.Core.Path.{◌≡◌, refl, sym, ap, subst, ◌∙◌}
use mathlib.Core.Logic.{◌≢◌}
use mathlib.Core.List.{List, [], ◌∷◌, ◌++◌}
use mathlib.Core.Bool
use mathlib.Core.Bool.{Bool, true, false, cond, ◌&&◌, ◌||◌, or-false, true≢false}
use mathlib.Core.Option.{Option, none, some}
use lib.ListN.{length}
use lib.Dec.{leb, ltb, eqb}
use native.Mathlib.Omega.{arith}
use borrow.Author.Tests.{leb-true, ltb-true, eqb-true, eqb-false, ne_eqb, le-leb}
use Rattle.laws.proofs.Tests.{and_true, and_none}
use Rattle.laws.proofs.Tests as tests
use Rattle.laws.proofs.Facts.{eq_passes}
use Rattle.rules_shared.specs.Same.{Bytes, same_bytes}
use Rattle.rules_shared.specs.Slots.{present}
use Rattle.rules_shared.specs.Touch.{Rows, under, find, room, remove, others, evicts, leaves, count, aside, newest, untouched}
use Rattle.rules_shared.specs.Row.{Part, fresh, fits, start, slot_of, keep, marked, put_over, put}
use Rattle.rules_shared.proofs.Same.{same_origin_refl_lem, same_bytes_true}
use Rattle.rules_sets.specs.Rules.{Key, same_key, SetRow, Sets, Section, Step, part_of, offer, Whole, Answer, handout, nothing, conflict, full, whole, met_row, judged, judge, finish, push, admit, step, tells, acts}
use Rattle.section.specs.Ids.{origin_of}
use Rattle.section.specs.Key.{key_of}
use Rattle.pat.specs.Pat.{readable, set_n}
use Rattle.ties_pats.specs.Rules.{programs_of_set, pat_settings, read_pat, enters_on}
use Rattle.watched.specs.Rules.{Watch, followed_by}
use Rattle.gate.specs.Rules.{Offer, Manner, Held, Told, failed_in, row_from, watch_after, admitted, carried_in, told, OfBytes}
use Rattle.ties_gate.proofs.Watching.{Watches, follow_watches}
use Rattle.ties_pats.proofs.Obey.{clock_one}
use Rattle.ties_gate_pats.specs.Rules.{Holding, ToldWith, empty_holding, at_end, watch_with, entered_with, enters_from, behind, told_with, tells_with, acts_with}
use Rattle.answers.specs.declared.Refusal.TheVariants.{CounterFull, BadPid, BadInput}
use Rattle.answers.specs.Answers.{refusal_no}
use Rattle.laws.specs.Runs.{answers, store_after}
use Rattle.counters.specs.Counters.{any_full}
use Rattle.gate_state.specs.declared.Answer.TheVariants as answer
use Rattle.gate_pats.proofs.Laws.{sound_said}
use Rattle.ties_gate.specs.Watching.{is_protected, no_pid}
use Rattle.section.specs.Facts.{Bytes as Bytesᵇ}
use Rattle.section.specs.Header.{header_of, current_next_of, extension_of, version_of, section_number, stored_crc, table_id_of}
use Rattle.section.specs.Judged.{rule_of, judged_of}
use Rattle.section.specs.declared.ids.Origin.{Origin}
use Rattle.section.specs.declared.header.Parts.{Parts}
use Rattle.section.specs.declared.header.Judged.{Judged}
use Rattle.section.specs.declared.header.Judged.TheVariants as judged
use Rattle.section.proofs.Facts.{judged_table}
use Rattle.offers.specs.Offers.{arrival_of, read_as, read_of}
use Rattle.offers.specs.declared.Arrival.{Arrival}
use Rattle.offers.specs.declared.Failure.TheVariants.{TooShort, Mismatch}
use Rattle.offers.specs.declared.Verdict.{Verdict}
use Rattle.offers.specs.declared.Verdict.TheVariants.{Refused, Failed, Arrived}
use Rattle.gate_state.specs.State.{plain}
use Rattle.gate_state.specs.declared.Follow.{Follow}
use Rattle.gate_state.specs.declared.Follow.TheVariants.{Sections, Tables}
use Rattle.gate_state.specs.declared.Settings.{Settings}
use Rattle.gate.specs.Store.{Begun}
use Rattle.watched.specs.View.{watch_in}
use Rattle.ties_gate.proofs.Opening.{manner_for}
use Rattle.gate_pats.specs.View.{kept_tells, kept_acts}
use Rattle.ties_gate_pats.proofs.Opening.{left_open, answers_from_open, view_from_open}
use Rattle.ties_sets.specs.View.{reads_as}
use Rattle.ties_pats.proofs.History.{read_pat_lem}
use Rattle.gate_pats.specs.Store.{opened_with, Kept, sound_by}
use Rattle.pats.specs.Store.{enters}
use Rattle.ties_gate_pats.specs.History.{manner_by, InOne, AllInOne}
use Rattle.ties_gate_pats.proofs.Answers.{readable_headed, sound_crc, sound_parts}
use Rattle.ring.specs.Rules.{Row, holds, has, updated, later, at_capacity, changed, offered_to}

-- ---- the gate's rows of one key

module _ (k : ℕ) where
  -- every row of the key has this version, and none of the key stands behind it
  abbrev Only : (version : ℕ) → List Row → Type 0
  Only v [] = Unit {0}
  Only v (r ∷ rows) = (r.key ≡ k → (r.version ≡ v) × (holds k rows ≡ false)) × Only v rows

  -- so a row of the key that is held has it
  only_has : (v : ℕ) (rows : List Row) → Only v rows → (n : Row) → n.key ≡ k → has n rows ≡ true → n.version ≡ v
  only_has v [] o n e h = absurd (true≢false (sym h))
  only_has v (r ∷ rows) o n e h = go (eqb r.key n.key) refl h (only_has v rows o.1 n e)
    where
      go : (b : Bool) → eqb r.key n.key ≡ b → cond b (eqb r.version n.version && eqb r.change n.change) (has n rows) ≡ true
          → (has n rows ≡ true → n.version ≡ v) → n.version ≡ v
      go true q x ih = sym (eqb-true r.version n.version (and_true _ _ x).0) ∙ (o.0 (eqb-true r.key n.key q ∙ e)).0
      go false q x ih = ih x

  -- no row of the key
  none_has : (rows : List Row) → holds k rows ≡ false → (n : Row) → n.key ≡ k → has n rows ≡ false
  none_has [] h n e = refl
  none_has (r ∷ rows) h n e =
      let x = tests.or_false (eqb r.key k) (holds k rows) h in
      let d : eqb r.key n.key ≡ false = ap (eqb r.key) e ∙ x.0 in
      rw d (none_has rows x.1 n e)

  none_only : (v : ℕ) (rows : List Row) → holds k rows ≡ false → Only v rows
  none_only v [] h = tt
  none_only v (r ∷ rows) h =
      let x = tests.or_false (eqb r.key k) (holds k rows) h in
      ((λ e. absurd (eqb-false r.key k x.0 e)), none_only v rows x.1)

  none_later : (rows : List Row) → holds k rows ≡ false → holds k (later rows) ≡ false
  none_later [] h = refl
  none_later (r ∷ rows) h = (tests.or_false (eqb r.key k) (holds k rows) h).1

  only_later : (v : ℕ) (rows : List Row) → Only v rows → Only v (later rows)
  only_later v [] o = tt
  only_later v (r ∷ rows) o = o.1

  -- a row of another key
  module _ (n : Row) (other : n.key ≢ k) where
    holds_updated : (rows : List Row) → holds k (updated n rows) ≡ holds k rows
    holds_updated [] = refl
    holds_updated (r ∷ rows) = go (eqb r.key n.key) refl (holds_updated rows)
      where
        go : (b : Bool) → eqb r.key n.key ≡ b → holds k (updated n rows) ≡ holds k rows → holds k (cond b (n ∷ rows) (r ∷ updated n rows)) ≡ eqb r.key k || holds k rows
        go true q ih = let e = eqb-true r.key n.key q in rw e
        go false q ih = ap (λ (b : Bool). eqb r.key k || b) ih

    holds_behind : (rows : List Row) → holds k (rows ++ (n ∷ [])) ≡ holds k rows
    holds_behind [] = rw (ne_eqb n.key k other)
    holds_behind (r ∷ rows) = ap (λ (b : Bool). eqb r.key k || b) (holds_behind rows)

    only_updated : (v : ℕ) (rows : List Row) → Only v rows → Only v (updated n rows)
    only_updated v [] o = tt
    only_updated v (r ∷ rows) o = go (eqb r.key n.key) (only_updated v rows o.1)
      where
        go : (b : Bool) → Only v (updated n rows) → Only v (cond b (n ∷ rows) (r ∷ updated n rows))
        go true ih = ((λ e. absurd (other e)), o.1)
        go false ih = ((λ e. ((o.0 e).0, holds_updated rows ∙ (o.0 e).1)), ih)

    only_behind : (v : ℕ) (rows : List Row) → Only v rows → Only v (rows ++ (n ∷ []))
    only_behind v [] o = ((λ e. absurd (other e)), tt)
    only_behind v (r ∷ rows) o = ((λ e. ((o.0 e).0, holds_behind rows ∙ (o.0 e).1)), only_behind v rows o.1)

    other_none : (capacity : ℕ) (rows : List Row) → holds k rows ≡ false → holds k (offered_to capacity n rows) ≡ false
    unfolding offered_to
    other_none capacity rows h = go (holds n.key rows) (at_capacity capacity rows)
      where
        go : (a b : Bool) → holds k (cond a (updated n rows) (cond b (later rows) rows ++ (n ∷ []))) ≡ false
        go true b = holds_updated rows ∙ h
        go false true = holds_behind (later rows) ∙ none_later rows h
        go false false = holds_behind rows ∙ h

    other_only : (capacity v : ℕ) (rows : List Row) → Only v rows → Only v (offered_to capacity n rows)
    unfolding offered_to
    other_only capacity v rows o = go (holds n.key rows) (at_capacity capacity rows)
      where
        go : (a b : Bool) → Only v (cond a (updated n rows) (cond b (later rows) rows ++ (n ∷ [])))
        go true b = only_updated v rows o
        go false true = only_behind v (later rows) (only_later v rows o)
        go false false = only_behind v rows o

  -- a row of the key: its version is the one now
  module _ (n : Row) (same : n.key ≡ k) where
    here_updated : (v : ℕ) (rows : List Row) → Only v rows → holds k rows ≡ true → Only n.version (updated n rows)
    here_updated v [] o h = absurd (true≢false (sym h))
    here_updated v (r ∷ rows) o h = go (eqb r.key n.key) refl (λ q. here_updated v rows o.1 q)
      where
        go : (b : Bool) → eqb r.key n.key ≡ b → (holds k rows ≡ true → Only n.version (updated n rows)) → Only n.version (cond b (n ∷ rows) (r ∷ updated n rows))
        go true q ih = let none = (o.0 (eqb-true r.key n.key q ∙ same)).1 in ((λ e. (refl, none)), none_only n.version rows none)
        go false q ih =
            let d : eqb r.key k ≡ false = ap (eqb r.key) (sym same) ∙ q in
            let held : holds k rows ≡ true = subst (λ (b : Bool). (b || holds k rows) ≡ true) d h in
            ((λ e. absurd (eqb-false r.key k d e)), ih held)

    here_behind : (rows : List Row) → holds k rows ≡ false → Only n.version (rows ++ (n ∷ []))
    here_behind [] h = ((λ e. (refl, refl)), tt)
    here_behind (r ∷ rows) h =
        let x = tests.or_false (eqb r.key k) (holds k rows) h in
        ((λ e. absurd (eqb-false r.key k x.0 e)), here_behind rows x.1)

    here_only : (capacity v : ℕ) (rows : List Row) → Only v rows → Only n.version (offered_to capacity n rows)
    unfolding offered_to
    here_only capacity v rows o = go (holds n.key rows) (at_capacity capacity rows) (ap (λ (x : ℕ). holds x rows) (sym same))
      where
        go : (a b : Bool) → holds k rows ≡ a → Only n.version (cond a (updated n rows) (cond b (later rows) rows ++ (n ∷ [])))
        go true b h = here_updated v rows o h
        go false true h = here_behind (later rows) (none_later rows h)
        go false false h = here_behind rows h

-- ---- the PAT store, one section at a time

-- one row, complete with one section and handed out, and no eviction
abbrev one : Key → (version : ℕ) → Bytes → Sets
one key v b = record { rows = under key (record { version = v; last = 0; slots = some b ∷ []; notes = tt; mark = true }) ∷ []; evicted = 0 }

abbrev empty : Sets
empty = record { rows = []; evicted = 0 }

abbrev single : Key → ℕ → Bytes → Section
single key version bytes = record { key = key; version = version; number = 0; last = 0; bytes = bytes }

same_key_lem : (a : Key) → same_key a a ≡ true
unfolding same_key
same_key_lem a = rw (same_origin_refl_lem a.from, eq_passes a.table_id_of, eq_passes a.extension) (beq a.current_next_of)
  where
    beq : (b : Bool) → Bool.beq b b ≡ true
    beq true = refl
    beq false = refl

-- what is told of such a section, and what is left: it goes out, it repeats what is held, or it conflicts
data Turned (New Same : Type 0) (bytes : Bytes) (left : Sets) : Answer → Sets → Type 0 where
  goes_out_lem : New → (w : Whole) → w.sections ≡ bytes ∷ [] → Turned New Same bytes left (handout w) left
  repeats : Same → (t : Sets) → t ≡ left → Turned New Same bytes left nothing t
  clashes : (t : Sets) → Turned New Same bytes left conflict t

module _ (key : Key) (version : ℕ) (bytes : Bytes) where
  abbrev turned : Type 0 → Type 0 → Step → Type 0
  turned New Same s = Turned New Same bytes (one key version bytes) s.answer s.sets

  first : turned (Unit {0}) ⊥ (push 1 empty (single key version bytes))
  unfolding push met_row find start aside others room remove evicts leaves count finish put put_over slot_of fresh part_of keep judge judged full marked whole present newest
  first = goes_out_lem tt _ refl

  module _ (v : ℕ) (b : Bytes) where
    abbrev held : SetRow
    held = record { version = v; last = 0; slots = some b ∷ []; notes = tt; mark = true }

    abbrev p : Part (Unit {0})
    p = part_of (single key version bytes)

    abbrev rows : Rows Key SetRow
    rows = under key held ∷ []

    found : find same_key key rows ≡ some held
    unfolding find
    found = rw (same_key_lem key)

    gone : remove same_key key rows ≡ []
    unfolding remove
    gone = rw (same_key_lem key)

    -- no row beside it, and no eviction
    beside : aside same_key 1 key (one key v b) ≡ empty
    unfolding aside others room evicts leaves count
    beside =
        let r = ap (λ (f : Option SetRow). remove same_key key (room true f rows)) found ∙ gone in
        let c = ap (λ (f : Option SetRow). 0 + count (leaves true f)) found in
        λ i. record { rows = r i; evicted = c i }

    met : met_row (single key version bytes) (one key v b) ≡ cond (fits p held) held (fresh p)
    unfolding met_row start
    met = ap (start p) found

    meets : (t : Bool) → eqb v version ≡ t → turned (version ≢ v) ((version ≡ v) × (bytes ≡ b)) (finish empty key (cond (t && true) held (fresh p)) (put p bytes (cond (t && true) held (fresh p))))
    unfolding finish put put_over slot_of fresh part_of keep judge judged full marked whole present newest
    meets true e = go (same_bytes b bytes) refl
      where
        go : (s : Bool) → same_bytes b bytes ≡ s → turned (version ≢ v) ((version ≡ v) × (bytes ≡ b)) (finish empty key held (cond s (some held) none))
        go true s =
            let x = sym (eqb-true v version e) in
            let y = sym (same_bytes_true b bytes s) in
            repeats (x, y) _ (λ i. one key (sym x i) (sym y i))
        go false s = clashes _
    meets false e = goes_out_lem (λ q. eqb-false v version e (sym q)) _ refl

    next : turned (version ≢ v) ((version ≡ v) × (bytes ≡ b)) (push 1 (one key v b) (single key version bytes))
    unfolding push fits part_of
    next =
        subst (λ (s : Sets). turned (version ≢ v) ((version ≡ v) × (bytes ≡ b)) (finish s key (met_row (single key version bytes) (one key v b)) (put p bytes (met_row (single key version bytes) (one key v b))))) (sym beside)
        (subst (λ (r : SetRow). turned (version ≢ v) ((version ≡ v) × (bytes ≡ b)) (finish empty key r (put p bytes r))) (sym met) (meets (eqb v version) refl))

-- ---- both manners, at a PAT

-- the key of these PATs in the gate's rows, and in the PAT store
abbrev row_key : (input stream : ℕ) → ℕ
row_key input stream = key_of (origin_of input 0) 0 stream 0

abbrev set_key : (input stream : ℕ) → Key
set_key input stream = record { from = record { input = input; pid = 0 }; table_id_of = 0; extension = stream; current_next_of = true }

module _ (capacity : ℕ) (p : ℕ → Bool) (input stream : ℕ) where
  abbrev k : ℕ
  k = row_key input stream

  abbrev key : Key
  key = set_key input stream

  -- the PAT store holds nothing, and so do the gate's rows of that key; or it holds the PAT that is followed, and the gate's row of that key, where there is one,
  -- has its version
  data Meets : Sets → (ℕ → Bool) → List Row → Type 0 where
    none_yet : (n : ℕ → Bool) (rows : List Row) → holds k rows ≡ false → Meets empty n rows
    one_held : (n : ℕ → Bool) (rows : List Row) (v : ℕ) (b : Bytes) → ((q : ℕ) → n q ≡ set_n b q) → Only k v rows → Meets (one key v b) n rows

  -- no eviction is counted
  counts : (s : Sets) (n : ℕ → Bool) (rows : List Row) → Meets s n rows → s.evicted ≡ 0
  counts s n rows (none_yet n' rows' h) = refl
  counts s n rows (one_held n' rows' v b f o) = refl

  -- a section of another key
  meets_other : (s : Sets) (n : ℕ → Bool) (rows : List Row) → Meets s n rows → (x : Row) → x.key ≢ k → Meets s n (offered_to capacity x rows)
  meets_other s n rows (none_yet n' rows' h) x e = none_yet n' (offered_to capacity x rows') (other_none k x e capacity rows' h)
  meets_other s n rows (one_held n' rows' v b f o) x e = one_held n' (offered_to capacity x rows') v b f (other_only k x e capacity v rows' o)

  -- such a PAT: following complete PATs and following each changed section leave the same watch
  record Out (w : Watch) (rows : List Row) (x : Row) (section : Bytes) (a : Answer) (t : Sets) : Type 0 where
    n : ℕ → Bool
    same : watch_with a w ≡ watch_after (changed x rows && true) w section
    watch : Watches (watch_with a w) p n
    row : Meets t n (offered_to capacity x rows)

  module _ (w : Watch) (x : Row) (section : Bytes) (here : x.key ≡ k) (r : readable section ≡ true) where
    -- it is followed by both
    followed_out :
        (n : ℕ → Bool) → Watches w p n → (rows : List Row) (v : ℕ) → Only k v rows → has x rows ≡ false → (u : Whole) → u.sections ≡ section ∷ [] →
        Out w rows x section (handout u) (one key x.version section)
    unfolding programs_of_set
    followed_out n i rows v o h u e = record {
      n = set_n section;
      same = is_followed ∙ sym (rw (h, r));
      watch = subst (λ (y : Watch). Watches y p (set_n section)) (sym is_followed) (follow_watches p w n (set_n section) i);
      row = one_held (set_n section) (offered_to capacity x rows) x.version section (λ q. refl) (here_only k x here capacity v rows o);
    }
      where
        is_followed : followed_by (programs_of_set u.sections) w ≡ followed_by (set_n section) w
        is_followed =
            ap (λ (l : List Bytes). followed_by (programs_of_set l) w) e
            ∙ (λ j. followed_by (λ q. or-false (set_n section q) j) w)

    -- it is the one that is followed
    again_out :
        (n : ℕ → Bool) → Watches w p n → (rows : List Row) (v : ℕ) → Only k v rows → ((q : ℕ) → n q ≡ set_n section q) → Out w rows x section nothing (one key x.version section)
    again_out n i rows v o f = record {
      n = n;
      same = sym (go (changed x rows));
      watch = i;
      row = one_held n (offered_to capacity x rows) x.version section f (here_only k x here capacity v rows o);
    }
      where
        then : Watches (followed_by (set_n section) w) p (set_n section)
        then = follow_watches p w n (set_n section) i

        stays_so : followed_by (set_n section) w ≡ w
        stays_so = λ j. record {
          watched = λ q. (then.watched q ∙ ap (λ (b : Bool). p q || b) (sym (f q)) ∙ sym (i.watched q)) j;
          protected = w.protected;
          followed = λ q. (sym (f q) ∙ sym (i.followed q)) j;
        }

        go : (b : Bool) → watch_after (b && true) w section ≡ w
        go true = rw r stays_so
        go false = refl

    pat_out :
        (s : Sets) (n : ℕ → Bool) (rows : List Row) → Meets s n rows → Watches w p n → (push 1 s (single key x.version section)).answer ≢ conflict →
        Out w rows x section (push 1 s (single key x.version section)).answer (push 1 s (single key x.version section)).sets
    pat_out s n rows (none_yet n' rows' h) i c = go _ _ (first key x.version section) c
      where
        go : (a : Answer) (t : Sets) → Turned (Unit {0}) ⊥ section (one key x.version section) a t → a ≢ conflict → Out w rows' x section a t
        go a t (goes_out_lem y u e) c = followed_out n' i rows' 0 (none_only k 0 rows' h) (none_has k rows' h x here) u e
        go a t (repeats y t' e) c = absurd y
        go a t (clashes t') c = absurd (c refl)
    pat_out s n rows (one_held n' rows' v b f o) i c = go _ _ (next key x.version section v b) c
      where
        unheld : x.version ≢ v → (t : Bool) → has x rows' ≡ t → has x rows' ≡ false
        unheld d true e = absurd (d (only_has k v rows' o x here e))
        unheld d false e = e

        go : (a : Answer) (t : Sets) → Turned (x.version ≢ v) ((x.version ≡ v) × (section ≡ b)) section (one key x.version section) a t → a ≢ conflict → Out w rows' x section a t
        go a t (goes_out_lem y u e) c = followed_out n' i rows' v o (unheld y (has x rows') refl) u e
        go a t (repeats y t' e) c =
            subst (Out w rows' x section nothing) (sym e) (again_out n' i rows' v o (λ q. f q ∙ ap (λ (l : Bytes). set_n l q) (sym y.1)))
        go a t (clashes t') c = absurd (c refl)

-- ---- both manners, at every offer

-- the table_id of a key
key_table : (from : Origin) (t e n : ℕ) → from.pid.0 < 8192 → t < 256 → key_of from t e n / 2 ^ 13 % 256 ≡ t
unfolding key_of
key_table from t e n h k = omega arith

sound_12 : (b : Bool) → sound_by (plain (cond b 1 2)) ≡ true
sound_12 true = refl
sound_12 false = refl

-- what arrived, by what was read
record Reads (rule : ℕ) (o : Offer) (a : Arrival) : Type 0 where
  pid : o.pid < 8192
  input : o.input < 16
  parts : Parts
  sound : judged_of (rule_of rule) o.section ≡ judged.Sound parts
  arrival : a ≡ arrival_of (origin_of o.input o.pid) parts

reads : (rule : ℕ) (o : Offer) (full : Bool) (a : Arrival) → cond full (Refused CounterFull) (read_of rule o.input o.pid o.section) ≡ Arrived a → Reads rule o a
unfolding read_of
reads rule o full a = go full (ltb o.pid 8192) (ltb o.input 16) (judged_of (rule_of rule) o.section) refl refl refl
  where
    go : (f t u : Bool) (j : Judged) → ltb o.pid 8192 ≡ t → ltb o.input 16 ≡ u → judged_of (rule_of rule) o.section ≡ j
        → cond f (Refused CounterFull) (cond t (cond u (read_as (origin_of o.input o.pid) (length o.section) j) (Refused BadInput)) (Refused BadPid)) ≡ Arrived a → Reads rule o a
    go true t u j d e g h = let z : ◌≡◌ {A = ℕ} 0 1 = cc in absurd (omega arith)
    go false false u j d e g h = let z : ◌≡◌ {A = ℕ} 0 1 = cc in absurd (omega arith)
    go false true false j d e g h = let z : ◌≡◌ {A = ℕ} 0 1 = cc in absurd (omega arith)
    go false true true judged.Short d e g h = let z : ◌≡◌ {A = ℕ} 0 1 = cc in absurd (omega arith)
    go false true true (judged.Mismatch x y) d e g h = let z : ◌≡◌ {A = ℕ} 0 1 = cc in absurd (omega arith)
    go false true true (judged.Sound q) d e g h = record { pid = ltb-true o.pid 8192 d; input = ltb-true o.input 16 e; parts = q; sound = g; arrival = cc }

module _ (capacity : ℕ) (repeating : Bool) (rule : ℕ) (p : ℕ → Bool) (input stream : ℕ) where
  abbrev manner : Bool → Manner
  manner follow = record { capacity = capacity; repeats = repeating; follow = follow; rule = rule }

  -- what both told, and what is held then
  record Next (c : ℕ) (x : ToldWith) (y : Told) : Type 0 where
    n : ℕ → Bool
    answer : x.answer ≡ y.answer
    held : x.holding.held ≡ y.held
    watch : Watches x.holding.held.watch p n
    row : Meets capacity p input stream x.holding.pats.sets n x.holding.held.rows
    clock : x.holding.pats.clock ≤ c + 1

  module _
      (h : Holding) (o : Offer) (n : ℕ → Bool) (i : Watches h.held.watch p n) (q : Meets capacity p input stream h.pats.sets n h.held.rows) (runs : h.pats.clock < 18446744073709551615) (b : Bytesᵇ o.section)
      (one_each :
      sound_by (tells_with Tables (manner false) h o) ≡ true → table_id_of o.section ≡ 0 →
      InOne input stream o × (tells pat_settings h.pats.sets (read_pat o.input o.section) ≢ conflict))
    where
      abbrev verdict : Verdict
      verdict = cond (any_full h.held.counters) (Refused CounterFull) (read_of rule o.input o.pid o.section)

      -- the PAT store can count
      can_count : at_end h.pats ≡ false
      can_count = rw (counts capacity p input stream h.pats.sets n h.held.rows q, ne_eqb h.pats.clock 18446744073709551615 (λ (e : h.pats.clock ≡ 18446744073709551615). omega arith)) refl

      is_behind : told_with Tables (manner false) h o ≡ behind Tables h o (told (manner false) h.held o)
      unfolding told_with
      is_behind = ap (λ (t : Bool). cond t (record { answer = plain 11; holding = h }) (behind Tables h o (told (manner false) h.held o))) can_count

      -- what the gate of sections told, and whether the section entered
      abbrev then : Bool → Told → ToldWith
      then c t = record { answer = t.answer; holding = cond c (entered_with (record { held = t.held; pats = h.pats }) o) (record { held = t.held; pats = h.pats }) }

      module _ (a : Arrival) (e : verdict ≡ Arrived a) where
        z : Reads rule o a
        z = reads rule o (any_full h.held.counters) a e

        abbrev x : Row
        x = row_from a

        abbrev w : Watch
        w = h.held.watch

        abbrev changes : Bool
        changes = changed x h.held.rows

        abbrev by : Bool → Told
        by follow = admitted (manner follow) h.held x o.section

        -- following complete PATs, the gate of sections leaves the watch
        quiet : watch_after (changes && false) w o.section ≡ w
        quiet = ap (λ (c : Bool). watch_after c w o.section) (and_none changes)

        sound_here : sound_by (tells_with Tables (manner false) h o) ≡ true
        unfolding tells_with told carried_in admitted
        sound_here =
            ap (λ (t : ToldWith). sound_by t.answer) is_behind
            ∙ ap (λ (v : Verdict). sound_by (carried_in (manner false) h.held o.section v).answer) e
            ∙ sound_12 (changes || repeating)

        -- a section of another table
        other : table_id_of o.section ≢ 0 → Next h.pats.clock (then false (by false)) (by true)
        unfolding admitted
        other d = record {
          n = n;
          answer = refl;
          held = λ j. record { rows = offered_to capacity x h.held.rows; counters = (by false).held.counters; watch = (quiet ∙ sym unread) j };
          watch = subst (λ (y : Watch). Watches y p n) (sym quiet) i;
          row = meets_other capacity p input stream h.pats.sets n h.held.rows q x apart;
          clock = omega arith;
        }
          where
            no_pat : readable o.section ≡ false
            no_pat = go (readable o.section) refl
              where
                go : (t : Bool) → readable o.section ≡ t → readable o.section ≡ false
                go true f = absurd (d (readable_headed o.section f).table)
                go false f = f

            unread : watch_after (changes && true) w o.section ≡ w
            unread = go changes
              where
                go : (c : Bool) → watch_after (c && true) w o.section ≡ w
                go true = rw no_pat
                go false = refl

            apart : x.key ≢ row_key input stream
            apart f =
                let t = judged_table (rule_of rule) o.section z.parts z.sound in
                let g : key_of (origin_of o.input o.pid) z.parts.table_id z.parts.extension z.parts.number ≡ row_key input stream = ap (λ (y : Arrival). y.key) (sym z.arrival) ∙ f in
                let l : z.parts.table_id < 256 = subst (λ (m : ℕ). m < 256) (sym t) (b 0) in
                d (sym t ∙ sym (key_table (origin_of o.input o.pid) z.parts.table_id z.parts.extension z.parts.number z.pid l)
                ∙ ap (λ (m : ℕ). m / 2 ^ 13 % 256) g
                ∙ key_table (origin_of input 0) 0 stream 0 (omega arith) (omega arith))

        -- a PAT
        module _ (d : table_id_of o.section ≡ 0) where
          g : InOne input stream o
          g = (one_each sound_here d).0

          whole_pat : (readable o.section ≡ true) × (current_next_of o.section ≡ true) × (length o.section ≤ 1024)
          unfolding enters
          whole_pat =
              let c = and_true (readable o.section && current_next_of o.section) (leb (length o.section) 1024) g.pat in
              let e = and_true (readable o.section) (current_next_of o.section) c.0 in
              (e.0, e.1, leb-true (length o.section) 1024 c.1)

          from_header : x ≡ record { key = key_of (origin_of o.input o.pid) (table_id_of o.section) (extension_of o.section) (section_number o.section); version = version_of o.section; change = stored_crc o.section }
          from_header =
              ap row_from z.arrival
              ∙ ap (λ (y : Parts). row_from (arrival_of (origin_of o.input o.pid) y)) (sound_parts (rule_of rule) o.section whole_pat.0 z.parts z.sound)

          here : x.key ≡ row_key input stream
          here = ap (λ (y : Row). y.key) from_header ∙ (λ j. key_of (origin_of (g.on j) (g.pid j)) (d j) (g.extension j) (g.number j))

          read : read_pat o.input o.section ≡ offer (single (set_key input stream) x.version o.section)
          unfolding reads_as header_of
          read =
              let m = g.number in
              let l = g.last in
              let v = sym (ap (λ (y : Row). y.version) from_header) in
              (read_pat_lem o.input o.section z.input g.pat (sound_crc (rule_of rule) o.section whole_pat.0 z.parts z.sound)).1
              ∙ rw (m, l)
              (λ j. offer (single (record { from = record { input = g.on j; pid = 0 }; table_id_of = d j; extension = g.extension j; current_next_of = whole_pat.1 j }) (v j) o.section))

          abbrev pushed : Step
          pushed = push 1 h.pats.sets (single (set_key input stream) x.version o.section)

          tells_is : tells pat_settings h.pats.sets (read_pat o.input o.section) ≡ pushed.answer
          unfolding tells step admit
          tells_is =
              ap (tells pat_settings h.pats.sets) read
              ∙ ap (λ (c : Bool). (admit 1 h.pats.sets (single (set_key input stream) x.version o.section) c).answer) (le-leb (length o.section) 1024 whole_pat.2)

          acts_is : acts pat_settings h.pats.sets (read_pat o.input o.section) ≡ pushed.sets
          unfolding acts step admit
          acts_is =
              ap (acts pat_settings h.pats.sets) read
              ∙ ap (λ (c : Bool). (admit 1 h.pats.sets (single (set_key input stream) x.version o.section) c).sets) (le-leb (length o.section) 1024 whole_pat.2)

          out : Out capacity p input stream w h.held.rows x o.section pushed.answer pushed.sets
          out = pat_out capacity p input stream w x o.section here whole_pat.0 h.pats.sets n h.held.rows q i (λ c. (one_each sound_here d).1 (tells_is ∙ c))

          told_watch : watch_with (tells pat_settings h.pats.sets (read_pat o.input o.section)) (watch_after (changes && false) w o.section) ≡ watch_with pushed.answer w
          told_watch = λ j. watch_with (tells_is j) (quiet j)

          pat : Next h.pats.clock (then true (by false)) (by true)
          unfolding admitted
          pat = record {
            n = out.n;
            answer = refl;
            held = λ j. record { rows = offered_to capacity x h.held.rows; counters = (by false).held.counters; watch = (told_watch ∙ out.same) j };
            watch = subst (λ (y : Watch). Watches y p out.n) (sym told_watch) out.watch;
            row = subst (λ (s : Sets). Meets capacity p input stream s out.n (offered_to capacity x h.held.rows)) (sym acts_is) out.row;
            clock = clock_one (tells pat_settings h.pats.sets (read_pat o.input o.section)) h.pats.clock;
          }

          enters_here : enters_on o.pid o.section ≡ true
          enters_here = rw (g.pid, g.pat)

        -- whether it entered
        arrived : Next h.pats.clock (behind Tables h o (by false)) (by true)
        unfolding admitted enters
        arrived = go (eqb (table_id_of o.section) 0) refl
          where
            sounds : (c : Bool) → enters_on o.pid o.section ≡ c → enters_from Tables (by false).answer o ≡ c
            sounds c f = ap (λ (s : Bool). s && enters_on o.pid o.section) (sound_12 (changes || repeating)) ∙ f

            no_pat : table_id_of o.section ≢ 0 → enters_on o.pid o.section ≡ false
            no_pat d = go (eqb o.pid 0) (readable o.section) refl
              where
                go : (s t : Bool) → readable o.section ≡ t → (s && (t && current_next_of o.section && leb (length o.section) 1024)) ≡ false
                go true true f = absurd (d (readable_headed o.section f).table)
                go true false f = refl
                go false t f = refl

            go : (t : Bool) → eqb (table_id_of o.section) 0 ≡ t → Next h.pats.clock (behind Tables h o (by false)) (by true)
            go true f =
                let d = eqb-true (table_id_of o.section) 0 f in
                subst (λ (c : Bool). Next h.pats.clock (then c (by false)) (by true)) (sym (sounds true (enters_here d))) (pat d)
            go false f =
                let d = eqb-false (table_id_of o.section) 0 f in
                subst (λ (c : Bool). Next h.pats.clock (then c (by false)) (by true)) (sym (sounds false (no_pat d))) (other d)

      stays : (t : Told) → sound_by t.answer ≡ false → t.held.watch ≡ h.held.watch → t.held.rows ≡ h.held.rows → Next h.pats.clock (behind Tables h o t) t
      stays t s w r =
          subst (λ (c : Bool). Next h.pats.clock (then (c && enters_on o.pid o.section) t) t) (sym s)
          (record {
            n = n;
            answer = refl;
            held = refl;
            watch = subst (λ (y : Watch). Watches y p n) (sym w) i;
            row = subst (λ (y : List Row). Meets capacity p input stream h.pats.sets n y) (sym r) q;
            clock = omega arith;
          })

      step_by : (v : Verdict) → verdict ≡ v → Next h.pats.clock (behind Tables h o (carried_in (manner false) h.held o.section v)) (carried_in (manner true) h.held o.section v)
      unfolding carried_in
      step_by (Refused r) e = stays (record { answer = plain (refusal_no r); held = h.held }) (sym (sound_said (answer.Refused r))) refl refl
      step_by (Failed (TooShort m)) e = stays (failed_in h.held (TooShort m)) refl refl refl
      step_by (Failed (Mismatch s t)) e = stays (failed_in h.held (Mismatch s t)) refl refl refl
      step_by (Arrived a) e = arrived a e

      one_step : Next h.pats.clock (told_with Tables (manner false) h o) (told (manner true) h.held o)
      unfolding told
      one_step = subst (λ (t : ToldWith). Next h.pats.clock t (told (manner true) h.held o)) (sym is_behind) (step_by verdict refl)

  -- every history
  all :
      (os : List Offer) (h h' : Holding) (n : ℕ → Bool) → OfBytes os → h.held ≡ h'.held → Watches h.held.watch p n → Meets capacity p input stream h.pats.sets n h.held.rows →
      h.pats.clock + length os ≤ 18446744073709551615 → AllInOne input stream (manner false) h os →
      (answers (tells_with Tables (manner false)) (acts_with Tables (manner false)) h os ≡ answers (tells_with Sections (manner true)) (acts_with Sections (manner true)) h' os)
      × ((store_after (acts_with Tables (manner false)) h os).held ≡ (store_after (acts_with Sections (manner true)) h' os).held)
  unfolding answers store_after tells_with acts_with told_with
  all [] h h' n b e i q c f = (refl, e)
  all (o ∷ os) h h' n b e i q c f =
      let s = one_step h o n i q (omega arith) b.0 f.0 in
      let k = s.clock in
      let a : (told_with Tables (manner false) h o).answer ≡ (told (manner true) h'.held o).answer = s.answer ∙ ap (λ (y : Held). (told (manner true) y o).answer) e in
      let d : (told_with Tables (manner false) h o).holding.held ≡ (told (manner true) h'.held o).held = s.held ∙ ap (λ (y : Held). (told (manner true) y o).held) e in
      let ih = all os (acts_with Tables (manner false) h o) (acts_with Sections (manner true) h' o) s.n b.1 d s.watch s.row (omega arith) f.1 in
      ((λ j. a j ∷ ih.0 j), ih.1)

-- THE THEOREM: from the empty gate and the empty PAT store, for up to 2^64 - 1 offers, the answers and, after each offer, the gate's rows, counters and watch
pub one_section :
    (capacity : ℕ) (repeating : Bool) (rule : ℕ) (protected : ℕ → Bool) (input stream : ℕ) (os : List Offer) → OfBytes os → length os ≤ 18446744073709551615 →
    AllInOne input stream (manner_by capacity repeating rule Tables) (empty_holding protected) os →
    (answers (tells_with Tables (manner_by capacity repeating rule Tables)) (acts_with Tables (manner_by capacity repeating rule Tables)) (empty_holding protected) os
    ≡ answers (tells_with Sections (manner_by capacity repeating rule Sections)) (acts_with Sections (manner_by capacity repeating rule Sections)) (empty_holding protected) os)
    × ((store_after (acts_with Tables (manner_by capacity repeating rule Tables)) (empty_holding protected) os).held
    ≡ (store_after (acts_with Sections (manner_by capacity repeating rule Sections)) (empty_holding protected) os).held)
unfolding untouched
one_section capacity repeating rule protected input stream os b l f =
    all capacity repeating rule protected input stream os (empty_holding protected) (empty_holding protected) no_pid b refl
    (record { watched = λ q. sym (or-false (protected q)); protected = λ q. refl; followed = λ q. refl })
    (none_yet no_pid [] refl) (omega arith) f

-- the same settings in another manner of following
abbrev pub in_follow : Follow → Settings → Settings
in_follow f st = record { capacity = st.capacity; repeats = st.repeats; follow = f; well_known = st.well_known; change_rule = st.change_rule }

-- what is lent at an opening
pub record Memory : Type 0 where
  pub keys : List ℕ
  pub changes : List ℕ
  pub slots : List ℕ
  pub cells : List ℕ
  pub words : List ℕ

abbrev pub begun_in : Settings → List ℕ → Memory → Begun
begun_in st extra m = opened_with st extra (length m.keys) (length m.changes) (length m.slots) (length m.cells) m.words

abbrev pub opened_in : Settings → List ℕ → Memory → Kept
opened_in st extra m = left_open (begun_in st extra m) m.keys m.changes m.slots m.cells

-- so of two gates that were opened in the two manners, on any memory
module _
    (st : Settings) (extra : List ℕ) (m m' : Memory)
    (h : (begun_in (in_follow Tables st) extra m).answer ≡ 7) (h' : (begun_in (in_follow Sections st) extra m').answer ≡ 7)
    (input stream : ℕ) (os : List Offer) (b : OfBytes os) (l : length os ≤ 18446744073709551615)
    (f : AllInOne input stream (manner_for (in_follow Tables st)) (empty_holding (is_protected st.well_known extra)) os)
  where
    pub one_section_answers : answers kept_tells kept_acts (opened_in (in_follow Tables st) extra m) os ≡ answers kept_tells kept_acts (opened_in (in_follow Sections st) extra m') os
    one_section_answers =
        answers_from_open (in_follow Tables st) extra m.keys m.changes m.slots m.cells m.words h os b
        ∙ (one_section st.capacity st.repeats st.change_rule (is_protected st.well_known extra) input stream os b l f).0
        ∙ sym (answers_from_open (in_follow Sections st) extra m'.keys m'.changes m'.slots m'.cells m'.words h' os b)

    pub one_section_watch :
        watch_in (store_after kept_acts (opened_in (in_follow Tables st) extra m) os).watch.words ≡ watch_in (store_after kept_acts (opened_in (in_follow Sections st) extra m') os).watch.words
    one_section_watch =
        ap (λ (x : Holding). x.held.watch) (view_from_open (in_follow Tables st) extra m.keys m.changes m.slots m.cells m.words h os b)
        ∙ ap (λ (x : Held). x.watch) (one_section st.capacity st.repeats st.change_rule (is_protected st.well_known extra) input stream os b l f).1
        ∙ sym (ap (λ (x : Holding). x.held.watch) (view_from_open (in_follow Sections st) extra m'.keys m'.changes m'.slots m'.cells m'.words h' os b))
