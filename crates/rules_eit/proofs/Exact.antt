-- What the answers of the EIT collector with cells mean, for every store: when 41 is told, 21 exactly, what is as before, what a conflict changes, which cell is used and
-- when a cell changes.
-- Assumes nothing.
use mathlib.Core.Path.{◌≡◌, refl, sym, ap, ◌∙◌, subst}
use mathlib.Core.Logic.{◌≢◌}
use mathlib.Core.Bool.{true, false, true≢false}
use mathlib.Core.Option.{Option, none, some, map, some-injective, map-eq-none_iff}
use mathlib.Core.List.{[], ◌∷◌, ◌++◌}
use Prim.Native.Nat.{ℕ, suc, ◌<◌}
use native.Mathlib.Omega.{arith}
use lib.ListN.{length}
use Rattle.laws.proofs.Tests.{none≢some}
use Rattle.answers.specs.declared.Refusal.{Refusal}
use Rattle.answers.specs.declared.Refusal.TheVariants as refusal
use Rattle.rules_shared.specs.Refusals as refusals
use Rattle.rules_shared.specs.Touch.{under, find, remove, aside, newest}
use Rattle.rules_shared.specs.Row.{slot_of}
use Rattle.rules_shared.specs.Cells.{Held, bytes_of}
use Rattle.rules_shared.proofs.All.{held_stays}
use Rattle.rules_shared.proofs.Row.{slot_on, start_held}
use Rattle.rules_shared.proofs.Cells.{LowestFree, AllTaken, Kept, kept_parts, parts_kept}
use Rattle.rules_eit.specs.Keys.{Kind, kind_of, SetKey, same_set, bad_filter}
use Rattle.rules_eit.specs.Rules.{EitOf, Section, key_of, part_of, Call, clear, drop, refuse, offer, Answer, done, refused, nothing, handout, schedule, as_before, met_row, set_aside, set_newest, is_kept}
use Rattle.rules_eit.specs.Cells.{Store, Turn, on_answer, view, taken, store_whole, ended, shows, rest, room_for, call_tells, call_acts}
use Rattle.rules_eit.proofs.Views.{met_on}
use Rattle.rules_eit.proofs.Outcome.{row, slot, Asks, Outcome, broken, stopped, clears, drops, keeps_all, refuses, foreign, long, keyless, lacks, keeps, ignores, conflicts, outcome, is_range, accepting, judge_accepts, accepts_not, bytes_not}

-- ---- whether the rules keep a section, read off the store

module _ (s : Store) (x : Section) (k : SetKey) where
  shown_slot : slot_of (part_of x) (met_row x k (view s)) ≡ map (bytes_of s.cells) (slot s x k)
  unfolding view
  shown_slot = rw (met_on (bytes_of s.cells) x k s.eit) (slot_on (bytes_of s.cells) (part_of x) (row s x k))

  pub asked_kept : Asks s x k → slot s x k ≡ none → is_kept s.settings (view s) x k ≡ true
  unfolding is_kept
  asked_kept a e =
      parts_kept s.settings x.bytes _ (record { short = a.short; some_key = a.some_key; free = shown_slot ∙ ap (map (bytes_of s.cells)) e })

  kept_slot : is_kept s.settings (view s) x k ≡ true → slot s x k ≡ none
  unfolding is_kept
  kept_slot h = (map-eq-none_iff (bytes_of s.cells) (slot s x k)).0 (sym shown_slot ∙ (kept_parts s.settings x.bytes _ h).free)

range_changes : (r : Refusal) → is_range r ≡ true → refusals.as_before r ≡ true → ⊥
unfolding refusals.as_before
range_changes refusal.NotWhole p q = true≢false (sym p)
range_changes refusal.CounterFull p q = true≢false (sym p)
range_changes refusal.BadPid p q = true≢false (sym p)
range_changes refusal.TooLittle p q = true≢false (sym p)
range_changes refusal.Malformed p q = true≢false (sym p)
range_changes refusal.ShortForm p q = true≢false (sym p)
range_changes refusal.BadNumber p q = true≢false (sym p)
range_changes refusal.BadCrc p q = true≢false (sym p)
range_changes refusal.NotEit p q = true≢false (sym p)
range_changes refusal.Broken p q = true≢false (sym p)
range_changes refusal.TooLong p q = true≢false (sym p)
range_changes refusal.NoCell p q = true≢false (sym p)
range_changes refusal.Conflict p q = true≢false (sym p)
range_changes refusal.Range p q = true≢false (sym q)
range_changes refusal.BadInput p q = true≢false (sym p)
range_changes refusal.NoPid p q = true≢false (sym p)

-- what judging a row answers changes something
accepts_changes : (a : Answer) → accepting a ≡ true → as_before a ≡ true → ⊥
unfolding accepting as_before
accepts_changes nothing p q = true≢false (sym q)
accepts_changes (handout w) p q = true≢false (sym q)
accepts_changes (schedule g) p q = true≢false (sym q)
accepts_changes done p q = true≢false (sym p)
accepts_changes (refused r) p q = range_changes r p q

-- ---- 41

-- a call that says no PID: a filter that asks for exactly none, or a section that came without one
abbrev pub SaysNone : Call → Type 0
SaysNone clear = ⊥
SaysNone (drop f) = bad_filter f ≡ some refusal.NoPid
SaysNone (refuse r b) = r ≡ refusal.NoPid
SaysNone (offer x) = ⊥

abbrev refusal_in : Answer → Refusal
refusal_in done = refusal.NotWhole
refusal_in nothing = refusal.NotWhole
refusal_in (handout w) = refusal.NotWhole
refusal_in (schedule g) = refusal.NotWhole
refusal_in (refused r) = r

pub only_then_41 : (s : Store) (i : Call) → call_tells s i ≡ (refused refusal.NoPid) → SaysNone i
unfolding call_tells accepting on_answer shows
only_then_41 s i e = go (outcome s i) e
  where
    go : {j : Call} {t : Turn} → Outcome s j t → t.answer ≡ (refused refusal.NoPid) → SaysNone j
    go (broken j w) e = let z : ◌≡◌ {A = ℕ} 0 1 = cc in absurd (omega arith)
    go (stopped j w q) e = let z : ◌≡◌ {A = ℕ} 0 1 = cc in absurd (omega arith)
    go (clears w) e = let z : ◌≡◌ {A = ℕ} 0 1 = cc in absurd (omega arith)
    go (drops f w h) e = let z : ◌≡◌ {A = ℕ} 0 1 = cc in absurd (omega arith)
    go (keeps_all f r b w h) e = h ∙ ap (λ (a : Answer). some (refusal_in a)) e
    go (refuses r b w) e = ap refusal_in e
    go (foreign x w h) e = let z : ◌≡◌ {A = ℕ} 0 1 = cc in absurd (omega arith)
    go (long x kind w h l) e = let z : ◌≡◌ {A = ℕ} 0 1 = cc in absurd (omega arith)
    go (keyless x kind w h l q) e = let z : ◌≡◌ {A = ℕ} 0 1 = cc in absurd (omega arith)
    go (lacks x k a q f) e = let z : ◌≡◌ {A = ℕ} 0 1 = cc in absurd (omega arith)
    go (keeps x k a q c f) e = absurd (accepts_not _ _ (judge_accepts _ s.settings.limit (rest s k) k x.last_table _) refl e)
    go (ignores x k a h q f) e = absurd (accepts_not _ _ (judge_accepts _ s.settings.limit (rest s k) k x.last_table _) refl e)
    go (conflicts x k a h q f) e = let z : ◌≡◌ {A = ℕ} 0 1 = cc in absurd (omega arith)

-- ---- 21

-- the store is whole, no counter is at its end, the section is an EIT's, the rules would keep it, and every cell is named after the eviction or the
-- emptying that it would cause
pub record NeedsCell (s : Store) (x : Section) (kind : Kind) : Type 0 where
  pub is_whole : store_whole s ≡ true
  pub running : ended s (offer x) ≡ false
  pub is_kind : kind_of x.table_id_of ≡ some kind
  pub kept : is_kept s.settings (view s) x (key_of x kind) ≡ true
  pub named : AllTaken (taken (room_for s x (key_of x kind))) (length s.cells)

pub only_then_21 : (s : Store) (i : Call) → call_tells s i ≡ (refused refusal.NoCell) → (x : Section) × (kind : Kind) × (i ≡ offer x) × NeedsCell s x kind
unfolding call_tells accepting on_answer shows
only_then_21 s i e = go (outcome s i) e
  where
    needs : (x : Section) (k : SetKey) (a : Asks s x k) → slot s x k ≡ none → AllTaken (taken (room_for s x k)) (length s.cells) → NeedsCell s x a.kind
    needs x k a q f = record {
      is_whole = a.is_whole;
      running = a.running;
      is_kind = a.is_kind;
      kept = subst (λ (j : SetKey). is_kept s.settings (view s) x j ≡ true) (sym a.is_key) (asked_kept s x k a q);
      named = subst (λ (j : SetKey). AllTaken (taken (room_for s x j)) (length s.cells)) (sym a.is_key) f;
    }

    go : {j : Call} {t : Turn} → Outcome s j t → t.answer ≡ (refused refusal.NoCell) → (x : Section) × (kind : Kind) × (j ≡ offer x) × NeedsCell s x kind
    go (broken j w) e = let z : ◌≡◌ {A = ℕ} 0 1 = cc in absurd (omega arith)
    go (stopped j w q) e = let z : ◌≡◌ {A = ℕ} 0 1 = cc in absurd (omega arith)
    go (clears w) e = let z : ◌≡◌ {A = ℕ} 0 1 = cc in absurd (omega arith)
    go (drops f w h) e = let z : ◌≡◌ {A = ℕ} 0 1 = cc in absurd (omega arith)
    go (keeps_all f r b w h) e = absurd (bytes_not r refusal.NoCell b refl e)
    go (refuses r b w) e = absurd (bytes_not r refusal.NoCell b refl e)
    go (foreign x w h) e = let z : ◌≡◌ {A = ℕ} 0 1 = cc in absurd (omega arith)
    go (long x kind w h l) e = let z : ◌≡◌ {A = ℕ} 0 1 = cc in absurd (omega arith)
    go (keyless x kind w h l q) e = let z : ◌≡◌ {A = ℕ} 0 1 = cc in absurd (omega arith)
    go (lacks x k a q f) e = (x, a.kind, refl, needs x k a q f)
    go (keeps x k a q c f) e = absurd (accepts_not _ _ (judge_accepts _ s.settings.limit (rest s k) k x.last_table _) refl e)
    go (ignores x k a h q f) e = absurd (accepts_not _ _ (judge_accepts _ s.settings.limit (rest s k) k x.last_table _) refl e)
    go (conflicts x k a h q f) e = let z : ◌≡◌ {A = ℕ} 0 1 = cc in absurd (omega arith)

pub then_21 : (s : Store) (x : Section) (kind : Kind) → NeedsCell s x kind → call_tells s (offer x) ≡ (refused refusal.NoCell)
unfolding call_tells is_kept
then_21 s x kind n = go (outcome s (offer x)) refl
  where
    p : Kept s.settings x.bytes (slot_of (part_of x) (met_row x (key_of x kind) (view s)))
    p = kept_parts s.settings x.bytes _ n.kept

    free : slot s x (key_of x kind) ≡ none
    free = kept_slot s x (key_of x kind) n.kept

    -- the key that was asked for is the section's
    its_key : (y : Section) (k : SetKey) → y ≡ x → Asks s y k → key_of x kind ≡ k
    its_key y k z a =
        let same : kind ≡ a.kind = some-injective kind a.kind (sym n.is_kind ∙ ap (λ (v : Section). kind_of v.table_id_of) (sym z) ∙ a.is_kind) in
        let back = sym z in
        (λ i. key_of (back i) (same i)) ∙ a.is_key

    held_not : (y : Section) (k : SetKey) (h : Held) → y ≡ x → Asks s y k → slot s y k ≡ some h → ⊥
    held_not y k h z a q =
        let e = sym (its_key y k z a) in
        none≢some ((λ i. slot s (z i) (e i)) ∙ free) q

    go : {j : Call} {t : Turn} → Outcome s j t → j ≡ offer x → t.answer ≡ (refused refusal.NoCell)
    go (broken j w) e = absurd (true≢false (sym n.is_whole ∙ w))
    go (stopped j w q) e = absurd (true≢false (sym q ∙ ap (ended s) e ∙ n.running))
    go (clears w) e = let z : ◌≡◌ {A = ℕ} 0 1 = cc in absurd (omega arith)
    go (drops f w h) e = let z : ◌≡◌ {A = ℕ} 0 1 = cc in absurd (omega arith)
    go (keeps_all f r b w h) e = let z : ◌≡◌ {A = ℕ} 0 1 = cc in absurd (omega arith)
    go (refuses r b w) e = let z : ◌≡◌ {A = ℕ} 0 1 = cc in absurd (omega arith)
    go (foreign y w h) e = let z : y ≡ x = cc in absurd (none≢some (ap (λ (v : Section). kind_of v.table_id_of) (sym z) ∙ h) n.is_kind)
    go (long y j w h l) e = let z : y ≡ x = cc in absurd (omega (arith, p.short, subst (λ (v : Section). s.settings.cell_size < length v.bytes) z l))
    go (keyless y j w h l q) e = absurd (omega (arith, p.some_key))
    go (lacks y k a q f) e = refl
    go (keeps y k a q c f) e =
        let z : y ≡ x = cc in
        let j = sym (its_key y k z a) in
        let g : LowestFree (taken (room_for s x (key_of x kind))) (length s.cells) c
        = subst (λ (t : EitOf Held). LowestFree (taken t) (length s.cells) c) (λ i. room_for s (z i) (j i)) f in
        absurd (true≢false (sym (n.named c g.inside) ∙ g.free))
    go (ignores y k a h q f) e = let z : y ≡ x = cc in absurd (held_not y k h z a q)
    go (conflicts y k a h q f) e = let z : y ≡ x = cc in absurd (held_not y k h z a q)

-- ---- "as before": on 10, 11, 21 and every refusal but 22 and 23

pub as_before_lem : (s : Store) (i : Call) → as_before (call_tells s i) ≡ true → call_acts s i ≡ s
unfolding call_tells call_acts as_before refusals.as_before on_answer shows
as_before_lem s i e = go (outcome s i) e
  where
    go : {j : Call} {t : Turn} → Outcome s j t → as_before t.answer ≡ true → t.store ≡ s
    go (broken j w) e = refl
    go (stopped j w q) e = refl
    go (clears w) e = absurd (true≢false (sym e))
    go (drops f w h) e = absurd (true≢false (sym e))
    go (keeps_all f r b w h) e = refl
    go (refuses r b w) e = refl
    go (foreign x w h) e = refl
    go (long x kind w h l) e = refl
    go (keyless x kind w h l q) e = refl
    go (lacks x k a q f) e = refl
    go (keeps x k a q c f) e = absurd (accepts_changes _ (judge_accepts _ s.settings.limit (rest s k) k x.last_table _) e)
    go (ignores x k a h q f) e = absurd (accepts_changes _ (judge_accepts _ s.settings.limit (rest s k) k x.last_table _) e)
    go (conflicts x k a h q f) e = absurd (true≢false (sym e))

-- ---- 22: "key becomes newest, else as before"

pub record Conflicting (s : Store) (x : Section) (k : SetKey) (after : Store) : Type 0 where
  pub found : find same_set k s.eit.sets.rows ≡ some (row s x k)
  pub differs : (h : Held) × (slot s x k ≡ some h) × (bytes_of s.cells h ≢ x.bytes)
  pub leaves : after ≡ record {
    settings = s.settings;
    eit = record {
      sets = record { rows = remove same_set k s.eit.sets.rows ++ (under k (row s x k) ∷ []); evicted = s.eit.sets.evicted };
      schedules = s.eit.schedules;
    };
    cells = s.cells;
    clock = suc s.clock;
  }

pub conflict_touches : (s : Store) (i : Call) → call_tells s i ≡ (refused refusal.Conflict) → (x : Section) × (k : SetKey) × (i ≡ offer x) × Conflicting s x k (call_acts s i)
unfolding call_tells call_acts accepting on_answer shows room_for rest set_aside set_newest newest met_row
conflict_touches s i e = go (outcome s i) e
  where
    touched : (x : Section) (k : SetKey) (h : Held) → slot s x k ≡ some h
        → newest k (row s x k) (aside same_set s.settings.limit k s.eit.sets)
        ≡ record { rows = remove same_set k s.eit.sets.rows ++ (under k (row s x k) ∷ []); evicted = s.eit.sets.evicted }
    touched x k h q =
        ap (newest k (row s x k)) (held_stays same_set s.settings.limit k s.eit.sets (row s x k) (start_held (part_of x) (find same_set k s.eit.sets.rows) h q))

    go : {j : Call} {t : Turn} → Outcome s j t → t.answer ≡ (refused refusal.Conflict) → (x : Section) × (k : SetKey) × (j ≡ offer x) × Conflicting s x k t.store
    go (broken j w) e = let z : ◌≡◌ {A = ℕ} 0 1 = cc in absurd (omega arith)
    go (stopped j w q) e = let z : ◌≡◌ {A = ℕ} 0 1 = cc in absurd (omega arith)
    go (clears w) e = let z : ◌≡◌ {A = ℕ} 0 1 = cc in absurd (omega arith)
    go (drops f w h) e = let z : ◌≡◌ {A = ℕ} 0 1 = cc in absurd (omega arith)
    go (keeps_all f r b w h) e = absurd (bytes_not r refusal.Conflict b refl e)
    go (refuses r b w) e = absurd (bytes_not r refusal.Conflict b refl e)
    go (foreign x w h) e = let z : ◌≡◌ {A = ℕ} 0 1 = cc in absurd (omega arith)
    go (long x kind w h l) e = let z : ◌≡◌ {A = ℕ} 0 1 = cc in absurd (omega arith)
    go (keyless x kind w h l q) e = let z : ◌≡◌ {A = ℕ} 0 1 = cc in absurd (omega arith)
    go (lacks x k a q f) e = let z : ◌≡◌ {A = ℕ} 0 1 = cc in absurd (omega arith)
    go (keeps x k a q c f) e = absurd (accepts_not _ _ (judge_accepts _ s.settings.limit (rest s k) k x.last_table _) refl e)
    go (ignores x k a h q f) e = absurd (accepts_not _ _ (judge_accepts _ s.settings.limit (rest s k) k x.last_table _) refl e)
    go (conflicts x k a h q f) e = (
      x,
      k,
      refl,
      record {
        found = start_held (part_of x) (find same_set k s.eit.sets.rows) h q;
        differs = (h, q, f);
        leaves = (let t = touched x k h q in λ i. record { settings = s.settings; eit = record { sets = t i; schedules = s.eit.schedules }; cells = s.cells; clock = suc s.clock });
      },
    )
