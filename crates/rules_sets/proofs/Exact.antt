-- What the answers of the collector with cells mean, for every store: 21 exactly, what is as before, what a conflict changes, which cell is used and
-- when a cell changes.
-- Assumes nothing.
use borrow.Author.Tests.{eqb-false, ne_eqb}
use mathlib.Core.Path.{◌≡◌, refl, sym, ap, ◌∙◌, subst}
use mathlib.Core.Logic.{◌≢◌, ◌⊎◌, inl, inr}
use mathlib.Core.Bool.{true, false, true≢false}
use mathlib.Core.Option.{Option, none, some, map, map-eq-none_iff}
use mathlib.Core.List.{[], ◌∷◌, ◌++◌}
use Prim.Native.Nat.{ℕ, suc, ◌≤◌, ◌<◌}
use native.Mathlib.Omega.{arith}
use lib.ListN.{length, get_or, drop}
use Rattle.laws.proofs.Tests.{none≢some}
use Rattle.answers.specs.declared.Refusal.TheVariants.{NoCell, Conflict}
use Rattle.rules_shared.specs.Refusals as refusals
use Rattle.rules_shared.specs.Touch.{under, find, remove, newest}
use Rattle.rules_shared.specs.Row.{slot_of}
use Rattle.rules_shared.specs.Cells.{Held, bytes_of, names}
use Rattle.rules_shared.proofs.Slots.{none_passes, passes_none}
use Rattle.rules_shared.proofs.All.{All, all_map, none_all, all_none, held_stays}
use Rattle.rules_shared.proofs.Row.{slot_on, start_held}
use Rattle.rules_shared.proofs.Cells.{LowestFree, AllTaken, write_other, write_front, Kept, kept_parts, parts_kept}
use Rattle.rules_sets.specs.Rules.{Key, same_key, SetOf, SetsOf, Section, part_of, Call, offer, CanCome, conflict, no_cell, as_before, met_row, is_kept, Answer, cleared, nothing, handout, refused}
use Rattle.rules_sets.specs.Cells.{Store, Turn, on_answer, view, takes, taken, store_whole, ended, shows, rest, room_for, call, call_tells, call_acts}
use Rattle.rules_sets.proofs.Views.{met_on}
use Rattle.rules_sets.proofs.Outcome.{row, slot, Asks, Outcome, broken, stopped, clears, refuses, long, keyless, lacks, keeps, ignores, conflicts, outcome, accepting, judge_accepts, accepts_not}

-- ---- whether the rules keep a section, read off the store

module _ (s : Store) (x : Section) where
  shown_slot : slot_of (part_of x) (met_row x (view s)) ≡ map (bytes_of s.cells) (slot s x)
  unfolding view
  shown_slot = rw (met_on (bytes_of s.cells) x s.sets) (slot_on (bytes_of s.cells) (part_of x) (row s x))

  asked_kept : Asks s x → slot s x ≡ none → is_kept s.settings (view s) x ≡ true
  unfolding is_kept
  asked_kept a e =
      parts_kept s.settings x.bytes _ (record { short = a.short; some_key = a.some_key; free = shown_slot ∙ ap (map (bytes_of s.cells)) e })

  kept_slot : is_kept s.settings (view s) x ≡ true → slot s x ≡ none
  unfolding is_kept
  kept_slot h = (map-eq-none_iff (bytes_of s.cells) (slot s x)).0 (sym shown_slot ∙ (kept_parts s.settings x.bytes _ h).free)

-- what judging a row answers changes something
accepts_changes : (a : Answer) → accepting a ≡ true → as_before a ≡ true → ⊥
unfolding accepting as_before
accepts_changes nothing p q = true≢false (sym q)
accepts_changes (handout w) p q = true≢false (sym q)
accepts_changes cleared p q = true≢false (sym p)
accepts_changes (refused r) p q = true≢false (sym p)

-- ---- 21

-- the store is whole, no counter is at its end, the rules would keep the section, and every cell is named after the eviction or the emptying that it
-- would cause
pub record NeedsCell (s : Store) (x : Section) : Type 0 where
  pub is_whole : store_whole s ≡ true
  pub running : ended s (offer x) ≡ false
  pub kept : is_kept s.settings (view s) x ≡ true
  pub named : AllTaken (taken (room_for s x)) (length s.cells)

pub only_then_21 : (s : Store) (i : Call) → CanCome i → call_tells s i ≡ no_cell → (x : Section) × (i ≡ offer x) × NeedsCell s x
unfolding call_tells accepting on_answer shows refusals.of_section
only_then_21 s i c e = go (outcome s i) c e
  where
    go : {j : Call} {t : Turn} → Outcome s j t → CanCome j → t.answer ≡ no_cell → (x : Section) × (j ≡ offer x) × NeedsCell s x
    go (broken j w) come e = let z : ◌≡◌ {A = ℕ} 0 1 = cc in absurd (omega arith)
    go (stopped j w q) come e = let z : ◌≡◌ {A = ℕ} 0 1 = cc in absurd (omega arith)
    go (clears w) come e = let z : ◌≡◌ {A = ℕ} 0 1 = cc in absurd (omega arith)
    go (refuses r w) come e = let z : r ≡ NoCell = cc in absurd (true≢false (sym come ∙ ap refusals.of_section z))
    go (long x w l) come e = let z : ◌≡◌ {A = ℕ} 0 1 = cc in absurd (omega arith)
    go (keyless x w l q) come e = let z : ◌≡◌ {A = ℕ} 0 1 = cc in absurd (omega arith)
    go (lacks x a q f) come e = (x, refl, record { is_whole = a.is_whole; running = a.running; kept = asked_kept s x a q; named = f })
    go (keeps x a q c f) come e = absurd (accepts_not _ _ (judge_accepts _ (rest s x) x.key _) refl e)
    go (ignores x a k q f) come e = absurd (accepts_not _ _ (judge_accepts _ (rest s x) x.key _) refl e)
    go (conflicts x a k q f) come e = let z : ◌≡◌ {A = ℕ} 0 1 = cc in absurd (omega arith)

pub then_21 : (s : Store) (x : Section) → NeedsCell s x → call_tells s (offer x) ≡ no_cell
unfolding call_tells is_kept
then_21 s x n = go (outcome s (offer x)) refl
  where
    k : Kept s.settings x.bytes (slot_of (part_of x) (met_row x (view s)))
    k = kept_parts s.settings x.bytes _ n.kept

    free : slot s x ≡ none
    free = kept_slot s x n.kept

    go : {j : Call} {t : Turn} → Outcome s j t → j ≡ offer x → t.answer ≡ no_cell
    go (broken j w) e = absurd (true≢false (sym n.is_whole ∙ w))
    go (stopped j w q) e = absurd (true≢false (sym q ∙ ap (ended s) e ∙ n.running))
    go (clears w) e = let z : ◌≡◌ {A = ℕ} 0 1 = cc in absurd (omega arith)
    go (refuses m w) e = let z : ◌≡◌ {A = ℕ} 0 1 = cc in absurd (omega arith)
    go (long y w l) e = let z : y ≡ x = cc in absurd (omega (arith, k.short, subst (λ (v : Section). s.settings.cell_size < length v.bytes) z l))
    go (keyless y w l q) e = absurd (omega (arith, k.some_key))
    go (lacks y a q f) e = refl
    go (keeps y a q c f) e =
        let z : y ≡ x = cc in
        let g = subst (λ (v : Section). LowestFree (taken (room_for s v)) (length s.cells) c) z f in
        absurd (true≢false (sym (n.named c g.inside) ∙ g.free))
    go (ignores y a h q f) e = let z : y ≡ x = cc in absurd (none≢some free (subst (λ (v : Section). slot s v ≡ some h) z q))
    go (conflicts y a h q f) e = let z : y ≡ x = cc in absurd (none≢some free (subst (λ (v : Section). slot s v ≡ some h) z q))

-- ---- "as before": on 10, 11, 21 and every refusal but 22

pub as_before_lem : (s : Store) (i : Call) → as_before (call_tells s i) ≡ true → call_acts s i ≡ s
unfolding call_tells call_acts as_before on_answer shows refusals.as_before
as_before_lem s i e = go (outcome s i) e
  where
    go : {j : Call} {t : Turn} → Outcome s j t → as_before t.answer ≡ true → t.store ≡ s
    go (broken j w) e = refl
    go (stopped j w q) e = refl
    go (clears w) e = absurd (true≢false (sym e))
    go (refuses n w) e = refl
    go (long x w l) e = refl
    go (keyless x w l q) e = refl
    go (lacks x a q f) e = refl
    go (keeps x a q c f) e = absurd (accepts_changes _ (judge_accepts _ (rest s x) x.key _) e)
    go (ignores x a k q f) e = absurd (accepts_changes _ (judge_accepts _ (rest s x) x.key _) e)
    go (conflicts x a k q f) e = absurd (true≢false (sym e))

-- ---- "Limit 0: an otherwise good section answers 4 and changes nothing"

pub limit_0 : (s : Store) (x : Section) → store_whole s ≡ true → ended s (offer x) ≡ false → length x.bytes ≤ s.settings.cell_size → s.settings.limit ≡ 0
    → call s (offer x) ≡ record { answer = nothing; store = s }
limit_0 s x w e l q = go (outcome s (offer x)) refl
  where
    go : {j : Call} {t : Turn} → Outcome s j t → j ≡ offer x → t ≡ record { answer = nothing; store = s }
    go (broken j v) h = absurd (true≢false (sym w ∙ v))
    go (stopped j v f) h = absurd (true≢false (sym f ∙ ap (ended s) h ∙ e))
    go (clears v) h = let z : ◌≡◌ {A = ℕ} 0 1 = cc in absurd (omega arith)
    go (refuses n v) h = let z : ◌≡◌ {A = ℕ} 0 1 = cc in absurd (omega arith)
    go (long y v m) h = let z : y ≡ x = cc in absurd (omega (arith, subst (λ (a : Section). s.settings.cell_size < length a.bytes) z m))
    go (keyless y v m f) h = refl
    go (lacks y a f g) h = absurd (omega (arith, a.some_key))
    go (keeps y a f c g) h = absurd (omega (arith, a.some_key))
    go (ignores y a k f g) h = absurd (omega (arith, a.some_key))
    go (conflicts y a k f g) h = absurd (omega (arith, a.some_key))

-- ---- 22: "key becomes newest, else as before"

pub record Conflicting (s : Store) (x : Section) (after : Store) : Type 0 where
  pub found : find same_key x.key s.sets.rows ≡ some (row s x)
  pub differs : (h : Held) × (slot s x ≡ some h) × (bytes_of s.cells h ≢ x.bytes)
  pub leaves : after ≡ record {
    settings = s.settings;
    sets = record { rows = remove same_key x.key s.sets.rows ++ (under x.key (row s x) ∷ []); evicted = s.sets.evicted };
    cells = s.cells;
    clock = suc s.clock;
  }

pub conflict_touches : (s : Store) (i : Call) → CanCome i → call_tells s i ≡ conflict → (x : Section) × (i ≡ offer x) × Conflicting s x (call_acts s i)
unfolding call_tells call_acts accepting on_answer shows room_for rest newest met_row refusals.of_section
conflict_touches s i c e = go (outcome s i) c e
  where
    touched : (x : Section) (h : Held) → slot s x ≡ some h
        → room_for s x ≡ record { rows = remove same_key x.key s.sets.rows ++ (under x.key (row s x) ∷ []); evicted = s.sets.evicted }
    touched x h q = ap (newest x.key (row s x)) (held_stays same_key s.settings.limit x.key s.sets (row s x) (start_held (part_of x) (find same_key x.key s.sets.rows) h q))

    go : {j : Call} {t : Turn} → Outcome s j t → CanCome j → t.answer ≡ conflict → (x : Section) × (j ≡ offer x) × Conflicting s x t.store
    go (broken j w) come e = let z : ◌≡◌ {A = ℕ} 0 1 = cc in absurd (omega arith)
    go (stopped j w q) come e = let z : ◌≡◌ {A = ℕ} 0 1 = cc in absurd (omega arith)
    go (clears w) come e = let z : ◌≡◌ {A = ℕ} 0 1 = cc in absurd (omega arith)
    go (refuses r w) come e = let z : r ≡ Conflict = cc in absurd (true≢false (sym come ∙ ap refusals.of_section z))
    go (long x w l) come e = let z : ◌≡◌ {A = ℕ} 0 1 = cc in absurd (omega arith)
    go (keyless x w l q) come e = let z : ◌≡◌ {A = ℕ} 0 1 = cc in absurd (omega arith)
    go (lacks x a q f) come e = let z : ◌≡◌ {A = ℕ} 0 1 = cc in absurd (omega arith)
    go (keeps x a q c f) come e = absurd (accepts_not _ _ (judge_accepts _ (rest s x) x.key _) refl e)
    go (ignores x a k q f) come e = absurd (accepts_not _ _ (judge_accepts _ (rest s x) x.key _) refl e)
    go (conflicts x a h q f) come e = (
      x,
      refl,
      record {
        found = start_held (part_of x) (find same_key x.key s.sets.rows) h q;
        differs = (h, q, f);
        leaves = ap (λ (r : SetsOf Held). record { settings = s.settings; sets = r; cells = s.cells; clock = suc s.clock }) (touched x h q);
      },
    )

-- ---- cells

-- "A cell is free exactly when no slot of a row in use names it"
abbrev pub NamedNowhere : SetsOf Held → (cell : ℕ) → Type 0
NamedNowhere s c = All (λ (k : Key) (r : SetOf Held). (n : ℕ) (h : Held) → get_or r.slots n none ≡ some h → h.cell ≢ c) s.rows

pub free_named_nowhere : (s : SetsOf Held) (c : ℕ) → taken s c ≡ false → NamedNowhere s c
unfolding taken takes names
free_named_nowhere s c h =
    all_map (λ k r t n q e. eqb-false q.cell c (none_passes (names c) r.slots t n q e)) s.rows (none_all (takes c) s.rows h)

pub named_nowhere_free : (s : SetsOf Held) (c : ℕ) → NamedNowhere s c → taken s c ≡ false
unfolding taken takes names
named_nowhere_free s c a = all_none (takes c) s.rows (all_map (λ k r f. passes_none (names c) r.slots (λ n q e. ne_eqb q.cell c (f n q e))) s.rows a)

-- a section is kept in a cell: "The lowest free cell is used", its bytes come to the cell's front, and every other cell is as before
pub record KeptIn (s : Store) (x : Section) (c : ℕ) (after : Store) : Type 0 where
  pub kept : is_kept s.settings (view s) x ≡ true
  pub lowest : LowestFree (taken (room_for s x)) (length s.cells) c
  pub front : get_or after.cells c [] ≡ x.bytes ++ drop (length x.bytes) (get_or s.cells c [])
  pub others : (d : ℕ) → d ≢ c → get_or after.cells d [] ≡ get_or s.cells d []

-- "a cell's bytes change only when a section is kept in it"
pub cells_change : (s : Store) (i : Call) → ((call_acts s i).cells ≡ s.cells) ⊎ ((x : Section) × (i ≡ offer x) × (c : ℕ) × KeptIn s x c (call_acts s i))
unfolding call_acts shows
cells_change s i = go (outcome s i)
  where
    go : {j : Call} {t : Turn} → Outcome s j t → (t.store.cells ≡ s.cells) ⊎ ((x : Section) × (j ≡ offer x) × (c : ℕ) × KeptIn s x c t.store)
    go (broken j w) = inl refl
    go (stopped j w q) = inl refl
    go (clears w) = inl refl
    go (refuses n w) = inl refl
    go (long x w l) = inl refl
    go (keyless x w l q) = inl refl
    go (lacks x a q f) = inl refl
    go (keeps x a q c f) = inr (
      x,
      refl,
      c,
      record {
        kept = asked_kept s x a q;
        lowest = f;
        front = write_front s.cells c x.bytes f.inside;
        others = write_other s.cells c x.bytes;
      },
    )
    go (ignores x a k q f) = inl refl
    go (conflicts x a k q f) = inl refl
