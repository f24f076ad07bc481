-- Every way that a call on the collector with cells can go, with what is known there. The theorems on answers and cells are read off from it.
-- Assumes nothing.
use borrow.Author.Tests.{leb-false, leb-true}
use mathlib.Core.Path.{◌≡◌, refl, sym, ap, ◌∙◌}
use mathlib.Core.Logic.{◌≢◌}
use mathlib.Core.Bool.{Bool, true, false, true≢false}
use mathlib.Core.Option.{Option, none, some}
use Prim.Native.Nat.{ℕ, zero, suc, ◌≤◌, ◌<◌}
use native.Mathlib.Omega.{arith}
use lib.Dec.{leb}
use lib.ListN.{length}
use Rattle.answers.specs.declared.Refusal.{Refusal}
use Rattle.answers.specs.declared.Refusal.TheVariants.{TooLong}
use Rattle.rules_shared.specs.Same.{Bytes}
use Rattle.rules_shared.specs.Touch.{emptied}
use Rattle.rules_shared.specs.Row.{slot_of, keep}
use Rattle.rules_shared.specs.Cells.{Held, bytes_of, write, Place, held_in}
use Rattle.rules_shared.proofs.Cells.{LowestFree, AllTaken, Placed, laid, lacking, alike, unlike, placed}
use Rattle.rules_sets.specs.Rules.{Key, SetOf, SetsOf, Section, part_of, Call, clear, refuse, offer, cleared, refused, nothing, handout, conflict, not_whole, counter_full, no_cell, met_row, judged, judge, full, Answer}
use Rattle.rules_sets.specs.Cells.{Store, Turn, on_answer, taken, store_whole, ended, shows, rest, room_for, place_of, carry, push_in, admit_in, good, guarded, call, risen}

-- the row that a section meets
abbrev pub row : Store → Section → SetOf Held
row s x = met_row x s.sets

-- what the section's slot names there
abbrev pub slot : Store → Section → Option Held
slot s x = slot_of (part_of x) (row s x)

-- the store is whole, no counter is at its end, the section is no longer than a cell, and the limit is not 0
pub record Asks (s : Store) (x : Section) : Type 0 where
  pub is_whole : store_whole s ≡ true
  pub running : ended s (offer x) ≡ false
  pub short : length x.bytes ≤ s.settings.cell_size
  pub some_key : 1 ≤ s.settings.limit

pub data Outcome (s : Store) : Call → Turn → Type 0 where
  broken : (i : Call) → store_whole s ≡ false → Outcome s i (record { answer = not_whole; store = s })
  stopped : (i : Call) → store_whole s ≡ true → ended s i ≡ true → Outcome s i (record { answer = counter_full; store = s })
  clears : store_whole s ≡ true → Outcome s clear (record { answer = cleared; store = record { settings = s.settings; sets = emptied s.sets; cells = s.cells; clock = s.clock } })
  refuses : (r : Refusal) → store_whole s ≡ true → Outcome s (refuse r) (record { answer = refused r; store = s })
  long : (x : Section) → store_whole s ≡ true → s.settings.cell_size < length x.bytes → Outcome s (offer x) (record { answer = refused TooLong; store = s })
  keyless : (x : Section) → store_whole s ≡ true → length x.bytes ≤ s.settings.cell_size → s.settings.limit ≡ 0 → Outcome s (offer x) (record { answer = nothing; store = s })
  lacks : (x : Section) → Asks s x → slot s x ≡ none → AllTaken (taken (room_for s x)) (length s.cells) → Outcome s (offer x) (record { answer = no_cell; store = s })
  keeps : (x : Section) → Asks s x → slot s x ≡ none → (c : ℕ) → LowestFree (taken (room_for s x)) (length s.cells) c
      → Outcome s (offer x) (shows (risen s) (write s.cells c x.bytes) (judge (rest s x) x.key (keep (part_of x) (held_in c x.bytes) (row s x))))
  ignores : (x : Section) → Asks s x → (h : Held) → slot s x ≡ some h → bytes_of s.cells h ≡ x.bytes
      → Outcome s (offer x) (shows (risen s) s.cells (judge (rest s x) x.key (row s x)))
  conflicts : (x : Section) → Asks s x → (h : Held) → slot s x ≡ some h → bytes_of s.cells h ≢ x.bytes
      → Outcome s (offer x) (record { answer = conflict; store = record { settings = s.settings; sets = room_for s x; cells = s.cells; clock = suc s.clock } })

module _ (s : Store) where
  carried : (x : Section) → Asks s x → {p : Place} → Placed s.cells (taken (room_for s x)) x.bytes (slot s x) p → Outcome s (offer x) (carry s x p)
  unfolding carry shows on_answer
  carried x a (laid c e f) = keeps x a e c f
  carried x a (lacking e f) = lacks x a e f
  carried x a (alike h e q) = ignores x a h e q
  carried x a (unlike h e q) = conflicts x a h e q

  pushed : (x : Section) → store_whole s ≡ true → ended s (offer x) ≡ false → length x.bytes ≤ s.settings.cell_size → (n : ℕ) → s.settings.limit ≡ n → Outcome s (offer x) (push_in n s x)
  unfolding push_in shows on_answer place_of
  pushed x w e l zero q = keyless x w l q
  pushed x w e l (suc n) q =
      carried x (record { is_whole = w; running = e; short = l; some_key = omega arith }) (placed s.cells (taken (room_for s x)) x.bytes (slot s x))

  admitted : (x : Section) → store_whole s ≡ true → ended s (offer x) ≡ false → (b : Bool) → leb (length x.bytes) s.settings.cell_size ≡ b → Outcome s (offer x) (admit_in s x b)
  unfolding admit_in shows on_answer
  admitted x w e false q = long x w (leb-false (length x.bytes) s.settings.cell_size q)
  admitted x w e true q = pushed x w e (leb-true (length x.bytes) s.settings.cell_size q) s.settings.limit refl

  well : (i : Call) → store_whole s ≡ true → ended s i ≡ false → Outcome s i (good s i)
  unfolding good shows on_answer
  well clear w e = clears w
  well (refuse r) w e = refuses r w
  well (offer x) w e = admitted x w e (leb (length x.bytes) s.settings.cell_size) refl

  pub outcome : (i : Call) → Outcome s i (call s i)
  unfolding call guarded
  outcome i = go (store_whole s) (ended s i) refl refl
    where
      go : (a b : Bool) → store_whole s ≡ a → ended s i ≡ b → Outcome s i (guarded a b s i)
      go false b w e = broken i w
      go true true w e = stopped i w e
      go true false w e = well i w e

-- 4 or 5: what judging a row answers
unfoldable pub accepting : Answer → Bool
accepting cleared = false
accepting nothing = true
accepting (handout w) = true
accepting (refused r) = false

pub judge_accepts : (f : Held → Bytes) (s : SetsOf Held) (k : Key) (r : SetOf Held) → accepting (on_answer f (judge s k r).answer) ≡ true
unfolding judge judged on_answer accepting
judge_accepts f s k r = go r.mark (full r.slots)
  where
    go : (b c : Bool) → accepting (on_answer f (judged s k r b c).answer) ≡ true
    go true c = refl
    go false false = refl
    go false true = refl

-- so it is no refusal
pub accepts_not : (a b : Answer) → accepting a ≡ true → accepting b ≡ false → a ≢ b
accepts_not a b p q e = true≢false (sym p ∙ ap accepting e ∙ q)
