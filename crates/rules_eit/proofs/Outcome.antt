-- Every way that a call on the EIT collector with cells can go, with what is known there. The theorems on answers and cells are read off from it.
-- Assumes nothing.
use borrow.Author.Tests.{leb-false, leb-true}
use mathlib.Core.Path.{◌≡◌, refl, sym, ap, ◌∙◌}
use mathlib.Core.Logic.{◌≢◌}
use mathlib.Core.Bool.{Bool, true, false, cond, true≢false}
use mathlib.Core.Option.{Option, none, some, some-injective}
use Prim.Native.Nat.{ℕ, zero, suc, ◌≤◌, ◌<◌}
use native.Mathlib.Omega.{arith}
use lib.Dec.{leb}
use lib.ListN.{length}
use Rattle.answers.specs.declared.Refusal.{Refusal}
use Rattle.answers.specs.declared.Refusal.TheVariants as refusal
use Rattle.laws.proofs.Tests.{none≢some}
use Rattle.rules_shared.specs.Same.{Bytes}
use Rattle.rules_shared.specs.Row.{slot_of, keep}
use Rattle.rules_shared.specs.Cells.{Held, bytes_of, write, Place, held_in}
use Rattle.rules_shared.proofs.Cells.{LowestFree, AllTaken, Placed, laid, lacking, alike, unlike, placed}
use Rattle.rules_eit.specs.Keys.{Kind, kind_of, first_of, SetKey, Filter, no_pid, bad_pid, bad_input, bad_filter}
use Rattle.rules_eit.specs.Segments.{SetOf, complete}
use Rattle.rules_eit.specs.Schedules.{ScheduleOf, all_tables}
use Rattle.rules_eit.specs.Rules.{from_bytes, EitOf, Section, key_of, part_of, Call, clear, drop, refuse, offer, done, refused, nothing, handout, schedule, met_row, told, ranged, ready, judged, judge, cleared, dropped, Answer}
use Rattle.rules_eit.specs.Cells.{Store, Turn, on_answer, taken, store_whole, ended, shows, rest, room_for, place_of, carry, push_in, admit_in, offer_in, drop_in, good, guarded, call, risen}

-- a filter is refused by what it is given alone
bad_given : (f : Filter) (r : Refusal) → bad_filter f ≡ some r → from_bytes r ≡ true
unfolding bad_filter
bad_given f r = go (no_pid f.pid) (bad_pid f.pid) (bad_input f.input)
  where
    go : (n p i : Bool) → cond n (some refusal.NoPid) (cond p (some refusal.BadPid) (cond i (some refusal.BadInput) none)) ≡ some r → from_bytes r ≡ true
    go true p i e = ap from_bytes (sym (some-injective refusal.NoPid r e))
    go false true i e = ap from_bytes (sym (some-injective refusal.BadPid r e))
    go false false true e = ap from_bytes (sym (some-injective refusal.BadInput r e))
    go false false false e = absurd (none≢some refl e)

-- the row that a section meets
abbrev pub row : Store → Section → SetKey → SetOf Held
row s x k = met_row x k s.eit

-- what the section's slot names there
abbrev pub slot : Store → Section → SetKey → Option Held
slot s x k = slot_of (part_of x) (row s x k)

-- the store is whole, no counter is at its end, the section is an EIT's with key k and no longer than a cell, and the limit is not 0
pub record Asks (s : Store) (x : Section) (k : SetKey) : Type 0 where
  pub is_whole : store_whole s ≡ true
  pub running : ended s (offer x) ≡ false
  pub kind : Kind
  pub is_kind : kind_of x.table_id_of ≡ some kind
  pub is_key : key_of x kind ≡ k
  pub short : length x.bytes ≤ s.settings.cell_size
  pub some_key : 1 ≤ s.settings.limit

pub data Outcome (s : Store) : Call → Turn → Type 0 where
  broken : (i : Call) → store_whole s ≡ false → Outcome s i (record { answer = (refused refusal.NotWhole); store = s })
  stopped : (i : Call) → store_whole s ≡ true → ended s i ≡ true → Outcome s i (record { answer = (refused refusal.CounterFull); store = s })
  clears : store_whole s ≡ true → Outcome s clear (record { answer = done; store = record { settings = s.settings; eit = cleared s.eit; cells = s.cells; clock = s.clock } })
  drops : (f : Filter) → store_whole s ≡ true → bad_filter f ≡ none → Outcome s (drop f) (record { answer = done; store = record { settings = s.settings; eit = dropped f s.eit; cells = s.cells; clock = s.clock } })
  keeps_all : (f : Filter) (r : Refusal) → from_bytes r ≡ true → store_whole s ≡ true → bad_filter f ≡ some r → Outcome s (drop f) (record { answer = refused r; store = s })
  refuses : (r : Refusal) (b : from_bytes r ≡ true) → store_whole s ≡ true → Outcome s (refuse r b) (record { answer = refused r; store = s })
  foreign : (x : Section) → store_whole s ≡ true → kind_of x.table_id_of ≡ none → Outcome s (offer x) (record { answer = refused refusal.NotEit; store = s })
  long : (x : Section) (kind : Kind) → store_whole s ≡ true → kind_of x.table_id_of ≡ some kind → s.settings.cell_size < length x.bytes
      → Outcome s (offer x) (record { answer = refused refusal.TooLong; store = s })
  keyless : (x : Section) (kind : Kind) → store_whole s ≡ true → kind_of x.table_id_of ≡ some kind → length x.bytes ≤ s.settings.cell_size → s.settings.limit ≡ 0
      → Outcome s (offer x) (record { answer = nothing; store = s })
  lacks : (x : Section) (k : SetKey) → Asks s x k → slot s x k ≡ none → AllTaken (taken (room_for s x k)) (length s.cells) → Outcome s (offer x) (record { answer = (refused refusal.NoCell); store = s })
  keeps : (x : Section) (k : SetKey) → Asks s x k → slot s x k ≡ none → (c : ℕ) → LowestFree (taken (room_for s x k)) (length s.cells) c
      → Outcome s (offer x) (shows (risen s) (write s.cells c x.bytes) (judge s.settings.limit (rest s k) k x.last_table (keep (part_of x) (held_in c x.bytes) (row s x k))))
  ignores : (x : Section) (k : SetKey) → Asks s x k → (h : Held) → slot s x k ≡ some h → bytes_of s.cells h ≡ x.bytes
      → Outcome s (offer x) (shows (risen s) s.cells (judge s.settings.limit (rest s k) k x.last_table (row s x k)))
  conflicts : (x : Section) (k : SetKey) → Asks s x k → (h : Held) → slot s x k ≡ some h → bytes_of s.cells h ≢ x.bytes
      → Outcome s (offer x) (record { answer = (refused refusal.Conflict); store = record { settings = s.settings; eit = room_for s x k; cells = s.cells; clock = suc s.clock } })

module _ (s : Store) where
  carried : (x : Section) (k : SetKey) → Asks s x k → {p : Place} → Placed s.cells (taken (room_for s x k)) x.bytes (slot s x k) p → Outcome s (offer x) (carry s x k p)
  unfolding carry shows on_answer
  carried x k a (laid c e f) = keeps x k a e c f
  carried x k a (lacking e f) = lacks x k a e f
  carried x k a (alike h e q) = ignores x k a h e q
  carried x k a (unlike h e q) = conflicts x k a h e q

  module _ (x : Section) (w : store_whole s ≡ true) (e : ended s (offer x) ≡ false) (kind : Kind) (h : kind_of x.table_id_of ≡ some kind) where
    pushed : length x.bytes ≤ s.settings.cell_size → (n : ℕ) → s.settings.limit ≡ n → Outcome s (offer x) (push_in n s x (key_of x kind))
    unfolding push_in shows on_answer place_of
    pushed l zero q = keyless x kind w h l q
    pushed l (suc n) q =
        carried x (key_of x kind) (record { is_whole = w; running = e; kind = kind; is_kind = h; is_key = refl; short = l; some_key = omega arith })
        (placed s.cells (taken (room_for s x (key_of x kind))) x.bytes (slot s x (key_of x kind)))

    admitted : (b : Bool) → leb (length x.bytes) s.settings.cell_size ≡ b → Outcome s (offer x) (admit_in s x (key_of x kind) b)
    unfolding admit_in shows on_answer
    admitted false q = long x kind w h (leb-false (length x.bytes) s.settings.cell_size q)
    admitted true q = pushed (leb-true (length x.bytes) s.settings.cell_size q) s.settings.limit refl

  offered : (x : Section) → store_whole s ≡ true → ended s (offer x) ≡ false → (o : Option Kind) → kind_of x.table_id_of ≡ o → Outcome s (offer x) (offer_in s x o)
  unfolding offer_in shows on_answer
  offered x w e none h = foreign x w h
  offered x w e (some kind) h = admitted x w e kind h (leb (length x.bytes) s.settings.cell_size) refl

  filtered : (f : Filter) → store_whole s ≡ true → (b : Option Refusal) → bad_filter f ≡ b → Outcome s (drop f) (drop_in s f b)
  unfolding drop_in shows on_answer
  filtered f w (some r) h = keeps_all f r (bad_given f r h) w h
  filtered f w none h = drops f w h

  well : (i : Call) → store_whole s ≡ true → ended s i ≡ false → Outcome s i (good s i)
  unfolding good shows on_answer
  well clear w e = clears w
  well (drop f) w e = filtered f w (bad_filter f) refl
  well (refuse r b) w e = refuses r b w
  well (offer x) w e = offered x w e (kind_of x.table_id_of) refl

  pub outcome : (i : Call) → Outcome s i (call s i)
  unfolding call guarded
  outcome i = go (store_whole s) (ended s i) refl refl
    where
      go : (a b : Bool) → store_whole s ≡ a → ended s i ≡ b → Outcome s i (guarded a b s i)
      go false b w e = broken i w
      go true true w e = stopped i w e
      go true false w e = well i w e

abbrev pub is_range : Refusal → Bool
is_range refusal.NotWhole = false
is_range refusal.CounterFull = false
is_range refusal.BadPid = false
is_range refusal.TooLittle = false
is_range refusal.Malformed = false
is_range refusal.ShortForm = false
is_range refusal.BadNumber = false
is_range refusal.BadCrc = false
is_range refusal.NotEit = false
is_range refusal.Broken = false
is_range refusal.TooLong = false
is_range refusal.NoCell = false
is_range refusal.Conflict = false
is_range refusal.Range = true
is_range refusal.BadInput = false
is_range refusal.NoPid = false

-- 4, 5, 6 or 23: what judging a row answers
unfoldable pub accepting : Answer → Bool
accepting done = false
accepting nothing = true
accepting (handout w) = true
accepting (schedule g) = true
accepting (refused r) = is_range r

pub judge_accepts : (f : Held → Bytes) (limit : ℕ) (e : EitOf Held) (k : SetKey) (last : ℕ) (r : SetOf Held) → accepting (on_answer f (judge limit e k last r).answer) ≡ true
unfolding judge judged ready ranged told on_answer accepting
judge_accepts f limit e k last r = go r.mark (complete r)
  where
    tell : (first : ℕ) (s : ScheduleOf Held) (b : Bool) → accepting (on_answer f (told k.schedule first s b)) ≡ true
    tell first s true = refl
    tell first s false = refl

    in_range : (first : ℕ) (b : Bool) (s : ScheduleOf Held) → accepting (on_answer f (ranged limit e k r first b s).answer) ≡ true
    in_range first true s = tell first s (all_tables first s)
    in_range first false s = refl

    goes : (o : Option ℕ) → accepting (on_answer f (ready limit e k last r o).answer) ≡ true
    goes none = refl
    goes (some first) = in_range first (leb k.table_id_of last) _

    go : (b c : Bool) → accepting (on_answer f (judged limit e k last r b c).answer) ≡ true
    go true c = refl
    go false false = refl
    go false true = goes (first_of k.schedule.kind)

-- so it is no other answer
pub accepts_not : (a b : Answer) → accepting a ≡ true → accepting b ≡ false → a ≢ b
accepts_not a b p q e = true≢false (sym p ∙ ap accepting e ∙ q)

-- nor is what the bytes refuse one that they do not give
pub bytes_not : (r q : Refusal) → from_bytes r ≡ true → from_bytes q ≡ false → ◌≢◌ {A = Answer} (refused r) (refused q)
bytes_not r q b c e = let z : r ≡ q = cc in true≢false (sym b ∙ ap from_bytes z ∙ c)
