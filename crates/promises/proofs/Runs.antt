-- Runs of the set collector over lent memory on real sections, computed: their bytes are read, and the rules with cells answer.
-- Assumes nothing.
use mathlib.Core.Path.{◌≡◌, refl, ap, subst, ◌∙◌}
use mathlib.Core.Bool.{Bool, true, false, ◌&&◌}
use mathlib.Core.Option.{some-injective}
use mathlib.Core.List.{List, [], ◌∷◌, map}
use Prim.Native.Nat.{ℕ, zero, suc, ◌*◌, ◌<◌, ◌≤◌}
use native.Mathlib.Omega.{arith}
use native.Mathlib.Decide.{dec_le}
use borrow.Author.Tests.{ltb-true}
use lib.Dec.{eqb, ltb}
use lib.ListN.{length, get_or, replicate, get_or-eq_default}
use Rattle.laws.specs.Lists.{every}
use Rattle.laws.proofs.Search.{every_get}
use Rattle.laws.proofs.Tests.{none≢some, and_true}
use Rattle.laws.proofs.Facts.{any_of, not_among}
use Rattle.rules_shared.specs.Same.{Bytes}
use Rattle.rules_shared.specs.Touch.{untouched}
use Rattle.laws.specs.Runs.{At, Never}
use Rattle.section.specs.Facts.{Bytes as AllBytes}
use Rattle.rules_sets.specs.Rules.{Key, Call, offer, Whole, Answer, cleared, nothing, handout, refused, conflict, not_whole, counter_full, no_cell, number_of}
use Rattle.rules_sets.specs.Cells.{Store as Shown}
use Rattle.rules_sets.specs.Demand.{run, with_cells}
use Rattle.rules_sets.proofs.Examples.{replies}
use Rattle.store.specs.Store.{store, asked}
use Rattle.ties_sets.specs.View.{seen}
use Rattle.promises.specs.Demand3.{Collector, StartsEmpty, Given, section, OfBytes, Calls, SectionsOfBytes, answers_of, RefusesNoneAsConflicting, RefusesNoneForItsStore}
use Rattle.promises.proofs.Demand3.{read_all, as_rules}

-- ---- sections: on PID 0x10, extension 1, version 0, current

abbrev pub on : Bytes → Given
on bytes = section 0 0x10 bytes

abbrev pub key : ℕ → Key
key table = record { from = record { input = 0; pid = 0x10 }; table_id_of = table; extension = 1; current_next_of = true }

-- what such a section says
abbrev pub said : (table number last : ℕ) → Bytes → Call
said table number last bytes = offer (record { key = key table; version = 0; number = number; last = last; bytes = bytes })

abbrev pub set_of : (table last : ℕ) → List Bytes → Whole
set_of table last sections = record { key = key table; version = 0; last = last; sections = sections }

-- ---- bytes

pub byte_test : (bytes : Bytes) → every (λ (b : ℕ). ltb b 256) bytes ≡ true → AllBytes bytes
byte_test bytes e i = go (dec_le (suc i) (length bytes))
  where
    go : Dec (suc i ≤ length bytes) → get_or bytes i 0 < 256
    go (yes l) = ltb-true (get_or bytes i 0) 256 (every_get (λ (b : ℕ). ltb b 256) bytes 0 i e l)
    go (no l) = rw (get_or-eq_default bytes 0 {n = i} (omega arith)) (omega arith)

abbrev pub bytes_in : List Bytes → Bool
bytes_in [] = true
bytes_in (b ∷ bs) = every (λ (x : ℕ). ltb x 256) b && bytes_in bs

pub of_bytes : (bs : List Bytes) → bytes_in bs ≡ true → SectionsOfBytes (map on bs)
of_bytes [] h t i e = absurd (none≢some refl e)
of_bytes (b ∷ bs) h zero i e = subst OfBytes (some-injective (on b) i e) (byte_test b (and_true (every (λ (x : ℕ). ltb x 256) b) (bytes_in bs) h).0)
of_bytes (b ∷ bs) h (suc t) i e = of_bytes bs (and_true (every (λ (x : ℕ). ltb x 256) b) (bytes_in bs) h).1 t i e

-- ---- collectors, over memory that held sevens

abbrev pub collector : (limit size count : ℕ) → Collector
collector limit size count = store (asked limit size count) (replicate (limit * 12) 7) (replicate (limit * 288) 7) (replicate (count * size) 7)

abbrev pub shown : (limit size count : ℕ) → Shown
shown limit size count = record { settings = record { limit = limit; cell_size = size }; sets = untouched; cells = replicate count (replicate size 7); clock = 0 }

-- ---- the answers

pub runs : (s : Collector) → StartsEmpty s → (v : Shown) → seen s ≡ v → (bs : List Bytes) → bytes_in bs ≡ true → (said : List Call) → read_all (map on bs) ≡ said
    → answers_of s (map on bs) ≡ replies v said
unfolding replies
runs s o v e bs b said r = as_rules s o (map on bs) (of_bytes bs b) ∙ ap (λ (q : Shown). run with_cells q (read_all (map on bs))) e ∙ ap (run with_cells v) r

-- the answer has one of these numbers
unfoldable pub numbered : List ℕ → Answer → Bool
numbered ns a = any_of (λ (n : ℕ). eqb (number_of a) n) ns

-- 10, 11, 21 and 22
abbrev pub refuses : Answer → Bool
refuses = numbered (10 ∷ 11 ∷ 21 ∷ 22 ∷ [])

module _ (s : Collector) (calls : Calls) (as' : List Answer) (e : answers_of s calls ≡ as') where
  -- an answer that passes a test which none of the run passes
  pub never : (test : Answer → Bool) → any_of test as' ≡ false → (a : Answer) → test a ≡ true → Never a (answers_of s calls)
  never test h a p t q = not_among test a p as' h t (subst (λ (l : List Answer). At l t a) e q)

  pub no_conflict : any_of refuses as' ≡ false → RefusesNoneAsConflicting s calls
  unfolding numbered number_of any_of
  no_conflict h = never refuses h conflict refl

  pub unrefused : any_of refuses as' ≡ false → RefusesNoneForItsStore s calls
  unfolding numbered number_of any_of
  unrefused h = record { cells = never refuses h no_cell refl; counter = never refuses h counter_full refl; wholeness = never refuses h not_whole refl }
