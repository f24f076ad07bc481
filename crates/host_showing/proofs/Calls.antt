-- What each call leaves in what a host lends, from what its parts leave.
-- Assumes nothing.
use Prim.Native.Nat.{ℕ, ◌+◌, ◌*◌, ◌≤◌, ◌<◌}
use mathlib.Core.Path.{◌≡◌, ap}
use mathlib.Core.List.{List, [], ◌∷◌}
use mathlib.Core.Bool.{true, false, ◌||◌}
use lib.Dec.{eqb}
use borrow.Author.Tests.{lt-ltb, le-ltb}
use Rattle.times.specs.Times.{date_of}
use Rattle.times.specs.declared.Calendar.{Calendar}
use Rattle.std.specs.Prelude.{Option, Some}
use Rattle.eit_state.specs.State.{store}
use Rattle.eit_state.specs.declared.Eit.{Eit}
use Rattle.shown_sections.specs.declared.Shown.{Shown}
use Rattle.shown_sections.specs.Shown.{show_number}
use Rattle.showing.specs.Store.{shown_section, shown_set, shown_table}
use Rattle.host_words.specs.Answers.{Words, words}
use Rattle.host_eit_words.specs.Words.{eit_of}
use Rattle.host_showing.specs.Calls.{tells_listed, listing, handed, section_listed, set_listed, table_listed, date_word, date_number}

-- ---- the three words

module _ (s : Shown) (w : List ℕ) (n : ℕ) (e : n ≡ show_number s.answer) where
  pub listed_kept : ((eqb n 10 || eqb n 41) || eqb n 14) ≡ true → words n w ≡ tells_listed s w
  listed_kept h = rw (← e, h)

  pub listed_written : ((eqb n 10 || eqb n 41) || eqb n 14) ≡ false → words n (s.count ∷ s.section ∷ s.place ∷ []) ≡ tells_listed s w
  listed_written h = rw (← e, h)

-- ---- the calls

both : (s : Shown) (l w ws : List ℕ) (r : ℕ) (x : Shown × List ℕ) → (s, l) ≡ x → words r ws ≡ tells_listed s w → listing r ws l ≡ handed x w
both s l w ws r x e t = rw (← e, ap (λ (y : Words). y.answer) t, ap (λ (y : Words). y.now) t)

pub section_listed_lem :
    (section : List ℕ) (skip : ℕ) (list w : List ℕ) (s : Shown) (l ws : List ℕ) (r : ℕ) → (s, l) ≡ shown_section section skip list → words r ws ≡ tells_listed s w →
    listing r ws l ≡ section_listed section skip list w
unfolding section_listed
section_listed_lem section skip list w s l ws r e t = both s l w ws r (shown_section section skip list) e t

module _ (eit heads slots cells schedule_heads units : List ℕ) (c : Eit) (h : c ≡ eit_of eit) (list w : List ℕ) (s : Shown) (l ws : List ℕ) (r : ℕ) where
  pub set_listed_lem :
      (row skip : ℕ) → (s, l) ≡ shown_set (store c heads slots cells schedule_heads units) row skip list → words r ws ≡ tells_listed s w →
      listing r ws l ≡ set_listed eit heads slots cells schedule_heads units row skip list w
  unfolding set_listed
  set_listed_lem row skip e t = rw (← h) (both s l w ws r (shown_set (store c heads slots cells schedule_heads units) row skip list) e t)

  pub table_listed_lem :
      (row table skip : ℕ) → (s, l) ≡ shown_table (store c heads slots cells schedule_heads units) row table skip list → words r ws ≡ tells_listed s w →
      listing r ws l ≡ table_listed eit heads slots cells schedule_heads units row table skip list w
  unfolding table_listed
  table_listed_lem row table skip e t = rw (← h) (both s l w ws r (shown_table (store c heads slots cells schedule_heads units) row table skip list) e t)

-- ---- dates

pub date_spelt : (d : Option Calendar) (c : Calendar) → d ≡ Some c → c.year * 10000 + c.month * 100 + c.day ≡ date_word d
date_spelt d c e = rw e

pub no_day : (day : ℕ) → 65535 < day → 0 ≡ date_number day
unfolding date_number
no_day day h = rw (lt-ltb 65535 day h)

pub a_day : (day : ℕ) (d : Option Calendar) (r : ℕ) → day ≤ 65535 → d ≡ date_of day → r ≡ date_word d → r ≡ date_number day
unfolding date_number
a_day day d r h e f = rw (le-ltb 65535 day h, ← e) f
