-- What each call leaves in what a host lends, from what its parts leave.
-- Assumes nothing.
use Prim.Native.Nat.{ℕ, ◌/◌}
use mathlib.Core.Path.{◌≡◌, ap}
use mathlib.Core.List.{List, [], ◌∷◌}
use mathlib.Core.Bool.{true, false, ◌||◌}
use lib.ListN.{length}
use lib.Dec.{eqb}
use borrow.Author.Tests.{eq-eqb, ne_eqb}
use Rattle.std.specs.Prelude.{Option}
use Rattle.guides.specs.Store.{compare_no, held_no, compared, listed, compared_schedules, listed_schedules, tables_of, held_by}
use Rattle.guides.specs.declared.Compared.{Compared}
use Rattle.guides.specs.declared.Holder.{Holder}
use Rattle.host_words.specs.Answers.{Words, words}
use Rattle.host_words.specs.Pids.{maybe_pid}
use Rattle.host_guides.specs.Calls.{flag, tells_compared, tells_held, comparison, sets_compared, comparisons, schedules_compared, held_by_one}

-- ---- the three words

module _ (c : Compared) (w : List ℕ) (n : ℕ) (e : n ≡ compare_no c.answer) where
  pub compared_written :
      (v l : ℕ) → (eqb n 8 || eqb n 9 || eqb n 34) ≡ true → v ≡ flag c.versions → l ≡ flag c.lasts → words n (c.count ∷ v ∷ l ∷ []) ≡ tells_compared c w
  compared_written v l h p q = rw (← e, h, p, q)

  pub compared_kept : (eqb n 8 || eqb n 9 || eqb n 34) ≡ false → words n w ≡ tells_compared c w
  compared_kept h = rw (← e, h)

module _ (h : Holder) (w : List ℕ) (n : ℕ) (e : n ≡ held_no h.answer) where
  pub held_written : n ≡ 8 → words n (h.side ∷ h.start ∷ h.length ∷ []) ≡ tells_held h w
  held_written t = rw (← e, eq-eqb n 8 t)

  pub held_kept : (n ≡ 8 → ⊥) → words n w ≡ tells_held h w
  held_kept t = rw (← e, ne_eqb n 8 t)

-- ---- the calls

module _ (first second : List ℕ) (p q : ℕ) (m n : Option ℕ) (f : m ≡ maybe_pid p) (g : n ≡ maybe_pid q) (list told : List ℕ) (c : Compared) (l ws : List ℕ) (r : ℕ) where
  pub sets_compared_lem :
      c ≡ compared first m second n (length list / 4) → l ≡ listed first m second n list → words r ws ≡ tells_compared c told → comparison r ws l ≡ sets_compared first p second q list told
  unfolding sets_compared
  sets_compared_lem e d t = rw (← f, ← g, ← e, ← d, ap (λ (y : Words). y.answer) t, ap (λ (y : Words). y.now) t)

  pub schedules_compared_lem :
      (tables ts : List ℕ) → c ≡ compared_schedules first m second n (length list / 4) → ts ≡ tables_of first m second n (length list / 4) tables → l ≡ listed_schedules first m second n list →
      words r ws ≡ tells_compared c told → comparisons r ws ts l ≡ schedules_compared first p second q tables list told
  unfolding schedules_compared
  schedules_compared_lem tables ts e a d t = rw (← f, ← g, ← e, ← a, ← d, ap (λ (y : Words). y.answer) t, ap (λ (y : Words). y.now) t)

pub held_one_lem : (first second : List ℕ) (number : ℕ) (held : List ℕ) (h : Holder) (ws : List ℕ) (r : ℕ) → h ≡ held_by first second number → words r ws ≡ tells_held h held → words r ws ≡ held_by_one first second number held
unfolding held_by_one
held_one_lem first second number held h ws r e t = rw (← e) t
