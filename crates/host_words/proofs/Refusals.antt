-- A refusal leaves the words as they were, and so does a "no".
-- Assumes nothing.
use Prim.Native.Nat.{ℕ}
use mathlib.Core.Path.{◌≡◌, sym, ap, ◌∙◌}
use mathlib.Core.List.{List}
use mathlib.Core.Bool.{cond, false, true≢false}
use lib.Dec.{eqb, ltb}
use borrow.Author.Tests.{ne_eqb}
use Rattle.answers.specs.Answers.{refusal_no, reply_no, Reply}
use Rattle.answers.specs.declared.Refusal.{Refusal}
use Rattle.std.specs.Prelude.{Ok, Err, true}
use Rattle.answers.proofs.Laws.{refused_from_10}
use Rattle.readers.specs.declared.Next.{Next}
use Rattle.host_words.specs.Answers.{words}
use Rattle.host_words.specs.Sections.{section_after, tells_next}

-- no refusal is 7
pub refused_not_7 : (r : Refusal) → eqb (refusal_no r) 7 ≡ false
refused_not_7 r = ne_eqb (refusal_no r) 7 (λ (e : refusal_no r ≡ 7). true≢false (sym (ap (λ (n : ℕ). ltb n 10) e) ∙ refused_from_10 r))

-- an opening
pub refused_open : (answer n : ℕ) (ws w : List ℕ) → answer ≡ n → (answer ≡ 7 → ⊥) → words n (cond (eqb n 7) ws w) ≡ words answer w
refused_open answer n ws w e h = rw (← e, ne_eqb answer 7 h)

-- a question: 9 and 10
pub refused_next : (next : Next) (w : List ℕ) (answer : ℕ) → answer ≡ (tells_next next w).answer → (answer ≡ 8 → ⊥) → tells_next next w ≡ words answer w
refused_next next w answer e h = go next.answer e
  where
    go : (a : Reply) → answer ≡ reply_no a → words (reply_no a) (section_after a next w) ≡ words answer w
    go (Ok true) e = absurd (h e)
    go (Ok false) e = rw e
    go (Err r) e = rw e
