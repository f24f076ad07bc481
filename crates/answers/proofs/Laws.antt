-- An answer is known by its number.
-- Assumes nothing.
use Prim.Native.Nat.{ℕ, ◌-◌, ◌≤◌, ◌<◌}
use mathlib.Core.Path.{◌≡◌, refl, sym, ap, ◌∙◌}
use mathlib.Core.List.{List, [], ◌∷◌}
use mathlib.Core.Bool.{cond, false}
use lib.Dec.{eqb, ltb}
use native.Mathlib.Omega.{arith}
use Rattle.answers.specs.declared.Refusal.{Refusal}
use Rattle.answers.specs.declared.Refusal.TheVariants.{NotWhole, CounterFull, BadPid, TooLittle, Malformed, ShortForm, BadNumber, BadCrc, NotEit, Broken, TooLong, NoCell, Conflict, Range, BadInput, NoPid}
use Rattle.std.specs.Prelude.{Ok, Err, true}
use Rattle.answers.specs.Answers.{refusal_no, outcome_no, reply_no, Outcome, Reply}

-- the refusals by rising number
refusals : List Refusal
refusals = NotWhole ∷ CounterFull ∷ BadPid ∷ TooLittle ∷ Malformed ∷ ShortForm ∷ BadNumber ∷ BadCrc ∷ NotEit ∷ Broken ∷ TooLong ∷ NoCell ∷ Conflict ∷ Range ∷ BadInput ∷ NoPid ∷ []

pick : List Refusal → ℕ → Refusal
pick [] n = NotWhole
pick (r ∷ rs) n = cond (eqb (refusal_no r) n) r (pick rs n)

pub refusal_at : ℕ → Refusal
refusal_at n = pick refusals n

pub refusal_at_lem : (r : Refusal) → refusal_at (refusal_no r) ≡ r
unfolding refusal_at refusals pick
refusal_at_lem NotWhole = refl
refusal_at_lem CounterFull = refl
refusal_at_lem BadPid = refl
refusal_at_lem TooLittle = refl
refusal_at_lem Malformed = refl
refusal_at_lem ShortForm = refl
refusal_at_lem BadNumber = refl
refusal_at_lem BadCrc = refl
refusal_at_lem NotEit = refl
refusal_at_lem Broken = refl
refusal_at_lem TooLong = refl
refusal_at_lem NoCell = refl
refusal_at_lem Conflict = refl
refusal_at_lem Range = refl
refusal_at_lem BadInput = refl
refusal_at_lem NoPid = refl

pub refusal_apart : (a b : Refusal) → refusal_no a ≡ refusal_no b → a ≡ b
refusal_apart a b e = sym (refusal_at_lem a) ∙ ap refusal_at e ∙ refusal_at_lem b

-- no refusal has a number below 10, which are those of what is not refused
pub refused_from_10 : (r : Refusal) → ltb (refusal_no r) 10 ≡ false
refused_from_10 NotWhole = refl
refused_from_10 CounterFull = refl
refused_from_10 BadPid = refl
refused_from_10 TooLittle = refl
refused_from_10 Malformed = refl
refused_from_10 ShortForm = refl
refused_from_10 BadNumber = refl
refused_from_10 BadCrc = refl
refused_from_10 NotEit = refl
refused_from_10 Broken = refl
refused_from_10 TooLong = refl
refused_from_10 NoCell = refl
refused_from_10 Conflict = refl
refused_from_10 Range = refl
refused_from_10 BadInput = refl
refused_from_10 NoPid = refl

-- and none has 31, which is a section too short for its CRC
pub refused_not_31 : (r : Refusal) → refusal_no r ≡ 31 → ⊥
unfolding refusal_at refusals pick
refused_not_31 r e = let q : r ≡ NotWhole = sym (refusal_at_lem r) ∙ ap refusal_at e in omega (arith, ap refusal_no (sym q) ∙ e)

-- an answer of which one case has no refusal's number
outcome_at : ℕ → Outcome
outcome_at n = cond (ltb n 10) (Ok tt) (Err (refusal_at n))

outcome_at_lem : (a : Outcome) → outcome_at (outcome_no a) ≡ a
unfolding outcome_at
outcome_at_lem (Ok _) = refl
outcome_at_lem (Err r) =
    ap (λ b. cond b (Ok tt) (Err (refusal_at (refusal_no r)))) (refused_from_10 r) ∙ ap Err (refusal_at_lem r)

pub outcome_apart : (a b : Outcome) → outcome_no a ≡ outcome_no b → a ≡ b
outcome_apart a b e = sym (outcome_at_lem a) ∙ ap outcome_at e ∙ outcome_at_lem b

reply_at : ℕ → Reply
reply_at n = cond (ltb n 10) (cond (eqb n 8) (Ok true) (Ok false)) (Err (refusal_at n))

reply_at_lem : (a : Reply) → reply_at (reply_no a) ≡ a
unfolding reply_at
reply_at_lem (Ok true) = refl
reply_at_lem (Ok false) = refl
reply_at_lem (Err r) =
    ap (λ b. cond b (cond (eqb (refusal_no r) 8) (Ok true) (Ok false)) (Err (refusal_at (refusal_no r)))) (refused_from_10 r) ∙ ap Err (refusal_at_lem r)

pub reply_apart : (a b : Reply) → reply_no a ≡ reply_no b → a ≡ b
reply_apart a b e = sym (reply_at_lem a) ∙ ap reply_at e ∙ reply_at_lem b
