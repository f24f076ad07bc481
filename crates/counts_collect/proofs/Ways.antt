-- One law for each way out.
-- Assumes nothing.
use mathlib.Core.Path.{◌≡◌, refl, ap, ◌∙◌}
use mathlib.Core.List.{List}
use mathlib.Core.Bool.{Bool, true, false, ◌&&◌}
use Prim.Native.Nat.{ℕ}
use borrow.Author.Tests.{eq-eqb, ne_eqb}
use lib.Dec.{eqb, leb}
use lib.ListN.{length, get_or}
use Rattle.std.specs.Prelude.{Some}
use Rattle.store.specs.declared.Sets.{Sets}
use Rattle.store.specs.Store as sets_memory
use Rattle.sets_settle.specs.Settle as set_told
use Rattle.sets_settle.specs.declared.Pushed.{Pushed as SetPushed}
use Rattle.sets_settle.specs.declared.PushAnswer.{PushAnswer as SetAnswer}
use Rattle.sets_settle.specs.declared.PushAnswer.TheVariants as set_answer
use Rattle.sets.specs.Store as sets
use Rattle.eit_state.specs.State as eit_memory
use Rattle.eit_state.specs.declared.Pushed.{Pushed as EitPushed}
use Rattle.eit_state.specs.declared.PushAnswer.{PushAnswer as EitAnswer}
use Rattle.eit_state.specs.declared.PushAnswer.TheVariants as eit_answer
use Rattle.eit.specs.Store as eit
use Rattle.tallies.specs.Columns.{set_column, eit_column, set_refusal, eit_refusal, counted_in}
use Rattle.counts_collect.specs.Collected.{held, set_told_of, eit_told, set_side, eit_side, set_after, eit_after, with_sets, with_eit, set_counted, eit_counted, is_eit, collected}

-- ---- which collector

pub empty : (s : List ℕ) → length s ≡ 0 → false ≡ is_eit s
unfolding is_eit
empty s h = rw (eq-eqb (length s) 0 h)

pub by_table : (s : List ℕ) → (length s ≡ 0 → ⊥) → (leb 0x4E (get_or s 0 0) && leb (get_or s 0 0) 0x6F) ≡ is_eit s
unfolding is_eit
by_table s h = rw (ne_eqb (length s) 0 h)

-- ---- what is counted

set_column_lem : (a : SetAnswer) (s : sets_memory.Store) → set_column a ≡ set_told_of (set_told.answer_of a s)
set_column_lem set_answer.Nothing s = refl
set_column_lem (set_answer.Set i) s = refl
set_column_lem (set_answer.Refused r) s = refl

eit_column_lem : (a : EitAnswer) (s : eit_memory.Store) → eit_column a ≡ eit_told (eit.answer_of a s)
eit_column_lem eit_answer.Nothing s = refl
eit_column_lem (eit_answer.Set i) s = refl
eit_column_lem (eit_answer.Schedule i) s = refl
eit_column_lem (eit_answer.Refused r) s = refl

pub set_pushed : (s : sets_memory.Store) (pid : ℕ) (b t t' : List ℕ) (p : SetPushed) (hs ss cs : List ℕ) (n : ℕ) → set_told.after_push p hs ss cs ≡ sets.pushed_of s 0 (Some pid) b
    → n ≡ set_column p.answer → t' ≡ counted_in t n → set_side (sets_memory.store p.sets hs ss cs) t' ≡ set_counted (set_side s t) pid b
unfolding set_counted
set_pushed s pid b t t' p hs ss cs n e f g =
    let a = p.answer in
    let l = sets_memory.store p.sets hs ss cs in
    let q : t' ≡ counted_in t (set_told_of (set_told.answer_of a l)) = g ∙ ap (counted_in t) (f ∙ set_column_lem a l) in
    ap (set_side l) q ∙ ap (λ (x : set_told.SetsAfter). set_after x t) e

pub eit_pushed_lem : (s : eit_memory.Store) (pid : ℕ) (b t t' : List ℕ) (p : EitPushed) (hs ss cs ks us : List ℕ) (n : ℕ) → eit.pushed p hs ss cs ks us ≡ eit.pushed_of s 0 (Some pid) b
    → n ≡ eit_column p.answer → t' ≡ counted_in t n → eit_side (eit_memory.store p.eit hs ss cs ks us) t' ≡ eit_counted (eit_side s t) pid b
unfolding eit_counted
eit_pushed_lem s pid b t t' p hs ss cs ks us n e f g =
    let a = p.answer in
    let l = eit_memory.store p.eit hs ss cs ks us in
    let q : t' ≡ counted_in t (eit_told (eit.answer_of a l)) = g ∙ ap (counted_in t) (f ∙ eit_column_lem a l) in
    ap (eit_side l) q ∙ ap (λ (x : eit.After). eit_after x t) e

module _ (s s' : sets_memory.Store) (e e' : eit_memory.Store) (t t' : List ℕ) (pid : ℕ) (b : List ℕ) (x : Bool) (h : x ≡ is_eit b) where
  pub to_eit : x ≡ true → eit_side e' t' ≡ eit_counted (eit_side e t) pid b → held s e' t' ≡ collected (held s e t) pid b
  unfolding collected
  to_eit q l = rw (← h, q) (ap (with_eit (held s e t)) l)

  pub to_sets : x ≡ false → set_side s' t' ≡ set_counted (set_side s t) pid b → held s' e t' ≡ collected (held s e t) pid b
  unfolding collected
  to_sets q l = rw (← h, q) (ap (with_sets (held s e t)) l)
