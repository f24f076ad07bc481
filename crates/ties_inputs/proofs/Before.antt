-- On input 0 the gate's rule is the one without an input, for one offer and for every history of offers: answers, rows, counters and watch.
-- Assumes nothing.
use Prim.Native.Nat.{ℕ}
use mathlib.Core.Path.{◌≡◌, refl, ap, ◌∙◌}
use mathlib.Core.List.{List, [], ◌∷◌, map}
use lib.ListN.{length}
use Rattle.laws.specs.Runs.{answers, store_after}
use Rattle.section.specs.Ids.{origin_of}
use Rattle.section.specs.Judged.{rule_of, judged_of}
use Rattle.section.specs.declared.header.Judged.{Judged}
use Rattle.section.specs.declared.header.Judged.TheVariants.{Short, Mismatch, Sound}
use Rattle.section.proofs.Keys.{key_on_0}
use Rattle.offers.specs.Offers.{read_as, read_of}
use Rattle.gate.specs.Rules.{Manner, Held, Told, told, tells, acts}
use Rattle.ties_inputs.specs.Before.{OnPid, judged_as, told_on0, tells_on0, acts_on0, on_input0}

as_judged : (pid n : ℕ) (j : Judged) → read_as (origin_of 0 pid) n j ≡ judged_as pid n j
as_judged pid n Short = refl
as_judged pid n (Mismatch stored worked) = refl
as_judged pid n (Sound p) = rw (key_on_0 pid p.table_id p.extension p.number)

-- THE THEOREM
pub as_before_on_0 : (m : Manner) (h : Held) (pid : ℕ) (section : List ℕ) → told m h (record { input = 0; pid = pid; section = section }) ≡ told_on0 m h (record { pid = pid; section = section })
unfolding told read_of told_on0
as_before_on_0 m h pid section = rw (as_judged pid (length section) (judged_of (rule_of m.rule) section))

-- and every history on input 0
module _ (m : Manner) where
  one_told : (h : Held) (o : OnPid) → tells m h (on_input0 o) ≡ tells_on0 m h o
  unfolding tells tells_on0
  one_told h o = ap (λ (t : Told). t.answer) (as_before_on_0 m h o.pid o.section)

  one_held : (h : Held) (o : OnPid) → acts m h (on_input0 o) ≡ acts_on0 m h o
  unfolding acts acts_on0
  one_held h o = ap (λ (t : Told). t.held) (as_before_on_0 m h o.pid o.section)

  pub told_before : (h : Held) (os : List OnPid) → answers (tells m) (acts m) h (map on_input0 os) ≡ answers (tells_on0 m) (acts_on0 m) h os
  unfolding answers
  told_before h [] = refl
  told_before h (o ∷ os) =
      let p = one_told h o in
      let q = ap (λ (x : Held). answers (tells m) (acts m) x (map on_input0 os)) (one_held h o) ∙ told_before (acts_on0 m h o) os in
      λ i. p i ∷ q i

  pub held_before : (h : Held) (os : List OnPid) → store_after (acts m) h (map on_input0 os) ≡ store_after (acts_on0 m) h os
  unfolding store_after
  held_before h [] = refl
  held_before h (o ∷ os) = ap (λ (x : Held). store_after (acts m) x (map on_input0 os)) (one_held h o) ∙ held_before (acts_on0 m h o) os
