-- What is said of a log is said of its first wrong record.
-- Assumes nothing.
use mathlib.Core.Path.{◌≡◌, refl, sym, ap, subst, ◌∙◌}
use mathlib.Core.List.{List, [], ◌∷◌, ◌++◌, append_assoc}
use Prim.Native.Nat.{ℕ, ◌+◌, ◌-◌}
use native.Mathlib.Omega.{arith}
use lib.ListN.{length, take, drop, length-append}
use lib.Seq.{take_at, drop_at}
use Rattle.rules_logs.specs.Records.{Bytes}
use Rattle.rules_logs.specs.Verdict.{Verdict, yes, unknown, cut_off, missing, too_many, differs, log_of, Says, ends, is_missing, is_unknown, is_cut, is_over, is_other, passes}
use Rattle.ties_logs.specs.Wrong.{place_of, FirstWrong}

-- the same of the log from place p on: n bytes of it are whole records as expected
record From (p : ℕ) (log : Bytes) (es : List Bytes) (v : Verdict) : Type 0 where
  before : List Bytes
  behind : List Bytes
  rest : Bytes
  split : before ++ behind ≡ es
  all : log ≡ log_of before ++ rest
  place : p + length (log_of before) ≡ place_of v
  there : Says (place_of v) rest behind v

here : (p : ℕ) (log : Bytes) (es : List Bytes) (v : Verdict) → p ≡ place_of v → Says (place_of v) log es v → From p log es v
unfolding log_of
here p log es v q s = record { before = []; behind = es; rest = log; split = refl; all = refl; place = omega arith; there = s }

from : {p : ℕ} {log : Bytes} {es : List Bytes} {v : Verdict} → Says p log es v → (v ≡ yes → ⊥) → From p log es v
unfolding log_of
from ends n = absurd (n refl)
from {p = p} (is_missing e es) n = here p [] (e ∷ es) (missing p) refl (is_missing e es)
from {p = p} (is_unknown k log es h) n = here p (k ∷ log) es (unknown p) refl (is_unknown k log es h)
from {p = p} (is_cut k log es h l) n = here p (k ∷ log) es (cut_off p) refl (is_cut k log es h l)
from {p = p} (is_over k log h l) n = here p (k ∷ log) [] (too_many p) refl (is_over k log h l)
from {p = p} (is_other k log e es h l q) n = here p (k ∷ log) (e ∷ es) (differs p) refl (is_other k log e es h l q)
from {p = p} (passes e log es r s) n =
    let f = from s n in
    let a = length-append e (log_of f.before) in
    let q = f.place in
    record {
      before = e ∷ f.before;
      behind = f.behind;
      rest = f.rest;
      split = ap (λ (l : List Bytes). e ∷ l) f.split;
      all = ap (λ (l : Bytes). e ++ l) f.all ∙ sym (append_assoc e (log_of f.before) f.rest);
      place = omega arith;
      there = f.there;
    }

pub first_of_lem : (log : Bytes) (es : List Bytes) (v : Verdict) → Says 0 log es v → (v ≡ yes → ⊥) → FirstWrong log es v
first_of_lem log es v s n =
    let f = from s n in
    let q : place_of v ≡ length (log_of f.before) = let h = f.place in omega arith in
    record {
      before = f.before;
      behind = f.behind;
      split = f.split;
      passed = ap (take (place_of v)) f.all ∙ take_at (log_of f.before) f.rest (place_of v) (sym q);
      there = subst (λ (x : Bytes). Says (place_of v) x f.behind v) (sym (ap (drop (place_of v)) f.all ∙ drop_at (log_of f.before) f.rest (place_of v) (sym q))) f.there;
    }
