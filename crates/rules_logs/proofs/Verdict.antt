-- What is said of a log: yes exactly of the log of the expected records; and where something else is said, which first record is at fault.
-- Assumes nothing.
use mathlib.Core.Path.{◌≡◌, refl, sym, ap, subst, ◌∙◌}
use mathlib.Core.Bool.{Bool, true, false, cond, true≢false}
use mathlib.Core.List.{List, [], ◌∷◌, ◌++◌}
use Prim.Native.Nat.{ℕ, zero, suc, ◌+◌, ◌≤◌, ◌<◌}
use native.Mathlib.Omega.{arith}
use lib.Dec.{ltb, eqb}
use lib.ListN.{length, take, drop, get_or, take-append-drop, length-append}
use lib.Seq.{take_at, drop_at, length-take-le}
use borrow.Author.Tests.{eq-eqb, ne_eqb, eqb-false, lt-ltb, le-ltb, ltb-true, ltb-false, eqb-true}
use Rattle.laws.specs.Lists.{same_list}
use Rattle.laws.proofs.Search.{same_true, same_refl}
use Rattle.rules_logs.specs.Records.{Bytes, record_size}
use Rattle.rules_logs.specs.Verdict.{Verdict, yes, unknown, cut_off, missing, too_many, differs, headed, verdict, log_of, IsRecord, AllRecords, Says, ends, is_missing, is_unknown, is_cut, is_over, is_other, passes}

-- lists that are not equal are not the same
same_false : (a b : Bytes) → (a ≡ b → ⊥) → same_list a b ≡ false
same_false a b h = go (same_list a b) refl
  where
    go : (t : Bool) → same_list a b ≡ t → t ≡ false
    go true e = absurd (h (same_true a b e))
    go false e = refl

-- ---- a record that begins here

-- of no kind
head_unknown : (p k left : ℕ) (v : Verdict) → record_size k ≡ 0 → headed p k left v ≡ unknown p
head_unknown p k left v h = rw (eq-eqb (record_size k) 0 h) refl

head_cut : (p k left : ℕ) (v : Verdict) → 0 < record_size k → left < record_size k → headed p k left v ≡ cut_off p
head_cut p k left v h l = rw (ne_eqb (record_size k) 0 (λ e. omega (arith, h, e)), lt-ltb left (record_size k) l) refl

head_whole : (p k left : ℕ) (v : Verdict) → 0 < record_size k → record_size k ≤ left → headed p k left v ≡ v
head_whole p k left v h l = rw (ne_eqb (record_size k) 0 (λ e. omega (arith, h, e)), le-ltb left (record_size k) l) refl

-- ---- what is said is said once

pub said_once : {p : ℕ} {log : Bytes} {es : List Bytes} {v : Verdict} → Says p log es v → verdict p log es ≡ v
unfolding verdict
said_once ends = refl
said_once (is_missing e es) = refl
said_once {p = p} (is_unknown k log [] h) = head_unknown p k _ _ h
said_once {p = p} (is_unknown k log (e ∷ es) h) = head_unknown p k _ _ h
said_once {p = p} (is_cut k log [] h l) = head_cut p k _ _ h l
said_once {p = p} (is_cut k log (e ∷ es) h l) = head_cut p k _ _ h l
said_once {p = p} (is_over k log h l) = head_whole p k _ _ h l
said_once {p = p} (is_other k log e es h l n) = head_whole p k _ _ h l ∙ rw (same_false (take (record_size k) (k ∷ log)) e n) refl
said_once {p = p} (passes [] log es r s) = absurd (omega (arith, r.known))
said_once {p = p} {v = v} (passes (k ∷ e) log es r s) =
    let t : take (record_size k) (k ∷ (e ++ log)) ≡ k ∷ e = take_at (k ∷ e) log (record_size k) r.sized in
    let d : drop (record_size k) (k ∷ (e ++ log)) ≡ log = drop_at (k ∷ e) log (record_size k) r.sized in
    let long : record_size k ≤ length (k ∷ (e ++ log)) = omega (arith, r.sized, length-append (k ∷ e) log) in
    head_whole p k _ _ r.known long
    ∙ rw (t, d, same_refl (k ∷ e)) (subst (λ (m : ℕ). verdict (p + m) log es ≡ v) r.sized (said_once s))

-- ---- something is said of every log

module _ (e : Bytes) (es : List Bytes) (r : IsRecord e) where
  -- a record as expected, whole, at the start of what is left
  pass_on : (p k : ℕ) (log : Bytes) (v : Verdict) → take (record_size k) (k ∷ log) ≡ e → record_size k ≤ length (k ∷ log)
      → Says (p + record_size k) (drop (record_size k) (k ∷ log)) es v → Says p (k ∷ log) (e ∷ es) v
  pass_on p k log v h l s =
      let n : length e ≡ record_size k = ap length (sym h) ∙ length-take-le (record_size k) (k ∷ log) l in
      let w : e ++ drop (record_size k) (k ∷ log) ≡ k ∷ log = rw (← h) (take-append-drop (record_size k) (k ∷ log)) in
      subst (λ (x : Bytes). Says p x (e ∷ es) v) w
      (passes e (drop (record_size k) (k ∷ log)) es r (subst (λ (m : ℕ). Says (p + m) (drop (record_size k) (k ∷ log)) es v) (sym n) s))

pub is_said : (p : ℕ) (log : Bytes) (es : List Bytes) → AllRecords es → Says p log es (verdict p log es)
unfolding verdict
is_said p [] [] rs = ends
is_said p [] (e ∷ es) rs = is_missing e es
is_said p (k ∷ log) [] rs = size (eqb (record_size k) 0) refl
  where
    rest : (b : Bool) → ltb (length (k ∷ log)) (record_size k) ≡ b → 0 < record_size k → Says p (k ∷ log) [] (cond b (cut_off p) (too_many p))
    rest true h n = is_cut k log [] n (ltb-true _ _ h)
    rest false h n = is_over k log n (ltb-false _ _ h)

    size : (b : Bool) → eqb (record_size k) 0 ≡ b → Says p (k ∷ log) [] (cond b (unknown p) (cond (ltb (length (k ∷ log)) (record_size k)) (cut_off p) (too_many p)))
    size true h = is_unknown k log [] (eqb-true _ _ h)
    size false h = rest (ltb (length (k ∷ log)) (record_size k)) refl (let n = eqb-false (record_size k) 0 h in omega (arith, n))
is_said p (k ∷ log) (e ∷ es) rs =
    size (is_said (p + record_size k) (drop (record_size k) (k ∷ log)) es rs.1) (eqb (record_size k) 0) refl
  where
    on : Verdict
    on = verdict (p + record_size k) (drop (record_size k) (k ∷ log)) es

    then : Type 0
    then = Says (p + record_size k) (drop (record_size k) (k ∷ log)) es on

    inner : then → (b : Bool) → same_list (take (record_size k) (k ∷ log)) e ≡ b → 0 < record_size k → record_size k ≤ length (k ∷ log)
        → Says p (k ∷ log) (e ∷ es) (cond b on (differs p))
    inner s true h n l = pass_on e es rs.0 p k log on (same_true _ _ h) l s
    inner s false h n l = is_other k log e es n l (λ q. true≢false (sym (rw q (same_refl e)) ∙ h))

    rest : then → (b : Bool) → ltb (length (k ∷ log)) (record_size k) ≡ b → 0 < record_size k
        → Says p (k ∷ log) (e ∷ es) (cond b (cut_off p) (cond (same_list (take (record_size k) (k ∷ log)) e) on (differs p)))
    rest s true h n = is_cut k log (e ∷ es) n (ltb-true _ _ h)
    rest s false h n = inner s (same_list (take (record_size k) (k ∷ log)) e) refl n (ltb-false _ _ h)

    size : then → (b : Bool) → eqb (record_size k) 0 ≡ b
        → Says p (k ∷ log) (e ∷ es) (cond b (unknown p) (cond (ltb (length (k ∷ log)) (record_size k)) (cut_off p) (cond (same_list (take (record_size k) (k ∷ log)) e) on (differs p))))
    size s true h = is_unknown k log (e ∷ es) (eqb-true _ _ h)
    size s false h = rest s (ltb (length (k ∷ log)) (record_size k)) refl (let n = eqb-false (record_size k) 0 h in omega (arith, n))

-- ---- yes exactly

pub log_passes : (p : ℕ) (es : List Bytes) → AllRecords es → Says p (log_of es) es yes
unfolding log_of
log_passes p [] rs = ends
log_passes p (e ∷ es) rs = passes e (log_of es) es rs.0 (log_passes (p + length e) es rs.1)

pub yes_only : {p : ℕ} {log : Bytes} {es : List Bytes} {v : Verdict} → Says p log es v → v ≡ yes → log ≡ log_of es
unfolding log_of
yes_only ends h = refl
yes_only (is_missing e es) h = absurd (let z : ◌≡◌ {A = ℕ} 0 1 = cc in omega arith)
yes_only (is_unknown k log es n) h = absurd (let z : ◌≡◌ {A = ℕ} 0 1 = cc in omega arith)
yes_only (is_cut k log es n l) h = absurd (let z : ◌≡◌ {A = ℕ} 0 1 = cc in omega arith)
yes_only (is_over k log n l) h = absurd (let z : ◌≡◌ {A = ℕ} 0 1 = cc in omega arith)
yes_only (is_other k log e es n l q) h = absurd (let z : ◌≡◌ {A = ℕ} 0 1 = cc in omega arith)
yes_only (passes e log es r s) h = ap (λ (x : Bytes). e ++ x) (yes_only s h)

-- the checker says yes exactly to the expected records, one after another, and nothing besides
pub yes_exactly : (log : Bytes) (es : List Bytes) → AllRecords es → (verdict 0 log es ≡ yes → log ≡ log_of es) × (log ≡ log_of es → verdict 0 log es ≡ yes)
yes_exactly log es rs = (λ h. yes_only (is_said 0 log es rs) h, λ h. rw h (said_once (log_passes 0 es rs)))
