-- A payload start is read as if nothing was lost: from any state, what it and all later packets finish is what they finish
-- from opening on, behind at most one section, the one that was under way.
-- Assumes nothing.
use mathlib.Core.Path.{◌≡◌, refl, sym, ap, ◌∙◌, subst}
use mathlib.Core.Bool.{Bool, true, false, cond, true≢false}
use mathlib.Core.Option.{Option, none, some}
use mathlib.Core.List.{List, [], ◌∷◌, ◌++◌, append_assoc}
use borrow.Author.Tests.{eq-eqb}
use Prim.Native.Nat.{ℕ, zero, suc, ◌+◌, ◌*◌, ◌≤◌, ◌<◌}
use native.Mathlib.Omega.{arith}
use lib.Dec.{leb}
use lib.ListN.{length, take, drop, length-append, length-drop}
use Rattle.transport.specs.Rules.{Bytes, Read, read, Packet, State, whole, stops, gather, then, pointed, taken, settle, ignored, judged, repeats, follows, step, run, opened}
use Rattle.transport.specs.Sender.{packet, Sending, Sent, all_of}
use Rattle.transport.proofs.Gather.{not_under}
use Rattle.transport.proofs.Promise.{all_finished}

-- where no section may begin, at most one ends
at_most_one : (got bs : Bytes) → length (gather false got bs).sections ≤ 1
unfolding gather
at_most_one got [] = omega arith
at_most_one got (b ∷ bs) = go (stops false got b) (whole (got ++ (b ∷ []))) (at_most_one (got ++ (b ∷ [])) bs)
  where
    none_more : length (gather false [] bs).sections ≡ 0
    none_more = ap (λ (r : Read). length r.sections) (not_under bs)

    go : (p q : Bool) → length (gather false (got ++ (b ∷ [])) bs).sections ≤ 1
        → length (cond p (read [] []) (cond q (record { sections = (got ++ (b ∷ [])) ∷ (gather false [] bs).sections; under = (gather false [] bs).under }) (gather false (got ++ (b ∷ [])) bs))).sections ≤ 1
    go true q ih = omega arith
    go false true ih = omega (arith, none_more)
    go false false ih = ih

long_enough : (s : Bytes) → whole s ≡ true → 3 ≤ length s
unfolding whole
long_enough [] e = absurd (true≢false (sym e))
long_enough (x ∷ []) e = absurd (true≢false (sym e))
long_enough (x ∷ y ∷ []) e = absurd (true≢false (sym e))
long_enough (x ∷ y ∷ z ∷ s) e = omega arith

-- a section has 3 bytes or more
three_each : (begin : Bool) (got bs : Bytes) → length (gather begin got bs).sections * 3 ≤ length got + length bs
unfolding gather
three_each begin got [] = omega arith
three_each begin got (b ∷ bs) = go (stops begin got b) (whole (got ++ (b ∷ []))) refl (three_each begin [] bs) (three_each begin (got ++ (b ∷ [])) bs)
  where
    more : Bytes
    more = got ++ (b ∷ [])

    go : (p q : Bool) → whole more ≡ q → length (gather begin [] bs).sections * 3 ≤ 0 + length bs → length (gather begin more bs).sections * 3 ≤ length more + length bs
        → length (cond p (read [] []) (cond q (record { sections = more ∷ (gather begin [] bs).sections; under = (gather begin [] bs).under }) (gather begin more bs))).sections * 3
        ≤ length got + suc (length bs)
    go true q e i j = omega arith
    go false true e i j = omega (arith, i, long_enough more e, length-append got (b ∷ []))
    go false false e i j = omega (arith, j, length-append got (b ∷ []))

-- each section that ends has a byte there
byte_each : (begin : Bool) (got bs : Bytes) → length (gather begin got bs).sections ≤ length bs
unfolding gather
byte_each begin got [] = omega arith
byte_each begin got (b ∷ bs) = go (stops begin got b) (whole (got ++ (b ∷ []))) (byte_each begin [] bs) (byte_each begin (got ++ (b ∷ [])) bs)
  where
    more : Bytes
    more = got ++ (b ∷ [])

    go : (p q : Bool) → length (gather begin [] bs).sections ≤ length bs → length (gather begin more bs).sections ≤ length bs
        → length (cond p (read [] []) (cond q (record { sections = more ∷ (gather begin [] bs).sections; under = (gather begin [] bs).under }) (gather begin more bs))).sections ≤ suc (length bs)
    go true q i j = omega arith
    go false true i j = omega (arith, i)
    go false false i j = omega (arith, j)

take_short : (p : ℕ) (bs : Bytes) → length (take p bs) ≤ p
take_short zero bs = omega arith
take_short (suc p) [] = omega arith
take_short (suc p) (b ∷ bs) = omega (arith, take_short p bs)

-- one payload of at most 184 bytes finishes at most 61 sections
pub at_most_61 : (u : Bytes) (start : Bool) (payload : Bytes) → length payload ≤ 184 → length (taken u start payload).sections ≤ 61
unfolding taken pointed
at_most_61 u false bs h = omega (arith, at_most_one u bs)
at_most_61 u true [] h = omega arith
at_most_61 u true (p ∷ bs) h = go (leb p (length bs))
  where
    x : Read
    x = gather false u (take p bs)

    y : Read
    y = gather true [] (drop p bs)

    go : (b : Bool) → length (cond b (then x y) (read [] [])).sections ≤ 61
    go true = omega (arith, length-append x.sections y.sections, at_most_one u (take p bs), byte_each false u (take p bs), take_short p bs, three_each true [] (drop p bs), length-drop p bs)
    go false = omega arith

-- a payload with a start, whatever was under way
pub record Anew (u payload : Bytes) : Type 0 where
  pub first : List Bytes
  pub one : length first ≤ 1
  pub sections : (taken u true payload).sections ≡ first ++ (taken [] true payload).sections
  pub under : (taken u true payload).under ≡ (taken [] true payload).under

pub anew : (u payload : Bytes) → Anew u payload
unfolding taken pointed
anew u [] = record { first = []; one = omega arith; sections = refl; under = refl }
anew u (p ∷ bs) = go (leb p (length bs)) refl
  where
    first : Read
    first = gather false u (take p bs)

    go : (b : Bool) → leb p (length bs) ≡ b → Anew u (p ∷ bs)
    go true e = record {
      first = first.sections;
      one = at_most_one u (take p bs);
      sections = rw (e, not_under (take p bs)) refl;
      under = rw e refl;
    }
    go false e = record { first = []; one = omega arith; sections = rw e refl; under = rw e refl }

pub record Restarts (s : State) (c : ℕ) (payload : Bytes) (qs : List Packet) : Type 0 where
  pub first : List Bytes
  pub one : length first ≤ 1
  pub same : run s (packet c true payload ∷ qs) ≡ first ++ run opened (packet c true payload ∷ qs)

pub restarts : (s : State) (c : ℕ) (payload : Bytes) (qs : List Packet) → repeats s.last s.again c ≡ false → Restarts s c payload qs
unfolding run step judged opened repeats follows settle
restarts s c payload qs e = go (follows s.last c) refl
  where
    go : (b : Bool) → follows s.last c ≡ b → Restarts s c payload qs
    go true f =
        let a = anew s.under payload in
        record { first = a.first; one = a.one; same = rw (e, f, a.sections, a.under) (append_assoc a.first (taken [] true payload).sections _) }
    go false f = record { first = []; one = omega arith; same = rw (e, f) refl }

-- From any state, a payload start that is not taken for a repeat, and then no loss: every section that begins there or later is finished, behind at most one
pub after_loss : {n : ℕ} {rest : Bytes} {secs : List Bytes} {ps : List Sending} {qs : List Packet} (s : State) (payload : Bytes) → n < 16 → Sent n rest secs ps → all_of ps ≡ packet n true payload ∷ qs
    → repeats s.last s.again n ≡ false → (first : List Bytes) × (length first ≤ 1) × (run s (all_of ps) ≡ first ++ secs)
after_loss {n = n} {secs = secs} {ps = ps} {qs = qs} s payload h t q e =
    let r = restarts s n payload qs e in
    (r.first, r.one, ap (run s) q ∙ r.same ∙ ap (λ (l : List Bytes). r.first ++ l) (sym (ap (run opened) q) ∙ all_finished h t))

-- the packet that came last, not repeated yet, comes again: it finishes nothing and leaves the bytes under way; that it was repeated is all that changes
pub repeat_ignored : (s : State) (p : Packet) → s.last ≡ some p.counter → s.again ≡ false → step s p ≡ ignored s
unfolding step judged repeats
repeat_ignored s p e a = rw (e, a, eq-eqb p.counter p.counter refl) refl
