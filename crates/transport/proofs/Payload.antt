-- One payload that was sent, taken in: what it finishes and what is then under way are those sent.
-- Assumes nothing.
use mathlib.Core.Path.{◌≡◌, refl, sym, ap, ◌∙◌, subst}
use mathlib.Core.Logic.{◌≢◌}
use mathlib.Core.Bool.{Bool, true, false, cond}
use mathlib.Core.List.{List, [], ◌∷◌, ◌++◌, append_assoc, append-nil}
use borrow.Author.Tests.{le-leb}
use Prim.Native.Nat.{ℕ, zero, suc, ◌+◌, ◌≤◌}
use native.Mathlib.Omega.{arith}
use lib.Dec.{leb}
use lib.ListN.{length, take, drop, replicate, length-append}
use lib.Seq.{take-append_seam, drop-append_seam}
use Rattle.transport.specs.Rules.{Bytes, Read, whole, read, found, gather, then, pointed, taken}
use Rattle.transport.specs.Sender.{IsSection, Begins, part, last, full, Carries, goes_on, ends, idle, starts}
use Rattle.transport.proofs.Gather.{goes_on_lem, comes_to_end, one_section, first_part, only_stuffing, not_under}

-- the bytes under way, if there are any, are the front of a section sent, and the rest, not empty, is to come
abbrev pub Good : Bytes → Bytes → Type 0
Good [] rest = Unit {0}
Good (g ∷ gs) rest = IsSection ((g ∷ gs) ++ rest) × (rest ≢ [])

-- what is still to be finished: the section under way, if it is, and those still to begin
abbrev pub due : Bytes → Bytes → List Bytes → List Bytes
due [] rest secs = secs
due (g ∷ gs) rest secs = ((g ∷ gs) ++ rest) ∷ secs

pub record Fine (x : Read) (rest : Bytes) (secs before : List Bytes) : Type 0 where
  pub good : Good x.under rest
  pub same : x.sections ++ due x.under rest secs ≡ before

along : {x y : Read} (rest : Bytes) (secs before : List Bytes) → x ≡ y → Fine y rest secs before → Fine x rest secs before
along rest secs before e f = subst (λ (z : Read). Fine z rest secs before) (sym e) f

under_part : (c r : Bytes) (secs : List Bytes) → c ≢ [] → r ≢ [] → IsSection (c ++ r) → Fine (read [] c) r secs ((c ++ r) ∷ secs)
under_part [] r secs e e' h = absurd (e refl)
under_part (b ∷ bs) r secs e e' h = record { good = (h, e'); same = refl }

begun : {secs secs' : List Bytes} {body r : Bytes} → Begins secs body r secs' → Fine (gather true [] body) r secs' secs
begun (part {secs = secs} c r e e' h) = along r secs ((c ++ r) ∷ secs) (first_part c r h e e') (under_part c r secs e e' h)
begun (last {secs = secs} s k h) =
    along [] secs (s ∷ secs) (one_section s (replicate k 255) h ∙ ap (found s) (only_stuffing true k)) (record { good = tt; same = refl })
begun (full {secs = secs} {secs' = secs'} {body = body} {r = r} s h b) =
    let f = begun b in
    along r secs' (s ∷ secs) (one_section s body h) (record { good = f.good; same = ap (λ (l : List Bytes). s ∷ l) f.same })

-- the rest of the section under way, and then stuffing
tail_end : (u rest : Bytes) (k : ℕ) (secs : List Bytes) → Good u rest → Fine (gather false u (rest ++ replicate k 255)) [] secs (due u rest secs)
tail_end [] rest k secs g = along [] secs secs (not_under (rest ++ replicate k 255)) (record { good = tt; same = refl })
tail_end (b ∷ bs) [] k secs g = absurd (g.1 refl)
tail_end (b ∷ bs) (c ∷ cs) k secs g =
    let s : Bytes = (b ∷ bs) ++ (c ∷ cs) in
    along [] secs (s ∷ secs) (comes_to_end false b bs c cs (replicate k 255) g.0.complete ∙ ap (found s) (only_stuffing false k)) (record { good = tt; same = refl })

middle : (u rest c r : Bytes) (secs : List Bytes) → Good u rest → r ≢ [] → rest ≡ c ++ r → Fine (gather false u c) r secs (due u rest secs)
middle [] rest c r secs g e q = along r secs secs (not_under c) (record { good = tt; same = refl })
middle (b ∷ bs) rest c r secs g e q =
    let h : IsSection ((b ∷ bs) ++ (c ++ r)) = rw (← q) g.0 in
    let p : ((b ∷ bs) ++ c) ++ r ≡ (b ∷ bs) ++ rest = append_assoc (b ∷ bs) c r ∙ ap (λ (x : Bytes). (b ∷ bs) ++ x) (sym q) in
    along r secs (((b ∷ bs) ++ rest) ∷ secs) (goes_on_lem false b bs c r h.complete e)
    (record { good = (rw p g.0, e); same = ap {B = List Bytes} (λ (x : Bytes). x ∷ secs) p })

both : (x y : Read) (rest : Bytes) (secs mid before : List Bytes) → Fine x [] mid before → x.under ≡ [] → Fine y rest secs mid → Fine (then x y) rest secs before
both x y rest secs mid before f e g = record {
  good = g.good;
  same = append_assoc x.sections y.sections (due y.under rest secs) ∙ ap (λ (l : List Bytes). x.sections ++ l) g.same
      ∙ sym (ap (λ (u : Bytes). x.sections ++ due u [] mid) e) ∙ f.same;
}

-- the rest of the section under way, up to the pointer
pub record Ended (u rest : Bytes) (secs : List Bytes) : Type 0 where
  pub none_under : (gather false u rest).under ≡ []
  pub fine : Fine (gather false u rest) [] secs (due u rest secs)

ended : (u rest : Bytes) (secs : List Bytes) → Good u rest → Ended u rest secs
ended [] rest secs g = record {
  none_under = ap (λ (z : Read). z.under) (not_under rest);
  fine = along [] secs secs (not_under rest) (record { good = tt; same = refl });
}
ended (b ∷ bs) [] secs g = absurd (g.1 refl)
ended (b ∷ bs) (c ∷ cs) secs g =
    let s : Bytes = (b ∷ bs) ++ (c ∷ cs) in
    let q : gather false (b ∷ bs) (c ∷ (cs ++ [])) ≡ found s (read [] []) = comes_to_end false b bs c cs [] g.0.complete ∙ ap (found s) (not_under []) in
    let p : gather false (b ∷ bs) (c ∷ cs) ≡ found s (read [] []) = rw (append-nil cs) at q in
    record { none_under = ap (λ (z : Read). z.under) p; fine = along [] secs (s ∷ secs) p (record { good = tt; same = refl }) }

fits : (r body : Bytes) → leb (length r) (length (r ++ body)) ≡ true
fits r body = le-leb (length r) (length (r ++ body)) (omega (arith, length-append r body))

opens : (u rest body r : Bytes) (secs secs' : List Bytes) → Good u rest → Begins secs body r secs' → Fine (pointed u (length rest) (rest ++ body)) r secs' (due u rest secs)
unfolding pointed
opens u rest body r secs secs' g b =
    let e = ended u rest secs g in
    rw (fits rest body, take-append_seam rest body, drop-append_seam rest body)
    (both (gather false u rest) (gather true [] body) r secs' secs (due u rest secs) e.fine e.none_under (begun b))

only_idle : (u rest : Bytes) (k : ℕ) (secs : List Bytes) → Good u rest → rest ≡ [] → Fine (gather false u (replicate k 255)) [] secs (due u rest secs)
only_idle [] rest k secs g e = along [] secs secs (only_stuffing false k) (record { good = tt; same = refl })
only_idle (b ∷ bs) rest k secs g e = absurd (g.1 e)

pub carried : (u rest : Bytes) (secs : List Bytes) {start : Bool} {payload r : Bytes} {secs' : List Bytes} → Good u rest → Carries rest secs start payload r secs'
    → Fine (taken u start payload) r secs' (due u rest secs)
unfolding taken
carried u rest secs g (goes_on c r e e' q) = middle u rest c r secs g e' q
carried u rest secs g (ends k e) = tail_end u rest k secs g
carried u rest secs g (idle k e) = only_idle u rest k secs g e
carried u rest secs g (starts {body = body} {r = r} {secs' = secs'} b) = opens u rest body r secs secs' g b
