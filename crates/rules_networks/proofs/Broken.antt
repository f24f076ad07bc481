-- 36 comes exactly where something does not end where its length says, and its place is the first such in byte order.
-- Assumes nothing.
use mathlib.Core.Path.{◌≡◌, refl, sym, ap, ◌∙◌, subst}
use mathlib.Core.Logic.{◌≢◌, ◌⊎◌, inl, inr}
use mathlib.Core.Bool.{Bool, true, false, cond, ◌||◌, true≢false}
use Prim.Native.Nat.{ℕ, zero, suc, ◌+◌, ◌*◌, ◌-◌, ◌≤◌, ◌<◌}
use native.Mathlib.Omega.{arith}
use mathlib.Core.List.{List, [], ◌∷◌, ◌++◌}
use lib.ListN.{length, take, drop, length-append}
use lib.Dec.{ltb, eqb}
use borrow.Author.Tests.{ltb-true, ltb-false, eqb-true, eqb-false, ne_eqb}
use Rattle.listing.specs.Rules.{Part, Item, Breaks, breaks_short, breaks_past, breaks_later, RunsPast}
use Rattle.listing.specs.Store.{Found}
use Rattle.listing.proofs.Parts.{Judged, is_laid, is_broken, judged}
use Rattle.rules_networks.specs.Networks.{length_wrong, crc_at, first_length, second_at, loop_length, first_loop, stream_loop, service_loop, network_found, streams_found, services_found, broken_in, first_of, nit_broken, sdt_broken}
use Rattle.rules_networks.specs.Networks.{NitBreaks, nit_length, no_lengths, no_second, first_past, second_ends, stream_past, SdtBreaks, sdt_length, no_services, service_past}
use Rattle.rules_networks.proofs.Listed.{past_told, PastLoop, loop_past}
use Rattle.rules_networks.proofs.Sdt.{sdt_passed}
use Rattle.rules_networks.proofs.Nit.{first_long, laid_found, broken_found, Passed, nit_passed}

-- the place is one of those, and the first
pub record First (Breaks : ℕ → Type 0) (place : ℕ) : Type 0 where
  pub there : Breaks place
  pub least : (q : ℕ) → Breaks q → place ≤ q

-- ---- NIT and BAT

inside : {m n : ℕ} {s : List ℕ} {parts : List Part} {place : ℕ} → 1 ≤ n → Breaks m n s parts place → place < length s
inside h (breaks_short s z l) = z
inside h (breaks_past header rest e l) = omega (arith, length-append header rest)
inside h (breaks_later header body {rest} {parts} {place} e f b) =
    let i = inside h b in
    let z : length (header ++ (body ++ rest)) ≡ length header + (length body + length rest) = length-append header (body ++ rest) ∙ ap (λ (k : ℕ). length header + k) (length-append body rest) in
    omega arith

pub record FirstPast (s : List ℕ) (fault : ℕ) : Type 0 where
  pub parts : List Part
  pub place : ℕ
  pub breaks : Breaks 1 2 (first_loop s) parts place
  pub told : fault ≡ suc (10 + place)

module _ (s : List ℕ) where
  first_of_lem : second_at s ≤ length s → (fault : ℕ) → broken_in (network_found s) ≡ suc fault → Judged 1 2 (first_loop s) → FirstPast s (suc fault)
  first_of_lem h fault e (is_laid ds d) = absurd (let q = laid_found s h ds d in omega arith)
  first_of_lem h fault e (is_broken ds place d) = record { parts = ds; place = place; breaks = d; told = sym e ∙ broken_found s h ds place d }

  -- where the first two lines pass, with what the first loop comes to
  pub record Passes (first : ℕ) : Type 0 where
    pub exact : length_wrong s ≡ false
    pub long : 16 ≤ length s
    pub room : second_at s + 2 ≤ crc_at s
    pub comes : broken_in (network_found s) ≡ first

  -- nothing of the first three, and of the fourth only what is told
  early : (first q : ℕ) → Passes first → NitBreaks s q → (first ≡ suc q) ⊎ (second_at s ≤ q)
  early first q p (nit_length e) = absurd (true≢false (sym e ∙ p.exact))
  early first q p (no_lengths l) = absurd (let h = p.long in omega arith)
  early first q p (no_second l) = absurd (let h = p.room in omega arith)
  early first q p (first_past {parts} {place} b) = inl (let h = p.long in let r = p.room in sym p.comes ∙ broken_found s (omega arith) parts place b)
  early first q p (second_ends n) = inr (omega arith)
  early first q p (stream_past {items} {place} w) = inr (omega arith)

  first_least : (fault : ℕ) → Passes (suc fault) → First (NitBreaks s) fault
  first_least fault p =
      let h = p.long in
      let r = p.room in
      let f = first_of_lem (omega arith) fault p.comes (judged 1 2 (omega arith) (first_loop s)) in
      let i = inside (omega arith) f.breaks in
      let l = first_long s (omega arith) in
      let e : fault ≡ 10 + f.place = let t = f.told in omega arith in
      record {
        there = subst (NitBreaks s) (sym e) (first_past f.breaks);
        least = λ (q : ℕ) (b : NitBreaks s q). go fault e i l q (early (suc fault) q p b);
      }
    where
      go : (fault : ℕ) {place : ℕ} → fault ≡ 10 + place → place < length (first_loop s) → length (first_loop s) ≡ first_length s → (q : ℕ) → (suc fault ≡ suc q) ⊎ (second_at s ≤ q) → fault ≤ q
      go fault e i l q (inl z) = omega arith
      go fault e i l q (inr z) = omega arith

  -- the first loop holds, so nothing stands before the second length
  late : (q : ℕ) → Passes 0 → NitBreaks s q → second_at s ≤ q
  late q p b = go (early 0 q p b)
    where
      go : (0 ≡ suc q) ⊎ (second_at s ≤ q) → second_at s ≤ q
      go (inl z) = absurd (omega arith)
      go (inr z) = z

  second_least : Passes 0 → second_at s + 2 + loop_length s ≢ crc_at s → First (NitBreaks s) (second_at s)
  second_least p n = record { there = second_ends n; least = λ (q : ℕ) (b : NitBreaks s q). late q p b }

  -- both lengths hold: only a transport stream or its descriptor is left, at one place
  streams_only : (fault q : ℕ) → Passes 0 → second_at s + 2 + loop_length s ≡ crc_at s → broken_in (streams_found s) ≡ fault → NitBreaks s q → fault ≡ suc q
  streams_only fault q p e f (nit_length w) = absurd (true≢false (sym w ∙ p.exact))
  streams_only fault q p e f (no_lengths l) = absurd (let h = p.long in omega arith)
  streams_only fault q p e f (no_second l) = absurd (let h = p.room in omega arith)
  streams_only fault q p e f (first_past {parts} {place} b) =
      absurd (let h = p.long in let r = p.room in let z = p.comes in let y = broken_found s (omega arith) parts place b in omega arith)
  streams_only fault q p e f (second_ends n) = absurd (n e)
  streams_only fault q p e f (stream_past w) = sym f ∙ past_told 6 (omega arith) (take (second_at s + 2 + loop_length s) s) (second_at s + 2) w

  stream_least : (fault : ℕ) → Passes 0 → second_at s + 2 + loop_length s ≡ crc_at s → broken_in (streams_found s) ≡ suc fault → First (NitBreaks s) fault
  stream_least fault p e f =
      let w = loop_past 6 (omega arith) (take (second_at s + 2 + loop_length s) s) (second_at s + 2) fault f in
      let z : fault ≡ second_at s + 2 + w.place = let t = w.told in omega arith in
      record {
        there = subst (NitBreaks s) (sym z) (stream_past w.runs);
        least = λ (q : ℕ) (b : NitBreaks s q). let y = streams_only (suc fault) q p e f b in omega arith;
      }

  -- ---- which line of the table applies

  by_second : (fault : ℕ) → Passes 0 → (d : Bool) → eqb (second_at s + 2 + loop_length s) (crc_at s) ≡ d → cond d (broken_in (streams_found s)) (suc (second_at s)) ≡ suc fault → First (NitBreaks s) fault
  by_second fault p true d e = stream_least fault p (eqb-true (second_at s + 2 + loop_length s) (crc_at s) d) e
  by_second fault p false d e =
      subst (First (NitBreaks s)) (let z : second_at s ≡ fault = omega arith in z) (second_least p (eqb-false (second_at s + 2 + loop_length s) (crc_at s) d))

  by_first : (fault n : ℕ) → Passes n → first_of n (cond (eqb (second_at s + 2 + loop_length s) (crc_at s)) (broken_in (streams_found s)) (suc (second_at s))) ≡ suc fault → First (NitBreaks s) fault
  by_first fault zero p e = by_second fault p (eqb (second_at s + 2 + loop_length s) (crc_at s)) refl e
  by_first fault (suc n) p e =
      let q : eqb (suc n) 0 ≡ false = ne_eqb (suc n) 0 (λ (z : suc n ≡ 0). omega arith) in
      let r : suc n ≡ suc fault = rw q at e in
      first_least fault (subst Passes r p)

  length_least : length_wrong s ≡ true → First (NitBreaks s) 1
  length_least w = record { there = nit_length w; least = least }
    where
      least : (q : ℕ) → NitBreaks s q → 1 ≤ q
      least q (nit_length e) = omega arith
      least q (no_lengths l) = omega arith
      least q (no_second l) = omega arith
      least q (first_past b) = omega arith
      least q (second_ends n) = omega arith
      least q (stream_past b) = omega arith

  room_least : length_wrong s ≡ false → NitBreaks s 8 → First (NitBreaks s) 8
  room_least w b = record { there = b; least = least }
    where
      least : (q : ℕ) → NitBreaks s q → 8 ≤ q
      least q (nit_length e) = absurd (true≢false (sym e ∙ w))
      least q (no_lengths l) = omega arith
      least q (no_second l) = omega arith
      least q (first_past b) = omega arith
      least q (second_ends n) = omega arith
      least q (stream_past b) = omega arith

  by_room : (fault : ℕ) → length_wrong s ≡ false → (b c : Bool) → ltb (length s) 16 ≡ b → ltb (crc_at s) (second_at s + 2) ≡ c
      → cond (b || c) 9 (first_of (broken_in (network_found s)) (cond (eqb (second_at s + 2 + loop_length s) (crc_at s)) (broken_in (streams_found s)) (suc (second_at s)))) ≡ suc fault → First (NitBreaks s) fault
  by_room fault w true c x y e = subst (First (NitBreaks s)) (let z : 8 ≡ fault = omega arith in z) (room_least w (no_lengths (ltb-true (length s) 16 x)))
  by_room fault w false true x y e = subst (First (NitBreaks s)) (let z : 8 ≡ fault = omega arith in z) (room_least w (no_second (ltb-true (crc_at s) (second_at s + 2) y)))
  by_room fault w false false x y e =
      by_first fault (broken_in (network_found s)) (record { exact = w; long = ltb-false (length s) 16 x; room = ltb-false (crc_at s) (second_at s + 2) y; comes = refl }) e

  by_length : (fault : ℕ) (b : Bool) → length_wrong s ≡ b
      → cond b 2 (cond (ltb (length s) 16 || ltb (crc_at s) (second_at s + 2)) 9 (first_of (broken_in (network_found s)) (cond (eqb (second_at s + 2 + loop_length s) (crc_at s)) (broken_in (streams_found s)) (suc (second_at s))))) ≡ suc fault
      → First (NitBreaks s) fault
  by_length fault true w e = subst (First (NitBreaks s)) (let z : 1 ≡ fault = omega arith in z) (length_least w)
  by_length fault false w e = by_room fault w (ltb (length s) 16) (ltb (crc_at s) (second_at s + 2)) refl refl e

  -- the place of 36 is the first in byte order
  pub nit_first_broken : (place : ℕ) → nit_broken s ≡ suc place → First (NitBreaks s) place
  unfolding nit_broken
  nit_first_broken place e = by_length place (length_wrong s) refl e

  -- and where it does not come, everything ends where its length says
  pub nit_none_broken : nit_broken s ≡ 0 → (q : ℕ) → NitBreaks s q → ⊥
  nit_none_broken e q b =
      let p = nit_passed s e in
      let z = streams_only 0 q (record { exact = p.exact; long = p.long; room = p.room; comes = p.first }) p.ends p.second b in
      omega arith

-- ---- SDT

module _ (s : List ℕ) where
  sdt_early : (fault q : ℕ) → length_wrong s ≡ false → 15 ≤ length s → broken_in (services_found s) ≡ fault → SdtBreaks s q → fault ≡ suc q
  sdt_early fault q w l f (sdt_length e) = absurd (true≢false (sym e ∙ w))
  sdt_early fault q w l f (no_services h) = absurd (omega arith)
  sdt_early fault q w l f (service_past b) = sym f ∙ past_told 5 (omega arith) (take (crc_at s) s) 11 b

  sdt_by : (fault : ℕ) (b c : Bool) → length_wrong s ≡ b → ltb (length s) 15 ≡ c → cond b 2 (cond c 12 (broken_in (services_found s))) ≡ suc fault → First (SdtBreaks s) fault
  sdt_by fault true c w l e = subst (First (SdtBreaks s)) (let z : 1 ≡ fault = omega arith in z) (record { there = sdt_length w; least = least })
    where
      least : (q : ℕ) → SdtBreaks s q → 1 ≤ q
      least q (sdt_length e) = omega arith
      least q (no_services l) = omega arith
      least q (service_past b) = omega arith
  sdt_by fault false true w l e = subst (First (SdtBreaks s)) (let z : 11 ≡ fault = omega arith in z) (record { there = no_services (ltb-true (length s) 15 l); least = least })
    where
      least : (q : ℕ) → SdtBreaks s q → 11 ≤ q
      least q (sdt_length e) = absurd (true≢false (sym e ∙ w))
      least q (no_services l) = omega arith
      least q (service_past b) = omega arith
  sdt_by fault false false w l e =
      let p = loop_past 5 (omega arith) (take (crc_at s) s) 11 fault e in
      let z : fault ≡ 11 + p.place = let t = p.told in omega arith in
      record {
        there = subst (SdtBreaks s) (sym z) (service_past p.runs);
        least = λ (q : ℕ) (b : SdtBreaks s q). let y = sdt_early (suc fault) q w (ltb-false (length s) 15 l) e b in omega arith;
      }

  pub sdt_first_broken : (place : ℕ) → sdt_broken s ≡ suc place → First (SdtBreaks s) place
  unfolding sdt_broken
  sdt_first_broken place e = sdt_by place (length_wrong s) (ltb (length s) 15) refl refl e

  pub sdt_none_broken : sdt_broken s ≡ 0 → (q : ℕ) → SdtBreaks s q → ⊥
  unfolding sdt_broken
  sdt_none_broken e q b =
      let p = sdt_passed s e in
      let z = sdt_early 0 q p.0 p.1 p.2 b in
      omega arith
