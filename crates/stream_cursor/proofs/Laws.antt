-- What a step of the alignment leaves room for.
-- Assumes nothing.
use mathlib.Core.Path.{◌≡◌, refl, sym, subst, ◌∙◌}
use mathlib.Core.Bool.{Bool, true, false, cond, ◌||◌, true≢false}
use mathlib.Core.Logic.{◌⊎◌, inl, inr}
use mathlib.Core.List.{List}
use Prim.Native.Nat.{ℕ, ◌+◌, ◌-◌, ◌≤◌}
use native.Mathlib.Omega.{arith}
use borrow.Author.Tests.{leb-true}
use lib.Dec.{leb, ltb, eqb}
use lib.ListN.{length, take, drop, get_or, length-drop}
use lib.Seq.{length-take-le}
use Rattle.laws.specs.Lists.{first_from}
use Rattle.alignment.specs.Alignment.{sync_at, judged_to, sought, head_of, step_of}
use Rattle.alignment.specs.declared.Step.{Step}
use Rattle.alignment.specs.declared.Next.{Next}
use Rattle.alignment.specs.declared.Next.TheVariants.{Packet, Loose, Found, More, Cut, Over}
use Rattle.alignment.proofs.Windows.{used_inside, few_left}
use Rattle.stream_cursor.specs.Cursor.{Inside, NextOk, StepOk, is_packet}
use Rattle.stream_cursor.specs.declared.Cursor.{Cursor}

module _ (w : List ℕ) where
  -- a packet has 188 bytes
  is_long_lem : (passing last : Bool) → ((step_of w passing last).next ≡ Packet) ⊎ ((step_of w passing last).next ≡ Loose) → 188 ≤ length w
  unfolding step_of head_of sought
  is_long_lem true last h = absurd (found (last || ltb (first_from (sync_at w) (judged_to (length w) last) 0) (judged_to (length w) last)) h)
    where
      at : ℕ
      at = first_from (sync_at w) (judged_to (length w) last) 0

      found : (b : Bool) → ((cond {A = Step} b (record { next = Found; used = at }) (record { next = More; used = at })).next ≡ Packet) ⊎ ((cond {A = Step} b (record { next = Found; used = at }) (record { next = More; used = at })).next ≡ Loose) → ⊥
      found true (inl e) = let z : ◌≡◌ {A = ℕ} 0 1 = cc in absurd (omega arith)
      found true (inr e) = let z : ◌≡◌ {A = ℕ} 0 1 = cc in absurd (omega arith)
      found false (inl e) = let z : ◌≡◌ {A = ℕ} 0 1 = cc in absurd (omega arith)
      found false (inr e) = let z : ◌≡◌ {A = ℕ} 0 1 = cc in absurd (omega arith)
  is_long_lem false last h = go (leb 188 (length w)) refl h
    where
      small : Step
      small = cond last (cond (eqb (length w) 0) (record { next = Over; used = 0 }) (record { next = Cut; used = length w })) (record { next = More; used = 0 })

      none : (b z : Bool) → ((cond {A = Step} b (cond z (record { next = Over; used = 0 }) (record { next = Cut; used = length w })) (record { next = More; used = 0 })).next ≡ Packet) ⊎ ((cond {A = Step} b (cond z (record { next = Over; used = 0 }) (record { next = Cut; used = length w })) (record { next = More; used = 0 })).next ≡ Loose) → ⊥
      none true true (inl e) = let z : ◌≡◌ {A = ℕ} 0 1 = cc in absurd (omega arith)
      none true true (inr e) = let z : ◌≡◌ {A = ℕ} 0 1 = cc in absurd (omega arith)
      none true false (inl e) = let z : ◌≡◌ {A = ℕ} 0 1 = cc in absurd (omega arith)
      none true false (inr e) = let z : ◌≡◌ {A = ℕ} 0 1 = cc in absurd (omega arith)
      none false z (inl e) = let z : ◌≡◌ {A = ℕ} 0 1 = cc in absurd (omega arith)
      none false z (inr e) = let z : ◌≡◌ {A = ℕ} 0 1 = cc in absurd (omega arith)

      large : Step
      large = cond (eqb (get_or w 0 0) 0x47) (record { next = Packet; used = 188 }) (record { next = Loose; used = 1 })

      go : (b : Bool) → leb 188 (length w) ≡ b → ((cond {A = Step} b large small).next ≡ Packet) ⊎ ((cond {A = Step} b large small).next ≡ Loose) → 188 ≤ length w
      go true e h = leb-true 188 (length w) e
      go false e h = absurd (none last (eqb (length w) 0) h)

  next_ok : (passing last : Bool) → NextOk (length w) (step_of w passing last).used (step_of w passing last).next
  next_ok passing last = go (step_of w passing last).next refl
    where
      go : (n : Next) → (step_of w passing last).next ≡ n → NextOk (length w) (step_of w passing last).used n
      go Packet e = is_long_lem passing last (inl e)
      go Loose e = is_long_lem passing last (inr e)
      go Found e = tt
      go More e = few_left w passing last e
      go Cut e = tt
      go Over e = tt

  at_length : (n : ℕ) → length w ≡ n → (passing last : Bool) → ((step_of w passing last).used ≤ n) × NextOk n (step_of w passing last).used (step_of w passing last).next
  at_length n e passing last =
      subst (λ (m : ℕ). ((step_of w passing last).used ≤ m) × NextOk m (step_of w passing last).used (step_of w passing last).next) e (used_inside w passing last, next_ok passing last)

pub step_ok :
    (c : Cursor) (block : List ℕ) (s : Step) → length block ≡ 65724 → Inside c →
    s ≡ step_of (take (c.to - c.from) (drop c.from block)) c.passing c.last → StepOk c s
step_ok c block s l i e =
    let q = at_length (take (c.to - c.from) (drop c.from block)) (c.to - c.from) long c.passing c.last in
    rw e (record { used = q.0; next = q.1 })
  where
    long : length (take (c.to - c.from) (drop c.from block)) ≡ c.to - c.from
    long =
        let d = length-drop c.from block in
        let o = i.ordered in
        let n = i.inside in
        length-take-le (c.to - c.from) (drop c.from block) (omega (arith, d, l, o, n))

pub more_few : (c : Cursor) (s : Step) → StepOk c s → s.next ≡ More → c.to - c.from ≤ s.used + 188
more_few c s k e = subst (NextOk (c.to - c.from) s.used) e k.next

-- a packet that was taken out of the block has 188 bytes
pub packet_long : (c : Cursor) (block : List ℕ) → length block ≡ 65724 → Inside c → 188 ≤ c.to - c.from → 188 ≡ length (take (c.from + 188 - c.from) (drop c.from block))
packet_long c block l i h =
    let d = length-drop c.from block in
    let n = i.inside in
    let k : c.from + 188 - c.from ≡ 188 = omega arith in
    sym (length-take-le (c.from + 188 - c.from) (drop c.from block) (omega (arith, d, l, n, h)) ∙ k)

pub packet_there : (c : Cursor) (s : Step) (b : Bool) → StepOk c s → b ≡ is_packet s.next → b ≡ true → 188 ≤ c.to - c.from
packet_there c s b k e h = go s.next (sym e ∙ h) k.next
  where
    go : (n : Next) → is_packet n ≡ true → NextOk (c.to - c.from) s.used n → 188 ≤ c.to - c.from
    go Packet e q = q
    go Loose e q = q
    go Found e q = absurd (true≢false (sym e))
    go More e q = absurd (true≢false (sym e))
    go Cut e q = absurd (true≢false (sym e))
    go Over e q = absurd (true≢false (sym e))
