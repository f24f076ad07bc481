-- What 10, 11 and 37 say does not hang on the packet: where they let one pass, they let every one pass until the count of packets is near its end.
-- Assumes nothing.
use mathlib.Core.Path.{◌≡◌, refl, sym, ap, ◌∙◌}
use mathlib.Core.Bool.{Bool, true, false, cond, ◌||◌}
use mathlib.Core.List.{List}
use Prim.Native.Nat.{ℕ, ◌≤◌, ◌<◌}
use native.Mathlib.Omega.{arith}
use lib.Dec.{ltb}
use lib.ListN.{length}
use borrow.Author.Tests.{leb-false}
use Rattle.laws.proofs.Tests.{or_false}
use Rattle.answers.specs.declared.Refusal.{Refusal}
use Rattle.answers.specs.declared.Refusal.TheVariants.{NotWhole, CounterFull, BadInput}
use Rattle.counters.specs.declared.Counters.{Counters}
use Rattle.gate_state.specs.declared.Gate.{Gate}
use Rattle.pats.specs.Store.{Record}
use Rattle.streams.specs.declared.Streams.{Streams}
use Rattle.passing.specs.Passing.{Looks}
use Rattle.demux_state.specs.State.{is_near, any_near, near_end}
use Rattle.demux_packets.specs.declared.Plan.{Plan}
use Rattle.demux_packets.specs.Plans.{plan_of}
use Rattle.demux_judge.specs.Verdicts.{Verdict}
use Rattle.std.specs.Prelude.{Err, Ok}
use Rattle.demux_judge.specs.Verdicts.{whole_with, pat_count, verdict_of}
use Rattle.demux_judge.proofs.Laws.{lends}
use Rattle.demux_pass.specs.Passing.{is_passed, CanPass}

module _ (g : Gate) (c : Counters) (keys changes : ℕ) (r : Record) (buffers input places : ℕ) where
  abbrev pub verdict_at : Streams → (pids packet : List ℕ) → Verdict
  verdict_at t pids packet = verdict_of g c t keys changes r pids buffers input packet places

  abbrev pats : ℕ
  pats = pat_count g.follow r.words

  pub record Ready (t : Streams) (size : ℕ) : Type 0 where
    pub whole : whole_with g t keys changes r size buffers places ≡ true
    pub far : near_end c t pats ≡ false
    pub known : ltb input 16 ≡ true

  pub ready : (t : Streams) (pids packet : List ℕ) (p : Plan) → verdict_at t pids packet ≡ Ok p → Ready t (length pids)
  unfolding verdict_of
  ready t pids packet p = go (whole_with g t keys changes r (length pids) buffers places) (near_end c t pats) (ltb input 16) refl refl refl
    where
      go : (a b d : Bool) → whole_with g t keys changes r (length pids) buffers places ≡ a → near_end c t pats ≡ b → ltb input 16 ≡ d
          → cond a (cond b (Err CounterFull) (cond d (Ok (plan_of r.words t.count pids packet)) (Err BadInput))) (Err NotWhole) ≡ Ok p → Ready t (length pids)
      go true false true x y z e = record { whole = x; far = y; known = z }
      go true false false x y z e = let q : ◌≡◌ {A = ℕ} 0 1 = cc in absurd (omega arith)
      go true true d x y z e = let q : ◌≡◌ {A = ℕ} 0 1 = cc in absurd (omega arith)
      go false b d x y z e = let q : ◌≡◌ {A = ℕ} 0 1 = cc in absurd (omega arith)

  pub none_passes : (t : Streams) (pids p q : List ℕ) (x : Refusal) → verdict_at t pids p ≡ Err x → is_passed (verdict_at t pids q) ≡ false
  unfolding verdict_of is_passed
  none_passes t pids p q x = go (whole_with g t keys changes r (length pids) buffers places) (near_end c t pats) (ltb input 16)
    where
      go : (a b d : Bool) → cond a (cond b (Err CounterFull) (cond d (Ok (plan_of r.words t.count pids p)) (Err BadInput))) (Err NotWhole) ≡ Err x
          → is_passed (cond a (cond b (Err CounterFull) (cond d (Ok (plan_of r.words t.count pids q)) (Err BadInput))) (Err NotWhole)) ≡ false
      go true false true e = let q : ◌≡◌ {A = ℕ} 0 1 = cc in absurd (omega arith)
      go true false false e = refl
      go true true d e = refl
      go false b d e = refl

  module _ (t : Streams) (size : ℕ) (x : Ready t size) where
    abbrev at : ℕ → Streams
    at n = record { count = t.count; packets = n; malformed = t.malformed }

    near_as : (n : ℕ) (b : Bool) → is_near n ≡ b → near_end c (at n) pats ≡ b
    near_as n b h =
        let e₃ = or_false (any_near c || is_near t.packets || is_near t.malformed) (is_near pats) x.far in
        let e₂ = or_false (any_near c || is_near t.packets) (is_near t.malformed) e₃.0 in
        let e₁ = or_false (any_near c) (is_near t.packets) e₂.0 in
        (λ i. e₁.0 i || h i || e₂.1 i || e₃.1 i) ∙ go b
      where
        go : (b : Bool) → (false || b || false || false) ≡ b
        go true = refl
        go false = refl

    pub goes_at : (n : ℕ) (pids packet : List ℕ) → is_near n ≡ false → length pids ≡ size → verdict_at (at n) pids packet ≡ Ok (plan_of r.words t.count pids packet)
    unfolding verdict_of
    goes_at n pids packet f l =
        let w : whole_with g (at n) keys changes r (length pids) buffers places ≡ true = ap (λ (k : ℕ). whole_with g (at n) keys changes r k buffers places) l ∙ x.whole in
        λ i. cond (w i) (cond (near_as n false f i) (Err CounterFull) (cond (x.known i) (Ok (plan_of r.words t.count pids packet)) (Err BadInput))) (Err NotWhole)

    pub ends_at : (n : ℕ) (pids packet : List ℕ) → is_near n ≡ true → is_passed (verdict_at (at n) pids packet) ≡ false
    unfolding verdict_of is_passed
    ends_at n pids packet h =
        ap (λ (b : Bool). is_passed (cond (whole_with g (at n) keys changes r (length pids) buffers places) (cond b (Err CounterFull) (cond (ltb input 16) (Ok (plan_of r.words t.count pids packet)) (Err BadInput))) (Err NotWhole)))
        (near_as n true h)
        ∙ go (whole_with g (at n) keys changes r (length pids) buffers places)
      where
        go : (b : Bool) → is_passed (cond b (Err CounterFull) (Err NotWhole)) ≡ false
        go true = refl
        go false = refl

    pub counts : t.packets < 18446744073709551551
    counts =
        let e₃ = or_false (any_near c || is_near t.packets || is_near t.malformed) (is_near pats) x.far in
        let e₂ = or_false (any_near c || is_near t.packets) (is_near t.malformed) e₃.0 in
        let e₁ = or_false (any_near c) (is_near t.packets) e₂.0 in
        leb-false 18446744073709551551 t.packets e₁.1

  pub can_pass : (t : Streams) (pids packet : List ℕ) (p : Plan) (v : Verdict) → v ≡ verdict_at t pids packet → v ≡ Ok p → CanPass t r.words pids
  can_pass t pids packet p v e h =
      let x = ready t pids packet p (sym e ∙ h) in
      let l = lends g c t keys changes r pids buffers input packet places true (sym x.whole) refl in
      record { looks = record { set = l.set; words = l.words }; counts = counts t (length pids) x }
