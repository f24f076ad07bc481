-- One law for each way out of a function, and what is so of a packet that is counted.
-- Assumes nothing.
use mathlib.Core.Path.{◌≡◌, refl, sym, ap, ◌∙◌}
use mathlib.Core.Bool.{Bool, true, false, cond, not, ◌&&◌, true≢false}
use mathlib.Core.List.{List}
use Prim.Native.Nat.{ℕ, ◌*◌, ◌≤◌, ◌<◌, max}
use native.Mathlib.Omega.{arith}
use lib.Dec.{leb, ltb}
use lib.ListN.{length, get_or}
use borrow.Author.Tests.{lt-ltb, le-ltb, le-leb, leb-true, ltb-true, not-true, not-false}
use Rattle.laws.proofs.Tests.{and_true, true_and}
use Rattle.answers.specs.declared.Refusal.TheVariants.{NotWhole, CounterFull, BadInput}
use Rattle.counters.specs.declared.Counters.{Counters}
use Rattle.gate_state.specs.State.{by_tables}
use Rattle.gate_state.specs.declared.Follow.{Follow}
use Rattle.gate_state.specs.declared.Gate.{Gate}
use Rattle.gate.specs.Store.{whole_of}
use Rattle.gate.proofs.Laws.{fits}
use Rattle.pats.specs.Store.{Record, record_of, pats_whole, pat_clock}
use Rattle.pats.proofs.Laws.{whole_long}
use Rattle.streams.specs.Store.{are_enough}
use Rattle.streams.specs.declared.Streams.{Streams}
use Rattle.demux_state.specs.State.{near_end, Spares}
use Rattle.demux_state.proofs.Laws.{spares}
use Rattle.demux_packets.specs.declared.Plan.{Plan}
use Rattle.demux_packets.specs.Plans.{plan_of, Lent}
use Rattle.demux_judge.specs.Verdicts.{Verdict}
use Rattle.std.specs.Prelude.{Err, Ok}
use Rattle.demux_judge.specs.Verdicts.{record_whole, lent_whole, whole_with, pat_count, verdict_of, Enough, Wholes, HasCount}

-- ---- the record

module _ (f : Follow) (b : Bool) (e : b ≡ by_tables f) where
  pub record_tables : (r : Record) (w : Bool) → b ≡ true → w ≡ pats_whole r → w ≡ record_whole f r
  record_tables r w t q = rw (← e, t) q

  pub record_else : (r : Record) → b ≡ false → true ≡ record_whole f r
  record_else r t = rw (← e, t) refl

  pub count_tables : (words : List ℕ) (c m : ℕ) → b ≡ true → c ≡ pat_clock words → m ≡ max (get_or words 385 0) c → m ≡ pat_count f words
  count_tables words c m t k q = rw (← e, t, ← k) q

  pub count_else : (words : List ℕ) → b ≡ false → 0 ≡ pat_count f words
  count_else words t = rw (← e, t) refl

  pub count_there : (words : List ℕ) → HasCount f words → b ≡ true → 398 ≤ length words
  count_there words h t = h.there (sym e ∙ t)

-- ---- whole

pub all_whole_lem : (g : Gate) (s : Streams) (keys changes : ℕ) (r : Record) (pids buffers places : ℕ) (a b c : Bool) → a ≡ whole_of g keys changes (length r.words) → b ≡ record_whole g.follow r
    → c ≡ lent_whole s pids buffers places → (a && b && c) ≡ whole_with g s keys changes r pids buffers places
all_whole_lem g s keys changes r pids buffers places a b c p q t = λ i. p i && q i && t i

pub lent_whole_lem : (s : Streams) (pids buffers places : ℕ) (a : Bool) → a ≡ are_enough s.count pids buffers → (a && leb 384 places) ≡ lent_whole s pids buffers places
lent_whole_lem s pids buffers places a p = ap (λ (x : Bool). x && leb 384 places) p

pub enough : (count pids buffers : ℕ) → are_enough count pids buffers ≡ true → Enough count pids buffers
unfolding are_enough
enough count pids buffers e =
    let a = and_true (leb 1 count && leb count 8192 && leb 32768 pids) (leb (count * 4288) buffers) e in
    let b = and_true (leb 1 count && leb count 8192) (leb 32768 pids) a.0 in
    let c = and_true (leb 1 count) (leb count 8192) b.0 in
    record { some = leb-true _ _ c.0; few = leb-true _ _ c.1; words = leb-true _ _ b.1; bytes = leb-true _ _ a.1 }

pub wholes : (g : Gate) (s : Streams) (keys changes : ℕ) (r : Record) (pids buffers places : ℕ) → whole_with g s keys changes r pids buffers places ≡ true → Wholes g s keys changes r pids buffers places
wholes g s keys changes r pids buffers places e =
    let a = and_true (whole_of g keys changes (length r.words) && record_whole g.follow r) (lent_whole s pids buffers places) e in
    let b = and_true (whole_of g keys changes (length r.words)) (record_whole g.follow r) a.0 in
    let c = and_true (are_enough s.count pids buffers) (leb 384 places) a.1 in
    record { gate = b.0; pats = λ t. sym (ap (λ (x : Bool). cond x (pats_whole r) true) t) ∙ b.1; lent = enough s.count pids buffers c.0; listed = leb-true _ _ c.1 }

pub whole_again : (g : Gate) (s : Streams) (keys changes : ℕ) (r : Record) (pids buffers places : ℕ) → Wholes g s keys changes r pids buffers places → whole_with g s keys changes r pids buffers places ≡ true
unfolding are_enough
whole_again g s keys changes r pids buffers places w =
    let l = w.lent in
    true_and (true_and w.gate (in_manner (by_tables g.follow) refl))
    (true_and (true_and (true_and (true_and (le-leb 1 s.count l.some) (le-leb s.count 8192 l.few)) (le-leb 32768 pids l.words)) (le-leb (s.count * 4288) buffers l.bytes)) (le-leb 384 places w.listed))
  where
    in_manner : (b : Bool) → by_tables g.follow ≡ b → cond b (pats_whole r) true ≡ true
    in_manner true t = w.pats t
    in_manner false t = refl

-- ---- the ways out

module _ (g : Gate) (c : Counters) (s : Streams) (keys changes : ℕ) (r : Record) (pids : List ℕ) (buffers input : ℕ) (packet : List ℕ) (places : ℕ) (w : Bool)
    (e : w ≡ whole_with g s keys changes r (length pids) buffers places) where
  abbrev verdict : Verdict
  verdict = verdict_of g c s keys changes r pids buffers input packet places

  pub not_whole_lem : not w ≡ true → Err NotWhole ≡ verdict
  unfolding verdict_of
  not_whole_lem h = rw (← e, not-true w h) refl

  module _ (h : not w ≡ false) where
    is_whole : Wholes g s keys changes r (length pids) buffers places
    is_whole = wholes g s keys changes r (length pids) buffers places (sym e ∙ not-false w h)

    pub has_count : HasCount g.follow r.words
    has_count = record { there = λ t. (whole_long r (is_whole.pats t)).words }

    module _ (n : ℕ) (q : n ≡ pat_count g.follow r.words) (b : Bool) (f : b ≡ near_end c s n) where
      same_near : b ≡ near_end c s (pat_count g.follow r.words)
      same_near = f ∙ ap (near_end c s) q

      pub near_its_end : b ≡ true → Err CounterFull ≡ verdict
      unfolding verdict_of
      near_its_end t = rw (← e, not-false w h, ← same_near, t) refl

      pub bad_input_lem : b ≡ false → 16 ≤ input → Err BadInput ≡ verdict
      unfolding verdict_of
      bad_input_lem t k = rw (← e, not-false w h, ← same_near, t, le-ltb input 16 k) refl

      pub it_goes : (p : Plan) → b ≡ false → input < 16 → p ≡ plan_of r.words s.count pids packet → Ok p ≡ verdict
      unfolding verdict_of
      it_goes p t k j = rw (← e, not-false w h, ← same_near, t, lt-ltb input 16 k) (ap Ok j)

    pub lends : Lent r.words pids s.count
    lends =
        let x = is_whole in
        let y = fits g keys changes (length r.words) (whole_of g keys changes (length r.words)) refl x.gate in
        let z = y.watch in
        record { set = omega arith; words = x.lent.words; few = x.lent.few }

-- ---- what is so of a packet that is counted

pub record Goings (g : Gate) (c : Counters) (s : Streams) (keys changes : ℕ) (r : Record) (pids : List ℕ) (buffers input : ℕ) (packet : List ℕ) (places : ℕ) (p : Plan) : Type 0 where
  pub whole : Wholes g s keys changes r (length pids) buffers places
  pub spares : Spares c s (pat_count g.follow r.words)
  pub known : input < 16
  pub plan : plan_of r.words s.count pids packet ≡ p

pub goings : (g : Gate) (c : Counters) (s : Streams) (keys changes : ℕ) (r : Record) (pids : List ℕ) (buffers input : ℕ) (packet : List ℕ) (places : ℕ) (p : Plan)
    → verdict_of g c s keys changes r pids buffers input packet places ≡ Ok p → Goings g c s keys changes r pids buffers input packet places p
unfolding verdict_of
goings g c s keys changes r pids buffers input packet places p = go (whole_with g s keys changes r (length pids) buffers places) (near_end c s (pat_count g.follow r.words)) (ltb input 16) refl refl refl
  where
    plan : Plan
    plan = plan_of r.words s.count pids packet

    go : (a b d : Bool) → whole_with g s keys changes r (length pids) buffers places ≡ a → near_end c s (pat_count g.follow r.words) ≡ b → ltb input 16 ≡ d
        → cond a (cond b (Err CounterFull) (cond d (Ok plan) (Err BadInput))) (Err NotWhole) ≡ Ok p → Goings g c s keys changes r pids buffers input packet places p
    go true false true x y z e = record {
      whole = wholes g s keys changes r (length pids) buffers places x;
      spares = spares c s (pat_count g.follow r.words) y;
      known = ltb-true _ _ z;
      plan = cc;
    }
    go true false false x y z e = let q : ◌≡◌ {A = ℕ} 0 1 = cc in absurd (omega arith)
    go true true d x y z e = let q : ◌≡◌ {A = ℕ} 0 1 = cc in absurd (omega arith)
    go false b d x y z e = let q : ◌≡◌ {A = ℕ} 0 1 = cc in absurd (omega arith)
