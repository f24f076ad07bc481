-- Packets passed over in one go, over the gate with an index: what they leave when they are fed one by one.
-- Assumes nothing.
use mathlib.Core.Path.{◌≡◌, refl, sym, ap, ◌∙◌}
use mathlib.Core.Bool.{Bool, true, false, cond}
use mathlib.Core.List.{List}
use Prim.Native.Nat.{ℕ, zero, suc, ◌+◌, ◌/◌}
use lib.ListN.{length, take, drop}
use Rattle.answers.specs.declared.Refusal.{Refusal}
use Rattle.answers.specs.declared.Refusal.TheVariants.{NotWhole}
use Rattle.counters.specs.declared.Counters.{Counters}
use Rattle.gate_state.specs.declared.Gate.{Gate}
use Rattle.gate_indexed.specs.Store.{whole_by}
use Rattle.gate_pats_indexed.specs.Store.{KeptBy}
use Rattle.pats.specs.Store.{Record}
use Rattle.section.specs.declared.ids.Pid.{Pid}
use Rattle.streams.specs.declared.Streams.{Streams}
use Rattle.streams.specs.Store.{with_words}
use Rattle.demux_state.specs.State.{is_near}
use Rattle.demux_packets.specs.declared.Plan.{Plan}
use Rattle.demux_packets.specs.declared.Plan.TheVariants.{Nothing, Unwatched}
use Rattle.demux_packets.specs.Plans.{plan_of, no_words}
use Rattle.demux_judge.specs.Verdicts.{Verdict}
use Rattle.std.specs.Prelude.{Err, Ok}
use Rattle.demux_judge.specs.Verdicts.{verdict_of}
use Rattle.demux_indexed_judge.specs.Verdicts.{verdict_by}
use Rattle.demux_indexed_judge.proofs.Laws.{GoesBy, goes_by}
use Rattle.demux_store.specs.Carried.{planned_by}
use Rattle.demux_indexed_store.specs.Carried.{Store, store_of}
use Rattle.demux_indexed_store.specs.Store.{judged_in, verdict_in, fed}
use Rattle.demux_pass.specs.declared.Passed.{Passed}
use Rattle.demux_pass.specs.Passing.{is_passed, gone, one_more, passing_by, most_of, Went, went_by, over_from, CanPass}
use Rattle.demux_pass.proofs.Passing.{Most, most_is, one_by_one}
use Rattle.demux_pass.proofs.Ready.{Ready, ready, none_passes, goes_at, ends_at, counts, can_pass}
use Rattle.demux_indexed_pass.specs.Store.{Passing, passed_by, passing}

module _ (g : Gate) (c : Counters) (keys changes buckets links : ℕ) (r : Record) (buffers input places : ℕ) where
  abbrev verdict_at : Streams → (pids packet : List ℕ) → Verdict
  verdict_at t pids packet = verdict_by g c t keys changes buckets links r pids buffers input packet places

  no_pass : (t : Streams) (pids p q : List ℕ) (x : Refusal) → verdict_at t pids p ≡ Err x → is_passed (verdict_at t pids q) ≡ false
  unfolding verdict_by is_passed
  no_pass t pids p q x = go (whole_by g keys changes buckets links (length r.words))
    where
      go : (b : Bool) → cond b (verdict_of g c t keys changes r pids buffers input p places) (Err NotWhole) ≡ Err x
          → is_passed (cond b (verdict_of g c t keys changes r pids buffers input q places) (Err NotWhole)) ≡ false
      go true e = none_passes g c keys changes r buffers input places t pids p q x e
      go false e = refl

  module _ (t : Streams) (pids packet : List ℕ) (p : Plan) (e : verdict_at t pids packet ≡ Ok p) where
    by : GoesBy g c t keys changes buckets links r pids buffers input packet places p
    by = goes_by g c t keys changes buckets links r pids buffers input packet places p e

    now_ready : Ready g c keys changes r buffers input places t (length pids)
    now_ready = ready g c keys changes r buffers input places t pids packet p by.goes

    abbrev at : ℕ → Streams
    at n = record { count = t.count; packets = n; malformed = t.malformed }

    goes_on_lem : (n : ℕ) (ps q : List ℕ) → is_near n ≡ false → length ps ≡ length pids → verdict_at (at n) ps q ≡ Ok (plan_of r.words t.count ps q)
    unfolding verdict_by
    goes_on_lem n ps q f l =
        ap (λ (b : Bool). cond b (verdict_of g c (at n) keys changes r ps buffers input q places) (Err NotWhole)) by.whole
        ∙ goes_at g c keys changes r buffers input places t (length pids) now_ready n ps q f l

    ends_then : (n : ℕ) (ps q : List ℕ) → is_near n ≡ true → is_passed (verdict_at (at n) ps q) ≡ false
    unfolding verdict_by
    ends_then n ps q h =
        ap (λ (b : Bool). is_passed (cond b (verdict_of g c (at n) keys changes r ps buffers input q places) (Err NotWhole))) by.whole
        ∙ ends_at g c keys changes r buffers input places t (length pids) now_ready n ps q h

  pub can_pass_by : (t : Streams) (pids packet : List ℕ) (p : Plan) (v : Verdict) → v ≡ verdict_at t pids packet → v ≡ Ok p → CanPass t r.words pids
  can_pass_by t pids packet p v e h =
      can_pass g c keys changes r buffers input places t pids packet p (verdict_of g c t keys changes r pids buffers input packet places) refl (by t pids packet p (sym e ∙ h)).goes

pub pass_none : (k : ℕ) (s : Store) (input : ℕ) (p packets : List ℕ) (v : Verdict) (x : Refusal) → v ≡ verdict_in s input p → v ≡ Err x → gone 0 s ≡ passing k s input packets
unfolding passing_by
pass_none zero s input p packets v x e h = refl
pass_none (suc k) s input p packets v x e h =
    let q : is_passed (verdict_in s input (take 188 packets)) ≡ false =
    no_pass s.gate.kept.gate s.gate.kept.counters (length s.gate.kept.keys) (length s.gate.kept.changes) (length s.gate.index.buckets) (length s.gate.index.links) s.gate.kept.watch
    (length s.buffers) input (length s.places) s.streams s.pids p (take 188 packets) x (sym e ∙ h) in
    sym (λ i. cond (q i) (one_more (passing k (fed s input (take 188 packets)).store input (drop 188 packets))) (gone 0 s))

module _ (g : KeptBy) (t : Streams) (pids buffers places : List ℕ) (input : ℕ) where
  abbrev state_at : ℕ → List ℕ → Store
  state_at n ps = store_of g (record { count = t.count; packets = n; malformed = t.malformed }) ps buffers places

  feeds_nothing : (n : ℕ) (ps packet : List ℕ) → verdict_in (state_at n ps) input packet ≡ Ok Nothing → (fed (state_at n ps) input packet).store ≡ state_at (n + 1) ps
  unfolding fed judged_in planned_by
  feeds_nothing n ps packet e = ap (λ (v : Verdict). (judged_in (state_at n ps) input packet v).store) e

  feeds_other : (n : ℕ) (ps packet : List ℕ) (pid : Pid) → verdict_in (state_at n ps) input packet ≡ Ok (Unwatched pid) → (fed (state_at n ps) input packet).store ≡ state_at (n + 1) (with_words ps pid no_words)
  unfolding fed judged_in planned_by
  feeds_other n ps packet pid e = ap (λ (v : Verdict). (judged_in (state_at n ps) input packet v).store) e

  pub pass_some : (p packets : List ℕ) (v : Verdict) (plan : Plan) (r : Passed) (pids' : List ℕ) → v ≡ verdict_in (store_of g t pids buffers places) input p → v ≡ Ok plan
      → went_by r pids' ≡ over_from t g.kept.watch.words packets pids → passed_by r g pids' buffers places ≡ passing (length packets / 188) (store_of g t pids buffers places) input packets
  pass_some p packets v plan r pids' e h q =
      let i : verdict_in (store_of g t pids buffers places) input p ≡ Ok plan = sym e ∙ h in
      let x =
      now_ready g.kept.gate g.kept.counters (length g.kept.keys) (length g.kept.changes) (length g.index.buckets) (length g.index.links) g.kept.watch (length buffers) input (length places) t pids p
      plan i in
      let m =
      most_is t.packets (length packets / 188)
      (counts g.kept.gate g.kept.counters (length g.kept.keys) (length g.kept.changes) g.kept.watch (length buffers) input (length places) t (length pids) x) in
      ap (λ (w : Went). gone w.number (store_of g w.streams w.pids buffers places)) q
      ∙ one_by_one verdict_in fed g t buffers places input g.kept.watch.words (length pids)
      (goes_on_lem g.kept.gate g.kept.counters (length g.kept.keys) (length g.kept.changes) (length g.index.buckets) (length g.index.links) g.kept.watch (length buffers) input (length places) t pids p plan i)
      (ends_then g.kept.gate g.kept.counters (length g.kept.keys) (length g.kept.changes) (length g.index.buckets) (length g.index.links) g.kept.watch (length buffers) input (length places) t pids p plan i)
      feeds_nothing feeds_other (length packets / 188) (most_of t.packets (length packets / 188)) t.packets pids packets refl m.few m.fits m.ends
