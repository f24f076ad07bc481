-- Packets passed over in one go, over the gate without an index: what they leave when they are fed one by one.
-- Assumes nothing.
use mathlib.Core.Path.{◌≡◌, refl, sym, ap, ◌∙◌}
use mathlib.Core.Bool.{Bool, false, cond}
use mathlib.Core.List.{List}
use Prim.Native.Nat.{ℕ, zero, suc, ◌+◌, ◌/◌}
use lib.ListN.{length, take, drop}
use Rattle.answers.specs.declared.Refusal.{Refusal}
use Rattle.gate_pats.specs.Store.{Kept}
use Rattle.section.specs.declared.ids.Pid.{Pid}
use Rattle.streams.specs.declared.Streams.{Streams}
use Rattle.streams.specs.Store.{with_words}
use Rattle.demux_packets.specs.declared.Plan.{Plan}
use Rattle.demux_packets.specs.declared.Plan.TheVariants.{Nothing, Unwatched}
use Rattle.demux_packets.specs.Plans.{no_words}
use Rattle.demux_judge.specs.Verdicts.{Verdict}
use Rattle.std.specs.Prelude.{Err, Ok}
use Rattle.demux_store.specs.Carried.{planned_by}
use Rattle.demux_store.specs.Store.{Store, store_of, judged_in, verdict_in, fed}
use Rattle.demux_pass.specs.declared.Passed.{Passed}
use Rattle.demux_pass.specs.Passing.{is_passed, gone, one_more, passing_by, most_of, Went, went_by, over_from}
use Rattle.demux_pass.specs.Store.{Passing, passed_by, passing}
use Rattle.demux_pass.proofs.Passing.{Most, most_is, one_by_one}
use Rattle.demux_pass.proofs.Ready.{Ready, ready, none_passes, goes_at, ends_at, counts}

pub pass_none : (k : ℕ) (s : Store) (input : ℕ) (p packets : List ℕ) (v : Verdict) (x : Refusal) → v ≡ verdict_in s input p → v ≡ Err x → gone 0 s ≡ passing k s input packets
unfolding passing_by
pass_none zero s input p packets v x e h = refl
pass_none (suc k) s input p packets v x e h =
    let q : is_passed (verdict_in s input (take 188 packets)) ≡ false =
    none_passes s.gate.gate s.gate.counters (length s.gate.keys) (length s.gate.changes) s.gate.watch (length s.buffers) input (length s.places) s.streams s.pids p (take 188 packets) x
    (sym e ∙ h) in
    sym (λ i. cond (q i) (one_more (passing k (fed s input (take 188 packets)).store input (drop 188 packets))) (gone 0 s))

module _ (g : Kept) (t : Streams) (pids buffers places : List ℕ) (input : ℕ) where
  abbrev state_at : ℕ → List ℕ → Store
  state_at n ps = store_of g (record { count = t.count; packets = n; malformed = t.malformed }) ps buffers places

  feeds_nothing : (n : ℕ) (ps packet : List ℕ) → verdict_in (state_at n ps) input packet ≡ Ok Nothing → (fed (state_at n ps) input packet).store ≡ state_at (n + 1) ps
  unfolding fed judged_in planned_by
  feeds_nothing n ps packet e = ap (λ (v : Verdict). (judged_in (state_at n ps) input packet v).store) e

  feeds_other : (n : ℕ) (ps packet : List ℕ) (pid : Pid) → verdict_in (state_at n ps) input packet ≡ Ok (Unwatched pid) → (fed (state_at n ps) input packet).store ≡ state_at (n + 1) (with_words ps pid no_words)
  unfolding fed judged_in planned_by
  feeds_other n ps packet pid e = ap (λ (v : Verdict). (judged_in (state_at n ps) input packet v).store) e

  pub pass_some : (p packets : List ℕ) (v : Verdict) (plan : Plan) (r : Passed) (pids' : List ℕ) → v ≡ verdict_in (store_of g t pids buffers places) input p → v ≡ Ok plan
      → went_by r pids' ≡ over_from t g.watch.words packets pids → passed_by r g pids' buffers places ≡ passing (length packets / 188) (store_of g t pids buffers places) input packets
  pass_some p packets v plan r pids' e h q =
      let x = ready g.gate g.counters (length g.keys) (length g.changes) g.watch (length buffers) input (length places) t pids p plan (sym e ∙ h) in
      let m = most_is t.packets (length packets / 188) (counts g.gate g.counters (length g.keys) (length g.changes) g.watch (length buffers) input (length places) t (length pids) x) in
      ap (λ (w : Went). gone w.number (store_of g w.streams w.pids buffers places)) q
      ∙ one_by_one verdict_in fed g t buffers places input g.watch.words (length pids)
      (goes_at g.gate g.counters (length g.keys) (length g.changes) g.watch (length buffers) input (length places) t (length pids) x)
      (ends_at g.gate g.counters (length g.keys) (length g.changes) g.watch (length buffers) input (length places) t (length pids) x)
      feeds_nothing feeds_other (length packets / 188) (most_of t.packets (length packets / 188)) t.packets pids packets refl m.few m.fits m.ends
