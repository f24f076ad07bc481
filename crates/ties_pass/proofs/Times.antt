-- What a call that passes over packets tells and leaves is what as many feeds leave, each answered with 29 and no section, over both forms of the gate.
-- Assumes nothing.
use mathlib.Core.Path.{◌≡◌, refl, sym, ap, subst, ◌∙◌}
use mathlib.Core.Bool.{Bool, true, false, cond, true≢false}
use mathlib.Core.List.{List}
use Prim.Native.Nat.{ℕ, zero, suc, ◌+◌, ◌≤◌}
use native.Mathlib.Omega.{arith}
use lib.ListN.{take, drop}
use Rattle.answers.specs.Answers.{refusal_no}
use Rattle.demux_state.specs.State.{plain, finished}
use Rattle.demux_packets.specs.declared.Plan.{Plan}
use Rattle.demux_packets.specs.declared.Plan.TheVariants.{Malformed, Nothing, Unwatched, NoBuffer, Read}
use Rattle.demux_judge.specs.Verdicts.{Verdict}
use Rattle.std.specs.Prelude.{Err, Ok}
use Rattle.demux_store.specs.Carried.{StoreOf, LeftOf, planned_by}
use Rattle.demux_store.specs.Store as bare
use Rattle.demux_indexed_store.specs.Carried as kept
use Rattle.demux_indexed_store.specs.Store as indexed
use Rattle.demux_pass.specs.Passing.{plan_passes, is_passed, PassingOf, gone, one_more, passing_by}
use Rattle.demux_pass.specs.Store as over
use Rattle.demux_indexed_pass.specs.Store as over_by
use Rattle.ties_pass.specs.Times.{fed_times, AllSilent}

-- what is so of packets that were passed over
pub record Fed {S : Type 0} (feeds : StoreOf S → (input : ℕ) → List ℕ → LeftOf S) (most : ℕ) (s : StoreOf S) (input : ℕ) (packets : List ℕ) (p : PassingOf S) : Type 0 where
  pub few : p.number ≤ most
  pub store : p.store ≡ fed_times feeds p.number s input packets
  pub silent : AllSilent feeds p.number s input packets

module _ {S : Type 0} (verdict : StoreOf S → (input : ℕ) → List ℕ → Verdict) (feeds : StoreOf S → (input : ℕ) → List ℕ → LeftOf S)
    (silent : (s : StoreOf S) (input : ℕ) (packet : List ℕ) → is_passed (verdict s input packet) ≡ true → (feeds s input packet).answer ≡ finished 0) where
  each_fed : (k : ℕ) (s : StoreOf S) (input : ℕ) (packets : List ℕ) → Fed feeds k s input packets (passing_by verdict feeds k s input packets)
  unfolding passing_by fed_times AllSilent
  each_fed zero s input packets = record { few = omega arith; store = refl; silent = tt }
  each_fed (suc k) s input packets =
      go (is_passed (verdict s input (take 188 packets))) refl (each_fed k (feeds s input (take 188 packets)).store input (drop 188 packets))
    where
      rest : PassingOf S
      rest = passing_by verdict feeds k (feeds s input (take 188 packets)).store input (drop 188 packets)

      go : (b : Bool) → is_passed (verdict s input (take 188 packets)) ≡ b → Fed feeds k (feeds s input (take 188 packets)).store input (drop 188 packets) rest
          → Fed feeds (suc k) s input packets (cond b (one_more rest) (gone 0 s))
      go true e h =
          let f = h.few in
          let z : suc rest.number ≡ 1 + rest.number = omega arith in
          record {
            few = omega arith;
            store = h.store ∙ ap (λ (n : ℕ). fed_times feeds n s input packets) z;
            silent = subst (λ (n : ℕ). AllSilent feeds n s input packets) z (silent s input (take 188 packets) e, h.silent);
          }
      go false e h = record { few = omega arith; store = refl; silent = tt }

-- over the gate without an index
pub pass_feeds : (k : ℕ) (s : bare.Store) (input : ℕ) (packets : List ℕ) → Fed bare.fed k s input packets (over.passing k s input packets)
unfolding bare.fed bare.judged_in planned_by is_passed plan_passes
pass_feeds k s input packets = each_fed bare.verdict_in bare.fed silent k s input packets
  where
    silent : (s : bare.Store) (input : ℕ) (packet : List ℕ) → is_passed (bare.verdict_in s input packet) ≡ true → (bare.fed s input packet).answer ≡ finished 0
    silent s input packet = go (bare.verdict_in s input packet)
      where
        go : (v : Verdict) → is_passed v ≡ true → (bare.judged_in s input packet v).answer ≡ finished 0
        go (Err r) h = absurd (true≢false (sym h))
        go (Ok Malformed) h = absurd (true≢false (sym h))
        go (Ok Nothing) h = refl
        go (Ok (Unwatched pid)) h = refl
        go (Ok NoBuffer) h = absurd (true≢false (sym h))
        go (Ok (Read r)) h = absurd (true≢false (sym h))

-- over the gate with an index
pub indexed_pass_feeds : (k : ℕ) (s : kept.Store) (input : ℕ) (packets : List ℕ) → Fed indexed.fed k s input packets (over_by.passing k s input packets)
unfolding indexed.fed indexed.judged_in planned_by is_passed plan_passes
indexed_pass_feeds k s input packets = each_fed indexed.verdict_in indexed.fed silent k s input packets
  where
    silent : (s : kept.Store) (input : ℕ) (packet : List ℕ) → is_passed (indexed.verdict_in s input packet) ≡ true → (indexed.fed s input packet).answer ≡ finished 0
    silent s input packet = go (indexed.verdict_in s input packet)
      where
        go : (v : Verdict) → is_passed v ≡ true → (indexed.judged_in s input packet v).answer ≡ finished 0
        go (Err r) h = absurd (true≢false (sym h))
        go (Ok Malformed) h = absurd (true≢false (sym h))
        go (Ok Nothing) h = refl
        go (Ok (Unwatched pid)) h = refl
        go (Ok NoBuffer) h = absurd (true≢false (sym h))
        go (Ok (Read r)) h = absurd (true≢false (sym h))
