-- In every history watched = protected ∪ N: the watch as opening sets it has it, and every offer keeps it.
-- Assumes nothing.
use Prim.Native.Nat.{ℕ, ◌≤◌}
use mathlib.Core.Path.{◌≡◌, ◌∙◌}
use mathlib.Core.List.{List, [], ◌∷◌}
use mathlib.Core.Bool.{Bool, true, false, cond, ◌&&◌}
use lib.ListN.{length, replicate, length-replicate}
use Rattle.laws.specs.Runs.{store_after}
use Rattle.ring.specs.Store.{seen_of, stamp_of}
use Rattle.offers.specs.Offers.{verdict_of}
use Rattle.offers.specs.declared.Arrival.{Arrival}
use Rattle.offers.specs.declared.Verdict.{Verdict}
use Rattle.offers.specs.declared.Verdict.TheVariants.{Refused, Failed, Arrived}
use Rattle.pat.specs.Pat.{readable}
use Rattle.pat.proofs.Laws.{length_programs}
use Rattle.watched.specs.Store.{all_pids, filled, following}
use Rattle.watched.specs.View.{InStep}
use Rattle.watched.proofs.Meaning.{opened_in_step, following_in_step, length_following}
use Rattle.gate_state.specs.State.{by_sections, seen_by}
use Rattle.gate.specs.Store.{is_whole, Store, admitted_to, carried, offered, programs_of, followed_pat, watch_after}
use Rattle.gate.specs.Rules.{Offer}
use Rattle.gate.specs.View.{store_acts}

-- the words of a watch in which exactly the protected PIDs and those of N are watched
pub record Kept (words : List ℕ) : Type 0 where
  pub room : 384 ≤ length words
  pub step : InStep words

-- whether the ring finds a section that arrived changed
abbrev changed_by : Store → Arrival → Bool
changed_by s a = (seen_of s.gate.ring s.keys s.changes a.key (stamp_of a.version a.change)).changed

-- opening begins so
pub opened_kept : (words : List ℕ) (known : Bool) (extra : List ℕ) → all_pids extra ≡ true → 384 ≤ length (filled words known extra) → Kept (filled words known extra)
opened_kept words known extra e h = record { room = h; step = opened_in_step words known extra e }

followed_kept : (words section : List ℕ) → Kept words → Kept (followed_pat words section)
unfolding followed_pat
followed_kept words section k = go (readable section)
  where
    l : length (programs_of section) ≡ 128
    l = length_programs section (replicate 128 0) ∙ length-replicate {A = ℕ} 128 0

    go : (b : Bool) → Kept (cond b (following words (programs_of section)) words)
    go true = record { room = rw (length_following words (programs_of section) k.room l) k.room; step = following_in_step words (programs_of section) k.room l k.step }
    go false = k

watch_kept : (f : Bool) (words section : List ℕ) → Kept words → Kept (watch_after f words section)
watch_kept true words section k = followed_kept words section k
watch_kept false words section k = k

carried_kept : (s : Store) (section : List ℕ) (v : Verdict) → Kept s.words → Kept (carried s section v).store.words
unfolding carried admitted_to seen_by
carried_kept s section (Refused r) k = k
carried_kept s section (Failed f) k = k
carried_kept s section (Arrived a) k = watch_kept (changed_by s a && by_sections s.gate.follow) s.words section k

-- every offer to every store
pub offer_kept : (s : Store) (o : Offer) → Kept s.words → Kept (store_acts s o).words
unfolding store_acts offered
offer_kept s o k = carried_kept s o.section (verdict_of (is_whole s) s.counters s.gate.change_rule o.input o.pid o.section) k

-- every history
pub always_kept : (s : Store) (os : List Offer) → Kept s.words → Kept (store_after store_acts s os).words
unfolding store_after
always_kept s [] k = k
always_kept s (o ∷ os) k = always_kept (store_acts s o) os (offer_kept s o k)
