-- The manner of following decides the watch record alone, and where complete PATs are not followed an offer is what it was without a PAT store.
-- Assumes nothing.
use Prim.Native.Nat.{ℕ, ◌≤◌}
use mathlib.Core.Path.{◌≡◌, refl, sym, ap, ◌∙◌}
use mathlib.Core.List.{List}
use mathlib.Core.Bool.{Bool, true, false, cond, ◌&&◌, true≢false}
use lib.ListN.{length, drop, replicate, length-replicate}
use Rattle.ring.specs.Store.{stamp_of, seen_of, keys_after, changes_after}
use Rattle.counters.specs.declared.Counters.{Counters}
use Rattle.offers.specs.Offers.{verdict_of}
use Rattle.offers.specs.declared.Verdict.{Verdict}
use Rattle.offers.specs.declared.Verdict.TheVariants as verdict
use Rattle.pats.specs.Store.{Record, record_of, pats_whole, pats_full}
use Rattle.pat.specs.Pat.{readable}
use Rattle.pat.proofs.Laws.{length_programs}
use Rattle.watched.specs.Store as watched
use Rattle.watched.proofs.Meaning.{following_past}
use Rattle.gate_state.specs.State.{Said, by_sections, by_tables, seen_by}
use Rattle.gate_state.specs.declared.Follow.{Follow}
use Rattle.gate_state.specs.declared.Follow.TheVariants.{Off, Sections, Tables}
use Rattle.gate_state.specs.declared.Gate.{Gate}
use Rattle.gate.specs.Store.{Store, store_of, is_whole, offered, carried, admitted_to, programs_of, followed_pat, watch_after}
use Rattle.gate.specs.Store as sections
use Rattle.gate_pats.specs.Store.{state_of, Kept, kept_of, sections_in, Offering, record_after, then_entered, taken_with, offered_by, offered_with, sound_by}
use Rattle.gate_pats.specs.View.{following, in_manner, Judged, judged_by}
use Rattle.gate_pats.specs.declared.inner.State.{State}
use Rattle.gate_pats.specs.declared.inner.State.TheVariants.{NotWhole, Full, Ready}

-- ---- the manner decides the record alone

-- of the gate of sections
abbrev judged_in : sections.Offering → Judged
judged_in l = record { answer = l.answer; ring = l.store.gate.ring; counters = l.store.counters; keys = l.store.keys; changes = l.store.changes }

abbrev lower : Follow → Store → Store
lower f s = store_of (following f s.gate) s.counters s.keys s.changes s.words

carried_alone : (f g : Follow) (s : Store) (section : List ℕ) (v : Verdict) → judged_in (carried (lower f s) section v) ≡ judged_in (carried (lower g s) section v)
unfolding carried admitted_to seen_by
carried_alone f g s section (verdict.Refused r) = refl
carried_alone f g s section (verdict.Failed x) = refl
carried_alone f g s section (verdict.Arrived a) = refl

sections_alone : (f g : Follow) (s : Store) (input pid : ℕ) (section : List ℕ) → judged_in (offered (lower f s) input pid section) ≡ judged_in (offered (lower g s) input pid section)
unfolding offered
sections_alone f g s input pid section = carried_alone f g s section (verdict_of (is_whole s) s.counters s.gate.change_rule input pid section)

taken_judged : (s : Kept) (input pid : ℕ) (section : List ℕ) → judged_by (taken_with s input pid section) ≡ judged_in (offered (sections_in s) input pid section)
unfolding taken_with
taken_judged s input pid section = refl

-- a record that is ready for complete PATs is ready in every manner
ready_in_all : (f : Follow) (r : Record) → state_of Tables r ≡ Ready → state_of f r ≡ Ready
unfolding state_of
ready_in_all Off r h = refl
ready_in_all Sections r h = refl
ready_in_all Tables r h = h

pub ready_taken : (s : Kept) (input pid : ℕ) (section : List ℕ) → state_of s.gate.follow s.watch ≡ Ready → offered_with s input pid section ≡ taken_with s input pid section
unfolding offered_with offered_by
ready_taken s input pid section h = rw h

-- for every store, damaged too, whose record all manners take
pub manner_alone :
    (f g : Follow) (s : Kept) (input pid : ℕ) (section : List ℕ) → state_of Tables s.watch ≡ Ready →
    judged_by (offered_with (in_manner f s) input pid section) ≡ judged_by (offered_with (in_manner g s) input pid section)
manner_alone f g s input pid section h =
    ap judged_by (ready_taken (in_manner f s) input pid section (ready_in_all f s.watch h))
    ∙ taken_judged (in_manner f s) input pid section
    ∙ sections_alone f g (sections_in s) input pid section
    ∙ sym (taken_judged (in_manner g s) input pid section)
    ∙ sym (ap judged_by (ready_taken (in_manner g s) input pid section (ready_in_all g s.watch h)))

-- ---- where complete PATs are not followed

-- the words past the three sets
watched_past : (b : Bool) (words section : List ℕ) → 384 ≤ length words → drop 384 (watch_after b words section) ≡ drop 384 words
unfolding followed_pat
watched_past true words section k = followed (readable section)
  where
    n : List ℕ
    n = programs_of section

    long : length n ≡ 128
    long = length_programs section (replicate 128 0) ∙ length-replicate {A = ℕ} 128 0

    followed : (r : Bool) → drop 384 (cond r (watched.following words n) words) ≡ drop 384 words
    followed true = following_past words n k long
    followed false = refl
watched_past false words section k = refl

carried_past : (s : Store) (section : List ℕ) → 384 ≤ length s.words → (v : Verdict) → drop 384 (carried s section v).store.words ≡ drop 384 s.words
unfolding carried admitted_to
carried_past s section k (verdict.Refused r) = refl
carried_past s section k (verdict.Failed f) = refl
carried_past s section k (verdict.Arrived a) =
    watched_past ((seen_of s.gate.ring s.keys s.changes a.key (stamp_of a.version a.change)).changed && by_sections s.gate.follow) s.words section k

past : (s : Store) (section : List ℕ) (input pid : ℕ) → 384 ≤ length s.words → drop 384 (offered s input pid section).store.words ≡ drop 384 s.words
unfolding offered
past s section input pid k = carried_past s section k (verdict_of (is_whole s) s.counters s.gate.change_rule input pid section)

-- an offer to the gate of sections, with the slots and cells of the record as they were
abbrev pub beside : Kept → sections.Offering → Offering
beside s o = record { answer = o.answer; left = kept_of o.store.gate o.store.counters o.store.keys o.store.changes (record_of o.store.words s.watch.slots s.watch.cells) }

not_used : (f : Follow) (r : Record) → by_tables f ≡ false → state_of f r ≡ Ready
unfolding state_of
not_used f r h = rw h

none_entered : (f : Follow) (a : Said) (input pid : ℕ) (section : List ℕ) (r : Record) → by_tables f ≡ false → record_after f a input pid section r ≡ r
unfolding record_after
none_entered f a input pid section r h = rw h

pub old_manner : (s : Kept) (input pid : ℕ) (section : List ℕ) → by_tables s.gate.follow ≡ false → offered_with s input pid section ≡ beside s (offered (sections_in s) input pid section)
unfolding taken_with
old_manner s input pid section h =
    let o = offered (sections_in s) input pid section in
    ready_taken s input pid section (not_used s.gate.follow s.watch h)
    ∙ (λ i. record { answer = o.answer; left = kept_of o.store.gate o.store.counters o.store.keys o.store.changes (none_entered s.gate.follow o.answer input pid section (record_of o.store.words s.watch.slots s.watch.cells) h i) })

-- and the record past its three sets of PIDs stays as it was
pub old_manner_record :
    (s : Kept) (input pid : ℕ) (section : List ℕ) → by_tables s.gate.follow ≡ false → 384 ≤ length s.watch.words →
    drop 384 (offered_with s input pid section).left.watch.words ≡ drop 384 s.watch.words
old_manner_record s input pid section h k = ap (λ (l : Offering). drop 384 l.left.watch.words) (old_manner s input pid section h) ∙ past (sections_in s) section input pid k
