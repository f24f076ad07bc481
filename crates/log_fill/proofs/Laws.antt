-- A log written section by section.
-- Assumes nothing.
use mathlib.Core.Path.{◌≡◌, refl, sym, ap, ◌∙◌}
use mathlib.Core.Logic.{◌⊎◌, inl, inr}
use mathlib.Core.List.{List, [], ◌∷◌, ◌++◌, append_assoc}
use Prim.Native.Nat.{ℕ, suc, ◌+◌, ◌-◌, ◌≤◌, ◌<◌, min}
use native.Mathlib.Omega.{arith}
use lib.ListN.{length, take, drop, length-take, take-append-drop}
use lib.Seq.{sets, paste, sets-eq, set_out, length-sets, take-length, length-take-le, take_all, take-take}
use Rattle.laws.proofs.Writes.{sets_append}
use Rattle.laws.proofs.Tests.{lt_or_le}
use Rattle.rules_logs.specs.Records.{Bytes}
use Rattle.rules_logs.specs.Sections.{Given}
use Rattle.rules_logs.specs.Verdict.{log_of}
use Rattle.log_entries.specs.declared.Entry.{Entry}
use Rattle.log_list.specs.List.{givens_from, given_at, PlacedAt}
use Rattle.log_list.specs.declared.Place.{Place}
use Rattle.log_list.proofs.Laws.{none_left}
use Rattle.log_state.specs.State.{Lent}
use Rattle.log_sections.specs.Steps.{takes, records_by, left_by, shown_in, memory_in, Stepped}
use Rattle.log_sections.specs.declared.Step.{Step}
use Rattle.log_sections.proofs.Laws.{step_shows, log_append}
use Rattle.log_fill.specs.Fill.{PutAt, FilledBy}

-- ---- what is written past the end is not written

sets_past : (vs l : Bytes) (i : ℕ) → length l ≤ i → sets l i vs ≡ l
sets_past [] l i h = refl
sets_past (v ∷ vs) l i h = rw (set_out l i v h) (sets_past vs l (suc i) (omega (arith, h)))

-- bytes that end where the room ends, or before, as one part of it
sets_paste : (l vs : Bytes) (i : ℕ) → i + length vs ≤ length l → paste l i vs (length vs) ≡ sets l i vs
sets_paste l vs i h = sym (sets-eq vs l i h ∙ rw (take-length vs) refl)

module _ (l e : Bytes) (i n : ℕ) (h : n ≡ min (length e) (length l - i)) (w : i ≤ length l) where
  short : length (take n e) ≡ n
  short = length-take n e ∙ omega (arith, h)

  fits : i + length (take n e) ≤ length l
  fits = omega (arith, short, h, w)

  put_on : (more : Bytes) → sets l i (e ++ more) ≡ sets (sets l i (take n e)) (i + n) more
  put_on more = go (lt_or_le (length l - i) (length e))
    where
      go : (length l - i < length e) ⊎ (length e ≤ length l - i) → sets l i (e ++ more) ≡ sets (sets l i (take n e)) (i + n) more
      go (inl q) =
          let there : length (sets l i (take n e)) ≤ i + n = omega (arith, length-sets l i (take n e), h, q, w) in
          let parts : e ++ more ≡ take n e ++ (drop n e ++ more) = ap (λ (x : Bytes). x ++ more) (sym (take-append-drop n e)) ∙ append_assoc (take n e) (drop n e) more in
          rw (parts, sets_append (take n e) (drop n e ++ more) l i, short, sets_past (drop n e ++ more) (sets l i (take n e)) (i + n) there, sets_past more (sets l i (take n e)) (i + n) there) refl
      go (inr q) =
          let all : n ≡ length e = omega (arith, h, q) in
          rw (sets_append e more l i, take_all n e (omega (arith, all)), all) refl

pub put_done : (room : Bytes) (at : ℕ) (entry : Entry) {n : ℕ} {after : Bytes} → at ≤ length room → entry.length ≤ length entry.bytes → n ≡ min entry.length (length room - at)
    → after ≡ paste room at (take (n - 0) entry.bytes) (length (take (n - 0) entry.bytes)) → PutAt room at (shown_in entry) (at + n) after
put_done room at entry {n = n} {after = after} w f h q =
    let m : n - 0 ≡ n = omega arith in
    let size : length (shown_in entry) ≡ entry.length = length-take-le entry.length entry.bytes f in
    let less : n ≤ entry.length = omega (arith, h) in
    let same : take n entry.bytes ≡ take n (shown_in entry) = sym (take-take n entry.length entry.bytes less) in
    let k : n ≡ min (length (shown_in entry)) (length room - at) = rw size h in
    let is : after ≡ sets room at (take n (shown_in entry)) =
    q ∙ rw (m, same) (sets_paste room (take n (shown_in entry)) at (fits room (shown_in entry) at n k w)) in
    record {
      on = λ more. rw is (put_on room (shown_in entry) at n k w more);
      within = rw is (omega (arith, length-sets room at (take n (shown_in entry)), h, w));
    }

-- ---- one section after another

-- the room and what is left, from here on
pub record On (list room₀ room : Bytes) (s₀ s : Lent) (p at : ℕ) : Type 0 where
  pub within : at ≤ length room
  pub log : sets room₀ 0 (log_of (records_by s₀ (givens_from list 0))) ≡ sets room at (log_of (records_by s (givens_from list p)))
  pub leaves : left_by s₀ (givens_from list 0) ≡ left_by s (givens_from list p)

pub starts_on : (list room : Bytes) (s : Lent) → On list room room s s 0 0
starts_on list room s = record { within = omega arith; log = refl; leaves = refl }

pub turn_on : {list room₀ room room' : Bytes} {s₀ s after : Lent} {p at at' q : ℕ} {place : Place} {r : Step} → PlacedAt list p place → Stepped list place s r after → On list room₀ room s₀ s p at
    → PutAt room at (shown_in r.entry) at' room' → q ≡ place.start + place.length → On list room₀ room' s₀ after q at'
unfolding records_by left_by
turn_on {list} {room₀} {room} {room'} {s₀} {s} {after} {p} {at} {at'} {q} {place} {r} o st on put e =
    let es : List Bytes = (takes s (given_at list place)).records in
    let rest : List Given = givens_from list (place.start + place.length) in
    let now : sets room at (log_of (records_by s (givens_from list p))) ≡ sets room at (shown_in r.entry ++ log_of (records_by after rest)) =
    rw (o.first, st.left, log_append es (records_by (takes s (given_at list place)).left rest), step_shows st) refl in
    let left : left_by s (givens_from list p) ≡ left_by after rest = rw (o.first, st.left) refl in
    rw e (record { within = put.within; log = on.log ∙ now ∙ put.on (log_of (records_by after rest)); leaves = on.leaves ∙ left })

pub filled_end : {list room₀ room : Bytes} {s₀ s : Lent} {p at : ℕ} → length list ≤ p → On list room₀ room s₀ s p at → FilledBy list room₀ s₀ room (memory_in s)
unfolding records_by left_by log_of
filled_end {list} {room₀} {room} {s₀} {s} {p} {at} h on =
    let e : givens_from list p ≡ [] = none_left list p h in
    let a : sets room₀ 0 (log_of (records_by s₀ (givens_from list 0))) ≡ room = on.log ∙ rw e refl in
    let f : left_by s₀ (givens_from list 0) ≡ s = on.leaves ∙ rw e refl in
    record { log = sym a; leaves = sym (ap memory_in f) }
