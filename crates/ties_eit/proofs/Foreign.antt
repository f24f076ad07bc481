-- A filter that names a kind or a current_next that there is none of: nothing matches, and the memory is as before.
-- Assumes nothing.
use mathlib.Core.Path.{◌≡◌, refl, ap, ◌∙◌}
use mathlib.Core.Bool.{Bool, true, false, cond, not, ◌&&◌}
use Prim.Native.Nat.{ℕ, zero, suc, ◌≤◌, ◌<◌}
use native.Mathlib.Omega.{arith}
use borrow.Author.Tests.{ne_eqb}
use lib.Dec.{eqb}
use Rattle.laws.proofs.Tests.{and_none}
use Rattle.rules_eit.specs.Keys.{Kind, present_actual, present_other, schedule_actual, schedule_other, kind_of, kind_number}
use Rattle.answers.specs.declared.Refusal.TheVariants as refusal
use Rattle.rows.specs.declared.Key.{Key}
use Rattle.rows.specs.Rows.{table_word, word, key_at}
use Rattle.arrivals.specs.Arrivals.{bit_of}
use Rattle.filter.specs.declared.Of.{Of}
use Rattle.filter.specs.declared.Of.TheVariants as of
use Rattle.std.specs.Prelude.{Option, Some, Result, Ok, Err}
use Rattle.answers.specs.declared.Refusal.{Refusal}
use Rattle.filter.specs.declared.WantedOrigin.{WantedOrigin}
use Rattle.filter.specs.declared.Fields.{Fields}
use Rattle.filter.specs.Drops.{wants, wants_origin, kind_in, matches, Rest, rest, dropped_row, dropped_rows}
use Rattle.eit_drop.specs.declared.Filter.{Filter}
use Rattle.eit_state.specs.State.{Store, whole_of}
use Rattle.eit_drop.specs.Drop.{wanted_origin, fields_of, drop_from, matching_gone}
use Rattle.eit_admit.specs.Admitting.{drop_of}
use Rattle.eit_pids.specs.Rows.{any_without}
use Rattle.eit.specs.Store.{carried_drop, dropped_of}
use Rattle.rules_eit.specs.Rules.{Answer, done, refused}
use Rattle.ties_eit.specs.View.{the_kind, kind_by, answer_told, tells, acts, drops, Reached}
use Rattle.ties_eit.proofs.Keys.{Bit}
use Rattle.ties_eit.proofs.Filters.{kind_word_lem}
use Rattle.ties_eit.proofs.Dropping.{set_bit, schedule_bit}
use Rattle.ties_eit.proofs.Pids.{each_has_pid}

-- kinds are 0 to 3, current_next is 0 or 1
pub data Foreign (f : Filter) : Type 0 where
  kind : (x : ℕ) → f.kind ≡ Some x → 4 ≤ x → Foreign f
  current_next : (x : ℕ) → f.current_next ≡ Some x → 2 ≤ x → Foreign f

-- where no row matches, none leaves
none_leave : (o : Of) (f : Fields) (n : ℕ) (r : Rest) → ((j : ℕ) → j < n → matches o f (key_at r.heads j) ≡ false) → dropped_rows o f n r ≡ r
unfolding dropped_rows dropped_row
none_leave o f zero r e = refl
none_leave o f (suc n) r e = rw (e n (omega arith)) (none_leave o f n r (λ j h. e j (omega arith)))

kind_below : (k : Kind) → kind_number k < 4
unfolding kind_number
kind_below present_actual = omega arith
kind_below present_other = omega arith
kind_below schedule_actual = omega arith
kind_below schedule_other = omega arith

bit_below : (b : Bool) → bit_of b < 2
bit_below true = omega arith
bit_below false = omega arith

second : (a b c d e g : Bool) → b ≡ false → (((((a && b) && c) && d) && e) && g) ≡ false
second a b c d e g q = rw (q, and_none a)

last : (a b c d e g : Bool) → g ≡ false → (((((a && b) && c) && d) && e) && g) ≡ false
last a b c d e g q = rw q (and_none ((((a && b) && c) && d) && e))

-- a key whose kind is one of the four and whose current_next is a bit
no_match : (o : Of) (f : Filter) (w : WantedOrigin) → Foreign f → (k : Key) → kind_in o k.table_id < 4 → k.current_next < 2 → matches o (fields_of w f) k ≡ false
unfolding matches
no_match o f w (kind x e h) k l m =
    second (wants_origin w k.from) (wants f.kind (kind_in o k.table_id)) (wants f.service_id k.extension) (wants f.transport_stream_id k.transport_stream_id)
    (wants f.original_network_id k.original_network_id) (wants f.current_next k.current_next)
    (ap (λ (q : Option ℕ). wants q (kind_in o k.table_id)) e ∙ ne_eqb (kind_in o k.table_id) x (λ (t : kind_in o k.table_id ≡ x). absurd (omega arith)))
no_match o f w (current_next x e h) k l m =
    last (wants_origin w k.from) (wants f.kind (kind_in o k.table_id)) (wants f.service_id k.extension) (wants f.transport_stream_id k.transport_stream_id)
    (wants f.original_network_id k.original_network_id) (wants f.current_next k.current_next)
    (ap (λ (q : Option ℕ). wants q k.current_next) e ∙ ne_eqb k.current_next x (λ (t : k.current_next ≡ x). absurd (omega arith)))

module _ (s : Store) (z : Reached s) (f : Filter) (g : Foreign f) (w : WantedOrigin) where
  sets_stay : dropped_rows of.Sets (fields_of w f) s.eit.sets.used (rest s.heads s.slots s.eit.sets.used) ≡ rest s.heads s.slots s.eit.sets.used
  sets_stay =
      none_leave of.Sets (fields_of w f) s.eit.sets.used (rest s.heads s.slots s.eit.sets.used) (λ j h.
      let t : ℕ = table_word s.heads j in
      let n = kind_word_lem t (z.heads_fit j h).kind in
      let k = kind_below (the_kind (kind_of t)) in
      let b = set_bit (key_at s.heads j) (z.sets.proper j h) in
      let c = bit_below (not (eqb (word s.heads j 3) 0)) in
      no_match of.Sets f w g (key_at s.heads j) (omega arith) (omega arith))

  schedules_stay : dropped_rows of.Schedules (fields_of w f) s.eit.schedules (rest s.schedule_heads s.units s.eit.schedules) ≡ rest s.schedule_heads s.units s.eit.schedules
  schedules_stay =
      none_leave of.Schedules (fields_of w f) s.eit.schedules (rest s.schedule_heads s.units s.eit.schedules) (λ j h.
      let b = schedule_bit (key_at s.schedule_heads j) (z.schedules.proper j h) in
      let n : table_word s.schedule_heads j ≡ kind_number (kind_by (table_word s.schedule_heads j)) = b.1 in
      let k = kind_below (kind_by (table_word s.schedule_heads j)) in
      let d : Bit (word s.schedule_heads j 3) = b.0 in
      let c = bit_below (not (eqb (word s.schedule_heads j 3) 0)) in
      no_match of.Schedules f w g (key_at s.schedule_heads j) (omega arith) (omega arith))

  gone_stays : (carried_drop s (Ok (fields_of w f))).store ≡ s
  unfolding matching_gone
  gone_stays = rw (sets_stay, schedules_stay)

-- nothing is dropped
pub foreign_drop : (s : Store) → Reached s → (f : Filter) → Foreign f → acts s (drops f) ≡ s
unfolding acts dropped_of drop_of
foreign_drop s z f g = go (whole_of s) (any_without s.eit s.heads s.schedule_heads) (wanted_origin f.input f.pid)
  where
    go : (b w : Bool) (p : Result WantedOrigin Refusal) → (carried_drop s (cond b (cond w (Err refusal.NoPid) (drop_from f p)) (Err refusal.NotWhole))).store ≡ s
    go true true p = refl
    go true false (Err r) = refl
    go true false (Ok w) = gone_stays s z f g w
    go false w p = refl

-- 41 for no PID, 12 for a PID of 8192 or more, 37 for an input of 16 or more, else 7, whatever the other fields of the filter are
abbrev pub drop_answer : Result WantedOrigin Refusal → Answer
drop_answer (Err r) = refused r
drop_answer (Ok w) = done

-- a filter that names no kind and no current_next is answered as any other: by its PID and its input alone
pub drop_answered : (s : Store) → Reached s → whole_of s ≡ true → (f : Filter) → tells s (drops f) ≡ drop_answer (wanted_origin f.input f.pid)
unfolding tells dropped_of drop_of answer_told
drop_answered s z w f = rw (w, each_has_pid s z) (go (wanted_origin f.input f.pid))
  where
    go : (p : Result WantedOrigin Refusal) → answer_told (carried_drop s (drop_from f p)).told ≡ drop_answer p
    go (Err r) = refl
    go (Ok x) = refl
