-- The filter of a drop: what matches by the words of a head is what matches by the rules.
-- Assumes nothing.
use mathlib.Core.Path.{◌≡◌, refl, sym, ap, ◌∙◌}
use mathlib.Core.Bool.{Bool, true, false, cond, not, ◌&&◌, beq}
use mathlib.Core.Option.{Option, none, some}
use Prim.Native.Nat.{ℕ, zero, suc, ◌<◌}
use native.Mathlib.Omega.{arith}
use borrow.Author.Tests.{eqb-true, ne_eqb}
use lib.Dec.{eqb}
use Rattle.laws.proofs.Tests.{eqb_sym}
use Rattle.rules_eit.specs.Keys.{Kind, present_actual, present_other, schedule_actual, schedule_other, between, kind_of, kind_number, same_kind, any_pid, exactly, pid_passes, passes, from_passes, matches as key_matches}
use Rattle.eit_section.specs.Eit.{within}
use Rattle.rows.specs.declared.Origin.{Origin as Words}
use Rattle.rows.specs.declared.Key.{Key}
use Rattle.ticks.specs.Origins.{origin_shown}
use Rattle.arrivals.specs.Arrivals.{bit_of}
use Rattle.eit_section.specs.declared.Kind.TheVariants.{PresentFollowingActual, PresentFollowingOther, ScheduleActual, ScheduleOther}
use Rattle.std.specs.Prelude.{Some, None, Option as StdOption}
use Rattle.filter.specs.declared.WantedOrigin.{WantedOrigin}
use Rattle.filter.specs.declared.Of.TheVariants as of
use Rattle.filter.specs.Drops.{wants, wants_origin, kind_told, kind_word, matches}
use Rattle.eit_drop.specs.declared.Filter.{Filter}
use Rattle.eit_drop.specs.Drop.{fields_of}
use Rattle.ties_eit.specs.View.{the_kind, kind_by, key_shown, schedule_shown, Below, FilterFits, wanted_as, pid_test, filter_shown}
use Rattle.ties_eit.proofs.Keys.{Bit}

-- ---- field by field

wants_exact : (w : StdOption ℕ) (v : ℕ) → wants w v ≡ passes eqb (wanted_as (λ (x : ℕ). x) w) v
unfolding passes
wants_exact None v = refl
wants_exact (Some x) v = eqb_sym v x

by_number : (n : ℕ) → n < 4 → kind_number (kind_by n) ≡ n
unfolding kind_by kind_number
by_number zero h = refl
by_number (suc zero) h = refl
by_number (suc (suc zero)) h = refl
by_number (suc (suc (suc zero))) h = refl
by_number (suc (suc (suc (suc n)))) h = absurd (omega arith)

wants_kind : (w : StdOption ℕ) → Below 4 w → (n : ℕ) (k : Kind) → n ≡ kind_number k → wants w n ≡ passes same_kind (wanted_as kind_by w) k
unfolding passes same_kind
wants_kind None b n k e = refl
wants_kind (Some x) b n k e = rw (by_number x b, ← e) (eqb_sym n x)

current_is : (x : ℕ) (b : Bool) → x < 2 → eqb (bit_of b) x ≡ beq (not (eqb x 0)) b
current_is zero true h = refl
current_is zero false h = refl
current_is (suc zero) true h = refl
current_is (suc zero) false h = refl
current_is (suc (suc x)) b h = absurd (omega arith)

wants_current : (w : StdOption ℕ) → Below 2 w → (c : ℕ) → Bit c → wants w c ≡ passes beq (wanted_as (λ (x : ℕ). not (eqb x 0)) w) (not (eqb c 0))
unfolding passes
wants_current None b c e = refl
wants_current (Some x) b c e = ap (λ (y : ℕ). eqb y x) (sym e) ∙ current_is x (not (eqb c 0)) b

-- the PID that is wanted, as a head has it
pub pid_any : (o : Words) → wants None o.pid ≡ pid_passes any_pid (origin_shown o).pid
unfolding pid_passes
pid_any o = refl

pub pid_exactly : (v : ℕ) → v < 8192 → (o : Words) → wants (Some v) o.pid ≡ pid_passes (exactly v) (origin_shown o).pid
unfolding pid_passes origin_shown
pid_exactly v h o = go (eqb o.pid 8192) refl
  where
    go : (b : Bool) → eqb o.pid 8192 ≡ b → eqb o.pid v ≡ eqb v (cond b 8193 o.pid)
    go true e =
        let q = eqb-true o.pid 8192 e in
        ne_eqb o.pid v (λ (t : o.pid ≡ v). absurd (omega arith)) ∙ sym (ne_eqb v 8193 (λ (t : v ≡ 8193). absurd (omega arith)))
    go false e = eqb_sym o.pid v

-- what is wanted of where sections came from
pub from_wanted : (f : Filter) (i w : StdOption ℕ) → f.input ≡ i → (o : Words) → wants w o.pid ≡ pid_passes (pid_test f.pid) (origin_shown o).pid
    → wants_origin (record { input = i; pid = w }) o ≡ from_passes (filter_shown f) (origin_shown o)
unfolding from_passes filter_shown origin_shown
from_wanted f i w e o p =
    let q = wants_exact i o.input ∙ ap (λ (x : StdOption ℕ). passes eqb (wanted_as (λ (y : ℕ). y) x) o.input) (sym e) in
    λ t. q t && p t

-- ---- a key

turn : (a b c d e g : Bool) → (((((a && b) && c) && d) && e) && g) ≡ (a && (b && (c && (d && (e && g)))))
turn true true true true true g = refl
turn true true true true false g = refl
turn true true true false e g = refl
turn true true false d e g = refl
turn true false c d e g = refl
turn false b c d e g = refl

-- six tests that are the same pass together
six : {a b c d e g a' b' c' d' e' g' : Bool} → a ≡ a' → b ≡ b' → c ≡ c' → d ≡ d' → e ≡ e' → g ≡ g'
    → (((((a && b) && c) && d) && e) && g) ≡ (a' && (b' && (c' && (d' && (e' && g')))))
six {a' = a'} {b' = b'} {c' = c'} {d' = d'} {e' = e'} {g' = g'} p q r s t u = (λ i. (((((p i && q i) && r i) && s i) && t i) && u i)) ∙ turn a' b' c' d' e' g'

module _ (f : Filter) (fit : FilterFits f) (w : WantedOrigin) (from : (o : Words) → wants_origin w o ≡ from_passes (filter_shown f) (origin_shown o)) (k : Key) (bit : Bit k.current_next) where
  -- of a set, whose kind follows from table_id
  pub sets_match : kind_word k.table_id ≡ kind_number (the_kind (kind_of k.table_id)) → matches of.Sets (fields_of w f) k ≡ key_matches (filter_shown f) (key_shown k).schedule
  unfolding matches key_matches filter_shown key_shown
  sets_match e =
      six (from k.from) (wants_kind f.kind fit.kind (kind_word k.table_id) (the_kind (kind_of k.table_id)) e) (wants_exact f.service_id k.extension)
      (wants_exact f.transport_stream_id k.transport_stream_id) (wants_exact f.original_network_id k.original_network_id)
      (wants_current f.current_next fit.current_next k.current_next bit)

  -- of a schedule, whose head has the kind
  pub schedules_match : k.table_id ≡ kind_number (kind_by k.table_id) → matches of.Schedules (fields_of w f) k ≡ key_matches (filter_shown f) (schedule_shown k)
  unfolding matches key_matches filter_shown schedule_shown
  schedules_match e =
      six (from k.from) (wants_kind f.kind fit.kind k.table_id (kind_by k.table_id) e) (wants_exact f.service_id k.extension)
      (wants_exact f.transport_stream_id k.transport_stream_id) (wants_exact f.original_network_id k.original_network_id)
      (wants_current f.current_next fit.current_next k.current_next bit)

-- a table_id of a kind has that kind's number
pub kind_word_lem : (t : ℕ) → kind_of t ≡ some (the_kind (kind_of t)) → kind_word t ≡ kind_number (the_kind (kind_of t))
unfolding kind_of between kind_number
kind_word_lem t h = go (eqb t 0x4E) (eqb t 0x4F) (within 0x50 0x5F t) (within 0x60 0x6F t) h
  where
    kind_by' : Bool → Bool → Bool → Bool → Option Kind
    kind_by' a b c d = cond a (some present_actual) (cond b (some present_other) (cond c (some schedule_actual) (cond d (some schedule_other) none)))

    go : (a b c d : Bool) → kind_by' a b c d ≡ some (the_kind (kind_by' a b c d)) → kind_told (cond a (Some PresentFollowingActual) (cond b (Some PresentFollowingOther) (cond c (Some ScheduleActual) (cond d (Some ScheduleOther) None)))) ≡ kind_number (the_kind (kind_by' a b c d))
    go true b c d e = refl
    go false true c d e = refl
    go false false true d e = refl
    go false false false true e = refl
    go false false false false e = absurd (Rattle.laws.proofs.Tests.none≢some refl e)
