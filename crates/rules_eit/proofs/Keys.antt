-- The tests of keys mean equality.
-- Assumes nothing.
use borrow.Author.Tests.{eqb-true}
use mathlib.Core.Path.{◌≡◌, refl, sym, ap, ◌∙◌}
use mathlib.Core.Bool.{true}
use Prim.Native.Nat.{ℕ, zero, suc}
use Rattle.laws.proofs.Tests.{and_true, beq_true}
use Rattle.rules_shared.proofs.Same.{same_origin_true_lem}
use Rattle.rules_eit.specs.Keys.{Kind, present_actual, present_other, schedule_actual, schedule_other, kind_number, same_kind, ScheduleKey, SetKey, same_schedule, same_set}

kind_at : ℕ → Kind
kind_at zero = present_actual
kind_at (suc zero) = present_other
kind_at (suc (suc zero)) = schedule_actual
kind_at (suc (suc (suc n))) = schedule_other

kind_back : (k : Kind) → kind_at (kind_number k) ≡ k
unfolding kind_at kind_number
kind_back present_actual = refl
kind_back present_other = refl
kind_back schedule_actual = refl
kind_back schedule_other = refl

pub same_kind_true : (a b : Kind) → same_kind a b ≡ true → a ≡ b
unfolding same_kind
same_kind_true a b h = sym (kind_back a) ∙ ap kind_at (eqb-true (kind_number a) (kind_number b) h) ∙ kind_back b

pub same_schedule_true : (a b : ScheduleKey) → same_schedule a b ≡ true → a ≡ b
unfolding same_schedule
same_schedule_true a b h =
    let p = and_true _ _ h in
    let q = and_true _ _ p.1 in
    let r = and_true _ _ q.1 in
    let s = and_true _ _ r.1 in
    let t = and_true _ _ s.1 in
    let e₁ = same_origin_true_lem _ _ p.0 in
    let e₂ = same_kind_true _ _ q.0 in
    let e₃ = eqb-true _ _ r.0 in
    let e₄ = eqb-true _ _ s.0 in
    let e₅ = eqb-true _ _ t.0 in
    let e₆ = beq_true _ _ t.1 in
    λ i. record { from = e₁ i; kind = e₂ i; service_id = e₃ i; transport_stream_id = e₄ i; original_network_id = e₅ i; current_next_of = e₆ i }

pub same_set_true : (a b : SetKey) → same_set a b ≡ true → a ≡ b
unfolding same_set
same_set_true a b h =
    let p = and_true _ _ h in
    let e₁ = same_schedule_true _ _ p.0 in
    let e₂ = eqb-true _ _ p.1 in
    λ i. record { schedule = e₁ i; table_id_of = e₂ i }
