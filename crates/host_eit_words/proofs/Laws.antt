-- One law for each way out of a function.
-- Assumes nothing.
use Prim.Native.Nat.{ℕ}
use mathlib.Core.Path.{◌≡◌}
use mathlib.Core.List.{List, [], ◌∷◌}
use borrow.Author.Tests.{eq-eqb, ne_eqb}
use Rattle.answers.specs.Answers.{Outcome}
use Rattle.std.specs.Prelude.{Option, Some, None, Ok}
use Rattle.eit_state.specs.declared.Eit.{Eit}
use Rattle.eit_drop.specs.declared.Filter.{Filter}
use Rattle.eit_drop.specs.declared.WantedPid.{WantedPid}
use Rattle.eit_drop.specs.declared.WantedPid.TheVariants as wanted_pid
use Rattle.eit_state.specs.declared.PushAnswer as eit_push
use Rattle.eit_state.specs.declared.PushAnswer.TheVariants as eit_answer
use Rattle.host_words.specs.Answers.{at}
use Rattle.host_words.specs.Pids.{pid_number}
use Rattle.host_eit_words.specs.Words as eits

-- ---- the words of a collector

pub eit_written : (a : Outcome) (e : Eit) (w ws : List ℕ) → a ≡ Ok tt → ws ≡ eits.words_of e → ws ≡ eits.words_opened a e w
eit_written a e w ws h j = rw h j

pub set_row_written : (a : eit_push.PushAnswer) (i : ℕ) (row : List ℕ) → a ≡ eit_answer.Set i → i ∷ [] ≡ eits.row_by a row
set_row_written a i row h = rw h

pub schedule_row_written : (a : eit_push.PushAnswer) (k : ℕ) (row : List ℕ) → a ≡ eit_answer.Schedule k → k ∷ [] ≡ eits.row_by a row
schedule_row_written a k row h = rw h

-- ---- a filter's words

module _ (w : ℕ) where
  pub field_free : w ≡ 18446744073709551615 → None ≡ eits.wanted_of w
  field_free h = rw (eq-eqb w 18446744073709551615 h)

  pub field_exact : (w ≡ 18446744073709551615 → ⊥) → Some w ≡ eits.wanted_of w
  field_exact h = rw (ne_eqb w 18446744073709551615 h)

  pub pid_free : w ≡ 18446744073709551615 → wanted_pid.Any ≡ eits.wanted_pid_of w
  pid_free h = rw (eq-eqb w 18446744073709551615 h)

  pub pid_without : (w ≡ 18446744073709551615 → ⊥) → w ≡ 0xFFFF_FFFF → wanted_pid.Without ≡ eits.wanted_pid_of w
  pid_without h k = rw (ne_eqb w 18446744073709551615 h, eq-eqb w 0xFFFF_FFFF k)

  pub pid_exact : (n : ℕ) → (w ≡ 18446744073709551615 → ⊥) → (w ≡ 0xFFFF_FFFF → ⊥) → n ≡ pid_number w → wanted_pid.Exactly n ≡ eits.wanted_pid_of w
  pid_exact n h k e = rw (ne_eqb w 18446744073709551615 h, ne_eqb w 0xFFFF_FFFF k, e)

pub filter_read :
    (w : List ℕ) (p : WantedPid) (k s t o c n : Option ℕ) →
    p ≡ eits.wanted_pid_of (at w 0) → k ≡ eits.wanted_of (at w 1) → s ≡ eits.wanted_of (at w 2) → t ≡ eits.wanted_of (at w 3) → o ≡ eits.wanted_of (at w 4) →
    c ≡ eits.wanted_of (at w 5) → n ≡ eits.wanted_of (at w 6) →
    ◌≡◌ {A = Filter} (record { pid = p; kind = k; service_id = s; transport_stream_id = t; original_network_id = o; current_next = c; input = n }) (eits.filter_of w)
filter_read w p k s t o c n e f g h i j m = λ x. record { pid = e x; kind = f x; service_id = g x; transport_stream_id = h x; original_network_id = i x; current_next = j x; input = m x }
