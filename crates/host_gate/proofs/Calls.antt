-- What each call of the gate and of the watch leaves, from what its parts leave.
-- Assumes nothing.
use Prim.Native.Nat.{ℕ, ◌≤◌}
use mathlib.Core.Path.{◌≡◌, refl, sym, ap}
use mathlib.Core.List.{List}
use mathlib.Core.Bool.{Bool, cond}
use native.Mathlib.Omega.{arith}
use lib.ListN.{length}
use lib.Dec.{eqb}
use borrow.Author.Tests.{ltb-false, ne_eqb}
use Rattle.answers.specs.Answers.{refusal_no, outcome_no, reply_no, Outcome, Reply}
use Rattle.std.specs.Prelude.{Ok, Err}
use Rattle.answers.proofs.Laws.{refused_from_10}
use Rattle.counters.specs.declared.Counters.{Counters}
use Rattle.watched.specs.Store.{Opening, opening_by, asked}
use Rattle.pats.specs.Store.{Record}
use Rattle.gate.specs.Store.{begun_by}
use Rattle.gate_pats.specs.Store.{opened_with, record_opened, left_with, kept_of, offered_with}
use Rattle.gate_state.specs.declared.Settings.{Settings}
use Rattle.gate_state.specs.declared.Gate.{Gate}
use Rattle.gate_state.specs.declared.Opened.{Opened}
use Rattle.gate_state.specs.declared.Offered.{Offered}
use Rattle.host_words.specs.Inputs.{input_number}
use Rattle.host_words.specs.Pids.{pid_number}
use Rattle.host_words.specs.Answers.{Words, words}
use Rattle.host_gate_words.specs.Words.{settings_of, held_in, words_of, words_opened, tells_opened, Told, told, tells_offered}
use Rattle.host_gate.specs.Calls.{begun, gate_opened, left, gate_offered, watch_opened, watch_asked}
use Rattle.host_gate_words.specs.declared.Held.{Held}

pub opened_words : (a : Outcome) (g : Gate) (c : Counters) (w : List ℕ) → words_opened a g c w ≡ cond (eqb (outcome_no a) 7) (words_of g c) w
opened_words (Ok _) g c w = refl
opened_words (Err r) g c w =
    let h : 10 ≤ refusal_no r = ltb-false (refusal_no r) 10 (refused_from_10 r) in
    rw (ne_eqb (refusal_no r) 7 (omega arith))

pub gate_opened_lem :
    (gate : List ℕ) (capacity settings rule : ℕ) (extra keys changes slots cells watch : List ℕ) (s : Settings) (o : Opened) (ws gs : List ℕ) (r : ℕ) →
    s ≡ settings_of capacity settings rule →
    begun_by o ws ≡ opened_with s extra (length keys) (length changes) (length slots) (length cells) watch →
    words r gs ≡ tells_opened o gate →
    begun r gs ws ≡ gate_opened gate capacity settings rule extra keys changes slots cells watch
unfolding gate_opened
gate_opened_lem gate capacity settings rule extra keys changes slots cells watch s o ws gs r e f t =
    rw (← e, ← f, ap (λ (x : Words). x.answer) t, ap (λ (x : Words). x.now) t, opened_words o.answer o.gate o.counters gate)

pub gate_offered_lem :
    (gate keys changes : List ℕ) (watch : Record) (input pid : ℕ) (section failure : List ℕ) (h : Held) (q p : ℕ) (o : Offered) (ks ms : List ℕ) (ws : Record) (gs fs : List ℕ) (r : ℕ) →
    h ≡ held_in gate → q ≡ input_number input → p ≡ pid_number pid →
    left_with o ks ms ws ≡ offered_with (kept_of h.gate h.counters keys changes watch) q p section →
    told r gs fs ≡ tells_offered o gate failure →
    left r gs ks ms ws fs ≡ gate_offered gate keys changes watch input pid section failure
unfolding gate_offered
gate_offered_lem gate keys changes watch input pid section failure h q p o ks ms ws gs fs r d u e f t =
    rw (ap (λ (x : Held). x.gate) (sym d), ap (λ (x : Held). x.counters) (sym d), ← u, ← e, ← f, ap (λ (x : Told). x.answer) t, ap (λ (x : Told). x.gate) t, ap (λ (x : Told). x.failure) t)

pub watch_opened_lem :
    (settings : ℕ) (extra slots cells watch ws : List ℕ) (s : Settings) (o : Outcome) (r : ℕ) →
    s ≡ settings_of 0 settings 0 → opening_by o ws ≡ record_opened s extra (length slots) (length cells) watch → r ≡ outcome_no o →
    words r ws ≡ watch_opened settings extra slots cells watch
unfolding watch_opened
watch_opened_lem settings extra slots cells watch ws s o r k f n = rw (← k, ← f, n)

pub watch_asked_lem : (watch : List ℕ) (pid p : ℕ) (a : Reply) (r : ℕ) → p ≡ pid_number pid → reply_no a ≡ asked watch p → r ≡ reply_no a → r ≡ watch_asked watch pid
unfolding watch_asked
watch_asked_lem watch pid p a r e f n = rw (← e, ← f) n
