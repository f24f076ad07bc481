-- What each call leaves, from what its parts leave.
-- Assumes nothing.
use Prim.Native.Nat.{ℕ}
use mathlib.Core.Path.{◌≡◌, sym, ap}
use mathlib.Core.List.{List}
use lib.ListN.{length}
use Rattle.gate_state.specs.declared.Settings.{Settings}
use Rattle.gate_state.specs.declared.Opened.{Opened}
use Rattle.gate_state.specs.declared.Offered.{Offered}
use Rattle.ring_index.specs.Store.{index_of}
use Rattle.pats.specs.Store.{Record}
use Rattle.gate_indexed.specs.Store.{begun_by}
use Rattle.gate_pats_indexed.specs.Store as indexed
use Rattle.host_words.specs.Inputs.{input_number}
use Rattle.host_words.specs.Pids.{pid_number}
use Rattle.host_words.specs.Answers.{Words, words}
use Rattle.host_gate_words.specs.Words.{settings_of, held_in, tells_opened, Told, told, tells_offered}
use Rattle.host_gate_words.specs.declared.Held.{Held}
use Rattle.host_gate.proofs.Calls.{opened_words}
use Rattle.host_indexed.specs.Calls.{begun, gate_opened, left, gate_offered}

pub gate_opened_lem :
    (gate : List ℕ) (capacity settings rule : ℕ) (extra keys changes buckets links slots cells watch : List ℕ) (s : Settings) (o : Opened) (bs ws gs : List ℕ) (r : ℕ) →
    s ≡ settings_of capacity settings rule →
    begun_by o bs ws ≡ indexed.opened_with s extra (length keys) (length changes) (length links) (length slots) (length cells) buckets watch →
    words r gs ≡ tells_opened o gate →
    begun r gs bs ws ≡ gate_opened gate capacity settings rule extra keys changes buckets links slots cells watch
unfolding gate_opened
gate_opened_lem gate capacity settings rule extra keys changes buckets links slots cells watch s o bs ws gs r e f t =
    rw (← e, ← f, ap (λ (x : Words). x.answer) t, ap (λ (x : Words). x.now) t, opened_words o.answer o.gate o.counters gate)

pub gate_offered_lem :
    (gate keys changes buckets links : List ℕ) (watch : Record) (input pid : ℕ) (section failure : List ℕ) (h : Held) (q p : ℕ) (o : Offered)
    (ks ms bs ls : List ℕ) (ws : Record) (gs fs : List ℕ) (r : ℕ) →
    h ≡ held_in gate → q ≡ input_number input → p ≡ pid_number pid →
    indexed.left_with o ks ms (index_of bs ls) ws ≡ indexed.offered_with (indexed.kept_by h.gate h.counters keys changes (index_of buckets links) watch) q p section →
    told r gs fs ≡ tells_offered o gate failure →
    left r gs ks ms bs ls ws fs ≡ gate_offered gate keys changes buckets links watch input pid section failure
unfolding gate_offered
gate_offered_lem gate keys changes buckets links watch input pid section failure h q p o ks ms bs ls ws gs fs r d u e f t =
    rw (ap (λ (x : Held). x.gate) (sym d), ap (λ (x : Held). x.counters) (sym d), ← u, ← e, ← f, ap (λ (x : Told). x.answer) t, ap (λ (x : Told). x.gate) t, ap (λ (x : Told). x.failure) t)
