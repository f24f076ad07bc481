-- The promise of the store: if packets sent by ISO/IEC 13818-1 without discontinuity_indicator arrive on a PID of an input unchanged and in order, with gaps of at
-- most 14 packets, then every section that the calls of a history tell of that PID was sent on it, byte for byte. Nothing is asked of the other packets, of the other
-- PIDs and inputs, of the watch, of the buffers, or of how long the history is.
-- Assumes nothing.
use mathlib.Core.Path.{◌≡◌, refl, sym, subst, ap, ◌∙◌}
use mathlib.Core.Option.{Option, none, some}
use mathlib.Core.List.{List, [], ◌∷◌, ◌++◌}
use Prim.Native.Nat.{ℕ, ◌<◌}
use native.Mathlib.Omega.{arith}
use Rattle.transport.specs.Rules.{Bytes, Packet}
use Rattle.transport.specs.Sender.{Sending, sending, Times, once, twice, Sent, Arrives, leaves, comes, both, lost}
use Rattle.transport.specs.Receiver.{AllIn, on_pid}
use Rattle.transport.proofs.Exact.{exact}
use Rattle.gate_state.specs.declared.Settings.{Settings}
use Rattle.ties_demux.specs.Rules.{on_card, free_in}
use Rattle.ties_demux.specs.Card.{Card, watched_on, acts_on, shown_by}
use Rattle.ties_demux.specs.History.{Given, OfBytes, arrivals, finished_by}
use Rattle.ties_demux.specs.Opened.{OpenedCard}
use Rattle.ties_demux.proofs.Opening.{opened_stands, nothing_held}
use Rattle.ties_demux.proofs.Finished.{taken, finished_are}
use Rattle.ties_demux.proofs.First.{First, first_taken}

-- the first of what arrives arrive
first_arrive : {g : Option ℕ} {ps : List Sending} {qs : List Packet} → Arrives g ps qs → (a b : List Packet) → qs ≡ a ++ b → Arrives g ps a
first_arrive r [] b e = leaves
first_arrive leaves (x ∷ a) b e = let z : ◌≡◌ {A = ℕ} 0 1 = cc in absurd (omega arith)
first_arrive {g} (comes {p = p} {times = times} {ps = ps} {qs = qs} r) (x ∷ a) b e =
    let y : p ≡ x = cc in
    let z : qs ≡ a ++ b = cc in
    subst (λ (k : Packet). Arrives g (sending p times ∷ ps) (k ∷ a)) y (comes (first_arrive r a b z))
first_arrive {g} (both {p = p} {ps = ps} r) (x ∷ []) b e = let y : p ≡ x = cc in subst (λ (k : Packet). Arrives g (sending p twice ∷ ps) (k ∷ [])) y (comes leaves)
first_arrive {g} (both {p = p} {ps = ps} {qs = qs} r) (x ∷ (v ∷ a)) b e =
    let y : p ≡ x = cc in
    let w : p ≡ v = cc in
    let z : qs ≡ a ++ b = cc in
    subst (λ (k : Packet). Arrives g (sending p twice ∷ ps) (x ∷ (k ∷ a))) w (subst (λ (k : Packet). Arrives g (sending p twice ∷ ps) (k ∷ (p ∷ a))) y (both (first_arrive r a b z)))
first_arrive (lost l r) (x ∷ a) b e = lost l (first_arrive r (x ∷ a) b e)

module _ (st : Settings) (c : Card) (o : OpenedCard st c) (i p : ℕ) (h : p < 8192) (xs : List Given) (b : OfBytes xs) where
  pub exact_store : {n : ℕ} {rest : Bytes} {secs : List Bytes} {ps : List Sending} → n < 16 → Sent n rest secs ps → Arrives none ps (on_pid (on_card i p) (arrivals xs))
      → AllIn secs (finished_by (on_card i p) c xs)
  exact_store {secs = secs} small t arr =
      let stands = opened_stands st c o in
      let f : First (on_pid (on_card i p) (taken (shown_by c) xs)) (on_pid (on_card i p) (arrivals xs)) = first_taken i p h c xs stands b in
      subst (AllIn secs) (sym (finished_are (on_card i p) c xs stands b))
      (exact watched_on acts_on (free_in (shown_by c).counts) (on_card i p) small t (taken (shown_by c) xs) (first_arrive arr (on_pid (on_card i p) (taken (shown_by c) xs)) f.rest f.all)
      (shown_by c).held (nothing_held st c o (on_card i p)))
