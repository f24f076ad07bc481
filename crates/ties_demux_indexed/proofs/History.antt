-- Every history on a card whose gate has an index, from its openings on: packets, and sections that are offered between them, are answered and leave what they do on the
-- same card without an index. So what is proved of the packets of a card without an index holds with one.
-- Assumes nothing.
use mathlib.Core.Path.{◌≡◌, refl, sym, ap, subst, ◌∙◌}
use mathlib.Core.Option.{none, some}
use mathlib.Core.Bool.{cond}
use mathlib.Core.List.{List, [], ◌∷◌, ◌++◌}
use Prim.Native.Nat.{ℕ, ◌+◌, ◌<◌}
use Rattle.laws.specs.Runs.{answers, store_after}
use Rattle.transport.specs.Rules.{Bytes}
use Rattle.transport.specs.Sender.{Sending, Sent, Arrives}
use Rattle.transport.specs.Receiver.{AllIn, Stream, on_pid}
use Rattle.counters.specs.Rules.{Sums}
use Rattle.gate_state.specs.declared.Settings.{Settings}
use Rattle.ties_demux.specs.Rules.{on_card}
use Rattle.ties_demux.specs.Card.{Card, Told, shown_by}
use Rattle.ties_demux.specs.History.{Given, OfBytes, rules_tell, rules_act, arrival_of, arrivals, on_it, finished_by}
use Rattle.ties_demux.specs.History as plain
use Rattle.ties_demux.specs.Counting.{is_counted, is_malformed, calls_on}
use Rattle.ties_demux.proofs.History as plain_history
use Rattle.ties_demux.proofs.Opening.{opened_stands}
use Rattle.ties_demux.proofs.Exact as plain_exact
use Rattle.ties_demux.proofs.Always.{HoldsWell}
use Rattle.ties_demux.proofs.Always as plain_always
use Rattle.ties_demux.proofs.Counting as plain_counts
use Rattle.ties_demux_indexed.specs.Card.{CardBy}
use Rattle.ties_demux_indexed.specs.History.{Call, feeds, offers, Says, told, said, OfCallBytes, tells, acts, tells_by, acts_by, packet_tells, packet_acts, finished_with}
use Rattle.ties_demux_indexed.specs.Opened.{OpenedCardBy}
use Rattle.ties_demux_indexed.proofs.Card.{Fit, feed_alike, offer_alike}
use Rattle.ties_demux_indexed.proofs.Opening.{plain_opened, opened_fit}

-- ---- packets and offers

record AlikeCall (c : CardBy) (x : Call) : Type 0 where
  pub says : tells_by c x ≡ tells c.card x
  pub leaves : (acts_by c x).card ≡ acts c.card x
  pub fit : Fit (acts_by c x)

call_alike : (c : CardBy) → Fit c → (x : Call) (xs : List Call) → OfCallBytes (x ∷ xs) → AlikeCall c x × OfCallBytes xs
unfolding tells_by tells acts_by acts
call_alike c f (feeds i packet) xs b = let y = feed_alike c f i packet b.0 in (record { says = ap told y.tells; leaves = y.acts; fit = y.fit }, b.1)
call_alike c f (offers i pid section) xs b = let y = offer_alike c f i pid section b.0 in (record { says = ap said y.tells; leaves = y.acts; fit = y.fit }, b.1)

answers_alike : (c : CardBy) → Fit c → (xs : List Call) → OfCallBytes xs → answers tells_by acts_by c xs ≡ answers tells acts c.card xs
unfolding answers
answers_alike c f [] b = refl
answers_alike c f (x ∷ xs) b =
    let y = call_alike c f x xs b in
    let rest = answers_alike (acts_by c x) y.0.fit xs y.1 ∙ ap (λ (k : Card). answers tells acts k xs) y.0.leaves in
    λ i. y.0.says i ∷ rest i

cards_alike : (c : CardBy) → Fit c → (xs : List Call) → OfCallBytes xs → (store_after acts_by c xs).card ≡ store_after acts c.card xs
unfolding store_after
cards_alike c f [] b = refl
cards_alike c f (x ∷ xs) b = let y = call_alike c f x xs b in cards_alike (acts_by c x) y.0.fit xs y.1 ∙ ap (λ (k : Card). store_after acts k xs) y.0.leaves

-- THE THEOREM: both forms of the gate answer alike, and leave alike all that they share: gate, counters, rows and records, and of each input its streams, PID words
-- and buffers; and the places
pub both_alike : (st : Settings) (c : CardBy) → OpenedCardBy st c → (xs : List Call) → OfCallBytes xs
    → (answers tells_by acts_by c xs ≡ answers tells acts c.card xs) × ((store_after acts_by c xs).card ≡ store_after acts c.card xs)
both_alike st c o xs b = (answers_alike c (opened_fit st c o) xs b, cards_alike c (opened_fit st c o) xs b)

-- ---- packets alone

packets_told : (c : CardBy) → Fit c → (xs : List Given) → OfBytes xs → answers packet_tells packet_acts c xs ≡ answers plain.tells plain.acts c.card xs
unfolding answers
packets_told c f [] b = refl
packets_told c f (x ∷ xs) b =
    let y = feed_alike c f x.input x.packet b.0 in
    let rest = packets_told (packet_acts c x) y.fit xs b.1 ∙ ap (λ (k : Card). answers plain.tells plain.acts k xs) y.acts in
    λ i. y.tells i ∷ rest i

packets_left : (c : CardBy) → Fit c → (xs : List Given) → OfBytes xs → (store_after packet_acts c xs).card ≡ store_after plain.acts c.card xs
unfolding store_after
packets_left c f [] b = refl
packets_left c f (x ∷ xs) b =
    let y = feed_alike c f x.input x.packet b.0 in
    packets_left (packet_acts c x) y.fit xs b.1 ∙ ap (λ (k : Card). store_after plain.acts k xs) y.acts

finished_alike : (n : ℕ) (c : CardBy) → Fit c → (xs : List Given) → OfBytes xs → finished_with n c xs ≡ finished_by n c.card xs
unfolding finished_with finished_by
finished_alike n c f [] b = refl
finished_alike n c f (x ∷ xs) b =
    let y = feed_alike c f x.input x.packet b.0 in
    let rest = finished_alike n (packet_acts c x) y.fit xs b.1 ∙ ap (λ (k : Card). finished_by n k xs) y.acts in
    λ i. cond (on_it n (arrival_of x)) (y.tells i).sections [] ++ rest i

module _ (st : Settings) (c : CardBy) (o : OpenedCardBy st c) (xs : List Given) (b : OfBytes xs) where
  after : (store_after packet_acts c xs).card ≡ store_after plain.acts c.card xs
  after = packets_left c (opened_fit st c o) xs b

  -- the rules' answers and sections, and the rules' next state
  pub same_answers : answers packet_tells packet_acts c xs ≡ answers rules_tell rules_act (shown_by c.card) xs
  same_answers = packets_told c (opened_fit st c o) xs b ∙ plain_history.same_answers c.card xs (opened_stands st c.card (plain_opened st c o)) b

  pub same_view : shown_by (store_after packet_acts c xs).card ≡ store_after rules_act (shown_by c.card) xs
  same_view = ap shown_by after ∙ plain_history.same_view c.card xs (opened_stands st c.card (plain_opened st c o)) b

  -- every PID that holds a buffer is watched, no two hold one, each number is below the count, and bytes under way are no whole section
  pub in_every_history : (i p : ℕ) (x : Stream) → p < 8192 → (shown_by (store_after packet_acts c xs).card).held.streams (on_card i p) ≡ some x → HoldsWell (store_after packet_acts c xs).card i p x
  in_every_history i p x h =
      subst (λ (k : Card). (shown_by k).held.streams (on_card i p) ≡ some x → HoldsWell k i p x) (sym after) (plain_always.in_every_history st c.card (plain_opened st c o) xs b i p x h)

  -- every section that the calls tell of a PID was sent on it, byte for byte
  pub exact_store : (i p : ℕ) → p < 8192 → {n : ℕ} {rest : Bytes} {secs : List Bytes} {ps : List Sending} → n < 16 → Sent n rest secs ps → Arrives none ps (on_pid (on_card i p) (arrivals xs))
      → AllIn secs (finished_with (on_card i p) c xs)
  exact_store i p h {secs = secs} small t arr =
      subst (AllIn secs) (sym (finished_alike (on_card i p) c (opened_fit st c o) xs b)) (plain_exact.exact_store st c.card (plain_opened st c o) i p h xs b small t arr)

  -- the two counts of an input
  pub packets_count : (i : ℕ) → ((store_after packet_acts c xs).card.inputs i).streams.packets ≡ (c.card.inputs i).streams.packets + calls_on i is_counted c.card xs
  packets_count i = ap (λ (k : Card). (k.inputs i).streams.packets) after ∙ plain_counts.packets_count i c.card xs

  pub malformed_count : (i : ℕ) → ((store_after packet_acts c xs).card.inputs i).streams.malformed ≡ (c.card.inputs i).streams.malformed + calls_on i is_malformed c.card xs
  malformed_count i = ap (λ (k : Card). (k.inputs i).streams.malformed) after ∙ plain_counts.malformed_count i c.card xs
