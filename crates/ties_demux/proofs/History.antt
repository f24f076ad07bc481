-- Every history of packets from a card on which all stands: the rules' answers and sections, the rules' next state, and all stands on.
-- Assumes nothing.
use mathlib.Core.Path.{◌≡◌, refl, sym, ap, ◌∙◌}
use mathlib.Core.List.{List, [], ◌∷◌}
use Prim.Native.Nat.{ℕ}
use Rattle.laws.specs.Runs.{answers, store_after}
use Rattle.section.specs.Facts.{Bytes as AllBytes}
use Rattle.ties_demux.specs.Card.{Card, Told, card_acts, card_tells, call_on, shown_by, AllStand}
use Rattle.ties_demux.specs.History.{Given, OfBytes, tells, acts, ruled, rules_tell, rules_act}
use Rattle.ties_demux.proofs.Feed.{SameCall, feed_same}

module _ (c : Card) (x : Given) (st : AllStand c) (b : AllBytes x.packet) where
  pub call : SameCall c x.input x.packet st b (call_on c x.input x.packet) (ruled (shown_by c) x)
  call = feed_same c x.input x.packet st b

  pub call_tells_lem : tells c x ≡ rules_tell (shown_by c) x
  unfolding card_tells
  call_tells_lem = call.says

  pub call_shows : shown_by (acts c x) ≡ rules_act (shown_by c) x
  unfolding card_acts
  call_shows = call.shows

  pub call_stands : AllStand (acts c x)
  unfolding card_acts
  call_stands = call.stand

pub same_answers : (c : Card) (xs : List Given) → AllStand c → OfBytes xs → answers tells acts c xs ≡ answers rules_tell rules_act (shown_by c) xs
unfolding answers
same_answers c [] st b = refl
same_answers c (x ∷ xs) st b =
    let first = call_tells_lem c x st b.0 in
    let rest = same_answers (acts c x) xs (call_stands c x st b.0) b.1 ∙ ap (λ h. answers rules_tell rules_act h xs) (call_shows c x st b.0) in
    λ i. first i ∷ rest i

pub same_view : (c : Card) (xs : List Given) → AllStand c → OfBytes xs → shown_by (store_after acts c xs) ≡ store_after rules_act (shown_by c) xs
unfolding store_after
same_view c [] st b = refl
same_view c (x ∷ xs) st b = same_view (acts c x) xs (call_stands c x st b.0) b.1 ∙ ap (λ h. store_after rules_act h xs) (call_shows c x st b.0)

pub always_stand : (c : Card) (xs : List Given) → AllStand c → OfBytes xs → AllStand (store_after acts c xs)
unfolding store_after
always_stand c [] st b = st
always_stand c (x ∷ xs) st b = always_stand (acts c x) xs (call_stands c x st b.0) b.1
