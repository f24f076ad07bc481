-- The question whether a PID is watched, in every history of offers from an opening: yes exactly for the protected PIDs and for those of N, where N is
-- the set of the last changed readable PAT that was followed, and empty before the first.
-- Assumes nothing.
use Prim.Native.Nat.{ℕ, ◌<◌, ◌≤◌}
use mathlib.Core.Path.{◌≡◌, refl, sym, ap, ◌∙◌}
use mathlib.Core.List.{List, [], ◌∷◌}
use mathlib.Core.Bool.{Bool, true, false, cond, ◌&&◌, ◌||◌, or-false}
use lib.ListN.{length}
use borrow.Author.Tests.{le-leb, lt-ltb}
use Rattle.laws.specs.Bits.{has_bit}
use Rattle.laws.specs.Runs.{store_after}
use Rattle.answers.specs.declared.Refusal.TheVariants.{CounterFull}
use Rattle.pat.specs.Pat.{readable, set_n}
use Rattle.ring.specs.Rules.{changed}
use Rattle.counters.specs.Counters.{any_full}
use Rattle.offers.specs.Offers.{read_of}
use Rattle.offers.specs.declared.Verdict.{Verdict}
use Rattle.offers.specs.declared.Verdict.TheVariants.{Refused, Failed, Arrived}
use Rattle.watched.specs.Rules.{Watch, stays_watched, followed_by}
use Rattle.watched.specs.Store.{watched_of, asked}
use Rattle.gate.specs.Store.{opened, Store, offered}
use Rattle.gate.specs.Rules.{Offer, Manner, Held, row_from, admitted, carried_in, told, acts, OfBytes}
use Rattle.gate.specs.View.{Opened, store_acts}
use Rattle.gate_state.specs.declared.Settings.{Settings}
use Rattle.ties_gate.specs.Watching.{is_protected, no_pid, empty_held, is_changed, is_followed, n_after, answered}
use Rattle.ties_gate.proofs.Order.{follows}
use Rattle.ties_gate.proofs.Opening.{left_open, manner_for, opening_opens, view_from_open}

-- a watch with these protected PIDs and this N
pub record Watches (w : Watch) (p n : ℕ → Bool) : Type 0 where
  pub watched : (q : ℕ) → w.watched q ≡ p q || n q
  pub protected : (q : ℕ) → w.protected q ≡ p q
  pub followed : (q : ℕ) → w.followed q ≡ n q

still : (p f n : Bool) → stays_watched (p || f) f n p ≡ p || n
still true true true = refl
still true true false = refl
still true false true = refl
still true false false = refl
still false true true = refl
still false true false = refl
still false false true = refl
still false false false = refl

-- N that is followed is N
pub follow_watches : (p : ℕ → Bool) (w : Watch) (n n' : ℕ → Bool) → Watches w p n → Watches (followed_by n' w) p n'
follow_watches p w n n' k =
    record { watched = λ q. rw (k.watched q, k.protected q, k.followed q) (still (p q) (n q) (n' q)); protected = k.protected; followed = λ q. refl }

module _ (m : Manner) (p : ℕ → Bool) where
  -- a changed readable PAT replaces N where following is on, and nothing else does
  followed_watches : (w : Watch) (n : ℕ → Bool) (section : List ℕ) → Watches w p n → (c r : Bool) →
      Watches (cond c (cond r (followed_by (set_n section) w) w) w) p (cond (c && r) (set_n section) n)
  followed_watches w n section k true true = follow_watches p w n (set_n section) k
  followed_watches w n section k true false = k
  followed_watches w n section k false r = k

  carried_watches : (h : Held) (n : ℕ → Bool) (section : List ℕ) → Watches h.watch p n → (v : Verdict) →
      Watches (carried_in m h section v).held.watch p (cond (is_changed h v && m.follow && readable section) (set_n section) n)
  unfolding carried_in admitted
  carried_watches h n section k (Refused r) = k
  carried_watches h n section k (Failed f) = k
  carried_watches h n section k (Arrived a) = followed_watches h.watch n section k (changed (row_from a) h.rows && m.follow) (readable section)

  -- every history of the rule
  pub watches : (h : Held) (n : ℕ → Bool) (os : List Offer) → Watches h.watch p n → Watches (store_after (acts m) h os).watch p (n_after m h n os)
  unfolding store_after n_after acts told is_followed
  watches h n [] k = k
  watches h n (o ∷ os) k =
      watches (acts m h o) (cond (is_followed m h o) (set_n o.section) n) os
      (carried_watches h n o.section k (cond (any_full h.counters) (Refused CounterFull) (read_of m.rule o.input o.pid o.section)))

-- an opened store stays one
always_opened : (s : Store) (os : List Offer) → Opened s → OfBytes os → Opened (store_after store_acts s os)
unfolding store_after store_acts
always_opened s [] r b = r
always_opened s (o ∷ os) r b = always_opened (offered s o.input o.pid o.section).store os (follows s o r b.0).opened b.1

module _
    (st : Settings) (extra keys changes words : List ℕ)
    (h : (opened st extra (length keys) (length changes) words).answer ≡ 7)
    (os : List Offer) (b : OfBytes os)
  where
    -- the store that opening left
    abbrev start : Store
    start = left_open (opened st extra (length keys) (length changes) words) keys changes

    abbrev protects : ℕ → Bool
    protects = is_protected st.well_known extra

    rule : Watches (store_after (acts (manner_for st)) (empty_held protects) os).watch protects (n_after (manner_for st) (empty_held protects) no_pid os)
    rule = watches (manner_for st) protects (empty_held protects) no_pid os (record { watched = λ q. sym (or-false (protects q)); protected = λ q. refl; followed = λ q. refl })

    -- THE THEOREM
    pub ask_in_every_history : (pid : ℕ) → pid < 8192 →
        asked (store_after store_acts start os).words pid ≡ answered protects (n_after (manner_for st) (empty_held protects) no_pid os) pid
    unfolding asked
    ask_in_every_history pid k =
        let l : 384 ≤ length (store_after store_acts start os).words = (always_opened start os (opening_opens st extra keys changes words h) b).watch in
        let e : has_bit (watched_of (store_after store_acts start os).words) pid ≡ protects pid || n_after (manner_for st) (empty_held protects) no_pid os pid =
        ap (λ (x : Held). x.watch.watched pid) (view_from_open st extra keys changes words h os b) ∙ rule.watched pid in
        rw (le-leb 384 (length (store_after store_acts start os).words) l, lt-ltb pid 8192 k, e)
