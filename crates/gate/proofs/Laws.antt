-- What the tests of an offer tell as orders of numbers, and one law for each way out of a function.
-- Assumes nothing.
use Prim.Native.Nat.{ℕ, ◌≤◌}
use mathlib.Core.Path.{◌≡◌, refl, sym, ◌∙◌}
use mathlib.Core.List.{List}
use mathlib.Core.Bool.{Bool, true, false, cond, not, ◌&&◌, true≢false}
use lib.ListN.{length, replicate}
use lib.Dec.{leb, eqb}
use native.Mathlib.Omega.{arith}
use borrow.Author.Tests.{leb-true, eqb-false, ne_eqb, not-true, not-false}
use Rattle.laws.proofs.Tests.{and_true}
use Rattle.ring.specs.Store.{room_of, stamp_of, seen_of, keys_after, changes_after}
use Rattle.ring.specs.Store.{whole_of as ring_whole}
use Rattle.ring.specs.declared.Seen.{Seen}
use Rattle.ring.proofs.Laws.{whole as ring_whole_lem}
use Rattle.section.specs.Header.{table_id_of}
use Rattle.section.specs.Judged.{rule_known}
use Rattle.pat.specs.Pat.{readable, pat_of, with_programs}
use Rattle.pat.specs.declared.Pat.{Pat}
use Rattle.pat.specs.declared.Pat.TheVariants.{Readable, Unreadable}
use Rattle.pat.proofs.Laws.{unreadable}
use Rattle.offers.specs.Offers.{verdict_of}
use Rattle.offers.specs.declared.Arrival.{Arrival}
use Rattle.offers.specs.declared.Verdict.{Verdict}
use Rattle.offers.specs.declared.Verdict.TheVariants as verdict
use Rattle.watched.specs.Store.{all_pids, filled, following}
use Rattle.gate_state.specs.State.{by_sections, begun, refused, failed_by, seen_by}
use Rattle.offers.specs.declared.Failure.{Failure}
use Rattle.gate.specs.Store.{begun_by, can_open, opened, whole_of, Fits, Store, Offering, store_of, left_by, followed_pat, watch_after, admitted_to, carried, is_whole, offered}
use Rattle.gate_state.specs.declared.Follow.{Follow}
use Rattle.gate_state.specs.declared.Gate.{Gate}
use Rattle.gate_state.specs.declared.Offered.{Offered}
use Rattle.gate_state.specs.declared.Settings.{Settings}
use Rattle.gate_state.specs.declared.Opened.{Opened}
use Rattle.answers.specs.declared.Refusal.{Refusal}
use Rattle.answers.specs.declared.Refusal.TheVariants.{BadPid, TooLittle}
use Rattle.std.specs.Prelude.{Ok, Err}
use Rattle.counters.specs.declared.Counters.{Counters}

-- ---- 10

pub fits : (g : Gate) (keys changes words : ℕ) (w : Bool) → w ≡ whole_of g keys changes words → w ≡ true → Fits g keys changes words
fits g keys changes words w e h =
    let a = and_true _ _ (sym e ∙ h) in
    let b = and_true _ _ a.0 in
    record { rows = ring_whole_lem g.ring keys changes (ring_whole g.ring keys changes) refl b.0; watch = leb-true _ _ b.1; rule = a.1 }

-- ---- following

read_yes : (b : Bool) → Readable ≡ cond b Readable Unreadable → b ≡ true
read_yes true e = refl
read_yes false e = let z : ◌≡◌ {A = ℕ} 0 1 = cc in absurd (omega arith)

read_no : (b : Bool) → Unreadable ≡ cond b Readable Unreadable → b ≡ false
read_no true e = let z : ◌≡◌ {A = ℕ} 0 1 = cc in absurd (omega arith)
read_no false e = refl

module _ (words section : List ℕ) where
  pub pat_followed :
      (r : Pat) (n ws : List ℕ) → r ≡ pat_of section → r ≡ Readable → n ≡ with_programs section (replicate 128 0) → ws ≡ following words n → ws ≡ followed_pat words section
  unfolding followed_pat pat_of
  pat_followed r n ws e h k j = rw (read_yes (readable section) (sym h ∙ e), ← k) j

  pub pat_unread : (r : Pat) → r ≡ pat_of section → r ≡ Unreadable → words ≡ followed_pat words section
  unfolding followed_pat pat_of
  pat_unread r e h = rw (read_no (readable section) (sym h ∙ e))

  -- no PAT has another table_id than 0
  no_pat : (table_id_of section ≡ 0 → ⊥) → followed_pat words section ≡ words
  unfolding followed_pat
  no_pat h = rw (unreadable section (ne_eqb (table_id_of section) 0 h))

  -- the ways out of following: a is whether the section is changed, b whether each changed one is followed, t its table_id
  module _ (t : ℕ) (a b : Bool) (f : Follow) (e : t ≡ table_id_of section) (q : b ≡ by_sections f) where
    pub follow_yes : (ws : List ℕ) → (a && b && eqb t 0) ≡ true → ws ≡ followed_pat words section → ws ≡ watch_after (a && by_sections f) words section
    follow_yes ws h j = rw (← q, (and_true (a && b) (eqb t 0) h).0) j

    pub follow_no : (a && b && eqb t 0) ≡ false → words ≡ watch_after (a && by_sections f) words section
    follow_no h = rw (← q) (go (a && b) (eqb t 0) refl h)
      where
        go : (c d : Bool) → d ≡ eqb t 0 → (c && d) ≡ false → words ≡ watch_after c words section
        go true true p q = absurd (true≢false q)
        go true false p q = sym (no_pat (λ z. eqb-false t 0 (sym p) (e ∙ z)))
        go false d p q = refl

-- ---- the ways out of an offer

pub admitted_told :
    (g : Gate) (c : Counters) (keys changes words section : List ℕ) (a : Arrival) (seen : Seen) (ks ms ws : List ℕ) (o : Offered) →
    seen ≡ seen_of g.ring keys changes a.key (stamp_of a.version a.change) →
    ks ≡ keys_after g.ring keys a.key →
    ms ≡ changes_after g.ring keys changes a.key (stamp_of a.version a.change) →
    ws ≡ watch_after (seen.changed && by_sections g.follow) words section →
    o ≡ seen_by g c seen →
    left_by o ks ms ws ≡ admitted_to (store_of g c keys changes words) section a
unfolding admitted_to
admitted_told g c keys changes words section a seen ks ms ws o f k m w j = rw (← f, ← k, ← m, ← w, ← j)

module _ (s : Store) (input pid : ℕ) (section : List ℕ) (w : Bool) (e : w ≡ is_whole s) (v : Verdict) (q : v ≡ verdict_of w s.counters s.gate.change_rule input pid section) where
  carries : carried s section v ≡ offered s input pid section
  unfolding offered
  carries = rw (← e, ← q)

  pub offered_refused :
      (r : Refusal) (o : Offered) → v ≡ verdict.Refused r → o ≡ refused r s.gate s.counters → left_by o s.keys s.changes s.words ≡ offered s input pid section
  unfolding carried
  offered_refused r o h j = rw (j, ← carries, h)

  pub offered_failed : (f : Failure) (o : Offered) → v ≡ verdict.Failed f → o ≡ failed_by f s.gate s.counters → left_by o s.keys s.changes s.words ≡ offered s input pid section
  unfolding carried
  offered_failed f o h j = rw (j, ← carries, h)

  pub offered_arrived : (a : Arrival) (l : Offering) → v ≡ verdict.Arrived a → l ≡ admitted_to s section a → l ≡ offered s input pid section
  unfolding carried
  offered_arrived a l h j = rw (← carries, h) j

-- ---- opening

module _ (s : Settings) (extra words : List ℕ) (keys changes : ℕ) (b : Bool) (e : b ≡ all_pids extra) where
  pub opened_pid : (o : Opened) → not b ≡ true → o ≡ begun (Err BadPid) s → begun_by o words ≡ opened s extra keys changes words
  unfolding opened
  opened_pid o h j = rw (← e, not-true b h, j)

  pub pids_good : not b ≡ false → all_pids extra ≡ true
  pids_good h = sym e ∙ not-false b h

  module _ (h : not b ≡ false) (r : Bool) (d : r ≡ can_open s keys changes (length words)) where
    pub opened_little : (o : Opened) → not r ≡ true → o ≡ begun (Err TooLittle) s → begun_by o words ≡ opened s extra keys changes words
    unfolding opened
    opened_little o k j = rw (← e, not-false b h, ← d, not-true r k, j)

    pub opened_yes :
        (ws : List ℕ) (o : Opened) → not r ≡ false → ws ≡ filled words s.well_known extra → o ≡ begun (Ok tt) s →
        begun_by o ws ≡ opened s extra keys changes words
    unfolding opened
    opened_yes ws o k f j = rw (← e, not-false b h, ← d, not-false r k, ← f, j)

    pub words_room : not r ≡ false → 384 ≤ length words
    words_room k =
        let a = and_true (leb (room_of s.capacity) keys && leb (room_of s.capacity) changes && leb 384 (length words)) (rule_known s.change_rule) (sym d ∙ not-false r k) in
        leb-true 384 (length words) (and_true (leb (room_of s.capacity) keys && leb (room_of s.capacity) changes) (leb 384 (length words)) a.0).1
