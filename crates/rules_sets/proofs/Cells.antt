-- The set collector with cells obeys the rules: a call that is not barred answers what the rules answer to what the store shows, and leaves a store
-- that shows what the rules leave.
-- Assumes nothing.
use borrow.Author.Tests.{le-leb, lt-leb}
use mathlib.Core.Path.{◌≡◌, refl, sym, ap, ◌∙◌}
use mathlib.Core.Bool.{true}
use Prim.Native.Nat.{ℕ, zero, suc}
use native.Mathlib.Omega.{arith}
use lib.ListN.{length}
use Rattle.rules_shared.specs.Refusals as refusals
use Rattle.rules_shared.specs.Same.{Bytes}
use Rattle.rules_shared.specs.Touch.{seen_as, untouched, emptied, on_order}
use Rattle.rules_shared.specs.Row.{keep, on_row, put}
use Rattle.rules_shared.specs.Cells.{Held, Cells, bytes_of, write, held_in}
use Rattle.laws.specs.Runs.{Obeys, bars, does}
use Rattle.rules_shared.proofs.Views.{aside_on, newest_on}
use Rattle.rules_shared.proofs.Cells.{kept_shown, rules_keep, rules_ignore, rules_refuse}
use Rattle.rules_sets.specs.Rules.{same_key, SetsOf, Section, part_of, Call, offer, conflict, barred, StepOf, Step, gives, judge, finish, push, admit, step, tells, acts}
use Rattle.rules_sets.specs.Cells.{Store, Turn, on_sets, on_answer, view, takes, shows, rest, room_for, call, call_tells, call_acts, risen}
use Rattle.rules_sets.specs.Demand.{with_cells, Keeping}
use Rattle.rules_sets.proofs.Views.{met_on, on_step, judge_on, free_cell_unseen, free_parts}
use Rattle.rules_sets.proofs.Outcome.{row, Asks, Outcome, broken, stopped, clears, refuses, long, keyless, lacks, keeps, ignores, conflicts, outcome}

-- a turn is barred, or is the rules' step on what the store shows
data Fits (t : Turn) (d : Step) : Type 0 where
  out : barred t.answer ≡ true → Fits t d
  fits : t.answer ≡ d.answer → view t.store ≡ d.sets → Fits t d

module _ (s : Store) where
  abbrev read : Held → Bytes
  read = bytes_of s.cells

  shown : (cells : Cells) (t : StepOf Held) (d : Step) → d ≡ on_step (bytes_of cells) t → Fits (shows (risen s) cells t) d
  unfolding shows view
  shown cells t d e = fits (ap (λ (q : Step). q.answer) (sym e)) (ap (λ (q : Step). q.sets) (sym e))

  -- what the rules do with a section that 20 and the limit 0 let in
  asked : (x : Section) → Asks s x
      → step s.settings (view s) (offer x) ≡ finish (on_sets read (rest s x)) x.key (on_row read (row s x)) (put (part_of x) x.bytes (on_row read (row s x)))
  unfolding step admit view push rest on_sets
  asked x a = rw (le-leb (length x.bytes) s.settings.cell_size a.short) (go s.settings.limit refl)
    where
      go : (n : ℕ) → s.settings.limit ≡ n
          → push n (on_sets read s.sets) x ≡ finish (on_sets read (rest s x)) x.key (on_row read (row s x)) (put (part_of x) x.bytes (on_row read (row s x)))
      go zero q = absurd (omega (arith, a.some_key))
      go (suc n) q = rw (met_on read x s.sets, aside_on (on_row read) same_key (suc n) x.key s.sets, ← q) refl

  well : {i : Call} {t : Turn} → Outcome s i t → Fits t (step s.settings (view s) i)
  unfolding barred refusals.barred step admit push view on_sets on_order emptied seen_as finish on_answer room_for takes shows
  well (broken i w) = out refl
  well (stopped i w e) = out refl
  well (clears w) = fits refl refl
  well (refuses n w) = fits refl refl
  well (long x w l) = rw (lt-leb (length x.bytes) s.settings.cell_size l) (fits refl refl)
  well (keyless x w l q) = rw (le-leb (length x.bytes) s.settings.cell_size l, q) (fits refl refl)
  well (lacks x a e f) = out refl
  well (keeps x a e c f) =
      let now : Held → Bytes = bytes_of (write s.cells c x.bytes) in
      let z = free_parts c x.key (row s x) (rest s x) f.free in
      shown (write s.cells c x.bytes) (judge (rest s x) x.key (keep (part_of x) (held_in c x.bytes) (row s x))) (step s.settings (view s) (offer x))
      (asked x a ∙ ap (finish (on_sets read (rest s x)) x.key (on_row read (row s x))) (rules_keep s.cells (part_of x) x.bytes (row s x) e)
      ∙ ap (λ (q : SetsOf Bytes). judge q x.key (keep (part_of x) x.bytes (on_row read (row s x)))) (sym (free_cell_unseen s.cells c x.bytes (rest s x) z.0))
      ∙ ap (judge (on_sets now (rest s x)) x.key) (kept_shown s.cells c x.bytes (part_of x) (row s x) z.1 f.inside)
      ∙ judge_on now (rest s x) x.key (keep (part_of x) (held_in c x.bytes) (row s x)))
  well (ignores x a h e q) =
      shown s.cells (judge (rest s x) x.key (row s x)) (step s.settings (view s) (offer x))
      (asked x a ∙ ap (finish (on_sets read (rest s x)) x.key (on_row read (row s x))) (rules_ignore s.cells (part_of x) x.bytes (row s x) h e q)
      ∙ judge_on read (rest s x) x.key (row s x))
  well (conflicts x a h e q) =
      shown s.cells (gives conflict (room_for s x)) (step s.settings (view s) (offer x))
      (asked x a ∙ ap (finish (on_sets read (rest s x)) x.key (on_row read (row s x))) (rules_refuse s.cells (part_of x) x.bytes (row s x) h e q)
      ∙ ap (gives conflict) (newest_on (on_row read) x.key (row s x) (rest s x)))

  settings_of : {i : Call} {t : Turn} → Outcome s i t → t.store.settings ≡ s.settings
  unfolding shows
  settings_of (broken i w) = refl
  settings_of (stopped i w e) = refl
  settings_of (clears w) = refl
  settings_of (refuses n w) = refl
  settings_of (long x w l) = refl
  settings_of (keyless x w l q) = refl
  settings_of (lacks x a e f) = refl
  settings_of (keeps x a e c f) = refl
  settings_of (ignores x a h e q) = refl
  settings_of (conflicts x a h e q) = refl

  pub settings_stay : (i : Call) → (call_acts s i).settings ≡ s.settings
  unfolding call_acts
  settings_stay i = settings_of (outcome s i)

  -- whatever the store holds
  pub obeys_rules : (i : Call) → Obeys barred view (λ q. Unit {0}) call_tells call_acts (tells s.settings) (acts s.settings) s i
  unfolding call_tells call_acts tells acts
  obeys_rules i = go (well (outcome s i))
    where
      go : Fits (call s i) (step s.settings (view s) i) → Obeys barred view (λ q. Unit {0}) call_tells call_acts (tells s.settings) (acts s.settings) s i
      go (out p) = bars p
      go (fits p q) = does p q tt

pub cells_keep : Keeping with_cells (λ i. Unit {0})
unfolding view on_sets on_order seen_as untouched
cells_keep = record {
  view = view;
  Inv = λ s. Unit {0};
  opens = λ s e. (ap (λ (t : SetsOf Held). on_sets (bytes_of s.cells) t) e, tt);
  lasts = settings_stay;
  obeys = λ s i p u. obeys_rules s i;
}
