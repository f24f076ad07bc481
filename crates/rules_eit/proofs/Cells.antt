-- The EIT collector with cells obeys the rules: a call that is not barred answers what the rules answer to what the store shows, and leaves a store
-- that shows what the rules leave.
-- Assumes nothing.
use borrow.Author.Tests.{le-leb, lt-leb}
use mathlib.Core.Path.{◌≡◌, refl, sym, ap, ◌∙◌}
use mathlib.Core.Bool.{true}
use mathlib.Core.Option.{Option, some}
use Prim.Native.Nat.{ℕ, zero, suc}
use native.Mathlib.Omega.{arith}
use lib.Dec.{leb}
use lib.ListN.{length}
use Rattle.answers.specs.declared.Refusal.TheVariants as refusal
use Rattle.rules_shared.specs.Same.{Bytes}
use Rattle.rules_shared.specs.Touch.{seen_as, emptied, on_order}
use Rattle.rules_shared.specs.Row.{keep, on_row, put}
use Rattle.rules_shared.specs.Cells.{Held, Cells, bytes_of, write, held_in}
use Rattle.laws.specs.Runs.{Obeys, bars, does}
use Rattle.rules_shared.proofs.Cells.{kept_shown, rules_keep, rules_ignore, rules_refuse}
use Rattle.rules_shared.specs.Refusals as refusals
use Rattle.rules_eit.specs.Keys.{Kind, kind_of, SetKey}
use Rattle.rules_eit.specs.Rules.{Section, key_of, part_of, Call, offer, refused, nothing, barred, StepOf, Eit, Step, gives, judge, cleared, finish, push, admit, offered, dropping, step, tells, acts}
use Rattle.rules_eit.specs.Cells.{Store, Turn, on_eit, on_answer, view, set_takes, shows, rest, room_for, call, call_tells, call_acts, risen}
use Rattle.rules_eit.proofs.Views.{met_on, set_aside_on, set_newest_on, dropped_on, on_step, judge_on, free_cell_unseen, free_parts}
use Rattle.rules_eit.proofs.Outcome.{row, Asks, Outcome, broken, stopped, clears, drops, keeps_all, refuses, foreign, long, keyless, lacks, keeps, ignores, conflicts, outcome}

-- a turn is barred, or is the rules' step on what the store shows
data Fits (t : Turn) (d : Step) : Type 0 where
  out : barred t.answer ≡ true → Fits t d
  fits : t.answer ≡ d.answer → view t.store ≡ d.eit → Fits t d

module _ (s : Store) where
  abbrev read : Held → Bytes
  read = bytes_of s.cells

  shown : (now : Store) (cells : Cells) (t : StepOf Held) (d : Step) → d ≡ on_step (bytes_of cells) t → Fits (shows now cells t) d
  unfolding shows view
  shown now cells t d e = fits (ap (λ (q : Step). q.answer) (sym e)) (ap (λ (q : Step). q.eit) (sym e))

  -- a section of a kind, by the rules
  kinded : (x : Section) (kind : Kind) → kind_of x.table_id_of ≡ some kind
      → step s.settings (view s) (offer x) ≡ admit s.settings.limit (view s) x (key_of x kind) (leb (length x.bytes) s.settings.cell_size)
  unfolding step offered
  kinded x kind h = ap (offered s.settings (view s) x) h

  -- what the rules do with a section that 18, 20 and the limit 0 let in
  asked : (x : Section) (k : SetKey) → Asks s x k
      → step s.settings (view s) (offer x)
      ≡ finish s.settings.limit (on_eit read (rest s k)) k x.last_table (on_row read (row s x k)) (put (part_of x) x.bytes (on_row read (row s x k)))
  unfolding admit view push rest
  asked x k a =
      kinded x a.kind a.is_kind
      ∙ ap (λ (q : SetKey). admit s.settings.limit (view s) x q (leb (length x.bytes) s.settings.cell_size)) a.is_key
      ∙ ap (admit s.settings.limit (view s) x k) (le-leb (length x.bytes) s.settings.cell_size a.short)
      ∙ go s.settings.limit refl
    where
      go : (n : ℕ) → s.settings.limit ≡ n
          → push n (on_eit read s.eit) x k ≡ finish n (on_eit read (rest s k)) k x.last_table (on_row read (row s x k)) (put (part_of x) x.bytes (on_row read (row s x k)))
      go zero q = absurd (omega (arith, a.some_key))
      go (suc n) q = rw (met_on read x k s.eit, set_aside_on read (suc n) k s.eit, ← q) refl

  -- the rules' step, by what `put` gives
  finished : (x : Section) (k : SetKey) → Asks s x k → (o : Option _) → put (part_of x) x.bytes (on_row read (row s x k)) ≡ o
      → step s.settings (view s) (offer x) ≡ finish s.settings.limit (on_eit read (rest s k)) k x.last_table (on_row read (row s x k)) o
  finished x k a o e = asked x k a ∙ ap (finish s.settings.limit (on_eit read (rest s k)) k x.last_table (on_row read (row s x k))) e

  well : {i : Call} {t : Turn} → Outcome s i t → Fits t (step s.settings (view s) i)
  unfolding barred refusals.barred step dropping offered admit push view on_eit on_order cleared emptied seen_as finish on_answer room_for set_takes shows
  well (broken i w) = out refl
  well (stopped i w e) = out refl
  well (clears w) = fits refl refl
  well (drops f w h) = rw h (fits refl (sym (dropped_on read f s.eit)))
  well (keeps_all f r b w h) = rw h (fits refl refl)
  well (refuses r b w) = fits refl refl
  well (foreign x w h) = shown s s.cells (gives (refused refusal.NotEit) s.eit) (step s.settings (view s) (offer x)) (ap (offered s.settings (view s) x) h)
  well (long x kind w h l) =
      shown s s.cells (gives (refused refusal.TooLong) s.eit) (step s.settings (view s) (offer x))
      (kinded x kind h ∙ ap (admit s.settings.limit (view s) x (key_of x kind)) (lt-leb (length x.bytes) s.settings.cell_size l))
  well (keyless x kind w h l q) =
      shown s s.cells (gives nothing s.eit) (step s.settings (view s) (offer x))
      (kinded x kind h ∙ ap (admit s.settings.limit (view s) x (key_of x kind)) (le-leb (length x.bytes) s.settings.cell_size l)
      ∙ ap (λ (n : ℕ). push n (view s) x (key_of x kind)) q)
  well (lacks x k a e f) = out refl
  well (keeps x k a e c f) =
      let n = s.settings.limit in
      let now : Held → Bytes = bytes_of (write s.cells c x.bytes) in
      let z = free_parts c k (row s x k) (rest s k) f.free in
      shown (risen s) (write s.cells c x.bytes) (judge n (rest s k) k x.last_table (keep (part_of x) (held_in c x.bytes) (row s x k))) (step s.settings (view s) (offer x))
      (finished x k a _ (rules_keep s.cells (part_of x) x.bytes (row s x k) e)
      ∙ ap (λ (q : Eit). judge n q k x.last_table (keep (part_of x) x.bytes (on_row read (row s x k)))) (sym (free_cell_unseen s.cells c x.bytes (rest s k) z.0))
      ∙ ap (judge n (on_eit now (rest s k)) k x.last_table) (kept_shown s.cells c x.bytes (part_of x) (row s x k) z.1 f.inside)
      ∙ judge_on now n (rest s k) k x.last_table (keep (part_of x) (held_in c x.bytes) (row s x k)))
  well (ignores x k a h e q) =
      shown (risen s) s.cells (judge s.settings.limit (rest s k) k x.last_table (row s x k)) (step s.settings (view s) (offer x))
      (finished x k a _ (rules_ignore s.cells (part_of x) x.bytes (row s x k) h e q) ∙ judge_on read s.settings.limit (rest s k) k x.last_table (row s x k))
  well (conflicts x k a h e q) =
      shown (risen s) s.cells (gives (refused refusal.Conflict) (room_for s x k)) (step s.settings (view s) (offer x))
      (finished x k a _ (rules_refuse s.cells (part_of x) x.bytes (row s x k) h e q) ∙ ap (gives (refused refusal.Conflict)) (set_newest_on read k (row s x k) (rest s k)))

  settings_of : {i : Call} {t : Turn} → Outcome s i t → t.store.settings ≡ s.settings
  unfolding shows
  settings_of (broken i w) = refl
  settings_of (stopped i w e) = refl
  settings_of (clears w) = refl
  settings_of (drops f w h) = refl
  settings_of (keeps_all f r b w h) = refl
  settings_of (refuses r b w) = refl
  settings_of (foreign x w h) = refl
  settings_of (long x kind w h l) = refl
  settings_of (keyless x kind w h l q) = refl
  settings_of (lacks x k a e f) = refl
  settings_of (keeps x k a e c f) = refl
  settings_of (ignores x k a h e q) = refl
  settings_of (conflicts x k a h e q) = refl

  pub settings_stay : (i : Call) → (call_acts s i).settings ≡ s.settings
  unfolding call_acts
  settings_stay i = settings_of (outcome s i)

  -- whatever the store holds
  pub obeys_rules : (i : Call) → Obeys barred view (λ q. Unit {0}) call_tells call_acts (tells s.settings) (acts s.settings) s i
  unfolding call_tells call_acts tells acts
  obeys_rules i = go (well (outcome s i))
    where
      go : Fits (call s i) (step s.settings (view s) i) → Obeys barred view (λ q. Unit {0}) call_tells call_acts (tells s.settings) (acts s.settings) s i
      go (out p) = bars p
      go (fits p q) = does p q tt
