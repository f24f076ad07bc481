-- What an EIT collector hands out as a present/following set, one with a larger key limit has handed out: of the rules.
-- Assumes nothing.
use borrow.Author.Tests.{leb-true}
use mathlib.Core.Path.{◌≡◌, refl, sym, ap, ◌∙◌, subst}
use mathlib.Core.Logic.{◌≢◌, inl, inr}
use mathlib.Core.Bool.{Bool, true, false}
use mathlib.Core.Option.{Option, none, some, some-injective}
use mathlib.Core.List.{List}
use Prim.Native.Nat.{ℕ, zero, suc, ◌*◌, ◌≤◌}
use native.Mathlib.Nat.{le_of_suc-le-suc, not-suc-le-zero}
use native.Mathlib.Omega.{arith}
use lib.Dec.{leb}
use lib.ListN.{length}
use Rattle.laws.proofs.Tests.{none≢some}
use Rattle.rules_shared.specs.Touch.{find, untouched, touch, retained, emptied}
use Rattle.rules_shared.specs.Row.{put}
use Rattle.rules_shared.specs.Cells.{Settings}
use Rattle.laws.specs.Runs.{At, GivenBy}
use Rattle.rules_shared.proofs.Slots.{Below}
use Rattle.rules_shared.proofs.Row.{start_meets}
use Rattle.rules_shared.proofs.Ahead.{ahead_marks, start_good, start_ahead}
use Rattle.rules_shared.proofs.Trails.{Behind, Found, behind_none, behind_map, behind_find, behind_touch, behind_retain}
use Rattle.laws.proofs.Runs.{Then, Round, anew, kept, all_given, never_told}
use Rattle.rules_eit.specs.Keys.{Kind, kind_of, SetKey, same_set, Filter, bad_filter}
use Rattle.rules_eit.specs.Segments.{segment_of, segment_end}
use Rattle.rules_eit.specs.Rules.{Section, key_of, part_of, from_bytes, Call, clear, drop, refuse, offer, SetRow, Eit, Whole, Answer, done, refused, nothing, handout, Step, gives, met_row, set_aside, set_newest, judge, cleared, dropped, finish, push, admit, offered, dropping, step, tells, acts, opened}
use Rattle.rules_eit.proofs.Keys.{same_set_true}
use Rattle.answers.specs.declared.Refusal.{Refusal}
use Rattle.answers.specs.declared.Refusal.TheVariants as refusal
use Rattle.present.specs.Demand.{run, Smaller, NoConflict, Accepted, SegmentsAgree, InsideSegments, PresentFollowing}
use Rattle.present.proofs.Row.{Rel, Good, good_then, good_fresh, good_least, eit_put_ahead, eit_put_good, judge_any, judge_good, same_whole}

abbrev Stand : (Section → Kind → Type 0) → (Whole → Type 0) → Eit → Eit → Type 0
Stand P H s l = Behind same_set same_set_true Rel (Good P H) s.sets.rows l.sets.rows

done_not : (w : Whole) → done ≢ handout w
done_not w h = let z : ◌≡◌ {A = ℕ} 0 1 = cc in omega arith

refused_not : (k : Refusal) (w : Whole) → refused k ≢ handout w
refused_not k w h = let z : ◌≡◌ {A = ℕ} 0 1 = cc in omega arith

nothing_not : (w : Whole) → nothing ≢ handout w
nothing_not w h = let z : ◌≡◌ {A = ℕ} 0 1 = cc in omega arith

refuse_not : (k : Refusal) (b : from_bytes k ≡ true) → refuse k b ≢ clear
refuse_not k b h = let z : ◌≡◌ {A = ℕ} 0 1 = cc in omega arith

drop_not : (f : Filter) → drop f ≢ clear
drop_not f h = let z : ◌≡◌ {A = ℕ} 0 1 = cc in omega arith

offer_not : (x : Section) → offer x ≢ clear
offer_not x h = let z : ◌≡◌ {A = ℕ} 0 1 = cc in omega arith

-- one call in both, neither at limit 0, and no conflict in the larger
record Kept (P : Section → Kind → Type 0) (H : Whole → Type 0) (s l : Step) : Type 0 where
  same : (w : Whole) → s.answer ≡ handout w → Then handout H l.answer w
  stand : Stand P (Then handout H l.answer) s.eit l.eit

module _ (size n m : ℕ) (le : n ≤ m) (P : Section → Kind → Type 0)
    (agree : (x y : Section) (k j : Kind) → P x k → P y j → key_of x k ≡ key_of y j → x.version ≡ y.version → x.last ≡ y.last
    → segment_of x.number ≡ segment_of y.number → x.segment_last ≡ y.segment_last)
    (within : (x : Section) (k : Kind) → P x k → x.number ≤ segment_end (8 * segment_of x.number) x.segment_last x.last) where
  abbrev small : Settings
  small = record { limit = suc n; cell_size = size }

  abbrev large : Settings
  large = record { limit = suc m; cell_size = size }

  module _ (H : Whole → Type 0) (s l : Eit) (b : Stand P H s l) where
    -- a call that touches nothing and hands out nothing
    still : (a : Answer) → ((w : Whole) → a ≢ handout w) → Kept P H (gives a s) (gives a l)
    still a f = record {
      same = λ w h. absurd (f w h);
      stand = behind_map same_set same_set_true Rel (Good P H) (Good P (Then handout H a)) (good_then P H a) s.sets.rows l.sets.rows b;
    }

    judged_both : (k : SetKey) (last : ℕ) (u v : SetRow) → Rel u v → Good P H k v → Kept P H (judge (suc n) (set_aside (suc n) k s) k last u) (judge (suc m) (set_aside (suc m) k l) k last v)
    unfolding set_aside touch
    judged_both k last u v a g =
        let p = judge_any (suc n) (set_aside (suc n) k s) k last u in
        let q = judge_good (suc m) (set_aside (suc m) k l) k last v P H g in
        let A : Answer = (judge (suc m) (set_aside (suc m) k l) k last v).answer in
        record {
          same = λ w h. (let d = p.hands w h in let e = same_whole P H k u v a g d.0 in subst (Then handout H A) (e.1 ∙ d.2) (q.hands e.0 d.1));
          stand = rw (p.sets, q.sets) (behind_touch same_set same_set_true Rel n m le (Good P H) (Good P (Then handout H A)) (good_then P H A) s.sets l.sets b k p.row q.row
              (ahead_marks u v p.row q.row a p.marks q.marks) q.good);
        }

    module _ (x : Section) (kind : Kind) (px : P x kind) where
      pushed : (push (suc m) l x (key_of x kind)).answer ≢ refused refusal.Conflict → Kept P H (push (suc n) s x (key_of x kind)) (push (suc m) l x (key_of x kind))
      unfolding push finish met_row
      pushed h = go (put (part_of x) x.bytes s₀) (put (part_of x) x.bytes l₀) refl refl h
        where
          k : SetKey
          k = key_of x kind

          s₀ : SetRow
          s₀ = met_row x (key_of x kind) s

          l₀ : SetRow
          l₀ = met_row x (key_of x kind) l

          found : Found same_set same_set_true Rel (Good P H (key_of x kind)) (find same_set (key_of x kind) s.sets.rows) (find same_set (key_of x kind) l.sets.rows)
          found = behind_find same_set same_set_true Rel (Good P H) s.sets.rows l.sets.rows b (key_of x kind)

          ahead₀ : Rel s₀ l₀
          ahead₀ = start_ahead Below same_set same_set_true (Good P H (key_of x kind)) (part_of x) (good_fresh P H (key_of x kind) x) (λ r g. g.sized) (good_least P H (key_of x kind) x) found

          good₀ : Good P H (key_of x kind) l₀
          good₀ = start_good Below same_set same_set_true (Good P H (key_of x kind)) (part_of x) (good_fresh P H (key_of x kind) x) (λ r g. g.sized) (good_least P H (key_of x kind) x) found

          met : (v : SetRow) → put (part_of x) x.bytes l₀ ≡ some v → (u : SetRow) × (put (part_of x) x.bytes s₀ ≡ some u) × Rel u v
          met v q = eit_put_ahead P agree within H x kind px s₀ l₀ (start_meets (part_of x) (find same_set (key_of x kind) l.sets.rows)) ahead₀ good₀ v q

          go : (o o' : Option SetRow) → put (part_of x) x.bytes s₀ ≡ o → put (part_of x) x.bytes l₀ ≡ o' → (finish (suc m) (set_aside (suc m) k l) k x.last_table l₀ o').answer ≢ refused refusal.Conflict
              → Kept P H (finish (suc n) (set_aside (suc n) k s) k x.last_table s₀ o) (finish (suc m) (set_aside (suc m) k l) k x.last_table l₀ o')
          go o none p q h = absurd (h refl)
          go none (some v) p q h = absurd (none≢some {a = (met v q).0} p (met v q).1)
          go (some u) (some v) p q h =
              judged_both k x.last_table u v (subst (λ (r : SetRow). Rel r v) (some-injective (met v q).0 u (sym (met v q).1 ∙ p)) (met v q).2)
              (eit_put_good P agree within H x kind px l₀ v (start_meets (part_of x) (find same_set (key_of x kind) l.sets.rows)) good₀ q)

    -- P holds of the section once it is known to be an EIT's and short enough
    module _ (x : Section) (px : (kind : Kind) → kind_of x.table_id_of ≡ some kind → length x.bytes ≤ size → P x kind) where
      admitted : (kind : Kind) → kind_of x.table_id_of ≡ some kind → (short : Bool) → leb (length x.bytes) size ≡ short → (admit (suc m) l x (key_of x kind) short).answer ≢ refused refusal.Conflict
          → Kept P H (admit (suc n) s x (key_of x kind) short) (admit (suc m) l x (key_of x kind) short)
      unfolding admit
      admitted kind e false q h = still (refused refusal.TooLong) (refused_not refusal.TooLong)
      admitted kind e true q h = pushed x kind (px kind e (leb-true (length x.bytes) size q)) h

      offered_both : (o : Option Kind) → kind_of x.table_id_of ≡ o → (offered large l x o).answer ≢ refused refusal.Conflict → Kept P H (offered small s x o) (offered large l x o)
      unfolding offered
      offered_both none e h = still (refused refusal.NotEit) (refused_not refusal.NotEit)
      offered_both (some kind) e h = admitted kind e (leb (length x.bytes) size) refl h

    dropped_both : (f : Filter) (bad : Option Refusal) → Kept P H (dropping s f bad) (dropping l f bad)
    unfolding dropping dropped retained
    dropped_both f (some r) = still (refused r) (refused_not r)
    dropped_both f none = record {
      same = λ w h. absurd (done_not w h);
      stand = behind_retain same_set same_set_true Rel (Good P (Then handout H done)) _ s.sets.rows l.sets.rows (still done done_not).stand;
    }

  -- what holds of every call
  abbrev Fine : Call → Type 0
  Fine clear = Unit {0}
  Fine (drop f) = Unit {0}
  Fine (refuse k b) = Unit {0}
  Fine (offer x) = (kind : Kind) → kind_of x.table_id_of ≡ some kind → length x.bytes ≤ size → P x kind

  round : (H : Whole → Type 0) (s l : Eit) (i : Call) → Fine i → tells large l i ≢ refused refusal.Conflict → Stand P H s l
      → Round clear handout (tells small) (acts small) (tells large) (acts large) (Stand P) H s l i
  unfolding tells acts step cleared emptied
  round H s l clear f h b = anew (λ w. done_not w) (behind_none same_set same_set_true Rel (Good P (λ w. ⊥)))
  round H s l (drop g) f h b = let c = dropped_both H s l b g (bad_filter g) in kept (drop_not g) c.same c.stand
  round H s l (refuse k q) f h b = let c = still H s l b (refused k) (refused_not k) in kept (refuse_not k q) c.same c.stand
  round H s l (offer x) f h b = let c = offered_both H s l b x f (kind_of x.table_id_of) refl h in kept (offer_not x) c.same c.stand

-- at limit 0 nothing is ever handed out
tells_zero : (size : ℕ) (e : Eit) (i : Call) (w : Whole) → tells (record { limit = zero; cell_size = size }) e i ≢ handout w
unfolding tells step dropping offered admit push
tells_zero size e clear w = done_not w
tells_zero size e (drop f) w = go (bad_filter f)
  where
    go : (b : Option Refusal) → (dropping e f b).answer ≢ handout w
    go (some r) = refused_not r w
    go none = done_not w
tells_zero size e (refuse k b) w = refused_not k w
tells_zero size e (offer x) w = go (kind_of x.table_id_of)
  where
    short : (k : SetKey) (b : Bool) → (admit zero e x k b).answer ≢ handout w
    short k false = refused_not refusal.TooLong w
    short k true = nothing_not w

    go : (o : Option Kind) → (offered (record { limit = zero; cell_size = size }) e x o).answer ≢ handout w
    go none = refused_not refusal.NotEit w
    go (some kind) = short (key_of x kind) (leb (length x.bytes) size)

of_limits : (size small large : ℕ) → small ≤ large → (calls : List Call) → NoConflict (run (record { limit = large; cell_size = size }) calls)
    → SegmentsAgree (record { limit = large; cell_size = size }) calls → InsideSegments (record { limit = large; cell_size = size }) calls
    → (t : ℕ) (w : Whole) → At (run (record { limit = small; cell_size = size }) calls) t (handout w)
    → GivenBy clear handout (run (record { limit = large; cell_size = size }) calls) calls t w
unfolding untouched
of_limits size zero large le calls nc agree within t w e = absurd (never_told (tells (record { limit = zero; cell_size = size })) (acts (record { limit = zero; cell_size = size })) (handout w) (λ s i. tells_zero size s i w) calls opened t e)
of_limits size (suc n) zero le calls nc agree within t w e = absurd (not-suc-le-zero le)
of_limits size (suc n) (suc m) le calls nc agree within t w e =
    all_given clear handout (tells small') (acts small') (tells large') (acts large') (refused refusal.Conflict)
    (Fine size n m (le_of_suc-le-suc le) P agree within) (Stand P) (round size n m (le_of_suc-le-suc le) P agree within) calls opened opened
    (behind_none same_set same_set_true Rel (Good P (λ w. ⊥))) fine nc t w e
  where
    small' : Settings
    small' = record { limit = suc n; cell_size = size }

    large' : Settings
    large' = record { limit = suc m; cell_size = size }

    P : Section → Kind → Type 0
    P = Accepted (record { limit = suc m; cell_size = size }) calls

    fine : (j : ℕ) (i : Call) → At calls j i → Fine size n m (le_of_suc-le-suc le) P agree within i
    fine j clear h = tt
    fine j (drop f) h = tt
    fine j (refuse k b) h = tt
    fine j (offer x) h = λ kind p q. record { at = j; call = h; kinded = p; short = q }

pub present_following : PresentFollowing
present_following small large h calls =
    subst (λ (size : ℕ). NoConflict (run (with size) calls) → SegmentsAgree (with size) calls → InsideSegments (with size) calls
    → (t : ℕ) (w : Whole) → At (run small calls) t (handout w) → GivenBy clear handout (run (with size) calls) calls t w) h.same_cells
    (of_limits small.cell_size small.limit large.limit h.no_larger calls)
  where
    with : ℕ → Settings
    with size = record { limit = large.limit; cell_size = size }
