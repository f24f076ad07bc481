-- The ring of the code and the list of the rule: from an opened ring, every offer tells and leaves what the rule on the list in order of first
-- arrival says. There a key stands once, so that the first match is the same by place and by arrival.
-- Assumes nothing.
use Prim.Native.Nat.{ℕ, suc, ◌+◌, ◌%◌, ◌^◌, ◌<◌, ◌≤◌}
use mathlib.Core.Path.{◌≡◌, refl, sym, ap, ◌∙◌}
use mathlib.Core.List.{List, [], ◌∷◌, ◌++◌, append-nil}
use mathlib.Core.Bool.{Bool, true, false, cond, not, ◌&&◌}
use lib.ListN.{length, set}
use lib.Dec.{ltb, leb}
use native.Mathlib.Omega.{arith}
use borrow.Author.Tests.{ltb-true, ltb-false, not-true, not-false}
use Rattle.ring.specs.Store.{room_of, is_known, has_free, empty_ring}
use Rattle.ring.specs.Rules.{Row, holds, has, updated, later, changed, at_capacity, evicts, offered_to, count_key, Laid, laid_after}
use Rattle.ring.specs.View.{Memory, memory_after, turned, laid_in, in_order, Reached}
use Rattle.ring.proofs.Rows.{count_turned, holds_turned, has_turned, updated_turned, length_turned, count_updated, replace_row, count_later, count_last, held_none}
use Rattle.ring.proofs.Places.{seen_in, Lies, lies, length_mem, full_mem, known_memory, more_memory, full_memory}

-- one offer: what it tells and the list are the rule's, and the memory is again one that can be reached, with the same capacity
pub record Step (m : Memory) (n : Row) : Type 0 where
  pub tells : (seen_in m n).changed ≡ changed n (in_order m)
  pub leaves : (seen_in m n).evicted ≡ evicts m.ring.capacity n (in_order m)
  pub order : in_order (memory_after m n) ≡ offered_to m.ring.capacity n (in_order m)
  pub reached : Reached (memory_after m n)
  pub capacity : (memory_after m n).ring.capacity ≡ m.ring.capacity

-- the rows by place in order of arrival
abbrev arrivals : Laid → List Row
arrivals l = turned l.next l.rows

-- rows by place that stand for a list in order of arrival
record Ordered (capacity : ℕ) (l : Laid) : Type 0 where
  young : at_capacity capacity l.rows ≡ false → l.next ≡ 0
  within : at_capacity capacity l.rows ≡ true → l.next < length l.rows
  once : (k : ℕ) → count_key k l.rows ≤ 1

module _ (capacity : ℕ) (n : Row) (l : Laid) (o : Ordered capacity l) where
  at_capacity_lem : at_capacity capacity (arrivals l) ≡ at_capacity capacity l.rows
  at_capacity_lem = ap (λ (x : ℕ). leb capacity x && ltb 0 x) (length_turned l.next l.rows)

  -- the rule by place is the rule by arrival
  arrives : arrivals (laid_after capacity n l) ≡ offered_to capacity n (arrivals l)
  unfolding laid_after offered_to
  arrives = rw (holds_turned n.key l.next l.rows, at_capacity_lem) (go (holds n.key l.rows) (at_capacity capacity l.rows) refl)
    where
      go : (h c : Bool) → at_capacity capacity l.rows ≡ c →
          arrivals (cond h (record { rows = updated n l.rows; next = l.next }) (cond c (record { rows = set l.rows l.next n; next = (l.next + 1) % length l.rows }) (record { rows = l.rows ++ (n ∷ []); next = l.next })))
          ≡ cond h (updated n (arrivals l)) (cond c (later (arrivals l)) (arrivals l) ++ (n ∷ []))
      go true c e = updated_turned n l.next l.rows (o.once n.key)
      go false true e = replace_row l.rows n l.next (o.within e)
      go false false e =
          rw (o.young e)
          (append-nil (l.rows ++ (n ∷ [])) ∙ ap (λ (x : List Row). x ++ (n ∷ [])) (sym (append-nil l.rows)))

  -- no key stands twice after it
  stays_once : (k : ℕ) → count_key k (offered_to capacity n (arrivals l)) ≤ 1
  unfolding offered_to
  stays_once k = go (holds n.key (arrivals l)) (at_capacity capacity (arrivals l)) refl
    where
      each : (j : ℕ) → count_key j (arrivals l) ≤ 1
      each j = omega (arith, o.once j, count_turned j l.next l.rows)

      go : (h c : Bool) → holds n.key (arrivals l) ≡ h → count_key k (cond h (updated n (arrivals l)) (cond c (later (arrivals l)) (arrivals l) ++ (n ∷ []))) ≤ 1
      go true c e = rw (count_updated k n (arrivals l)) (each k)
      go false true e =
          count_last k (later (arrivals l)) n (omega (arith, each k, count_later k (arrivals l)))
          (omega (arith, held_none n.key (arrivals l) e, count_later n.key (arrivals l)))
      go false false e = count_last k (arrivals l) n (each k) (held_none n.key (arrivals l) e)

module _ (m : Memory) (n : Row) (r : Reached m) (small : n.change < 2 ^ 32) where
  l : Lies m n
  l = lies m n r.whole small

  once_rows : (k : ℕ) → count_key k (laid_in m).rows ≤ 1
  once_rows k = omega (arith, r.once k, count_turned k m.ring.first (laid_in m).rows)

  ordered : Ordered m.ring.capacity (laid_in m)
  ordered =
      record {
        young = λ e. r.young (not_full e);
        within = λ e. omega (arith, r.whole, is_full_lem e, length_mem m n r.whole);
        once = once_rows;
      }
    where
      not_full : at_capacity m.ring.capacity (laid_in m).rows ≡ false → m.ring.used < room_of m.ring.capacity
      not_full e = ltb-true _ _ (not-false _ (sym (full_mem m n r.whole) ∙ e))

      is_full_lem : at_capacity m.ring.capacity (laid_in m).rows ≡ true → room_of m.ring.capacity ≤ m.ring.used
      is_full_lem e = ltb-false _ _ (not-true _ (sym (full_mem m n r.whole) ∙ e))

  order : in_order (memory_after m n) ≡ offered_to m.ring.capacity n (in_order m)
  order = ap arrivals l.laid ∙ arrives m.ring.capacity n (laid_in m) ordered

  -- while a row is free the first row came first
  abbrev Young : Memory → Type 0
  Young x = x.ring.used < room_of x.ring.capacity → x.ring.first ≡ 0

  stays_young : Young (memory_after m n)
  stays_young = go (is_known m.ring m.keys n.key) refl (has_free m.ring) refl
    where
      go : (t : Bool) → is_known m.ring m.keys n.key ≡ t → (f : Bool) → has_free m.ring ≡ f → Young (memory_after m n)
      go true e f q = rw (known_memory m n r.whole e) r.young
      go false e true q = let h = ltb-true _ _ q in rw (more_memory m n r.whole e h) (λ z. r.young h)
      go false e false q = let h = ltb-false _ _ q in rw (full_memory m n r.whole e h) (λ z. absurd (omega (arith, h, z)))

  pub step : Step m n
  step =
      record {
        tells = l.tells ∙ ap not (sym (has_turned n m.ring.first (laid_in m).rows (once_rows n.key)));
        leaves =
            l.leaves
            ∙ rw (holds_turned n.key m.ring.first (laid_in m).rows, at_capacity_lem m.ring.capacity n (laid_in m) ordered);
        order = order;
        reached = record { whole = l.whole; young = stays_young; once = λ k. rw order (stays_once m.ring.capacity n (laid_in m) ordered k) };
        capacity = l.capacity;
      }

-- an opened memory can be reached, and stands for no rows
pub opened_reached :
    (capacity : ℕ) (keys changes : List ℕ) → room_of capacity ≤ length keys → room_of capacity ≤ length changes →
    Reached (record { ring = empty_ring capacity; keys = keys; changes = changes })
opened_reached capacity keys changes h g =
    record {
      whole = record { used = omega arith; first = omega arith; keys_long = h; changes_long = g };
      young = λ q. refl;
      once = λ k. omega arith;
    }
