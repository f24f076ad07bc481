-- The entries of all ranks are those of the tables that the sides have: a set's ranks lie in its table, a schedule's in the 16 tables of its kind.
-- Assumes nothing.
use mathlib.Core.Path.{◌≡◌, refl, sym, ◌∙◌}
use mathlib.Core.Bool.{Bool, true, ◌&&◌}
use mathlib.Core.List.{List, [], ◌∷◌}
use Prim.Native.Nat.{ℕ, ◌+◌, ◌*◌, ◌≤◌, ◌<◌}
use native.Mathlib.Omega.{arith}
use lib.Dec.{leb, ltb, eqb}
use borrow.Author.Tests.{ne_eqb, lt-ltb, le-leb, ltb-true, leb-true, eqb-true}
use Rattle.laws.specs.Lists.{every}
use Rattle.laws.proofs.Tests.{and_true, true_and}
use Rattle.section.specs.Facts.{Bytes}
use Rattle.section.specs.Header.{table_id_of, section_number}
use Rattle.laid.specs.Laid.{sections_in, kind_first, is_set, is_schedule}
use Rattle.laid.specs.Walk.{rank_of}
use Rattle.laid.proofs.Agree.{set_pair_rank, schedule_pair_rank, small_number, small_numbers, set_run, schedule_run, set_tables, schedule_kinds, set_chain, schedule_chain, opens}
use Rattle.laid.proofs.Tables.{never_falls}
use Rattle.differences.specs.Rules.{held_in, entry_at, up_from, differences, schedule_differences}
use Rattle.differences.specs.Walk.{rises, tables_rise, Ranked, Tabled, StartsAt, all_differences}
use Rattle.differences.proofs.Upward.{up_within, up_product}
use Rattle.differences.proofs.Held.{entry_at_none}
use Rattle.guides.specs.Store.{set_entries, schedule_entries, AlikeSets, AlikeSchedules}

-- ---- ranks within a range

abbrev pub within : ℕ → ℕ → List ℕ → Bool
within low high x = leb low (rank_of x) && ltb (rank_of x) high

held_outside : (low high m : ℕ) (xs : List (List ℕ)) → every (within low high) xs ≡ true → ((r : ℕ) → low ≤ r → r < high → r ≡ m → ⊥) → held_in xs m ≡ []
unfolding every held_in
held_outside low high m [] e h = refl
held_outside low high m (x ∷ xs) e h =
    let c = and_true (within low high x) (every (within low high) xs) e in
    let d = and_true (leb low (rank_of x)) (ltb (rank_of x) high) c.0 in
    rw (ne_eqb (rank_of x) m (h (rank_of x) (leb-true low (rank_of x) d.0) (ltb-true (rank_of x) high d.1))) (held_outside low high m xs c.1 h)

-- the entries of a range that has all ranks of both sides
entries_within : (k low : ℕ) (a b : List (List ℕ)) → low + k ≤ 65536 → every (within low (low + k)) a ≡ true → every (within low (low + k)) b ≡ true → all_differences a b ≡ up_from k low (entry_at a b)
unfolding all_differences
entries_within k low a b h ea eb =
    up_within 65536 k low (entry_at a b) h
    (λ m l. entry_at_none m a b (held_outside low (low + k) m a ea (λ r p q z. omega arith)) (held_outside low (low + k) m b eb (λ r p q z. omega arith)))
    (λ m l o. entry_at_none m a b (held_outside low (low + k) m a ea (λ r p q z. omega arith)) (held_outside low (low + k) m b eb (λ r p q z. omega arith)))

-- two tests that all pass give a third
pub every_both : (p q r : List ℕ → Bool) → ((x : List ℕ) → p x ≡ true → q x ≡ true → r x ≡ true) → (xs : List (List ℕ)) → every p xs ≡ true → every q xs ≡ true → every r xs ≡ true
unfolding every
every_both p q r f [] a b = refl
every_both p q r f (x ∷ xs) a b =
    let c = and_true (p x) (every p xs) a in
    let d = and_true (q x) (every q xs) b in
    true_and (f x c.0 d.0) (every_both p q r f xs c.1 d.1)

table_within : (t : ℕ) (x : List ℕ) → eqb (table_id_of x) t ≡ true → small_number x ≡ true → within (t * 256) (t * 256 + 256) x ≡ true
table_within t x a b =
    let p = eqb-true (table_id_of x) t a in
    let q = ltb-true (section_number x) 256 b in
    let l : t * 256 ≤ rank_of x = omega arith in
    let m : rank_of x < t * 256 + 256 = omega arith in
    true_and (le-leb (t * 256) (rank_of x) l) (lt-ltb (rank_of x) (t * 256 + 256) m)

kind_within : (f : ℕ) (x : List ℕ) → eqb (kind_first (table_id_of x)) f ≡ true → small_number x ≡ true → within (f * 256) (f * 256 + 4096) x ≡ true
kind_within f x a b =
    let p = eqb-true (kind_first (table_id_of x)) f a in
    let q = ltb-true (section_number x) 256 b in
    let l : f * 256 ≤ rank_of x = omega arith in
    let m : rank_of x < f * 256 + 4096 = omega arith in
    true_and (le-leb (f * 256) (rank_of x) l) (lt-ltb (rank_of x) (f * 256 + 4096) m)

-- ---- two sets

module _ (a b : List ℕ) (w : AlikeSets a b) (x : Bytes a) (y : Bytes b) where
  pub set_within : (every (within (table_id_of a * 256) (table_id_of a * 256 + 256)) (sections_in a) ≡ true) × (every (within (table_id_of a * 256) (table_id_of a * 256 + 256)) (sections_in b) ≡ true)
  set_within = (
    every_both (λ (s : List ℕ). eqb (table_id_of s) (table_id_of a)) small_number (within (table_id_of a * 256) (table_id_of a * 256 + 256)) (table_within (table_id_of a)) (sections_in a)
        (set_tables a w.first) (small_numbers a (set_run a w.first).laid x),
    every_both (λ (s : List ℕ). eqb (table_id_of s) (table_id_of a)) small_number (within (table_id_of a * 256) (table_id_of a * 256 + 256)) (table_within (table_id_of a)) (sections_in b)
        (rw w.table (set_tables b w.second)) (small_numbers b (set_run b w.second).laid y),
  )

  pub set_entries_lem : all_differences (sections_in a) (sections_in b) ≡ set_entries a b
  unfolding set_entries differences
  set_entries_lem =
      let h : table_id_of a * 256 + 256 ≤ 65536 = let z = x 0 in omega arith in
      entries_within 256 (table_id_of a * 256) (sections_in a) (sections_in b) h set_within.0 set_within.1

pub set_ranked : (s : List ℕ) → is_set s ≡ true → Ranked s
set_ranked s e = record { laid = (set_run s e).laid; rising = set_chain rises s (λ x y q. lt-ltb (rank_of x) (rank_of y) (set_pair_rank x y q)) e }

-- ---- two schedules

module _ (a b : List ℕ) (w : AlikeSchedules a b) (x : Bytes a) (y : Bytes b) where
  pub schedule_within : (every (within (kind_first (table_id_of a) * 256) (kind_first (table_id_of a) * 256 + 4096)) (sections_in a) ≡ true)
      × (every (within (kind_first (table_id_of a) * 256) (kind_first (table_id_of a) * 256 + 4096)) (sections_in b) ≡ true)
  schedule_within = (
    every_both (λ (s : List ℕ). eqb (kind_first (table_id_of s)) (kind_first (table_id_of a))) small_number (within (kind_first (table_id_of a) * 256) (kind_first (table_id_of a) * 256 + 4096)) (kind_within (kind_first (table_id_of a))) (sections_in a)
        (schedule_kinds a w.first) (small_numbers a (schedule_run a w.first).laid x),
    every_both (λ (s : List ℕ). eqb (kind_first (table_id_of s)) (kind_first (table_id_of a))) small_number (within (kind_first (table_id_of a) * 256) (kind_first (table_id_of a) * 256 + 4096)) (kind_within (kind_first (table_id_of a))) (sections_in b)
        (rw w.kind (schedule_kinds b w.second)) (small_numbers b (schedule_run b w.second).laid y),
  )

  pub schedule_entries_lem : all_differences (sections_in a) (sections_in b) ≡ schedule_entries a b
  unfolding schedule_entries schedule_differences differences
  schedule_entries_lem =
      let h : kind_first (table_id_of a) * 256 + 4096 ≤ 65536 = let z = x 0 in omega arith in
      entries_within 4096 (kind_first (table_id_of a) * 256) (sections_in a) (sections_in b) h schedule_within.0 schedule_within.1
      ∙ sym (up_product 16 256 (kind_first (table_id_of a)) (entry_at (sections_in a) (sections_in b)))

pub schedule_ranked : (s : List ℕ) → Bytes s → is_schedule s ≡ true → Ranked s
schedule_ranked s b e = record {
  laid = (schedule_run s e).laid;
  rising = schedule_chain rises s (λ x y p q. lt-ltb (rank_of x) (rank_of y) (schedule_pair_rank x y (ltb-true (section_number x) 256 p) q)) b e;
}

starts_at : (base : ℕ) (s : List ℕ) (x : List ℕ) (xs : List (List ℕ)) → sections_in s ≡ x ∷ xs → base ≤ table_id_of x → StartsAt base (sections_in s)
starts_at base s x xs e h = rw e h

pub schedule_tabled : (s : List ℕ) → Bytes s → is_schedule s ≡ true → (base : ℕ) → base ≡ kind_first (table_id_of s) → Tabled base s
schedule_tabled s b e base z =
    let r = schedule_run s e in
    let o = opens s r.laid r.some in
    let k = o.same 0 (omega arith) in
    record {
      laid = r.laid;
      rising = schedule_chain tables_rise s (λ x y p q. le-leb (table_id_of x) (table_id_of y) (never_falls x y q)) b e;
      starts = starts_at base s _ _ o.cuts (omega (arith, k));
    }
