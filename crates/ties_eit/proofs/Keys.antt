-- Keys: what the words of heads show reads back, and kinds and table_ids go together.
-- Assumes nothing.
use mathlib.Core.Path.{◌≡◌, refl, subst}
use mathlib.Core.Bool.{Bool, true, false, cond, not, ◌&&◌, beq}
use mathlib.Core.Option.{Option, none, some}
use Prim.Native.Nat.{ℕ, ◌+◌, ◌-◌, ◌%◌, ◌≤◌, ◌<◌}
use native.Mathlib.Omega.{arith}
use borrow.Author.Tests.{eqb-true, ne_eqb, le-leb, leb-true}
use lib.Dec.{eqb, leb}
use Rattle.laws.proofs.Tests.{and_true}
use Rattle.laws.proofs.Facts.{eq_passes}
use Rattle.rules_shared.proofs.Same.{same_origin_refl_lem}
use Rattle.rules_eit.specs.Keys.{Kind, present_actual, present_other, schedule_actual, schedule_other, between, kind_of, first_of, kind_number, same_kind, ScheduleKey, SetKey, same_schedule, same_set}
use Rattle.rows.specs.declared.Key.{Key}
use Rattle.ticks.proofs.Origins.{origin_reads}
use Rattle.arrivals.specs.Arrivals.{bit_of}
use Rattle.units.specs.Units.{first_table, with_table}
use Rattle.ties_eit.specs.View.{kind_by, key_shown, schedule_shown, key_words, schedule_words}

-- ---- a key is the same as itself

beq_self : (b : Bool) → beq b b ≡ true
beq_self true = refl
beq_self false = refl

pub schedule_self : (a : ScheduleKey) → same_schedule a a ≡ true
unfolding same_schedule same_kind
schedule_self a =
    rw (same_origin_refl_lem a.from, eq_passes (kind_number a.kind), eq_passes a.service_id, eq_passes a.transport_stream_id, eq_passes a.original_network_id, beq_self a.current_next_of)

pub set_self : (a : SetKey) → same_set a a ≡ true
unfolding same_set
set_self a = rw (schedule_self a.schedule, eq_passes a.table_id_of)

-- ---- a key in use reads back

-- the PID word is that of a PID
abbrev pub HasPid : Key → Type 0
HasPid k = k.from.pid ≡ 8192 → ⊥

-- the current_next word is 0 or 1
abbrev pub Bit : ℕ → Type 0
Bit w = bit_of (not (eqb w 0)) ≡ w

pub bit_bit : (b : Bool) → Bit (bit_of b)
bit_bit true = refl
bit_bit false = refl

pub bit_reads : (b : Bool) → not (eqb (bit_of b) 0) ≡ b
bit_reads true = refl
bit_reads false = refl

pub key_reads : (k : Key) → HasPid k → Bit k.current_next → key_words (key_shown k) ≡ k
unfolding key_words key_shown
key_reads k n b =
    let p = origin_reads k.from n in
    λ i. record {
      from = p i;
      table_id = k.table_id;
      extension = k.extension;
      current_next = b i;
      transport_stream_id = k.transport_stream_id;
      original_network_id = k.original_network_id;
    }

pub schedule_reads : (k : Key) → HasPid k → Bit k.current_next → kind_number (kind_by k.table_id) ≡ k.table_id → schedule_words (schedule_shown k) ≡ k
unfolding schedule_words schedule_shown
schedule_reads k n b t =
    let p = origin_reads k.from n in
    λ i. record {
      from = p i;
      table_id = t i;
      extension = k.extension;
      current_next = b i;
      transport_stream_id = k.transport_stream_id;
      original_network_id = k.original_network_id;
    }

pub number_kind : (k : Kind) → kind_by (kind_number k) ≡ k
unfolding kind_by kind_number
number_kind present_actual = refl
number_kind present_other = refl
number_kind schedule_actual = refl
number_kind schedule_other = refl

-- the key of the schedule that a set goes into
pub schedule_of_lem : (k : Key) (kind : Kind) → kind_of k.table_id ≡ some kind → schedule_shown (with_table k (kind_number kind)) ≡ (key_shown k).schedule
unfolding schedule_shown key_shown
schedule_of_lem k kind e = rw (number_kind kind, e)

-- ---- table_ids of a kind

-- a kind of schedules has the 16 table_ids from its first one on
pub record InKind (kind : Kind) (first table : ℕ) : Type 0 where
  pub first_of_lem : first_of kind ≡ some first
  pub by_kind : first_table (kind_number kind) ≡ first
  pub from : first ≤ table
  pub until : table < first + 16
  pub place : table % 16 ≡ table - first
  pub number : 2 ≤ kind_number kind
  pub others : (j : ℕ) → j < 16 → kind_of (first + j) ≡ some kind

-- what kind_of says, test by test
pub data Ranges (table : ℕ) : Option Kind → Type 0 where
  is_4e : table ≡ 0x4e → Ranges table (some present_actual)
  is_4f : table ≡ 0x4f → Ranges table (some present_other)
  in_5 : 0x50 ≤ table → table ≤ 0x5f → Ranges table (some schedule_actual)
  in_6 : 0x60 ≤ table → table ≤ 0x6f → Ranges table (some schedule_other)
  outside : Ranges table none

pub ranges : (table : ℕ) → Ranges table (kind_of table)
unfolding kind_of between
ranges t = go (eqb t 0x4e) (eqb t 0x4f) (between 0x50 t 0x5f) (between 0x60 t 0x6f) refl refl refl refl
  where
    pair : (low high : ℕ) → between low t high ≡ true → (low ≤ t) × (t ≤ high)
    pair low high e = let p = and_true (leb low t) (leb t high) e in (leb-true low t p.0, leb-true t high p.1)

    go : (a b c d : Bool) → eqb t 0x4e ≡ a → eqb t 0x4f ≡ b → between 0x50 t 0x5f ≡ c → between 0x60 t 0x6f ≡ d
        → Ranges t (cond a (some present_actual) (cond b (some present_other) (cond c (some schedule_actual) (cond d (some schedule_other) none))))
    go true b c d p q r s = is_4e (eqb-true t 0x4e p)
    go false true c d p q r s = is_4f (eqb-true t 0x4f q)
    go false false true d p q r s = let x = pair 0x50 0x5f r in in_5 x.0 x.1
    go false false false true p q r s = let x = pair 0x60 0x6f s in in_6 x.0 x.1
    go false false false false p q r s = outside

between_yes : (low t high : ℕ) → low ≤ t → t ≤ high → between low t high ≡ true
unfolding between
between_yes low t high a b = rw (le-leb low t a, le-leb t high b)

between_no : (low t high : ℕ) → high < t → between low t high ≡ false
unfolding between
between_no low t high a = go (leb low t)
  where
    past : leb t high ≡ false
    past = borrow.Author.Tests.lt-leb t high a

    go : (b : Bool) → (b && leb t high) ≡ false
    go true = past
    go false = refl

actual_kind : (t : ℕ) → 0x50 ≤ t → t ≤ 0x5f → kind_of t ≡ some schedule_actual
unfolding kind_of
actual_kind t a b = rw (ne_eqb t 0x4e (λ (e : t ≡ 0x4e). absurd (omega arith)), ne_eqb t 0x4f (λ (e : t ≡ 0x4f). absurd (omega arith)), between_yes 0x50 t 0x5f a b)

other_kind_lem : (t : ℕ) → 0x60 ≤ t → t ≤ 0x6f → kind_of t ≡ some schedule_other
unfolding kind_of
other_kind_lem t a b =
    rw (ne_eqb t 0x4e (λ (e : t ≡ 0x4e). absurd (omega arith)), ne_eqb t 0x4f (λ (e : t ≡ 0x4f). absurd (omega arith)), between_no 0x50 t 0x5f (omega arith), between_yes 0x60 t 0x6f a b)

in_actual : (t : ℕ) → 0x50 ≤ t → t ≤ 0x5f → InKind schedule_actual 0x50 t
unfolding first_of kind_number
in_actual t a b = record {
  first_of_lem = refl;
  by_kind = refl;
  from = a;
  until = omega arith;
  place = omega arith;
  number = omega arith;
  others = λ j h. actual_kind (0x50 + j) (omega arith) (omega arith);
}

in_other : (t : ℕ) → 0x60 ≤ t → t ≤ 0x6f → InKind schedule_other 0x60 t
unfolding first_of kind_number
in_other t a b = record {
  first_of_lem = refl;
  by_kind = refl;
  from = a;
  until = omega arith;
  place = omega arith;
  number = omega arith;
  others = λ j h. other_kind_lem (0x60 + j) (omega arith) (omega arith);
}

-- a kind is one of present/following, which has no first table_id, or one of schedules
pub data Kinds (table : ℕ) (kind : Kind) : Type 0 where
  present : first_of kind ≡ none → kind_number kind < 2 → Kinds table kind
  scheduled : (first : ℕ) → InKind kind first table → Kinds table kind

pub kinds : (table : ℕ) (kind : Kind) → kind_of table ≡ some kind → Kinds table kind
unfolding first_of kind_number
kinds table kind e = go kind (subst (Ranges table) e (ranges table))
  where
    go : (k : Kind) → Ranges table (some k) → Kinds table k
    go present_actual r = present refl (omega arith)
    go present_other r = present refl (omega arith)
    go schedule_actual (in_5 a b) = scheduled 0x50 (in_actual table a b)
    go schedule_other (in_6 a b) = scheduled 0x60 (in_other table a b)
