-- The set that `push` tells of has the fields of the section that was pushed, on every store, damaged ones included.
-- Assumes nothing.
use mathlib.Core.Path.{◌≡◌, refl, ap, ◌∙◌}
use mathlib.Core.Bool.{Bool, true, false, cond, ◌&&◌}
use mathlib.Core.List.{List}
use Prim.Native.Nat.{ℕ, ◌+◌, ◌*◌, ◌≤◌, ◌<◌}
use native.Mathlib.Omega.{arith}
use borrow.Author.Tests.{ltb-true, eqb-true, eqb-false}
use lib.Dec.{eqb, ltb}
use lib.ListN.{length, get_or}
use Rattle.laws.specs.Lists.{same_list}
use Rattle.laws.proofs.Tests.{and_true}
use Rattle.answers.specs.declared.Refusal.TheVariants.{NotWhole, CounterFull, TooLong, NoCell, NoPid}
use Rattle.section.specs.Header.{header_of}
use Rattle.section.specs.Ids.{origin_of}
use Rattle.section.specs.Judged.{collected_of}
use Rattle.section.proofs.Facts.{takes}
use Rattle.section.specs.declared.header.Header.{Header}
use Rattle.std.specs.Prelude.{Option, Some, None, Result, Ok, Err}
use Rattle.answers.specs.declared.Refusal.TheVariants as refusal
use Rattle.answers.specs.declared.Refusal.{Refusal}
use Rattle.cells.specs.Cells.{kept_length, lowest_free, kept}
use Rattle.rows.specs.declared.Origin.{Origin}
use Rattle.rows.specs.declared.Entry.{Entry}
use Rattle.rows.specs.declared.Room.{Room}
use Rattle.rows.specs.Rows.{word, key_at, version_of, last_of, row_of, room_in, room_renewed, room_new, oldest_of, gone_row, taken_in, kept_heads, slots_at, touched, with_mark}
use Rattle.rows.proofs.Words.{of_key, put_not, touched_not, kept_fresh, kept_known}
use Rattle.ticks.proofs.Words.{key_same, kept_fresh_key}
use Rattle.ticks.proofs.Touch.{row_has_key}
use Rattle.without_pid.specs.Pids.{without_pid}
use Rattle.store.specs.Store.{Store, store, risen_sets, whole_of, counters_full, WholeStore}
use Rattle.store.proofs.Whole.{whole_means}
use Rattle.placing.specs.Places.{place_slot, place_known, place_of, RoomOk, PlaceOk}
use Rattle.placing.specs.declared.Place.{Place}
use Rattle.placing.specs.declared.Place.TheVariants as place
use Rattle.placing.proofs.Laws.{place_ok}
use Rattle.arrivals.specs.Arrivals.{made_words, set_key, entry_of, set_read, set_judged, set_arrival}
use Rattle.sets_plan.specs.declared.Plan.{Plan}
use Rattle.sets_plan.specs.declared.Plan.TheVariants as plan
use Rattle.sets_plan.specs.Plan.{plan_keep, plan_placed, plan_of}
use Rattle.sets_settle.specs.declared.PushAnswer.TheVariants as push_answer
use Rattle.sets_settle.specs.Settle.{Handed, nothing, handed, set_in, answer_of, goes_out, settled_answer, settled_heads, settled, kept_in, carried}
use Rattle.sets_push.specs.Pushing.{whole_pushed, admitted}
use Rattle.sets.specs.Store.{pushed_as, pushed_of}
use Rattle.ties_given.specs.Given.{AsRead, AsGiven}

-- row i is of the section's set: its key, version and last number
record Ours (heads : List ℕ) (i : ℕ) (e : Entry) : Type 0 where
  key : key_at heads i ≡ e.key
  version : version_of heads i ≡ e.version
  last : last_of heads i ≡ e.last

record OurSet (w : Handed) (e : Entry) : Type 0 where
  key : w.key ≡ e.key
  version : w.version ≡ e.version
  last : w.last ≡ e.last

is_set : (v w : Handed) → handed v ≡ handed w → v ≡ w
is_set v w q = cc

-- ---- a row that goes out

module _ (s : Store) (i : ℕ) (e : Entry) (o : Ours s.heads i e) where
  abbrev newer : List ℕ
  newer = touched (s.sets.clock + 1) i s.heads

  abbrev marked : List ℕ
  marked = with_mark i 1 newer

  -- the touch and the mark leave all other words
  same_word : (m : ℕ) → m < 12 → (m ≡ 8 → ⊥) → (m ≡ 9 → ⊥) → word marked i m ≡ word s.heads i m
  same_word m l n8 n9 = put_not newer i 8 1 i m n8 (omega arith) l ∙ touched_not (s.sets.clock + 1) i s.heads i m n9 l

  out_set : OurSet (set_in (store (risen_sets s.sets) marked s.slots s.cells) i) e
  unfolding set_in
  out_set = record {
    key = key_same s.heads marked i (λ m q. same_word m (of_key m q).below (of_key m q).no_mark (of_key m q).no_tick) ∙ o.key;
    version = same_word 6 (omega arith) (omega arith) (omega arith) ∙ o.version;
    last = same_word 7 (omega arith) (omega arith) (omega arith) ∙ o.last;
  }

  settled_ours : (w : Handed) → (settled s i).told ≡ handed w → OurSet w e
  unfolding settled settled_answer settled_heads
  settled_ours w q = go (goes_out newer s.slots i) q
    where
      go : (b : Bool) → answer_of (cond b (push_answer.Set i) push_answer.Nothing) (store (risen_sets s.sets) (cond b marked newer) s.slots s.cells) ≡ handed w → OurSet w e
      go true q = rw (← is_set (set_in (store (risen_sets s.sets) marked s.slots s.cells) i) w q) out_set
      go false q = let z : ◌≡◌ {A = ℕ} 0 1 = cc in absurd (omega arith)

-- ---- the row that a section comes to

module _ (s : Store) (f : WholeStore s) (e : Entry) (bytes : List ℕ) where
  -- where a section is kept, its row is of its set afterwards
  abbrev KeptOurs : Room → Type 0
  KeptOurs r = Ours (kept_heads r e s.heads) r.row e

  abbrev PlaceOurs : Place → Type 0
  PlaceOurs (place.Conflict i) = Unit {0}
  PlaceOurs (place.Repeat i) = Ours s.heads i e
  PlaceOurs (place.Goes r) = RoomOk s.sets r → KeptOurs r

  head_room : (r : Room) → RoomOk s.sets r → r.row * 12 + 12 ≤ length s.heads
  head_room r k = let a = f.heads_long in let b = k.room in let c = k.row in omega arith

  anew_ours : (r : Room) → r.fresh ≡ true → RoomOk s.sets r → KeptOurs r
  anew_ours r t k =
      let l = head_room r k in
      record { key = kept_fresh_key r e s.heads l t; version = kept_fresh r e s.heads l t 6 (omega arith); last = kept_fresh r e s.heads l t 7 (omega arith) }

  known_ours : (r : Room) → r.fresh ≡ false → Ours s.heads r.row e → RoomOk s.sets r → KeptOurs r
  known_ours r t o k =
      let l = head_room r k in
      record {
        key = key_same s.heads (kept_heads r e s.heads) r.row (λ m q. kept_known r e s.heads l t m (of_key m q).no_mark (of_key m q).below) ∙ o.key;
        version = kept_known r e s.heads l t 6 (omega arith) (omega arith) ∙ o.version;
        last = kept_known r e s.heads l t 7 (omega arith) (omega arith) ∙ o.last;
      }

  abbrev there : ℕ
  there = row_of s.heads e.key s.sets.used

  slot_ours : (w : ℕ) → Ours s.heads there e → PlaceOurs (place_slot s bytes there w)
  unfolding place_slot
  slot_ours w o = go (eqb (kept_length w) 0) (same_list (kept s.cells s.sets.size w) bytes)
    where
      go : (a b : Bool) → PlaceOurs (cond a (place.Goes (room_in s.sets.used s.sets.evictions there)) (cond b (place.Repeat there) (place.Conflict there)))
      go true b = known_ours (room_in s.sets.used s.sets.evictions there) refl o
      go false true = o
      go false false = tt

  known_place : there < s.sets.used → PlaceOurs (place_known s e bytes there)
  unfolding place_known
  known_place h = go (eqb (version_of s.heads there) e.version && eqb (last_of s.heads there) e.last) refl
    where
      go : (b : Bool) → (eqb (version_of s.heads there) e.version && eqb (last_of s.heads there) e.last) ≡ b
          → PlaceOurs (cond b (place_slot s bytes there (get_or s.slots (slots_at there + e.number) 0)) (place.Goes (room_renewed s.sets.used s.sets.evictions there)))
      go true q =
          let t = and_true (eqb (version_of s.heads there) e.version) (eqb (last_of s.heads there) e.last) q in
          slot_ours (get_or s.slots (slots_at there + e.number) 0)
          (record { key = row_has_key s.heads e.key s.sets.used h; version = eqb-true _ _ t.0; last = eqb-true _ _ t.1 })
      go false q = anew_ours (room_renewed s.sets.used s.sets.evictions there) refl

  new_place : PlaceOurs (place.Goes (room_new s.heads s.sets.limit s.sets.used s.sets.evictions))
  unfolding room_new
  new_place = go (ltb s.sets.used s.sets.limit)
    where
      o : ℕ
      o = oldest_of s.heads s.sets.used

      go : (b : Bool) → PlaceOurs (place.Goes (cond b (room_renewed (s.sets.used + 1) s.sets.evictions s.sets.used) (room_renewed s.sets.used (s.sets.evictions + 1) (oldest_of s.heads s.sets.used))))
      go true = anew_ours (room_renewed (s.sets.used + 1) s.sets.evictions s.sets.used) refl
      go false = anew_ours (room_renewed s.sets.used (s.sets.evictions + 1) (oldest_of s.heads s.sets.used)) refl

  place_ours : PlaceOurs (place_of s e bytes)
  unfolding place_of
  place_ours = go (ltb there s.sets.used) refl
    where
      go : (b : Bool) → ltb there s.sets.used ≡ b → PlaceOurs (cond b (place_known s e bytes there) (place.Goes (room_new s.heads s.sets.limit s.sets.used s.sets.evictions)))
      go true q = known_place (ltb-true there s.sets.used q)
      go false q = new_place

  -- ---- what is told

  abbrev Tells : Plan → Type 0
  Tells p = (w : Handed) → (carried s bytes p).told ≡ handed w → OurSet w e

  keep_tells : (r : Room) → KeptOurs r → Tells (plan_keep s e r)
  unfolding plan_keep kept_in
  keep_tells r o w q = go (lowest_free (taken_in s.heads s.slots (gone_row r s.sets.used) s.sets.used) s.sets.count) q
    where
      at : (b : Bool) (c : ℕ) → Tells (cond b (plan.Keep (record { entry = e; room = r; cell = c })) (plan.Refuse NoCell))
      at true c w q = settled_ours (kept_in s bytes (record { entry = e; room = r; cell = c })) r.row e o w q
      at false c w q = let z : ◌≡◌ {A = ℕ} 0 1 = cc in absurd (omega arith)

      go : (c : ℕ) → (carried s bytes (cond (ltb c s.sets.count) (plan.Keep (record { entry = e; room = r; cell = c })) (plan.Refuse NoCell))).told ≡ handed w → OurSet w e
      go c q = at (ltb c s.sets.count) c w q

  placed_tells : (p : Place) → PlaceOk s p → PlaceOurs p → Tells (plan_placed s e p)
  placed_tells (place.Conflict i) k o w q = let z : ◌≡◌ {A = ℕ} 0 1 = cc in absurd (omega arith)
  placed_tells (place.Repeat i) k o w q = settled_ours s i e o w q
  placed_tells (place.Goes r) k o w q = keep_tells r (o k) w q

  plan_tells : Tells (plan_of s e bytes)
  unfolding plan_of
  plan_tells w q = go (ltb s.sets.size (length bytes)) (eqb s.sets.limit 0) refl q
    where
      go : (a b : Bool) → eqb s.sets.limit 0 ≡ b → (carried s bytes (cond a (plan.Refuse TooLong) (cond b plan.Silent (plan_placed s e (place_of s e bytes))))).told ≡ handed w → OurSet w e
      go true b x q = let z : ◌≡◌ {A = ℕ} 0 1 = cc in absurd (omega arith)
      go false true x q = let z : ◌≡◌ {A = ℕ} 0 1 = cc in absurd (omega arith)
      go false false x q = let z : s.sets.limit ≡ 0 → ⊥ = eqb-false s.sets.limit 0 x in placed_tells (place_of s e bytes) (place_ok s f e bytes (omega (arith, z))) place_ours w q

-- ---- what a section says

module _ (bytes : List ℕ) (w : Handed) where
  header_given : (from : Origin) (h : Header) → collected_of bytes ≡ Ok h → OurSet w (entry_of (set_key from h) h) → AsRead from bytes w
  unfolding header_of
  header_given from h q o =
      let t = takes bytes h (collected_of bytes) refl q in
      let hd = t.header in
      record {
        same_input = ap (λ k. k.from.input) o.key;
        same_pid = ap (λ k. k.from.pid) o.key;
        table = ap (λ k. k.table_id) o.key ∙ ap (λ x. x.table_id) hd;
        extension = ap (λ k. k.extension) o.key ∙ ap (λ x. x.extension) hd;
        current = ap (λ k. k.current_next) o.key ∙ ap (λ x. cond x.current_next 1 0) hd;
        version = o.version ∙ ap (λ x. x.version) hd;
        last = o.last ∙ ap (λ x. x.last) hd;
        long = t.room;
      }

  -- 14 to 17 tell of no set
  read_given : (s : Store) → WholeStore s → (from : Origin) → (c : Result Header Refusal) → collected_of bytes ≡ c → (pushed_as s bytes (set_read from c)).told ≡ handed w → AsRead from bytes w
  unfolding whole_pushed
  read_given s f from (Err r) q h = let z : ◌≡◌ {A = ℕ} 0 1 = cc in absurd (omega arith)
  read_given s f from (Ok x) q h = header_given from x q (plan_tells s f (entry_of (set_key from x) x) bytes w h)

  -- THE THEOREM below a push: every store that is whole, every words of an origin and every section
  pub goes_out_as_read : (s : Store) → WholeStore s → (from : Origin) → (pushed_as s bytes (set_read from (collected_of bytes))).told ≡ handed w → AsRead from bytes w
  goes_out_as_read s f from h = read_given s f from (collected_of bytes) refl h

  -- nor do 41, 12 and 37
  arrival_given : (s : Store) → WholeStore s → (input : ℕ) (pid : Option ℕ) → (pushed_as s bytes (set_arrival input pid bytes)).told ≡ handed w → AsGiven input pid bytes w
  unfolding set_arrival
  arrival_given s f input None h = let z : ◌≡◌ {A = ℕ} 0 1 = cc in absurd (omega arith)
  arrival_given s f input (Some v) h = go (ltb v 8192) (ltb input 16) refl refl h
    where
      go : (b c : Bool) → ltb v 8192 ≡ b → ltb input 16 ≡ c
          → (pushed_as s bytes (set_judged (made_words (cond b (cond c (Ok (origin_of input v)) (Err refusal.BadInput)) (Err refusal.BadPid))) bytes)).told ≡ handed w → AsGiven input (Some v) bytes w
      go true true q r h = record {
        number = v;
        with_pid = refl;
        is_pid = ltb-true v 8192 q;
        is_input = ltb-true input 16 r;
        read = goes_out_as_read s f (record { input = input; pid = v }) h;
      }
      go true false q r h = let z : ◌≡◌ {A = ℕ} 0 1 = cc in absurd (omega arith)
      go false c q r h = let z : ◌≡◌ {A = ℕ} 0 1 = cc in absurd (omega arith)

-- THE THEOREM: every store, input, PID and section
pub goes_out_as_given : (s : Store) (input : ℕ) (pid : Option ℕ) (bytes : List ℕ) (w : Handed) → (pushed_of s input pid bytes).told ≡ handed w → AsGiven input pid bytes w
unfolding pushed_of admitted
goes_out_as_given s input pid bytes w h = go (whole_of s) (counters_full s.sets) (without_pid s.heads s.sets.used) refl h
  where
    go : (b c n : Bool) → whole_of s ≡ b
        → (pushed_as s bytes (cond b (cond c (Err CounterFull) (cond n (Err NoPid) (set_arrival input pid bytes))) (Err NotWhole))).told ≡ handed w
        → AsGiven input pid bytes w
    go true true n q h = let z : ◌≡◌ {A = ℕ} 0 1 = cc in absurd (omega arith)
    go true false true q h = let z : ◌≡◌ {A = ℕ} 0 1 = cc in absurd (omega arith)
    go true false false q h = arrival_given bytes w s (whole_means s q) input pid h
    go false c n q h = let z : ◌≡◌ {A = ℕ} 0 1 = cc in absurd (omega arith)
