-- One section offered to both EIT collectors: the row that each works on, what goes into it, what is handed out.
-- P are the accepted sections: those of one segment agree on its last number, and none lies above the segment's end.
-- Assumes nothing.
use borrow.Author.Tests.{eqb-true, eqb-false, leb-true, leb-false}
use mathlib.Core.Path.{◌≡◌, refl, sym, ap, ◌∙◌, subst}
use mathlib.Core.Logic.{◌⊎◌, inl, inr}
use mathlib.Core.Bool.{Bool, true, false, true≢false}
use mathlib.Core.Option.{Option, none, some, some-injective}
use mathlib.Core.List.{List}
use Prim.Native.Nat.{ℕ, suc, ◌*◌, ◌≤◌, ◌<◌}
use native.Mathlib.Omega.{arith}
use lib.Dec.{leb, eqb}
use lib.ListN.{length, get_or, set, replicate, length-replicate, length-set}
use lib.Seq.{get_or-set_same, get_or-set_other, set_out}
use Rattle.laws.proofs.Tests.{none≢some}
use Rattle.rules_shared.specs.Same.{Bytes}
use Rattle.rules_shared.specs.Slots.{present}
use Rattle.rules_shared.specs.Touch.{newest}
use Rattle.rules_shared.specs.Row.{fresh, slot_of, keep, marked, put}
use Rattle.rules_shared.proofs.Slots.{Below, below_empty, below_length, below_set, below_catch, free_slot}
use Rattle.rules_shared.proofs.Row.{Meets, Sized, sized_fresh, sized_keep, put_has}
use Rattle.rules_shared.proofs.Ahead.{Ahead, Marks, put_ahead}
use Rattle.laws.proofs.Runs.{Then}
use Rattle.rules_eit.specs.Keys.{Kind, first_of, SetKey, ScheduleKey}
use Rattle.rules_eit.specs.Segments.{segment_of, segment_end, complete}
use Rattle.rules_eit.specs.Schedules.{ScheduleOf, copy_of, whole}
use Rattle.rules_eit.specs.Rules.{Section, key_of, part_of, SetRow, Eit, Whole, Answer, nothing, handout, schedule, refused, Step, set_newest, schedule_touched, told, ranged, ready, judged, judge}
use Rattle.answers.specs.declared.Refusal.TheVariants as refusal
use Rattle.present.proofs.Complete.{get_d_inside, complete_more, same_slots}

abbrev pub Rel : SetRow → SetRow → Type 0
Rel = Ahead Below

-- an accepted section gave the last number m to segment g of a row
pub record Said (P : Section → Kind → Type 0) (k : SetKey) (r : SetRow) (g m : ℕ) : Type 0 where
  pub section : Section
  pub kind : Kind
  pub accepted : P section kind
  pub key : key_of section kind ≡ k
  pub version : section.version ≡ r.version
  pub last : section.last ≡ r.last
  pub segment : segment_of section.number ≡ g
  pub says : section.segment_last ≡ m

-- section i lies inside its segment, which has a last number
abbrev Inside : SetRow → ℕ → Type 0
Inside r i = (m : ℕ) × (get_or r.notes (segment_of i) none ≡ some m) × (i ≤ segment_end (8 * segment_of i) m r.last)

-- a row of the larger: its sizes, where its segments' last numbers come from, that its sections lie inside their segments,
-- and that a marked present/following set was handed out (H) since the last clear
pub record Good (P : Section → Kind → Type 0) (H : Whole → Type 0) (k : SetKey) (r : SetRow) : Type 0 where
  pub sized : Sized r
  pub segmented : length r.notes ≡ 32
  pub said : (g m : ℕ) → get_or r.notes g none ≡ some m → Said P k r g m
  pub inside : (i : ℕ) (b : Bytes) → get_or r.slots i none ≡ some b → segment_of i < 32 → (m : ℕ) × (get_or r.notes (segment_of i) none ≡ some m) × (i ≤ segment_end (8 * segment_of i) m r.last)
  pub shown : r.mark ≡ true → first_of k.schedule.kind ≡ none → H (whole k (copy_of r))

pub good_then : (P : Section → Kind → Type 0) (H : Whole → Type 0) (a : Answer) (k : SetKey) (r : SetRow) → Good P H k r → Good P (Then handout H a) k r
good_then P H a k r g = record { sized = g.sized; segmented = g.segmented; said = g.said; inside = g.inside; shown = λ e f. inl (g.shown e f) }

pub good_fresh : (P : Section → Kind → Type 0) (H : Whole → Type 0) (k : SetKey) (x : Section) → Good P H k (fresh (part_of x))
unfolding fresh part_of
good_fresh P H k x = record {
  sized = sized_fresh Bytes (part_of x);
  segmented = length-replicate {A = Option ℕ} 32 none;
  said = λ g m e. absurd (none≢some (free_slot {A = ℕ} 32 g) e);
  inside = λ i b e. absurd (none≢some (free_slot {A = Bytes} (suc x.last) i) e);
  shown = λ e. absurd (true≢false (sym e));
}

pub good_least : (P : Section → Kind → Type 0) (H : Whole → Type 0) (k : SetKey) (x : Section) (l : SetRow) → Good P H k l → Below (part_of x).blank l.notes
unfolding part_of
good_least P H k x l g = below_empty 32 l.notes g.segmented

-- ---- the section goes into its slot

module _ (P : Section → Kind → Type 0)
    (agree : (x y : Section) (k j : Kind) → P x k → P y j → key_of x k ≡ key_of y j → x.version ≡ y.version → x.last ≡ y.last
    → segment_of x.number ≡ segment_of y.number → x.segment_last ≡ y.segment_last)
    (within : (x : Section) (k : Kind) → P x k → x.number ≤ segment_end (8 * segment_of x.number) x.segment_last x.last)
    (H : Whole → Type 0) (x : Section) (kind : Kind) (px : P x kind) where
  -- what the row's segment says, the section says
  agrees : (l : SetRow) → Meets (part_of x) l → (m : ℕ) → Said P (key_of x kind) l (segment_of x.number) m → x.segment_last ≡ m
  unfolding part_of
  agrees l v m s =
      agree x s.section kind s.kind px s.accepted (sym s.key) (sym v.version ∙ sym s.version) (sym v.last ∙ sym s.last) (sym s.segment) ∙ s.says

  good_keep : (l : SetRow) → Meets (part_of x) l → Good P H (key_of x kind) l → Good P H (key_of x kind) (keep (part_of x) x.bytes l)
  unfolding keep part_of
  good_keep l v g = record {
    sized = sized_keep (part_of x) x.bytes l g.sized;
    segmented = length-set l.notes (segment_of x.number) (some x.segment_last) ∙ g.segmented;
    said = λ j m h. says j m (eqb j (segment_of x.number)) refl h;
    inside = λ i b h s. lies i b (eqb i x.number) refl h s;
    shown = λ h. absurd (true≢false (sym h));
  }
    where
      gs : List (Option ℕ)
      gs = set l.notes (segment_of x.number) (some x.segment_last)

      -- the segment of the section, where there are so many segments
      own : segment_of x.number < 32 → get_or gs (segment_of x.number) none ≡ some x.segment_last
      own s = get_or-set_same l.notes (segment_of x.number) (some x.segment_last) none (rw g.segmented s)

      says : (j m : ℕ) (b : Bool) → eqb j (segment_of x.number) ≡ b → get_or gs j none ≡ some m → Said P (key_of x kind) (keep (part_of x) x.bytes l) j m
      says j m true d h =
          let q : j ≡ segment_of x.number = eqb-true j (segment_of x.number) d in
          let s : segment_of x.number < 32 = omega (arith, q, get_d_inside gs j m h, length-set l.notes (segment_of x.number) (some x.segment_last), g.segmented) in
          record {
            section = x;
            kind = kind;
            accepted = px;
            key = refl;
            version = sym v.version;
            last = sym v.last;
            segment = sym q;
            says = some-injective x.segment_last m (sym (own s) ∙ ap (λ (n : ℕ). get_or gs n none) (sym q) ∙ h);
          }
      says j m false d h =
          let s = g.said j m (sym (get_or-set_other l.notes (segment_of x.number) j (some x.segment_last) none (eqb-false j (segment_of x.number) d)) ∙ h) in
          record { section = s.section; kind = s.kind; accepted = s.accepted; key = s.key; version = s.version; last = s.last; segment = s.segment; says = s.says }

      Lies : ℕ → Type 0
      Lies i = (m : ℕ) × (get_or gs (segment_of i) none ≡ some m) × (i ≤ segment_end (8 * segment_of i) m l.last)

      lies : (i : ℕ) (b : Bytes) (c : Bool) → eqb i x.number ≡ c
          → get_or (set l.slots x.number (some x.bytes)) i none ≡ some b → segment_of i < 32 → Lies i
      lies i b true p h s = subst Lies (sym (eqb-true i x.number p))
          (x.segment_last, own (subst (λ (n : ℕ). segment_of n < 32) (eqb-true i x.number p) s), rw v.last (within x kind px))
      lies i b false p h s =
          seg (eqb (segment_of i) (segment_of x.number)) refl (g.inside i b (sym (get_or-set_other l.slots x.number i (some x.bytes) none (eqb-false i x.number p)) ∙ h) s)
        where
          seg : (d : Bool) → eqb (segment_of i) (segment_of x.number) ≡ d → Inside l i → Lies i
          seg true q w =
              let z : segment_of i ≡ segment_of x.number = eqb-true (segment_of i) (segment_of x.number) q in
              let y : x.segment_last ≡ w.0 = agrees l v w.0 (g.said (segment_of x.number) w.0 (ap (λ (n : ℕ). get_or l.notes n none) (sym z) ∙ w.1)) in
              (w.0, ap (λ (n : ℕ). get_or gs n none) z ∙ own (subst (λ (n : ℕ). n < 32) z s) ∙ ap some y, w.2)
          seg false q w = (w.0, get_or-set_other l.notes (segment_of x.number) (segment_of i) (some x.segment_last) none (eqb-false (segment_of i) (segment_of x.number) q) ∙ w.1, w.2)

  -- the larger has the section already: its segment says so
  catches : (s l : SetRow) → Meets (part_of x) l → Rel s l → Good P H (key_of x kind) l → get_or l.slots x.number none ≡ some x.bytes
      → Below (set s.notes (segment_of x.number) (some x.segment_last)) l.notes
  catches s l v a g h = go (leb 32 (segment_of x.number)) refl
    where
      go : (b : Bool) → leb 32 (segment_of x.number) ≡ b → Below (set s.notes (segment_of x.number) (some x.segment_last)) l.notes
      go true d =
          rw (set_out s.notes (segment_of x.number) (some x.segment_last) (omega (arith, below_length a.notes, g.segmented, leb-true 32 (segment_of x.number) d))) a.notes
      go false d =
          let w = g.inside x.number x.bytes h (leb-false 32 (segment_of x.number) d) in
          let y : x.segment_last ≡ w.0 = agrees l v w.0 (g.said (segment_of x.number) w.0 w.1) in
          below_catch a.notes (segment_of x.number) x.segment_last (w.1 ∙ ap some (sym y))

  pub eit_put_ahead : (s l : SetRow) → Meets (part_of x) l → Rel s l → Good P H (key_of x kind) l → (l' : SetRow) → put (part_of x) x.bytes l ≡ some l'
      → (s' : SetRow) × (put (part_of x) x.bytes s ≡ some s') × Rel s' l'
  unfolding part_of slot_of
  eit_put_ahead s l v a g l' h =
      put_ahead Below (part_of x) x.bytes l s a (below_set a.notes (segment_of x.number) x.segment_last) (λ e. catches s l v a g e) l' h

  pub eit_put_good : (l l' : SetRow) → Meets (part_of x) l → Good P H (key_of x kind) l → put (part_of x) x.bytes l ≡ some l' → Good P H (key_of x kind) l'
  eit_put_good l l' v g h = put_has (part_of x) x.bytes l (Good P H (key_of x kind)) g (good_keep l v g) l' h

-- ---- what is handed out

nothing_not : (w : Whole) → nothing ≡ handout w → ⊥
nothing_not w h = let z : ◌≡◌ {A = ℕ} 0 1 = cc in omega arith

range_not : (w : Whole) → refused refusal.Range ≡ handout w → ⊥
range_not w h = let z : ◌≡◌ {A = ℕ} 0 1 = cc in omega arith

told_not : (l : ScheduleKey) (first : ℕ) (s : ScheduleOf Bytes) (b : Bool) (w : Whole) → told l first s b ≡ handout w → ⊥
unfolding told
told_not l first s true w h = let z : ◌≡◌ {A = ℕ} 0 1 = cc in omega arith
told_not l first s false w h = nothing_not w h

-- what a call that judges row r of key k leaves, and hands out, e being the other rows
pub record Judged (e : Eit) (k : SetKey) (r : SetRow) (t : Step) : Type 0 where
  pub row : SetRow
  pub marks : Marks r row
  pub sets : t.eit.sets ≡ newest k row e.sets
  pub hands : (w : Whole) → t.answer ≡ handout w → (complete r ≡ true) × (first_of k.schedule.kind ≡ none) × (whole k (copy_of r) ≡ w)

pub record JudgedGood (P : Section → Kind → Type 0) (H : Whole → Type 0) (e : Eit) (k : SetKey) (r : SetRow) (t : Step) : Type 0 where
  pub row : SetRow
  pub marks : Marks r row
  pub sets : t.eit.sets ≡ newest k row e.sets
  pub good : Good P (Then handout H t.answer) k row
  pub hands : complete r ≡ true → first_of k.schedule.kind ≡ none → Then handout H t.answer (whole k (copy_of r))

module _ (limit : ℕ) (e : Eit) (k : SetKey) (last : ℕ) (r : SetRow) where
  pub judge_any : Judged e k r (judge limit e k last r)
  unfolding judge judged ready ranged set_newest schedule_touched
  judge_any = go r.mark (complete r) refl
    where
      in_range : (first : ℕ) (b : Bool) (s : ScheduleOf Bytes) → Judged e k r (ranged limit e k r first b s)
      in_range first false s = record { row = r; marks = inl refl; sets = refl; hands = λ w h. absurd (range_not w h) }
      in_range first true s = record { row = marked r; marks = inr refl; sets = refl; hands = λ w h. absurd (told_not _ _ _ _ w h) }

      goes : complete r ≡ true → (o : Option ℕ) → first_of k.schedule.kind ≡ o → Judged e k r (ready limit e k last r o)
      goes q none f = record { row = marked r; marks = inr refl; sets = refl; hands = λ w h. (q, f, (let z : whole k (copy_of r) ≡ w = cc in z)) }
      goes q (some first) f = in_range first (leb k.table_id_of last) _

      go : (b c : Bool) → complete r ≡ c → Judged e k r (judged limit e k last r b c)
      go true c q = record { row = r; marks = inl refl; sets = refl; hands = λ w h. absurd (nothing_not w h) }
      go false false q = record { row = r; marks = inl refl; sets = refl; hands = λ w h. absurd (nothing_not w h) }
      go false true q = goes q (first_of k.schedule.kind) refl

  pub judge_good : (P : Section → Kind → Type 0) (H : Whole → Type 0) → Good P H k r → JudgedGood P H e k r (judge limit e k last r)
  unfolding judge judged ready ranged set_newest schedule_touched marked copy_of
  judge_good P H g = go r.mark (complete r) refl refl
    where
      unmarked : (a : Answer) → (first_of k.schedule.kind ≡ none → Then handout H a (whole k (copy_of r))) → Good P (Then handout H a) k (marked r)
      unmarked a f = record { sized = g.sized; segmented = g.segmented; said = λ j m h. again (g.said j m h); inside = g.inside; shown = λ h q. f q }
        where
          again : {j m : ℕ} → Said P k r j m → Said P k (marked r) j m
          again s = record { section = s.section; kind = s.kind; accepted = s.accepted; key = s.key; version = s.version; last = s.last; segment = s.segment; says = s.says }

      in_range : (first : ℕ) → first_of k.schedule.kind ≡ some first → (b : Bool) (s : ScheduleOf Bytes) → JudgedGood P H e k r (ranged limit e k r first b s)
      in_range first f false s = record { row = r; marks = inl refl; sets = refl; good = good_then P H (refused refusal.Range) k r g; hands = λ c p. absurd (none≢some p f) }
      in_range first f true s = record { row = marked r; marks = inr refl; sets = refl; good = unmarked _ (λ p. absurd (none≢some p f)); hands = λ c p. absurd (none≢some p f) }

      goes : (o : Option ℕ) → first_of k.schedule.kind ≡ o → JudgedGood P H e k r (ready limit e k last r o)
      goes none f = record { row = marked r; marks = inr refl; sets = refl; good = unmarked (handout (whole k (copy_of r))) (λ p. inr refl); hands = λ c p. inr refl }
      goes (some first) f = in_range first f (leb k.table_id_of last) _

      go : (b c : Bool) → r.mark ≡ b → complete r ≡ c → JudgedGood P H e k r (judged limit e k last r b c)
      go true c h q = record { row = r; marks = inl refl; sets = refl; good = good_then P H nothing k r g; hands = λ t p. inl (g.shown h p) }
      go false false h q = record { row = r; marks = inl refl; sets = refl; good = good_then P H nothing k r g; hands = λ t p. absurd (true≢false (sym t ∙ q)) }
      go false true h q = goes (first_of k.schedule.kind) refl

-- the smaller's row is complete: so is the larger's, and both hand out the same
pub same_whole : (P : Section → Kind → Type 0) (H : Whole → Type 0) (k : SetKey) (s l : SetRow) → Rel s l → Good P H k l → complete s ≡ true
    → (complete l ≡ true) × (whole k (copy_of l) ≡ whole k (copy_of s))
unfolding copy_of whole
same_whole P H k s l a g h =
    let e = same_slots s l a.last a.slots a.notes g.segmented g.sized g.inside h in (
      complete_more s l a.last a.slots a.notes h,
      (λ i. record { key = k; version = sym a.version i; last = sym a.last i; sections = present (sym e i) }),
    )
