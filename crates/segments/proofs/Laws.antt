-- One law for each turn, each end and each way out of the functions on segments.
-- Assumes nothing.
use mathlib.Core.Path.{◌≡◌, sym, ap, ◌∙◌}
use mathlib.Core.List.{List}
use mathlib.Core.Bool.{Bool, false, cond, ◌&&◌, and_assoc, and-true}
use Prim.Native.Nat.{ℕ, ◌+◌, ◌-◌, ◌*◌, ◌/◌, ◌%◌, ◌≤◌, ◌<◌, min}
use native.Mathlib.Omega.{arith}
use borrow.Author.Tests.{ne_eqb}
use lib.ListN.{take, drop}
use Rattle.cells.specs.Cells.{all_filled}
use Rattle.eit_section.specs.Segment.{segment_end}
use Rattle.eit_section.proofs.Segment.{end_from_start}
use Rattle.rows.specs.Rows.{slot_count, emptied, kept_slots, last_of}
use Rattle.rows.specs.declared.Entry.{Entry}
use Rattle.rows.specs.declared.Room.{Room}
use Rattle.rows.proofs.Loops.{before}
use Rattle.segments.specs.Segments.{word_of, with_word, filled_to, segment_complete, segments_complete, set_complete, kept_section}

pub filled_part : (slots : List ℕ) (i start end : ℕ) (r : Bool) → start ≤ end
    → r ≡ all_filled (take (i * 288 + 32 + start + (end + 1 - start) - (i * 288 + 32 + start)) (drop (i * 288 + 32 + start) slots)) → r ≡ filled_to slots i start end
unfolding filled_to
filled_part slots i start end r h e = let s : i * 288 + 32 + start + (end + 1 - start) - (i * 288 + 32 + start) ≡ end + 1 - start = omega arith in rw s at e

low_bits : (start m last : ℕ) → segment_end start (m % 256) last ≡ segment_end start m last
unfolding segment_end
low_bits start m last = let s : m % 256 % 8 ≡ m % 8 = omega arith in rw s

pub segment_none : (slots : List ℕ) (i last s n : ℕ) → n ≡ word_of slots i s → n ≡ 0 → false ≡ segment_complete slots i last s
unfolding segment_complete
segment_none slots i last s n e z = rw (← e, z)

pub segment_some : (slots : List ℕ) (i last s n end x : ℕ) (r : Bool) → n ≡ word_of slots i s → (n ≡ 0 → ⊥) → end ≡ segment_end (s * 8) ((n - 1) % 256) last → x ≡ end → r ≡ filled_to slots i (s * 8) x
    → r ≡ segment_complete slots i last s
unfolding segment_complete
segment_some slots i last s n end x r e z p f q = rw (← e, ne_eqb n 0 z, ← low_bits (s * 8) (n - 1) last, ← p, ← f) q

pub segments_turn : (slots : List ℕ) (i last whole s : ℕ) (ok r : Bool) → 0 < s → r ≡ segment_complete slots i last (s - 1)
    → segments_complete slots i last whole ≡ (ok && segments_complete slots i last s)
    → segments_complete slots i last whole ≡ (ok && r && segments_complete slots i last (s - 1))
unfolding segments_complete
segments_turn slots i last whole s ok r p e q =
    q ∙ ap (λ (k : ℕ). ok && segments_complete slots i last k) (before s p)
    ∙ sym (and_assoc ok (segment_complete slots i last (s - 1)) (segments_complete slots i last (s - 1))) ∙ rw e

pub segments_end : (slots : List ℕ) (i last whole s : ℕ) (ok : Bool) → s ≤ 0 → segments_complete slots i last whole ≡ (ok && segments_complete slots i last s) → ok ≡ segments_complete slots i last whole
unfolding segments_complete
segments_end slots i last whole s ok p q = let z : s ≡ 0 = omega arith in sym (q ∙ rw z (and-true ok))

pub set_segments : (heads slots : List ℕ) (i w n : ℕ) (r : Bool) → w ≡ last_of heads i → n ≡ slot_count w → r ≡ segments_complete slots i (n - 1) ((n - 1) / 8 + 1) → r ≡ set_complete heads slots i
unfolding set_complete
set_segments heads slots i w n r e f q = let s : n - 1 ≡ min (last_of heads i) 255 = rw (← e) (omega arith) in rw (← s) q

pub section_kept : (r : Room) (e : Entry) (n w : ℕ) (l l' l'' l''' : List ℕ) → l' ≡ cond r.fresh (emptied (r.row * 288) 32 l) l → l'' ≡ kept_slots r e w l' → l''' ≡ with_word r.row (e.number / 8) n l''
    → l''' ≡ kept_section r e n w l
unfolding kept_section
section_kept r e n w l l' l'' l''' p q f = rw (← p, ← q) f

pub segment_start : (last s m end x : ℕ) → s * 8 ≤ last → end ≡ segment_end (s * 8) m last → x ≡ end → s * 8 ≤ x
segment_start last s m end x k e f = let a = end_from_start (s * 8) m last k in omega arith

pub segments_holds : (slots : List ℕ) (i last x : ℕ) → x ≡ last → segments_complete slots i last (last / 8 + 1) ≡ segments_complete slots i last (x / 8 + 1)
segments_holds slots i last x e = rw e
