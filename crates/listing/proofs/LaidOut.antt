-- Where the bytes are whole entries (the layout that answer 19 asks of an EIT) no entry runs past the loop: only a descriptor can.
-- Assumes nothing.
use mathlib.Core.Path.{◌≡◌, sym, ap, ◌∙◌}
use mathlib.Core.Bool.{Bool, true, false}
use Prim.Native.Nat.{ℕ, ◌+◌, ◌≤◌}
use native.Mathlib.Omega.{arith}
use mathlib.Core.List.{List, ◌++◌}
use lib.ListN.{length, drop, length-append}
use lib.Seq.{drop-append-add, drop-append_seam}
use Rattle.laws.specs.Entries.{counted, entry_size, whole_entries, counted_by}
use Rattle.laws.proofs.Entries.{entries_short, entries_past, entries_more}
use Rattle.listing.specs.Rules.{Item, RunsPast, past_short, past_entry, past_descriptor, past_later, DescriptorPast, past_here, past_further}
use Rattle.listing.proofs.Parts.{count_front}

clash : {b : Bool} {A : Type 0} → b ≡ true → b ≡ false → A
clash e d = absurd (let z : ◌≡◌ {A = Bool} true false = sym e ∙ d in let n : ◌≡◌ {A = ℕ} 0 1 = cc in omega arith)

module _ (n : ℕ) (p : 2 ≤ n) where
  pub layout_good_lem : {s : List ℕ} {items : List Item} {place : ℕ} → whole_entries n s ≡ true → RunsPast n s items place → DescriptorPast n s items place
  layout_good_lem e (past_short s z l) = clash e (entries_short n (omega arith) s (λ (q : length s ≡ 0). absurd (omega arith)) l)
  layout_good_lem e (past_entry header rest h b) =
      let c : counted n (header ++ rest) ≡ counted_by 16 n header = count_front 16 n (omega arith) header rest h in
      let z : length (header ++ rest) ≡ length header + length rest = length-append header rest in
      clash e (entries_past n (omega arith) (header ++ rest) (omega arith) (omega arith))
  layout_good_lem e (past_descriptor header body rest h b d) = past_here header body rest h b d
  layout_good_lem e (past_later header body {rest} {ds} {items} {place} h b d w) =
      let s : List ℕ = header ++ (body ++ rest) in
      let c : counted n s ≡ length body = count_front 16 n (omega arith) header (body ++ rest) h ∙ sym b in
      let z : length s ≡ length header + (length body + length rest) = length-append header (body ++ rest) ∙ ap (λ (i : ℕ). length header + i) (length-append body rest) in
      let r : drop (entry_size n s) s ≡ rest = rw (c, ← h, drop-append-add header (body ++ rest) (length body), drop-append_seam body rest) in
      past_further header body h b d (layout_good_lem (rw r at (sym (entries_more n (omega arith) s (omega arith) (omega arith)) ∙ e)) w)
