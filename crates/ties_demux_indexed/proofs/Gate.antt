-- The gate with an index and the gate without, a section of a packet after another: the gate that is left is an opened one too, and can judge one section less.
-- Assumes nothing.
use mathlib.Core.Path.{◌≡◌, sym, subst}
use mathlib.Core.List.{List}
use Prim.Native.Nat.{ℕ, suc, ◌≤◌}
use lib.ListN.{length}
use Rattle.section.specs.Facts.{Bytes}
use Rattle.ring_index.proofs.Same.{Sound}
use Rattle.gate.specs.View.{memory_of, Opened}
use Rattle.gate_pats.specs.Store.{Kept, sections_in, taken_with}
use Rattle.gate_pats_indexed.specs.Store.{KeptBy, sections_by, taken_by}
use Rattle.ties_gate.proofs.Order.{follows}
use Rattle.ties_gate.proofs.Indexed as low
use Rattle.ties_gate_pats.proofs.Indexed.{Same, taken_same}
use Rattle.demux_steady.specs.Steady.{acts, Steady}
use Rattle.demux_steady.proofs.Steady.{steady_next, words_whole}
use Rattle.demux_indexed_turns.specs.Acts.{acts_by}

-- an opened gate that can judge n more sections
pub record Ready (n : ℕ) (s : KeptBy) : Type 0 where
  pub rows : low.OpenedBy (sections_by s)
  pub steady : Steady n s.kept

module _ (s : KeptBy) (r : low.OpenedBy (sections_by s)) (input pid : ℕ) (section : List ℕ) (b : Bytes section) where
  same : Same (taken_by s input pid section) (taken_with s.kept input pid section)
  same = taken_same s r input pid section b

  plain_opens : 384 ≤ length (acts s.kept input pid section).watch.words → Opened (sections_in (acts s.kept input pid section))
  unfolding taken_with
  plain_opens w =
      let f = (follows (sections_in s.kept) (record { input = input; pid = pid; section = section }) r.opened b).opened in
      record { reached = f.reached; watch = w; rule = f.rule }

  -- where the record keeps its words
  pub taken_opens : 384 ≤ length (acts s.kept input pid section).watch.words → low.OpenedBy (sections_by (acts_by s input pid section))
  taken_opens w = record {
    opened = subst (λ (k : Kept). Opened (sections_in k)) (sym same.kept) (plain_opens w);
    kept = subst (λ (k : Kept). Sound (memory_of (sections_in k)) (acts_by s input pid section).index) (sym same.kept) same.index;
  }

pub ready_next : (n : ℕ) (s : KeptBy) → Ready (suc n) s → (input pid : ℕ) (section : List ℕ) → Bytes section → Ready n (acts_by s input pid section)
ready_next n s r input pid section b =
    let k : Steady n (acts s.kept input pid section) = steady_next n s.kept r.steady input pid section (b 7) in
    record {
      rows = taken_opens s r.rows input pid section b (words_whole (acts s.kept input pid section) k.whole);
      steady = subst (Steady n) (sym (taken_same s r.rows input pid section b).kept) k;
    }
