-- The promise of each public function names one result, or one content of each lent slice: two that meet it are equal.
-- Assumes nothing.
use mathlib.Core.Path.{◌≡◌, ap}
use mathlib.Core.Bool.{Bool}
use mathlib.Core.List.{List}
use Prim.Native.Nat.{ℕ}
use Rattle.laws.proofs.Unique.{one_result}
use Rattle.pats.specs.Store.{Record, record_of, room_for, pats_whole, pats_full, begun_words, entered_in}

pub room_unique : (words slots cells : ℕ) (a b : Bool) → a ≡ room_for words slots cells → b ≡ room_for words slots cells → a ≡ b
room_unique words slots cells a b p q = one_result (room_for words slots cells) p q

pub whole_unique : (r : Record) (a b : Bool) → a ≡ pats_whole r → b ≡ pats_whole r → a ≡ b
whole_unique r a b p q = one_result (pats_whole r) p q

pub full_unique : (words : List ℕ) (a b : Bool) → a ≡ pats_full words → b ≡ pats_full words → a ≡ b
full_unique words a b p q = one_result (pats_full words) p q

pub begin_unique : (words a b : List ℕ) → a ≡ begun_words words → b ≡ begun_words words → a ≡ b
begin_unique words a b p q = one_result (begun_words words) p q

pub enter_unique : (r : Record) (input : ℕ) (section ws xs ss ts cs ds : List ℕ) → record_of ws ss cs ≡ entered_in r input section → record_of xs ts ds ≡ entered_in r input section
    → (ws ≡ xs) × (ss ≡ ts) × (cs ≡ ds)
enter_unique r input section ws xs ss ts cs ds p q =
    let e : record_of ws ss cs ≡ record_of xs ts ds = one_result (entered_in r input section) p q in
    (ap (λ (k : Record). k.words) e, ap (λ (k : Record). k.slots) e, ap (λ (k : Record). k.cells) e)
