-- Where a packet may begin, computed.
-- Assumes nothing.
use mathlib.Core.Path.{◌≡◌, refl}
use mathlib.Core.List.{List, [], ◌∷◌, ◌++◌}
use Prim.Native.Nat.{ℕ}
use lib.ListN.{replicate}
use Rattle.laws.specs.Lists.{first_from}
use Rattle.alignment.specs.Alignment.{cut, sync_at, next_sync, pieces_in, pieces}

abbrev zeros : ℕ → List ℕ
zeros n = replicate n 0

nothing : pieces [] ≡ []
unfolding pieces pieces_in
nothing = refl

too_few : pieces (0x47 ∷ 1 ∷ []) ≡ cut ∷ []
unfolding pieces pieces_in
too_few = refl

-- a sync byte that stands again a packet further
again : next_sync (0 ∷ 0x47 ∷ (zeros 187 ++ (0x47 ∷ 0 ∷ []))) 1 ≡ 1
unfolding sync_at first_from
again = refl

-- one that does not, and one that stands so near the end that nothing is a packet further
by_chance : next_sync (0 ∷ 0x47 ∷ (zeros 187 ++ (0 ∷ 0x47 ∷ []))) 1 ≡ 190
unfolding sync_at first_from
by_chance = refl

-- none: all the rest is passed over
never : next_sync (zeros 6) 1 ≡ 6
unfolding sync_at first_from
never = refl
