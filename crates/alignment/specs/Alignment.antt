-- Packets of 188 bytes out of a stream of bytes, and how alignment is found again where it was lost. `cond test a b` is a where the test is true, else b.
use Rattle.std.specs.Prelude.{Bool, true, false, cond, ◌&&◌, ◌||◌, List, [], ◌∷◌, ℕ, zero, suc, ◌+◌, ◌-◌, leb, ltb, eqb, length, take, drop, get_or}
use Rattle.std.proofs.Math.Option.{Option, none, some}
use Rattle.laws.specs.Lists.{first_from}
use Rattle.alignment.specs.declared.Step.{Step}
use Rattle.alignment.specs.declared.Next.{Next}
use Rattle.alignment.specs.declared.Next.TheVariants as next

-- ---- the rule, on the whole input

-- a packet may begin at byte j: the sync byte stands there and, where the input has one, a packet further
unfoldable pub sync_at : List ℕ → ℕ → Bool
sync_at xs j = eqb (get_or xs j 0) 0x47 && (leb (length xs) (j + 188) || eqb (get_or xs (j + 188) 0) 0x47)

-- the first such place from i on, or the end
abbrev pub next_sync : List ℕ → ℕ → ℕ
next_sync xs i = first_from (sync_at xs) (length xs - i) i

-- a packet; how many bytes were passed over, those of the last packet with them; fewer than 188 bytes, the last
pub data Piece : Type 0 where
  packet : List ℕ → Piece
  skipped : ℕ → Piece
  cut : Piece

-- the first n pieces
unfoldable pub pieces_in : ℕ → List ℕ → List Piece
pieces_in zero xs = []
pieces_in (suc n) xs =
    cond (ltb (length xs) 188) (cond (eqb (length xs) 0) [] (cut ∷ []))
    (packet (take 188 xs) ∷ cond (eqb (get_or xs 0 0) 0x47) (pieces_in n (drop 188 xs)) (skipped (next_sync xs 1) ∷ pieces_in n (drop (next_sync xs 1) xs)))

-- all of them: a packet, with what is passed over behind it, takes one byte or more
unfoldable pub pieces : List ℕ → List Piece
pieces xs = pieces_in (length xs) xs

-- ---- a window of it

-- how many of its places can be judged
abbrev pub judged_to : ℕ → Bool → ℕ
judged_to n last = cond last n (n - 188)

abbrev pub found : ℕ → Step
found n = record { next = next.Found; used = n }

abbrev pub more : ℕ → Step
more n = record { next = next.More; used = n }

-- while bytes are passed over
unfoldable pub sought : List ℕ → Bool → Step
sought window last =
    let end : ℕ = judged_to (length window) last in
    let at : ℕ = first_from (sync_at window) end 0 in
    cond (last || ltb at end) (found at) (more at)

-- else
unfoldable pub head_of : List ℕ → Bool → Step
head_of window last =
    cond (leb 188 (length window)) (cond (eqb (get_or window 0 0) 0x47) (record { next = next.Packet; used = 188 }) (record { next = next.Loose; used = 1 }))
    (cond last (cond (eqb (length window) 0) (record { next = next.Over; used = 0 }) (record { next = next.Cut; used = length window })) (more 0))

unfoldable pub step_of : List ℕ → Bool → Bool → Step
step_of window passing last = cond passing (sought window last) (head_of window last)

-- ---- many windows: how many bytes were passed over so far, none where none are

-- the pieces that are still to come
unfoldable pub to_come : Option ℕ → List ℕ → List Piece
to_come none xs = pieces xs
to_come (some n) xs = skipped (n + next_sync xs 0) ∷ pieces (drop (next_sync xs 0) xs)

abbrev pub is_some : Option ℕ → Bool
is_some none = false
is_some (some n) = true

-- the pieces that a step tells, and how many bytes were passed over then
pub record Told : Type 0 where
  pub now : List Piece
  pub passed : Option ℕ

abbrev pub told : List Piece → Option ℕ → Told
told now passed = record { now = now; passed = passed }

abbrev pub and_more : Option ℕ → ℕ → Option ℕ
and_more none k = none
and_more (some n) k = some (n + k)

abbrev pub passed_over : Option ℕ → ℕ → List Piece
passed_over none k = []
passed_over (some n) k = skipped (n + k) ∷ []

unfoldable pub told_by : Step → Option ℕ → List ℕ → Told
told_by s passed window = by s.next s.used
  where
    by : Next → ℕ → Told
    by next.Packet k = told (packet (take 188 window) ∷ []) none
    by next.Loose k = told (packet (take 188 window) ∷ []) (some k)
    by next.Found k = told (passed_over passed k) none
    by next.More k = told [] (and_more passed k)
    by next.Cut k = told (cut ∷ []) none
    by next.Over k = told [] none
