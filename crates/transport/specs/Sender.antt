-- Packets of one PID sent by ISO/IEC 13818-1 (2.4.3.3, 2.4.4) without discontinuity_indicator, and what may become of them on the way.
-- Assumes nothing.
use Rattle.std.specs.Prelude.{◌≡◌, ◌≢◌, Bool, true, false, List, [], ◌∷◌, ◌++◌, ℕ, zero, suc, ◌≤◌, ◌<◌, eqb, length, replicate}
use Rattle.std.proofs.Math.Option.{Option, none, some}
use Rattle.transport.specs.Rules.{Bytes, Packet, whole, next}

-- table_id 0xFF is forbidden: it stands for stuffing
unfoldable pub stuffed : Bytes → Bool
stuffed [] = false
stuffed (t ∷ bs) = eqb t 255

pub record IsSection (s : Bytes) : Type 0 where
  pub complete : whole s ≡ true
  pub table : stuffed s ≡ false

-- sections that begin in one payload, at least one: of the sections still to begin, the bytes in the payload, what is left of the last
-- one for later payloads, and the sections still to begin then. Stuffing stands only behind a section's end, up to the payload's end
pub data Begins : List Bytes → Bytes → Bytes → List Bytes → Type 0 where
  part : {secs : List Bytes} (c r : Bytes) → c ≢ [] → r ≢ [] → IsSection (c ++ r) → Begins ((c ++ r) ∷ secs) c r secs
  last : {secs : List Bytes} (s : Bytes) (k : ℕ) → IsSection s → Begins (s ∷ secs) (s ++ replicate k 255) [] secs
  full : {secs secs' : List Bytes} {body r : Bytes} (s : Bytes) → IsSection s → Begins secs body r secs' → Begins (s ∷ secs) (s ++ body) r secs'

-- one payload, with its start indicator: rest is what is left of the section under way, secs are the sections still to begin; then both afterwards
pub data Carries (rest : Bytes) (secs : List Bytes) : Bool → Bytes → Bytes → List Bytes → Type 0 where
  goes_on : (c r : Bytes) → c ≢ [] → r ≢ [] → rest ≡ c ++ r → Carries rest secs false c r secs
  ends : (k : ℕ) → rest ≢ [] → Carries rest secs false (rest ++ replicate k 255) [] secs
  idle : (k : ℕ) → rest ≡ [] → Carries rest secs false (replicate k 255) [] secs
  starts : {body r : Bytes} {secs' : List Bytes} → Begins secs body r secs' → Carries rest secs true (length rest ∷ (rest ++ body)) r secs'

abbrev pub packet : ℕ → Bool → Bytes → Packet
packet n start payload = record { counter = n; start = start; payload = payload }

-- how often a packet is sent: once, or twice in a row (2.4.3.3, "duplicate packets")
pub data Times : Type 0 where
  once : Times
  twice : Times

-- a packet as it is sent
pub record Sending : Type 0 where
  pub packet : Packet
  pub times : Times

abbrev pub sending : Packet → Times → Sending
sending p t = record { packet = p; times = t }

-- packets from counter n on that send rest and then secs to the end
pub data Sent : ℕ → Bytes → List Bytes → List Sending → Type 0 where
  over : {n : ℕ} → Sent n [] [] []
  sends : {n : ℕ} {rest r : Bytes} {secs secs' : List Bytes} {start : Bool} {payload : Bytes} {ps : List Sending} (times : Times)
      → Carries rest secs start payload r secs' → length payload ≤ 184 → Sent (next n) r secs' ps → Sent n rest secs (sending (packet n start payload) times ∷ ps)

-- all that is sent, a copy behind its packet
unfoldable pub all_of : List Sending → List Packet
all_of [] = []
all_of (x ∷ ps) = copies x.times x.packet (all_of ps)
  where
    copies : Times → Packet → List Packet → List Packet
    copies once p qs = p ∷ qs
    copies twice p qs = p ∷ p ∷ qs

-- how many packets were lost since the last that arrived, before and after one more is lost with its copy; none: nothing has arrived yet
pub data Loses : Option ℕ → Option ℕ → Type 0 where
  early : Loses none none
  late : (j : ℕ) → j < 14 → Loses (some j) (some (suc j))

-- what arrives of packets: in order and unchanged, with gaps of at most 14, a packet and its copy counted once; the receiver may join late and leave early
pub data Arrives : Option ℕ → List Sending → List Packet → Type 0 where
  leaves : {g : Option ℕ} {ps : List Sending} → Arrives g ps []
  comes : {g : Option ℕ} {p : Packet} {times : Times} {ps : List Sending} {qs : List Packet} → Arrives (some 0) ps qs → Arrives g (sending p times ∷ ps) (p ∷ qs)
  both : {g : Option ℕ} {p : Packet} {ps : List Sending} {qs : List Packet} → Arrives (some 0) ps qs → Arrives g (sending p twice ∷ ps) (p ∷ p ∷ qs)
  lost : {g g' : Option ℕ} {p : Packet} {times : Times} {ps : List Sending} {qs : List Packet} → Loses g g' → Arrives g' ps qs → Arrives g (sending p times ∷ ps) qs

-- some of the sections, in their order, each at most as often as there
pub data Among : List Bytes → List Bytes → Type 0 where
  nothing : {ys : List Bytes} → Among [] ys
  keep : {y : Bytes} {xs ys : List Bytes} → Among xs ys → Among (y ∷ xs) (y ∷ ys)
  skip : {y : Bytes} {xs ys : List Bytes} → Among xs ys → Among xs (y ∷ ys)
