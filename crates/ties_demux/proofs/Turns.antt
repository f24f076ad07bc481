-- The places that tell of a list of sections, gone through one after another: each section is offered in order, and place k is told the answer to the k-th. Open in
-- the gate.
-- Assumes nothing.
use mathlib.Core.Path.{◌≡◌, refl, sym, ap, ◌∙◌}
use mathlib.Core.Logic.{◌≢◌}
use mathlib.Core.List.{List, [], ◌∷◌, map}
use Prim.Native.Nat.{ℕ, zero, suc, ◌+◌, ◌*◌, ◌≤◌, ◌<◌}
use native.Mathlib.Nat.{add-zero}
use native.Mathlib.Omega.{arith}
use lib.ListN.{length, get_or, set, length-set}
use lib.Seq.{get_or-set_same, get_or-set_other}
use Rattle.transport.specs.Rules.{Bytes}
use Rattle.gate_state.specs.State.{Said}
use Rattle.demux_places.specs.declared.Place.{Place}
use Rattle.demux_places.specs.declared.Outcome.{Outcome}
use Rattle.demux_places.specs.Places.{place_at, bytes_at, outcome, outcome_of, put_outcome, answered}
use Rattle.demux_turns.specs.Turns.{OffersOf, offered_at, turned_by, turns_by}
use Rattle.ties_demux.specs.Card.{sections_told, outcomes_told}

-- ---- a place that is told an answer

abbrev outcome_at : List ℕ → ℕ → Outcome
outcome_at ps j = outcome (get_or ps (j * 6) 0) (get_or ps (j * 6 + 1) 0) (get_or ps (j * 6 + 2) 0)

module _ (places : List ℕ) (k : ℕ) (o : Outcome) where
  abbrev one : List ℕ
  one = set places (k * 6) o.answer

  abbrev two : List ℕ
  two = set one (k * 6 + 1) o.stored

  other_word : (i : ℕ) → i ≢ k * 6 → i ≢ k * 6 + 1 → i ≢ k * 6 + 2 → get_or (put_outcome places k o) i 0 ≡ get_or places i 0
  other_word i a b c = get_or-set_other two (k * 6 + 2) i o.worked 0 c ∙ get_or-set_other one (k * 6 + 1) i o.stored 0 b ∙ get_or-set_other places (k * 6) i o.answer 0 a

  -- every place tells of the section that it told of
  pub place_stays : (j : ℕ) → place_at (put_outcome places k o) j ≡ place_at places j
  place_stays j =
      let a = other_word (j * 6 + 3) (λ e. omega arith) (λ e. omega arith) (λ e. omega arith) in
      let b = other_word (j * 6 + 4) (λ e. omega arith) (λ e. omega arith) (λ e. omega arith) in
      let c = other_word (j * 6 + 5) (λ e. omega arith) (λ e. omega arith) (λ e. omega arith) in
      λ i. record { whence = a i; first = b i; size = c i }

  pub places_long : length (put_outcome places k o) ≡ length places
  places_long = length-set two (k * 6 + 2) o.worked ∙ length-set one (k * 6 + 1) o.stored ∙ length-set places (k * 6) o.answer

-- its own answer, and those of other places
module _ (places : List ℕ) (k : ℕ) (o : Outcome) where
  pub told_there : k * 6 + 2 < length places → outcome_at (put_outcome places k o) k ≡ o
  told_there h =
      let a : get_or (put_outcome places k o) (k * 6) 0 ≡ o.answer =
      get_or-set_other (two places k o) (k * 6 + 2) (k * 6) o.worked 0 (λ e. omega arith) ∙ get_or-set_other (one places k o) (k * 6 + 1) (k * 6) o.stored 0 (λ e. omega arith)
      ∙ get_or-set_same places (k * 6) o.answer 0 (omega arith) in
      let b : get_or (put_outcome places k o) (k * 6 + 1) 0 ≡ o.stored =
      get_or-set_other (two places k o) (k * 6 + 2) (k * 6 + 1) o.worked 0 (λ e. omega arith) ∙ get_or-set_same (one places k o) (k * 6 + 1) o.stored 0 (omega (arith, length-set places (k * 6) o.answer)) in
      let c : get_or (put_outcome places k o) (k * 6 + 2) 0 ≡ o.worked =
      get_or-set_same (two places k o) (k * 6 + 2) o.worked 0 (omega (arith, length-set (one places k o) (k * 6 + 1) o.stored, length-set places (k * 6) o.answer)) in
      λ i. outcome (a i) (b i) (c i)

  pub told_elsewhere : (j : ℕ) → j ≢ k → outcome_at (put_outcome places k o) j ≡ outcome_at places j
  told_elsewhere j n =
      let a = other_word places k o (j * 6) (λ e. n (omega arith)) (λ e. omega arith) (λ e. omega arith) in
      let b = other_word places k o (j * 6 + 1) (λ e. omega arith) (λ e. n (omega arith)) (λ e. omega arith) in
      let c = other_word places k o (j * 6 + 2) (λ e. omega arith) (λ e. omega arith) (λ e. n (omega arith)) in
      λ i. outcome (a i) (b i) (c i)

-- ---- the sections, one after another

module _ {S : Type 0} (words_in : S → List ℕ) (tells : S → (input pid : ℕ) → List ℕ → Said) (acts : S → (input pid : ℕ) → List ℕ → S) where
  unfoldable pub offers_of : (input pid k : ℕ) → List Bytes → OffersOf S → OffersOf S
  offers_of input pid k [] o = o
  offers_of input pid k (s ∷ ss) o = offers_of input pid (k + 1) ss (offered_at words_in tells acts input pid k s o)

  unfoldable pub answers_to : (input pid : ℕ) → List Bytes → S → List Said
  answers_to input pid [] g = []
  answers_to input pid (s ∷ ss) g = tells g input pid s ∷ answers_to input pid ss (acts g input pid s)

  module _ (packet buffers : List ℕ) (input pid : ℕ) where
    -- the places name the sections
    abbrev pub Names : List ℕ → ℕ → List Bytes → Type 0
    Names places k ss = (j : ℕ) → j < length ss → bytes_at packet buffers (place_at places (k + j)) ≡ get_or ss j []

    name_first : (places : List ℕ) (k : ℕ) (s : Bytes) (ss : List Bytes) → Names places k (s ∷ ss) → bytes_at packet buffers (place_at places k) ≡ s
    name_first places k s ss f = ap (λ (j : ℕ). bytes_at packet buffers (place_at places j)) (sym (add-zero k)) ∙ f 0 (omega arith)

    name_rest : (places : List ℕ) (k : ℕ) (s : Bytes) (ss : List Bytes) (o : Outcome) → Names places k (s ∷ ss) → Names (put_outcome places k o) (k + 1) ss
    name_rest places k s ss o f j h =
        let z : k + 1 + j ≡ k + suc j = omega arith in
        ap (bytes_at packet buffers) (place_stays places k o (k + 1 + j)) ∙ ap (λ (m : ℕ). bytes_at packet buffers (place_at places m)) z ∙ f (suc j) (omega arith)

    pub turns_offer : (k : ℕ) (ss : List Bytes) (o : OffersOf S) → Names o.places k ss → turns_by words_in tells acts packet buffers input pid (length ss) k o ≡ offers_of input pid k ss o
    unfolding turns_by turned_by offers_of
    turns_offer k [] o f = refl
    turns_offer k (s ∷ ss) o f =
        ap (λ (x : Bytes). turns_by words_in tells acts packet buffers input pid (length ss) (k + 1) (offered_at words_in tells acts input pid k x o)) (name_first o.places k s ss f)
        ∙ turns_offer (k + 1) ss (offered_at words_in tells acts input pid k s o) (name_rest o.places k s ss (outcome_of (tells o.gate input pid s)) f)

  module _ (input pid : ℕ) where
    -- places still tell of the sections that they told of
    pub offers_stay : (k : ℕ) (ss : List Bytes) (o : OffersOf S) (j : ℕ) → place_at (offers_of input pid k ss o).places j ≡ place_at o.places j
    unfolding offers_of
    offers_stay k [] o j = refl
    offers_stay k (s ∷ ss) o j =
        offers_stay (k + 1) ss (offered_at words_in tells acts input pid k s o) j ∙ place_stays o.places k (outcome_of (tells o.gate input pid s)) j

    pub offers_long : (k : ℕ) (ss : List Bytes) (o : OffersOf S) → length (offers_of input pid k ss o).places ≡ length o.places
    unfolding offers_of
    offers_long k [] o = refl
    offers_long k (s ∷ ss) o = offers_long (k + 1) ss (offered_at words_in tells acts input pid k s o) ∙ places_long o.places k (outcome_of (tells o.gate input pid s))

    -- an earlier place keeps its answer
    earlier : (k : ℕ) (ss : List Bytes) (o : OffersOf S) (j : ℕ) → j < k → outcome_at (offers_of input pid k ss o).places j ≡ outcome_at o.places j
    unfolding offers_of
    earlier k [] o j h = refl
    earlier k (s ∷ ss) o j h =
        earlier (k + 1) ss (offered_at words_in tells acts input pid k s o) j (omega arith) ∙ told_elsewhere o.places k (outcome_of (tells o.gate input pid s)) j (λ (e : j ≡ k). omega arith)

    -- each place is told the answer to its section
    pub outcomes_told_lem : (k : ℕ) (ss : List Bytes) (o : OffersOf S) → (k + length ss) * 6 ≤ length o.places
        → outcomes_told (offers_of input pid k ss o).places (length ss) k ≡ map outcome_of (answers_to input pid ss o.gate)
    unfolding offers_of outcomes_told answers_to
    outcomes_told_lem k [] o h = refl
    outcomes_told_lem k (s ∷ ss) o h =
        let a : Outcome = outcome_of (tells o.gate input pid s) in
        let n : OffersOf S = offered_at words_in tells acts input pid k s o in
        let first : outcome_at (offers_of input pid (k + 1) ss n).places k ≡ a = earlier (k + 1) ss n k (omega arith) ∙ told_there o.places k a (omega arith) in
        let rest = outcomes_told_lem (k + 1) ss n (omega (arith, places_long o.places k a)) in
        λ i. first i ∷ rest i

-- what the places tell is what they name
pub names_told : (packet buffers places : List ℕ) (k : ℕ) (ss : List Bytes) → ((j : ℕ) → j < length ss → bytes_at packet buffers (place_at places (k + j)) ≡ get_or ss j [])
    → sections_told packet buffers places (length ss) k ≡ ss
unfolding sections_told
names_told packet buffers places k [] f = refl
names_told packet buffers places k (s ∷ ss) f =
    let first : bytes_at packet buffers (place_at places k) ≡ s = ap (λ (j : ℕ). bytes_at packet buffers (place_at places j)) (sym (add-zero k)) ∙ f 0 (omega arith) in
    let rest = names_told packet buffers places (k + 1) ss (λ j h. let z : k + 1 + j ≡ k + suc j = omega arith in ap (λ (m : ℕ). bytes_at packet buffers (place_at places m)) z ∙ f (suc j) (omega arith)) in
    λ i. first i ∷ rest i
