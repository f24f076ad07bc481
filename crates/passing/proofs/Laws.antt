-- One law for each turn and each way out of a function.
-- Assumes nothing.
use mathlib.Core.Path.{◌≡◌, refl, sym, ap, ◌∙◌}
use mathlib.Core.Bool.{Bool, true, false, cond, not, true≢false}
use mathlib.Core.List.{List}
use Prim.Native.Nat.{ℕ, zero, suc, ◌+◌, ◌-◌, ◌*◌, ◌≤◌, ◌<◌}
use native.Mathlib.Omega.{arith}
use lib.ListN.{take, drop}
use lib.Seq.{drop-drop}
use borrow.Author.Tests.{not-true, not-false}
use Rattle.laws.specs.Bits.{has_bit}
use Rattle.section.specs.declared.ids.Pid.{Pid}
use Rattle.packet.specs.declared.Load.{Load}
use Rattle.packet.specs.declared.Packet.{Packet}
use Rattle.packet.specs.declared.Packet.TheVariants.{Malformed, Nothing, Payload}
use Rattle.packet.specs.Packets.{packet_of}
use Rattle.streams.specs.Store.{with_words}
use Rattle.demux_packets.specs.Plans.{no_words}
use Rattle.passing.specs.Passing.{pid_passes, pids_without, passes_as, pids_as, passes, pids_after, Passed, passed, more_by, passed_from}

-- ---- a PID

module _ (watched : List ℕ) (pid : Pid) (b : Bool) (e : b ≡ has_bit watched pid.0) where
  pub pid_watched : b ≡ true → false ≡ pid_passes watched pid
  pid_watched t = rw (← e, t) refl

  pub words_stay : (pids : List ℕ) → b ≡ true → pids ≡ pids_without watched pid pids
  words_stay pids t = rw (← e, t) refl

  pub pid_unwatched : b ≡ false → true ≡ pid_passes watched pid
  pid_unwatched f = rw (← e, f) refl

  pub words_go : (pids pids' : List ℕ) → b ≡ false → pids' ≡ with_words pids pid no_words → pids' ≡ pids_without watched pid pids
  words_go pids pids' f p = rw (← e, f) p

-- ---- a packet

module _ (watched packet : List ℕ) (r : Packet) (e : r ≡ packet_of packet) where
  pub is_malformed_lem : r ≡ Malformed → false ≡ passes watched packet
  unfolding passes_as
  is_malformed_lem h = rw (← e, h) refl

  pub malformed_words : (pids : List ℕ) → r ≡ Malformed → pids ≡ pids_after watched packet pids
  unfolding pids_as
  malformed_words pids h = rw (← e, h) refl

  pub has_nothing : r ≡ Nothing → true ≡ passes watched packet
  unfolding passes_as
  has_nothing h = rw (← e, h) refl

  pub nothing_words : (pids : List ℕ) → r ≡ Nothing → pids ≡ pids_after watched packet pids
  unfolding pids_as
  nothing_words pids h = rw (← e, h) refl

  pub has_payload : (l : Load) (b : Bool) → r ≡ Payload l → b ≡ pid_passes watched l.pid → b ≡ passes watched packet
  unfolding passes_as
  has_payload l b h p = rw (← e, h) p

  pub payload_words : (l : Load) (pids pids' : List ℕ) → r ≡ Payload l → pids' ≡ pids_without watched l.pid pids → pids' ≡ pids_after watched packet pids
  unfolding pids_as
  payload_words l pids pids' h q = rw (← e, h) q

-- one that is not passed over changes no word
pub stays : (watched : List ℕ) (r : Packet) (pids : List ℕ) → passes_as watched r ≡ false → pids_as watched r pids ≡ pids
unfolding passes_as pids_as
stays watched Malformed pids h = refl
stays watched Nothing pids h = refl
stays watched (Payload l) pids h = go (has_bit watched l.pid.0) h
  where
    go : (b : Bool) → not b ≡ false → cond b pids (with_words pids l.pid no_words) ≡ pids
    go true t = refl
    go false t = absurd (true≢false t)

-- ---- the loop

pub none_yet : (most : ℕ) (watched packets pids : List ℕ) → more_by 0 (passed_from (most - 0) watched (drop (0 * 188) packets) pids) ≡ passed_from most watched packets pids
none_yet most watched packets pids =
    let z : most - 0 ≡ most = omega arith in
    let p : Passed = passed_from most watched packets pids in
    let n : 0 + p.number ≡ p.number = omega arith in
    ap (λ (k : ℕ). more_by 0 (passed_from k watched packets pids)) z ∙ (λ i. passed (n i) p.pids)

module _ (most n : ℕ) (watched packets pids : List ℕ) (all : Passed) (q : more_by n (passed_from (most - n) watched (drop (n * 188) packets) pids) ≡ all) where
  pub at_end_lem : most ≤ n → passed n pids ≡ all
  unfolding passed_from
  at_end_lem h =
      let z : most - n ≡ 0 = omega arith in
      let y : n ≡ n + 0 = omega arith in
      (λ i. passed (y i) pids) ∙ sym (ap (λ (k : ℕ). more_by n (passed_from k watched (drop (n * 188) packets) pids)) z) ∙ q

  pub at_the_most : most ≤ n → n ≤ most → passed most pids ≡ all
  at_the_most h k =
      let y : most ≡ n = omega arith in
      (λ i. passed (y i) pids) ∙ at_end_lem h

  abbrev part : List ℕ
  part = take (n * 188 + 188 - n * 188) (drop (n * 188) packets)

  abbrev packet : List ℕ
  packet = take 188 (drop (n * 188) packets)

  module _ (b : Bool) (pids' : List ℕ) (h : n < most) (e : b ≡ passes watched part) (p : pids' ≡ pids_after watched part pids) where
    size_is : n * 188 + 188 - n * 188 ≡ 188
    size_is = omega arith

    part_is : part ≡ packet
    part_is = ap (λ (k : ℕ). take k (drop (n * 188) packets)) size_is

    turned : more_by n (cond b (more_by 1 (passed_from (most - (n + 1)) watched (drop 188 (drop (n * 188) packets)) pids')) (passed 0 pids)) ≡ all
    unfolding passed_from
    turned =
        let z : most - n ≡ suc (most - (n + 1)) = omega arith in
        let c : b ≡ passes watched packet = e ∙ ap (passes watched) part_is in
        let d : pids' ≡ pids_after watched packet pids = p ∙ ap (λ (x : List ℕ). pids_after watched x pids) part_is in
        (λ i. more_by n (cond (c i) (more_by 1 (passed_from (most - (n + 1)) watched (drop 188 (drop (n * 188) packets)) (d i))) (passed 0 pids)))
        ∙ sym (ap (λ (k : ℕ). more_by n (passed_from k watched (drop (n * 188) packets) pids)) z) ∙ q

    pub stops : not b ≡ true → passed n pids' ≡ all
    stops t =
        let f : b ≡ false = not-true b t in
        let y : n ≡ n + 0 = omega arith in
        let s : pids' ≡ pids = p ∙ stays watched (packet_of part) pids (sym e ∙ f) in
        (λ i. passed (y i) (s i)) ∙ sym (ap (λ (x : Bool). more_by n (cond x (more_by 1 (passed_from (most - (n + 1)) watched (drop 188 (drop (n * 188) packets)) pids')) (passed 0 pids))) f) ∙ turned

    pub goes_on_lem : not b ≡ false → more_by (n + 1) (passed_from (most - (n + 1)) watched (drop ((n + 1) * 188) packets) pids') ≡ all
    goes_on_lem t =
        let f : b ≡ true = not-false b t in
        let a : (n + 1) * 188 ≡ n * 188 + 188 = omega arith in
        let d : drop ((n + 1) * 188) packets ≡ drop 188 (drop (n * 188) packets) = ap (λ (k : ℕ). drop k packets) a ∙ sym (drop-drop 188 (n * 188) packets) in
        let x : Passed = passed_from (most - (n + 1)) watched (drop 188 (drop (n * 188) packets)) pids' in
        let y : n + 1 + x.number ≡ n + (1 + x.number) = omega arith in
        ap (λ (l : List ℕ). more_by (n + 1) (passed_from (most - (n + 1)) watched l pids')) d
        ∙ (λ i. passed (y i) x.pids)
        ∙ sym (ap (λ (v : Bool). more_by n (cond v (more_by 1 x) (passed 0 pids))) f) ∙ turned
