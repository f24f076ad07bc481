-- One packet over the memory of a card is one packet of the rules: what is told, what is held then, and what holds of every history holds on.
-- Assumes nothing.
use mathlib.Core.Path.{◌≡◌, refl, sym, ap, subst, ◌∙◌}
use mathlib.Core.Logic.{◌≢◌, by_cases}
use mathlib.Core.Bool.{Bool, true, false, cond, not, ◌&&◌, ◌||◌}
use mathlib.Core.Option.{Option, none, some}
use mathlib.Core.List.{List, [], ◌∷◌, ◌++◌, map}
use Prim.Native.Nat.{ℕ, zero, suc, ◌+◌, ◌-◌, ◌*◌, ◌/◌, ◌%◌, ◌^◌, ◌≤◌, ◌<◌}
use native.Mathlib.Decide.{ℕ_discrete}
use native.Mathlib.Omega.{arith}
use lib.Dec.{eqb, ltb, leb}
use lib.ListN.{length, take, drop, get_or, length-drop, length-append}
use lib.Seq.{paste, length-paste, length-take-le}
use borrow.Author.Tests.{eq-eqb, ne_eqb, eqb-true, lt-ltb, le-ltb, ltb-true, ltb-false}
use Rattle.laws.specs.Bits.{has_bit}
use Rattle.laws.proofs.Search.{first_same}
use Rattle.section.specs.Facts.{Bytes as AllBytes}
use Rattle.section.specs.declared.ids.Pid.{Pid}
use Rattle.packet.specs.declared.Load.{Load}
use Rattle.packet.specs.declared.Packet.{Packet}
use Rattle.packet.specs.declared.Packet.TheVariants as read
use Rattle.packet.specs.Packets.{packet_of, IsLoad}
use Rattle.packet.proofs.Loads.{as_read}
use Rattle.transport.specs.Rules.{Bytes, State, step}
use Rattle.transport.specs.Receiver.{Stream, Streams, HeldOf, FedOf, held, stream, with_stream, taking, offers_in, feeds_to, feeds}
use Rattle.cells.specs.Cells.{lowest_free}
use Rattle.assemble.specs.declared.Words.{Words}
use Rattle.payload.specs.Payload.{placed, told_from}
use Rattle.payload.proofs.Laws.{placed_length}
use Rattle.assemble.specs.Store.{state_in, payload_of, is_repeat, Reading, read_by, ended_told, ended_count, places_of, stepped_of, buffer_after, places_after, Fits}
use Rattle.assemble.proofs.Laws.{ended_length}
use Rattle.assemble.proofs.Ties.{same_count, few_sections, buffer_bytes, buffer_length, all_take, all_drop, all_append}
use Rattle.counters.specs.Rules.{Sums}
use Rattle.gate_state.specs.State.{Said, number_of, by_tables}
use Rattle.pats.specs.Store.{Record, pat_most, pats_whole}
use Rattle.gate_pats.specs.Store.{Kept, sections_in}
use Rattle.streams.specs.declared.Streams.{Streams as Counted}
use Rattle.streams.specs.Store.{buffer_of, words_at, with_words, is_named, buffer_at, held_buffer, is_fresh, used_buffer, pids_read, buffers_read, places_read, count_read, sections_read}
use Rattle.streams.proofs.After.{words_of, four_length, put_there, put_apart}
use Rattle.ties_streams.specs.View.{held_by, is_held, holds_it, below, lowest_of, pids_after, buffers_after, sections_from, Lent, Apart}
use Rattle.ties_streams.proofs.Held.{pid, no_buffer, own_buffer, other_buffer}
use Rattle.ties_streams.proofs.Packets.{takes, takes_none, finishes, holds_then, apart_then, told, forgets, apart_emptied, at_most_61, fits}
use Rattle.demux_state.specs.State.{plain, finished, finished_of, near_end, Spares, packet_counted, malformed_counted}
use Rattle.demux_state.proofs.Laws.{spares}
use Rattle.demux_places.specs.declared.Place.{Place}
use Rattle.demux_places.specs.Places.{place_at, bytes_at, outcome_of}
use Rattle.demux_packets.specs.declared.Plan.{Plan}
use Rattle.demux_packets.specs.declared.Plan.TheVariants as plan
use Rattle.demux_packets.specs.Plans.{reading, no_words, buffer_plan, load_plan, packet_plan, plan_of}
use Rattle.std.specs.Prelude.{Err, Ok}
use Rattle.demux_judge.specs.Verdicts.{pat_count, verdict_of, Wholes}
use Rattle.demux_judge.proofs.Laws.{whole_again}
use Rattle.answers.specs.declared.Refusal.TheVariants.{NotWhole, CounterFull, BadInput}
use Rattle.demux_steady.specs.Steady.{words_in, tells, acts, Steady}
use Rattle.demux_steady.proofs.Steady.{fewer}
use Rattle.demux_steady.proofs.Sections.{Rises, same_rises}
use Rattle.demux_turns.specs.Turns.{OffersOf, offers_with, turns_by}
use Rattle.demux_store.specs.Carried.{left, with_streams, forgotten, planned_by}
use Rattle.demux_store.specs.Carried as carried
use Rattle.demux_store.specs.Store.{Store, Left, store_of, judged_in, fed}
use Rattle.ties_demux.specs.Rules.{on_card, Held, Fed, free_in, numbered, counts_with, answers_in, payload_fed, only_counted, packet_fed, refused, fed_by}
use Rattle.ties_demux.specs.Card.{Gates, Input, Card, kept_on, gates_with, watched_on, tells_on, acts_on, gate_near, pats_near, lent_on, input_of, back_from, call_on, sections_told, outcomes_told, Told, told_by, shown_of, shown_by, Stands, AllStand}
use Rattle.ties_demux.proofs.Numbers.{its_input, its_pid, with_input, put_input}
use Rattle.ties_demux.proofs.Turns.{offers_of, answers_to, turns_offer, offers_stay, offers_long, outcomes_told_lem, names_told}
use Rattle.ties_demux.proofs.Offers.{Between, AllOf, between_all, watched_shown, answers_shown, held_at, offers_shown}
use Rattle.ties_demux.proofs.Counts.{no_sums, offers_sum}
use Rattle.ties_demux.proofs.Back.{streams_back, own_streams, counts_back, own_gates, counted_back, same_back, stand_back}

-- ---- the lowest free buffer looks at 8,192 PIDs

held_alike : (f f' : Streams) (n b : ℕ) → ((q : ℕ) → q < n → f q ≡ f' q) → is_held f n b ≡ is_held f' n b
unfolding is_held
held_alike f f' zero b e = refl
held_alike f f' (suc n) b e = λ a. holds_it (e n (omega arith) a) b || held_alike f f' n b (λ q h. e q (omega arith)) a

lowest_alike : (count : ℕ) (f f' : Streams) → ((q : ℕ) → q < 8192 → f q ≡ f' q) → lowest_of count f ≡ lowest_of count f'
unfolding lowest_of
lowest_alike count f f' e = ap (below count) (first_same (λ (b : ℕ). not (is_held f 8192 b)) (λ (b : ℕ). not (is_held f' 8192 b)) count 0 (λ b x y. ap not (held_alike f f' 8192 b e)))

all_of : (ss : List Bytes) → ((j : ℕ) → j < length ss → get_or (get_or ss j []) 7 0 < 256) → AllOf ss
all_of [] f = tt
all_of (s ∷ ss) f = (f 0 (omega arith), all_of ss (λ j h. f (suc j) (omega arith)))

-- ---- reading a payload leaves as many places

told_length : (places : List ℕ) (m at : ℕ) (ss : List Bytes) → length (told_from places m at ss) ≡ length places
unfolding told_from
told_length places m at [] = refl
told_length places m at (s ∷ ss) = told_length (placed places m 0 at (length s)) (m + 1) (at + length s) ss ∙ placed_length places m 0 at (length s)

places_after_lem : (fresh : Bool) (w : Words) (buffer : Bytes) (number : ℕ) (l : Load) (packet : Bytes) (places : List ℕ) → length (places_after fresh w buffer number l packet places) ≡ length places
unfolding places_after
places_after_lem fresh w buffer number l packet places = go (is_repeat fresh w.counter l.counter)
  where
    r : Reading
    r = read_by fresh w buffer l packet

    go : (a : Bool) → length (cond a places (places_of places number r)) ≡ length places
    go true = refl
    go false = told_length (ended_told places number (length r.ended)) (ended_count (length r.ended)) r.at r.begun ∙ ended_length places number (length r.ended)

-- ---- what a call tells and leaves

abbrev told_of_lem : Fed Gates → Told
told_of_lem f = record { answer = f.answer; sections = f.sections; outcomes = map outcome_of f.answers }

module _ (c : Card) (i : ℕ) (packet : List ℕ) (st : AllStand c) (bytes : AllBytes packet) where
  abbrev s : Store
  s = lent_on i c

  abbrev h : Held Gates
  h = shown_by c

  abbrev g : Gates
  g = c.gates

  abbrev k : Kept
  k = kept_on i g

  abbrev own : Input
  own = c.inputs i

  abbrev count : ℕ
  count = own.streams.count

  pub record SameCall (l : Left) (f : Fed Gates) : Type 0 where
    pub says : told_by l packet ≡ told_of_lem f
    pub shows : shown_by (back_from i l.store c) ≡ f.then
    pub stand : AllStand (back_from i l.store c)
    -- no counter of the gate falls, and its manner of following stays
    pub rises : Rises g.counters l.store.gate.counters
    pub follow : l.store.gate.gate.follow ≡ g.gate.follow
    -- each answer to a section counts once
    pub sums : Sums (map number_of f.answers) g.counters l.store.gate.counters

  stand_here : Stands g i own c.places
  stand_here = st i

  gate_whole : Wholes g.gate own.streams (length g.keys) (length g.changes) (g.watches i) (length own.pids) (length own.buffers) (length c.places)
  gate_whole = stand_here.whole

  own_gate : gates_with i k g ≡ g
  own_gate = own_gates c i

  -- ---- refused, or only counted

  refuses : (number : ℕ) → SameCall (left (plain number) s) (refused watched_on tells_on acts_on gate_near pats_near h number)
  unfolding sections_told outcomes_told
  refuses number = record { says = refl; shows = ap shown_by (same_back c i); stand = subst AllStand (sym (same_back c i)) st; rises = same_rises g.counters; follow = refl; sums = no_sums g.counters }

  counted_stand : (t : Counted) → t.count ≡ count → AllStand (back_from i (with_streams s t) c)
  counted_stand t e = stand_back c i (with_streams s t) st gate_whole.gate refl refl (record {
    whole = subst (λ (r : Gates). Wholes r.gate t (length r.keys) (length r.changes) (r.watches i) (length own.pids) (length own.buffers) (length c.places)) (sym own_gate)
        (record { gate = gate_whole.gate; pats = gate_whole.pats; lent = rw e gate_whole.lent; listed = gate_whole.listed });
    apart = rw e stand_here.apart;
    bytes = stand_here.bytes;
    watched = λ p x v. ap (λ (r : Gates). has_bit (r.watches i).words p) own_gate ∙ stand_here.watched p x (rw e at v);
  })

  only_counts : (number : ℕ) (t : Counted) → t.count ≡ count → SameCall (left (plain number) (with_streams s t)) (only_counted watched_on tells_on acts_on gate_near pats_near h i (plain number) t)
  unfolding sections_told outcomes_told
  only_counts number t e = record { says = refl; shows = counted_back c i t e; stand = counted_stand t e; rises = same_rises g.counters; follow = refl; sums = no_sums g.counters }

  takes_nothing : (t : Counted) → t.count ≡ count → SameCall (left (finished 0) (with_streams s t)) (only_counted watched_on tells_on acts_on gate_near pats_near h i (finished 0) t)
  unfolding sections_told outcomes_told
  takes_nothing t e = record { says = refl; shows = counted_back c i t e; stand = counted_stand t e; rises = same_rises g.counters; follow = refl; sums = no_sums g.counters }

  -- ---- a payload

  module _ (l : Load) (q : IsLoad l packet) where
    abbrev p : ℕ
    p = l.pid.0

    abbrev n : ℕ
    n = on_card i p

    abbrev f : Streams
    f = h.held.streams

    abbrev mine : Streams
    mine = shown_of own

    abbrev free : Streams → ℕ → Option ℕ
    free = free_in h.counts

    mine_at : (r : ℕ) → r < 8192 → f (on_card i r) ≡ mine r
    mine_at r x = λ a. shown_of (c.inputs (its_input i r x a)) (its_pid i r x a)

    watch_at : watched_on g n ≡ has_bit (words_in k) p
    watch_at = λ a. has_bit (g.watches (its_input i p q.pid a)).words (its_pid i p q.pid a)

    free_at : free f n ≡ lowest_of count mine
    free_at = (λ a. lowest_of (h.counts (its_input i p q.pid a)).count (λ r. f (its_input i p q.pid a * 8192 + r))) ∙ lowest_alike count (λ r. f (on_card i r)) mine mine_at

    taking_at : taking (f n) (free f n) ≡ taking (mine p) (lowest_of count mine)
    taking_at = λ a. taking (mine_at p q.pid a) (free_at a)

    lent : Lent count own.pids own.buffers
    lent = record { few = gate_whole.lent.few; words = gate_whole.lent.words; bytes = gate_whole.lent.bytes }

    -- the rules' answer, by what the watch says and by what stream the payload goes to
    abbrev fed_to : Option Stream → Fed Gates
    fed_to o =
        let x : FedOf Gates = feeds_to watched_on acts_on free h.held n (payload_of l packet) o in
        record {
          answer = numbered o x.sections;
          sections = x.sections;
          answers = answers_in watched_on tells_on acts_on gate_near pats_near n x.sections g;
          then = record { held = x.held; counts = counts_with i (packet_counted (h.counts i)) h.counts };
        }

    abbrev fed_when : Bool → Fed Gates
    fed_when b =
        let x : FedOf Gates =
        cond b (feeds_to watched_on acts_on free h.held n (payload_of l packet) (taking (f n) (free f n))) (record { sections = []; held = held (with_stream n none f) g }) in
        record {
          answer = cond b (numbered (taking (f n) (free f n)) x.sections) (finished 0);
          sections = x.sections;
          answers = answers_in watched_on tells_on acts_on gate_near pats_near n x.sections g;
          then = record { held = x.held; counts = counts_with i (packet_counted (h.counts i)) h.counts };
        }

    by_watch : (b : Bool) → watched_on g n ≡ b → payload_fed watched_on tells_on acts_on gate_near pats_near h i l packet ≡ fed_when b
    unfolding feeds
    by_watch b e = ap fed_when e

    -- ---- its PID is not watched

    abbrev emptied : List ℕ
    emptied = with_words own.pids l.pid no_words

    empty_held : (r : ℕ) → held_buffer count emptied r < count → held_buffer count own.pids r < count
    empty_held r v =
        by_cases (ℕ_discrete r p)
        (λ (e : r ≡ p). absurd
        (let z : held_buffer count emptied r ≡ count =
        ap (held_buffer count emptied) e ∙ ap (λ (w : Words). buffer_of w.number count) (put_there own.pids l.pid no_words (omega (arith, lent.words, q.pid))) ∙ no_buffer count in
        omega arith))
        (λ (e : ¬ (r ≡ p)).
        let z : held_buffer count emptied r ≡ held_buffer count own.pids r = ap (λ (w : Words). buffer_of w.number count) (put_apart own.pids l.pid (pid r) no_words e) in
        omega arith)

    not_watched : SameCall (left (finished 0) (forgotten s emptied)) (fed_when false)
    unfolding sections_told outcomes_told answers_in
    not_watched = record {
      says = refl;
      shows = λ a. record { held = record { streams = shown a; world = own_gate a }; counts = counts_back c i (forgotten s emptied) a };
      stand = stand_back c i (forgotten s emptied) st gate_whole.gate refl refl (record {
        whole = subst
            (λ (r : Gates). Wholes r.gate (packet_counted own.streams) (length r.keys) (length r.changes) (r.watches i) (length emptied) (length own.buffers) (length c.places))
            (sym own_gate)
            (record {
              gate = gate_whole.gate;
              pats = gate_whole.pats;
              lent = rw (four_length own.pids (p * 4) 0 0 0 0) (record { some = gate_whole.lent.some; few = gate_whole.lent.few; words = gate_whole.lent.words; bytes = gate_whole.lent.bytes });
              listed = gate_whole.listed;
            });
        apart = apart_emptied count own.pids own.buffers lent.words l.pid q.pid stand_here.apart;
        bytes = stand_here.bytes;
        watched = λ r x v. ap (λ (y : Gates). has_bit (y.watches i).words r) own_gate ∙ stand_here.watched r x (empty_held r v);
      });
      rises = same_rises g.counters;
      follow = refl;
      sums = no_sums g.counters;
    }
      where
        shown : (shown_by (back_from i (forgotten s emptied) c)).held.streams ≡ with_stream n none f
        shown =
            streams_back c i (forgotten s emptied) ∙ ap (λ (y : Streams). with_input i y f) (forgets count own.pids own.buffers lent.words l.pid q.pid)
            ∙ put_input i p q.pid none mine f ∙ ap (with_stream n none) (own_streams c i)

    -- ---- no buffer is free

    no_buffer_free : count ≤ used_buffer count own.pids p → SameCall (left (plain 43) (with_streams s (packet_counted own.streams))) (fed_to (taking (f n) (free f n)))
    unfolding feeds_to answers_in
    no_buffer_free u =
        subst (λ (o : Option Stream). SameCall (left (plain 43) (with_streams s (packet_counted own.streams))) (fed_to o)) (sym (taking_at ∙ takes_none count own.pids own.buffers lent l packet q u))
        (only_counts 43 (packet_counted own.streams) refl)

    -- ---- the payload is read

    module _ (u : used_buffer count own.pids p < count) (w : has_bit (words_in k) p ≡ true) (sp : Spares g.counters own.streams (pat_count g.gate.follow (words_in k))) where
      abbrev b : ℕ
      b = used_buffer count own.pids p

      abbrev fresh : Bool
      fresh = is_fresh count own.pids p

      abbrev words : Words
      words = words_at own.pids l.pid

      abbrev buffer : List ℕ
      buffer = buffer_at own.buffers b

      abbrev pids₁ : List ℕ
      pids₁ = pids_read b fresh own.pids own.buffers l packet

      abbrev buffers₁ : List ℕ
      buffers₁ = buffers_read b fresh own.pids own.buffers l packet

      abbrev places₁ : List ℕ
      places₁ = places_read b fresh own.pids own.buffers l packet c.places

      abbrev ss : List Bytes
      ss = sections_read b fresh own.pids own.buffers l packet

      fit : Fits buffer b l packet c.places
      fit = fits count own.pids own.buffers lent l packet q u c.places gate_whole.listed

      counted : count_read b fresh own.pids own.buffers l packet ≡ length ss
      counted = same_count fresh words buffer b l packet c.places fit

      few : length ss ≤ 61
      few = few_sections fresh words buffer b l packet c.places fit

      buffer_there : length (buffer_after fresh words buffer l packet) ≡ 4288
      buffer_there = buffer_length fresh words buffer b l packet c.places fit ∙ fit.room

      -- ---- lengths and bytes

      pids_long : length pids₁ ≡ length own.pids
      pids_long = let x = (stepped_of fresh words buffer b l packet).words in four_length own.pids (p * 4) x.number x.counter x.first x.size

      buffers_long : length buffers₁ ≡ length own.buffers
      buffers_long = length-paste own.buffers (b * 4288) (buffer_after fresh words buffer l packet) 4288 (omega (arith, lent.bytes)) (omega (arith, buffer_there))

      buffers_bytes : AllBytes buffers₁
      buffers_bytes =
          let x : List ℕ = buffer_after fresh words buffer l packet in
          let y : AllBytes x = buffer_bytes fresh words buffer b l packet c.places fit (all_take 4288 (drop (b * 4288) own.buffers) (all_drop (b * 4288) own.buffers stand_here.bytes)) bytes in
          all_append (take (b * 4288) own.buffers ++ take 4288 x) (drop (b * 4288 + 4288) own.buffers)
          (all_append (take (b * 4288) own.buffers) (take 4288 x) (all_take (b * 4288) own.buffers stand_here.bytes) (all_take 4288 x y)) (all_drop (b * 4288 + 4288) own.buffers stand_here.bytes)

      -- ---- the places name the sections

      names : (j : ℕ) → j < length ss → bytes_at packet buffers₁ (place_at places₁ (0 + j)) ≡ get_or ss j []
      names j x =
          let z : 0 + j ≡ j = omega arith in
          ap (λ (m : ℕ). bytes_at packet buffers₁ (place_at places₁ m)) z ∙ told count own.pids own.buffers lent l packet q u c.places gate_whole.listed j x

      all_bytes : AllOf ss
      all_bytes = all_of ss (λ j x. subst (λ (y : Bytes). get_or y 7 0 < 256) (names j x) (named (place_at places₁ (0 + j)) 7))
        where
          one : (t : Bool) → AllBytes (cond t packet buffers₁)
          one true = bytes
          one false = buffers_bytes

          named : (y : Place) → AllBytes (bytes_at packet buffers₁ y)
          named y = all_take y.size (drop y.first (cond (eqb y.whence 0) packet buffers₁)) (all_drop y.first (cond (eqb y.whence 0) packet buffers₁) (one (eqb y.whence 0)))

      -- ---- what holds before the first section

      steady : Steady 64 k
      steady = record {
        whole = gate_whole.gate;
        spare = sp.gate;
        pats = gate_whole.pats;
        evictions = λ t. subst (λ (x : Bool). cond x (pat_most (words_in k)) 0 + 64 < 2 ^ 64) t sp.sets;
      }

      held_before : (r : ℕ) → r < 8192 → held_buffer count pids₁ r < count → has_bit (words_in k) r ≡ true
      held_before r x v =
          by_cases (ℕ_discrete r p) (λ (e : r ≡ p). ap (has_bit (words_in k)) e ∙ w)
          (λ (e : ¬ (r ≡ p)).
          let z : held_buffer count pids₁ r ≡ held_buffer count own.pids r =
          ap (λ (y : Words). buffer_of y.number count) (put_apart own.pids l.pid (pid r) (stepped_of fresh words buffer b l packet).words e) in
          stand_here.watched r x (omega arith))

      before : (m : ℕ) → m ≤ 64 → Between g.gate.follow g.counters m count k pids₁
      before m x = record {
        follow = refl;
        rises = same_rises g.counters;
        steady = fewer 64 m x k steady;
        long = omega (arith, pids_long, lent.words);
        apart = apart_then count own.pids own.buffers lent l packet q u stand_here.apart;
        watched = held_before;
      }

      -- ---- the sections are offered

      abbrev start : OffersOf Kept
      start = offers_with k pids₁ places₁

      abbrev then : OffersOf Kept
      then = offers_of words_in tells acts i p 0 ss start

      abbrev store : Store
      store = store_of then.gate (packet_counted own.streams) then.pids buffers₁ then.places

      turned : carried.read_by words_in tells acts s i packet (reading l b fresh) ≡ left (finished (length ss)) store
      unfolding carried.read_by
      turned =
          let m : ℕ = count_read b fresh own.pids own.buffers l packet in
          let x : turns_by words_in tells acts packet buffers₁ i p m 0 start ≡ then =
          ap (λ (y : ℕ). turns_by words_in tells acts packet buffers₁ i p y 0 start) counted ∙ turns_offer words_in tells acts packet buffers₁ i p 0 ss start names in
          λ a. left (finished (counted a)) (store_of (x a).gate (packet_counted own.streams) (x a).pids buffers₁ (x a).places)

      places_long : length places₁ ≡ length c.places
      places_long = places_after_lem fresh words buffer b l packet c.places

      -- ---- what is told

      answers_are : answers_to words_in tells acts i p ss k ≡ answers_in watched_on tells_on acts_on gate_near pats_near n ss g
      answers_are = sym (answers_shown g i p q.pid ss k) ∙ ap (answers_in watched_on tells_on acts_on gate_near pats_near n ss) own_gate

      sections_are : sections_told packet buffers₁ then.places (length ss) 0 ≡ ss
      sections_are = names_told packet buffers₁ then.places 0 ss (λ j x. ap (bytes_at packet buffers₁) (offers_stay words_in tells acts i p 0 ss start (0 + j)) ∙ names j x)

      outcomes_are : outcomes_told then.places (length ss) 0 ≡ map outcome_of (answers_in watched_on tells_on acts_on gate_near pats_near n ss g)
      outcomes_are = outcomes_told_lem words_in tells acts i p 0 ss start (omega (arith, few, places_long, gate_whole.listed)) ∙ ap (map outcome_of) answers_are

      -- ---- what is held

      abbrev next : Option Stream
      next = some (stream b (step (state_in fresh words buffer) (payload_of l packet)).state)

      abbrev read_to : HeldOf Gates
      read_to = held (with_stream n next f) g

      first_held : held_at g i p q.pid g.gate.follow g.counters count buffers₁ f free k pids₁ ≡ read_to
      first_held =
          let x : with_input i (held_by count pids₁ buffers₁) f ≡ with_stream n next f =
          ap (λ (y : Streams). with_input i y f) (holds_then count own.pids own.buffers lent l packet q u stand_here.apart stand_here.bytes bytes) ∙ put_input i p q.pid next mine f
          ∙ ap (with_stream n next) (own_streams c i) in
          λ a. held (x a) (own_gate a)

      then_held : offers_in watched_on acts_on free n ss read_to ≡ held_at g i p q.pid g.gate.follow g.counters count buffers₁ f free then.gate then.pids
      then_held =
          ap (offers_in watched_on acts_on free n ss) (sym first_held)
          ∙ offers_shown g i p q.pid g.gate.follow g.counters count buffers₁ f free 0 ss start all_bytes (before (length ss) (omega (arith, few)))

      -- ---- what holds on

      after : Between g.gate.follow g.counters 0 count then.gate then.pids
      after = between_all g.gate.follow g.counters i p 0 count 0 ss start all_bytes (before (length ss + 0) (omega (arith, few)))

      then_long : length then.places ≡ length c.places
      then_long = offers_long words_in tells acts i p 0 ss start ∙ places_long

      own_watch : cond (eqb i i) then.gate.watch (g.watches i) ≡ then.gate.watch
      own_watch = rw (eq-eqb i i refl) refl

      stands_then : Stands (gates_with i then.gate g) i (input_of store) then.places
      stands_then = record {
        whole = subst
            (λ (r : Record). Wholes then.gate.gate (packet_counted own.streams) (length then.gate.keys) (length then.gate.changes) r (length then.pids) (length buffers₁) (length then.places))
            (sym own_watch)
            (record {
              gate = after.steady.whole;
              pats = after.steady.pats;
              lent = record { some = gate_whole.lent.some; few = gate_whole.lent.few; words = after.long; bytes = omega (arith, buffers_long, lent.bytes) };
              listed = omega (arith, then_long, gate_whole.listed);
            });
        apart = after.apart;
        bytes = buffers_bytes;
        watched = λ r x v. ap (λ (y : Record). has_bit y.words r) own_watch ∙ after.watched r x v;
      }

      -- ---- all of it

      abbrev fed_with : List Bytes → Fed Gates
      fed_with y = record {
        answer = finished (length y);
        sections = y;
        answers = answers_in watched_on tells_on acts_on gate_near pats_near n y g;
        then = record { held = offers_in watched_on acts_on free n y read_to; counts = counts_with i (packet_counted own.streams) h.counts };
      }

      is_read : SameCall (left (finished (length ss)) store) (fed_with ss)
      is_read = record {
        says = λ a. record { answer = finished (length ss); sections = sections_are a; outcomes = outcomes_are a };
        shows = (λ a. record { held = record { streams = streams_back c i store a; world = gates_with i then.gate g }; counts = counts_back c i store a })
            ∙ (λ a. record { held = sym then_held a; counts = counts_with i (packet_counted own.streams) h.counts });
        stand = stand_back c i store st after.steady.whole after.follow then_long stands_then;
        rises = after.rises;
        follow = after.follow;
        sums = subst (λ (a : List Said). Sums (map number_of a) g.counters then.gate.counters) answers_are (offers_sum i p 0 ss start);
      }

      read_same : SameCall (carried.read_by words_in tells acts s i packet (reading l b fresh)) (fed_to (taking (f n) (free f n)))
      unfolding feeds_to
      read_same =
          subst (λ (o : Option Stream). SameCall (carried.read_by words_in tells acts s i packet (reading l b fresh)) (fed_to o)) (sym (taking_at ∙ takes count own.pids own.buffers lent l packet q u))
          (subst (λ (x : Left). SameCall x (fed_with (step (state_in fresh words buffer) (payload_of l packet)).sections)) (sym turned)
          (subst (λ (y : List Bytes). SameCall (left (finished (length ss)) store) (fed_with y)) (finishes count own.pids own.buffers lent l packet q u) is_read))

  -- ---- every packet

  abbrev rules : Fed Gates
  rules = fed_by watched_on tells_on acts_on gate_near pats_near h i packet

  abbrev by_packet : Packet → Fed Gates
  by_packet x = packet_fed watched_on tells_on acts_on gate_near pats_near h i packet x

  abbrev by_plan : Plan → Left
  by_plan x = planned_by words_in tells acts s i packet x

  module _ (sp : Spares g.counters own.streams (pat_count g.gate.follow (words_in k))) where
    by_buffer : (l : Load) (q : IsLoad l packet) → has_bit (words_in k) l.pid.0 ≡ true → SameCall (by_plan (buffer_plan count own.pids l)) (fed_when l q true)
    unfolding buffer_plan planned_by
    by_buffer l q w = go (ltb b count) refl
      where
        b : ℕ
        b = used_buffer count own.pids l.pid.0

        go : (x : Bool) → ltb b count ≡ x → SameCall (by_plan (cond x (plan.Read (reading l b (is_fresh count own.pids l.pid.0))) plan.NoBuffer)) (fed_when l q true)
        go true e = read_same l q (ltb-true _ _ e) w sp
        go false e = no_buffer_free l q (ltb-false _ _ e)

    by_load : (l : Load) → IsLoad l packet → SameCall (by_plan (load_plan (words_in k) count own.pids l)) (by_packet (read.Payload l))
    unfolding load_plan planned_by packet_fed
    by_load l q = subst (SameCall (by_plan (load_plan (words_in k) count own.pids l))) (sym (by_watch l q (has_bit (words_in k) l.pid.0) (watch_at l q))) (go (has_bit (words_in k) l.pid.0) refl)
      where
        go : (x : Bool) → has_bit (words_in k) l.pid.0 ≡ x → SameCall (by_plan (cond x (buffer_plan count own.pids l) (plan.Unwatched l.pid))) (fed_when l q x)
        go true e = by_buffer l q e
        go false e = not_watched l q

    by_packet_lem : SameCall (by_plan (plan_of (words_in k) count own.pids packet)) (by_packet (packet_of packet))
    unfolding plan_of packet_plan planned_by packet_fed
    by_packet_lem = go (packet_of packet) refl
      where
        go : (x : Packet) → packet_of packet ≡ x → SameCall (by_plan (packet_plan (words_in k) count own.pids x)) (by_packet x)
        go read.Malformed e = only_counts 30 (malformed_counted own.streams) refl
        go read.Nothing e = takes_nothing (packet_counted own.streams) refl
        go (read.Payload l) e = by_load l (as_read packet l bytes e)

  pub feed_same : SameCall (call_on c i packet) rules
  unfolding fed judged_in verdict_of fed_by
  feed_same =
      subst
      (λ (x : Bool). SameCall (judged_in s i packet
      (cond x (cond near (Err CounterFull) (cond (ltb i 16) (Ok (plan_of (words_in k) count own.pids packet)) (Err BadInput))) (Err NotWhole))) rules)
      (sym (whole_again g.gate own.streams (length g.keys) (length g.changes) (g.watches i) (length own.pids) (length own.buffers) (length c.places) gate_whole))
      (go near (ltb i 16) refl)
    where
      near : Bool
      near = near_end g.counters own.streams (pat_count g.gate.follow (words_in k))

      go : (a d : Bool) → near ≡ a
          → SameCall (judged_in s i packet (cond a (Err CounterFull) (cond d (Ok (plan_of (words_in k) count own.pids packet)) (Err BadInput))))
          (cond a (refused watched_on tells_on acts_on gate_near pats_near h 11) (cond d (by_packet (packet_of packet)) (refused watched_on tells_on acts_on gate_near pats_near h 37)))
      go true d e = refuses 11
      go false true e = by_packet_lem (spares g.counters own.streams (pat_count g.gate.follow (words_in k)) e)
      go false false e = refuses 37
