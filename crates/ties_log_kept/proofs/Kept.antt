-- What a monitor appends, section by section, is the log of the rules: of any gate that answers as the gate's rule does, whatever it watches and follows.
-- Assumes nothing.
use mathlib.Core.Path.{◌≡◌, refl, sym, ap, subst, ◌∙◌}
use mathlib.Core.Bool.{Bool, true, false, cond, ◌||◌, ◌&&◌}
use mathlib.Core.List.{List, [], ◌∷◌, ◌++◌, map, append-nil, append_assoc}
use Prim.Native.Nat.{ℕ, suc, ◌<◌}
use native.Mathlib.Omega.{arith}
use borrow.Author.Tests.{lt-ltb, le-leb}
use lib.Dec.{ltb, leb}
use lib.ListN.{length}
use Rattle.laws.specs.Runs.{answers}
use Rattle.laws.proofs.Tests.{true_and}
use Rattle.answers.specs.declared.Refusal.{Refusal}
use Rattle.answers.specs.declared.Refusal.TheVariants as refusal
use Rattle.section.specs.Facts.{Bytes as OfBytes}
use Rattle.section.specs.Ids.{origin_of}
use Rattle.section.specs.Judged.{rule_of, judged_of}
use Rattle.std.specs.Prelude.{Option, Some, None}
use Rattle.section.specs.declared.header.Parts.{Parts}
use Rattle.section.specs.declared.header.Judged.{Judged}
use Rattle.section.specs.declared.header.Judged.TheVariants.{Short, Mismatch, Sound}
use Rattle.ring.specs.Rules.{Row, changed}
use Rattle.counters.specs.Counters.{any_full}
use Rattle.offers.specs.Offers.{is_short, read_as, read_of}
use Rattle.offers.specs.declared.Failure.{Failure}
use Rattle.offers.specs.declared.Failure.TheVariants as failure
use Rattle.offers.specs.declared.Verdict.TheVariants as verdict
use Rattle.gate_state.specs.State.{Said, said_of, answer_of}
use Rattle.gate_state.specs.declared.Answer.{Answer}
use Rattle.gate_state.specs.declared.Answer.TheVariants as answer
use Rattle.gate.specs.Rules.{Offer, Held, Told, admitted, carried_in, told}
use Rattle.rules_sets.specs.Cells.{call_tells, call_acts}
use Rattle.store.specs.Store.{Store}
use Rattle.sets_settle.specs.Settle.{done, nothing, handed, refused, Handed}
use Rattle.sets_settle.specs.Settle as settle
use Rattle.sets.specs.History.{offer as section}
use Rattle.ties_sets.specs.View.{seen, reads, answer_told, tells, acts}
use Rattle.ties_sets.specs.View.{Reached as SetsReached}
use Rattle.ties_sets.proofs.History.{tells_seen, acts_seen, acts_reached}
use Rattle.rows.specs.declared.Origin.{Origin}
use Rattle.ties_given.specs.Given.{AsRead, AsGiven}
use Rattle.ties_given.proofs.Given.{goes_out_as_given}
use Rattle.rules_logs.specs.Records.{Bytes, seen_record, failed_record}
use Rattle.rules_logs.specs.Sections.{Given}
use Rattle.rules_logs.specs.Verdict as records
use Rattle.rules_log_run.specs.Run.{Settings, Kept, Entry, pushed, set_records, row_of, sound, judged, entry_of, records_from}
use Rattle.rules_log_run.specs.Gate.{offer_of, manner_of}
use Rattle.rules_log_run.specs.Lists.{Takable, AllTakable}
use Rattle.rules_log_run.proofs.Gate.{agrees}
use Rattle.log_entries.specs.Entries.{failed_kind}
use Rattle.log_entries.proofs.Entries.{entry_shows}
use Rattle.log_makers.specs.Makers.{is_source, set_record_of, set_entry}
use Rattle.ties_log_kept.specs.Kept.{set_noted, offer_noted, pushes, appended, collects, kept_log}
use Rattle.ties_log_kept.proofs.Sets.{line_given, given_as}
use Rattle.ties_log_kept.proofs.Offers.{sound_said, short_said, mismatch_said, refused_said, refused_noted, failed_noted, sound_noted}

-- ---- a push

number_in : Option ℕ → ℕ
number_in None = 0
number_in (Some v) = v

module _ (g : Given) where
  same_number : {w : Handed} → (a : AsGiven g.input (Some g.pid) g.section w) → g.pid ≡ a.number
  unfolding number_in
  same_number a = ap (λ (p : Option ℕ). number_in p) a.with_pid

  -- the maker's record of a set that went out
  set_shows : (w : Handed) → AsGiven g.input (Some g.pid) g.section w → set_noted g (handed w) ≡ set_record_of g.input (Some g.pid) g.section
  unfolding set_noted set_entry
  set_shows w a =
      let n : g.pid ≡ a.number = same_number a in
      let p : g.pid < 8192 = let h = a.is_pid in omega (arith, n, h) in
      let t : (is_source g.input (Some g.pid) && leb 12 (length g.section)) ≡ true =
      true_and (true_and (lt-ltb g.input 16 a.is_input) (lt-ltb g.pid 8192 p)) (le-leb 12 (length g.section) a.read.long) in
      entry_shows (cond (is_source g.input (Some g.pid) && leb 12 (length g.section)) (set_record_of g.input (Some g.pid) g.section) [])
      ∙ ap (λ (b : Bool). cond b (set_record_of g.input (Some g.pid) g.section) []) t

  module _ (o : Settings) (h : o.pids ≡ true) (c : Store) (z : SetsReached c) (b : OfBytes g.section) where
    told_noted : (t : settle.Told) → (pushes c g).told ≡ t → set_noted g t ≡ records.log_of (set_records o.pids (answer_told t))
    unfolding set_noted set_records answer_told records.log_of pushes
    told_noted done e = refl
    told_noted nothing e = refl
    told_noted (handed w) e =
        let a = goes_out_as_given c g.input (Some g.pid) g.section w e in
        let n : ◌≡◌ {A = Origin} (record { input = g.input; pid = a.number }) (record { input = g.input; pid = g.pid }) = λ i. record { input = g.input; pid = sym (same_number a) i } in
        let r = subst (λ (x : Origin). AsRead x g.section w) n a.read in
        set_shows w a ∙ sym (append-nil (set_record_of g.input (Some g.pid) g.section))
        ∙ ap records.log_of (line_given g.section w (record { input = g.input; pid = g.pid }) r) ∙ ap (λ (p : Bool). records.log_of (set_records p (answer_told (handed w)))) (sym h)
    told_noted (refused r) e = refl

    module _ (hp : ltb g.pid 8192 ≡ true) (hi : ltb g.input 16 ≡ true) where
      set_noted_lem : set_noted g (pushes c g).told ≡ records.log_of (set_records o.pids (call_tells (seen c) (pushed o g)))
      unfolding tells reads pushes
      set_noted_lem =
          told_noted (pushes c g).told refl
          ∙ ap (λ x. records.log_of (set_records o.pids x)) (tells_seen c z (section g.input (Some g.pid) g.section) b ∙ ap (call_tells (seen c)) (given_as o h g hp hi))

      push_shown : seen (pushes c g).store ≡ call_acts (seen c) (pushed o g)
      unfolding acts reads pushes
      push_shown = acts_seen c z (section g.input (Some g.pid) g.section) b ∙ ap (call_acts (seen c)) (given_as o h g hp hi)

      push_reached : SetsReached (pushes c g).store
      unfolding acts pushes
      push_reached = acts_reached c z (section g.input (Some g.pid) g.section) b

-- ---- a section

-- what is appended and what the collector shows then are the rules'
record Follows (o : Settings) (c : Store) (a : Answer) (g : Given) (e : Entry) : Type 0 where
  bytes : appended o c a g ≡ records.log_of e.records
  shown : seen (collects c a g) ≡ e.kept.sets
  reached : SetsReached (collects c a g)

module _ (o : Settings) (with : o.pids ≡ true) (follow : Bool) (h : Held) (c : Store) (z : SetsReached c) (g : Given) (t : Takable g) where
  abbrev kept : Kept
  kept = record { rows = h.rows; sets = seen c }

  refused_follows : (r : Refusal) → Follows o c (answer.Refused r) g (record { records = []; kept = kept })
  unfolding appended collects records.log_of
  refused_follows r = record { bytes = append-nil (offer_noted o (answer.Refused r) g) ∙ refused_noted o g t.short r; shown = refl; reached = z }

  module _ (hp : ltb g.pid 8192 ≡ true) (hi : ltb g.input 16 ≡ true) where
    sound_follows : (p : Parts) → judged_of (rule_of o.rule) g.section ≡ Sound p → Follows o c (answer_of (changed (row_of g p) h.rows || o.repeats)) g (sound o kept g p)
    unfolding sound appended collects records.log_of
    sound_follows p e = go (changed (row_of g p) h.rows || o.repeats)
      where
        bytes_of : (b : Bool) → offer_noted o (answer_of b) g ++ set_noted g (pushes c g).told ≡ seen_record (cond b 1 2) g.input g.pid p ++ records.log_of (set_records o.pids (call_tells (seen c) (pushed o g)))
        bytes_of b =
            let q = sound_noted o g t.short hp hi p e b in
            let s = set_noted_lem g o with c z t.of_bytes hp hi in
            λ i. q i ++ s i

        go : (b : Bool) → Follows o c (answer_of b) g (record {
          records = seen_record (cond b 1 2) g.input g.pid p ∷ set_records o.pids (call_tells (seen c) (pushed o g));
          kept = (sound o kept g p).kept;
        })
        go true = record { bytes = bytes_of true; shown = push_shown g o with c z t.of_bytes hp hi; reached = push_reached g o with c z t.of_bytes hp hi }
        go false = record { bytes = bytes_of false; shown = push_shown g o with c z t.of_bytes hp hi; reached = push_reached g o with c z t.of_bytes hp hi }

    failed_follows : (f : Failure) → Follows o c (answer.Failed f) g (record { records = failed_record (failed_kind (is_short f)) g.input g.pid (length g.section) ∷ []; kept = kept })
    unfolding appended collects records.log_of
    failed_follows f = record { bytes = ap (λ (l : Bytes). l ++ []) (failed_noted o g t.short hp hi f); shown = refl; reached = z }

    judged_follows : (j : Judged) → judged_of (rule_of o.rule) g.section ≡ j → (a : Answer)
        → said_of a ≡ (carried_in (manner_of o follow) h g.section (read_as (origin_of g.input g.pid) (length g.section) j)).answer → Follows o c a g (judged o kept g j)
    unfolding carried_in admitted judged
    judged_follows Short e a q = subst (λ (x : Answer). Follows o c x g (judged o kept g Short)) (sym (short_said a (length g.section) q)) (failed_follows (failure.TooShort (length g.section)))
    judged_follows (Mismatch s w) e a q = subst (λ (x : Answer). Follows o c x g (judged o kept g (Mismatch s w))) (sym (mismatch_said a s w q)) (failed_follows (failure.Mismatch s w))
    judged_follows (Sound p) e a q =
        subst (λ (x : Answer). Follows o c x g (sound o kept g p)) (sym (sound_said a (changed (row_of g p) h.rows || o.repeats) q)) (sound_follows p e)

  read_follows : (p i : Bool) → ltb g.pid 8192 ≡ p → ltb g.input 16 ≡ i → (j : Judged) → judged_of (rule_of o.rule) g.section ≡ j → (a : Answer)
      → said_of a ≡ (carried_in (manner_of o follow) h g.section (cond p (cond i (read_as (origin_of g.input g.pid) (length g.section) j) (verdict.Refused refusal.BadInput)) (verdict.Refused refusal.BadPid))).answer
      → Follows o c a g (cond p (cond i (judged o kept g j) (record { records = []; kept = kept })) (record { records = []; kept = kept }))
  unfolding carried_in
  read_follows true true hp hi j e a q = judged_follows hp hi j e a q
  read_follows true false hp hi j e a q = let r = refused_said a 37 (omega arith) q in subst (λ (x : Answer). Follows o c x g (record { records = []; kept = kept })) (sym r.1) (refused_follows r.0)
  read_follows false i hp hi j e a q = let r = refused_said a 12 (omega arith) q in subst (λ (x : Answer). Follows o c x g (record { records = []; kept = kept })) (sym r.1) (refused_follows r.0)

  section_follows : any_full h.counters ≡ false → (a : Answer) → said_of a ≡ (told (manner_of o follow) h (offer_of g)).answer → Follows o c a g (entry_of o kept g)
  unfolding entry_of told read_of
  section_follows n a q =
      read_follows (ltb g.pid 8192) (ltb g.input 16) refl refl (judged_of (rule_of o.rule) g.section) refl a
      (q ∙ ap (λ (b : Bool). (carried_in (manner_of o follow) h g.section (cond b (verdict.Refused refusal.CounterFull) (read_of o.rule g.input g.pid g.section))).answer) n)

-- ---- sections one after another

pub log_append : (xs ys : List Bytes) → records.log_of (xs ++ ys) ≡ records.log_of xs ++ records.log_of ys
unfolding records.log_of
log_append [] ys = refl
log_append (x ∷ xs) ys = ap (λ (l : Bytes). x ++ l) (log_append xs ys) ∙ sym (append_assoc x (records.log_of xs) (records.log_of ys))

-- what a gate owes the gate's rule at one section: there is a gate of the rule with its rows, none of whose counters is at its end, and it says what that one
-- says, and has the rows then that that one has. What that one watches is left open
pub record Turn (o : Settings) (follow : Bool) (before after : List Row) (said : Said) (g : Given) : Type 0 where
  pub held : Held
  pub same : held.rows ≡ before
  pub counts : any_full held.counters ≡ false
  pub says : said ≡ (told (manner_of o follow) held (offer_of g)).answer
  pub rows : after ≡ (told (manner_of o follow) held (offer_of g)).held.rows

-- G are the gates, `Ok n` is what holds of one to which n sections may still come
module _ (o : Settings) (with : o.pids ≡ true) (follow : Bool) {G : Type 0} (tells_g : G → Offer → Said) (acts_g : G → Offer → G) (rows_in : G → List Row) (Ok : ℕ → G → Type 0)
    (one : (n : ℕ) (x : G) (g : Given) → Takable g → Ok (suc n) x → Turn o follow (rows_in x) (rows_in (acts_g x (offer_of g))) (tells_g x (offer_of g)) g × Ok n (acts_g x (offer_of g))) where
  abbrev log_from : List Row → Store → List Given → Bytes
  log_from rows c gs = records.log_of (records_from o (record { rows = rows; sets = seen c }) gs)

  pub keeps : (gs : List Given) → AllTakable gs → (x : G) → Ok (length gs) x → (c : Store) → SetsReached c → (as' : List Answer) → map said_of as' ≡ answers tells_g acts_g x (map offer_of gs)
      → kept_log o c as' gs ≡ records.log_of (records_from o (record { rows = rows_in x; sets = seen c }) gs)
  unfolding answers kept_log records_from records.log_of
  keeps [] t x k c z [] e = refl
  keeps [] t x k c z (a ∷ as') e = refl
  keeps (g ∷ gs) t x k c z [] e = let w : ◌≡◌ {A = ℕ} 0 1 = cc in absurd (omega arith)
  keeps (g ∷ gs) t x k c z (a ∷ as') e =
      let u = one (length gs) x g t.0 k in
      let h : Held = u.0.held in
      let n = u.0.counts in
      let p : said_of a ≡ tells_g x (offer_of g) = cc in
      let q : map said_of as' ≡ answers tells_g acts_g (acts_g x (offer_of g)) (map offer_of gs) = cc in
      let f = section_follows o with follow h c z g t.0 n a (p ∙ u.0.says) in
      let y : Entry = entry_of o (record { rows = h.rows; sets = seen c }) g in
      let r = u.0.rows ∙ sym (agrees o follow (seen c) h g n).rows in
      let s = f.shown in
      let b = f.bytes in
      let ih =
      keeps gs t.1 (acts_g x (offer_of g)) u.1 (collects c a g) f.reached as' q
      ∙ (λ i. records.log_of (records_from o (record { rows = r i; sets = s i }) gs)) in
      (λ i. b i ++ ih i) ∙ sym (log_append y.records (records_from o y.kept gs)) ∙ ap (λ (rows : List Row). log_from rows c (g ∷ gs)) u.0.same
