-- One law for each way out, and what holds of a section that is not refused.
-- Assumes nothing.
use Prim.Native.Nat.{ℕ, ◌<◌, ◌≤◌}
use mathlib.Core.Path.{◌≡◌, refl, sym, ap, ◌∙◌}
use mathlib.Core.List.{List}
use mathlib.Core.Bool.{Bool, true, false, not, ◌&&◌}
use lib.ListN.{length}
use lib.Dec.{leb}
use native.Mathlib.Omega.{arith}
use borrow.Author.Tests.{lt-ltb, le-ltb}
use Rattle.laws.proofs.Tests.{and_true}
use Rattle.answers.specs.declared.Refusal.TheVariants as refusal
use Rattle.section.specs.Ids.{origin_made}
use Rattle.section.specs.Key.{key_of}
use Rattle.section.specs.Judged.{rule_known, rule_of, judged_of}
use Rattle.section.specs.declared.ids.Origin.{Origin}
use Rattle.answers.specs.declared.Refusal.{Refusal}
use Rattle.section.specs.declared.header.ChangeRule.{ChangeRule}
use Rattle.section.specs.declared.header.Parts.{Parts}
use Rattle.section.specs.declared.header.Judged.{Judged}
use Rattle.section.specs.declared.header.Judged.TheVariants.{Short, Mismatch, Sound}
use Rattle.section.proofs.Facts.{judged_parts, origin_one}
use Rattle.ring.specs.Store.{room_of}
use Rattle.ring.specs.Store.{whole_of as ring_whole}
use Rattle.ring.proofs.Laws.{whole as ring_whole_lem}
use Rattle.store.specs.Store.{Store, asked, settings_fit, counters_full}
use Rattle.store.specs.Store.{whole_of as sets_whole}
use Rattle.store.proofs.Whole.{whole_means, evictions_go_on, clock_goes_on}
use Rattle.offers.specs.Offers.{read_as, read_of}
use Rattle.offers.proofs.Facts as offers
use Rattle.log_state.specs.State.{is_without, can_open, run_of, opened_of, gate_whole, ruled_by, ruling_by, RulingOk, FromOk}
use Rattle.log_state.specs.declared.Settings.{Settings}
use Rattle.log_state.specs.declared.Run.{Run}
use Rattle.log_state.specs.declared.Opened.{Opened}
use Rattle.std.specs.Prelude.{Result, Ok, Err}
use Rattle.log_state.specs.declared.TakeError.{TakeError}
use Rattle.log_state.specs.declared.TakeError.TheVariants as take
use Rattle.log_state.specs.declared.Ruling.{Ruling}
use Rattle.log_state.specs.declared.Ruling.TheVariants as ruling

-- ---- opening

module _ (s : Settings) (keys changes heads slots cells : ℕ) where
  pub can_open_lem : (all : ℕ) (k f w : Bool) → all ≡ room_of s.capacity → k ≡ rule_known s.rule → f ≡ settings_fit (asked s.limit s.size s.count) heads slots cells
      → w ≡ is_without s.pids → (leb all keys && leb all changes && k && f && not w) ≡ can_open s keys changes heads slots cells
  can_open_lem all k f w a b c d = rw (a, b, c, d) refl

  module _ (run : Run) (w : Bool) (e : run ≡ run_of s) (p : w ≡ is_without s.pids) where
    pub opened_without : w ≡ true → ◌≡◌ {A = Opened} (record { answer = Err refusal.NoPid; run = run }) (opened_of s keys changes heads slots cells)
    unfolding opened_of
    opened_without h = rw (← p, h, e)

    module _ (n : w ≡ false) (o : Bool) (d : o ≡ can_open s keys changes heads slots cells) where
      pub opened_done : o ≡ true → ◌≡◌ {A = Opened} (record { answer = Ok tt; run = run }) (opened_of s keys changes heads slots cells)
      unfolding opened_of
      opened_done h = rw (← d, ← p, n, h, e)

      pub opened_little : o ≡ false → ◌≡◌ {A = Opened} (record { answer = Err refusal.TooLittle; run = run }) (opened_of s keys changes heads slots cells)
      unfolding opened_of
      opened_little h = rw (← d, ← p, n, h, e)

-- ---- 31 and 3

module _ (from : Origin) (rule : ℕ) (c : ChangeRule) (section : List ℕ) (v : Judged) (n : c ≡ rule_of rule) (e : v ≡ judged_of c section) where
  pub read_short : v ≡ Short → Ok (ruling.Failed true) ≡ ruled_by rule section (read_as from (length section) (judged_of (rule_of rule) section))
  unfolding ruled_by
  read_short h = rw (← n, ← e, h)

  pub read_mismatch : (a b : ℕ) → v ≡ Mismatch a b → Ok (ruling.Failed false) ≡ ruled_by rule section (read_as from (length section) (judged_of (rule_of rule) section))
  unfolding ruled_by
  read_mismatch a b h = rw (← n, ← e, h)

  pub read_sound : (p : Parts) (k : ℕ) → v ≡ Sound p → k ≡ key_of from p.table_id p.extension p.number
      → Ok (ruling.Arrived (record { key = k; parts = p })) ≡ ruled_by rule section (read_as from (length section) (judged_of (rule_of rule) section))
  unfolding ruled_by
  read_sound p k h j =
      let d : judged_of (rule_of rule) section ≡ Sound p = ap (λ (x : ChangeRule). judged_of x section) (sym n) ∙ sym e ∙ h in
      let q = judged_parts (rule_of rule) section p d in
      (λ i. Ok (ruling.Arrived (record { key = j i; parts = q i }))) ∙ ap (λ (x : Judged). ruled_by rule section (read_as from (length section) x)) (sym d)

-- ---- 12 and 37

module _ (rule input pid : ℕ) (section : List ℕ) (m : Result Origin Refusal) (e : m ≡ origin_made input pid) where
  pub read_refused : (r : Refusal) → m ≡ Err r → Err (take.Refused r) ≡ ruled_by rule section (read_of rule input pid section)
  unfolding ruled_by
  read_refused r h = ap (ruled_by rule section) (offers.read_refused rule input pid section m e r h)

  module _ (from : Origin) (r : Result Ruling TakeError) (h : m ≡ Ok from) where
    pub read_section_lem : r ≡ ruled_by rule section (read_as from (length section) (judged_of (rule_of rule) section)) → r ≡ ruled_by rule section (read_of rule input pid section)
    unfolding read_of
    read_section_lem k = let n = origin_one input pid m e from h in rw (lt-ltb pid 8192 n.1, lt-ltb input 16 n.2, ← n.0) k

pub read_from_ok : (input pid : ℕ) (m : Result Origin Refusal) (from : Origin) (r : Result Ruling TakeError) → m ≡ origin_made input pid → m ≡ Ok from → FromOk input pid r
read_from_ok input pid m from (Err a) e h = tt
read_from_ok input pid m from (Ok (ruling.Failed short)) e h = tt
read_from_ok input pid m from (Ok (ruling.Arrived x)) e h = let n = origin_one input pid m e from h in (n.2, n.1)

-- ---- 42, 10 and 11

module _ (run : Run) (keys changes : ℕ) (sets : Store) (input pid : ℕ) (section : List ℕ) where
  pub ruled_long : 4098 < length section → Err take.TooLong ≡ ruling_by run keys changes sets input pid section
  unfolding ruling_by
  ruled_long h = rw (lt-ltb 4098 (length section) h)

  module _ (n : length section ≤ 4098) (g : Bool) (e : g ≡ gate_whole run keys changes) where
    pub ruled_gate : g ≡ false → Err (take.Refused refusal.NotWhole) ≡ ruling_by run keys changes sets input pid section
    unfolding ruling_by
    ruled_gate h = rw (le-ltb 4098 (length section) n, ← e, h)

    module _ (h : g ≡ true) (w : Bool) (d : w ≡ sets_whole sets) where
      pub ruled_sets : w ≡ false → Err (take.Refused refusal.NotWhole) ≡ ruling_by run keys changes sets input pid section
      unfolding ruling_by
      ruled_sets k = rw (le-ltb 4098 (length section) n, ← e, h, ← d, k)

      pub ruled_full : (full : Bool) → full ≡ counters_full sets.sets → w ≡ true → full ≡ true → Err (take.Refused refusal.CounterFull) ≡ ruling_by run keys changes sets input pid section
      unfolding ruling_by
      ruled_full full q k f = rw (le-ltb 4098 (length section) n, ← e, h, ← d, k, ← q, f)

      module _ (full : Bool) (q : full ≡ counters_full sets.sets) (k : w ≡ true) (f : full ≡ false) (r : Result Ruling TakeError) where
        pub ruled_read : r ≡ ruled_by run.rule section (read_of run.rule input pid section) → r ≡ ruling_by run keys changes sets input pid section
        unfolding ruling_by
        ruled_read j = rw (le-ltb 4098 (length section) n, ← e, h, ← d, k, ← q, f) j

        pub ruled_ok : FromOk input pid r → RulingOk run keys changes sets input pid section r
        ruled_ok o = go r o
          where
            go : (r : Result Ruling TakeError) → FromOk input pid r → RulingOk run keys changes sets input pid section r
            go (Err a) o = tt
            go (Ok (ruling.Failed short)) o = omega (arith, n)
            go (Ok (ruling.Arrived x)) o = record {
              rows =
                  let taken : (ring_whole run.ring keys changes && rule_known run.rule) ≡ true = (and_true _ (not (is_without run.pids)) (sym e ∙ h)).0 in
                  ring_whole_lem run.ring keys changes (ring_whole run.ring keys changes) refl (and_true (ring_whole run.ring keys changes) (rule_known run.rule) taken).0;
              ready = record { whole = whole_means sets (sym d ∙ k); counts = evictions_go_on sets.sets full q f; runs = clock_goes_on sets.sets full q f };
              is_input = o.0;
              is_pid = o.1;
            }
