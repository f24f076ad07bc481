-- The record of a set by the section that was pushed is the record of the set that went out.
-- Assumes nothing.
use mathlib.Core.Path.{◌≡◌, refl, sym, ap, ◌∙◌}
use mathlib.Core.Bool.{Bool, true, false, cond, not}
use mathlib.Core.List.{List, [], ◌∷◌, ◌++◌}
use Prim.Native.Nat.{ℕ}
use lib.Dec.{ltb, eqb}
use Rattle.section.specs.Header.{header_of, current_next_of}
use Rattle.section.specs.Judged.{collected_of}
use Rattle.std.specs.Prelude.{Some}
use Rattle.rows.specs.declared.Origin.{Origin}
use Rattle.arrivals.specs.Arrivals.{bit_of}
use Rattle.sets_settle.specs.Settle.{Handed, handed}
use Rattle.ties_sets.specs.View.{key_shown, reads_as, read_section, answer_told}
use Rattle.ties_given.specs.Given.{AsRead}
use Rattle.rules_logs.specs.Records.{Bytes, two, set_record, bare_set_record}
use Rattle.rules_logs.specs.Sections.{Given}
use Rattle.rules_log_run.specs.Run.{Settings, pushed, set_line, set_header, set_records}
use Rattle.log_makers.specs.Makers.{set_record_of, bare_record_of}

-- current_next as the rules have it, from the word of a head
bit_shown : (n : ℕ) (b : Bool) → n ≡ bit_of b → not (eqb n 0) ≡ b
bit_shown n b e = ap (λ (m : ℕ). not (eqb m 0)) e ∙ go b
  where
    go : (b : Bool) → not (eqb (bit_of b) 0) ≡ b
    go true = refl
    go false = refl

module _ (bytes : Bytes) (w : Handed) (from : Origin) (a : AsRead from bytes w) where
  -- with its PID
  pub line_given : set_record_of from.input (Some from.pid) bytes ∷ [] ≡ set_records true (answer_told (handed w))
  unfolding set_records answer_told set_line key_shown set_record header_of
  line_given =
      let i = sym a.same_input in
      let p = sym a.same_pid in
      let t = sym a.table in
      let x = sym a.extension in
      let c = sym (bit_shown w.key.current_next (current_next_of bytes) a.current) in
      let v = sym a.version in
      let l = sym a.last in
      λ k. (5 ∷ i k ∷ two (p k) ++ (t k ∷ two (x k) ++ (cond (c k) 1 0 ∷ v k ∷ l k ∷ []))) ∷ []

  -- by the older definition
  pub line_bare : bare_record_of from.input bytes ∷ [] ≡ set_records false (answer_told (handed w))
  unfolding set_records answer_told set_line key_shown bare_set_record header_of
  line_bare =
      let i = sym a.same_input in
      let t = sym a.table in
      let x = sym a.extension in
      let c = sym (bit_shown w.key.current_next (current_next_of bytes) a.current) in
      let v = sym a.version in
      let l = sym a.last in
      λ k. (6 ∷ i k ∷ t k ∷ two (x k) ++ (cond (c k) 1 0 ∷ v k ∷ l k ∷ [])) ∷ []

-- what the collector is given, where input and PID are ones
pub given_as : (o : Settings) → o.pids ≡ true → (g : Given) → ltb g.pid 8192 ≡ true → ltb g.input 16 ≡ true → read_section g.input (Some g.pid) g.section ≡ pushed o g
unfolding read_section pushed
given_as o h g p i = rw (p, i, h) refl
