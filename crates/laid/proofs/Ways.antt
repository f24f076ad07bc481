-- One law for each way out of a function, and for each turn of a loop.
-- Assumes nothing.
use mathlib.Core.Path.{◌≡◌, refl, sym, ap, ◌∙◌}
use mathlib.Core.Bool.{Bool, true, false, cond, not, ◌&&◌, ◌||◌}
use mathlib.Core.List.{List}
use Prim.Native.Nat.{ℕ, ◌+◌, ◌*◌, ◌/◌, ◌%◌, ◌-◌, ◌≤◌, ◌<◌}
use native.Mathlib.Nat.{add-sub_cancel_left, sub-zero}
use native.Mathlib.Omega.{arith}
use lib.ListN.{length, take, drop, length-take, length-drop}
use lib.Seq.{drop-drop}
use lib.Dec.{leb, ltb, eqb}
use borrow.Author.Tests.{le-leb, lt-leb, lt-ltb, le-ltb, leb-true, ltb-true, eqb-true, eqb-false, not-true, not-false}
use Rattle.section.specs.Ids.{pid_made}
use Rattle.section.specs.declared.ids.Pid.{Pid}
use Rattle.answers.specs.declared.Refusal.{Refusal}
use Rattle.std.specs.Prelude.{Result, Ok, Err, Option, Some, None}
use Rattle.laid.specs.declared.NoWord.{NoWord}
use Rattle.laid.specs.declared.NoWord.TheVariants as no_word
use Rattle.laws.proofs.Lists.{rest_part}
use Rattle.laws.proofs.Tests.{and_true, and_none}
use Rattle.section.specs.Header.{byte_at, word16, long_form, section_length, table_id_of, extension_of}
use Rattle.rows.specs.declared.Key.{Key}
use Rattle.rows.specs.Rows.{same_key}
use Rattle.laid.specs.Laid.{word_of, pid_word, is_eit, key_of, key_in, schedule_key_in, in_table, in_set, in_schedule, laid_out, chain, chain_from, joins, joined, is_schedule, of_schedule}
use Rattle.laid.specs.Walk.{long_size, Sized, from}
use Rattle.laid.proofs.Sections.{Front, sections_none, sections_front, laid_empty, laid_none, laid_front, size_front}

-- ---- the PID word

pub word_one : (m : Result Pid Refusal) (p : Pid) → m ≡ Ok p → Ok p.0 ≡ word_of m
word_one m p h = rw h

pub word_none : (m : Result Pid Refusal) (r : Refusal) → m ≡ Err r → Err no_word.TooLarge ≡ word_of m
word_none m r h = rw h

pub pid_some : (pid : Option ℕ) (v : ℕ) (m : Result Pid Refusal) (r : Result ℕ NoWord) → pid ≡ Some v → m ≡ pid_made v → r ≡ word_of m → r ≡ pid_word pid
pid_some pid v m r h e j = rw (h, ← e) j

pub pid_none : (pid : Option ℕ) → pid ≡ None → Err no_word.NoPid ≡ pid_word pid
pid_none pid h = rw h

-- ---- keys

pub word_there : (eit : Bool) (w r : ℕ) → r ≡ w → eit ≡ true → r ≡ cond eit w 0
word_there eit w r e h = rw h e

module _ (s : List ℕ) (table pid : ℕ) where
  pub key_made : (e t o : ℕ) (eit : Bool) → eit ≡ is_eit (table_id_of s) → e ≡ extension_of s → t ≡ cond eit (word16 (byte_at s 8) (byte_at s 9)) 0
      → o ≡ cond eit (word16 (byte_at s 10) (byte_at s 11)) 0
      → ◌≡◌ {A = Key} (record { from = record { input = 0; pid = pid }; table_id = table; extension = e; current_next = byte_at s 5 % 2; transport_stream_id = t; original_network_id = o })
      (key_of table pid s)
  key_made e t o eit h a b c = rw (a, b, c, h)

pub key_first : (s : List ℕ) (pid a : ℕ) (k : Key) → a ≡ byte_at s 0 → k ≡ key_of a pid s → k ≡ key_in pid s
key_first s pid a k e f = f ∙ rw e

pub key_kind : (s : List ℕ) (pid a : ℕ) (k : Key) → a ≡ byte_at s 0 → k ≡ key_of (a / 16 * 16) pid s → k ≡ schedule_key_in pid s
key_kind s pid a k e f = f ∙ rw e

pub set_after_lem : (x y : List ℕ) (j k : Key) (b t : Bool) → j ≡ key_in 0 x → k ≡ key_in 0 y → b ≡ same_key j k → t ≡ in_table x y → (b && t) ≡ in_set x y
unfolding in_set
set_after_lem x y j k b t e f g h = rw (g, e, f, h)

pub schedule_after : (x y : List ℕ) (j k : Key) (b t : Bool) → j ≡ schedule_key_in 0 x → k ≡ schedule_key_in 0 y → b ≡ same_key j k → t ≡ in_table x y
    → (b && (ltb (table_id_of x) (table_id_of y) || (eqb (table_id_of x) (table_id_of y) && t))) ≡ in_schedule x y
unfolding in_schedule
schedule_after x y j k b t e f g h = rw (g, e, f, h)

pub joins_schedule : (schedule : Bool) (x y : List ℕ) (r : Bool) → schedule ≡ true → r ≡ in_schedule x y → r ≡ joins schedule x y
joins_schedule schedule x y r h e = rw h e

pub joins_set : (schedule : Bool) (x y : List ℕ) (r : Bool) → schedule ≡ false → r ≡ in_set x y → r ≡ joins schedule x y
joins_set schedule x y r h e = rw h e

-- ---- the size at the front

pub size_short : (s : List ℕ) → length s < 12 → Sized s 0
size_short s h = record { exact = rw (lt-leb 12 (length s) h); within = omega arith; small = omega arith }

module _ (s : List ℕ) (l : ℕ) (f : Bool) (h : 12 ≤ length s) (e : l ≡ section_length s) (b : l < 4096) (g : f ≡ long_form s) where
  pub size_there : (f && leb 12 (3 + l) && leb (3 + l) (length s)) ≡ true → Sized s (3 + l)
  size_there t =
      let u = and_true (f && leb 12 (3 + l)) (leb (3 + l) (length s)) t in
      record { exact = rw (le-leb 12 (length s) h, ← g, ← e, t); within = leb-true (3 + l) (length s) u.1; small = omega arith }

  pub size_none : (f && leb 12 (3 + l) && leb (3 + l) (length s)) ≡ false → Sized s 0
  size_none t = record { exact = rw (le-leb 12 (length s) h, ← g, ← e, t); within = omega arith; small = omega arith }

-- ---- a run of sections, each after the one before it

-- what is left of the test at `at`, where the section before starts at `prev`
abbrev pub run_from : Bool → List ℕ → ℕ → ℕ → Bool
run_from schedule s prev at = laid_out (drop at s) && chain_from (joins schedule) (take (at - prev) (drop prev s)) (from s at)

module _ (b : Bool) (s : List ℕ) where
  joined_front : (n : ℕ) → Front s n → joined b s ≡ run_from b s 0 n
  unfolding joined chain
  joined_front n f =
      let h : 0 < length s = let a = f.least in let d = f.within in omega arith in
      rw (lt-ltb 0 (length s) h, laid_front s n f, sections_front s n f, sub-zero n)

  pub run_none : (n : ℕ) → n ≡ long_size s → n ≡ 0 → false ≡ joined b s
  unfolding joined chain
  run_none n e z = go (eqb (length s) 0) refl
    where
      go : (t : Bool) → eqb (length s) 0 ≡ t → false ≡ joined b s
      go true q = let h : length s ≤ 0 = let a = eqb-true (length s) 0 q in omega arith in rw (le-ltb 0 (length s) h)
      go false q = rw (laid_none s (eqb-false (length s) 0 q) (sym e ∙ z)) (sym (and_none (ltb 0 (length s))))

  pub size_twelve : (n : ℕ) → n ≡ long_size s → (n ≡ 0 → ⊥) → 12 ≤ n
  size_twelve n e h = (size_front s n e h).least

  pub run_starts : (n : ℕ) → n ≡ long_size s → (n ≡ 0 → ⊥) → joined b s ≡ run_from b s 0 n
  run_starts n e h = joined_front n (size_front s n e h)

  module _ (prev at n : ℕ) (l : at ≤ length s) (j : joined b s ≡ run_from b s prev at) (e : n ≡ long_size (take (length s - at) (drop at s))) where
    size_here : n ≡ long_size (drop at s)
    size_here = e ∙ ap long_size (rest_part at s)

    pub run_broken : at < length s → n ≡ 0 → false ≡ joined b s
    run_broken h z =
        let w : laid_out (drop at s) ≡ false = laid_none (drop at s) (λ (q : length (drop at s) ≡ 0). let a = length-drop at s in omega arith) (sym size_here ∙ z) in
        sym (j ∙ rw w)

    pub run_fits : (n ≡ 0 → ⊥) → at + n ≤ length s
    run_fits h = let f = size_front (drop at s) n size_here h in let a = f.within in let d = length-drop at s in omega arith

    pub run_least : (n ≡ 0 → ⊥) → at + 12 ≤ at + n
    run_least h = let f = size_front (drop at s) n size_here h in let a = f.least in omega arith

    pub run_parts : prev + 12 ≤ at → (n ≡ 0 → ⊥) → (12 ≤ length (take (at - prev) (drop prev s))) × (12 ≤ length (take (at + n - at) (drop at s)))
    run_parts k h =
        let f = run_fits h in
        let g = run_least h in
        (simp (length-take, length-drop) (omega arith), simp (length-take, length-drop) (omega arith))

    module _ (h : n ≡ 0 → ⊥) (t : Bool) (g : t ≡ joins b (take (at - prev) (drop prev s)) (take (at + n - at) (drop at s))) where
      run_step : joined b s ≡ (laid_out (drop (at + n) s) && (t && chain_from (joins b) (take (at + n - at) (drop at s)) (from s (at + n))))
      unfolding chain_from
      run_step =
          let f = size_front (drop at s) n size_here h in
          let k : at + n - at ≡ n = add-sub_cancel_left at n in
          j ∙ rw (laid_front (drop at s) n f, sections_front (drop at s) n f, g, k, drop-drop n at s)

      pub run_apart : not t ≡ true → false ≡ joined b s
      run_apart q = sym (run_step ∙ rw (not-true t q) (and_none (laid_out (drop (at + n) s))))

      pub run_turn : not t ≡ false → joined b s ≡ run_from b s at (at + n)
      run_turn q = run_step ∙ rw (not-false t q)

  pub run_ends : (prev at : ℕ) → joined b s ≡ run_from b s prev at → length s ≤ at → true ≡ joined b s
  unfolding chain_from
  run_ends prev at j h =
      let z : length (drop at s) ≡ 0 = length-drop at s ∙ let u : length s - at ≡ 0 = omega arith in u in
      sym (j ∙ rw (laid_empty (drop at s) z, sections_none (drop at s) z))

  pub joined_some : joined b s ≡ true → 0 < length s
  unfolding joined
  joined_some e = ltb-true 0 (length s) (and_true (ltb 0 (length s)) _ e).0

pub schedule_is : (s : List ℕ) (j r : Bool) → j ≡ joined true s → j ≡ true → r ≡ of_schedule (table_id_of s) → r ≡ is_schedule s
unfolding is_schedule
schedule_is s j r e h f = rw (← e, h) f

pub joined_first : (s : List ℕ) (j : Bool) → j ≡ joined true s → j ≡ true → 0 < length s
joined_first s j e h = joined_some true s (sym e ∙ h)

pub schedule_not : (s : List ℕ) (j : Bool) → j ≡ joined true s → j ≡ false → false ≡ is_schedule s
unfolding is_schedule
schedule_not s j e h = rw (← e, h)
