-- PATs of one section: in a history of them without a conflict the watch after each is what following that section makes of it, whether it repeats the one
-- before or not; and following again what is followed changes nothing. So it is the watch of following each changed section.
-- Assumes nothing.
use borrow.Author.Tests.{le-leb}
use mathlib.Core.Path.{◌≡◌, refl, sym, ap, subst, ◌∙◌}
use mathlib.Core.Logic.{◌≢◌, ◌⊎◌, ⊎_elim}
use mathlib.Core.Bool.{Bool, true, false, cond, not, ◌||◌, or-false}
use mathlib.Core.Option.{none, some}
use mathlib.Core.List.{List, [], ◌∷◌, ◌++◌}
use Prim.Native.Nat.{ℕ, ◌+◌, ◌/◌, ◌≤◌, ◌<◌}
use native.Mathlib.Omega.{arith}
use lib.ListN.{length, get_or-eq_default}
use Rattle.laws.specs.Bits.{has_bit}
use Rattle.laws.specs.Runs.{store_after}
use Rattle.laws.proofs.Bits.{has_none}
use Rattle.laws.proofs.Tests.{lt_or_le}
use Rattle.section.specs.Header.{header_of, current_next_of, extension_of, version_of, table_id_of}
use Rattle.pat.specs.Pat.{set_n}
use Rattle.watched.specs.Store.{followed_of}
use Rattle.watched.specs.Rules.{Watch, stays_watched, followed_by}
use Rattle.watched.specs.View.{watch_in, InStep}
use Rattle.watched.proofs.Laws.{length_followed}
use Rattle.rules_shared.specs.Same.{Bytes, same_bytes}
use Rattle.rules_shared.specs.Slots.{present}
use Rattle.rules_shared.specs.Touch.{Rows, under, find, untouched, aside, newest}
use Rattle.rules_shared.specs.Row.{Part, fresh, fits, start, slot_of, keep, marked, put_over, put}
use Rattle.rules_shared.proofs.Same.{same_bytes_true}
use Rattle.rules_shared.proofs.All.{length_aside}
use Rattle.rules_sets.specs.Rules.{Key, same_key, SetRow, Sets, Section, Step, part_of, offer, Whole, Answer, handout, nothing, conflict, full, whole, met_row, judged, judge, finish, push, admit, step, tells, acts}
use Rattle.ties_sets.specs.View.{reads_as}
use Rattle.pats.specs.Store.{Record, pats_full, entered_in}
use Rattle.ties_pats.specs.Rules.{Pats, pat_settings, read_pat, programs_of_set, n_after, entered}
use Rattle.ties_pats.specs.View.{shown, Opened, Sent, entering, tells_of, Single, Singles, follow_each}
use Rattle.ties_pats.proofs.Obey.{Stands, same_watch, tells_rules, stands_then, obeys_rules, only_whole, watch_then, in_step_then}
use Rattle.ties_pats.proofs.History.{read_pat_lem, opened_shown, opened_stands}

-- ---- the rules, one section at a time

-- a row that is complete with one section, and was handed out
abbrev one_row : ℕ → Bytes → SetRow
one_row version b = record { version = version; last = 0; slots = some b ∷ []; notes = tt; mark = true }

abbrev holds : ℕ → Rows Key SetRow → Sets
holds v rows = record { rows = rows; evicted = v }

-- nothing yet, or one such row, whose PAT is the one followed
pub data OneRow : Sets → (ℕ → Bool) → Type 0 where
  none_yet : (v : ℕ) (n : ℕ → Bool) → OneRow (holds v []) n
  one_row_lem : (v : ℕ) (n : ℕ → Bool) (k : Key) (version : ℕ) (b : Bytes) → ((q : ℕ) → n q ≡ set_n b q) → OneRow (holds v (under k (one_row version b) ∷ [])) n

abbrev single : Key → ℕ → Bytes → Section
single k version bytes = record { key = k; version = version; number = 0; last = 0; bytes = bytes }

-- what is told of such a section, and what is left
pub data Turned (n : ℕ → Bool) (bytes : Bytes) : Answer → Sets → Type 0 where
  goes_out_lem : (w : Whole) (t : Sets) → w.sections ≡ bytes ∷ [] → OneRow t (set_n bytes) → Turned n bytes (handout w) t
  repeats : (t : Sets) → ((q : ℕ) → n q ≡ set_n bytes q) → OneRow t n → Turned n bytes nothing t
  clashes : (t : Sets) → Turned n bytes conflict t

abbrev Done : (ℕ → Bool) → Bytes → Step → Type 0
Done n bytes t = Turned n bytes t.answer t.sets

module _ (s : Sets) (n : ℕ → Bool) (k : Key) (version : ℕ) (bytes : Bytes) (few : length s.rows ≤ 1) where
  abbrev p : Part (Unit {0})
  p = part_of (single k version bytes)

  abbrev beside : Sets
  beside = aside same_key 1 k s

  -- the section, at the row that it meets
  abbrev finished : SetRow → Step
  finished met = finish beside k met (put p bytes met)

  -- room is made for the one row
  alone : beside.rows ≡ []
  alone = empty beside.rows (length_aside same_key 0 k s few)
    where
      empty : (rs : Rows Key SetRow) → length rs ≤ 0 → rs ≡ []
      empty [] h = refl
      empty (e ∷ rs) h = absurd (omega arith)

  one : (m : ℕ → Bool) (v : ℕ) (b : Bytes) → ((q : ℕ) → m q ≡ set_n b q) → OneRow (newest k (one_row v b) beside) m
  unfolding newest
  one m v b f = subst (λ (rs : Rows Key SetRow). OneRow (holds beside.evicted (rs ++ (under k (one_row v b) ∷ []))) m) (sym alone) (one_row_lem beside.evicted m k v b f)

  -- an empty row is complete with it
  anew : Done n bytes (finished (fresh p))
  unfolding finish put put_over slot_of fresh part_of keep judge judged full marked whole present
  anew = goes_out_lem _ _ refl (one (set_n bytes) version bytes (λ q. refl))

  -- a row that holds one is marked
  again : (v : ℕ) (b : Bytes) → ((q : ℕ) → n q ≡ set_n b q) → Done n bytes (finished (one_row v b))
  unfolding finish put put_over slot_of part_of judge judged
  again v b f = go (same_bytes b bytes) refl
    where
      go : (t : Bool) → same_bytes b bytes ≡ t → Done n bytes (finish beside k (one_row v b) (cond t (some (one_row v b)) none))
      go true e = repeats _ (λ q. f q ∙ ap (λ (c : Bytes). set_n c q) (same_bytes_true b bytes e)) (one n v b f)
      go false e = clashes _

  met_one : (v : ℕ) (b : Bytes) → ((q : ℕ) → n q ≡ set_n b q) → (found : Bool) → Done n bytes (finished (start p (cond found (some (one_row v b)) none)))
  unfolding start
  met_one v b f true = go (fits p (one_row v b))
    where
      go : (t : Bool) → Done n bytes (finished (cond t (one_row v b) (fresh p)))
      go true = again v b f
      go false = anew
  met_one v b f false = anew

push_turn : (s : Sets) (n : ℕ → Bool) (k : Key) (version : ℕ) (bytes : Bytes) → OneRow s n → Done n bytes (push 1 s (single k version bytes))
unfolding push met_row find start
push_turn s n k version bytes (none_yet v n') = anew (holds v []) n' k version bytes (omega arith)
push_turn s n k version bytes (one_row_lem v n' k' v' b f) = met_one (holds v (under k' (one_row v' b) ∷ [])) n' k version bytes (omega arith) v' b f (same_key k k')

one_turn : (s : Sets) (n : ℕ → Bool) → OneRow s n → (k : Key) (version : ℕ) (bytes : Bytes) → length bytes ≤ 1024
    → Turned n bytes (tells pat_settings s (offer (single k version bytes))) (acts pat_settings s (offer (single k version bytes)))
unfolding tells acts step admit
one_turn s n a k version bytes h = subst (λ (b : Bool). Done n bytes (admit 1 s (single k version bytes) b)) (sym (le-leb (length bytes) 1024 h)) (push_turn s n k version bytes a)

-- ---- following again what is followed changes nothing

has_past : (w : List ℕ) (q : ℕ) → length w ≤ q / 64 → has_bit w q ≡ false
has_past w q h = rw (get_or-eq_default w 0 h) (has_none 0 q)

pub followed_again : (words : List ℕ) → 384 ≤ length words → InStep words → (n : ℕ → Bool) → ((q : ℕ) → (watch_in words).followed q ≡ n q) → followed_by n (watch_in words) ≡ watch_in words
followed_again words h s n e = λ i. record { watched = λ q. at q i; protected = (watch_in words).protected; followed = λ q. sym (e q) i }
  where
    stays : (w f p : Bool) → (w || f) ≡ w → stays_watched w f f p ≡ w
    stays true true p d = refl
    stays true false p d = refl
    stays false true p d = d
    stays false false p d = refl

    twice : (w p f : Bool) → w ≡ (p || f) → (w || f) ≡ w
    twice true p f d = refl
    twice false p true d = sym (d ∙ or_true p)
      where
        or_true : (p : Bool) → (p || true) ≡ true
        or_true true = refl
        or_true false = refl
    twice false p false d = refl

    has : (q : ℕ) → ((watch_in words).watched q || (watch_in words).followed q) ≡ (watch_in words).watched q
    has q =
        ⊎_elim
        (λ (l : q < 8192). twice ((watch_in words).watched q) ((watch_in words).protected q) ((watch_in words).followed q) (s q l))
        (λ (l : 8192 ≤ q). rw (has_past (followed_of words) q (rw (length_followed words h) (omega arith))) (or-false ((watch_in words).watched q)))
        (lt_or_le q 8192)

    at : (q : ℕ) → (followed_by n (watch_in words)).watched q ≡ (watch_in words).watched q
    at q = ap (λ (b : Bool). stays_watched ((watch_in words).watched q) ((watch_in words).followed q) b ((watch_in words).protected q)) (sym (e q)) ∙ stays ((watch_in words).watched q) ((watch_in words).followed q) ((watch_in words).protected q) (has q)

-- ---- one entering

-- the section as the collector reads it
read_single : (x : Sent) → Single x → (length x.section ≤ 1024) × (k : Key) × (version : ℕ) × (read_pat x.input x.section ≡ offer (single k version x.section))
unfolding reads_as header_of
read_single x i =
    let p = read_pat_lem x.input x.section i.input i.pat i.sound in
    let n = i.number in
    let l = i.last in (
      p.0,
      record { from = record { input = x.input; pid = 0 }; table_id_of = table_id_of x.section; extension = extension_of x.section; current_next_of = current_next_of x.section },
      version_of x.section,
      p.1 ∙ rw (n, l),
    )

module _ (Came : List ℕ → Type 0) (r : Record) (st : Stands Came r) (more : pats_full r.words ≡ false) (x : Sent) (i : Single x) (c : Came x.section) where
  abbrev then : Record
  then = entered_in r x.input x.section

  pub record Follows : Type 0 where
    pub watch : watch_in then.words ≡ followed_by (set_n x.section) (watch_in r.words)
    pub row : OneRow (shown then).sets (shown then).n

  -- the section is followed: where it repeats the one before, that was so already
  pub single_then : OneRow (shown r).sets (shown r).n → InStep r.words → tells_of r x ≢ conflict → Follows
  unfolding entered programs_of_set
  single_then a s g = go _ _ (one_turn (shown r).sets (shown r).n a p.1 p.2 x.section p.0) (ap (tells pat_settings (shown r).sets) p.3) (ap (acts pat_settings (shown r).sets) p.3)
    where
      p : (length x.section ≤ 1024) × (k : Key) × (version : ℕ) × (read_pat x.input x.section ≡ offer (single k version x.section))
      p = read_single x i

      shows : shown then ≡ record { sets = acts pat_settings (shown r).sets (read_pat x.input x.section); n = n_after (tells pat_settings (shown r).sets (read_pat x.input x.section)) (shown r).n }
      shows = obeys_rules Came r st more x.input x.section i.bytes c ∙ rw i.pat

      go : (answer : Answer) (t : Sets) → Turned (shown r).n x.section answer t → tells pat_settings (shown r).sets (read_pat x.input x.section) ≡ answer
          → acts pat_settings (shown r).sets (read_pat x.input x.section) ≡ t → Follows
      go answer t (goes_out_lem w t' e o) h k =
          let n : (q : ℕ) → programs_of_set w.sections q ≡ set_n x.section q = λ q. ap (λ (l : List (List ℕ)). programs_of_set l q) e ∙ or-false (set_n x.section q) in
          record {
            watch = watch_then Came r st more x.input x.section i.bytes i.pat c w h ∙ (λ j. followed_by (λ q. n q j) (watch_in r.words));
            row = subst (λ (m : Pats). OneRow m.sets m.n) (sym (shows ∙ rw (h, k) (λ j. record { sets = t'; n = λ q. n q j }))) o;
          }
      go answer t (repeats t' f o) h k = record {
        watch = same_watch then.words r.words (only_whole Came r st more x.input x.section i.bytes (λ w q. (let z : ◌≡◌ {A = ℕ} 0 1 = cc in omega arith)))
            ∙ sym (followed_again r.words (let l = st.words in omega arith) s (set_n x.section) f);
        row = subst (λ (m : Pats). OneRow m.sets m.n) (sym (shows ∙ rw (h, k))) o;
      }
      go answer t (clashes t') h k = absurd (g (tells_rules Came r st more x.input x.section i.bytes ∙ h))

-- ---- many enterings

abbrev Any : List ℕ → Type 0
Any s = Unit {0}

-- 11 does not come
goes_on_lem : (r : Record) (x : Sent) → pats_full r.words ≡ false → entering r x ≡ entered_in r x.input x.section
unfolding entering
goes_on_lem r x f = rw f

singles : (xs : List Sent) (r : Record) → Stands Any r → OneRow (shown r).sets (shown r).n → InStep r.words → Singles r xs → watch_in (store_after entering r xs).words ≡ follow_each (watch_in r.words) xs
unfolding store_after follow_each
singles [] r st a s h = refl
singles (x ∷ xs) r st a s h =
    let f = h.2 in
    let i = h.0 in
    let e = sym (goes_on_lem r x f) in
    let one = single_then Any r st f x i tt a s h.1 in
    singles xs (entering r x) (subst (Stands Any) e (stands_then Any r st f x.input x.section i.bytes tt)) (subst (λ (k : Record). OneRow (shown k).sets (shown k).n) e one.row)
    (subst (λ (k : Record). InStep k.words) e (in_step_then Any r st f x.input x.section i.bytes s)) h.3
    ∙ ap (λ (w : Watch). follow_each w xs) (subst (λ (k : Record). watch_in k.words ≡ followed_by (set_n x.section) (watch_in r.words)) e one.watch)

pub one_section : (r : Record) → Opened r → InStep r.words → (xs : List Sent) → Singles r xs → watch_in (store_after entering r xs).words ≡ follow_each (watch_in r.words) xs
unfolding untouched
one_section r o s xs h = singles xs r (opened_stands r o Any) (subst (λ (k : Sets). OneRow k (shown r).n) (sym (opened_shown r o)) (none_yet 0 (shown r).n)) s h
