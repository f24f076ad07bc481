-- One law for each way out of a function.
-- Assumes nothing.
use Prim.Native.Nat.{ℕ, ◌≤◌}
use mathlib.Core.Path.{◌≡◌, refl, ap}
use mathlib.Core.Bool.{cond}
use mathlib.Core.List.{List, [], ◌∷◌}
use lib.ListN.{length}
use lib.Dec.{eqb}
use Rattle.answers.specs.Answers.{outcome_no, Outcome}
use Rattle.std.specs.Prelude.{Ok, Err}
use Rattle.streams.specs.Store.{opening, opened_of}
use Rattle.streams.specs.declared.Streams.{Streams}
use Rattle.streams.specs.declared.Opened.{Opened}
use Rattle.demux_state.specs.State.{said_of}
use Rattle.demux_state.specs.declared.Answer.{Answer}
use Rattle.demux_state.specs.declared.Answer.TheVariants as answer
use Rattle.host_words.specs.Answers.{Words, words}
use Rattle.host_words.proofs.Refusals.{refused_not_7}
use Rattle.host_streams.specs.Words.{words_of, words_opened, finished_after, told, tells_opened}
use Rattle.host_streams.specs.Calls.{begun, streams_opened}

pub all_written : (a : Outcome) (s : Streams) (w ws : List ℕ) → a ≡ Ok tt → ws ≡ words_of s → ws ≡ words_opened a s w
all_written a s w ws h e = rw h e

pub finished_written : (a : Answer) (n : ℕ) (w : List ℕ) → a ≡ answer.Taken n → n ∷ [] ≡ finished_after (said_of a) w
finished_written a n w h = rw h

pub told_are : (n r : ℕ) (g gs s ss f fs : List ℕ) → r ≡ n → gs ≡ g → ss ≡ s → fs ≡ f → told r gs ss fs ≡ told n g s f
told_are n r g gs s ss f fs a b c d = λ i. record { answer = a i; gate = b i; streams = c i; finished = d i }

opened_words : (a : Outcome) (s : Streams) (w : List ℕ) → words_opened a s w ≡ cond (eqb (outcome_no a) 7) (words_of s) w
opened_words (Ok _) s w = refl
opened_words (Err r) s w = rw (refused_not_7 r)

pub streams_opened_lem : (streams : List ℕ) (count : ℕ) (pids buffers : List ℕ) (o : Opened) (ps ss : List ℕ) (r : ℕ) → opening o ps ≡ opened_of count pids (length buffers)
    → words r ss ≡ tells_opened o streams → begun r ss ps ≡ streams_opened streams count pids buffers
unfolding streams_opened
streams_opened_lem streams count pids buffers o ps ss r f t = rw (← f, ap (λ (x : Words). x.answer) t, ap (λ (x : Words). x.now) t, opened_words o.answer o.streams streams)
