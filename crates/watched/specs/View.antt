-- What the lent words of a watch stand for.
use Rattle.std.specs.Prelude.{◌≡◌, ◌||◌, ℕ, ◌<◌, List}
use Rattle.laws.specs.Bits.{has_bit}
use Rattle.watched.specs.Rules.{Watch}
use Rattle.watched.specs.Store.{watched_of, protected_of, followed_of}

abbrev pub watch_in : List ℕ → Watch
watch_in words = record { watched = has_bit (watched_of words); protected = has_bit (protected_of words); followed = has_bit (followed_of words) }

-- watched = protected ∪ N, of every PID
abbrev pub InStep : List ℕ → Type 0
InStep words = (pid : ℕ) → pid < 8192 → (watch_in words).watched pid ≡ (watch_in words).protected pid || (watch_in words).followed pid
