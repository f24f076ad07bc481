-- The watched PIDs, PID by PID (docs/RULES.md, "Watched PIDs"): what is so of a PID before a PAT is followed decides what is so after it.
-- A set of PIDs is a test, true of those that are in it. No memory.
use Rattle.std.specs.Prelude.{Bool, not, ◌&&◌, ◌||◌, ℕ}

-- the PIDs looked at, those that following never drops, and N, those of the last PAT that was followed
pub record Watch : Type 0 where
  pub watched : ℕ → Bool
  pub protected : ℕ → Bool
  pub followed : ℕ → Bool

-- a PID is dropped where it is of the former N and is neither in the new N nor protected
abbrev pub is_dropped : Bool → Bool → Bool → Bool
is_dropped former new protected = former && not (new || protected)

-- a PID is watched after N was followed where it was watched and is not dropped, or is in N
abbrev pub stays_watched : Bool → Bool → Bool → Bool → Bool
stays_watched watched former new protected = (watched && not (is_dropped former new protected)) || new

-- the watch after following N
abbrev pub followed_by : (ℕ → Bool) → Watch → Watch
followed_by n w =
    record {
      watched = λ pid. stays_watched (w.watched pid) (w.followed pid) (n pid) (w.protected pid);
      protected = w.protected;
      followed = n;
    }
