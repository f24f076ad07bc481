-- Where a row's sections came from: the words of a head, and what they show.
-- Assumes nothing.
use Rattle.std.specs.Prelude.{ℕ, cond, eqb}
use Rattle.rules_shared.specs.Same.{Origin}
use Rattle.rows.specs.declared.Origin.{Origin as Words}

-- the PID word is the PID. 8192, which stood for none, shows a number that is written otherwise: no row that a collector wrote has it
unfoldable pub origin_shown : Words → Origin
origin_shown w = record { input = w.input; pid = cond (eqb w.pid 8192) 8193 w.pid }

-- the words as they are, 8192 too, for what asks of its rows that they have PIDs
abbrev pub plain_shown : Words → Origin
plain_shown w = record { input = w.input; pid = w.pid }

-- the words that an origin is written in
abbrev pub origin_words : Origin → Words
origin_words o = record { input = o.input; pid = o.pid }
