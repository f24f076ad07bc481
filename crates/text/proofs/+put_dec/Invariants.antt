-- The measure is the number, of which each call leaves a tenth.
use Rattle.text.proofs.+put_dec.Given as goal

abbrev pub decreases-put_dec : goal.decreases-put_dec
decreases-put_dec l = l.v
