use Rattle.differences.proofs.Places.{differ_neither, differ_second, differ_first, differ_not, differ_bytes}
use Rattle.differences.proofs.compare_sections.Goals as goal

pub returns-then-y-eq0 : goal.returns-then-y-eq0
returns-then-y-eq0 c = search differ_neither

pub returns-then-x-eq0 : goal.returns-then-x-eq0
returns-then-x-eq0 c = search differ_second

pub returns-then-y-eq0-2 : goal.returns-then-y-eq0-2
returns-then-y-eq0-2 c = search differ_first

pub returns-then-place-x : goal.returns-then-place-x
returns-then-place-x c = search differ_not

pub returns : goal.returns
returns c = search differ_bytes
