-- `watched::ask` meets its contract: one law for each way out. Assumes nothing.
use native.Mathlib.Omega.{arith}
use borrow.Author.Rules.{rules}
use Rattle.watched.proofs.Laws.{ask_short, ask_bad, ask_room, ask_has}
use Rattle.watched.proofs.ask.Goals as goal

pub returns-then-words-lt-WORDS : goal.returns-then-words-lt-WORDS
returns-then-words-lt-WORDS c = search ask_short

pub has-requires : goal.has-requires
has-requires c = ask_room c.args.words.now c.args.pid c.make.result (omega (arith, c.if-words-lt-WORDS.false)) c.make.ensures c.in_ok-p.p c.in_ok-p.was

pub returns-in_err-p : goal.returns-in_err-p
returns-in_err-p c =
    let refused = ask_bad c.args.words.now c.args.pid c.make.result (omega (arith, c.if-words-lt-WORDS.false)) c.make.ensures c.in_err-p.field-0.0 c.in_err-p.was in
    search (rules, refused)

pub returns : goal.returns
returns c =
    ask_has c.args.words.now c.args.pid c.make.result (omega (arith, c.if-words-lt-WORDS.false)) c.make.ensures c.in_ok-p.p c.in_ok-p.was c.has.result c.has.ensures
