use Rattle.gate.proofs.Laws.{pat_followed, pat_unread}
use Rattle.gate.proofs.inner.follow_pat.Goals as goal

pub returns-in-Readable : goal.returns-in-Readable
returns-in-Readable c = search pat_followed

pub returns-in-Unreadable : goal.returns-in-Unreadable
returns-in-Unreadable c = search pat_unread
