-- Many sections in one call of the EIT collector (docs/RULES.md, "Collectors", and "Logs" for a section list). `cond test a b` is a where the test is true, else b.
-- Assumes nothing.
use Rattle.std.specs.Prelude.{List, cond}
use Rattle.answers.specs.declared.Refusal.TheVariants.{NotWhole, CounterFull, NoPid}
use Rattle.eit_state.specs.State.{Store, whole_of, counters_full}
use Rattle.eit_pids.specs.Rows.{any_without}
use Rattle.eit.specs.Store.{refused}
use Rattle.rules_logs.specs.Records.{Bytes}
use Rattle.rules_logs.specs.Sections.{Given, Listed, too_long, cut, sections, sections_in}
use Rattle.eit_each.specs.Each.{of, overlong, AllAfter, all_after, pushed_each}

-- 10 where the store is not whole, 11 where a count is at its end, 41 where a set or a schedule in use has no PID; then one by one
unfoldable pub pushed_sections : Store → List Given → AllAfter
pushed_sections s gs =
    cond (whole_of s)
    (cond (counters_full s.eit) (all_after (of (refused CounterFull)) s 0)
    (cond (any_without s.eit s.heads s.schedule_heads) (all_after (of (refused NoPid)) s 0) (pushed_each 0 s gs)))
    (all_after (of (refused NotWhole)) s 0)

abbrev pub pushed_list : Store → Listed → AllAfter
pushed_list s too_long = all_after overlong s 0
pushed_list s cut = all_after (of (refused NotWhole)) s 0
pushed_list s (sections gs) = pushed_sections s gs

-- 42 and 10 of the list, 10, 11 and 41 of the store, then its sections
unfoldable pub pushed_all : Store → Bytes → AllAfter
pushed_all s list = pushed_list s (sections_in list)
