use Rattle.entry_words.proofs.Laws.{entry_event, entry_stream, entry_service, entry_plain}
use Rattle.entry_words.proofs.entry_words.Goals as goal

pub returns-then-header-eq-EVENT_HEADER : goal.returns-then-header-eq-EVENT_HEADER
returns-then-header-eq-EVENT_HEADER c = search entry_event

pub returns-then-header-eq-STREAM_HEADER : goal.returns-then-header-eq-STREAM_HEADER
returns-then-header-eq-STREAM_HEADER c = search entry_stream

pub returns-then-header-eq-SERVICE_HEADER : goal.returns-then-header-eq-SERVICE_HEADER
returns-then-header-eq-SERVICE_HEADER c = search entry_service

pub returns : goal.returns
returns c = search entry_plain
