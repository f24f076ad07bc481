use Rattle.assemble.proofs.Laws.{repeat_words, repeat_buffer, repeat_places, span_reads, read_words, read_buffer, read_places}
use Rattle.assemble.proofs.take.Goals as goal

pub returns-then-repeats : goal.returns-then-repeats
returns-then-repeats c = record { value = search repeat_words; buffer_after = search repeat_buffer; places_after = search repeat_places }

pub read-taken-requires : goal.read-taken-requires
read-taken-requires c = search span_reads

pub returns : goal.returns
returns c = record { value = search read_words; buffer_after = search read_buffer; places_after = search read_places }
