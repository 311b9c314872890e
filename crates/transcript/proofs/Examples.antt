-- Page 01's worked input, played by computation. Assumes nothing.
use mathlib.Core.Path.{refl}
use Rattle.task.specs.Index.{sum}
use Rattle.task.specs.Map.{live_count}
use Rattle.engine.proofs.Computing.{computing}
use Rattle.input.specs.Numbers.{with_group, number_in, below, given}
use Rattle.input.specs.Header.{ids_then, heading_of}
use Rattle.input.specs.Events.{message_at, start_at, finish_at, by_kind, event_at}
use Rattle.transcript.specs.Lines.{decimal_in, reply_text, answer_text}
use Rattle.transcript.specs.Text.{part_of, called, by_event, text_from, by_heading, text_of}
use Rattle.transcript.specs.Examples.{WorkedText}

pub worked_text : WorkedText
unfolding computing sum live_count with_group number_in below given ids_then heading_of message_at start_at finish_at by_kind event_at part_of called decimal_in reply_text answer_text by_event text_from by_heading text_of
worked_text = refl
