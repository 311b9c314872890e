-- `transcript::line::push_reply` meets its contract. Assumes nothing.
use Rattle.std.proofs.Common.{◌∙◌}
use Rattle.transcript.specs.Lines.{invalid_word, hex_word, reply_text}
use Rattle.transcript.proofs.Lines.{push_append}
use Rattle.transcript.proofs.line.push_reply.Goals as goal

pub returns-in-Invalid : goal.returns-in-Invalid
unfolding reply_text
returns-in-Invalid c = rw c.in-Invalid.is (c.push_tag.ensures ∙ rw c.push_word.ensures (push_append _ invalid_word (hex_word c.in-Invalid.tag)))
