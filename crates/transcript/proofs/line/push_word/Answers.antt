-- `transcript::line::push_word` meets its contract. Assumes nothing.
use Rattle.std.proofs.Common.{rules, arith, ◌≡◌, ◌+◌, ◌∙◌, length, take}
use Rattle.std.proofs.lemmas.Slice.{take-put_mid}
use Rattle.transcript.proofs.Lines.{pushed_word}
use Rattle.transcript.proofs.line.push_word.Goals as goal

pub returns : goal.returns
returns c =
    let room : length c.args.line.now.bytes ≡ 64 = search rules in
    let put : c.copy_from_slice.new.self ≡ take c.min-n.result c.args.word.now = search rules in
    let count : length c.copy_from_slice.new.self ≡ c.min-n.result = search rules in
    take-put_mid c.min-at.result _ c.args.line.now.bytes c.copy_from_slice.new.self (c.min-at.result + c.min-n.result) (omega (arith, count)) (search rules)
    ∙ rw put (pushed_word c.args.line.now.bytes c.args.word.now c.args.line.now.len c.min-at.result c.min-n.result room (search rules) (search rules))
