use Rattle.std.proofs.Common.{sym, ◌∙◌, ap}
use Rattle.gx_xml.specs.Characters.{spelled}
use Rattle.gx_xml.specs.Runs.{walk_for}
use Rattle.gx_xml.proofs.PlainLemmas.{walked_on_far}
use Rattle.gx_xml.proofs.scan.find_run.Goals as goal

pub loop-character-preserved : goal.loop-character-preserved
loop-character-preserved c =
    let far = walked_on_far (walk_for c.args.run) c.args.state (spelled c.args.text) c.loop-character.count c.loop-character.state c.next.result c.plain_part-plain.result.state c.len.result c.in-Some.character
    (spelled c.loop-character.rest) (spelled c.in-Some.tail) (spelled c.plain_part-plain.result.run) (spelled c.plain_part-plain.result.behind)
    c.in-Some.ensures.some (sym c.if-not-goes.ensures) c.loop-character.invariant.counted c.next.ensures.value c.plain_part-plain.ensures.whole c.plain_part-plain.ensures.walks c.plain_part-plain.ensures.state c.len.ensures c.loop-character.invariant.walked in
    record { bounded = c.plain_part-plain.ensures.bounded; counted = far.counted; walked = far.walked }
