use Rattle.std.proofs.Common.{sym, ◌∙◌, arith}
use Rattle.gx_xml.specs.Characters.{spelled}
use Rattle.gx_xml.specs.Runs.{walk_for}
use Rattle.gx_xml.proofs.PlainLemmas.{plain_walks}
use Rattle.gx_xml.proofs.plain.plain_part.Goals as goal

pub returns-then-is_empty : goal.returns-then-is_empty
returns-then-is_empty c =
    let walked = plain_walks c.in-Some.plain (walk_for c.args.run) c.args.state (spelled c.split.result.0) c.in-Some.ensures c.split.ensures.plain in
    record { whole = c.split.ensures.whole; walks = walked.walks; state = walked.none (sym c.is_empty.ensures ∙ c.if-is_empty.true); bounded = c.requires }

pub returns : goal.returns
returns c =
    let walked = plain_walks c.in-Some.plain (walk_for c.args.run) c.args.state (spelled c.split.result.0) c.in-Some.ensures c.split.ensures.plain in
    record {
      whole = c.split.ensures.whole;
      walks = walked.walks;
      state = c.state_behind-state.ensures.value ∙ walked.some (sym c.is_empty.ensures ∙ c.if-is_empty.false);
      bounded = omega (arith, c.state_behind-state.ensures.small);
    }
