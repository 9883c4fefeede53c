use Rattle.std.proofs.Common.{sym, ◌∙◌, arith}
use Rattle.gx_xml.proofs.PlainLemmas.{plain_more}
use Rattle.gx_xml.proofs.plain.Plain.count.Goals as goal

pub loop-count-preserved : goal.loop-count-preserved
loop-count-preserved c = record {
  within = omega arith;
  plain = plain_more c.args.self c.args.bytes.now c.loop-count.count c.loop-count-test.true c.loop-count.invariant.plain (sym c.has.ensures ∙ c.if-not-has.false);
}
