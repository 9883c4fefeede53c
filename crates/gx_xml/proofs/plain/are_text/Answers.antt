use Rattle.std.proofs.Common.{ap, ◌∙◌}
use Rattle.std.proofs.lemmas.List.{take_all}
use Rattle.gx_grammar.specs.Tokens.{all_pass}
use Rattle.gx_xml.specs.Plain.{is_plain_character}
use Rattle.gx_xml.specs.declared.plain.Plain.TheVariants as plain
use Rattle.gx_xml.proofs.PlainLemmas.{byte_joins}
use Rattle.gx_xml.proofs.plain.are_text.Goals as goal

pub loop-byte-preserved : goal.loop-byte-preserved
loop-byte-preserved c = byte_joins plain.Text c.args.bytes.now c.loop-byte.byte-index c.loop-byte.all c.is_text-all.result c.loop-byte-test.true c.loop-byte.invariant c.is_text-all.ensures

pub returns : goal.returns
returns c = c.loop-byte.invariant ∙ ap (all_pass (is_plain_character plain.Text)) (take_all c.loop-byte.byte-index c.args.bytes.now c.loop-byte-test.false)
