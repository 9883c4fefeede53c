use Rattle.std.proofs.Common.{subst, sym}
use Rattle.gx_xml.specs.Plain.{RunsOnWith}
use Rattle.gx_xml.specs.Runs.{walk_for}
use Rattle.gx_xml.specs.declared.plain.Plain.TheVariants as plain
use Rattle.gx_xml.proofs.PlainLemmas.{text_goes_on, value_goes_on, name_goes_on}
use Rattle.gx_xml.proofs.plain.plain_for.Goals as goal

pub returns-in-Text : goal.returns-in-Text
returns-in-Text c = subst (λ r. RunsOnWith plain.Text (walk_for r) c.args.state) (sym c.in-Text.is) (text_goes_on c.args.state)

pub returns-in-Value : goal.returns-in-Value
returns-in-Value c = subst (λ r. RunsOnWith plain.Text (walk_for r) c.args.state) (sym c.in-Value.is) (value_goes_on c.in-Value.field-0 c.args.state)

pub returns-in-Name : goal.returns-in-Name
returns-in-Name c = subst (λ r. RunsOnWith plain.Name (walk_for r) c.args.state) (sym c.in-Name.is) (name_goes_on c.args.state c.if-state-eq1.true)
