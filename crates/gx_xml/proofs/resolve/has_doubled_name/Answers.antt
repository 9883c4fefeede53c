use Rattle.std.proofs.Common.{sym, ◌∙◌}
use Rattle.gx_base.specs.Name.{name_cmp, same_name}
use Rattle.gx_xml.specs.declared.source.SourceAttribute.{SourceAttribute}
use Rattle.gx_xml.proofs.DoubleLemmas.{searched_hit, searched_next, names_agree}
use Rattle.gx_xml.proofs.resolve.has_doubled_name.Goals as goal

pub returns-then-contains : goal.returns-then-contains
returns-then-contains c =
    sym (searched_hit name_cmp same_name names_agree (λ (a : SourceAttribute). a.name) c.args.attributes.now c.loop-attribute.attribute-index c.attribute-item.result c.loop-attribute.seen c.loop-attribute-test.true c.attribute-item.is (sym c.contains.ensures ∙ c.if-contains.true) c.loop-attribute.invariant)

pub loop-attribute-preserved : goal.loop-attribute-preserved
loop-attribute-preserved c =
    searched_next name_cmp same_name names_agree (λ (a : SourceAttribute). a.name) c.args.attributes.now c.loop-attribute.attribute-index c.attribute-item.result c.in_ok-clone.field-0 c.loop-attribute.seen c.insert.new.self
    c.loop-attribute-test.true c.attribute-item.is c.in_ok-clone.ensures.cases (sym c.contains.ensures ∙ c.if-contains.false) c.in_ok-insert.ensures.updates c.loop-attribute.invariant
