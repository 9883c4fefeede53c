use Rattle.gx_base.specs.Name.{name_cmp, same_name}
use Rattle.gx_xml.specs.declared.source.SourceAttribute.{SourceAttribute}
use Rattle.gx_xml.proofs.DoubleLemmas.{Searched, names_agree}
use Rattle.gx_xml.proofs.resolve.has_doubled_name.Given as goal

abbrev pub invariant-loop-attribute : goal.invariant-loop-attribute
invariant-loop-attribute l = Searched name_cmp same_name names_agree (λ (a : SourceAttribute). a.name) l.attributes l.attribute-index l.seen
