use Rattle.std.proofs.Common.{◌≡◌, ◌∙◌, List, sym, ap}
use Rattle.std.proofs.lemmas.List.{nil_from_length}
use Rattle.gx_xml.specs.declared.source.SourceChild.{SourceChild}
use Rattle.gx_xml.specs.SourceView.{contents_of}
use Rattle.gx_schema_syntax.specs.Declarations.{particles_written}
use Rattle.gx_qnames.specs.ScopeView.{declared_in}
use Rattle.gx_schema_syntax.proofs.ParticleLemmas.{particles_behind, particles_behind_none}
use Rattle.gx_schema_syntax.proofs.particles.+particles.Goals as goal

pub particles_written-returns : goal.particles_written-returns
particles_written-returns t c =
    sym (particles_behind_none c.loop-child.particles.items)
    ∙ ap (λ (children : List SourceChild). particles_behind c.loop-child.particles.items (particles_written c.args.context.now (declared_in c.args.scope.now) c.loop-child.at (contents_of children)))
    (sym (nil_from_length c.loop-child.left.now c.in_default.ensures.cases))
    ∙ c.loop-child.invariant.particles
