use Rattle.std.proofs.Common.{List, [], ◌∙◌, ap}
use Rattle.indexmap.specs.IndexSet.{insert_all}
use Rattle.gx_base.specs.declared.type_name.TypeName.{TypeName}
use Rattle.gx_types.specs.declared.declaration.Declared.{Declared}
use Rattle.gx_types.specs.TypeIndex.{equal_kinds}
use Rattle.gx_steptype.specs.DeclaredBases.{declared_bases}
use Rattle.gx_steptype.proofs.AloneTypes.{bases_are_had}
use Rattle.gx_steptype.proofs.derived_types.bases_of.Goals as goal

pub returns : goal.returns
returns c =
    bases_are_had c.args.schemas.now c.add_bases.new.bases.keys
    (c.in_ok-add_bases.ensures ∙ ap (λ (keys : List TypeName). insert_all equal_kinds keys (declared_bases c.types.result.now)) c.new-bases.ensures.empty
    ∙ ap (λ (types : List Declared). insert_all equal_kinds [] (declared_bases types)) c.types.ensures.value)
