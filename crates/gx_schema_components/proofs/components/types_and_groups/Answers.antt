use Rattle.gx_schema_components.specs.ReferredView.{globals_in}
use Rattle.gx_schema_components.proofs.TypesAndGroups.{types_and_groups_placed}
use Rattle.gx_schema_components.proofs.components.types_and_groups.Goals as goal

pub returns : goal.returns
returns c =
    types_and_groups_placed (globals_in c.args.globals.now) c.args.first c.args.documents.now _ _ _ _ _ _
    c.new-groups.ensures.items c.in_ok-definitions.ensures.groups c.in_ok-definitions.ensures.items c.in_ok-types.ensures.groups c.in_ok-types.ensures.items c.in_ok-all.ensures
