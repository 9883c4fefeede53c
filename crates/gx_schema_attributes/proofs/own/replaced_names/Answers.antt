use Rattle.std.proofs.Common.{◌≡◌, [], List, ◌∙◌, not, ap}
use mathlib.Core.Path.{fun_ext}
use Rattle.indexmap.specs.IndexSet.{insert_all}
use Rattle.gx_base.specs.Name.{same_name}
use Rattle.gx_base.specs.declared.name.Name.{Name}
use Rattle.gx_types.specs.declared.declaration.AttributeUse.{AttributeUse}
use Rattle.gx_schema_attributes.specs.GivenUses.{is_name_among, names_of_uses}
use Rattle.gx_schema_attributes.proofs.NameSets.{among_both_inserted}
use Rattle.gx_schema_attributes.proofs.own.replaced_names.Goals as goal

pub returns : goal.returns
returns c =
    let own = c.args.own.now in
    let keys : c.add_names_of_uses.new.names.keys ≡ insert_all same_name (insert_all same_name [] own.prohibited) (names_of_uses own.given) =
    cc (c.in_ok-add_names_of_uses.ensures, c.in_ok-add_names.ensures, c.as_slice.ensures, c.as_slice-2.ensures, c.new-names.ensures.empty) in
    fun_ext (λ (attribute : AttributeUse). ap (λ (names : List Name). not (is_name_among names attribute.name)) keys
    ∙ ap not (among_both_inserted own.prohibited (names_of_uses own.given) attribute.name))
