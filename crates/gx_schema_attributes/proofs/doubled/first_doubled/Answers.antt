use Rattle.std.proofs.Common.{◌≡◌, ℕ, [], List, None, get_or, ◌∙◌, ap, subst}
use mathlib.Core.Path.{fun_ext}
use Rattle.std.specs.Prelude.{IfOk}
use Rattle.gx_types.specs.declared.declaration.AttributeUse.{AttributeUse}
use Rattle.gx_schema_attributes.specs.declared.given.GivenUses.{GivenUses}
use Rattle.gx_references.specs.Known.{known}
use Rattle.gx_schema_attributes.specs.Doubled.{earliest_doubled}
use Rattle.gx_schema_attributes.specs.GivenUses.{nothing_given}
use Rattle.gx_schema_attributes.specs.GivingView.{uses_at}
use Rattle.gx_schema_attributes.specs.GroupUses.{given_by_group}
use Rattle.gx_schema_attributes.specs.TypeUses.{uses_of_type}
use Rattle.gx_schema_attributes.proofs.doubled.first_doubled.Goals as goal

pub returns : goal.returns
returns c =
    let types = c.args.types.now in
    let groups = c.args.groups.now in
    let uses : uses_at c.as_slice.result.now ≡ uses_of_type types groups =
    fun_ext (λ (number : ℕ). ap (λ (us : List (List AttributeUse)). get_or us number []) c.as_slice.ensures.value ∙ c.in_ok-uses.ensures.uses number) in
    let given : known nothing_given c.as_slice-2.result.now ≡ given_by_group groups = ap (λ (table : List _). known nothing_given table) c.as_slice-2.ensures.value ∙ c.in_ok-given.ensures in
    subst (λ (f : ℕ → GivenUses). IfOk c.earliest_doubled.result (λ found. found ≡ earliest_doubled (uses_of_type types groups) f None 0 types)) given
    (subst (λ (f : ℕ → List AttributeUse). IfOk c.earliest_doubled.result (λ found. found ≡ earliest_doubled f (known nothing_given c.as_slice-2.result.now) None 0 types)) uses
    c.earliest_doubled.ensures)
