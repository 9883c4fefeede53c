use Rattle.std.proofs.Common.{◌≡◌, true, false, sym, ◌∙◌, ap, subst, rules, List}
use Rattle.std.specs.List.{list_all}
use Rattle.gx_base.specs.declared.type_name.TypeName.{TypeName}
use Rattle.gx_types.specs.SchemaSet.{SchemaSet}
use Rattle.gx_include_derivations.specs.Derivations.{derived_types}
use Rattle.gx_steptype.specs.DataType.{has_value, values_of_type, have_values}
use Rattle.gx_steptype.proofs.DerivedLemmas.{all_if_both, none_if_first}
use Rattle.gx_steptype.proofs.data_type.all_have_values.Goals as goal

pub returns-then-not-builtins_have_values-clause-values : goal.returns-then-not-builtins_have_values-clause-values
returns-then-not-builtins_have_values-clause-values c =
    let kind = c.args.kind.now in
    let none : c.builtins_have_values.result ≡ false = search rules in
    subst (λ (s : SchemaSet). false ≡ have_values s kind) c.schemas-schemas.ensures
    (sym none ∙ none_if_first c.schemas-schemas.result.now kind c.builtins_have_values.result c.builtins_have_values.ensures none)

pub returns-clause-values : goal.returns-clause-values
returns-clause-values c =
    let s = c.schemas-schemas.result.now in
    let kind = c.args.kind.now in
    let all : c.builtins_have_values.result ≡ true = search rules in
    subst (λ (s : SchemaSet). c.each_has_value.result ≡ have_values s kind) c.schemas-schemas.ensures
    (all_if_both s kind c.builtins_have_values.result c.each_has_value.result c.builtins_have_values.ensures all
    (c.each_has_value.ensures
    ∙ ap (λ (kinds : List TypeName). list_all (λ t. has_value (values_of_type s t)) kinds)
    (c.as_slice.ensures.value ∙ c.in_ok-types.ensures.types ∙ ap (λ (s : SchemaSet). derived_types s kind) (sym c.schemas-schemas.ensures))))
