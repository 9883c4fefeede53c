use Rattle.std.proofs.Common.{◌≡◌, ◌++◌, List, map, IfOk, ◌∙◌, ap, subst}
use Rattle.gx_base.specs.declared.type_name.TypeName.{TypeName}
use Rattle.gx_types.specs.SchemaSet.{declared_types}
use Rattle.gx_types.specs.SequenceType.{SequenceType}
use Rattle.gx_types.specs.Choice.{choice_among}
use Rattle.gx_steptype.specs.DerivedTypes.{listed_builtins, listed_names, derived_among}
use Rattle.gx_steptype.proofs.DerivedLemmas.{derived_all}
use Rattle.gx_steptype.proofs.derived.over_types.Goals as goal

pub returns : goal.returns
returns g c =
    subst (λ (types : List SequenceType). IfOk c.choose.result (λ t. t ≡ choice_among types))
    (c.deref.ensures.value ∙ c.in_ok-add_each.ensures
    ∙ ap (λ (kinds : List TypeName). c.add_builtins.new.types.items ++ map (g.T.OfType.of c.args.of.now) kinds) c.requires
    ∙ ap (λ (types : List SequenceType). types ++ map (g.T.OfType.of c.args.of.now) (derived_among c.args.schemas.now c.args.kind.now (declared_types c.args.schemas.now))) c.in_ok-add_builtins.ensures
    ∙ ap (λ (types : List SequenceType).
    (types ++ map (g.T.OfType.of c.args.of.now) (derived_among c.args.schemas.now c.args.kind.now (listed_names listed_builtins)))
    ++ map (g.T.OfType.of c.args.of.now) (derived_among c.args.schemas.now c.args.kind.now (declared_types c.args.schemas.now))) c.new-types.ensures.items
    ∙ derived_all c.args.schemas.now c.args.kind.now (g.T.OfType.of c.args.of.now) (listed_names listed_builtins) (declared_types c.args.schemas.now))
    c.choose.ensures
