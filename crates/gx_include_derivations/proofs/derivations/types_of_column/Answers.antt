use Rattle.std.proofs.Common.{◌∙◌, ◌++◌, ◌∷◌, [], ◌≤◌, ap, subst, List, length, if◌then◌else◌}
use Rattle.gx_types.specs.declared.declaration.Declared.{Declared}
use Rattle.gx_include_derivations.proofs.DerivedTypes.{names_more, all_names}
use Rattle.gx_include_derivations.proofs.derivations.types_of_column.Goals as goal

pub loop-number-preserved : goal.loop-number-preserved
loop-number-preserved c =
    names_more c.args.schemas.now c.args._kind.now c.types-declared-items.result.now c.loop-number.number c.declared-item.result c.args.column.now c.loop-number.types.items c.add_if.new.types.items
    c.types-declared-items.ensures.value c.loop-number-test.true c.declared-item.is c.requires c.loop-number.invariant
    (c.in_ok-add_if.ensures ∙ ap (λ b. c.loop-number.types.items ++ (if b then c.declared-item.result.name ∷ [] else [])) c.is_set.ensures)

pub returns : goal.returns
returns c =
    all_names c.args.schemas.now c.args._kind.now c.loop-number.number c.loop-number.types.items
    (subst (λ (ts : List Declared). length ts ≤ c.loop-number.number) c.types-declared-items.ensures.value c.loop-number-test.false) c.loop-number.invariant
