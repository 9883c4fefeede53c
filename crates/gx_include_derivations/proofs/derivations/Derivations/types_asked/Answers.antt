use Rattle.std.proofs.Common.{◌∙◌, ◌++◌, ◌∷◌, [], ap, List, if◌then◌else◌, false, get_or, length, subst, ◌≤◌}
use Rattle.gx_types.specs.SchemaSet.{SchemaSet}
use Rattle.gx_types.specs.declared.declaration.Declared.{Declared}
use Rattle.gx_include_derivations.proofs.Asked.{types_more, all_types}
use Rattle.gx_include_derivations.proofs.derivations.Derivations.types_asked.Goals as goal

pub loop-number-preserved : goal.loop-number-preserved
loop-number-preserved c =
    types_more c.args.self.now c.args.items.now c.types-declared-items.result.now c.loop-number.number c.declared-item.result c.in_ok-flags.flags.items c.loop-number.types.items c.add_if.new.types.items
    (c.types-declared-items.ensures.value ∙ ap (λ (s : SchemaSet). s.types) c.schemas.ensures) c.loop-number-test.true c.declared-item.is c.in_ok-flags.ensures c.loop-number.invariant
    (c.in_ok-add_if.ensures
    ∙ ap (λ b. c.loop-number.types.items ++ (if b then c.declared-item.result.name ∷ [] else []))
    (c.is_set.ensures ∙ ap (λ fs. get_or fs c.loop-number.number false) c.as_slice.ensures.value))

pub returns : goal.returns
returns c =
    all_types c.args.self.now c.args.items.now c.loop-number.number c.loop-number.types.items
    (subst (λ (ts : List Declared). length ts ≤ c.loop-number.number) (c.types-declared-items.ensures.value ∙ ap (λ (s : SchemaSet). s.types) c.schemas.ensures) c.loop-number-test.false) c.loop-number.invariant
