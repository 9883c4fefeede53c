use Rattle.std.proofs.Common.{sym, ◌∙◌}
use Rattle.gx_steptype.specs.ListedTypes.{types_listed}
use Rattle.gx_steptype.proofs.ListedTypes.{one_base_more, no_base_more}
use Rattle.gx_steptype.proofs.type_lists.add_to_bases.Goals as goal

pub returns-in-None : goal.returns-in-None
returns-in-None c = λ left kind d f.
    sym (no_base_more c.args.schemas.now c.types-types.ensures.invariant c.args.t.now c.loop-step.at.now kind d (types_listed c.loop-step.lists kind) (sym c.in-None.ensures) f) ∙ c.loop-step.invariant kind d f

pub loop-step-preserved : goal.loop-step-preserved
loop-step-preserved c = λ kind d f.
    one_base_more c.args.schemas.now c.types-types.ensures.invariant c.args.t.now c.loop-step.at.now kind c.in-Some.declared.now (types_listed c.loop-step.lists kind) (types_listed c.add_type.new.lists kind)
    (sym c.in-Some.ensures) (c.in_ok-add_type-in-Some.ensures kind)
    ∙ c.loop-step.invariant kind d f
