use Rattle.std.proofs.Common.{◌++◌, ◌∙◌, ap, List}
use Rattle.gx_base.specs.declared.type_name.TypeName.{TypeName}
use Rattle.gx_include_letters.specs.WellFormed.{built_in_types}
use Rattle.gx_include_letters.specs.Trials.{trial_shapes}
use Rattle.gx_include_letters.proofs.alphabet.asked_shapes.Goals as goal

pub returns : goal.returns
returns c =
    c.in_ok-shapes.ensures
    ∙ ap (λ (ts : List TypeName). trial_shapes ts c.args.names.now)
    (c.as_slice-3.ensures.value ∙ c.in_ok-types.ensures ∙ ap (λ (ts : List TypeName). built_in_types ++ ts) (c.as_slice.ensures.value ∙ c.in_ok-declared.ensures))
