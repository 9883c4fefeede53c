use Rattle.gx_settling.specs.Uses.{called_function, named_variable}
use Rattle.gx_settling.proofs.UsesLemmas.{operators_without_types, free_without_types, calls_without_types, calls_with_types}
use Rattle.gx_settling.proofs.laws.uses_look_at_no_annotation.Goals as goal

pub returns : goal.returns
returns g c e = record {
  called = operators_without_types called_function e;
  named = operators_without_types named_variable e;
  free = free_without_types e;
  without = λ known h. calls_without_types known e h;
  with = λ known h. calls_with_types known e h;
}
