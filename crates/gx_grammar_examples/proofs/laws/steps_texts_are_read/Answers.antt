use Rattle.std.proofs.Common.{refl}
use Rattle.gx_grammar_examples.specs.Steps.{operations, bare_name, some_arguments, arguments, name_or_call, step_of_name, by_name, other_step, step, path_from, times_or_div, product_from, plus_or_minus, sum_from, behind_if, begun_by}
use Rattle.gx_grammar_examples.proofs.laws.steps_texts_are_read.Goals as goal

pub returns-clause-words : goal.returns-clause-words
unfolding operations bare_name some_arguments arguments name_or_call step_of_name by_name other_step step path_from times_or_div product_from plus_or_minus sum_from behind_if begun_by
returns-clause-words c = refl

pub returns-clause-wildcards : goal.returns-clause-wildcards
unfolding operations bare_name some_arguments arguments name_or_call step_of_name by_name other_step step path_from times_or_div product_from plus_or_minus sum_from behind_if begun_by
returns-clause-wildcards c = refl

pub returns-clause-branches : goal.returns-clause-branches
unfolding operations bare_name some_arguments arguments name_or_call step_of_name by_name other_step step path_from times_or_div product_from plus_or_minus sum_from behind_if begun_by
returns-clause-branches c = refl

pub returns-clause-comments : goal.returns-clause-comments
unfolding operations bare_name some_arguments arguments name_or_call step_of_name by_name other_step step path_from times_or_div product_from plus_or_minus sum_from behind_if begun_by
returns-clause-comments c = refl

pub returns-clause-no_operator : goal.returns-clause-no_operator
unfolding operations bare_name some_arguments arguments name_or_call step_of_name by_name other_step step path_from times_or_div product_from plus_or_minus sum_from behind_if begun_by
returns-clause-no_operator c = refl

pub returns-clause-no_branch : goal.returns-clause-no_branch
unfolding operations bare_name some_arguments arguments name_or_call step_of_name by_name other_step step path_from times_or_div product_from plus_or_minus sum_from behind_if begun_by
returns-clause-no_branch c = refl

pub returns-clause-no_call : goal.returns-clause-no_call
unfolding operations bare_name some_arguments arguments name_or_call step_of_name by_name other_step step path_from times_or_div product_from plus_or_minus sum_from behind_if begun_by
returns-clause-no_call c = refl

pub returns-clause-run_on : goal.returns-clause-run_on
unfolding operations bare_name some_arguments arguments name_or_call step_of_name by_name other_step step path_from times_or_div product_from plus_or_minus sum_from behind_if begun_by
returns-clause-run_on c = refl

pub returns-clause-no_number : goal.returns-clause-no_number
unfolding operations bare_name some_arguments arguments name_or_call step_of_name by_name other_step step path_from times_or_div product_from plus_or_minus sum_from behind_if begun_by
returns-clause-no_number c = refl
