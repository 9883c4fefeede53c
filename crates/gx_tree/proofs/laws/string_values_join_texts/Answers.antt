use Rattle.std.proofs.Common.{refl}
use Rattle.gx_tree.proofs.StringValueLemmas.{string_values-joined}
use Rattle.gx_tree.proofs.laws.string_values_join_texts.Goals as goal

pub returns : goal.returns
returns c = record {
  document = string_values-joined;
  element = λ name kind attributes ts content. string_values-joined ts content;
  attribute = λ a. refl;
  text = λ t. refl;
}
