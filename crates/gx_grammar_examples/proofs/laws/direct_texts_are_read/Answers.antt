use Rattle.std.proofs.Common.{refl}
use Rattle.gx_grammar_examples.specs.Direct.{doubled, enclosed_item, enclosed_items, braces, braces_or_text, value_part, value, one_attribute, attributes, content_part, content, end_tag, content_and_end, rest_of_element}
use Rattle.gx_grammar_examples.proofs.laws.direct_texts_are_read.Goals as goal

pub returns-clause-doubled : goal.returns-clause-doubled
unfolding doubled enclosed_item enclosed_items braces braces_or_text value_part value one_attribute attributes content_part content end_tag content_and_end rest_of_element
returns-clause-doubled c = refl

pub returns-clause-content : goal.returns-clause-content
unfolding doubled enclosed_item enclosed_items braces braces_or_text value_part value one_attribute attributes content_part content end_tag content_and_end rest_of_element
returns-clause-content c = refl

pub returns-clause-three_levels : goal.returns-clause-three_levels
unfolding doubled enclosed_item enclosed_items braces braces_or_text value_part value one_attribute attributes content_part content end_tag content_and_end rest_of_element
returns-clause-three_levels c = refl

pub returns-clause-other_name : goal.returns-clause-other_name
unfolding doubled enclosed_item enclosed_items braces braces_or_text value_part value one_attribute attributes content_part content end_tag content_and_end rest_of_element
returns-clause-other_name c = refl

pub returns-clause-longer_name : goal.returns-clause-longer_name
unfolding doubled enclosed_item enclosed_items braces braces_or_text value_part value one_attribute attributes content_part content end_tag content_and_end rest_of_element
returns-clause-longer_name c = refl

pub returns-clause-no_white_space : goal.returns-clause-no_white_space
unfolding doubled enclosed_item enclosed_items braces braces_or_text value_part value one_attribute attributes content_part content end_tag content_and_end rest_of_element
returns-clause-no_white_space c = refl

pub returns-clause-one_brace : goal.returns-clause-one_brace
unfolding doubled enclosed_item enclosed_items braces braces_or_text value_part value one_attribute attributes content_part content end_tag content_and_end rest_of_element
returns-clause-one_brace c = refl

pub returns-clause-fourth_level : goal.returns-clause-fourth_level
unfolding doubled enclosed_item enclosed_items braces braces_or_text value_part value one_attribute attributes content_part content end_tag content_and_end rest_of_element
returns-clause-fourth_level c = refl

pub returns-clause-fourth_in_braces : goal.returns-clause-fourth_in_braces
unfolding doubled enclosed_item enclosed_items braces braces_or_text value_part value one_attribute attributes content_part content end_tag content_and_end rest_of_element
returns-clause-fourth_in_braces c = refl

pub returns-clause-not_begun : goal.returns-clause-not_begun
unfolding doubled enclosed_item enclosed_items braces braces_or_text value_part value one_attribute attributes content_part content end_tag content_and_end rest_of_element
returns-clause-not_begun c = refl

pub returns-clause-not_reached : goal.returns-clause-not_reached
unfolding doubled enclosed_item enclosed_items braces braces_or_text value_part value one_attribute attributes content_part content end_tag content_and_end rest_of_element
returns-clause-not_reached c = refl
