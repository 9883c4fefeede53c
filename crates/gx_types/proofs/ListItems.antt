-- The items of a list, in one pass over its text.
use Rattle.std.proofs.Common.{◌≡◌, ℕ, List, [], ◌∷◌, Result, Ok, Err, refl, ◌∙◌, ap}
use Rattle.std.specs.Prelude.{filter}
use Rattle.gx_facets.specs.WhiteSpace.{parts_of}
use Rattle.gx_facets.specs.declared.Atomic.{Atomic}
use Rattle.gx_facets.specs.declared.ValueRead.{ValueRead}
use Rattle.gx_types.specs.SimpleType.{AtomicMeaning}
use Rattle.gx_types.specs.SimpleValue.{has_characters, item_texts, each_value}
use Rattle.gx_types.specs.ListReading.{values_behind, resumed, items_behind}

-- no word is begun
begun_anew : (parts : List (List ℕ)) → filter has_characters (resumed [] parts) ≡ filter has_characters parts
begun_anew [] = refl
begun_anew (part ∷ parts) = refl

behind_nothing : (r : Result (List Atomic) ValueRead) → values_behind [] r ≡ r
behind_nothing (Ok values) = refl
behind_nothing (Err fault) = refl

-- at the start all words are left
pub all_is_left : (meaning : AtomicMeaning) (text : List ℕ) → items_behind meaning [] [] text ≡ each_value meaning (item_texts text)
all_is_left meaning text = ap (λ (words : List (List ℕ)). values_behind [] (each_value meaning words)) (begun_anew (parts_of text)) ∙ behind_nothing (each_value meaning (item_texts text))
