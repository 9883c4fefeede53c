-- Contents with texts (XML Schema 1.0 part 1, section 3.4.1, mixed).
use Rattle.std.specs.Prelude.{Bool, if◌then◌else◌}
use Rattle.gx_types.specs.SequenceType.{SequenceType, never, nothing, item, both, either, optional, star, plus}
use Rattle.gx_types.specs.TypeRules.{joined_types}
use Rattle.gx_types.specs.declared.item_type.ItemType.TheVariants as items

abbrev pub maybe_text : SequenceType
maybe_text = optional (item items.Text)

-- a content with a text allowed behind each item
abbrev pub with_texts : SequenceType → SequenceType
with_texts never = never
with_texts nothing = nothing
with_texts (item kind) = both (item kind) maybe_text
with_texts (both first second) = both (with_texts first) (with_texts second)
with_texts (either first second) = either (with_texts first) (with_texts second)
with_texts (optional part) = optional (with_texts part)
with_texts (star part) = star (with_texts part)
with_texts (plus part) = plus (with_texts part)

-- the content model of a type, with its texts
abbrev pub model_of : (mixed : Bool) → SequenceType → SequenceType
model_of mixed t = if mixed then joined_types maybe_text (with_texts t) else t
