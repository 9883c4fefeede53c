-- How types are written: `,` between the parts of a sequence, `|` between the members of a choice, and an indicator behind.
use Rattle.std.specs.Prelude.{ℕ, Bool, true, false, List, [], ◌++◌, codes}
use Rattle.gx_types.specs.SequenceType.{SequenceType, never, nothing, item, both, either, optional, star, plus}
use Rattle.gx_typetext.specs.declared.context.Context.{Context}
use Rattle.gx_typetext.specs.declared.context.Context.TheVariants.{Whole, Sequence, Choice, Indicator}
use Rattle.gx_typetext.specs.NameText.{word}
use Rattle.gx_typetext.specs.ItemText.{item_text}

-- parentheses where they are wanted
abbrev pub opening_parenthesis : Bool → List ℕ
opening_parenthesis true = word (codes "(")
opening_parenthesis false = []

abbrev pub closing_parenthesis : Bool → List ℕ
closing_parenthesis true = word (codes ")")
closing_parenthesis false = []

-- a sequence stands in parentheses in a choice and under an indicator
abbrev pub sequence_is_wrapped : Context → Bool
sequence_is_wrapped Whole = false
sequence_is_wrapped Sequence = false
sequence_is_wrapped Choice = true
sequence_is_wrapped Indicator = true

-- a choice stands in parentheses in a sequence and under an indicator
abbrev pub choice_is_wrapped : Context → Bool
choice_is_wrapped Whole = false
choice_is_wrapped Sequence = true
choice_is_wrapped Choice = false
choice_is_wrapped Indicator = true

-- a type with an indicator stands in parentheses under another indicator
abbrev pub indicated_is_wrapped : Context → Bool
indicated_is_wrapped Whole = false
indicated_is_wrapped Sequence = false
indicated_is_wrapped Choice = false
indicated_is_wrapped Indicator = true

-- the text of a type that stands alone, or as a part of another one
abbrev pub text_in : Context → SequenceType → List ℕ
text_in context never = word (codes "none")
text_in context nothing = word (codes "empty-sequence()")
text_in context (item kind) = item_text kind
text_in context (both first second) =
    opening_parenthesis (sequence_is_wrapped context) ++ text_in Sequence first ++ word (codes ", ") ++ text_in Sequence second ++ closing_parenthesis (sequence_is_wrapped context)
text_in context (either first second) =
    opening_parenthesis (choice_is_wrapped context) ++ text_in Choice first ++ word (codes " | ") ++ text_in Choice second ++ closing_parenthesis (choice_is_wrapped context)
text_in context (optional part) = opening_parenthesis (indicated_is_wrapped context) ++ text_in Indicator part ++ word (codes "?") ++ closing_parenthesis (indicated_is_wrapped context)
text_in context (star part) = opening_parenthesis (indicated_is_wrapped context) ++ text_in Indicator part ++ word (codes "*") ++ closing_parenthesis (indicated_is_wrapped context)
text_in context (plus part) = opening_parenthesis (indicated_is_wrapped context) ++ text_in Indicator part ++ word (codes "+") ++ closing_parenthesis (indicated_is_wrapped context)

abbrev pub type_text : SequenceType → List ℕ
type_text t = text_in Whole t
