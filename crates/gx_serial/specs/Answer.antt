-- The text of an answer.
use Rattle.std.specs.Prelude.{ℕ, List, [], ◌∷◌, ◌++◌, Bool, true, false, codes}
use Rattle.gx_serial.specs.declared.item.SerialItem.{SerialItem}
use Rattle.gx_serial.specs.declared.item.SerialItem.TheVariants.{Text, Tree}
use Rattle.gx_serial.specs.Binding.{outermost_scope}
use Rattle.gx_serial.specs.Escape.{text_escaped}
use Rattle.gx_serial.specs.Markup.{spelled_markup}
use Rattle.gx_serial.specs.Marked.{marked}

-- one space, where an atomic value comes next
abbrev pub separator : List SerialItem → List ℕ
separator (Text t ∷ items) = codes " "
separator _ = []

-- the items one after another, with a space between adjacent atomic values
abbrev pub answer_text : List SerialItem → List ℕ
answer_text [] = []
answer_text (Text t ∷ items) = text_escaped t ++ separator items ++ answer_text items
answer_text (Tree t ∷ items) = spelled_markup (marked outermost_scope t) ++ answer_text items

-- what is left to write, after an atomic value or not
abbrev pub left_after : Bool → List SerialItem → List ℕ
left_after true items = separator items ++ answer_text items
left_after false items = answer_text items

-- an answer of which some items are written: its text so far, and whether an atomic value stands last in it
pub record PartialAnswer : Type 0 where
  pub text : List ℕ
  pub follows_value : Bool

-- the text that it becomes with the items that come
abbrev pub text_with : PartialAnswer → List SerialItem → List ℕ
text_with answer items = answer.text ++ left_after answer.follows_value items
