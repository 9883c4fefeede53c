-- The parts that the pieces of attribute values, and of the content of direct elements, come to (XQuery 1.0, sections 3.7.1.1
-- and 3.7.1.4).
use Rattle.std.specs.Prelude.{ℕ, List, [], ◌∷◌, ◌++◌, if◌then◌else◌}
use Rattle.gx_base.specs.WhiteSpace.{is_white_space}
use Rattle.gx_ast.specs.declared.expression.AttributePart.{AttributePart}
use Rattle.gx_ast.specs.declared.expression.AttributePart.TheVariants.{Text as Characters, Enclosed as Computed}
use Rattle.gx_ast.specs.declared.expression.Part.{Part}
use Rattle.gx_ast.specs.declared.expression.Part.TheVariants as part
use Rattle.gx_grammar.specs.Tokens.{all_pass}
use Rattle.gx_parse_grammar.specs.declared.pieces.Piece.{Piece}
use Rattle.gx_parse_grammar.specs.declared.pieces.Piece.TheVariants.{Literal, Kept, Element, Enclosed}
use Rattle.gx_parse_grammar.specs.declared.pieces.Pending.{Pending}
use Rattle.gx_parse_grammar.specs.declared.pieces.Pending.TheVariants as pending

-- content

-- Literal text stays literal behind literal text alone.
abbrev pub with_literal : Pending → List ℕ → Pending
with_literal pending.Nothing cs = pending.Literal cs
with_literal (pending.Literal ds) cs = pending.Literal (ds ++ cs)
with_literal (pending.Kept ds) cs = pending.Kept (ds ++ cs)

abbrev pub with_kept : Pending → List ℕ → Pending
with_kept pending.Nothing cs = pending.Kept cs
with_kept (pending.Literal ds) cs = pending.Kept (ds ++ cs)
with_kept (pending.Kept ds) cs = pending.Kept (ds ++ cs)

-- Literal white space alone is a blank part.
abbrev pub pending_parts : Pending → List Part
pending_parts pending.Nothing = []
pending_parts (pending.Literal cs) = (if all_pass is_white_space cs then (part.Blank cs) else (part.Text cs)) ∷ []
pending_parts (pending.Kept cs) = part.Text cs ∷ []

-- the parts, and the text behind them, with a piece more
abbrev pub content_behind : List Part × Pending → Piece → List Part × Pending
content_behind c (Literal cs) = (c.0, with_literal c.1 cs)
content_behind c (Kept cs) = (c.0, with_kept c.1 cs)
content_behind c (Element t) = (c.0 ++ pending_parts c.1 ++ part.Element t ∷ [], pending.Nothing)
content_behind c (Enclosed t) = (c.0 ++ pending_parts c.1 ++ part.Enclosed t ∷ [], pending.Nothing)

abbrev pub content_from : List Part × Pending → List Piece → List Part × Pending
content_from c [] = c
content_from c (p ∷ ps) = content_from (content_behind c p) ps

unfoldable pub content_of_pieces : List Piece → List Part
content_of_pieces ps = let c = content_from ([], pending.Nothing) ps in c.0 ++ pending_parts c.1

-- attribute values

abbrev pub text_parts : List ℕ → List AttributePart
text_parts [] = []
text_parts (c ∷ cs) = Characters (c ∷ cs) ∷ []

-- No element stands in an attribute value.
abbrev pub value_behind : List AttributePart × List ℕ → Piece → List AttributePart × List ℕ
value_behind v (Literal cs) = (v.0, v.1 ++ cs)
value_behind v (Kept cs) = (v.0, v.1 ++ cs)
value_behind v (Element t) = v
value_behind v (Enclosed t) = (v.0 ++ text_parts v.1 ++ Computed t ∷ [], [])

abbrev pub value_from : List AttributePart × List ℕ → List Piece → List AttributePart × List ℕ
value_from v [] = v
value_from v (p ∷ ps) = value_from (value_behind v p) ps

unfoldable pub attribute_value_of : List Piece → List AttributePart
attribute_value_of ps = let v = value_from ([], []) ps in v.0 ++ text_parts v.1
