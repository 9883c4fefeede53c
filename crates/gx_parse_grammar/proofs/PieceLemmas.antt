-- What pieces come to, one piece more.
use Rattle.std.proofs.Common.{◌≡◌, ℕ, List, [], ◌∷◌, ◌++◌, refl, ap, ◌∙◌}
use Rattle.gx_ast.specs.declared.expression.AttributePart.{AttributePart}
use Rattle.gx_ast.specs.declared.expression.Part.{Part}
use Rattle.gx_parse_grammar.specs.declared.pieces.Piece.{Piece}
use Rattle.gx_parse_grammar.specs.declared.pieces.Pending.{Pending}
use Rattle.gx_parse_grammar.specs.declared.pieces.Pending.TheVariants.{Nothing}
use Rattle.gx_parse_grammar.specs.Pieces.{content_behind, content_from, content_of_pieces, pending_parts, text_parts, value_behind, value_from, attribute_value_of}

pub content_more : (c : List Part × Pending) (ps : List Piece) (p : Piece) → content_from c (ps ++ p ∷ []) ≡ content_behind (content_from c ps) p
content_more c [] p = refl
content_more c (q ∷ ps) p = content_more (content_behind c q) ps p

pub value_more : (v : List AttributePart × List ℕ) (ps : List Piece) (p : Piece) → value_from v (ps ++ p ∷ []) ≡ value_behind (value_from v ps) p
value_more v [] p = refl
value_more v (q ∷ ps) p = value_more (value_behind v q) ps p

-- the parts with the text behind the last, of all pieces
pub content_done : (parts items : List Part) (pending : Pending) (ys ps : List Piece) → parts ≡ items ++ pending_parts pending → (items, pending) ≡ content_from ([], Nothing) ys → ys ≡ ps → parts ≡ content_of_pieces ps
unfolding content_of_pieces
content_done parts items pending ys ps e f g = e ∙ ap (λ (c : List Part × Pending). c.0 ++ pending_parts c.1) f ∙ ap content_of_pieces g

pub value_done : (parts items : List AttributePart) (text : List ℕ) (ys ps : List Piece) → parts ≡ items ++ text_parts text → (items, text) ≡ value_from ([], []) ys → ys ≡ ps → parts ≡ attribute_value_of ps
unfolding attribute_value_of
value_done parts items text ys ps e f g = e ∙ ap (λ (v : List AttributePart × List ℕ). v.0 ++ text_parts v.1) f ∙ ap attribute_value_of g
