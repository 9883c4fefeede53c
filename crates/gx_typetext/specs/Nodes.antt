-- What the grammar of type texts makes of its parts.
use Rattle.std.specs.Prelude.{ℕ, List, ◌∷◌, Bool, false, if◌then◌else◌, codes, nat_eq, Option, Some, None}
use Rattle.std.specs.Cmp.Lexicographic.{pointwise}
use Rattle.gx_grammar.specs.Value.{Value, nothing, characters, node, pair}
use Rattle.gx_typetext.specs.declared.written.Space.TheVariants as space
use Rattle.gx_typetext.specs.declared.written.WrittenName.{WrittenName}
use Rattle.gx_typetext.specs.declared.written.WrittenTest.{WrittenTest}
use Rattle.gx_typetext.specs.declared.written.Inside.{Inside}
use Rattle.gx_typetext.specs.declared.written.Inside.TheVariants as inside
use Rattle.gx_typetext.specs.declared.written.NameWord.{NameWord}
use Rattle.gx_typetext.specs.declared.written.NameWord.TheVariants as word
use Rattle.gx_typetext.specs.declared.written.WrittenItem.TheVariants as item
use Rattle.gx_typetext.specs.declared.written.Operand.{Operand}
use Rattle.gx_typetext.specs.declared.written.Operand.TheVariants as operand
use Rattle.gx_typetext.specs.declared.written.Piece.{Piece}
use Rattle.gx_typetext.specs.declared.written.Piece.TheVariants as piece

pub data TypeTextNode : Type 0 where
  Named : WrittenName → TypeTextNode
  MaybeNamed : Option WrittenName → TypeTextNode
  Content : Inside → TypeTextNode
  Pieces : List Piece → TypeTextNode

abbrev pub Made : Type 0
Made = Value TypeTextNode

abbrev pub written_name_made : WrittenName → Made
written_name_made n = node (Named n)

abbrev pub maybe_name_made : Option WrittenName → Made
maybe_name_made n = node (MaybeNamed n)

abbrev pub inside_made : Inside → Made
inside_made c = node (Content c)

abbrev pub pieces : List Piece → Made
pieces ps = node (Pieces ps)

-- names

abbrev pub braced_value : Made → Made
braced_value (pair opening (pair (characters uri) (pair closing (pair (characters local) gap)))) = written_name_made (record { space = space.Uri uri; local = local })
braced_value _ = nothing

abbrev pub prefixed_value : Made → Made
prefixed_value (pair prefix (pair (characters local) gap)) = written_name_made (record { space = space.Schema; local = local })
prefixed_value _ = nothing

abbrev pub unprefixed_value : Made → Made
unprefixed_value (pair (characters local) gap) = written_name_made (record { space = space.Nowhere; local = local })
unprefixed_value _ = nothing

abbrev pub given_name_made : Made → Made
given_name_made (node (Named n)) = maybe_name_made (Some n)
given_name_made _ = nothing

abbrev pub name_behind_comma : Made → Made
name_behind_comma (pair comma v) = given_name_made v
name_behind_comma _ = nothing

-- what stands in parentheses

abbrev pub test_written : Made → WrittenTest
test_written (pair opening (pair (pair (node (MaybeNamed a)) (node (MaybeNamed b))) closing)) = record { name = a; kind = b }
test_written _ = record { name = None; kind = None }

abbrev pub declared_inside : Made → Made
declared_inside (pair opening (pair (node (Named n)) closing)) = inside_made (inside.Declared n)
declared_inside _ = nothing

abbrev pub element_inside : Made → Made
element_inside (pair w (node (Content (inside.Test t)))) = inside_made (inside.Element t)
element_inside _ = nothing

abbrev pub later_value : Made → Made
later_value (pair a b) = b
later_value _ = nothing

abbrev pub document_content : Made → Made
document_content (pair opening (pair (node (Content c)) closing)) = inside_made c
document_content _ = inside_made inside.Nothing

-- operands

abbrev pub is_type_word : List ℕ → Made → Bool
is_type_word w (characters cs) = pointwise nat_eq w cs
is_type_word w _ = false

-- what a name at the front of an item type says
abbrev pub name_word : Made → NameWord
name_word v =
    if is_type_word (codes "none") v then word.Never
    else (if is_type_word (codes "empty-sequence") v then word.Empty
    else (if is_type_word (codes "node") v then word.Node
    else (if is_type_word (codes "item") v then word.Item
    else (if is_type_word (codes "text") v then word.Text
    else (if is_type_word (codes "document-node") v then word.Document
    else (if is_type_word (codes "element") v then word.Element
    else (if is_type_word (codes "attribute") v then word.Attribute
    else (if is_type_word (codes "schema-element") v then word.Schema else word.Other))))))))

-- the document test with that in its parentheses
abbrev pub document_of : Inside → Operand
document_of (inside.Element t) = operand.Item (item.DocumentOf t)
document_of (inside.Declared n) = operand.Item (item.DocumentOfDeclared n)
document_of _ = operand.Item item.Document

abbrev pub element_of : Inside → Operand
element_of (inside.Test t) = operand.Item (item.Element t)
element_of _ = operand.Item item.AnyItem

abbrev pub attribute_of : Inside → Operand
attribute_of (inside.Test t) = operand.Item (item.Attribute t)
attribute_of _ = operand.Item item.AnyItem

abbrev pub declared_of : Inside → Operand
declared_of (inside.Declared n) = operand.Item (item.Declared n)
declared_of _ = operand.Item item.AnyItem

-- a word with that in parentheses behind it
abbrev pub with_inside : NameWord → Inside → Operand
with_inside word.Never c = operand.Never
with_inside word.Empty c = operand.Empty
with_inside word.Node c = operand.Item item.AnyNode
with_inside word.Item c = operand.Item item.AnyItem
with_inside word.Text c = operand.Item item.Text
with_inside word.Document c = document_of c
with_inside word.Element c = element_of c
with_inside word.Attribute c = attribute_of c
with_inside word.Schema c = declared_of c
with_inside word.Other c = operand.Item item.AnyItem

-- a name with no parentheses behind it: an atomic type, or `none`
abbrev pub bare : NameWord → List ℕ → Operand
bare word.Never local = operand.Never
bare _ local = operand.Item (item.Atomic (record { space = space.Nowhere; local = local }))

-- pieces

-- a piece in front of those behind it
abbrev pub put : Piece → Made → Made
put p (pair v (node (Pieces ps))) = pieces (p ∷ ps)
put p _ = nothing

-- an atomic type in front
abbrev pub put_name : Made → Made
put_name (pair (node (Named n)) (node (Pieces ps))) = pieces (piece.Operand (operand.Item (item.Atomic n)) ∷ ps)
put_name _ = nothing

-- a word in front, with what stands behind its gap
abbrev pub put_word : Made → Made
put_word (pair (characters local) (pair gap (pair (node (Content c)) (node (Pieces ps))))) = pieces (piece.Operand (with_inside (name_word (characters local)) c) ∷ ps)
put_word (pair (characters local) (pair gap (node (Pieces ps)))) = pieces (piece.Operand (bare (name_word (characters local)) local) ∷ ps)
put_word _ = nothing

-- `empty-sequence`, its parentheses and what is behind them
abbrev pub put_empty : Made → Made
put_empty (pair w (pair parentheses (node (Pieces ps)))) = pieces (piece.Operand operand.Empty ∷ ps)
put_empty _ = nothing

abbrev pub written_test_made : WrittenTest → Made
written_test_made t = inside_made (inside.Test t)

abbrev pub declared_made : WrittenName → Made
declared_made n = inside_made (inside.Declared n)
