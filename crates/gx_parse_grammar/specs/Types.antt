-- Sequence types and kind tests: what they are made of.
--   SeqType ::= "empty-sequence" "(" ")" | ItemType ("?" | "*" | "+")?
--   ItemType ::= "item" "(" ")" | Kind | QName
--   Kind ::= ("node" | "text") "(" ")" | "document-node" "(" (ElementTest | SchemaTest)? ")" | ElementTest | AttributeTest | SchemaTest
--   ElementTest ::= "element" "(" ((QName | "*") ("," QName)?)? ")"
--   AttributeTest ::= "attribute" "(" ((QName | "*") ("," QName)?)? ")"
--   SchemaTest ::= "schema-element" "(" QName ")"
-- Behind an item type `?`, `*` and `+` are its indicator. A name with no `(` behind it is that of an atomic type.
use Rattle.std.specs.Prelude.{ℕ, ◌+◌, [], ◌∷◌, true, false, if◌then◌else◌, codes, Option, Some, None}
use Rattle.gx_base.specs.declared.place.Place.{Place}
use Rattle.gx_ast.specs.declared.name.QName.{QName}
use Rattle.gx_ast.specs.declared.sequence_type.Indicator.{Indicator}
use Rattle.gx_ast.specs.declared.sequence_type.Indicator.TheVariants as indicator
use Rattle.gx_ast.specs.declared.sequence_type.TestedName.{TestedName}
use Rattle.gx_ast.specs.declared.sequence_type.KindTest.{KindTest}
use Rattle.gx_ast.specs.declared.sequence_type.KindTest.TheVariants as test
use Rattle.gx_ast.specs.declared.sequence_type.ItemType.TheVariants as item
use Rattle.gx_ast.specs.declared.sequence_type.SequenceType.{SequenceType}
use Rattle.gx_ast.specs.declared.sequence_type.SequenceType.TheVariants as sequence
use Rattle.gx_ast.specs.declared.sequence_type.SingleType.{SingleType}
use Rattle.gx_grammar.specs.Value.{nothing, node, pair}
use Rattle.gx_grammar.specs.Grammar.{token, empty, ◌&◌, keyed, choose, made}
use Rattle.gx_grammar.specs.Apart.{is}
use Rattle.gx_grammar.specs.First.{by_character}
use Rattle.gx_grammar.specs.Reading.{State, Reading}
use Rattle.gx_grammar.specs.Ran.{Standing, Ran, IsDone}
use Rattle.gx_parse_grammar.specs.declared.word.Word.TheVariants as word
use Rattle.gx_parse_grammar.specs.declared.kind_words.KindWord.{KindWord}
use Rattle.gx_parse_grammar.specs.declared.kind_words.KindWord.TheVariants as kind
use Rattle.gx_parse_grammar.specs.declared.kind_words.TypeWord.{TypeWord}
use Rattle.gx_parse_grammar.specs.declared.kind_words.TypeWord.TheVariants as type_word_is
use Rattle.gx_parse_grammar.specs.declared.kind_words.TestContent.{TestContent}
use Rattle.gx_parse_grammar.specs.declared.kind_words.TestContent.TheVariants as content_is
use Rattle.gx_parse_grammar.specs.declared.kind_words.TypeTail.{TypeTail}
use Rattle.gx_parse_grammar.specs.Nodes.{Made, Found, Name, MaybeName, Tested, Content, Tail, TypeOf, Casting, first_value, second_value, name_at, name_length}
use Rattle.gx_parse_grammar.specs.Tokens.{qname, gap, indication}
use Rattle.gx_parse_grammar.specs.Basics.{Phrase, word_of, lexeme, at_tokens, is_name, name}

-- A part was read as this value, or reading has ended.
abbrev pub Gave : {A : Type 0} → (A → Made) → Option A → Standing → Standing → (State → Reading Made) → Type 0
Gave value None before after read = IsDone after × ((v : Made) → Ran v before after read)
Gave value (Some a) before after read = Ran (value a) before after read

-- the names of kind tests
abbrev pub kind_word : Made → Option KindWord
kind_word v =
    if is_name (codes "node") v then (Some kind.Node)
    else (if is_name (codes "text") v then (Some kind.Text)
    else (if is_name (codes "document-node") v then (Some kind.Document)
    else (if is_name (codes "element") v then (Some kind.Element)
    else (if is_name (codes "attribute") v then (Some kind.Attribute) else (if is_name (codes "schema-element") v then (Some kind.SchemaElement) else None)))))

abbrev pub of_kind : Option KindWord → TypeWord
of_kind (Some k) = type_word_is.Kind k
of_kind None = type_word_is.Atomic

-- what a name at the front of a sequence type says
abbrev pub type_word : Made → TypeWord
type_word v =
    if is_name (codes "empty-sequence") v then type_word_is.EmptySequence
    else (if is_name (codes "item") v then type_word_is.Item else (of_kind (kind_word v)))

-- The kind test of a word at its place, with what stands in its parentheses.
abbrev pub kind_test : KindWord → Place → TestContent → KindTest
kind_test kind.Node place _ = test.Node place
kind_test kind.Text place _ = test.Text place
kind_test kind.Document place (content_is.Element p t) = test.DocumentOf place p t
kind_test kind.Document place (content_is.Declared p q) = test.DocumentOfDeclared place p q
kind_test kind.Document place _ = test.Document place
kind_test kind.Element place (content_is.Tested t) = test.Element place t
kind_test kind.Element place _ = test.Element place None
kind_test kind.Attribute place (content_is.Tested t) = test.Attribute place t
kind_test kind.Attribute place _ = test.Attribute place None
kind_test kind.SchemaElement place (content_is.Name q) = test.Declared place q
kind_test kind.SchemaElement place _ = test.Node place

-- The sequence type of a name, with what stands in parentheses behind it and the indicator.
abbrev pub type_with : TypeWord → QName → Option TestContent → Indicator → SequenceType
type_with w q None i = sequence.Items (item.Atomic q) i
type_with type_word_is.EmptySequence q (Some c) i = sequence.Empty q.place
type_with type_word_is.Item q (Some c) i = sequence.Items (item.Item q.place) i
type_with (type_word_is.Kind k) q (Some c) i = sequence.Items (item.Kind (kind_test k q.place c)) i
type_with type_word_is.Atomic q (Some c) i = sequence.Items (item.Atomic q) i

abbrev pub type_of_word : TypeWord → QName → TypeTail → SequenceType
type_of_word w q t = type_with w q t.content t.indicator

-- values of the parts

abbrev pub named : QName → Made
named q = node (Name q)

abbrev pub maybe_named : Option QName → Made
maybe_named q = node (MaybeName q)

abbrev pub tested_made : Option TestedName → Made
tested_made t = node (Tested t)

abbrev pub content_made : TestContent → Made
content_made c = node (Content c)

abbrev pub tail_made : TypeTail → Made
tail_made t = node (Tail t)

abbrev pub type_made : SequenceType → Made
type_made t = node (TypeOf t)

abbrev pub casting_made : SingleType → Made
casting_made t = node (Casting t)

abbrev pub some_name : Made → Made
some_name (node (Name q)) = maybe_named (Some q)
some_name _ = nothing

abbrev pub name_behind : Made → Made
name_behind (pair comma v) = some_name v
name_behind _ = nothing

abbrev pub no_name : Made
no_name = maybe_named None

abbrev pub tested_value : Made → Made
tested_value (pair opening (pair (pair (node (MaybeName a)) (node (MaybeName b))) close)) = tested_made (Some (record { name = a; kind = b }))
tested_value _ = tested_made None

abbrev pub enclosed_value : Made → Made
enclosed_value (pair opening (pair v close)) = v
enclosed_value _ = nothing

abbrev pub element_value : Place → Made → Made
element_value place (pair w (node (Tested t))) = content_made (content_is.Element place t)
element_value place _ = nothing

abbrev pub declared_content_made : Place → Made → Made
declared_content_made place (pair w (node (Name q))) = content_made (content_is.Declared place q)
declared_content_made place _ = nothing

abbrev pub document_value : Made → Made
document_value (pair opening (pair (node (Content c)) close)) = content_made c
document_value _ = content_made (content_is.Tested None)

abbrev pub as_content : Made → Made
as_content (node (Tested t)) = content_made (content_is.Tested t)
as_content (node (Name q)) = content_made (content_is.Name q)
as_content _ = nothing

abbrev pub indicator_of : Made → Indicator
indicator_of (node (Found word.Question)) = indicator.Optional
indicator_of (node (Found word.Times)) = indicator.Star
indicator_of (node (Found word.Plus)) = indicator.Plus
indicator_of _ = indicator.Once

abbrev pub bare_value : Made → Made
bare_value i = tail_made (record { content = None; indicator = indicator_of i })

abbrev pub tail_value : Made → Made
tail_value (pair (node (Content c)) i) = tail_made (record { content = Some c; indicator = indicator_of i })
tail_value (pair _ i) = bare_value i
tail_value _ = nothing

abbrev pub no_items_value : Made → Made
no_items_value (node (Content c)) = tail_made (record { content = Some c; indicator = indicator.Once })
no_items_value _ = nothing

abbrev pub type_value : TypeWord → QName → Made → Made
type_value w q (pair space (node (Tail t))) = type_made (type_of_word w q t)
type_value w q _ = nothing

abbrev pub casting_value : Made → Made
casting_value (pair (node (Name q)) nothing) = casting_made (record { name = q; optional = false })
casting_value (pair (node (Name q)) _) = casting_made (record { name = q; optional = true })
casting_value _ = nothing

-- The place of a token is `at` of the number of characters that are left there.
module _ (at : ℕ → Place) where
  -- a QName and its gap
  unfoldable pub written_name : Phrase
  written_name = made (λ left v. first_value v) (name at & token gap)

  -- a name, or `*`
  unfoldable pub tested_name : Phrase
  tested_name = choose (by_character (is 42)) (made (λ left v. no_name) (lexeme (word_of word.Times))) (made (λ left v. some_name v) written_name)

  -- a type's name behind a comma, or nothing
  unfoldable pub behind_comma : Phrase
  behind_comma = choose (at_tokens (word_of word.Comma ∷ [])) (made (λ left v. name_behind v) (lexeme (word_of word.Comma) & written_name)) (made (λ left v. no_name) empty)

  -- what stands in the parentheses of an element or attribute test
  unfoldable pub tested : Phrase
  tested =
      made (λ left v. tested_value v) (lexeme (word_of word.Open) & choose (by_character (is 41)) (lexeme (word_of word.Close)) ((tested_name & behind_comma) & lexeme (word_of word.Close)))

  -- a name in parentheses
  unfoldable pub declared : Phrase
  declared = made (λ left v. enclosed_value v) (lexeme (word_of word.Open) & written_name & lexeme (word_of word.Close))

  -- `(` and `)`
  unfoldable pub nothing_inside : Phrase
  nothing_inside = made (λ left v. content_made (content_is.Tested None)) (lexeme (word_of word.Open) & lexeme (word_of word.Close))

  -- the test of an element in that of a document
  unfoldable pub document_test : Phrase
  document_test =
      choose (at_tokens (word_of word.Element ∷ [])) (made (λ left v. element_value (at left) v) (lexeme (word_of word.Element) & tested)) (made (λ left v. declared_content_made (at left) v) (lexeme (word_of word.SchemaElement) & declared))

  unfoldable pub document : Phrase
  document =
      made (λ left v. document_value v) (lexeme (word_of word.Open) & choose (by_character (is 41)) (lexeme (word_of word.Close)) (document_test & lexeme (word_of word.Close)))

  -- what stands behind `element` or `attribute`, and behind `schema-element`
  unfoldable pub named_content : Phrase
  named_content = made (λ left v. as_content v) tested

  unfoldable pub declared_content : Phrase
  declared_content = made (λ left v. as_content v) declared

  -- what stands behind the name of a kind test
  unfoldable pub content : KindWord → Phrase
  content kind.Node = nothing_inside
  content kind.Text = nothing_inside
  content kind.Document = document
  content kind.Element = named_content
  content kind.Attribute = named_content
  content kind.SchemaElement = declared_content

  -- no parentheses, and the indicator
  unfoldable pub bare_tail : Phrase
  bare_tail = made (λ left v. bare_value v) (token indication)

  -- parentheses with this in them, if they stand there, and the indicator
  unfoldable pub item_tail : Phrase → Phrase
  item_tail inside = made (λ left v. tail_value v) (choose (at_tokens (word_of word.Open ∷ [])) inside empty & token indication)

  -- the parentheses of `empty-sequence()`, or the indicator of an atomic type with that name
  unfoldable pub empty_tail : Phrase
  empty_tail = choose (at_tokens (word_of word.Open ∷ [])) (made (λ left v. no_items_value v) nothing_inside) bare_tail

  -- what stands behind the name of a sequence type
  unfoldable pub type_tail : TypeWord → Phrase
  type_tail type_word_is.EmptySequence = empty_tail
  type_tail type_word_is.Item = item_tail nothing_inside
  type_tail (type_word_is.Kind k) = item_tail (content k)
  type_tail type_word_is.Atomic = bare_tail

  -- a sequence type whose name was read
  unfoldable pub behind_type : Made → Phrase
  behind_type v = made (λ left u. type_value (type_word v) (name_at (at (left + name_length v)) v) u) (token gap & type_tail (type_word v))

  unfoldable pub sequence_type : Phrase
  sequence_type = made (λ left v. second_value v) (keyed qname (λ v. behind_type v))

  -- the type of a cast: a name, and `?` where the empty sequence is allowed
  unfoldable pub single_type : Phrase
  single_type = made (λ left v. casting_value v) (written_name & choose (at_tokens (word_of word.Question ∷ [])) (lexeme (word_of word.Question)) empty)
