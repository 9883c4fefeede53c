-- Node tests and axes (XQuery 1.0, section 3.2.1).
--   Forward ::= (AxisName "::" | "@")? NodeTest
--   NodeTest ::= Kind | QName | "*" | NCName ":*" | "*:" NCName
use Rattle.std.specs.Prelude.{ℕ, ◌+◌, [], ◌∷◌, Bool, true, false, if◌then◌else◌, codes, Option, Some, None}
use Rattle.gx_base.specs.declared.place.Place.{Place}
use Rattle.gx_ast.specs.declared.name.QName.{QName}
use Rattle.gx_ast.specs.declared.name.Axis.{Axis}
use Rattle.gx_ast.specs.declared.name.Axis.TheVariants as axis
use Rattle.gx_ast.specs.declared.name.NameTest.TheVariants as name_test
use Rattle.gx_ast.specs.declared.sequence_type.NodeTest.{NodeTest}
use Rattle.gx_ast.specs.declared.sequence_type.NodeTest.TheVariants as node_test_is
use Rattle.gx_ast.specs.SyntaxTree.{SyntaxTree, at as located, axis_step}
use Rattle.gx_grammar.specs.Value.{nothing, characters, node, pair}
use Rattle.gx_grammar.specs.Grammar.{token, empty, ◌&◌, keyed, choose, made}
use Rattle.gx_grammar.specs.Apart.{is}
use Rattle.gx_grammar.specs.First.{by_character}
use Rattle.gx_base.specs.NameCharacters.{is_ncname_start}
use Rattle.gx_parse_grammar.specs.declared.word.Word.TheVariants as word
use Rattle.gx_parse_grammar.specs.declared.kind_words.KindWord.{KindWord}
use Rattle.gx_parse_grammar.specs.declared.kind_words.TestContent.{TestContent}
use Rattle.gx_parse_grammar.specs.Nodes.{Made, Content, Test, second_value, name_at, name_length, has_prefix, tree}
use Rattle.gx_parse_grammar.specs.Tokens.{qname, ncname, local_wildcard, wildcard_letters, gap}
use Rattle.gx_parse_grammar.specs.Basics.{Phrase, word_of, lexeme, at_tokens, is_name}
use Rattle.gx_parse_grammar.specs.Types.{kind_word, kind_test, content, content_made}

-- the axis that a name says
abbrev pub axis_word : Made → Option Axis
axis_word v =
    if is_name (codes "child") v then (Some axis.Child)
    else (if is_name (codes "descendant") v then (Some axis.Descendant)
    else (if is_name (codes "descendant-or-self") v then (Some axis.DescendantOrSelf)
    else (if is_name (codes "self") v then (Some axis.Itself)
    else (if is_name (codes "attribute") v then (Some axis.Attribute)
    else (if is_name (codes "parent") v then (Some axis.Parent)
    else (if is_name (codes "ancestor") v then (Some axis.Ancestor) else (if is_name (codes "ancestor-or-self") v then (Some axis.AncestorOrSelf) else None)))))))

-- The test of a name: that of a kind where parentheses stand behind the name of a kind test.
abbrev pub test_of : Option KindWord → QName → Option TestContent → NodeTest
test_of (Some k) q (Some c) = node_test_is.Kind (kind_test k q.place c)
test_of (Some k) q None = node_test_is.Name (name_test.Named q)
test_of None q c = node_test_is.Name (name_test.Named q)

-- a step at its first token, with the axis as it is written
abbrev pub step_tree : Place → Option Axis → NodeTest → SyntaxTree
step_tree place a t = located place (axis_step (record { axis = a; test = t }))

-- values of the parts

abbrev pub test_made : NodeTest → Made
test_made t = node (Test t)

abbrev pub maybe_content : Option TestContent → Made
maybe_content None = nothing
maybe_content (Some c) = content_made c

-- a `*:` and a name
abbrev pub local_value : Place → Made → Made
local_value place (pair star (pair (characters local) space)) = test_made (node_test_is.Name (name_test.AnyNamespace place local))
local_value place _ = nothing

abbrev pub any_value : Place → Made → Made
any_value place v = test_made (node_test_is.Name (name_test.Any place))

-- a `:*` that was read, or none
abbrev pub wildcard_made : Bool → Made
wildcard_made true = characters wildcard_letters
wildcard_made false = nothing

-- any name in the namespace of a prefix, which was read as a name
abbrev pub in_namespace : QName → NodeTest
in_namespace q = node_test_is.Name (name_test.AnyInNamespace q.place q.local)

-- a gap, and what stands in parentheses behind it
abbrev pub test_value : Option KindWord → QName → Made → Made
test_value k q (pair space (node (Content c))) = test_made (test_of k q (Some c))
test_value k q _ = test_made (test_of k q None)

-- a test as a step with that axis
abbrev pub step_made : Place → Option Axis → Made → Made
step_made place a (node (Test t)) = tree (step_tree place a t)
step_made place a _ = nothing

-- what stands behind a name with `:*`, and behind one without
abbrev pub if_wildcard : Made → Phrase → Phrase → Phrase
if_wildcard nothing any other = other
if_wildcard _ any other = any

-- `:*` right behind a name with the first of these, or the second
unfoldable pub wildcard_or : Made → Phrase → Phrase → Phrase
wildcard_or v any other = made (λ left u. second_value u) (keyed (local_wildcard (has_prefix v)) (λ w. if_wildcard w any other))

-- The place of a token is `at` of the number of characters that are left there.
module _ (at : ℕ → Place) where
  -- `*`, or `*:` and a name
  unfoldable pub wildcard : Phrase
  wildcard =
      choose (at_tokens (word_of word.AnyPrefix ∷ [])) (made (λ left v. local_value (at left) v) (token (word_of word.AnyPrefix) & token ncname & token gap)) (made (λ left v. any_value (at left) v) (lexeme (word_of word.AnyName)))

  -- the parentheses of a kind test, if they stand there
  unfoldable pub kind_content : Option KindWord → Phrase
  kind_content (Some k) = choose (by_character (is 40)) (content at k) empty
  kind_content None = empty

  -- what stands behind the name of a test
  unfoldable pub behind_test : Made → Phrase
  behind_test v = made (λ left u. test_value (kind_word v) (name_at (at (left + name_length v)) v) u) (token gap & kind_content (kind_word v))

  -- the gap behind a name and `:*`, as a test
  unfoldable pub any_test : Made → Phrase
  any_test v = made (λ left u. test_made (in_namespace (name_at (at ((left + 2) + name_length v)) v))) (token gap)

  unfoldable pub node_test : Phrase
  node_test = choose (by_character is_ncname_start) (made (λ left v. second_value v) (keyed qname (λ v. wildcard_or v (any_test v) (behind_test v)))) wildcard

  -- `::` and a test
  unfoldable pub axis_test : Phrase
  axis_test = made (λ left v. second_value v) (lexeme (word_of word.Colons) & node_test)

  -- `@` and a test
  unfoldable pub attribute_step : Phrase
  attribute_step = made (λ left v. step_made (at left) (Some axis.Attribute) (second_value v)) (lexeme (word_of word.AtSign) & node_test)

  -- the gap behind a name and `:*`, as a step
  unfoldable pub any_step : Made → Phrase
  any_step v = made (λ left u. step_made (at ((left + 2) + name_length v)) None u) (any_test v)

  unfoldable pub wildcard_step : Phrase
  wildcard_step = made (λ left v. step_made (at left) None v) wildcard
