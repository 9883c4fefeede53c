-- Queries with their prologs.
--   Query  ::= ("xquery" "version" ('"1.0"' | "'1.0'") ("encoding" Str)? ";")? (First ";")* (Second ";")* Expr
--   First  ::= "declare" "namespace" NCName "=" Str           | "declare" "default" "element" "namespace" Str
--     | "declare" "boundary-space" ("preserve" | "strip")     | "declare" "construction" "strip"
--     | "declare" "ordering" "ordered"                        | "declare" "default" "order" "empty" ("greatest" | "least")
--     | "declare" "copy-namespaces" "no-preserve" "," "no-inherit"
--     | "import" "schema" ("namespace" NCName "=" | "default" "element" "namespace")? Str "at" Str ("," Str)*
--   Second ::= "declare" "variable" Var As? (":=" Single | "external")
--     | "declare" "function" QName "(" (Var As? ("," Var As?)*)? ")" As? "{" Expr "}"
-- `xquery`, `declare` and `import` are names too: a declaration begins where one of the words for it stands behind.
use Rattle.std.specs.Prelude.{ℕ, List, [], ◌∷◌, Bool, true, false, Some, None}
use Rattle.gx_base.specs.declared.place.Place.{Place}
use Rattle.gx_ast.specs.SyntaxTree.{at as located, empty_sequence}
use Rattle.gx_ast.specs.declared.sequence_type.EmptyOrder.{EmptyOrder}
use Rattle.gx_ast.specs.declared.sequence_type.EmptyOrder.TheVariants as empty_order
use Rattle.gx_ast.specs.declared.query.SchemaPrefix.TheVariants as schema_prefix_is
use Rattle.gx_ast.specs.declared.query.Setting.{Setting}
use Rattle.gx_ast.specs.declared.query.SettingNode.TheVariants as sets
use Rattle.gx_ast.specs.declared.query.Initialiser.TheVariants as initial
use Rattle.gx_ast.specs.declared.query.Parameter.{Parameter}
use Rattle.gx_ast.specs.declared.query.Definition.{Definition}
use Rattle.gx_ast.specs.declared.query.DefinitionNode.TheVariants as defines
use Rattle.gx_ast.specs.declared.query.Query.{Query}
use Rattle.gx_grammar.specs.Value.{nothing, characters, node, pair, an_item}
use Rattle.gx_grammar.specs.Grammar.{token, empty, ◌&◌, keyed, choose, many, rule, made}
use Rattle.gx_grammar.specs.First.{by_character}
use Rattle.gx_grammar.specs.Apart.{is}
use Rattle.gx_parse_grammar.specs.declared.word.Word.TheVariants as word
use Rattle.gx_parse_grammar.specs.declared.word.WordSet.TheVariants as set
use Rattle.gx_parse_grammar.specs.declared.word.Setter.{Setter}
use Rattle.gx_parse_grammar.specs.declared.word.Setter.TheVariants as setter_is
use Rattle.gx_parse_grammar.specs.declared.word.Definer.{Definer}
use Rattle.gx_parse_grammar.specs.declared.word.Definer.TheVariants as definer_is
use Rattle.gx_parse_grammar.specs.declared.runs.Quote.{Quote}
use Rattle.gx_parse_grammar.specs.declared.runs.Quote.TheVariants as quote
use Rattle.gx_parse_grammar.specs.Words.{setter_of, definer_of}
use Rattle.gx_parse_grammar.specs.Nodes.{Made, Tree, Found, Name, MaybeBound, MaybeType, Encoding, MaybeVersion, Prefixes, Imports, Says, Sets, Starts, Takes, Gives, Defines, Whole}
use Rattle.gx_parse_grammar.specs.Tokens.{one_of, ncname, gap, version_words, setter_words, import_words, definer_words}
use Rattle.gx_parse_grammar.specs.Basics.{Phrase, single, word_of, lexeme, at_tokens}
use Rattle.gx_parse_grammar.specs.Types.{written_name}
use Rattle.gx_parse_grammar.specs.Strings.{text_of_parts, quoted}
use Rattle.gx_parse_grammar.specs.Bound.{bound, bound_type}
use Rattle.gx_parse_grammar.specs.Grammar.{expression}

-- a text in quotes, with the gap behind it
abbrev pub text_value : Made → Made
text_value (pair v space) = characters (text_of_parts v)
text_value _ = nothing

abbrev pub prefix_value : Place → Made → Made
prefix_value place (pair (pair (characters cs) space) equals) = node (Prefixes (record { place = place; name = cs }))
prefix_value place _ = nothing

-- settings

abbrev pub namespace_value : Made → Made
namespace_value (pair (node (Prefixes p)) (characters uri)) = node (Says (sets.Namespace p uri))
namespace_value _ = nothing

abbrev pub default_namespace_value : Made → Made
default_namespace_value (pair element (pair namespace (characters uri))) = node (Says (sets.DefaultElementNamespace uri))
default_namespace_value _ = nothing

abbrev pub empty_order_of : Made → EmptyOrder
empty_order_of (pair (node (Found word.Greatest)) space) = empty_order.Greatest
empty_order_of _ = empty_order.Least

abbrev pub empty_order_value : Made → Made
empty_order_value (pair order (pair nothing_word extreme)) = node (Says (sets.EmptyOrder (empty_order_of extreme)))
empty_order_value _ = nothing

abbrev pub preserves : Made → Bool
preserves (pair (node (Found word.Preserve)) space) = true
preserves _ = false

abbrev pub boundary_space_value : Made → Made
boundary_space_value w = node (Says (sets.BoundarySpace (preserves w)))

abbrev pub schema_prefix_value : Made → Made
schema_prefix_value (pair namespace (node (Prefixes p))) = node (Imports (schema_prefix_is.Named p))
schema_prefix_value _ = nothing

abbrev pub texts_listed : Made → List (List ℕ)
texts_listed (an_item (pair comma (characters cs)) others) = cs ∷ texts_listed others
texts_listed _ = []

abbrev pub import_value : Made → Made
import_value (pair (node (Imports p)) (pair (characters uri) (pair at_word (pair (characters first) others)))) = node (Says (sets.Schema p uri (first ∷ texts_listed others)))
import_value _ = nothing

-- two words with their gap, and what is said behind them
abbrev pub setting_value : Place → Made → Made
setting_value place (pair w (pair space (node (Says s)))) = node (Sets (record { place = place; node = s }))
setting_value place _ = nothing

abbrev pub setter_found : Made → Setter
setter_found (node (Found w)) = setter_of w
setter_found _ = setter_is.CopyNamespaces

-- definitions

abbrev pub initialiser_value : Made → Made
initialiser_value (pair assign (node (Tree t))) = node (Starts (initial.Value t))
initialiser_value _ = node (Starts initial.External)

abbrev pub variable_definition : Made → Made
variable_definition (pair (node (MaybeBound (Some x))) (pair (node (MaybeType k)) (node (Starts i)))) = node (Gives (defines.Variable x k i))
variable_definition _ = nothing

abbrev pub parameter_value : Made → Made
parameter_value (pair (node (MaybeBound (Some x))) (node (MaybeType k))) = node (Takes (record { variable = x; kind = k }))
parameter_value _ = nothing

abbrev pub parameters_listed : Made → List Parameter
parameters_listed (an_item (pair comma (node (Takes p))) others) = p ∷ parameters_listed others
parameters_listed _ = []

-- nothing or a list, then `)`
abbrev pub parameters_in : Made → List Parameter
parameters_in (pair (pair (node (Takes p)) others) close) = p ∷ parameters_listed others
parameters_in _ = []

abbrev pub function_definition : Made → Made
function_definition (pair (node (Name q)) (pair opening (pair ps (pair (node (MaybeType k)) (pair brace (pair (node (Tree t)) closing)))))) = node (Gives (defines.Function q (parameters_in ps) k t))
function_definition _ = nothing

abbrev pub definition_value : Place → Made → Made
definition_value place (pair w (pair space (node (Gives d)))) = node (Defines (record { place = place; node = d }))
definition_value place _ = nothing

abbrev pub definer_found : Made → Definer
definer_found (node (Found w)) = definer_of w
definer_found _ = definer_is.Function

-- whole queries

abbrev pub encoding_value : Made → Made
encoding_value (pair w (characters cs)) = node (Encoding (Some cs))
encoding_value _ = node (Encoding None)

abbrev pub version_value : Place → Made → Made
version_value place (pair (pair w (pair space (pair version (node (Encoding e))))) semicolon) = node (MaybeVersion (Some (record { place = place; encoding = e })))
version_value place _ = nothing

abbrev pub settings_in : Made → List Setting
settings_in (an_item (pair (node (Sets s)) semicolon) others) = s ∷ settings_in others
settings_in _ = []

abbrev pub definitions_in : Made → List Definition
definitions_in (an_item (pair (node (Defines d)) semicolon) others) = d ∷ definitions_in others
definitions_in _ = []

-- a gap, the version, the two parts of the prolog, and the body
abbrev pub query_in : Place → Made → Query
query_in place (pair space (pair (node (MaybeVersion v)) (pair ss (pair ds (node (Tree t)))))) = record { version = v; settings = settings_in ss; definitions = definitions_in ds; body = t }
query_in place _ = record { version = None; settings = []; definitions = []; body = located place empty_sequence }

unfoldable pub text_of : Quote → Phrase
text_of q = made (λ left v. text_value v) (quoted q & token gap)

unfoldable pub text_literal : Phrase
text_literal = choose (by_character (is 34)) (text_of quote.Double) (text_of quote.Single)

unfoldable pub default_namespace : Phrase
default_namespace = made (λ left v. default_namespace_value v) (lexeme (word_of word.Element) & lexeme (word_of word.Namespace) & text_literal)

unfoldable pub empty_order_setter : Phrase
empty_order_setter = made (λ left v. empty_order_value v) (lexeme (word_of word.Order) & lexeme (word_of word.Empty) & lexeme (one_of set.Extremes))

unfoldable pub default_setter : Phrase
default_setter = choose (at_tokens (word_of word.Element ∷ [])) default_namespace empty_order_setter

unfoldable pub boundary_space_setter : Phrase
boundary_space_setter = made (λ left v. boundary_space_value v) (lexeme (one_of set.SpaceModes))

unfoldable pub construction_setter : Phrase
construction_setter = made (λ left v. node (Says sets.Construction)) (lexeme (word_of word.Strip))

unfoldable pub ordering_setter : Phrase
ordering_setter = made (λ left v. node (Says sets.Ordering)) (lexeme (word_of word.Ordered))

unfoldable pub copy_setter : Phrase
copy_setter = made (λ left v. node (Says sets.CopyNamespaces)) (lexeme (word_of word.NoPreserve) & lexeme (word_of word.Comma) & lexeme (word_of word.NoInherit))

unfoldable pub default_schema : Phrase
default_schema = made (λ left v. node (Imports schema_prefix_is.Default)) (lexeme (word_of word.Default) & lexeme (word_of word.Element) & lexeme (word_of word.Namespace))

unfoldable pub more_locations : Phrase
more_locations = many (at_tokens (word_of word.Comma ∷ [])) (lexeme (word_of word.Comma) & text_literal)

unfoldable pub initialiser : Phrase
initialiser = made (λ left v. initialiser_value v) (choose (at_tokens (word_of word.Assign ∷ [])) (lexeme (word_of word.Assign) & rule (single 40)) (lexeme (word_of word.External)))

unfoldable pub encoding : Phrase
encoding = made (λ left v. encoding_value v) (choose (at_tokens (word_of word.Encoding ∷ [])) (lexeme (word_of word.Encoding) & text_literal) empty)

-- The place of a token is `at` of the number of characters that are left there.
module _ (at : ℕ → Place) where
  -- a prefix and `=`
  unfoldable pub prefix : Phrase
  prefix = made (λ left v. prefix_value (at left) v) (lexeme ncname & lexeme (word_of word.Equals))

  unfoldable pub namespace_setter : Phrase
  namespace_setter = made (λ left v. namespace_value v) (prefix & text_literal)

  -- what stands behind `declare` and this word
  unfoldable pub setter : Setter → Phrase
  setter setter_is.Namespace = namespace_setter
  setter setter_is.Default = default_setter
  setter setter_is.BoundarySpace = boundary_space_setter
  setter setter_is.Construction = construction_setter
  setter setter_is.Ordering = ordering_setter
  setter setter_is.CopyNamespaces = copy_setter

  unfoldable pub named_schema : Phrase
  named_schema = made (λ left v. schema_prefix_value v) (lexeme (word_of word.Namespace) & prefix)

  unfoldable pub schema_prefix : Phrase
  schema_prefix =
      choose (at_tokens (word_of word.Namespace ∷ [])) named_schema
      (choose (at_tokens (word_of word.Default ∷ [])) default_schema (made (λ left v. node (Imports schema_prefix_is.Unnamed)) empty))

  unfoldable pub schema_import : Phrase
  schema_import = made (λ left v. import_value v) (schema_prefix & text_literal & lexeme (word_of word.At) & text_literal & more_locations)

  -- a declaration of the first part
  unfoldable pub setting : Phrase
  setting =
      choose (at_tokens (setter_words ∷ [])) (made (λ left v. setting_value (at left) v) (keyed setter_words (λ w. token gap & setter (setter_found w))))
      (made (λ left v. setting_value (at left) v) (token import_words & token gap & schema_import))

  unfoldable pub variable_definer : Phrase
  variable_definer = made (λ left v. variable_definition v) (bound at & bound_type at & initialiser)

  unfoldable pub parameter : Phrase
  parameter = made (λ left v. parameter_value v) (bound at & bound_type at)

  unfoldable pub more_parameters : Phrase
  more_parameters = many (at_tokens (word_of word.Comma ∷ [])) (lexeme (word_of word.Comma) & parameter)

  -- behind `(`
  unfoldable pub parameters : Phrase
  parameters = choose (by_character (is 41)) (empty & lexeme (word_of word.Close)) ((parameter & more_parameters) & lexeme (word_of word.Close))

  unfoldable pub function_definer : Phrase
  function_definer =
      made (λ left v. function_definition v)
      (written_name at & lexeme (word_of word.Open) & parameters & bound_type at & lexeme (word_of word.BraceOpen) & expression at 40 & lexeme (word_of word.CloseBrace))

  -- what stands behind `declare` and this word
  unfoldable pub definer : Definer → Phrase
  definer definer_is.Variable = variable_definer
  definer definer_is.Function = function_definer

  -- a declaration of the second part
  unfoldable pub definition : Phrase
  definition = made (λ left v. definition_value (at left) v) (keyed definer_words (λ w. token gap & definer (definer_found w)))

  unfoldable pub version : Phrase
  version = made (λ left v. version_value (at left) v) ((token version_words & token gap & lexeme (one_of set.Versions) & encoding) & lexeme (word_of word.Semicolon))

  unfoldable pub maybe_version : Phrase
  maybe_version = choose (at_tokens (version_words ∷ [])) version (made (λ left v. node (MaybeVersion None)) empty)

  unfoldable pub settings : Phrase
  settings = many (at_tokens (setter_words ∷ import_words ∷ [])) (setting & lexeme (word_of word.Semicolon))

  unfoldable pub definitions : Phrase
  definitions = many (at_tokens (definer_words ∷ [])) (definition & lexeme (word_of word.Semicolon))

  -- 40 Singles may stand one inside another
  unfoldable pub query : Phrase
  query = made (λ left v. node (Whole (query_in (at left) v))) (token gap & maybe_version & settings & definitions & expression at 40)
