-- What the functions of the reader of prologs read.
use Rattle.std.specs.Prelude.{ℕ, List, [], ◌∷◌, Option, Some}
use Rattle.gx_base.specs.declared.place.Place.{Place}
use Rattle.gx_ast.specs.declared.query.Version.{Version}
use Rattle.gx_ast.specs.declared.query.Prefix.{Prefix}
use Rattle.gx_ast.specs.declared.query.SchemaPrefix.{SchemaPrefix}
use Rattle.gx_ast.specs.declared.query.Setting.{Setting}
use Rattle.gx_ast.specs.declared.query.SettingNode.{SettingNode}
use Rattle.gx_ast.specs.declared.query.Initialiser.{Initialiser}
use Rattle.gx_ast.specs.declared.query.Parameter.{Parameter}
use Rattle.gx_ast.specs.declared.query.Definition.{Definition}
use Rattle.gx_ast.specs.declared.query.DefinitionNode.{DefinitionNode}
use Rattle.gx_grammar.specs.Value.{nothing, characters, node, pair, no_item}
use Rattle.gx_grammar.specs.Grammar.{token, ◌&◌, keyed, made}
use Rattle.gx_parse_grammar.specs.declared.word.Word.{Word}
use Rattle.gx_parse_grammar.specs.declared.word.Word.TheVariants as word
use Rattle.gx_parse_grammar.specs.Nodes.{Made, Found, Encoding, MaybeVersion, Prefixes, Imports, Says, Sets, Starts, Takes, Gives, Defines}
use Rattle.gx_parse_grammar.specs.Tokens.{gap}
use Rattle.gx_parse_grammar.specs.Basics.{Phrase, word_of, lexeme}
use Rattle.gx_parse_parts.specs.Repeated.{listed_before}
use Rattle.gx_parse_grammar.specs.Prolog.{setter_found, setter, schema_import, setting_value, text_literal, more_locations, parameter, setting, definition}
use Rattle.gx_parse_grammar.specs.Tokens.{setter_words, import_words}

abbrev pub prefix_made : Prefix → Made
prefix_made p = node (Prefixes p)

abbrev pub imports_made : SchemaPrefix → Made
imports_made p = node (Imports p)

abbrev pub says_made : SettingNode → Made
says_made s = node (Says s)

abbrev pub setting_made : Setting → Made
setting_made s = node (Sets s)

abbrev pub starts_made : Initialiser → Made
starts_made i = node (Starts i)

abbrev pub parameter_made : Parameter → Made
parameter_made p = node (Takes p)

abbrev pub gives_made : DefinitionNode → Made
gives_made d = node (Gives d)

abbrev pub definition_made : Definition → Made
definition_made d = node (Defines d)

abbrev pub encoding_made : Option (List ℕ) → Made
encoding_made e = node (Encoding e)

abbrev pub version_made : Version → Made
version_made v = node (MaybeVersion (Some v))

-- with the words and gaps in front and behind

abbrev pub gapped : Word → Made
gapped w = pair (node (Found w)) nothing

abbrev pub location_item : List ℕ → Made
location_item cs = pair (gapped word.Comma) (characters cs)

abbrev pub parameter_item : Parameter → Made
parameter_item p = pair (gapped word.Comma) (parameter_made p)

abbrev pub setting_item : Setting → Made
setting_item s = pair (setting_made s) (gapped word.Semicolon)

abbrev pub definition_item : Definition → Made
definition_item d = pair (definition_made d) (gapped word.Semicolon)

-- the list has a member
abbrev pub HasFirst : {A : Type 0} → List A → Type 0
HasFirst [] = ⊥
HasFirst (x ∷ xs) = Unit {0}

-- a first location with others behind it
abbrev pub locations_made : List (List ℕ) → Made
locations_made [] = nothing
locations_made (cs ∷ others) = pair (characters cs) (listed_before location_item others no_item)

-- parameters with `)` behind them
abbrev pub parameters_made : List Parameter → Made
parameters_made [] = pair nothing (gapped word.Close)
parameters_made (p ∷ others) = pair (pair (parameter_made p) (listed_before parameter_item others no_item)) (gapped word.Close)

-- parts of the grammar of prologs

abbrev pub further_location : Phrase
further_location = lexeme (word_of word.Comma) & text_literal

abbrev pub locations : Phrase
locations = text_literal & more_locations

-- The place of a token is `at` of the number of characters that are left there.
module _ (at : ℕ → Place) where
  abbrev pub declared_setting : Phrase
  declared_setting = made (λ left v. setting_value (at left) v) (keyed setter_words (λ w. token gap & setter at (setter_found w)))

  abbrev pub imported_setting : Phrase
  imported_setting = made (λ left v. setting_value (at left) v) (token import_words & token gap & schema_import at)

  abbrev pub further_parameter : Phrase
  further_parameter = lexeme (word_of word.Comma) & parameter at

  abbrev pub closed_setting : Phrase
  closed_setting = setting at & lexeme (word_of word.Semicolon)

  abbrev pub closed_definition : Phrase
  closed_definition = definition at & lexeme (word_of word.Semicolon)
