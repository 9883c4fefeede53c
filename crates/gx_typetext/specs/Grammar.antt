-- The grammar of type texts, where the parentheses that are open and the positions that are left are counted.
--   Type ::= Choice ("," Choice)*
--   Choice ::= Unit ("|" Unit)*
--   Unit ::= (Item | "(" Type ")") ("?" | "*" | "+")?
-- It goes from piece to piece: an operand is due, or it was read.
use Rattle.std.specs.Prelude.{ℕ, zero, suc, ◌-◌, nat_le, Bool, true, false, if◌then◌else◌, List, [], ◌∷◌, codes, Option, Some, None}
use Rattle.gx_grammar.specs.Grammar.{Grammar, token, empty, ◌&◌, keyed, choose, rule, made}
use Rattle.gx_grammar.specs.Language.{Language}
use Rattle.gx_grammar.specs.Apart.{is}
use Rattle.gx_grammar.specs.First.{EndsOrStarts, BeginsWith, Fronts, by_character, by_tokens}
use Rattle.gx_typetext.specs.declared.written.Inside.TheVariants as inside
use Rattle.gx_typetext.specs.declared.written.NameWord.{NameWord}
use Rattle.gx_typetext.specs.declared.written.NameWord.TheVariants as word
use Rattle.gx_typetext.specs.declared.written.Indicator.TheVariants as indicator
use Rattle.gx_typetext.specs.declared.written.Operand.TheVariants as operand_is
use Rattle.gx_typetext.specs.declared.written.Piece.TheVariants as piece
use Rattle.gx_typetext.specs.Nodes.{TypeTextNode, maybe_name_made, inside_made, pieces, braced_value, prefixed_value, unprefixed_value, given_name_made, name_behind_comma, test_written, declared_inside, element_inside, document_content, later_value, name_word, put, put_name, put_word, put_empty}
use Rattle.gx_typetext.specs.Tokens.{Token, symbol, keyword, local, uri, gap, derives, opens, scan, seen, no_faults, takes}

-- Where so many parentheses are open and so many positions are left, an operand is due, or what stands behind one.
pub data Production : Type 0 where
  operand : (depth room : ℕ) → Production
  behind : (depth room : ℕ) → Production

abbrev pub TypePhrase : Type 0
TypePhrase = Grammar Token Production TypeTextNode

-- a token with the gap behind it
abbrev pub lexeme : Token → TypePhrase
lexeme t = token t & token gap

-- names

unfoldable pub braced : TypePhrase
braced = made (λ left v. braced_value v) (token (symbol (codes "{")) & token uri & token (symbol (codes "}")) & token local & token gap)

unfoldable pub prefixed : TypePhrase
prefixed = made (λ left v. prefixed_value v) (token (symbol (codes "xs:")) & token local & token gap)

unfoldable pub unprefixed : TypePhrase
unprefixed = made (λ left v. unprefixed_value v) (token local & token gap)

-- the first of two parts where `xs:` stands
abbrev pub if_prefixed : TypePhrase → TypePhrase → TypePhrase
if_prefixed A B = choose (by_tokens scan no_faults seen (symbol (codes "xs:") ∷ [])) A B

unfoldable pub name : TypePhrase
name = choose (by_character (is 123)) braced (if_prefixed prefixed unprefixed)

-- a name, or `*`
unfoldable pub tested_name : TypePhrase
tested_name = choose (by_character (is 42)) (made (λ left v. maybe_name_made None) (lexeme (symbol (codes "*")))) (made (λ left v. given_name_made v) name)

-- a type's name behind a comma, or nothing
unfoldable pub behind_comma : TypePhrase
behind_comma = choose (by_character (is 44)) (made (λ left v. name_behind_comma v) (lexeme (symbol (codes ",")) & name)) (made (λ left v. maybe_name_made None) empty)

-- what stands in parentheses

unfoldable pub nothing_inside : TypePhrase
nothing_inside = made (λ left v. inside_made inside.Nothing) (lexeme (symbol (codes "(")) & lexeme (symbol (codes ")")))

unfoldable pub tested : TypePhrase
tested =
    made (λ left v. inside_made (inside.Test (test_written v)))
    (lexeme (symbol (codes "(")) & choose (by_character (is 41)) (lexeme (symbol (codes ")"))) ((tested_name & behind_comma) & lexeme (symbol (codes ")"))))

unfoldable pub declared : TypePhrase
declared = made (λ left v. declared_inside v) (lexeme (symbol (codes "(")) & name & lexeme (symbol (codes ")")))

-- the test of an element in that of a document
unfoldable pub document_test : TypePhrase
document_test =
    choose (by_character (is 101)) (made (λ left v. element_inside v) (lexeme (keyword (codes "element")) & tested)) (made (λ left v. later_value v) (lexeme (keyword (codes "schema-element")) & declared))

unfoldable pub document : TypePhrase
document =
    made (λ left v. document_content v)
    (lexeme (symbol (codes "(")) & choose (by_character (is 41)) (lexeme (symbol (codes ")"))) (document_test & lexeme (symbol (codes ")"))))

unfoldable pub word_content : NameWord → TypePhrase
word_content word.Document = document
word_content word.Element = tested
word_content word.Attribute = tested
word_content word.Schema = declared
word_content _ = nothing_inside

-- operands

-- `node()` has four positions, `item()` five, `empty-sequence()` and `none` have none, and each other operand has one.
-- Where one is begun and so many are left, these are left behind a word with parentheses, if they may stand there, and
-- behind one without them.
abbrev pub room_inside : NameWord → ℕ → Option ℕ
room_inside word.Never room = None
room_inside word.Empty room = Some (suc room)
room_inside word.Node room = if nat_le 3 room then (Some (room - 3)) else None
room_inside word.Item room = if nat_le 4 room then (Some (room - 4)) else None
room_inside word.Other room = None
room_inside _ room = Some room

abbrev pub room_bare : NameWord → ℕ → ℕ
room_bare word.Never room = suc room
room_bare _ room = room

-- what stands behind a word and its gap
unfoldable pub tail : NameWord → Option ℕ → (depth bare : ℕ) → TypePhrase
tail w None depth bare = rule (behind depth bare)
tail w (Some room) depth bare = choose (by_character (is 40)) (word_content w & rule (behind depth room)) (rule (behind depth bare))

unfoldable pub behind_word : NameWord → (depth room : ℕ) → TypePhrase
behind_word w depth room = token gap & tail w (room_inside w room) depth (room_bare w room)

-- an item type, `none` or `empty-sequence()`; where no position is left, one of the last two
unfoldable pub item : (depth room : ℕ) → TypePhrase
item depth zero =
    choose (by_character (is 110)) (made (λ left v. put (piece.Operand operand_is.Never) v) (lexeme (keyword (codes "none")) & rule (behind depth zero)))
    (made (λ left v. put_empty v) (lexeme (keyword (codes "empty-sequence")) & nothing_inside & rule (behind depth zero)))
item depth (suc room) =
    choose (by_character (is 123)) (made (λ left v. put_name v) (braced & rule (behind depth room)))
    (if_prefixed (made (λ left v. put_name v) (prefixed & rule (behind depth room)))
    (made (λ left v. put_word v) (keyed local (λ v. behind_word (name_word v) depth room))))

-- an operand, or a `(` where one more may be opened
unfoldable pub nested : Bool → (depth room : ℕ) → TypePhrase
nested true depth room = choose (by_character (is 40)) (made (λ left v. put piece.Opening v) (lexeme (symbol (codes "(")) & rule (operand (suc depth) room))) (item depth room)
nested false depth room = item depth room

-- the end of the text, or `)` where a parenthesis is open
unfoldable pub ending : (depth room : ℕ) → TypePhrase
ending zero room = made (λ left v. pieces []) empty
ending (suc depth) room = made (λ left v. put piece.Closing v) (lexeme (symbol (codes ")")) & rule (behind depth room))

-- a separator and what is behind it, or an end
unfoldable pub separated : (depth room : ℕ) → TypePhrase
separated depth room =
    choose (by_character (is 44)) (made (λ left v. put piece.Comma v) (lexeme (symbol (codes ",")) & rule (operand depth room)))
    (choose (by_character (is 124)) (made (λ left v. put piece.Bar v) (lexeme (symbol (codes "|")) & rule (operand depth room))) (ending depth room))

-- an indicator, if one stands there, and what is behind it
unfoldable pub indicated : (depth room : ℕ) → TypePhrase
indicated depth room =
    choose (by_character (is 63)) (made (λ left v. put (piece.Indicated indicator.Optional) v) (lexeme (symbol (codes "?")) & separated depth room))
    (choose (by_character (is 42)) (made (λ left v. put (piece.Indicated indicator.Star) v) (lexeme (symbol (codes "*")) & separated depth room))
    (choose (by_character (is 43)) (made (λ left v. put (piece.Indicated indicator.Plus) v) (lexeme (symbol (codes "+")) & separated depth room)) (separated depth room)))

-- At most 40 parentheses are open.
abbrev pub rules : Production → TypePhrase
rules (operand depth room) = nested (nat_le (suc depth) 40) depth room
rules (behind depth room) = indicated depth room

-- A type text has at most 1,024 positions.
abbrev pub type_phrase : TypePhrase
type_phrase = token gap & rule (operand 0 1024)

abbrev pub type_texts : Language
type_texts = record {
  Token = Token;
  Production = Production;
  Node = TypeTextNode;
  derives = derives;
  opens = opens;
  scan = scan;
  seen = seen;
  faults = no_faults;
  rules = rules;
  follows = λ p y. EndsOrStarts derives no_faults [] y;
  follows_cut = λ p y. BeginsWith derives opens [] y;
}

-- with what each production may begin
abbrev pub firsts : Production → List Token
firsts (operand depth room) = symbol (codes "(") ∷ symbol (codes "{") ∷ symbol (codes "xs:") ∷ local ∷ keyword (codes "none") ∷ keyword (codes "empty-sequence") ∷ []
firsts (behind depth room) = symbol (codes "?") ∷ symbol (codes "*") ∷ symbol (codes "+") ∷ symbol (codes ",") ∷ symbol (codes "|") ∷ symbol (codes ")") ∷ []

abbrev pub production_takes : Production → Bool
production_takes (operand depth room) = true
production_takes (behind depth room) = false

abbrev pub fronts : Fronts type_texts
fronts = record {
  takings = record { token_takes = takes; production_takes = production_takes };
  first = firsts;
  next = λ p. [];
}
