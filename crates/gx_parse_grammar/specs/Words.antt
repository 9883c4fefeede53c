-- How the words and symbols are spelled.
use Rattle.std.specs.Prelude.{ℕ, List, [], ◌∷◌, codes, Bool, true, false, ◌==◌, ◌||◌}
use Rattle.gx_grammar.specs.Words.{Spelling}
use Rattle.gx_parse_grammar.specs.declared.word.Word.{Word}
use Rattle.gx_parse_grammar.specs.declared.word.Word.TheVariants.{Comma, Open, Close, Dollar, Or, And, Equal, NotEqual, Less, LessOrEqual, Greater, GreaterOrEqual, Precedes, Follows, ValueEqual, ValueNotEqual, ValueLess, ValueLessOrEqual, ValueGreater, ValueGreaterOrEqual, Is, To, Plus, Minus, Times, Divide, DivideInteger, Modulo, Union, Bar, Intersect, Except, Slash, Slashes, Dot, Dots, Then, Else, CloseBracket, CloseBrace, Semicolon, Return, Satisfies, Case, Default, Order, Stable, For, Let, Where, Ascending, Descending, Empty, Question, Element, SchemaElement, Instance, Of, Treat, Castable, Cast, As, At, Greatest, Least, Quote, Apostrophe, QuoteEnd, ApostropheEnd, TwoQuotes, TwoApostrophes, LessEntity, GreaterEntity, AmpersandEntity, QuoteEntity, ApostropheEntity, TagOpen, TagEnd, EmptyTagEnd, EndTagOpen, CdataOpen, BraceOpen, TwoOpenBraces, TwoCloseBraces, Equals, OpenBracket, AtSign, Colons, AnyPrefix, AnyName, In, Assign, By, XQuery, Version, DoubleVersion, SingleVersion, Encoding, Declare, Namespace, BoundarySpace, Preserve, Strip, Construction, Ordering, Ordered, CopyNamespaces, NoPreserve, NoInherit, Import, Schema, Variable, External, Function}
use Rattle.gx_parse_grammar.specs.declared.word.Level.{Level}
use Rattle.gx_parse_grammar.specs.declared.word.Level.TheVariants as level
use Rattle.gx_parse_grammar.specs.declared.word.WordSet.{WordSet}
use Rattle.gx_parse_grammar.specs.declared.word.WordSet.TheVariants as set
use Rattle.gx_parse_grammar.specs.declared.word.ClauseWord.{ClauseWord}
use Rattle.gx_parse_grammar.specs.declared.word.ClauseWord.TheVariants as clause_word
use Rattle.gx_parse_grammar.specs.declared.word.Binder.{Binder}
use Rattle.gx_parse_grammar.specs.declared.word.Binder.TheVariants as binder
use Rattle.gx_parse_grammar.specs.declared.word.Setter.{Setter}
use Rattle.gx_parse_grammar.specs.declared.word.Setter.TheVariants as setter_is
use Rattle.gx_parse_grammar.specs.declared.word.Definer.{Definer}
use Rattle.gx_parse_grammar.specs.declared.word.Definer.TheVariants as definer_is
use Rattle.gx_parse_grammar.specs.declared.word.Ending.{Ending}
use Rattle.gx_parse_grammar.specs.declared.word.Ending.TheVariants as end
use Rattle.gx_parse_grammar.specs.Characters.{is_digit, is_word_character, no_character}

abbrev pub letters_of : Word → List ℕ
letters_of Comma = codes ","
letters_of Open = codes "("
letters_of Close = codes ")"
letters_of Dollar = codes "$"
letters_of Or = codes "or"
letters_of And = codes "and"
letters_of Equal = codes "="
letters_of NotEqual = codes "!="
letters_of Less = codes "<"
letters_of LessOrEqual = codes "<="
letters_of Greater = codes ">"
letters_of GreaterOrEqual = codes ">="
letters_of Precedes = codes "<<"
letters_of Follows = codes ">>"
letters_of ValueEqual = codes "eq"
letters_of ValueNotEqual = codes "ne"
letters_of ValueLess = codes "lt"
letters_of ValueLessOrEqual = codes "le"
letters_of ValueGreater = codes "gt"
letters_of ValueGreaterOrEqual = codes "ge"
letters_of Is = codes "is"
letters_of To = codes "to"
letters_of Plus = codes "+"
letters_of Minus = codes "-"
letters_of Times = codes "*"
letters_of Divide = codes "div"
letters_of DivideInteger = codes "idiv"
letters_of Modulo = codes "mod"
letters_of Union = codes "union"
letters_of Bar = codes "|"
letters_of Intersect = codes "intersect"
letters_of Except = codes "except"
letters_of Slash = codes "/"
letters_of Slashes = codes "//"
letters_of Dot = codes "."
letters_of Dots = codes ".."
letters_of Then = codes "then"
letters_of Else = codes "else"
letters_of CloseBracket = codes "]"
letters_of CloseBrace = codes "}"
letters_of Semicolon = codes ";"
letters_of Return = codes "return"
letters_of Satisfies = codes "satisfies"
letters_of Case = codes "case"
letters_of Default = codes "default"
letters_of Order = codes "order"
letters_of Stable = codes "stable"
letters_of For = codes "for"
letters_of Let = codes "let"
letters_of Where = codes "where"
letters_of Ascending = codes "ascending"
letters_of Descending = codes "descending"
letters_of Empty = codes "empty"
letters_of Question = codes "?"
letters_of Element = codes "element"
letters_of SchemaElement = codes "schema-element"
letters_of Instance = codes "instance"
letters_of Of = codes "of"
letters_of Treat = codes "treat"
letters_of Castable = codes "castable"
letters_of Cast = codes "cast"
letters_of As = codes "as"
letters_of At = codes "at"
letters_of Greatest = codes "greatest"
letters_of Least = codes "least"
letters_of Quote = 34 ∷ []
letters_of Apostrophe = codes "'"
letters_of QuoteEnd = 34 ∷ []
letters_of ApostropheEnd = codes "'"
letters_of TwoQuotes = 34 ∷ 34 ∷ []
letters_of TwoApostrophes = codes "''"
letters_of LessEntity = codes "&lt;"
letters_of GreaterEntity = codes "&gt;"
letters_of AmpersandEntity = codes "&amp;"
letters_of QuoteEntity = codes "&quot;"
letters_of ApostropheEntity = codes "&apos;"
letters_of TagOpen = codes "<"
letters_of TagEnd = codes ">"
letters_of EmptyTagEnd = codes "/>"
letters_of EndTagOpen = codes "</"
letters_of CdataOpen = codes "<![CDATA["
letters_of BraceOpen = codes "{"
letters_of TwoOpenBraces = codes "{{"
letters_of TwoCloseBraces = codes "}}"
letters_of Equals = codes "="
letters_of OpenBracket = codes "["
letters_of AtSign = codes "@"
letters_of Colons = codes "::"
letters_of AnyPrefix = codes "*:"
letters_of AnyName = codes "*"
letters_of In = codes "in"
letters_of Assign = codes ":="
letters_of By = codes "by"
letters_of XQuery = codes "xquery"
letters_of Version = codes "version"
letters_of DoubleVersion = 34 ∷ 49 ∷ 46 ∷ 48 ∷ 34 ∷ []
letters_of SingleVersion = codes "'1.0'"
letters_of Encoding = codes "encoding"
letters_of Declare = codes "declare"
letters_of Namespace = codes "namespace"
letters_of BoundarySpace = codes "boundary-space"
letters_of Preserve = codes "preserve"
letters_of Strip = codes "strip"
letters_of Construction = codes "construction"
letters_of Ordering = codes "ordering"
letters_of Ordered = codes "ordered"
letters_of CopyNamespaces = codes "copy-namespaces"
letters_of NoPreserve = codes "no-preserve"
letters_of NoInherit = codes "no-inherit"
letters_of Import = codes "import"
letters_of Schema = codes "schema"
letters_of Variable = codes "variable"
letters_of External = codes "external"
letters_of Function = codes "function"

abbrev pub ending_of : Word → Ending
ending_of Comma = end.Free
ending_of Open = end.Free
ending_of Close = end.Free
ending_of Dollar = end.Free
ending_of Equal = end.Free
ending_of NotEqual = end.Free
ending_of Less = end.Less
ending_of LessOrEqual = end.Free
ending_of Greater = end.Greater
ending_of GreaterOrEqual = end.Free
ending_of Precedes = end.Free
ending_of Follows = end.Free
ending_of Plus = end.Free
ending_of Minus = end.Free
ending_of Times = end.Free
ending_of Bar = end.Free
ending_of Slash = end.Slash
ending_of Slashes = end.Free
ending_of Dot = end.Point
ending_of Dots = end.Free
ending_of CloseBracket = end.Free
ending_of CloseBrace = end.Free
ending_of Semicolon = end.Free
ending_of Question = end.Free
ending_of Quote = end.Free
ending_of Apostrophe = end.Free
ending_of QuoteEnd = end.Quote
ending_of ApostropheEnd = end.Apostrophe
ending_of TwoQuotes = end.Free
ending_of TwoApostrophes = end.Free
ending_of LessEntity = end.Free
ending_of GreaterEntity = end.Free
ending_of AmpersandEntity = end.Free
ending_of QuoteEntity = end.Free
ending_of ApostropheEntity = end.Free
ending_of TagOpen = end.Tag
ending_of TagEnd = end.Free
ending_of EmptyTagEnd = end.Free
ending_of EndTagOpen = end.Free
ending_of CdataOpen = end.Free
ending_of BraceOpen = end.Brace
ending_of TwoOpenBraces = end.Free
ending_of TwoCloseBraces = end.Free
ending_of Equals = end.Free
ending_of OpenBracket = end.Free
ending_of AtSign = end.Free
ending_of Colons = end.Free
ending_of AnyPrefix = end.Free
ending_of AnyName = end.Colon
ending_of Assign = end.Free
ending_of DoubleVersion = end.Free
ending_of SingleVersion = end.Free
ending_of _ = end.Name

-- the character may not stand behind the word
abbrev pub ends_at : Ending → ℕ → Bool
ends_at end.Free = no_character
ends_at end.Name = is_word_character
ends_at end.Less = λ c. c == 61 || c == 60
ends_at end.Greater = λ c. c == 61 || c == 62
ends_at end.Slash = λ c. c == 47
ends_at end.Point = λ c. c == 46 || is_digit c
ends_at end.Quote = λ c. c == 34
ends_at end.Apostrophe = λ c. c == 39
ends_at end.Tag = λ c. c == 47 || c == 33
ends_at end.Brace = λ c. c == 123
ends_at end.Colon = λ c. c == 58

-- the word ends as a name does
abbrev pub ends_as_name : Ending → Bool
ends_as_name end.Name = true
ends_as_name _ = false

abbrev pub is_keyword : Word → Bool
is_keyword w = ends_as_name (ending_of w)

abbrev pub spelling_of : Word → Spelling
spelling_of w = record { word = letters_of w; test = ends_at (ending_of w) }

abbrev pub operators_of : Level → List Word
operators_of level.Or = Or ∷ []
operators_of level.And = And ∷ []
operators_of level.Comparison =
    Equal ∷ NotEqual ∷ Less ∷ LessOrEqual ∷ Greater ∷ GreaterOrEqual ∷ Precedes ∷ Follows ∷ ValueEqual ∷ ValueNotEqual ∷ ValueLess ∷ ValueLessOrEqual ∷ ValueGreater ∷ ValueGreaterOrEqual ∷ Is ∷ []
operators_of level.Range = To ∷ []
operators_of level.Sum = Plus ∷ Minus ∷ []
operators_of level.Product = Times ∷ Divide ∷ DivideInteger ∷ Modulo ∷ []
operators_of level.Union = Union ∷ Bar ∷ []
operators_of level.Intersect = Intersect ∷ Except ∷ []

abbrev pub words_of : WordSet → List Word
words_of (set.Only w) = w ∷ []
words_of (set.Operators l) = operators_of l
words_of set.Signs = Plus ∷ Minus ∷ []
words_of set.Slashes = Slash ∷ Slashes ∷ []
words_of set.Dots = Dots ∷ Dot ∷ []
words_of set.Indicators = Question ∷ Times ∷ Plus ∷ []
words_of set.Directions = Ascending ∷ Descending ∷ []
words_of set.Extremes = Greatest ∷ Least ∷ []
words_of set.Binders = For ∷ Let ∷ []
words_of set.Versions = DoubleVersion ∷ SingleVersion ∷ []
words_of set.Setters = Namespace ∷ Default ∷ BoundarySpace ∷ Construction ∷ Ordering ∷ CopyNamespaces ∷ []
words_of set.SpaceModes = Preserve ∷ Strip ∷ []
words_of set.Definers = Variable ∷ Function ∷ []

-- the word of a clause, as it was found
abbrev pub clause_word_of : Word → ClauseWord
clause_word_of For = clause_word.For
clause_word_of _ = clause_word.Let

-- what binds the variables of a clause
abbrev pub binder_in : ClauseWord → Binder
binder_in clause_word.For = binder.For
binder_in clause_word.Let = binder.Let

-- the word in front of what a variable is bound to
abbrev pub binding_word : Binder → Word
binding_word binder.For = In
binding_word binder.Let = Assign
binding_word binder.Quantifier = In

-- what a word behind `declare` is about, and what it defines

abbrev pub setter_of : Word → Setter
setter_of Namespace = setter_is.Namespace
setter_of Default = setter_is.Default
setter_of BoundarySpace = setter_is.BoundarySpace
setter_of Construction = setter_is.Construction
setter_of Ordering = setter_is.Ordering
setter_of _ = setter_is.CopyNamespaces

abbrev pub definer_of : Word → Definer
definer_of Variable = definer_is.Variable
definer_of _ = definer_is.Function
