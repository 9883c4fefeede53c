-- The grammar of the language.
--   Expr ::= Single ("," Single)*          Single ::= Flwor | Some | Switch | "if" "(" Expr ")" "then" Single "else" Single | Or
--   Or ::= And ("or" And)*                 And ::= Comp ("and" Comp)*
--   Comp ::= Range (("=" | "!=" | "<" | "<=" | ">" | ">=" | "eq" | "ne" | "lt" | "le" | "gt" | "ge" | "is" | "<<" | ">>") Range)?
--   Range ::= Add ("to" Add)?              Add ::= Mul (("+" | "-") Mul)*
--   Mul ::= Union (("*" | "div" | "idiv" | "mod") Union)*
--   Union ::= Inter (("union" | "|") Inter)*        Inter ::= Inst (("intersect" | "except") Inst)*
--   Inst ::= Treat ("instance" "of" SeqType)?       Treat ::= Castable ("treat" "as" SeqType)?
--   Castable ::= Cast ("castable" "as" QName "?"?)?   Cast ::= Unary ("cast" "as" QName "?"?)?
--   Unary ::= ("-" | "+")* Path            Path ::= Pred (("/" | "//") Pred)*
--   Pred ::= Step ("[" Expr "]")*
--   Step ::= Literal | "$" QName | "(" Expr? ")" | "." | ".." | Forward | QName "(" (Single ("," Single)*)? ")" | Direct
-- A Single, and a direct element in the content of another, stands inside at most 39 Singles and direct elements; each chain
-- has at most 64 members, and each step at most 64 predicates.
use Rattle.std.specs.Prelude.{ℕ, zero, suc, ◌+◌, ◌-◌, List, [], ◌∷◌, ◌||◌, Bool, true, false, Option, Some, None, if◌then◌else◌, length, codes}
use Rattle.gx_base.specs.declared.place.Place.{Place}
use Rattle.gx_ast.specs.declared.name.Axis.{Axis}
use Rattle.gx_ast.specs.declared.name.QName.{QName}
use Rattle.gx_ast.specs.SyntaxTree.{at as located, call}
use Rattle.gx_grammar.specs.Grammar.{token, empty, ◌&◌, keyed, choose, many, rule, made}
use Rattle.gx_grammar.specs.Value.{node, pair}
use Rattle.gx_grammar.specs.Language.{Language}
use Rattle.gx_grammar.specs.First.{EndsOrStarts, BeginsWith, by_character}
use Rattle.gx_grammar.specs.Apart.{is}
use Rattle.gx_grammar.specs.Places.{place_at}
use Rattle.gx_parse_grammar.specs.declared.word.Barrier.TheVariants as barrier
use Rattle.gx_parse_grammar.specs.declared.word.Word.TheVariants as word
use Rattle.gx_parse_grammar.specs.declared.word.Level.{Level}
use Rattle.gx_parse_grammar.specs.declared.word.Level.TheVariants as level
use Rattle.gx_parse_grammar.specs.declared.word.WordSet.{WordSet}
use Rattle.gx_parse_grammar.specs.declared.word.WordSet.TheVariants as set
use Rattle.gx_base.specs.NameCharacters.{is_ncname_start}
use Rattle.gx_parse_grammar.specs.declared.word.Barrier.{Barrier}
use Rattle.gx_parse_grammar.specs.Tokens.{Token, one_of, qname, number, number_end, gap, gap_then_open, gap_not_open, barred, gap_then_dollar, gap_then_neither, barred_words, no_element, reference, text_run, derives, opens, scan, seen, faults, constructor, no_constructor}
pub use Rattle.gx_parse_grammar.specs.Basics.{Production, single, within, nested, Phrase, lexeme, word_of, at_tokens, is_name}
unfoldable pub use Rattle.gx_parse_grammar.specs.Basics.{keyword, operator, infix_operator, name}
use Rattle.gx_parse_grammar.specs.Casts.{casts}
use Rattle.gx_parse_grammar.specs.Computed.{computed_named, node_named, computed_value, constructor_value, named_node_value}
use Rattle.gx_parse_grammar.specs.declared.word.ComputedNode.{ComputedNode}
use Rattle.gx_parse_grammar.specs.declared.word.NamedNode.{NamedNode}
use Rattle.gx_parse_grammar.specs.declared.word.Opening.{Opening}
use Rattle.gx_parse_grammar.specs.declared.word.Branching.{Branching}
use Rattle.gx_parse_grammar.specs.declared.word.Branching.TheVariants as branching_is
use Rattle.gx_parse_grammar.specs.Binding.{opening_named, opened}
use Rattle.gx_parse_grammar.specs.Typeswitch.{branching_named, typeswitch_value, cases, default_head}
use Rattle.gx_parse_grammar.specs.declared.runs.Quote.TheVariants as quote
use Rattle.gx_parse_grammar.specs.declared.runs.Run.TheVariants as run
use Rattle.gx_parse_grammar.specs.Strings.{string_of}
use Rattle.gx_parse_grammar.specs.Direct.{start_of, element_at, direct_step}
use Rattle.gx_parse_grammar.specs.Types.{kind_word}
use Rattle.gx_parse_grammar.specs.NodeTests.{axis_word, test_of, step_tree, wildcard_or, any_step, axis_test, attribute_step, wildcard_step, kind_content}
use Rattle.gx_parse_grammar.specs.Nodes.{Node, Made, Arguments, Constructs, Content, Test, predicate_value, filtered_value, placed_value, Join, join_binary, join_path, join_comma, second_value, chain_value, signed_value, number_value, name_at, name_length, variable_value, arguments_value, named_value, dots_value, parenthesised_value, condition_value, tree}

-- an operand stands beside at most one other
abbrev pub is_single : Level → Bool
is_single level.Comparison = true
is_single level.Range = true
is_single _ = false

-- the levels from the tightest to the loosest
abbrev pub level_at : ℕ → Level
level_at zero = level.Intersect
level_at (suc zero) = level.Union
level_at (suc (suc zero)) = level.Product
level_at (suc (suc (suc zero))) = level.Sum
level_at (suc (suc (suc (suc zero)))) = level.Range
level_at (suc (suc (suc (suc (suc zero))))) = level.Comparison
level_at (suc (suc (suc (suc (suc (suc zero)))))) = level.And
level_at (suc (suc (suc (suc (suc (suc (suc k))))))) = level.Or

abbrev pub is_element_test : Made → Bool
is_element_test v = is_name (codes "attribute") v || (is_name (codes "element") v || (is_name (codes "schema-attribute") v || is_name (codes "schema-element") v))

abbrev pub is_kind_test : Made → Bool
is_kind_test v = is_name (codes "comment") v || (is_name (codes "document-node") v || (is_name (codes "node") v || (is_name (codes "processing-instruction") v || is_name (codes "text") v)))

-- a name that no function has (XQuery 1.0, appendix A.3)
abbrev pub is_reserved : Made → Bool
is_reserved v = is_element_test v || (is_kind_test v || (is_name (codes "empty-sequence") v || (is_name (codes "if") v || (is_name (codes "item") v || is_name (codes "typeswitch") v))))

-- A name with what stands behind its gap: arguments, the parentheses of a kind test, a test behind `::`, the rest of a
-- constructor, or nothing.
abbrev pub step_value : Made → QName → Made → Made
step_value v q (pair space (node (Arguments ts))) = tree (located q.place (call q ts))
step_value v q (pair space (node (Content c))) = tree (step_tree q.place None (test_of (kind_word v) q (Some c)))
step_value v q (pair space (node (Constructs f))) = tree (located q.place f)
step_value v q (pair space (node (Test t))) = tree (step_tree q.place (axis_word v) t)
step_value v q _ = tree (step_tree q.place None (test_of None q None))

-- The place of a token is `at` of the number of characters that are left there.
module _ (at : ℕ → Place) where
  -- at most so many further operands, each behind an operator; where none is left, what stands there at last
  unfoldable pub more : WordSet → Phrase → Phrase → ℕ → Phrase
  more ws operand last zero = last
  more ws operand last (suc n) = choose (at_tokens (one_of ws ∷ [])) (infix_operator at ws & operand & more ws operand last n) empty

  -- one more operator, behind which no operand may stand
  unfoldable pub stop : WordSet → Barrier → Phrase
  stop ws b = choose (at_tokens (one_of ws ∷ [])) (operator at ws & token (barred b)) empty

  -- 1 to 64 operands
  unfoldable pub chain : Join → WordSet → Phrase → Phrase → Barrier → Phrase
  chain join ws first operand b = made (λ left v. chain_value join v) (first & more ws operand (stop ws b) 63)

  -- 1 or 2 operands
  unfoldable pub two : WordSet → Phrase → Phrase → Phrase
  two ws first operand = made (λ left v. chain_value join_binary v) (first & more ws operand empty 1)

  unfoldable pub expression : ℕ → Phrase
  expression n = chain join_comma (set.Only word.Comma) (rule (single n)) (rule (single n)) barrier.Single

  -- steps

  unfoldable pub numeral : Phrase
  numeral = made (λ left v. number_value (at left) v) (token number & token number_end & token gap)

  -- a string literal or a numeric one (XQuery 1.0, section 3.1.1)
  unfoldable pub literal : Phrase
  literal = choose (by_character (is 34)) (string_of at quote.Double) (choose (by_character (is 39)) (string_of at quote.Single) numeral)

  unfoldable pub variable_step : Phrase
  variable_step = made (λ left v. variable_value (at left) v) (lexeme (word_of word.Dollar) & name at & token gap)

  unfoldable pub dots : Phrase
  dots = made (λ left v. dots_value (at left) v) (lexeme (one_of set.Dots))

  unfoldable pub parenthesised_step : ℕ → Phrase
  parenthesised_step n =
      made (λ left v. parenthesised_value (at left) v) (lexeme (word_of word.Open) & choose (by_character (is 41)) (empty & lexeme (word_of word.Close)) (expression n & lexeme (word_of word.Close)))

  unfoldable pub more_arguments : ℕ → Phrase
  more_arguments n = many (at_tokens (word_of word.Comma ∷ [])) (lexeme (word_of word.Comma) & rule (single n))

  -- the arguments of a call, behind its `(`
  unfoldable pub arguments_in : ℕ → Phrase
  arguments_in n = made (λ left v. arguments_value v) (choose (by_character (is 41)) (empty & lexeme (word_of word.Close)) ((rule (single n) & more_arguments n) & lexeme (word_of word.Close)))

  unfoldable pub arguments : ℕ → Phrase
  arguments n = made (λ left v. second_value v) (lexeme (word_of word.Open) & arguments_in n)

  -- what stands behind a name and its gap, where no `::` does
  unfoldable pub after_name : ℕ → Made → Phrase
  after_name n v = if is_reserved v then (kind_content at (kind_word v)) else (choose (by_character (is 40)) (arguments n) empty)

  -- a test behind the name of an axis, if `::` stands there
  unfoldable pub after_axis : ℕ → Option Axis → Made → Phrase
  after_axis n (Some a) v = choose (at_tokens (word_of word.Colons ∷ [])) (axis_test at) (after_name n v)
  after_axis n None v = after_name n v

  -- the rest of a document or text constructor
  unfoldable pub computed : ℕ → ComputedNode → Phrase
  computed n c = made (λ left v. computed_value c v) (lexeme (word_of word.BraceOpen) & expression n & lexeme (word_of word.CloseBrace))

  -- an expression or nothing, and `}`
  unfoldable pub braced : ℕ → Phrase
  braced n = choose (by_character (is 125)) (empty & lexeme (word_of word.CloseBrace)) (expression n & lexeme (word_of word.CloseBrace))

  -- the name of a node, and `{`
  unfoldable pub constructor_name : Phrase
  constructor_name = made (λ left v. constructor_value (at left) v) (token constructor & token gap)

  -- the rest of an element or attribute constructor
  unfoldable pub named_node : ℕ → NamedNode → Phrase
  named_node n k = made (λ left v. named_node_value k v) (constructor_name & braced n)

  -- what stands behind a name and its gap, where no constructor does
  unfoldable pub no_node : ℕ → Made → Phrase
  no_node n v = made (λ left u. second_value u) (token no_constructor & after_axis n (axis_word v) v)

  unfoldable pub constructed_by : ℕ → Made → Option ComputedNode → Option NamedNode → Phrase
  constructed_by n v (Some c) k = choose (by_character (is 123)) (computed n c) (after_name n v)
  constructed_by n v None (Some k) = choose (at_tokens (constructor ∷ [])) (named_node n k) (no_node n v)
  constructed_by n v None None = after_axis n (axis_word v) v

  -- what stands behind a name and its gap
  unfoldable pub constructed : ℕ → Made → Phrase
  constructed n v = constructed_by n v (computed_named v) (node_named v)

  -- a step whose name was read, with what stands behind it
  unfoldable pub step_of : Made → Phrase → Phrase
  step_of v behind = made (λ left u. step_value v (name_at (at (left + name_length v)) v) u) behind

  -- a name that is a step for itself
  unfoldable pub behind_plain_name : Token → Made → Phrase
  behind_plain_name t v = made (λ left u. named_value (name_at (at (left + name_length v)) v) u) (token t)

  unfoldable pub behind_any_name : ℕ → Made → Phrase
  behind_any_name n v = step_of v (token gap & constructed n v)

  unfoldable pub test_or_literal : Phrase
  test_or_literal = choose (by_character (is 64)) (attribute_step at) (choose (by_character (is 42)) (wildcard_step at) literal)

  unfoldable pub other_step : ℕ → Phrase
  other_step n =
      choose (by_character (is 36)) variable_step
      (choose (by_character (is 40)) (parenthesised_step n)
      (choose (by_character (is 60)) (direct_step at n) (choose (at_tokens (one_of set.Dots ∷ [])) dots test_or_literal)))

  unfoldable pub step : ℕ → Phrase
  step n = choose (by_character is_ncname_start) (made (λ left v. second_value v) (keyed qname (λ v. wildcard_or v (any_step at v) (behind_any_name n v)))) (other_step n)

  unfoldable pub predicate : ℕ → Phrase
  predicate n = made (λ left v. predicate_value v) (lexeme (word_of word.OpenBracket) & expression n & lexeme (word_of word.CloseBracket))

  -- at most so many further predicates
  unfoldable pub more_predicates : ℕ → ℕ → Phrase
  more_predicates n zero = choose (at_tokens (barred barrier.Predicate ∷ [])) (token (barred barrier.Predicate)) empty
  more_predicates n (suc k) = choose (at_tokens (word_of word.OpenBracket ∷ [])) (predicate n & more_predicates n k) empty

  -- a step with its predicates
  unfoldable pub filtered_step : ℕ → Phrase → Phrase
  filtered_step n first = made (λ left v. filtered_value v) (first & made (λ left v. placed_value (at left) v) (more_predicates n 64))

  -- a path with its first step
  unfoldable pub path_from : ℕ → Phrase → Phrase
  path_from n first = chain join_path set.Slashes (filtered_step n first) (filtered_step n (step n)) barrier.Step

  -- at most so many further signs
  unfoldable pub more_signs : ℕ → Phrase
  more_signs zero = choose (at_tokens (barred barrier.Sign ∷ [])) (token (barred barrier.Sign)) empty
  more_signs (suc k) = choose (at_tokens (one_of set.Signs ∷ [])) (operator at set.Signs & more_signs k) empty

  unfoldable pub signed_path : ℕ → ℕ → Phrase
  signed_path n k = made (λ left v. signed_value v) (more_signs k & path_from n (step n))

  -- operands with signs, or with steps that do not begin with a name
  unfoldable pub other_operand : ℕ → Phrase
  other_operand n =
      choose (at_tokens (one_of set.Signs ∷ [])) (made (λ left v. signed_value v) ((operator at set.Signs & more_signs 63) & path_from n (step n))) (path_from n (other_step n))

  -- the operators of so many levels, with the first operand
  unfoldable pub ladder : ℕ → ℕ → Phrase → Phrase
  ladder zero n first = casts at first
  ladder (suc k) n first =
      if is_single (level_at k) then (two (set.Operators (level_at k)) (ladder k n first) (ladder k n (signed_path n 64)))
      else (chain join_binary (set.Operators (level_at k)) (ladder k n first) (ladder k n (signed_path n 64)) barrier.Single)

  unfoldable pub condition : ℕ → Made → Phrase
  condition n v =
      made (λ left u. condition_value (at (left + name_length v)) u)
      (token gap_then_open & token gap & expression n & lexeme (word_of word.Close) & keyword word.Then & rule (single n) & keyword word.Else & rule (single n))

  -- a typeswitch behind its word
  unfoldable pub typeswitch : ℕ → Made → Phrase
  typeswitch n v =
      made (λ left u. typeswitch_value (at (left + name_length v)) u)
      (token gap_then_open & token gap & expression n & lexeme (word_of word.Close) & cases at n & default_head at & rule (single n))

  -- what a name begins, behind it
  unfoldable pub branched : ℕ → Branching → Made → Phrase
  branched n branching_is.If v = condition n v
  branched n branching_is.Typeswitch v = typeswitch n v

  -- a Single whose name was read, where the name is `if` or `typeswitch`, or not
  unfoldable pub branched_or_name : ℕ → Made → Option Branching → Phrase
  branched_or_name n v (Some b) = choose (at_tokens (gap_then_open ∷ [])) (branched n b v) (ladder 8 n (path_from n (behind_plain_name gap_not_open v)))
  branched_or_name n v None = ladder 8 n (path_from n (behind_any_name n v))

  -- a Single whose name was read
  unfoldable pub begun : ℕ → Made → Phrase
  begun n v = branched_or_name n v (branching_named v)

  -- the name of a clause or a quantifier, where none begins
  unfoldable pub behind_keyword : ℕ → Made → Phrase
  behind_keyword n v =
      choose (at_tokens (gap_then_open ∷ [])) (made (λ left u. named_value (name_at (at (left + name_length v)) v) u) (lexeme gap_then_open & arguments_in n)) (behind_plain_name gap_then_neither v)

  -- a Single whose name was read, where the name is that of a clause or a quantifier, or not
  unfoldable pub opened_or_name : ℕ → Made → Option Opening → Phrase
  opened_or_name n v (Some o) = choose (at_tokens (gap_then_dollar ∷ [])) (opened at n o v) (ladder 8 n (path_from n (behind_keyword n v)))
  opened_or_name n v None = begun n v

  unfoldable pub named_single : ℕ → Made → Phrase
  named_single n v = opened_or_name n v (opening_named v)

  abbrev pub rules : Production → Phrase
  rules (single zero) = token (barred barrier.Single)
  rules (single (suc n)) = choose (by_character is_ncname_start) (made (λ left v. second_value v) (keyed qname (λ v. wildcard_or v (ladder 8 n (path_from n (any_step at v))) (named_single n v)))) (ladder 8 n (other_operand n))
  rules (within zero) = token (barred barrier.Single)
  rules (within (suc n)) = expression n
  rules (nested zero) = token no_element
  rules (nested (suc zero)) = token no_element
  rules (nested (suc (suc n))) = element_at at (suc n)

  -- what may stand behind a Single
  abbrev pub behind_single : List Token
  behind_single =
      word_of word.Comma ∷ word_of word.Close ∷ word_of word.Then ∷ word_of word.Else ∷ word_of word.CloseBracket ∷ word_of word.CloseBrace ∷ word_of word.Semicolon ∷ word_of word.Return ∷ word_of word.Satisfies ∷ word_of word.Case ∷ word_of word.Default
      ∷ word_of word.Order ∷ word_of word.Stable ∷ one_of set.Binders ∷ barred_words set.Binders ∷ word_of word.Where ∷ one_of set.Directions ∷ word_of word.Empty ∷ barred_words (set.Only word.Case) ∷ []

  -- what may stand behind an element in the content of another
  abbrev pub behind_nested : ℕ → List Token
  behind_nested n =
      reference ∷ word_of word.CdataOpen ∷ start_of n ∷ word_of word.TwoOpenBraces ∷ word_of word.BraceOpen ∷ word_of word.TwoCloseBraces ∷ text_run run.Content ∷ word_of word.EndTagOpen ∷ []

  abbrev pub behind : Production → List Token
  behind (single n) = behind_single
  behind (within n) = word_of word.CloseBrace ∷ []
  behind (nested n) = behind_nested n

  abbrev pub query_language : Language
  query_language = record {
    Token = Token;
    Production = Production;
    Node = Node;
    derives = derives;
    opens = opens;
    scan = scan;
    seen = seen;
    faults = faults;
    rules = rules;
    follows = λ p y. EndsOrStarts {Node = Node} derives faults (behind p) y;
    follows_cut = λ p y. BeginsWith {Node = Node} derives opens (behind p) y;
  }

-- the place of a token in a text, by the number of characters that are left there
abbrev pub place_in : List ℕ → ℕ → Place
place_in text left = place_at text (length text - left)
