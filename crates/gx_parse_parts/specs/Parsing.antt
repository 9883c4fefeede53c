-- What the functions of the parser read.
use Rattle.std.specs.Prelude.{◌≡◌, ℕ, List, [], ◌∷◌, Bool, false, if◌then◌else◌, Result, Ok, Err, Option, Some, None}
use Rattle.gx_base.specs.declared.place.Place.{Place}
use Rattle.gx_ast.specs.SyntaxTree.{SyntaxTree, SyntaxTrees, at as located, signed, axis_step, call, filtered, a_tree, no_tree}
use Rattle.gx_ast.specs.SyntaxView.{trees_of}
use Rattle.gx_ast.specs.declared.name.QName.{QName}
use Rattle.gx_ast.specs.declared.name.NameTest.TheVariants.{Named}
use Rattle.gx_ast.specs.declared.sequence_type.NodeTest.{NodeTest}
use Rattle.gx_ast.specs.declared.sequence_type.NodeTest.TheVariants.{Name as by_name}
use Rattle.gx_grammar.specs.Grammar.{empty, ◌&◌, rule, made as made_of}
use Rattle.gx_grammar.specs.Value.{node, nothing, pair}
use Rattle.gx_grammar.specs.Reading.{State, Reading, go_on, repeat}
use Rattle.gx_grammar.specs.Ran.{Standing, Loses, Ran}
use Rattle.gx_parse_grammar.specs.declared.word.Barrier.{Barrier}
use Rattle.gx_parse_grammar.specs.declared.word.Barrier.TheVariants as barrier
use Rattle.gx_parse_grammar.specs.declared.word.Word.TheVariants as word
use Rattle.gx_parse_grammar.specs.declared.word.WordSet.{WordSet}
use Rattle.gx_parse_grammar.specs.declared.word.WordSet.TheVariants as set
use Rattle.gx_parse_parts.specs.declared.parts.Sign.{Sign}
use Rattle.gx_parse_parts.specs.declared.members.Members.{Members}
use Rattle.gx_parse_parts.specs.declared.members.Members.TheVariants.{Singles, Operands, Steps}
use Rattle.gx_parse_grammar.specs.Nodes.{Made, Operator, Join, join_binary, join_path, join_comma, joined_to, chain_value, is_minus, trees_in, tree, place_of}
use Rattle.gx_parse_grammar.specs.Grammar.{Phrase, word_of, lexeme, at_tokens, single, level_at, is_single, more, stop, step, filtered_step, signed_path, ladder, place_in}
use Rattle.gx_parse_tokens.specs.Reading.{read_in}

-- of the members of a chain: the words between them, how they are joined, what each is, what stands behind the last
-- one that may stand, and how many may stand behind the first

abbrev pub set_of : Members → WordSet
set_of Singles = set.Only word.Comma
set_of (Operands k) = set.Operators (level_at k)
set_of Steps = set.Slashes

abbrev pub join_of : Members → Join
join_of Singles = join_comma
join_of (Operands k) = join_binary
join_of Steps = join_path

abbrev pub member_of : (at : ℕ → Place) → ℕ → Members → Phrase
member_of at n Singles = rule (single n)
member_of at n (Operands k) = ladder at k n (signed_path at n 64)
member_of at n Steps = filtered_step at n (step at n)

-- there are at most two
abbrev pub is_pair : Members → Bool
is_pair (Operands k) = is_single (level_at k)
is_pair _ = false

abbrev pub barrier_of : Members → Barrier
barrier_of Steps = barrier.Step
barrier_of _ = barrier.Single

abbrev pub last_member : (at : ℕ → Place) → Members → Phrase
last_member at m = if is_pair m then empty else (stop at (set_of m) (barrier_of m))

abbrev pub most_of : Members → ℕ
most_of m = if is_pair m then 1 else 63

-- a chain with what reads its first member
unfoldable pub chain_of : (at : ℕ → Place) → ℕ → Members → Phrase → Phrase
chain_of at n m first = made_of (λ left v. chain_value (join_of m) v) (first & more at (set_of m) (member_of at n m) (last_member at m) (most_of m))

-- at most so many further members of a chain, joined to the tree so far
unfoldable pub read_chain : List ℕ → ℕ → Members → ℕ → SyntaxTree → State → Reading SyntaxTree
read_chain text n m count t s =
    go_on (read_in text n (more (place_in text) (set_of m) (member_of (place_in text) n m) (last_member (place_in text) m) count) s) (λ w u. Ok (joined_to (join_of m) t w, u))

-- a tree was kept, or memory did not suffice for it
abbrev pub KeepsTree : {E : Type 0} → SyntaxTree → Result SyntaxTree E → Standing → Standing → Type 0
KeepsTree t (Ok made) before after = (t ≡ made) × (after ≡ before)
KeepsTree t (Err e) before after = Loses before after

-- a test was kept, or memory did not suffice for it
abbrev pub KeepsTest : {E : Type 0} → Option NodeTest → Result NodeTest E → Standing → Standing → Type 0
KeepsTest test (Ok made) before after = (test ≡ Some made) × (after ≡ before)
KeepsTest test (Err e) before after = (test ≡ None) × Loses before after

-- trees in front of others
abbrev pub trees_before : List SyntaxTree → SyntaxTrees → SyntaxTrees
trees_before [] ts = ts
trees_before (u ∷ us) ts = a_tree u (trees_before us ts)

-- predicates that were read, in front of what else was, and a step with them
abbrev pub predicates_before : List SyntaxTree → Made → Made
predicates_before [] w = w
predicates_before (u ∷ us) w = pair (tree u) (predicates_before us w)

abbrev pub filtered_tree : SyntaxTree → (bracket : Place) → List SyntaxTree → SyntaxTree
filtered_tree t bracket [] = t
filtered_tree t bracket (u ∷ us) = located (place_of t) (filtered bracket t (trees_of (u ∷ us)))

-- signs that were read, and the operand with them
abbrev pub signs_before : List Sign → Made → Made
signs_before [] w = w
signs_before (x ∷ xs) w = pair (node (Operator x.place x.word)) (signs_before xs w)

abbrev pub signs_made : List Sign → Made
signs_made xs = signs_before xs nothing

abbrev pub wrapped : List Sign → SyntaxTree → SyntaxTree
wrapped [] t = t
wrapped (x ∷ xs) t = located x.place (signed (is_minus x.word) (wrapped xs t))

-- a step that is a name, and a call
abbrev pub named_tree : QName → SyntaxTree
named_tree q = located q.place (axis_step (record { axis = None; test = by_name (Named q) }))

abbrev pub called_tree : QName → SyntaxTrees → SyntaxTree
called_tree q ts = located q.place (call q ts)

-- Items were read, as these trees.
pub record Listed (trees : List SyntaxTree) (before after : Standing) (read : State → Reading Made) : Type 0 where
  pub value : Made
  pub are : trees_in value ≡ trees_before trees no_tree
  pub ran : Ran value before after read

-- Items were read, as these trees, and further ones may follow.
pub record Passed (trees : List SyntaxTree) (before here : Standing) (whole rest : State → Reading Made) : Type 0 where
  pub front : Made → Made
  pub are : (v : Made) → trees_in (front v) ≡ trees_before trees (trees_in v)
  pub ran : (v : Made) (after : Standing) → Ran v here after rest → Ran (front v) before after whole

-- What is read behind a gap is read, with the gap in front of it, as a whole.
abbrev pub Passes : Standing → Standing → (State → Reading Made) → (State → Reading Made) → Type 0
Passes here before read whole = (u : Made) (after : Standing) → Ran u here after read → Ran (pair nothing u) before after whole

-- a further argument, and at most so many
unfoldable pub read_item : List ℕ → ℕ → State → Reading Made
read_item text n s = read_in text n (lexeme (word_of word.Comma) & rule (single n)) s

unfoldable pub read_items : List ℕ → ℕ → ℕ → State → Reading Made
read_items text n count s = repeat (at_tokens (word_of word.Comma ∷ [])) (read_item text n) count s
