-- How computed constructors are read behind their names.
use Rattle.std.proofs.Common.{◌≡◌, ℕ, ◌+◌, Bool, true, false, List, [], ◌∷◌, refl, sym, subst, Option, Some, None}
use Rattle.gx_base.specs.declared.place.Place.{Place}
use Rattle.gx_ast.specs.declared.name.Axis.{Axis}
use Rattle.gx_ast.specs.declared.name.QName.{QName}
use Rattle.gx_ast.specs.SyntaxTree.{SyntaxForm, SyntaxTree, at as located}
use Rattle.gx_grammar.specs.Value.{nothing, node, pair}
use Rattle.gx_grammar.specs.Grammar.{token, empty, ◌&◌}
use Rattle.gx_grammar.specs.Apart.{is}
use Rattle.gx_grammar.specs.First.{by_character}
use Rattle.gx_grammar.specs.Reading.{State, Reading}
use Rattle.gx_grammar.specs.Ran.{Standing, Ran, Looked, left_of}
use Rattle.gx_parse_grammar.specs.declared.word.Word.TheVariants as word
use Rattle.gx_parse_grammar.specs.declared.word.ComputedNode.{ComputedNode}
use Rattle.gx_parse_grammar.specs.declared.word.NamedNode.{NamedNode}
use Rattle.gx_parse_tokens.specs.declared.names.ReadName.{ReadName}
use Rattle.gx_parse_tokens.specs.Names.{name_made}
use Rattle.gx_parse_grammar.specs.Nodes.{Made, Constructs, name_at, name_length, second_value, tree}
use Rattle.gx_parse_grammar.specs.Tokens.{gap, constructor, no_constructor}
use Rattle.gx_parse_grammar.specs.Types.{named}
use Rattle.gx_parse_grammar.specs.NodeTests.{axis_word, axis_test}
use Rattle.gx_parse_grammar.specs.Computed.{computed_form, computed_named, computed_value, constructor_value, named_node_value, node_named}
use Rattle.gx_parse_grammar.specs.Grammar.{Phrase, word_of, lexeme, at_tokens, expression, after_name, after_axis, behind_any_name, braced, computed, constructed, constructed_by, constructor_name, named_node, no_node, step_of, step_value, place_in}
use Rattle.gx_parse_tokens.specs.Reading.{read_in, read_one}
use Rattle.gx_parse_parts.specs.Parsing.{Passes}
use Rattle.gx_parse_parts.proofs.Phrases.{in_token, in_both, in_empty, in_left, in_right, in_made}
use Rattle.gx_parse.proofs.Steps.{name_placed}

module _ (text : List ℕ) (n : ℕ) where
  abbrev reading : Phrase → State → Reading Made
  reading A = read_in text n A

  abbrev at : ℕ → Place
  at left = place_in text left

  -- a step of a name, with what was read of a part behind it
  pub part_read : (v u : Made) (part whole : Phrase) (place : Place) (here a z : Standing) → place ≡ place_in text (left_of a + name_length v) → Passes here a (reading part) (reading whole) → Ran u here z (reading part)
      → Ran (step_value v (name_at place v) (pair nothing u)) a z (reading (step_of (place_in text) v whole))
  unfolding step_of
  part_read v u part whole place here a z e pass h =
      subst (λ p. Ran (step_value v (name_at p v) (pair nothing u)) a z (reading (step_of (place_in text) v whole))) (sym e)
      (in_made text n (λ left u. step_value v (name_at (place_in text (left + name_length v)) v) u) whole (pair nothing u) a z (pass u z h))

  -- a constructor, at the place of its word
  pub constructor_read : (name : ReadName) (f : SyntaxForm) (part whole : Phrase) (place : Place) (here a z : Standing) → place ≡ place_in text (left_of a + name_length (name_made name)) → Passes here a (reading part) (reading whole)
      → Ran (node (Constructs f)) here z (reading part) → Ran (tree (located place f)) a z (reading (step_of (place_in text) (name_made name) whole))
  constructor_read name f part whole place here a z e pass h =
      subst (λ p. Ran (tree (located p f)) a z (reading (step_of (place_in text) (name_made name) whole))) (name_placed place name)
      (part_read (name_made name) (node (Constructs f)) part whole place here a z e pass h)

  -- behind the gap of the name

  pub gap_passes : (v : Made) (a b : Standing) → Ran nothing a b (read_one gap) → Passes b a (reading (constructed (place_in text) n v)) (reading (token gap & constructed (place_in text) n v))
  gap_passes v a b h = λ u z k. in_both text n (token gap) (constructed (place_in text) n v) nothing u a b z (in_token text n gap nothing a b h) k

  pub any_name_constructed : (v u : Made) (a b : Standing) → Ran u a b (reading (step_of (place_in text) v (token gap & constructed (place_in text) n v))) → Ran u a b (reading (behind_any_name (place_in text) n v))
  unfolding behind_any_name
  any_name_constructed v u a b h = h

  module _ (v : Made) (whole : Phrase) (here a : Standing) (pass : Passes here a (reading (constructed (place_in text) n v)) (reading whole)) where
    -- what is read by the kinds of node that the name says
    by_kinds : (c : Option ComputedNode) (k : Option NamedNode) → computed_named v ≡ c → node_named v ≡ k → Passes here a (reading (constructed_by (place_in text) n v c k)) (reading whole)
    unfolding constructed
    by_kinds c k e f = λ u z h. pass u z (subst (λ p. Ran u here z (reading (constructed_by (place_in text) n v p (node_named v)))) (sym e) (subst (λ q. Ran u here z (reading (constructed_by (place_in text) n v c q))) (sym f) h))

    pub computed_passes : (c : ComputedNode) (taken : Bool) (there : Standing) → computed_named v ≡ Some c → taken ≡ true → Looked taken here there (by_character (is 123)) → Passes there a (reading (computed (place_in text) n c)) (reading whole)
    unfolding constructed_by
    computed_passes c taken there e t l = λ u z h.
        by_kinds (Some c) (node_named v) e refl u z (in_left text n (by_character (is 123)) (computed (place_in text) n c) (after_name (place_in text) n v) u taken here there z t l h)

    pub bare_passes : (c : ComputedNode) (taken : Bool) (there : Standing) → computed_named v ≡ Some c → taken ≡ false → Looked taken here there (by_character (is 123)) → Passes there a (reading (after_name (place_in text) n v)) (reading whole)
    unfolding constructed_by
    bare_passes c taken there e t l = λ u z h.
        by_kinds (Some c) (node_named v) e refl u z (in_right text n (by_character (is 123)) (computed (place_in text) n c) (after_name (place_in text) n v) u taken here there z t l h)

    pub plain_passes : computed_named v ≡ None → node_named v ≡ None → Passes here a (reading (after_axis (place_in text) n (axis_word v) v)) (reading whole)
    unfolding constructed_by
    plain_passes e f = λ u z h. by_kinds None None e f u z h

    pub named_passes : (k : NamedNode) (taken : Bool) (there : Standing) → computed_named v ≡ None → node_named v ≡ Some k → taken ≡ true → Looked taken here there (at_tokens (constructor ∷ [])) → Passes there a (reading (named_node (place_in text) n k)) (reading whole)
    unfolding constructed_by
    named_passes k taken there e f t l = λ u z h.
        by_kinds None (Some k) e f u z (in_left text n (at_tokens (constructor ∷ [])) (named_node (place_in text) n k) (no_node (place_in text) n v) u taken here there z t l h)

    pub unnamed_passes : (k : NamedNode) (taken : Bool) (there behind : Standing) → computed_named v ≡ None → node_named v ≡ Some k → taken ≡ false → Looked taken here there (at_tokens (constructor ∷ [])) → Ran nothing there behind (read_one no_constructor)
        → Passes behind a (reading (after_axis (place_in text) n (axis_word v) v)) (reading whole)
    unfolding constructed_by no_node
    unnamed_passes k taken there behind e f t l r = λ u z h.
        by_kinds None (Some k) e f u z
        (in_right text n (at_tokens (constructor ∷ [])) (named_node (place_in text) n k) (no_node (place_in text) n v) u taken here there z t l
        (in_made text n (λ left w. second_value w) (token no_constructor & after_axis (place_in text) n (axis_word v) v) (pair nothing u) there z
        (in_both text n (token no_constructor) (after_axis (place_in text) n (axis_word v) v) nothing u there behind z (in_token text n no_constructor nothing there behind r) h)))

  -- the test behind an axis, or none

  module _ (v : Made) (whole : Phrase) (here a : Standing) (pass : Passes here a (reading (after_axis (place_in text) n (axis_word v) v)) (reading whole)) where
    by_axis : (o : Option Axis) → axis_word v ≡ o → Passes here a (reading (after_axis (place_in text) n o v)) (reading whole)
    by_axis o e = λ u z h. pass u z (subst (λ p. Ran u here z (reading (after_axis (place_in text) n p v))) (sym e) h)

    pub no_axis : axis_word v ≡ None → Passes here a (reading (after_name (place_in text) n v)) (reading whole)
    unfolding after_axis
    no_axis e = λ u z h. by_axis None e u z h

    pub no_colons : (x : Axis) (taken : Bool) (there : Standing) → axis_word v ≡ Some x → taken ≡ false → Looked taken here there (at_tokens (word_of word.Colons ∷ [])) → Passes there a (reading (after_name (place_in text) n v)) (reading whole)
    unfolding after_axis
    no_colons x taken there e t l = λ u z h.
        by_axis (Some x) e u z (in_right text n (at_tokens (word_of word.Colons ∷ [])) (axis_test (place_in text)) (after_name (place_in text) n v) u taken here there z t l h)

    pub colons : (x : Axis) (taken : Bool) (there : Standing) → axis_word v ≡ Some x → taken ≡ true → Looked taken here there (at_tokens (word_of word.Colons ∷ [])) → Passes there a (reading (axis_test (place_in text))) (reading whole)
    unfolding after_axis
    colons x taken there e t l = λ u z h.
        by_axis (Some x) e u z (in_left text n (at_tokens (word_of word.Colons ∷ [])) (axis_test (place_in text)) (after_name (place_in text) n v) u taken here there z t l h)

  -- the parts of constructors

  pub computed_read : (c : ComputedNode) (x y : Made) (t : SyntaxTree) (a b d e : Standing) → Ran x a b (reading (lexeme (word_of word.BraceOpen))) → Ran (tree t) b d (reading (expression (place_in text) n)) → Ran y d e (reading (lexeme (word_of word.CloseBrace)))
      → Ran (node (Constructs (computed_form c t))) a e (reading (computed (place_in text) n c))
  unfolding computed
  computed_read c x y t a b d e h k l =
      in_made text n (λ left v. computed_value c v) (lexeme (word_of word.BraceOpen) & expression (place_in text) n & lexeme (word_of word.CloseBrace)) (pair x (pair (tree t) y)) a e
      (in_both text n (lexeme (word_of word.BraceOpen)) (expression (place_in text) n & lexeme (word_of word.CloseBrace)) x (pair (tree t) y) a b e h
      (in_both text n (expression (place_in text) n) (lexeme (word_of word.CloseBrace)) (tree t) y b d e k l))

  pub name_read : (place : Place) (v : Made) (a b c : Standing) → place ≡ place_in text (left_of a) → Ran v a b (read_one constructor) → Ran nothing b c (read_one gap) → Ran (named (name_at place v)) a c (reading (constructor_name (place_in text)))
  unfolding constructor_name
  name_read place v a b c e h k =
      subst (λ p. Ran (named (name_at p v)) a c (reading (constructor_name (place_in text)))) (sym e)
      (in_made text n (λ left w. constructor_value (place_in text left) w) (token constructor & token gap) (pair v nothing) a c
      (in_both text n (token constructor) (token gap) v nothing a b c (in_token text n constructor v a b h) (in_token text n gap nothing b c k)))

  pub braced_nothing : (y : Made) (taken : Bool) (a b c : Standing) → taken ≡ true → Looked taken a b (by_character (is 125)) → Ran y b c (reading (lexeme (word_of word.CloseBrace))) → Ran (pair nothing y) a c (reading (braced (place_in text) n))
  unfolding braced
  braced_nothing y taken a b c t l h =
      in_left text n (by_character (is 125)) (empty & lexeme (word_of word.CloseBrace)) (expression (place_in text) n & lexeme (word_of word.CloseBrace)) (pair nothing y) taken a b c t l
      (in_both text n empty (lexeme (word_of word.CloseBrace)) nothing y b b c (in_empty text n b) h)

  pub braced_something : (y : Made) (t : SyntaxTree) (taken : Bool) (a b c d : Standing) → taken ≡ false → Looked taken a b (by_character (is 125)) → Ran (tree t) b c (reading (expression (place_in text) n)) → Ran y c d (reading (lexeme (word_of word.CloseBrace)))
      → Ran (pair (tree t) y) a d (reading (braced (place_in text) n))
  unfolding braced
  braced_something y t taken a b c d e l h k =
      in_right text n (by_character (is 125)) (empty & lexeme (word_of word.CloseBrace)) (expression (place_in text) n & lexeme (word_of word.CloseBrace)) (pair (tree t) y) taken a b d e l
      (in_both text n (expression (place_in text) n) (lexeme (word_of word.CloseBrace)) (tree t) y b c d h k)

  pub node_read : (k : NamedNode) (q : QName) (w : Made) (a b c : Standing) → Ran (named q) a b (reading (constructor_name (place_in text))) → Ran w b c (reading (braced (place_in text) n))
      → Ran (named_node_value k (pair (named q) w)) a c (reading (named_node (place_in text) n k))
  unfolding named_node
  node_read k q w a b c h l =
      in_made text n (λ left v. named_node_value k v) (constructor_name (place_in text) & braced (place_in text) n) (pair (named q) w) a c
      (in_both text n (constructor_name (place_in text)) (braced (place_in text) n) (named q) w a b c h l)
