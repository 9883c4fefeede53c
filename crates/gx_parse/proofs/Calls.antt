-- How the arguments of a call are read.
use Rattle.std.proofs.Common.{◌≡◌, ℕ, zero, suc, Bool, true, false, List, [], ◌∷◌, ◌++◌, refl, sym, ap, subst, ◌∙◌, append_assoc, append-nil}
use Rattle.gx_ast.specs.SyntaxTree.{SyntaxTree, SyntaxTrees, a_tree, no_tree}
use Rattle.gx_ast.specs.SyntaxView.{trees_of}
use Rattle.gx_grammar.specs.Value.{nothing, node, pair, no_item, an_item}
use Rattle.gx_grammar.specs.Grammar.{empty, ◌&◌, choose, rule}
use Rattle.gx_grammar.specs.Apart.{is}
use Rattle.gx_grammar.specs.First.{by_character}
use Rattle.gx_grammar.specs.Ran.{Standing, Going, GaveUp, Lost, Ran, Looked, Loses, left_of}
use Rattle.gx_grammar.proofs.PublicLaws.{ran_full, ran_idle, ran_item, ran_none}
use Rattle.gx_parse_grammar.specs.declared.word.Word.TheVariants as word
use Rattle.gx_parse_grammar.specs.Nodes.{Made, Arguments, arguments_value, second_value, trees_in, tree}
use Rattle.gx_parse_grammar.specs.Grammar.{Phrase, word_of, lexeme, at_tokens, single, arguments, arguments_in, more_arguments, place_in}
use Rattle.gx_parse_tokens.specs.Reading.{call, read_in}
use Rattle.gx_parse_parts.specs.Parsing.{Listed, Passed, trees_before, read_item, read_items}
use Rattle.gx_parse_tokens.specs.Reading.{Added}
use Rattle.gx_parse_parts.proofs.Chains.{ran_any}
use Rattle.gx_parse_parts.proofs.Phrases.{in_both, in_empty, in_left, in_right, in_made, in_rule, loses_done, loses_ran}

pub trees_listed : (us : List SyntaxTree) → trees_before us no_tree ≡ trees_of us
trees_listed [] = refl
trees_listed (u ∷ us) = ap (a_tree u) (trees_listed us)

before_another : (us : List SyntaxTree) (u : SyntaxTree) (ts : SyntaxTrees) → trees_before us (a_tree u ts) ≡ trees_before (us ++ u ∷ []) ts
before_another [] u ts = refl
before_another (w ∷ us) u ts = ap (a_tree w) (before_another us u ts)

module _ (text : List ℕ) (n : ℕ) where
  abbrev several : Phrase
  several = (rule (single n) & more_arguments (place_in text) n) & lexeme (word_of word.Close)

  abbrev given : Phrase
  given = choose (by_character (is 41)) (empty & lexeme (word_of word.Close)) several

  pub arguments_read : (x v : Made) (a b c : Standing) → Ran x a b (read_in text n (lexeme (word_of word.Open))) → Ran v b c (read_in text n (arguments_in (place_in text) n)) → Ran v a c (read_in text n (arguments (place_in text) n))
  unfolding arguments
  arguments_read x v a b c h k =
      in_made text n (λ left v. second_value v) (lexeme (word_of word.Open) & arguments_in (place_in text) n) (pair x v) a c (in_both text n (lexeme (word_of word.Open)) (arguments_in (place_in text) n) x v a b c h k)

  pub arguments_none : (y : Made) (items : List SyntaxTree) (taken : Bool) (b c d : Standing) → taken ≡ true → Looked taken b c (by_character (is 41)) → Ran y c d (read_in text n (lexeme (word_of word.Close))) → items ≡ []
      → Ran (node (Arguments (trees_of items))) b d (read_in text n (arguments_in (place_in text) n))
  unfolding arguments_in
  arguments_none y items taken b c d f k l e =
      subst (λ us. Ran (node (Arguments (trees_of us))) b d (read_in text n (arguments_in (place_in text) n))) (sym e)
      (in_made text n (λ left v. arguments_value v) given (pair nothing y) b d
      (in_left text n (by_character (is 41)) (empty & lexeme (word_of word.Close)) several (pair nothing y) taken b c d f k
      (in_both text n empty (lexeme (word_of word.Close)) nothing y c c d (in_empty text n c) l)))

  some_read : (w y : Made) (first : SyntaxTree) (taken : Bool) (b c d e z : Standing) → taken ≡ false → Looked taken b c (by_character (is 41)) → Ran (tree first) c d (call text (suc n) (single n)) → Ran w d e (read_in text n (more_arguments (place_in text) n))
      → Ran y e z (read_in text n (lexeme (word_of word.Close))) → Ran (node (Arguments (a_tree first (trees_in w)))) b z (read_in text n (arguments_in (place_in text) n))
  unfolding arguments_in
  some_read w y first taken b c d e z f k l m r =
      in_made text n (λ left v. arguments_value v) given (pair (pair (tree first) w) y) b z
      (in_right text n (by_character (is 41)) (empty & lexeme (word_of word.Close)) several (pair (pair (tree first) w) y) taken b c z f k
      (in_both text n (rule (single n) & more_arguments (place_in text) n) (lexeme (word_of word.Close)) (pair (tree first) w) y c e z
      (in_both text n (rule (single n)) (more_arguments (place_in text) n) (tree first) w c d e (in_rule text n n (tree first) c d l) m) r))

  pub arguments_some : (y : Made) (first : SyntaxTree) (begun others items : List SyntaxTree) (taken : Bool) (b c d e z : Standing) → taken ≡ false → Looked taken b c (by_character (is 41)) → Ran (tree first) c d (call text (suc n) (single n))
      → Listed others d e (read_in text n (more_arguments (place_in text) n)) → Ran y e z (read_in text n (lexeme (word_of word.Close))) → begun ≡ first ∷ [] → items ≡ begun ++ others
      → Ran (node (Arguments (trees_of items))) b z (read_in text n (arguments_in (place_in text) n))
  arguments_some y first begun others items taken b c d e z f k l m r p q =
      subst (λ ts. Ran (node (Arguments ts)) b z (read_in text n (arguments_in (place_in text) n))) (ap (a_tree first) (m.are ∙ trees_listed others) ∙ sym (ap trees_of (q ∙ ap (λ us. us ++ others) p)))
      (some_read m.value y first taken b c d e z f k l m.ran r)

  -- memory did not suffice behind the first argument
  pub arguments_lost : (v : Made) (first : SyntaxTree) (taken : Bool) (b c d e : Standing) → taken ≡ false → Looked taken b c (by_character (is 41)) → Ran (tree first) c d (call text (suc n) (single n)) → Loses d e
      → Ran v b e (read_in text n (arguments_in (place_in text) n))
  arguments_lost v first taken b c d e f k l m =
      ran_any (node (Arguments (a_tree first (trees_in nothing)))) v b e (read_in text n (arguments_in (place_in text) n)) (loses_done d e m)
      (some_read nothing nothing first taken b c d e e f k l (loses_ran nothing d e (read_in text n (more_arguments (place_in text) n)) m) (ran_idle nothing e (read_in text n (lexeme (word_of word.Close))) (loses_done d e m)))

  -- further arguments

  items_are : (v : Made) (a b : Standing) → Ran v a b (read_items text n (suc (left_of a))) → Ran v a b (read_in text n (more_arguments (place_in text) n))
  unfolding read_items read_item read_in more_arguments
  items_are v (Going s) (Going t) h = h
  items_are v (Going s) (GaveUp e) h = h
  items_are v (Going s) Lost h = h
  items_are v (GaveUp e) b h = h
  items_are v Lost b h = h

  pub items_begin : (list : List SyntaxTree) (a : Standing) (left : ℕ) → left ≡ left_of a → Added list list (λ others. Passed others a a (read_items text n (suc (left_of a))) (read_items text n (suc left)))
  items_begin list a left e = record {
    others = [];
    is = sym (append-nil list);
    holds = record { front = λ v. v; are = λ v. refl; ran = λ v after h. subst (λ k. Ran v a after (read_items text n (suc k))) e h };
  }

  abbrev Before : List SyntaxTree → List SyntaxTree → ℕ → Standing → Standing → Type 0
  Before first list left a here = Added first list (λ others. Passed others a here (read_items text n (suc (left_of a))) (read_items text n (suc left)))

  abbrev After : List SyntaxTree → List SyntaxTree → Standing → Standing → Type 0
  After first list a z = Added first list (λ others. Listed others a z (read_in text n (more_arguments (place_in text) n)))

  none_left : (left : ℕ) (taken : Bool) (a b : Standing) → taken ≡ false → Looked taken a b (at_tokens (word_of word.Comma ∷ [])) → Ran no_item a b (read_items text n (suc left))
  unfolding read_items
  none_left left taken a b e h = ran_none (at_tokens (word_of word.Comma ∷ [])) (read_item text n) left taken a b e h

  one_item : (x w : Made) (next : SyntaxTree) (left : ℕ) (taken : Bool) (a b c d e : Standing) → taken ≡ true → Looked taken a b (at_tokens (word_of word.Comma ∷ [])) → Ran x b c (read_in text n (lexeme (word_of word.Comma))) → Ran (tree next) c d (call text (suc n) (single n))
      → Ran w d e (read_items text n left) → Ran (an_item (pair x (tree next)) w) a e (read_items text n (suc left))
  unfolding read_items read_item
  one_item x w next left taken a b c d e f h k l m =
      ran_item (at_tokens (word_of word.Comma ∷ [])) (read_item text n) left (pair x (tree next)) w taken a b d e f h
      (in_both text n (lexeme (word_of word.Comma)) (rule (single n)) x (tree next) b c d k (in_rule text n n (tree next) c d l)) m

  no_items : (a : Standing) → Ran no_item a a (read_items text n zero)
  unfolding read_items
  no_items a = ran_full (at_tokens (word_of word.Comma ∷ [])) (read_item text n) a

  -- no further argument stands there
  pub items_end : (first list : List SyntaxTree) (left : ℕ) (taken : Bool) (a here z : Standing) → Before first list left a here → taken ≡ false → Looked taken here z (at_tokens (word_of word.Comma ∷ [])) → After first list a z
  items_end first list left taken a here z h e k =
      let p = h.holds in
      record {
        others = h.others;
        is = h.is;
        holds = record { value = p.front no_item; are = p.are no_item; ran = items_are (p.front no_item) a z (p.ran no_item z (none_left left taken here z e k)) };
      }

  longer : (first others list grown : List SyntaxTree) (next : SyntaxTree) → list ≡ first ++ others → grown ≡ list ++ next ∷ [] → grown ≡ first ++ (others ++ next ∷ [])
  longer first others list grown next e f = f ∙ ap (λ us. us ++ next ∷ []) e ∙ append_assoc first others (next ∷ [])

  -- one more argument
  pub items_more : (first list grown : List SyntaxTree) (left less : ℕ) (x : Made) (next : SyntaxTree) (taken : Bool) (a here b c d : Standing) → Before first list left a here → left ≡ suc less → taken ≡ true → Looked taken here b (at_tokens (word_of word.Comma ∷ []))
      → Ran x b c (read_in text n (lexeme (word_of word.Comma))) → Ran (tree next) c d (call text (suc n) (single n)) → grown ≡ list ++ next ∷ [] → Before first grown less a d
  items_more first list grown left less x next taken a here b c d h l e k m r g =
      let p = h.holds in
      record {
        others = h.others ++ next ∷ [];
        is = longer first h.others list grown next h.is g;
        holds = record {
          front = λ v. p.front (an_item (pair x (tree next)) v);
          are = λ v. p.are (an_item (pair x (tree next)) v) ∙ before_another h.others next (trees_in v);
          ran = λ v after q. p.ran (an_item (pair x (tree next)) v) after (subst (λ j. Ran (an_item (pair x (tree next)) v) here after (read_items text n (suc j))) (sym l) (one_item x v next (suc less) taken here b c d after e k m r q));
        };
      }

  -- the last argument that the text has room for
  pub items_full : (first list grown : List SyntaxTree) (left : ℕ) (x : Made) (next : SyntaxTree) (taken : Bool) (a here b c d : Standing) → Before first list left a here → left ≡ 0 → taken ≡ true → Looked taken here b (at_tokens (word_of word.Comma ∷ []))
      → Ran x b c (read_in text n (lexeme (word_of word.Comma))) → Ran (tree next) c d (call text (suc n) (single n)) → grown ≡ list ++ next ∷ [] → After first grown a d
  items_full first list grown left x next taken a here b c d h l e k m r g =
      let p = h.holds in
      let v = an_item (pair x (tree next)) no_item in
      record {
        others = h.others ++ next ∷ [];
        is = longer first h.others list grown next h.is g;
        holds = record {
          value = p.front v;
          are = p.are v ∙ before_another h.others next no_tree;
          ran = items_are (p.front v) a d (p.ran v d (subst (λ j. Ran v here d (read_items text n (suc j))) (sym l) (one_item x no_item next 0 taken here b c d d e k m r (no_items d))));
        };
      }

  -- memory did not suffice for an argument
  pub items_lost : (first list : List SyntaxTree) (left : ℕ) (x : Made) (next : SyntaxTree) (taken : Bool) (a here b c d z : Standing) → Before first list left a here → taken ≡ true → Looked taken here b (at_tokens (word_of word.Comma ∷ []))
      → Ran x b c (read_in text n (lexeme (word_of word.Comma))) → Ran (tree next) c d (call text (suc n) (single n)) → Loses d z → After first list a z
  items_lost first list left x next taken a here b c d z h e k m r g =
      let p = h.holds in
      let read = one_item x no_item next left taken here b c d z e k m r (loses_ran no_item d z (read_items text n left) g) in
      record {
        others = h.others;
        is = h.is;
        holds = record {
          value = p.front no_item;
          are = p.are no_item;
          ran = items_are (p.front no_item) a z (p.ran no_item z (ran_any (an_item (pair x (tree next)) no_item) no_item here z (read_items text n (suc left)) (loses_done d z g) read));
        };
      }
