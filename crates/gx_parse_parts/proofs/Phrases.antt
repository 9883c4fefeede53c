-- What the parts of the grammar read, where a Single may have so many levels.
use Rattle.std.proofs.Common.{◌≡◌, ℕ, zero, suc, Bool, true, false, if◌then◌else◌, List, [], ◌∷◌, ◌++◌, length, refl, sym, ap, subst, ◌∙◌, Option, None, Some, Result, Ok, Err, IfOk, ◌≤◌, arith}
use Rattle.gx_base.specs.declared.place.Place.{Place}
use Rattle.gx_ast.specs.SyntaxTree.{SyntaxTree, at as located, variable, signed, number as number_form}
use Rattle.gx_grammar.specs.Value.{nothing, node, pair}
use Rattle.gx_grammar.specs.Grammar.{Guard, token, empty, ◌&◌, keyed, choose, rule, made}
use Rattle.gx_grammar.specs.Reading.{State, Reading, go_on}
use Rattle.gx_grammar.specs.Ran.{Standing, Going, GaveUp, Lost, Ran, Looked, IsDone, Loses, Makes, left_of}
use Rattle.gx_grammar.proofs.PublicLaws.{ran_both, ran_empty, ran_keyed, ran_left, ran_made, ran_map, ran_right}
use Rattle.gx_num.specs.declared.Number.{Number}
use Rattle.gx_parse_grammar.specs.declared.word.Barrier.{Barrier}
use Rattle.gx_parse_grammar.specs.declared.word.Word.{Word}
use Rattle.gx_parse_grammar.specs.declared.word.Barrier.TheVariants as barrier
use Rattle.gx_parse_grammar.specs.declared.word.Word.TheVariants as word
use Rattle.gx_parse_grammar.specs.declared.word.WordSet.{WordSet}
use Rattle.gx_parse_grammar.specs.declared.word.WordSet.TheVariants as set
use Rattle.gx_parse_parts.specs.declared.parts.Sign.{Sign}
use Rattle.gx_parse_parts.specs.declared.members.Members.{Members}
use Rattle.gx_parse_grammar.specs.Nodes.{Made, Found, Operator, Name, operator_value, number_value, name_value, name_at, variable_value, dots_value, signed_by, is_minus, tree}
use Rattle.gx_parse_grammar.specs.Types.{Gave}
use Rattle.gx_parse_grammar.specs.Words.{is_keyword}
use Rattle.gx_parse_grammar.specs.Tokens.{Token, one_of, gap, barred, number, number_end, qname, word_end}
use Rattle.gx_parse_grammar.specs.Basics.{word_gap, keyword_found}
use Rattle.gx_parse_grammar.specs.Grammar.{Phrase, word_of, lexeme, at_tokens, keyword, operator, infix_operator, stop, numeral, name, variable_step, dots, more_signs, single, query_language, place_in}
use Rattle.gx_parse_tokens.specs.Reading.{call, read_in, read_one, read_number}
use Rattle.gx_parse_parts.specs.Parsing.{set_of, last_member, is_pair, barrier_of, signs_before, wrapped, KeepsTree}
use Rattle.gx_parse_grammar.specs.Numeral.{number_in}
use Rattle.gx_parse_parts.proofs.Chains.{ran_any, ran_bind, go_on_twice}

module _ (text : List ℕ) (n : ℕ) where
  pub in_token : (t : Token) (v : Made) (a b : Standing) → Ran v a b (read_one t) → Ran v a b (read_in text n (token t))
  unfolding read_in read_one
  in_token t v a b h = h

  pub in_both : (A B : Phrase) (v w : Made) (a b c : Standing) → Ran v a b (read_in text n A) → Ran w b c (read_in text n B) → Ran (pair v w) a c (read_in text n (A & B))
  unfolding read_in
  in_both A B v w a b c h k = ran_both (query_language (place_in text)) (call text (suc n)) A B v w a b c h k

  pub in_keyed : (t : Token) (f : Made → Phrase) (v w : Made) (a b c : Standing) → Ran v a b (read_one t) → Ran w b c (read_in text n (f v)) → Ran (pair v w) a c (read_in text n (keyed t f))
  unfolding read_in read_one
  in_keyed t f v w a b c h k = ran_keyed (query_language (place_in text)) (call text (suc n)) t f v w a b c h k

  pub in_empty : (a : Standing) → Ran nothing a a (read_in text n empty)
  unfolding read_in
  in_empty a = ran_empty (query_language (place_in text)) (call text (suc n)) a

  pub in_left : (g : Guard) (A B : Phrase) (v : Made) (taken : Bool) (a b c : Standing) → taken ≡ true → Looked taken a b g → Ran v b c (read_in text n A) → Ran v a c (read_in text n (choose g A B))
  unfolding read_in
  in_left g A B v taken a b c e h k = ran_left (query_language (place_in text)) (call text (suc n)) g A B v taken a b c e h k

  pub in_right : (g : Guard) (A B : Phrase) (v : Made) (taken : Bool) (a b c : Standing) → taken ≡ false → Looked taken a b g → Ran v b c (read_in text n B) → Ran v a c (read_in text n (choose g A B))
  unfolding read_in
  in_right g A B v taken a b c e h k = ran_right (query_language (place_in text)) (call text (suc n)) g A B v taken a b c e h k

  pub in_made : (f : ℕ → Made → Made) (A : Phrase) (v : Made) (a b : Standing) → Ran v a b (read_in text n A) → Ran (f (left_of a) v) a b (read_in text n (made f A))
  unfolding read_in
  in_made f A v a b h = ran_made (query_language (place_in text)) (call text (suc n)) f A v a b h

  pub in_rule : (m : ℕ) (v : Made) (a b : Standing) → Ran v a b (call text (suc n) (single m)) → Ran v a b (read_in text n (rule (single m)))
  unfolding read_in
  in_rule m v a b h = h

  pub lexeme_reads : (t : Token) (v : Made) (a b c : Standing) → Ran v a b (read_one t) → Ran nothing b c (read_one gap) → Ran (pair v nothing) a c (read_in text n (lexeme t))
  lexeme_reads t v a b c h k = in_both (token t) (token gap) v nothing a b c (in_token t v a b h) (in_token gap nothing b c k)

  pub operator_reads : (set : WordSet) (place : Place) (w : Word) (a b : Standing) → place ≡ place_in text (left_of a) → Ran (pair (node (Found w)) nothing) a b (read_in text n (lexeme (one_of set))) → Ran (node (Operator place w)) a b (read_in text n (operator (place_in text) set))
  unfolding operator
  operator_reads set place w a b e h = subst (λ p. Ran (node (Operator p w)) a b (read_in text n (operator (place_in text) set))) (sym e) (in_made (λ left v. operator_value (place_in text left) v) (lexeme (one_of set)) (pair (node (Found w)) nothing) a b h)

  word_gap_reads : (k : Bool) (a b c : Standing) → Ran nothing a b (read_one (word_end k)) → Ran nothing b c (read_one gap) → Ran (pair nothing nothing) a c (read_in text n (word_gap k))
  word_gap_reads k a b c h i = in_both (token (word_end k)) (token gap) nothing nothing a b c (in_token (word_end k) nothing a b h) (in_token gap nothing b c i)

  -- a word in front of an expression, without its value
  pub ended_reads : (w : Word) (k : Bool) (v : Made) (a b c d : Standing) → Ran v a b (read_one (one_of (set.Only w))) → Ran nothing b c (read_one (word_end k)) → Ran nothing c d (read_one gap) → Ran nothing a d (read_in text n (made (λ left u. nothing) (token (word_of w) & word_gap k)))
  ended_reads w k v a b c d h i j =
      in_made (λ left u. nothing) (token (word_of w) & word_gap k) (pair v (pair nothing nothing)) a d (in_both (token (word_of w)) (word_gap k) v (pair nothing nothing) a b d (in_token (word_of w) v a b h) (word_gap_reads k b c d i j))

  pub keyword_reads : (w : Word) (v : Made) (a b c d : Standing) → Ran v a b (read_one (one_of (set.Only w))) → Ran nothing b c (read_one (word_end true)) → Ran nothing c d (read_one gap) → Ran nothing a d (read_in text n (keyword w))
  unfolding keyword
  keyword_reads w v a b c d h i j = ended_reads w true v a b c d h i j

  pub infix_reads : (ws : WordSet) (place : Place) (w : Word) (k : Bool) (a b c d : Standing) → place ≡ place_in text (left_of a) → k ≡ is_keyword w → Ran (node (Found w)) a b (read_one (one_of ws)) → Ran nothing b c (read_one (word_end k)) → Ran nothing c d (read_one gap)
      → Ran (node (Operator place w)) a d (read_in text n (infix_operator (place_in text) ws))
  unfolding infix_operator
  infix_reads ws place w k a b c d e f h i j =
      subst (λ p. Ran (node (Operator p w)) a d (read_in text n (infix_operator (place_in text) ws))) (sym e)
      (in_made (λ left v. operator_value (place_in text left) v) (keyed (one_of ws) (λ v. word_gap (keyword_found v))) (pair (node (Found w)) (pair nothing nothing)) a d
      (in_keyed (one_of ws) (λ v. word_gap (keyword_found v)) (node (Found w)) (pair nothing nothing) a b d h (subst (λ q. Ran (pair nothing nothing) b d (read_in text n (word_gap q))) f (word_gap_reads k b c d i j))))

  -- `last` is what stands behind the last member, and `ws` are the words between members
  module _ (m : Members) (ws : WordSet) (same : ws ≡ set_of m) where
    pub last_not_there : (taken : Bool) (a b : Standing) → is_pair m ≡ false → taken ≡ false → Looked taken a b (at_tokens (one_of ws ∷ [])) → Ran nothing a b (read_in text n (last_member (place_in text) m))
    unfolding stop
    last_not_there taken a b e f h =
        subst (λ q. Ran nothing a b (read_in text n (if q then empty else (stop (place_in text) (set_of m) (barrier_of m))))) (sym e)
        (in_right (at_tokens (one_of (set_of m) ∷ [])) (operator (place_in text) (set_of m) & token (barred (barrier_of m))) empty nothing taken a b b f (subst (λ s. Looked taken a b (at_tokens (one_of s ∷ []))) same h) (in_empty b))

    pub last_there : (v : Made) (bar : Barrier) (taken : Bool) (a b c d : Standing) → is_pair m ≡ false → bar ≡ barrier_of m → taken ≡ true → Looked taken a b (at_tokens (one_of ws ∷ [])) → Ran v b c (read_in text n (operator (place_in text) ws))
        → Ran nothing c d (read_one (barred bar)) → IsDone d → Ran nothing a d (read_in text n (last_member (place_in text) m))
    unfolding stop
    last_there v bar taken a b c d e g f h i j k =
        subst (λ q. Ran nothing a d (read_in text n (if q then empty else (stop (place_in text) (set_of m) (barrier_of m))))) (sym e)
        (in_left (at_tokens (one_of (set_of m) ∷ [])) (operator (place_in text) (set_of m) & token (barred (barrier_of m))) empty nothing taken a b d f (subst (λ s. Looked taken a b (at_tokens (one_of s ∷ []))) same h)
        (ran_any (pair v nothing) nothing b d (read_in text n (operator (place_in text) (set_of m) & token (barred (barrier_of m)))) k
        (in_both (operator (place_in text) (set_of m)) (token (barred (barrier_of m))) v nothing b c d (subst (λ s. Ran v b c (read_in text n (operator (place_in text) s))) same i)
        (in_token (barred (barrier_of m)) nothing c d (subst (λ x. Ran nothing c d (read_one (barred x))) g j)))))

  pub last_of_pair : (m : Members) (a : Standing) → is_pair m ≡ true → Ran nothing a a (read_in text n (last_member (place_in text) m))
  last_of_pair m a e = subst (λ b. Ran nothing a a (read_in text n (if b then empty else (stop (place_in text) (set_of m) (barrier_of m))))) (sym e) (in_empty a)

  pub dots_read : (place : Place) (w : Word) (t : SyntaxTree) (a b : Standing) → place ≡ place_in text (left_of a) → tree t ≡ dots_value place (pair (node (Found w)) nothing) → Ran (pair (node (Found w)) nothing) a b (read_in text n (lexeme (one_of set.Dots))) → Ran (tree t) a b (read_in text n (dots (place_in text)))
  unfolding dots
  dots_read place w t a b e f h =
      subst (λ v. Ran v a b (read_in text n (dots (place_in text)))) (sym (f ∙ ap (λ p. dots_value p (pair (node (Found w)) nothing)) e)) (in_made (λ left v. dots_value (place_in text left) v) (lexeme (one_of set.Dots)) (pair (node (Found w)) nothing) a b h)

  pub variable_read : (place at_name : Place) (x : Made) (v : Made) (a b c d : Standing) → place ≡ place_in text (left_of a) → at_name ≡ place_in text (left_of b) → Ran (pair x nothing) a b (read_in text n (lexeme (one_of (set.Only word.Dollar))))
      → Ran v b c (read_one qname) → Ran nothing c d (read_one gap) → Ran (tree (located place (variable (name_at at_name v)))) a d (read_in text n (variable_step (place_in text)))
  unfolding variable_step name
  variable_read place at_name x v a b c d e f h i j =
      subst (λ p. Ran (tree (located p (variable (name_at at_name v)))) a d (read_in text n (variable_step (place_in text)))) (sym e)
      (subst (λ p. Ran (tree (located (place_in text (left_of a)) (variable (name_at p v)))) a d (read_in text n (variable_step (place_in text)))) (sym f)
      (in_made (λ left v. variable_value (place_in text left) v) (lexeme (word_of word.Dollar) & name (place_in text) & token gap) (pair (pair x nothing) (pair (node (Name (name_at (place_in text (left_of b)) v))) nothing)) a d
      (in_both (lexeme (word_of word.Dollar)) (name (place_in text) & token gap) (pair x nothing) (pair (node (Name (name_at (place_in text (left_of b)) v))) nothing) a b d h
      (in_both (name (place_in text)) (token gap) (node (Name (name_at (place_in text (left_of b)) v))) nothing b c d
      (in_made (λ left v. name_value (place_in text left) v) (token qname) v b c (in_token qname v b c i))
      (in_token gap nothing c d j)))))

  -- the parts behind a number
  abbrev behind_number : Phrase
  behind_number = token number_end & token gap

  abbrev numeral_at : Place → State → Reading Made
  numeral_at p s = go_on (read_number s) (λ z t. go_on (read_in text n behind_number t) (λ w u. Ok (tree (located p (number_form z)), u)))

  numeral_same : (p : Place) (r : Reading Made) → go_on (go_on r (λ v t. go_on (read_in text n behind_number t) (λ w u. Ok (pair v w, u)))) (λ v t. Ok (number_value p v, t))
      ≡ go_on (go_on r (λ v t. Ok (number_in v, t))) (λ z t. go_on (read_in text n behind_number t) (λ w u. Ok (tree (located p (number_form z)), u)))
  numeral_same p (Ok o) = go_on_twice (read_in text n behind_number o.1) (λ w u. Ok (pair o.0 w, u)) (λ v t. Ok (number_value p v, t))
  numeral_same p (Err e) = refl

  numeral_is : (s : State) → read_in text n (numeral (place_in text)) s ≡ numeral_at (place_in text (length s.rest)) s
  unfolding read_in read_one read_number numeral
  numeral_is s = numeral_same (place_in text (length s.rest)) (read_one number s)

  at_start : (v : Made) (p : Place) (a b : Standing) → p ≡ place_in text (left_of a) → Ran v a b (numeral_at p) → Ran v a b (read_in text n (numeral (place_in text)))
  at_start v p (Going s) (Going t) e h = numeral_is s ∙ ap (λ q. numeral_at q s) (sym e) ∙ h
  at_start v p (Going s) (GaveUp r) e h = numeral_is s ∙ ap (λ q. numeral_at q s) (sym e) ∙ h
  at_start v p (Going s) Lost e h = tt
  at_start v p (GaveUp r) b e h = h
  at_start v p Lost b e h = h

  pub numeral_read : (place : Place) (z : Number) (a b c d : Standing) → place ≡ place_in text (left_of a) → Ran z a b read_number → Ran nothing b c (read_one number_end) → Ran nothing c d (read_one gap) → Ran (tree (located place (number_form z))) a d (read_in text n (numeral (place_in text)))
  numeral_read place z a b c d e h i j =
      at_start (tree (located place (number_form z))) place a d e
      (ran_bind z (tree (located place (number_form z))) a b d read_number (λ z t. go_on (read_in text n behind_number t) (λ w u. Ok (tree (located place (number_form z)), u))) h
      (ran_map (pair nothing nothing) (λ w. tree (located place (number_form z))) b d (read_in text n behind_number)
      (in_both (token number_end) (token gap) nothing nothing b c d (in_token number_end nothing b c i) (in_token gap nothing c d j))))

  -- signs

  pub no_sign : (k : ℕ) (taken : Bool) (a b : Standing) → taken ≡ false → Looked taken a b (at_tokens (one_of set.Signs ∷ [])) → Ran nothing a b (read_in text n (more_signs (place_in text) (suc k)))
  unfolding more_signs
  no_sign k taken a b e h = in_right (at_tokens (one_of set.Signs ∷ [])) (operator (place_in text) set.Signs & more_signs (place_in text) k) empty nothing taken a b b e h (in_empty b)

  pub one_sign : (k : ℕ) (v w : Made) (taken : Bool) (a b c d : Standing) → taken ≡ true → Looked taken a b (at_tokens (one_of set.Signs ∷ [])) → Ran v b c (read_in text n (operator (place_in text) set.Signs)) → Ran w c d (read_in text n (more_signs (place_in text) k))
      → Ran (pair v w) a d (read_in text n (more_signs (place_in text) (suc k)))
  unfolding more_signs
  one_sign k v w taken a b c d e h i j = in_left (at_tokens (one_of set.Signs ∷ [])) (operator (place_in text) set.Signs & more_signs (place_in text) k) empty (pair v w) taken a b d e h (in_both (operator (place_in text) set.Signs) (more_signs (place_in text) k) v w b c d i j)

  -- where so many may stand
  pub signs_none : (k : ℕ) (taken : Bool) (a b : Standing) → 1 ≤ k → taken ≡ false → Looked taken a b (at_tokens (one_of set.Signs ∷ [])) → Ran nothing a b (read_in text n (more_signs (place_in text) k))
  signs_none zero taken a b l e h = absurd (omega (arith, l))
  signs_none (suc k) taken a b l e h = no_sign k taken a b e h

  pub signs_more : (k j : ℕ) (v w : Made) (taken : Bool) (a b c d : Standing) → k ≡ suc j → taken ≡ true → Looked taken a b (at_tokens (one_of set.Signs ∷ [])) → Ran v b c (read_in text n (operator (place_in text) set.Signs)) → Ran w c d (read_in text n (more_signs (place_in text) j))
      → Ran (pair v w) a d (read_in text n (more_signs (place_in text) k))
  signs_more k j v w taken a b c d l e h i r = subst (λ m. Ran (pair v w) a d (read_in text n (more_signs (place_in text) m))) (sym l) (one_sign j v w taken a b c d e h i r)

  pub signs_end : (taken : Bool) (a b : Standing) → taken ≡ false → Looked taken a b (at_tokens (barred barrier.Sign ∷ [])) → Ran nothing a b (read_in text n (more_signs (place_in text) zero))
  unfolding more_signs
  signs_end taken a b e h = in_right (at_tokens (barred barrier.Sign ∷ [])) (token (barred barrier.Sign)) empty nothing taken a b b e h (in_empty b)

  pub signs_full : (taken : Bool) (a b c : Standing) → taken ≡ true → Looked taken a b (at_tokens (barred barrier.Sign ∷ [])) → Ran nothing b c (read_one (barred barrier.Sign)) → Ran nothing a c (read_in text n (more_signs (place_in text) zero))
  unfolding more_signs
  signs_full taken a b c e h i = in_left (at_tokens (barred barrier.Sign ∷ [])) (token (barred barrier.Sign)) empty nothing taken a b c e h (in_token (barred barrier.Sign) nothing b c i)

pub before_more : (xs : List Sign) (x : Sign) (w : Made) → signs_before (xs ++ x ∷ []) w ≡ signs_before xs (pair (node (Operator x.place x.word)) w)
before_more [] x w = refl
before_more (y ∷ xs) x w = ap (pair (node (Operator y.place y.word))) (before_more xs x w)

pub wrapped_more : (xs : List Sign) (x : Sign) (t : SyntaxTree) → wrapped (xs ++ x ∷ []) t ≡ wrapped xs (located x.place (signed (is_minus x.word) t))
wrapped_more [] x t = refl
wrapped_more (y ∷ xs) x t = ap (λ u. located y.place (signed (is_minus y.word) u)) (wrapped_more xs x t)

pub signed_wraps : (xs : List Sign) (t : SyntaxTree) → signed_by (signs_before xs nothing) t ≡ wrapped xs t
signed_wraps [] t = refl
signed_wraps (y ∷ xs) t = ap (λ u. located y.place (signed (is_minus y.word) u)) (signed_wraps xs t)

-- a tree that was kept on the way to another
pub makes_kept : {E : Type 0} (f : SyntaxTree → SyntaxTree) (t wanted : SyntaxTree) (result : Result SyntaxTree E) (w : SyntaxTree) (a b z : Standing) → IfOk result (λ x. x ≡ wanted) → KeepsTree t result a b → Makes w (f t) b z → Makes w (f wanted) a z
makes_kept f t wanted (Ok m) w a b z e k h = subst (λ d. Makes w (f wanted) d z) k.1 (subst (λ x. Makes w (f x) b z) (k.0 ∙ e) h)
makes_kept f t wanted (Err x) w (Going s) b z e k h = let q : Makes w (f t) Lost z = subst (λ d. Makes w (f t) d z) k h in subst (λ d. Makes w (f wanted) (Going s) d) (sym q) tt
makes_kept f t wanted (Err x) w (GaveUp r) b z e k h = let q : Makes w (f t) (GaveUp r) z = subst (λ d. Makes w (f t) d z) k h in q
makes_kept f t wanted (Err x) w Lost b z e k h = let q : Makes w (f t) Lost z = subst (λ d. Makes w (f t) d z) k h in q

-- where memory did not suffice, nothing is said of what was read
pub loses_done : (a b : Standing) → Loses a b → IsDone b
loses_done (Going s) b h = subst IsDone (sym h) tt
loses_done (GaveUp e) b h = subst IsDone (sym h) tt
loses_done Lost b h = subst IsDone (sym h) tt

pub loses_ran : {A : Type 0} (v : A) (a b : Standing) (read : State → Reading A) → Loses a b → Ran v a b read
loses_ran v (Going s) b read h = subst (λ d. Ran v (Going s) d read) (sym h) tt
loses_ran v (GaveUp e) b read h = h
loses_ran v Lost b read h = h

pub stays_done : {A : Type 0} (v : A) (a b : Standing) (read : State → Reading A) → IsDone a → Ran v a b read → IsDone b
stays_done v (Going s) b read d h = absurd d
stays_done v (GaveUp e) b read d h = subst IsDone (sym h) tt
stays_done v Lost b read d h = subst IsDone (sym h) tt

-- where reading has ended, no value is given
pub gave_none : {A : Type 0} (value : A → Made) (v : Made) (a b : Standing) (read : State → Reading Made) → IsDone b → Ran v a b read → Gave value None a b read
gave_none value v a b read d h = (d, λ w. ran_any v w a b read d h)

-- what is read where memory is lost
pub ran_loses : {A : Type 0} (v w : A) (a b c : Standing) (read : State → Reading A) → Ran v a b read → Loses b c → Ran w a c read
ran_loses v w (Going s) (Going t) c read h k = subst (λ d. Ran w (Going s) d read) (sym k) tt
ran_loses v w (Going s) (GaveUp e) c read h k = subst (λ d. Ran w (Going s) d read) (sym k) h
ran_loses v w (Going s) Lost c read h k = subst (λ d. Ran w (Going s) d read) (sym k) tt
ran_loses v w (GaveUp e) b c read h k = let q : Loses (GaveUp e) c = subst (λ d. Loses d c) h k in q
ran_loses v w Lost b c read h k = let q : Loses Lost c = subst (λ d. Loses d c) h k in q

-- what is given of one reading, as what is given of another
pub gave_same : {A : Type 0} (value : A → Made) (o : Option A) (a b c : Standing) (first second : State → Reading Made) → ((v : Made) → Ran v b c first → Ran v a c second) → Gave value o b c first → Gave value o a c second
gave_same value None a b c first second f g = (g.0, λ v. f v (g.1 v))
gave_same value (Some x) a b c first second f g = f (value x) g
