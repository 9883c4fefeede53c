-- How the steps of a chain go together.
use Rattle.std.proofs.Common.{◌≡◌, ℕ, zero, suc, Bool, true, false, if◌then◌else◌, List, [], ◌∷◌, refl, sym, ap, subst, ◌∙◌, Result, Ok, Err, IfOk}
use Rattle.gx_base.specs.declared.place.Place.{Place}
use Rattle.gx_ast.specs.SyntaxTree.{SyntaxTree}
use Rattle.gx_grammar.specs.Value.{nothing, node, pair}
use Rattle.gx_grammar.specs.Grammar.{empty, ◌&◌, made}
use Rattle.gx_grammar.specs.Reading.{State, Reading, go_on, notes}
use Rattle.gx_grammar.specs.Ran.{Standing, Going, GaveUp, Lost, Ran, Looked, IsDone, Loses}
use Rattle.gx_grammar.proofs.PublicLaws.{ran_empty, ran_looked, ran_map, ran_right}
use Rattle.gx_parse_grammar.specs.declared.word.Word.{Word}
use Rattle.gx_parse_parts.specs.declared.members.Members.{Members}
use Rattle.gx_parse_grammar.specs.Nodes.{Made, Operator, Join, tree, joined_to, chain_value}
use Rattle.gx_parse_grammar.specs.Tokens.{one_of}
use Rattle.gx_parse_grammar.specs.Grammar.{Phrase, at_tokens, infix_operator, more, query_language, place_in}
use Rattle.gx_parse_tokens.specs.Reading.{call, read_in}
use Rattle.gx_parse_parts.specs.Parsing.{set_of, join_of, member_of, last_member, read_chain, KeepsTree}

-- a step, and what depends on its value
pub ran_bind : {A B : Type 0} (v : A) (w : B) (a b c : Standing) (first : State → Reading A) (next : A → State → Reading B) → Ran v a b first → Ran w b c (next v) → Ran w a c (λ s. go_on (first s) next)
ran_bind v w (Going s) (Going t) (Going u) first next h k = ap (λ r. go_on r next) h ∙ k
ran_bind v w (Going s) (Going t) (GaveUp e) first next h k = ap (λ r. go_on r next) h ∙ k
ran_bind v w (Going s) (Going t) Lost first next h k = tt
ran_bind v w (Going s) (GaveUp e) c first next h k = subst (λ d. Ran w (Going s) d (λ x. go_on (first x) next)) (sym k) (ap (λ r. go_on r next) h)
ran_bind v w (Going s) Lost c first next h k = subst (λ d. Ran w (Going s) d (λ x. go_on (first x) next)) (sym k) tt
ran_bind v w (GaveUp e) b c first next h k = let q : Ran w (GaveUp e) c (next v) = subst (λ d. Ran w d c (next v)) h k in q
ran_bind v w Lost b c first next h k = let q : Ran w Lost c (next v) = subst (λ d. Ran w d c (next v)) h k in q

-- readings that are the same
pub ran_same : {A : Type 0} (v : A) (a b : Standing) (first second : State → Reading A) → ((s : State) → second s ≡ first s) → Ran v a b first → Ran v a b second
ran_same v (Going s) (Going t) first second e h = e s ∙ h
ran_same v (Going s) (GaveUp r) first second e h = e s ∙ h
ran_same v (Going s) Lost first second e h = tt
ran_same v (GaveUp r) b first second e h = h
ran_same v Lost b first second e h = h

-- where reading has ended, any value does
pub ran_any : {A : Type 0} (v w : A) (a b : Standing) (read : State → Reading A) → IsDone b → Ran v a b read → Ran w a b read
ran_any v w (Going s) (Going t) read d h = absurd d
ran_any v w (Going s) (GaveUp e) read d h = h
ran_any v w (Going s) Lost read d h = h
ran_any v w (GaveUp e) b read d h = h
ran_any v w Lost b read d h = h

pub go_on_twice : {A B C : Type 0} (r : Reading A) (f : A → State → Reading B) (g : B → State → Reading C) → go_on (go_on r f) g ≡ go_on r (λ x t. go_on (f x t) g)
go_on_twice (Ok o) f g = refl
go_on_twice (Err e) f g = refl

go_on_each : {A B : Type 0} (r : Reading A) (f g : A → State → Reading B) → ((x : A) (t : State) → f x t ≡ g x t) → go_on r f ≡ go_on r g
go_on_each (Ok o) f g e = e o.0 o.1
go_on_each (Err x) f g e = refl

-- what was kept of a tree that was made
pub ran_kept : {E : Type 0} {A : Type 0} (t wanted : SyntaxTree) (made : Result SyntaxTree E) (v : A) (a b c : Standing) (read : SyntaxTree → State → Reading A)
    → IfOk made (λ x. x ≡ wanted) → KeepsTree t made a b → Ran v b c (read t) → Ran v a c (read wanted)
ran_kept t wanted (Ok m) v a b c read e k h = subst (λ d. Ran v d c (read wanted)) k.1 (subst (λ x. Ran v b c (read x)) (k.0 ∙ e) h)
ran_kept t wanted (Err x) v (Going s) b (Going u) read e k h = absurd (let q : Ran v Lost (Going u) (read t) = subst (λ d. Ran v d (Going u) (read t)) k h in cc q)
ran_kept t wanted (Err x) v (Going s) b (GaveUp r) read e k h = absurd (let q : Ran v Lost (GaveUp r) (read t) = subst (λ d. Ran v d (GaveUp r) (read t)) k h in cc q)
ran_kept t wanted (Err x) v (Going s) b Lost read e k h = tt
ran_kept t wanted (Err x) v (GaveUp r) b c read e k h = let q : Ran v (GaveUp r) c (read t) = subst (λ d. Ran v d c (read t)) k h in q
ran_kept t wanted (Err x) v Lost b c read e k h = let q : Ran v Lost c (read t) = subst (λ d. Ran v d c (read t)) k h in q

-- a tree that was kept is what was read
pub ran_keeps : {E : Type 0} (t wanted : SyntaxTree) (made : Result SyntaxTree E) (a b c : Standing) (read : State → Reading Made)
    → Ran (tree wanted) a b read → IfOk made (λ x. x ≡ wanted) → KeepsTree t made b c → Ran (tree t) a c read
ran_keeps t wanted (Ok m) a b c read h e k = subst (λ d. Ran (tree t) a d read) (sym k.1) (subst (λ x. Ran (tree x) a b read) (sym (k.0 ∙ e)) h)
ran_keeps t wanted (Err x) (Going s) (Going u) c read h e k = subst (λ d. Ran (tree t) (Going s) d read) (sym k) tt
ran_keeps t wanted (Err x) (Going s) (GaveUp r) c read h e k = subst (λ d. Ran (tree t) (Going s) d read) (sym k) h
ran_keeps t wanted (Err x) (Going s) Lost c read h e k = subst (λ d. Ran (tree t) (Going s) d read) (sym k) tt
ran_keeps t wanted (Err x) (GaveUp r) b c read h e k = let q : Loses (GaveUp r) c = subst (λ d. Loses d c) h k in q
ran_keeps t wanted (Err x) Lost b c read h e k = let q : Loses Lost c = subst (λ d. Loses d c) h k in q

module _ (text : List ℕ) (n : ℕ) (m : Members) where
  abbrev members : ℕ → Phrase
  members count = more (place_in text) (set_of m) (member_of (place_in text) n m) (last_member (place_in text) m) count

  -- a chain, behind its first member
  pub chain_reads : (first : Phrase) (join : Join) (count : ℕ) (t u : SyntaxTree) (a b c : Standing) → join ≡ join_of m → Ran (tree t) a b (read_in text n first) → Ran u b c (read_chain text n m count t)
      → Ran (tree u) a c (read_in text n (made (λ left v. chain_value join v) (first & members count)))
  unfolding read_in read_chain
  chain_reads first join count t u a b c e h k =
      subst (λ j. Ran (tree u) a c (read_in text n (made (λ left v. chain_value j v) (first & members count)))) (sym e)
      (ran_same (tree u) a c (λ s. go_on (read_in text n first s) (λ v r. go_on (go_on (read_in text n (members count) r) (λ w q. Ok (pair v w, q))) (λ p q. Ok (chain_value (join_of m) p, q)))) _
      (λ s. go_on_twice (read_in text n first s) (λ v r. go_on (read_in text n (members count) r) (λ w q. Ok (pair v w, q))) (λ p q. Ok (chain_value (join_of m) p, q)))
      (ran_bind (tree t) (tree u) a b c (read_in text n first) (λ v r. go_on (go_on (read_in text n (members count) r) (λ w q. Ok (pair v w, q))) (λ p q. Ok (chain_value (join_of m) p, q))) h
      (ran_same (tree u) b c (λ r. go_on (read_chain text n m count t r) (λ x q. Ok (tree x, q))) _
      (λ r. go_on_twice (read_in text n (members count) r) (λ w q. Ok (pair (tree t) w, q)) (λ p q. Ok (chain_value (join_of m) p, q)) ∙ sym (go_on_twice (read_in text n (members count) r) (λ w q. Ok (joined_to (join_of m) t w, q)) (λ x q. Ok (tree x, q))))
      (ran_map u tree b c (read_chain text n m count t) k))))

  -- no further member
  pub chain_ends : (count : ℕ) (t : SyntaxTree) (taken : Bool) (a b : Standing) → taken ≡ false → Looked taken a b (at_tokens (one_of (set_of m) ∷ [])) → Ran t a b (read_chain text n m (suc count) t)
  unfolding read_in read_chain more
  chain_ends count t taken a b e h =
      ran_map nothing (λ w. joined_to (join_of m) t w) a b (read_in text n (members (suc count)))
      (ran_right (query_language (place_in text)) (call text (suc n)) (at_tokens (one_of (set_of m) ∷ [])) (infix_operator (place_in text) (set_of m) & (member_of (place_in text) n m & members count)) empty nothing taken a b b e h
      (ran_empty (query_language (place_in text)) (call text (suc n)) b))

  abbrev rest_of : ℕ → SyntaxTree → Made → Made → State → Reading SyntaxTree
  rest_of count t o y r = go_on (read_in text n (members count) r) (λ w q. Ok (joined_to (join_of m) t (pair o (pair y w)), q))

  abbrev steps_of : ℕ → SyntaxTree → State → Reading SyntaxTree
  steps_of count t s = go_on (read_in text n (infix_operator (place_in text) (set_of m)) s) (λ o x. go_on (read_in text n (member_of (place_in text) n m) x) (λ y r. rest_of count t o y r))

  abbrev paired : ℕ → State → Reading Made
  paired count s =
      go_on (read_in text n (infix_operator (place_in text) (set_of m)) s)
      (λ o x. go_on (go_on (read_in text n (member_of (place_in text) n m) x) (λ y r. go_on (read_in text n (members count) r) (λ w q. Ok (pair y w, q)))) (λ p q. Ok (pair o p, q)))

  steps_same : (count : ℕ) (t : SyntaxTree) (s : State) → go_on (paired count s) (λ w q. Ok (joined_to (join_of m) t w, q)) ≡ steps_of count t s
  steps_same count t s =
      go_on_twice (read_in text n (infix_operator (place_in text) (set_of m)) s) _ _
      ∙ go_on_each (read_in text n (infix_operator (place_in text) (set_of m)) s) _ _
      (λ o x. go_on_twice (go_on (read_in text n (member_of (place_in text) n m) x) (λ y r. go_on (read_in text n (members count) r) (λ w q. Ok (pair y w, q)))) _ _
      ∙ go_on_twice (read_in text n (member_of (place_in text) n m) x) _ _
      ∙ go_on_each (read_in text n (member_of (place_in text) n m) x) _ _ (λ y r. go_on_twice (read_in text n (members count) r) _ _))

  -- one more
  pub chain_goes_on : {E : Type 0} (count : ℕ) (t u v : SyntaxTree) (place : Place) (w : Word) (kept : SyntaxTree) (result : Result SyntaxTree E) (taken : Bool) (a b c d e z : Standing) → taken ≡ true → Looked taken a b (at_tokens (one_of (set_of m) ∷ []))
      → Ran (node (Operator place w)) b c (read_in text n (infix_operator (place_in text) (set_of m))) → Ran (tree u) c d (read_in text n (member_of (place_in text) n m))
      → IfOk result (λ x. x ≡ join_of m place w t u) → KeepsTree kept result d e → Ran v e z (read_chain text n m count kept) → Ran v a z (read_chain text n m (suc count) t)
  unfolding read_in read_chain more
  chain_goes_on count t u v place w kept result taken a b c d e z f h i j k l r =
      ran_looked v taken a b z (at_tokens (one_of (set_of m) ∷ [])) (steps_of count t) (read_chain text n m (suc count) t) h
      (ran_bind (node (Operator place w)) v b c z (read_in text n (infix_operator (place_in text) (set_of m))) (λ o x. go_on (read_in text n (member_of (place_in text) n m) x) (λ y q. rest_of count t o y q)) i
      (ran_bind (tree u) v c d z (read_in text n (member_of (place_in text) n m)) (λ y q. rest_of count t (node (Operator place w)) y q) j
      (ran_kept kept (join_of m place w t u) result v d e z (read_chain text n m count) k l r)))
      (λ s q. ap (λ x. go_on (if x then (paired count (notes s ((at_tokens (one_of (set_of m) ∷ [])).seen s.rest))) else (Ok (nothing, notes s ((at_tokens (one_of (set_of m) ∷ [])).seen s.rest)))) (λ p r. Ok (joined_to (join_of m) t p, r))) (sym q ∙ f)
      ∙ steps_same count t (notes s ((at_tokens (one_of (set_of m) ∷ [])).seen s.rest)))

  -- as many members as may stand
  pub chain_full : (t : SyntaxTree) (a b : Standing) → Ran nothing a b (read_in text n (last_member (place_in text) m)) → Ran t a b (read_chain text n m zero t)
  unfolding read_chain more
  chain_full t a b h = ran_map nothing (λ w. joined_to (join_of m) t w) a b (read_in text n (last_member (place_in text) m)) h
