-- How lists are read, member after member.
use Rattle.std.proofs.Common.{◌≡◌, List, [], ◌∷◌, ◌++◌, inl, inr, refl, sym, ap, subst, ◌∙◌, append_assoc, append-nil}
use Rattle.gx_ast.specs.declared.expression.Binding.{Binding}
use Rattle.gx_ast.specs.declared.expression.Clause.{Clause}
use Rattle.gx_ast.specs.declared.expression.Clause.TheVariants.{For, Let, Where}
use Rattle.gx_ast.specs.SyntaxTree.{a_binding, for_clause, let_clause, where_clause}
use Rattle.gx_ast.specs.SyntaxView.{bindings_of, clauses_of}
use Rattle.gx_grammar.specs.Value.{nothing, pair}
use Rattle.gx_grammar.specs.Reading.{State, Reading}
use Rattle.gx_grammar.specs.Ran.{Standing, Ran, IsDone}
use Rattle.gx_parse_grammar.specs.Nodes.{Made}
use Rattle.gx_parse_tokens.specs.Reading.{Added}
use Rattle.gx_parse_parts.specs.Lists.{items_before, Grown, OneMore, Gone, binding_made, clause_made}
use Rattle.gx_parse_grammar.specs.Binding.{bindings_in, clauses_in}
use Rattle.gx_parse_parts.proofs.Chains.{ran_any}
use Rattle.gx_parse_parts.proofs.Phrases.{loses_done, stays_done, ran_loses}

module _ {A : Type 0} (value : A → Made) where
  items_join : (xs ys : List A) (w : Made) → items_before value (xs ++ ys) w ≡ items_before value xs (items_before value ys w)
  items_join [] ys w = refl
  items_join (x ∷ xs) ys w = ap (pair (value x)) (items_join xs ys w)

  -- one was read, and added behind a list
  pub one_grown : (list grown : List A) (x : A) (a b c : Standing) (read : State → Reading Made) → Ran (value x) a b read → Grown list x grown b c → OneMore value list grown a c read
  one_grown list grown x a b c read h (inl g) = inl (x, g.0, subst (λ d. Ran (value x) a d read) (sym g.1) h)
  one_grown list grown x a b c read h (inr g) = inr (g.0, loses_done b c g.1, (λ v. ran_loses (value x) v a b c read h g.1))

  pub gone_start : (list : List A) (a : Standing) (whole rest : State → Reading Made) → ((w : Made) (z : Standing) → Ran w a z rest → Ran w a z whole) → Gone value list list a a whole rest
  gone_start list a whole rest f = record { others = []; is = sym (append-nil list); holds = f }

  -- one more, which `item` read, in front of those that `next` reads
  pub gone_step : (first list grown : List A) (a here b d : Standing) (whole rest item next : State → Reading Made) → Gone value first list a here whole rest
      → ((v w : Made) (z : Standing) → Ran v b d item → Ran w d z next → Ran (pair v w) here z rest) → OneMore value list grown b d item → Gone value first grown a d whole next
  gone_step first list grown a here b d whole rest item next g one (inl m) =
      let x = m.0 in
      record {
        others = g.others ++ x ∷ [];
        is = m.1 ∙ ap (λ us. us ++ x ∷ []) g.is ∙ append_assoc first g.others (x ∷ []);
        holds = λ w z h. subst (λ v. Ran v a z whole) (sym (items_join g.others (x ∷ []) w)) (g.holds (pair (value x) w) z (one (value x) w z m.2 h));
      }
  gone_step first list grown a here b d whole rest item next g one (inr m) = record {
    others = g.others;
    is = m.0 ∙ g.is;
    holds = λ w z h. g.holds w z (ran_any (pair nothing w) w here z rest (stays_done w d z next m.1 h) (one nothing w z (m.2 nothing) h));
  }

  -- no further one
  pub gone_end : (first list : List A) (a here z : Standing) (whole rest : State → Reading Made) → Gone value first list a here whole rest → Ran nothing here z rest → Added first list (λ others. Ran (items_before value others nothing) a z whole)
  gone_end first list a here z whole rest g h = record { others = g.others; is = g.is; holds = g.holds nothing z h }

  -- the last ones, read together
  pub gone_last : (first list more : List A) (a here z : Standing) (whole rest : State → Reading Made) → Gone value first list a here whole rest → Added list more (λ others. Ran (items_before value others nothing) here z rest)
      → Added first more (λ others. Ran (items_before value others nothing) a z whole)
  gone_last first list more a here z whole rest g m = record {
    others = g.others ++ m.others;
    is = m.is ∙ ap (λ us. us ++ m.others) g.is ∙ append_assoc first g.others m.others;
    holds = subst (λ v. Ran v a z whole) (sym (items_join g.others m.others nothing)) (g.holds (items_before value m.others nothing) z m.holds);
  }

  -- at most one
  pub one_added : (list grown : List A) (a b z : Standing) (read whole : State → Reading Made) → OneMore value list grown b z read → ((v : Made) → Ran v b z read → Ran (pair v nothing) a z whole) → Added list grown (λ others. Ran (items_before value others nothing) a z whole)
  one_added list grown a b z read whole (inl m) f = record { others = m.0 ∷ []; is = m.1; holds = f (value m.0) m.2 }
  one_added list grown a b z read whole (inr m) f = record { others = []; is = m.0 ∙ sym (append-nil list); holds = ran_any (pair nothing nothing) nothing a z whole m.1 (f nothing (m.2 nothing)) }

-- none was read, where reading has ended
pub none_grown : {A : Type 0} (value : A → Made) (list : List A) (v : Made) (a b : Standing) (read : State → Reading Made) → IsDone b → Ran v a b read → OneMore value list list a b read
none_grown value list v a b read d h = inr (refl, d, (λ w. ran_any v w a b read d h))

pub bindings_seen : (bs : List Binding) → bindings_in (items_before binding_made bs nothing) ≡ bindings_of bs
bindings_seen [] = refl
bindings_seen (b ∷ bs) = ap (a_binding b.bound b.value) (bindings_seen bs)

pub clauses_seen : (cs : List Clause) → clauses_in (items_before clause_made cs nothing) ≡ clauses_of cs
clauses_seen [] = refl
clauses_seen (For place bs ∷ cs) = ap (for_clause place (bindings_of bs.items)) (clauses_seen cs)
clauses_seen (Let place bs ∷ cs) = ap (let_clause place (bindings_of bs.items)) (clauses_seen cs)
clauses_seen (Where place t ∷ cs) = ap (where_clause place t) (clauses_seen cs)
