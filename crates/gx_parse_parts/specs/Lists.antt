-- Lists whose members are read one after another.
use Rattle.std.specs.Prelude.{◌≡◌, List, [], ◌∷◌, ◌++◌, ◌⊎◌}
use Rattle.gx_ast.specs.declared.expression.Binding.{Binding}
use Rattle.gx_ast.specs.declared.expression.Clause.{Clause}
use Rattle.gx_ast.specs.declared.expression.Clause.TheVariants.{For, Let, Where}
use Rattle.gx_ast.specs.declared.sequence_type.BoundVariable.{BoundVariable}
use Rattle.gx_ast.specs.SyntaxView.{bindings_of}
use Rattle.gx_grammar.specs.Value.{node, pair}
use Rattle.gx_grammar.specs.Reading.{State, Reading}
use Rattle.gx_grammar.specs.Ran.{Standing, Ran, IsDone, Loses}
use Rattle.gx_parse_grammar.specs.declared.word.ClauseWord.TheVariants as clause_word
use Rattle.gx_parse_grammar.specs.Nodes.{Made, Binds, BindingClause, WhereClause, tree}
use Rattle.gx_parse_tokens.specs.Reading.{Added}

-- members, in front of what else was read
abbrev pub items_before : {A : Type 0} → (A → Made) → List A → Made → Made
items_before value [] w = w
items_before value (x ∷ xs) w = pair (value x) (items_before value xs w)

-- one was added behind a list, or memory did not suffice for it
abbrev pub Grown : {A : Type 0} → List A → A → List A → Standing → Standing → Type 0
Grown list x grown before after = ((grown ≡ list ++ x ∷ []) × (after ≡ before)) ⊎ ((grown ≡ list) × Loses before after)

-- one was read and added behind a list, or reading has ended
abbrev pub OneMore : {A : Type 0} → (A → Made) → List A → List A → Standing → Standing → (State → Reading Made) → Type 0
OneMore {A} value list grown before after read = ((x : A) × (grown ≡ list ++ x ∷ []) × Ran (value x) before after read) ⊎ ((grown ≡ list) × IsDone after × ((v : Made) → Ran v before after read))

-- Members were read, of those that `whole` reads; further ones may follow, which `rest` reads.
abbrev pub Gone : {A : Type 0} → (A → Made) → List A → List A → Standing → Standing → (State → Reading Made) → (State → Reading Made) → Type 0
Gone value first list before here whole rest = Added first list (λ others. (w : Made) (z : Standing) → Ran w here z rest → Ran (items_before value others w) before z whole)

abbrev pub head_made : BoundVariable → Made
head_made b = node (Binds b)

abbrev pub binding_made : Binding → Made
binding_made b = pair (head_made b.bound) (tree b.value)

abbrev pub clause_made : Clause → Made
clause_made (For place bs) = node (BindingClause clause_word.For place (bindings_of bs.items))
clause_made (Let place bs) = node (BindingClause clause_word.Let place (bindings_of bs.items))
clause_made (Where place t) = node (WhereClause place t)
