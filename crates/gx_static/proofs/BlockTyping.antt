-- Typing the parts of a block and then making it comes to the judgement of the block.
use Rattle.std.proofs.Common.{◌≡◌, ◌+◌, ℕ, zero, suc, List, [], ◌∷◌, ◌++◌, length, map, refl, sym, ◌∙◌, ap, subst, append_assoc, arith}
use Rattle.std.specs.Prelude.{flat_map}
use Rattle.std.proofs.lemmas.List.{length-append, length-map}
use Rattle.gx_base.specs.declared.place.Place.{Place}
use Rattle.gx_sorting.specs.declared.keys.KeyOrder.{KeyOrder}
use Rattle.gx_types.specs.SchemaSet.{SchemaSet}
use Rattle.gx_types.specs.SequenceType.{SequenceType}
use Rattle.gx_core.specs.declared.expression.Clause.{Clause}
use Rattle.gx_core.specs.declared.expression.Clause.TheVariants as clauses
use Rattle.gx_core.specs.declared.expression.SortKey.{SortKey}
use Rattle.gx_core.specs.declared.operator.ClauseKind.{ClauseKind}
use Rattle.gx_core.specs.declared.operator.ClauseKind.TheVariants.{For, Let, Where}
use Rattle.gx_core.specs.declared.operator.Operator.{Operator}
use Rattle.gx_core.specs.declared.operator.Operator.TheVariants as operators
use Rattle.gx_core.specs.Expression.{CoreExpression, core_at, Parts, no_parts, a_part, all_parts, each_of, annotation_of}
use Rattle.gx_core.specs.ExpressionView.{kind_of_clause, part_of_clause, part_of_key, order_of_key, parts_of_block}
use Rattle.gx_core.specs.Bindings.{Types, clause_types_bound}
use Rattle.gx_core.specs.Soundness.{TypedExpression}
use Rattle.gx_core.specs.Queries.{TypedDeclaration}
use Rattle.gx_static.specs.Rule.{ruling}
use Rattle.gx_static.specs.Judgement.{typed, with_typed, judged, parts_judged, concluded}
use Rattle.gx_static.specs.declared.typing.Task.{Task}
use Rattle.gx_static.specs.declared.typing.Task.TheVariants.{Infer, Unbind, Finish}
use Rattle.gx_static.specs.Typing.{Awaited, then_typed, finished, last_parts, clause_tasks, clause_unbinding, block_tasks, continued}
use Rattle.gx_static.proofs.Blocks.{Binds, binds_behind, binds_further, binds_here}
use Rattle.gx_static.proofs.Continuing.{made_typed, one_more}

-- ---- what is unbound at the end

abbrev unbindings : Types → List Task
unbindings bound = map (λ b. Unbind) bound

unbound : (schemas : SchemaSet) (tasks : List Task) (there : List TypedExpression) (bound types : Types) (declared : List TypedDeclaration)
    → continued schemas (unbindings bound ++ tasks) there (bound ++ types) declared ≡ continued schemas tasks there types declared
unbound schemas tasks there [] types declared = refl
unbound schemas tasks there (b ∷ bound) types declared = unbound schemas tasks there bound types declared

one_behind : (bound : Types) (tasks : List Task) → unbindings bound ++ Unbind ∷ tasks ≡ Unbind ∷ (unbindings bound ++ tasks)
one_behind [] tasks = refl
one_behind (b ∷ bound) tasks = ap (λ (l : List Task). Unbind ∷ l) (one_behind bound tasks)

clause_behind : (kind : ClauseKind) (t : SequenceType) (bound : Types) (tasks : List Task) → unbindings bound ++ (clause_unbinding kind ++ tasks) ≡ unbindings (clause_types_bound kind t ++ bound) ++ tasks
clause_behind (For binder zero) t bound tasks = one_behind bound tasks
clause_behind (For binder (suc position)) t bound tasks = one_behind bound (Unbind ∷ tasks) ∙ ap (λ (l : List Task). Unbind ∷ l) (one_behind bound tasks)
clause_behind (Let binder) t bound tasks = one_behind bound tasks
clause_behind Where t bound tasks = refl

-- ---- the keys, and what is returned

abbrev inferred : List CoreExpression → List Task
inferred es = map (λ e. Infer e) es

module _ (schemas : SchemaSet) (operator : Operator) (types : Types) (declared : List TypedDeclaration) (next : Parts SequenceType → List TypedExpression → Awaited) (below : List TypedExpression) where
  -- so many parts are there, and all of them come to what is made of these
  abbrev AreTaken : ℕ → List TypedExpression → (Parts SequenceType → Parts SequenceType) → Type 0
  AreTaken n there behind = (parts : Parts SequenceType) → last_parts n there parts next ≡ next (behind parts) below

  -- tasks that take so many parts, over what is bound
  abbrev Takes : ℕ → Types → List Task → Type 0
  Takes n bound tasks = (there : List TypedExpression) → continued schemas tasks there (bound ++ types) declared ≡ last_parts n there no_parts next

  further : (n m : ℕ) → n + suc m ≡ suc n + m
  further n m = omega arith

  keys_in_order : (es : List CoreExpression) (before : List SequenceType) (bound : Types) (n : ℕ) (there : List TypedExpression) (behind : Parts SequenceType → Parts SequenceType) (tasks : List Task)
      → Binds operator before [] bound → AreTaken n there behind → Takes (n + length es) bound tasks
      → continued schemas (inferred es ++ tasks) there (bound ++ types) declared ≡ then_typed (parts_judged schemas operator before (all_parts es) types) (λ ts. next (behind ts) below)
  keys_in_order [] before bound n there behind tasks b taken takes =
      let count : n + 0 ≡ n = omega arith in
      takes there ∙ ap (λ (m : ℕ). last_parts m there no_parts next) count ∙ taken no_parts
  keys_in_order (e ∷ es) before bound n there behind tasks b taken takes =
      subst (λ (here : Types). then_typed (judged schemas e (bound ++ types)) (λ t. continued schemas (inferred es ++ tasks) (t ∷ there) (bound ++ types) declared)
      ≡ then_typed (with_typed (judged schemas e (here ++ types)) (λ t. with_typed (parts_judged schemas operator (before ++ annotation_of t ∷ []) (all_parts es) types) (λ ts. typed (a_part t ts)))) (λ ts. next (behind ts) below))
      (sym (binds_here operator before [] bound b))
      (one_more (judged schemas e (bound ++ types)) (λ t. parts_judged schemas operator (before ++ annotation_of t ∷ []) (all_parts es) types)
      (λ t. continued schemas (inferred es ++ tasks) (t ∷ there) (bound ++ types) declared) (λ ts. next (behind ts) below)
      (λ t. keys_in_order es (before ++ annotation_of t ∷ []) bound (suc n) (t ∷ there) (λ ts. behind (a_part t ts)) tasks (binds_further operator before bound (annotation_of t) b)
      (λ parts. taken (a_part t parts)) (subst (λ (m : ℕ). Takes m bound tasks) (further n (length es)) takes)))

  -- ---- the clauses

  -- tasks that take away what is bound and then take so many parts
  abbrev Ends : ℕ → List Task → Type 0
  Ends n tasks = (there : List TypedExpression) → continued schemas tasks there types declared ≡ last_parts n there no_parts next

  -- the tasks behind a clause, over what it binds besides
  behind_clause : (kind : ClauseKind) (rest : List Task) (es : List CoreExpression) (bound : Types) (others tasks : List Task) (t : TypedExpression) (there : List TypedExpression)
      → continued schemas (rest ++ (inferred es ++ (unbindings bound ++ ((clause_unbinding kind ++ others) ++ tasks)))) there (clause_types_bound kind (annotation_of t) ++ (bound ++ types)) declared
      ≡ continued schemas (rest ++ (inferred es ++ (unbindings (clause_types_bound kind (annotation_of t) ++ bound) ++ (others ++ tasks)))) there ((clause_types_bound kind (annotation_of t) ++ bound) ++ types) declared
  behind_clause kind rest es bound others tasks t there =
      let own : Types = clause_types_bound kind (annotation_of t) in
      let end : unbindings bound ++ ((clause_unbinding kind ++ others) ++ tasks) ≡ unbindings (own ++ bound) ++ (others ++ tasks) =
      ap (λ (l : List Task). unbindings bound ++ l) (append_assoc (clause_unbinding kind) others tasks) ∙ clause_behind kind (annotation_of t) bound (others ++ tasks) in
      ap (λ (l : List Task). continued schemas (rest ++ (inferred es ++ l)) there (own ++ (bound ++ types)) declared) end
      ∙ ap (λ (ts : Types). continued schemas (rest ++ (inferred es ++ (unbindings (own ++ bound) ++ (others ++ tasks)))) there ts declared) (sym (append_assoc own bound types))

  further_on : (n m k : ℕ) → n + suc m + k ≡ suc n + m + k
  further_on n m k = omega arith

  -- a part of a clause, and what follows
  clause_in_order : (e : CoreExpression) (es : List CoreExpression) (before : List SequenceType) (bound : Types) (kinds : List ClauseKind) (behind : Parts SequenceType → Parts SequenceType) (rest : TypedExpression → Awaited)
      → Binds operator before kinds bound → ((t : TypedExpression) → rest t ≡ then_typed (parts_judged schemas operator (before ++ annotation_of t ∷ []) (all_parts es) types) (λ ts. next (behind (a_part t ts)) below))
      → then_typed (judged schemas e (bound ++ types)) rest ≡ then_typed (parts_judged schemas operator before (all_parts (e ∷ es)) types) (λ ts. next (behind ts) below)
  clause_in_order e es before bound kinds behind rest b h =
      subst (λ (here : Types). then_typed (judged schemas e (bound ++ types)) rest
      ≡ then_typed (with_typed (judged schemas e (here ++ types)) (λ t. with_typed (parts_judged schemas operator (before ++ annotation_of t ∷ []) (all_parts es) types) (λ ts. typed (a_part t ts)))) (λ ts. next (behind ts) below))
      (sym (binds_here operator before kinds bound b))
      (one_more (judged schemas e (bound ++ types)) (λ t. parts_judged schemas operator (before ++ annotation_of t ∷ []) (all_parts es) types) rest (λ ts. next (behind ts) below) h)

  clauses_in_order : (cs : List (Clause (Unit {0}))) (es : List CoreExpression) (before : List SequenceType) (bound : Types) (n : ℕ) (there : List TypedExpression) (behind : Parts SequenceType → Parts SequenceType) (tasks : List Task)
      → Binds operator before (map kind_of_clause cs) bound → AreTaken n there behind → Ends (n + length cs + length es) tasks
      → continued schemas (flat_map clause_tasks cs ++ (inferred es ++ (unbindings bound ++ (flat_map clause_unbinding (map kind_of_clause cs) ++ tasks)))) there (bound ++ types) declared
      ≡ then_typed (parts_judged schemas operator before (all_parts (map part_of_clause cs ++ es)) types) (λ ts. next (behind ts) below)
  clauses_in_order [] es before bound n there behind tasks b taken ends =
      let count : n + 0 + length es ≡ n + length es = omega arith in
      keys_in_order es before bound n there behind (unbindings bound ++ tasks) b taken
      (λ all. unbound schemas tasks all bound types declared ∙ ends all ∙ ap (λ (m : ℕ). last_parts m all no_parts next) count)
  clauses_in_order (clauses.For binder position e ∷ cs) es before bound n there behind tasks b taken ends =
      let kinds : List ClauseKind = map kind_of_clause cs in
      clause_in_order e (map part_of_clause cs ++ es) before bound (For binder position ∷ kinds) behind
      (λ t. continued schemas (flat_map clause_tasks cs ++ (inferred es ++ (unbindings bound ++ ((clause_unbinding (For binder position) ++ flat_map clause_unbinding kinds) ++ tasks)))) (t ∷ there) (clause_types_bound (For binder position) (annotation_of t) ++ (bound ++ types)) declared)
      b
      (λ t. behind_clause (For binder position) (flat_map clause_tasks cs) es bound (flat_map clause_unbinding kinds) tasks t (t ∷ there)
      ∙ clauses_in_order cs es (before ++ annotation_of t ∷ []) (clause_types_bound (For binder position) (annotation_of t) ++ bound) (suc n) (t ∷ there) (λ ts. behind (a_part t ts)) tasks
      (binds_behind operator before (For binder position) kinds bound (annotation_of t) b) (λ parts. taken (a_part t parts)) (subst (λ (m : ℕ). Ends m tasks) (further_on n (length cs) (length es)) ends))
  clauses_in_order (clauses.Let binder e ∷ cs) es before bound n there behind tasks b taken ends =
      let kinds : List ClauseKind = map kind_of_clause cs in
      clause_in_order e (map part_of_clause cs ++ es) before bound (Let binder ∷ kinds) behind
      (λ t. continued schemas (flat_map clause_tasks cs ++ (inferred es ++ (unbindings bound ++ ((clause_unbinding (Let binder) ++ flat_map clause_unbinding kinds) ++ tasks)))) (t ∷ there) (clause_types_bound (Let binder) (annotation_of t) ++ (bound ++ types)) declared)
      b
      (λ t. behind_clause (Let binder) (flat_map clause_tasks cs) es bound (flat_map clause_unbinding kinds) tasks t (t ∷ there)
      ∙ clauses_in_order cs es (before ++ annotation_of t ∷ []) (clause_types_bound (Let binder) (annotation_of t) ++ bound) (suc n) (t ∷ there) (λ ts. behind (a_part t ts)) tasks
      (binds_behind operator before (Let binder) kinds bound (annotation_of t) b) (λ parts. taken (a_part t parts)) (subst (λ (m : ℕ). Ends m tasks) (further_on n (length cs) (length es)) ends))
  clauses_in_order (clauses.Where e ∷ cs) es before bound n there behind tasks b taken ends =
      let kinds : List ClauseKind = map kind_of_clause cs in
      clause_in_order e (map part_of_clause cs ++ es) before bound (Where ∷ kinds) behind
      (λ t. continued schemas (flat_map clause_tasks cs ++ (inferred es ++ (unbindings bound ++ (flat_map clause_unbinding kinds ++ tasks)))) (t ∷ there) (bound ++ types) declared)
      b
      (λ t. clauses_in_order cs es (before ++ annotation_of t ∷ []) bound (suc n) (t ∷ there) (λ ts. behind (a_part t ts)) tasks
      (binds_behind operator before Where kinds bound (annotation_of t) b) (λ parts. taken (a_part t parts)) (subst (λ (m : ℕ). Ends m tasks) (further_on n (length cs) (length es)) ends))

-- ---- the block

keys_inferred : (ks : List (SortKey (Unit {0}))) (body : CoreExpression) → map (λ k. Infer (part_of_key k)) ks ++ Infer body ∷ [] ≡ inferred (map part_of_key ks ++ body ∷ [])
keys_inferred [] body = refl
keys_inferred (k ∷ ks) body = ap (λ (l : List Task). Infer (part_of_key k) ∷ l) (keys_inferred ks body)

pub block_opens : (schemas : SchemaSet) (tasks : List Task) (parts : List TypedExpression) (types : Types) (declared : List TypedDeclaration) (place outer : Place) (cs : List (Clause (Unit {0}))) (ks : List (SortKey (Unit {0}))) (body : CoreExpression)
    → continued schemas (block_tasks cs ks body ++ (flat_map clause_unbinding (map kind_of_clause cs) ++ Finish place outer (operators.Block (map kind_of_clause cs) (map order_of_key ks)) ∷ tasks)) parts types declared
    ≡ then_typed (judged schemas (core_at place outer (operators.Block (map kind_of_clause cs) (map order_of_key ks)) (all_parts (parts_of_block cs ks body))) types) (λ t. continued schemas tasks (t ∷ parts) types declared)
block_opens schemas tasks parts types declared place outer cs ks body =
    let kinds : List ClauseKind = map kind_of_clause cs in
    let orders : List KeyOrder = map order_of_key ks in
    let operator : Operator = operators.Block kinds orders in
    let es : List CoreExpression = map part_of_key ks ++ body ∷ [] in
    let last : List Task = flat_map clause_unbinding kinds ++ Finish place outer operator ∷ tasks in
    let next : Parts SequenceType → List TypedExpression → Awaited = finished schemas place outer operator types (λ t below. continued schemas tasks (t ∷ below) types declared) in
    let count : length kinds + length orders + 1 ≡ 0 + length cs + length es = omega (arith, length-map cs kind_of_clause, length-map ks order_of_key, length-append (map part_of_key ks) (body ∷ []), length-map ks part_of_key) in
    ap (λ (l : List Task). continued schemas (l ++ last) parts types declared) (ap (λ (l : List Task). flat_map clause_tasks cs ++ l) (keys_inferred ks body))
    ∙ ap (λ (l : List Task). continued schemas l parts types declared) (append_assoc (flat_map clause_tasks cs) (inferred es) last)
    ∙ clauses_in_order schemas operator types declared next parts cs es [] [] 0 parts (λ ts. ts) (Finish place outer operator ∷ tasks) (λ more. refl) (λ ps. refl)
    (λ all. ap (λ (m : ℕ). last_parts m all no_parts next) count)
    ∙ made_typed (parts_judged schemas operator [] (all_parts (parts_of_block cs ks body)) types) (λ ts. concluded place outer operator ts (ruling schemas operator (each_of annotation_of ts) types)) (λ t. continued schemas tasks (t ∷ parts) types declared)
