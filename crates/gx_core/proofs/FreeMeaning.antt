-- An expression comes to the same under bindings that are the same for the variables that it names and does not bind.
use Rattle.std.proofs.Common.{◌≡◌, ℕ, zero, suc, Bool, true, false, ◌&&◌, ◌||◌, List, [], ◌∷◌, ◌++◌, map, drop}
use Rattle.std.proofs.Common.{length, Option, Some, None, refl, sym, ◌∙◌, ap, subst, nat_eq, if◌then◌else◌}
use Rattle.std.specs.Prelude.{not}
use Rattle.std.proofs.lemmas.List.{append_assoc, append-nil, map-append}
use Rattle.std.specs.List.{AllByRecursion}
use Rattle.std.proofs.lemmas.Bool.{and_from, or_left, or_right, not_from_false, eq-eqb}
use Rattle.gx_types.specs.SchemaSet.{SchemaSet}
use Rattle.gx_sorting.specs.declared.keys.KeyOrder.{KeyOrder}
use Rattle.gx_sorting.specs.KeyComparison.{keys_precede}
use Rattle.gx_sorting.proofs.PublicLaws.{each_sorted}
use Rattle.gx_model.specs.Forest.{Forest}
use Rattle.gx_model.specs.Item.{Item, Items}
use Rattle.gx_core.specs.declared.cases.TypeCase.{TypeCase}
use Rattle.gx_core.specs.declared.operator.ClauseKind.{ClauseKind}
use Rattle.gx_core.specs.declared.operator.ClauseKind.TheVariants as clauses
use Rattle.gx_core.specs.declared.operator.Operator.{Operator}
use Rattle.gx_core.specs.declared.operator.Operator.TheVariants as operators
use Rattle.gx_core.specs.Expression.{CoreExpression, At, Parts, no_parts, a_part}
use Rattle.gx_core.specs.Bindings.{look_up, position_bound, position_numbers, branch_numbers}
use Rattle.gx_core.specs.Bindings.{clause_numbers_bound, block_numbers_bound, numbers_bound_by}
use Rattle.gx_core.specs.Instances.{is_instance}
use Rattle.gx_core.specs.FreeVariables.{names_variable, is_free_in, is_free_in_parts}
use Rattle.gx_core.specs.Invariant.{is_among}
use Rattle.gx_core.specs.Outcome.{Outcome, gives, raises, wrong, after, given}
use Rattle.gx_core.specs.Comparing.{condition_of}
use Rattle.gx_core.specs.Paths.{stepped}
use Rattle.gx_core.specs.Blocks.{Tuple, key_of, tuple_keys, tuples_of_each, tuples_if, tuples_of}
use Rattle.gx_core.specs.Blocks.{in_key_order, returned, block_returned, block_denoted}
use Rattle.gx_core.specs.Meaning.{Context, Bindings, Denotation, acts, all_of, for_each, item_bound}
use Rattle.gx_core.specs.Meaning.{any_decides, branch, switched, denoted, meaning, meanings}
use Rattle.gx_core.specs.Laws.{MeaningLooksAtFreeVariables}

-- ---- parts under two lists of bindings

-- the numbers of the variables that bindings bind
abbrev numbers_of : Bindings → List ℕ
numbers_of bindings = map (λ binding. binding.0) bindings

-- a part comes to the same behind all bindings of these numbers
abbrev LooksAlike : List ℕ → (bindings others : Bindings) → Denotation → Type 0
LooksAlike numbers bindings others part =
    (bound : Bindings) → numbers_of bound ≡ numbers → (forest : Forest) → part (bound ++ bindings) forest ≡ part (bound ++ others) forest

abbrev LookAlike : Operator → (before : List (Unit {0})) → (bindings others : Bindings) → List Denotation → Type 0
LookAlike operator before bindings others [] = Unit {0}
LookAlike operator before bindings others (part ∷ parts) =
    LooksAlike (numbers_bound_by operator before) bindings others part × LookAlike operator (before ++ tt ∷ []) bindings others parts

-- a variable that the bindings in front do not bind is looked up behind them
found_alike : (bound bindings others : Bindings) (number : ℕ)
    → (is_among (numbers_of bound) number ≡ false → look_up bindings number ≡ look_up others number)
    → look_up (bound ++ bindings) number ≡ look_up (bound ++ others) number
found_alike [] bindings others number h = h refl
found_alike (b ∷ bound) bindings others number h =
    elim (nat_eq b.0 number) as (λ (same : Bool). ((same || is_among (numbers_of bound) number) ≡ false
    → look_up bindings number ≡ look_up others number)
    → (if same then Some b.1 else look_up (bound ++ bindings) number) ≡ (if same then Some b.1 else look_up (bound ++ others) number)) [
      | true ↦ λ k. refl
      | false ↦ λ k. found_alike bound bindings others number k
    ] h

item_numbers : (variable position number : ℕ) (x : Item)
    → numbers_of (item_bound variable position number x) ≡ variable ∷ position_numbers position
item_numbers variable zero number x = refl
item_numbers variable (suc position) number x = refl

-- ---- operators

-- operands, for which an operator binds nothing
same_values : (operator : Operator) → ((before : List (Unit {0})) → numbers_bound_by operator before ≡ [])
    → (before : List (Unit {0})) (bindings others : Bindings) (parts : List Denotation) (forest : Forest)
    → LookAlike operator before bindings others parts → all_of parts bindings forest ≡ all_of parts others forest
same_values operator none before bindings others [] forest h = refl
same_values operator none before bindings others (part ∷ parts) forest h =
    let first : part bindings forest ≡ part others forest = h.0 [] (sym (none before)) forest in
    let rest = λ (left : Forest). same_values operator none (before ++ tt ∷ []) bindings others parts left h.1 in
    λ i. after (first i) (λ value left. after (rest left i) (λ values last. gives (value ∷ values) last))

same_strict : (context : Context) (operator : Operator) → ((before : List (Unit {0})) → numbers_bound_by operator before ≡ [])
    → (parts : List Denotation) (bindings others : Bindings) (forest : Forest)
    → LookAlike operator [] bindings others parts
    → after (all_of parts bindings forest) (acts context operator) ≡ after (all_of parts others forest) (acts context operator)
same_strict context operator none parts bindings others forest h =
    ap (λ o. after o (acts context operator)) (same_values operator none [] bindings others parts forest h)

same_branch : (truth : Bool) (chosen otherwise : Denotation) (bindings others : Bindings) (left : Forest)
    → chosen bindings left ≡ chosen others left → otherwise bindings left ≡ otherwise others left
    → branch truth chosen otherwise bindings left ≡ branch truth chosen otherwise others left
same_branch true chosen otherwise bindings others left h k = h
same_branch false chosen otherwise bindings others left h k = k

-- a branch that is chosen by the cases that are left, behind those that other branches were for
case_numbers : (number : ℕ) (xs : Items) → numbers_of (position_bound number xs) ≡ position_numbers number
case_numbers zero xs = refl
case_numbers (suc number) xs = refl

numbers_here : (all : List TypeCase) (default : ℕ) (cases : List TypeCase) (seen : List (Unit {0}))
    → ((more : List (Unit {0})) → branch_numbers all default (seen ++ more) ≡ branch_numbers cases default more)
    → branch_numbers all default seen ≡ branch_numbers cases default []
numbers_here all default cases seen rest = ap (λ (b : List (Unit {0})). branch_numbers all default b) (sym (append-nil seen)) ∙ rest []

same_switched : (schemas : SchemaSet) (all : List TypeCase) (default : ℕ) (cases : List TypeCase) (seen : List (Unit {0}))
    (branches : List Denotation) (bindings others : Bindings) (xs : Items) (forest : Forest)
    → ((more : List (Unit {0})) → branch_numbers all default (seen ++ more) ≡ branch_numbers cases default more)
    → LookAlike (operators.Switch all default) (tt ∷ seen) bindings others branches
    → switched schemas cases default branches xs bindings forest ≡ switched schemas cases default branches xs others forest
same_switched schemas all default [] seen [] bindings others xs forest rest h = refl
same_switched schemas all default [] seen (otherwise ∷ []) bindings others xs forest rest h =
    h.0 (position_bound default xs) (case_numbers default xs ∙ sym (numbers_here all default [] seen rest)) forest
same_switched schemas all default [] seen (otherwise ∷ branch ∷ branches) bindings others xs forest rest h = refl
same_switched schemas all default (case ∷ cases) seen [] bindings others xs forest rest h = refl
same_switched schemas all default (case ∷ cases) seen (chosen ∷ branches) bindings others xs forest rest h =
    let first : chosen (position_bound case.variable xs ++ bindings) forest ≡ chosen (position_bound case.variable xs ++ others) forest =
    h.0 (position_bound case.variable xs) (case_numbers case.variable xs ∙ sym (numbers_here all default (case ∷ cases) seen rest))
    forest in
    let next = same_switched schemas all default cases (seen ++ tt ∷ []) branches bindings others xs forest
    (λ more. ap (λ (b : List (Unit {0})). branch_numbers all default b) (append_assoc seen (tt ∷ []) more) ∙ rest (tt ∷ more)) h.1 in
    λ i. if is_instance schemas forest case.kind xs then first i else next i

-- ---- blocks

-- what the clauses that are left bind is behind what those before them bind
abbrev NumbersLeft : (all : List ClauseKind) → (seen : List (Unit {0})) → (kinds : List ClauseKind) → (bound : Bindings) → Type 0
NumbersLeft all seen kinds bound =
    (more : List (Unit {0})) → block_numbers_bound all (seen ++ more) [] ≡ block_numbers_bound kinds more (numbers_of bound)

none_more : (kinds : List ClauseKind) (numbers : List ℕ) → block_numbers_bound kinds [] numbers ≡ numbers
none_more [] numbers = refl
none_more (kind ∷ kinds) numbers = refl

numbers_so_far : (all kinds : List ClauseKind) (seen : List (Unit {0})) (bound : Bindings) → NumbersLeft all seen kinds bound
    → numbers_of bound ≡ block_numbers_bound all seen []
numbers_so_far all kinds seen bound rest =
    sym (ap (λ (b : List (Unit {0})). block_numbers_bound all b []) (sym (append-nil seen)) ∙ rest [] ∙ none_more kinds (numbers_of bound))

behind_clause : (all kinds : List ClauseKind) (kind : ClauseKind) (seen : List (Unit {0})) (new bound : Bindings)
    → numbers_of new ≡ clause_numbers_bound kind
    → NumbersLeft all seen (kind ∷ kinds) bound → NumbersLeft all (seen ++ tt ∷ []) kinds (new ++ bound)
behind_clause all kinds kind seen new bound e rest more =
    ap (λ (b : List (Unit {0})). block_numbers_bound all b []) (append_assoc seen (tt ∷ []) more) ∙ rest (tt ∷ more)
    ∙ ap (λ (l : List ℕ). block_numbers_bound kinds more l)
    (ap (λ (l : List ℕ). l ++ numbers_of bound) (sym e) ∙ sym (map-append (λ (binding : ℕ × Items). binding.0) new bound))

behind_key : (all : List ClauseKind) (seen : List (Unit {0})) (bound : Bindings) → NumbersLeft all seen [] bound
    → NumbersLeft all (seen ++ tt ∷ []) [] bound
behind_key all seen bound rest more =
    ap (λ (b : List (Unit {0})). block_numbers_bound all b []) (append_assoc seen (tt ∷ []) more) ∙ rest (tt ∷ more)

same_keys : (all : List ClauseKind) (every orders : List KeyOrder) (seen : List (Unit {0})) (parts : List Denotation)
    (bound bindings others : Bindings) (forest : Forest) → NumbersLeft all seen [] bound
    → LookAlike (operators.Block all every) seen bindings others parts
    → tuple_keys orders parts (bound ++ bindings) forest ≡ tuple_keys orders parts (bound ++ others) forest
same_keys all every [] seen parts bound bindings others forest rest h = refl
same_keys all every (order ∷ orders) seen [] bound bindings others forest rest h = refl
same_keys all every (order ∷ orders) seen (part ∷ parts) bound bindings others forest rest h =
    let first : part (bound ++ bindings) forest ≡ part (bound ++ others) forest =
    h.0 bound (numbers_so_far all [] seen bound rest) forest in
    let next =
    λ (left : Forest). same_keys all every orders (seen ++ tt ∷ []) parts bound bindings others left (behind_key all seen bound rest) h.1 in
    λ i. after (first i) (λ xs left. given (key_of xs) (λ key. after (next left i) (λ keys last. gives (key ∷ keys) last)))

same_tuples : (all : List ClauseKind) (orders : List KeyOrder) (kinds : List ClauseKind) (seen : List (Unit {0})) (parts : List Denotation)
    (bound bindings others : Bindings) (forest : Forest) → NumbersLeft all seen kinds bound
    → LookAlike (operators.Block all orders) seen bindings others parts
    → tuples_of kinds orders parts bound bindings forest ≡ tuples_of kinds orders parts bound others forest
same_tuples all orders [] seen parts bound bindings others forest rest h =
    ap (λ o. after o (λ keys left. gives (record { keys = keys; bound = bound } ∷ []) left))
    (same_keys all orders orders seen parts bound bindings others forest rest h)
same_tuples all orders (kind ∷ kinds) seen [] bound bindings others forest rest h = refl
same_tuples all orders (clauses.For binder position ∷ kinds) seen (source ∷ parts) bound bindings others forest rest h =
    let first : source (bound ++ bindings) forest ≡ source (bound ++ others) forest =
    h.0 bound (numbers_so_far all (clauses.For binder position ∷ kinds) seen bound rest) forest in
    let turn =
    λ (number : ℕ) (x : Item) (now : Forest). same_tuples all orders kinds (seen ++ tt ∷ []) parts
    (item_bound binder.variable position number x ++ bound) bindings others now
    (behind_clause all kinds (clauses.For binder position) seen (item_bound binder.variable position number x) bound
    (item_numbers binder.variable position number x) rest) h.1 in
    λ i. after (first i) (λ xs left. tuples_of_each (λ number x now. turn number x now i) 1 xs left)
same_tuples all orders (clauses.Let binder ∷ kinds) seen (value ∷ parts) bound bindings others forest rest h =
    let first : value (bound ++ bindings) forest ≡ value (bound ++ others) forest =
    h.0 bound (numbers_so_far all (clauses.Let binder ∷ kinds) seen bound rest) forest in
    let next =
    λ (xs : Items) (left : Forest). same_tuples all orders kinds (seen ++ tt ∷ []) parts
    ((binder.variable, xs) ∷ bound) bindings others left
    (behind_clause all kinds (clauses.Let binder) seen ((binder.variable, xs) ∷ []) bound refl rest) h.1 in
    λ i. after (first i) (λ xs left. next xs left i)
same_tuples all orders (clauses.Where ∷ kinds) seen (condition ∷ parts) bound bindings others forest rest h =
    let first : condition (bound ++ bindings) forest ≡ condition (bound ++ others) forest =
    h.0 bound (numbers_so_far all (clauses.Where ∷ kinds) seen bound rest) forest in
    let next =
    λ (left : Forest). same_tuples all orders kinds (seen ++ tt ∷ []) parts bound bindings others left
    (behind_clause all kinds clauses.Where seen [] bound refl rest) h.1 in
    λ i. after (first i) (λ xs left. given (condition_of xs) (λ truth. tuples_if truth (λ now. next now i) left))

-- all clauses bind these numbers, behind others
abbrev all_bound : List ClauseKind → List ℕ → List ℕ
all_bound [] numbers = numbers
all_bound (kind ∷ kinds) numbers = all_bound kinds (clause_numbers_bound kind ++ numbers)

-- each tuple that is found binds these numbers
abbrev BindSo : List ℕ → List Tuple → Type 0
BindSo numbers found = AllByRecursion (λ (t : Tuple). numbers_of t.bound ≡ numbers) found

abbrev FindsSo : List ℕ → Outcome (List Tuple) → Type 0
FindsSo numbers (gives found left) = BindSo numbers found
FindsSo numbers (raises code) = Unit {0}
FindsSo numbers wrong = Unit {0}

finds_after : {R : Type 0} (numbers : List ℕ) (o : Outcome R) (next : R → Forest → Outcome (List Tuple))
    → ((x : R) (left : Forest) → FindsSo numbers (next x left)) → FindsSo numbers (after o next)
finds_after numbers (gives x left) next h = h x left
finds_after numbers (raises code) next h = tt
finds_after numbers wrong next h = tt

finds_behind : (numbers : List ℕ) (o : Outcome (List Tuple)) (next : List Tuple → Forest → Outcome (List Tuple)) → FindsSo numbers o
    → ((found : List Tuple) (left : Forest) → BindSo numbers found → FindsSo numbers (next found left))
    → FindsSo numbers (after o next)
finds_behind numbers (gives found left) next k h = h found left k
finds_behind numbers (raises code) next k h = tt
finds_behind numbers wrong next k h = tt

finds_given : {R : Type 0} (numbers : List ℕ) (found : Option R) (next : R → Outcome (List Tuple)) → ((x : R) → FindsSo numbers (next x))
    → FindsSo numbers (given found next)
finds_given numbers None next h = tt
finds_given numbers (Some x) next h = h x

bind_joined : (numbers : List ℕ) (found others : List Tuple) → BindSo numbers found → BindSo numbers others
    → BindSo numbers (found ++ others)
bind_joined numbers [] others h k = k
bind_joined numbers (t ∷ found) others h k = (h.0, bind_joined numbers found others h.1 k)

finds_each : (numbers : List ℕ) (found : ℕ → Item → Forest → Outcome (List Tuple))
    → ((number : ℕ) (x : Item) (now : Forest) → FindsSo numbers (found number x now)) → (number : ℕ) (xs : Items) (forest : Forest)
    → FindsSo numbers (tuples_of_each found number xs forest)
finds_each numbers found h number [] forest = tt
finds_each numbers found h number (x ∷ xs) forest =
    finds_behind numbers (found number x forest)
    (λ tuples left. after (tuples_of_each found (suc number) xs left) (λ others last. gives (tuples ++ others) last)) (h number x forest)
    (λ tuples left k. finds_behind numbers (tuples_of_each found (suc number) xs left) (λ others last. gives (tuples ++ others) last)
    (finds_each numbers found h (suc number) xs left) (λ others last l. bind_joined numbers tuples others k l))

finds_if : (numbers : List ℕ) (truth : Bool) (found : Forest → Outcome (List Tuple)) (left : Forest) → FindsSo numbers (found left)
    → FindsSo numbers (tuples_if truth found left)
finds_if numbers true found left h = h
finds_if numbers false found left h = tt

tuples_bind : (orders : List KeyOrder) (kinds : List ClauseKind) (parts : List Denotation) (bound outer : Bindings) (forest : Forest)
    → FindsSo (all_bound kinds (numbers_of bound)) (tuples_of kinds orders parts bound outer forest)
tuples_bind orders [] parts bound outer forest =
    finds_after (numbers_of bound) (tuple_keys orders parts (bound ++ outer) forest)
    (λ keys left. gives (record { keys = keys; bound = bound } ∷ []) left) (λ keys left. (refl, tt))
tuples_bind orders (kind ∷ kinds) [] bound outer forest = tt
tuples_bind orders (clauses.For binder position ∷ kinds) (source ∷ parts) bound outer forest =
    let numbers = all_bound kinds (clause_numbers_bound (clauses.For binder position) ++ numbers_of bound) in
    let found =
    λ (number : ℕ) (x : Item) (now : Forest). tuples_of kinds orders parts
    (item_bound binder.variable position number x ++ bound) outer now in
    finds_after numbers (source (bound ++ outer) forest) (λ xs left. tuples_of_each found 1 xs left)
    (λ xs left. finds_each numbers found (λ number x now. subst (λ (l : List ℕ). FindsSo (all_bound kinds l) (found number x now))
    (map-append (λ (binding : ℕ × Items). binding.0) (item_bound binder.variable position number x) bound
    ∙ ap (λ (l : List ℕ). l ++ numbers_of bound) (item_numbers binder.variable position number x))
    (tuples_bind orders kinds parts (item_bound binder.variable position number x ++ bound) outer now)) 1 xs left)
tuples_bind orders (clauses.Let binder ∷ kinds) (value ∷ parts) bound outer forest =
    finds_after (all_bound kinds (binder.variable ∷ numbers_of bound)) (value (bound ++ outer) forest)
    (λ xs left. tuples_of kinds orders parts ((binder.variable, xs) ∷ bound) outer left)
    (λ xs left. tuples_bind orders kinds parts ((binder.variable, xs) ∷ bound) outer left)
tuples_bind orders (clauses.Where ∷ kinds) (condition ∷ parts) bound outer forest =
    let numbers = all_bound kinds (numbers_of bound) in
    finds_after numbers (condition (bound ++ outer) forest)
    (λ xs left. given (condition_of xs) (λ truth. tuples_if truth (λ now. tuples_of kinds orders parts bound outer now) left))
    (λ xs left. finds_given numbers (condition_of xs) (λ truth. tuples_if truth (λ now. tuples_of kinds orders parts bound outer now) left)
    (λ truth. finds_if numbers truth (λ now. tuples_of kinds orders parts bound outer now) left
    (tuples_bind orders kinds parts bound outer left)))

-- what is returned
same_returns : (numbers : List ℕ) (body : Denotation) (bindings others : Bindings) → LooksAlike numbers bindings others body
    → (done : Items) (tuples : List Tuple) (forest : Forest) → BindSo numbers tuples
    → returned body bindings done (map (λ t. t.bound) tuples) forest ≡ returned body others done (map (λ t. t.bound) tuples) forest
same_returns numbers body bindings others h done [] forest k = refl
same_returns numbers body bindings others h done (t ∷ tuples) forest k =
    let first : body (t.bound ++ bindings) forest ≡ body (t.bound ++ others) forest = h t.bound k.0 forest in
    let rest = λ (more : Items) (left : Forest). same_returns numbers body bindings others h (done ++ more) tuples left k.1 in
    λ i. after (first i) (λ more left. rest more left i)

-- a part for each of these stands before those that are left
abbrev ones : {X : Type 0} → List X → List (Unit {0})
ones xs = map (λ x. tt) xs

alike_behind : {X : Type 0} (operator : Operator) (xs : List X) (before : List (Unit {0})) (bindings others : Bindings)
    (parts : List Denotation) → LookAlike operator before bindings others parts
    → LookAlike operator (before ++ ones xs) bindings others (drop (length xs) parts)
alike_behind operator [] before bindings others parts h =
    subst (λ (b : List (Unit {0})). LookAlike operator b bindings others parts) (sym (append-nil before)) h
alike_behind operator (x ∷ xs) before bindings others [] h = tt
alike_behind operator (x ∷ xs) before bindings others (part ∷ parts) h =
    subst (λ (b : List (Unit {0})). LookAlike operator b bindings others (drop (length xs) parts)) (append_assoc before (tt ∷ []) (ones xs))
    (alike_behind operator xs (before ++ tt ∷ []) bindings others parts h.1)

all_numbers : (kinds : List ClauseKind) (more : List (Unit {0})) (numbers : List ℕ)
    → block_numbers_bound kinds (ones kinds ++ more) numbers ≡ all_bound kinds numbers
all_numbers [] more numbers = refl
all_numbers (kind ∷ kinds) more numbers = all_numbers kinds more (clause_numbers_bound kind ++ numbers)

same_returned : (kinds : List ClauseKind) (orders : List KeyOrder) (before : List (Unit {0})) (returns : List Denotation)
    (bindings others : Bindings) (found : List Tuple) (left : Forest)
    → block_numbers_bound kinds before [] ≡ all_bound kinds [] → LookAlike (operators.Block kinds orders) before bindings others returns
    → BindSo (all_bound kinds []) found
    → block_returned orders returns bindings found left ≡ block_returned orders returns others found left
same_returned kinds orders before [] bindings others found left e h k = refl
same_returned kinds orders before (body ∷ []) bindings others found left e h k =
    same_returns (all_bound kinds []) body bindings others (subst (λ (l : List ℕ). LooksAlike l bindings others body) e h.0) []
    (in_key_order orders found) left
    (each_sorted (λ (t u : Tuple). keys_precede orders t.keys u.keys) (λ (t : Tuple). numbers_of t.bound ≡ all_bound kinds []) found k)
same_returned kinds orders before (body ∷ part ∷ more) bindings others found left e h k = refl

same_block : (kinds : List ClauseKind) (orders : List KeyOrder) (parts : List Denotation) (bindings others : Bindings) (forest : Forest)
    → LookAlike (operators.Block kinds orders) [] bindings others parts
    → block_denoted kinds orders parts bindings forest ≡ block_denoted kinds orders parts others forest
same_block kinds orders parts bindings others forest h =
    behind (tuples_of kinds orders parts [] bindings forest) (tuples_bind orders kinds parts [] bindings forest)
    ∙ ap (λ o. after o (block_returned orders returns others))
    (same_tuples kinds orders kinds [] parts [] bindings others forest (λ more. refl) h)
  where
    returns : List Denotation
    returns = drop (length orders) (drop (length kinds) parts)

    alike : LookAlike (operators.Block kinds orders) (ones kinds ++ ones orders) bindings others returns
    alike =
        alike_behind (operators.Block kinds orders) orders (ones kinds) bindings others (drop (length kinds) parts)
        (alike_behind (operators.Block kinds orders) kinds [] bindings others parts h)

    behind : (o : Outcome (List Tuple)) → FindsSo (all_bound kinds []) o
        → after o (block_returned orders returns bindings) ≡ after o (block_returned orders returns others)
    behind (gives found left) k =
        same_returned kinds orders (ones kinds ++ ones orders) returns bindings others found left
        (all_numbers kinds (ones orders) []) alike k
    behind (raises code) k = refl
    behind wrong k = refl

-- an operator looks at its variable alone, and at what its parts look at
same_denoted : (context : Context) (operator : Operator) (parts : List Denotation) (bindings others : Bindings) (forest : Forest)
    → ((number : ℕ) → names_variable operator number ≡ true → look_up bindings number ≡ look_up others number)
    → LookAlike operator [] bindings others parts
    → denoted context operator parts bindings forest ≡ denoted context operator parts others forest
same_denoted context (operators.Var number) [] bindings others forest named h =
    ap (λ (found : Option Items). given found (λ value. gives value forest)) (named number (eq-eqb number number refl))
same_denoted context (operators.Var number) (part ∷ parts) bindings others forest named h =
    same_strict context (operators.Var number) (λ before. refl) (part ∷ parts) bindings others forest h
same_denoted context (operators.Step axis asks number) [] bindings others forest named h =
    ap (λ (found : Option Items). given found (λ value. stepped context.schemas axis asks value forest))
    (named number (eq-eqb number number refl))
same_denoted context (operators.Step axis asks number) (part ∷ parts) bindings others forest named h =
    same_strict context (operators.Step axis asks number) (λ before. refl) (part ∷ parts) bindings others forest h
same_denoted context (operators.For binder position) (source ∷ body ∷ []) bindings others forest named h =
    let first : source bindings forest ≡ source others forest = h.0 [] refl forest in
    let turn =
    λ (number : ℕ) (x : Item) (now : Forest). h.1.0 (item_bound binder.variable position number x)
    (item_numbers binder.variable position number x) now in
    λ i. after (first i) (λ xs left. for_each (λ number x now. turn number x now i) 1 [] xs left)
same_denoted context (operators.For binder position) _ bindings others forest named h = refl
same_denoted context (operators.SomeIn binder) (source ∷ test ∷ []) bindings others forest named h =
    let first : source bindings forest ≡ source others forest = h.0 [] refl forest in
    let turn = λ (x : Item) (now : Forest). h.1.0 ((binder.variable, x ∷ []) ∷ []) refl now in
    λ i. after (first i) (λ xs left. any_decides true (λ x now. turn x now i) xs left)
same_denoted context (operators.SomeIn binder) _ bindings others forest named h = refl
same_denoted context (operators.EveryIn binder) (source ∷ test ∷ []) bindings others forest named h =
    let first : source bindings forest ≡ source others forest = h.0 [] refl forest in
    let turn = λ (x : Item) (now : Forest). h.1.0 ((binder.variable, x ∷ []) ∷ []) refl now in
    λ i. after (first i) (λ xs left. any_decides false (λ x now. turn x now i) xs left)
same_denoted context (operators.EveryIn binder) _ bindings others forest named h = refl
same_denoted context (operators.Let binder) (value ∷ body ∷ []) bindings others forest named h =
    let first : value bindings forest ≡ value others forest = h.0 [] refl forest in
    let rest = λ (xs : Items) (left : Forest). h.1.0 ((binder.variable, xs) ∷ []) refl left in
    λ i. after (first i) (λ xs left. rest xs left i)
same_denoted context (operators.Let binder) _ bindings others forest named h = refl
same_denoted context (operators.Switch cases default) [] bindings others forest named h = refl
same_denoted context (operators.Switch cases default) (operand ∷ branches) bindings others forest named h =
    let first : operand bindings forest ≡ operand others forest = h.0 [] refl forest in
    let rest =
    λ (xs : Items) (left : Forest). same_switched context.schemas cases default cases [] branches bindings others xs left
    (λ more. refl) h.1 in
    λ i. after (first i) (λ xs left. rest xs left i)
same_denoted context (operators.Block kinds orders) parts bindings others forest named h =
    same_block kinds orders parts bindings others forest h
same_denoted context operators.If (condition ∷ chosen ∷ otherwise ∷ []) bindings others forest named h =
    let first : condition bindings forest ≡ condition others forest = h.0 [] refl forest in
    let rest =
    λ (truth : Bool) (left : Forest). same_branch truth chosen otherwise bindings others left (h.1.0 [] refl left) (h.1.1.0 [] refl left) in
    λ i. after (first i) (λ xs left. given (condition_of xs) (λ truth. rest truth left i))
same_denoted context operators.If _ bindings others forest named h = refl
same_denoted context operator parts bindings others forest named h =
    same_strict context operator (λ before. refl) parts bindings others forest h

-- ---- expressions

mutual
  same_meaning : (context : Context) (e : CoreExpression) (bindings others : Bindings) (forest : Forest)
      → ((number : ℕ) → is_free_in e number ≡ true → look_up bindings number ≡ look_up others number)
      → meaning context e bindings forest ≡ meaning context e others forest
  same_meaning context (At place outer tt operator parts) bindings others forest agree =
      same_denoted context operator (meanings context parts) bindings others forest
      (λ number h. agree number (or_left (names_variable operator number) (is_free_in_parts operator [] parts number) h))
      (same_parts context operator [] parts bindings others
      (λ number h. agree number (or_right (names_variable operator number) (is_free_in_parts operator [] parts number) h)))

  same_parts : (context : Context) (operator : Operator) (before : List (Unit {0})) (parts : Parts (Unit {0})) (bindings others : Bindings)
      → ((number : ℕ) → is_free_in_parts operator before parts number ≡ true → look_up bindings number ≡ look_up others number)
      → LookAlike operator before bindings others (meanings context parts)
  same_parts context operator before no_parts bindings others agree = tt
  same_parts context operator before (a_part first rest) bindings others agree =
      let free : ℕ → Bool = λ number. not (is_among (numbers_bound_by operator before) number) && is_free_in first number in (
        λ bound numbers forest. same_meaning context first (bound ++ bindings) (bound ++ others) forest
            (λ number h. found_alike bound bindings others number
            (λ apart. agree number (or_left (free number) (is_free_in_parts operator (before ++ tt ∷ []) rest number)
            (and_from (not (is_among (numbers_bound_by operator before) number)) (is_free_in first number)
            (not_from_false (is_among (numbers_bound_by operator before) number)
            (subst (λ (ns : List ℕ). is_among ns number ≡ false) numbers apart)) h)))),
        same_parts context operator (before ++ tt ∷ []) rest bindings others
            (λ number h. agree number (or_right (free number) (is_free_in_parts operator (before ++ tt ∷ []) rest number) h)),
      )

pub meaning_looks_at_free_variables : MeaningLooksAtFreeVariables
meaning_looks_at_free_variables = same_meaning
