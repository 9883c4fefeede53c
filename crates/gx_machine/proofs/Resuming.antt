-- What is left to do after a piece of work comes to the same as before it.
use Rattle.std.proofs.Common.{◌≡◌, ◌≤◌, ℕ, suc, ◌+◌, arith, subst, map, Bool, true, false, not, if◌then◌else◌, append_assoc, append-nil, List, [], ◌∷◌, ◌++◌, length, take, drop, Option, None, Some, Result, refl, sym, ◌∙◌, ap}
use Rattle.std.proofs.Math.Seq.{take-append_seam, drop-append_seam}
use Rattle.gx_base.specs.declared.code.Code.{Code}
use Rattle.gx_facets.specs.declared.Atomic.{Atomic}
use Rattle.gx_types.specs.SchemaSet.{SchemaSet}
use Rattle.gx_funcs.specs.declared.function.Function.{Function}
use Rattle.gx_funcs.specs.declared.function.Function.TheVariants as functions
use Rattle.gx_funcs.specs.declared.text_function.TextFunction.{TextFunction}
use Rattle.gx_funcs.specs.declared.value_function.ValueFunction.{ValueFunction}
use Rattle.gx_funcs.specs.declared.item_function.ItemFunction.{ItemFunction}
use Rattle.gx_funcs.specs.Function.{ItemView, text_function_of, value_function_of, item_function_of, applied as applied_function}
use Rattle.gx_model.specs.Forest.{Forest}
use Rattle.gx_model.specs.Item.{Item, Items}
use Rattle.gx_core.specs.declared.expression.BinaryOp.{BinaryOp}
use Rattle.gx_core.specs.declared.cases.TypeCase.{TypeCase}
use Rattle.gx_core.specs.declared.operator.Operator.{Operator}
use Rattle.gx_core.specs.declared.operator.Operator.TheVariants as operators
use Rattle.gx_core.specs.Bindings.{position_bound}
use Rattle.gx_core.specs.Instances.{is_instance}
use Rattle.gx_core.specs.Outcome.{Outcome, gives, raises, wrong, after, given}
use Rattle.gx_core.specs.BinaryOperators.{class_of}
use Rattle.gx_core.specs.Comparing.{truth_value, condition_of}
use Rattle.gx_core.specs.Calling.{views_of, answered, called_as, called}
use Rattle.gx_plan.specs.Plan.{PlanExpression}
use Rattle.gx_core.specs.Expression.{all_parts}
use Rattle.gx_core.specs.Meaning.{Context, Bindings, Denotation, binary_meaning, acts, all_of, branch, switched, denoted, for_each, decides, any_decides}
use Rattle.gx_joins.specs.JoinedMeaning.{joined_meaning as joined, joined_meanings as all_joined}
use Rattle.gx_machine.specs.declared.failure.Failure.{Failure}
use Rattle.gx_machine.specs.declared.failure.Failure.TheVariants.{Raised, Wrong, Memory}
use Rattle.gx_machine.specs.declared.change.Change.{Change}
use Rattle.gx_machine.specs.declared.change.Change.TheVariants as changes
use Rattle.gx_machine.specs.declared.single.Single.{Single}
use Rattle.gx_machine.specs.declared.single.Single.TheVariants as singles
use Rattle.gx_machine.specs.declared.evaluation.Pending.{Pending}
use Rattle.gx_machine.specs.declared.evaluation.Pending.TheVariants.{Change as Altering, Single as Operate, Binary, Call}
use Rattle.gx_machine.specs.Failing.{FailsSo}
use Rattle.gx_machine.specs.Operators.{single_operator, changing_operator}
use Rattle.gx_machine.specs.declared.looping.Loop.{Loop}
use Rattle.gx_machine.specs.declared.looping.Loop.TheVariants.{For, Search}
use Rattle.gx_machine.specs.Resume.{Stacks, with_marks, with_sources, operated, changed, right_meaning, between_marks, in_order, turn, item_tested, looped, resume, resume_marked}
use Rattle.gx_machine.proofs.Outcomes.{after_after, same_after}

-- what is left to do behind these values
abbrev pub Rest : Type 0
Rest = Items → Forest → Outcome Items

pub fails_through : (o : Outcome Items) (next : Items → Forest → Outcome Items) (e : Failure) → FailsSo e o → FailsSo e (after o next)
fails_through o next (Raised code) h = ap (λ o. after o next) h
fails_through o next Wrong h = ap (λ o. after o next) h
fails_through o next Memory h = tt

pub fails_also : (e : Failure) (o p : Outcome Items) → o ≡ p → FailsSo e p → FailsSo e o
fails_also e o p h f = subst (FailsSo e) (sym h) f

-- ---- the answer of an operator goes where its operands stood

goes_behind : (o : Outcome Items) (front answer : Items) (forest : Forest) (next : Rest) → o ≡ gives answer forest → next (front ++ answer) forest ≡ after o (λ more left. next (front ++ more) left)
goes_behind o front answer forest next h = sym (ap (λ (p : Outcome Items). after p (λ more left. next (front ++ more) left)) h)

pub single_applies : (k : Context) (forest : Forest) (operator : Single) (work : List Pending) (values answer : Items) (first : ℕ) (stacks : Stacks) (bindings : Bindings)
    → acts k (single_operator operator) (drop first values ∷ []) forest ≡ gives answer forest
    → resume k work (take first values ++ answer) stacks bindings forest ≡ resume k (Operate operator first ∷ work) values stacks bindings forest
single_applies k forest operator work values answer first stacks bindings e =
    goes_behind (acts k (single_operator operator) (drop first values ∷ []) forest) (take first values) answer forest (λ vs left. resume k work vs stacks bindings left) e

pub single_fails : (k : Context) (forest : Forest) (operator : Single) (work : List Pending) (values : Items) (first : ℕ) (stacks : Stacks) (bindings : Bindings) (e : Failure)
    → FailsSo e (acts k (single_operator operator) (drop first values ∷ []) forest) → FailsSo e (resume k (Operate operator first ∷ work) values stacks bindings forest)
single_fails k forest operator work values first stacks bindings e h =
    fails_through (acts k (single_operator operator) (drop first values ∷ []) forest) (λ more left. resume k work (take first values ++ more) stacks bindings left) e h

pub binary_applies : (k : Context) (forest : Forest) (operator : BinaryOp) (work : List Pending) (values answer : Items) (first second : ℕ) (stacks : Stacks) (bindings : Bindings)
    → binary_meaning (class_of operator) (drop first (take second values)) (drop second values) forest ≡ gives answer forest
    → resume k work (take first (take second values) ++ answer) stacks bindings forest ≡ resume k (Binary operator first second ∷ work) values stacks bindings forest
binary_applies k forest operator work values answer first second stacks bindings e =
    goes_behind (binary_meaning (class_of operator) (drop first (take second values)) (drop second values) forest) (take first (take second values)) answer forest (λ vs left. resume k work vs stacks bindings left) e

pub binary_fails : (k : Context) (forest : Forest) (operator : BinaryOp) (work : List Pending) (values : Items) (first second : ℕ) (stacks : Stacks) (bindings : Bindings) (e : Failure)
    → FailsSo e (binary_meaning (class_of operator) (drop first (take second values)) (drop second values) forest)
    → FailsSo e (resume k (Binary operator first second ∷ work) values stacks bindings forest)
binary_fails k forest operator work values first second stacks bindings e h =
    fails_through (binary_meaning (class_of operator) (drop first (take second values)) (drop second values) forest) (λ more left. resume k work (take first (take second values) ++ more) stacks bindings left) e h

-- an operand is changed where it stands
then_next : (o : Outcome Items) (front values : Items) (forest : Forest) (next : Rest) → after o (λ more left. gives (front ++ more) left) ≡ gives values forest → next values forest ≡ after o (λ more left. next (front ++ more) left)
then_next o front values forest next h =
    sym (ap (λ (p : Outcome Items). after p next) h) ∙ sym (after_after o (λ more left. gives (front ++ more) left) next)

pub change_applies : (k : Context) (forest : Forest) (operator : Change) (work : List Pending) (values now : Items) (first : ℕ) (stacks : Stacks) (bindings : Bindings)
    → changed k (changing_operator operator) first values forest ≡ gives now forest
    → resume k work now stacks bindings forest ≡ resume k (Altering operator first ∷ work) values stacks bindings forest
change_applies k forest operator work values now first stacks bindings h =
    then_next (acts k (changing_operator operator) (drop first values ∷ []) forest) (take first values) now forest (λ vs left. resume k work vs stacks bindings left) h

pub change_fails : (k : Context) (forest : Forest) (operator : Change) (work : List Pending) (values : Items) (first : ℕ) (stacks : Stacks) (bindings : Bindings) (e : Failure)
    → FailsSo e (acts k (changing_operator operator) (drop first values ∷ []) forest) → FailsSo e (resume k (Altering operator first ∷ work) values stacks bindings forest)
change_fails k forest operator work values first stacks bindings e h =
    fails_through (acts k (changing_operator operator) (drop first values ∷ []) forest) (λ more left. resume k work (take first values ++ more) stacks bindings left) e h

-- ---- operands at hand

-- a strict operator of one operand
single_denoted : (k : Context) (operator : Single) (operand : Denotation) (bindings : Bindings) (forest : Forest)
    → denoted k (single_operator operator) (operand ∷ []) bindings forest ≡ after (all_of (operand ∷ []) bindings forest) (acts k (single_operator operator))
single_denoted k singles.Neg operand bindings forest = refl
single_denoted k (singles.Cast kind allows_empty) operand bindings forest = refl
single_denoted k (singles.Castable kind allows_empty) operand bindings forest = refl
single_denoted k (singles.Call function) operand bindings forest = refl

pub hand_is : (k : Context) (operator : Single) (operand : Denotation) (bindings : Bindings) (forest : Forest) (xs : Items) → operand bindings forest ≡ gives xs forest
    → denoted k (single_operator operator) (operand ∷ []) bindings forest ≡ acts k (single_operator operator) (xs ∷ []) forest
hand_is k operator operand bindings forest xs e =
    single_denoted k operator operand bindings forest
    ∙ ap (λ (o : Outcome Items). after (after o (λ x f. gives (x ∷ []) f)) (acts k (single_operator operator))) e

pub one_at_hand : (k : Context) (operator : Single) (operand : Denotation) (bindings : Bindings) (forest : Forest) (xs answer : Items) → operand bindings forest ≡ gives xs forest
    → acts k (single_operator operator) (xs ∷ []) forest ≡ gives answer forest → denoted k (single_operator operator) (operand ∷ []) bindings forest ≡ gives answer forest
one_at_hand k operator operand bindings forest xs answer e h = hand_is k operator operand bindings forest xs e ∙ h

pub one_fails_at_hand : (k : Context) (operator : Single) (operand : Denotation) (bindings : Bindings) (forest : Forest) (xs : Items) (e : Failure) → operand bindings forest ≡ gives xs forest
    → FailsSo e (acts k (single_operator operator) (xs ∷ []) forest) → FailsSo e (denoted k (single_operator operator) (operand ∷ []) bindings forest)
one_fails_at_hand k operator operand bindings forest xs e h f = subst (FailsSo e) (sym (hand_is k operator operand bindings forest xs h)) f

-- both operands of an operator at hand
pub both_are : (k : Context) (forest : Forest) (operator : BinaryOp) (left right : Denotation) (xs ys : Items) (bindings : Bindings) → left bindings forest ≡ gives xs forest → right bindings forest ≡ gives ys forest
    → denoted k (operators.Binary operator) (left ∷ right ∷ []) bindings forest ≡ binary_meaning (class_of operator) xs ys forest
both_are k forest operator left right xs ys bindings e h =
    ap (λ (o : Outcome Items). after (after o (λ value now. after (all_of (right ∷ []) bindings now) (λ values last. gives (value ∷ values) last))) (acts k (operators.Binary operator))) e
    ∙ ap (λ (o : Outcome Items). after (after (after o (λ value now. gives (value ∷ []) now)) (λ values last. gives (xs ∷ values) last)) (acts k (operators.Binary operator))) h

-- an answer goes behind the values
pub answer_behind : (o : Outcome Items) (forest : Forest) (values answer : Items) (next : Rest) → o ≡ gives answer forest → next (values ++ answer) forest ≡ after o (λ more left. next (values ++ more) left)
answer_behind o forest values answer next e = goes_behind o values answer forest next e

-- the right operand at hand
pub right_is : (k : Context) (forest : Forest) (operator : BinaryOp) (right : PlanExpression) (values ys : Items) (first : ℕ) (bindings : Bindings) → joined k right bindings forest ≡ gives ys forest
    → right_meaning k operator first right values bindings forest ≡ binary_meaning (class_of operator) (drop first values) ys forest
right_is k forest operator right values ys first bindings e = ap (λ (o : Outcome Items). after o (λ zs left. acts k (operators.Binary operator) (drop first values ∷ zs ∷ []) left)) e

pub right_at_once : (k : Context) (forest : Forest) (operator : BinaryOp) (right : PlanExpression) (work : List Pending) (values answer : Items) (first : ℕ) (stacks : Stacks) (bindings : Bindings)
    → right_meaning k operator first right values bindings forest ≡ gives answer forest
    → resume k work (take first values ++ answer) stacks bindings forest
    ≡ after (joined k right bindings forest) (λ ys left. operated k (operators.Binary operator) (drop first values ∷ ys ∷ []) (take first values) left (λ vs last. resume k work vs stacks bindings last))
right_at_once k forest operator right work values answer first stacks bindings e =
    goes_behind (right_meaning k operator first right values bindings forest) (take first values) answer forest (λ vs left. resume k work vs stacks bindings left) e
    ∙ sym (after_after (joined k right bindings forest) (λ ys left. acts k (operators.Binary operator) (drop first values ∷ ys ∷ []) left) (λ more left. resume k work (take first values ++ more) stacks bindings left))

-- ---- operators, opened

-- what is made of operands behind the values is made of them
one_operand : (k : Context) (operator : Operator) (values : Items) (next : Rest) (o : Outcome Items)
    → after o (λ xs f. operated k operator (drop (length values) (values ++ xs) ∷ []) (take (length values) (values ++ xs)) f next)
    ≡ after (after (after o (λ x f. gives (x ∷ []) f)) (acts k operator)) (λ more left. next (values ++ more) left)
one_operand k operator values next (gives xs f) =
    ap (λ (v : Items). operated k operator (v ∷ []) (take (length values) (values ++ xs)) f next) (drop-append_seam values xs) ∙ ap (λ (v : Items). operated k operator (xs ∷ []) v f next) (take-append_seam values xs)
one_operand k operator values next (raises code) = refl
one_operand k operator values next wrong = refl

pub single_opens : (k : Context) (forest : Forest) (operator : Single) (operand : Denotation) (work : List Pending) (values : Items) (first : ℕ) (stacks : Stacks) (bindings : Bindings) → first ≡ length values
    → after (operand bindings forest) (λ xs f. resume k (Operate operator first ∷ work) (values ++ xs) stacks bindings f)
    ≡ after (denoted k (single_operator operator) (operand ∷ []) bindings forest) (λ more left. resume k work (values ++ more) stacks bindings left)
single_opens k forest operator operand work values first stacks bindings h =
    ap (λ (n : ℕ). after (operand bindings forest) (λ xs f. resume k (Operate operator n ∷ work) (values ++ xs) stacks bindings f)) h
    ∙ one_operand k (single_operator operator) values (λ vs left. resume k work vs stacks bindings left) (operand bindings forest)
    ∙ ap (λ (o : Outcome Items). after o (λ more left. resume k work (values ++ more) stacks bindings left)) (sym (single_denoted k operator operand bindings forest))

change_denoted : (k : Context) (operator : Change) (operand : Denotation) (bindings : Bindings) (forest : Forest)
    → denoted k (changing_operator operator) (operand ∷ []) bindings forest ≡ after (all_of (operand ∷ []) bindings forest) (acts k (changing_operator operator))
change_denoted k changes.Data operand bindings forest = refl
change_denoted k changes.OnlyNodes operand bindings forest = refl
change_denoted k changes.Order operand bindings forest = refl
change_denoted k (changes.Nth number reverse) operand bindings forest = refl
change_denoted k (changes.Final reverse) operand bindings forest = refl
change_denoted k (changes.Treat kind) operand bindings forest = refl

pub change_opens : (k : Context) (forest : Forest) (operator : Change) (operand : Denotation) (work : List Pending) (values : Items) (first : ℕ) (stacks : Stacks) (bindings : Bindings) → first ≡ length values
    → after (operand bindings forest) (λ xs f. resume k (Altering operator first ∷ work) (values ++ xs) stacks bindings f)
    ≡ after (denoted k (changing_operator operator) (operand ∷ []) bindings forest) (λ more left. resume k work (values ++ more) stacks bindings left)
change_opens k forest operator operand work values first stacks bindings h =
    ap (λ (n : ℕ). after (operand bindings forest) (λ xs f. resume k (Altering operator n ∷ work) (values ++ xs) stacks bindings f)) h
    ∙ one_operand k (changing_operator operator) values (λ vs left. resume k work vs stacks bindings left) (operand bindings forest)
    ∙ ap (λ (o : Outcome Items). after o (λ more left. resume k work (values ++ more) stacks bindings left)) (sym (change_denoted k operator operand bindings forest))

-- the right operand behind the left one
pub right_opens : (k : Context) (forest : Forest) (operator : BinaryOp) (right : PlanExpression) (work : List Pending) (values : Items) (first second : ℕ) (stacks : Stacks) (bindings : Bindings) → second ≡ length values
    → after (joined k right bindings forest) (λ ys f. resume k (Binary operator first second ∷ work) (values ++ ys) stacks bindings f)
    ≡ after (joined k right bindings forest) (λ ys left. operated k (operators.Binary operator) (drop first values ∷ ys ∷ []) (take first values) left (λ vs last. resume k work vs stacks bindings last))
right_opens k forest operator right work values first second stacks bindings h =
    ap (λ (n : ℕ). after (joined k right bindings forest) (λ ys f. resume k (Binary operator first n ∷ work) (values ++ ys) stacks bindings f)) h
    ∙ opened (joined k right bindings forest)
  where
    opened : (o : Outcome Items)
        → after o (λ ys f. resume k (Binary operator first (length values) ∷ work) (values ++ ys) stacks bindings f)
        ≡ after o (λ ys left. operated k (operators.Binary operator) (drop first values ∷ ys ∷ []) (take first values) left (λ vs last. resume k work vs stacks bindings last))
    opened (gives ys f) =
        ap (λ (v : Items). operated k (operators.Binary operator) (drop first v ∷ drop (length values) (values ++ ys) ∷ []) (take first v) f (λ vs last. resume k work vs stacks bindings last)) (take-append_seam values ys)
        ∙ ap (λ (v : Items). operated k (operators.Binary operator) (drop first values ∷ v ∷ []) (take first values) f (λ vs last. resume k work vs stacks bindings last)) (drop-append_seam values ys)
    opened (raises code) = refl
    opened wrong = refl

binary_second : (k : Context) (operator : BinaryOp) (values xs : Items) (next : Rest) (o : Outcome Items)
    → after o (λ ys g. operated k (operators.Binary operator) (drop (length values) (values ++ xs) ∷ ys ∷ []) (take (length values) (values ++ xs)) g next)
    ≡ after (after (after (after o (λ y g. gives (y ∷ []) g)) (λ vs g. gives (xs ∷ vs) g)) (acts k (operators.Binary operator))) (λ more left. next (values ++ more) left)
binary_second k operator values xs next (gives ys g) =
    ap (λ (v : Items). operated k (operators.Binary operator) (v ∷ ys ∷ []) (take (length values) (values ++ xs)) g next) (drop-append_seam values xs)
    ∙ ap (λ (v : Items). operated k (operators.Binary operator) (xs ∷ ys ∷ []) v g next) (take-append_seam values xs)
binary_second k operator values xs next (raises code) = refl
binary_second k operator values xs next wrong = refl

pub binary_opens : (k : Context) (forest : Forest) (operator : BinaryOp) (left right : Denotation) (values : Items) (bindings : Bindings) (next : Rest)
    → after (left bindings forest) (λ xs f. after (right bindings f) (λ ys g. operated k (operators.Binary operator) (drop (length values) (values ++ xs) ∷ ys ∷ []) (take (length values) (values ++ xs)) g next))
    ≡ after (denoted k (operators.Binary operator) (left ∷ right ∷ []) bindings forest) (λ more left. next (values ++ more) left)
binary_opens k forest operator left right values bindings next = opened (left bindings forest)
  where
    opened : (o : Outcome Items)
        → after o (λ xs f. after (right bindings f) (λ ys g. operated k (operators.Binary operator) (drop (length values) (values ++ xs) ∷ ys ∷ []) (take (length values) (values ++ xs)) g next))
        ≡ after (after (after o (λ x f. after (after (right bindings f) (λ y g. gives (y ∷ []) g)) (λ vs g. gives (x ∷ vs) g))) (acts k (operators.Binary operator))) (λ more left. next (values ++ more) left)
    opened (gives xs f) = binary_second k operator values xs next (right bindings f)
    opened (raises code) = refl
    opened wrong = refl

pub binary_opens_at : (k : Context) (forest : Forest) (operator : BinaryOp) (left right : Denotation) (work : List Pending) (values : Items) (first : ℕ) (stacks : Stacks) (bindings : Bindings) → first ≡ length values
    → after (left bindings forest) (λ xs f. after (right bindings f)
    (λ ys g. operated k (operators.Binary operator) (drop first (values ++ xs) ∷ ys ∷ []) (take first (values ++ xs)) g (λ vs last. resume k work vs stacks bindings last)))
    ≡ after (denoted k (operators.Binary operator) (left ∷ right ∷ []) bindings forest) (λ more left. resume k work (values ++ more) stacks bindings left)
binary_opens_at k forest operator left right work values first stacks bindings h =
    ap (λ (n : ℕ). after (left bindings forest) (λ xs f. after (right bindings f)
    (λ ys g. operated k (operators.Binary operator) (drop n (values ++ xs) ∷ ys ∷ []) (take n (values ++ xs)) g (λ vs last. resume k work vs stacks bindings last)))) h
    ∙ binary_opens k forest operator left right values bindings (λ vs last. resume k work vs stacks bindings last)

-- ---- calls of no argument, and of more than one

pub none_applies : (k : Context) (forest : Forest) (function : Function) (work : List Pending) (values answer : Items) (stacks : Stacks) (bindings : Bindings)
    → called k.schemas function [] forest ≡ gives answer forest
    → resume k work (values ++ answer) stacks bindings forest ≡ after (denoted k (operators.Call function) [] bindings forest) (λ more left. resume k work (values ++ more) stacks bindings left)
none_applies k forest function work values answer stacks bindings e = answer_behind (called k.schemas function [] forest) forest values answer (λ vs left. resume k work vs stacks bindings left) e

no_second : (function : Function) (a b : List ItemView) (others : List (List ItemView)) → applied_function function (a ∷ b ∷ others) ≡ None
no_second functions.True a b others = refl
no_second functions.False a b others = refl
no_second _ a b others = refl

-- a function that is over neither strings nor atomic values nor items has one parameter at most
pub too_many : (s : SchemaSet) (function : Function) (forest : Forest) (all : List Items) → text_function_of function ≡ None → value_function_of function ≡ None → item_function_of function ≡ None → 2 ≤ length all
    → called s function all forest ≡ wrong
too_many s function forest [] e f g h = absurd (omega (arith, h))
too_many s function forest (x ∷ []) e f g h = absurd (omega (arith, h))
too_many s function forest (x ∷ y ∷ all) e f g h =
    ap (λ (o : Option TextFunction). called_as o (value_function_of function) (item_function_of function) s function (x ∷ y ∷ all) forest) e
    ∙ ap (λ (o : Option ValueFunction). called_as None o (item_function_of function) s function (x ∷ y ∷ all) forest) f
    ∙ ap (λ (o : Option ItemFunction). called_as None None o s function (x ∷ y ∷ all) forest) g
    ∙ ap (λ (found : Option (Result (List Atomic) Code)). given found (λ answer. answered answer forest)) (no_second function (views_of forest x) (views_of forest y) (map (views_of forest) all))

-- what a function answers of operands goes behind the values below them
pub many_apply : (k : Context) (forest : Forest) (function : Function) (work : List Pending) (operands : List Items) (rest answer : Items) (stacks : Stacks) (bindings : Bindings)
    → called k.schemas function operands forest ≡ gives answer forest
    → resume k work (rest ++ answer) stacks bindings forest ≡ operated k (operators.Call function) operands rest forest (λ vs left. resume k work vs stacks bindings left)
many_apply k forest function work operands rest answer stacks bindings e = answer_behind (called k.schemas function operands forest) forest rest answer (λ vs left. resume k work vs stacks bindings left) e

pub many_fail : (k : Context) (forest : Forest) (function : Function) (work : List Pending) (operands : List Items) (rest : Items) (stacks : Stacks) (bindings : Bindings) (e : Failure)
    → FailsSo e (called k.schemas function operands forest) → FailsSo e (operated k (operators.Call function) operands rest forest (λ vs left. resume k work vs stacks bindings left))
many_fail k forest function work operands rest stacks bindings e h = fails_through (called k.schemas function operands forest) (λ more left. resume k work (rest ++ more) stacks bindings left) e h

-- ---- several arguments, opened

put_in_front : (x : Items) (o : Outcome (List Items)) (next : List Items → Forest → Outcome Items) → after o (λ xs f. next (x ∷ xs) f) ≡ after (after o (λ xs f. gives (x ∷ xs) f)) next
put_in_front x (gives xs f) next = refl
put_in_front x (raises code) next = refl
put_in_front x wrong next = refl

one_more : (o : Outcome Items) (others : Forest → Outcome (List Items)) (rest : Items → Forest → Outcome Items) (next : List Items → Forest → Outcome Items)
    → ((x : Items) (f : Forest) → rest x f ≡ after (others f) (λ xs g. next (x ∷ xs) g))
    → after o rest ≡ after (after o (λ x f. after (others f) (λ xs g. gives (x ∷ xs) g))) next
one_more (gives x f) others rest next h = h x f ∙ put_in_front x (others f) next
one_more (raises code) others rest next h = refl
one_more wrong others rest next h = refl

-- how many parts there are, besides some
abbrev count_with : List Denotation → ℕ → ℕ
count_with [] n = n
count_with (part ∷ parts) n = count_with parts (suc n)

counted : (parts : List Denotation) (n : ℕ) → count_with parts n ≡ length parts + n
counted [] n = omega arith
counted (part ∷ parts) n = omega (arith, counted parts (suc n))

-- what follows the operands of an operator between the last marks
abbrev pub operands_between : Context → Operator → List Pending → Stacks → ℕ → Items → List ℕ → Bindings → Forest → Outcome Items
operands_between k operator work stacks n vs ms bs f =
    between_marks n ms vs [] (λ operands below rest. operated k operator operands rest f (λ ws left. resume k work ws (with_marks stacks below) bs left))

-- evaluating operands in order and applying the operator to them
parts_in_order : (k : Context) (operator : Operator) (work : List Pending) (stacks : Stacks) (values : Items) (marks : List ℕ) (bindings : Bindings) (parts : List Denotation) (n : ℕ) (there : Items) (marked : List ℕ)
    (behind : List Items → List Items) (forest : Forest)
    → ((operands : List Items) (next : List Items → List ℕ → Items → Outcome Items) → between_marks n marked there operands next ≡ next (behind operands) marks values)
    → in_order parts (operands_between k operator work stacks (count_with parts n)) there marked bindings forest
    ≡ after (all_of parts bindings forest) (λ operands last. after (acts k operator (behind operands) last) (λ more left. resume k work (values ++ more) (with_marks stacks marks) bindings left))
parts_in_order k operator work stacks values marks bindings [] n there marked behind forest h =
    h [] (λ operands below rest. operated k operator operands rest forest (λ vs left. resume k work vs (with_marks stacks below) bindings left))
parts_in_order k operator work stacks values marks bindings (part ∷ parts) n there marked behind forest h =
    one_more (part bindings forest) (λ f. all_of parts bindings f)
    (λ more left. in_order parts (operands_between k operator work stacks (count_with parts (suc n))) (there ++ more) (length there ∷ marked) bindings left)
    (λ operands last. after (acts k operator (behind operands) last) (λ more left. resume k work (values ++ more) (with_marks stacks marks) bindings left))
    (λ x f. parts_in_order k operator work stacks values marks bindings parts (suc n) (there ++ x) (length there ∷ marked) (λ operands. behind (x ∷ operands)) f
    (λ operands next. ap (λ (v : Items). between_marks n marked v (drop (length there) (there ++ x) ∷ operands) next) (take-append_seam there x)
    ∙ ap (λ (v : Items). between_marks n marked there (v ∷ operands) next) (drop-append_seam there x) ∙ h (x ∷ operands) next))

-- the last of several operands is evaluated behind the others
pub last_in_order : (parts : List Denotation) (part : Denotation) (next : Items → List ℕ → Bindings → Forest → Outcome Items) (values : Items) (marks : List ℕ) (bindings : Bindings) (forest : Forest)
    → in_order (parts ++ part ∷ []) next values marks bindings forest
    ≡ in_order parts (λ vs ms bs f. after (part bs f) (λ more left. next (vs ++ more) (length vs ∷ ms) bs left)) values marks bindings forest
last_in_order [] part next values marks bindings forest = refl
last_in_order (p ∷ parts) part next values marks bindings forest =
    same_after (p bindings forest) (λ more left. in_order (parts ++ part ∷ []) next (values ++ more) (length values ∷ marks) bindings left)
    (λ more left. in_order parts (λ vs ms bs f. after (part bs f) (λ more left. next (vs ++ more) (length vs ∷ ms) bs left)) (values ++ more) (length values ∷ marks) bindings left)
    (λ x f. last_in_order parts part next (values ++ x) (length values ∷ marks) bindings f)

pub each_argument : (k : Context) (es : List PlanExpression) → all_joined k (all_parts es) ≡ map (joined k) es
each_argument k [] = refl
each_argument k (e ∷ es) = ap (λ ds. joined k e ∷ ds) (each_argument k es)

-- operands that are evaluated in order, and the operator between their marks
pub operands_open : (k : Context) (operator : Operator) (work : List Pending) (values : Items) (stacks : Stacks) (bindings : Bindings) (forest : Forest) (parts : List Denotation) (count : ℕ) → count ≡ length parts
    → in_order parts (operands_between k operator work stacks count) values stacks.marks bindings forest
    ≡ after (after (all_of parts bindings forest) (acts k operator)) (λ more left. resume k work (values ++ more) stacks bindings left)
operands_open k operator work values stacks bindings forest parts count e =
    let n : count ≡ count_with parts 0 = omega (arith, e, counted parts 0) in
    ap (λ (m : ℕ). in_order parts (operands_between k operator work stacks m) values stacks.marks bindings forest) n
    ∙ parts_in_order k operator work stacks values stacks.marks bindings parts 0 values stacks.marks (λ operands. operands) forest (λ operands next. refl)
    ∙ after_after (all_of parts bindings forest) (acts k operator) (λ more left. resume k work (values ++ more) stacks bindings left)

pub call_opens : (k : Context) (function : Function) (more : ℕ) (work : List Pending) (values : Items) (stacks : Stacks) (bindings : Bindings) (forest : Forest) (parts : List Denotation) → more + 2 ≡ length parts
    → in_order parts (resume_marked k (Call function more ∷ work) stacks) values stacks.marks bindings forest
    ≡ after (denoted k (operators.Call function) parts bindings forest) (λ more left. resume k work (values ++ more) stacks bindings left)
call_opens k function more work values stacks bindings forest parts count =
    let n : more + 2 ≡ count_with parts 0 = omega (arith, count, counted parts 0) in
    subst (λ (m : ℕ). in_order parts (operands_between k (operators.Call function) work stacks m) values stacks.marks bindings forest
    ≡ after (denoted k (operators.Call function) parts bindings forest) (λ more left. resume k work (values ++ more) stacks bindings left)) (sym n)
    (parts_in_order k (operators.Call function) work stacks values stacks.marks bindings parts 0 values stacks.marks (λ operands. operands) forest (λ operands next. refl)
    ∙ after_after (all_of parts bindings forest) (acts k (operators.Call function)) (λ more left. resume k work (values ++ more) stacks bindings left))

-- ---- a conditional

pub conditional_opens : (k : Context) (forest : Forest) (condition yes' no' : Denotation) (work : List Pending) (values : Items) (stacks : Stacks) (bindings : Bindings)
    → after (condition bindings forest) (λ xs f. given (condition_of (drop (length values) (values ++ xs)))
    (λ truth. after (branch truth yes' no' bindings f) (λ more left. resume k work (take (length values) (values ++ xs) ++ more) stacks bindings left)))
    ≡ after (denoted k operators.If (condition ∷ yes' ∷ no' ∷ []) bindings forest) (λ more left. resume k work (values ++ more) stacks bindings left)
conditional_opens k forest condition yes' no' work values stacks bindings = opened (condition bindings forest)
  where
    given_after : (found : Option Bool) (f : Forest)
        → given found (λ truth. after (branch truth yes' no' bindings f) (λ more left. resume k work (values ++ more) stacks bindings left))
        ≡ after (given found (λ truth. branch truth yes' no' bindings f)) (λ more left. resume k work (values ++ more) stacks bindings left)
    given_after (Some truth) f = refl
    given_after None f = refl

    opened : (o : Outcome Items)
        → after o (λ xs f. given (condition_of (drop (length values) (values ++ xs))) (λ truth. after (branch truth yes' no' bindings f) (λ more left. resume k work (take (length values) (values ++ xs) ++ more) stacks bindings left)))
        ≡ after (after o (λ xs f. given (condition_of xs) (λ truth. branch truth yes' no' bindings f))) (λ more left. resume k work (values ++ more) stacks bindings left)
    opened (gives xs f) =
        ap (λ (v : Items). given (condition_of v) (λ truth. after (branch truth yes' no' bindings f) (λ more left. resume k work (take (length values) (values ++ xs) ++ more) stacks bindings left))) (drop-append_seam values xs)
        ∙ ap (λ (v : Items). given (condition_of xs) (λ truth. after (branch truth yes' no' bindings f) (λ more left. resume k work (v ++ more) stacks bindings left))) (take-append_seam values xs)
        ∙ given_after (condition_of xs) f
    opened (raises code) = refl
    opened wrong = refl

pub conditional_opens_at : (k : Context) (forest : Forest) (condition yes' no' : Denotation) (work : List Pending) (values : Items) (first : ℕ) (stacks : Stacks) (bindings : Bindings) → first ≡ length values
    → after (condition bindings forest) (λ xs f. given (condition_of (drop first (values ++ xs)))
    (λ truth. after (branch truth yes' no' bindings f) (λ more left. resume k work (take first (values ++ xs) ++ more) stacks bindings left)))
    ≡ after (denoted k operators.If (condition ∷ yes' ∷ no' ∷ []) bindings forest) (λ more left. resume k work (values ++ more) stacks bindings left)
conditional_opens_at k forest condition yes' no' work values first stacks bindings h =
    ap (λ (n : ℕ). after (condition bindings forest) (λ xs f. given (condition_of (drop n (values ++ xs)))
    (λ truth. after (branch truth yes' no' bindings f) (λ more left. resume k work (take n (values ++ xs) ++ more) stacks bindings left)))) h
    ∙ conditional_opens k forest condition yes' no' work values stacks bindings

-- the branch that a value chooses
pub chosen_is : (k : Context) (forest : Forest) (yes' no' : Denotation) (work : List Pending) (values : Items) (first : ℕ) (stacks : Stacks) (bindings : Bindings) (truth : Bool)
    → condition_of (drop first values) ≡ Some truth
    → after (branch truth yes' no' bindings forest) (λ more left. resume k work (take first values ++ more) stacks bindings left)
    ≡ given (condition_of (drop first values)) (λ truth. after (branch truth yes' no' bindings forest) (λ more left. resume k work (take first values ++ more) stacks bindings left))
chosen_is k forest yes' no' work values first stacks bindings truth e =
    sym (ap (λ (o : Option Bool). given o (λ truth. after (branch truth yes' no' bindings forest) (λ more left. resume k work (take first values ++ more) stacks bindings left))) e)

pub none_is_chosen : (values : Items) (first : ℕ) (next : Bool → Outcome Items) → condition_of (drop first values) ≡ None → given (condition_of (drop first values)) next ≡ wrong
none_is_chosen values first next e = ap (λ (o : Option Bool). given o next) e

-- ---- a switch

pub switch_opens : (k : Context) (forest : Forest) (operand : Denotation) (chosen : Items → Forest → Outcome Items) (work : List Pending) (values : Items) (first : ℕ) (stacks : Stacks) (bindings : Bindings) → first ≡ length values
    → after (operand bindings forest) (λ xs f. after (chosen (drop first (values ++ xs)) f) (λ more left. resume k work (take first (values ++ xs) ++ more) stacks bindings left))
    ≡ after (after (operand bindings forest) chosen) (λ more left. resume k work (values ++ more) stacks bindings left)
switch_opens k forest operand chosen work values first stacks bindings h =
    ap (λ (n : ℕ). after (operand bindings forest) (λ xs f. after (chosen (drop n (values ++ xs)) f) (λ more left. resume k work (take n (values ++ xs) ++ more) stacks bindings left))) h
    ∙ opened (operand bindings forest)
  where
    opened : (o : Outcome Items)
        → after o (λ xs f. after (chosen (drop (length values) (values ++ xs)) f) (λ more left. resume k work (take (length values) (values ++ xs) ++ more) stacks bindings left))
        ≡ after (after o chosen) (λ more left. resume k work (values ++ more) stacks bindings left)
    opened (gives xs f) =
        ap (λ (v : Items). after (chosen v f) (λ more left. resume k work (take (length values) (values ++ xs) ++ more) stacks bindings left)) (drop-append_seam values xs)
        ∙ ap (λ (v : Items). after (chosen xs f) (λ more left. resume k work (v ++ more) stacks bindings left)) (take-append_seam values xs)
    opened (raises code) = refl
    opened wrong = refl

-- the branch that a switch chooses
pub first_case : (k : Context) (forest : Forest) (default : ℕ) (cases rest : List TypeCase) (case : TypeCase) (branches others : List PlanExpression) (branch : PlanExpression) (xs : Items) (bindings : Bindings) (next : Rest)
    → cases ≡ case ∷ rest → branches ≡ branch ∷ others → is_instance k.schemas forest case.kind xs ≡ true
    → after (joined k branch (position_bound case.variable xs ++ bindings) forest) next ≡ after (switched k.schemas cases default (map (joined k) branches) xs bindings forest) next
first_case k forest default cases rest case branches others branch xs bindings next e f h =
    sym (ap (λ (cs : List TypeCase). after (switched k.schemas cs default (map (joined k) branches) xs bindings forest) next) e
    ∙ ap (λ (bs : List PlanExpression). after (switched k.schemas (case ∷ rest) default (map (joined k) bs) xs bindings forest) next) f
    ∙ ap (λ (b : Bool). after (if b then joined k branch (position_bound case.variable xs ++ bindings) forest else switched k.schemas rest default (map (joined k) others) xs bindings forest) next) h)

pub later_case : (k : Context) (forest : Forest) (default : ℕ) (cases rest : List TypeCase) (case : TypeCase) (branches others : List PlanExpression) (branch : PlanExpression) (xs : Items) (bindings : Bindings) (next : Rest)
    → cases ≡ case ∷ rest → branches ≡ branch ∷ others → is_instance k.schemas forest case.kind xs ≡ false
    → after (switched k.schemas rest default (map (joined k) others) xs bindings forest) next ≡ after (switched k.schemas cases default (map (joined k) branches) xs bindings forest) next
later_case k forest default cases rest case branches others branch xs bindings next e f h =
    sym (ap (λ (cs : List TypeCase). after (switched k.schemas cs default (map (joined k) branches) xs bindings forest) next) e
    ∙ ap (λ (bs : List PlanExpression). after (switched k.schemas (case ∷ rest) default (map (joined k) bs) xs bindings forest) next) f
    ∙ ap (λ (b : Bool). after (if b then joined k branch (position_bound case.variable xs ++ bindings) forest else switched k.schemas rest default (map (joined k) others) xs bindings forest) next) h)

pub no_case : (k : Context) (forest : Forest) (default : ℕ) (cases : List TypeCase) (branches others : List PlanExpression) (branch : PlanExpression) (xs : Items) (bindings : Bindings) (next : Rest)
    → cases ≡ [] → branches ≡ branch ∷ others → others ≡ []
    → after (joined k branch (position_bound default xs ++ bindings) forest) next ≡ after (switched k.schemas cases default (map (joined k) branches) xs bindings forest) next
no_case k forest default cases branches others branch xs bindings next e f h =
    sym (ap (λ (cs : List TypeCase). after (switched k.schemas cs default (map (joined k) branches) xs bindings forest) next) e
    ∙ ap (λ (bs : List PlanExpression). after (switched k.schemas [] default (map (joined k) bs) xs bindings forest) next) f
    ∙ ap (λ (bs : List PlanExpression). after (switched k.schemas [] default (joined k branch ∷ map (joined k) bs) xs bindings forest) next) h)

pub no_branch : (k : Context) (forest : Forest) (default : ℕ) (cases : List TypeCase) (branches : List PlanExpression) (xs : Items) (bindings : Bindings) (next : Rest)
    → branches ≡ [] → after (switched k.schemas cases default (map (joined k) branches) xs bindings forest) next ≡ wrong
no_branch k forest default cases branches xs bindings next f =
    ap (λ (bs : List PlanExpression). after (switched k.schemas cases default (map (joined k) bs) xs bindings forest) next) f ∙ none_left cases
  where
    none_left : (cs : List TypeCase) → after (switched k.schemas cs default [] xs bindings forest) next ≡ wrong
    none_left [] = refl
    none_left (case ∷ cs) = refl

-- a branch whose case has no variable
pub without_variable : (forest : Forest) (variable : ℕ) (body : Denotation) (xs : Items) (bindings : Bindings) (next : Rest) → variable ≡ 0
    → after (body bindings forest) next ≡ after (body (position_bound variable xs ++ bindings) forest) next
without_variable forest variable body xs bindings next e = ap (λ (n : ℕ). after (body (position_bound n xs ++ bindings) forest) next) (sym e)

-- ---- a `let`

pub let_opens : (k : Context) (forest : Forest) (variable : ℕ) (value body : Denotation) (work : List Pending) (values : Items) (stacks : Stacks) (bindings : Bindings)
    → after (value bindings forest) (λ xs f. after (body ((variable, drop (length values) (values ++ xs)) ∷ bindings) f) (λ more left. resume k work (take (length values) (values ++ xs) ++ more) stacks bindings left))
    ≡ after (after (value bindings forest) (λ xs f. body ((variable, xs) ∷ bindings) f)) (λ more left. resume k work (values ++ more) stacks bindings left)
let_opens k forest variable value body work values stacks bindings = opened (value bindings forest)
  where
    opened : (o : Outcome Items)
        → after o (λ xs f. after (body ((variable, drop (length values) (values ++ xs)) ∷ bindings) f) (λ more left. resume k work (take (length values) (values ++ xs) ++ more) stacks bindings left))
        ≡ after (after o (λ xs f. body ((variable, xs) ∷ bindings) f)) (λ more left. resume k work (values ++ more) stacks bindings left)
    opened (gives xs f) =
        ap (λ (v : Items). after (body ((variable, v) ∷ bindings) f) (λ more left. resume k work (take (length values) (values ++ xs) ++ more) stacks bindings left)) (drop-append_seam values xs)
        ∙ ap (λ (v : Items). after (body ((variable, xs) ∷ bindings) f) (λ more left. resume k work (v ++ more) stacks bindings left)) (take-append_seam values xs)
    opened (raises code) = refl
    opened wrong = refl

pub let_opens_at : (k : Context) (forest : Forest) (variable : ℕ) (value body : Denotation) (work : List Pending) (values : Items) (first : ℕ) (stacks : Stacks) (bindings : Bindings) → first ≡ length values
    → after (value bindings forest) (λ xs f. after (body ((variable, drop first (values ++ xs)) ∷ bindings) f) (λ more left. resume k work (take first (values ++ xs) ++ more) stacks bindings left))
    ≡ after (after (value bindings forest) (λ xs f. body ((variable, xs) ∷ bindings) f)) (λ more left. resume k work (values ++ more) stacks bindings left)
let_opens_at k forest variable value body work values first stacks bindings h =
    ap (λ (n : ℕ). after (value bindings forest) (λ xs f. after (body ((variable, drop n (values ++ xs)) ∷ bindings) f) (λ more left. resume k work (take n (values ++ xs) ++ more) stacks bindings left))) h
    ∙ let_opens k forest variable value body work values stacks bindings

-- ---- loops

-- the values that are there stand before those of the turns
pub turns_behind : (step : ℕ → Item → Forest → Outcome Items) (number : ℕ) (done front xs : Items) (forest : Forest)
    → for_each step number (done ++ front) xs forest ≡ after (for_each step number front xs forest) (λ more left. gives (done ++ more) left)
turns_behind step number done front [] forest = refl
turns_behind step number done front (x ∷ xs) forest = one_turn (step number x forest) (λ more f. turns_behind step (suc number) done (front ++ more) xs f)
  where
    one_turn : (o : Outcome Items) → ((more : Items) (f : Forest) → for_each step (suc number) (done ++ (front ++ more)) xs f ≡ after (for_each step (suc number) (front ++ more) xs f) (λ more left. gives (done ++ more) left))
        → after o (λ more left. for_each step (suc number) ((done ++ front) ++ more) xs left) ≡ after (after o (λ more left. for_each step (suc number) (front ++ more) xs left)) (λ more left. gives (done ++ more) left)
    one_turn (gives more f) h = ap (λ (v : Items). for_each step (suc number) v xs f) (append_assoc done front more) ∙ h more f
    one_turn (raises code) h = refl
    one_turn wrong h = refl

loop_behind : (body : Denotation) (repeated : Loop) (bindings : Bindings) (done xs : Items) (forest : Forest)
    → looped body repeated bindings done xs forest ≡ after (looped body repeated bindings [] xs forest) (λ more left. gives (done ++ more) left)
loop_behind body (For variable position number) bindings done xs forest =
    ap (λ (v : Items). for_each (turn body variable position bindings) number v xs forest) (sym (append-nil done)) ∙ turns_behind (turn body variable position bindings) number done [] xs forest
loop_behind body (Search variable decisive) bindings done xs forest =
    after_after (any_decides decisive (item_tested body variable bindings) xs forest) (λ more left. gives more left) (λ more left. gives (done ++ more) left)

all_turns : (body : Denotation) (repeated : Loop) (bindings : Bindings) (done xs : Items) (forest : Forest) (next : Rest)
    → after (looped body repeated bindings done xs forest) next ≡ after (looped body repeated bindings [] xs forest) (λ more left. next (done ++ more) left)
all_turns body repeated bindings done xs forest next =
    ap (λ (o : Outcome Items). after o next) (loop_behind body repeated bindings done xs forest)
    ∙ sym (after_after (looped body repeated bindings [] xs forest) (λ more left. gives (done ++ more) left) next)

loop_opens : (k : Context) (forest : Forest) (repeated : Loop) (source body : Denotation) (work : List Pending) (values : Items) (stacks : Stacks) (bindings : Bindings)
    → after (source bindings forest)
    (λ xs f. after (looped body repeated bindings (take (length values) (values ++ xs)) (drop (length values) (values ++ xs)) f) (λ vs left. resume k work vs stacks bindings left))
    ≡ after (after (source bindings forest) (λ xs f. looped body repeated bindings [] xs f)) (λ more left. resume k work (values ++ more) stacks bindings left)
loop_opens k forest repeated source body work values stacks bindings = opened (source bindings forest)
  where
    opened : (o : Outcome Items)
        → after o (λ xs f. after (looped body repeated bindings (take (length values) (values ++ xs)) (drop (length values) (values ++ xs)) f) (λ vs left. resume k work vs stacks bindings left))
        ≡ after (after o (λ xs f. looped body repeated bindings [] xs f)) (λ more left. resume k work (values ++ more) stacks bindings left)
    opened (gives xs f) =
        ap (λ (v : Items). after (looped body repeated bindings v (drop (length values) (values ++ xs)) f) (λ vs left. resume k work vs stacks bindings left)) (take-append_seam values xs)
        ∙ ap (λ (v : Items). after (looped body repeated bindings values v f) (λ vs left. resume k work vs stacks bindings left)) (drop-append_seam values xs)
        ∙ all_turns body repeated bindings values xs f (λ vs left. resume k work vs stacks bindings left)
    opened (raises code) = refl
    opened wrong = refl

pub loop_opens_at : (k : Context) (forest : Forest) (repeated : Loop) (source body : Denotation) (work : List Pending) (values : Items) (first : ℕ) (stacks : Stacks) (bindings : Bindings) → first ≡ length values
    → after (source bindings forest) (λ xs f. after (looped body repeated bindings (take first (values ++ xs)) (drop first (values ++ xs)) f) (λ vs left. resume k work vs stacks bindings left))
    ≡ after (after (source bindings forest) (λ xs f. looped body repeated bindings [] xs f)) (λ more left. resume k work (values ++ more) stacks bindings left)
loop_opens_at k forest repeated source body work values first stacks bindings h =
    ap (λ (n : ℕ). after (source bindings forest) (λ xs f. after (looped body repeated bindings (take n (values ++ xs)) (drop n (values ++ xs)) f) (λ vs left. resume k work vs stacks bindings left))) h
    ∙ loop_opens k forest repeated source body work values stacks bindings

-- a search puts what it comes to behind no value
searched : (o : Outcome Items) → after o (λ more left. gives more left) ≡ o
searched (gives xs f) = refl
searched (raises code) = refl
searched wrong = refl

pub search_opens_at : (k : Context) (forest : Forest) (variable : ℕ) (decisive : Bool) (source test : Denotation) (work : List Pending) (values : Items) (first : ℕ) (stacks : Stacks) (bindings : Bindings) → first ≡ length values
    → after (source bindings forest) (λ xs f. after (looped test (Search variable decisive) bindings (take first (values ++ xs)) (drop first (values ++ xs)) f) (λ vs left. resume k work vs stacks bindings left))
    ≡ after (after (source bindings forest) (λ xs f. any_decides decisive (item_tested test variable bindings) xs f)) (λ more left. resume k work (values ++ more) stacks bindings left)
search_opens_at k forest variable decisive source test work values first stacks bindings h =
    loop_opens_at k forest (Search variable decisive) source test work values first stacks bindings h
    ∙ ap (λ (o : Outcome Items). after o (λ more left. resume k work (values ++ more) stacks bindings left))
    (same_after (source bindings forest) (λ xs f. looped test (Search variable decisive) bindings [] xs f) (λ xs f. any_decides decisive (item_tested test variable bindings) xs f)
    (λ xs f. searched (any_decides decisive (item_tested test variable bindings) xs f)))

-- the items of a loop go aside
gathered : (k : Context) (forest : Forest) (repeated : Loop) (body : Denotation) (work : List Pending) (values : Items) (first : ℕ) (stacks : Stacks) (bindings : Bindings)
    → after (looped body repeated bindings (take first values) (drop (length stacks.sources) (stacks.sources ++ drop first values)) forest)
    (λ vs left. resume k work vs (with_sources stacks (take (length stacks.sources) (stacks.sources ++ drop first values))) bindings left)
    ≡ after (looped body repeated bindings (take first values) (drop first values) forest) (λ vs left. resume k work vs stacks bindings left)
gathered k forest repeated body work values first stacks bindings =
    ap (λ (v : Items). after (looped body repeated bindings (take first values) v forest) (λ vs left. resume k work vs (with_sources stacks (take (length stacks.sources) (stacks.sources ++ drop first values))) bindings left))
    (drop-append_seam stacks.sources (drop first values))
    ∙ ap (λ (v : Items). after (looped body repeated bindings (take first values) (drop first values) forest) (λ vs left. resume k work vs (with_sources stacks v) bindings left)) (take-append_seam stacks.sources (drop first values))

pub gathered_at : (k : Context) (forest : Forest) (repeated : Loop) (body : Denotation) (work : List Pending) (values front sources : Items) (first start : ℕ) (stacks : Stacks) (bindings : Bindings)
    → front ≡ take first values → sources ≡ stacks.sources ++ drop first values → start ≡ length stacks.sources
    → after (looped body repeated bindings front (drop start sources) forest) (λ vs left. resume k work vs (with_sources stacks (take start sources)) bindings left)
    ≡ after (looped body repeated bindings (take first values) (drop first values) forest) (λ vs left. resume k work vs stacks bindings left)
gathered_at k forest repeated body work values front sources first start stacks bindings e f h =
    ap (λ (v : Items). after (looped body repeated bindings v (drop start sources) forest) (λ vs left. resume k work vs (with_sources stacks (take start sources)) bindings left)) e
    ∙ ap (λ (s : Items). after (looped body repeated bindings (take first values) (drop start s) forest) (λ vs left. resume k work vs (with_sources stacks (take start s)) bindings left)) f
    ∙ ap (λ (n : ℕ). after (looped body repeated bindings (take first values) (drop n (stacks.sources ++ drop first values)) forest) (λ vs left. resume k work vs (with_sources stacks (take n (stacks.sources ++ drop first values))) bindings left)) h
    ∙ gathered k forest repeated body work values first stacks bindings

-- a turn, and what is left of the loop
pub next_turn : (forest : Forest) (variable position number : ℕ) (body : Denotation) (values : Items) (x : Item) (rest all : Items) (bindings : Bindings) (next : Rest) → all ≡ x ∷ rest
    → after (turn body variable position bindings number x forest) (λ more left. after (for_each (turn body variable position bindings) (suc number) (values ++ more) rest left) next)
    ≡ after (for_each (turn body variable position bindings) number values all forest) next
next_turn forest variable position number body values x rest all bindings next e =
    after_after (turn body variable position bindings number x forest) (λ more left. for_each (turn body variable position bindings) (suc number) (values ++ more) rest left) next
    ∙ ap (λ (v : Items). after (for_each (turn body variable position bindings) number values v forest) next) (sym e)

pub turn_goes_on : (forest : Forest) (variable position number following : ℕ) (body : Denotation) (values : Items) (x : Item) (rest all : Items) (bindings : Bindings) (next : Rest) (others : Rest)
    → following ≡ suc number → all ≡ x ∷ rest → ((vs : Items) (left : Forest) → others vs left ≡ after (for_each (turn body variable position bindings) following vs rest left) next)
    → after (turn body variable position bindings number x forest) (λ more left. others (values ++ more) left) ≡ after (for_each (turn body variable position bindings) number values all forest) next
turn_goes_on forest variable position number following body values x rest all bindings next others n e h =
    same_after (turn body variable position bindings number x forest) (λ more left. others (values ++ more) left) (λ more left. after (for_each (turn body variable position bindings) following (values ++ more) rest left) next)
    (λ more left. h (values ++ more) left)
    ∙ ap (λ (m : ℕ). after (turn body variable position bindings number x forest) (λ more left. after (for_each (turn body variable position bindings) m (values ++ more) rest left) next)) n
    ∙ next_turn forest variable position number body values x rest all bindings next e

-- a search that no item has ended
pub search_ends : (forest : Forest) (variable : ℕ) (decisive : Bool) (test : Denotation) (values all : Items) (bindings : Bindings) (next : Rest) → all ≡ []
    → next (values ++ truth_value (not decisive)) forest ≡ after (looped test (Search variable decisive) bindings values all forest) next
search_ends forest variable decisive test values all bindings next e = ap (λ (v : Items). after (looped test (Search variable decisive) bindings values v forest) next) (sym e)

-- a test, and what is left of the search
decided_behind : (decisive : Bool) (values : Items) (found : Option Bool) (others : Outcome Items) (left : Forest) (next : Rest)
    → given found (λ truth. after (if decides decisive truth then gives (truth_value decisive) left else others) (λ more last. next (values ++ more) last))
    ≡ after (after (given found (λ truth. if decides decisive truth then gives (truth_value decisive) left else others)) (λ more last. gives (values ++ more) last)) next
decided_behind decisive values None others left next = refl
decided_behind decisive values (Some truth) others left next =
    after_after (if decides decisive truth then gives (truth_value decisive) left else others) (λ more last. gives (values ++ more) last) next

pub next_test : (forest : Forest) (variable : ℕ) (decisive : Bool) (test : Denotation) (values : Items) (first : ℕ) (x : Item) (rest all : Items) (bindings : Bindings) (next : Rest) → all ≡ x ∷ rest → first ≡ length values
    → after (item_tested test variable bindings x forest)
    (λ ys left. given (condition_of (drop first (values ++ ys)))
    (λ truth. after (if decides decisive truth then gives (truth_value decisive) left else any_decides decisive (item_tested test variable bindings) rest left) (λ more last. next (take first (values ++ ys) ++ more) last)))
    ≡ after (looped test (Search variable decisive) bindings values all forest) next
next_test forest variable decisive test values first x rest all bindings next e h =
    ap (λ (n : ℕ). after (item_tested test variable bindings x forest)
    (λ ys left. given (condition_of (drop n (values ++ ys)))
    (λ truth. after (if decides decisive truth then gives (truth_value decisive) left else any_decides decisive (item_tested test variable bindings) rest left) (λ more last. next (take n (values ++ ys) ++ more) last)))) h
    ∙ opened (item_tested test variable bindings x forest)
    ∙ ap (λ (v : Items). after (looped test (Search variable decisive) bindings values v forest) next) (sym e)
  where
    opened : (o : Outcome Items)
        → after o (λ ys left. given (condition_of (drop (length values) (values ++ ys)))
        (λ truth. after (if decides decisive truth then gives (truth_value decisive) left else any_decides decisive (item_tested test variable bindings) rest left) (λ more last. next (take (length values) (values ++ ys) ++ more) last)))
        ≡ after (after (after o (λ ys left. given (condition_of ys) (λ truth. if decides decisive truth then gives (truth_value decisive) left else any_decides decisive (item_tested test variable bindings) rest left)))
        (λ more last. gives (values ++ more) last)) next
    opened (gives ys left) =
        ap (λ (v : Items). given (condition_of v) (λ truth. after (if decides decisive truth then gives (truth_value decisive) left else any_decides decisive (item_tested test variable bindings) rest left)
        (λ more last. next (take (length values) (values ++ ys) ++ more) last))) (drop-append_seam values ys)
        ∙ ap (λ (v : Items). given (condition_of ys) (λ truth. after (if decides decisive truth then gives (truth_value decisive) left else any_decides decisive (item_tested test variable bindings) rest left)
        (λ more last. next (v ++ more) last))) (take-append_seam values ys)
        ∙ decided_behind decisive values (condition_of ys) (any_decides decisive (item_tested test variable bindings) rest left) left next
    opened (raises code) = refl
    opened wrong = refl

-- where a value decides, or does not
pub decided_is : (values : Items) (first : ℕ) (decisive truth : Bool) (others : Outcome Items) (forest : Forest) (next : Rest) → condition_of (drop first values) ≡ Some truth → decides decisive truth ≡ true
    → next (take first values ++ truth_value decisive) forest
    ≡ given (condition_of (drop first values)) (λ truth. after (if decides decisive truth then gives (truth_value decisive) forest else others) (λ more left. next (take first values ++ more) left))
decided_is values first decisive truth others forest next e d =
    sym (ap (λ (o : Option Bool). given o (λ truth. after (if decides decisive truth then gives (truth_value decisive) forest else others) (λ more left. next (take first values ++ more) left))) e
    ∙ ap (λ (b : Bool). after (if b then gives (truth_value decisive) forest else others) (λ more left. next (take first values ++ more) left)) d)

pub undecided_is : (values : Items) (first : ℕ) (decisive truth : Bool) (others : Outcome Items) (forest : Forest) (next : Rest) → condition_of (drop first values) ≡ Some truth → decides decisive truth ≡ false
    → after (after others (λ more left. gives (take first values ++ more) left)) next
    ≡ given (condition_of (drop first values)) (λ truth. after (if decides decisive truth then gives (truth_value decisive) forest else others) (λ more left. next (take first values ++ more) left))
undecided_is values first decisive truth others forest next e d =
    sym (after_after others (λ more left. gives (take first values ++ more) left) next)
    ∙ sym (ap (λ (o : Option Bool). given o (λ truth. after (if decides decisive truth then gives (truth_value decisive) forest else others) (λ more left. next (take first values ++ more) left))) e
    ∙ ap (λ (b : Bool). after (if b then gives (truth_value decisive) forest else others) (λ more left. next (take first values ++ more) left)) d)

-- ---- variables

pub none_is_bound : (found : Option Items) (forest : Forest) (next : Rest) → found ≡ None → after (given found (λ xs. gives xs forest)) next ≡ wrong
none_is_bound found forest next e = ap (λ (o : Option Items). after (given o (λ xs. gives xs forest)) next) e
