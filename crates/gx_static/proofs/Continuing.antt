-- Typing the parts of an expression and then making it comes to the judgement of the expression.
use Rattle.std.proofs.Common.{◌≡◌, ◌≢◌, ◌≤◌, ◌+◌, ℕ, zero, suc, List, [], ◌∷◌, ◌++◌, length, map, reverse, drop, None, Some, refl, sym, ◌∙◌, ap, subst, append_assoc, arith}
use Rattle.std.proofs.lemmas.List.{append-nil, reverse-append}
use Rattle.gx_base.specs.declared.place.Place.{Place}
use Rattle.gx_types.specs.SchemaSet.{SchemaSet}
use Rattle.gx_types.specs.SequenceType.{SequenceType}
use Rattle.gx_funcs.specs.declared.function.Function.{Function}
use Rattle.gx_core.specs.declared.expression.Binder.{Binder}
use Rattle.gx_core.specs.declared.operator.Operator.{Operator}
use Rattle.gx_core.specs.declared.operator.Operator.TheVariants as operators
use Rattle.gx_core.specs.Expression.{CoreExpression, core_at, Parts, no_parts, a_part, one_part, two_parts, three_parts, all_parts, each_of, annotation_of}
use Rattle.gx_core.specs.Bindings.{Types, types_bound, position_bound, branch_types}
use Rattle.gx_core.specs.declared.cases.TypeCase.{TypeCase}
use Rattle.gx_static.proofs.Switches.{GoesOn, next_is, one_more_done}
use Rattle.gx_core.specs.Soundness.{TypedExpression}
use Rattle.gx_core.specs.Queries.{TypedCore, TypedDeclaration}
use Rattle.gx_static.specs.Rule.{ruling}
use Rattle.gx_static.specs.Judgement.{Judged, Judgement, typed, rejected, with_typed, judged, parts_judged, concluded}
use Rattle.gx_static.specs.declared.typing.Task.{Task}
use Rattle.gx_static.specs.declared.typing.Task.TheVariants.{Finish, FinishCall, FinishSwitch}
use Rattle.gx_static.specs.Typing.{Awaited, part_count, then_typed, item_type_bound, branches_in_order, finished, typed_in_order, last_parts, continued}

-- what is made of all parts, made of each
pub made_typed : {R : Type 0} (j : Judged R) (make : R → Judgement) (next : TypedExpression → Awaited) → then_typed j (λ x. then_typed (make x) next) ≡ then_typed (with_typed j make) next
made_typed (typed x) make next = refl
made_typed (rejected place code) make next = refl

put_in_front : (t : TypedExpression) (j : Judged (Parts SequenceType)) (next : Parts SequenceType → Awaited)
    → then_typed j (λ ts. next (a_part t ts)) ≡ then_typed (with_typed j (λ ts. typed (a_part t ts))) next
put_in_front t (typed ts) next = refl
put_in_front t (rejected place code) next = refl

pub one_more : (j : Judgement) (others : TypedExpression → Judged (Parts SequenceType)) (rest : TypedExpression → Awaited) (next : Parts SequenceType → Awaited)
    → ((t : TypedExpression) → rest t ≡ then_typed (others t) (λ ts. next (a_part t ts)))
    → then_typed j rest ≡ then_typed (with_typed j (λ t. with_typed (others t) (λ ts. typed (a_part t ts)))) next
one_more (typed t) others rest next h = h t ∙ put_in_front t (others t) next
one_more (rejected place code) others rest next h = refl

-- how many expressions there are, besides some
abbrev count_with : List CoreExpression → ℕ → ℕ
count_with [] n = n
count_with (e ∷ es) n = count_with es (suc n)

-- typing expressions in order and taking them is judging the parts
parts_in_order : (schemas : SchemaSet) (operator : Operator) (types : Types) → ((before : List SequenceType) → types_bound operator before ≡ [])
    → (next : Parts SequenceType → List TypedExpression → Awaited) (below : List TypedExpression) (es : List CoreExpression) (before : List SequenceType) (n : ℕ) (there : List TypedExpression)
    (behind : Parts SequenceType → Parts SequenceType) → ((parts : Parts SequenceType) → last_parts n there parts next ≡ next (behind parts) below)
    → typed_in_order schemas es types (λ parts. last_parts (count_with es n) parts no_parts next) there
    ≡ then_typed (parts_judged schemas operator before (all_parts es) types) (λ ts. next (behind ts) below)
parts_in_order schemas operator types none next below [] before n there behind h = h no_parts
parts_in_order schemas operator types none next below (e ∷ es) before n there behind h =
    subst (λ (bound : Types). then_typed (judged schemas e types) (λ t. typed_in_order schemas es types (λ parts. last_parts (count_with es (suc n)) parts no_parts next) (t ∷ there))
    ≡ then_typed (with_typed (judged schemas e (bound ++ types)) (λ t. with_typed (parts_judged schemas operator (before ++ annotation_of t ∷ []) (all_parts es) types) (λ ts. typed (a_part t ts)))) (λ ts. next (behind ts) below))
    (sym (none before))
    (one_more (judged schemas e types) (λ t. parts_judged schemas operator (before ++ annotation_of t ∷ []) (all_parts es) types)
    (λ t. typed_in_order schemas es types (λ parts. last_parts (count_with es (suc n)) parts no_parts next) (t ∷ there)) (λ ts. next (behind ts) below)
    (λ t. parts_in_order schemas operator types none next below es (before ++ annotation_of t ∷ []) (suc n) (t ∷ there) (λ ts. behind (a_part t ts)) (λ parts. h (a_part t parts))))

counted : (es : List CoreExpression) (n : ℕ) → count_with es n ≡ length es + n
counted [] n = omega arith
counted (e ∷ es) n = omega (arith, counted es (suc n))

-- so does an operator that binds nothing
operator_opens : (schemas : SchemaSet) (operator : Operator) → ((before : List SequenceType) → types_bound operator before ≡ [])
    → (place outer : Place) (types : Types) (next : TypedExpression → List TypedExpression → Awaited) (below : List TypedExpression) (es : List CoreExpression)
    → typed_in_order schemas es types (λ parts. last_parts (count_with es 0) parts no_parts (finished schemas place outer operator types next)) below
    ≡ then_typed (judged schemas (core_at place outer operator (all_parts es)) types) (λ t. next t below)
operator_opens schemas operator none place outer types next below es =
    parts_in_order schemas operator types none (finished schemas place outer operator types next) below es [] 0 below (λ ts. ts) (λ parts. refl)
    ∙ made_typed (parts_judged schemas operator [] (all_parts es) types) (λ ts. concluded place outer operator ts (ruling schemas operator (each_of annotation_of ts) types)) (λ t. next t below)

pub single_opens : (schemas : SchemaSet) (operator : Operator) → ((before : List SequenceType) → types_bound operator before ≡ []) → part_count operator ≡ 1
    → (tasks : List Task) (parts : List TypedExpression) (types : Types) (declared : List TypedDeclaration) (place outer : Place) (operand : CoreExpression)
    → typed_in_order schemas (operand ∷ []) types (λ parts. continued schemas (Finish place outer operator ∷ tasks) parts types declared) parts
    ≡ then_typed (judged schemas (core_at place outer operator (one_part operand)) types) (λ t. continued schemas tasks (t ∷ parts) types declared)
single_opens schemas operator none one tasks parts types declared place outer operand =
    subst (λ (n : ℕ). typed_in_order schemas (operand ∷ []) types (λ parts. last_parts n parts no_parts (finished schemas place outer operator types (λ t below. continued schemas tasks (t ∷ below) types declared))) parts
    ≡ then_typed (judged schemas (core_at place outer operator (one_part operand)) types) (λ t. continued schemas tasks (t ∷ parts) types declared)) (sym one)
    (operator_opens schemas operator none place outer types (λ t below. continued schemas tasks (t ∷ below) types declared) parts (operand ∷ []))

pub pair_opens : (schemas : SchemaSet) (operator : Operator) → ((before : List SequenceType) → types_bound operator before ≡ []) → part_count operator ≡ 2
    → (tasks : List Task) (parts : List TypedExpression) (types : Types) (declared : List TypedDeclaration) (place outer : Place) (first second : CoreExpression)
    → typed_in_order schemas (first ∷ second ∷ []) types (λ parts. continued schemas (Finish place outer operator ∷ tasks) parts types declared) parts
    ≡ then_typed (judged schemas (core_at place outer operator (two_parts first second)) types) (λ t. continued schemas tasks (t ∷ parts) types declared)
pair_opens schemas operator none two tasks parts types declared place outer first second =
    subst (λ (n : ℕ). typed_in_order schemas (first ∷ second ∷ []) types (λ parts. last_parts n parts no_parts (finished schemas place outer operator types (λ t below. continued schemas tasks (t ∷ below) types declared))) parts
    ≡ then_typed (judged schemas (core_at place outer operator (two_parts first second)) types) (λ t. continued schemas tasks (t ∷ parts) types declared)) (sym two)
    (operator_opens schemas operator none place outer types (λ t below. continued schemas tasks (t ∷ below) types declared) parts (first ∷ second ∷ []))

pub conditional_opens : (schemas : SchemaSet) (tasks : List Task) (parts : List TypedExpression) (types : Types) (declared : List TypedDeclaration) (place outer : Place) (condition chosen otherwise : CoreExpression)
    → typed_in_order schemas (condition ∷ chosen ∷ otherwise ∷ []) types (λ parts. continued schemas (Finish place outer operators.If ∷ tasks) parts types declared) parts
    ≡ then_typed (judged schemas (core_at place outer operators.If (three_parts condition chosen otherwise)) types) (λ t. continued schemas tasks (t ∷ parts) types declared)
conditional_opens schemas tasks parts types declared place outer condition chosen otherwise =
    operator_opens schemas operators.If (λ before. refl) place outer types (λ t below. continued schemas tasks (t ∷ below) types declared) parts (condition ∷ chosen ∷ otherwise ∷ [])

pub call_opens : (schemas : SchemaSet) (tasks : List Task) (parts : List TypedExpression) (types : Types) (declared : List TypedDeclaration) (place outer : Place) (function : Function) (arguments : List CoreExpression)
    → typed_in_order schemas arguments types (λ parts. continued schemas (FinishCall place outer function (length arguments) ∷ tasks) parts types declared) parts
    ≡ then_typed (judged schemas (core_at place outer (operators.Call function) (all_parts arguments)) types) (λ t. continued schemas tasks (t ∷ parts) types declared)
call_opens schemas tasks parts types declared place outer function arguments =
    let count : count_with arguments 0 ≡ length arguments = omega (arith, counted arguments 0) in
    subst (λ (n : ℕ). typed_in_order schemas arguments types (λ parts. last_parts n parts no_parts (finished schemas place outer (operators.Call function) types (λ t below. continued schemas tasks (t ∷ below) types declared))) parts
    ≡ then_typed (judged schemas (core_at place outer (operators.Call function) (all_parts arguments)) types) (λ t. continued schemas tasks (t ∷ parts) types declared)) count
    (operator_opens schemas (operators.Call function) (λ before. refl) place outer types (λ t below. continued schemas tasks (t ∷ below) types declared) parts arguments)

-- an operator that has so many parts as it says, and binds nothing
pub counted_opens : (schemas : SchemaSet) (make : ℕ → Operator) → ((number : ℕ) (before : List SequenceType) → types_bound (make number) before ≡ []) → ((number : ℕ) → part_count (make number) ≡ number)
    → (tasks : List Task) (parts : List TypedExpression) (types : Types) (declared : List TypedDeclaration) (place outer : Place) (number : ℕ) (content : List CoreExpression)
    → number ≡ length content
    → typed_in_order schemas content types (λ parts. continued schemas (Finish place outer (make number) ∷ tasks) parts types declared) parts
    ≡ then_typed (judged schemas (core_at place outer (make (length content)) (all_parts content)) types) (λ t. continued schemas tasks (t ∷ parts) types declared)
counted_opens schemas make binds_nothing has_parts tasks parts types declared place outer number content all =
    let operator : Operator = make (length content) in
    let count : count_with content 0 ≡ length content = omega (arith, counted content 0) in
    let made : Parts SequenceType → List TypedExpression → Awaited = finished schemas place outer operator types (λ t below. continued schemas tasks (t ∷ below) types declared) in
    ap (λ (n : ℕ). typed_in_order schemas content types (λ parts. continued schemas (Finish place outer (make n) ∷ tasks) parts types declared) parts) all
    ∙ ap (λ (n : ℕ). typed_in_order schemas content types (λ parts. last_parts n parts no_parts made) parts) (has_parts (length content))
    ∙ subst (λ (n : ℕ). typed_in_order schemas content types (λ parts. last_parts n parts no_parts made) parts
    ≡ then_typed (judged schemas (core_at place outer operator (all_parts content)) types) (λ t. continued schemas tasks (t ∷ parts) types declared)) count
    (operator_opens schemas operator (binds_nothing (length content)) place outer types (λ t below. continued schemas tasks (t ∷ below) types declared) parts content)

also_behind : (j : Judgement) (f g : TypedExpression → Awaited) → ((t : TypedExpression) → f t ≡ g t) → then_typed j f ≡ then_typed j g
also_behind (typed t) f g h = h t
also_behind (rejected place code) f g h = refl

-- the last of several expressions is typed behind the others
pub last_typed : (schemas : SchemaSet) (es : List CoreExpression) (e : CoreExpression) (types : Types) (next : List TypedExpression → Awaited) (parts : List TypedExpression)
    → typed_in_order schemas (es ++ e ∷ []) types next parts ≡ typed_in_order schemas es types (λ there. then_typed (judged schemas e types) (λ t. next (t ∷ there))) parts
last_typed schemas [] e types next parts = refl
last_typed schemas (d ∷ es) e types next parts =
    also_behind (judged schemas d types) (λ t. typed_in_order schemas (es ++ e ∷ []) types next (t ∷ parts))
    (λ t. typed_in_order schemas es types (λ there. then_typed (judged schemas e types) (λ u. next (u ∷ there))) (t ∷ parts)) (λ t. last_typed schemas es e types next (t ∷ parts))

-- parts that are taken from the top, the last first
arguments_taken : (taken : List TypedExpression) (below : List TypedExpression) (there : List TypedExpression) (next : Parts SequenceType → List TypedExpression → Awaited)
    → last_parts (length taken) (taken ++ below) (all_parts there) next ≡ next (all_parts (reverse taken ++ there)) below
arguments_taken [] below there next = refl
arguments_taken (t ∷ taken) below there next =
    arguments_taken taken below (t ∷ there) next ∙ ap (λ (ts : List TypedExpression). next (all_parts ts) below) (reverse_onto t taken there)
  where
    reverse_onto : (t : TypedExpression) (taken there : List TypedExpression) → reverse taken ++ (t ∷ there) ≡ reverse (t ∷ taken) ++ there
    reverse_onto t taken there = sym (ap (λ (ts : List TypedExpression). ts ++ there) (reverse-append (t ∷ []) taken) ∙ append_assoc (reverse taken) (t ∷ []) there)

pub last_are_arguments : (count : ℕ) (taken there below : List TypedExpression) (next : Parts SequenceType → List TypedExpression → Awaited) → length taken ≡ count → taken ++ below ≡ there
    → last_parts count there no_parts next ≡ next (all_parts (reverse taken)) below
last_are_arguments count taken there below next n e =
    subst (λ (m : ℕ). last_parts m there no_parts next ≡ next (all_parts (reverse taken)) below) n
    (subst (λ (ts : List TypedExpression). last_parts (length taken) ts no_parts next ≡ next (all_parts (reverse taken)) below) e
    (arguments_taken taken below [] next ∙ ap (λ (ts : List TypedExpression). next (all_parts ts) below) (append-nil (reverse taken))))

-- something of each argument
pub each_of_arguments : {B : Type 0} (look : TypedExpression → B) (es : List TypedExpression) → each_of look (all_parts es) ≡ map look es
each_of_arguments look [] = refl
each_of_arguments look (e ∷ es) = ap (λ bs. look e ∷ bs) (each_of_arguments look es)

-- a `for` and a `let`, whose body is typed under the type of what comes before
second_typed : (t : TypedExpression) (j : Judgement) (conclude : Parts SequenceType → Judgement) (next : TypedExpression → Awaited)
    → then_typed j (λ u. then_typed (conclude (two_parts t u)) next)
    ≡ then_typed (with_typed (with_typed (with_typed j (λ u. typed (a_part u no_parts))) (λ ts. typed (a_part t ts))) conclude) next
second_typed t (typed u) conclude next = refl
second_typed t (rejected place code) conclude next = refl

both_typed : (j : Judgement) (second : TypedExpression → Judgement) (conclude : Parts SequenceType → Judgement) (next : TypedExpression → Awaited)
    → then_typed j (λ t. then_typed (second t) (λ u. then_typed (conclude (two_parts t u)) next))
    ≡ then_typed (with_typed (with_typed j (λ t. with_typed (with_typed (second t) (λ u. typed (a_part u no_parts))) (λ ts. typed (a_part t ts)))) conclude) next
both_typed (typed t) second conclude next = second_typed t (second t) conclude next
both_typed (rejected place code) second conclude next = refl

pub let_opens : (schemas : SchemaSet) (tasks : List Task) (parts : List TypedExpression) (types : Types) (declared : List TypedDeclaration) (place outer : Place) (binder : Binder) (value body : CoreExpression)
    → then_typed (judged schemas value types) (λ t. then_typed (judged schemas body ((binder.variable, annotation_of t) ∷ types)) (λ u. continued schemas (Finish place outer (operators.Let binder) ∷ tasks) (u ∷ t ∷ parts) types declared))
    ≡ then_typed (judged schemas (core_at place outer (operators.Let binder) (two_parts value body)) types) (λ t. continued schemas tasks (t ∷ parts) types declared)
let_opens schemas tasks parts types declared place outer binder value body =
    both_typed (judged schemas value types) (λ t. judged schemas body ((binder.variable, annotation_of t) ∷ types))
    (λ ts. concluded place outer (operators.Let binder) ts (ruling schemas (operators.Let binder) (each_of annotation_of ts) types)) (λ t. continued schemas tasks (t ∷ parts) types declared)

pub for_opens : (schemas : SchemaSet) (tasks : List Task) (parts : List TypedExpression) (types : Types) (declared : List TypedDeclaration) (place outer : Place) (binder : Binder) (position : ℕ) (source body : CoreExpression)
    → then_typed (judged schemas source types) (λ t. then_typed (judged schemas body (item_type_bound binder.variable position t ++ types)) (λ u. continued schemas (Finish place outer (operators.For binder position) ∷ tasks) (u ∷ t ∷ parts) types declared))
    ≡ then_typed (judged schemas (core_at place outer (operators.For binder position) (two_parts source body)) types) (λ t. continued schemas tasks (t ∷ parts) types declared)
for_opens schemas tasks parts types declared place outer binder position source body =
    both_typed (judged schemas source types) (λ t. judged schemas body (item_type_bound binder.variable position t ++ types))
    (λ ts. concluded place outer (operators.For binder position) ts (ruling schemas (operators.For binder position) (each_of annotation_of ts) types)) (λ t. continued schemas tasks (t ∷ parts) types declared)

pub some_opens : (schemas : SchemaSet) (tasks : List Task) (parts : List TypedExpression) (types : Types) (declared : List TypedDeclaration) (place outer : Place) (binder : Binder) (source test : CoreExpression)
    → then_typed (judged schemas source types) (λ t. then_typed (judged schemas test (item_type_bound binder.variable 0 t ++ types)) (λ u. continued schemas (Finish place outer (operators.SomeIn binder) ∷ tasks) (u ∷ t ∷ parts) types declared))
    ≡ then_typed (judged schemas (core_at place outer (operators.SomeIn binder) (two_parts source test)) types) (λ t. continued schemas tasks (t ∷ parts) types declared)
some_opens schemas tasks parts types declared place outer binder source test =
    both_typed (judged schemas source types) (λ t. judged schemas test (item_type_bound binder.variable 0 t ++ types))
    (λ ts. concluded place outer (operators.SomeIn binder) ts (ruling schemas (operators.SomeIn binder) (each_of annotation_of ts) types)) (λ t. continued schemas tasks (t ∷ parts) types declared)

pub every_opens : (schemas : SchemaSet) (tasks : List Task) (parts : List TypedExpression) (types : Types) (declared : List TypedDeclaration) (place outer : Place) (binder : Binder) (source test : CoreExpression)
    → then_typed (judged schemas source types) (λ t. then_typed (judged schemas test (item_type_bound binder.variable 0 t ++ types)) (λ u. continued schemas (Finish place outer (operators.EveryIn binder) ∷ tasks) (u ∷ t ∷ parts) types declared))
    ≡ then_typed (judged schemas (core_at place outer (operators.EveryIn binder) (two_parts source test)) types) (λ t. continued schemas tasks (t ∷ parts) types declared)
every_opens schemas tasks parts types declared place outer binder source test =
    both_typed (judged schemas source types) (λ t. judged schemas test (item_type_bound binder.variable 0 t ++ types))
    (λ ts. concluded place outer (operators.EveryIn binder) ts (ruling schemas (operators.EveryIn binder) (each_of annotation_of ts) types)) (λ t. continued schemas tasks (t ∷ parts) types declared)

-- what a switch binds for the branch behind one that is done
next_goes_on : (all left : List TypeCase) (default : ℕ) (operand t : SequenceType) (done : List SequenceType) → GoesOn all left default operand done → GoesOn all (drop 1 left) default operand (done ++ t ∷ [])
next_goes_on all [] default operand t done g more = ap (λ (d : List SequenceType). branch_types all default operand d) (append_assoc done (t ∷ []) more) ∙ g (t ∷ more)
next_goes_on all (c ∷ left) default operand t done g more = one_more_done all left c default operand t done g more

-- typing branches in order and taking them is judging them
branches_open : (schemas : SchemaSet) (all : List TypeCase) (default : ℕ) (types : Types) (operand : SequenceType) (next : Parts SequenceType → List TypedExpression → Awaited) (below : List TypedExpression)
    (left : List TypeCase) (es : List CoreExpression) (done : List SequenceType) (n : ℕ) (there : List TypedExpression) (behind : Parts SequenceType → Parts SequenceType)
    → GoesOn all left default operand done → ((parts : Parts SequenceType) → last_parts n there parts next ≡ next (behind parts) below)
    → branches_in_order schemas operand left default es types (λ parts. last_parts (count_with es n) parts no_parts next) there
    ≡ then_typed (parts_judged schemas (operators.Switch all default) (operand ∷ done) (all_parts es) types) (λ ts. next (behind ts) below)
branches_open schemas all default types operand next below left [] done n there behind g h = h no_parts
branches_open schemas all default types operand next below left (e ∷ es) done n there behind g h =
    subst (λ (bound : Types). then_typed (judged schemas e (branch_types left default operand [] ++ types))
    (λ t. branches_in_order schemas operand (drop 1 left) default es types (λ parts. last_parts (count_with es (suc n)) parts no_parts next) (t ∷ there))
    ≡ then_typed (with_typed (judged schemas e (bound ++ types))
    (λ t. with_typed (parts_judged schemas (operators.Switch all default) ((operand ∷ done) ++ annotation_of t ∷ []) (all_parts es) types) (λ ts. typed (a_part t ts)))) (λ ts. next (behind ts) below))
    (sym (next_is all left default operand done g))
    (one_more (judged schemas e (branch_types left default operand [] ++ types)) (λ t. parts_judged schemas (operators.Switch all default) ((operand ∷ done) ++ annotation_of t ∷ []) (all_parts es) types)
    (λ t. branches_in_order schemas operand (drop 1 left) default es types (λ parts. last_parts (count_with es (suc n)) parts no_parts next) (t ∷ there)) (λ ts. next (behind ts) below)
    (λ t. branches_open schemas all default types operand next below (drop 1 left) es (done ++ annotation_of t ∷ []) (suc n) (t ∷ there) (λ ts. behind (a_part t ts))
    (next_goes_on all left default operand (annotation_of t) done g) (λ parts. h (a_part t parts))))

pub switch_opens : (schemas : SchemaSet) (tasks : List Task) (parts : List TypedExpression) (types : Types) (declared : List TypedDeclaration) (place outer : Place) (cases : List TypeCase) (default : ℕ) (operand : CoreExpression)
    (branches : List CoreExpression)
    → then_typed (judged schemas operand types) (λ t. branches_in_order schemas (annotation_of t) cases default branches types
    (λ parts. continued schemas (FinishSwitch place outer cases default (length branches) ∷ tasks) parts types declared) (t ∷ parts))
    ≡ then_typed (judged schemas (core_at place outer (operators.Switch cases default) (a_part operand (all_parts branches))) types) (λ t. continued schemas tasks (t ∷ parts) types declared)
switch_opens schemas tasks parts types declared place outer cases default operand branches =
    let made : Parts SequenceType → List TypedExpression → Awaited = finished schemas place outer (operators.Switch cases default) types (λ t below. continued schemas tasks (t ∷ below) types declared) in
    let count : count_with branches 1 ≡ suc (length branches) = omega (arith, counted branches 1) in
    subst (λ (n : ℕ). then_typed (judged schemas operand types) (λ t. branches_in_order schemas (annotation_of t) cases default branches types (λ there. last_parts n there no_parts made) (t ∷ parts))
    ≡ then_typed (judged schemas (core_at place outer (operators.Switch cases default) (a_part operand (all_parts branches))) types) (λ t. continued schemas tasks (t ∷ parts) types declared)) count
    (one_more (judged schemas operand types) (λ t. parts_judged schemas (operators.Switch cases default) (annotation_of t ∷ []) (all_parts branches) types)
    (λ t. branches_in_order schemas (annotation_of t) cases default branches types (λ there. last_parts (count_with branches 1) there no_parts made) (t ∷ parts)) (λ ts. made ts parts)
    (λ t. branches_open schemas cases default types (annotation_of t) made parts cases branches [] 1 (t ∷ parts) (λ ts. a_part t ts) (λ more. refl) (λ ps. refl))
    ∙ made_typed (parts_judged schemas (operators.Switch cases default) [] (a_part operand (all_parts branches)) types)
    (λ ts. concluded place outer (operators.Switch cases default) ts (ruling schemas (operators.Switch cases default) (each_of annotation_of ts) types)) (λ t. continued schemas tasks (t ∷ parts) types declared))

-- the operand stands below the branches
last_of_more : (count : ℕ) (there : List TypedExpression) (parts : Parts SequenceType) (next : Parts SequenceType → List TypedExpression → Awaited)
    → last_parts (suc count) there parts next ≡ last_parts count there parts (λ ps below. last_parts 1 below ps next)
last_of_more zero there parts next = refl
last_of_more (suc count) [] parts next = refl
last_of_more (suc count) (t ∷ there) parts next = last_of_more count there (a_part t parts) next

pub operand_below : (count : ℕ) (there below behind : List TypedExpression) (operand : TypedExpression) (branches : List TypedExpression) (next : Parts SequenceType → List TypedExpression → Awaited)
    → ((next : Parts SequenceType → List TypedExpression → Awaited) → last_parts count there no_parts next ≡ next (all_parts branches) below) → below ≡ operand ∷ behind
    → last_parts (suc count) there no_parts next ≡ next (a_part operand (all_parts branches)) behind
operand_below count there below behind operand branches next h e =
    last_of_more count there no_parts next ∙ h (λ ps rest. last_parts 1 rest ps next) ∙ ap (λ (rest : List TypedExpression). last_parts 1 rest (all_parts branches) next) e

-- a turn ends where its variable is unbound, and that of the position
pub two_are_unbound : (position variable : ℕ) (i t : SequenceType) (types : Types) → position ≢ 0 → drop 1 (drop 1 (((variable, t) ∷ position_bound position i) ++ types)) ≡ types
two_are_unbound zero variable i t types h = absurd (h refl)
two_are_unbound (suc number) variable i t types h = refl

-- so many parts are there as the operator has, where what is left to do comes to a judgement
pub parts_are_there : (n : ℕ) (below : List TypedExpression) (parts : Parts SequenceType) (next : Parts SequenceType → List TypedExpression → Awaited)
    → last_parts n below parts next ≢ None → n ≤ length below
parts_are_there zero below parts next h = omega arith
parts_are_there (suc n) [] parts next h = absurd (h refl)
parts_are_there (suc n) (t ∷ below) parts next h = let e = parts_are_there n below (a_part t parts) next h in omega (arith, e)

pub judgement_is : (schemas : SchemaSet) (parts : List TypedExpression) (types : Types) (declared : List TypedDeclaration) (j : Judged TypedCore) (query : TypedCore)
    → continued schemas [] parts types declared ≡ Some j → continued schemas [] parts types declared ≡ Some (typed query) → j ≡ typed query
judgement_is schemas parts types declared j query e f = cc
