-- Variables have their numbers in order in what is built of parts, one behind another.
use Rattle.std.proofs.Common.{◌≡◌, ℕ, zero, suc, ◌+◌, ◌<◌, ◌≤◌, ◌==◌, length, Bool, true, false, ◌||◌, List, [], ◌∷◌, ◌++◌, map, Option, Some, None, is_some, IsTrue, All, refl, ◌∙◌, ap, subst, arith, nat_eq, if◌then◌else◌}
use Rattle.std.proofs.lemmas.Bool.{ne_eqb, eq-eqb}
use Rattle.std.proofs.lemmas.List.Elements.{All-nil, All-cons}
use Rattle.gx_base.specs.declared.place.Place.{Place}
use Rattle.gx_base.specs.declared.type_name.TypeName.{TypeName}
use Rattle.gx_ast.specs.declared.expression.BinaryOperator.{BinaryOperator}
use Rattle.gx_ast.specs.declared.expression.BinaryOperator.TheVariants as operator
use Rattle.gx_types.specs.SequenceType.{SequenceType}
use Rattle.gx_funcs.specs.declared.function.Function.{Function}
use Rattle.gx_funcs.specs.declared.function.Function.TheVariants as functions
use Rattle.gx_funcs.specs.Function.{arity_of}
use Rattle.gx_resolved.specs.declared.tree.BoundName.{BoundName}
use Rattle.gx_resolved.specs.declared.tree.Construct.{Construct}
use Rattle.gx_resolved.specs.declared.tree.Construct.TheVariants as written
use Rattle.gx_core.specs.declared.expression.BinaryOp.{BinaryOp}
use Rattle.gx_core.specs.declared.expression.BinaryClass.{BinaryClass}
use Rattle.gx_core.specs.declared.expression.BinaryClass.TheVariants.{Nodes, Combination}
use Rattle.gx_core.specs.BinaryOperators.{class_of}
use Rattle.gx_core.specs.declared.cases.TypeCase.{TypeCase}
use Rattle.gx_core.specs.Bindings.{position_numbers, branch_numbers}
use Rattle.gx_core.specs.declared.operator.Operator.TheVariants as operators
use Rattle.gx_core.specs.Expression.{CoreExpression, At, no_parts, all_parts, Parts, a_part}
use Rattle.gx_core.specs.Invariant.{is_among, IsScoped, parameter_numbers, ArePartsScoped, numbers_bound, numbers_bound_in, AreDistinct}
use Rattle.gx_normal.specs.Constructs.{within, data_around, boolean_around, core_sequence, operator_at, call_at, call_of, empty_at, of_one, data_at, conditional_at, counted_call, and_at, or_at, signed_at, cast_at, castable_at, operator_in_core, joined_by, joining, operand_of, constructor_at}
use Rattle.gx_normal.specs.Switches.{instance_at, treat_at, branch_at, case_in_front, branches_joined, over_operand, typeswitch_at}
use Rattle.gx_core.specs.declared.constructor.Constructor.{Constructor}
use Rattle.gx_core.specs.declared.signature.FunctionSignature.{FunctionSignature}
use Rattle.gx_core.specs.declared.expression.Binder.{Binder}
use Rattle.gx_normal.specs.Signatures.{inside_parameters, parameter_binder, parameter_binders, user_call_at}
use Rattle.gx_normal.specs.Clauses.{Numbers}
use Rattle.gx_normal.specs.Normalisation.{same_place, number_at, of_two, of_three, joined_at}

-- numbers that rise from one on, below another
abbrev pub Rise : ℕ → ℕ → List ℕ → Type 0
Rise low high [] = low ≤ high
Rise low high (n ∷ ns) = (low ≤ n) × Rise (n + 1) high ns

pub rise_weaker : (low lower high : ℕ) (ns : List ℕ) → lower ≤ low → Rise low high ns → Rise lower high ns
rise_weaker low lower high [] h r = omega (arith, r)
rise_weaker low lower high (n ∷ ns) h r = (omega (arith, r.0), r.1)

pub rise_joined : (low middle high : ℕ) (ns ms : List ℕ) → Rise low middle ns → Rise middle high ms → Rise low high (ns ++ ms)
rise_joined low middle high [] ms r s = rise_weaker middle low high ms r s
rise_joined low middle high (n ∷ ns) ms r s = (r.0, rise_joined (n + 1) middle high ns ms r.1 s)

pub rise_alone : (low high : ℕ) (ns : List ℕ) → Rise low high ns → Rise low high (ns ++ [])
rise_alone low high ns r = rise_joined low high high ns [] r (omega arith)

pub differ : (m n : ℕ) → n < m → nat_eq m n ≡ false
differ m n h = ne_eqb m n (λ e. omega (arith, e, h))

pub not_among : (low high n : ℕ) (ns : List ℕ) → n < low → Rise low high ns → is_among ns n ≡ false
not_among low high n [] h r = refl
not_among low high n (m ∷ ns) h r =
    ap (λ (b : Bool). b || is_among ns n) (differ m n (omega (arith, h, r.0))) ∙ not_among (m + 1) high n ns (omega (arith, h, r.0)) r.1

pub rising_distinct : (low high : ℕ) (ns : List ℕ) → Rise low high ns → AreDistinct ns
rising_distinct low high [] r = tt
rising_distinct low high (n ∷ ns) r = (not_among (n + 1) high n ns (omega arith) r.1, rising_distinct (n + 1) high ns r.1)

-- an expression within these variables, whose own have the numbers from one on, below another
pub record IsNumbered (scope : List ℕ) (free next : ℕ) (e : CoreExpression) : Type 0 where
  pub scoped : IsScoped scope e
  pub rising : Rise free next (numbers_bound e)

abbrev pub numbers_of : Numbers → List ℕ
numbers_of numbers = map (λ bound. bound.1) numbers

pub or_true : (a b : Bool) → b ≡ true → (a || b) ≡ true
or_true true b h = refl
or_true false b h = h

pub found_among : (numbers : Numbers) (binder : Place) (k : ℕ) → number_at numbers binder ≡ Some k → is_among (numbers_of numbers) k ≡ true
found_among [] binder k e = absurd (cc)
found_among (bound ∷ numbers) binder k e =
    elim (same_place bound.0 binder) as (λ (same : Bool). (if same then Some bound.1 else number_at numbers binder) ≡ Some k → (nat_eq bound.1 k || is_among (numbers_of numbers) k) ≡ true) [
      | true ↦ λ g. let same : bound.1 ≡ k = cc in ap (λ (b : Bool). b || is_among (numbers_of numbers) k) (eq-eqb bound.1 k same)
      | false ↦ λ g. or_true (nat_eq bound.1 k) (is_among (numbers_of numbers) k) (found_among numbers binder k g)
    ] e

-- constructs over parts that are numbered one behind another

abbrev pub JoinsOne : (CoreExpression → CoreExpression) → Type 0
JoinsOne join = (scope : List ℕ) (free next : ℕ) (e : CoreExpression) → IsNumbered scope free next e → IsNumbered scope free next (join e)

abbrev pub JoinsTwo : (CoreExpression → CoreExpression → CoreExpression) → Type 0
JoinsTwo join =
    (scope : List ℕ) (free middle next : ℕ) (a b : CoreExpression) → IsNumbered scope free middle a → IsNumbered scope middle next b → IsNumbered scope free next (join a b)

pub within_numbered : (place : Place) → JoinsOne (within place)
within_numbered place scope free next (At own outer tt operator parts) h = record { scoped = h.scoped; rising = h.rising }

pub data_numbered : JoinsOne data_around
data_numbered scope free next e h = record { scoped = (tt, (h.scoped, tt)); rising = rise_alone free next (numbers_bound e) h.rising }

pub boolean_numbered : JoinsOne boolean_around
boolean_numbered scope free next e h = record { scoped = (tt, (h.scoped, tt)); rising = rise_alone free next (numbers_bound e) h.rising }

pub cast_numbered : (place : Place) (kind : TypeName) (optional : Bool) → JoinsOne (cast_at place kind optional)
cast_numbered place kind optional scope free next e h =
    let d = data_numbered scope free next e h in
    record { scoped = (tt, (d.scoped, tt)); rising = rise_alone free next (numbers_bound (data_around e)) d.rising }

pub castable_numbered : (place : Place) (kind : TypeName) (optional : Bool) → JoinsOne (castable_at place kind optional)
castable_numbered place kind optional scope free next e h =
    let d = data_numbered scope free next e h in
    record { scoped = (tt, (d.scoped, tt)); rising = rise_alone free next (numbers_bound (data_around e)) d.rising }

pub signed_numbered : (place : Place) (minus : Bool) → JoinsOne (signed_at place minus)
signed_numbered place true scope free next e h =
    let d = data_numbered scope free next e h in
    record { scoped = (tt, (d.scoped, tt)); rising = rise_alone free next (numbers_bound (data_around e)) d.rising }
signed_numbered place false scope free next e h =
    let d = data_numbered scope free next e h in
    record { scoped = (tt, (d.scoped, ((tt, tt), tt))); rising = rise_alone free next (numbers_bound (data_around e)) d.rising }

pub sequence_numbered : JoinsTwo core_sequence
sequence_numbered scope free middle next a b h k =
    record { scoped = (tt, (h.scoped, (k.scoped, tt))); rising = rise_joined free middle next (numbers_bound a) (numbers_bound b ++ []) h.rising (rise_alone middle next (numbers_bound b) k.rising) }

pub operand_numbered : (class : BinaryClass) → JoinsOne (operand_of class)
operand_numbered (Nodes op) scope free next e h = h
operand_numbered (Combination op) scope free next e h = h
operand_numbered _ scope free next e h = data_numbered scope free next e h

pub operator_numbered : (place : Place) (op : BinaryOp) → JoinsTwo (operator_at place op)
operator_numbered place op scope free middle next a b h k =
    let class = class_of op in
    let d = operand_numbered class scope free middle a h in
    let e = operand_numbered class scope middle next b k in
    record {
      scoped = (tt, (d.scoped, (e.scoped, tt)));
      rising = rise_joined free middle next (numbers_bound (operand_of class a)) (numbers_bound (operand_of class b) ++ []) d.rising (rise_alone middle next (numbers_bound (operand_of class b)) e.rising);
    }

pub conditional_numbered : (place : Place) (scope : List ℕ) (free second third next : ℕ) (a b c : CoreExpression)
    → IsNumbered scope free second a → IsNumbered scope second third b → IsNumbered scope third next c → IsNumbered scope free next (conditional_at place a b c)
conditional_numbered place scope free second third next a b c h k l =
    let t = boolean_numbered scope free second a h in
    record {
      scoped = (tt, (t.scoped, (k.scoped, (l.scoped, tt))));
      rising = rise_joined free second next (numbers_bound (boolean_around a)) (numbers_bound b ++ (numbers_bound c ++ [])) t.rising
          (rise_joined second third next (numbers_bound b) (numbers_bound c ++ []) k.rising (rise_alone third next (numbers_bound c) l.rising));
    }

pub truth_numbered : (place : Place) (function : Function) (scope : List ℕ) (free : ℕ) → IsNumbered scope free free (call_at place function no_parts)
truth_numbered place function scope free = record { scoped = (tt, tt); rising = omega arith }

pub and_numbered : (place : Place) → JoinsTwo (and_at place)
and_numbered place scope free middle next a b h k =
    conditional_numbered place scope free middle next next a (boolean_around b) (call_at place functions.False no_parts) h (boolean_numbered scope middle next b k) (truth_numbered place functions.False scope next)

pub or_numbered : (place : Place) → JoinsTwo (or_at place)
or_numbered place scope free middle next a b h k =
    conditional_numbered place scope free middle middle next a (call_at place functions.True no_parts) (boolean_around b) h (truth_numbered place functions.True scope middle) (boolean_numbered scope middle next b k)

-- ---- constructs over parts that are numbered one behind another

-- expressions within these variables, whose own have the numbers from one on, each behind the one before
abbrev pub AreNumbered : (scope : List ℕ) (free next : ℕ) → List CoreExpression → Type 0
AreNumbered scope free next [] = free ≤ next
AreNumbered scope free next (e ∷ es) = (middle : ℕ) × IsNumbered scope free middle e × AreNumbered scope middle next es

pub rising_order : (low high : ℕ) (ns : List ℕ) → Rise low high ns → low ≤ high
rising_order low high [] r = r
rising_order low high (n ∷ ns) r = omega (arith, r.0, rising_order (n + 1) high ns r.1)

pub least : (scope : List ℕ) (free next : ℕ) (es : List CoreExpression) → AreNumbered scope free next es → free ≤ next
least scope free next [] h = h
least scope free next (e ∷ es) h = omega (arith, rising_order free h.0 (numbers_bound e) h.1.rising, least scope h.0 next es h.2)

pub empty_numbered : (place : Place) (scope : List ℕ) (free next : ℕ) → free ≤ next → IsNumbered scope free next (empty_at place)
empty_numbered place scope free next h = record { scoped = (tt, tt); rising = h }

pub nothing_behind : (ns : List ℕ) → ns ++ [] ≡ ns
nothing_behind [] = refl
nothing_behind (n ∷ ns) = ap (λ (others : List ℕ). n ∷ others) (nothing_behind ns)

pub wider : (scope : List ℕ) (free next last : ℕ) (e : CoreExpression) → IsNumbered scope free next e → next ≤ last → IsNumbered scope free last e
wider scope free next last e h k = record { scoped = h.scoped; rising = subst (Rise free last) (nothing_behind (numbers_bound e)) (rise_joined free next last (numbers_bound e) [] h.rising k) }

pub one_numbered : (place : Place) (make : CoreExpression → CoreExpression) → JoinsOne make → (scope : List ℕ) (free next : ℕ) (parts : List CoreExpression) → AreNumbered scope free next parts → IsNumbered scope free next (of_one place make parts)
one_numbered place make j scope free next [] h = empty_numbered place scope free next h
one_numbered place make j scope free next (a ∷ []) h = wider scope free h.0 next (make a) (j scope free h.0 a h.1) h.2
one_numbered place make j scope free next (a ∷ b ∷ es) h = empty_numbered place scope free next (least scope free next (a ∷ b ∷ es) h)

pub two_numbered : (place : Place) (make : CoreExpression → CoreExpression → CoreExpression) → JoinsTwo make → (scope : List ℕ) (free next : ℕ) (parts : List CoreExpression) → AreNumbered scope free next parts → IsNumbered scope free next (of_two place make parts)
two_numbered place make j scope free next [] h = empty_numbered place scope free next h
two_numbered place make j scope free next (a ∷ []) h = empty_numbered place scope free next (least scope free next (a ∷ []) h)
two_numbered place make j scope free next (a ∷ b ∷ []) h = wider scope free h.2.0 next (make a b) (j scope free h.0 h.2.0 a b h.1 h.2.1) h.2.2
two_numbered place make j scope free next (a ∷ b ∷ c ∷ es) h = empty_numbered place scope free next (least scope free next (a ∷ b ∷ c ∷ es) h)

pub three_numbered : (place : Place) (scope : List ℕ) (free next : ℕ) (parts : List CoreExpression) → AreNumbered scope free next parts → IsNumbered scope free next (of_three place (conditional_at place) parts)
three_numbered place scope free next [] h = empty_numbered place scope free next h
three_numbered place scope free next (a ∷ []) h = empty_numbered place scope free next (least scope free next (a ∷ []) h)
three_numbered place scope free next (a ∷ b ∷ []) h = empty_numbered place scope free next (least scope free next (a ∷ b ∷ []) h)
three_numbered place scope free next (a ∷ b ∷ c ∷ []) h =
    wider scope free h.2.2.0 next (conditional_at place a b c) (conditional_numbered place scope free h.0 h.2.0 h.2.2.0 a b c h.1 h.2.1 h.2.2.1) h.2.2.2
three_numbered place scope free next (a ∷ b ∷ c ∷ d ∷ es) h = empty_numbered place scope free next (least scope free next (a ∷ b ∷ c ∷ d ∷ es) h)

pub joined_numbered : (place : Place) (found : Option BinaryOp) (scope : List ℕ) (free next : ℕ) (parts : List CoreExpression) → AreNumbered scope free next parts → IsNumbered scope free next (joined_at place (joined_by place found) parts)
joined_numbered place None scope free next parts h = empty_numbered place scope free next (least scope free next parts h)
joined_numbered place (Some op) scope free next parts h = two_numbered place (operator_at place op) (operator_numbered place op) scope free next parts h

pub joining_numbered : (place : Place) (o : BinaryOperator) (scope : List ℕ) (free next : ℕ) (parts : List CoreExpression) → AreNumbered scope free next parts → IsNumbered scope free next (joined_at place (joining place o) parts)
joining_numbered place operator.And scope free next parts h = two_numbered place (and_at place) (and_numbered place) scope free next parts h
joining_numbered place operator.Or scope free next parts h = two_numbered place (or_at place) (or_numbered place) scope free next parts h
joining_numbered place o scope free next parts h = joined_numbered place (operator_in_core o) scope free next parts h

-- the arguments of a call
pub parts_scoped : (function : Function) (scope : List ℕ) (free next : ℕ) (before : List (Unit {0})) (es : List CoreExpression) → AreNumbered scope free next es → ArePartsScoped scope (operators.Call function) before (all_parts es)
parts_scoped function scope free next before [] h = tt
parts_scoped function scope free next before (e ∷ es) h = (h.1.scoped, parts_scoped function scope h.0 next (before ++ tt ∷ []) es h.2)

pub parts_rising : (function : Function) (scope : List ℕ) (free next : ℕ) (before : List (Unit {0})) (es : List CoreExpression) → AreNumbered scope free next es → Rise free next (numbers_bound_in (operators.Call function) before (all_parts es))
parts_rising function scope free next before [] h = h
parts_rising function scope free next before (e ∷ es) h = rise_joined free h.0 next (numbers_bound e) (numbers_bound_in (operators.Call function) (before ++ tt ∷ []) (all_parts es)) h.1.rising (parts_rising function scope h.0 next (before ++ tt ∷ []) es h.2)

pub call_is_numbered : (place : Place) (function : Function) (scope : List ℕ) (free next : ℕ) (es : List CoreExpression) → AreNumbered scope free next es → IsNumbered scope free next (call_at place function (all_parts es))
call_is_numbered place function scope free next es h = record { scoped = (tt, parts_scoped function scope free next [] es h); rising = parts_rising function scope free next [] es h }

pub data_of_numbered : (place : Place) → JoinsOne (data_at place)
data_of_numbered place scope free next e h = record { scoped = (tt, (h.scoped, tt)); rising = rise_alone free next (numbers_bound e) h.rising }

pub counted_call_numbered : (place : Place) (function : Function) (scope : List ℕ) (free next : ℕ) (es : List CoreExpression) → AreNumbered scope free next es → IsNumbered scope free next (counted_call place function es)
counted_call_numbered place function scope free next es h =
    elim (length es == arity_of function) as (λ (b : Bool). IsNumbered scope free next (if b then call_at place function (all_parts es) else empty_at place)) [
      | true ↦ call_is_numbered place function scope free next es h
      | false ↦ empty_numbered place scope free next (least scope free next es h)
    ]

pub call_numbered : (place : Place) (function : Function) (scope : List ℕ) (free next : ℕ) (es : List CoreExpression) → AreNumbered scope free next es → IsNumbered scope free next (call_of place function es)
call_numbered place functions.Data scope free next es h = one_numbered place (data_at place) (data_of_numbered place) scope free next es h
call_numbered place functions.Position scope free next es h = record { scoped = (tt, tt); rising = least scope free next es h }
call_numbered place functions.Last scope free next es h = record { scoped = (tt, tt); rising = least scope free next es h }
call_numbered place function scope free next es h = counted_call_numbered place function scope free next es h

-- ---- types

pub instance_numbered : (place : Place) (kind : SequenceType) → JoinsOne (instance_at place kind)
instance_numbered place kind scope free next e h = record { scoped = (tt, (h.scoped, ((tt, tt), ((tt, tt), tt)))); rising = rise_alone free next (numbers_bound e) h.rising }

pub treat_numbered : (place : Place) (kind : SequenceType) → JoinsOne (treat_at place kind)
treat_numbered place kind scope free next e h = record { scoped = (tt, (h.scoped, tt)); rising = rise_alone free next (numbers_bound e) h.rising }

pub rise_split : (low high : ℕ) (ns ms : List ℕ) → Rise low high (ns ++ ms) → (middle : ℕ) × Rise low middle ns × Rise middle high ms
rise_split low high [] ms r = let l : low ≤ low = omega arith in (low, l, r)
rise_split low high (n ∷ ns) ms r = let q = rise_split (n + 1) high ns ms r.1 in (q.0, (r.0, q.1), q.2)

-- the branches of a switch with one more case in front
pub parts_scoped_further : (case : TypeCase) (cases : List TypeCase) (default : ℕ) (scope : List ℕ) (before : List (Unit {0})) (parts : Parts (Unit {0}))
    → ArePartsScoped scope (operators.Switch cases default) (tt ∷ before) parts → ArePartsScoped scope (operators.Switch (case ∷ cases) default) (tt ∷ tt ∷ before) parts
parts_scoped_further case cases default scope before no_parts h = tt
parts_scoped_further case cases default scope before (a_part first others) h = (h.0, parts_scoped_further case cases default scope (before ++ tt ∷ []) others h.1)

pub same_numbers_further : (case : TypeCase) (cases : List TypeCase) (default : ℕ) (before : List (Unit {0})) (parts : Parts (Unit {0}))
    → numbers_bound_in (operators.Switch cases default) (tt ∷ before) parts ≡ numbers_bound_in (operators.Switch (case ∷ cases) default) (tt ∷ tt ∷ before) parts
same_numbers_further case cases default before no_parts = refl
same_numbers_further case cases default before (a_part first others) =
    ap (λ (l : List ℕ). branch_numbers cases default before ++ numbers_bound first ++ l) (same_numbers_further case cases default (before ++ tt ∷ []) others)

pub case_in_front_numbered : (place : Place) → JoinsTwo (case_in_front place)
case_in_front_numbered place scope free middle next (At there outer mark (operators.Switch (case ∷ more) number) (a_part nothing (a_part body others)))
    (At behind other unit (operators.Switch cases default) (a_part none branches)) h k =
    let b : List ℕ = numbers_bound_in (operators.Switch cases default) (tt ∷ []) branches in
    let rest : List ℕ = numbers_bound_in (operators.Switch (case ∷ more) number) (tt ∷ tt ∷ []) others in
    let new : List ℕ = position_numbers case.variable ++ numbers_bound body in
    let p = rise_split free middle (numbers_bound nothing) (new ++ rest) h.rising in
    let r = rise_split p.0 middle new rest p.2 in
    let u = rise_split middle next (numbers_bound none) b k.rising in
    let l : r.0 ≤ u.0 = omega (arith, rising_order r.0 middle rest r.2, rising_order middle u.0 (numbers_bound none) u.1) in
    let w : Rise r.0 next b = rise_weaker u.0 r.0 next b l u.2 in
    record {
      scoped = (tt, (h.scoped.1.0, (h.scoped.1.1.0, parts_scoped_further case cases default scope [] branches k.scoped.1.1)));
      rising = subst (λ (ns : List ℕ). Rise free next (numbers_bound nothing ++ (new ++ ns))) (same_numbers_further case cases default [] branches)
          (rise_joined free p.0 next (numbers_bound nothing) (new ++ b) p.1 (rise_joined p.0 r.0 next new b r.1 w));
    }
case_in_front_numbered place scope free middle next (At there outer mark operator parts) (At behind other unit another others) h k =
    empty_numbered place scope free next (omega (
      arith,
      rising_order free middle (numbers_bound (At there outer mark operator parts)) h.rising,
      rising_order middle next (numbers_bound (At behind other unit another others)) k.rising,
    ))

pub branches_numbered : (place : Place) (scope : List ℕ) (free next : ℕ) (es : List CoreExpression) → AreNumbered scope free next es → IsNumbered scope free next (branches_joined place es)
branches_numbered place scope free next [] h = empty_numbered place scope free next h
branches_numbered place scope free next (a ∷ []) h = wider scope free h.0 next a h.1 h.2
branches_numbered place scope free next (a ∷ b ∷ es) h =
    case_in_front_numbered place scope free h.0 next a (branches_joined place (b ∷ es)) h.1 (branches_numbered place scope h.0 next (b ∷ es) h.2)

pub over_operand_numbered : (place : Place) → JoinsTwo (over_operand place)
over_operand_numbered place scope free middle next operand (At there outer tt (operators.Switch cases default) (a_part nothing branches)) h k =
    let b : List ℕ = numbers_bound_in (operators.Switch cases default) (tt ∷ []) branches in
    let u = rise_split middle next (numbers_bound nothing) b k.rising in
    record {
      scoped = (tt, (h.scoped, k.scoped.1.1));
      rising = rise_joined free middle next (numbers_bound operand) b h.rising (rise_weaker u.0 middle next b (rising_order middle u.0 (numbers_bound nothing) u.1) u.2);
    }
over_operand_numbered place scope free middle next operand (At there outer tt operator parts) h k =
    empty_numbered place scope free next (omega (arith, rising_order free middle (numbers_bound operand) h.rising, rising_order middle next (numbers_bound (At there outer tt operator parts)) k.rising))

pub typeswitch_numbered : (place : Place) (scope : List ℕ) (free next : ℕ) (es : List CoreExpression) → AreNumbered scope free next es → IsNumbered scope free next (typeswitch_at place es)
typeswitch_numbered place scope free next [] h = empty_numbered place scope free next h
typeswitch_numbered place scope free next (operand ∷ branches) h =
    over_operand_numbered place scope free h.0 next operand (branches_joined place branches) h.1 (branches_numbered place scope h.0 next branches h.2)

-- a branch by itself, whose variable has the free number, if it has one
abbrev pub branch_scope : Option BoundName → (free : ℕ) → List ℕ → List ℕ
branch_scope None free scope = scope
branch_scope (Some bound) free scope = free ∷ scope

abbrev pub behind_branch : Option BoundName → (free : ℕ) → ℕ
behind_branch None free = free
behind_branch (Some bound) free = free + 1

pub case_numbered : (place : Place) (bound : Option BoundName) (kind : SequenceType) (scope : List ℕ) (free next : ℕ) (body : CoreExpression) → 1 ≤ free
    → IsNumbered (branch_scope bound free scope) (behind_branch bound free) next body → IsNumbered scope free next (branch_at place (written.Case bound kind) free body)
case_numbered place None kind scope free next body p h = record { scoped = (tt, ((tt, tt), (h.scoped, ((tt, tt), tt)))); rising = rise_alone free next (numbers_bound body) h.rising }
case_numbered place (Some bound) kind scope zero next body p h = absurd (omega (arith, p))
case_numbered place (Some bound) kind scope (suc free) next body p h =
    record { scoped = (tt, ((tt, tt), (h.scoped, ((tt, tt), tt)))); rising = (omega arith, rise_alone (suc free + 1) next (numbers_bound body) h.rising) }

pub default_numbered : (place : Place) (bound : Option BoundName) (scope : List ℕ) (free next : ℕ) (body : CoreExpression) → 1 ≤ free
    → IsNumbered (branch_scope bound free scope) (behind_branch bound free) next body → IsNumbered scope free next (branch_at place (written.Default bound) free body)
default_numbered place None scope free next body p h = record { scoped = (tt, ((tt, tt), (h.scoped, tt))); rising = rise_alone free next (numbers_bound body) h.rising }
default_numbered place (Some bound) scope zero next body p h = absurd (omega (arith, p))
default_numbered place (Some bound) scope (suc free) next body p h =
    record { scoped = (tt, ((tt, tt), (h.scoped, tt))); rising = (omega arith, rise_alone (suc free + 1) next (numbers_bound body) h.rising) }

-- the parts of a constructor
pub content_scoped : (constructor : Constructor) (count : ℕ) (scope : List ℕ) (free next : ℕ) (before : List (Unit {0})) (es : List CoreExpression) → AreNumbered scope free next es → ArePartsScoped scope (operators.Construct constructor count) before (all_parts es)
content_scoped constructor count scope free next before [] h = tt
content_scoped constructor count scope free next before (e ∷ es) h = (h.1.scoped, content_scoped constructor count scope h.0 next (before ++ tt ∷ []) es h.2)

pub content_rising : (constructor : Constructor) (count : ℕ) (scope : List ℕ) (free next : ℕ) (before : List (Unit {0})) (es : List CoreExpression) → AreNumbered scope free next es
    → Rise free next (numbers_bound_in (operators.Construct constructor count) before (all_parts es))
content_rising constructor count scope free next before [] h = h
content_rising constructor count scope free next before (e ∷ es) h =
    rise_joined free h.0 next (numbers_bound e) (numbers_bound_in (operators.Construct constructor count) (before ++ tt ∷ []) (all_parts es)) h.1.rising
    (content_rising constructor count scope h.0 next (before ++ tt ∷ []) es h.2)

pub constructor_numbered : (place : Place) (constructor : Constructor) (scope : List ℕ) (free next : ℕ) (es : List CoreExpression) → AreNumbered scope free next es → IsNumbered scope free next (constructor_at place constructor es)
constructor_numbered place constructor scope free next es h =
    record { scoped = (tt, content_scoped constructor (length es) scope free next [] es h); rising = content_rising constructor (length es) scope free next [] es h }

pub arguments_scoped : (signature : FunctionSignature) (count : ℕ) (scope : List ℕ) (free next : ℕ) (before : List (Unit {0})) (es : List CoreExpression) → AreNumbered scope free next es → ArePartsScoped scope (operators.User signature count) before (all_parts es)
arguments_scoped signature count scope free next before [] h = tt
arguments_scoped signature count scope free next before (e ∷ es) h = (h.1.scoped, arguments_scoped signature count scope h.0 next (before ++ tt ∷ []) es h.2)

pub arguments_rising : (signature : FunctionSignature) (count : ℕ) (scope : List ℕ) (free next : ℕ) (before : List (Unit {0})) (es : List CoreExpression) → AreNumbered scope free next es
    → Rise free next (numbers_bound_in (operators.User signature count) before (all_parts es))
arguments_rising signature count scope free next before [] h = h
arguments_rising signature count scope free next before (e ∷ es) h =
    rise_joined free h.0 next (numbers_bound e) (numbers_bound_in (operators.User signature count) (before ++ tt ∷ []) (all_parts es)) h.1.rising
    (arguments_rising signature count scope h.0 next (before ++ tt ∷ []) es h.2)

pub user_call_numbered : (place : Place) (found : Option FunctionSignature) (scope : List ℕ) (free next : ℕ) (es : List CoreExpression) → AreNumbered scope free next es → IsNumbered scope free next (user_call_at place found es)
user_call_numbered place None scope free next es h = empty_numbered place scope free next (least scope free next es h)
user_call_numbered place (Some signature) scope free next es h =
    record { scoped = (tt, arguments_scoped signature (length es) scope free next [] es h); rising = arguments_rising signature (length es) scope free next [] es h }

-- ---- parameters

pub moved_front : (ns : List ℕ) (n : ℕ) (scope : List ℕ) (k : ℕ) → is_among (ns ++ n ∷ scope) k ≡ true → is_among (n ∷ (ns ++ scope)) k ≡ true
moved_front [] n scope k h = h
moved_front (m ∷ ns) n scope k h =
    elim (nat_eq m k) as (λ (same : Bool). (same || is_among (ns ++ n ∷ scope) k) ≡ true → (nat_eq n k || (same || is_among (ns ++ scope) k)) ≡ true) [
      | true ↦ λ e. or_true (nat_eq n k) true refl
      | false ↦ λ e. moved_front ns n scope k e
    ] h

pub parameters_covered : (parameters : List BoundName) (free : ℕ) (numbers : Numbers) (scope : List ℕ)
    → ((binder : Place) (k : ℕ) → number_at numbers binder ≡ Some k → is_among scope k ≡ true)
    → (binder : Place) (k : ℕ) → number_at (inside_parameters parameters free numbers) binder ≡ Some k → is_among (parameter_numbers (parameter_binders parameters free) ++ scope) k ≡ true
parameters_covered [] free numbers scope h binder k e = h binder k e
parameters_covered (p ∷ parameters) free numbers scope h binder k e =
    moved_front (parameter_numbers (parameter_binders parameters (free + 1))) free scope k
    (parameters_covered parameters (free + 1) ((p.place, free) ∷ numbers) (free ∷ scope) (λ b j g. one_more b j g) binder k e)
  where
    one_more : (b : Place) (j : ℕ) → number_at ((p.place, free) ∷ numbers) b ≡ Some j → is_among (free ∷ scope) j ≡ true
    one_more b j g =
        elim (same_place p.place b) as (λ (same : Bool). (if same then Some free else number_at numbers b) ≡ Some j → is_among (free ∷ scope) j ≡ true) [
          | true ↦ λ f. let same : free ≡ j = cc in ap (λ (t : Bool). t || is_among scope j) (eq-eqb free j same)
          | false ↦ λ f. or_true (nat_eq free j) (is_among scope j) (h b j f)
        ] g

pub parameters_rise : (parameters : List BoundName) (free : ℕ) → Rise free (free + length parameters) (parameter_numbers (parameter_binders parameters free))
parameters_rise [] free = omega arith
parameters_rise (p ∷ parameters) free =
    (omega arith, subst (λ (high : ℕ). Rise (free + 1) high (parameter_numbers (parameter_binders parameters (free + 1)))) (omega arith) (parameters_rise parameters (free + 1)))

abbrev pub HasType : Binder → Type 0
HasType parameter = IsTrue (is_some parameter.kind)

pub have_types : (parameters : List BoundName) (free : ℕ) → All HasType (parameter_binders parameters free)
have_types [] free = All-nil HasType
have_types (p ∷ parameters) free = All-cons HasType (parameter_binder p free) (parameter_binders parameters (free + 1)) refl (have_types parameters (free + 1))
