-- The operators but arithmetic keep their types.
use Rattle.std.proofs.Common.{◌≡◌, ℕ, Bool, true, false, List, [], ◌∷◌, ◌++◌, Option, None, Some, refl, sym, ◌∙◌, subst, if◌then◌else◌}
use Rattle.gx_base.specs.declared.code.Code.{Code}
use Rattle.gx_base.specs.declared.type_name.TypeName.TheVariants as names
use Rattle.gx_types.specs.declared.item_type.ItemType.TheVariants as items
use Rattle.gx_types.specs.declared.shape.Shape.{Shape}
use Rattle.gx_types.specs.declared.shape.Shape.TheVariants as shapes
use Rattle.gx_types.specs.SchemaSet.{SchemaSet}
use Rattle.gx_types.specs.SequenceType.{SequenceType, nothing, item}
use Rattle.gx_types.specs.SameItemType.{same_type_name}
use Rattle.gx_types.specs.TypeRules.{sequence_of}
use Rattle.gx_types.proofs.EqualNames.{type_name_itself}
use Rattle.gx_types.proofs.PublicLaws.{sequence_takes_parts}
use Rattle.gx_model.specs.Forest.{Forest}
use Rattle.gx_model.specs.Honest.{IsHonest}
use Rattle.gx_model.specs.Item.{atom, Items}
use Rattle.gx_model.specs.Belongs.{HaveShapes, Belongs}
use Rattle.gx_steptype.specs.DataType.{has_data, type_of_data}
use Rattle.gx_steptype.proofs.DataTypes.{data_keeps_its_type}
use Rattle.gx_core.specs.declared.expression.BinaryOp.{BinaryOp}
use Rattle.gx_core.specs.declared.expression.BinaryClass.{BinaryClass}
use Rattle.gx_core.specs.BinaryOperators.{class_of}
use Rattle.gx_core.specs.declared.operator.Operator.{Operator}
use Rattle.gx_core.specs.declared.operator.Operator.TheVariants as operators
use Rattle.gx_core.specs.Expression.{Parts, no_parts, a_part, each_of, annotation_of}
use Rattle.gx_core.specs.Bindings.{look_up, Types, types_bound}
use Rattle.gx_core.specs.Outcome.{Outcome, gives, after, given}
use Rattle.gx_core.specs.declared.signature.FunctionSignature.{FunctionSignature}
use Rattle.gx_core.specs.Outcome.{raises, wrong}
use Rattle.gx_core.specs.Meaning.{CallOutcomes, Context, Bindings, Denotation, binary_meaning, acts, all_of, denoted, meaning, meanings}
use Rattle.gx_core.specs.Soundness.{Setting, typed_setting, calling_setting, context_of, IsOfType, AreOfTypes, KeepsFact, Keeps, Situation}
use Rattle.gx_core.specs.Laws.{AllKeep}
use Rattle.gx_core.proofs.KeptFacts.{fact_after, fact_at_once, binding_fits, bindings_fit_still, calls_keep_still, operands_keep}
use Rattle.gx_static.specs.Rule.{is_as_written, has_type, has_none, type_if, shown_type, data_rule, binary_rule, rule, ruling, variable_ruling}
use Rattle.gx_static.specs.Laws.{ActsKeepType, PartsKeepTypes, OperatorKeepsType, LiteralKeepsType, VariableKeepsType, EmptyKeepsType, SequenceKeepsType, LetKeepsType, DataKeepsType}
use Rattle.gx_static.proofs.LiteralLemmas.{literal_fits}

-- the type that a rule gives
pub ruled : (t u : SequenceType) → has_type t ≡ has_type u → t ≡ u
ruled t u e = cc

-- a test decides whether there is a type
pub tested : (test : Bool) (t u : SequenceType) (code : Code) (part : Option ℕ) → (if test then has_type t else has_none code part) ≡ has_type u → (test ≡ true) × (t ≡ u)
tested true t u code part e = (refl, ruled t u e)
tested false t u code part e = absurd (cc)

pub type_so : (test : Bool) (t u : SequenceType) → type_if test t ≡ has_type u → (test ≡ true) × (t ≡ u)
type_so test t u e = tested test t u _ _ e

-- a strict operator of one part, and one of two
pub single_keeps : (s : SchemaSet) (operator : Operator)
    → ((a t : SequenceType) (forest : Forest) (xs : Items) → rule s operator (a ∷ []) ≡ has_type t → IsHonest s forest → Belongs s forest xs a
    → Keeps (typed_setting s) forest t (acts (context_of (typed_setting s)) operator (xs ∷ []) forest))
    → ((t : SequenceType) → rule s operator [] ≡ has_type t → ⊥) → ((a b t : SequenceType) (ps : List SequenceType) → rule s operator (a ∷ b ∷ ps) ≡ has_type t → ⊥) → ActsKeepType s operator
single_keeps s operator keeps none more (a ∷ []) t forest (xs ∷ []) e honest h = keeps a t forest xs e honest h.0
single_keeps s operator keeps none more (a ∷ []) t forest [] e honest h = absurd h
single_keeps s operator keeps none more (a ∷ []) t forest (xs ∷ ys ∷ values) e honest h = absurd h.1
single_keeps s operator keeps none more [] t forest values e honest h = absurd (none t e)
single_keeps s operator keeps none more (a ∷ b ∷ ps) t forest values e honest h = absurd (more a b t ps e)

pub pair_keeps : (s : SchemaSet) (operator : BinaryOp) (class : BinaryClass) → class_of operator ≡ class
    → ((a b t : SequenceType) (forest : Forest) (xs ys : Items) → binary_rule s class a b ≡ has_type t → IsHonest s forest → Belongs s forest xs a → Belongs s forest ys b
    → Keeps (typed_setting s) forest t (binary_meaning class xs ys forest)) → ActsKeepType s (operators.Binary operator)
pair_keeps s operator class is keeps (a ∷ b ∷ []) t forest (xs ∷ ys ∷ []) e honest h =
    subst (λ (c : BinaryClass). Keeps (typed_setting s) forest t (binary_meaning c xs ys forest)) (sym is)
    (keeps a b t forest xs ys (subst (λ (c : BinaryClass). binary_rule s c a b ≡ has_type t) is e) honest h.0 h.1.0)
pair_keeps s operator class is keeps (a ∷ b ∷ []) t forest [] e honest h = absurd h
pair_keeps s operator class is keeps (a ∷ b ∷ []) t forest (xs ∷ []) e honest h = absurd h.1
pair_keeps s operator class is keeps (a ∷ b ∷ []) t forest (xs ∷ ys ∷ zs ∷ values) e honest h = absurd h.1.1
pair_keeps s operator class is keeps [] t forest values e honest h = absurd (cc)
pair_keeps s operator class is keeps (a ∷ []) t forest values e honest h = absurd (cc)
pair_keeps s operator class is keeps (a ∷ b ∷ c ∷ ps) t forest values e honest h = absurd (cc)

-- a value of the type that a rule gives, in the forest as it is
pub value_keeps : (s : SchemaSet) (t u : SequenceType) (forest : Forest) (xs : Items) → t ≡ u → IsHonest s forest → Belongs s forest xs t → Keeps (typed_setting s) forest u (gives xs forest)
value_keeps s t u forest xs e honest b =
    fact_at_once (typed_setting s) forest (IsOfType s u) xs honest (subst (λ (v : SequenceType). Belongs s forest xs v) e b)

pub literal_keeps : LiteralKeepsType
literal_keeps s value [] t forest [] e honest b =
    let r = tested (same_type_name value.kind (names.Builtin (shown_type value.value))) (item (items.Atom value.kind)) t _ _ e in
    value_keeps s (item (items.Atom value.kind)) t forest (atom value ∷ []) r.1 honest
    (record { seen = shapes.Atom value.kind ∷ []; shaped = (refl, literal_fits s value r.0, tt); taken = (shapes.Atom value.kind, refl, (0, type_name_itself value.kind)) })
literal_keeps s value [] t forest (x ∷ xs) e honest b = absurd b
literal_keeps s value (p ∷ ps) t forest xs e honest b = absurd (cc)

pub empty_keeps : EmptyKeepsType
empty_keeps s [] t forest [] e honest b = value_keeps s nothing t forest [] (ruled nothing t e) honest (record { seen = []; shaped = tt; taken = refl })
empty_keeps s [] t forest (x ∷ xs) e honest b = absurd b
empty_keeps s (p ∷ ps) t forest xs e honest b = absurd (cc)

pub have_joined : (s : SchemaSet) (forest : Forest) (xs ys : Items) (ss us : List Shape) → HaveShapes s forest xs ss → HaveShapes s forest ys us → HaveShapes s forest (xs ++ ys) (ss ++ us)
have_joined s forest [] ys [] us h k = k
have_joined s forest [] ys (shape ∷ ss) us h k = absurd h
have_joined s forest (x ∷ xs) ys [] us h k = absurd h
have_joined s forest (x ∷ xs) ys (shape ∷ ss) us h k = (h.0, h.1, have_joined s forest xs ys ss us h.2 k)

pub joined_belongs : (s : SchemaSet) (forest : Forest) (t u : SequenceType) (xs ys : Items) → Belongs s forest xs t → Belongs s forest ys u → Belongs s forest (xs ++ ys) (sequence_of t u)
joined_belongs s forest t u xs ys b c = record {
  seen = b.seen ++ c.seen;
  shaped = have_joined s forest xs ys b.seen c.seen b.shaped c.shaped;
  taken = sequence_takes_parts s t u b.seen c.seen b.taken c.taken;
}

pub sequence_keeps : SequenceKeepsType
sequence_keeps s (a ∷ b ∷ []) t forest (xs ∷ ys ∷ []) e honest h =
    value_keeps s (sequence_of a b) t forest (xs ++ ys) (ruled (sequence_of a b) t e) honest (joined_belongs s forest a b xs ys h.0 h.1.0)
sequence_keeps s (a ∷ b ∷ []) t forest [] e honest h = absurd h
sequence_keeps s (a ∷ b ∷ []) t forest (xs ∷ []) e honest h = absurd h.1
sequence_keeps s (a ∷ b ∷ []) t forest (xs ∷ ys ∷ zs ∷ values) e honest h = absurd h.1.1
sequence_keeps s [] t forest values e honest h = absurd (cc)
sequence_keeps s (a ∷ []) t forest values e honest h = absurd (cc)
sequence_keeps s (a ∷ b ∷ c ∷ ps) t forest values e honest h = absurd (cc)

pub data_keeps : DataKeepsType
unfolding data_rule
data_keeps s is (a ∷ []) t forest (xs ∷ []) e honest h =
    let r = tested (has_data s a) (type_of_data s a) t _ _ e in
    let v = data_keeps_its_type s forest xs a is honest r.0 h.0 in
    subst (λ (found : Option Items). Keeps (typed_setting s) forest t (given found (λ ys. gives ys forest))) (sym v.are)
    (value_keeps s (type_of_data s a) t forest v.values r.1 honest v.belong)
data_keeps s is (a ∷ []) t forest [] e honest h = absurd h
data_keeps s is (a ∷ []) t forest (xs ∷ ys ∷ values) e honest h = absurd h.1
data_keeps s is [] t forest values e honest h = absurd (cc)
data_keeps s is (a ∷ b ∷ ps) t forest values e honest h = absurd (cc)

-- what an outcome keeps looks at no function that may be called
pub keeps_with_calls : {R : Type 0} (s : SchemaSet) (known : List FunctionSignature) (calls : CallOutcomes) (before : Forest) (Fact : Forest → R → Type 0)
    (o : Outcome R) → KeepsFact (typed_setting s) before Fact o → KeepsFact (calling_setting s known calls) before Fact o
keeps_with_calls s known calls before Fact (gives x now) k = k
keeps_with_calls s known calls before Fact (raises code) k = k
keeps_with_calls s known calls before Fact wrong k = k

pub keeps_without_calls : {R : Type 0} (s : SchemaSet) (known : List FunctionSignature) (calls : CallOutcomes) (before : Forest) (Fact : Forest → R → Type 0)
    (o : Outcome R) → KeepsFact (calling_setting s known calls) before Fact o → KeepsFact (typed_setting s) before Fact o
keeps_without_calls s known calls before Fact (gives x now) k = k
keeps_without_calls s known calls before Fact (raises code) k = k
keeps_without_calls s known calls before Fact wrong k = k

-- a variable, where it stands

bound_keeps : (s : SchemaSet) (known : List FunctionSignature) (calls : CallOutcomes) (number : ℕ) (types : Types) (situation : Situation (calling_setting s known calls) types) (t : SequenceType) (found : Option SequenceType)
    → look_up types number ≡ found → variable_ruling s number found ≡ has_type t
    → Keeps (calling_setting s known calls) situation.forest t (given (look_up situation.bindings number) (λ value. gives value situation.forest))
bound_keeps s known calls number types situation t None found e = absurd (cc)
bound_keeps s known calls number types situation t (Some u) found e =
    let b = situation.fits number u found in
    subst (λ (o : Option Items). Keeps (calling_setting s known calls) situation.forest t (given o (λ value. gives value situation.forest))) (sym b.bound)
    (value_keeps s u t situation.forest b.value (ruled u t e) situation.honest b.belongs)

pub variable_keeps : VariableKeepsType
variable_keeps s number known calls no_parts types place outer t e c h situation = bound_keeps s known calls number types situation t (look_up types number) refl e
variable_keeps s number known calls (a_part first others) types place outer t e c h situation = absurd (cc)

pub let_keeps : LetKeepsType
let_keeps s binder known calls (a_part a (a_part b no_parts)) types place outer t e known_call h situation =
    let setting : Setting = calling_setting s known calls in
    let k : Context = context_of setting in
    fact_after setting situation.forest (IsOfType s (annotation_of a)) (IsOfType s t) (meaning k a situation.bindings situation.forest)
    (λ xs left. meaning k b ((binder.variable, xs) ∷ situation.bindings) left) (h.0 situation)
    (λ xs now grown honest belongs. subst (λ (u : SequenceType). Keeps setting now u (meaning k b ((binder.variable, xs) ∷ situation.bindings) now)) (type_so (is_as_written s binder.kind (annotation_of a)) (annotation_of b) t e).1
    (h.1.0 (record {
      bindings = (binder.variable, xs) ∷ situation.bindings;
      forest = now;
      honest = honest;
      fits = binding_fits setting binder (annotation_of a) xs types situation.bindings now (bindings_fit_still setting types situation.bindings situation.forest now grown situation.fits) belongs;
      calls_keep = calls_keep_still setting situation.forest now grown situation.calls_keep;
    })))
let_keeps s binder known calls no_parts types place outer t e known_call h situation = absurd (cc)
let_keeps s binder known calls (a_part a no_parts) types place outer t e known_call h situation = absurd (cc)
let_keeps s binder known calls (a_part a (a_part b (a_part c others))) types place outer t e known_call h situation = absurd (cc)

-- a strict operator keeps its type, since what it makes of values does

pub parts_all_keep : (s : SchemaSet) (known : List FunctionSignature) (calls : CallOutcomes) (operator : Operator) → ((before : List SequenceType) → types_bound operator before ≡ []) → (before : List SequenceType) (parts : Parts SequenceType) (types : Types)
    → PartsKeepTypes s known calls operator before parts types → AllKeep (calling_setting s known calls) types (meanings (context_of (calling_setting s known calls)) parts) (each_of annotation_of parts)
parts_all_keep s known calls operator none before no_parts types h = tt
parts_all_keep s known calls operator none before (a_part a others) types h = (
  subst (λ (bound : Types). (situation : Situation (calling_setting s known calls) (bound ++ types)) → Keeps (calling_setting s known calls) situation.forest (annotation_of a) (meaning (context_of (calling_setting s known calls)) a situation.bindings situation.forest)) (none before) h.0,
  parts_all_keep s known calls operator none (before ++ annotation_of a ∷ []) others types h.1,
)

pub record IsStrict (operator : Operator) : Type 0 where
  pub denotes : (context : Context) (parts : List Denotation) (bindings : Bindings) (forest : Forest) → denoted context operator parts bindings forest ≡ after (all_of parts bindings forest) (acts context operator)
  pub binds_nothing : (before : List SequenceType) → types_bound operator before ≡ []
  pub ruled : (s : SchemaSet) (parts : List SequenceType) (types : Types) → ruling s operator parts types ≡ rule s operator parts
  pub silent : (s : SchemaSet) (calls : CallOutcomes) (values : List Items) (forest : Forest)
      → acts (record { schemas = s; calls = calls }) operator values forest ≡ acts (context_of (typed_setting s)) operator values forest

pub strict_keeps : (s : SchemaSet) (operator : Operator) → IsStrict operator → ActsKeepType s operator → OperatorKeepsType s operator
strict_keeps s operator strict keeps known calls parts types place outer t e known_call h situation =
    let setting : Setting = calling_setting s known calls in
    let k : Context = context_of setting in
    subst (λ (o : Outcome Items). Keeps setting situation.forest t o) (sym (strict.denotes k (meanings k parts) situation.bindings situation.forest))
    (fact_after setting situation.forest (AreOfTypes s (each_of annotation_of parts)) (IsOfType s t) (all_of (meanings k parts) situation.bindings situation.forest) (acts k operator)
    (operands_keep setting types (meanings k parts) (each_of annotation_of parts) situation (parts_all_keep s known calls operator strict.binds_nothing [] parts types h))
    (λ values now grown honest belong.
    subst (λ (o : Outcome Items). Keeps setting now t o) (sym (strict.silent s calls values now))
    (keeps_with_calls s known calls now (IsOfType s t) (acts (context_of (typed_setting s)) operator values now)
    (keeps (each_of annotation_of parts) t now values (sym (strict.ruled s (each_of annotation_of parts) types) ∙ e) honest belong))))
