-- A switch keeps its type.
use Rattle.std.proofs.Common.{◌≡◌, ◌+◌, ◌==◌, ℕ, zero, suc, Bool, true, false, List, [], ◌∷◌, ◌++◌, length, None, inl, inr, refl, sym, ◌∙◌, ap, subst, append_assoc, arith, if◌then◌else◌}
use Rattle.std.proofs.lemmas.Bool.{eqb-true}
use Rattle.std.proofs.lemmas.List.{append-nil}
use Rattle.gx_types.specs.SchemaSet.{SchemaSet}
use Rattle.gx_types.specs.declared.shape.Shape.{Shape}
use Rattle.gx_types.specs.SequenceType.{SequenceType}
use Rattle.gx_types.specs.Choice.{choice_among}
use Rattle.gx_types.specs.TypeRules.{limited}
use Rattle.gx_types.specs.Takes.{Takes, SomeTakes}
use Rattle.gx_types.proofs.PublicLaws.{choice_takes_some, limited_takes_type}
use Rattle.gx_model.specs.Forest.{Forest}
use Rattle.gx_model.specs.Honest.{IsHonest}
use Rattle.gx_model.specs.Item.{Items}
use Rattle.gx_model.specs.Belongs.{Belongs}
use Rattle.gx_model.specs.Growth.{Extends}
use Rattle.gx_core.specs.declared.cases.TypeCase.{TypeCase}
use Rattle.gx_core.specs.declared.expression.Binder.{Binder}
use Rattle.gx_core.specs.declared.operator.Operator.TheVariants as operators
use Rattle.gx_core.specs.Expression.{Parts, no_parts, a_part, each_of, annotation_of}
use Rattle.gx_core.specs.Bindings.{Types, position_bound, branch_types}
use Rattle.gx_core.specs.Instances.{is_instance}
use Rattle.gx_core.proofs.InstanceLemmas.{instances_belong}
use Rattle.gx_core.specs.Outcome.{Outcome, after}
use Rattle.gx_core.specs.Meaning.{CallOutcomes, Bindings, switched, meaning, meanings}
use Rattle.gx_core.specs.declared.signature.FunctionSignature.{FunctionSignature}
use Rattle.gx_core.specs.Soundness.{Setting, TypedExpression, typed_setting, calling_setting, context_of, IsOfType, Keeps, Situation, KeepsItsType, Fits}
use Rattle.gx_core.proofs.KeptFacts.{fact_after, binding_fits, bindings_fit_still, calls_keep_still}
use Rattle.gx_static.specs.Laws.{PartsKeepTypes, SwitchKeepsType}
use Rattle.gx_static.proofs.Conditionals.{widened}
use Rattle.gx_static.proofs.Keeping.{type_so}

-- ---- an instance of the type of a case belongs to it

pub instance_belongs : (s : SchemaSet) (forest : Forest) (t u : SequenceType) (xs : Items) → is_instance s forest t xs ≡ true → Belongs s forest xs u → Belongs s forest xs t
instance_belongs s forest t u xs e b = instances_belong s forest t xs b.seen b.shaped e

-- ---- the variable of a branch

branch_fits : (s : SchemaSet) (number : ℕ) (t : SequenceType) (xs : Items) (types : Types) (bindings : Bindings) (forest : Forest) → Fits s forest types bindings → Belongs s forest xs t
    → Fits s forest (position_bound number t ++ types) (position_bound number xs ++ bindings)
branch_fits s zero t xs types bindings forest fits b = fits
branch_fits s (suc number) t xs types bindings forest fits b =
    let binder : Binder = record { variable = suc number; place = record { line = 0; column = 0 }; kind = None } in
    binding_fits (typed_setting s) binder t xs types bindings forest fits b

-- a branch, with its variable bound to the value
one_branch : (s : SchemaSet) (known : List FunctionSignature) (calls : CallOutcomes) (e : TypedExpression) (number : ℕ) (t u : SequenceType) (types : Types) → KeepsItsType (calling_setting s known calls) e (position_bound number t ++ types)
    → ((now : Forest) (ys : Items) → Belongs s now ys (annotation_of e) → Belongs s now ys u)
    → (situation : Situation (calling_setting s known calls) types) (xs : Items) (now : Forest) → Extends situation.forest now → IsHonest s now → Belongs s now xs t
    → Keeps (calling_setting s known calls) now u (meaning (context_of (calling_setting s known calls)) e (position_bound number xs ++ situation.bindings) now)
one_branch s known calls e number t u types keeps wider situation xs now grown honest b =
    widened (calling_setting s known calls) now (annotation_of e) u _ wider
    (keeps (record {
      bindings = position_bound number xs ++ situation.bindings;
      forest = now;
      honest = honest;
      fits = branch_fits s number t xs types situation.bindings now (bindings_fit_still (calling_setting s known calls) types situation.bindings situation.forest now grown situation.fits) b;
      calls_keep = calls_keep_still (calling_setting s known calls) situation.forest now grown situation.calls_keep;
    }))

-- ---- all branches

-- what belongs to the type of a branch belongs to a type
abbrev AreWithin : SchemaSet → SequenceType → Parts SequenceType → Type 0
AreWithin s u no_parts = Unit {0}
AreWithin s u (a_part e others) = ((now : Forest) (ys : Items) → Belongs s now ys (annotation_of e) → Belongs s now ys u) × AreWithin s u others

-- what a switch binds for the next branches, behind those that are done
abbrev pub GoesOn : (all left : List TypeCase) (default : ℕ) (operand : SequenceType) (done : List SequenceType) → Type 0
GoesOn all left default operand done = (more : List SequenceType) → branch_types all default operand (done ++ more) ≡ branch_types left default operand more

pub next_is : (all left : List TypeCase) (default : ℕ) (operand : SequenceType) (done : List SequenceType) → GoesOn all left default operand done
    → branch_types all default operand done ≡ branch_types left default operand []
next_is all left default operand done g = ap (λ (d : List SequenceType). branch_types all default operand d) (sym (append-nil done)) ∙ g []

pub one_more_done : (all left : List TypeCase) (c : TypeCase) (default : ℕ) (operand t : SequenceType) (done : List SequenceType) → GoesOn all (c ∷ left) default operand done → GoesOn all left default operand (done ++ t ∷ [])
one_more_done all left c default operand t done g more = ap (λ (d : List SequenceType). branch_types all default operand d) (append_assoc done (t ∷ []) more) ∙ g (t ∷ more)

module _ (s : SchemaSet) (known : List FunctionSignature) (calls : CallOutcomes) (all : List TypeCase) (default : ℕ) (operand u : SequenceType) (types : Types) (situation : Situation (calling_setting s known calls) types) (xs : Items) (now : Forest)
    (grown : Extends situation.forest now) (honest : IsHonest s now) (b : Belongs s now xs operand) where
  either_branch : (test : Bool) (chosen others : Outcome Items) → (test ≡ true → Keeps (calling_setting s known calls) now u chosen) → Keeps (calling_setting s known calls) now u others → Keeps (calling_setting s known calls) now u (if test then chosen else others)
  either_branch true chosen others h k = h refl
  either_branch false chosen others h k = k

  branches_keep : (left : List TypeCase) (branches : Parts SequenceType) (done : List SequenceType) → GoesOn all left default operand done → length (each_of annotation_of branches) ≡ length left + 1
      → AreWithin s u branches → PartsKeepTypes s known calls (operators.Switch all default) (operand ∷ done) branches types
      → Keeps (calling_setting s known calls) now u (switched s left default (meanings (context_of (calling_setting s known calls)) branches) xs situation.bindings now)
  branches_keep [] (a_part e no_parts) done g n w h =
      one_branch s known calls e default operand u types
      (subst (λ (bound : Types). KeepsItsType (calling_setting s known calls) e (bound ++ types)) (next_is all [] default operand done g) h.0) w.0 situation xs now grown honest b
  branches_keep (c ∷ left) (a_part e others) done g n w h =
      either_branch (is_instance s now c.kind xs) (meaning (context_of (calling_setting s known calls)) e (position_bound c.variable xs ++ situation.bindings) now)
      (switched s left default (meanings (context_of (calling_setting s known calls)) others) xs situation.bindings now)
      (λ i. one_branch s known calls e c.variable c.kind u types (subst (λ (bound : Types). KeepsItsType (calling_setting s known calls) e (bound ++ types)) (next_is all (c ∷ left) default operand done g) h.0) w.0
      situation xs now grown honest (instance_belongs s now c.kind operand xs i b))
      (branches_keep left others (done ++ annotation_of e ∷ []) (one_more_done all left c default operand (annotation_of e) done g) (omega (arith, n)) w.1 h.1)
  branches_keep [] no_parts done g n w h = absurd (omega (arith, n))
  branches_keep [] (a_part e (a_part f others)) done g n w h = absurd (omega (arith, n))
  branches_keep (c ∷ left) no_parts done g n w h = absurd (omega (arith, n))

-- ---- the law

-- the type of each branch is within the choice of all
some_of_all : (s : SchemaSet) (front : List SequenceType) (t : SequenceType) (behind : List SequenceType) (ss : List Shape) → Takes s t ss → SomeTakes s (front ++ t ∷ behind) ss
some_of_all s [] t behind ss h = inl h
some_of_all s (f ∷ front) t behind ss h = inr (some_of_all s front t behind ss h)

all_within : (s : SchemaSet) (front : List SequenceType) (branches : Parts SequenceType) (all : List SequenceType) → all ≡ front ++ each_of annotation_of branches → AreWithin s (limited (choice_among all)) branches
all_within s front no_parts all e = tt
all_within s front (a_part b others) all e = (
  (λ now ys h. record {
    seen = h.seen;
    shaped = h.shaped;
    taken = limited_takes_type s (choice_among all) h.seen
        ((choice_takes_some s all h.seen).0 (subst (λ (ts : List SequenceType). SomeTakes s ts h.seen) (sym e) (some_of_all s front (annotation_of b) (each_of annotation_of others) h.seen h.taken)));
  }),
  all_within s (front ++ annotation_of b ∷ []) others all (e ∙ sym (append_assoc front (annotation_of b ∷ []) (each_of annotation_of others))),
)

pub switch_keeps : SwitchKeepsType
switch_keeps s cases default known calls (a_part a branches) types place outer t e known_call h situation =
    let setting : Setting = calling_setting s known calls in
    let k = context_of setting in
    let kinds : List SequenceType = each_of annotation_of branches in
    let u : SequenceType = limited (choice_among kinds) in
    let r = type_so (length kinds == length cases + 1) u t e in
    subst (λ (v : SequenceType). Keeps setting situation.forest v (after (meaning k a situation.bindings situation.forest) (λ xs left. switched s cases default (meanings k branches) xs situation.bindings left))) r.1
    (fact_after setting situation.forest (IsOfType s (annotation_of a)) (IsOfType s u) (meaning k a situation.bindings situation.forest)
    (λ xs left. switched s cases default (meanings k branches) xs situation.bindings left) (h.0 situation)
    (λ xs now grown honest b. branches_keep s known calls cases default (annotation_of a) u types situation xs now grown honest b cases branches [] (λ more. refl)
    (eqb-true (length kinds) (length cases + 1) r.0) (all_within s [] branches kinds refl) h.1))
switch_keeps s cases default known calls no_parts types place outer t e known_call h situation = absurd (cc)
