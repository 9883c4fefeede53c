-- Whether a test holds of some item, or of every one, keeps its type.
use Rattle.std.proofs.Common.{◌≡◌, Bool, true, false, not, ◌&&◌, List, [], ◌∷◌, Option, sym, subst, if◌then◌else◌}
use Rattle.std.proofs.lemmas.Bool.{and_parts, and_from}
use Rattle.gx_base.specs.declared.type_name.Builtin.TheVariants.{Boolean}
use Rattle.gx_types.specs.SchemaSet.{SchemaSet}
use Rattle.gx_types.specs.SequenceType.{SequenceType}
use Rattle.gx_types.specs.Prime.{prime_of}
use Rattle.gx_model.specs.Forest.{Forest}
use Rattle.gx_model.specs.Honest.{IsHonest}
use Rattle.gx_model.specs.Item.{Item, Items}
use Rattle.gx_model.specs.Belongs.{Belongs}
use Rattle.gx_model.specs.Growth.{Extends}
use Rattle.gx_model.proofs.PublicLaws.{growth_is_an_order}
use Rattle.gx_core.specs.declared.expression.Binder.{Binder}
use Rattle.gx_core.specs.Bindings.{Types}
use Rattle.gx_core.specs.Comparing.{truth_value, condition_of}
use Rattle.gx_core.specs.Expression.{no_parts, a_part, annotation_of}
use Rattle.gx_core.specs.Outcome.{Outcome, gives, after, given}
use Rattle.gx_core.specs.Meaning.{CallOutcomes, decides, any_decides, meaning}
use Rattle.gx_core.specs.declared.signature.FunctionSignature.{FunctionSignature}
use Rattle.gx_core.specs.Soundness.{TypedExpression, calling_setting, context_of, IsOfType, Keeps, Situation, KeepsItsType}
use Rattle.gx_core.proofs.KeptFacts.{fact_after, binding_fits, bindings_fit_still, calls_keep_still}
use Rattle.gx_static.specs.Rule.{atomic, is_as_written, is_at_least_one, is_optional_in, quantifier_rule, has_type}
use Rattle.gx_static.specs.Laws.{SomeKeepsType, EveryKeepsType}
use Rattle.gx_static.proofs.Comparisons.{truth_keeps}
use Rattle.gx_static.proofs.Conditionals.{one_condition}
use Rattle.gx_static.proofs.Keeping.{type_so}
use Rattle.gx_static.proofs.Loops.{EachBelongs, each_still, items_belong}

-- the test keeps its type for an item, in each forest that has grown from the first
abbrev TestKeeps : SchemaSet → List FunctionSignature → CallOutcomes → Forest → (p u : SequenceType) → (Item → Forest → Outcome Items) → Type 0
TestKeeps s known calls first p u test =
    (x : Item) (now : Forest) → Extends first now → IsHonest s now → Belongs s now (x ∷ []) p → Keeps (calling_setting s known calls) now u (test x now)

-- an item decides, or those behind it do
either_keeps : (s : SchemaSet) (known : List FunctionSignature) (calls : CallOutcomes) (forest : Forest) (b decisive : Bool) (others : Outcome Items) → IsHonest s forest → Keeps (calling_setting s known calls) forest (atomic Boolean) others
    → Keeps (calling_setting s known calls) forest (atomic Boolean) (if b then gives (truth_value decisive) forest else others)
either_keeps s known calls forest true decisive others honest k = truth_keeps s forest decisive honest
either_keeps s known calls forest false decisive others honest k = k

search_keeps : (s : SchemaSet) (known : List FunctionSignature) (calls : CallOutcomes) (first : Forest) (p u : SequenceType) (decisive : Bool) (test : Item → Forest → Outcome Items)
    → (is_at_least_one u && is_optional_in s Boolean u) ≡ true → TestKeeps s known calls first p u test
    → (xs : Items) (forest : Forest) → Extends first forest → IsHonest s forest → EachBelongs s forest p xs → Keeps (calling_setting s known calls) forest (atomic Boolean) (any_decides decisive test xs forest)
search_keeps s known calls first p u decisive test one keeps [] forest grown honest all = truth_keeps s forest (not decisive) honest
search_keeps s known calls first p u decisive test one keeps (x ∷ xs) forest grown honest all =
    fact_after (calling_setting s known calls) forest (IsOfType s u) (IsOfType s (atomic Boolean)) (test x forest)
    (λ ys left. given (condition_of ys) (λ truth. if decides decisive truth then gives (truth_value decisive) left else any_decides decisive test xs left))
    (keeps x forest grown honest all.0)
    (λ ys left more still belongs.
    let truth = one_condition s left u ys one belongs in
    subst (λ (found : Option Bool). Keeps (calling_setting s known calls) left (atomic Boolean) (given found (λ truth. if decides decisive truth then gives (truth_value decisive) left else any_decides decisive test xs left))) (sym truth.1)
    (either_keeps s known calls left (decides decisive truth.0) decisive (any_decides decisive test xs left) still
    (search_keeps s known calls first p u decisive test one keeps xs left (growth_is_an_order.transitive first forest left grown more) still (each_still s forest left p xs more all.1))))

quantified_keeps : (s : SchemaSet) (known : List FunctionSignature) (calls : CallOutcomes) (binder : Binder) (decisive : Bool) (a b : TypedExpression) (types : Types) (t : SequenceType)
    → quantifier_rule s binder (annotation_of a) (annotation_of b) ≡ has_type t
    → KeepsItsType (calling_setting s known calls) a types → KeepsItsType (calling_setting s known calls) b ((binder.variable, prime_of (annotation_of a)) ∷ types) → (situation : Situation (calling_setting s known calls) types)
    → Keeps (calling_setting s known calls) situation.forest t
    (after (meaning (context_of (calling_setting s known calls)) a situation.bindings situation.forest)
    (λ xs left. any_decides decisive (λ x now. meaning (context_of (calling_setting s known calls)) b ((binder.variable, x ∷ []) ∷ situation.bindings) now) xs left))
quantified_keeps s known calls binder decisive a b types t e ha hb situation =
    let k = context_of (calling_setting s known calls) in
    let p : SequenceType = prime_of (annotation_of a) in
    let test : Item → Forest → Outcome Items = λ x now. meaning k b ((binder.variable, x ∷ []) ∷ situation.bindings) now in
    let written : Bool = is_as_written s binder.kind p in
    let r = type_so (written && is_at_least_one (annotation_of b) && is_optional_in s Boolean (annotation_of b)) (atomic Boolean) t e in
    let outer = and_parts (written && is_at_least_one (annotation_of b)) (is_optional_in s Boolean (annotation_of b)) r.0 in
    let inner = and_parts written (is_at_least_one (annotation_of b)) outer.0 in
    let one = and_from (is_at_least_one (annotation_of b)) (is_optional_in s Boolean (annotation_of b)) inner.1 outer.1 in
    subst (λ (u : SequenceType). Keeps (calling_setting s known calls) situation.forest u (after (meaning k a situation.bindings situation.forest) (λ xs left. any_decides decisive test xs left))) r.1
    (fact_after (calling_setting s known calls) situation.forest (IsOfType s (annotation_of a)) (IsOfType s (atomic Boolean)) (meaning k a situation.bindings situation.forest)
    (λ xs left. any_decides decisive test xs left) (ha situation)
    (λ xs left grown honest belongs. search_keeps s known calls left p (annotation_of b) decisive test one
    (λ x now more still item. hb (record {
      bindings = (binder.variable, x ∷ []) ∷ situation.bindings;
      forest = now;
      honest = still;
      fits =
          binding_fits (calling_setting s known calls) binder p (x ∷ []) types situation.bindings now
          (bindings_fit_still (calling_setting s known calls) types situation.bindings situation.forest now (growth_is_an_order.transitive situation.forest left now grown more) situation.fits) item;
      calls_keep = calls_keep_still (calling_setting s known calls) situation.forest now (growth_is_an_order.transitive situation.forest left now grown more) situation.calls_keep;
    }))
    xs left (growth_is_an_order.reflexive left) honest (items_belong s left (annotation_of a) xs belongs)))

pub some_keeps : SomeKeepsType
some_keeps s binder known calls (a_part a (a_part b no_parts)) types place outer t e known_call h situation = quantified_keeps s known calls binder true a b types t e h.0 h.1.0 situation
some_keeps s binder known calls no_parts types place outer t e known_call h situation = absurd (cc)
some_keeps s binder known calls (a_part a no_parts) types place outer t e known_call h situation = absurd (cc)
some_keeps s binder known calls (a_part a (a_part b (a_part c others))) types place outer t e known_call h situation = absurd (cc)

pub every_keeps : EveryKeepsType
every_keeps s binder known calls (a_part a (a_part b no_parts)) types place outer t e known_call h situation = quantified_keeps s known calls binder false a b types t e h.0 h.1.0 situation
every_keeps s binder known calls no_parts types place outer t e known_call h situation = absurd (cc)
every_keeps s binder known calls (a_part a no_parts) types place outer t e known_call h situation = absurd (cc)
every_keeps s binder known calls (a_part a (a_part b (a_part c others))) types place outer t e known_call h situation = absurd (cc)
