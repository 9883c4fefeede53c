-- Calls take their arguments where they have types.
use Rattle.std.proofs.Common.{◌≡◌, ℕ, ◌+◌, Bool, true, false, List, [], ◌∷◌, ◌++◌, Option, Some, refl, if◌then◌else◌}
use Rattle.gx_base.specs.declared.code.Code.{Code}
use Rattle.gx_base.specs.declared.code.Code.TheVariants.{XPTY0004}
use Rattle.gx_types.specs.SchemaSet.{SchemaSet}
use Rattle.gx_types.specs.SchemaInvariant.{IsSchemaSet}
use Rattle.gx_types.specs.SequenceType.{SequenceType}
use Rattle.gx_include.specs.Decision.{is_included}
use Rattle.gx_model.specs.Forest.{Forest}
use Rattle.gx_model.specs.Growth.{Extends}
use Rattle.gx_model.specs.Honest.{IsHonest}
use Rattle.gx_model.specs.Item.{Items}
use Rattle.gx_model.proofs.PublicLaws.{growth_is_an_order, values_stay}
use Rattle.gx_core.specs.declared.operator.Operator.{Operator}
use Rattle.gx_core.specs.declared.operator.Operator.TheVariants as operators
use Rattle.gx_core.specs.Expression.{At, Parts, no_parts, a_part, each_of, annotation_of}
use Rattle.gx_core.specs.Bindings.{Types, types_bound}
use Rattle.gx_core.specs.Converting.{converted, arguments_converted}
use Rattle.gx_core.specs.Outcome.{gives, after}
use Rattle.gx_core.specs.Soundness.{TypedExpression, typed_setting, IsOfType, AreOfTypes, KeepsFact}
use Rattle.gx_core.proofs.KeptFacts.{fact_after, fact_at_once}
use Rattle.gx_static.specs.Rule.{Ruling, has_type, has_none, if_taken, converted_type, converted_arguments_rule, ruling}
use Rattle.gx_static.proofs.Keeping.{ruled}
use Rattle.gx_static.proofs.UserCalls.{converted_values_belong}
use Rattle.gx_plan.specs.FullSoundness.{TakesItsArguments, CallsTakeTheirArguments, CallsInPartsTakeTheirArguments}
use Rattle.gx_sound_typing.proofs.TypedTrees.{HasItsTypes, PartsHaveTheirTypes}

-- ---- arguments (all of this section stands in gx_static/proofs/UserCalls too)

-- an argument that is seen as of a type which is included in that of its parameter
record IsConverted (s : SchemaSet) (expected argument : SequenceType) : Type 0 where
  seen : SequenceType
  as_seen : converted_type s expected argument ≡ has_type seen
  included : is_included s seen expected ≡ true

abbrev AreConverted : SchemaSet → List SequenceType → List SequenceType → Type 0
AreConverted s [] [] = Unit {0}
AreConverted s (expected ∷ others) (argument ∷ arguments) = IsConverted s expected argument × AreConverted s others arguments
AreConverted s [] (argument ∷ arguments) = ⊥
AreConverted s (expected ∷ others) [] = ⊥

passed : (test : Bool) (next refused : Ruling) (code : Code) (part : Option ℕ) (t : SequenceType) → refused ≡ has_none code part → (if test then next else refused) ≡ has_type t → (test ≡ true) × (next ≡ has_type t)
passed true next refused code part t r e = (refl, e)
passed false next refused code part t r e = absurd (cc)

one_converted : (s : SchemaSet) (expected argument : SequenceType) (number : ℕ) (next r : Ruling) (t : SequenceType) → converted_type s expected argument ≡ r
    → if_taken (λ u. is_included s u expected) XPTY0004 number next r ≡ has_type t → IsConverted s expected argument × (next ≡ has_type t)
one_converted s expected argument number next (has_type u) t c e =
    let p = passed (is_included s u expected) next (has_none XPTY0004 (Some number)) XPTY0004 (Some number) t refl e in
    (record { seen = u; as_seen = c; included = p.0 }, p.1)
one_converted s expected argument number next (has_none code part) t c e = absurd (cc)

all_converted : (s : SchemaSet) (parameters arguments : List SequenceType) (number : ℕ) (result t : SequenceType) → converted_arguments_rule s parameters arguments number (has_type result) ≡ has_type t
    → AreConverted s parameters arguments × (result ≡ t)
all_converted s [] [] number result t e = (tt, ruled result t e)
all_converted s [] (a ∷ arguments) number result t e = absurd (cc)
all_converted s (p ∷ parameters) [] number result t e = absurd (cc)
all_converted s (p ∷ parameters) (a ∷ arguments) number result t e =
    let one = one_converted s p a number (converted_arguments_rule s parameters arguments (number + 1) (has_type result)) (converted_type s p a) t refl e in
    let rest = all_converted s parameters arguments (number + 1) result t one.1 in
    ((one.0, rest.0), rest.1)

arguments_keep : (s : SchemaSet) → IsSchemaSet s → (parameters arguments : List SequenceType) (values : List Items) (before forest : Forest) → AreConverted s parameters arguments → Extends before forest
    → IsHonest s forest → AreOfTypes s arguments before values → KeepsFact (typed_setting s) forest (AreOfTypes s parameters) (arguments_converted s parameters values forest)
arguments_keep s is [] [] [] before forest c grown honest b = fact_at_once (typed_setting s) forest (AreOfTypes s []) [] honest tt
arguments_keep s is [] [] (xs ∷ values) before forest c grown honest b = absurd b
arguments_keep s is [] (a ∷ arguments) values before forest c grown honest b = absurd c
arguments_keep s is (p ∷ parameters) [] values before forest c grown honest b = absurd c
arguments_keep s is (p ∷ parameters) (a ∷ arguments) [] before forest c grown honest b = absurd b
arguments_keep s is (p ∷ parameters) (a ∷ arguments) (xs ∷ values) before forest c grown honest b =
    fact_after (typed_setting s) forest (IsOfType s p) (AreOfTypes s (p ∷ parameters)) (converted s p xs forest)
    (λ ys left. after (arguments_converted s parameters values left) (λ zs last. gives (ys ∷ zs) last))
    (converted_values_belong s p a c.0.seen forest xs is honest c.0.as_seen c.0.included (values_stay s before forest xs a grown b.0))
    (λ ys left more still one. fact_after (typed_setting s) left (AreOfTypes s parameters) (AreOfTypes s (p ∷ parameters)) (arguments_converted s parameters values left) (λ zs last. gives (ys ∷ zs) last)
    (arguments_keep s is parameters arguments values before left c.1 (growth_is_an_order.transitive before forest left grown more) still b.1)
    (λ zs last further again rest. fact_at_once (typed_setting s) last (AreOfTypes s (p ∷ parameters)) (ys ∷ zs) again (values_stay s left last ys p further one, rest)))

-- ---- calls

call_takes : (s : SchemaSet) → IsSchemaSet s → (operator : Operator) (ts : List SequenceType) (types : Types) (t : SequenceType) → ruling s operator ts types ≡ has_type t → TakesItsArguments s operator ts
call_takes s is (operators.User signature count) ts types t e = λ forest values honest are.
    arguments_keep s is signature.parameters ts values forest forest (all_converted s signature.parameters ts 0 signature.result t e).0 (growth_is_an_order.reflexive forest) honest are
call_takes s is _ ts types t e = tt

mutual
  pub calls_take : (s : SchemaSet) → IsSchemaSet s → (t : TypedExpression) (types : Types) → HasItsTypes s t types → CallsTakeTheirArguments s t
  calls_take s is (At place outer t operator parts) types h =
      (call_takes s is operator (each_of annotation_of parts) types t h.0, calls_in_parts_take s is operator [] parts types h.1)

  calls_in_parts_take : (s : SchemaSet) → IsSchemaSet s → (operator : Operator) (before : List SequenceType) (parts : Parts SequenceType) (types : Types)
      → PartsHaveTheirTypes s operator before parts types → CallsInPartsTakeTheirArguments s parts
  calls_in_parts_take s is operator before no_parts types h = tt
  calls_in_parts_take s is operator before (a_part first others) types h =
      (calls_take s is first (types_bound operator before ++ types) h.0, calls_in_parts_take s is operator (before ++ annotation_of first ∷ []) others types h.1)
