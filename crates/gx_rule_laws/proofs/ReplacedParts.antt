-- Where parts of an operator are replaced by what comes to the same, the operator asks for the same evaluations.
use Rattle.std.proofs.Common.{◌≡◌, ℕ, zero, suc, Some, List, [], ◌∷◌, ◌++◌, length, take, refl, sym, ap, subst, append_assoc}
use Rattle.std.specs.Prelude.{slice_get, option_map}
use Rattle.std.specs.List.{AllByRecursion}
use Rattle.std.proofs.lemmas.List.{append-nil}
use Rattle.gx_types.specs.SequenceType.{SequenceType}
use Rattle.gx_model.specs.Forest.{Forest}
use Rattle.gx_model.specs.Honest.{IsHonest}
use Rattle.gx_model.specs.Item.{Items}
use Rattle.gx_model.specs.Growth.{Extends}
use Rattle.gx_core.specs.declared.operator.Operator.{Operator}
use Rattle.gx_core.specs.Expression.{Parts, no_parts, a_part, each_of, annotation_of}
use Rattle.gx_core.specs.Bindings.{Types}
use Rattle.gx_core.specs.Outcome.{Outcome}
use Rattle.gx_core.specs.Meaning.{Context, Bindings, Denotation, meanings}
use Rattle.gx_core.specs.Evaluations.{PartEvaluation, evaluations}
use Rattle.gx_core.specs.Laws.{AgreeAt}
use Rattle.gx_core.specs.Soundness.{Setting, context_of, Fits, CallsKeepTypes, Situation}
use Rattle.gx_core.proofs.KeptFacts.{calls_keep_still}
use Rattle.gx_core.proofs.DecidingParts.{parts_decide}
use Rattle.gx_plan.specs.Fitting.{FitsAt, BindsWell}
use Rattle.gx_plan.specs.SameMeaning.{PartsComeToTheSameFrom}

as_many : (setting : Setting) (start : Forest) (operator : Operator) (before : List SequenceType) (parts : Parts SequenceType) (others : List Denotation)
    (types : Types) → PartsComeToTheSameFrom setting start operator before others parts types
    → length (meanings (context_of setting) parts) ≡ length others
as_many setting start operator before no_parts [] types h = refl
as_many setting start operator before no_parts (d ∷ others) types h = absurd h
as_many setting start operator before (a_part first rest) [] types h = absurd h
as_many setting start operator before (a_part first rest) (d ∷ others) types h =
    ap suc (as_many setting start operator (before ++ annotation_of first ∷ []) rest others types h.1)

same_there : (setting : Setting) (start : Forest) (operator : Operator) (before : List SequenceType) (parts : Parts SequenceType) (others : List Denotation)
    (types : Types) → PartsComeToTheSameFrom setting start operator before others parts types
    → (number : ℕ) (bindings : Bindings) (forest : Forest) → Extends start forest → IsHonest setting.schemas forest
    → Fits setting.schemas forest (setting.binders operator (before ++ take number (each_of annotation_of parts)) ++ types) bindings
    → CallsKeepTypes setting forest
    → option_map (λ (part : Denotation). part bindings forest) (slice_get (meanings (context_of setting) parts) number)
    ≡ option_map (λ (part : Denotation). part bindings forest) (slice_get others number)
same_there setting start operator before no_parts [] types h number bindings forest grown honest fits calls_keep = refl
same_there setting start operator before no_parts (d ∷ others) types h number bindings forest grown honest fits calls_keep = absurd h
same_there setting start operator before (a_part first rest) [] types h number bindings forest grown honest fits calls_keep = absurd h
same_there setting start operator before (a_part first rest) (d ∷ others) types h zero bindings forest grown honest fits calls_keep =
    let here : Fits setting.schemas forest (setting.binders operator before ++ types) bindings =
    subst (λ (ts : List SequenceType). Fits setting.schemas forest (setting.binders operator ts ++ types) bindings) (append-nil before) fits in
    sym (ap (λ (o : Outcome Items). Some o)
    (h.0 (record { bindings = bindings; forest = forest; honest = honest; fits = here; calls_keep = calls_keep }) grown))
same_there setting start operator before (a_part first rest) (d ∷ others) types h (suc number) bindings forest grown honest fits calls_keep =
    same_there setting start operator (before ++ annotation_of first ∷ []) rest others types h.1 number bindings forest grown honest
    (subst (λ (ts : List SequenceType). Fits setting.schemas forest (setting.binders operator ts ++ types) bindings)
    (sym (append_assoc before (annotation_of first ∷ []) (take number (each_of annotation_of rest)))) fits) calls_keep

pub all_so : (P Q : PartEvaluation → Type 0) (es : List PartEvaluation) → ((e : PartEvaluation) → P e → Q e) → AllByRecursion P es
    → AllByRecursion Q es
all_so P Q [] h k = tt
all_so P Q (e ∷ es) h k = (h e k.0, all_so P Q es h k.1)

pub same_evaluations : (setting : Setting) (operator : Operator) (parts : Parts SequenceType) (others : List Denotation) (types : Types)
    (situation : Situation setting types) → BindsWell setting operator parts types
    → PartsComeToTheSameFrom setting situation.forest operator [] others parts types
    → evaluations (context_of setting) operator (meanings (context_of setting) parts) situation.bindings situation.forest
    ≡ evaluations (context_of setting) operator others situation.bindings situation.forest
same_evaluations setting operator parts others types situation well same =
    let context : Context = context_of setting in
    let ts : List SequenceType = each_of annotation_of parts in
    (parts_decide context operator (meanings context parts) others situation.bindings situation.forest
    (as_many setting situation.forest operator [] parts others types same)
    (all_so (FitsAt setting operator ts types situation.forest) (AgreeAt (meanings context parts) others)
    (evaluations context operator (meanings context parts) situation.bindings situation.forest)
    (λ e fit. same_there setting situation.forest operator [] parts others types same e.part e.bindings e.forest fit.grown fit.honest fit.fits
    (calls_keep_still setting situation.forest e.forest fit.grown situation.calls_keep))
    (well situation))).1
