-- Evaluations of operands, of loops and of branches fit, where the parts keep their types.
use Rattle.std.proofs.Common.{◌≡◌, ℕ, suc, Bool, List, [], ◌∷◌, ◌++◌, sym, subst, if◌then◌else◌}
use Rattle.std.specs.List.{AllByRecursion}
use Rattle.gx_types.specs.SchemaSet.{SchemaSet}
use Rattle.gx_types.specs.SequenceType.{SequenceType}
use Rattle.gx_model.specs.Forest.{Forest}
use Rattle.gx_model.specs.Honest.{IsHonest}
use Rattle.gx_model.specs.Item.{Item, Items}
use Rattle.gx_model.specs.Belongs.{Belongs}
use Rattle.gx_model.specs.Growth.{Extends}
use Rattle.gx_model.proofs.PublicLaws.{growth_is_an_order}
use Rattle.gx_core.specs.declared.cases.TypeCase.{TypeCase}
use Rattle.gx_core.specs.declared.operator.Operator.{Operator}
use Rattle.gx_core.specs.declared.signature.FunctionSignature.{FunctionSignature}
use Rattle.gx_core.specs.Bindings.{Types, position_bound, branch_types, types_bound}
use Rattle.gx_core.specs.Instances.{is_instance}
use Rattle.gx_core.proofs.InstanceLemmas.{instances_belong}
use Rattle.gx_core.specs.Comparing.{condition_of}
use Rattle.gx_core.specs.Meaning.{CallOutcomes, Bindings, Denotation, decides}
use Rattle.gx_core.specs.Evaluations.{PartEvaluation, evaluation_of_part, evaluations_after, evaluations_given, operand_evaluations, turn_evaluations, search_evaluations, branch_evaluations}
use Rattle.gx_core.specs.Soundness.{calling_setting, IsOfType, Keeps, Fits, CallsKeepTypes, Situation}
use Rattle.gx_core.proofs.KeptFacts.{bindings_fit_still, calls_keep_still}
use Rattle.gx_plan.specs.Fitting.{PartsKeepTheirTypes, FitsAt}
use Rattle.gx_plan.proofs.FittingBindings.{EachBelongs, each_still, branch_fits}
use Rattle.gx_plan.proofs.GivenFacts.{kept_gives, all_after, all_given, all_either}
use Rattle.gx_plan.proofs.PartsBefore.{AreBefore, next_before, taken_before, Binds, binds_next, binds_now}

-- ---- where evaluations stand

module _ (s : SchemaSet) (known : List FunctionSignature) (calls : CallOutcomes) (operator : Operator) (ts : List SequenceType) (types : Types)
    (start : Forest) where
  -- bindings that fit types, in an honest forest that has grown from the first one
  pub record Stands (here : Types) (bindings : Bindings) (now : Forest) : Type 0 where
    pub grown : Extends start now
    pub honest : IsHonest s now
    pub fits : Fits s now here bindings
    pub calls_keep : CallsKeepTypes (calling_setting s known calls) now

  pub stands_still : (here : Types) (bindings : Bindings) (now last : Forest) → Stands here bindings now → Extends now last → IsHonest s last
      → Stands here bindings last
  stands_still here bindings now last stands e honest = record {
    grown = growth_is_an_order.transitive start now last stands.grown e;
    honest = honest;
    fits = bindings_fit_still (calling_setting s known calls) here bindings now last e stands.fits;
    calls_keep = calls_keep_still (calling_setting s known calls) now last e stands.calls_keep;
  }

  abbrev pub situated : (here : Types) (bindings : Bindings) (now : Forest) → Stands here bindings now → Situation (calling_setting s known calls) here
  situated here bindings now stands =
      record { bindings = bindings; forest = now; honest = stands.honest; fits = stands.fits; calls_keep = stands.calls_keep }

  abbrev pub Fit : PartEvaluation → Type 0
  Fit evaluation = FitsAt (calling_setting s known calls) operator ts types start evaluation

  abbrev pub KeepsAt : Types → SequenceType → Denotation → Type 0
  KeepsAt here t part =
      (situation : Situation (calling_setting s known calls) here)
      → Keeps (calling_setting s known calls) situation.forest t (part situation.bindings situation.forest)

  pub one_fits : (before behind : List SequenceType) (number : ℕ) (bindings : Bindings) (now : Forest) → AreBefore ts before behind number
      → Stands (types_bound operator before ++ types) bindings now → Fit (evaluation_of_part number bindings now)
  one_fits before behind number bindings now a stands = record {
    grown = stands.grown;
    honest = stands.honest;
    fits = subst (λ (us : List SequenceType). Fits s now (types_bound operator us ++ types) bindings) (sym (taken_before ts before behind number a))
        stands.fits;
  }

  -- a part, and what is asked for behind it
  pub part_fits : (before behind : List SequenceType) (number : ℕ) (t : SequenceType) (part : Denotation) (bindings : Bindings) (now : Forest)
      (asked : Items → Forest → List PartEvaluation) → AreBefore ts before behind number
      → Stands (types_bound operator before ++ types) bindings now → KeepsAt (types_bound operator before ++ types) t part
      → ((xs : Items) (left : Forest) → Extends now left → IsHonest s left → Belongs s left xs t → AllByRecursion Fit (asked xs left))
      → AllByRecursion Fit (evaluation_of_part number bindings now ∷ evaluations_after (part bindings now) asked)
  part_fits before behind number t part bindings now asked a stands keeps h = (
    one_fits before behind number bindings now a stands,
    all_after s Fit now (IsOfType s t) (part bindings now) asked
        (kept_gives (calling_setting s known calls) now (IsOfType s t) (part bindings now)
        (keeps (situated (types_bound operator before ++ types) bindings now stands))) h,
  )

  -- ---- operands

  pub operands_fit : ((more : List SequenceType) → types_bound operator more ≡ []) → (before : List SequenceType) (number : ℕ) (ds : List Denotation) (us : List SequenceType)
      (bindings : Bindings) (now : Forest) → AreBefore ts before us number → Stands types bindings now
      → PartsKeepTheirTypes (calling_setting s known calls) operator before ds us types
      → AllByRecursion Fit (operand_evaluations number ds bindings now)
  operands_fit none before number [] us bindings now a stands keep = tt
  operands_fit none before number (d ∷ ds) [] bindings now a stands keep = absurd keep
  operands_fit none before number (d ∷ ds) (u ∷ us) bindings now a stands keep =
      part_fits before (u ∷ us) number u d bindings now (λ value left. operand_evaluations (suc number) ds bindings left) a
      (subst (λ (bound : Types). Stands (bound ++ types) bindings now) (sym (none before)) stands) keep.0
      (λ value left e honest belongs. operands_fit none (before ++ u ∷ []) (suc number) ds us bindings left (next_before ts before us u number a)
      (stands_still types bindings now left stands e honest) keep.1)

  -- ---- loops

  pub turns_fit : (before behind : List SequenceType) (number : ℕ) (u p : SequenceType) (body : Denotation) (bound : ℕ → Item → Bindings) (first : Forest)
      → AreBefore ts before behind number → KeepsAt (types_bound operator before ++ types) u body
      → ((turn : ℕ) (x : Item) (now : Forest) → Extends first now → IsHonest s now → Belongs s now (x ∷ []) p
      → Stands (types_bound operator before ++ types) (bound turn x) now)
      → (xs : Items) (turn : ℕ) (now : Forest) → Extends first now → IsHonest s now → EachBelongs s now p xs
      → AllByRecursion Fit (turn_evaluations number bound body turn xs now)
  turns_fit before behind number u p body bound first a keeps stands [] turn now grown honest all = tt
  turns_fit before behind number u p body bound first a keeps stands (x ∷ xs) turn now grown honest all =
      part_fits before behind number u body (bound turn x) now (λ more left. turn_evaluations number bound body (suc turn) xs left) a
      (stands turn x now grown honest all.0) keeps
      (λ more left e still belongs. turns_fit before behind number u p body bound first a keeps stands xs (suc turn) left
      (growth_is_an_order.transitive first now left grown e) still (each_still s now left p xs e all.1))

  pub search_fits : (before behind : List SequenceType) (number : ℕ) (u p : SequenceType) (test : Denotation) (decisive : Bool) (bound : Item → Bindings) (first : Forest)
      → AreBefore ts before behind number → KeepsAt (types_bound operator before ++ types) u test
      → ((x : Item) (now : Forest) → Extends first now → IsHonest s now → Belongs s now (x ∷ []) p
      → Stands (types_bound operator before ++ types) (bound x) now)
      → (xs : Items) (now : Forest) → Extends first now → IsHonest s now → EachBelongs s now p xs
      → AllByRecursion Fit (search_evaluations number decisive bound test xs now)
  search_fits before behind number u p test decisive bound first a keeps stands [] now grown honest all = tt
  search_fits before behind number u p test decisive bound first a keeps stands (x ∷ xs) now grown honest all =
      part_fits before behind number u test (bound x) now
      (λ ys left. evaluations_given (condition_of ys)
      (λ truth. if decides decisive truth then [] else search_evaluations number decisive bound test xs left)) a
      (stands x now grown honest all.0) keeps
      (λ ys left e still belongs. all_given Fit (condition_of ys)
      (λ truth. if decides decisive truth then [] else search_evaluations number decisive bound test xs left)
      (λ truth. all_either Fit (decides decisive truth) [] (search_evaluations number decisive bound test xs left) (λ ends. tt)
      (search_fits before behind number u p test decisive bound first a keeps stands xs left
      (growth_is_an_order.transitive first now left grown e) still (each_still s now left p xs e all.1))))

  -- ---- switches

  pub branches_fit : (default : ℕ) (t : SequenceType) (xs : Items) (bindings : Bindings) (now : Forest) → Stands types bindings now → Belongs s now xs t
      → (left : List TypeCase) (before : List SequenceType) (number : ℕ) (ds : List Denotation) (us : List SequenceType)
      → AreBefore ts before us number → Binds operator before (branch_types left default t)
      → PartsKeepTheirTypes (calling_setting s known calls) operator before ds us types
      → AllByRecursion Fit (branch_evaluations s left default number ds xs bindings now)
  branches_fit default t xs bindings now stands belongs [] before number [] us a b keep = tt
  branches_fit default t xs bindings now stands belongs [] before number (d ∷ []) us a b keep = (
    one_fits before us number (position_bound default xs ++ bindings) now a
        (subst (λ (bound : Types). Stands (bound ++ types) (position_bound default xs ++ bindings) now)
        (sym (binds_now operator before (branch_types [] default t) b)) (record {
          grown = stands.grown;
          honest = stands.honest;
          fits = branch_fits (calling_setting s known calls) default t xs types bindings now stands.fits belongs;
          calls_keep = stands.calls_keep;
        })),
    tt,
  )
  branches_fit default t xs bindings now stands belongs [] before number (d ∷ e ∷ ds) us a b keep = tt
  branches_fit default t xs bindings now stands belongs (case ∷ left) before number [] us a b keep = tt
  branches_fit default t xs bindings now stands belongs (case ∷ left) before number (d ∷ ds) [] a b keep = absurd keep
  branches_fit default t xs bindings now stands belongs (case ∷ left) before number (d ∷ ds) (u ∷ us) a b keep =
      all_either Fit (is_instance s now case.kind xs) (evaluation_of_part number (position_bound case.variable xs ++ bindings) now ∷ [])
      (branch_evaluations s left default (suc number) ds xs bindings now)
      (λ is. (
        one_fits before (u ∷ us) number (position_bound case.variable xs ++ bindings) now a
            (subst (λ (bound : Types). Stands (bound ++ types) (position_bound case.variable xs ++ bindings) now)
            (sym (binds_now operator before (branch_types (case ∷ left) default t) b)) (record {
              grown = stands.grown;
              honest = stands.honest;
              fits = branch_fits (calling_setting s known calls) case.variable case.kind xs types bindings now stands.fits
                  (instances_belong s now case.kind xs belongs.seen belongs.shaped is);
              calls_keep = stands.calls_keep;
            })),
        tt,
      ))
      (branches_fit default t xs bindings now stands belongs left (before ++ u ∷ []) (suc number) ds us (next_before ts before us u number a)
      (binds_next operator before (branch_types (case ∷ left) default t) u b) keep.1)
