-- Expressions are judged the same where those variables alone that they name have types.
use Rattle.std.proofs.Common.{◌≡◌, ℕ, Bool, true, false, ◌&&◌, ◌||◌, List, [], ◌∷◌, ◌++◌, Option, Some, refl, sym, ◌∙◌, ap, subst, nat_eq, if◌then◌else◌}
use Rattle.std.specs.Prelude.{not}
use Rattle.std.proofs.lemmas.Bool.{and_from, or_left, or_right, not_from_false, eq-eqb, ne_eqb}
use Rattle.gx_types.specs.SchemaSet.{SchemaSet}
use Rattle.gx_types.specs.SequenceType.{SequenceType}
use Rattle.gx_core.specs.declared.operator.Operator.{Operator}
use Rattle.gx_core.specs.declared.operator.Operator.TheVariants as operators
use Rattle.gx_core.specs.Expression.{Expression, CoreExpression, At, Parts, no_parts, a_part, each_of, annotation_of, plain}
use Rattle.gx_core.specs.Bindings.{look_up, Types, types_bound, numbers_bound_by}
use Rattle.gx_core.specs.FreeVariables.{names_variable, is_free_in, is_free_in_parts}
use Rattle.gx_core.specs.Invariant.{is_among}
use Rattle.gx_core.specs.Soundness.{TypedExpression}
use Rattle.gx_static.specs.Rule.{step_ruling, variable_ruling, ruling}
use Rattle.gx_static.specs.Judgement.{typed, with_typed, concluded, judged, parts_judged}
use Rattle.gx_static.proofs.ScopedVariables.{in_scope, places_of, numbers_agree, one_more_place}
use Rattle.gx_static.proofs.CalledTyping.{free_without_types}
use Rattle.gx_plan.specs.FullSoundness.{types_named}
use Rattle.gx_sound_typing.proofs.TypedTrees.{HasItsTypes, types_are_judged, judged_has_types}

-- ---- the judgement (these four stand in gx_static/proofs/FreeVariables too)

joined_same : (bound types others : Types) (number : ℕ) → (is_among (in_scope bound) number ≡ false → look_up types number ≡ look_up others number) → look_up (bound ++ types) number ≡ look_up (bound ++ others) number
joined_same [] types others number h = h refl
joined_same (b ∷ bound) types others number h =
    elim (nat_eq b.0 number) as (λ (same : Bool). ((same || is_among (in_scope bound) number) ≡ false → look_up types number ≡ look_up others number)
    → (if same then Some b.1 else look_up (bound ++ types) number) ≡ (if same then Some b.1 else look_up (bound ++ others) number)) [
      | true ↦ λ k. refl
      | false ↦ λ k. joined_same bound types others number k
    ] h

same_ruling : (s : SchemaSet) (operator : Operator) (ts : List SequenceType) (types others : Types) → ((number : ℕ) → names_variable operator number ≡ true → look_up types number ≡ look_up others number)
    → ruling s operator ts types ≡ ruling s operator ts others
same_ruling s (operators.Var number) [] types others h = ap (λ (found : Option SequenceType). variable_ruling s number found) (h number (eq-eqb number number refl))
same_ruling s (operators.Var number) (t ∷ ts) types others h = refl
same_ruling s (operators.Step axis asks number) [] types others h = ap (λ (found : Option SequenceType). step_ruling s axis asks number found) (h number (eq-eqb number number refl))
same_ruling s (operators.Step axis asks number) (t ∷ ts) types others h = refl
same_ruling s _ ts types others h = refl

mutual
  same_judgement : (s : SchemaSet) (e : CoreExpression) (types others : Types) → ((number : ℕ) → is_free_in e number ≡ true → look_up types number ≡ look_up others number) → judged s e types ≡ judged s e others
  same_judgement s (At place outer tt operator parts) types others agree =
      let p = same_parts s operator [] parts types others (λ number h. agree number (or_right (names_variable operator number) (is_free_in_parts operator [] parts number) h)) in
      let r : (ts : Parts SequenceType) → ruling s operator (each_of annotation_of ts) types ≡ ruling s operator (each_of annotation_of ts) others =
      λ ts. same_ruling s operator (each_of annotation_of ts) types others (λ number h. agree number (or_left (names_variable operator number) (is_free_in_parts operator [] parts number) h)) in
      λ i. with_typed (p i) (λ ts. concluded place outer operator ts (r ts i))

  same_parts : (s : SchemaSet) (operator : Operator) (before : List SequenceType) (parts : Parts (Unit {0})) (types others : Types)
      → ((number : ℕ) → is_free_in_parts operator (places_of before) parts number ≡ true → look_up types number ≡ look_up others number) → parts_judged s operator before parts types ≡ parts_judged s operator before parts others
  same_parts s operator before no_parts types others agree = refl
  same_parts s operator before (a_part first rest) types others agree =
      let bound : Types = types_bound operator before in
      let free : ℕ → Bool = λ number. not (is_among (numbers_bound_by operator (places_of before)) number) && is_free_in first number in
      let p = same_judgement s first (bound ++ types) (bound ++ others)
      (λ number h. joined_same bound types others number
      (λ apart. agree number (or_left (free number) (is_free_in_parts operator (places_of before ++ tt ∷ []) rest number)
      (and_from (not (is_among (numbers_bound_by operator (places_of before)) number)) (is_free_in first number)
      (not_from_false (is_among (numbers_bound_by operator (places_of before)) number) (subst (λ (ns : List ℕ). is_among ns number ≡ false) (numbers_agree operator before) apart)) h)))) in
      let q : (t : TypedExpression) → parts_judged s operator (before ++ annotation_of t ∷ []) rest types ≡ parts_judged s operator (before ++ annotation_of t ∷ []) rest others =
      λ t. same_parts s operator (before ++ annotation_of t ∷ []) rest types others
      (λ number h. agree number (or_right (free number) (is_free_in_parts operator (places_of before ++ tt ∷ []) rest number)
      (subst (λ (places : List (Unit {0})). is_free_in_parts operator places rest number ≡ true) (sym (one_more_place before (annotation_of t))) h))) in
      λ i. with_typed (p i) (λ t. with_typed (q t i) (λ ts. typed (a_part t ts)))

-- ---- the types of the variables that an expression names

named_found : {A : Type 0} (e : Expression A) (types : Types) (number : ℕ) → is_free_in e number ≡ true → look_up types number ≡ look_up (types_named e types) number
named_found e [] number h = refl
named_found e (b ∷ types) number h = by (named_found e types number h) (is_free_in e b.0) refl
  where
    apart : is_free_in e b.0 ≡ false → nat_eq b.0 number ≡ false
    apart f = ne_eqb b.0 number (λ same. let other : is_free_in e number ≡ false = subst (λ (n : ℕ). is_free_in e n ≡ false) same f in cc)

    by : look_up types number ≡ look_up (types_named e types) number → (here : Bool) → is_free_in e b.0 ≡ here
        → look_up (b ∷ types) number ≡ look_up (if here then b ∷ types_named e types else types_named e types) number
    by rest true f = ap (λ (o : Option SequenceType). if nat_eq b.0 number then Some b.1 else o) rest
    by rest false f = ap (λ (same : Bool). if same then Some b.1 else look_up types number) (apart f) ∙ rest

pub types_where_named : (s : SchemaSet) (t : TypedExpression) (types : Types) → HasItsTypes s t types → HasItsTypes s t (types_named t types)
types_where_named s t types h =
    judged_has_types s t (types_named t types)
    (sym (same_judgement s (plain t) types (types_named t types) (λ number free. named_found t types number (sym (free_without_types t number) ∙ free)))
    ∙ types_are_judged s t types h)
