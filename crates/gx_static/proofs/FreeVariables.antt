-- Typing looks at no variables but those that an expression names and does not bind.
use Rattle.std.proofs.Common.{◌≡◌, ℕ, Bool, true, false, ◌&&◌, ◌||◌, List, [], ◌∷◌, ◌++◌, Option, Some, refl, sym, ◌∙◌, ap, subst, nat_eq, if◌then◌else◌}
use Rattle.std.specs.Prelude.{not}
use Rattle.std.proofs.lemmas.Bool.{and_from, or_left, or_right, not_from_false, eqb-true, eq-eqb, ne_eqb}
use Rattle.gx_types.specs.SchemaSet.{SchemaSet}
use Rattle.gx_types.specs.SequenceType.{SequenceType}
use Rattle.gx_model.specs.Item.{Items}
use Rattle.gx_core.specs.declared.operator.Operator.{Operator}
use Rattle.gx_core.specs.declared.operator.Operator.TheVariants as operators
use Rattle.gx_core.specs.Expression.{CoreExpression, At, Parts, no_parts, a_part, each_of, annotation_of}
use Rattle.gx_core.specs.Bindings.{look_up, Types, types_bound, numbers_bound_by}
use Rattle.gx_core.specs.FreeVariables.{names_variable, is_free_in, is_free_in_parts}
use Rattle.gx_core.specs.Invariant.{is_among}
use Rattle.gx_core.specs.Outcome.{Outcome}
use Rattle.gx_core.specs.Meaning.{meaning}
use Rattle.gx_core.specs.Soundness.{TypedExpression, Setting, calling_setting, context_of, Keeps, Situation}
use Rattle.gx_core.proofs.PlainMeaning.{meaning_looks_at_no_type}
use Rattle.gx_static.specs.Rule.{step_ruling, variable_ruling, ruling}
use Rattle.gx_static.specs.Judgement.{typed, with_typed, concluded, judged, parts_judged}
use Rattle.gx_static.specs.Laws.{TypingIsSoundOnFreeVariables}
use Rattle.gx_static.proofs.ScopedVariables.{in_scope, places_of, numbers_agree, one_more_place}
use Rattle.gx_static.proofs.CalledTyping.{calls_with_types, keeps_its_type}
use Rattle.gx_static.proofs.SoundTyping.{sound}

-- ---- variables behind those that an operator binds

joined_same : (bound types others : Types) (number : ℕ) → (is_among (in_scope bound) number ≡ false → look_up types number ≡ look_up others number) → look_up (bound ++ types) number ≡ look_up (bound ++ others) number
joined_same [] types others number h = h refl
joined_same (b ∷ bound) types others number h =
    elim (nat_eq b.0 number) as (λ (same : Bool). ((same || is_among (in_scope bound) number) ≡ false → look_up types number ≡ look_up others number)
    → (if same then Some b.1 else look_up (bound ++ types) number) ≡ (if same then Some b.1 else look_up (bound ++ others) number)) [
      | true ↦ λ k. refl
      | false ↦ λ k. joined_same bound types others number k
    ] h

-- ---- the judgement

same_ruling : (s : SchemaSet) (operator : Operator) (ts : List SequenceType) (types others : Types) → ((number : ℕ) → names_variable operator number ≡ true → look_up types number ≡ look_up others number)
    → ruling s operator ts types ≡ ruling s operator ts others
same_ruling s (operators.Var number) [] types others h = ap (λ (found : Option SequenceType). variable_ruling s number found) (h number (eq-eqb number number refl))
same_ruling s (operators.Var number) (t ∷ ts) types others h = refl
same_ruling s (operators.Step axis asks number) [] types others h = ap (λ (found : Option SequenceType). step_ruling s axis asks number found) (h number (eq-eqb number number refl))
same_ruling s (operators.Step axis asks number) (t ∷ ts) types others h = refl
same_ruling s _ ts types others h = refl

mutual
  same_judgement : (s : SchemaSet) (e : CoreExpression) (types others : Types) → ((number : ℕ) → is_free_in e number ≡ true → look_up types number ≡ look_up others number) → judged s e types ≡ judged s e others
  same_judgement s (At place outer tt operator parts) types others agree =
      let p = same_parts s operator [] parts types others (λ number h. agree number (or_right (names_variable operator number) (is_free_in_parts operator [] parts number) h)) in
      let r : (ts : Parts SequenceType) → ruling s operator (each_of annotation_of ts) types ≡ ruling s operator (each_of annotation_of ts) others =
      λ ts. same_ruling s operator (each_of annotation_of ts) types others (λ number h. agree number (or_left (names_variable operator number) (is_free_in_parts operator [] parts number) h)) in
      λ i. with_typed (p i) (λ ts. concluded place outer operator ts (r ts i))

  same_parts : (s : SchemaSet) (operator : Operator) (before : List SequenceType) (parts : Parts (Unit {0})) (types others : Types)
      → ((number : ℕ) → is_free_in_parts operator (places_of before) parts number ≡ true → look_up types number ≡ look_up others number) → parts_judged s operator before parts types ≡ parts_judged s operator before parts others
  same_parts s operator before no_parts types others agree = refl
  same_parts s operator before (a_part first rest) types others agree =
      let bound : Types = types_bound operator before in
      let free : ℕ → Bool = λ number. not (is_among (numbers_bound_by operator (places_of before)) number) && is_free_in first number in
      let p = same_judgement s first (bound ++ types) (bound ++ others)
      (λ number h. joined_same bound types others number
      (λ apart. agree number (or_left (free number) (is_free_in_parts operator (places_of before ++ tt ∷ []) rest number)
      (and_from (not (is_among (numbers_bound_by operator (places_of before)) number)) (is_free_in first number)
      (not_from_false (is_among (numbers_bound_by operator (places_of before)) number) (subst (λ (ns : List ℕ). is_among ns number ≡ false) (numbers_agree operator before) apart)) h)))) in
      let q : (t : TypedExpression) → parts_judged s operator (before ++ annotation_of t ∷ []) rest types ≡ parts_judged s operator (before ++ annotation_of t ∷ []) rest others =
      λ t. same_parts s operator (before ++ annotation_of t ∷ []) rest types others
      (λ number h. agree number (or_right (free number) (is_free_in_parts operator (places_of before ++ tt ∷ []) rest number)
      (subst (λ (places : List (Unit {0})). is_free_in_parts operator places rest number ≡ true) (sym (one_more_place before (annotation_of t))) h))) in
      λ i. with_typed (p i) (λ t. with_typed (q t i) (λ ts. typed (a_part t ts)))

-- ---- the types of some variables alone

abbrev kept : (ℕ → Bool) → Types → Types
kept keep [] = []
kept keep (b ∷ types) = if keep b.0 then b ∷ kept keep types else kept keep types

kept_found : (keep : ℕ → Bool) (types : Types) (number : ℕ) → keep number ≡ true → look_up types number ≡ look_up (kept keep types) number
kept_found keep [] number h = refl
kept_found keep (b ∷ types) number h = by (kept_found keep types number h) (keep b.0) refl
  where
    apart : keep b.0 ≡ false → nat_eq b.0 number ≡ false
    apart e = ne_eqb b.0 number (λ same. let other : keep number ≡ false = subst (λ (n : ℕ). keep n ≡ false) same e in cc)

    by : look_up types number ≡ look_up (kept keep types) number → (here : Bool) → keep b.0 ≡ here → look_up (b ∷ types) number ≡ look_up (if here then b ∷ kept keep types else kept keep types) number
    by rest true e = ap (λ (o : Option SequenceType). if nat_eq b.0 number then Some b.1 else o) rest
    by rest false e = ap (λ (same : Bool). if same then Some b.1 else look_up types number) (apart e) ∙ rest

kept_only : (keep : ℕ → Bool) (types : Types) (number : ℕ) (t : SequenceType) → look_up (kept keep types) number ≡ Some t → keep number ≡ true
kept_only keep [] number t e = absurd (cc)
kept_only keep (b ∷ types) number t e = by (λ f. kept_only keep types number t f) (keep b.0) refl e
  where
    here : (look_up (kept keep types) number ≡ Some t → keep number ≡ true) → keep b.0 ≡ true → (same : Bool) → nat_eq b.0 number ≡ same → (if same then Some b.1 else look_up (kept keep types) number) ≡ Some t → keep number ≡ true
    here rest k true same f = subst (λ (n : ℕ). keep n ≡ true) (eqb-true b.0 number same) k
    here rest k false same f = rest f

    by : (look_up (kept keep types) number ≡ Some t → keep number ≡ true) → (there : Bool) → keep b.0 ≡ there → look_up (if there then b ∷ kept keep types else kept keep types) number ≡ Some t → keep number ≡ true
    by rest true k f = here rest k (nat_eq b.0 number) refl f
    by rest false k f = rest f

pub typing_is_sound_on_free_variables : TypingIsSoundOnFreeVariables
typing_is_sound_on_free_variables s e types t known calls bindings forest is j all honest calls_keep fits =
    let setting : Setting = calling_setting s known calls in
    let named : Types = kept (is_free_in e) types in
    let again : judged s e named ≡ typed t = sym (same_judgement s e types named (λ number h. kept_found (is_free_in e) types number h)) ∙ j in
    let h = sound s e named t is again in
    let situation : Situation setting named = record {
      bindings = bindings;
      forest = forest;
      honest = honest;
      fits = λ number u found. let free = kept_only (is_free_in e) types number u found in fits number u free (kept_found (is_free_in e) types number free ∙ found);
      calls_keep = calls_keep;
    } in
    subst (λ (c : CoreExpression). Keeps setting forest (annotation_of t) (meaning (context_of setting) c bindings forest)) h.same
    (subst (λ (o : Outcome Items). Keeps setting forest (annotation_of t) o) (sym (meaning_looks_at_no_type (context_of setting) t bindings forest)) (keeps_its_type setting t named (h.sound known calls (calls_with_types known t e h.same all)) situation))
