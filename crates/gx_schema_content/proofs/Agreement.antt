-- Without disagreement each content has one type for a name.
use Rattle.std.proofs.Common.{◌≡◌, ℕ, zero, suc, ◌<◌, ◌≤◌, Bool, true, false, ◌||◌, not, inl, inr, List, [], ◌∷◌, length, Option, None, Some, if◌then◌else◌, refl, sym, ◌∙◌, ap, subst, arith}
use Rattle.std.specs.Prelude.{fold, ◌⊎◌}
use Rattle.std.specs.Bool.{IsTrue}
use Rattle.std.proofs.lemmas.Bool.{cases_Bool, cases_lt, true≢false}
use Rattle.std.proofs.lemmas.Option.{slice_get_past}
use Rattle.gx_base.specs.Name.{same_name}
use Rattle.gx_base.specs.declared.name.Name.{Name}
use Rattle.gx_base.specs.declared.type_name.TypeName.{TypeName}
use Rattle.gx_types.specs.SameItemType.{same_type_name}
use Rattle.gx_types.specs.Prime.{items_of}
use Rattle.gx_types.specs.SchemaInvariant.{DeclaresOneTypeAName, HoldsOfEach, have_one_type}
use Rattle.gx_types.specs.SequenceType.{SequenceType}
use Rattle.gx_types.specs.declared.item_type.ItemType.{ItemType}
use Rattle.gx_types.specs.declared.item_type.ItemType.TheVariants as items
use Rattle.gx_types.proofs.EqualNames.{names_are_equivalent, type_name_symm, type_name_trans}
use Rattle.gx_type_laws.proofs.Items.{each_item, items_weaker}
use Rattle.gx_references.specs.References.{meaning_within}
use Rattle.gx_schema_components.specs.declared.component.ModelGroup.{ModelGroup}
use Rattle.gx_schema_components.specs.declared.component.TypeComponent.{TypeComponent}
use Rattle.gx_schema_content.specs.declared.elements.ElementParticle.{ElementParticle}
use Rattle.gx_schema_content.specs.ContentKnots.{content_of_type}
use Rattle.gx_schema_content.specs.Disagreement.{disagrees, earlier_particle, first_disagreement, first_disagreement_below, first_kind, is_other_kind, or_disagreement}
use Rattle.gx_schema_content.specs.ElementKnots.{elements_of_group, elements_of_type}
use Rattle.gx_schema_content.specs.Elements.{type_elements}
use Rattle.gx_schema_content.specs.Knots.{all_end}
use Rattle.gx_schema_content.specs.Laws.{OneTypeAName}
use Rattle.gx_schema_content.specs.MixedContents.{model_of}
use Rattle.gx_schema_content.specs.Sources.{extended_types}
use Rattle.gx_schema_content.proofs.ContentItems.{HoldsElements, IsAmong, IsElementOf, type_holds}
use Rattle.gx_schema_content.proofs.KnotLemmas.{outside}
use Rattle.gx_schema_content.proofs.TypeItems.{items_mixed}

-- none of some element particles disagrees among all of a content
abbrev pub NoneDisagrees : List ElementParticle → List ElementParticle → Type 0
NoneDisagrees all elements = (element : ElementParticle) → IsAmong elements element → disagrees all element ≡ false

-- ---- what was not found

found_or_not : (test : Bool) (found : Option ElementParticle) (x : ElementParticle) → (if test then Some x else found) ≡ None → (test ≡ false) × (found ≡ None)
found_or_not true found x e = absurd (cc)
found_or_not false found x e = (refl, e)

none_noted : (all elements : List ElementParticle) (found : Option ElementParticle) → fold (or_disagreement all) found elements ≡ None → (found ≡ None) × NoneDisagrees all elements
none_noted all [] found e = (e, λ element here. absurd here)
none_noted all (x ∷ xs) found e =
    let later = none_noted all xs (or_disagreement all found x) e in
    let first = found_or_not (disagrees all x) found (earlier_particle found x) later.0 in (
      first.1,
      λ element here. elim here [
        | inl same ↦ sym (ap (disagrees all) same) ∙ first.0
        | inr behind ↦ later.1 element behind
      ],
    )

none_below : (contents : ℕ → List ElementParticle) (count : ℕ) → first_disagreement_below contents count ≡ None → (number : ℕ) → number < count → NoneDisagrees (contents number) (contents number)
none_below contents zero e number within = absurd (omega arith)
none_below contents (suc count) e number within =
    let last = none_noted (contents count) (contents count) (first_disagreement_below contents count) e in
    elim (cases_lt number count) [
      | inl below ↦ none_below contents count last.0 number below
      | inr above ↦ let here : count ≡ number = omega arith in subst (λ (n : ℕ). NoneDisagrees (contents n) (contents n)) here last.1
    ]

nothing_outside : (types : List TypeComponent) (groups : List ModelGroup) (number : ℕ) → length types ≤ number → elements_of_type types groups number ≡ []
unfolding elements_of_type
nothing_outside types groups number past =
    let meant = type_elements (elements_of_group groups) in
    let empty = outside meant [] types (length types) number (slice_get_past types number past) in
    elim (all_end extended_types types) as (λ (test : Bool). (if test then meaning_within meant [] types (length types) number else []) ≡ []) [ true ↦ empty | false ↦ refl ]

none_in_type : (types : List TypeComponent) (groups : List ModelGroup) → first_disagreement types groups ≡ None → (number : ℕ) → NoneDisagrees (elements_of_type types groups number) (elements_of_type types groups number)
unfolding first_disagreement
none_in_type types groups e number = elim (cases_lt number (length types)) [
  | inl within ↦ none_below (elements_of_type types groups) (length types) e number within
  | inr past ↦ subst (λ (elements : List ElementParticle). NoneDisagrees elements elements) (sym (nothing_outside types groups number past)) (λ element here. absurd here)
]

-- ---- one type a name

name_itself : (name : Name) → same_name name name ≡ true
name_itself name = names_are_equivalent.refl name

same_first : (elements : List ElementParticle) (a b : Name) → same_name a b ≡ true → first_kind elements a ≡ first_kind elements b
same_first [] a b e = refl
same_first (element ∷ elements) a b e =
    let test : same_name element.name a ≡ same_name element.name b =
    names_are_equivalent.symm element.name a ∙ names_are_equivalent.congr a b element.name e ∙ names_are_equivalent.symm b element.name in
    ap (λ (t : Bool). if t then Some element.kind else first_kind elements a) test
    ∙ ap (λ (found : Option TypeName). if same_name element.name b then Some element.kind else found) (same_first elements a b e)

found_first : (elements : List ElementParticle) (element : ElementParticle) → IsAmong elements element → (kind : TypeName) × (first_kind elements element.name ≡ Some kind)
found_first [] element here = absurd here
found_first (x ∷ xs) element here = elim (cases_Bool (same_name x.name element.name)) [
  | inl same ↦ (x.kind, ap (λ (t : Bool). if t then Some x.kind else first_kind xs element.name) same)
  | inr differs ↦ elim here [
    | inl is ↦ absurd (true≢false (sym (ap (λ (y : ElementParticle). same_name y.name element.name) is ∙ name_itself element.name) ∙ differs))
    | inr behind ↦
        let (kind, found) = found_first xs element behind in
        (kind, ap (λ (t : Bool). if t then Some x.kind else first_kind xs element.name) differs ∙ found)
  ]
]

not_false : (test : Bool) → not test ≡ false → test ≡ true
not_false true e = refl
not_false false e = absurd (true≢false e)

agrees_with : (elements : List ElementParticle) (element : ElementParticle) (kind : TypeName) → disagrees elements element ≡ false → first_kind elements element.name ≡ Some kind → same_type_name kind element.kind ≡ true
agrees_with elements element kind agrees found =
    not_false (same_type_name kind element.kind) (sym (ap (λ (first : Option TypeName). is_other_kind first element.kind) found) ∙ agrees)

one_kind : (elements : List ElementParticle) → NoneDisagrees elements elements → (a b : ElementParticle) → IsAmong elements a → IsAmong elements b → same_name a.name b.name ≡ true → same_type_name a.kind b.kind ≡ true
one_kind elements agree a b here there same =
    let (kind, found) = found_first elements a here in
    let first = agrees_with elements a kind (agree a here) found in
    let second = agrees_with elements b kind (agree b there) (sym (same_first elements a.name b.name same) ∙ found) in
    type_name_trans a.kind kind b.kind (type_name_symm kind a.kind first) second

either_way : (test other : Bool) → (test ≡ true → other ≡ true) → (not test || other) ≡ true
either_way true other h = h refl
either_way false other h = refl

-- an item is an element of the particles, or a text
abbrev pub IsElementOrText : List ElementParticle → ItemType → Type 0
IsElementOrText elements kind = IsElementOf elements kind ⊎ (kind ≡ items.Text)

have_one : (elements : List ElementParticle) → NoneDisagrees elements elements → (first second : ItemType) → IsElementOrText elements first → IsElementOrText elements second → have_one_type first second ≡ true
have_one elements agree first second (inl h) (inl k) =
    let (a, here, is_a) = h in
    let (b, there, is_b) = k in
    ap (λ (i : ItemType). have_one_type i second) is_a ∙ ap (λ (i : ItemType). have_one_type (items.Element (Some a.name) a.kind) i) is_b
    ∙ either_way (same_name a.name b.name) (same_type_name a.kind b.kind) (one_kind elements agree a b here there)
have_one elements agree first second (inl h) (inr k) =
    let (a, here, is_a) = h in
    ap (λ (i : ItemType). have_one_type i second) is_a ∙ ap (λ (i : ItemType). have_one_type (items.Element (Some a.name) a.kind) i) k
have_one elements agree first second (inr h) k = ap (λ (i : ItemType). have_one_type i second) h

one_with_each : (elements : List ElementParticle) → NoneDisagrees elements elements → (first : ItemType) → IsElementOrText elements first → (others : List ItemType) → HoldsOfEach (IsElementOrText elements) others →
    HoldsOfEach (λ (other : ItemType). IsTrue (have_one_type first other)) others
one_with_each elements agree first h [] k = tt
one_with_each elements agree first h (second ∷ others) k = (have_one elements agree first second h k.0, one_with_each elements agree first h others k.1)

declares_one : (elements : List ElementParticle) → NoneDisagrees elements elements → (kinds : List ItemType) → HoldsOfEach (IsElementOrText elements) kinds → DeclaresOneTypeAName kinds
declares_one elements agree [] h = tt
declares_one elements agree (first ∷ others) h = (one_with_each elements agree first h.0 others h.1, declares_one elements agree others h.1)

model_items : (elements : List ElementParticle) (mixed : Bool) (t : SequenceType) → HoldsElements elements t → HoldsOfEach (IsElementOrText elements) (items_of (model_of mixed t))
model_items elements true t h =
    each_item (IsElementOrText elements) (model_of true t) (items_mixed (IsElementOrText elements) (inr refl) t (items_weaker (IsElementOf elements) (IsElementOrText elements) (λ kind it. inl it) t h))
model_items elements false t h = each_item (IsElementOrText elements) t (items_weaker (IsElementOf elements) (IsElementOrText elements) (λ kind it. inl it) t h)

pub one_type_a_name : OneTypeAName
one_type_a_name types groups e mixed number =
    let elements = elements_of_type types groups number in
    declares_one elements (none_in_type types groups e number) (items_of (model_of mixed (content_of_type types groups number).content))
    (model_items elements mixed (content_of_type types groups number).content (type_holds types groups number))
