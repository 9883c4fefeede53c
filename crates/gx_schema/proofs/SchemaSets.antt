-- What files declare keeps to what declarations keep to.
use Rattle.std.proofs.Common.{[], ap, arith, Bool, false, if◌then◌else◌, length, List, map, None, Option, refl, slice_get, slice_index_or, Some, subst, suc, sym, true, zero, ℕ, ◌||◌, ◌∙◌, ◌∷◌, ◌≡◌}
use Rattle.std.specs.Prelude.{is_some, option_map}
use Rattle.std.specs.Bool.{IsTrue}
use Rattle.std.specs.List.{flat_map, list_any}
use Rattle.gx_base.specs.Name.{same_name}
use Rattle.gx_base.specs.declared.name.Name.{Name}
use Rattle.gx_base.specs.declared.type_name.TypeName.{TypeName}
use Rattle.gx_base.specs.declared.type_name.TypeName.TheVariants as names
use Rattle.std.proofs.lemmas.Option.{get_or_from_slice_get, slice_get-map}
use Rattle.gx_types.proofs.EqualNames.{type_name_itself}
use Rattle.gx_types.specs.SameItemType.{same_type_name}
use Rattle.gx_types.specs.SchemaSet.{SchemaSet, declaration_of}
use Rattle.gx_types.specs.Prime.{items_of}
use Rattle.gx_types.specs.SchemaInvariant.{AreDistinctBy, HoldsOfEach, IsModelItem, IsSchemaSet, is_built_in, is_named_type, is_simple_type}
use Rattle.gx_types.specs.declared.declaration.AttributeUse.{AttributeUse}
use Rattle.gx_types.specs.declared.item_type.ItemType.{ItemType}
use Rattle.gx_types.specs.declared.item_type.ItemType.TheVariants as items
use Rattle.gx_types.specs.declared.declaration.GlobalElement.{GlobalElement}
use Rattle.gx_schema_syntax.specs.declared.written.GlobalDeclaration.{GlobalDeclaration}
use Rattle.gx_schema_syntax.specs.declared.written.GlobalDeclaration.TheVariants.{Element, Attribute, Group, AttributeGroup}
use Rattle.gx_schema_syntax.specs.declared.written.TypeReference.{TypeReference}
use Rattle.gx_schema_syntax.specs.declared.written.TypeReference.TheVariants as types
use Rattle.gx_schema_syntax.specs.declared.written.TypeDeclaration.{TypeDeclaration}
use Rattle.gx_schema_syntax.specs.DocumentTree.{DocumentTree}
use Rattle.gx_schema_components.specs.declared.mention.ComponentKind.TheVariants as kinds
use Rattle.gx_schema_components.specs.Components.{declared_element, definitions_by, first_inner, globals_of}
use Rattle.gx_schema_components.specs.DeclaredNames.{declarations_in, declared_number, first_type_from, names_of_kind, type_names_in, types_in}
use Rattle.gx_schema_components.specs.Mentions.{global_mentions, type_declaration_mentions}
use Rattle.gx_schema_components.specs.Referred.{type_numbered, unknown_type}
use Rattle.gx_schema_components.specs.Unknown.{unknown_name}
use Rattle.gx_schema_attributes.specs.AttributeKinds.{attribute_kinds}
use Rattle.gx_schema_attributes.specs.Doubled.{first_doubled}
use Rattle.gx_schema_attributes.specs.Laws.{KindsAreWritten, UsesAreDistinct}
use Rattle.gx_schema_attributes.specs.TypeUses.{uses_of_type}
use Rattle.gx_schema_content.specs.ContentKnots.{content_of_type}
use Rattle.gx_schema_content.specs.Disagreement.{first_disagreement}
use Rattle.gx_schema_content.specs.ElementKinds.{element_kinds}
use Rattle.gx_schema_content.specs.Laws.{ElementsKeep, IsPassingItem, OneTypeAName}
use Rattle.gx_schema_content.specs.MixedContents.{model_of}
use Rattle.gx_schema_simple.specs.Circles.{is_circular}
use Rattle.gx_schema_simple.specs.CircularTypes.{first_circular}
use Rattle.gx_schema_simple.specs.Forms.{references_of}
use Rattle.gx_schema_simple.specs.Faults.{first_type_fault, simple_faults}
use Rattle.gx_schema_simple.specs.Laws.{NoFirstFault, NoneIsCircular, VarietiesSolve}
use Rattle.gx_schema.specs.Doubled.{doubled_declared_name, doubled_of_kind, doubled_type, doubled_type_name}
use Rattle.gx_schema.specs.Found.{found_by_number, globals_found, types_found}
use Rattle.gx_schema.specs.Import.{declares, unless_broken, found_in_file, documents_judged, unknown_found}
use Rattle.gx_schema.specs.Circular.{circular, circular_attribute_group, circular_group, circular_type}
use Rattle.gx_schema.specs.DerivationFaults.{first_derivation_fault}
use Rattle.gx_schema.specs.FirstFound.{earlier_found}
use Rattle.gx_schema.specs.Inconsistent.{extension_found, disagreeing_element, doubled_attribute, doubled_declaration, faulty_complex_type, faulty_declaration, faulty_derivation, faulty_type, found_attribute, found_fault, found_particle, inconsistent}
use Rattle.gx_schema.specs.SeenComponents.{seen_components, type_components}
use Rattle.gx_schema.specs.TooLarge.{too_large}
use Rattle.gx_schema.specs.SchemaTypes.{schema_element, schemas_written, type_forms}
use Rattle.gx_schema.specs.TypeNumbers.{first_type_number, type_number_from}
use Rattle.gx_schema.specs.declared.refusal.SchemaRule.TheVariants.{UnknownName, Inconsistent, Circular, TooLarge}
use Rattle.gx_schema.proofs.DistinctNames.{names_are_distinct, types_are_distinct}
use Rattle.gx_schema.proofs.Lists.{all_pass, each_passes, holds_at, holds_both, mapped_none}
use Rattle.gx_schema.proofs.NothingFound.{Refers, everything_refers, none_found, rest_told}
use Rattle.gx_schema.proofs.NumberedTypes.{IsReadType, as_many_forms, forms_of_documents, found_type_name, names_of_documents, number_of_reference}
use Rattle.gx_schema.proofs.DerivationLemmas.{simple_bases_fit}
use Rattle.gx_schema.proofs.SimpleDeclarations.{simple_by_number}
use Rattle.gx_schema.proofs.SimpleForms.{AreReadTypes, HeldByTypes, HoldWhatFits, IsReadForm}
use Rattle.gx_schema.proofs.SimpleTypes.{declared_where_numbered, types_fit}
use Rattle.std.specs.Option.{option_map_or}
use Rattle.std.proofs.lemmas.List.{length-map}
use Rattle.gx_schema.specs.AttributeTypes.{complex_attribute_type, is_complex_number}
use Rattle.gx_schema.specs.Occurrences.{disordered_bounds}
use Rattle.gx_schema.proofs.ComponentKinds.{AreWritten, Becomes, attributes_keep_in, elements_keep_in}
use Rattle.gx_schema.proofs.Declarations.{element_at}
use Rattle.gx_schema.proofs.EarlierFound.{left_none, right_none}
use Rattle.gx_schema.proofs.ReadDeclarations.{HoldsGlobal, IsAttributeType, IsElementType, IsEverythingRead, IsReadDeclaration, any_definition, is_anonymous, is_simple_definition}
use Rattle.gx_schema.proofs.SimpleAttributes.{Both, IsNotComplexType, IsSimpleAt, form_is_simple, simple_at, simple_attributes, simple_of_number}

-- ---- nothing is inconsistent

one_set : (one other : SchemaSet) → declares one ≡ declares other → other ≡ one
one_set one other e = cc

one_name : (one other : TypeName) → ◌≡◌ {A = Option TypeName} (Some one) (Some other) → one ≡ other
one_name one other e = cc

-- the laws of types, of contents and of attributes
pub record Laws : Type 0 where
  pub solve : VarietiesSolve
  pub circles : NoneIsCircular
  pub faults : NoFirstFault
  pub one_type : OneTypeAName
  pub kinds : ElementsKeep
  pub distinct : UsesAreDistinct
  pub uses : KindsAreWritten

-- what documents without a broken rule keep to
record IsJudged (documents : List DocumentTree) : Type 0 where
  read : IsEverythingRead documents
  known : unknown_name documents ≡ None
  doubled_types : doubled_type_name (type_names_in documents) ≡ None
  doubled_elements : doubled_declared_name (names_of_kind kinds.ElementDeclaration (declarations_in documents)) ≡ None
  faults : first_type_fault (simple_faults (type_forms documents)) ≡ None
  circles : first_circular (type_forms documents) ≡ None
  derivations : first_derivation_fault (type_forms documents) 0 (seen_components documents).types ≡ None
  elements : first_disagreement (seen_components documents).types (seen_components documents).groups ≡ None
  attributes : first_doubled (seen_components documents).types (seen_components documents).attribute_groups ≡ None
  attribute_types : complex_attribute_type documents ≡ None

is_judged : (documents : List DocumentTree) (schemas : SchemaSet) → IsEverythingRead documents → documents_judged documents ≡ declares schemas → IsJudged documents × (schemas ≡ schemas_written documents)
is_judged documents schemas read e =
    let forms = type_forms documents in
    let seen = seen_components documents in
    let doubled = doubled_of_kind documents in
    let written = declares (schemas_written documents) in
    let fifth = unless_broken TooLarge (option_map found_in_file (too_large documents seen)) written in
    let fourth = unless_broken Circular (option_map found_in_file (circular documents forms)) fifth in
    let third = unless_broken Inconsistent (option_map found_in_file (inconsistent documents forms seen)) fourth in
    let e3 = rest_told UnknownName (option_map unknown_found (unknown_name documents)) third schemas e in
    let e4 = rest_told Inconsistent (option_map found_in_file (inconsistent documents forms seen)) fourth schemas e3 in
    let e5 = rest_told Circular (option_map found_in_file (circular documents forms)) fifth schemas e4 in
    let e6 = rest_told TooLarge (option_map found_in_file (too_large documents seen)) written schemas e5 in
    let agree = mapped_none found_in_file (inconsistent documents forms seen) (none_found Inconsistent (option_map found_in_file (inconsistent documents forms seen)) fourth schemas e3) in
    let complex = faulty_complex_type documents forms seen in
    let simple = faulty_type documents forms in
    let single_faults = earlier_found simple (faulty_declaration documents) in
    let single = left_none (doubled_declaration documents) (earlier_found complex single_faults) agree in
    let no_fault = right_none (doubled_declaration documents) (earlier_found complex single_faults) agree in
    let no_complex = left_none complex single_faults no_fault in
    let no_single = right_none complex single_faults no_fault in
    let sound = left_none simple (faulty_declaration documents) no_single in
    let at_attribute = doubled_attribute documents seen in
    let at_element = disagreeing_element documents seen in
    let of_base = earlier_found (extension_found documents seen) (faulty_derivation documents forms seen) in
    let no_member = right_none at_attribute (earlier_found at_element of_base) no_complex in
    let no_derivation = right_none (extension_found documents seen) (faulty_derivation documents forms seen) (right_none at_element of_base no_member) in
    let others = earlier_found (doubled kinds.AttributeDeclaration) (earlier_found (doubled kinds.GroupDefinition) (doubled kinds.AttributeGroupDefinition)) in
    let one_type = left_none (doubled_type documents) (earlier_found (doubled kinds.ElementDeclaration) others) single in
    let one_element = left_none (doubled kinds.ElementDeclaration) others (right_none (doubled_type documents) (earlier_found (doubled kinds.ElementDeclaration) others) single) in
    let circle = mapped_none found_in_file (circular documents forms) (none_found Circular (option_map found_in_file (circular documents forms)) fifth schemas e4) in
    let no_type = left_none (circular_type documents forms) (earlier_found (circular_group documents) (circular_attribute_group documents)) circle in (
      record {
        read = read;
        known = mapped_none unknown_found (unknown_name documents) (none_found UnknownName (option_map unknown_found (unknown_name documents)) third schemas e);
        doubled_types = mapped_none (found_by_number (types_found 0 documents)) (doubled_type_name (type_names_in documents)) one_type;
        doubled_elements = mapped_none (found_by_number (globals_found kinds.ElementDeclaration 0 documents)) (doubled_declared_name (names_of_kind kinds.ElementDeclaration (declarations_in documents))) one_element;
        faults = mapped_none (found_fault (types_found 0 documents)) (first_type_fault (simple_faults forms)) sound;
        circles = mapped_none (found_by_number (types_found 0 documents)) (first_circular forms) no_type;
        derivations = mapped_none (found_fault (types_found 0 documents)) (first_derivation_fault forms 0 seen.types) no_derivation;
        elements = mapped_none (found_particle documents) (first_disagreement seen.types seen.groups) (left_none at_element of_base no_member);
        attributes = mapped_none (found_attribute (types_found 0 documents)) (first_doubled seen.types seen.attribute_groups) (left_none at_attribute (earlier_found at_element of_base) no_complex);
        attribute_types = left_none (complex_attribute_type documents) (disordered_bounds documents) (right_none simple (faulty_declaration documents) no_single);
      },
      one_set (schemas_written documents) schemas e6,
    )

types_of : (documents : List DocumentTree) → IsJudged documents → HoldsOfEach (IsReadType documents) (types_in documents)
types_of documents told =
    let read = told.read in
    holds_both IsReadDeclaration (λ (t : TypeDeclaration). HoldsOfEach (Refers (declared_number documents)) (type_declaration_mentions t)) (types_in documents)
    read.types (everything_refers documents told.known).0

read_types_of : Laws → (documents : List DocumentTree) → IsJudged documents → AreReadTypes (type_names_in documents) (type_forms documents)
read_types_of laws documents told = record {
  sized = as_many_forms documents;
  distinct = types_are_distinct (type_names_in documents) told.doubled_types;
  named = λ number name e. holds_at (λ (name : TypeName). is_built_in name ≡ false) (type_names_in documents) number name (names_of_documents documents (types_of documents told)) e;
  read = λ number form e. holds_at (IsReadForm (length (type_names_in documents))) (type_forms documents) number form (forms_of_documents documents (types_of documents told)) e;
  circles = laws.circles (type_forms documents) told.circles;
  faults = laws.faults (type_forms documents) told.faults;
  simple_bases = simple_bases_fit (type_components documents) (is_circular (references_of (type_forms documents))) (laws.circles (type_forms documents) told.circles) told.derivations;
}

-- the contents and the attributes of the types of documents
abbrev held_in : List DocumentTree → HeldByTypes
held_in documents = record {
  content = content_of_type (seen_components documents).types (seen_components documents).groups;
  uses = uses_of_type (seen_components documents).types (seen_components documents).attribute_groups;
}

-- ---- elements

element_names : (documents : List DocumentTree) (declarations : List GlobalDeclaration) →
    map (λ (element : GlobalElement). element.name) (map schema_element (flat_map (declared_element (declared_number documents) (type_names_in documents)) declarations))
    ≡ names_of_kind kinds.ElementDeclaration declarations
element_names documents [] = refl
element_names documents (Element place name kind ∷ others) = ap (λ (rest : List Name). name ∷ rest) (element_names documents others)
element_names documents (Attribute place name kind ∷ others) = element_names documents others
element_names documents (Group place name particle ∷ others) = element_names documents others
element_names documents (AttributeGroup place name attributes ∷ others) = element_names documents others

numbered_here : (t : TypeName) (kind : TypeName) (number : ℕ) (found : Option ℕ) → same_type_name kind t ≡ true → is_some (if same_type_name kind t then Some number else found) ≡ true
numbered_here t kind number found e = rw e refl

numbered_later : (b : Bool) (number : ℕ) (found : Option ℕ) → is_some found ≡ true → is_some (if b then Some number else found) ≡ true
numbered_later true number found e = refl
numbered_later false number found e = e

-- a name in a list has a number
numbered_where : (number : ℕ) (declared : List TypeName) (behind : ℕ) (t : TypeName) → slice_get declared behind ≡ Some t → is_some (type_number_from number declared t) ≡ true
numbered_where number [] behind t e = absurd (cc)
numbered_where number (kind ∷ others) zero t e =
    numbered_here t kind number (type_number_from (suc number) others t) (subst (λ (other : TypeName). same_type_name kind other ≡ true) (one_name kind t e) (type_name_itself kind))
numbered_where number (kind ∷ others) (suc behind) t e =
    numbered_later (same_type_name kind t) number (type_number_from (suc number) others t) (numbered_where (suc number) others behind t e)

-- ---- the types of elements

fits : Laws → (documents : List DocumentTree) → IsJudged documents → (t : TypeName) → is_some (first_type_number (type_names_in documents) t) ≡ true →
    is_some (declaration_of (schemas_written documents) t) ≡ true
fits laws documents told t e =
    declared_where_numbered (type_names_in documents) (type_forms documents) (held_in documents) (read_types_of laws documents told)
    (schemas_written documents).elements (schemas_written documents).targets t e

abbrev IsNamed : List DocumentTree → TypeName → Type 0
IsNamed documents kind = IsTrue (is_named_type (schemas_written documents) kind)

reference_named : Laws → (documents : List DocumentTree) → IsJudged documents → (name : Name) (found : Option ℕ) → first_type_from 0 (type_names_in documents) name ≡ found →
    is_some found ≡ true → IsTrue (is_named_type (schemas_written documents) (type_numbered (type_names_in documents) found))
reference_named laws documents told name None e known = absurd (cc)
reference_named laws documents told name (Some number) e known =
    let declared = type_names_in documents in
    let found = found_type_name 0 declared name number e in
    let same : number ≡ found.0 = omega (arith, found.2) in
    let at : slice_index_or declared number unknown_type ≡ names.Named found.1 = ap (λ (n : ℕ). slice_index_or declared n unknown_type) same ∙ get_or_from_slice_get declared found.0 (names.Named found.1) unknown_type found.3 in
    subst (λ (t : TypeName). IsTrue (is_named_type (schemas_written documents) t)) (sym at)
    (fits laws documents told (names.Named found.1) (numbered_where 0 declared found.0 (names.Named found.1) found.3))

-- types without a name that are written have numbers

numbered_by : (b : Bool) (number : ℕ) (others : Option ℕ) (rest : Bool) → (b || rest) ≡ true → (rest ≡ true → is_some others ≡ true) → is_some (if b then Some number else others) ≡ true
numbered_by true number others rest h k = refl
numbered_by false number others rest h k = k h

written_is_numbered : (number from : ℕ) (written : List TypeDeclaration) → list_any (is_anonymous any_definition number) written ≡ true →
    is_some (type_number_from from (map (λ (declaration : TypeDeclaration). declaration.name) written) (names.Anonymous number)) ≡ true
written_is_numbered number from [] h = absurd (cc)
written_is_numbered number from (declaration ∷ written) h =
    numbered_by (is_anonymous any_definition number declaration) from (type_number_from (suc from) (map (λ (declaration : TypeDeclaration). declaration.name) written) (names.Anonymous number))
    (list_any (is_anonymous any_definition number) written) h (λ k. written_is_numbered number (suc from) written k)

-- a type that is written, and refers to something, is there
kind_named : Laws → (documents : List DocumentTree) → IsJudged documents → Becomes documents (IsElementType (types_in documents)) (IsNamed documents)
kind_named laws documents told place (types.Builtin builtin) e refer = e
kind_named laws documents told place (types.Declared reference) e refer =
    reference_named laws documents told reference.name (first_type_from 0 (type_names_in documents) reference.name) refl (number_of_reference (declared_number documents) kinds.TypeDefinition reference refer.0)
kind_named laws documents told place (types.Anonymous number) e refer = fits laws documents told (names.Anonymous number) (written_is_numbered number 0 (types_in documents) e)

-- ---- the types of attributes

abbrev IsSimple : List DocumentTree → TypeName → Type 0
IsSimple documents kind = IsTrue (is_simple_type (schemas_written documents) kind)

simple_at_number : Laws → (documents : List DocumentTree) → IsJudged documents → (number : ℕ) (declaration : TypeDeclaration) (t : TypeName) → slice_get (types_in documents) number ≡ Some declaration →
    is_simple_definition declaration.definition ≡ true → same_type_name declaration.name t ≡ true → is_built_in t ≡ false → IsSimple documents t
simple_at_number laws documents told number declaration t here is same own =
    let x = globals_of documents in
    let first = first_inner documents in
    simple_by_number (type_names_in documents) (type_forms documents) (held_in documents) (read_types_of laws documents told) (schemas_written documents).elements (schemas_written documents).targets number declaration.name t
    (slice_get-map (λ (other : TypeDeclaration). other.name) (types_in documents) number ∙ ap (option_map (λ (other : TypeDeclaration). other.name)) here) same own
    (form_is_simple x first (definitions_by x first documents).groups (types_in documents) number declaration here is)

reference_simple : Laws → (documents : List DocumentTree) → IsJudged documents → (name : Name) (found : Option ℕ) → first_type_from 0 (type_names_in documents) name ≡ found → is_some found ≡ true →
    option_map_or (is_complex_number (types_in documents)) found false ≡ false → IsSimple documents (type_numbered (type_names_in documents) found)
reference_simple laws documents told name None e known plain = absurd (cc)
reference_simple laws documents told name (Some number) e known plain =
    let declared = type_names_in documents in
    let found = found_type_name 0 declared name number e in
    let same : found.0 ≡ number = omega (arith, found.2) in
    let sized = length-map (types_in documents) (λ (other : TypeDeclaration). other.name) in
    let (declaration, here) = element_at (types_in documents) number (omega (arith, same, found.4, sized)) in
    let named : slice_get declared number ≡ Some (names.Named found.1) = subst (λ (n : ℕ). slice_get declared n ≡ Some (names.Named found.1)) same found.3 in
    let own : declaration.name ≡ names.Named found.1 =
    one_name declaration.name (names.Named found.1)
    (sym (slice_get-map (λ (other : TypeDeclaration). other.name) (types_in documents) number ∙ ap (option_map (λ (other : TypeDeclaration). other.name)) here) ∙ named) in
    subst (IsSimple documents) (sym (get_or_from_slice_get declared number (names.Named found.1) unknown_type named))
    (simple_at_number laws documents told number declaration (names.Named found.1) here (simple_of_number (types_in documents) number declaration here plain)
    (subst (λ (t : TypeName). same_type_name declaration.name t ≡ true) own (type_name_itself declaration.name)) refl)

anonymous_simple : Laws → (documents : List DocumentTree) → IsJudged documents → (anonymous : ℕ) → IsSimpleAt (types_in documents) anonymous → IsSimple documents (names.Anonymous anonymous)
anonymous_simple laws documents told anonymous (number, declaration, here, is, same) = simple_at_number laws documents told number declaration (names.Anonymous anonymous) here is same refl

-- the type of an attribute that is written, refers to something and is not complex, is simple
abbrev IsSimplyWritten : List DocumentTree → TypeReference → Type 0
IsSimplyWritten documents = Both (IsAttributeType (types_in documents)) (IsNotComplexType documents)

kind_simple : Laws → (documents : List DocumentTree) → IsJudged documents → Becomes documents (IsSimplyWritten documents) (IsSimple documents)
kind_simple laws documents told place (types.Builtin builtin) h refer = h.0
kind_simple laws documents told place (types.Declared reference) h refer =
    reference_simple laws documents told reference.name (first_type_from 0 (type_names_in documents) reference.name) refl (number_of_reference (declared_number documents) kinds.TypeDefinition reference refer.0) h.1
kind_simple laws documents told place (types.Anonymous number) h refer = anonymous_simple laws documents told number (simple_at number (types_in documents) h.0)

-- ---- global elements

written_in : (documents : List DocumentTree) → IsJudged documents → AreWritten documents (IsElementType (types_in documents)) (IsSimplyWritten documents)
written_in documents told =
    let read = told.read in
    let refer = everything_refers documents told.known in
    let both = simple_attributes documents (IsElementType (types_in documents)) (IsAttributeType (types_in documents)) told.attribute_types read.kinds read.globals in
    record { types = both.0; globals = both.1; types_refer = refer.0; globals_refer = refer.1 }

elements_named : Laws → (documents : List DocumentTree) → IsJudged documents → (declarations : List GlobalDeclaration) → HoldsOfEach (HoldsGlobal (IsElementType (types_in documents)) (IsSimplyWritten documents)) declarations →
    HoldsOfEach (λ (g : GlobalDeclaration). HoldsOfEach (Refers (declared_number documents)) (global_mentions g)) declarations →
    HoldsOfEach (λ (element : GlobalElement). IsNamed documents element.kind) (map schema_element (flat_map (declared_element (declared_number documents) (type_names_in documents)) declarations))
elements_named laws documents told [] read refer = tt
elements_named laws documents told (Element place name kind ∷ others) read refer = (
  kind_named laws documents told place kind read.0 refer.0,
  elements_named laws documents told others read.1 refer.1,
)
elements_named laws documents told (Attribute place name kind ∷ others) read refer = elements_named laws documents told others read.1 refer.1
elements_named laws documents told (Group place name particle ∷ others) read refer = elements_named laws documents told others read.1 refer.1
elements_named laws documents told (AttributeGroup place name attributes ∷ others) read refer = elements_named laws documents told others read.1 refer.1

-- ---- contents and attributes

holds_mapped : {A : Type 0} (Fact Other : A → Type 0) → ((x : A) → Fact x → Other x) → (xs : List A) → HoldsOfEach Fact xs → HoldsOfEach Other xs
holds_mapped Fact Other each [] h = tt
holds_mapped Fact Other each (x ∷ xs) h = (each x h.0, holds_mapped Fact Other each xs h.1)

item_fits : (documents : List DocumentTree) (mixed : Bool) (kind : ItemType) → IsPassingItem (is_named_type (schemas_written documents)) mixed kind → IsModelItem (schemas_written documents) mixed kind
item_fits documents mixed (items.Element (Some name) kind) passes = passes
item_fits documents mixed (items.Element None kind) passes = absurd passes
item_fits documents mixed (items.Attribute name kind) passes = absurd passes
item_fits documents mixed items.Text passes = passes
item_fits documents mixed (items.Document test) passes = absurd passes
item_fits documents mixed (items.Atom kind) passes = absurd passes

held_fits : Laws → (documents : List DocumentTree) → IsJudged documents → HoldWhatFits (schemas_written documents) (held_in documents)
held_fits laws documents told =
    let schemas = schemas_written documents in
    let seen = seen_components documents in
    let written = written_in documents told in
    let named = elements_keep_in documents (IsElementType (types_in documents)) (IsSimplyWritten documents) (IsNamed documents) (kind_named laws documents told) written in
    let simple = attributes_keep_in documents (IsElementType (types_in documents)) (IsSimplyWritten documents) (IsSimple documents) (kind_simple laws documents told) written in
    record {
      content = λ number.
          let effective = content_of_type seen.types seen.groups number in (
            holds_mapped (IsPassingItem (is_named_type schemas) effective.mixed) (IsModelItem schemas effective.mixed) (item_fits documents effective.mixed)
                (items_of (model_of effective.mixed effective.content))
                (laws.kinds (is_named_type schemas) seen.types seen.groups (all_pass (is_named_type schemas) (element_kinds seen.types seen.groups) named) effective.mixed number),
            laws.one_type seen.types seen.groups told.elements effective.mixed number,
          );
      attributes = λ number.
          each_passes (λ (attribute : AttributeUse). is_simple_type schemas attribute.kind) (uses_of_type seen.types seen.attribute_groups number)
          (laws.uses seen.types seen.attribute_groups (is_simple_type schemas) number (all_pass (is_simple_type schemas) (attribute_kinds seen.types seen.attribute_groups) simple));
      distinct = λ number. laws.distinct seen.types seen.attribute_groups number;
    }

-- ---- all

set_where_judged : Laws → (documents : List DocumentTree) → IsJudged documents → IsSchemaSet (schemas_written documents)
set_where_judged laws documents told =
    let fit = types_fit laws.solve (type_names_in documents) (type_forms documents) (held_in documents) (read_types_of laws documents told) (schemas_written documents).elements (schemas_written documents).targets
    (held_fits laws documents told) in
    record {
      grounded = fit.0;
      types = fit.1;
      distinct = fit.2;
      elements = elements_named laws documents told (declarations_in documents) (written_in documents told).globals (written_in documents told).globals_refer;
      distinct_elements = subst (AreDistinctBy same_name) (sym (element_names documents (declarations_in documents))) (names_are_distinct (names_of_kind kinds.ElementDeclaration (declarations_in documents)) told.doubled_elements);
    }

pub judged_are_schema_sets : Laws → (documents : List DocumentTree) (schemas : SchemaSet) → IsEverythingRead documents → documents_judged documents ≡ declares schemas → IsSchemaSet schemas
judged_are_schema_sets laws documents schemas read e =
    let told = is_judged documents schemas read e in
    subst IsSchemaSet (sym told.1) (set_where_judged laws documents told.0)

pub written_where_judged : (documents : List DocumentTree) (schemas : SchemaSet) → IsEverythingRead documents → documents_judged documents ≡ declares schemas → schemas ≡ schemas_written documents
written_where_judged documents schemas read e = (is_judged documents schemas read e).1
