-- What schema files declare is sound.
use Rattle.std.proofs.Common.{◌≡◌, ◌∙◌, ℕ, zero, suc, ◌+◌, ◌<◌, Bool, true, false, List, [], ◌∷◌, length, Option, None, Some, refl, sym, ap, subst, arith, length-append, if◌then◌else◌}
use Rattle.std.specs.Prelude.{option_map}
use Rattle.std.proofs.lemmas.Bool.{true≢false}
use Rattle.std.proofs.lemmas.Option.{slice_get_within}
use Rattle.gx_base.specs.declared.limits.TheConstants.{INCLUSION_PAIRS}
use Rattle.gx_types.specs.SchemaInvariant.{ContentFits, HoldsOfEach, IsDeclarationOf}
use Rattle.gx_types.specs.SchemaSet.{SchemaSet}
use Rattle.gx_types.specs.declared.declaration.Content.{Content}
use Rattle.gx_types.specs.declared.declaration.Content.TheVariants as contents
use Rattle.gx_types.specs.declared.declaration.Declared.{Declared}
use Rattle.gx_references.specs.Circles.{IsPartOfItself, is_circular_among}
use Rattle.gx_references.proofs.ReachSteps.{ways_back_are_short}
use Rattle.gx_schema_syntax.specs.DocumentTree.{DocumentTree}
use Rattle.gx_schema_syntax.specs.Profile.{outside_files}
use Rattle.gx_schema_syntax.specs.declared.written.GlobalDeclaration.{GlobalDeclaration}
use Rattle.gx_schema_syntax.specs.declared.written.GlobalDeclaration.TheVariants.{Element, Attribute, Group, AttributeGroup}
use Rattle.gx_schema_components.specs.declared.mention.ComponentKind.TheVariants as kinds
use Rattle.gx_schema_components.specs.declared.component.ModelGroup.{ModelGroup}
use Rattle.gx_schema_components.specs.Components.{definitions_by, first_inner, globals_of, group_definitions_in, types_by}
use Rattle.gx_schema_components.specs.DeclaredNames.{declarations_in}
use Rattle.gx_schema_components.specs.GroupNumbers.{content_placed, definitions_placed}
use Rattle.gx_schema_components.specs.Referred.{Globals}
use Rattle.gx_schema_components.specs.Unknown.{unknown_name}
use Rattle.gx_schema_content.specs.GroupContents.{groups_in}
use Rattle.gx_schema_restriction.specs.declared.restrictions.Restrictions.{Restrictions}
use Rattle.gx_schema_restriction.specs.declared.restrictions.Restrictions.TheVariants.{Sound, Unsound, Undecided}
use Rattle.gx_schema_restriction.specs.Restrictions.{AreJudged, AreSoundBelow}
use Rattle.gx_schema_restriction.proofs.SoundRestrictions.{yes_means_sound}
use Rattle.gx_schema_simple.specs.CircularTypes.{first_circular}
use Rattle.gx_schema_simple.specs.Forms.{references_of}
use Rattle.gx_schema_simple.proofs.ShortCircles.{circles_are_short}
use Rattle.gx_schema.specs.declared.found.Found.{Found}
use Rattle.gx_schema.specs.declared.refusal.SchemaRule.TheVariants.{NotInProfile, UnknownName, Inconsistent, Circular, TooLarge}
use Rattle.gx_schema.specs.Circular.{circular, circular_attribute_group, circular_group, circular_type}
use Rattle.gx_schema.specs.FirstFound.{earlier_found}
use Rattle.gx_schema.specs.FirstNumber.{first_number}
use Rattle.gx_schema.specs.Found.{found_by_number, globals_found, types_found}
use Rattle.gx_schema.specs.Import.{Imported, IsImported, IsJudged, after_judgement, breaks, declares, documents_judged, documents_of, found_in_file, read_in_files, unknown_found, unless_broken}
use Rattle.gx_schema.specs.Inconsistent.{inconsistent}
use Rattle.gx_schema.specs.Laws.{ImportsAreSound}
use Rattle.gx_schema.specs.RestrictedTypes.{restricted_types}
use Rattle.gx_schema.specs.SchemaTypes.{schemas_written, type_forms}
use Rattle.gx_schema.specs.SeenComponents.{attribute_groups, attribute_groups_in_group, is_circular_attribute_group, is_circular_group, model_groups, seen_components}
use Rattle.gx_schema.specs.SoundReading.{HasOneTypeAName, NothingIsCircular}
use Rattle.gx_schema.specs.TooLarge.{too_large}
use Rattle.gx_schema.proofs.EarlierFound.{left_none, right_none}
use Rattle.gx_schema.proofs.Imports.{declared_is_read, imports_are_schema_sets}
use Rattle.gx_schema.proofs.Lists.{mapped_none}
use Rattle.gx_schema.proofs.NothingFound.{names_refer, none_found, rest_told}
use Rattle.gx_schema.proofs.SchemaSets.{Laws}

-- ---- the rules that are not broken

record PassesRules (documents : List DocumentTree) : Type 0 where
  known : unknown_name documents ≡ None
  consistent : inconsistent documents (type_forms documents) (seen_components documents) ≡ None
  circles : circular documents (type_forms documents) ≡ None

passes_rules : (documents : List DocumentTree) (schemas : SchemaSet) → documents_judged documents ≡ declares schemas → PassesRules documents
passes_rules documents schemas e =
    let forms = type_forms documents in
    let seen = seen_components documents in
    let unknown = option_map unknown_found (unknown_name documents) in
    let disagreeing = option_map found_in_file (inconsistent documents forms seen) in
    let circle = option_map found_in_file (circular documents forms) in
    let large = unless_broken TooLarge (option_map found_in_file (too_large documents seen)) (declares (schemas_written documents)) in
    let after_consistent = unless_broken Circular circle large in
    let after_known = unless_broken Inconsistent disagreeing after_consistent in
    let e2 = rest_told UnknownName unknown after_known schemas e in
    let e3 = rest_told Inconsistent disagreeing after_consistent schemas e2 in record {
      known = mapped_none unknown_found (unknown_name documents) (none_found UnknownName unknown after_known schemas e);
      consistent = mapped_none found_in_file (inconsistent documents forms seen) (none_found Inconsistent disagreeing after_consistent schemas e2);
      circles = mapped_none found_in_file (circular documents forms) (none_found Circular circle large schemas e3);
    }

-- ---- nothing is circular

failed : (b : Bool) (number : ℕ) (others : Option ℕ) → (if b then Some number else others) ≡ None → (b ≡ false) × (others ≡ None)
failed true number others e = absurd (cc)
failed false number others e = (refl, e)

-- where no number is the first that passes, none passes
none_passes_from : (passes : ℕ → Bool) (number left : ℕ) → first_number passes number left ≡ None → (behind : ℕ) → behind < left → passes (number + behind) ≡ false
none_passes_from passes number zero e behind h = absurd (omega arith)
none_passes_from passes number (suc left) e zero h =
    let same : number + 0 ≡ number = omega arith in
    ap passes same ∙ (failed (passes number) number (first_number passes (suc number) left) e).0
none_passes_from passes number (suc left) e (suc behind) h =
    let same : number + suc behind ≡ suc number + behind = omega arith in
    ap passes same ∙ none_passes_from passes (suc number) left (failed (passes number) number (first_number passes (suc number) left) e).1 behind (omega arith)

none_passes : (passes : ℕ → Bool) (count : ℕ) → first_number passes 0 count ≡ None → (number : ℕ) → number < count → passes number ≡ false
none_passes passes count e number h =
    let same : number ≡ 0 + number = omega arith in ap passes same ∙ none_passes_from passes 0 count e number h

-- the groups of definitions are as many as those
definitions_sized : (x : Globals) (first : ℕ) (groups : List ModelGroup) (declarations : List GlobalDeclaration) → length (definitions_placed x first groups declarations).placed ≡ length (group_definitions_in declarations)
definitions_sized x first groups [] = refl
definitions_sized x first groups (Group place name particle ∷ others) = ap (λ (n : ℕ). suc n) (definitions_sized x first (content_placed x first groups particle).groups others)
definitions_sized x first groups (Element place name kind ∷ others) = definitions_sized x first groups others
definitions_sized x first groups (Attribute place name kind ∷ others) = definitions_sized x first groups others
definitions_sized x first groups (AttributeGroup place name attributes ∷ others) = definitions_sized x first groups others

within_groups : (documents : List DocumentTree) (number : ℕ) → number < first_inner documents → number < length (model_groups documents)
within_groups documents number h =
    let x = globals_of documents in
    let first = first_inner documents in
    let sized = definitions_sized x first [] (declarations_in documents) in
    let joined = length-append (definitions_by x first documents).placed (types_by x first documents).groups in
    omega (arith, sized, joined)

not_part : {B : Type 0} (references : B → List ℕ) (bodies : List B) (number : ℕ) → number < length bodies → is_circular_among references bodies number ≡ false → IsPartOfItself references bodies number → ⊥
not_part references bodies number within straight circle = true≢false (sym ((ways_back_are_short references bodies number within).1 circle) ∙ straight)

nothing_is_circular : Laws → (documents : List DocumentTree) → circular documents (type_forms documents) ≡ None → NothingIsCircular documents
nothing_is_circular laws documents none =
    let forms = type_forms documents in
    let group = circular_group documents in
    let attributes = circular_attribute_group documents in
    let behind = right_none (circular_type documents forms) (earlier_found group attributes) none in
    let no_type = mapped_none (found_by_number (types_found 0 documents)) (first_circular forms) (left_none (circular_type documents forms) (earlier_found group attributes) none) in
    let no_group = mapped_none (found_by_number (globals_found kinds.GroupDefinition 0 documents)) (first_number (is_circular_group (model_groups documents)) 0 (first_inner documents)) (left_none group attributes behind) in
    let no_attribute_group = mapped_none (found_by_number (globals_found kinds.AttributeGroupDefinition 0 documents))
    (first_number (is_circular_attribute_group (attribute_groups documents)) 0 (length (attribute_groups documents))) (right_none group attributes behind) in record {
      types = λ number circle. true≢false (sym ((circles_are_short (references_of forms) number).1 circle) ∙ laws.circles forms no_type number);
      groups = λ number h circle.
          not_part groups_in (model_groups documents) number (within_groups documents number h) (none_passes (is_circular_group (model_groups documents)) (first_inner documents) no_group number h) circle;
      attribute_groups = λ number h circle.
          not_part attribute_groups_in_group (attribute_groups documents) number h
          (none_passes (is_circular_attribute_group (attribute_groups documents)) (length (attribute_groups documents)) no_attribute_group number h) circle;
    }

-- ---- elements of one name have one type

one_type_in : (schemas : SchemaSet) (content : Content) → ContentFits schemas content → HasOneTypeAName content
one_type_in schemas (contents.Complex mixed model) fits = fits.1
one_type_in schemas (contents.Atomic facets) fits = tt
one_type_in schemas (contents.List item facets) fits = tt
one_type_in schemas (contents.Simple kind facets) fits = tt

one_type_each : (schemas : SchemaSet) (types : List Declared) → HoldsOfEach (IsDeclarationOf schemas) types → HoldsOfEach (λ (declared : Declared). HasOneTypeAName declared.content) types
one_type_each schemas [] h = tt
one_type_each schemas (declared ∷ others) h = let own = h.0 in (one_type_in schemas declared.content own.content, one_type_each schemas others h.1)

-- ---- restrictions

one_schemas : (one other : SchemaSet) → declares one ≡ declares other → other ≡ one
one_schemas one other e = cc

sound_after : (types : List Found) (read schemas : SchemaSet) (restricted : List Bool) (judgement : Restrictions) → AreJudged read INCLUSION_PAIRS restricted judgement
    → declares schemas ≡ after_judgement types read judgement → AreSoundBelow schemas INCLUSION_PAIRS restricted (length schemas.types)
sound_after types read schemas restricted Sound judged e =
    subst (λ (s : SchemaSet). AreSoundBelow s INCLUSION_PAIRS restricted (length s.types)) (one_schemas schemas read e) judged
sound_after types read schemas restricted (Unsound number list) judged e = absurd (cc)
sound_after types read schemas restricted (Undecided number) judged e = absurd (cc)

sound_where_judged : (documents : List DocumentTree) (read : Imported) (schemas : SchemaSet) → IsJudged documents read (declares schemas)
    → AreSoundBelow schemas INCLUSION_PAIRS (restricted_types (seen_components documents).types) (length schemas.types)
sound_where_judged documents (declares read) schemas h = sound_after (types_found 0 documents) read schemas (restricted_types (seen_components documents).types) h.0 h.1 h.2
sound_where_judged documents (breaks rule file name list) schemas h = absurd (cc)

-- ---- all

pub imports_are_sound : Laws → ImportsAreSound
unfolding IsImported
imports_are_sound laws files schemas h =
    let documents = documents_of files in
    let judged = rest_told NotInProfile (outside_files 0 files) (documents_judged documents) schemas (declared_is_read documents (read_in_files files) schemas h) in
    let passes = passes_rules documents schemas judged in
    let set = imports_are_schema_sets laws files schemas h in
    let sound = sound_where_judged documents (read_in_files files) schemas h in record {
      names = names_refer documents passes.known;
      circles = nothing_is_circular laws documents passes.circles;
      consistent = passes.consistent;
      one_type = one_type_each schemas schemas.types set.types;
      restrictions = λ number declared there restricted. yes_means_sound schemas INCLUSION_PAIRS declared (sound number declared (slice_get_within schemas.types number declared there) there restricted);
    }
