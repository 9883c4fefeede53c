-- A rule that files break is broken in one of them.
use Rattle.std.proofs.Common.{◌≡◌, ℕ, zero, suc, ◌+◌, ◌<◌, ◌≤◌, Bool, true, false, nat_le, List, [], ◌∷◌, ◌++◌, length, map, Option, None, Some, refl, sym, ap, subst, arith, if◌then◌else◌}
use Rattle.std.specs.Prelude.{option_map}
use Rattle.std.specs.List.{flat_map}
use Rattle.std.specs.Option.{option_or}
use Rattle.std.proofs.lemmas.Bool.{true≢false}
use Rattle.gx_base.specs.declared.name.Name.{Name}
use Rattle.gx_types.specs.SchemaInvariant.{HoldsOfEach}
use Rattle.gx_types.specs.SchemaSet.{SchemaSet}
use Rattle.gx_types.specs.declared.shape.Shape.{Shape}
use Rattle.gx_xml.specs.declared.source.Source.{Source}
use Rattle.gx_schema_syntax.specs.declared.numbers.Numbers.{Numbers}
use Rattle.gx_schema_syntax.specs.declared.written.AttributeMember.{AttributeMember}
use Rattle.gx_schema_syntax.specs.declared.written.AttributeMember.TheVariants as members
use Rattle.gx_schema_syntax.specs.declared.written.GlobalDeclaration.{GlobalDeclaration}
use Rattle.gx_schema_syntax.specs.declared.written.GlobalDeclaration.TheVariants as globals
use Rattle.gx_schema_syntax.specs.declared.written.LocalDeclaration.{LocalDeclaration}
use Rattle.gx_schema_syntax.specs.declared.written.LocalDeclaration.TheVariants as locals
use Rattle.gx_schema_syntax.specs.declared.written.TypeDeclaration.{TypeDeclaration}
use Rattle.gx_schema_syntax.specs.declared.written.TypeDefinition.{TypeDefinition}
use Rattle.gx_schema_syntax.specs.declared.written.TypeDefinition.TheVariants as definitions
use Rattle.gx_schema_syntax.specs.declared.written.TypeReference.{TypeReference}
use Rattle.gx_schema_syntax.specs.DocumentTree.{DocumentTree}
use Rattle.gx_schema_syntax.specs.Documents.{documents_written}
use Rattle.gx_schema_syntax.specs.Numbers.{first_numbers, numbers_behind}
use Rattle.gx_schema_syntax.specs.Outside.{outside_root}
use Rattle.gx_schema_syntax.specs.ParticleTree.{ParticleTree, ParticleTrees, an_element, a_group, a_model_group, no_particles, a_particle}
use Rattle.gx_schema_syntax.specs.Profile.{outside_files}
use Rattle.gx_schema_components.specs.declared.mention.ComponentKind.{ComponentKind}
use Rattle.gx_schema_components.specs.declared.mention.ComponentKind.TheVariants as kinds
use Rattle.gx_schema_components.specs.declared.mention.Mention.{Mention}
use Rattle.gx_schema_components.specs.Components.{first_inner}
use Rattle.gx_schema_components.specs.DeclaredNames.{declarations_in, declared_number, name_of_kind, names_of_kind, type_names_in}
use Rattle.gx_schema_components.specs.Mentions.{document_mentions}
use Rattle.gx_schema_components.specs.Unknown.{Numbering, earliest_unknown, unknown_from, unknown_name, unknown_shown}
use Rattle.gx_schema_content.specs.Disagreement.{first_disagreement}
use Rattle.gx_schema_content.specs.Extensions.{first_differing_extension}
use Rattle.gx_schema_attributes.specs.Doubled.{first_doubled}
use Rattle.gx_schema_restriction.specs.declared.restrictions.Restrictions.{Restrictions}
use Rattle.gx_schema_restriction.specs.declared.restrictions.Restrictions.TheVariants.{Sound, Unsound, Undecided}
use Rattle.gx_schema_simple.specs.CircularTypes.{first_circular}
use Rattle.gx_schema_simple.specs.Faults.{first_type_fault, simple_faults}
use Rattle.gx_schema.specs.declared.declaration_count.CountedDeclaration.{CountedDeclaration}
use Rattle.gx_schema.specs.declared.found.Found.{Found}
use Rattle.gx_schema.specs.declared.occurrences.OccurrenceRule.{OccurrenceRule}
use Rattle.gx_schema.specs.declared.occurrences.OccurrenceRule.TheVariants.{Order, Limit}
use Rattle.gx_schema.specs.declared.refusal.SchemaRule.{SchemaRule}
use Rattle.gx_schema.specs.declared.refusal.SchemaRule.TheVariants.{NotInProfile, UnknownName, Inconsistent, Circular, TooLarge}
use Rattle.gx_schema.specs.AttributeTypes.{complex_attribute_type, complex_from, complex_in_document, complex_in_global, complex_in_type, first_complex_member, first_complex_of, is_complex_type}
use Rattle.gx_schema.specs.Circular.{circular, circular_attribute_group, circular_group, circular_type}
use Rattle.gx_schema.specs.DeclarationCount.{content_counted, count_in_front, counted_local, declarations_counted, definition_counted, elements_counted, elements_counted_among, found_counted, found_past_count, global_counted, greatest_count, member_counted, past_declaration_limit, places_counted, type_declarations_counted}
use Rattle.gx_schema.specs.DerivationFaults.{first_derivation_fault}
use Rattle.gx_schema.specs.Doubled.{doubled_declared_name, doubled_of_kind, doubled_type, doubled_type_name}
use Rattle.gx_schema.specs.FirstFound.{earlier_found, first_found, found_in_definition, found_in_type, place_where}
use Rattle.gx_schema.specs.FirstNumber.{first_number}
use Rattle.gx_schema.specs.Found.{begins_by, file_behind, found_by_number, found_global, found_named, found_type, globals_found, place_of_global, types_found}
use Rattle.gx_schema.specs.Import.{Imported, IsImported, IsJudged, after_judgement, breaks, components_judged, declares, documents_judged, documents_of, found_in_file, read_in_files, unknown_found, unless_broken}
use Rattle.gx_schema.specs.Inconsistent.{disagreeing_element, doubled_attribute, doubled_declaration, extension_found, faulty_complex_type, faulty_declaration, faulty_derivation, faulty_type, found_attribute, found_extension, found_fault, found_particle, inconsistent}
use Rattle.gx_schema.specs.Laws.{IsBrokenInAFile}
use Rattle.gx_schema.specs.Occurrences.{broken_from, broken_in_document, broken_in_global, broken_in_type, disordered_bounds, first_breaking_in, first_breaking_of, past_occurrence_limit}
use Rattle.gx_schema.specs.SchemaTypes.{schemas_written, type_forms}
use Rattle.gx_schema.specs.SeenComponents.{attribute_groups, is_circular_attribute_group, is_circular_group, model_groups, seen_components}
use Rattle.gx_schema.specs.TooLarge.{is_too_large, large_content, too_large}
use Rattle.gx_schema.proofs.Lists.{holds_append, holds_joined, holds_mapped}

-- ---- what is found is in one of so many files

abbrev IsWithin : (count : ℕ) → Option Found → Type 0
IsWithin count None = Unit {0}
IsWithin count (Some found) = found.file < count

earlier_by : (count : ℕ) (t : Bool) (one other : Found) → one.file < count → other.file < count → IsWithin count (if t then Some one else Some other)
earlier_by count true one other h k = h
earlier_by count false one other h k = k

earlier_within : (count : ℕ) (one other : Option Found) → IsWithin count one → IsWithin count other → IsWithin count (earlier_found one other)
earlier_within count None other h k = k
earlier_within count (Some one) None h k = h
earlier_within count (Some one) (Some other) h k = earlier_by count (nat_le one.place other.place) one other h k

mapped_within : {A : Type 0} (count : ℕ) (show : A → Found) (found : Option A) → ((x : A) → (show x).file < count) → IsWithin count (option_map show found)
mapped_within count show None each = tt
mapped_within count show (Some x) each = each x

first_is_within : {A : Type 0} (count : ℕ) (find : A → Option Found) (xs : List A) → HoldsOfEach (λ x. IsWithin count (find x)) xs → IsWithin count (first_found find xs)
first_is_within count find [] h = tt
first_is_within count find (x ∷ xs) h = earlier_within count (find x) (first_found find xs) h.0 (first_is_within count find xs h.1)

all_hold : {A : Type 0} (Fact : A → Type 0) (xs : List A) → ((x : A) → Fact x) → HoldsOfEach Fact xs
all_hold Fact [] each = tt
all_hold Fact (x ∷ xs) each = (each x, all_hold Fact xs each)

-- ---- declarations by number

abbrev StandsWithin : (count : ℕ) → Found → Type 0
StandsWithin count found = found.file < count

types_within : (count file : ℕ) (documents : List DocumentTree) → file + length documents ≤ count → HoldsOfEach (StandsWithin count) (types_found file documents)
types_within count file [] h = tt
types_within count file (document ∷ documents) h =
    holds_append (StandsWithin count) (map (found_type file) document.types) (types_found (suc file) documents)
    (holds_mapped (StandsWithin count) (found_type file) document.types (all_hold (λ (t : TypeDeclaration). file < count) document.types (λ t. omega arith)))
    (types_within count (suc file) documents (omega arith))

globals_within : (kind : ComponentKind) (count file : ℕ) (documents : List DocumentTree) → file + length documents ≤ count → HoldsOfEach (StandsWithin count) (globals_found kind file documents)
globals_within kind count file [] h = tt
globals_within kind count file (document ∷ documents) h =
    let here : file < count = omega arith in
    holds_append (StandsWithin count) (flat_map (found_global kind file) document.declarations) (globals_found kind (suc file) documents)
    (holds_joined (StandsWithin count) (found_global kind file) document.declarations
    (all_hold (λ (g : GlobalDeclaration). HoldsOfEach (StandsWithin count) (found_global kind file g)) document.declarations
    (λ g. holds_mapped (StandsWithin count) (found_named file (place_of_global g)) (name_of_kind kind g) (all_hold (λ (name : Name). file < count) (name_of_kind kind g) (λ name. here)))))
    (globals_within kind count (suc file) documents (omega arith))

number_within : (count : ℕ) (found : List Found) (number : ℕ) → 0 < count → HoldsOfEach (StandsWithin count) found → (found_by_number found number).file < count
number_within count [] number some h = some
number_within count (one ∷ others) zero some h = h.0
number_within count (one ∷ others) (suc number) some h = number_within count others number some h.1

-- ---- places

file_by : (count file so_far : ℕ) (b : Bool) → file < count → so_far < count → (if b then file else so_far) < count
file_by count file so_far true h k = h
file_by count file so_far false h k = k

behind_within : (count so_far file place : ℕ) (documents : List DocumentTree) → so_far < count → file + length documents ≤ count → file_behind so_far file place documents < count
behind_within count so_far file place [] h k = h
behind_within count so_far file place (document ∷ documents) h k =
    behind_within count (if begins_by place document then file else so_far) (suc file) place documents (file_by count file so_far (begins_by place document) (omega arith) h) (omega arith)

-- ---- faults of single declarations

complex_global_within : (count : ℕ) (complex : TypeReference → Bool) (file : ℕ) (g : GlobalDeclaration) → file < count → IsWithin count (complex_in_global complex file g)
complex_global_within count complex file (globals.Element place name kind) h = tt
complex_global_within count complex file (globals.Attribute place name kind) h = mapped_within count (found_in_definition file name) (place_where (complex kind) place) (λ place. h)
complex_global_within count complex file (globals.Group place name particle) h = tt
complex_global_within count complex file (globals.AttributeGroup place name attributes) h = mapped_within count (found_in_definition file name) (first_complex_member complex attributes) (λ place. h)

complex_within : (count : ℕ) (complex : TypeReference → Bool) (file : ℕ) (documents : List DocumentTree) → file + length documents ≤ count → IsWithin count (complex_from complex file documents)
complex_within count complex file [] h = tt
complex_within count complex file (document ∷ documents) h =
    let here : file < count = omega arith in
    earlier_within count (complex_in_document complex file document) (complex_from complex (suc file) documents)
    (earlier_within count (first_found (complex_in_type complex file) document.types) (first_found (complex_in_global complex file) document.declarations)
    (first_is_within count (complex_in_type complex file) document.types
    (all_hold (λ (t : TypeDeclaration). IsWithin count (complex_in_type complex file t)) document.types
    (λ t. mapped_within count (found_in_type file t.name) (first_complex_of complex t.definition) (λ place. here))))
    (first_is_within count (complex_in_global complex file) document.declarations
    (all_hold (λ (g : GlobalDeclaration). IsWithin count (complex_in_global complex file g)) document.declarations (λ g. complex_global_within count complex file g here))))
    (complex_within count complex (suc file) documents (omega arith))

broken_global_within : (count : ℕ) (rule : OccurrenceRule) (file : ℕ) (g : GlobalDeclaration) → file < count → IsWithin count (broken_in_global rule file g)
broken_global_within count rule file (globals.Element place name kind) h = tt
broken_global_within count rule file (globals.Attribute place name kind) h = tt
broken_global_within count rule file (globals.Group place name particle) h = mapped_within count (found_in_definition file name) (first_breaking_in rule particle) (λ place. h)
broken_global_within count rule file (globals.AttributeGroup place name attributes) h = tt

broken_within : (count : ℕ) (rule : OccurrenceRule) (file : ℕ) (documents : List DocumentTree) → file + length documents ≤ count → IsWithin count (broken_from rule file documents)
broken_within count rule file [] h = tt
broken_within count rule file (document ∷ documents) h =
    let here : file < count = omega arith in
    earlier_within count (broken_in_document rule file document) (broken_from rule (suc file) documents)
    (earlier_within count (first_found (broken_in_type rule file) document.types) (first_found (broken_in_global rule file) document.declarations)
    (first_is_within count (broken_in_type rule file) document.types
    (all_hold (λ (t : TypeDeclaration). IsWithin count (broken_in_type rule file t)) document.types
    (λ t. mapped_within count (found_in_type file t.name) (first_breaking_of rule t.definition) (λ place. here))))
    (first_is_within count (broken_in_global rule file) document.declarations
    (all_hold (λ (g : GlobalDeclaration). IsWithin count (broken_in_global rule file g)) document.declarations (λ g. broken_global_within count rule file g here))))
    (broken_within count rule (suc file) documents (omega arith))

-- ---- declarations that are counted

abbrev CountsWithin : (count : ℕ) → CountedDeclaration → Type 0
CountsWithin count declaration = declaration.file < count

local_within : (count file place : ℕ) (declaration : LocalDeclaration) → file < count → HoldsOfEach (CountsWithin count) (counted_local file place declaration)
local_within count file place (locals.Declared name kind) h = (h, tt)
local_within count file place (locals.Referred reference kind) h = tt

mutual
  elements_within : (count file : ℕ) (particle : ParticleTree) → file < count → HoldsOfEach (CountsWithin count) (elements_counted file particle)
  elements_within count file (an_element place bounds declaration) h = local_within count file place declaration h
  elements_within count file (a_group place bounds reference) h = tt
  elements_within count file (a_model_group place bounds compositor particles) h = elements_among_within count file particles h

  elements_among_within : (count file : ℕ) (particles : ParticleTrees) → file < count → HoldsOfEach (CountsWithin count) (elements_counted_among file particles)
  elements_among_within count file no_particles h = tt
  elements_among_within count file (a_particle particle others) h =
      holds_append (CountsWithin count) (elements_counted file particle) (elements_counted_among file others) (elements_within count file particle h) (elements_among_within count file others h)

content_within : (count file : ℕ) (content : Option ParticleTree) → file < count → HoldsOfEach (CountsWithin count) (content_counted file content)
content_within count file None h = tt
content_within count file (Some particle) h = elements_within count file particle h

member_within : (count file : ℕ) (member : AttributeMember) → file < count → HoldsOfEach (CountsWithin count) (member_counted file member)
member_within count file (members.Attribute place usage attribute) h = local_within count file place attribute h
member_within count file (members.Group place reference) h = tt

members_within : (count file : ℕ) (list : List AttributeMember) → file < count → HoldsOfEach (CountsWithin count) (flat_map (member_counted file) list)
members_within count file list h =
    holds_joined (CountsWithin count) (member_counted file) list (all_hold (λ (member : AttributeMember). HoldsOfEach (CountsWithin count) (member_counted file member)) list (λ member. member_within count file member h))

definition_within : (count file : ℕ) (definition : TypeDefinition) → file < count → HoldsOfEach (CountsWithin count) (definition_counted file definition)
definition_within count file (definitions.Simple definition) h = tt
definition_within count file (definitions.Complex definition) h =
    holds_append (CountsWithin count) (content_counted file definition.particle) (flat_map (member_counted file) definition.attributes)
    (content_within count file definition.particle h) (members_within count file definition.attributes h)

global_within : (count file : ℕ) (g : GlobalDeclaration) → file < count → HoldsOfEach (CountsWithin count) (global_counted file g)
global_within count file (globals.Element place name kind) h = (h, tt)
global_within count file (globals.Attribute place name kind) h = (h, tt)
global_within count file (globals.Group place name particle) h = content_within count file particle h
global_within count file (globals.AttributeGroup place name attributes) h = members_within count file attributes h

counted_within : (count file : ℕ) (documents : List DocumentTree) → file + length documents ≤ count → HoldsOfEach (CountsWithin count) (declarations_counted file documents)
counted_within count file [] h = tt
counted_within count file (document ∷ documents) h =
    let here : file < count = omega arith in
    let in_types = flat_map (type_declarations_counted file) document.types in
    let in_globals = flat_map (global_counted file) document.declarations in
    holds_append (CountsWithin count) in_types (in_globals ++ declarations_counted (suc file) documents)
    (holds_joined (CountsWithin count) (type_declarations_counted file) document.types
    (all_hold (λ (t : TypeDeclaration). HoldsOfEach (CountsWithin count) (type_declarations_counted file t)) document.types (λ t. (here, definition_within count file t.definition here))))
    (holds_append (CountsWithin count) in_globals (declarations_counted (suc file) documents)
    (holds_joined (CountsWithin count) (global_counted file) document.declarations
    (all_hold (λ (g : GlobalDeclaration). HoldsOfEach (CountsWithin count) (global_counted file g)) document.declarations (λ g. global_within count file g here)))
    (counted_within count (suc file) documents (omega arith)))

past_by : (count : ℕ) (b : Bool) (declaration : CountedDeclaration) → declaration.file < count → IsWithin count (if b then Some (found_counted declaration) else None)
past_by count true declaration h = h
past_by count false declaration h = tt

past_within : (count : ℕ) (places : List ℕ) (declarations : List CountedDeclaration) → HoldsOfEach (CountsWithin count) declarations → HoldsOfEach (λ (declaration : CountedDeclaration). IsWithin count (found_past_count places declaration)) declarations
past_within count places [] h = tt
past_within count places (declaration ∷ others) h =
    (past_by count (nat_le greatest_count (count_in_front places declaration.place)) declaration h.0, past_within count places others h.1)

-- ---- the rules on documents, of which there are some

abbrev IsToldWithin : (count : ℕ) → Imported → Type 0
IsToldWithin count (declares schemas) = Unit {0}
IsToldWithin count (breaks rule file name list) = file < count

abbrev IsPairWithin : (count : ℕ) → Option (ℕ × List ℕ) → Type 0
IsPairWithin count None = Unit {0}
IsPairWithin count (Some found) = found.0 < count

unless_within : (count : ℕ) (rule : SchemaRule) (found : Option (ℕ × List ℕ)) (otherwise : Imported) → IsPairWithin count found → IsToldWithin count otherwise → IsToldWithin count (unless_broken rule found otherwise)
unless_within count rule None otherwise h k = k
unless_within count rule (Some found) otherwise h k = h

pair_within : (count : ℕ) (found : Option Found) → IsWithin count found → IsPairWithin count (option_map found_in_file found)
pair_within count None h = tt
pair_within count (Some found) h = h

mention_within : (count file : ℕ) (found : Option Mention) (others : Option (ℕ × Mention)) → file < count → IsPairWithin count (option_map unknown_found (option_map unknown_shown others)) →
    IsPairWithin count (option_map unknown_found (option_map unknown_shown (option_or (option_map (λ (m : Mention). (file, m)) found) others)))
mention_within count file None others h k = k
mention_within count file (Some m) others h k = h

unknown_within : (count : ℕ) (numbers : Numbering) (file : ℕ) (documents : List DocumentTree) → file + length documents ≤ count →
    IsPairWithin count (option_map unknown_found (option_map unknown_shown (unknown_from numbers file documents)))
unknown_within count numbers file [] h = tt
unknown_within count numbers file (document ∷ documents) h =
    mention_within count file (earliest_unknown numbers (document_mentions document)) (unknown_from numbers (suc file) documents) (omega arith) (unknown_within count numbers (suc file) documents (omega arith))

module _ (count : ℕ) (documents : List DocumentTree) (some : 0 < count) (sized : 0 + length documents ≤ count) where
  type_within : (number : ℕ) → (found_by_number (types_found 0 documents) number).file < count
  type_within number = number_within count (types_found 0 documents) number some (types_within count 0 documents sized)

  global_of_kind_within : (kind : ComponentKind) (number : ℕ) → (found_by_number (globals_found kind 0 documents) number).file < count
  global_of_kind_within kind number = number_within count (globals_found kind 0 documents) number some (globals_within kind count 0 documents sized)

  doubled_within : (kind : ComponentKind) → IsWithin count (doubled_of_kind documents kind)
  doubled_within kind = mapped_within count (found_by_number (globals_found kind 0 documents)) (doubled_declared_name (names_of_kind kind (declarations_in documents))) (λ number. global_of_kind_within kind number)

  inconsistent_within : IsWithin count (inconsistent documents (type_forms documents) (seen_components documents))
  inconsistent_within =
      let forms = type_forms documents in
      let seen = seen_components documents in
      let doubled = doubled_of_kind documents in
      let elsewhere = earlier_found (doubled kinds.GroupDefinition) (doubled kinds.AttributeGroupDefinition) in
      let derived = earlier_found (extension_found documents seen) (faulty_derivation documents forms seen) in
      earlier_within count (doubled_declaration documents) (earlier_found (faulty_complex_type documents forms seen) (earlier_found (faulty_type documents forms) (faulty_declaration documents)))
      (earlier_within count (doubled_type documents) (earlier_found (doubled kinds.ElementDeclaration) (earlier_found (doubled kinds.AttributeDeclaration) elsewhere))
      (mapped_within count (found_by_number (types_found 0 documents)) (doubled_type_name (type_names_in documents)) type_within)
      (earlier_within count (doubled kinds.ElementDeclaration) (earlier_found (doubled kinds.AttributeDeclaration) elsewhere) (doubled_within kinds.ElementDeclaration)
      (earlier_within count (doubled kinds.AttributeDeclaration) elsewhere (doubled_within kinds.AttributeDeclaration)
      (earlier_within count (doubled kinds.GroupDefinition) (doubled kinds.AttributeGroupDefinition) (doubled_within kinds.GroupDefinition) (doubled_within kinds.AttributeGroupDefinition)))))
      (earlier_within count (faulty_complex_type documents forms seen) (earlier_found (faulty_type documents forms) (faulty_declaration documents))
      (earlier_within count (doubled_attribute documents seen) (earlier_found (disagreeing_element documents seen) derived)
      (mapped_within count (found_attribute (types_found 0 documents)) (first_doubled seen.types seen.attribute_groups) (λ doubled. type_within doubled.number))
      (earlier_within count (disagreeing_element documents seen) derived
      (mapped_within count (found_particle documents) (first_disagreement seen.types seen.groups) (λ particle. behind_within count 0 0 particle.place documents some sized))
      (earlier_within count (extension_found documents seen) (faulty_derivation documents forms seen)
      (mapped_within count (found_extension (types_found 0 documents)) (first_differing_extension seen.types seen.groups) (λ extension. type_within extension.number))
      (mapped_within count (found_fault (types_found 0 documents)) (first_derivation_fault forms 0 seen.types) (λ fault. type_within fault.number)))))
      (earlier_within count (faulty_type documents forms) (faulty_declaration documents)
      (mapped_within count (found_fault (types_found 0 documents)) (first_type_fault (simple_faults forms)) (λ fault. type_within fault.number))
      (earlier_within count (complex_attribute_type documents) (disordered_bounds documents) (complex_within count (is_complex_type documents) 0 documents sized) (broken_within count Order 0 documents sized))))

  circular_within : IsWithin count (circular documents (type_forms documents))
  circular_within =
      earlier_within count (circular_type documents (type_forms documents)) (earlier_found (circular_group documents) (circular_attribute_group documents))
      (mapped_within count (found_by_number (types_found 0 documents)) (first_circular (type_forms documents)) type_within)
      (earlier_within count (circular_group documents) (circular_attribute_group documents)
      (mapped_within count (found_by_number (globals_found kinds.GroupDefinition 0 documents)) (first_number (is_circular_group (model_groups documents)) 0 (first_inner documents)) (λ number. global_of_kind_within kinds.GroupDefinition number))
      (mapped_within count (found_by_number (globals_found kinds.AttributeGroupDefinition 0 documents)) (first_number (is_circular_attribute_group (attribute_groups documents)) 0 (length (attribute_groups documents)))
      (λ number. global_of_kind_within kinds.AttributeGroupDefinition number)))

  too_large_within : IsWithin count (too_large documents (seen_components documents))
  too_large_within =
      let seen = seen_components documents in
      let counted = declarations_counted 0 documents in
      earlier_within count (large_content documents seen) (earlier_found (past_occurrence_limit documents) (past_declaration_limit documents))
      (mapped_within count (found_by_number (types_found 0 documents)) (first_number (is_too_large seen) 0 (length seen.types)) type_within)
      (earlier_within count (past_occurrence_limit documents) (past_declaration_limit documents) (broken_within count Limit 0 documents sized)
      (first_is_within count (found_past_count (places_counted counted)) counted (past_within count (places_counted counted) counted (counted_within count 0 documents sized))))

  documents_within : IsToldWithin count (documents_judged documents)
  documents_within =
      let forms = type_forms documents in
      let seen = seen_components documents in
      let written = declares (schemas_written documents) in
      let large = unless_broken TooLarge (option_map found_in_file (too_large documents seen)) written in
      let circles = unless_broken Circular (option_map found_in_file (circular documents forms)) large in
      unless_within count UnknownName (option_map unknown_found (unknown_name documents)) (components_judged documents forms seen written) (unknown_within count (declared_number documents) 0 documents sized)
      (unless_within count Inconsistent (option_map found_in_file (inconsistent documents forms seen)) circles (pair_within count (inconsistent documents forms seen) inconsistent_within)
      (unless_within count Circular (option_map found_in_file (circular documents forms)) large (pair_within count (circular documents forms) circular_within)
      (unless_within count TooLarge (option_map found_in_file (too_large documents seen)) written (pair_within count (too_large documents seen) too_large_within) tt)))

  restrictions_within : (schemas : SchemaSet) (judgement : Restrictions) → IsToldWithin count (after_judgement (types_found 0 documents) schemas judgement)
  restrictions_within schemas Sound = tt
  restrictions_within schemas (Unsound number list) = type_within number
  restrictions_within schemas (Undecided number) = type_within number

  judged_within : (read told : Imported) → IsToldWithin count read → IsJudged documents read told → IsToldWithin count told
  judged_within (declares schemas) told h judged = subst (IsToldWithin count) (sym judged.2) (restrictions_within schemas judged.0)
  judged_within (breaks rule file name list) told h judged = subst (IsToldWithin count) (sym judged) h

-- ---- files

outside_by : (count number : ℕ) (found : Option (List ℕ)) (others : Option (ℕ × List ℕ)) → number < count → IsPairWithin count others → IsPairWithin count (option_or (option_map (λ (name : List ℕ). (number, name)) found) others)
outside_by count number None others h k = k
outside_by count number (Some name) others h k = h

outside_within : (count number : ℕ) (files : List Source) → number + length files ≤ count → IsPairWithin count (outside_files number files)
outside_within count number [] h = tt
outside_within count number (file ∷ files) h = outside_by count number (outside_root file.root) (outside_files (number + 1) files) (omega arith) (outside_within count (number + 1) files (omega arith))

as_many_documents : (at : Numbers) (files : List Source) → length (documents_written at files) ≡ length files
as_many_documents at [] = refl
as_many_documents at (file ∷ files) = ap suc (as_many_documents (numbers_behind at file.root) files)

-- no files break no rule
nothing_told : (told : Imported) → IsJudged [] (documents_judged []) told → (rule : SchemaRule) (file : ℕ) (name : List ℕ) (list : List Shape) → told ≡ breaks rule file name list → ⊥
unfolding first_disagreement first_differing_extension
nothing_told told (Sound, judged, e) rule file name list f = absurd (cc)
nothing_told told (Unsound number found, judged, e) rule file name list f = true≢false (sym judged.1.2)
nothing_told told (Undecided number, judged, e) rule file name list f = true≢false (sym judged.1.2)

pub is_broken_in_a_file : IsBrokenInAFile
unfolding IsImported
is_broken_in_a_file [] rule file name list h = absurd (nothing_told (breaks rule file name list) h rule file name list refl)
is_broken_in_a_file (source ∷ files) rule file name list h =
    let all = source ∷ files in
    let documents = documents_of all in
    let same = as_many_documents first_numbers all in
    let sized : 0 + length documents ≤ length all = omega (arith, same) in
    let some : 0 < length all = omega arith in
    judged_within (length all) documents some sized (read_in_files all) (breaks rule file name list)
    (unless_within (length all) NotInProfile (outside_files 0 all) (documents_judged documents) (outside_within (length all) 0 all (omega arith)) (documents_within (length all) documents some sized)) h
