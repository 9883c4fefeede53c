-- The declarations of types, elements and attributes, global and local, and the first that 4,096 others stand in front of.
use Rattle.std.specs.Prelude.{ℕ, suc, Bool, false, nat_lt, nat_le, List, [], ◌∷◌, ◌++◌, map, count_by, Option, None, Some, if◌then◌else◌}
use Rattle.std.specs.List.{flat_map}
use Rattle.gx_base.specs.declared.name.Name.{Name}
use Rattle.gx_schema_syntax.specs.declared.written.AttributeMember.{AttributeMember}
use Rattle.gx_schema_syntax.specs.declared.written.AttributeMember.TheVariants as members
use Rattle.gx_schema_syntax.specs.declared.written.ComplexTypeDefinition.{ComplexTypeDefinition}
use Rattle.gx_schema_syntax.specs.declared.written.GlobalDeclaration.{GlobalDeclaration}
use Rattle.gx_schema_syntax.specs.declared.written.GlobalDeclaration.TheVariants as globals
use Rattle.gx_schema_syntax.specs.declared.written.LocalDeclaration.{LocalDeclaration}
use Rattle.gx_schema_syntax.specs.declared.written.LocalDeclaration.TheVariants.{Declared, Referred}
use Rattle.gx_schema_syntax.specs.declared.written.TypeDeclaration.{TypeDeclaration}
use Rattle.gx_schema_syntax.specs.declared.written.TypeDefinition.{TypeDefinition}
use Rattle.gx_schema_syntax.specs.declared.written.TypeDefinition.TheVariants.{Simple, Complex}
use Rattle.gx_schema_syntax.specs.DocumentTree.{DocumentTree}
use Rattle.gx_schema_syntax.specs.ParticleTree.{ParticleTree, ParticleTrees, an_element, a_group, a_model_group, no_particles, a_particle}
use Rattle.gx_typetext.specs.NameText.{name_text, type_name_text}
use Rattle.gx_schema.specs.declared.declaration_count.CountedDeclaration.{CountedDeclaration}
use Rattle.gx_schema.specs.declared.declaration_count.CountedName.{CountedName}
use Rattle.gx_schema.specs.declared.declaration_count.CountedName.TheVariants as names
use Rattle.gx_schema.specs.declared.found.Found.{Found}
use Rattle.gx_schema.specs.FirstFound.{first_found}

-- ---- the declarations of documents: each type is followed by the elements and attributes that are declared in it

abbrev pub counted_type_declaration : (file : ℕ) → TypeDeclaration → CountedDeclaration
counted_type_declaration file declaration = record { file = file; place = declaration.place; name = names.Type declaration.name }

abbrev pub counted_named : (file place : ℕ) → Name → CountedDeclaration
counted_named file place name = record { file = file; place = place; name = names.Other name }

-- a reference declares nothing
abbrev pub counted_local : (file place : ℕ) → LocalDeclaration → List CountedDeclaration
counted_local file place (Declared name kind) = counted_named file place name ∷ []
counted_local file place (Referred reference kind) = []

abbrev mutual
  pub elements_counted : (file : ℕ) → ParticleTree → List CountedDeclaration
  elements_counted file (an_element place bounds declaration) = counted_local file place declaration
  elements_counted file (a_group place bounds reference) = []
  elements_counted file (a_model_group place bounds compositor particles) = elements_counted_among file particles

  pub elements_counted_among : (file : ℕ) → ParticleTrees → List CountedDeclaration
  elements_counted_among file no_particles = []
  elements_counted_among file (a_particle first others) = elements_counted file first ++ elements_counted_among file others

abbrev pub content_counted : (file : ℕ) → Option ParticleTree → List CountedDeclaration
content_counted file None = []
content_counted file (Some particle) = elements_counted file particle

-- prohibited attributes too
abbrev pub member_counted : (file : ℕ) → AttributeMember → List CountedDeclaration
member_counted file (members.Attribute place usage attribute) = counted_local file place attribute
member_counted file (members.Group place reference) = []

abbrev pub complex_counted : (file : ℕ) → ComplexTypeDefinition → List CountedDeclaration
complex_counted file definition = content_counted file definition.particle ++ flat_map (member_counted file) definition.attributes

abbrev pub definition_counted : (file : ℕ) → TypeDefinition → List CountedDeclaration
definition_counted file (Simple definition) = []
definition_counted file (Complex definition) = complex_counted file definition

abbrev pub type_declarations_counted : (file : ℕ) → TypeDeclaration → List CountedDeclaration
type_declarations_counted file declaration = counted_type_declaration file declaration ∷ definition_counted file declaration.definition

abbrev pub global_counted : (file : ℕ) → GlobalDeclaration → List CountedDeclaration
global_counted file (globals.Element place name kind) = counted_named file place name ∷ []
global_counted file (globals.Attribute place name kind) = counted_named file place name ∷ []
global_counted file (globals.Group place name particle) = content_counted file particle
global_counted file (globals.AttributeGroup place name attributes) = flat_map (member_counted file) attributes

abbrev pub declarations_counted : (file : ℕ) → List DocumentTree → List CountedDeclaration
declarations_counted file [] = []
declarations_counted file (document ∷ documents) =
    flat_map (type_declarations_counted file) document.types ++ (flat_map (global_counted file) document.declarations ++ declarations_counted (suc file) documents)

-- ---- the first past the limit

abbrev pub counted_name_text : CountedName → List ℕ
counted_name_text (names.Type name) = type_name_text name
counted_name_text (names.Other name) = name_text name

abbrev pub found_counted : CountedDeclaration → Found
found_counted declaration = record { file = declaration.file; place = declaration.place; name = counted_name_text declaration.name }

abbrev pub greatest_count : ℕ
greatest_count = 4096

-- how many stand in front of a place
abbrev pub count_in_front : List ℕ → (place : ℕ) → ℕ
count_in_front places place = count_by (λ (other : ℕ). nat_lt other place) places

abbrev pub places_counted : List CountedDeclaration → List ℕ
places_counted declarations = map (λ (declaration : CountedDeclaration). declaration.place) declarations

-- a declaration that as many as are read stand in front of
abbrev pub found_past_count : (places : List ℕ) → CountedDeclaration → Option Found
found_past_count places declaration = if nat_le greatest_count (count_in_front places declaration.place) then Some (found_counted declaration) else None

abbrev pub first_past_count : List CountedDeclaration → Option Found
first_past_count declarations = first_found (found_past_count (places_counted declarations)) declarations

-- the first declaration past the limit, by place
abbrev pub past_declaration_limit : List DocumentTree → Option Found
past_declaration_limit documents = first_past_count (declarations_counted 0 documents)

-- ---- steps of the code

-- whether a place stands behind another, if there is one
abbrev pub is_behind : Option ℕ → (place : ℕ) → Bool
is_behind None place = false
is_behind (Some last) place = nat_lt last place

abbrev pub found_behind : (last : Option ℕ) → CountedDeclaration → Option Found
found_behind last declaration = if is_behind last declaration.place then Some (found_counted declaration) else None
