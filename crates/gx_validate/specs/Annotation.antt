-- The type of an element: the declared one, or the one that xsi:type names (XML Schema 1.0 part 1, sections 2.6.1 and 3.3.4).
use Rattle.std.specs.Prelude.{ℕ, List, [], ◌∷◌, reverse, Option, Some, None, if◌then◌else◌}
use Rattle.std.specs.Option.{option_map}
use Rattle.gx_base.specs.WhiteSpace.{is_white_space}
use Rattle.gx_base.specs.declared.name.Name.{Name}
use Rattle.gx_base.specs.declared.type_name.Builtin.{Builtin as BuiltinType}
use Rattle.gx_base.specs.declared.type_name.TypeName.{TypeName}
use Rattle.gx_base.specs.declared.type_name.TypeName.TheVariants.{Builtin, Named}
use Rattle.gx_types.specs.SchemaSet.{SchemaSet, declaration_of}
use Rattle.gx_types.specs.Derivation.{is_derived}
use Rattle.gx_types.specs.declared.declaration.Declared.{Declared}
use Rattle.gx_xml.specs.declared.source.Declaration.{Declaration}
use Rattle.gx_xml.specs.declared.source.SourceAttribute.{SourceAttribute}
use Rattle.gx_qnames.specs.Lexical.{is_qname}
use Rattle.gx_qnames.specs.Words.{is_schema_uri}
use Rattle.gx_qnames.specs.Builtins.{named_builtin}
use Rattle.gx_qnames.specs.Scope.{reference_in}
use Rattle.gx_qnames.specs.declared.reference.Reference.{Reference}
use Rattle.gx_validate.specs.InstanceAttributes.{given_type}

-- without white space in front
abbrev pub without_space_before : List ℕ → List ℕ
without_space_before [] = []
without_space_before (c ∷ cs) = if is_white_space c then without_space_before cs else (c ∷ cs)

-- without white space at either end
abbrev pub without_space_around : List ℕ → List ℕ
without_space_around text = reverse (without_space_before (reverse (without_space_before text)))

-- the declared type of a name, as its declaration names it
abbrev pub declared_type_named : SchemaSet → Name → Option TypeName
declared_type_named schemas name = option_map (λ (declared : Declared). declared.name) (declaration_of schemas (Named name))

-- the built-in type that a reference names, which is in the namespace of schema documents
abbrev pub built_in_type : Reference → Option BuiltinType
built_in_type reference = if is_schema_uri reference.name.uri then (named_builtin reference) else None

abbrev pub or_declared_type : SchemaSet → Name → Option BuiltinType → Option TypeName
or_declared_type schemas name (Some builtin) = Some (Builtin builtin)
or_declared_type schemas name None = declared_type_named schemas name

-- the type of a name: a built-in one, and else a declared one
abbrev pub known_type : SchemaSet → Reference → Option TypeName
known_type schemas reference = or_declared_type schemas reference.name (built_in_type reference)

abbrev pub bound_type : SchemaSet → Reference → Option TypeName
bound_type schemas reference = if reference.is_bound then (known_type schemas reference) else None

-- the type that a text names, where these declarations are in scope
abbrev pub type_named_in : SchemaSet → List Declaration → List ℕ → Option TypeName
type_named_in schemas scope text = if is_qname text then (bound_type schemas (reference_in scope text)) else None

-- a type that is known, and is derived from the declared one
abbrev pub where_derived : SchemaSet → (declared : TypeName) → Option TypeName → Option TypeName
where_derived schemas declared None = None
where_derived schemas declared (Some t) = if is_derived schemas t declared then Some t else None

abbrev pub annotation_given : SchemaSet → List Declaration → (declared : TypeName) → Option (List ℕ) → Option TypeName
annotation_given schemas scope declared None = Some declared
annotation_given schemas scope declared (Some value) = where_derived schemas declared (type_named_in schemas scope (without_space_around value))

-- the type of an element, unless its xsi:type is bad
abbrev pub annotation : SchemaSet → List Declaration → (declared : TypeName) → List SourceAttribute → Option TypeName
annotation schemas scope declared attributes = annotation_given schemas scope declared (given_type attributes)
