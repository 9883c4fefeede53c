-- Which printed types are read back, and as what.
use Rattle.std.specs.Prelude.{◌≡◌, ◌≢◌, ℕ, ◌+◌, ◌≤◌, Bool, true, false, ◌&&◌, List, [], ◌∷◌, codes, max, is_some, Option, None, Some}
use Rattle.std.specs.Bool.{IsTrue}
use Rattle.gx_base.specs.declared.limits.TheConstants.{TYPE_TEXT_POSITIONS, TYPE_TEXT_NESTING}
use Rattle.gx_base.specs.declared.name.Name.{Name}
use Rattle.gx_base.specs.declared.type_name.TypeName.{TypeName}
use Rattle.gx_base.specs.declared.type_name.TypeName.TheVariants as names
use Rattle.gx_grammar.specs.Tokens.{all_pass}
use Rattle.gx_types.specs.declared.item_type.ItemType.{ItemType}
use Rattle.gx_types.specs.declared.item_type.ItemType.TheVariants as items
use Rattle.gx_types.specs.Laws.{TakeTheSame}
use Rattle.gx_types.specs.SchemaSet.{SchemaSet, declaration_of}
use Rattle.gx_types.specs.SequenceType.{SequenceType, never, nothing, item, both, either, optional, star, plus}
use Rattle.gx_types.specs.TypeRules.{positions_of}
use Rattle.gx_type_laws.specs.Kept.{HoldsOfItems}
use Rattle.gx_typetext.specs.declared.context.Context.{Context}
use Rattle.gx_typetext.specs.declared.context.Context.TheVariants.{Whole, Sequence, Choice, Indicator}
use Rattle.gx_base.specs.NameCharacters.{is_ncname_start, is_ncname_character}
use Rattle.gx_typetext.specs.KnownNames.{builtin_of_name, is_atomic_name}
use Rattle.gx_typetext.specs.Letters.{is_uri_character}
use Rattle.gx_typetext.specs.NameText.{word}
use Rattle.gx_typetext.specs.TypeReading.{IsTypeText}
use Rattle.gx_typetext.specs.TypeText.{type_text, sequence_is_wrapped, choice_is_wrapped, indicated_is_wrapped}

-- names that can be written and are found

-- an NCName (Namespaces in XML 1.0, section 3)
abbrev pub is_ncname : List ℕ → Bool
is_ncname [] = false
is_ncname (c ∷ cs) = is_ncname_start c && all_pass is_ncname_character cs

-- a name whose URI can stand in braces, with an NCName behind it
pub record CanBeWritten (name : Name) : Type 0 where
  pub local : IsTrue (is_ncname name.local)
  pub uri : IsTrue (all_pass is_uri_character name.uri)

abbrev pub IsWritten : Option Name → Type 0
IsWritten None = Unit {0}
IsWritten (Some name) = CanBeWritten name

-- the name of a declared type, which no built-in type has
pub record IsFound (schemas : SchemaSet) (name : Name) : Type 0 where
  pub written : CanBeWritten name
  pub unshared : builtin_of_name name ≡ None
  pub declared : IsTrue (is_some (declaration_of schemas (names.Named name)))

-- a type that a test can name
abbrev pub IsKnownKind : SchemaSet → TypeName → Type 0
IsKnownKind schemas (names.Builtin builtin) = Unit {0}
IsKnownKind schemas (names.Named name) = IsFound schemas name
IsKnownKind schemas (names.Anonymous number) = ⊥

-- by itself `none` is the type of no value
abbrev pub IsNotNone : TypeName → Type 0
IsNotNone (names.Builtin builtin) = Unit {0}
IsNotNone (names.Named name) = name.uri ≡ [] → name.local ≢ word (codes "none")
IsNotNone (names.Anonymous number) = Unit {0}

abbrev pub IsKnownTest : SchemaSet → Option Name → TypeName → Type 0
IsKnownTest schemas name kind = IsWritten name × IsKnownKind schemas kind

abbrev pub IsKnownItem : SchemaSet → ItemType → Type 0
IsKnownItem schemas (items.Element name kind) = IsKnownTest schemas name kind
IsKnownItem schemas (items.Attribute name kind) = IsKnownTest schemas name kind
IsKnownItem schemas items.Text = Unit {0}
IsKnownItem schemas (items.Document None) = Unit {0}
IsKnownItem schemas (items.Document (Some element)) = IsKnownTest schemas element.0 element.1
IsKnownItem schemas (items.Atom kind) = IsKnownKind schemas kind × IsNotNone kind × IsTrue (is_atomic_name schemas kind)

abbrev pub AreKnownItems : SchemaSet → SequenceType → Type 0
AreKnownItems schemas t = HoldsOfItems (IsKnownItem schemas) t

-- limits

abbrev pub one_if : Bool → ℕ
one_if true = 1
one_if false = 0

-- the most parentheses that are open at once in the text of a type
abbrev pub nesting_in : Context → SequenceType → ℕ
nesting_in context never = 0
nesting_in context nothing = 0
nesting_in context (item kind) = 0
nesting_in context (both first second) = one_if (sequence_is_wrapped context) + max (nesting_in Sequence first) (nesting_in Sequence second)
nesting_in context (either first second) = one_if (choice_is_wrapped context) + max (nesting_in Choice first) (nesting_in Choice second)
nesting_in context (optional part) = one_if (indicated_is_wrapped context) + nesting_in Indicator part
nesting_in context (star part) = one_if (indicated_is_wrapped context) + nesting_in Indicator part
nesting_in context (plus part) = one_if (indicated_is_wrapped context) + nesting_in Indicator part

-- the text of the type is a type text
pub record CanBeReadBack (schemas : SchemaSet) (t : SequenceType) : Type 0 where
  pub known : AreKnownItems schemas t
  pub short : positions_of t ≤ TYPE_TEXT_POSITIONS
  pub flat : nesting_in Whole t ≤ TYPE_TEXT_NESTING

-- the text of such a type is that of a type which takes the same lists
abbrev pub PrintedTypesReadBack : Type 0
PrintedTypesReadBack =
    (schemas : SchemaSet) (t : SequenceType) → CanBeReadBack schemas t → (u : SequenceType) × IsTypeText schemas (type_text t) u × TakeTheSame schemas t u
