-- What names stand for at a point of a query: the prefixes and variables in scope, and what the schemas declare (XQuery 1.0, sections 2.1.1 and 4.12).
use Rattle.std.specs.Prelude.{ℕ, Bool, List, [], ◌∷◌, codes, bytes_eq, encode_utf8_all, Option, None, Some, is_some, unwrap_or, drop}
use Rattle.std.specs.Str.{chars}
use Rattle.std.specs.Option.{option_map}
use Rattle.gx_base.specs.Name.{same_name}
use Rattle.gx_base.specs.Text.{same_text}
use Rattle.gx_base.specs.declared.name.Name.{Name}
use Rattle.gx_base.specs.declared.place.Place.{Place}
use Rattle.gx_ast.specs.declared.name.QName.{QName}
use Rattle.gx_ast.specs.declared.name.Variable.{Variable}
use Rattle.gx_ast.specs.declared.sequence_type.BoundVariable.{BoundVariable}
use Rattle.gx_types.specs.SchemaSet.{SchemaSet}
use Rattle.gx_names_scope.specs.declared.signature.Signature.{Signature}
use Rattle.gx_names_scope.specs.Signature.{same_signature}
use Rattle.gx_resolved.specs.NestedMap.{innermost_value}

-- prefixes with their URIs, the innermost first; the empty prefix has the default element namespace, and the empty URI none
abbrev pub Namespaces : Type 0
Namespaces = List (List ℕ × List ℕ)

-- the expanded names of variables with the places of their binders, the innermost first
abbrev pub Variables : Type 0
Variables = List (Name × Place)

-- the functions that are declared, with the places of their declarations, the last one first
abbrev pub Functions : Type 0
Functions = List (Signature × Place)

pub record Environment : Type 0 where
  pub namespaces : Namespaces
  pub functions : Functions
  pub variables : Variables
  pub schemas : SchemaSet

-- ---- namespaces

abbrev pub uri_of_xml : List ℕ
uri_of_xml = chars (codes "http://www.w3.org/XML/1998/namespace")

-- the text is this word of ASCII characters
abbrev pub is_word : List ℕ → List ℕ → Bool
is_word text word = bytes_eq (encode_utf8_all text) word

abbrev pub schema_uri : List ℕ
schema_uri = chars (codes "http://www.w3.org/2001/XMLSchema")

abbrev pub instance_uri : List ℕ
instance_uri = chars (codes "http://www.w3.org/2001/XMLSchema-instance")

unfoldable pub function_uri : List ℕ
function_uri = chars (codes "http://www.w3.org/2005/xpath-functions")

abbrev pub local_uri : List ℕ
local_uri = chars (codes "http://www.w3.org/2005/xquery-local-functions")

-- the prefixes that are known without a declaration
unfoldable pub known_namespaces : Namespaces
known_namespaces =
    (chars (codes "local"), local_uri) ∷ (chars (codes "fn"), function_uri) ∷ (chars (codes "xsi"), instance_uri)
    ∷ (chars (codes "xs"), schema_uri) ∷ (chars (codes "xml"), uri_of_xml) ∷ []

-- a URI, where it is not empty
abbrev pub if_not_empty : Option (List ℕ) → Option (List ℕ)
if_not_empty None = None
if_not_empty (Some []) = None
if_not_empty (Some (c ∷ cs)) = Some (c ∷ cs)

-- the URI of a name by its prefix; a name without one has the given URI
abbrev pub uri_of : Namespaces → (unprefixed : List ℕ) → (prefix : List ℕ) → Option (List ℕ)
uri_of namespaces unprefixed [] = Some unprefixed
uri_of namespaces unprefixed (c ∷ cs) = if_not_empty (innermost_value same_text namespaces (c ∷ cs))

abbrev pub default_element_uri : Namespaces → List ℕ
default_element_uri namespaces = unwrap_or (innermost_value same_text namespaces []) []

-- ---- expanded names

abbrev pub expanded : QName → Option (List ℕ) → Option Name
expanded name uri = option_map (λ u. record { uri = u; prefix = name.prefix; local = name.local }) uri

-- elements and types without a prefix are in the default element namespace
abbrev pub element_name : Environment → QName → Option Name
element_name environment name = expanded name (uri_of environment.namespaces (default_element_uri environment.namespaces) name.prefix)

-- variables and attributes without a prefix are in no namespace
abbrev pub plain_name : Environment → QName → Option Name
plain_name environment name = expanded name (uri_of environment.namespaces [] name.prefix)

-- functions without a prefix are those of the standard, whatever the prefix `fn` is bound to
abbrev pub called_in : Namespaces → QName → Option Name
called_in namespaces name = expanded name (uri_of namespaces function_uri name.prefix)

abbrev pub called_name : Environment → QName → Option Name
called_name environment name = called_in environment.namespaces name

abbrev pub nameless : Name
nameless = record { uri = []; prefix = []; local = [] }

-- a name, where its prefix is known
abbrev pub or_nameless : Option Name → Name
or_nameless name = unwrap_or name nameless

-- ---- functions

-- a function of this name with so many parameters is declared
abbrev pub is_declared_function : Environment → Name → (arity : ℕ) → Bool
is_declared_function environment name arity = is_some (innermost_value same_signature environment.functions (record { name = name; arity = arity }))

-- ---- variables

-- the place of the binder that a name has in scope
abbrev pub binder_of : Variables → Name → Option Place
binder_of variables name = innermost_value same_name variables name

-- with a variable that is bound inside
abbrev pub with_variable : Variable → Environment → Environment
with_variable binder environment =
    record environment { variables = (or_nameless (plain_name environment binder.name), binder.place) ∷ environment.variables }

-- with one that may be bound
abbrev pub with_optional : Option Variable → Environment → Environment
with_optional None environment = environment
with_optional (Some binder) environment = with_variable binder environment

-- without the innermost variable
abbrev pub without_variable : Environment → Environment
without_variable environment = record environment { variables = drop 1 environment.variables }

abbrev pub without_optional : Option Variable → Environment → Environment
without_optional None environment = environment
without_optional (Some binder) environment = without_variable environment

-- with the variables of a binding: that of the items, and that of their position
abbrev pub with_bound : BoundVariable → Environment → Environment
with_bound bound environment = with_optional bound.position (with_variable bound.variable environment)
