-- What a call is of: a function of the standard, a declared function, or the constructor function of a built-in type (XQuery 1.0, section 3.1.5; Functions and Operators, sections 2.3 and 5.1).
use Rattle.std.specs.Prelude.{ℕ, Bool, true, false, ◌&&◌, ◌==◌, List, codes, Option, None, Some, if◌then◌else◌}
use Rattle.gx_base.specs.Text.{same_text}
use Rattle.gx_base.specs.declared.name.Name.{Name}
use Rattle.gx_base.specs.declared.place.Place.{Place}
use Rattle.gx_base.specs.declared.type_name.Builtin.{Builtin}
use Rattle.gx_base.specs.declared.type_name.Builtin.TheVariants as builtins
use Rattle.gx_base.specs.declared.type_name.TypeName.{TypeName}
use Rattle.gx_base.specs.declared.type_name.TypeName.TheVariants as names
use Rattle.gx_types.specs.BuiltinOrder.{same_builtin}
use Rattle.gx_typetext.specs.KnownNames.{atomic_with_name}
use Rattle.gx_funcs.specs.declared.function.Function.{Function}
use Rattle.gx_funcs.specs.declared.function.Function.TheVariants as functions
use Rattle.gx_funcs.specs.Function.{function_named}
use Rattle.gx_resolved.specs.declared.tree.Construct.{Construct}
use Rattle.gx_resolved.specs.declared.tree.Construct.TheVariants as constructs
use Rattle.gx_resolved.specs.ResolvedTree.{ResolvedTrees, resolved_at, no_resolved, one_resolved}
use Rattle.gx_names_scope.specs.Environment.{Environment, function_uri, is_declared_function, is_word}

-- `string` without an argument is called with the context item
abbrev pub is_string_of_context : (local : List ℕ) → (arity : ℕ) → Bool
is_string_of_context local arity = arity == 0 && is_word local (codes "string")

-- the function of the standard that is called by this local name with so many arguments
abbrev pub standard_function : (local : List ℕ) → (arity : ℕ) → Option Function
standard_function local arity = if is_string_of_context local arity then Some functions.String else function_named local arity

abbrev pub built_in_call : Option Function → Option Construct
built_in_call None = None
built_in_call (Some function) = Some (constructs.Call function)

-- a built-in type that has a constructor function: an atomic one other than xs:anyAtomicType
abbrev pub with_constructor : Option TypeName → Option Builtin
with_constructor (Some (names.Builtin builtin)) = if same_builtin builtin builtins.AnyAtomic then None else Some builtin
with_constructor _ = None

-- the type that a constructor function of this name casts its one argument to
abbrev pub type_constructed : Environment → Name → (arity : ℕ) → Option Builtin
type_constructed environment name arity = if arity == 1 then with_constructor (atomic_with_name environment.schemas name) else None

-- a call of a constructor function is a cast, of an empty argument too
abbrev pub constructor_call : Option Builtin → Option Construct
constructor_call None = None
constructor_call (Some builtin) = Some (constructs.CastAs (names.Builtin builtin) true)

-- a call with so many arguments: of a function of the standard in its namespace, elsewhere of a declared one, or of a constructor function
abbrev pub called_construct : Environment → Name → (arity : ℕ) → Option Construct
called_construct environment name arity =
    if same_text name.uri function_uri then built_in_call (standard_function name.local arity)
    else if is_declared_function environment name arity then Some (constructs.CallDeclared name)
    else constructor_call (type_constructed environment name arity)

abbrev pub is_string_call : Construct → Bool
is_string_call (constructs.Call functions.String) = true
is_string_call _ = false

-- the context item at the place of a call that has it as its argument
abbrev pub context_argument : Place → Construct → (arity : ℕ) → ResolvedTrees
context_argument place construct arity =
    if arity == 0 && is_string_call construct then one_resolved (resolved_at place constructs.Context no_resolved) else no_resolved
