-- The laws of casts and comparisons.
use Rattle.std.specs.Prelude.{◌≡◌, ◌≢◌, ◌↔◌, ℕ, Bool, true, false, not, ◌||◌, List, [], ◌∷◌, ◌++◌, All, Some, is_some, Ok, Err, IsSome}
use Rattle.std.specs.Bool.{IsTrue}
use Rattle.std.specs.declared.cmp.Ordering.{Ordering}
use Rattle.std.specs.declared.cmp.Ordering.TheVariants.{Equal}
use Rattle.gx_base.specs.declared.code.Code.{Code}
use Rattle.gx_base.specs.declared.type_name.Builtin.{Builtin}
use Rattle.gx_base.specs.declared.type_name.TypeName.{TypeName}
use Rattle.gx_base.specs.declared.type_name.TypeName.TheVariants as names
use Rattle.gx_num.specs.Number.{InRange}
use Rattle.gx_facets.specs.declared.AtomValue.{AtomValue}
use Rattle.gx_facets.specs.declared.AtomValue.TheVariants.{Untyped, Str, Truth, Num}
use Rattle.gx_facets.specs.declared.Atomic.{Atomic}
use Rattle.gx_facets.specs.Value.{order_of, same_family, printed_value}
use Rattle.gx_facets.specs.ValueSpace.{FitsType}
use Rattle.gx_facets.specs.declared.restriction.Facets.{Facets}
use Rattle.gx_types.specs.BaseChain.{own_content}
use Rattle.gx_types.specs.SchemaInvariant.{is_nameable}
use Rattle.gx_types.specs.SchemaSet.{SchemaSet}
use Rattle.gx_types.specs.SimpleType.{all_facets, bottom_of}
use Rattle.gx_types.specs.SimpleValue.{is_admitted, values_of_text}
use Rattle.gx_types.specs.declared.declaration.Content.TheVariants as contents
use Rattle.gx_atomic.specs.declared.casting.CastError.{CastError}
use Rattle.gx_atomic.specs.declared.casting.CastError.TheVariants.{FORG0001}
use Rattle.gx_atomic.specs.declared.comparison.Op.{Op}
use Rattle.gx_atomic.specs.declared.comparison.Op.TheVariants.{Eq, Ne, Lt, Le, Gt, Ge}
use Rattle.gx_atomic.specs.Cast.{cast_value, cast_of, code_of}
use Rattle.gx_atomic.specs.Comparison.{Decision, holds, value_comparison, pair_comparison, pairs_of, pair_decision, general_comparison}
use Rattle.gx_atomic.specs.Fit.{FitsItsType}
use Rattle.gx_atomic.specs.JoinKey.{join_key_of, same_key, written_key}

-- ---- comparisons

-- each operator says what it says of the order, and three of them the contrary of the others
pub record OperatorsAreContraries : Type 0 where
  pub unequal : (order : Ordering) → holds Ne order ≡ not (holds Eq order)
  pub not_less : (order : Ordering) → holds Ge order ≡ not (holds Lt order)
  pub not_greater : (order : Ordering) → holds Le order ≡ not (holds Gt order)
  pub less_or_equal : (order : Ordering) → holds Le order ≡ holds Lt order || holds Eq order

-- a value is equal to itself, and neither less nor greater
abbrev pub ValuesAreEqualToThemselves : Type 0
ValuesAreEqualToThemselves = (op : Op) (value : AtomValue) → value_comparison op value value ≡ Some (holds op Equal)

-- keys are equal exactly where their values are of one family and equal, and what is hashed of equal keys is the same
pub record KeysAreEqualAsValues : Type 0 where
  pub equal : (a b : Atomic) → (same_key (join_key_of a) (join_key_of b) ≡ true) ↔ (order_of a.value b.value ≡ Some Equal)
  pub hashed : (a b : Atomic) → order_of a.value b.value ≡ Some Equal → written_key (join_key_of a) ≡ written_key (join_key_of b)

-- the general comparison with an empty list is false
pub record EmptyListsCompareFalse : Type 0 where
  pub empty_left : (op : Op) (b : List Atomic) → general_comparison op [] b ≡ Some (Ok false)
  pub empty_right : (op : Op) (a : List Atomic) → general_comparison op a [] ≡ Some (Ok false)

-- a pair with this decision stands among the pairs, and all pairs before it compare false
pub record IsFirstToDecide (op : Op) (pairs : List (Atomic × Atomic)) (decision : Decision) : Type 0 where
  pub earlier : List (Atomic × Atomic)
  pub deciding : Atomic × Atomic
  pub later : List (Atomic × Atomic)
  pub standing : pairs ≡ earlier ++ deciding ∷ later
  pub all_false : All (λ other. pair_decision op other ≡ Some (Ok false)) earlier
  pub decides : pair_decision op deciding ≡ decision

-- a general comparison is true, fails or cannot be made exactly where the first pair, left item first, that does not compare
-- false does so; and it is false exactly where all pairs compare false
pub record FirstPairDecides : Type 0 where
  pub by_first_pair : (op : Op) (a b : List Atomic) (decision : Decision) → decision ≢ Some (Ok false)
      → (general_comparison op a b ≡ decision) ↔ IsFirstToDecide op (pairs_of a b) decision
  pub by_no_pair : (op : Op) (a b : List Atomic)
      → (general_comparison op a b ≡ Some (Ok false)) ↔ All (λ pair. pair_decision op pair ≡ Some (Ok false)) (pairs_of a b)

-- both are numbers, both strings or untyped values, both booleans, or one is untyped and the other a boolean
abbrev pub are_comparable : AtomValue → AtomValue → Bool
are_comparable (Untyped text) (Truth b) = true
are_comparable (Truth b) (Untyped text) = true
are_comparable a b = same_family a b

-- a pair can be compared exactly by its families, whatever the operator is, and lists where all their pairs can
pub record ComparableByFamilies : Type 0 where
  pub pairs : (op : Op) (a b : AtomValue) → is_some (pair_comparison op a b) ≡ are_comparable a b
  pub lists : (op : Op) (a b : List Atomic) → All (λ pair. are_comparable pair.0.value pair.1.value ≡ true) (pairs_of a b) → IsSome (general_comparison op a b)

-- a general comparison fails with FORG0001 alone
abbrev pub ComparisonsFailInOneWay : Type 0
ComparisonsFailInOneWay = (op : Op) (a b : List Atomic) (error : CastError) → general_comparison op a b ≡ Some (Err error) → error ≡ FORG0001

-- ---- casts

-- what a cast gives has the target as its type, and fits it
abbrev pub CastsFitTheirTarget : Type 0
CastsFitTheirTarget =
    (schemas : SchemaSet) (a b : Atomic) (to : TypeName) → cast_of schemas a to ≡ Ok b → (b.kind ≡ to) × FitsItsType schemas b

-- a fault that has a code
abbrev pub HasCode : CastError → Type 0
HasCode error = (code : Code) × (code_of error ≡ Some code)

-- a cast that fails has a code: it wants no memory
abbrev pub CastsFailWithCodes : Type 0
CastsFailWithCodes = (schemas : SchemaSet) (a : Atomic) (to : TypeName) (error : CastError) → cast_of schemas a to ≡ Err error → HasCode error

-- a number within the limits of its type
abbrev pub HasNumberInRange : AtomValue → Type 0
HasNumberInRange (Num n) = InRange n
HasNumberInRange _ = Unit {0}

-- what a cast gives is a value of its target
abbrev pub CastsGiveValuesOfTheirTarget : Type 0
CastsGiveValuesOfTheirTarget =
    (kind : Builtin) (value given : AtomValue) → HasNumberInRange value → cast_value kind value ≡ Ok given → FitsType kind given

-- a value of a type, cast to that type, stays as it is
abbrev pub CastsToTheOwnTypeChangeNothing : Type 0
CastsToTheOwnTypeChangeNothing =
    (schemas : SchemaSet) (a : Atomic) (kind : Builtin) → a.kind ≡ names.Builtin kind → FitsType kind a.value → cast_of schemas a a.kind ≡ Ok a

-- the printed text of a value of a type, cast to that type, is the value again
abbrev pub CastsOfPrintedValuesGoBack : Type 0
CastsOfPrintedValuesGoBack =
    (kind : Builtin) (value : AtomValue) → FitsType kind value → cast_value kind (Str (printed_value value)) ≡ Ok value

-- what a cast to an atomic type that is declared gives is a value of the built-in type at which its bases end, and each facet of it
-- and of its bases admits the value
abbrev pub CastsToDeclaredTypesAreAdmitted : Type 0
CastsToDeclaredTypesAreAdmitted =
    (schemas : SchemaSet) (a b : Atomic) (t : TypeName) (facets : Facets) → HasNumberInRange a.value → own_content schemas.types t ≡ Some (contents.Atomic facets)
    → cast_of schemas a t ≡ Ok b → FitsType (bottom_of schemas.types t) b.value × (is_admitted (all_facets schemas.types t) b.value ≡ true)

-- such a value, cast to its own type, stays as it is
abbrev pub CastsToTheOwnDeclaredTypeChangeNothing : Type 0
CastsToTheOwnDeclaredTypeChangeNothing =
    (schemas : SchemaSet) (a : Atomic) (facets : Facets) → own_content schemas.types a.kind ≡ Some (contents.Atomic facets) → IsTrue (is_nameable (bottom_of schemas.types a.kind))
    → FitsType (bottom_of schemas.types a.kind) a.value → is_admitted (all_facets schemas.types a.kind) a.value ≡ true → cast_of schemas a a.kind ≡ Ok a

-- a text is cast to an atomic type that is declared as it is read at that type, to a value wherever it has one
abbrev pub TextsAreCastAsTheyAreRead : Type 0
TextsAreCastAsTheyAreRead =
    (schemas : SchemaSet) (a : Atomic) (t : TypeName) (text : List ℕ) (facets : Facets) (b : Atomic)
    → own_content schemas.types t ≡ Some (contents.Atomic facets) → IsTrue (is_nameable (bottom_of schemas.types t)) → a.value ≡ Str text
    → (cast_of schemas a t ≡ Ok b) ↔ (values_of_text schemas t text ≡ Ok (b ∷ []))
