-- Types as typing makes them: `none` and the empty sequence stand by themselves alone, and item types are of known types.
use Rattle.std.specs.Prelude.{◌≡◌, ℕ, List, None, Some}
use Rattle.std.specs.Bool.{IsTrue}
use Rattle.gx_base.specs.declared.type_name.Builtin.TheVariants.{AnySimple, AnyAtomic}
use Rattle.gx_base.specs.declared.type_name.TypeName.TheVariants as names
use Rattle.gx_types.specs.declared.item_type.ItemType.{ItemType}
use Rattle.gx_types.specs.declared.item_type.ItemType.TheVariants as items
use Rattle.gx_types.specs.SchemaSet.{SchemaSet}
use Rattle.gx_types.specs.SchemaInvariant.{HoldsOfEach, IsSchemaSet}
use Rattle.gx_types.specs.Derivation.{bases_of, DerivesFrom}
use Rattle.gx_types.specs.Grounded.{is_known}
use Rattle.gx_types.specs.SequenceType.{SequenceType, never, nothing, item, both, either, optional, star, plus}
use Rattle.gx_core.specs.declared.cases.TypeCase.{TypeCase}
use Rattle.gx_core.specs.declared.operator.Operator.{Operator}
use Rattle.gx_core.specs.declared.operator.Operator.TheVariants as operators
use Rattle.gx_core.specs.Bindings.{Types}
use Rattle.gx_core.specs.Expression.{CoreExpression, At, Parts, no_parts, a_part}
use Rattle.gx_core.specs.Soundness.{TypedExpression}
use Rattle.gx_static.specs.Rule.{Ruling, has_type, has_none, rule}
use Rattle.gx_static.specs.Judgement.{typed, judged}

-- the type of an element is known, that of an attribute is simple, and that of an atomic value is atomic
abbrev pub IsOfKnownType : SchemaSet → ItemType → Type 0
IsOfKnownType schemas (items.Element name kind) = IsTrue (is_known (bases_of schemas) kind)
IsOfKnownType schemas (items.Attribute name kind) = DerivesFrom schemas kind (names.Builtin AnySimple)
IsOfKnownType schemas items.Text = Unit {0}
IsOfKnownType schemas (items.Document None) = Unit {0}
IsOfKnownType schemas (items.Document (Some element)) = IsTrue (is_known (bases_of schemas) element.1)
IsOfKnownType schemas (items.Atom kind) = DerivesFrom schemas kind (names.Builtin AnyAtomic)

-- neither `none` nor the empty sequence stands in a type, and each of its item types is of a known type
abbrev pub IsMadeOfItems : SchemaSet → SequenceType → Type 0
IsMadeOfItems schemas never = ⊥
IsMadeOfItems schemas nothing = ⊥
IsMadeOfItems schemas (item kind) = IsOfKnownType schemas kind
IsMadeOfItems schemas (both first second) = IsMadeOfItems schemas first × IsMadeOfItems schemas second
IsMadeOfItems schemas (either first second) = IsMadeOfItems schemas first × IsMadeOfItems schemas second
IsMadeOfItems schemas (optional part) = IsMadeOfItems schemas part
IsMadeOfItems schemas (star part) = IsMadeOfItems schemas part
IsMadeOfItems schemas (plus part) = IsMadeOfItems schemas part

-- a normal type: `none` and the empty sequence stand by themselves alone
abbrev pub IsNormalType : SchemaSet → SequenceType → Type 0
IsNormalType schemas never = Unit {0}
IsNormalType schemas nothing = Unit {0}
IsNormalType schemas (item kind) = IsMadeOfItems schemas (item kind)
IsNormalType schemas (both first second) = IsMadeOfItems schemas (both first second)
IsNormalType schemas (either first second) = IsMadeOfItems schemas (either first second)
IsNormalType schemas (optional part) = IsMadeOfItems schemas (optional part)
IsNormalType schemas (star part) = IsMadeOfItems schemas (star part)
IsNormalType schemas (plus part) = IsMadeOfItems schemas (plus part)

-- ---- rules

-- the type that a ruling gives is normal
abbrev pub GivesNormalType : SchemaSet → Ruling → Type 0
GivesNormalType schemas (has_type type) = IsNormalType schemas type
GivesNormalType schemas (has_none code part) = Unit {0}

-- the type that a cast names is atomic, and those of cases, of `treat as` and of the results of declared functions are normal
abbrev pub CastsToAtomicType : SchemaSet → Operator → Type 0
CastsToAtomicType schemas (operators.Cast kind allows_empty) = DerivesFrom schemas kind (names.Builtin AnyAtomic)
CastsToAtomicType schemas (operators.Switch cases default) = HoldsOfEach (λ (c : TypeCase). IsNormalType schemas c.kind) cases
CastsToAtomicType schemas (operators.Treat kind) = IsNormalType schemas kind
CastsToAtomicType schemas (operators.User signature count) = IsNormalType schemas signature.result
CastsToAtomicType schemas _ = Unit {0}

-- each operator gives a normal type where its parts have such
abbrev pub RulesGiveNormalTypes : Type 0
RulesGiveNormalTypes =
    (schemas : SchemaSet) (operator : Operator) (parts : List SequenceType) → IsSchemaSet schemas → CastsToAtomicType schemas operator → HoldsOfEach (IsNormalType schemas) parts
    → GivesNormalType schemas (rule schemas operator parts)

-- ---- expressions

-- each variable has a normal type
abbrev pub HaveNormalTypes : SchemaSet → Types → Type 0
HaveNormalTypes schemas types = HoldsOfEach (λ (binding : ℕ × SequenceType). IsNormalType schemas binding.1) types

abbrev mutual
  -- each cast in an expression names an atomic type, and each case, each `treat as` and each function that is called a normal one
  pub CastsToAtomicTypes : SchemaSet → CoreExpression → Type 0
  CastsToAtomicTypes schemas (At place outer annotation operator parts) = CastsToAtomicType schemas operator × PartsCastToAtomicTypes schemas parts

  pub PartsCastToAtomicTypes : SchemaSet → Parts (Unit {0}) → Type 0
  PartsCastToAtomicTypes schemas no_parts = Unit {0}
  PartsCastToAtomicTypes schemas (a_part first others) = CastsToAtomicTypes schemas first × PartsCastToAtomicTypes schemas others

abbrev mutual
  -- each expression in a typed one has a normal type
  pub IsNormalThroughout : SchemaSet → TypedExpression → Type 0
  IsNormalThroughout schemas (At place outer type operator parts) = IsNormalType schemas type × AreNormalThroughout schemas parts

  pub AreNormalThroughout : SchemaSet → Parts SequenceType → Type 0
  AreNormalThroughout schemas no_parts = Unit {0}
  AreNormalThroughout schemas (a_part first others) = IsNormalThroughout schemas first × AreNormalThroughout schemas others

-- typing gives each expression a normal type where the variables in scope have such
abbrev pub TypingGivesNormalTypes : Type 0
TypingGivesNormalTypes =
    (schemas : SchemaSet) (e : CoreExpression) (types : Types) (result : TypedExpression) → IsSchemaSet schemas → CastsToAtomicTypes schemas e → HaveNormalTypes schemas types
    → judged schemas e types ≡ typed result → IsNormalThroughout schemas result
