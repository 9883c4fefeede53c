-- A text is cast to a declared type as it is read at it.
use Rattle.std.proofs.Common.{◌≡◌, ◌↔◌, ℕ, Bool, true, false, ◌&&◌, T, List, [], ◌∷◌, Option, None, Some, Result, Ok, Err, refl, ap, sym, ◌∙◌, subst, cond, arith}
use Rattle.std.specs.Prelude.{ℤ, int_le, ◌≤ℤ◌}
use Rattle.std.specs.Bool.{IsTrue}
use Rattle.std.specs.Cmp.{first_so, second_so}
use Rattle.std.proofs.lemmas.Int.{ints}
use Rattle.gx_base.specs.declared.type_name.Builtin.{Builtin}
use Rattle.gx_base.specs.declared.type_name.Builtin.TheVariants as types
use Rattle.gx_base.specs.declared.type_name.TypeName.{TypeName}
use Rattle.gx_base.specs.declared.type_name.TypeName.TheVariants as names
use Rattle.gx_num.specs.declared.NumRead.{NumRead}
use Rattle.gx_num.specs.declared.Number.TheVariants.{Int}
use Rattle.gx_num.specs.Lexical.{integer_of}
use Rattle.gx_facets.specs.declared.AtomValue.{AtomValue}
use Rattle.gx_facets.specs.declared.AtomValue.TheVariants.{Untyped, Str, Truth, Num}
use Rattle.gx_facets.specs.declared.Atomic.{Atomic}
use Rattle.gx_facets.specs.declared.ValueRead.{ValueRead}
use Rattle.gx_facets.specs.declared.ValueRead.TheVariants.{NotLexical}
use Rattle.gx_facets.specs.declared.restriction.Facets.{Facets}
use Rattle.gx_facets.specs.Value.{value_of, lexical_form, integer_within, least_of, greatest_of}
use Rattle.gx_types.specs.BaseChain.{own_content}
use Rattle.gx_types.specs.SchemaInvariant.{is_nameable}
use Rattle.gx_types.specs.SchemaSet.{SchemaSet}
use Rattle.gx_types.specs.SimpleType.{AtomicMeaning, single_meaning, atomic_meaning, atomic_of_content, bottom_of, meaning_of_content}
use Rattle.gx_types.specs.SimpleValue.{is_admitted, admitted_value, atomic_value, with_first, admitted_values, values_at, values_of_text}
use Rattle.gx_types.specs.declared.declaration.Content.{Content}
use Rattle.gx_types.specs.declared.declaration.Content.TheVariants as contents
use Rattle.gx_atomic.specs.declared.casting.CastError.{CastError}
use Rattle.gx_atomic.specs.declared.casting.CastError.TheVariants.{FORG0001}
use Rattle.gx_atomic.specs.Cast.{with_fault, in_type_range, within_type, to_integer, cast_value, where_admitted, cast_to_bottom, cast_to_atomic, as_type, cast_of}
use Rattle.gx_atomic.specs.Laws.{TextsAreCastAsTheyAreRead}

-- ---- the built-in type

-- both give one value, or none
abbrev Agree : Result AtomValue ValueRead → Result AtomValue CastError → Type 0
Agree (Ok v) (Ok w) = w ≡ v
Agree (Ok v) (Err error) = ⊥
Agree (Err fault) (Ok w) = ⊥
Agree (Err fault) (Err error) = Unit {0}

faults_agree : (kind : Builtin) (read : Result AtomValue ValueRead) → Agree read (with_fault kind read)
faults_agree kind (Ok v) = refl
faults_agree kind (Err fault) = tt

to_T : (b : Bool) → b ≡ true → T b
to_T true e = tt
to_T false e = absurd (cc)

from_T : (b : Bool) → T b → b ≡ true
from_T true h = refl
from_T false h = absurd h

le_trans : (a b c : ℤ) → int_le a b ≡ true → int_le b c ≡ true → int_le a c ≡ true
le_trans a b c e f =
    let low : a ≤ℤ b = record { le = to_T (int_le a b) e } in
    let high : b ≤ℤ c = record { le = to_T (int_le b c) f } in
    let through : a ≤ℤ c = omega (arith, ints) in
    from_T (int_le a c) through.le

both_true : (a b : Bool) → a ≡ true → b ≡ true → (a && b) ≡ true
both_true a b e f = rw (e, f) refl

-- a number within the range of an integer type is an xs:integer
within_all : (kind : Builtin) (i : ℤ) → int_le (least_of types.Integer) (least_of kind) ≡ true → int_le (greatest_of kind) (greatest_of types.Integer) ≡ true
    → in_type_range kind i ≡ true → in_type_range types.Integer i ≡ true
within_all kind i low high e =
    both_true (int_le (least_of types.Integer) i) (int_le i (greatest_of types.Integer))
    (le_trans (least_of types.Integer) (least_of kind) i low (first_so (int_le (least_of kind) i) (int_le i (greatest_of kind)) e))
    (le_trans i (greatest_of kind) (greatest_of types.Integer) (second_so (int_le (least_of kind) i) (int_le i (greatest_of kind)) e) high)

number_agrees : (kind : Builtin) (i : ℤ) (within all : Bool) → in_type_range kind i ≡ within → (within ≡ true → all ≡ true)
    → Agree (cond within (Ok (Num (Int i))) (Err NotLexical)) (within_type kind (with_fault types.Integer (cond all (Ok (Num (Int i))) (Err NotLexical))))
number_agrees kind i true true e f = rw e refl
number_agrees kind i false true e f = rw e tt
number_agrees kind i true false e f = absurd (let g = f refl in cc)
number_agrees kind i false false e f = tt

integer_agrees : (kind : Builtin) → int_le (least_of types.Integer) (least_of kind) ≡ true → int_le (greatest_of kind) (greatest_of types.Integer) ≡ true → (read : Result ℤ NumRead)
    → Agree (integer_within (least_of kind) (greatest_of kind) read) (within_type kind (with_fault types.Integer (integer_within (least_of types.Integer) (greatest_of types.Integer) read)))
integer_agrees kind low high (Ok i) = number_agrees kind i (in_type_range kind i) (in_type_range types.Integer i) refl (within_all kind i low high)
integer_agrees kind low high (Err fault) = tt

text_agrees : (kind : Builtin) (text : List ℕ) → IsTrue (is_nameable kind) → Agree (value_of kind text) (cast_to_bottom kind (Str text))
text_agrees types.AnyType text h = absurd (cc)
text_agrees types.Untyped text h = absurd (cc)
text_agrees types.AnySimple text h = absurd (cc)
text_agrees types.AnyAtomic text h = absurd (cc)
text_agrees types.UntypedAtomic text h = absurd (cc)
text_agrees types.Str text h = refl
text_agrees types.NormalizedStr text h = refl
text_agrees types.Token text h = refl
text_agrees types.Boolean text h = faults_agree types.Boolean (value_of types.Boolean text)
text_agrees types.Decimal text h = faults_agree types.Decimal (value_of types.Decimal text)
text_agrees kind text h = integer_agrees kind refl refl (integer_of (lexical_form text))

-- ---- the facets

chosen_agree : (test : Bool) (t : TypeName) (v : AtomValue) (b : Atomic)
    → (as_type t (cond test (Ok v) (Err FORG0001)) ≡ Ok b) ↔ (with_first (cond test (Ok (record { value = v; kind = t })) (Err NotLexical)) (Ok []) ≡ Ok (b ∷ []))
chosen_agree true t v b = (λ e. let same : record { value = v; kind = t } ≡ b = cc in ap (λ (x : Atomic). Ok (x ∷ [])) same, λ e. let same : record { value = v; kind = t } ≡ b = cc in ap (λ (x : Atomic). Ok x) same)
chosen_agree false t v b = (λ e. absurd (cc), λ e. absurd (cc))

-- no further facets stand in the way
nothing_more : (item : AtomicMeaning) (values : Result (List Atomic) ValueRead) → admitted_values (single_meaning item) values ≡ values
nothing_more item (Ok values) = refl
nothing_more item (Err fault) = refl

facets_agree : (m : AtomicMeaning) (read : Result AtomValue ValueRead) (cast : Result AtomValue CastError) (b : Atomic) → Agree read cast
    → (as_type m.kind (where_admitted m.facets cast) ≡ Ok b) ↔ (with_first (admitted_value m read) (Ok []) ≡ Ok (b ∷ []))
facets_agree m (Ok v) (Ok w) b h =
    subst (λ (x : AtomValue). (as_type m.kind (where_admitted m.facets (Ok x)) ≡ Ok b) ↔ (with_first (admitted_value m (Ok v)) (Ok []) ≡ Ok (b ∷ []))) (sym h)
    (chosen_agree (is_admitted m.facets v) m.kind v b)
facets_agree m (Ok v) (Err error) b h = absurd h
facets_agree m (Err fault) (Ok w) b h = absurd h
facets_agree m (Err fault) (Err error) b h = (λ e. absurd (cc), λ e. absurd (cc))

-- ---- declared types

module _ (schemas : SchemaSet) (a : Atomic) (t : TypeName) (text : List ℕ) (facets : Facets) (b : Atomic) where
  cast_side : (content : Option Content) → content ≡ Some (contents.Atomic facets)
      → cast_to_atomic (atomic_of_content schemas.types t content) a.value ≡ where_admitted (atomic_meaning schemas.types t).facets (cast_to_bottom (bottom_of schemas.types t) a.value)
  cast_side content e = ap (λ c. cast_to_atomic (atomic_of_content schemas.types t c) a.value) e

  read_side : own_content schemas.types t ≡ Some (contents.Atomic facets) → values_of_text schemas t text ≡ with_first (atomic_value (atomic_meaning schemas.types t) text) (Ok [])
  read_side e =
      ap (λ c. values_at (meaning_of_content schemas.types t c) text) e
      ∙ nothing_more (atomic_meaning schemas.types t) (with_first (atomic_value (atomic_meaning schemas.types t) text) (Ok []))

  as_read : a.value ≡ Str text → IsTrue (is_nameable (bottom_of schemas.types t))
      → (as_type t (where_admitted (atomic_meaning schemas.types t).facets (cast_to_bottom (bottom_of schemas.types t) a.value)) ≡ Ok b)
      ↔ (with_first (atomic_value (atomic_meaning schemas.types t) text) (Ok []) ≡ Ok (b ∷ []))
  as_read is h =
      facets_agree (atomic_meaning schemas.types t) (value_of (bottom_of schemas.types t) text) (cast_to_bottom (bottom_of schemas.types t) a.value) b
      (subst (λ (v : AtomValue). Agree (value_of (bottom_of schemas.types t) text) (cast_to_bottom (bottom_of schemas.types t) v)) (sym is) (text_agrees (bottom_of schemas.types t) text h))

along : {A B : Type 0} (x y z : A) (u v w : B) → x ≡ y → u ≡ v → ((y ≡ z) ↔ (v ≡ w)) → (x ≡ z) ↔ (u ≡ w)
along x y z u v w e f h = (λ g. f ∙ h.0 (sym e ∙ g), λ g. e ∙ h.1 (sym f ∙ g))

pub texts_are_cast_as_read : TextsAreCastAsTheyAreRead
texts_are_cast_as_read schemas a (names.Builtin kind) text facets b e h is = absurd (cc)
texts_are_cast_as_read schemas a (names.Named name) text facets b e h is =
    along _ _ _ _ _ _ (ap (as_type (names.Named name)) (cast_side schemas a (names.Named name) text facets b (own_content schemas.types (names.Named name)) e))
    (read_side schemas a (names.Named name) text facets b e) (as_read schemas a (names.Named name) text facets b is h)
texts_are_cast_as_read schemas a (names.Anonymous number) text facets b e h is =
    along _ _ _ _ _ _ (ap (as_type (names.Anonymous number)) (cast_side schemas a (names.Anonymous number) text facets b (own_content schemas.types (names.Anonymous number)) e))
    (read_side schemas a (names.Anonymous number) text facets b e) (as_read schemas a (names.Anonymous number) text facets b is h)
