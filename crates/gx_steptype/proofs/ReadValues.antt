-- The values of texts fit their types.
use Rattle.std.proofs.Common.{◌≡◌, ℕ, zero, suc, Bool, true, false, ◌||◌, ◌&&◌, List, length, refl, sym, ap, subst, Option, Some, None, Result, Ok, Err, if◌then◌else◌}
use Rattle.std.specs.Prelude.{ℤ, codes, int_le}
use Rattle.gx_base.specs.Text.{same_text}
use Rattle.gx_base.specs.declared.type_name.Builtin.{Builtin}
use Rattle.gx_base.specs.declared.type_name.Builtin.TheVariants as types
use Rattle.gx_base.specs.declared.type_name.TypeName.{TypeName}
use Rattle.gx_base.specs.declared.type_name.TypeName.TheVariants as names
use Rattle.gx_num.specs.declared.NumRead.{NumRead}
use Rattle.gx_num.specs.declared.Number.TheVariants.{Int, Dec}
use Rattle.gx_num.specs.Lexical.{integer_of, decimal_of}
use Rattle.gx_facets.specs.declared.AtomValue.{AtomValue}
use Rattle.gx_facets.specs.declared.AtomValue.TheVariants.{Untyped, Str, Truth, Num}
use Rattle.gx_facets.specs.declared.Atomic.{Atomic}
use Rattle.gx_facets.specs.declared.ValueRead.{ValueRead}
use Rattle.gx_facets.specs.declared.ValueRead.TheVariants.{NotLexical}
use Rattle.gx_facets.specs.Value.{value_of, integer_within, value_of_decimal, lexical_form, least_of, greatest_of}
use Rattle.gx_types.specs.BaseChain.{base_chain, end_of_chain, chain_within, with_bases}
use Rattle.gx_types.specs.SchemaSet.{SchemaSet, declaration_of}
use Rattle.gx_types.specs.SchemaInvariant.{IsSchemaSet, BaseFits, is_nameable, is_atomic_type, is_atomic_content, content_is}
use Rattle.gx_types.specs.SimpleType.{AtomicMeaning, atomic_meaning, built_in}
use Rattle.gx_types.specs.SimpleValue.{is_admitted, admitted_value, atomic_value}
use Rattle.gx_types.specs.SameItemType.{same_type_name}
use Rattle.std.specs.Option.{option_map}
use Rattle.gx_types.specs.Derivation.{Bases, bases_of, base_of, of_base, declared_base_of, leads_within, LeadsTo, DerivesFrom}
use Rattle.gx_types.specs.Grounded.{EndsWithin}
use Rattle.gx_types.proofs.SchemaLemmas.{base_is, base_of_declaration}
use Rattle.gx_types.specs.declared.declaration.Content.{Content}
use Rattle.gx_types.specs.declared.declaration.Content.TheVariants as contents
use Rattle.gx_types.specs.declared.declaration.Declared.{Declared}
use Rattle.gx_types.proofs.BaseChains.{along_chain, all_end}
use Rattle.gx_types.proofs.DerivationLemmas.{baseless, from_base, to_base}
use Rattle.gx_model.specs.Belongs.{ValueFits}
use Rattle.gx_steptype.proofs.Declarations.{declared_is}

-- ---- built-in types

found_is_chain : (bases : Bases) (m : ℕ) (t u : TypeName) → leads_within bases m t u ≡ true → LeadsTo bases t u
found_is_chain bases zero t u h = (zero, h)
found_is_chain bases (suc m) t u h =
    elim (same_type_name t u) as (λ (s : Bool). same_type_name t u ≡ s → (s || of_base (base_of bases t) (λ b. leads_within bases m b u)) ≡ true → LeadsTo bases t u) [
      | true ↦ λ e _. (zero, e)
      | false ↦ λ _ k. elim (base_of bases t) as (λ (b : Option TypeName). base_of bases t ≡ b → of_base b (λ x. leads_within bases m x u) ≡ true → LeadsTo bases t u) [
        | None ↦ λ _ f. absurd (cc)
        | Some base ↦ λ e f. let r = found_is_chain bases m base u f in (suc r.0, (base, e, r.1))
      ] refl k
    ] refl h

-- a chain of built-in types
pub builtin_chain : (s : SchemaSet) (a b : Builtin) → leads_within (bases_of s) 8 (names.Builtin a) (names.Builtin b) ≡ true → DerivesFrom s (names.Builtin a) (names.Builtin b)
builtin_chain s a b h = found_is_chain (bases_of s) 8 (names.Builtin a) (names.Builtin b) h

abbrev FitsIfRead : SchemaSet → Builtin → Result AtomValue ValueRead → Type 0
FitsIfRead s b (Ok v) = ValueFits s v (names.Builtin b)
FitsIfRead s b (Err fault) = Unit {0}

fits_boolean : (s : SchemaSet) (first second : Bool)
    → FitsIfRead s types.Boolean (if first then Ok (Truth true) else (if second then Ok (Truth false) else Err NotLexical))
fits_boolean s true second = (0, refl)
fits_boolean s false true = (0, refl)
fits_boolean s false false = tt

not_an_integer : (s : SchemaSet) → DerivesFrom s (names.Builtin types.Decimal) (names.Builtin types.Integer) → ⊥
not_an_integer s d =
    baseless (bases_of s) (names.Builtin types.AnyType) (names.Builtin types.Integer) refl refl
    (from_base (bases_of s) (names.Builtin types.AnySimple) (names.Builtin types.Integer) (names.Builtin types.AnyType) refl refl
    (from_base (bases_of s) (names.Builtin types.AnyAtomic) (names.Builtin types.Integer) (names.Builtin types.AnySimple) refl refl
    (from_base (bases_of s) (names.Builtin types.Decimal) (names.Builtin types.Integer) (names.Builtin types.AnyAtomic) refl refl d)))

fits_decimal : (s : SchemaSet) (read : Result ℤ NumRead) → FitsIfRead s types.Decimal (value_of_decimal read)
fits_decimal s (Ok u) = ((0, refl), not_an_integer s)
fits_decimal s (Err e) = tt

within : (s : SchemaSet) (b : Builtin) (i : ℤ) (fits : Bool) → DerivesFrom s (names.Builtin b) (names.Builtin types.Integer)
    → FitsIfRead s b (if fits then Ok (Num (Int i)) else Err NotLexical)
within s b i true d = d
within s b i false d = tt

fits_integer : (s : SchemaSet) (b : Builtin) (least greatest : ℤ) (read : Result ℤ NumRead) → DerivesFrom s (names.Builtin b) (names.Builtin types.Integer)
    → FitsIfRead s b (integer_within least greatest read)
fits_integer s b least greatest (Ok i) d = within s b i (int_le least i && int_le i greatest) d
fits_integer s b least greatest (Err e) d = tt

number : (s : SchemaSet) (b : Builtin) (text : List ℕ) → DerivesFrom s (names.Builtin b) (names.Builtin types.Integer) → FitsIfRead s b (integer_within (least_of b) (greatest_of b) (integer_of (lexical_form text)))
number s b text d = fits_integer s b (least_of b) (greatest_of b) (integer_of (lexical_form text)) d

builtin_fits : (s : SchemaSet) (b : Builtin) (text : List ℕ) → FitsIfRead s b (value_of b text)
builtin_fits s types.AnyType text = tt
builtin_fits s types.Untyped text = tt
builtin_fits s types.AnySimple text = tt
builtin_fits s types.AnyAtomic text = tt
builtin_fits s types.UntypedAtomic text = refl
builtin_fits s types.Str text = (0, refl)
builtin_fits s types.NormalizedStr text = builtin_chain s types.NormalizedStr types.Str refl
builtin_fits s types.Token text = builtin_chain s types.Token types.Str refl
builtin_fits s types.Boolean text =
    fits_boolean s (same_text (lexical_form text) (codes "true") || same_text (lexical_form text) (codes "1"))
    (same_text (lexical_form text) (codes "false") || same_text (lexical_form text) (codes "0"))
builtin_fits s types.Decimal text = fits_decimal s (decimal_of (lexical_form text))
builtin_fits s b text = number s b text (builtin_chain s b types.Integer refl)

-- ---- atomic types

-- the base of an atomic type is one
base_is_atomic : (s : SchemaSet) (content : Content) (base : TypeName) → is_atomic_content content ≡ true → BaseFits s content base → is_atomic_type s base ≡ true
base_is_atomic s (contents.Atomic facets) base h k = k
base_is_atomic s (contents.List item facets) base h k = absurd (cc)
base_is_atomic s (contents.Simple kind facets) base h k = absurd (cc)
base_is_atomic s (contents.Complex mixed model) base h k = absurd (cc)

-- the bases of an atomic type end at a built-in type that declarations may name
abbrev pub Bottom : SchemaSet → TypeName → Type 0
Bottom s end = (b : Builtin) × (end ≡ names.Builtin b) × (is_nameable b ≡ true)

no_steps : (s : SchemaSet) (t : TypeName) (found : Option Declared) → declared_base_of (bases_of s) t ≡ None → declared_base_of (bases_of s) t ≡ option_map (λ (d : Declared). d.base) found
    → content_is found is_atomic_content ≡ true → ⊥
no_steps s t None e f h = absurd (cc)
no_steps s t (Some d) e f h = cc

bottom_step : (s : SchemaSet) → IsSchemaSet s → (n : ℕ) (t : TypeName) (found : Option Declared) → declaration_of s t ≡ found → content_is found is_atomic_content ≡ true
    → ((base : TypeName) → declared_base_of (bases_of s) t ≡ Some base → is_atomic_type s base ≡ true → Bottom s (end_of_chain (chain_within s.types n base) base))
    → Bottom s (end_of_chain (with_bases found (chain_within s.types n)) t)
bottom_step s i n t None e h next = absurd (cc)
bottom_step s i n t (Some d) e h next =
    let is = declared_is s t d i e in
    next d.base (base_is s.types t d e) (base_is_atomic s d.content d.base h is.base)

bottom_within : (s : SchemaSet) → IsSchemaSet s → (n : ℕ) (t : TypeName) → EndsWithin (bases_of s) n t → is_atomic_type s t ≡ true → Bottom s (end_of_chain (chain_within s.types n t) t)
bottom_within s i zero (names.Builtin b) ends h = (b, refl, h)
bottom_within s i (suc n) (names.Builtin b) ends h = (b, refl, h)
bottom_within s i zero (names.Named m) ends h = absurd (no_steps s (names.Named m) (declaration_of s (names.Named m)) ends (base_of_declaration s.types (names.Named m)) h)
bottom_within s i zero (names.Anonymous m) ends h = absurd (no_steps s (names.Anonymous m) (declaration_of s (names.Anonymous m)) ends (base_of_declaration s.types (names.Anonymous m)) h)
bottom_within s i (suc n) (names.Named m) ends h =
    bottom_step s i n (names.Named m) (declaration_of s (names.Named m)) refl h (λ base e k. bottom_within s i n base (ends base e) k)
bottom_within s i (suc n) (names.Anonymous m) ends h =
    bottom_step s i n (names.Anonymous m) (declaration_of s (names.Anonymous m)) refl h (λ base e k. bottom_within s i n base (ends base e) k)

pub atomic_bottom : (s : SchemaSet) → IsSchemaSet s → (t : TypeName) → is_atomic_type s t ≡ true → Bottom s (end_of_chain (base_chain s.types t) t)
atomic_bottom s i t h = bottom_within s i (length s.types) t (all_end s i t) h

abbrev IsTypedValue : AtomValue → Type 0
IsTypedValue (Untyped text) = ⊥
IsTypedValue (Str text) = Unit {0}
IsTypedValue (Truth b) = Unit {0}
IsTypedValue (Num n) = Unit {0}

abbrev may_be_named : TypeName → Bool
may_be_named (names.Builtin b) = is_nameable b
may_be_named (names.Named n) = false
may_be_named (names.Anonymous n) = false

typed_unless : (s : SchemaSet) (b : Builtin) → is_nameable b ≡ true → (v : AtomValue) → ValueFits s v (names.Builtin b) → IsTypedValue v
typed_unless s b h (Untyped text) f = let e : is_nameable b ≡ false = ap may_be_named f in absurd (cc)
typed_unless s b h (Str text) f = tt
typed_unless s b h (Truth t) f = tt
typed_unless s b h (Num n) f = tt

-- a value that fits the base of a declared type fits the type
over_base : (s : SchemaSet) (v : AtomValue) → IsTypedValue v → (t base : TypeName) → ((b : Builtin) → same_type_name t (names.Builtin b) ≡ false)
    → base_of (bases_of s) t ≡ Some base → ValueFits s v base → ValueFits s v t
over_base s (Untyped text) typed t base differ e h = absurd typed
over_base s (Str text) typed t base differ e h = to_base (bases_of s) t (names.Builtin types.Str) base e h
over_base s (Truth b) typed t base differ e h = to_base (bases_of s) t (names.Builtin types.Boolean) base e h
over_base s (Num (Int i)) typed t base differ e h = to_base (bases_of s) t (names.Builtin types.Integer) base e h
over_base s (Num (Dec u)) typed t base differ e h =
    (to_base (bases_of s) t (names.Builtin types.Decimal) base e h.0, λ d. h.1 (from_base (bases_of s) t (names.Builtin types.Integer) base (differ types.Integer) e d))

abbrev GivesFit : SchemaSet → TypeName → Result AtomValue ValueRead → Type 0
GivesFit s t (Ok v) = ValueFits s v t
GivesFit s t (Err fault) = Unit {0}

gives_fit : (s : SchemaSet) (t : TypeName) (b : Builtin) → is_nameable b ≡ true → end_of_chain (base_chain s.types t) t ≡ names.Builtin b
    → (read : Result AtomValue ValueRead) → FitsIfRead s b read → GivesFit s t read
gives_fit s t b n e (Ok v) h = along_chain s.types (ValueFits s v) (over_base s v (typed_unless s b n v h)) (length s.types) t b e h
gives_fit s t b n e (Err fault) h = tt

-- a value that is read at an atomic type fits that type
abbrev pub ReadsFit : SchemaSet → AtomicMeaning → Type 0
ReadsFit s m = (text : List ℕ) (a : Atomic) → atomic_value m text ≡ Ok a → (a.kind ≡ m.kind) × ValueFits s a.value a.kind

where_admitted : (s : SchemaSet) (k : TypeName) (v : AtomValue) (a : Atomic) (b : Bool) → (if b then Ok (record { value = v; kind = k }) else Err NotLexical) ≡ Ok a → ValueFits s v k
    → (a.kind ≡ k) × ValueFits s a.value a.kind
where_admitted s k v a true e h =
    let same : a ≡ record { value = v; kind = k } = cc in
    (ap (λ (x : Atomic). x.kind) same, subst (λ (x : Atomic). ValueFits s x.value x.kind) (sym same) h)
where_admitted s k v a false e h = absurd (cc)

at_type : (s : SchemaSet) (m : AtomicMeaning) (read : Result AtomValue ValueRead) (a : Atomic) → GivesFit s m.kind read → admitted_value m read ≡ Ok a → (a.kind ≡ m.kind) × ValueFits s a.value a.kind
at_type s m (Ok v) a h e = where_admitted s m.kind v a (is_admitted m.facets v) e h
at_type s m (Err fault) a h e = absurd (cc)

pub atomic_type_reads : (s : SchemaSet) → IsSchemaSet s → (t : TypeName) → is_atomic_type s t ≡ true → ReadsFit s (atomic_meaning s.types t)
atomic_type_reads s i t h text a e =
    let bottom = atomic_bottom s i t h in
    at_type s (atomic_meaning s.types t) (value_of (built_in (end_of_chain (base_chain s.types t) t)) text) a
    (subst (λ (end : TypeName). GivesFit s t (value_of (built_in end) text)) (sym bottom.1)
    (gives_fit s t bottom.0 bottom.2 bottom.1 (value_of bottom.0 text) (builtin_fits s bottom.0 text)))
    e
