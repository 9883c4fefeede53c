-- The facets of a type of its own (XML Schema 1.0 part 2, section 4.3): what is written, read at the values of the base.
use Rattle.std.specs.Prelude.{ℕ, ◌-◌, ◌^◌, min, max, Bool, true, false, ◌||◌, List, [], ◌∷◌, ◌++◌, Option, None, Some, option_map, Result, Ok, Err, ℤ, pos, negsuc, if◌then◌else◌}
use Rattle.std.specs.Option.{option_to_list}
use Rattle.std.specs.Result.{result_ok}
use Rattle.std.specs.Str.{encode_utf8_all}
use Rattle.gx_num.specs.Lexical.{integer_of}
use Rattle.gx_num.specs.declared.NumRead.{NumRead}
use Rattle.gx_num.specs.declared.NumRead.TheVariants.{NotANumber, TooLarge, TooPrecise}
use Rattle.gx_facets.specs.Admission.{is_less, is_greater, values_of}
use Rattle.gx_facets.specs.Value.{order_of}
use Rattle.gx_facets.specs.declared.AtomValue.{AtomValue}
use Rattle.gx_facets.specs.declared.restriction.Facets.{Facets}
use Rattle.gx_schema_syntax.specs.declared.role.FacetKind.{FacetKind}
use Rattle.gx_schema_syntax.specs.declared.role.FacetKind.TheVariants as kinds
use Rattle.gx_schema_syntax.specs.declared.written.WrittenFacet.{WrittenFacet}
use Rattle.gx_types.specs.SimpleType.{SimpleMeaning}
use Rattle.gx_types.specs.SimpleValue.{values_at}

-- ---- kinds of facets

abbrev pub same_facet_kind : FacetKind → FacetKind → Bool
same_facet_kind kinds.Enumeration kinds.Enumeration = true
same_facet_kind kinds.MinInclusive kinds.MinInclusive = true
same_facet_kind kinds.MaxInclusive kinds.MaxInclusive = true
same_facet_kind kinds.MinExclusive kinds.MinExclusive = true
same_facet_kind kinds.MaxExclusive kinds.MaxExclusive = true
same_facet_kind kinds.Length kinds.Length = true
same_facet_kind kinds.MinLength kinds.MinLength = true
same_facet_kind kinds.MaxLength kinds.MaxLength = true
same_facet_kind _ _ = false

-- ---- values of the base, and enumerations

-- the values for which a text stands at a base; None where it stands for none, or the base is not seen
abbrev pub values_read : Option SimpleMeaning → List ℕ → Option (List AtomValue)
values_read None text = None
values_read (Some base) text = option_map values_of (result_ok (values_at base text))

abbrev pub only_value : List AtomValue → Option AtomValue
only_value (value ∷ []) = Some value
only_value _ = None

abbrev pub only_of : Option (List AtomValue) → Option AtomValue
only_of None = None
only_of (Some values) = only_value values

-- one value
abbrev pub value_read : Option SimpleMeaning → List ℕ → Option AtomValue
value_read base text = only_of (values_read base text)

-- the values of an entry of an enumeration
abbrev pub entry_read : Option SimpleMeaning → WrittenFacet → Option (List AtomValue)
entry_read base facet = if same_facet_kind kinds.Enumeration facet.kind then values_read base facet.value else None

abbrev pub entries_read : Option SimpleMeaning → List WrittenFacet → List (List AtomValue)
entries_read base [] = []
entries_read base (facet ∷ facets) = option_to_list (entry_read base facet) ++ entries_read base facets

-- ---- bounds: of several of a kind all hold

-- the value of a bound of this kind
abbrev pub bound_read : FacetKind → Option SimpleMeaning → WrittenFacet → Option AtomValue
bound_read kind base facet = if same_facet_kind kind facet.kind then value_read base facet.value else None

abbrev pub greater_of : Option AtomValue → Option AtomValue → Option AtomValue
greater_of None other = other
greater_of (Some value) None = Some value
greater_of (Some value) (Some other) = if is_less (order_of value other) then Some other else Some value

abbrev pub greatest_bound : FacetKind → Option SimpleMeaning → List WrittenFacet → Option AtomValue
greatest_bound kind base [] = None
greatest_bound kind base (facet ∷ facets) = greater_of (bound_read kind base facet) (greatest_bound kind base facets)

abbrev pub lesser_of : Option AtomValue → Option AtomValue → Option AtomValue
lesser_of None other = other
lesser_of (Some value) None = Some value
lesser_of (Some value) (Some other) = if is_greater (order_of value other) then Some other else Some value

abbrev pub least_bound : FacetKind → Option SimpleMeaning → List WrittenFacet → Option AtomValue
least_bound kind base [] = None
least_bound kind base (facet ∷ facets) = lesser_of (bound_read kind base facet) (least_bound kind base facets)

-- ---- lengths; one that is exact is a least and a greatest one at once

-- a length above the greatest of 64 bits is that one
abbrev pub length_by : Result ℤ NumRead → ℕ
length_by (Ok (pos n)) = min n (2 ^ 64 - 1)
length_by (Ok (negsuc n)) = 0
length_by (Err NotANumber) = 0
length_by (Err TooLarge) = 2 ^ 64 - 1
length_by (Err TooPrecise) = 0

abbrev pub length_read : FacetKind → WrittenFacet → Option ℕ
length_read kind facet = if same_facet_kind kind facet.kind || same_facet_kind kinds.Length facet.kind then Some (length_by (integer_of (encode_utf8_all facet.value))) else None

abbrev pub greater_length : Option ℕ → Option ℕ → Option ℕ
greater_length None other = other
greater_length (Some n) None = Some n
greater_length (Some n) (Some other) = Some (max n other)

abbrev pub greatest_length : List WrittenFacet → Option ℕ
greatest_length [] = None
greatest_length (facet ∷ facets) = greater_length (length_read kinds.MinLength facet) (greatest_length facets)

abbrev pub lesser_length : Option ℕ → Option ℕ → Option ℕ
lesser_length None other = other
lesser_length (Some n) None = Some n
lesser_length (Some n) (Some other) = Some (min n other)

abbrev pub least_length : List WrittenFacet → Option ℕ
least_length [] = None
least_length (facet ∷ facets) = lesser_length (length_read kinds.MaxLength facet) (least_length facets)

-- ---- all facets

-- the facets that are written over a base
abbrev pub facets_read : Option SimpleMeaning → List WrittenFacet → Facets
facets_read base facets = record {
  values = entries_read base facets;
  min_inclusive = greatest_bound kinds.MinInclusive base facets;
  max_inclusive = least_bound kinds.MaxInclusive base facets;
  min_exclusive = greatest_bound kinds.MinExclusive base facets;
  max_exclusive = least_bound kinds.MaxExclusive base facets;
  length = None;
  min_length = greatest_length facets;
  max_length = least_length facets;
}
