-- The values that a text stands for at a type with simple values (XML Schema 1.0 part 2, sections 2.5.1, 4.1.4 and 4.3).
use Rattle.std.specs.Prelude.{◌≡◌, ℕ, Bool, true, false, List, [], ◌∷◌, filter, Result, Ok, Err, if◌then◌else◌}
use Rattle.std.specs.List.{list_all}
use Rattle.gx_base.specs.declared.type_name.TypeName.{TypeName}
use Rattle.gx_facets.specs.Admission.{admits_value, admits_items}
use Rattle.gx_facets.specs.Value.{value_of}
use Rattle.gx_facets.specs.WhiteSpace.{parts_of}
use Rattle.gx_facets.specs.declared.AtomValue.{AtomValue}
use Rattle.gx_facets.specs.declared.Atomic.{Atomic}
use Rattle.gx_facets.specs.declared.ValueRead.{ValueRead}
use Rattle.gx_facets.specs.declared.ValueRead.TheVariants.{NotLexical, Memory}
use Rattle.gx_facets.specs.declared.restriction.Facets.{Facets}
use Rattle.gx_types.specs.SchemaSet.{SchemaSet}
use Rattle.gx_types.specs.SimpleType.{AtomicMeaning, SimpleMeaning, simple_meaning_of}
use Rattle.gx_types.specs.declared.simple_type.Variety.{Variety}
use Rattle.gx_types.specs.declared.simple_type.Variety.TheVariants as varieties

-- ---- one value

-- all facets admit the value
abbrev pub is_admitted : List Facets → AtomValue → Bool
is_admitted facets value = list_all (λ f. admits_value f value) facets

abbrev pub admitted_value : AtomicMeaning → Result AtomValue ValueRead → Result Atomic ValueRead
admitted_value meaning (Ok value) = if is_admitted meaning.facets value then Ok (record { value = value; kind = meaning.kind }) else Err NotLexical
admitted_value meaning (Err fault) = Err fault

-- the value of a text at an atomic type: that at its built-in type, where all facets admit it
abbrev pub atomic_value : AtomicMeaning → List ℕ → Result Atomic ValueRead
atomic_value meaning text = admitted_value meaning (value_of meaning.bottom text)

-- ---- the items of a list

abbrev pub has_characters : List ℕ → Bool
has_characters [] = false
has_characters (c ∷ cs) = true

-- what stands between white space
abbrev pub item_texts : List ℕ → List (List ℕ)
item_texts text = filter has_characters (parts_of text)

abbrev pub with_first : Result Atomic ValueRead → Result (List Atomic) ValueRead → Result (List Atomic) ValueRead
with_first (Ok a) (Ok others) = Ok (a ∷ others)
with_first (Ok a) (Err fault) = Err fault
with_first (Err fault) others = Err fault

-- the value of each text, or the fault of the first that has one
abbrev pub each_value : AtomicMeaning → List (List ℕ) → Result (List Atomic) ValueRead
each_value meaning [] = Ok []
each_value meaning (text ∷ texts) = with_first (atomic_value meaning text) (each_value meaning texts)

-- ---- all values

-- the texts of the values of a text
abbrev pub value_texts : Variety → List ℕ → List (List ℕ)
value_texts varieties.Atomic text = text ∷ []
value_texts varieties.List text = item_texts text

-- the facets admit the values: those of a list the list of its items
abbrev pub admits_values : Variety → Facets → List Atomic → Bool
admits_values varieties.Atomic facets values = list_all (λ (a : Atomic). admits_value facets a.value) values
admits_values varieties.List facets values = admits_items facets values

abbrev pub admitted_values : SimpleMeaning → Result (List Atomic) ValueRead → Result (List Atomic) ValueRead
admitted_values meaning (Ok values) = if list_all (λ f. admits_values meaning.variety f values) meaning.facets then Ok values else Err NotLexical
admitted_values meaning (Err fault) = Err fault

-- the values of a text at a type with this meaning
abbrev pub values_at : SimpleMeaning → List ℕ → Result (List Atomic) ValueRead
values_at meaning text = admitted_values meaning (each_value meaning.item (value_texts meaning.variety text))

-- the values of a text at a type
abbrev pub values_of_text : SchemaSet → TypeName → List ℕ → Result (List Atomic) ValueRead
values_of_text schemas t text = values_at (simple_meaning_of schemas t) text

-- the call refuses so, unless memory runs out
abbrev pub RefusesValue : {T : Type 0} → ValueRead → Result T ValueRead → Type 0
RefusesValue Memory expected = Unit {0}
RefusesValue fault expected = expected ≡ Err fault
