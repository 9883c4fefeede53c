-- Which values the facets of a simple type admit (XML Schema Part 2, 4.3): each facet is one condition, and a facet that
-- is absent holds of every value.
use Rattle.std.specs.Prelude.{ℕ, Bool, true, false, ◌&&◌, ◌||◌, nat_le, ◌==◌, List, [], ◌∷◌, map, length, Option, Some, None}
use Rattle.std.specs.List.{list_any}
use Rattle.std.specs.declared.cmp.Ordering.{Ordering}
use Rattle.std.specs.declared.cmp.Ordering.TheVariants.{Less, Equal, Greater}
use Rattle.gx_facets.specs.Value.{order_of}
use Rattle.gx_facets.specs.declared.AtomValue.{AtomValue}
use Rattle.gx_facets.specs.declared.AtomValue.TheVariants.{Untyped, Str, Truth, Num}
use Rattle.gx_facets.specs.declared.Atomic.{Atomic}
use Rattle.gx_facets.specs.declared.restriction.Facets.{Facets}

-- ---- tests of an order; values of two families have none, and pass no test

abbrev pub is_less : Option Ordering → Bool
is_less (Some Less) = true
is_less (Some Equal) = false
is_less (Some Greater) = false
is_less None = false

abbrev pub is_equal : Option Ordering → Bool
is_equal (Some Less) = false
is_equal (Some Equal) = true
is_equal (Some Greater) = false
is_equal None = false

abbrev pub is_greater : Option Ordering → Bool
is_greater (Some Less) = false
is_greater (Some Equal) = false
is_greater (Some Greater) = true
is_greater None = false

abbrev pub is_at_most : Option Ordering → Bool
is_at_most (Some Less) = true
is_at_most (Some Equal) = true
is_at_most (Some Greater) = false
is_at_most None = false

abbrev pub is_at_least : Option Ordering → Bool
is_at_least (Some Less) = false
is_at_least (Some Equal) = true
is_at_least (Some Greater) = true
is_at_least None = false

-- ---- enumeration

abbrev pub same_values : List AtomValue → List AtomValue → Bool
same_values [] [] = true
same_values [] (b ∷ bs) = false
same_values (a ∷ as') [] = false
same_values (a ∷ as') (b ∷ bs) = is_equal (order_of a b) && same_values as' bs

-- the values are one of the entries, where there are any
abbrev pub meets_enumeration : List (List AtomValue) → List AtomValue → Bool
meets_enumeration entries values = length entries == 0 || list_any (λ entry. same_values entry values) entries

-- ---- bounds of one value

abbrev pub meets_min_inclusive : Option AtomValue → AtomValue → Bool
meets_min_inclusive None value = true
meets_min_inclusive (Some least) value = is_at_least (order_of value least)

abbrev pub meets_max_inclusive : Option AtomValue → AtomValue → Bool
meets_max_inclusive None value = true
meets_max_inclusive (Some greatest) value = is_at_most (order_of value greatest)

abbrev pub meets_min_exclusive : Option AtomValue → AtomValue → Bool
meets_min_exclusive None value = true
meets_min_exclusive (Some bound) value = is_greater (order_of value bound)

abbrev pub meets_max_exclusive : Option AtomValue → AtomValue → Bool
meets_max_exclusive None value = true
meets_max_exclusive (Some bound) value = is_less (order_of value bound)

-- ---- lengths

abbrev pub meets_length : Option ℕ → ℕ → Bool
meets_length None n = true
meets_length (Some l) n = n == l

abbrev pub meets_min_length : Option ℕ → ℕ → Bool
meets_min_length None n = true
meets_min_length (Some l) n = nat_le l n

abbrev pub meets_max_length : Option ℕ → ℕ → Bool
meets_max_length None n = true
meets_max_length (Some l) n = nat_le n l

abbrev pub meets_lengths : Facets → ℕ → Bool
meets_lengths facets n = meets_length facets.length n && (meets_min_length facets.min_length n && meets_max_length facets.max_length n)

-- the characters of a text; a boolean or a number has no length, and the facets of length say nothing of it
abbrev pub meets_lengths_of_value : Facets → AtomValue → Bool
meets_lengths_of_value facets (Untyped text) = meets_lengths facets (length text)
meets_lengths_of_value facets (Str text) = meets_lengths facets (length text)
meets_lengths_of_value facets (Truth b) = true
meets_lengths_of_value facets (Num n) = true

-- ---- all facets

abbrev pub meets_bounds : Facets → AtomValue → Bool
meets_bounds facets value =
    (meets_min_inclusive facets.min_inclusive value && meets_max_inclusive facets.max_inclusive value)
    && (meets_min_exclusive facets.min_exclusive value && meets_max_exclusive facets.max_exclusive value)

abbrev pub admits_value : Facets → AtomValue → Bool
admits_value facets value =
    meets_enumeration facets.values (value ∷ []) && (meets_bounds facets value && meets_lengths_of_value facets value)

abbrev pub values_of : List Atomic → List AtomValue
values_of items = map (λ a. a.value) items

-- a list counts its items, and bounds say nothing of it
abbrev pub admits_items : Facets → List Atomic → Bool
admits_items facets items = meets_enumeration facets.values (values_of items) && meets_lengths facets (length items)
