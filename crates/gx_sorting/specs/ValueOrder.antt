-- The order of all values: strings with untyped values first, then booleans, then numbers; within a family as values are compared.
use Rattle.std.specs.Prelude.{ℕ, Bool, false, List, [], ℤ, pos}
use Rattle.std.specs.declared.cmp.Ordering.{Ordering}
use Rattle.std.specs.Ordering.{nat_cmp, int_cmp, bool_cmp, on, then_cmp}
use Rattle.gx_base.specs.Text.{text_cmp}
use Rattle.gx_num.specs.Number.{units_of}
use Rattle.gx_facets.specs.declared.AtomValue.{AtomValue}
use Rattle.gx_facets.specs.declared.AtomValue.TheVariants.{Untyped, Str, Truth, Num}

abbrev pub family_rank : AtomValue → ℕ
family_rank (Untyped t) = 0
family_rank (Str t) = 0
family_rank (Truth b) = 1
family_rank (Num n) = 2

-- what is compared within a family; values of the other families are all alike there
abbrev pub text_within : AtomValue → List ℕ
text_within (Untyped t) = t
text_within (Str t) = t
text_within (Truth b) = []
text_within (Num n) = []

abbrev pub truth_within : AtomValue → Bool
truth_within (Untyped t) = false
truth_within (Str t) = false
truth_within (Truth b) = b
truth_within (Num n) = false

abbrev pub units_within : AtomValue → ℤ
units_within (Untyped t) = pos 0
units_within (Str t) = pos 0
units_within (Truth b) = pos 0
units_within (Num n) = units_of n

abbrev pub value_cmp : AtomValue → AtomValue → Ordering
value_cmp = then_cmp (on family_rank nat_cmp) (then_cmp (on text_within text_cmp) (then_cmp (on truth_within bool_cmp) (on units_within int_cmp)))
