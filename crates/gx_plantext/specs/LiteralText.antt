-- How literals are written in plans.
use Rattle.std.specs.Prelude.{ℕ, Bool, false, ◌%◌, ◌==◌, if◌then◌else◌, List, [], ◌∷◌, ◌++◌, unsigned_abs, codes}
use Rattle.gx_num.specs.declared.Number.{Number}
use Rattle.gx_num.specs.declared.Number.TheVariants.{Int, Dec}
use Rattle.gx_facets.specs.declared.AtomValue.{AtomValue}
use Rattle.gx_facets.specs.declared.AtomValue.TheVariants.{Untyped, Str, Truth, Num}
use Rattle.gx_facets.specs.Value.{printed_value}
use Rattle.gx_typetext.specs.NameText.{word}

-- each quotation mark twice
abbrev pub quotes_doubled : List ℕ → List ℕ
quotes_doubled [] = []
quotes_doubled (c ∷ cs) = if c == 34 then 34 ∷ 34 ∷ quotes_doubled cs else c ∷ quotes_doubled cs

-- in quotation marks
abbrev pub quoted_text : List ℕ → List ℕ
quoted_text text = 34 ∷ quotes_doubled text ++ 34 ∷ []

-- a decimal that has no unit of 10^-6 beside whole ones
abbrev pub is_whole_decimal : Number → Bool
is_whole_decimal (Int i) = false
is_whole_decimal (Dec u) = unsigned_abs u % 1000000 == 0

-- what tells it from an integer
abbrev pub whole_places : Number → List ℕ
whole_places number = if is_whole_decimal number then word (codes ".0") else []

abbrev pub literal_text : AtomValue → List ℕ
literal_text (Untyped text) = quoted_text text
literal_text (Str text) = quoted_text text
literal_text (Truth truth) = printed_value (Truth truth)
literal_text (Num number) = printed_value (Num number) ++ whole_places number
