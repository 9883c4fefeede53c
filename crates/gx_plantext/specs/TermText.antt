-- Terms: a name with fields in parentheses, separated by commas.
use Rattle.std.specs.Prelude.{ℕ, Bool, true, false, List, [], ◌∷◌, ◌++◌, codes, decimal}
use Rattle.gx_typetext.specs.NameText.{word}

-- the texts of fields
abbrev pub Fields : Type 0
Fields = List (List ℕ)

-- what stands before a field: nothing before the first one
abbrev pub comma_before : (is_first : Bool) → List ℕ
comma_before true = []
comma_before false = word (codes ", ")

abbrev pub fields_text : (is_first : Bool) → Fields → List ℕ
fields_text is_first [] = []
fields_text is_first (field ∷ fields) = comma_before is_first ++ (field ++ fields_text false fields)

abbrev pub term_text : (name : List ℕ) → Fields → List ℕ
term_text name fields = word name ++ (word (codes "(") ++ (fields_text true fields ++ word (codes ")")))

-- a number, as that of a variable
abbrev pub number_text : ℕ → List ℕ
number_text number = word (decimal number)
