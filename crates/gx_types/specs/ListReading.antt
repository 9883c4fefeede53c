-- The items of a list, as far as its text is read.
use Rattle.std.specs.Prelude.{ℕ, List, [], ◌∷◌, ◌++◌, filter, Result, Ok, Err}
use Rattle.gx_facets.specs.WhiteSpace.{parts_of}
use Rattle.gx_facets.specs.declared.Atomic.{Atomic}
use Rattle.gx_facets.specs.declared.ValueRead.{ValueRead}
use Rattle.gx_types.specs.SimpleType.{AtomicMeaning}
use Rattle.gx_types.specs.SimpleValue.{has_characters, each_value}

-- the values behind others, unless there is a fault
abbrev pub values_behind : List Atomic → Result (List Atomic) ValueRead → Result (List Atomic) ValueRead
values_behind others (Ok values) = Ok (others ++ values)
values_behind others (Err fault) = Err fault

-- the first part goes on what is there of a word
abbrev pub resumed : List ℕ → List (List ℕ) → List (List ℕ)
resumed word [] = word ∷ []
resumed word (part ∷ parts) = (word ++ part) ∷ parts

-- the words of a text behind what is there of one
abbrev pub words_behind : List ℕ → List ℕ → List (List ℕ)
words_behind word text = filter has_characters (resumed word (parts_of text))

-- the values that are there, and then those of the words that are left
abbrev pub items_behind : AtomicMeaning → List Atomic → (word text : List ℕ) → Result (List Atomic) ValueRead
items_behind meaning values word text = values_behind values (each_value meaning (words_behind word text))
