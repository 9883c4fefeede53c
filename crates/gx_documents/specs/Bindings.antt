-- Words that bind variables to the files of their documents: `NAME=FILE`.
use Rattle.std.specs.Prelude.{ℕ, Bool, ◌==◌, List, [], ◌∷◌, ◌++◌, map, Option, None, Some, codes, bytes_eq, if◌then◌else◌}
use Rattle.std.specs.List.{list_any}
use Rattle.std.specs.Str.{encode_utf8_all}
use Rattle.gx_base.specs.declared.name.Name.{Name}

-- a word is split at its first `=`
abbrev pub bound_name : List ℕ → List ℕ
bound_name [] = []
bound_name (c ∷ word) = if c == 61 then [] else c ∷ bound_name word

abbrev pub bound_file : List ℕ → List ℕ
bound_file [] = []
bound_file (c ∷ word) = if c == 61 then word else bound_file word

-- the name of a variable as words have it: the local part, with the URI in braces before it where there is one
abbrev pub uri_in_braces : List ℕ → List ℕ
uri_in_braces [] = []
uri_in_braces (c ∷ uri) = codes "{" ++ (c ∷ uri) ++ codes "}"

abbrev pub word_of_name : Name → List ℕ
word_of_name name = encode_utf8_all (uri_in_braces name.uri ++ name.local)

-- a word names none of the variables, or one that an earlier word names; or a variable is not named
pub data Misbound : Type 0 where
  unknown : (name : List ℕ) → Misbound
  doubled : (name : List ℕ) → Misbound
  missing : (name : List ℕ) → Misbound

abbrev pub is_one_of : List (List ℕ) → List ℕ → Bool
is_one_of names name = list_any (bytes_eq name) names

-- the first word that is wrong, behind words that name these variables
abbrev pub first_wrong : (variables earlier : List (List ℕ)) → (words : List (List ℕ)) → Option Misbound
first_wrong variables earlier [] = None
first_wrong variables earlier (word ∷ words) =
    if is_one_of variables (bound_name word)
    then (if is_one_of earlier (bound_name word) then Some (doubled (bound_name word)) else first_wrong variables (earlier ++ bound_name word ∷ []) words)
    else Some (unknown (bound_name word))

-- the first variable that no word names
abbrev pub first_missing : (variables named : List (List ℕ)) → Option Misbound
first_missing [] named = None
first_missing (name ∷ names) named = if is_one_of named name then first_missing names named else Some (missing name)

abbrev pub first_fault : Option Misbound → Option Misbound → Option Misbound
first_fault None other = other
first_fault (Some fault) other = Some fault

-- why words do not bind each variable once, if they do not
abbrev pub misbound : (variables : List (List ℕ)) → (words : List (List ℕ)) → Option Misbound
misbound variables words = first_fault (first_wrong variables [] words) (first_missing variables (map bound_name words))

-- the file that the first word of a name binds
abbrev pub file_bound : (words : List (List ℕ)) → List ℕ → List ℕ
file_bound [] name = []
file_bound (word ∷ words) name = if bytes_eq name (bound_name word) then bound_file word else file_bound words name

abbrev pub files_bound : (variables : List (List ℕ)) → (words : List (List ℕ)) → List (List ℕ)
files_bound variables words = map (file_bound words) variables
