-- The forms of names and numbers (XML Schema 1.0 part 2, sections 3.3.7, 3.2.18 and 3.3.20; Namespaces in XML 1.0, sections 3 and 4).
use Rattle.std.specs.Prelude.{ℕ, ◌+◌, Bool, false, ◌&&◌, ◌==◌, List, [], ◌∷◌, position, take, drop, Option, Some, None}
use Rattle.std.specs.List.{list_all}
use Rattle.gx_base.specs.NameCharacters.{lies_between, is_ncname_start, is_ncname_character}
use Rattle.gx_base.specs.WhiteSpace.{is_white_space}

-- digits, at least one
abbrev pub is_digits : List ℕ → Bool
is_digits [] = false
is_digits (c ∷ cs) = lies_between 48 57 c && list_all (λ d. lies_between 48 57 d) cs

-- white space at most
abbrev pub is_blank : List ℕ → Bool
is_blank text = list_all is_white_space text

-- a name without a colon
abbrev pub is_local_name : List ℕ → Bool
is_local_name [] = false
is_local_name (c ∷ cs) = is_ncname_start c && list_all is_ncname_character cs

-- where the first colon stands
abbrev pub colon_in : List ℕ → Option ℕ
colon_in text = position (λ c. c == 58) text

-- a name in two parts, or in one
abbrev pub is_qname_split : Option ℕ → List ℕ → Bool
is_qname_split (Some colon) text = is_local_name (take colon text) && is_local_name (drop (colon + 1) text)
is_qname_split None text = is_local_name text

abbrev pub is_qname : List ℕ → Bool
is_qname text = is_qname_split (colon_in text) text

abbrev pub prefix_split : Option ℕ → List ℕ → List ℕ
prefix_split (Some colon) text = take colon text
prefix_split None text = []

abbrev pub local_split : Option ℕ → List ℕ → List ℕ
local_split (Some colon) text = drop (colon + 1) text
local_split None text = text

-- the prefix and the local part of a name
abbrev pub prefix_in : List ℕ → List ℕ
prefix_in text = prefix_split (colon_in text) text

abbrev pub local_in : List ℕ → List ℕ
local_in text = local_split (colon_in text) text
