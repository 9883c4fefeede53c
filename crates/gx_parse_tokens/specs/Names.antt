-- The names that the reader reads.
use Rattle.std.specs.Prelude.{ℕ, List, [], ◌∷◌, ◌==◌, if◌then◌else◌, length, Option, Some, None}
use Rattle.std.specs.Borrow.{Bor}
use Rattle.std.specs.Str.{chars}
use Rattle.gx_grammar.specs.Value.{nothing, characters, pair}
use Rattle.gx_parse_tokens.specs.declared.names.ReadName.{ReadName}
use Rattle.gx_base.specs.declared.place.Place.{Place}
use Rattle.gx_ast.specs.declared.name.QName.{QName}
use Rattle.gx_parse_grammar.specs.Basics.{is_name}
use Rattle.gx_parse_grammar.specs.Nodes.{Made, name_at}

abbrev pub part_made : Option (List ℕ) → Made
part_made None = nothing
part_made (Some cs) = characters cs

abbrev pub name_made : ReadName → Made
name_made n = pair (characters n.first) (part_made n.second)

-- what is left behind a colon, or where there is none
abbrev pub colon_seen : List ℕ → ℕ
colon_seen [] = 0
colon_seen (c ∷ x) = if 58 == c then (length x) else (length (c ∷ x))

-- the value of the first word of a table that is the name
unfoldable pub named_in : {T : Type 0} → List (Bor (List ℕ) × T) → Made → Option T
named_in [] v = None
named_in (entry ∷ table) v = if is_name (chars entry.0.now) v then (Some entry.1) else (named_in table v)
