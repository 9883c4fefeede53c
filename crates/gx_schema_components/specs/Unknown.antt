-- Which references refer to nothing that is declared, and the first of them.
use Rattle.std.specs.Prelude.{ℕ, suc, Bool, true, not, ◌&&◌, nat_lt, List, [], ◌∷◌, filter, Option, None, Some, is_some, if◌then◌else◌}
use Rattle.std.specs.Option.{option_or, option_map}
use Rattle.gx_base.specs.declared.name.Name.{Name}
use Rattle.gx_qnames.specs.declared.reference.Reference.{Reference}
use Rattle.gx_schema_syntax.specs.DocumentTree.{DocumentTree}
use Rattle.gx_qnames.specs.Words.{is_schema_uri}
use Rattle.gx_schema_components.specs.declared.mention.ComponentKind.{ComponentKind}
use Rattle.gx_schema_components.specs.declared.mention.Mention.{Mention}
use Rattle.gx_schema_components.specs.declared.unknown.UnknownName.{UnknownName}
use Rattle.gx_schema_components.specs.Mentions.{document_mentions}
use Rattle.gx_schema_components.specs.Shown.{shown_reference}
use Rattle.gx_schema_components.specs.DeclaredNames.{declared_number}

-- what each name of a kind refers to
abbrev pub Numbering : Type 0
Numbering = ComponentKind → Name → Option ℕ

-- a prefix that is not bound, the namespace of schema documents and a name that is not declared refer to nothing
abbrev pub refers : Numbering → ComponentKind → Reference → Bool
refers numbers kind reference = reference.is_bound && (not (is_schema_uri reference.name.uri) && is_some (numbers kind reference.name))

-- the one of the lesser place; the first of two at one place
abbrev pub earlier_mention : Option Mention → Option Mention → Option Mention
earlier_mention None other = other
earlier_mention (Some m) None = Some m
earlier_mention (Some m) (Some n) = if nat_lt n.place m.place then Some n else Some m

abbrev pub earliest : List Mention → Option Mention
earliest [] = None
earliest (m ∷ ms) = earlier_mention (Some m) (earliest ms)

unfoldable pub earliest_unknown : Numbering → List Mention → Option Mention
earliest_unknown numbers ms = earliest (filter (λ (m : Mention). not (refers numbers m.kind m.reference)) ms)

-- the first over documents in their order, and in each by place, with the number of its document
abbrev pub unknown_from : Numbering → (file : ℕ) → List DocumentTree → Option (ℕ × Mention)
unknown_from numbers file [] = None
unknown_from numbers file (document ∷ documents) =
    option_or (option_map (λ (m : Mention). (file, m)) (earliest_unknown numbers (document_mentions document))) (unknown_from numbers (suc file) documents)

abbrev pub unknown_shown : ℕ × Mention → UnknownName
unknown_shown found = record { file = found.0; name = shown_reference found.1.reference }

-- the first name of documents that refers to nothing
abbrev pub unknown_name : List DocumentTree → Option UnknownName
unknown_name documents = option_map unknown_shown (unknown_from (declared_number documents) 0 documents)

-- ---- steps of the code

-- the earliest so far, and then those of a list
unfoldable pub with_unknown : Numbering → Option Mention → List Mention → Option Mention
with_unknown numbers found ms = earlier_mention found (earliest_unknown numbers ms)

-- nothing was found, or something behind this place
abbrev pub is_later : Option Mention → (place : ℕ) → Bool
is_later None place = true
is_later (Some m) place = nat_lt place m.place
