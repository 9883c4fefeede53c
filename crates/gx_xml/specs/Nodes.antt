-- What the grammar of documents makes of its parts.
use Rattle.std.specs.Prelude.{ℕ, ◌-◌, List, [], ◌∷◌, ◌++◌, length, take, Bool, true, false}
use Rattle.gx_grammar.specs.Value.{Value, nothing, characters, node, pair}
use Rattle.gx_xml.specs.declared.runs.Quote.{Quote}
use Rattle.gx_xml.specs.declared.runs.Quote.TheVariants as quote
use Rattle.gx_xml.specs.declared.marks.Mark.{Mark}
use Rattle.gx_xml.specs.declared.marks.Mark.TheVariants as mark
use Rattle.gx_xml.specs.Runs.{text_normalised}
use Rattle.gx_xml.specs.SourceTree.{SourceTree, SourceContents, no_content, a_child, a_text}

pub data DocumentNode : Type 0 where
  Marked : Mark → DocumentNode
  Root : SourceTree → DocumentNode
  Held : SourceContents → DocumentNode

abbrev pub Made : Type 0
Made = Value DocumentNode

abbrev pub mark_value : Mark → Made
mark_value m = node (Marked m)

-- an element
abbrev pub rooted : SourceTree → Made
rooted t = node (Root t)

-- what stands between its tags
abbrev pub held : SourceContents → Made
held cs = node (Held cs)

-- what a word says
abbrev pub mark_of : Made → Mark
mark_of (node (Marked m)) = m
mark_of _ = mark.Only

-- the characters of a run
abbrev pub run_in : Made → List ℕ
run_in (characters x) = x
run_in _ = []

-- at least one character stands there
abbrev pub has_some : List ℕ → Bool
has_some [] = false
has_some (c ∷ x) = true

-- the value of what stands behind a token
abbrev pub later : Made → Made
later (pair v w) = w
later _ = nothing

-- the value of the first of two parts
abbrev pub earlier : Made → Made
earlier (pair v w) = v
earlier _ = nothing

-- Characters in front of what stands there: they join a text at its front, and no text is empty.
abbrev pub put_characters : List ℕ → SourceContents → SourceContents
put_characters [] cs = cs
put_characters (c ∷ x) no_content = a_text (c ∷ x) no_content
put_characters (c ∷ x) (a_child t cs) = a_text (c ∷ x) (a_child t cs)
put_characters (c ∷ x) (a_text y cs) = a_text ((c ∷ x) ++ y) cs

abbrev pub with_characters : List ℕ → Made → Made
with_characters x (node (Held cs)) = held (put_characters x cs)
with_characters x _ = nothing

-- an element in front of what stands behind it
abbrev pub with_child : Made → Made
with_child (pair (node (Root t)) (node (Held cs))) = held (a_child t cs)
with_child _ = nothing

-- character data in front of it
abbrev pub with_text : Made → Made
with_text (pair v w) = with_characters (text_normalised (run_in v)) w
with_text _ = nothing

-- a CDATA section in front of it, whose characters the two brackets at their end do not belong to
abbrev pub section_text : List ℕ → List ℕ
section_text x = text_normalised (take (length x - 2) x)

abbrev pub with_section : Made → Made
with_section (pair v w) = with_characters (section_text (run_in v)) w
with_section _ = nothing

-- which quote a word is
abbrev pub quote_read : Mark → Quote
quote_read (mark.Quote q) = q
quote_read _ = quote.Double
