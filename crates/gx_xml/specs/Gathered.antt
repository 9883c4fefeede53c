-- What stands between tags, as far as it was read.
use Rattle.std.specs.Prelude.{◌≡◌, ℕ, List, [], ◌∷◌, string_bytes}
use Rattle.std.specs.Str.{chars}
use Rattle.gx_grammar.specs.Ran.{Standing}
use Rattle.gx_tree.specs.Binding.{Binding}
use Rattle.gx_xml.specs.declared.source.SourceChild.{SourceChild}
use Rattle.gx_xml.specs.declared.source.SourceChild.TheVariants.{Element, Text}
use Rattle.gx_xml.specs.declared.children.Children.{Children}
use Rattle.gx_xml.specs.declared.marks.Mark.{Mark}
use Rattle.gx_xml.specs.SourceTree.{SourceContents, a_child, a_text}
use Rattle.gx_xml.specs.Nodes.{held, rooted, put_characters}
use Rattle.gx_xml.specs.Tags.{TagSoFar, scope_in, tagged_element}
use Rattle.gx_xml.specs.Grammar.{content, behind_content, behind_tag}
use Rattle.gx_grammar.specs.Grammar.{rule}
use Rattle.gx_xml.specs.Standings.{Did}

-- children in front of what follows them
abbrev pub put_all : List SourceChild → SourceContents → SourceContents
put_all [] cs = cs
put_all (Element t ∷ xs) cs = a_child t (put_all xs cs)
put_all (Text x ∷ xs) cs = a_text x (put_all xs cs)

-- with characters that stand behind them
abbrev pub children_with : Children → SourceContents → SourceContents
children_with c cs = put_all c.done.items (put_characters (chars (string_bytes c.pending)) cs)

-- the child of these characters, if there are any
abbrev pub text_part : List ℕ → List SourceChild
text_part [] = []
text_part (c ∷ x) = Text (c ∷ x) ∷ []

-- What stood behind a word of content was read and gathered.
abbrev pub ReadItem : ℕ → List Binding → Mark → Children → Children → Standing → Standing → Type 0
ReadItem room scope m old new before here =
    (cs : SourceContents) (after : Standing) → Did (held cs) here after (rule (content room scope))
    → (ds : SourceContents) × (children_with old ds ≡ children_with new cs) × Did (held ds) before after (behind_content room scope m)

-- Content was read and gathered so far.
abbrev pub ReadContent : ℕ → List Binding → Children → Standing → Standing → Type 0
ReadContent room scope c before here =
    (cs : SourceContents) (after : Standing) → Did (held cs) here after (rule (content room scope)) → Did (held (children_with c cs)) before after (rule (content room scope))

-- Behind a tag of this name that ended so, what follows was read, with these children.
abbrev pub ReadChildren : ℕ → List Binding → (prefix local : List ℕ) → Mark → SourceContents → Standing → Standing → Type 0
ReadChildren room bindings prefix local m cs before here =
    (t : TagSoFar) → t.room ≡ room → scope_in t ≡ bindings → t.prefix ≡ prefix → t.local ≡ local → Did (rooted (tagged_element t cs)) before here (behind_tag t m)
