-- What the children of an element stand for.
use Rattle.std.specs.Prelude.{List, [], ◌∷◌}
use Rattle.gx_xml.specs.declared.source.SourceChild.{SourceChild}
use Rattle.gx_xml.specs.declared.source.SourceChild.TheVariants.{Element, Text}
use Rattle.gx_xml.specs.SourceTree.{SourceContents, no_content, a_child, a_text}

abbrev pub contents_of : List SourceChild → SourceContents
contents_of [] = no_content
contents_of (Element t ∷ cs) = a_child t (contents_of cs)
contents_of (Text x ∷ cs) = a_text x (contents_of cs)
