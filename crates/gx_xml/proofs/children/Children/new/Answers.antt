use Rattle.std.proofs.Common.{ap, ◌∙◌, string_bytes}
use Rattle.std.specs.Str.{chars}
use Rattle.std.proofs.lemmas.Str.{chars-nil}
use Rattle.gx_xml.specs.Gathered.{put_all}
use Rattle.gx_xml.specs.Nodes.{put_characters}
use Rattle.gx_xml.proofs.children.Children.new.Goals as goal

pub returns : goal.returns
returns c = λ cs.
    ap (λ xs. put_all xs (put_characters (chars (string_bytes c.new-2.result)) cs)) c.new.ensures.items
    ∙ ap (λ x. put_characters x cs) (ap chars c.new-2.ensures.bytes ∙ chars-nil)
