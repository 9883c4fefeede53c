use Rattle.std.proofs.Common.{ap, ◌∙◌, string_bytes}
use Rattle.std.specs.Str.{chars}
use Rattle.gx_xml.specs.Gathered.{put_all}
use Rattle.gx_xml.specs.Nodes.{put_characters}
use Rattle.gx_xml.proofs.GatherLemmas.{put_element}
use Rattle.gx_xml.proofs.children.Children.push_element.Goals as goal

pub returns : goal.returns
returns c = λ cs.
    ap (λ p. put_all c.push.new.self.items (put_characters p cs)) c.in_ok-flush.ensures.pending
    ∙ put_element c.args.self.now.done.items c.flush.new.self.done.items c.push.new.self.items (chars (string_bytes c.args.self.now.pending)) c.args.element cs c.in_ok-flush.ensures.done c.in_ok-push.ensures.items
