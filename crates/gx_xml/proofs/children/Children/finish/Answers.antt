use Rattle.std.proofs.Common.{◌∙◌, string_bytes}
use Rattle.std.specs.Str.{chars}
use Rattle.gx_xml.proofs.GatherLemmas.{put_last}
use Rattle.gx_xml.proofs.children.Children.finish.Goals as goal

pub returns : goal.returns
returns c = put_last c.args.self.done.items c.shrink_to_fit.new.self.items (chars (string_bytes c.args.self.pending)) (c.shrink_to_fit.ensures.items ∙ c.in_ok-flush.ensures.done)
