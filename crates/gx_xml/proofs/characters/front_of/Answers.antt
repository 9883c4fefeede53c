use Rattle.std.proofs.Common.{ap, ◌∙◌}
use Rattle.std.specs.Str.{chars}
use Rattle.gx_xml.proofs.SpelledLemmas.{cut_is}
use Rattle.gx_xml.proofs.characters.front_of.Goals as goal

pub overflow_sub-text : goal.overflow_sub-text
overflow_sub-text c = (cut_is c.args.text.now c.args.behind.now c.args.count c.utf8.text c.utf8.behind c.requires).within

pub split_at-requires : goal.split_at-requires
split_at-requires c = (cut_is c.args.text.now c.args.behind.now c.args.count c.utf8.text c.utf8.behind c.requires).boundary

pub returns : goal.returns
returns c = ap chars c.split_at.ensures.front ∙ (cut_is c.args.text.now c.args.behind.now c.args.count c.utf8.text c.utf8.behind c.requires).front
