use Rattle.std.proofs.Common.{◌∙◌}
use Rattle.gx_include_followers.proofs.NumberSetLemmas.{found_is}
use Rattle.gx_include_followers.proofs.number_set.found.Goals as goal

pub returns : goal.returns
returns c = c.is_ok.ensures.value ∙ found_is c.args.count c.args.members.now c.args.number c.binary_search.result c.requires c.binary_search.ensures.position
