use Rattle.std.proofs.Common.{length}
use Rattle.gx_qnames.proofs.scope.+uri_in_tags.Given as goal

abbrev pub decreases-uri_in_tags : goal.decreases-uri_in_tags
decreases-uri_in_tags l = length l.tags.now
