use Rattle.std.proofs.Common.{refl}
use Rattle.gx_facets.specs.Value.{printed_value}
use Rattle.gx_build.proofs.ContentLemmas.{value_put}
use Rattle.gx_build.proofs.content.Content.push_value.Goals as goal

pub returns : goal.returns
returns c =
    value_put c.args.self.now (record { alloc = c.args.self.now.alloc; trees = c.args.self.now.trees; pending = c.push_text.new.self }) c.push_space.new.text c.in_ok-text.text (printed_value c.args.value.now.value) c.args.behind_value
    refl c.in_ok-push_space.ensures c.in_ok-text.ensures c.in_ok-push_text.ensures.ok
