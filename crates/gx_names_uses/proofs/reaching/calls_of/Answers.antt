use Rattle.std.proofs.Common.{rules}
use Rattle.std.proofs.lemmas.Fn.{filter_same}
use Rattle.gx_names_uses.specs.Reaching.{is_call}
use Rattle.gx_names_uses.proofs.reaching.calls_of.Goals as goal

pub returns : goal.returns
returns c = filter_same _ is_call _ (λ x b f' k. search rules) _ _ c.retain.ensures.filtered
