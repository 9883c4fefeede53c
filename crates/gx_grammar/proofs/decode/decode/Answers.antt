use Rattle.std.proofs.Common.{ap, ◌∙◌}
use Rattle.std.specs.Str.{chars}
use Rattle.gx_grammar.proofs.Decoding.{spelled}
use Rattle.gx_grammar.proofs.decode.decode.Goals as goal

pub returns-in_ok-characters-in-Ok-clause-text : goal.returns-in_ok-characters-in-Ok-clause-text
returns-in_ok-characters-in-Ok-clause-text c = (spelled c.args.bytes.now c.in_ok-characters-in-Ok.field-0.items c.in-Ok.ensures.cases.1 (c.in_ok-characters-in-Ok.ensures ∙ ap chars c.in-Ok.ensures.cases.0)).0

pub returns-in_ok-characters-in-Ok-clause-characters :
    goal.returns-in_ok-characters-in-Ok-clause-characters
returns-in_ok-characters-in-Ok-clause-characters c = (spelled c.args.bytes.now c.in_ok-characters-in-Ok.field-0.items c.in-Ok.ensures.cases.1 (c.in_ok-characters-in-Ok.ensures ∙ ap chars c.in-Ok.ensures.cases.0)).1
