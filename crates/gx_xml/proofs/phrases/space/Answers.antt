use Rattle.std.proofs.Common.{subst}
use Rattle.gx_grammar.specs.Value.{characters}
use Rattle.gx_xml.specs.Characters.{spelled}
use Rattle.gx_xml.specs.Standings.{Did}
use Rattle.gx_xml.specs.declared.runs.Run.TheVariants.{Space}
use Rattle.gx_xml.specs.Tokens.{maybe_run}
use Rattle.gx_xml.proofs.Steps.{did_on}
use Rattle.gx_xml.proofs.NodeLemmas.{some_there}
use Rattle.gx_xml.proofs.phrases.space.Goals as goal

pub returns-clause-read : goal.returns-clause-read
returns-clause-read c = λ k w after h.
    did_on (maybe_run Space 0) _ (characters (spelled c.maybe_run.result)) w _ _ _ c.maybe_run.ensures.read
    (subst (λ b. Did w c.maybe_run.new.self after (k b)) (some_there (spelled c.maybe_run.result) c.is_empty.result c.is_empty.ensures) h)
