use Rattle.std.proofs.Common.{codes}
use Rattle.gx_grammar.specs.Value.{nothing, characters}
use Rattle.gx_xml.specs.Characters.{spelled}
use Rattle.gx_xml.specs.declared.runs.Run.TheVariants.{Comment}
use Rattle.gx_xml.specs.Tokens.{symbol, run}
use Rattle.gx_xml.specs.Grammar.{past_comment}
use Rattle.gx_xml.proofs.Steps.{did_on}
use Rattle.gx_xml.proofs.phrases.comment.Goals as goal

pub returns-clause-read : goal.returns-clause-read
unfolding past_comment
returns-clause-read c = λ A w after h.
    did_on (run Comment 0) _ (characters (spelled c.run.result)) w _ _ _ c.run.ensures.read
    (did_on (symbol (codes ">")) _ nothing w _ _ _ c.symbol.ensures.read h)
