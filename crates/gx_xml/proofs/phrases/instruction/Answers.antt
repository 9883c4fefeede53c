use Rattle.std.proofs.Common.{codes, sym, subst}
use Rattle.gx_grammar.specs.Value.{nothing, characters}
use Rattle.gx_xml.specs.Characters.{spelled}
use Rattle.gx_xml.specs.declared.runs.Run.TheVariants.{Instruction}
use Rattle.gx_xml.specs.Standings.{Did}
use Rattle.gx_xml.specs.Tokens.{symbol, run, target}
use Rattle.gx_xml.specs.Grammar.{past_instruction, past_data}
use Rattle.gx_xml.proofs.Steps.{did_on}
use Rattle.gx_xml.proofs.phrases.instruction.Goals as goal

pub returns-then-not-space-clause-read : goal.returns-then-not-space-clause-read
unfolding past_instruction past_data
returns-then-not-space-clause-read c = λ A w after h.
    did_on target _ (characters (spelled c.target.result)) w _ _ _ c.target.ensures.read
    (c.space.ensures.read (λ b. past_data b A) w after
    (subst (λ b. Did w c.space.new.reader after (past_data b A)) (sym c.if-not-space.true)
    (did_on (symbol (codes "?>")) _ nothing w _ _ _ c.symbol.ensures.read h)))

pub returns-clause-read : goal.returns-clause-read
unfolding past_instruction past_data
returns-clause-read c = λ A w after h.
    did_on target _ (characters (spelled c.target.result)) w _ _ _ c.target.ensures.read
    (c.space.ensures.read (λ b. past_data b A) w after
    (subst (λ b. Did w c.space.new.reader after (past_data b A)) (sym c.if-not-space.false)
    (did_on (run Instruction 0) _ (characters (spelled c.run.result)) w _ _ _ c.run.ensures.read
    (did_on (symbol (codes ">")) _ nothing w _ _ _ c.symbol-2.ensures.read h))))
