use Rattle.std.proofs.Common.{true, codes}
use Rattle.gx_grammar.specs.Value.{nothing, characters}
use Rattle.gx_xml.specs.Characters.{spelled}
use Rattle.gx_xml.specs.declared.marks.Choice.TheVariants.{Declaration}
use Rattle.gx_xml.specs.declared.runs.Run.TheVariants.{Digits}
use Rattle.gx_xml.specs.Nodes.{mark_value, mark_of}
use Rattle.gx_xml.specs.Tokens.{choice, run, symbol}
use Rattle.gx_xml.specs.Grammar.{past, on, past_quote, past_equals, past_opening_quote, spaced, past_declaration, behind_version}
use Rattle.gx_xml.proofs.Steps.{did_on}
use Rattle.gx_xml.proofs.declaration.declaration.Goals as goal

pub returns-clause-read : goal.returns-clause-read
unfolding past_declaration
returns-clause-read c = λ A w after h.
    c.space.ensures.read (λ s. past (symbol (codes "version")) (past_equals (past_opening_quote (λ q. past (symbol (codes "1.")) (past (run Digits 0) (past_quote q (spaced (λ b. on (choice (Declaration b true)) (λ v. behind_version (mark_of v) A))))))))) w after
    (did_on (symbol (codes "version")) _ nothing w _ _ _ c.symbol.ensures.read
    (c.equals.ensures.read _ w after
    (c.quote-quote.ensures.read (λ q. past (symbol (codes "1.")) (past (run Digits 0) (past_quote q (spaced (λ b. on (choice (Declaration b true)) (λ v. behind_version (mark_of v) A)))))) w after
    (did_on (symbol (codes "1.")) _ nothing w _ _ _ c.symbol-2.ensures.read
    (did_on (run Digits 0) _ (characters (spelled c.run.result)) w _ _ _ c.run.ensures.read
    (c.closing.ensures.read _ w after
    (c.space-spaced.ensures.read (λ b. on (choice (Declaration b true)) (λ v. behind_version (mark_of v) A)) w after
    (did_on (choice (Declaration c.space-spaced.result true)) _ (mark_value c.choice-mark.result) w _ _ _ c.choice-mark.ensures.read
    (c.behind_version.ensures.read A w after h)))))))))
