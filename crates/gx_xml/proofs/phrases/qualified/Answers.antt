use Rattle.std.proofs.Common.{List, ℕ, not, sym, subst, ap, ◌∙◌}
use Rattle.gx_grammar.specs.Value.{characters}
use Rattle.gx_xml.specs.Characters.{spelled}
use Rattle.gx_xml.specs.declared.runs.Run.TheVariants.{Colon, Name}
use Rattle.gx_xml.specs.Standings.{Did}
use Rattle.gx_xml.specs.Tokens.{maybe_run, run, declared_prefix}
use Rattle.gx_xml.specs.Grammar.{qualified, behind_name}
use Rattle.gx_xml.proofs.Steps.{did_on}
use Rattle.gx_xml.proofs.NodeLemmas.{some_there}
use Rattle.gx_xml.proofs.phrases.qualified.Goals as goal

pub returns-then-is_empty-clause-read : goal.returns-then-is_empty-clause-read
unfolding qualified behind_name
returns-then-is_empty-clause-read c = λ k w after h.
    did_on (maybe_run Colon 0) _ (characters (spelled c.maybe_run.result)) w _ _ _ c.maybe_run.ensures.read
    (subst (λ b. Did w c.maybe_run.new.self after (behind_name b (spelled c.args.first) k))
    (ap not (sym c.if-is_empty.true) ∙ some_there (spelled c.maybe_run.result) c.is_empty.result c.is_empty.ensures)
    (subst (λ (p : List ℕ). Did w c.maybe_run.new.self after (k p (spelled c.args.first))) c.none.ensures h))

pub returns-then-is_xmlns-clause-read : goal.returns-then-is_xmlns-clause-read
unfolding qualified behind_name
returns-then-is_xmlns-clause-read c = λ k w after h.
    did_on (maybe_run Colon 0) _ (characters (spelled c.maybe_run.result)) w _ _ _ c.maybe_run.ensures.read
    (subst (λ b. Did w c.maybe_run.new.self after (behind_name b (spelled c.args.first) k))
    (ap not (sym c.if-is_empty.false) ∙ some_there (spelled c.maybe_run.result) c.is_empty.result c.is_empty.ensures)
    (rw (sym c.is_xmlns.ensures ∙ c.if-is_xmlns.true) (did_on declared_prefix _ (characters (spelled c.declared_prefix-local.result)) w _ _ _ c.declared_prefix-local.ensures.read h)))

pub returns-clause-read : goal.returns-clause-read
unfolding qualified behind_name
returns-clause-read c = λ k w after h.
    did_on (maybe_run Colon 0) _ (characters (spelled c.maybe_run.result)) w _ _ _ c.maybe_run.ensures.read
    (subst (λ b. Did w c.maybe_run.new.self after (behind_name b (spelled c.args.first) k))
    (ap not (sym c.if-is_empty.false) ∙ some_there (spelled c.maybe_run.result) c.is_empty.result c.is_empty.ensures)
    (rw (sym c.is_xmlns.ensures ∙ c.if-is_xmlns.false) (did_on (run Name 0) _ (characters (spelled c.run-local.result)) w _ _ _ c.run-local.ensures.read h)))
