use Rattle.std.proofs.Common.{List, ℕ, sym, subst, ◌∙◌}
use Rattle.gx_xml.specs.Characters.{spelled}
use Rattle.gx_xml.specs.Grammar.{past_element_name}
use Rattle.gx_xml.specs.Standings.{Did}
use Rattle.gx_xml.proofs.phrases.element_name.Goals as goal

pub returns-then-is_xmlns-clause-read : goal.returns-then-is_xmlns-clause-read
unfolding past_element_name
returns-then-is_xmlns-clause-read c = λ k w after h.
    rw (sym c.is_xmlns.ensures ∙ c.if-is_xmlns.true) (subst (λ (p : List ℕ). Did w c.args.reader.now after (k p (spelled c.args.first))) c.none.ensures h)

pub returns-clause-read : goal.returns-clause-read
unfolding past_element_name
returns-clause-read c = λ k w after h. rw (sym c.is_xmlns.ensures ∙ c.if-is_xmlns.false) (c.qualified.ensures.read k w after h)
