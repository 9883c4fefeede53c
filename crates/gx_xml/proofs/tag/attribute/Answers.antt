use Rattle.std.proofs.Common.{[], subst, inl, inr, arith, List, ℕ}
use Rattle.gx_xml.specs.Characters.{spelled}
use Rattle.gx_xml.specs.Grammar.{attribute, past_equals, past_opening_quote, value, inside}
use Rattle.gx_grammar.specs.Grammar.{rule}
use Rattle.gx_xml.specs.Standings.{Did}
use Rattle.gx_xml.specs.TagView.{HasAdded, tag_as}
use Rattle.gx_xml.proofs.NodeLemmas.{on_ok}
use Rattle.gx_xml.proofs.tag.attribute.Goals as goal

pub returns-clause-read : goal.returns-clause-read
unfolding attribute
returns-clause-read c =
    on_ok c.add.result c.add.ensures.added (λ added room scope w after h.
    (let t = tag_as room scope c.args.tag.now in
    let name = c.qualified-name.result in
    c.qualified-name.ensures.read (λ p l. past_equals (past_opening_quote (λ q. rule (value t p l q [])))) w after
    (c.equals.ensures.read _ w after
    (c.quote-quote.ensures.read (λ q. rule (value t (spelled name.prefix) (spelled name.local) q [])) w after
    (c.in_ok-value.ensures.read t w after
    (subst (λ u. Did w c.value.new.reader after (rule (inside u))) (added room scope) h))))))

pub returns-clause-shorter : goal.returns-clause-shorter
returns-clause-shorter c = on_ok c.add.result c.add.ensures.added (λ added. elim c.in_ok-value.ensures.shorter [ inl d ↦ inl d | inr l ↦ inr (omega arith) ])
