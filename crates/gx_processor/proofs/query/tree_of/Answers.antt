use Rattle.std.proofs.Common.{refl, subst}
use Rattle.gx_parse_grammar.specs.Query.{refused, RefusesBytes}
use Rattle.gx_parse_grammar.specs.declared.refusal.SyntaxRefusal.{SyntaxRefusal}
use Rattle.gx_processor.proofs.QueryLemmas.{not_parsed}
use Rattle.gx_processor.proofs.query.tree_of.Goals as goal

pub returns-in-Err-Refused-clause-refused : goal.returns-in-Err-Refused-clause-refused
returns-in-Err-Refused-clause-refused c = λ files command.
    rw (c.in-Err-Refused.place-is, c.rule_code-code.ensures.code, c.in-Err-Refused.rule-is)
    (refused c.in-Err-Refused.rule c.in-Err-Refused.place, subst (λ (e : SyntaxRefusal). RefusesBytes e c.args.bytes.now) c.in-Err-Refused.field-0-is c.in-Err-Refused.ensures.refused, refl)

pub returns-in-Err-Refused-clause-none : goal.returns-in-Err-Refused-clause-none
returns-in-Err-Refused-clause-none c =
    not_parsed c.args.bytes.now c.in-Err-Refused.rule c.in-Err-Refused.place (subst (λ (e : SyntaxRefusal). RefusesBytes e c.args.bytes.now) c.in-Err-Refused.field-0-is c.in-Err-Refused.ensures.refused)
