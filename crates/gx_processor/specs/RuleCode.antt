-- The codes of the rules of syntax (XQuery 1.0, appendix F).
use Rattle.gx_base.specs.declared.code.Code.{Code}
use Rattle.gx_base.specs.declared.code.Code.TheVariants.{XPST0003, XQST0090, GLXS0002, GLXS0003}
use Rattle.gx_parse_grammar.specs.declared.refusal.SyntaxRule.{SyntaxRule}
use Rattle.gx_parse_grammar.specs.declared.refusal.SyntaxRule.TheVariants.{NotUtf8, Syntax, TooNested, LiteralTooLarge, BadReference}

abbrev pub rule_code : SyntaxRule → Code
rule_code NotUtf8 = XPST0003
rule_code Syntax = XPST0003
rule_code TooNested = GLXS0002
rule_code LiteralTooLarge = GLXS0003
rule_code BadReference = XQST0090
