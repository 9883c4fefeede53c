-- The refusal by which the reading of a query ends.
use Rattle.std.specs.Prelude.{ℕ, List}
use Rattle.gx_parse_grammar.specs.declared.refusal.SyntaxRule.{SyntaxRule}
use Rattle.gx_parse_grammar.specs.declared.refusal.SyntaxRule.TheVariants.{Syntax, TooNested, LiteralTooLarge, BadReference}
use Rattle.gx_parse_grammar.specs.declared.refusal.SyntaxRefusal.{SyntaxRefusal}
use Rattle.gx_parse_grammar.specs.declared.refusal.SyntaxRefusal.TheVariants.{Refused, Memory}
use Rattle.gx_parse_tokens.specs.declared.reader.Refused.{Refused as RefusedBy}
use Rattle.gx_parse_tokens.specs.declared.reader.Refused.TheVariants as refused_by
use Rattle.gx_parse_tokens.specs.declared.reader.End.{End}
use Rattle.gx_parse_tokens.specs.declared.reader.End.TheVariants as ended
use Rattle.gx_parse_grammar.specs.Grammar.{place_in}

-- the rule by which a reader gave up, and how many characters are left there
abbrev pub rule_of : RefusedBy → SyntaxRule
rule_of (refused_by.Unfit far) = Syntax
rule_of (refused_by.Limit left) = TooNested
rule_of (refused_by.Number left) = LiteralTooLarge
rule_of (refused_by.Reference left) = BadReference

abbrev pub left_at : RefusedBy → ℕ
left_at (refused_by.Unfit far) = far
left_at (refused_by.Limit left) = left
left_at (refused_by.Number left) = left
left_at (refused_by.Reference left) = left

-- the refusal of a text whose reading ended so
abbrev pub syntax_refusal_at : List ℕ → End → SyntaxRefusal
syntax_refusal_at text ended.Lost = Memory
syntax_refusal_at text (ended.GaveUp r) = Refused (rule_of r) (place_in text (left_at r))
