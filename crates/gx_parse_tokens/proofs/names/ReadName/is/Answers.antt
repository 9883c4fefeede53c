use Rattle.std.proofs.Common.{◌∙◌, ap, nat_eq}
use Rattle.std.specs.Cmp.Lexicographic.{pointwise}
use Rattle.std.specs.Str.{chars}
use Rattle.gx_parse_tokens.proofs.NameScans.{text_is, is_plain}
use Rattle.gx_parse_tokens.proofs.names.ReadName.is.Goals as goal

pub returns-then-is_none : goal.returns-then-is_none
returns-then-is_none c =
    c.eq.ensures ∙ ap (λ b. pointwise nat_eq b c.args.name.now) c.as_str.ensures.bytes ∙ text_is c.args.self.now.first c.args.name.now c.as_str.ensures.characters c.utf8.name
    ∙ is_plain (chars c.args.name.now) c.args.self.now.first c.args.self.now.second c.if-is_none.ensures
