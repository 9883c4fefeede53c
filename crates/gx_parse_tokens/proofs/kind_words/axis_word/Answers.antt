use Rattle.std.proofs.Common.{refl}
use Rattle.gx_parse_tokens.specs.Names.{name_made}
use Rattle.gx_parse_tokens.proofs.NameTables.{told}
use Rattle.gx_parse_tokens.proofs.kind_words.axis_word.Goals as goal

pub returns : goal.returns
returns c = told _ (name_made c.args.name.now) c.among.result c.among.ensures refl
