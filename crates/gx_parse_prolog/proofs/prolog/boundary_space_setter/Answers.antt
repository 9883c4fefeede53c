use Rattle.std.proofs.Common.{◌-◌, sym, subst}
use Rattle.gx_grammar.specs.Ran.{Ran}
use Rattle.gx_parse_tokens.specs.Reading.{read_in}
use Rattle.gx_parse_prolog.proofs.PrologPhrases.{boundary_space_read}
use Rattle.gx_parse_grammar.specs.Prolog.{boundary_space_setter}
use Rattle.gx_parse_prolog.specs.PrologParts.{gapped, says_made}
use Rattle.gx_ast.specs.declared.query.SettingNode.TheVariants as sets
use Rattle.gx_parse_prolog.proofs.prolog.boundary_space_setter.Goals as goal

pub returns : goal.returns
returns c = λ n.
    subst (λ b. Ran (says_made (sets.BoundarySpace b)) c.args.reader.now c.lexeme-word.new.reader (read_in c.args.source.now n boundary_space_setter)) (sym c.preserves.ensures)
    (boundary_space_read c.args.source.now n (gapped c.lexeme-word.result) c.args.reader.now c.lexeme-word.new.reader (c.lexeme-word.ensures c.args.source.now n))
