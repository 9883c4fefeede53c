use Rattle.std.proofs.Common.{◌-◌, sym, subst}
use Rattle.gx_grammar.specs.Value.{node}
use Rattle.gx_grammar.specs.Ran.{Ran}
use Rattle.gx_parse_grammar.specs.Grammar.{place_in}
use Rattle.gx_parse_tokens.specs.Reading.{read_in}
use Rattle.gx_parse_grammar.specs.Nodes.{Whole}
use Rattle.gx_parse_prolog.proofs.PrologPhrases.{query_read}
use Rattle.gx_parse_grammar.specs.Prolog.{query}
use Rattle.gx_parse.proofs.definitions.query.Goals as goal

pub returns : goal.returns
returns c =
    subst (λ ss. Ran (node (Whole (record { version = c.maybe_version-version.result; settings = ss; definitions = c.from_vec-2.result; body = c.expression-body.result }))) c.args.reader.now c.expression-body.new.reader (read_in c.args.source.now 40 (query (place_in c.args.source.now)))) (sym c.from_vec.ensures)
    (subst (λ ds. Ran (node (Whole (record { version = c.maybe_version-version.result; settings = c.settings-settings.result.items; definitions = ds; body = c.expression-body.result }))) c.args.reader.now c.expression-body.new.reader (read_in c.args.source.now 40 (query (place_in c.args.source.now)))) (sym c.from_vec-2.ensures)
    (query_read c.args.source.now c.maybe_version-version.result c.settings-settings.result.items c.definitions-definitions.result.items c.expression-body.result c.args.reader.now c.gap.new.self c.maybe_version-version.new.reader c.settings-settings.new.reader c.definitions-definitions.new.reader c.expression-body.new.reader
    c.gap.ensures (c.maybe_version-version.ensures 40) (c.settings-settings.ensures 40) c.definitions-definitions.ensures c.expression-body.ensures))
