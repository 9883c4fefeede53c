use Rattle.std.proofs.Common.{◌-◌}
use Rattle.gx_parse_grammar.specs.Grammar.{place_in}
use Rattle.gx_parse_tokens.specs.Reading.{read_in}
use Rattle.gx_parse_prolog.proofs.PrologPhrases.{schema_named, schema_default, schema_unnamed}
use Rattle.gx_parse_grammar.specs.Prolog.{named_schema, schema_prefix}
use Rattle.gx_parse_prolog.specs.PrologParts.{imports_made}
use Rattle.gx_parse_prolog.proofs.prolog.schema_prefix.Goals as goal
use Rattle.gx_parse_parts.proofs.Phrases.{gave_same}

pub returns-then-looks_at : goal.returns-then-looks_at
returns-then-looks_at c = λ n. gave_same imports_made c.named_schema.result c.args.reader.now c.looks_at.new.self c.named_schema.new.reader (read_in c.args.source.now n (named_schema (place_in c.args.source.now))) (read_in c.args.source.now n (schema_prefix (place_in c.args.source.now)))
    (schema_named c.args.source.now n c.looks_at.result c.args.reader.now c.looks_at.new.self c.named_schema.new.reader c.if-looks_at.true c.looks_at.ensures) (c.named_schema.ensures n)

pub returns-then-looks_at-2 : goal.returns-then-looks_at-2
returns-then-looks_at-2 c = λ n. schema_default c.args.source.now n (imports_made c.default_schema.result) c.looks_at.result c.looks_at-2.result c.args.reader.now c.looks_at.new.self c.looks_at-2.new.self c.default_schema.new.reader c.if-looks_at.false c.looks_at.ensures c.if-looks_at-2.true c.looks_at-2.ensures (c.default_schema.ensures n)

pub returns : goal.returns
returns c = λ n. schema_unnamed c.args.source.now n c.looks_at.result c.looks_at-2.result c.args.reader.now c.looks_at.new.self c.looks_at-2.new.self c.if-looks_at.false c.looks_at.ensures c.if-looks_at-2.false c.looks_at-2.ensures
