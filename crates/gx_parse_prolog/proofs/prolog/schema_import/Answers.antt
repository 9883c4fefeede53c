use Rattle.std.proofs.Common.{◌-◌, sym, subst}
use Rattle.gx_grammar.specs.Value.{nothing, characters}
use Rattle.gx_grammar.specs.Ran.{Ran}
use Rattle.gx_parse_grammar.specs.Grammar.{place_in, lexeme, word_of}
use Rattle.gx_parse_tokens.specs.Reading.{read_in}
use Rattle.gx_parse_grammar.specs.declared.word.Word.TheVariants as word
use Rattle.gx_parse_prolog.proofs.PrologPhrases.{import_is, import_read, still}
use Rattle.gx_parse_grammar.specs.Prolog.{schema_import, text_literal}
use Rattle.gx_parse_prolog.specs.PrologParts.{gapped, imports_made, locations, says_made}
use Rattle.gx_ast.specs.declared.query.SettingNode.TheVariants as sets
use Rattle.gx_parse_prolog.proofs.prolog.schema_import.Goals as goal
use Rattle.gx_parse_parts.proofs.Phrases.{gave_none}

pub returns-in_default : goal.returns-in_default
returns-in_default c = λ n.
    let done = rw c.in_default.is at (c.schema_prefix.ensures n) in
    gave_none says_made _ c.args.reader.now c.schema_prefix.new.reader (read_in c.args.source.now n (schema_import (place_in c.args.source.now))) done.0
    (import_is c.args.source.now n nothing nothing nothing c.args.reader.now c.schema_prefix.new.reader c.schema_prefix.new.reader c.schema_prefix.new.reader c.schema_prefix.new.reader (done.1 nothing) (still c.args.source.now n text_literal nothing c.schema_prefix.new.reader done.0)
    (still c.args.source.now n (lexeme (word_of word.At)) (gapped word.At) c.schema_prefix.new.reader done.0) (still c.args.source.now n locations nothing c.schema_prefix.new.reader done.0))

pub returns-in_default-text_literal : goal.returns-in_default-text_literal
returns-in_default-text_literal c = λ n.
    let done = rw c.in_default-text_literal.is at (c.text_literal.ensures n) in
    gave_none says_made _ c.args.reader.now c.text_literal.new.reader (read_in c.args.source.now n (schema_import (place_in c.args.source.now))) done.0
    (import_is c.args.source.now n (imports_made c.in-Some.prefix) nothing nothing c.args.reader.now c.schema_prefix.new.reader c.text_literal.new.reader c.text_literal.new.reader c.text_literal.new.reader (c.in-Some.ensures n) (done.1 nothing)
    (still c.args.source.now n (lexeme (word_of word.At)) (gapped word.At) c.text_literal.new.reader done.0) (still c.args.source.now n locations nothing c.text_literal.new.reader done.0))

pub returns-in_default-locations : goal.returns-in_default-locations
returns-in_default-locations c = λ n.
    let done = rw c.in_default-locations.is at (c.locations.ensures.read n) in
    gave_none says_made _ c.args.reader.now c.locations.new.reader (read_in c.args.source.now n (schema_import (place_in c.args.source.now))) done.0
    (import_is c.args.source.now n (imports_made c.in-Some.prefix) (characters c.in-Some-text_literal.uri) nothing c.args.reader.now c.schema_prefix.new.reader c.text_literal.new.reader c.symbol.new.reader c.locations.new.reader (c.in-Some.ensures n) (c.in-Some-text_literal.ensures n) (c.symbol.ensures c.args.source.now n) (done.1 nothing))

pub returns : goal.returns
returns c = λ n.
    subst (λ ls. Ran (says_made (sets.Schema c.in-Some.prefix c.in-Some-text_literal.uri ls)) c.args.reader.now c.locations.new.reader (read_in c.args.source.now n (schema_import (place_in c.args.source.now)))) (sym c.from_vec.ensures)
    (import_read c.args.source.now n c.in-Some.prefix c.in-Some-text_literal.uri c.in-Some-locations.list.items c.args.reader.now c.schema_prefix.new.reader c.text_literal.new.reader c.symbol.new.reader c.locations.new.reader c.in-Some-locations.ensures.full (c.in-Some.ensures n) (c.in-Some-text_literal.ensures n) (c.symbol.ensures c.args.source.now n) (c.in-Some-locations.ensures.read n))
