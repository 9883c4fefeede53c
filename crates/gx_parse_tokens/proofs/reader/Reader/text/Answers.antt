use Rattle.std.proofs.Common.{rules, false, [], sym, append-nil}
use Rattle.gx_grammar.specs.Tokens.{run_of}
use Rattle.gx_parse_grammar.specs.References.{is_run_character, text_of}
use Rattle.gx_parse_tokens.specs.Reading.{read_one}
use Rattle.gx_parse_tokens.proofs.reader.Reader.text.Goals as goal

pub returns-in_default : goal.returns-in_default
unfolding read_one
returns-in_default c = record { others = []; is = sym (append-nil c.args.builder.now); holds = search rules }

pub returns-in-Ok : goal.returns-in-Ok
unfolding read_one
returns-in-Ok c = record { others = text_of c.args.run false (run_of (is_run_character c.args.run) c.self.inside.rest.now); is = c.in-Ok.ensures.text; holds = search rules }
