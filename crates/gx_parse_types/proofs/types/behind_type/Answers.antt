use Rattle.std.proofs.Common.{ap, subst, sym, ◌∙◌}
use Rattle.gx_grammar.specs.Value.{nothing}
use Rattle.gx_parse_tokens.specs.Names.{name_made}
use Rattle.gx_parse_grammar.specs.Nodes.{name_at}
use Rattle.gx_parse_grammar.specs.Grammar.{place_in}
use Rattle.gx_parse_tokens.specs.Reading.{read_in}
use Rattle.gx_grammar.specs.Ran.{Ran}
use Rattle.gx_parse_grammar.specs.Types.{behind_type, tail_made, type_made, type_of_word}
use Rattle.gx_parse_types.proofs.TypesPhrases.{type_read}
use Rattle.gx_parse_types.proofs.types.behind_type.Goals as goal
use Rattle.gx_parse_parts.proofs.Phrases.{gave_none, loses_done, ran_loses}

pub returns-in_default : goal.returns-in_default
returns-in_default c = λ n.
    let done = rw c.in_default.is at (c.type_tail.ensures n) in
    gave_none type_made _ c.args.reader.now c.type_tail.new.reader (read_in c.args.source.now n (behind_type (place_in c.args.source.now) (name_made c.args.name))) done.0
    (type_read c.args.source.now n (name_made c.args.name) nothing c.type_word-word.result c.args.place c.args.reader.now c.gap.new.self c.type_tail.new.reader c.type_word-word.ensures c.requires c.gap.ensures (done.1 nothing))

pub returns-in-Ok : goal.returns-in-Ok
returns-in-Ok c = λ n.
    let same = ap (λ q. type_made (type_of_word c.type_word-word.result q c.in-Some.tail)) c.in-Ok.ensures in
    subst (λ v. Ran v c.args.reader.now c.type_tail.new.reader (read_in c.args.source.now n (behind_type (place_in c.args.source.now) (name_made c.args.name)))) (sym (ap type_made c.type_of_word.ensures ∙ same))
    (type_read c.args.source.now n (name_made c.args.name) (tail_made c.in-Some.tail) c.type_word-word.result c.args.place c.args.reader.now c.gap.new.self c.type_tail.new.reader c.type_word-word.ensures c.requires c.gap.ensures (c.in-Some.ensures n))

pub returns-in-Err : goal.returns-in-Err
returns-in-Err c = λ n.
    gave_none type_made nothing c.args.reader.now c.lose.new.self (read_in c.args.source.now n (behind_type (place_in c.args.source.now) (name_made c.args.name))) (loses_done c.type_tail.new.reader c.lose.new.self c.lose.ensures)
    (ran_loses (type_made (type_of_word c.type_word-word.result (name_at c.args.place (name_made c.args.name)) c.in-Some.tail)) nothing c.args.reader.now c.type_tail.new.reader c.lose.new.self (read_in c.args.source.now n (behind_type (place_in c.args.source.now) (name_made c.args.name)))
    (type_read c.args.source.now n (name_made c.args.name) (tail_made c.in-Some.tail) c.type_word-word.result c.args.place c.args.reader.now c.gap.new.self c.type_tail.new.reader c.type_word-word.ensures c.requires c.gap.ensures (c.in-Some.ensures n)) c.lose.ensures)
