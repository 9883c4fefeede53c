use Rattle.std.proofs.Common.{None, Some, subst, sym}
use Rattle.gx_grammar.specs.Value.{nothing}
use Rattle.gx_parse_grammar.specs.Grammar.{place_in}
use Rattle.gx_parse_tokens.specs.Reading.{read_in, read_one}
use Rattle.gx_grammar.specs.Ran.{Ran}
use Rattle.gx_grammar.proofs.PublicLaws.{ran_idle}
use Rattle.gx_parse_grammar.specs.Types.{content, content_made, item_tail, tail_made}
use Rattle.gx_parse_types.proofs.TypesPhrases.{item_bare, item_inside}
use Rattle.gx_parse_grammar.specs.Tokens.{indication}
use Rattle.gx_parse_types.proofs.types.kind_tail.Goals as goal
use Rattle.gx_parse_parts.proofs.Phrases.{gave_none}

pub returns-then-not-looks_at : goal.returns-then-not-looks_at
returns-then-not-looks_at c = λ n.
    subst (λ i. Ran (tail_made (record { content = None; indicator = i })) c.args.reader.now c.indication-word.new.self (read_in c.args.source.now n (item_tail (place_in c.args.source.now) (content (place_in c.args.source.now) c.args.kind)))) (sym c.indicator_of.ensures)
    (item_bare c.args.source.now n (content (place_in c.args.source.now) c.args.kind) c.indication-word.result c.looks_at.result c.args.reader.now c.looks_at.new.self c.indication-word.new.self c.if-not-looks_at.true c.looks_at.ensures c.indication-word.ensures)

pub returns-in_default : goal.returns-in_default
returns-in_default c = λ n.
    let done = rw c.in_default.is at (c.content.ensures n) in
    gave_none tail_made _ c.args.reader.now c.content.new.reader (read_in c.args.source.now n (item_tail (place_in c.args.source.now) (content (place_in c.args.source.now) c.args.kind))) done.0
    (item_inside c.args.source.now n (content (place_in c.args.source.now) c.args.kind) nothing None c.looks_at.result c.args.reader.now c.looks_at.new.self c.content.new.reader c.content.new.reader c.if-not-looks_at.false c.looks_at.ensures (done.1 nothing) (ran_idle nothing c.content.new.reader (read_one indication) done.0))

pub returns : goal.returns
returns c = λ n.
    subst (λ i. Ran (tail_made (record { content = Some c.in-Some.content; indicator = i })) c.args.reader.now c.indication-word-2.new.self (read_in c.args.source.now n (item_tail (place_in c.args.source.now) (content (place_in c.args.source.now) c.args.kind)))) (sym c.indicator_of-2.ensures)
    (item_inside c.args.source.now n (content (place_in c.args.source.now) c.args.kind) (content_made c.in-Some.content) c.indication-word-2.result c.looks_at.result c.args.reader.now c.looks_at.new.self c.content.new.reader c.indication-word-2.new.self c.if-not-looks_at.false c.looks_at.ensures (c.in-Some.ensures n) c.indication-word-2.ensures)
