use Rattle.std.proofs.Common.{None, Some, subst, sym}
use Rattle.gx_parse_grammar.specs.Grammar.{place_in}
use Rattle.gx_parse_tokens.specs.Reading.{read_in}
use Rattle.gx_grammar.specs.Ran.{Ran}
use Rattle.gx_parse_grammar.specs.Types.{content, content_made, item_tail, nothing_inside, tail_made}
use Rattle.gx_parse_types.proofs.TypesPhrases.{item_bare, item_inside}
use Rattle.gx_parse_types.proofs.types.item_tail.Goals as goal

pub returns-then-not-looks_at : goal.returns-then-not-looks_at
returns-then-not-looks_at c = λ n.
    subst (λ i. Ran (tail_made (record { content = None; indicator = i })) c.args.reader.now c.indication-word.new.self (read_in c.args.source.now n (item_tail (place_in c.args.source.now) (nothing_inside (place_in c.args.source.now))))) (sym c.indicator_of.ensures)
    (item_bare c.args.source.now n (nothing_inside (place_in c.args.source.now)) c.indication-word.result c.looks_at.result c.args.reader.now c.looks_at.new.self c.indication-word.new.self c.if-not-looks_at.true c.looks_at.ensures c.indication-word.ensures)

pub returns : goal.returns
returns c = λ n.
    subst (λ i. Ran (tail_made (record { content = Some c.nothing_inside-content.result; indicator = i })) c.args.reader.now c.indication-word-2.new.self (read_in c.args.source.now n (item_tail (place_in c.args.source.now) (nothing_inside (place_in c.args.source.now))))) (sym c.indicator_of-2.ensures)
    (item_inside c.args.source.now n (nothing_inside (place_in c.args.source.now)) (content_made c.nothing_inside-content.result) c.indication-word-2.result c.looks_at.result c.args.reader.now c.looks_at.new.self c.nothing_inside-content.new.reader c.indication-word-2.new.self c.if-not-looks_at.false c.looks_at.ensures (c.nothing_inside-content.ensures n) c.indication-word-2.ensures)
