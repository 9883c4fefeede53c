use Rattle.std.proofs.Common.{List, ℕ, sym, ap, subst, length, arith}
use Rattle.gx_parse_grammar.specs.Query.{IsText}
use Rattle.gx_parse.proofs.Ended.{text_is_shorter, results_parsed, results_refused}
use Rattle.gx_parse.proofs.parser.parse.Goals as goal

pub parse_text-requires : goal.parse_text-requires
parse_text-requires c =
    omega (arith, text_is_shorter c.args.bytes.now c.in-Ok.text.items c.in-Ok.ensures.text, ap length c.as_slice.ensures.value)

pub returns-in-Ok-clause-tree : goal.returns-in-Ok-clause-tree
returns-in-Ok-clause-tree c =
    let decoded : IsText c.args.bytes.now c.in-Ok.text.items = record { characters = c.in-Ok.ensures.characters; encoded = c.in-Ok.ensures.text } in
    let text = subst (λ (x : List ℕ). IsText c.args.bytes.now x) (sym c.as_slice.ensures.value) decoded in
    results_parsed c.args.bytes.now c.as_slice.result.now c.parse_text.result text c.parse_text.ensures.tree

pub returns-in-Ok-clause-refused : goal.returns-in-Ok-clause-refused
returns-in-Ok-clause-refused c =
    let decoded : IsText c.args.bytes.now c.in-Ok.text.items = record { characters = c.in-Ok.ensures.characters; encoded = c.in-Ok.ensures.text } in
    let text = subst (λ (x : List ℕ). IsText c.args.bytes.now x) (sym c.as_slice.ensures.value) decoded in
    results_refused c.args.bytes.now c.as_slice.result.now c.parse_text.result text c.parse_text.ensures.refused
