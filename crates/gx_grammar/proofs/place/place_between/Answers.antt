use Rattle.std.proofs.Common.{ap, arith}
use Rattle.gx_grammar.proofs.Places.{walk_step, at_bounded}
use Rattle.gx_grammar.proofs.place.place_between.Goals as goal

pub place_behind-place-requires-clause-line : goal.place_behind-place-requires-clause-line
place_behind-place-requires-clause-line c =
    let b = at_bounded c.args.text.now c.loop-index.index in
    let e = ap (λ p. p.line) c.loop-index.invariant in
    omega (arith, b.sum, b.column, e, c.requires.numbered, c.requires.within)

pub place_behind-place-requires-clause-column : goal.place_behind-place-requires-clause-column
place_behind-place-requires-clause-column c =
    let b = at_bounded c.args.text.now c.loop-index.index in
    let e = ap (λ p. p.column) c.loop-index.invariant in
    omega (arith, b.sum, b.line, e, c.requires.numbered, c.requires.within)

pub loop-index-preserved : goal.loop-index-preserved
loop-index-preserved c =
    walk_step c.args.text.now c.loop-index.index c.index-text-index.result c.loop-index.place c.place_behind-place.result
    (omega arith) c.index-text-index.is c.place_behind-place.ensures c.loop-index.invariant
