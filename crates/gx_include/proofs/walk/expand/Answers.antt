use Rattle.std.proofs.Common.{◌+◌, List, length, refl, sym, subst}
use Rattle.gx_include_letters.specs.declared.letter.Letter.{Letter}
use Rattle.gx_include.specs.Traced.{Traced}
use Rattle.gx_include.proofs.Expanding.{expand_begins, expand_ends}
use Rattle.gx_include.proofs.walk.expand.Goals as goal

pub returns-clause-traced : goal.returns-clause-traced
returns-clause-traced c =
    let letters : List Letter = c.letters-letters.result.now in
    let begun =
    expand_begins c.args.left.now c.args.right.now letters c.args.pairs.now.keys c.args.origins.now.items c.args.at c.in_ok-next_left.next_left c.in_ok-next_left.next_right c.index.result.now c.index.ensures
    c.in_ok-next_left.ensures.left c.in_ok-next_left.ensures.right
    (subst (λ (ls : List Letter). Traced c.args.left.now c.args.right.now ls c.args.pairs.now.keys c.args.origins.now.items c.args.at 0) (sym c.letters-letters.ensures) c.requires.traced) in
    subst (λ (ls : List Letter). Traced c.args.left.now c.args.right.now ls c.look.new.pairs.keys c.look.new.origins.items (c.args.at + 1) 0) c.letters-letters.ensures
    (expand_ends c.args.left.now c.args.right.now letters c.args.pairs.now.keys c.look.new.pairs.keys c.look.new.origins.items c.args.at (length c.letters-letters.result.now) c.in_ok-next_left.next_left c.in_ok-next_left.next_right
    (c.in_ok-look.ensures c.args.left.now c.args.right.now c.args.pairs.now.keys begun) refl)

pub returns-clause-kept : goal.returns-clause-kept
returns-clause-kept c =
    let letters : List Letter = c.letters-letters.result.now in
    let begun =
    expand_begins c.args.left.now c.args.right.now letters c.args.pairs.now.keys c.args.origins.now.items c.args.at c.in_ok-next_left.next_left c.in_ok-next_left.next_right c.index.result.now c.index.ensures
    c.in_ok-next_left.ensures.left c.in_ok-next_left.ensures.right
    (subst (λ (ls : List Letter). Traced c.args.left.now c.args.right.now ls c.args.pairs.now.keys c.args.origins.now.items c.args.at 0) (sym c.letters-letters.ensures) c.requires.traced) in
    (c.in_ok-look.ensures c.args.left.now c.args.right.now c.args.pairs.now.keys begun).kept
