use Rattle.gx_schema_simple.proofs.ShortCircles.{circles_are_decided}
use Rattle.gx_schema_simple.proofs.WalkLemmas.{search_is_complete}
use Rattle.gx_schema_simple.proofs.circles.circular.Goals as goal

pub returns-clause-exact : goal.returns-clause-exact
returns-clause-exact c = search_is_complete c.args.bases.now c.loop-start.walks.items c.loop-start.marks.items c.loop-start.start c.loop-start-test.false c.loop-start.invariant

pub returns-clause-decided : goal.returns-clause-decided
returns-clause-decided c =
    circles_are_decided c.args.bases.now c.loop-start.marks.items
    (search_is_complete c.args.bases.now c.loop-start.walks.items c.loop-start.marks.items c.loop-start.start c.loop-start-test.false c.loop-start.invariant)
