use Rattle.gx_schema_simple.proofs.WalkLemmas.{search_finds, search_goes_on}
use Rattle.gx_schema_simple.proofs.circles.search_from.Goals as goal

pub returns-in-Some : goal.returns-in-Some
returns-in-Some c =
    search_finds c.args.bases.now c.args.walks.now.items c.walk.new.walks.items c.args.marks.now.items c.mark.new.marks.items c.args.start c.in-Some.end c.requires.search c.in-Some.ensures c.mark.ensures

pub returns-in_default : goal.returns-in_default
returns-in_default c = search_goes_on c.args.bases.now c.args.walks.now.items c.walk.new.walks.items c.args.marks.now.items c.args.start c.requires.search c.in_default.ensures
