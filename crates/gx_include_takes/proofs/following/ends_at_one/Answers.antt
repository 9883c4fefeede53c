use Rattle.std.proofs.Common.{true, false, refl, sym, ◌∙◌, arith}
use Rattle.gx_include_takes.proofs.PlaceSets.{no_end_more, no_end, an_end}
use Rattle.gx_include_takes.proofs.following.ends_at_one.Goals as goal

pub loop-place-init : goal.loop-place-init
loop-place-init c = λ place h. absurd (omega arith)

pub returns-then-branch : goal.returns-then-branch
returns-then-branch c = an_end c.args.t.now c.args.places.now c.loop-place.place true refl (sym c.in_ok-ends_at_member.ensures ∙ c.if-branch.true)

pub loop-place-preserved : goal.loop-place-preserved
loop-place-preserved c = no_end_more c.args.t.now c.args.places.now c.loop-place.place c.loop-place.invariant (sym c.in_ok-ends_at_member.ensures ∙ c.if-branch.false)

pub returns : goal.returns
returns c = no_end c.args.t.now c.args.places.now c.args.count c.loop-place.place false c.loop-place-test.false refl c.requires c.loop-place.invariant
