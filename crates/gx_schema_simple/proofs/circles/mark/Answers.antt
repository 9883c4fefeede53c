use Rattle.std.proofs.Common.{Bool, List, subst, arith}
use Rattle.gx_schema_simple.specs.Walk.{IsUnmarked, IsMarkedOrOutside}
use Rattle.gx_schema_simple.proofs.Marks.{unmarked-set}
use Rattle.gx_schema_simple.proofs.WalkLemmas.{marking_goes_on, marking_ends}
use Rattle.gx_schema_simple.proofs.circles.mark.Goals as goal

pub loop-marks-smaller-in-Some : goal.loop-marks-smaller-in-Some
loop-marks-smaller-in-Some c =
    let free : IsUnmarked c.loop-marks.marks.items c.loop-marks.number = subst (λ (marks : List Bool). IsUnmarked marks c.loop-marks.number) c.as_slice.ensures.value c.loop-marks-test.ensures in
    let fewer = unmarked-set c.loop-marks.marks.items c.loop-marks.number free.0 free.1 in
    omega arith

pub loop-marks-preserved-in-Some : goal.loop-marks-preserved-in-Some
loop-marks-preserved-in-Some c =
    let free : IsUnmarked c.loop-marks.marks.items c.loop-marks.number = subst (λ (marks : List Bool). IsUnmarked marks c.loop-marks.number) c.as_slice.ensures.value c.loop-marks-test.ensures in
    marking_goes_on c.args.bases.now c.args.marks.now.items c.loop-marks.marks.items c.args.end c.loop-marks.number c.in-Some.next c.loop-marks.invariant free.0 c.in-Some.is

pub returns : goal.returns
returns c =
    let end : IsMarkedOrOutside c.loop-marks.marks.items c.loop-marks.number = subst (λ (marks : List Bool). IsMarkedOrOutside marks c.loop-marks.number) c.as_slice.ensures.value c.loop-marks-test.ensures in
    marking_ends c.args.bases.now c.args.marks.now.items c.loop-marks.marks.items c.args.end c.loop-marks.number c.requires.sized c.loop-marks.invariant end
