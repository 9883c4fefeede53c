use Rattle.std.proofs.Common.{refl, ◌∙◌, ◌∷◌, ap, sym, subst}
use Rattle.std.specs.List.{AllByRecursion}
use Rattle.gx_plan.specs.Remaking.{remade_inside, frame_remade, IsUnderWay, AwaitsPart}
use Rattle.gx_plan.proofs.remake.remake_all.Goals as goal
use Rattle.gx_plan.proofs.remake.remake_all.Goals.{in-Some+in_ok-push-in-Some+in_ok-frame-in-Some, in-None+in_ok-made-in-None+in-Some-pop+in_ok-frame-in-None}

pub loop-init : goal.loop-init
loop-init g c =
    let make = g.R.Remake.make c.args.remaker.now in
    let facts = g.R.Remake.facts c.args.remaker.now in
    record {
      made = ap (λ o. remade_inside make o (frame_remade make c.in_ok-frame.frame)) c.new-outer.ensures ∙ c.in_ok-frame.ensures.made make;
      under_way = c.in_ok-frame.ensures.under_way facts;
      waiting = subst (AllByRecursion (AwaitsPart facts)) (sym c.new-outer.ensures) tt;
    }

pub loop-preserved : goal.loop-preserved
loop-preserved g c =
    let make = g.R.Remake.make c.args.remaker.now in
    let facts = g.R.Remake.facts c.args.remaker.now in
    elim c.match-next_part.branch [
      | in-Some+in_ok-push-in-Some+in_ok-frame-in-Some w ↦ record {
        made =
            ap (λ f. remade_inside make c.match-next_part.outer (frame_remade make f)) w.frame-is
            ∙ ap (λ o. remade_inside make o (frame_remade make w.in_ok-frame-in-Some.frame)) (w.outer-is ∙ w.in_ok-push-in-Some.ensures.ok)
            ∙ ap (remade_inside make (c.next_part.new.frame ∷ c.loop.outer)) (w.in_ok-frame-in-Some.ensures.made make)
            ∙ w.in-Some.ensures.made make c.loop.outer ∙ c.loop.invariant.made;
        under_way = subst (λ f. IsUnderWay facts f) (sym w.frame-is) (w.in_ok-frame-in-Some.ensures.under_way facts);
        waiting =
            subst (AllByRecursion (AwaitsPart facts)) (sym (w.outer-is ∙ w.in_ok-push-in-Some.ensures.ok))
            (w.in-Some.ensures.awaits facts c.loop.invariant.under_way, c.loop.invariant.waiting);
      }
      | in-None+in_ok-made-in-None+in-Some-pop+in_ok-frame-in-None w ↦
          let waiting = subst (AllByRecursion (AwaitsPart facts)) w.in-Some-pop.ensures c.loop.invariant.waiting in
          record {
            made =
                ap (λ f. remade_inside make c.match-next_part.outer (frame_remade make f)) w.frame-is
                ∙ ap (λ o. remade_inside make o (frame_remade make w.in_ok-frame-in-None.frame)) w.outer-is
                ∙ w.in_ok-frame-in-None.ensures.made make w.pop.new.self
                ∙ ap (λ o. remade_inside make o w.in_ok-made-in-None.made) (sym w.in-Some-pop.ensures)
                ∙ ap (remade_inside make c.loop.outer) (w.in_ok-made-in-None.ensures.made ∙ w.in-None.ensures.none make refl) ∙ c.loop.invariant.made;
            under_way =
                subst (λ f. IsUnderWay facts f) (sym w.frame-is)
                (w.in_ok-frame-in-None.ensures.under_way facts waiting.0 w.in_ok-made-in-None.ensures.facts);
            waiting = subst (AllByRecursion (AwaitsPart facts)) (sym w.outer-is) waiting.1;
          }
    ]
