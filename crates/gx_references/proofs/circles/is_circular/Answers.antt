use Rattle.std.proofs.Math.ListN.{replicate}
use Rattle.std.proofs.lemmas.List.{length-replicate}
use Rattle.std.proofs.Common.{◌≡◌, ℕ, Bool, get_or, true, false, List, [], ◌∷◌, ◌++◌, length, Option, Some, slice_get, refl, sym, ◌∙◌, ap, subst, arith}
use Rattle.std.proofs.lemmas.Option.{slice_get_read}
use Rattle.gx_references.specs.References.{numbers_named, named_by}
use Rattle.gx_references.specs.PlainReferences.{numbers_in}
use Rattle.gx_references.specs.Reach.{IsReach}
use Rattle.gx_references.proofs.Tables.{empty_by_length}
use Rattle.gx_references.proofs.ReachSteps.{reach_begins, reach_comes_back, reach_ends, circular_by_ways, nothing_marked}
use Rattle.gx_references.proofs.circles.is_circular.Goals as goal

pub loop-number-init : goal.loop-number-init
loop-number-init c =
    let bodies = c.args.references.now in
    let start = c.args.start in
    let marks : c.in_ok-reached.reached.items ≡ replicate (length bodies) false = c.in_ok-reached.ensures.items_if_clones_equal (λ y same. same) in
    let here : slice_get bodies start ≡ Some c.index-references-start.result = slice_get_read bodies (length bodies) start c.index-references-start.result refl c.requires c.index-references-start.is in
    let named : c.in_ok-pending.pending.items ≡ named_by numbers_in bodies start = c.in_ok-pending.ensures ∙ sym (ap (λ (body : Option _). numbers_named numbers_in body start) here) in
    reach_begins numbers_in bodies start c.in_ok-reached.reached.items c.in_ok-pending.pending.items (ap length marks ∙ length-replicate (length bodies) false)
    (λ number. ap (λ (ms : List Bool). get_or ms number false) marks ∙ nothing_marked (length bodies) number) named

pub returns-then-number-start : goal.returns-then-number-start
returns-then-number-start c =
    let bodies = c.args.references.now in
    let start = c.args.start in
    let before : c.loop-number.pending.items ≡ c.pop.new.self.items ++ c.in-Some.number ∷ [] = c.in-Some.ensures.items in
    let same : c.in-Some.number ≡ start = c.if-number-start.true in
    sym (circular_by_ways numbers_in bodies start true c.requires
    (reach_comes_back numbers_in bodies start c.loop-number.reached.items c.pop.new.self.items c.requires
    (subst (λ (pending : List ℕ). IsReach numbers_in bodies start c.loop-number.reached.items pending)
    (before ∙ ap (λ (n : ℕ). c.pop.new.self.items ++ n ∷ []) same) c.loop-number.invariant)))

pub returns : goal.returns
returns c =
    let bodies = c.args.references.now in
    let empty = empty_by_length c.loop-number.pending.items (omega (arith, c.loop-number.pending.ok, c.in_default.ensures.cases.0)) in
    sym (circular_by_ways numbers_in bodies c.args.start false c.requires
    (reach_ends numbers_in bodies c.args.start c.loop-number.reached.items c.requires
    (subst (λ (pending : List ℕ). IsReach numbers_in bodies c.args.start c.loop-number.reached.items pending) empty c.loop-number.invariant)))
