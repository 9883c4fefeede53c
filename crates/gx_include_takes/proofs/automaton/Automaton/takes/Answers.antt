use Rattle.std.proofs.Common.{◌+◌, sym, ◌∙◌, ap, ◌∷◌, drop}
use Rattle.std.proofs.lemmas.List.{drop_more}
use Rattle.std.proofs.Math.ListN.{drop_of_length-le}
use Rattle.gx_include_takes.specs.Automaton.{set_at}
use Rattle.gx_include_positions.proofs.Decided.{decided}
use Rattle.gx_include_takes.proofs.KnownSteps.{end_said}
use Rattle.gx_include_positions.proofs.SetReads.{starts, goes_on, comes_to}
use Rattle.gx_include_takes.proofs.automaton.Automaton.takes.Goals as goal

pub loop-shape-init : goal.loop-shape-init
loop-shape-init c =
    let s = c.args.schemas.now in
    let kept = c.make_room.ensures s c.requires in
    record {
      kept = kept;
      known = kept.some;
      reads = starts s c.args.t.now (set_at c.make_room.new.self.states.keys 0) c.args.list.now kept.start;
    }

pub loop-shape-preserved : goal.loop-shape-preserved
loop-shape-preserved c =
    let s = c.args.schemas.now in
    let t = c.args.t.now in
    let front = drop_more c.args.list.now c.loop-shape.shape-index c.shape-item.result c.loop-shape-test.true
    ∙ ap (λ x. x ∷ drop (c.loop-shape.shape-index + 1) c.args.list.now) (sym c.shape-item.is) in
    record {
      kept = c.next.ensures.kept;
      known = c.in_ok-state.ensures.within;
      reads =
          goes_on s t (set_at c.loop-shape.self.states.keys c.loop-shape.state) (set_at c.next.new.self.states.keys c.in_ok-state.state) c.args.list.now
          (drop c.loop-shape.shape-index c.args.list.now) (drop (c.loop-shape.shape-index + 1) c.args.list.now) c.shape-item.result front c.in_ok-state.ensures.next
          (decided s c.types-declarations.ensures.invariant.grounded c.shape-item.result t) c.loop-shape.invariant.reads;
    }

pub returns-clause-answer : goal.returns-clause-answer
returns-clause-answer c =
    let states = c.loop-shape.self.states.keys in
    comes_to c.args.schemas.now c.args.t.now (set_at states c.loop-shape.state) (drop c.loop-shape.shape-index c.args.list.now) c.index.result.now.ends
    (drop_of_length-le c.args.list.now c.loop-shape-test.false)
    (end_said c.args.t.now states c.loop-shape.state c.index.result.now c.loop-shape.invariant.kept.ends c.index.ensures) c.loop-shape.invariant.reads
