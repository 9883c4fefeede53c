use Rattle.gx_include_takes.specs.Features.{accepts}
use Rattle.gx_include_takes.specs.Transitions.{places_at}
use Rattle.gx_include_takes.proofs.Targets.{coming_of_both}
use Rattle.gx_include_takes.proofs.transitions.Transitions.places_behind.Goals as goal

pub returns : goal.returns
returns c =
    let s = c.args.schemas.now in
    coming_of_both c.args.t.now c.args.rows.now (accepts c.args.symbol.name s) (accepts c.args.symbol.kind s) (places_at c.args.self.now.states.keys c.args.state) c.in_ok-places.places.items
    c.keep_accepting.new.places.items c.in_ok-places.ensures c.in_ok-keep_accepting.ensures
