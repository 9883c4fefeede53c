use Rattle.std.proofs.Common.{sym, ◌∙◌}
use Rattle.gx_include.proofs.PairsAreOne.{stood}
use Rattle.gx_include.proofs.walk.note.Goals as goal

pub returns-else-added : goal.returns-else-added
returns-else-added c =
    let s = c.in_ok-added.ensures.stored in
    stood c.args.pairs.now.keys c.insert_full.new.self.keys c.args.origins.now.items c.args.pair c.args.origin c.in_ok-added.field-0-0 s.0
    c.in_ok-added.ensures.keys (sym c.if-added.false ∙ c.in_ok-added.ensures.added) s.1 s.2
