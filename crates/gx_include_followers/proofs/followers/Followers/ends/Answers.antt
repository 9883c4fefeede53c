use Rattle.std.proofs.Common.{◌≡◌, ◌∙◌, List, false, map, sym, ap}
use Rattle.std.specs.List.{list_any}
use Rattle.gx_types.specs.SequenceType.{SequenceType}
use Rattle.gx_include_positions.specs.Step.{is_end}
use Rattle.gx_include_followers.specs.declared.followers.Row.{Row}
use Rattle.gx_include_followers.specs.Rows.{end_row, said_of}
use Rattle.gx_include_followers.proofs.RowLemmas.{end_is}
use Rattle.gx_include_followers.proofs.followers.Followers.ends.Goals as goal

pub returns : goal.returns
returns c =
    c.ends_at_one.ensures
    ∙ ap (λ (rows : List Row). list_any (said_of c.self.inside.outline.nullable (map end_row rows) false) c.members.result.now) c.as_slice.ensures.value
    ∙ end_is c.self.inside.t.now c.self.inside.outline c.self.inside.rows.items c.members.result.now c.args.set.now c.self.invariant c.members.ensures
    ∙ ap (λ (t : SequenceType). is_end t c.args.set.now) c.self.view_is
