use Rattle.std.proofs.Common.{◌≡◌, ◌+◌, ◌∙◌, List, [], ℕ, map, length, sym, ap}
use Rattle.std.specs.List.{flat_map}
use Rattle.gx_types.specs.SequenceType.{SequenceType}
use Rattle.gx_include_positions.specs.Step.{all_next}
use Rattle.gx_include_followers.specs.declared.rope.Rope.{Rope}
use Rattle.gx_include_followers.specs.declared.followers.Row.{Row}
use Rattle.gx_include_followers.specs.Rope.{numbers_of}
use Rattle.gx_include_followers.specs.Rows.{behind_row, said_of}
use Rattle.gx_include_followers.proofs.RowLemmas.{next_is}
use Rattle.gx_include_followers.proofs.followers.Followers.next.Goals as goal

pub returns : goal.returns
returns c =
    let rows : c.as_slice-rows.result.now ≡ c.self.inside.rows.items = c.as_slice-rows.ensures.value in
    next_is c.self.inside.t.now c.self.inside.outline c.self.inside.rows.items c.members.result.now c.in_ok-numbers.numbers.items c.args.set.now c.of.result (length c.as_slice-rows.result.now + 1) c.self.invariant c.members.ensures
    (c.in_ok-numbers.ensures
    ∙ ap (λ (r : Rope). flat_map (said_of (numbers_of r) (map behind_row c.as_slice-rows.result.now) []) c.members.result.now) c.deref.ensures
    ∙ ap (λ (rs : List Row). flat_map (said_of (numbers_of c.self.inside.outline.firsts.value) (map behind_row rs) []) c.members.result.now) rows)
    (ap (λ (n : ℕ). n + 1) (ap length rows)) c.of.ensures.count c.of.ensures.members
    ∙ ap (λ (t : SequenceType). all_next t c.args.set.now) c.self.view_is
