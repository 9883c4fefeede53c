use Rattle.std.proofs.Common.{◌≡◌, ◌-◌, ◌∙◌, sym, ap, Bool, List, ℕ, filter, false, length, subst, arith}
use Rattle.std.specs.Prelude.{min, slice_index_or}
use Rattle.gx_include_followers.specs.NumberSet.{AscendWithin, flags_within}
use Rattle.gx_include_positions.specs.Positions.{both_set}
use Rattle.gx_include_followers.proofs.NumberSetLemmas.{met_ascend, met_is, length_within}
use Rattle.gx_include_followers.proofs.number_set.NumberSet.kept_in.Goals as goal

pub invariant_of-result : goal.invariant_of-result
invariant_of-result c =
    let long : length c.args.other.now ≡ c.other.inside.count =
    ap length (sym c.other.view_is) ∙ length_within 0 c.other.inside.count c.other.inside.members.items c.other.invariant ∙ (let e : c.other.inside.count - 0 ≡ c.other.inside.count = omega arith in e) in
    let kept : c.in_ok-members.members.items ≡ filter (λ n. slice_index_or c.args.other.now n false) c.self.inside.members.items =
    c.in_ok-members.ensures ∙ ap (filter (λ n. slice_index_or c.args.other.now n false)) c.as_slice.ensures.value in
    subst (λ (n : ℕ). AscendWithin 0 n c.in_ok-members.members.items) (sym c.min-count.ensures)
    (met_ascend c.self.inside.count c.other.inside.count c.self.inside.members.items c.in_ok-members.members.items c.args.other.now c.self.invariant long kept)

pub returns : goal.returns
returns c =
    let long : length c.args.other.now ≡ c.other.inside.count =
    ap length (sym c.other.view_is) ∙ length_within 0 c.other.inside.count c.other.inside.members.items c.other.invariant ∙ (let e : c.other.inside.count - 0 ≡ c.other.inside.count = omega arith in e) in
    let kept : c.in_ok-members.members.items ≡ filter (λ n. slice_index_or c.args.other.now n false) c.self.inside.members.items =
    c.in_ok-members.ensures ∙ ap (filter (λ n. slice_index_or c.args.other.now n false)) c.as_slice.ensures.value in
    ap (λ (n : ℕ). flags_within 0 n c.in_ok-members.members.items) c.min-count.ensures
    ∙ met_is c.self.inside.count c.other.inside.count c.self.inside.members.items c.in_ok-members.members.items c.args.other.now c.self.invariant long kept
    ∙ ap (λ (flags : List Bool). both_set flags c.args.other.now) c.self.view_is
