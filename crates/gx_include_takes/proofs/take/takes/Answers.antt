use Rattle.std.proofs.Common.{◌≡◌, ℕ, ◌+◌, ◌*◌, ◌/◌, sym, ap, subst, length, List, Vec, Bool, Global, drop, arith}
use Rattle.gx_types.specs.TypeRules.{positions_of}
use Rattle.gx_include_takes.specs.Following.{AreFollowing}
use Rattle.gx_include_positions.specs.Step.{has_start}
use Rattle.gx_include_positions.proofs.SetReads.{next_length}
use Rattle.gx_include_takes.proofs.take.takes.Goals as goal

pub takes_by_rows-requires-clause-rows : goal.takes_by_rows-requires-clause-rows
takes_by_rows-requires-clause-rows c =
    let t = c.args.t.now in
    let count : c.len-count.result ≡ positions_of t + 1 =
    omega (arith, c.len-count.ensures, ap (λ (fs : List Bool). length fs) c.in_ok-next_positions.ensures, next_length t (drop 1 c.as_slice.result.now) (has_start c.as_slice.result.now)) in
    subst (λ (rows : List (Vec ℕ Global)). AreFollowing t (((positions_of t + 1) / 4 + 1) * 16) rows) (sym c.as_slice-2.ensures.value)
    (subst (λ (n : ℕ). AreFollowing t ((n / 4 + 1) * 16) c.in_ok-rows.rows.items) count c.in_ok-rows.ensures)
