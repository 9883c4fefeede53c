use Rattle.std.proofs.Common.{◌≡◌, ◌+◌, ◌*◌, ◌^◌, ◌<◌, ◌≤◌, ◌||◌, ◌∙◌, ap, subst, refl, length, arith, pow_mono}
use Rattle.std.proofs.lemmas.Option.{slice_get_read}
use Rattle.gx_include_takes.specs.Bits.{has_bit}
use Rattle.gx_include_takes.specs.Following.{AreFollowing}
use Rattle.gx_include_takes.proofs.PlaceSets.{further_row}
use Rattle.gx_include_takes.proofs.following.add_place.Goals as goal

pub loop-members-preserved : goal.loop-members-preserved
loop-members-preserved c =
    let few : 2 ^ c.args.bit ≤ 8 = let p : c.args.bit ≤ 3 = omega (arith, c.requires.within) in pow_mono p in
    let within : c.loop-members.members < 2 ^ c.args.bit = omega (arith, few, c.loop-members-test.true, c.loop-members.auto.members-end) in
    let there : c.args.block * 16 + c.loop-members.members < length c.loop-members.rows.items = omega (arith, within, c.loop-members.invariant.count_is) in
    let next : c.args.block * 16 + 2 ^ c.args.bit + c.loop-members.members + 1 ≡ c.args.block * 16 + 2 ^ c.args.bit + (c.loop-members.members + 1) = omega arith in
    subst (λ n. AreFollowing c.args.t.now n c.push.new.self.items) next
    (further_row c.args.t.now c.args.block c.args.bit c.loop-members.members c.loop-members.rows.items c.push.new.self.items c.index.result.now c.in_ok-row.row c.in_ok-last.last.items
    c.requires.within within
    (slice_get_read c.loop-members.rows.items (length c.loop-members.rows.items) (c.args.block * 16 + c.loop-members.members) c.index.result.now refl there c.index.ensures)
    c.in_ok-last.ensures (λ place.
    c.in_ok-row.ensures place
    ∙ ap (λ ws. has_bit ws place || has_bit c.as_slice-in-loop-members.result.now place) c.as_slice.ensures.value
    ∙ ap (λ ws. has_bit c.index.result.now.items place || has_bit ws place) c.as_slice-in-loop-members.ensures.value)
    c.in_ok-push.ensures.items c.loop-members.invariant)
