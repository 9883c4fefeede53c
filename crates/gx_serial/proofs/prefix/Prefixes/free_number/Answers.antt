use Rattle.std.proofs.Common.{◌<◌, length, ap, sym, ◌∙◌, arith}
use Rattle.gx_serial.specs.Binding.{is_prefix_among}
use Rattle.gx_serial.specs.View.{TagPrefixes, all_prefixes}
use Rattle.gx_serial.proofs.PrefixLemmas.{found_free, found_last, length-seen}
use Rattle.gx_serial.proofs.prefix.Prefixes.free_number.Goals as goal

pub returns-then-not-is_used-clause-number : goal.returns-then-not-is_used-clause-number
returns-then-not-is_used-clause-number c =
    found_free (all_prefixes c.args.self.now) c.loop-number.number c.loop-number.invariant
    (ap (is_prefix_among (all_prefixes c.args.self.now)) (sym c.in_ok-prefix.ensures) ∙ sym c.is_used.ensures ∙ c.if-not-is_used.true)

pub returns-clause-number : goal.returns-clause-number
returns-clause-number c =
    let past : length (all_prefixes c.args.self.now) < c.loop-number.number =
    omega (arith, length-seen c.self.inside, ap (λ (p : TagPrefixes). length (all_prefixes p)) c.self.view_is, c.len.ensures.len) in
    found_last (all_prefixes c.args.self.now) c.loop-number.number c.loop-number.invariant past
