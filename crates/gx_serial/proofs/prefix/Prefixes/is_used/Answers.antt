use Rattle.std.proofs.Common.{◌≡◌, false, ap, ◌∙◌}
use Rattle.std.specs.Prelude.{bytes_eq}
use Rattle.std.specs.BTreeSet.{contains}
use Rattle.gx_base.specs.Text.{text_cmp}
use Rattle.gx_serial.specs.Binding.{is_prefix_among}
use Rattle.gx_serial.specs.View.{TagPrefixes, all_prefixes}
use Rattle.gx_serial.proofs.PrefixLemmas.{used_taken}
use Rattle.gx_serial.proofs.prefix.Prefixes.is_used.Goals as goal
use Rattle.gx_serial.proofs.prefix.Prefixes.is_used.Goals.{then-eq, else-eq}

pub returns-else-contains : goal.returns-else-contains
returns-else-contains c =
    let prefix = c.args.prefix.now in
    elim c.if-eq.branch [
      | then-eq w ↦ absurd (cc (c.if-contains.false))
      | else-eq w ↦
          let other : bytes_eq c.self.inside.name.now.prefix prefix ≡ false = cc in
          let none : contains text_cmp c.self.inside.attribute_prefixes prefix ≡ false = cc in
          c.is_some.ensures ∙ used_taken c.self.inside prefix c.bound_to.result c.self.invariant other none c.bound_to.ensures
          ∙ ap (λ (p : TagPrefixes). is_prefix_among (all_prefixes p) prefix) c.self.view_is
    ]
