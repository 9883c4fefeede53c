use Rattle.gx_grammar.specs.Value.{nothing}
use Rattle.gx_parse_grammar.specs.Bound.{bound_made, kind_made, position_made}
use Rattle.gx_parse_types.proofs.BindingPhrases.{head_read, head_stops}
use Rattle.gx_parse_types.proofs.binding.head_behind.Goals as goal

pub returns-in_default : goal.returns-in_default
returns-in_default c = λ n before a h.
    let done = rw c.in_default.is at h in
    (done.0, (λ v. head_stops c.args.source.now n c.args.levels c.args.binder before nothing v a c.args.reader.now done.0 (done.1 nothing)))

pub returns : goal.returns
returns c = λ n before a h.
    let got = rw c.in-Some.is at h in
    head_read c.args.source.now n c.args.levels c.args.binder before (bound_made c.in-Some.variable) (kind_made c.kind_of-kind.result) (position_made c.position_of-position.result) nothing a c.args.reader.now c.kind_of-kind.new.reader c.position_of-position.new.reader c.bound_to.new.reader got (c.kind_of-kind.ensures n)
    (c.position_of-position.ensures n) (c.bound_to.ensures c.args.source.now n)
