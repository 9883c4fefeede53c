use Rattle.gx_parse_grammar.specs.declared.casts.TypeTest.TheVariants as test
use Rattle.gx_parse_grammar.specs.declared.casts.CastTest.TheVariants as cast
use Rattle.gx_parse_grammar.specs.Grammar.{place_in}
use Rattle.gx_parse_grammar.specs.Casts.{cast_test, casts, type_test}
use Rattle.gx_parse_types.proofs.casts.casts.Goals as goal

pub returns : goal.returns
unfolding casts
returns c = λ n before a h.
    let castable = cast_test (place_in c.args.source.now) cast.CastAs before in
    let treated = cast_test (place_in c.args.source.now) cast.CastableAs castable in
    c.type_test.ensures n (type_test (place_in c.args.source.now) test.TreatAs treated) a
    (c.type_test-treated.ensures n treated a (c.cast_test-castable.ensures n castable a (c.cast_test-cast.ensures n before a h)))
