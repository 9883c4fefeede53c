use Rattle.std.proofs.Common.{ap, sym, ◌∙◌, take, length-take, arith}
use Rattle.std.specs.Str.{chars}
use Rattle.gx_grammar.specs.Places.{place_at}
use Rattle.gx_grammar.proofs.Decoding.{no_more, unreadable_at}
use Rattle.gx_grammar.proofs.decode.unreadable.Goals as goal

pub place_of-requires-clause-numbered : goal.place_of-requires-clause-numbered
place_of-requires-clause-numbered c =
    let front = rw c.unwrap.ensures at c.from_utf8.ensures.cases in
    let e = c.deref.ensures.value ∙ c.in_ok-front.ensures ∙ ap chars front.0 in
    let h = no_more (take c.args.readable c.args.bytes.now) c.deref.result.now c.requires.longest.front e in
    omega (arith, h, length-take c.args.readable c.args.bytes.now, c.requires.short)

pub returns : goal.returns
returns c =
    let front = rw c.unwrap.ensures at c.from_utf8.ensures.cases in
    let e = c.deref.ensures.value ∙ c.in_ok-front.ensures ∙ ap chars front.0 in
    unreadable_at c.args.bytes.now c.deref.result.now c.args.readable c.place_of.result c.requires.longest e
    (c.place_of.ensures ∙ ap (λ n. place_at c.deref.result.now n) (c.len.ensures ∙ sym c.deref.ensures.len))
