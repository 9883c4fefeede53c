use Rattle.std.proofs.Common.{◌≡◌, ◌∙◌, ◌++◌, ℕ, Option, refl, sym, ap, append_assoc, rules}
use Rattle.std.specs.Str.{chars}
use Rattle.std.specs.Str.Iter.{chars_rest}
use Rattle.gx_funcs.specs.Texts.{Text, target, in_place_of, translated}
use Rattle.gx_funcs.proofs.TextLemmas.{utf8_from, chars_from}
use Rattle.gx_funcs.proofs.texts.translated.Goals as goal

pub loop-c-init : goal.loop-c-init
loop-c-init c =
    let bytes = c.chars-rest.ensures.rest ∙ c.as_str.ensures.bytes in
    record {
      text = utf8_from c.args.text.now _ c.as_str.ensures.characters bytes;
      same = rw (c.new-done.ensures, chars_from c.args.text.now _ c.as_str.ensures.characters bytes) refl;
    }

pub loop-c-preserved : goal.loop-c-preserved
loop-c-preserved c =
    let from : Text = c.args.from.now in
    let to : Text = c.args.to.now in
    let one : ℕ = c.in-Some.c in
    let rest : Text = chars (chars_rest c.next_character.new.rest) in
    let found : c.copied.result ≡ target from to one = cc (c.in_ok-map.ensures one, c.get.ensures.value, c.copied.ensures) in
    let made : c.put.new.done ≡ c.loop-c.done ++ in_place_of one (target from to one) = c.in_ok-put.ensures ∙ ap (λ (o : Option (Option ℕ)). c.loop-c.done ++ in_place_of one o) found in
    record {
      text = search rules;
      same =
          ap (λ (d : Text). d ++ translated from to rest) made ∙ append_assoc c.loop-c.done (in_place_of one (target from to one)) (translated from to rest)
          ∙ ap (λ (cs : Text). c.loop-c.done ++ translated from to cs) (sym c.in-Some.ensures.next) ∙ c.loop-c.invariant.same;
    }
