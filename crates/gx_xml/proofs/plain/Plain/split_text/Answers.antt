use Rattle.std.proofs.Common.{◌≡◌, ◌≤◌, true, sym, ap, ◌∙◌, subst, length, take, drop}
use Rattle.std.specs.Prelude.{◌++◌}
use Rattle.std.specs.Str.{chars}
use Rattle.gx_grammar.specs.Tokens.{all_pass}
use Rattle.gx_xml.specs.Plain.{is_plain_character}
use Rattle.gx_xml.proofs.PlainLemmas.{plain_cut}
use Rattle.gx_xml.proofs.plain.Plain.split_text.Goals as goal

pub split_at-requires : goal.split_at-requires
split_at-requires c =
    let within : c.count-count.result ≤ length c.args.text.now = subst (λ t. c.count-count.result ≤ length t) c.as_bytes.ensures.value c.count-count.ensures.within in
    let plain : all_pass (is_plain_character c.args.self) (take c.count-count.result c.args.text.now) ≡ true = subst (λ t. all_pass (is_plain_character c.args.self) (take c.count-count.result t) ≡ true) c.as_bytes.ensures.value c.count-count.ensures.plain in
    (plain_cut c.args.self c.args.text.now c.count-count.result c.utf8.text within plain).boundary

pub returns : goal.returns
returns c =
    let within : c.count-count.result ≤ length c.args.text.now = subst (λ t. c.count-count.result ≤ length t) c.as_bytes.ensures.value c.count-count.ensures.within in
    let plain : all_pass (is_plain_character c.args.self) (take c.count-count.result c.args.text.now) ≡ true = subst (λ t. all_pass (is_plain_character c.args.self) (take c.count-count.result t) ≡ true) c.as_bytes.ensures.value c.count-count.ensures.plain in
    let cut = plain_cut c.args.self c.args.text.now c.count-count.result c.utf8.text within plain in
    let front = c.split_at.ensures.front in
    record {
      whole = cut.whole ∙ ap (λ t. chars t ++ chars (drop c.count-count.result c.args.text.now)) (sym front) ∙ ap (λ t. chars c.split_at.result.0.now ++ chars t) (sym c.split_at.ensures.back);
      plain = ap (λ t. all_pass (is_plain_character c.args.self) (chars t)) front ∙ cut.plain;
      each = ap (λ t. length (chars t)) front ∙ cut.each ∙ ap length (sym front);
    }
