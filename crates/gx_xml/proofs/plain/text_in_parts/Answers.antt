use Rattle.std.proofs.Common.{◌≡◌, ap, sym, ◌∙◌, arith, take, drop, length, length-drop}
use Rattle.std.proofs.lemmas.List.{drop-drop}
use Rattle.gx_grammar.specs.Tokens.{all_pass}
use Rattle.gx_xml.specs.Plain.{is_plain_character}
use Rattle.gx_xml.specs.declared.plain.Plain.TheVariants as plain
use Rattle.gx_xml.proofs.PlainLemmas.{part_more}
use Rattle.gx_xml.proofs.plain.text_in_parts.Goals as goal

pub loop-left-preserved : goal.loop-left-preserved
loop-left-preserved c =
    let bytes = c.args.bytes.now in
    let before = c.loop-left.invariant in
    record {
      behind = c.split_at.ensures.back ∙ ap (drop 16) before.behind ∙ drop-drop 16 c.loop-left.count bytes;
      within = omega (arith, c.loop-left-test.true, ap length before.behind, length-drop c.loop-left.count bytes);
      plain = part_more plain.Text bytes c.loop-left.count 16 before.plain
          (ap (λ y. all_pass (is_plain_character plain.Text) (take 16 y)) (sym before.behind) ∙ ap (all_pass (is_plain_character plain.Text)) (sym c.split_at.ensures.front) ∙ sym c.are_text.ensures ∙ c.if-not-are_text.false);
    }
