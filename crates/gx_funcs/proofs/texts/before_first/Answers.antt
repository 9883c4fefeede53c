use Rattle.std.proofs.Common.{◌≡◌, [], sym, ◌∙◌, ap, subst, arith}
use Rattle.std.specs.Prelude.{IfOk, Option, option_map, unwrap_or}
use Rattle.std.specs.Str.{chars}
use Rattle.gx_funcs.specs.Texts.{Text}
use Rattle.gx_funcs.proofs.TextLemmas.{text_splits, text_lacks}
use Rattle.gx_funcs.proofs.texts.before_first.Goals as goal

pub returns-in-Some : goal.returns-in-Some
returns-in-Some c =
    let h = c.in-Some.ensures.cases in
    let e =
    text_splits c.args.text.now c.args.searched.now c.as_str.result.now c.as_str-2.result.now h.0 h.1 c.as_str.ensures.characters c.as_str-2.ensures.characters c.as_str.ensures.bytes
    c.as_str-2.ensures.bytes h.2 h.5 (omega (arith, h.7)) in
    subst (λ (u : Text). IfOk c.from_str.result (λ (t : Text). t ≡ u)) (ap chars h.3 ∙ sym (ap (λ (o : Option (Text × Text)). unwrap_or (option_map (λ (parts : Text × Text). parts.0) o) []) e)) c.from_str.ensures

pub returns-in-None : goal.returns-in-None
returns-in-None c =
    let e = text_lacks c.args.text.now c.args.searched.now c.as_str.result.now c.as_str-2.result.now c.as_str.ensures.bytes c.as_str-2.ensures.bytes c.in-None.ensures.cases in
    subst (λ (u : Text). IfOk c.empty.result (λ (t : Text). t ≡ u)) (sym (ap (λ (o : Option (Text × Text)). unwrap_or (option_map (λ (parts : Text × Text). parts.0) o) []) e)) c.empty.ensures
