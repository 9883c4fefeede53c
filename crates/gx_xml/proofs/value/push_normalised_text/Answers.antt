use Rattle.std.proofs.Common.{sym, ap, ◌∙◌, subst, ◌≡◌, ◌++◌, string_bytes, List, ℕ}
use Rattle.std.specs.Prelude.{OnOk}
use Rattle.std.specs.Str.{chars}
use Rattle.gx_xml.proofs.value.push_normalised_text.Goals as goal

pub returns-then-not-has_return : goal.returns-then-not-has_return
returns-then-not-has_return c = subst (λ (t : List ℕ). OnOk c.push_all.result (chars (string_bytes c.push_all.new.out) ≡ chars (string_bytes c.args.out.now) ++ t)) (sym (c.has_return.ensures c.if-not-has_return.true)) c.push_all.ensures
