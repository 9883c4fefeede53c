use Rattle.std.proofs.Common.{sym, subst, ◌≡◌, ◌++◌, string_bytes, List, ℕ}
use Rattle.std.specs.Prelude.{OnOk}
use Rattle.std.specs.Str.{chars}
use Rattle.gx_xml.proofs.value.push_normalised_value.Goals as goal

pub returns-then-not-has_other_space : goal.returns-then-not-has_other_space
returns-then-not-has_other_space c = subst (λ (t : List ℕ). OnOk c.push_all.result (chars (string_bytes c.push_all.new.out) ≡ chars (string_bytes c.args.out.now) ++ t)) (sym (c.has_other_space.ensures c.if-not-has_other_space.true)) c.push_all.ensures
