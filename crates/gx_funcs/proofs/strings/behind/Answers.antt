use Rattle.std.proofs.Common.{◌≡◌, ℕ, [], drop, sym, ◌∙◌, ap, rules}
use Rattle.std.specs.Str.Iter.{chars_rest}
use Rattle.std.specs.Str.{chars}
use Rattle.std.proofs.lemmas.Str.{chars-nil}
use Rattle.gx_funcs.proofs.PartLemmas.{drop_nothing}
use Rattle.gx_funcs.proofs.strings.behind.Goals as goal

pub returns-in_default : goal.returns-in_default
returns-in_default c =
    let ended : chars (chars_rest c.loop-more.rest) ≡ [] = search (rules, c.in_default.ensures.end) in
    chars-nil ∙ sym (drop_nothing {A = ℕ} c.loop-more.more) ∙ ap (drop c.loop-more.more) (sym ended) ∙ c.loop-more.invariant.left
