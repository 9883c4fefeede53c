use Rattle.std.proofs.Common.{◌≡◌, ◌∙◌, true, false, codes, None, if◌then◌else◌, ap, sym}
use Rattle.gx_base.specs.Text.{same_text}
use Rattle.gx_typetext.specs.KnownNames.{builtin_with_name}
use Rattle.gx_typetext.specs.NameText.{word}
use Rattle.gx_typetext.proofs.known.builtin_of_name.Goals as goal

pub returns-then-eq : goal.returns-then-eq
returns-then-eq c =
    let same : same_text c.args.name.now.uri (word (codes "http://www.w3.org/2001/XMLSchema")) ≡ true = cc (c.eq.ensures, c.if-eq.true, c.in_ok-from_str.ensures) in
    c.builtin_with_name.ensures ∙ sym (ap (λ b. if b then builtin_with_name c.args.name.now.local else None) same)

pub returns-else-eq : goal.returns-else-eq
returns-else-eq c =
    let other : same_text c.args.name.now.uri (word (codes "http://www.w3.org/2001/XMLSchema")) ≡ false = cc (c.eq.ensures, c.if-eq.false, c.in_ok-from_str.ensures) in
    sym (ap (λ b. if b then builtin_with_name c.args.name.now.local else None) other)
