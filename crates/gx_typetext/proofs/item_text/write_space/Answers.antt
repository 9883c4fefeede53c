use Rattle.std.proofs.Common.{◌≡◌, [], true, false, codes}
use Rattle.gx_base.specs.Text.{same_text}
use Rattle.gx_typetext.specs.NameText.{word}
use Rattle.gx_typetext.proofs.Spaces.{space_text-schema, space_text-other}
use Rattle.gx_typetext.proofs.item_text.write_space.Goals as goal

pub returns-then-eq : goal.returns-then-eq
returns-then-eq c =
    let uri = c.args.uri.now in
    let some : uri ≡ [] → ⊥ = λ (e : uri ≡ []). let empty = c.is_empty.ensures.1 e in cc in
    let same : same_text uri (word (codes "http://www.w3.org/2001/XMLSchema")) ≡ true = cc (c.eq.ensures, c.if-eq.true, c.in_ok-from_str.ensures) in
    rw (space_text-schema uri some same) c.write_word.ensures

pub returns : goal.returns
returns c =
    let uri = c.args.uri.now in
    let some : uri ≡ [] → ⊥ = λ (e : uri ≡ []). let empty = c.is_empty.ensures.1 e in cc in
    let other : same_text uri (word (codes "http://www.w3.org/2001/XMLSchema")) ≡ false = cc (c.eq.ensures, c.if-eq.false, c.in_ok-from_str.ensures) in
    rw (space_text-other uri some other) c.write_braced.ensures
