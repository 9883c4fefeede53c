use Rattle.std.proofs.Common.{◌≡◌, ◌&&◌, false, ◌∙◌, refl, sym, ap}
use Rattle.std.specs.Str.{chars}
use Rattle.std.specs.Str.Iter.{chars_rest}
use Rattle.gx_base.specs.Text.{same_text}
use Rattle.gx_facets.specs.WhiteSpace.{behind_space}
use Rattle.gx_facets.proofs.Collapsing.{collapsed_behind, left_to_collapse}
use Rattle.gx_facets.proofs.Words.{one_pass, left_before}
use Rattle.gx_facets.proofs.white_space.is_collapsed_to.Goals as goal
use Rattle.gx_facets.proofs.white_space.is_collapsed_to.Goals.{then-begun, else-begun}

pub loop-c-init : goal.loop-c-init
loop-c-init c = record {
  text = rw c.chars-rest.ensures.rest c.utf8.text;
  word = rw c.chars-wanted.ensures.rest c.utf8.word;
  same = rw (c.chars-rest.ensures.rest, c.chars-wanted.ensures.rest, one_pass (chars c.args.text.now)) refl;
}

pub returns-else-continues : goal.returns-else-continues
returns-else-continues c =
    let wanted = chars (chars_rest c.loop-c.wanted) in
    let rest = collapsed_behind false (chars (chars_rest c.next_character.new.rest)) in
    let gap : c.if-begun.continues ≡ (c.loop-c.begun && c.loop-c.gap) =
    elim c.if-begun.branch [ then-begun w ↦ rw (w.continues-is, w.if-begun.true) refl | else-begun w ↦ rw (w.continues-is, w.if-begun.false) refl ] in
    let next : left_to_collapse c.loop-c.begun c.loop-c.gap (chars (chars_rest c.loop-c.rest)) ≡ behind_space c.if-begun.continues c.in-Some.c rest =
    ap (left_to_collapse c.loop-c.begun c.loop-c.gap) c.in-Some.ensures.next ∙ left_before c.loop-c.begun c.loop-c.gap c.in-Some.c _ (sym c.if-is_white_space.ensures)
    ∙ ap (λ g. behind_space g c.in-Some.c rest) (sym gap) in
    sym (c.if-continues.ensures.taken rest) ∙ ap (λ cs. same_text cs wanted) (sym next) ∙ c.loop-c.invariant.same
