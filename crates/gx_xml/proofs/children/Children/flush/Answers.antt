use Rattle.std.proofs.Common.{◌≡◌, [], ◌∷◌, ◌++◌, sym, ap, ◌∙◌, string_bytes}
use Rattle.std.specs.Str.{chars}
use Rattle.std.proofs.lemmas.List.{append-nil}
use Rattle.std.proofs.lemmas.Str.{chars-nil}
use Rattle.gx_xml.specs.Gathered.{text_part}
use Rattle.gx_xml.specs.declared.source.SourceChild.TheVariants.{Text}
use Rattle.gx_xml.proofs.GatherLemmas.{part_of_some}
use Rattle.gx_xml.proofs.children.Children.flush.Goals as goal

pub returns-then-is_empty-clause-done : goal.returns-then-is_empty-clause-done
returns-then-is_empty-clause-done c =
    let done = c.args.self.now.done.items in
    sym (ap (λ x. done ++ text_part x) (c.is_empty.ensures.0 c.if-is_empty.true) ∙ append-nil done)

pub returns-then-is_empty-clause-pending : goal.returns-then-is_empty-clause-pending
returns-then-is_empty-clause-pending c = c.is_empty.ensures.0 c.if-is_empty.true

pub returns-clause-done : goal.returns-clause-done
returns-clause-done c =
    let done = c.args.self.now.done.items in
    let old = chars (string_bytes c.args.self.now.pending) in
    let some : old ≡ [] → ⊥ = λ e. absurd (cc (c.is_empty.ensures.1 e, c.if-is_empty.false)) in
    c.in_ok-push.ensures.items
    ∙ ap (λ xs. xs ++ Text c.in_ok-text.text ∷ []) c.make_room.ensures
    ∙ ap (λ x. done ++ Text x ∷ []) c.in_ok-text.ensures.text
    ∙ ap (λ xs. done ++ xs) (sym (part_of_some old some))

pub returns-clause-pending : goal.returns-clause-pending
returns-clause-pending c = ap chars c.taken.ensures.empty ∙ chars-nil
