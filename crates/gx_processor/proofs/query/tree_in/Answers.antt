use Rattle.std.proofs.Common.{ℕ, List, subst, IfOk, IfErr}
use Rattle.gx_parse_grammar.specs.Query.{Parses, parsed}
use Rattle.gx_documents.specs.Documents.{Files}
use Rattle.gx_processor.specs.Answer.{AnswersBytes}
use Rattle.gx_processor.specs.Command.{Command}
use Rattle.gx_processor.specs.Replies.{RefusesSo}
use Rattle.gx_processor.specs.QueryReplies.{AreOfNone}
use Rattle.gx_processor.proofs.QueryLemmas.{held_tree, bytes_refused, holds_none}
use Rattle.gx_processor.proofs.query.tree_in.Goals as goal

pub returns-clause-tree : goal.returns-clause-tree
returns-clause-tree g c =
    held_tree (g.L.Library.files c.args.library.now) c.args.file.now c.in_ok-bytes.bytes.items c.tree_of.result c.in_ok-bytes.ensures.held c.in_ok-bytes.ensures.within
    (subst (λ (xs : List ℕ). IfOk c.tree_of.result (λ tree. Parses xs (parsed tree))) c.as_slice.ensures.value c.tree_of.ensures.tree)

pub returns-clause-refused : goal.returns-clause-refused
returns-clause-refused g c =
    bytes_refused (g.L.Library.files c.args.library.now) c.args.file.now c.in_ok-bytes.bytes.items c.tree_of.result c.in_ok-bytes.ensures.held c.in_ok-bytes.ensures.within
    (subst (λ (xs : List ℕ). IfErr c.tree_of.result (λ e. (files : Files) (command : Command) → RefusesSo e (AnswersBytes files command xs))) c.as_slice.ensures.value c.tree_of.ensures.refused)

pub returns-clause-none : goal.returns-clause-none
returns-clause-none g c =
    holds_none (g.L.Library.files c.args.library.now) c.args.file.now c.in_ok-bytes.bytes.items c.tree_of.result c.in_ok-bytes.ensures.held
    (subst (λ (xs : List ℕ). IfErr c.tree_of.result (AreOfNone xs)) c.as_slice.ensures.value c.tree_of.ensures.none)
