use Rattle.std.proofs.Common.{◌≡◌, ◌≤◌, List, [], length, map, Result}
use Rattle.gx_types.specs.SchemaInvariant.{HoldsOfEach}
use Rattle.gx_documents.specs.declared.documents.DocumentsError.{DocumentsError}
use Rattle.gx_documents.specs.Reading.{ReadsFrom}
use Rattle.gx_documents.proofs.documents.read_all.Given as goal

-- what reading from here on comes to, reading from the start does
abbrev pub invariant-loop-request : goal.invariant-loop-request
invariant-loop-request g l = record {
  told : g.L.Library.files l.library ≡ g.L.Library.files l.fn.library;
  counted : g.L.Library.faults l.fn.library ≤ g.L.Library.faults l.library;
  can_ask : HoldsOfEach (g.K.Kept.can_ask l.form) l.left;
  reads : (result : Result (List _) DocumentsError) (after : g.row.L.Denot)
      → ReadsFrom (g.L.Library.files l.fn.library) g.L.Library.was_loaded g.L.Library.faults (map (g.K.Kept.asks l.form) l.left) (g.K.Kept.in_order l.all) result l.library after
      → ReadsFrom (g.L.Library.files l.fn.library) g.L.Library.was_loaded g.L.Library.faults (map (g.K.Kept.asks l.form) l.fn.requests) [] result l.fn.library after;
}

abbrev pub decreases-loop-request : goal.decreases-loop-request
decreases-loop-request g l = length l.left
