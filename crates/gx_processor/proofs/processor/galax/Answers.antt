use Rattle.std.proofs.Common.{map, string_bytes}
use Rattle.gx_processor.specs.Run.{Run}
use Rattle.gx_processor.proofs.Promised.{promised}
use Rattle.gx_processor.proofs.processor.galax.Goals as goal

pub returns : goal.returns
returns g c =
    let run : Run = record {
      words = map string_bytes c.args.words.now;
      library = record { Library = g.row.L.Denot; before = c.args.library.now; after = c.reply_to-reply.new.library; files = g.L.Library.files; faults = g.L.Library.faults; was_loaded = g.L.Library.was_loaded };
      status = c.finish.result;
      out = record { Sink = g.row.O.Denot; before = c.args.out.now; after = c.finish.new.out; written = g.O.Sink.written; faults = g.O.Sink.faults; was_put = g.O.Sink.was_put };
      err = record { Sink = g.row.E.Denot; before = c.args.err.now; after = c.finish.new.err; written = g.E.Sink.written; faults = g.E.Sink.faults; was_put = g.E.Sink.was_put };
    } in
    promised run c.reply_to-reply.result
    (record {
      sound = c.query_typing_is_sound.ensures;
      keep = c.sound_queries_keep_their_types.ensures;
      names = c.query_rejection_names_a_failure.ensures;
      honest = c.documents_are_honest.ensures;
      fits = c.documents_are_as_asked.ensures;
      trees = c.held_trees_are_kept.ensures;
      documents = c.named_queries_have_documents.ensures;
      imports = c.imports_are_schema_sets.ensures;
      single = c.imports_are_one.ensures;
    })
    (record { formed = c.reply_to-reply.ensures.cause; usage = c.reply_to-reply.ensures.usage; ends = c.finish.ensures; told = c.reply_to-reply.ensures.told; answers = c.reply_to-reply.ensures.answer; loads = c.reply_to-reply.ensures.loads })
