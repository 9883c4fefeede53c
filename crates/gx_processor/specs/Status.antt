-- The numbers of the statuses.
use Rattle.std.specs.Prelude.{ℕ}
use Rattle.gx_processor.specs.declared.status.Status.{Status}
use Rattle.gx_processor.specs.declared.status.Status.TheVariants.{Done, Usage, Query, Schema, Document, Dynamic, ReadFault, WriteFault, Memory}

abbrev pub number_of_status : Status → ℕ
number_of_status Done = 0
number_of_status Usage = 1
number_of_status Query = 2
number_of_status Schema = 3
number_of_status Document = 4
number_of_status Dynamic = 5
number_of_status ReadFault = 6
number_of_status WriteFault = 7
number_of_status Memory = 8
