-- What a run leaves in its sinks, by what it replies.
use Rattle.std.specs.Prelude.{◌≡◌, ℕ, List, ◌⊎◌}
use Rattle.std.specs.String.{string_bytes}
use Rattle.gx_io.specs.SinkUse.{SinkUse, IsUntouched, Took, TookPart, SinkFailed}
use Rattle.gx_processor.specs.declared.status.Status.{Status}
use Rattle.gx_processor.specs.declared.status.Status.TheVariants.{Done, WriteFault, Memory}
use Rattle.gx_processor.specs.declared.reply.Reply.{Reply}
use Rattle.gx_processor.specs.declared.reply.Reply.TheVariants.{Output, Fault, Starved}
use Rattle.gx_processor.specs.FaultLines.{write_fault_line}

-- one put of a line was made: it is there, or a part of it is and the put failed or found no memory
abbrev pub Put : Status → List ℕ → Status → SinkUse → Type 0
Put status line result err =
    ((result ≡ status) × Took err line)
    ⊎ (((result ≡ WriteFault) × TookPart err line × SinkFailed err) ⊎ ((result ≡ Memory) × TookPart err line))

-- one put of the output was made: it is there; or a part of it is, and no memory was found; or a part of it is, the put
-- failed, and the line of a write fault was put, which changes the status only where no memory was found
abbrev pub PutOutput : List ℕ → Status → SinkUse → SinkUse → Type 0
PutOutput bytes result out err =
    ((result ≡ Done) × Took out bytes × IsUntouched err)
    ⊎ (((result ≡ Memory) × TookPart out bytes × IsUntouched err) ⊎ (TookPart out bytes × SinkFailed out × Put WriteFault write_fault_line result err))

-- the sinks at the end
abbrev pub Ends : Reply → Status → SinkUse → SinkUse → Type 0
Ends (Output text) result out err = PutOutput (string_bytes text) result out err
Ends (Fault status line) result out err = IsUntouched out × Put status (string_bytes line) result err
Ends Starved result out err = (result ≡ Memory) × IsUntouched out × IsUntouched err
