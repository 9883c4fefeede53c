-- The plain command that a command of the program stands for.
use Rattle.std.specs.Prelude.{ℕ, List}
use Rattle.std.specs.Borrow.{Bor}
use Rattle.gx_processor.specs.declared.command.Command as program
use Rattle.gx_processor.specs.declared.command.Command.TheVariants.{Run, Check, Plan}
use Rattle.gx_processor.specs.Command.{Command, run_file, check_file, plan_file, bytes_of}

abbrev pub plain_command : program.Command → Command
plain_command (Run file bindings) = run_file file.now (bytes_of bindings.now)
plain_command (Check file) = check_file file.now
plain_command (Plan file) = plan_file file.now

-- two texts that are borrowed
abbrev pub plain_texts : Bor (List ℕ) × Bor (List ℕ) → List ℕ × List ℕ
plain_texts texts = (texts.0.now, texts.1.now)
