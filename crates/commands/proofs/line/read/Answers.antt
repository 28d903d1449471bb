-- `read`: this is reading exactly what is written.
use Rattle.std.proofs.Common.{◌≡◌, rules}
use Rattle.commands.specs.Lines.{command_in}
use Rattle.commands.proofs.Runs.{command_is}
use Rattle.commands.proofs.Exact.{reads}
use Rattle.commands.proofs.line.read.Goals as goal

pub returns-clause-reads : goal.returns-clause-reads
returns-clause-reads c =
    let is : c.chosen.result ≡ command_in c.args.line.now = search (rules, command_is) in
    reads c.args.line.now c.chosen.result is
