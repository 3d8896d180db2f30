-- How a batch ends, by how its lines were answered.
use Rattle.std.proofs.Common.{◌≡◌, ℕ, true, false, List, ◌∙◌}
use Rattle.std.proofs.lemmas.List.Sums.{list_all-from_AllPass}
use Rattle.duk_io.specs.Known.{Known}
use Rattle.duk_commands.specs.Item.{ItemCommand}
use Rattle.duk_commands.specs.Batch.{Input, IsBatchNotDone}
use Rattle.duk_commands.specs.inner.Batch.{IsEnd}
use Rattle.duk_commands.specs.declared.batch.fault.BatchFault.TheVariants as fault
use Rattle.duk_commands.specs.declared.batch.run.End.TheVariants.{Answered}

-- all lines are answered, and one was refused
pub ended_refused : (command : List ℕ → ItemCommand) (input : Input) (a b : Known) → IsEnd command input a b (Answered false)
    → IsBatchNotDone command input fault.ItemsRefused a b
ended_refused command input a b (bytes, read_up, all) = record {
  answers = all.answers;
  answered = record {
    bytes = bytes;
    read_up = read_up;
    answered = all.right;
    written = all.was_written;
  };
  refused = λ each. let all_done : false ≡ true = all.all ∙ list_all-from_AllPass (λ answer. answer.done) all.answers each in cc;
}
