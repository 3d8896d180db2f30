-- What a private function is to do for `issue`: this project's own.
use Rattle.duk_program.specs.IssueFiles.{IssueTask, issue_task}
use Rattle.duk_program.specs.declared.commands.issue.Task.{Task}

-- an order, what becomes of issued numbers, and the bytes of padding, as a function is handed them
abbrev pub task_of : Task → IssueTask
task_of task = issue_task task.order.now task.if_issued task.padding.now
