use Rattle.function_lifter.proofs.TaskLemmas.{put_done, put_keeps, put_task}
use Rattle.function_lifter.proofs.functions.finish.Goals as goal

pub returns-clause-done : goal.returns-clause-done
returns-clause-done c = put_done c.args.task.now c.put.new.task c.args.function c.in_ok-put.ensures.done c.in_ok-put.ensures.waiting

pub returns-clause-keeps : goal.returns-clause-keeps
returns-clause-keeps c = put_keeps c.args.task.now c.put.new.task c.args.function c.in_ok-put.ensures.done c.in_ok-put.ensures.waiting

pub returns-clause-task : goal.returns-clause-task
returns-clause-task c image externs lifted called task =
    put_task c.args.task.now c.put.new.task c.args.function c.in_ok-put.ensures.done c.in_ok-put.ensures.waiting image externs lifted called task
