use Rattle.runend_script.proofs.Replies.{kept_untold, replied}
use Rattle.runend_script.proofs.scripts.reply_by.Goals as goal

pub returns-clause-answered : goal.returns-clause-answered
returns-clause-answered g c =
    replied c.args.column.now c.execute_one-answer.new.column c.args.command.now c.execute_one-answer.result c.reply_that-reply.result c.execute_one-answer.ensures.step.0 c.reply_that-reply.ensures.told

pub returns-clause-kept : goal.returns-clause-kept
returns-clause-kept g c =
    kept_untold c.args.column.now c.execute_one-answer.new.column c.args.command.now c.execute_one-answer.result c.reply_that-reply.result c.execute_one-answer.ensures.step.0 c.reply_that-reply.ensures.undone
