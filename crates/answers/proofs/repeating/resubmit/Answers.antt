use Rattle.std.proofs.Common.{length, sym, ap, ◌∙◌, subst}
use Rattle.scanner.specs.Plan.{plan_put}
use Rattle.session.specs.Held.{items_of}
use Rattle.session.specs.Output.{WrittenInto}
use Rattle.session.specs.Reply.{reply_text}
use Rattle.answers.proofs.Resubmitted.{accepted_again, front, written_again}
use Rattle.answers.proofs.repeating.resubmit.Goals as goal

pub returns-in-Err-clause-reply : goal.returns-in-Err-clause-reply
returns-in-Err-clause-reply g c full =
    let s = c.args.session.now in
    let plan = items_of s.kept in
    let done = accepted_again (g.S.Scanner.catalogue s.scanner) plan (reply_text plan) c.reply.ensures.again _ (length c.args.table.now) _ c.submit.result (front (reply_text plan) c.args.buffer.now c.reply.new.buffer c.in_ok-size.size c.in_ok-size.ensures.written) full c.submit.ensures.outcome in
    let told = sym done.0 ∙ c.in-Err.is in
    absurd (cc)

pub returns-clause-kept : goal.returns-clause-kept
returns-clause-kept g c full =
    let s = c.args.session.now in
    let plan = items_of s.kept in
    (accepted_again (g.S.Scanner.catalogue s.scanner) plan (reply_text plan) c.reply.ensures.again _ (length c.args.table.now) _ c.submit.result (front (reply_text plan) c.args.buffer.now c.reply.new.buffer c.in_ok-size.size c.in_ok-size.ensures.written) full c.submit.ensures.outcome).1

pub returns-clause-state : goal.returns-clause-state
returns-clause-state g c full =
    let old = c.args.session.now in
    let new = c.submit.new.self in
    let k = g.S.Scanner.catalogue old.scanner in
    let plan = items_of old.kept in
    let kept = (accepted_again k plan (reply_text plan) c.reply.ensures.again _ (length c.args.table.now) _ c.submit.result (front (reply_text plan) c.args.buffer.now c.reply.new.buffer c.in_ok-size.size c.in_ok-size.ensures.written) full c.submit.ensures.outcome).1 in
    new.holds ∙ ap (λ x. plan_put x (items_of new.kept)) c.submit.ensures.same ∙ ap (plan_put k) kept ∙ sym old.holds

pub returns-clause-reply : goal.returns-clause-reply
returns-clause-reply g c full =
    let s = c.args.session.now in
    let plan = items_of s.kept in
    let kept = (accepted_again (g.S.Scanner.catalogue s.scanner) plan (reply_text plan) c.reply.ensures.again _ (length c.args.table.now) _ c.submit.result (front (reply_text plan) c.args.buffer.now c.reply.new.buffer c.in_ok-size.size c.in_ok-size.ensures.written) full c.submit.ensures.outcome).1 in
    written_again (reply_text plan) c.args.buffer.now c.reply.new.buffer c.reply-2.new.buffer c.in_ok-size.size c.reply-2.result c.in_ok-size.ensures.written
    (subst (λ p. WrittenInto (reply_text p) c.reply.new.buffer c.reply-2.new.buffer c.reply-2.result) kept c.reply-2.ensures.written)
