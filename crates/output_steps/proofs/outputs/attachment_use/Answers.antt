use Rattle.std.proofs.Common.{refl}
use Rattle.std.proofs.lemmas.Bool.{and_left, and_right}
use borrow.Author.Rules.{rules}
use Rattle.output_steps.proofs.OutputLaws.{dual_absent, dual_given, depth_absent, attachments_good}
use Rattle.output_steps.proofs.outputs.attachment_use.Goals as goal
use Rattle.output_steps.proofs.outputs.attachment_use.Goals.{else-entry-via-then-entry+else-not-request, else-entry-via-else-entry}

pub returns-then-not-shader : goal.returns-then-not-shader
returns-then-not-shader c = search (rules, dual_absent)

pub returns-then-not-request : goal.returns-then-not-request
returns-then-not-request c = search (rules, dual_given, depth_absent)

pub returns : goal.returns
returns c =
    attachments_good c.args.entry.now.pack.now c.args.entry.now.parts c.args.entry.now.summary (search rules) _ _ _
    (dual_given c.args.entry.now.pack.now c.args.entry.now.parts _ c.else-request.either)
    (elim c.else-entry.branch [
      | else-entry-via-then-entry+else-not-request w ↦ and_right _ _ w.if-not-request.false
      | else-entry-via-else-entry w ↦ and_left _ _ w.if-entry.false
    ])
    refl
