use Rattle.std.proofs.Common.{◌∙◌, ap}
use Rattle.plan_lines.specs.Lines.{invert_if}
use Rattle.plans.proofs.Promises.{class_planned}
use Rattle.plans.proofs.plan_class.Goals as goal

pub returns : goal.returns
returns c = λ f l e.
    class_planned c.args.own f c.args.class c.new-writer.result c.write-result.new.self c.write-result.result c.invert_if.result
    c.new-writer.ensures.own (c.new-writer.ensures.inputs ∙ c.inputs_of.ensures) c.new-writer.ensures.lines c.write-result.ensures.few c.write-result.ensures.held
    (c.invert_if.ensures ∙ ap (λ b. invert_if b c.write-result.result) c.output.ensures) l e
