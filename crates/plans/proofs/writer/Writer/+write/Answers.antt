-- Each rule by its lemma: the parts are smaller and there is room for them, and what is written is what the rule writes.
use Rattle.std.proofs.Common.{◌+◌, ◌<◌, true, false, [], length, ap, ◌∙◌, subst, ap₂, arith, rules}
use Rattle.tables.specs.PerVariable.{at}
use Rattle.tables.specs.Tables.{cofactor, support_size}
use Rattle.rules.specs.declared.Rule.TheVariants.{Constant, Single, OneLine, Top, Xor, Shannon}
use Rattle.plan_lines.specs.Lines.{constant_false, invert_if, and_of}
use Rattle.plan_lines.specs.declared.Literal.{Literal}
use Rattle.plan_lines.specs.declared.Line.{Line}
use Rattle.plans.specs.Plans.{one_more, top_of, xor_lines, shannon_lines, write}
use Rattle.plans.specs.Held.{line_count, Wrote}
use Rattle.plans.proofs.Holding.{behind, wrote_count, one_more-behind, either-behind, xor_lines-behind, xor_lines_few}
use Rattle.plans.proofs.Writing.{top_part, xor_falls, xor_room, shannon_room, one_line_room, shannon_falls, by_its_rule, no_line, part_wrote, next_part_wrote, followed}
use Rattle.plans.proofs.writer.Writer.+write.Goals as goal

pub write-part-requires : goal.write-part-requires
write-part-requires t c =
    let p = top_part c.args.self.now.own c.args.h c.in-Top.gate c.in-Top.v c.in-Top.high (omega arith) c.in-Top.ensures.first in
    let falls = p.falls in
    let e = ap support_size c.cofactor.ensures in
    let lt : support_size c.cofactor.result < support_size c.args.h = omega arith in
    (search rules, (grind (arith, c.requires, p.room, c.cofactor.ensures)))

pub push-requires-in-Top : goal.push-requires-in-Top
push-requires-in-Top t c =
    let p = top_part c.args.self.now.own c.args.h c.in-Top.gate c.in-Top.v c.in-Top.high (omega arith) c.in-Top.ensures.first in
    grind (arith, c.requires, p.room, c.cofactor.ensures, c.write-part.ensures.few)

pub returns-in-OneLine-clause-few : goal.returns-in-OneLine-clause-few
returns-in-OneLine-clause-few t c =
    let b = one_line_room c.args.self.now.own c.args.h c.in-OneLine.field-0 (omega arith) c.in-OneLine.ensures.first in
    let a = wrote_count c.args.self.now c.push.new.self c.push.result _ c.push.ensures in
    omega arith

pub returns-in-Top-clause-few : goal.returns-in-Top-clause-few
returns-in-Top-clause-few t c =
    let p = top_part c.args.self.now.own c.args.h c.in-Top.gate c.in-Top.v c.in-Top.high (omega arith) c.in-Top.ensures.first in
    let a = wrote_count c.write-part.new.self c.push-in-Top.new.self c.push-in-Top.result _ c.push-in-Top.ensures in
    grind (arith, p.room, c.cofactor.ensures, c.write-part.ensures.few)

pub returns-in-Xor-clause-few : goal.returns-in-Xor-clause-few
returns-in-Xor-clause-few t c =
    let u = c.write-part-in-Xor.new.self in
    let a = wrote_count u c.write_xor.new.self c.write_xor.result _ c.write_xor.ensures in
    let b = xor_lines_few u.own (line_count u) c.at-p-in-Xor.result c.write-part-in-Xor.result in
    let room = xor_room c.args.self.now.own c.args.h c.in-Xor.v (omega arith) c.in-Xor.ensures.first in
    grind (arith, c.cofactor-in-Xor.ensures, c.write-part-in-Xor.ensures.few)

pub returns-in-Shannon-clause-few : goal.returns-in-Shannon-clause-few
returns-in-Shannon-clause-few t c =
    let high = shannon_room c.args.self.now.own c.args.h c.in-Shannon.v true (omega arith) c.in-Shannon.ensures.first in
    let low = shannon_room c.args.self.now.own c.args.h c.in-Shannon.v false (omega arith) c.in-Shannon.ensures.first in
    let a = wrote_count c.write-low.new.self c.write_shannon.new.self c.write_shannon.result _ c.write_shannon.ensures in
    grind (arith, c.cofactor-in-Shannon.ensures, c.cofactor-in-Shannon-2.ensures, c.write-high.ensures.few, c.write-low.ensures.few)

pub returns-in-Constant-clause-held : goal.returns-in-Constant-clause-held
returns-in-Constant-clause-held t c =
    let w = c.args.self.now in
    by_its_rule w w c.invert_if.result c.args.h (Constant c.in-Constant.b) c.in-Constant.ensures.rule
    (λ j l. no_line w c.invert_if.result (invert_if c.in-Constant.b constant_false) c.invert_if.ensures)

pub returns-in-Single-clause-held : goal.returns-in-Single-clause-held
returns-in-Single-clause-held t c =
    let w = c.args.self.now in
    by_its_rule w w c.invert_if-in-Single.result c.args.h (Single c.in-Single.v c.in-Single.inverse) c.in-Single.ensures.rule
    (λ j l. no_line w c.invert_if-in-Single.result (invert_if c.in-Single.inverse (at w.inputs c.in-Single.v))
    (c.invert_if-in-Single.ensures ∙ ap (invert_if c.in-Single.inverse) c.at.ensures))

pub returns-in-OneLine-clause-held : goal.returns-in-OneLine-clause-held
returns-in-OneLine-clause-held t c =
    let w = c.args.self.now in
    by_its_rule w c.push.new.self c.push.result c.args.h (OneLine c.in-OneLine.field-0) c.in-OneLine.ensures.rule
    (λ j l. subst (λ (k : Line). Wrote w c.push.new.self c.push.result (one_more (line_count w) [] k)) c.of_table.ensures c.push.ensures)

pub returns-in-Top-clause-held : goal.returns-in-Top-clause-held
returns-in-Top-clause-held t c =
    let w = c.args.self.now in
    let g = c.in-Top.gate in
    let v = c.in-Top.v in
    let s = c.in-Top.high in
    let part = c.write-part in
    let last = c.push-in-Top in
    by_its_rule w last.new.self last.result c.args.h (Top g v s) c.in-Top.ensures.rule
    (λ j l.
    let lt = (top_part w.own c.args.h g v s (omega arith) c.in-Top.ensures.first).falls in
    let x = write j w.own w.inputs (line_count w) (cofactor c.args.h v s) in
    let a : Wrote w part.new.self part.result x = part_wrote w part.new.self part.result c.cofactor.result (cofactor c.args.h v s) j c.cofactor.ensures (omega arith) part.ensures.held in
    followed w part.new.self last.new.self part.result last.result x (λ n ls. one_more n ls (top_of g s (at w.inputs v) x.result))
    (λ n ls. one_more-behind n ls (top_of g s (at w.inputs v) x.result)) a
    (subst (λ (k : Line). Wrote part.new.self last.new.self last.result (one_more (line_count part.new.self) [] k))
    (c.top_line.ensures ∙ ap₂ (top_of g s) c.at-p.ensures a.result) last.ensures))

pub returns-in-Xor-clause-held : goal.returns-in-Xor-clause-held
returns-in-Xor-clause-held t c =
    let w = c.args.self.now in
    let v = c.in-Xor.v in
    let part = c.write-part-in-Xor in
    let u = part.new.self in
    let last = c.write_xor in
    by_its_rule w last.new.self last.result c.args.h (Xor v) c.in-Xor.ensures.rule
    (λ j l.
    let lt = xor_falls w.own c.args.h v (omega arith) c.in-Xor.ensures.first in
    let x = write j w.own w.inputs (line_count w) (cofactor c.args.h v false) in
    let a : Wrote w u part.result x = part_wrote w u part.result c.cofactor-in-Xor.result (cofactor c.args.h v false) j c.cofactor-in-Xor.ensures (omega arith) part.ensures.held in
    followed w u last.new.self part.result last.result x (λ n ls. xor_lines w.own n ls (at w.inputs v) x.result)
    (λ n ls. xor_lines-behind w.own n ls (at w.inputs v) x.result) a
    (subst (Wrote u last.new.self last.result)
    (ap₂ (λ o (q : Literal). xor_lines o (line_count u) [] q part.result) a.own c.at-p-in-Xor.ensures
    ∙ ap (xor_lines w.own (line_count u) [] (at w.inputs v)) a.result) last.ensures))

pub returns-in-Shannon-clause-held : goal.returns-in-Shannon-clause-held
returns-in-Shannon-clause-held t c =
    let w = c.args.self.now in
    let v = c.in-Shannon.v in
    let h = c.args.h in
    let high = c.write-high in
    let low = c.write-low in
    let last = c.write_shannon in
    by_its_rule w last.new.self last.result h (Shannon v) c.in-Shannon.ensures.rule
    (λ j l.
    let lt = shannon_falls w.own h v true (omega arith) c.in-Shannon.ensures.first in
    let less = shannon_falls w.own h v false (omega arith) c.in-Shannon.ensures.first in
    let x = write j w.own w.inputs (line_count w) (cofactor h v true) in
    let a : Wrote w high.new.self high.result x =
    part_wrote w high.new.self high.result c.cofactor-in-Shannon.result (cofactor h v true) j c.cofactor-in-Shannon.ensures (omega arith) high.ensures.held in
    let y = write j w.own w.inputs (line_count w + length x.lines) (cofactor h v false) in
    let b : Wrote w low.new.self low.result (behind x.lines y) =
    next_part_wrote w high.new.self low.new.self high.result low.result x c.cofactor-in-Shannon-2.result (cofactor h v false) j a c.cofactor-in-Shannon-2.ensures (omega arith) low.ensures.held in
    let q = at w.inputs v in
    followed w low.new.self last.new.self low.result last.result (behind x.lines y) (λ n ls. shannon_lines n ls q x.result y.result)
    (λ n ls. either-behind n ls (and_of q x.result) (and_of (invert_if true q) y.result)) b
    (subst (Wrote low.new.self last.new.self last.result)
    (ap₂ (λ (p' q' : Literal). shannon_lines (line_count low.new.self) [] p' q' low.result) c.at-p-in-Shannon.ensures a.result
    ∙ ap (shannon_lines (line_count low.new.self) [] q x.result) b.result) last.ensures))
