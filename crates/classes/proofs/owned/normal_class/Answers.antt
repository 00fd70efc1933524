use Rattle.std.proofs.Common.{◌≡◌, Some, None, sym, ap, ◌∙◌, arith, rules}
use Rattle.classes.specs.declared.owned.NamedClass.TheVariants.{Conjunction, ExclusiveOr, Majority}
use Rattle.classes.specs.Normal.{normal_class, owns_named}
use Rattle.classes.proofs.Normal.{owns-normal}
use Rattle.classes.proofs.owned.normal_class.Goals as goal

pub returns-in-34952 : goal.returns-in-34952
returns-in-34952 c =
    let e : Some Conjunction ≡ normal_class c.args.f = search rules in
    record { class = e; owned = λ own n. owns-normal own c.args.f (omega arith) n ∙ ap (owns_named own) (sym e) }

pub returns-in-26214 : goal.returns-in-26214
returns-in-26214 c =
    let e : Some ExclusiveOr ≡ normal_class c.args.f = search rules in
    record { class = e; owned = λ own n. owns-normal own c.args.f (omega arith) n ∙ ap (owns_named own) (sym e) }

pub returns-in-59624 : goal.returns-in-59624
returns-in-59624 c =
    let e : Some Majority ≡ normal_class c.args.f = search rules in
    record { class = e; owned = λ own n. owns-normal own c.args.f (omega arith) n ∙ ap (owns_named own) (sym e) }

pub returns-in_default : goal.returns-in_default
returns-in_default c =
    let e : None ≡ normal_class c.args.f = search rules in
    record { class = e; owned = λ own n. owns-normal own c.args.f (omega arith) n ∙ ap (owns_named own) (sym e) }
