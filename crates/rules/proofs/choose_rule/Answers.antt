use Rattle.std.proofs.Common.{◌≡◌, arith, rules}
use Rattle.rules.specs.Rules.{rule_of}
use Rattle.rules.proofs.Firsts.{chosen_first, first_only, first_writes}
use Rattle.rules.proofs.choose_rule.Goals as goal

pub returns-in-Some : goal.returns-in-Some
returns-in-Some c =
    let own = c.args.own in
    let h = c.args.h in
    let e : c.in-Some.rule ≡ rule_of own h = search rules in
    let a = chosen_first own h _ (omega arith) e in
    record { rule = e; first = a; only = λ s b. first_only own h (omega arith) _ s a b; fits = first_writes own h _ (omega arith) a }

pub returns-in-None : goal.returns-in-None
returns-in-None c =
    let own = c.args.own in
    let h = c.args.h in
    let e : c.rule_with_parts.result ≡ rule_of own h = search rules in
    let a = chosen_first own h _ (omega arith) e in
    record { rule = e; first = a; only = λ s b. first_only own h (omega arith) _ s a b; fits = first_writes own h _ (omega arith) a }
