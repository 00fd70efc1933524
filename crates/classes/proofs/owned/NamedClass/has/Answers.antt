use Rattle.std.proofs.Common.{List, ℕ, eqb, Decides, subst, ◌∙◌, arith}
use Rattle.std.specs.List.{ContainsAt}
use Rattle.std.proofs.lemmas.List.Elements.{contains_decides}
use Rattle.std.proofs.lemmas.Bool.Decides.{Decides-eqb}
use Rattle.classes.specs.Owned.{class_number}
use Rattle.classes.specs.Members.{tables_of}
use Rattle.classes.proofs.Members.{contained, members}
use Rattle.classes.proofs.owned.NamedClass.has.Goals as goal

pub returns : goal.returns
returns c =
    let f = c.args.f in
    let tables = c.tables.result.now in
    let found = contains_decides eqb Decides-eqb tables f c.contains.result c.contains.ensures.cases in
    contained (tables_of (class_number c.args.self)) f c.contains.result (subst (λ (ts : List ℕ). Decides c.contains.result (ContainsAt ts f)) c.tables.ensures found)
    ∙ members c.args.self f (omega arith)
