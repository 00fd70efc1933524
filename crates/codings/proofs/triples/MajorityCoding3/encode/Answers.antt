use Rattle.std.proofs.Common.{ap, ◌∙◌}
use Rattle.codings.specs.Codes.{majority_tables, near_decode}
use Rattle.codings.specs.Laws.{majority_lawful}
use Rattle.codings.proofs.triples.MajorityCoding3.encode.Goals as goal

pub returns-clause-back : goal.returns-clause-back
returns-clause-back c = λ h. ap (near_decode majority_tables) c.encode.ensures ∙ majority_lawful.back c.args.row h
