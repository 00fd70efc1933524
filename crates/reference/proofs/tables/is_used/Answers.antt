use Rattle.std.proofs.Common.{refl, ◌∙◌, rules, tests}
use Rattle.std.proofs.lemmas.Iterator.{YieldsList-from_range}
use Rattle.std.proofs.lemmas.Iterator.Search.{any_from_yields_List}
use Rattle.reference.proofs.Bits.{differs, used}
use Rattle.reference.proofs.tables.is_used.Goals as goal

pub returns : goal.returns
returns c =
    any_from_yields_List (differs c.args.f c.args.v) _ _ _ c.any.ensures.ran (YieldsList-from_range 0 16 16 refl refl) (λ x b q k. search (rules, tests))
    ∙ used c.args.f c.args.v
